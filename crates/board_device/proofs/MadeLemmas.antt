-- What a device did in a step.
use Rattle.std.proofs.Common.{◌≡◌, ◌≢◌, inl, inr, ⊎_elim, ℕ, ◌+◌, ◌-◌, ◌^◌, ◌≤◌, List, [], ◌∷◌, ◌++◌, refl, sym}
use Rattle.std.proofs.Common.{ap, ◌∙◌, subst, None, Some, map, Result, arith}
use Rattle.std.specs.Prelude.{min}
use Rattle.fault_count.specs.Causes.{HasCause}
use Rattle.board_model.specs.Disk.{Disk}
use Rattle.board_model.proofs.Effects.{leaves_weaker, follows_weaker}
use Rattle.cabinet.specs.Edits.{Edits}
use Rattle.pw_types.specs.declared.era.Era.{Era}
use Rattle.share_api.specs.Contents.{Bytes, Contents, settled}
use Rattle.share_api.specs.Steps.{Does, Leads}
use Rattle.share_api.specs.declared.fault.ShareFault.{ShareFault}
use Rattle.share_api.specs.declared.step.Op.{Op}
use Rattle.share_api.specs.declared.step.Op.TheVariants.{Names, Get, Do, InsertLeaf, TryLeaf, ResetLeaf, LookLeaf}
use Rattle.share_api.specs.declared.step.Reply.{Reply}
use Rattle.share_api.specs.declared.step.Reply.TheVariants.{Done, Found, Listed, Labelled, Tried, Fits, Viewed}
use Rattle.share_api.specs.declared.step.Reply.TheVariants.{TreeLost, Damaged, Failed, NoMemory}
use Rattle.share_api.specs.declared.step.Step.{Step}
use Rattle.image_path.specs.Showing.{ByAccount, Makes, MakesOrNot, Shown, IsLawful}
use Rattle.platform_core.specs.Asked.{IsOwn, edits_of}
use Rattle.platform_core.specs.Held as held
use Rattle.platform_core.specs.Held.{memory_of, is_unsettled}
use Rattle.platform_core.specs.Records.{account_at, AreDistinct, Shows}
use Rattle.platform_core.specs.Standing.{IsRight, IsIdle, AccountsGo, ChainStands, number_of}
use Rattle.platform_core.specs.declared.platform.Platform.{Platform}
use Rattle.platform_core.proofs.ChainLemmas.{chain_idle, chain_step}
use Rattle.platform_lock.specs.Answers.{IsAnswerTo}
use Rattle.platform_lock.specs.declared.answer.Answer.{Answer}
use Rattle.board_device.specs.Device.{platform_of, board_of, accounts_of, era_of, refused_of}
use Rattle.board_device.specs.Idle.{IsRead, IsOrForgets}
use Rattle.board_device.specs.Standing.{StandsTo, Made}
use Rattle.board_device.specs.declared.device.BoardDevice.{BoardDevice}

-- ---- counts of faults

-- one of two counts rose, or none
pub cause_left : (a b r : ℕ) (F : Type 0) → HasCause a b F → HasCause (a + r) (b + r) F
cause_left a b r F h = record {
  later = omega (arith, h.later);
  rose = λ f. let up : min (a + 1) (2 ^ 64 - 1) ≤ b = h.rose f in omega (arith, up);
  kept = λ n. ap (λ (x : ℕ). x + r) (h.kept n);
}

pub cause_right : (a r s : ℕ) (F : Type 0) → HasCause r s F → HasCause (a + r) (a + s) F
cause_right a r s F h = record {
  later = omega (arith, h.later);
  rose = λ f. let up : min (r + 1) (2 ^ 64 - 1) ≤ s = h.rose f in omega (arith, up);
  kept = λ n. ap (λ (x : ℕ). a + x) (h.kept n);
}

-- ---- steps that read

-- whatever a step that reads replies, the contents stay
read_leads : (era : Era) (moment : ℕ) (op : Op) (reply : Reply) (old new : Contents) → IsRead op
    → Leads era moment op reply old new → new ≡ old
read_leads era moment Names Done old new is h = h.1
read_leads era moment Names (Found x) old new is h = h.1
read_leads era moment Names (Listed x) old new is h = h.1
read_leads era moment Names (Labelled x) old new is h = h.1
read_leads era moment Names (Tried x) old new is h = h.1
read_leads era moment Names (Fits x) old new is h = h.1
read_leads era moment Names (Viewed x) old new is h = h.1
read_leads era moment Names TreeLost old new is h = h
read_leads era moment Names Damaged old new is h = h
read_leads era moment Names Failed old new is h = h
read_leads era moment Names NoMemory old new is h = h
read_leads era moment (Get name) Done old new is h = h.1
read_leads era moment (Get name) (Found x) old new is h = h.1
read_leads era moment (Get name) (Listed x) old new is h = h.1
read_leads era moment (Get name) (Labelled x) old new is h = h.1
read_leads era moment (Get name) (Tried x) old new is h = h.1
read_leads era moment (Get name) (Fits x) old new is h = h.1
read_leads era moment (Get name) (Viewed x) old new is h = h.1
read_leads era moment (Get name) TreeLost old new is h = h
read_leads era moment (Get name) Damaged old new is h = h
read_leads era moment (Get name) Failed old new is h = h
read_leads era moment (Get name) NoMemory old new is h = h
read_leads era moment (Do write) reply old new is h = absurd is
read_leads era moment (InsertLeaf leaf) reply old new is h = absurd is
read_leads era moment (TryLeaf label les) reply old new is h = absurd is
read_leads era moment (ResetLeaf label secret) reply old new is h = absurd is
read_leads era moment (LookLeaf label) reply old new is h = absurd is

abbrev forgotten : Step → Step
forgotten made = record made { reply = NoMemory }

module _ (era : Era) (accounts : List Bytes) (a b : Disk) (made : Step) (is : IsRead made.op) where
  forgets : (old new : ByAccount Contents) → Makes number_of (Does era) made old new
      → Makes number_of (Does era) (forgotten made) old new
  forgets old new h = record {
    own = read_leads era made.moment made.op made.reply (settled (old (number_of made)))
        (new (number_of made)) is h.own;
    others = h.others;
  }

  -- a step that read goes on as one for which there was no memory
  forgets_goes : AccountsGo era accounts a b made → AccountsGo era accounts a b (forgotten made)
  forgets_goes h = record {
    moments = leaves_weaker a b (Shown (Shows accounts) (MakesOrNot number_of (Does era) made))
        (Shown (Shows accounts) (MakesOrNot number_of (Does era) (forgotten made)))
        (λ d i s parts shows. let to = s parts shows in (
          to.0,
          to.1,
          ⊎_elim inl
              (λ makes. inr (forgets parts to.0 makes)) to.2,
        )) h.moments;
    ended = follows_weaker (Shown (Shows accounts) (Makes number_of (Does era) made))
        (Shown (Shows accounts) (Makes number_of (Does era) (forgotten made))) a.may_leave b.may_leave
        (λ d i s parts shows. let to = s parts shows in (to.0, to.1, forgets parts to.0 to.2)) h.ended;
  }

-- ---- the device

module _ {B : Type 0} (disk_of : B → Disk) (faults_of : B → ℕ) (old new : BoardDevice B) (account moment : ℕ)
    (op : Op) where
  -- a step of which the platform knows nothing
  pub made_idle : (answer : Result Answer ShareFault) (reply : Reply)
      → platform_of new ≡ platform_of old → era_of new ≡ era_of old → IsLawful (disk_of (board_of old))
      → ((era : Era) → IsIdle era (record { account = account; moment = moment; op = op; reply = reply }))
      → IsAnswerTo None op answer reply
      → HasCause (refused_of old) (refused_of new) (reply ≡ Failed)
      → Made disk_of faults_of old new account moment op answer (record
      { account = account; moment = moment; op = op; reply = reply })
  made_idle answer reply same era laws idle answers cause = record {
    asked = refl;
    answers = answers;
    stands = λ first chain s. record {
      accounts = ap held.accounts_of same ∙ s.accounts;
      era = era ∙ s.era;
      platform = subst
          (λ (p : Platform B). ChainStands (era_of first) (accounts_of first) (disk_of (board_of first))
          (memory_of (platform_of first))
          (disk_of (held.board_of p)) (memory_of p) (is_unsettled p) (chain ++ record
          { account = account; moment = moment; op = op; reply = reply } ∷ []))
          (sym same)
          (chain_idle (era_of first) (accounts_of first) (disk_of (board_of first)) (disk_of (board_of old))
          (memory_of (platform_of first))
          (memory_of (platform_of old)) (is_unsettled (platform_of old)) _ chain laws (idle (era_of first)) s.platform);
    };
    same = record {
      owners = ap (λ (p : Platform B). map (λ (x : Bytes). Some x) (held.accounts_of p)) same;
      era = era;
      lost = refl;
    };
    cause = subst (λ (n : ℕ). HasCause (faults_of (board_of old) + refused_of old) (n + refused_of new)
        (reply ≡ Failed))
        (ap (λ (p : Platform B). faults_of (held.board_of p)) (sym same))
        (cause_right (faults_of (board_of old)) (refused_of old) (refused_of new) (reply ≡ Failed) cause);
  }

  -- a step that the platform made, and that reads for all accounts' contents as it was made or as one without memory
  module _ (made : Step)
      (asked : made ≡ record { account = account; moment = moment; op = op; reply = made.reply })
      (accounts : accounts_of new ≡ accounts_of old) (era : era_of new ≡ era_of old)
      (refused : refused_of new ≡ refused_of old)
      (distinct : AreDistinct (accounts_of old))
      (laws : IsLawful (disk_of (board_of old))) (later : IsLawful (disk_of (board_of new)))
      (own : IsOwn (account_at (accounts_of old) account) op)
      (edits : Edits (disk_of (board_of old)) (disk_of (board_of new)) (edits_of op) (made.reply ≢ Failed))
      (right : IsRight (disk_of (board_of old)) (memory_of (platform_of old)) (is_unsettled (platform_of old))
      → IsRight (disk_of (board_of new)) (memory_of (platform_of new)) (is_unsettled (platform_of new)))
      (goes : (e : Era) → IsRight (disk_of (board_of old)) (memory_of (platform_of old))
      (is_unsettled (platform_of old))
      → AccountsGo e (accounts_of old) (disk_of (board_of old)) (disk_of (board_of new)) made)
      (chains : (e : Era) (first : Platform B) (chain : List Step)
      → ChainStands e (accounts_of old) (disk_of (held.board_of first)) (memory_of first) (disk_of (board_of old))
      (memory_of (platform_of old)) (is_unsettled (platform_of old)) chain
      → ChainStands e (accounts_of old) (disk_of (held.board_of first)) (memory_of first) (disk_of (board_of new))
      (memory_of (platform_of new)) (is_unsettled (platform_of new)) (chain ++ made ∷ [])) where
    abbrev Stands : BoardDevice B → Step → List Step → Type 0
    Stands first step chain = ChainStands (era_of first) (accounts_of first) (disk_of (board_of first))
        (memory_of (platform_of first))
        (disk_of (board_of new)) (memory_of (platform_of new)) (is_unsettled (platform_of new)) (chain ++ step ∷ [])

    -- over the accounts as they are now
    abbrev Before : BoardDevice B → List Bytes → List Step → Type 0
    Before first names chain = ChainStands (era_of first) names (disk_of (board_of first))
        (memory_of (platform_of first))
        (disk_of (board_of old)) (memory_of (platform_of old)) (is_unsettled (platform_of old)) chain

    as_made : (first : BoardDevice B) (chain : List Step) → StandsTo disk_of first old chain → Stands first made chain
    as_made first chain s =
        subst (λ (names : List Bytes). ChainStands (era_of first) names (disk_of (board_of first))
        (memory_of (platform_of first))
        (disk_of (board_of new)) (memory_of (platform_of new)) (is_unsettled (platform_of new)) (chain ++ made ∷ []))
        s.accounts
        (chains (era_of first) (platform_of first) chain (subst (λ (names : List Bytes). Before first names chain)
        (sym s.accounts) s.platform))

    as_forgotten : (first : BoardDevice B) (chain : List Step) → IsRead made.op → StandsTo disk_of first old chain
        → Stands first (forgotten made) chain
    as_forgotten first chain read s =
        subst (λ (names : List Bytes). ChainStands (era_of first) names (disk_of (board_of first))
        (memory_of (platform_of first))
        (disk_of (board_of new)) (memory_of (platform_of new)) (is_unsettled (platform_of new))
        (chain ++ forgotten made ∷ []))
        s.accounts
        (chain_step (era_of first) (accounts_of old) distinct (disk_of (board_of first)) (disk_of (board_of old))
        (disk_of (board_of new))
        (memory_of (platform_of first)) (memory_of (platform_of old)) (memory_of (platform_of new))
        (is_unsettled (platform_of old)) (is_unsettled (platform_of new)) (forgotten made) chain laws later
        (subst (λ (s : Step). IsOwn (account_at (accounts_of old) (number_of s)) s.op) (sym asked) own)
        (subst (λ (s : Step). Edits (disk_of (board_of old)) (disk_of (board_of new)) (edits_of s.op)
        (made.reply ≢ Failed)) (sym asked) edits).any_moment
        right
        (λ is. forgets_goes (era_of first) (accounts_of old) (disk_of (board_of old)) (disk_of (board_of new)) made read
        (goes (era_of first) is))
        (subst (λ (names : List Bytes). Before first names chain) (sym s.accounts) s.platform))

    pub made_record : (answer : Result Answer ShareFault) (step : Step)
        → IsOrForgets made step
        → IsAnswerTo None made.op answer step.reply
        → HasCause (faults_of (board_of old)) (faults_of (board_of new)) (step.reply ≡ Failed)
        → Made disk_of faults_of old new account moment op answer step
    made_record answer step is answers cause = record {
      asked = ⊎_elim
          (λ e. e ∙ asked ∙ ap with_reply (sym (ap (λ (s : Step). s.reply) e)))
          (λ h. h.2 ∙ ap forgotten asked ∙ ap with_reply (sym (ap (λ (s : Step). s.reply) h.2))) is;
      answers = subst (λ (o : Op). IsAnswerTo None o answer step.reply) (ap (λ (s : Step). s.op) asked) answers;
      stands = λ first chain s. record {
        accounts = accounts ∙ s.accounts;
        era = era ∙ s.era;
        platform = ⊎_elim
            (λ e. subst (λ (x : Step). Stands first x chain) (sym e) (as_made first chain s))
            (λ h. subst (λ (x : Step). Stands first x chain) (sym h.2) (as_forgotten first chain h.0 s)) is;
      };
      same = record { owners = ap (map (λ (x : Bytes). Some x)) accounts; era = era; lost = refl };
      cause = subst (λ (n : ℕ). HasCause (faults_of (board_of old) + refused_of old) (faults_of (board_of new) + n)
          (step.reply ≡ Failed)) (sym refused)
          (cause_left (faults_of (board_of old)) (faults_of (board_of new)) (refused_of old)
          (step.reply ≡ Failed) cause);
    }
      where
        with_reply : Reply → Step
        with_reply reply = record { account = account; moment = moment; op = op; reply = reply }

memory_isnt_failed : ◌≡◌ {A = Reply} NoMemory Failed → ⊥
memory_isnt_failed e = cc

-- the reply of a step fails exactly where the made one's does
pub fails_as_made : (a b : ℕ) (made step : Step) → IsOrForgets made step → HasCause a b (made.reply ≡ Failed)
    → HasCause a b (step.reply ≡ Failed)
fails_as_made a b made step is h =
    ⊎_elim
    (λ e. subst (λ (s : Step). HasCause a b (s.reply ≡ Failed)) (sym e) h)
    (λ f. record {
      later = h.later;
      rose = λ failed. absurd (memory_isnt_failed (sym (ap (λ (s : Step). s.reply) f.2) ∙ failed));
      kept = λ calm. h.kept f.1;
    })
    is
