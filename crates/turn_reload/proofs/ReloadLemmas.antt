-- Reloading, put together.
use Rattle.std.proofs.Common.{◌≡◌, ◌+◌, ◌≤◌, Bool, List, [], ◌∷◌, ◌++◌, length, Option, None, Some, Result, Ok, Err, true, false, refl, sym, ap, ◌∙◌, subst, inl, inr, ⊎_elim, ◌⊎◌, IsOk, IsErr, is_some, true≢false, length-append, arith}
use Rattle.std.specs.Prelude.{IsErrOf, IsTrue, IsSomeAnd}
use Rattle.std.specs.List.{AllByRecursion}
use Rattle.account_machine.specs.Step.{reload_of}
use Rattle.account_machine.specs.declared.entry.Told.{Told}
use Rattle.account_machine.specs.declared.entry.Told.TheVariants as told_as
use Rattle.account_machine.specs.declared.user.Durable.{Durable}
use Rattle.account_machine.specs.declared.user.User.{User}
use Rattle.record_names.specs.Names.{is_account_name}
use Rattle.share_api.specs.Conditions.{IsOf}
use Rattle.share_api.specs.Contents.{Bytes, Contents}
use Rattle.share_api.specs.Folds.{Fold, Throughout}
use Rattle.share_api.specs.Seen.{ShareSeen}
use Rattle.share_api.specs.Steps.{Does}
use Rattle.share_api.specs.declared.step.Op.{Op}
use Rattle.share_api.specs.declared.step.Op.TheVariants.{Do}
use Rattle.share_api.specs.declared.step.Step.{Step}
use Rattle.share_api.specs.declared.step.Write.TheVariants.{Put}
use Rattle.share_api.proofs.RunLaws.{failed_either}
use Rattle.share_api.proofs.FoldLaws.{fold_split, throughout_append, throughout_end}
use Rattle.stored_home.specs.Holds.{Keys, HoldsUnder}
use Rattle.stored_home.specs.Loaded.{IsKept}
use Rattle.stored_home.specs.declared.fault.StoreFault.{StoreFault}
use Rattle.stored_home.specs.declared.fault.StoreFault.TheVariants as faults
use Rattle.stored_home.specs.declared.stored.Stored.{Stored}
use Rattle.stored_home.proofs.MapLemmas.{from_some}
use Rattle.home_recovery.specs.Parts.{Serves}
use Rattle.home_recovery.specs.Damage.{IsDamaged}
use Rattle.home_recovery.specs.Reading.{RunsOver, Reads, IsReadOp, AreReads}
use Rattle.home_recovery.specs.Recovers.{Recovers, IsTidying, AreTidying, listed_first}
use Rattle.home_recovery.specs.Told.{lost_tree, IsStepFault}
use Rattle.home_recovery.proofs.CallLemmas.{same_fault}
use Rattle.home_recovery.proofs.FewerLemmas.{HasFewer, fewer_tidying, fewer_reads}
use Rattle.home_recovery.proofs.HomeLemmas.{loss_is}
use Rattle.home_recovery.proofs.KeptLemmas.{reads_hold}
use Rattle.home_recovery.proofs.ReadLemmas.{over_then, reads_stay}
use Rattle.user_state.specs.Fits.{Fits, StandsBy, IsUnsettled, is_lost}
use Rattle.user_state.specs.Sound.{IsTellable}
use Rattle.user_state.specs.Turns.{KeepsAccount}
use Rattle.user_state.specs.declared.state.Doubt.{Doubt}
use Rattle.user_state.specs.declared.state.Doubt.TheVariants.{Editions, File as OfFile, Leaf as OfLeaf}
use Rattle.user_state.specs.declared.state.UserState.{UserState}
use Rattle.turn_reload.specs.Evidence.{CanTell, Says}
use Rattle.turn_reload.specs.Reloads.{settled_with, IsUnsettledOver, IsReloaded, PutsNone, Reloads}
use Rattle.turn_reload.proofs.EvidenceLemmas.{first_of, second_of, tells_fewer}

-- ---- lists of steps

listed_append : (steps more : List Step) → (steps ≡ [] → ⊥) → listed_first (steps ++ more) ≡ listed_first steps
listed_append [] more some = absurd (some refl)
listed_append (step ∷ steps) more some = refl

none_of_both : (steps more : List Step) → steps ++ more ≡ [] → steps ≡ []
none_of_both [] more e = refl
none_of_both (step ∷ steps) more e = absurd (let n = ap length e in omega (arith, n))

-- the one fault as an answer of two kinds
err_as : {A B : Type 0} (e f : StoreFault) → ◌≡◌ {A = Result A StoreFault} (Err e) (Err f) → ◌≡◌ {A = Result B StoreFault} (Err e) (Err f)
err_as e f same = ap Err (same_fault e f same)

told_no_fault : (told : Told) (f : StoreFault) → ◌≡◌ {A = Result Told StoreFault} (Ok told) (Err f) → ⊥
told_no_fault told f e = cc

err_no_ok : (f : StoreFault) → IsOk {T = Told} {E = StoreFault} (Err f) → ⊥
err_no_ok f o = true≢false (sym o)

ok_no_err : (told : Told) → IsErr {T = Told} {E = StoreFault} (Ok told) → ⊥
ok_no_err told e = true≢false (sym e)

step_undamaged : (fault : StoreFault) (name : Bytes) → IsStepFault fault → fault ≡ faults.Damaged name → ⊥
step_undamaged fault name only e = subst IsStepFault e only

-- ---- nothing is put

no_put_read : (op : Op) (name bytes : Bytes) → IsReadOp op → op ≡ Do (Put name bytes) → ⊥
no_put_read op name bytes reads e = subst IsReadOp e reads

puts_read : (steps : List Step) → AreReads steps → AllByRecursion PutsNone steps
puts_read [] reads = tt
puts_read (step ∷ steps) reads =
    (λ name bytes e. no_put_read step.op name bytes reads.0 e, puts_read steps reads.1)

puts_tidying : (lost : Bool) (account : Bytes) (stored : Stored) (steps : List Step)
    → AreTidying lost account stored steps → AllByRecursion PutsNone steps
puts_tidying lost account stored [] tidying = tt
puts_tidying lost account stored (step ∷ steps) tidying =
    (λ name bytes e. subst (IsTidying lost account stored) e tidying.0, puts_tidying lost account stored steps tidying.1)

puts_append : (steps more : List Step) → AllByRecursion PutsNone steps → AllByRecursion PutsNone more
    → AllByRecursion PutsNone (steps ++ more)
puts_append [] more a b = b
puts_append (step ∷ steps) more a b = (a.0, puts_append steps more a.1 b)

puts_recovered : (old new : ShareSeen) (account : Bytes) (result : Result Stored StoreFault)
    → (rec : Recovers old new account result) → AllByRecursion PutsNone rec.steps
puts_recovered old new account result rec = ⊎_elim
    (λ reads. puts_read rec.steps reads)
    (λ t. puts_tidying (is_some old.lost) account t.stored rec.steps t.tidying)
    rec.removes

-- ---- what is asked for

-- a state whose doubt can be told has what telling it needs
pub can_tell : (before : UserState) (doubt : Doubt) (roots : Option (Bytes × Bytes)) → before.stored.lost ≡ lost_tree roots
    → before.doubt ≡ Some doubt → IsTellable before.doubt before → CanTell doubt before.account roots
can_tell before doubt roots lost is tellable = by doubt (subst (λ d. IsTellable d before) is tellable)
  where
    no_roots : (x : Option (Bytes × Bytes)) → lost_tree x ≡ None → x ≡ None
    no_roots None e = refl
    no_roots (Some x) e = absurd (true≢false (ap is_some e))

    by : (d : Doubt) → IsTellable (Some d) before → CanTell d before.account roots
    by Editions h = tt
    by (OfFile name bytes) h = h
    by (OfLeaf label tree view) h = no_roots roots (sym lost ∙ h)

-- what is so of the doubt that is there
pub of_doubt : (P : Doubt → Type 0) (o : Option Doubt) (doubt : Doubt) → o ≡ Some doubt → IsSomeAnd o P → P doubt
of_doubt P o doubt is h = subst (λ x. IsSomeAnd x P) is h

pub to_doubt : (P : Doubt → Type 0) (o : Option Doubt) (doubt : Doubt) → o ≡ Some doubt → P doubt → IsSomeAnd o P
to_doubt P o doubt is h = subst (λ x. IsSomeAnd x P) (sym is) h

module _ (old : ShareSeen) (before : UserState) (doubt : Doubt) (is : before.doubt ≡ Some doubt)
    (plain : IsTrue (is_account_name before.account)) (lost_is : before.stored.lost ≡ lost_tree old.lost) where
  same_lost : is_lost before ≡ is_some old.lost
  same_lost = loss_is old.lost before.stored.lost lost_is

  unsettled : (contents : Contents) (user : User) (keys : Keys) → Fits before contents user keys → IsUnsettled doubt before contents user
  unsettled contents user keys fits = subst (λ d. StandsBy d before contents user) is fits.stands

  -- the state is still the user's over fewer records
  fits_fewer : (contents c : Contents) (user : User) (keys : Keys) → HasFewer contents c → Fits before contents user keys → Fits before c user keys
  fits_fewer contents c user keys fewer fits =
      let u = unsettled contents user keys fits in
      let still : IsUnsettled doubt before c user =
      record { other = u.other; other_is = u.other_is; tells = tells_fewer before contents c user.durable u.other doubt fewer u.tells } in
      record {
        sessions = fits.sessions;
        next_session = fits.next_session;
        mounted = fits.mounted;
        last = fits.last;
        stands = subst (λ d. StandsBy d before c user) (sym is) still;
        has_keys = fits.has_keys;
      }

  -- what is held, as the share and as the state have it
  held_to : (c : Contents) (held : Durable) (keys : Keys) → HoldsUnder (is_lost before) c before.account held keys
      → HoldsUnder (is_some old.lost) c before.account held keys
  held_to c held keys h = subst (λ b. HoldsUnder b c before.account held keys) same_lost h

  held_from : (c : Contents) (held : Durable) (keys : Keys) → HoldsUnder (is_some old.lost) c before.account held keys
      → HoldsUnder (is_lost before) c before.account held keys
  held_from c held keys h = subst (λ b. HoldsUnder b c before.account held keys) (sym same_lost) h

  throughout_from : (contents : Contents) (steps : List Step) (held : Durable) (keys : Keys)
      → Throughout (Does old.era) (λ c. HoldsUnder (is_some old.lost) c before.account held keys) contents steps
      → Throughout (Does old.era) (λ c. HoldsUnder (is_lost before) c before.account held keys) contents steps
  throughout_from contents steps held keys h =
      subst (λ b. Throughout (Does old.era) (λ c. HoldsUnder b c before.account held keys) contents steps) (sym same_lost) h

  -- the state stays the user's over contents in which less is there and the same is held
  ends_unsettled : (contents c : Contents) (steps : List Step) (user : User) (held : Durable) (keys : Keys)
      → IsUnsettledOver before contents user held keys → HasFewer contents c
      → Throughout (Does old.era) (λ c. HoldsUnder (is_some old.lost) c before.account held keys) contents steps
      → Fold (Does old.era) contents steps c → IsUnsettledOver before c user held keys
  ends_unsettled contents c steps user held keys u fewer held_all fold = record {
    fits = fits_fewer contents c user keys fewer u.fits;
    which = u.which;
    holds = held_from c held keys
        (throughout_end (Does old.era) (λ c. HoldsUnder (is_some old.lost) c before.account held keys) contents c steps held_all fold);
  }

  kept_account : KeepsAccount before before
  kept_account = record { account = refl; cost = refl; lost = refl }

  module _ (mid : ShareSeen) (result : Result Stored StoreFault) (rec : Recovers old mid before.account result) where
    -- recovering makes no record
    fewer_recovered : (contents c : Contents) → Fold (Does old.era) contents rec.steps c → HasFewer contents c
    fewer_recovered contents c fold = ⊎_elim
        (λ reads. fewer_reads old.era rec.steps contents c reads fold)
        (λ t. fewer_tidying old.era (is_some old.lost) before.account t.stored rec.steps contents c t.tidying fold)
        rec.removes

  -- recovering ended with a fault
  pub reloads_fault : (new : ShareSeen) (fault : StoreFault) → Recovers old new before.account (Err fault) → Reloads old new before before (Err fault)
  reloads_fault new fault rec = record {
    steps = rec.steps;
    runs = rec.runs;
    few = let few = rec.few in omega (arith, few);
    spare = rec.spare;
    fails = λ e. rec.fails (err_as fault faults.Failed e);
    made = λ o. absurd (err_no_ok fault o);
    told = tt;
    settles = λ o. absurd (err_no_ok fault o);
    stays = λ _. refl;
    keeps = kept_account;
    sound = λ s. s;
    puts = puts_recovered old new before.account (Err fault) rec;
    damaged = λ name e contents c fold. subst (λ b. IsDamaged b c before.account name) (sym same_lost)
        ((rec.damaged name (err_as fault (faults.Damaged name) e)).1 contents c fold);
    right = λ contents user held keys u.
        let held_all = rec.kept contents held keys (held_to contents held keys u.holds) in
        record {
          throughout = throughout_from contents rec.steps held keys held_all;
          ends = λ c fold. ends_unsettled contents c rec.steps user held keys u (fewer_recovered new (Err fault) rec contents c fold) held_all fold;
          safe = λ name c fold e. rec.safe name (err_as fault (faults.Damaged name) e) contents c held keys fold (held_to contents held keys u.holds);
        };
  }

  module _ (mid new : ShareSeen) (stored : Stored) (rec : Recovers old mid before.account (Ok stored)) (ok failed : Type 0)
      (P : Contents → Type 0) (look : Reads mid new ok failed 1 P) where
    abbrev all_steps : List Step
    all_steps = rec.steps ++ look.steps

    some_steps : rec.steps ≡ [] → ⊥
    some_steps e = rec.made refl e

    runs_all : RunsOver old new all_steps
    runs_all = over_then old mid new rec.steps look.steps rec.runs look.runs

    few_all : length all_steps ≤ 68 + listed_first all_steps
    few_all =
        let few = rec.few in
        let one = look.few in
        let same = listed_append rec.steps look.steps some_steps in
        let sum = length-append rec.steps look.steps in
        omega (arith, few, one, same, sum)

    spare_all : old.spare ≤ new.spare + length all_steps
    spare_all =
        let one = rec.spare in
        let two = look.used in
        let sum = length-append rec.steps look.steps in
        omega (arith, one, two, sum)

    kept_now : (contents c : Contents) → Fold (Does old.era) contents rec.steps c → IsKept (is_some old.lost) c before.account stored
    kept_now contents c fold = (rec.loaded contents c fold).0

    -- after the look there are the same contents, and it tells of them
    looked : (contents c end : Contents) → Fold (Does old.era) contents rec.steps c → Fold (Does old.era) c look.steps end → (end ≡ c) × P c
    looked contents c end first later =
        let clear = (kept_now contents c first).clear in
        let stays = reads_stay old.era c end look.steps clear look.reads later in (
          stays,
          look.tells c clear (subst (λ era. Fold (Does era) c look.steps c) (sym rec.runs.era)
              (subst (λ x. Fold (Does old.era) c look.steps x) stays later)),
        )

    held_all : (contents : Contents) (held : Durable) (keys : Keys) → HoldsUnder (is_some old.lost) contents before.account held keys
        → Throughout (Does old.era) (λ c. HoldsUnder (is_some old.lost) c before.account held keys) contents all_steps
    held_all contents held keys h =
        let first = rec.kept contents held keys h in
        throughout_append (Does old.era) (λ c. HoldsUnder (is_some old.lost) c before.account held keys) contents rec.steps look.steps first
        (λ c fold. reads_hold old.era (is_some old.lost) before.account held keys c look.steps look.reads
        (throughout_end (Does old.era) (λ c. HoldsUnder (is_some old.lost) c before.account held keys) contents c rec.steps first fold))

    fewer_all : (contents end : Contents) → Fold (Does old.era) contents all_steps end → HasFewer contents end
    fewer_all contents end fold =
        let split = fold_split (Does old.era) contents end rec.steps look.steps fold in
        λ name bytes there. fewer_recovered mid (Ok stored) rec contents split.0 split.1 name bytes
        (fewer_reads old.era look.steps split.0 end look.reads split.2 name bytes there)

  -- what tells the two apart couldn't be read
  pub reloads_unread : (mid new : ShareSeen) (stored : Stored) (fault : StoreFault) → IsStepFault fault
      → (rec : Recovers old mid before.account (Ok stored)) (failed : Type 0) (P : Contents → Type 0)
      → (IsErrOf {T = Told} (Err fault) faults.Failed → failed)
      → Reads mid new (false ≡ true) failed 1 P
      → Reloads old new before before (Err fault)
  reloads_unread mid new stored fault only rec failed P fails look = record {
    steps = rec.steps ++ look.steps;
    runs = runs_all mid new stored rec (false ≡ true) failed P look;
    few = few_all mid new stored rec (false ≡ true) failed P look;
    spare = spare_all mid new stored rec (false ≡ true) failed P look;
    fails = λ e. failed_either rec.steps look.steps (inr (look.fails (fails e)));
    made = λ o. absurd (err_no_ok fault o);
    told = tt;
    settles = λ o. absurd (err_no_ok fault o);
    stays = λ _. refl;
    keeps = kept_account;
    sound = λ s. s;
    puts = puts_append rec.steps look.steps (puts_recovered old mid before.account (Ok stored) rec)
        (puts_read look.steps look.reads);
    damaged = λ name e contents c fold.
        absurd (step_undamaged fault name only (same_fault {A = Told} fault (faults.Damaged name) e));
    right = λ contents user held keys u.
        let all = held_all mid new stored rec (false ≡ true) failed P look contents held keys (held_to contents held keys u.holds) in
        record {
          throughout = throughout_from contents (rec.steps ++ look.steps) held keys all;
          ends = λ c fold. ends_unsettled contents c (rec.steps ++ look.steps) user held keys u
              (fewer_all mid new stored rec (false ≡ true) failed P look contents c fold) all fold;
          safe = λ name c fold e. step_undamaged fault name only (same_fault {A = Told} fault (faults.Damaged name) e);
        };
  }

  module _ (mid new : ShareSeen) (stored : Stored) (rec : Recovers old mid before.account (Ok stored)) (told : Told)
      (failed : Type 0) (look : Reads mid new (true ≡ true) failed 1 (Says doubt before.account before.stored.stash stored (Ok told)))
      (can : CanTell doubt before.account old.lost) where
    abbrev SaysIt : Contents → Type 0
    SaysIt = Says doubt before.account before.stored.stash stored (Ok told)

    after : UserState
    after = settled_with before stored

    now_lost : is_some stored.lost ≡ is_some old.lost
    now_lost = loss_is old.lost stored.lost rec.lost

    -- the durable part that was told is the one that is held
    abbrev ToldIs : Told → User → Durable → Type 0
    ToldIs told_as.Settled user held = ⊥
    ToldIs told_as.Before user held = held ≡ user.durable
    ToldIs told_as.After user held = user.other ≡ Some held
    ToldIs told_as.Failed user held = ⊥

    module _ (contents : Contents) (user : User) (held : Durable) (keys : Keys) (u : IsUnsettledOver before contents user held keys)
        (c : Contents) (fold : Fold (Does old.era) contents rec.steps c) where
      stands : IsUnsettled doubt before contents user
      stands = unsettled contents user keys u.fits

      held_now : HoldsUnder (is_some old.lost) c before.account held keys
      held_now = throughout_end (Does old.era) (λ c. HoldsUnder (is_some old.lost) c before.account held keys) contents c rec.steps
          (rec.kept contents held keys (held_to contents held keys u.holds)) fold

      kept_c : IsKept (is_some old.lost) c before.account stored
      kept_c = (rec.loaded contents c fold).0

      fewer_c : HasFewer contents c
      fewer_c = fewer_recovered mid (Ok stored) rec contents c fold

      is_told : (t : Told) → Says doubt before.account before.stored.stash stored (Ok t) c → ToldIs t user held
      is_told told_as.Settled says = says
      is_told told_as.Failed says = says
      is_told told_as.Before says = ⊎_elim (λ e. e)
          (λ e.
          let same : held ≡ stands.other = from_some held stands.other (sym e ∙ stands.other_is) in
          same ∙ sym (first_of (is_some old.lost) before plain contents c kept_c.clear fewer_c user.durable stands.other keys u.fits.has_keys stored kept_c
          old.lost refl doubt can stands.tells
          (subst (λ (d : Durable). HoldsUnder (is_some old.lost) c before.account d keys) same held_now) says))
          u.which
      is_told told_as.After says = ⊎_elim
          (λ e.
          let same = second_of (is_some old.lost) before plain contents c kept_c.clear fewer_c user.durable stands.other keys u.fits.has_keys stored kept_c
          old.lost refl doubt can stands.tells
          (subst (λ (d : Durable). HoldsUnder (is_some old.lost) c before.account d keys) e held_now) says in
          stands.other_is ∙ ap (λ (d : Durable). Some d) (sym (e ∙ same)))
          (λ e. e)
          u.which

      next : User
      next = record user { durable = held; other = None }

      reloaded : (t : Told) → ToldIs t user held → reload_of user t user.other ≡ Some next
      unfolding next
      reloaded told_as.Settled is_it = absurd is_it
      reloaded told_as.Failed is_it = absurd is_it
      reloaded told_as.Before is_it =
          ap (reload_of user told_as.Before) stands.other_is ∙ (λ i. Some (record user { durable = sym is_it i; other = None }))
      reloaded told_as.After is_it = ap (reload_of user told_as.After) is_it

      ends_told : SaysIt c → IsReloaded after user held keys told c
      unfolding next after
      ends_told says = record {
        next = next;
        reloaded = reloaded told (is_told told says);
        durable = refl;
        fits = record {
          sessions = u.fits.sessions;
          next_session = u.fits.next_session;
          mounted = u.fits.mounted;
          last = u.fits.last;
          stands = record {
            none = refl;
            kept = subst (λ b. IsKept b c before.account stored) (sym now_lost) kept_c;
            files = rec.coherent.files;
          };
          has_keys = record { proved = u.fits.has_keys.proved; mount = u.fits.has_keys.mount };
        };
        holds = subst (λ b. HoldsUnder b c before.account held keys) (sym now_lost) held_now;
      }

    told_either : (t : Told) (c : Contents) → Says doubt before.account before.stored.stash stored (Ok t) c → (t ≡ told_as.Before) ⊎ (t ≡ told_as.After)
    told_either told_as.Settled c says = absurd says
    told_either told_as.Failed c says = absurd says
    told_either told_as.Before c says = inl refl
    told_either told_as.After c says = inr refl

    -- the account is settled
    pub reloads_told : (told ≡ told_as.Before) ⊎ (told ≡ told_as.After) → Reloads old new before (settled_with before stored) (Ok told)
    unfolding after
    reloads_told either = record {
      steps = rec.steps ++ look.steps;
      runs = runs_all mid new stored rec (true ≡ true) failed SaysIt look;
      few = few_all mid new stored rec (true ≡ true) failed SaysIt look;
      spare = spare_all mid new stored rec (true ≡ true) failed SaysIt look;
      fails = λ e. absurd (told_no_fault told faults.Failed e);
      made = λ o e. rec.made refl (none_of_both rec.steps look.steps e);
      told = either;
      settles = λ o. refl;
      stays = λ e. absurd (ok_no_err told e);
      keeps = record { account = refl; cost = refl; lost = rec.lost ∙ sym lost_is };
      sound = λ s. record { coherent = rec.coherent; least = s.least; most = s.most; keyed = s.keyed };
      puts = puts_append rec.steps look.steps (puts_recovered old mid before.account (Ok stored) rec)
          (puts_read look.steps look.reads);
      damaged = λ name e contents c fold. absurd (told_no_fault told (faults.Damaged name) e);
      right = λ contents user held keys u.
          let all = held_all mid new stored rec (true ≡ true) failed SaysIt look contents held keys (held_to contents held keys u.holds) in
          record {
            throughout = throughout_from contents (rec.steps ++ look.steps) held keys all;
            ends = λ end fold.
                let split = fold_split (Does old.era) contents end rec.steps look.steps fold in
                let l = looked mid new stored rec (true ≡ true) failed SaysIt look contents split.0 end split.1 split.2 in
                subst (λ c. IsReloaded (settled_with before stored) user held keys told c) (sym l.0)
                (ends_told contents user held keys u split.0 split.1 l.1);
            safe = λ name c fold e. told_no_fault told (faults.Damaged name) e;
          };
    }

-- the share serves the account once it is recovered
pub serves_recovered : (old mid : ShareSeen) (account : Bytes) (stored : Stored) → Recovers old mid account (Ok stored)
    → IsTrue (is_account_name account) → IsOf old.owner account → Serves account mid
serves_recovered old mid account stored rec plain own =
    record { plain = plain; own = subst (λ o. IsOf o account) (sym rec.runs.owner) own }
