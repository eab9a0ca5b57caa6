-- What a step's own work does to the contents that images show.
use Rattle.std.proofs.Common.{◌≡◌, ◌≢◌, inl, inr, ⊎_elim, ℕ, ◌≤◌, List, [], ◌∷◌, length, take, Option, None, Some}
use Rattle.std.proofs.Common.{refl, sym, ap, ◌∙◌, subst, Bool, cond, arith}
use Rattle.std.specs.Prelude.{option_map}
use Rattle.std.specs.FinMap.{get, keys}
use Rattle.std.proofs.lemmas.Bool.Decides.{eqb_tells}
use Rattle.std.proofs.lemmas.List.{take_all}
use Rattle.board_model.specs.Disk.{Image, Disk, Effect, Same, Follows, Leaves}
use Rattle.board_model.proofs.Effects.{leaves_weaker, follows_weaker, follows_then, leaves_then}
use Rattle.staged_file.specs.Staged.{Kept}
use Rattle.staged_file.proofs.Staging.{kept_same}
use Rattle.cabinet.specs.Edits.{File, After, AfterSome, IsSettled}
use Rattle.pw_types.specs.declared.era.Era.{Era}
use Rattle.share_api.specs.Contents.{Bytes, Contents, settled}
use Rattle.share_api.specs.Steps.{Does, Leads, done}
use Rattle.share_api.proofs.StepLaws.{settled_same}
use Rattle.share_api.specs.declared.step.Write.{Write}
use Rattle.share_api.specs.declared.step.Write.TheVariants.{Put, Remove, RemoveLeaf}
use Rattle.share_api.specs.declared.step.Op.{Op}
use Rattle.share_api.specs.declared.step.Op.TheVariants.{Names, Get, Do, InsertLeaf, TryLeaf, ResetLeaf, LookLeaf}
use Rattle.share_api.specs.declared.step.Reply.{Reply}
use Rattle.share_api.specs.declared.step.Reply.TheVariants.{Done, Found, Listed, Labelled, Tried, Fits, Viewed}
use Rattle.share_api.specs.declared.step.Reply.TheVariants.{TreeLost, Damaged, Failed, NoMemory}
use Rattle.share_api.specs.declared.step.Step.{Step}
use Rattle.image_path.specs.Showing.{ByAccount, Makes, MakesOrNot, Shown}
use Rattle.platform_core.specs.Records.{IsRecordOf, AreContents, account_at, AreDistinct, Shows}
use Rattle.platform_core.specs.Asked.{IsOwn, edits_of, IsFound, IsListed, IsDone, has_failed}
use Rattle.platform_core.specs.Standing.{IsRight, Answers, AccountsGo, number_of}
use Rattle.platform_core.specs.Unsure.{Memory, NamesKnown}
use Rattle.platform_core.proofs.RecordLemmas.{plain_of, kept_shows, with_record, with_part, shows_change}
use Rattle.platform_core.proofs.ContentLemmas.{contents_keys, keys_empty}
use Rattle.platform_core.proofs.BoardLemmas.{told_on, none_done, one_done, settled_goes, not_failed}

-- bytes that fit a record are whole in it
pub whole : (bytes : Bytes) → length bytes ≤ 49181 → option_map (take 49182) (Some bytes) ≡ Some bytes
whole bytes few = ap (λ (l : Bytes). Some l) (take_all 49182 bytes (omega (arith, few)))

with_own : (parts : ByAccount Contents) (number : ℕ) (c : Contents) → with_part parts number c number ≡ c
with_own parts number c = ⊎_elim (λ h. ap (λ (b : Bool). cond b c (parts number)) h.0) (λ h. absurd (h.1 refl))
    (eqb_tells number number)

with_other : (parts : ByAccount Contents) (number : ℕ) (c : Contents) (k : ℕ) → k ≢ number
    → with_part parts number c k ≡ parts k
with_other parts number c k apart = ⊎_elim (λ h. absurd (apart h.1)) (λ h. ap (λ (b : Bool). cond b c (parts k)) h.0)
    (eqb_tells k number)

module _ (era : Era) (moment : ℕ) where
  -- a read that leads from the contents to themselves
  pub get_leads : (d : Image) (account name : Bytes) (c : Contents) (reply : Reply) → AreContents d account c
      → IsRecordOf account name
      → IsFound (option_map (take 49182) (get d.files name)) reply → Leads era moment (Get name) reply (settled c) c
  get_leads d account name c (Found found) a mine is = (
    ap (λ (o : Option Bytes). Found o)
        (is ∙ sym (a.records name mine)),
    sym (settled_same c a.clear),
  )
  get_leads d account name c Failed a mine is = sym (settled_same c a.clear)
  get_leads d account name c NoMemory a mine is = sym (settled_same c a.clear)
  get_leads d account name c Done a mine is = absurd is
  get_leads d account name c (Listed x) a mine is = absurd is
  get_leads d account name c (Labelled x) a mine is = absurd is
  get_leads d account name c (Tried x) a mine is = absurd is
  get_leads d account name c (Fits x) a mine is = absurd is
  get_leads d account name c (Viewed x) a mine is = absurd is
  get_leads d account name c TreeLost a mine is = absurd is
  get_leads d account name c Damaged a mine is = absurd is

  -- the names of what there is
  pub names_leads : (now d : Image) (account : Bytes) (c : Contents) (reply : Reply) → Kept now d
      → AreContents d account c
      → IsListed account now reply → Leads era moment Names reply (settled c) c
  names_leads now d account c (Listed listing) k a is =
      let listed : listing ≡ (keys c.records, []) = λ i. (contents_keys now d account c listing.0 k a is.0 i, is.1 i) in
      let labels : keys c.leaves ≡ [] = ap keys a.leaves ∙ keys_empty in
      let same = settled_same c a.clear in (
        ap (λ (l : List Bytes × List ℕ). Listed l) (listed ∙ ap (λ (l : List ℕ). (keys c.records, l)) (sym labels))
            ∙ ap (λ (x : Contents). Listed (keys x.records, keys x.leaves)) (sym same),
        sym same,
      )
  names_leads now d account c Failed k a is = sym (settled_same c a.clear)
  names_leads now d account c NoMemory k a is = sym (settled_same c a.clear)
  names_leads now d account c (Found x) k a is = absurd is
  names_leads now d account c Done k a is = absurd is
  names_leads now d account c (Labelled x) k a is = absurd is
  names_leads now d account c (Tried x) k a is = absurd is
  names_leads now d account c (Fits x) k a is = absurd is
  names_leads now d account c (Viewed x) k a is = absurd is
  names_leads now d account c TreeLost k a is = absurd is
  names_leads now d account c Damaged k a is = absurd is

  -- a change that is done
  pub write_leads : (write : Write) (reply : Reply) (c new : Contents) → c.doubt ≡ None → new ≡ done write c
      → IsDone reply → Leads era moment (Do write) reply (settled c) new
  write_leads write Done c new clear is told = (refl, is ∙ sym (ap (done write) (settled_same c clear)))
  write_leads write Failed c new clear is told = inr (is ∙ sym (ap (done write) (settled_same c clear)))
  write_leads write (Found x) c new clear is told = absurd told
  write_leads write NoMemory c new clear is told = absurd told
  write_leads write (Listed x) c new clear is told = absurd told
  write_leads write (Labelled x) c new clear is told = absurd told
  write_leads write (Tried x) c new clear is told = absurd told
  write_leads write (Fits x) c new clear is told = absurd told
  write_leads write (Viewed x) c new clear is told = absurd told
  write_leads write TreeLost c new clear is told = absurd told
  write_leads write Damaged c new clear is told = absurd told

  -- a step on records that failed and changed nothing
  pub failed_leads : (account : Bytes) (op : Op) (c : Contents) → IsOwn account op → c.doubt ≡ None
      → Leads era moment op Failed (settled c) c
  failed_leads account Names c own clear = sym (settled_same c clear)
  failed_leads account (Get name) c own clear = sym (settled_same c clear)
  failed_leads account (Do write) c own clear = inl (sym (settled_same c clear))
  failed_leads account (InsertLeaf x) c own clear = absurd own
  failed_leads account (TryLeaf x y) c own clear = absurd own
  failed_leads account (ResetLeaf x y) c own clear = absurd own
  failed_leads account (LookLeaf x) c own clear = absurd own

module _ (era : Era) (accounts : List Bytes) (number moment : ℕ) (op : Op) (reply : Reply) where
  abbrev step : Step
  step = record { account = number; moment = moment; op = op; reply = reply }

  abbrev Made : Effect
  Made = Shown (Shows accounts) (Makes number_of (Does era) step)

  abbrev InStep : Effect
  InStep = Shown (Shows accounts) (MakesOrNot number_of (Does era) step)

  kept_in_step : (d i : Image) → Kept d i → InStep d i
  kept_in_step d i k parts shows = (parts, kept_shows accounts d i parts k shows, inl (λ account. refl))

  -- images that are alike, where the step leads from contents to themselves
  kept_made : (d i : Image) → ((c : Contents) → AreContents d (account_at accounts number) c
      → Leads era moment op reply (settled c) c) → Kept d i → Made d i
  kept_made d i leads k parts shows = (
    parts,
    kept_shows accounts d i parts k shows,
    record
        { own = leads (parts number) (shows number); others = λ account other. refl },
  )

  -- a call that changes nothing, before the step
  pub goes_after : (a m b : Disk) → Leaves a m Same → AccountsGo era accounts m b step
      → AccountsGo era accounts a b step
  goes_after a m b first then = record {
    moments = leaves_then a m b Same InStep InStep (λ d i e. kept_in_step d i (kept_same d i e))
        (λ d e i same left s. subst (λ (x : Image). InStep x i) same s) first then.moments;
    ended = follows_then Same Made Made a.may_leave m.may_leave b.may_leave
        (λ d e i same s. subst (λ (x : Image). Made x i) same s) first.here then.ended;
  }

  -- a step that failed before its own work
  pub goes_failed : (a b : Disk) → reply ≡ Failed → IsOwn (account_at accounts number) op → Leaves a b Same
      → AccountsGo era accounts a b step
  goes_failed a b failed own l = record {
    moments = leaves_weaker a b Same InStep (λ d i e. kept_in_step d i (kept_same d i e)) l;
    ended = follows_weaker Same Made a.may_leave b.may_leave
        (λ d i e. kept_made d i (λ c are. subst (λ (r : Reply). Leads era moment op r (settled c) c) (sym failed)
        (failed_leads era moment (account_at accounts number) op c own are.clear)) (kept_same d i e)) l.here;
  }

module _ (era : Era) (accounts : List Bytes) (distinct : AreDistinct accounts) (number moment : ℕ) (a b : Disk)
    (before after : Memory) (now : Image) (told : a.now ≡ Some now)
    (settled_now : IsSettled a) (named : NamesKnown now before) where
  abbrev Answered : Op → Reply → Type 0
  Answered op reply = Answers (account_at accounts number) a b before after op reply

  -- a read
  read_goes : (op : Op) (reply : Reply) → edits_of op ≡ []
      → ((d : Image) (c : Contents) → a.may_leave d → AreContents d (account_at accounts number) c
      → Leads era moment op reply (settled c) c)
      → Answered op reply
      → AccountsGo era accounts a b (record { account = number; moment = moment; op = op; reply = reply })
  read_goes op reply none leads ans =
      let l : Leaves a b (AfterSome []) = subst (λ es. Leaves a b (AfterSome es)) none ans.edits.any_moment in record {
        moments = leaves_weaker a b (AfterSome []) (InStep era accounts number moment op reply)
            (λ d i s. kept_in_step era accounts number moment op reply d i (none_done d i s)) l;
        ended = λ i left.
            let from = l.here i left in (
              from.0,
              from.1,
              kept_made era accounts number moment op reply from.0 i (λ c are. leads from.0 c from.1 are)
                  (none_done from.0 i from.2),
            );
      }

  names_goes : (reply : Reply) → Answered Names reply → AccountsGo era accounts a b
      (record { account = number; moment = moment; op = Names; reply = reply })
  names_goes reply ans = read_goes Names reply refl
      (λ d c left are. names_leads era moment now d (account_at accounts number) c reply
      (settled_now now d told left) are (ans.tells now told named)) ans

  get_goes : (name : Bytes) (reply : Reply) → IsRecordOf (account_at accounts number) name → Answered (Get name) reply
      → AccountsGo era accounts a b (record { account = number; moment = moment; op = Get name; reply = reply })
  get_goes name reply mine ans = read_goes (Get name) reply refl
      (λ d c left are.
      let same : get d.files name ≡ get now.files name = (settled_now now d told left).others name
      (plain_of (account_at accounts number) name mine) in
      get_leads era moment d (account_at accounts number) name c reply are mine
      (subst (λ (o : Option Bytes). IsFound (option_map (take 49182) o) reply) (sym same) (ans.tells now told named)))
      ans

  -- a change of a record
  module _ (write : Write) (name : Bytes) (content : Option Bytes) (mine : IsRecordOf (account_at accounts number) name)
      (short : option_map (take 49182) content ≡ content) (is : (c : Contents)
      → with_record c name content ≡ done write c)
      (edit : edits_of (Do write) ≡ File name content ∷ []) where
    changed : (reply : Reply) → IsDone reply → (d i : Image) → After (File name content ∷ []) d i
        → Made era accounts number moment (Do write) reply d i
    changed reply tells d i after parts shows =
        let new = with_record (parts number) name content in (
          with_part parts number new,
          shows_change accounts distinct number name content mine short d i parts after shows,
          record {
            own = subst (Leads era moment (Do write) reply (settled (parts number))) (sym (with_own parts number new))
                (write_leads era moment write reply (parts number) new (shows number).clear (is (parts number)) tells);
            others = λ account other. with_other parts number new account other;
          },
        )

    moments : (reply : Reply) → Answered (Do write) reply → Leaves a b
        (InStep era accounts number moment (Do write) reply)
    moments reply ans =
        leaves_weaker a b (AfterSome (File name content ∷ [])) (InStep era accounts number moment (Do write) reply)
        (λ d i s. ⊎_elim (kept_in_step era accounts number moment (Do write) reply d i)
        (λ after parts shows. let h = changed reply (ans.tells now told named) d i after parts
        shows in (h.0, h.1, inr h.2)) (one_done (File name content) d i s))
        (subst (λ es. Leaves a b (AfterSome es)) edit ans.edits.any_moment)

    write_goes : (reply : Reply) → Answered (Do write) reply → AccountsGo era accounts a b
        (record { account = number; moment = moment; op = Do write; reply = reply })
    write_goes reply ans = record { moments = moments reply ans; ended = ends reply ans (ans.tells now told named) }
      where
        ends : (r : Reply) → Answered (Do write) r → IsDone r → Follows
            (Made era accounts number moment (Do write) r) a.may_leave b.may_leave
        ends Done h t = follows_weaker (After (File name content ∷ []))
            (Made era accounts number moment (Do write) Done) a.may_leave b.may_leave (changed Done tt)
            (subst (λ es. Follows (After es) a.may_leave b.may_leave) edit (h.edits.durable (not_failed Done refl)))
        ends Failed h t = follows_weaker (AfterSome (File name content ∷ []))
            (Made era accounts number moment (Do write) Failed) a.may_leave b.may_leave
            (λ d i s. ⊎_elim (kept_made era accounts number moment (Do write) Failed d i
            (λ c are. inl (sym (settled_same c are.clear)))) (changed Failed tt d i)
            (one_done (File name content) d i s))
            (subst (λ es. Follows (AfterSome es) a.may_leave b.may_leave) edit h.edits.any_moment.here)
        ends (Found x) h t = absurd t
        ends NoMemory h t = absurd t
        ends (Listed x) h t = absurd t
        ends (Labelled x) h t = absurd t
        ends (Tried x) h t = absurd t
        ends (Fits x) h t = absurd t
        ends (Viewed x) h t = absurd t
        ends TreeLost h t = absurd t
        ends Damaged h t = absurd t

  -- a step's own work over a settled board
  pub answers_go : (op : Op) (reply : Reply) → IsOwn (account_at accounts number) op → Answered op reply
      → AccountsGo era accounts a b (record { account = number; moment = moment; op = op; reply = reply })
  answers_go Names reply own ans = names_goes reply ans
  answers_go (Get name) reply own ans = get_goes name reply own ans
  answers_go (Do (Put name bytes)) reply own ans = write_goes (Put name bytes) name (Some bytes) own.0
      (whole bytes own.1) (λ c. refl) refl reply ans
  answers_go (Do (Remove name)) reply own ans = write_goes (Remove name) name None own refl (λ c. refl) refl reply ans
  answers_go (Do (RemoveLeaf label)) reply own ans = absurd own
  answers_go (InsertLeaf x) reply own ans = absurd own
  answers_go (TryLeaf x y) reply own ans = absurd own
  answers_go (ResetLeaf x y) reply own ans = absurd own
  answers_go (LookLeaf x) reply own ans = absurd own

-- a board stays right through a step's own work
pub answers_right : (account : Bytes) (a b : Disk) (before after : Memory) (unsettled : Bool) (op : Op) (reply : Reply)
    → IsRight a before unsettled → IsSettled a
    → Answers account a b before after op reply → IsRight b after (has_failed reply)
answers_right account a b before after unsettled op reply right settled ans =
    let now : (m : Image) × (b.now ≡ Some m) = ⊎_elim (λ g. let t = told_on
    (After []) a.now b.now right.now right.told g.now in (t.0, t.1))
    (λ g. let t = told_on (After (edits_of op)) a.now b.now right.now right.told g.now in (t.0, t.1))
    ans.done_or_not in
    record {
      now = now.0;
      told = now.1;
      agrees = ans.agrees right.agrees;
      settled = λ e. settled_goes (edits_of op) a b (ans.edits.done (not_failed reply e))
          (ans.edits.durable (not_failed reply e)) settled;
      named = ans.named right.now now.0 right.told now.1 right.named;
    }

-- and where settling failed
pub unsettled_right : (b : Disk) (memory : Memory) (unsettled : Bool) (reply : Reply) → reply ≡ Failed
    → IsRight b memory unsettled → IsRight b memory (has_failed reply)
unsettled_right b memory unsettled reply failed right = record {
  now = right.now;
  told = right.told;
  agrees = right.agrees;
  settled = λ e. absurd (not_failed reply e failed);
  named = right.named;
}
