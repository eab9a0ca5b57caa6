-- A PIN's count is set back.
use Rattle.std.proofs.Common.{◌≡◌, ◌≢◌, ℕ, ◌≤◌, List, [], ◌∷◌, length, Bool, true, false, not, Option, None, Some, Result, Ok, Err, refl, sym, ap, ◌∙◌, subst, ◌⊎◌, inl, inr, ⊎_elim, is_some, true≢false, arith}
use Rattle.std.specs.Prelude.{IfErr, IsErrOf, option_and_then}
use Rattle.std.specs.FinMap.{get}
use Rattle.name_map.specs.Mapped.{map_values}
use Rattle.account_machine.specs.Effect.{gives, cleared, set_factor}
use Rattle.account_machine.specs.Outline.{Marks, is_pin_kind}
use Rattle.account_machine.specs.Row.{turn_refusals, turn_names_tree, is_pin_mark}
use Rattle.account_machine.specs.Step.{Row, MayFail, IsStandIn, by_row, unsettles}
use Rattle.account_machine.specs.declared.answer.Answer.{Answer}
use Rattle.account_machine.specs.declared.answer.Answer.TheVariants as answers
use Rattle.account_machine.specs.declared.factor.Factor.{Factor}
use Rattle.account_machine.specs.declared.factor.Kind.{Kind}
use Rattle.account_machine.specs.declared.factor.Kind.TheVariants.{Password, Pin}
use Rattle.account_machine.specs.declared.factor.Mark.{Mark}
use Rattle.account_machine.specs.declared.request.Request.TheVariants.{ResetPin}
use Rattle.account_machine.specs.declared.request.Turn.{Turn}
use Rattle.account_machine.specs.declared.request.Turn.TheVariants.{Act}
use Rattle.account_machine.specs.declared.session.Token.{Token}
use Rattle.account_machine.specs.declared.user.Durable.{Durable}
use Rattle.account_machine.specs.declared.user.User.{User}
use Rattle.factor_files.specs.declared.factor.FactorRecord.{FactorRecord}
use Rattle.home_edits.specs.Edits.{Starts}
use Rattle.pin_edits.specs.Faults.{IsStashFault}
use Rattle.pin_edits.specs.Resets.{EditsByReset, ResetsPin, told_reset}
use Rattle.pin_edits.proofs.PinReset.{reset_edits}
use Rattle.pw_types.specs.declared.era.Era.{Era}
use Rattle.record_names.specs.Names.{stash_name}
use Rattle.share_api.specs.Conditions.{IsTryFault, TellsLoss}
use Rattle.share_api.specs.Contents.{Bytes, Contents, settled}
use Rattle.share_api.specs.Folds.{Fold}
use Rattle.share_api.specs.Replies.{fits_reply}
use Rattle.share_api.specs.Seen.{ShareSeen, HasFailed, step_of}
use Rattle.share_api.specs.Steps as share_steps
use Rattle.share_api.specs.Steps.{Does}
use Rattle.share_api.specs.declared.fault.ShareFault.{ShareFault}
use Rattle.share_api.specs.declared.fault.ShareFault.TheVariants as shares
use Rattle.share_api.specs.declared.leaf.LeafView.{LeafView}
use Rattle.share_api.specs.declared.step.Op.TheVariants.{ResetLeaf}
use Rattle.share_api.specs.declared.step.Step.{Step}
use Rattle.share_api.proofs.FoldLaws.{throughout_end}
use Rattle.share_api.proofs.RunLaws.{failed_either, runs_none}
use Rattle.stash_format.specs.declared.contents.Contents.{Contents as Stash}
use Rattle.stored_home.specs.Adding.{HoldsEither}
use Rattle.stored_home.specs.Changes.{durable_set}
use Rattle.stored_home.specs.Holds.{Keys, HoldsUnder}
use Rattle.stored_home.specs.Loaded.{IsKept}
use Rattle.stored_home.specs.declared.fault.StoreFault.{StoreFault}
use Rattle.stored_home.specs.declared.fault.StoreFault.TheVariants as faults
use Rattle.stored_home.proofs.MapLemmas.{from_some, put_at}
use Rattle.user_state.specs.Fits.{Fits, is_lost}
use Rattle.user_state.specs.Outlines.{mark_in, outline_in}
use Rattle.user_state.specs.Sound.{IsSound}
use Rattle.user_state.specs.Turns.{IsGiven}
use Rattle.user_state.specs.declared.state.Doubt.{Doubt}
use Rattle.user_state.specs.declared.state.Doubt.TheVariants.{Leaf}
use Rattle.user_state.specs.declared.state.UserState.{UserState}
use Rattle.turn_rows.specs.Due.{IsReady, IsDue}
use Rattle.turn_rows.proofs.Quiet.{row_by, as_user, settled_now, stands_settled}
use Rattle.turn_edits.specs.Endings.{doubt_of}
use Rattle.turn_edits.specs.Sessions.{main_in}
use Rattle.turn_edits.proofs.Factors.{made_of}
use Rattle.turn_edits.proofs.Held.{stash_by}
use Rattle.turn_edits.proofs.Keyed.{main_there, main_is}
use Rattle.turn_edits.proofs.Tests.{test_at}
use Rattle.turn_secrets.specs.Listing.{Looks}
use Rattle.turn_pins.specs.Looking.{TellsView, IsLookFault, IsRefusal}
use Rattle.turn_pins.specs.Resetting.{IsToldAnswer, IsResetMade, ResetEnds, SeenEnds, ResetHeld}
use Rattle.turn_pins.specs.declared.reset.Reset.{Reset}
use Rattle.turn_pins.proofs.LookedLeaf.{only_step, append_none, looked_given, looked_stood}
use Rattle.turn_pins.proofs.LoadedPins.{cleared_apart, its_pin, leaf_tells}

not_not : (b : Bool) → not b ≡ false → b ≡ true
not_not true e = refl
not_not false e = absurd (true≢false e)

pin_kind : (kind : Kind) → is_pin_kind kind ≡ true → kind ≡ Pin
pin_kind Password e = absurd (true≢false (sym e))
pin_kind Pin e = refl

-- a mark that is a PIN's is there
pub pin_marked : (o : Option Mark) → is_pin_mark o ≡ true → (mark : Mark) × (o ≡ Some mark) × (mark.kind ≡ Pin)
pin_marked None e = absurd (true≢false (sym e))
pin_marked (Some mark) e = (mark, refl, pin_kind mark.kind e)

-- ---- the step

-- a reset of a leaf leaves the records
reset_frames : (era : Era) (moment tree : ℕ) (secret : Bytes) (tried : Result Bool ShareFault)
    (contents mid : Contents)
    → share_steps.Leads era moment (ResetLeaf tree secret) (fits_reply tried) contents mid
    → mid.records ≡ contents.records
reset_frames era moment tree secret (Ok fits) contents mid l = ap (λ (c : Contents). c.records) l.3
reset_frames era moment tree secret (Err shares.Failed) contents mid l = ⊎_elim
    (λ e. ap (λ (c : Contents). c.records) e) (λ w. ap (λ (c : Contents). c.records) w.2) l
reset_frames era moment tree secret (Err (shares.TreeLost host chip)) contents mid l =
    ap (λ (c : Contents). c.records) l
reset_frames era moment tree secret (Err (shares.Damaged name)) contents mid l = ap (λ (c : Contents). c.records) l
reset_frames era moment tree secret (Err shares.NoMemory) contents mid l = ap (λ (c : Contents). c.records) l

-- of which fault it may be, where the tree isn't lost
pub reset_only : (name : Bytes) (tree : ℕ) (tried : Result Bool ShareFault) (lost : Option (Bytes × Bytes))
    → IfErr tried (IsTryFault tree) → TellsLoss lost tried → lost ≡ None → IfErr (told_reset name tried) IsLookFault
reset_only name tree (Ok true) lost only tells whole = tt
reset_only name tree (Ok false) lost only tells whole = tt
reset_only name tree (Err shares.Failed) lost only tells whole = tt
reset_only name tree (Err (shares.TreeLost host chip)) lost only tells whole =
    absurd (subst (λ roots. TellsLoss {A = Bool} roots (Err (shares.TreeLost host chip))) whole tells host chip refl)
reset_only name tree (Err (shares.Damaged other)) lost only tells whole = tt
reset_only name tree (Err shares.NoMemory) lost only tells whole = absurd only

-- ---- refusals are stand-ins

memory_calm : ◌≡◌ {A = Answer} answers.NoMemory answers.StorageFault → ⊥
memory_calm e = cc e

damaged_calm : (name : Bytes) → ◌≡◌ {A = Answer} (answers.Damaged name) answers.StorageFault → ⊥
damaged_calm name e = cc e

-- a damaged record, or want of memory for its name
pub damaged_stands : (name : Bytes) (answer : Answer) → (answer ≡ answers.Damaged name) ⊎ (answer ≡ answers.NoMemory)
    → IsStandIn answer × (answer ≢ answers.StorageFault)
damaged_stands name answer is = ⊎_elim
    (λ d. (inr (name, d), λ e. damaged_calm name (sym d ∙ e)))
    (λ m. (inl m, λ e. memory_calm (sym m ∙ e))) is

pub refusal_stands : (fault : StoreFault) (answer : Answer) → IsLookFault fault → IsRefusal fault answer
    → IsStandIn answer × (answer ≢ answers.StorageFault)
refusal_stands faults.Failed answer only is = (inl is, λ e. memory_calm (sym is ∙ e))
refusal_stands (faults.Damaged name) answer only is = damaged_stands name answer is
refusal_stands faults.NoMemory answer only is = absurd only
refusal_stands (faults.TreeLost host chip) answer only is = absurd only

-- and so is what the stash's payload lacks
pub stash_stands : (account : Bytes) (fault : StoreFault) (answer : Answer) → IsStashFault account fault
    → IsRefusal fault answer → IsStandIn answer
stash_stands account faults.Failed answer only is = absurd only
stash_stands account (faults.Damaged name) answer only is = (damaged_stands name answer is).0
stash_stands account faults.NoMemory answer only is = inl is
stash_stands account (faults.TreeLost host chip) answer only is = absurd only

pub stash_says : (account : Bytes) (fault : StoreFault) (answer : Answer) → IsStashFault account fault
    → IsRefusal fault answer → (answer ≡ answers.NoMemory) ⊎ (answer ≡ answers.Damaged (stash_name account))
stash_says account faults.Failed answer only is = absurd only
stash_says account (faults.Damaged name) answer only is =
    ⊎_elim (λ d. inr (d ∙ ap (λ (n : Bytes). answers.Damaged n) only)) (λ m. inl m) is
stash_says account faults.NoMemory answer only is = inl is
stash_says account (faults.TreeLost host chip) answer only is = absurd only

-- the state after a turn that looked at a leaf and reset it
held_by_view : (mid new : ShareSeen) (reset : Reset) (before after : UserState) (answer : Answer)
    (view : Result LeafView StoreFault) → SeenEnds mid new reset view before after answer
    → (doubt : Option Doubt) × (after ≡ record before { doubt = doubt })
held_by_view mid new reset before after answer (Ok view) e = (_, e.after_is)
held_by_view mid new reset before after answer (Err fault) e = (before.doubt, e.1)

pub held_after : (old new : ShareSeen) (reset : Reset) (before after : UserState) (answer : Answer)
    → ResetHeld old new reset before after answer
    → (doubt : Option Doubt) × (after ≡ record before { doubt = doubt })
held_after old new reset before after answer h = held_by_view h.mid new reset before after answer h.view h.ends

-- nothing is there
pub none_of : {A : Type 0} (o : Option A) → is_some o ≡ false → o ≡ None
none_of None e = refl
none_of (Some x) e = absurd (true≢false e)

-- how a turn is answered whose reset ended so, where this answer says that it was done
abbrev pub IsEndAnswer : Answer → Result (Unit {0}) StoreFault → Answer → Type 0
IsEndAnswer good (Ok u) answer = answer ≡ good
IsEndAnswer good (Err fault) answer = IsToldAnswer (Err fault) answer

-- a PIN is set back by a turn that looked at its leaf
module _ (before : UserState) (ready : IsReady before) (token : Token) (label : Bytes) (stash : Stash)
    (stash_is : before.stored.stash ≡ Some stash) (row : FactorRecord) (at : get before.stored.factors label ≡ Some row)
    (tree : ℕ) (names : row.leaf ≡ Some tree) (whole : before.stored.lost ≡ None) (main : Bytes)
    (proved : main_in before.sessions.kept token ≡ Some main) where
  -- ---- over contents

  module _ (contents : Contents) (user : User) (keys : Keys) (fits : Fits before contents user keys)
      (holds : HoldsUnder (is_lost before) contents before.account user.durable keys) where
    abbrev pub its : Factor
    its = (its_pin before ready whole label row at tree names contents user keys fits holds).pin.of.factor

    pub there : get user.durable.factors label ≡ Some its
    there = (its_pin before ready whole label row at tree names contents user keys fits holds).pin.of.held

    abbrev pub set_back : Durable
    set_back = durable_set user.durable label (cleared its)

    begun : (lost : Bool) → lost ≡ is_lost before
        → Starts lost before.account before.stored (ResetsPin label main) contents keys user.durable set_back
    begun lost same = record {
      holds = subst (λ (l : Bool). HoldsUnder l contents before.account user.durable keys) (sym same) holds;
      kept = subst (λ (l : Bool). IsKept l contents before.account before.stored) (sym same)
          (settled_now before ready contents user keys fits).kept;
      asked = record {
        main_is = main_is before.sessions.kept token main keys.main fits.has_keys.proved proved;
        factor = its;
        held = there;
        after_is = refl;
      };
    }

  -- ---- the turn, by how the reset ended

  module _ (turn : Turn) (may : MayFail turn) (good : Answer) (good_calm : good ≢ answers.StorageFault)
      (old mid new : ShareSeen) (lost : is_some old.lost ≡ is_lost before) (view : LeafView) (failed : Type 0) (most : ℕ)
      (P : Contents → Type 0) (l : Looks old mid failed most P)
      (shows : (contents : Contents) → P contents → TellsView before.account tree (Ok view) contents)
      (back_row : (contents : Contents) (user : User) (keys : Keys) (fits : Fits before contents user keys)
      (holds : HoldsUnder (is_lost before) contents before.account user.durable keys) → P contents
      → Row old.era user turn good (record user { durable = set_back contents user keys fits holds })) where
    abbrev doubt : Doubt
    doubt = Leaf label tree view

    abbrev ended : Result (Unit {0}) StoreFault → UserState
    ended r = record before { doubt = doubt_of doubt before.doubt r }

    mid_lost : is_some mid.lost ≡ is_lost before
    mid_lost = ap is_some l.runs.lost ∙ lost

    by_result : (r : Result (Unit {0}) StoreFault)
        (e : EditsByReset mid new before.account before.stored label main r) → length e.edits.steps ≤ 1
        → ((contents end : Contents) → contents.doubt ≡ None → Fold (Does mid.era) contents e.edits.steps end
        → end.records ≡ contents.records)
        → IfErr r IsLookFault → (answer : Answer) → IsEndAnswer good r answer
        → IsGiven old new before (ended r) turn answer
    by_result (Ok u) e few frames only answer is = subst (IsGiven old new before (ended (Ok u)) turn) (sym is)
        (looked_given old mid new before ready turn failed most P l e.edits.steps
        e.edits.runs few good (ended (Ok u)) (λ k. absurd (good_calm k))
        (record { account = refl; cost = refl; lost = refl })
        (λ seen contents user keys p told end fold.
        let s = settled_now before ready contents user keys p.fits in
        let starts = begun contents user keys p.fits p.holds (is_some mid.lost) mid_lost in
        let next = set_back contents user keys p.fits p.holds in
        let f : Fold (Does mid.era) contents e.edits.steps end =
        subst (λ (era : Era). Fold (Does era) contents e.edits.steps end) (sym l.runs.era) fold in
        record {
          next = record user { durable = next };
          keys = keys;
          allowed = by_row (back_row contents user keys p.fits p.holds told);
          fits = record {
            sessions = p.fits.sessions;
            next_session = p.fits.next_session;
            mounted = p.fits.mounted;
            last = p.fits.last;
            stands = stands_settled before ready (ended (Ok u)) end (record user { durable = next }) refl (record {
              none = s.none;
              kept = subst (λ (x : Bool). IsKept x end before.account before.stored) mid_lost
                  (e.edits.loaded refl contents keys user.durable next starts end f);
              files = s.files;
            });
            has_keys = record { proved = p.fits.has_keys.proved; mount = p.fits.has_keys.mount };
          };
          holds = inl (subst (λ (x : Bool). HoldsUnder x end before.account next keys) mid_lost
              ((e.edits.atomic contents keys user.durable next starts).last refl end f));
          idle = λ none. absurd (e.edits.made refl (append_none l.steps e.edits.steps none));
        }))
    by_result (Err faults.Failed) e few frames only answer is =
        subst (IsGiven old new before (ended (Err faults.Failed)) turn) (sym is)
        (looked_given old mid new before ready turn failed most P l e.edits.steps
        e.edits.runs few answers.StorageFault (ended (Err faults.Failed))
        (λ _. failed_either l.steps e.edits.steps (inr (e.edits.fails refl)))
        (record { account = refl; cost = refl; lost = refl })
        (λ seen contents user keys p told end fold.
        let s = settled_now before ready contents user keys p.fits in
        let starts = begun contents user keys p.fits p.holds (is_some mid.lost) mid_lost in
        let next = set_back contents user keys p.fits p.holds in
        let factor = its contents user keys p.fits p.holds in
        let f : Fold (Does mid.era) contents e.edits.steps end =
        subst (λ (era : Era). Fold (Does era) contents e.edits.steps end) (sym l.runs.era) fold in
        record {
          next = record user { other = Some next };
          keys = keys;
          allowed = unsettles (record {
            may = may;
            fault = refl;
            due = good;
            done = record user { durable = next };
            row = back_row contents user keys p.fits p.holds told;
            after_is = refl;
          });
          fits = record {
            sessions = p.fits.sessions;
            next_session = p.fits.next_session;
            mounted = p.fits.mounted;
            last = p.fits.last;
            stands = record {
              other = next;
              other_is = refl;
              tells = leaf_tells before ready whole label row at tree names contents user keys p.fits p.holds view
                  (shows contents told) end (frames contents end s.kept.clear f) (cleared factor)
                  (its_pin before ready whole label row at tree names contents user keys p.fits p.holds).pin.is_pin
                  refl next (put_at user.durable.factors label (cleared factor))
                  (cleared_apart user.durable label factor (there contents user keys p.fits p.holds));
            };
            has_keys = record { proved = p.fits.has_keys.proved; mount = p.fits.has_keys.mount };
          };
          holds = subst (λ (x : Bool). HoldsEither x before.account keys user.durable next end) mid_lost
              (throughout_end (Does mid.era) (HoldsEither (is_some mid.lost) before.account keys user.durable next)
              contents end e.edits.steps (e.edits.atomic contents keys user.durable next starts).throughout f);
          idle = λ none. absurd (subst HasFailed (append_none l.steps e.edits.steps none) (e.edits.fails refl));
        }))
    by_result (Err (faults.Damaged name)) e few frames only answer is =
        let stands = damaged_stands name answer is in
        looked_stood old mid new before ready turn failed most P l e.edits.steps
        e.edits.runs few answer may stands.0 stands.1
        (λ contents user keys fits holds end fold. (e.refused refl (λ f.
        let z : ◌≡◌ {A = Result (Unit {0}) StoreFault} (Err (faults.Damaged name)) (Err faults.Failed) = f in
        cc z)).same contents end (settled_now before ready contents user keys fits).kept.clear
        (subst (λ (era : Era). Fold (Does era) contents e.edits.steps end) (sym l.runs.era) fold))
    by_result (Err faults.NoMemory) e few frames only answer is = absurd only
    by_result (Err (faults.TreeLost host chip)) e few frames only answer is = absurd only

  -- ---- the reset that was made

  module _ (turn : Turn) (may : MayFail turn) (good : Answer) (good_calm : good ≢ answers.StorageFault)
      (reset : Reset) (made_so : IsResetMade before.stored label main reset) (label_same : reset.label ≡ label)
      (old new : ShareSeen) (lost : is_some old.lost ≡ is_lost before) (share_whole : old.lost ≡ None) where
    same_tree : reset.tree ≡ tree
    same_tree = from_some reset.tree tree
        (sym (made_so row stash at stash_is).names ∙ names)

    -- where the leaf could be seen: what was looked at before it, and that it was so, tell the row
    pub seen_given : (mid : ShareSeen) (view : LeafView) (failed : Type 0) (most : ℕ) (P : Contents → Type 0)
        (after : UserState) (raw answer : Answer) → Looks old mid failed most P
        → ((contents : Contents) → P contents → TellsView before.account reset.tree (Ok view) contents)
        → ((contents : Contents) (user : User) (keys : Keys) (fits : Fits before contents user keys)
        (holds : HoldsUnder (is_lost before) contents before.account user.durable keys) → P contents
        → Row old.era user turn good (record user { durable = set_back contents user keys fits holds }))
        → ((r : Result (Unit {0}) StoreFault) → IsToldAnswer r raw → IsEndAnswer good r answer)
        → ResetEnds mid new reset view before after raw
        → IsGiven old new before after turn answer
    seen_given mid view failed most P after raw answer l shows back_row ending e =
        let mid_whole : mid.lost ≡ None = l.runs.lost ∙ share_whole in
        let step : Step = step_of mid before.last (ResetLeaf reset.tree reset.secret) (fits_reply e.tried) in
        let edits : EditsByReset mid new before.account before.stored label main (told_reset reset.name e.tried) =
        reset_edits before.account before.stored label row at stash stash_is reset.tree main reset.secret
        (made_so row stash at stash_is) mid before.last reset.name e.tried new
        (told_reset reset.name e.tried) (ap is_some mid_whole) e.made refl in
        let only : edits.edits.steps ≡ step ∷ [] = only_step mid new edits.edits.steps step edits.edits.runs e.made in
        subst (λ (s : UserState). IsGiven old new before s turn answer)
        (sym (e.after_is ∙ (λ i. record before {
          doubt = doubt_of (Leaf (label_same i) (same_tree i) view) before.doubt (told_reset reset.name e.tried);
        })))
        (by_result turn may good good_calm old mid new lost view failed most P l
        (λ contents told. subst (λ (t : ℕ). TellsView before.account t (Ok view) contents) same_tree
        (shows contents told)) back_row (told_reset reset.name e.tried) edits
        (subst (λ (s : List Step). length s ≤ 1) (sym only) (omega arith))
        (λ contents end clear fold.
        let f : Fold (Does mid.era) contents (step ∷ []) end =
        subst (λ (s : List Step). Fold (Does mid.era) contents s end) only fold in
        ap (λ (c : Contents). c.records) f.2
        ∙ reset_frames mid.era before.last reset.tree reset.secret e.tried
        (settled contents) f.0 f.1)
        (reset_only reset.name reset.tree e.tried mid.lost e.only e.lost mid_whole) answer
        (ending (told_reset reset.name e.tried) e.answered))

-- ---- the row that sets a PIN's count back

module _ (before : UserState) (ready : IsReady before) (sound : IsSound before) (account : Bytes) (token : Token)
    (label : Bytes) (due : IsDue before (Act (ResetPin account token label))) where
  abbrev turn : Turn
  turn = Act (ResetPin account token label)

  pub reset_stash : (stash : Stash) × (before.stored.stash ≡ Some stash)
  reset_stash = stash_by before.stored.stash
      (not_not (is_some before.stored.stash) (test_at (turn_refusals (outline_in before) turn before.last) due 0))

  -- the session has a main key
  pub reset_main : is_some (main_in before.sessions.kept token) ≡ true
  reset_main = main_there before.sessions.kept token sound.keyed
      (test_at (turn_refusals (outline_in before) turn before.last) due 1)
      (test_at (turn_refusals (outline_in before) turn before.last) due 4)

  abbrev marks : Marks
  marks = map_values mark_in before.stored.factors

  -- the turn names the tree
  pub reset_named : turn_names_tree (outline_in before) turn ≡ true
  reset_named = refl

  marked : (mark : Mark) × (get marks label ≡ Some mark) × (mark.kind ≡ Pin)
  marked = pin_marked (get marks label)
      (not_not (is_pin_mark (get marks label)) (test_at (turn_refusals (outline_in before) turn before.last) due 5))

  made : (row : FactorRecord) × (get before.stored.factors label ≡ Some row) × (mark_in row ≡ marked.0)
  made = made_of mark_in before.stored.factors label marked.0 marked.1

  -- the label's factor is a PIN
  pub reset_row : (row : FactorRecord) × (get before.stored.factors label ≡ Some row) × (row.kind ≡ Pin)
  reset_row = (made.0, made.1, ap (λ (m : Mark). m.kind) made.2 ∙ marked.2)

  module _ (row : FactorRecord) (at : get before.stored.factors label ≡ Some row) (tree : ℕ)
      (names : row.leaf ≡ Some tree) (whole : before.stored.lost ≡ None) (main : Bytes)
      (proved : main_in before.sessions.kept token ≡ Some main) (reset : Reset)
      (made_so : IsResetMade before.stored label main reset) (label_same : reset.label ≡ label)
      (old new : ShareSeen) (lost : is_some old.lost ≡ is_lost before) (share_whole : old.lost ≡ None) where
    -- what the table gives
    back_row : (contents : Contents) (user : User) (keys : Keys) (fits : Fits before contents user keys)
        (holds : HoldsUnder (is_lost before) contents before.account user.durable keys)
        → Row old.era user turn answers.Ok (record user {
          durable = set_back before ready token label reset_stash.0 reset_stash.1 row at tree names whole main proved
              contents user keys fits holds;
        })
    back_row contents user keys fits holds = row_by old.era user turn [] answers.Ok (record user {
      durable = set_back before ready token label reset_stash.0 reset_stash.1 row at tree names whole main proved contents
          user keys fits holds;
    }) (as_user before ready contents user keys turn None fits holds due)
        (ap (option_and_then (λ (f : Factor). gives answers.Ok (set_factor user label (cleared f))))
        (there before ready token label reset_stash.0 reset_stash.1 row at tree names whole main proved contents user
        keys fits holds))

    by_view : (mid : ShareSeen) (view : Result LeafView StoreFault) (after : UserState) (answer : Answer)
        → Looks old mid (IsErrOf view faults.Failed) 1 (TellsView before.account reset.tree view)
        → IfErr view IsLookFault → SeenEnds mid new reset view before after answer
        → IsGiven old new before after turn answer
    by_view mid (Ok view) after answer l only e =
        seen_given before ready token label reset_stash.0 reset_stash.1 row at tree names whole main proved turn tt
        answers.Ok (λ k. let z : ◌≡◌ {A = Answer} answers.Ok answers.StorageFault = k in cc z) reset made_so label_same
        old new lost share_whole mid view _ 1 (TellsView before.account reset.tree (Ok view)) after answer answer l
        (λ contents told. told) (λ contents user keys fits holds told. back_row contents user keys fits holds)
        (λ r told. ended_ok r told) e
      where
        ended_ok : (r : Result (Unit {0}) StoreFault) → IsToldAnswer r answer → IsEndAnswer answers.Ok r answer
        ended_ok (Ok u) told = told
        ended_ok (Err fault) told = told
    by_view mid (Err fault) after answer l only e =
        let stands = refusal_stands fault answer only e.2 in
        subst (λ (t : ShareSeen × UserState). IsGiven old t.0 before t.1 turn answer)
        (λ i. (sym e.0 i, sym e.1 i))
        (looked_stood old mid mid before ready turn _ 1 (TellsView before.account reset.tree (Err fault)) l []
        (runs_none mid) (omega arith) answer tt stands.0 stands.1 (λ contents user keys fits holds end fold. fold))

    -- the row's turn
    pub held_given : (after : UserState) (answer : Answer) → ResetHeld old new reset before after answer
        → IsGiven old new before after turn answer
    held_given after answer h = by_view h.mid h.view after answer h.looks h.only h.ends
