-- The first PIN with a count is cleared.
use Rattle.std.proofs.Common.{◌≡◌, ◌≢◌, ◌⊎◌, ℕ, ◌+◌, ◌≤◌, ◌++◌, [], map, length, Bool, true, false, Option, None, Some, Result, Ok, Err, refl, sym, ap, ◌∙◌, subst, ⊎_elim, inl, inr, is_some, option_map, arith}
use Rattle.std.specs.Prelude.{IfErr, IfSome, IsErrOf, Contains, count_by}
use Rattle.std.specs.FinMap.{FinMap, get, entries, len-entries}
use Rattle.std.proofs.lemmas.List.Elements.{recursion_from_All, All-contains}
use Rattle.std.proofs.lemmas.List.Sums.{count_by-le-length}
use Rattle.pw_types.specs.declared.era.Era.{Era}
use Rattle.account_machine.specs.Effect.{gives, cleared, cleared_by, set_factor, first_counted, line_of}
use Rattle.account_machine.specs.Outline.{is_pin_kind, pins}
use Rattle.account_machine.specs.Row.{turn_refusals}
use Rattle.account_machine.specs.Step.{Row, Given, IsStandIn, by_row}
use Rattle.account_machine.specs.declared.answer.Answer.{Answer}
use Rattle.account_machine.specs.declared.answer.Answer.TheVariants as answers
use Rattle.account_machine.specs.declared.factor.Factor.{Factor}
use Rattle.account_machine.specs.declared.request.Turn.{Turn}
use Rattle.account_machine.specs.declared.request.Turn.TheVariants.{Clear}
use Rattle.account_machine.specs.declared.session.Token.{Token}
use Rattle.account_machine.specs.declared.user.User.{User}
use Rattle.factor_files.specs.declared.factor.FactorRecord.{FactorRecord}
use Rattle.name_map.specs.Mapped.{map_values}
use Rattle.record_names.specs.Names.{stash_name}
use Rattle.share_api.specs.Contents.{Bytes, Contents}
use Rattle.share_api.specs.Seen.{ShareSeen}
use Rattle.share_api.proofs.RunLaws.{runs_none}
use Rattle.share_api.proofs.StepLaws.{settled_same}
use Rattle.share_api.specs.declared.leaf.LeafView.{LeafView}
use Rattle.stash_format.proofs.Rows.{Everywhere-entries}
use Rattle.stash_format.specs.declared.contents.Contents.{Contents as Stash}
use Rattle.stored_home.specs.Coherent.{IsCoherent, FitsBlock}
use Rattle.stored_home.specs.Holds.{Keys, HoldsBy, HoldsUnder}
use Rattle.stored_home.specs.Loaded.{IsRowOf, block_in}
use Rattle.stored_home.specs.Matching.{Matches}
use Rattle.stored_home.specs.declared.fault.StoreFault.{StoreFault}
use Rattle.stored_home.specs.declared.fault.StoreFault.TheVariants as faults
use Rattle.stored_home.specs.declared.stored.Stored.{Stored}
use Rattle.stored_home.proofs.MapLemmas.{from_some}
use Rattle.user_state.specs.Fits.{Fits, is_lost}
use Rattle.user_state.specs.Outlines.{mark_in, outline_in}
use Rattle.user_state.specs.Sound.{IsSound}
use Rattle.user_state.specs.Turns.{IsGiven, Leads}
use Rattle.user_state.specs.declared.state.UserState.{UserState}
use Rattle.user_state.proofs.RowLemmas.{pins_marked}
use Rattle.turn_rows.specs.Due.{IsReady, IsDue}
use Rattle.turn_rows.proofs.Quiet.{row_by, as_user, settled_now}
use Rattle.turn_edits.specs.Sessions.{main_in}
use Rattle.turn_edits.proofs.Factors.{order}
use Rattle.turn_edits.proofs.Held.{held_beside}
use Rattle.turn_edits.proofs.Keyed.{main_there}
use Rattle.turn_edits.proofs.Tests.{test_at}
use Rattle.turn_secrets.specs.Listing.{Looks, IsListFault, line_in}
use Rattle.turn_secrets.proofs.Lines.{lines_held}
use Rattle.turn_secrets.proofs.Looking.{looks_then}
use Rattle.turn_pins.specs.Clearing.{first_shown, TellsFirst, cleared_answer}
use Rattle.turn_pins.specs.Looking.{TellsView, IsLookFault, IsRefusal}
use Rattle.turn_pins.specs.Resetting.{IsToldAnswer, SeenEnds, IsResetUnder, ResetsLeaf}
use Rattle.turn_pins.specs.declared.reset.Reset.{Reset}
use Rattle.turn_pins.proofs.FirstCounted.{shown_counted, counted_among, mapped_some, mapped_none}
use Rattle.turn_pins.proofs.LookedLeaf.{looked_given, looked_stood}
use Rattle.turn_pins.proofs.PinSetting.{some_there}
use Rattle.turn_pins.proofs.PinsSetBack.{IsEndAnswer, its, there, set_back, seen_given, damaged_stands, refusal_stands}

itself : {V : Type 0} (o : Option V) → IfSome o (λ x. o ≡ Some x)
itself None = tt
itself (Some x) = refl

-- ---- what is loaded

-- a row of a map is what it has at its name
pub row_there : {V : Type 0} (m : FinMap order V) (name : Bytes) (x : V) → Contains (entries m) (name, x)
    → get m name ≡ Some x
row_there {V} m name x within =
    All-contains (λ (e : Bytes × V). get m e.0 ≡ Some e.1) (entries m) (name, x)
    (Everywhere-entries (λ n y. get m n ≡ Some y) m (λ n. itself (get m n))) within

-- where a factor is loaded there is a stash
stash_there : (account : Bytes) (stored : Stored) → IsCoherent account stored → (name : Bytes) (row : FactorRecord)
    → get stored.factors name ≡ Some row → (stash : Stash) × (stored.stash ≡ Some stash)
stash_there account stored was name row at = by stored.stash refl
  where
    by : (o : Option Stash) → stored.stash ≡ o → (stash : Stash) × (stored.stash ≡ Some stash)
    by None is = absurd (subst (Matches (FitsBlock name) None) at
        (subst (λ (o : Option Stash). Matches (FitsBlock name) (block_in o name) (get stored.factors name)) is
        (was.rows name)))
    by (Some stash) is = (stash, is)

-- with a PIN there is one
pub pins_stash : (before : UserState) → IsSound before → 1 ≤ pins (outline_in before).home.marks
    → (stash : Stash) × (before.stored.stash ≡ Some stash)
pins_stash before sound some =
    let counted : pins (map_values mark_in before.stored.factors)
    ≡ count_by (λ (row : Bytes × FactorRecord). is_pin_kind (mark_in row.1).kind) (entries before.stored.factors) =
    pins_marked mark_in before.stored.factors in
    let few : count_by (λ (row : Bytes × FactorRecord). is_pin_kind (mark_in row.1).kind)
    (entries before.stored.factors) ≤ length (entries before.stored.factors) =
    count_by-le-length (λ (row : Bytes × FactorRecord). is_pin_kind (mark_in row.1).kind)
    (entries before.stored.factors) in
    let size = len-entries before.stored.factors in
    let at = some_there before.stored.factors (omega (arith, some, counted, few, size)) in
    stash_there before.account before.stored sound.coherent at.0 at.1 at.2

-- ---- how a reset that clears ends

-- a refusal is answered as it is told
refused_same : (fault : StoreFault) (raw : Answer) → IsLookFault fault → IsRefusal fault raw → cleared_answer raw ≡ raw
refused_same faults.Failed raw only is =
    subst (λ (a : Answer). cleared_answer a ≡ a) (sym is) refl
refused_same (faults.Damaged name) raw only is = ⊎_elim
    (λ d. subst (λ (a : Answer). cleared_answer a ≡ a) (sym d) refl)
    (λ m. subst (λ (a : Answer). cleared_answer a ≡ a) (sym m) refl) is
refused_same faults.NoMemory raw only is = absurd only
refused_same (faults.TreeLost host chip) raw only is = absurd only

-- how the turn is answered, by how the reset was
ending_cleared : (raw : Answer) (r : Result (Unit {0}) StoreFault) → IsToldAnswer r raw
    → IsEndAnswer answers.PinCleared r (cleared_answer raw)
ending_cleared raw (Ok u) told = ap cleared_answer told
ending_cleared raw (Err faults.Failed) told = ap cleared_answer told
ending_cleared raw (Err (faults.Damaged name)) told =
    ⊎_elim (λ d. inl (ap cleared_answer d)) (λ m. inr (ap cleared_answer m)) told
ending_cleared raw (Err faults.NoMemory) told = ap cleared_answer told
ending_cleared raw (Err (faults.TreeLost host chip)) told = ap cleared_answer told

-- ---- the row

module _ (before : UserState) (ready : IsReady before) (sound : IsSound before) (token : Token)
    (due : IsDue before (Clear token)) (whole : before.stored.lost ≡ None) where
  abbrev turn : Turn
  turn = Clear token

  -- the session has a main key
  pub clear_main : is_some (main_in before.sessions.kept token) ≡ true
  clear_main = main_there before.sessions.kept token sound.keyed
      (test_at (turn_refusals (outline_in before) turn before.last) due 0)
      (test_at (turn_refusals (outline_in before) turn before.last) due 2)

  module _ (stash : Stash) (stash_is : before.stored.stash ≡ Some stash) (contents : Contents) (user : User) (keys : Keys)
      (fits : Fits before contents user keys)
      (holds : HoldsUnder (is_lost before) contents before.account user.durable keys) where
    clear : contents.doubt ≡ None
    clear = (settled_now before ready contents user keys fits).kept.clear

    held_clear : HoldsBy (is_lost before) contents before.account user.durable keys stash
    held_clear = subst (λ c. HoldsBy (is_lost before) c before.account user.durable keys stash)
        (settled_same contents clear) (held_beside before ready stash stash_is contents user keys fits holds)

    are_rows : (label : Bytes) → Matches (IsRowOf contents.records before.account label) (get stash.blocks label)
        (get before.stored.factors label)
    are_rows label = subst (λ x. Matches (IsRowOf contents.records before.account label) (block_in x label)
        (get before.stored.factors label)) stash_is
        ((settled_now before ready contents user keys fits).kept.is_loaded.rows label)

    -- the first one that is shown is the machine's
    counted : first_shown (map (line_in false contents.leaves) (entries before.stored.factors))
        ≡ option_map (λ (e : Bytes × Factor). e.0) (first_counted (entries user.durable.factors))
    counted =
        let lines : map (line_in false contents.leaves) (entries before.stored.factors)
        ≡ map line_of (entries user.durable.factors) =
        subst (λ (b : Bool). map (line_in b contents.leaves) (entries before.stored.factors)
        ≡ map line_of (entries user.durable.factors)) (ap is_some whole)
        (lines_held contents before.account user.durable keys stash (is_lost before) held_clear before.stored.factors
        are_rows (ap is_some whole)) in
        ap first_shown lines ∙ shown_counted (entries user.durable.factors)

    -- where none is shown there is none
    none_row : (era : Era) → TellsFirst (entries before.stored.factors) (Ok None) contents
        → Row era user turn answers.PinsClear user
    none_row era told = row_by era user turn [] answers.PinsClear user
        (as_user before ready contents user keys turn None fits holds due)
        (ap (λ (o : Option (Bytes × Factor)). cleared_by o user)
        (mapped_none (first_counted (entries user.durable.factors)) (sym counted ∙ sym told)))

    module _ (label : Bytes) (row : FactorRecord) (at : get before.stored.factors label ≡ Some row) (tree : ℕ)
        (names : row.leaf ≡ Some tree) (main : Bytes) (proved : main_in before.sessions.kept token ≡ Some main) where
      abbrev own : Factor
      own = its before ready token label stash stash_is row at tree names whole main proved contents user keys fits holds

      -- where one is shown it is set back
      some_row : (era : Era) → TellsFirst (entries before.stored.factors) (Ok (Some label)) contents
          → Row era user turn answers.PinCleared (record user {
            durable = set_back before ready token label stash stash_is row at tree names whole main proved contents user
                keys fits holds;
          })
      some_row era told =
          let first = mapped_some (first_counted (entries user.durable.factors)) label (sym counted ∙ sym told) in
          let found : get user.durable.factors first.0.0 ≡ Some first.0.1 =
          counted_among (λ (e : Bytes × Factor). get user.durable.factors e.0 ≡ Some e.1)
          (entries user.durable.factors)
          (recursion_from_All (λ (e : Bytes × Factor). get user.durable.factors e.0 ≡ Some e.1)
          (entries user.durable.factors)
          (Everywhere-entries (λ n y. get user.durable.factors n ≡ Some y) user.durable.factors
          (λ n. itself (get user.durable.factors n)))) first.0 first.1 in
          let same : first.0.1 ≡ own = from_some first.0.1 own
          (sym found ∙ ap (get user.durable.factors) first.2
          ∙ there before ready token label stash stash_is row at tree names whole main proved contents user keys fits
          holds) in
          row_by era user turn [] answers.PinCleared (record user {
            durable = set_back before ready token label stash stash_is row at tree names whole main proved contents user
                keys fits holds;
          }) (as_user before ready contents user keys turn None fits holds due)
          (ap (λ (o : Option (Bytes × Factor)). cleared_by o user) first.1
          ∙ (λ i. gives answers.PinCleared (set_factor user (first.2 i) (cleared (same i)))))

  -- ---- turns

  module _ (stash : Stash) (stash_is : before.stored.stash ≡ Some stash) (old mid : ShareSeen) (most : ℕ) where
    -- no PIN has a count
    pub none_given : (failed : Type 0)
        → Looks old mid failed most (TellsFirst (entries before.stored.factors) (Ok None))
        → IsGiven old mid before before turn answers.PinsClear
    none_given failed l =
        looked_given old mid mid before ready turn failed most
        (TellsFirst (entries before.stored.factors) (Ok None)) l [] (runs_none mid) (omega arith) answers.PinsClear
        before (λ e. let z : ◌≡◌ {A = Answer} answers.PinsClear answers.StorageFault = e in absurd (cc z))
        (record { account = refl; cost = refl; lost = refl })
        (λ seen contents user keys p told end same.
        subst (Leads before.account (Given old.era user turn answers.PinsClear) before (l.steps ++ []) user) (sym same) (record {
          next = user;
          keys = keys;
          allowed = by_row (none_row stash stash_is contents user keys p.fits p.holds old.era told);
          fits = p.fits;
          holds = inl p.holds;
          idle = λ none. record { durable = refl; other = refl };
        }))

    -- a look has a fault
    pub fault_given : (failed : Type 0) (P : Contents → Type 0) → Looks old mid failed most P → (fault : StoreFault)
        → IsListFault fault → (answer : Answer) → IsRefusal fault answer → IsGiven old mid before before turn answer
    fault_given failed P l fault only answer is =
        let stands = list_stands fault answer only is in
        looked_stood old mid mid before ready turn failed most P l [] (runs_none mid) (omega arith) answer tt stands.0
        stands.1 (λ contents user keys fits holds end fold. fold)
      where
        list_stands : (f : StoreFault) (a : Answer) → IsListFault f → IsRefusal f a
            → IsStandIn a × (a ≢ answers.StorageFault)
        list_stands faults.Failed a only is = refusal_stands faults.Failed a tt is
        list_stands (faults.Damaged name) a only is = damaged_stands name a is
        list_stands faults.NoMemory a only is = refusal_stands faults.Failed a tt is
        list_stands (faults.TreeLost host chip) a only is = absurd only

    -- a PIN was found with a count
    module _ (label : Bytes) (row : FactorRecord) (at : get before.stored.factors label ≡ Some row) (tree : ℕ)
        (names : row.leaf ≡ Some tree) (lost : is_some old.lost ≡ is_lost before) (share_whole : old.lost ≡ None)
        (failed : Type 0) (l : Looks old mid failed most (TellsFirst (entries before.stored.factors) (Ok (Some label))))
        (new : ShareSeen) (after : UserState) (raw : Answer) where
      abbrev Found : Contents → Type 0
      Found = TellsFirst (entries before.stored.factors) (Ok (Some label))

      -- nothing was reset
      nothing_given : (new ≡ mid) × (after ≡ before)
          × ((raw ≡ answers.NoMemory) ⊎ (raw ≡ answers.Damaged (stash_name before.account)))
          → IsGiven old new before after turn (cleared_answer raw)
      nothing_given n =
          let stands = damaged_stands (stash_name before.account) (cleared_answer raw)
          (⊎_elim (λ m. inr (ap cleared_answer m)) (λ d. inl (ap cleared_answer d)) n.2) in
          subst (λ (t : ShareSeen × UserState). IsGiven old t.0 before t.1 turn (cleared_answer raw))
          (λ i. (sym n.0 i, sym n.1 i))
          (looked_stood old mid mid before ready turn failed most Found l [] (runs_none mid) (omega arith)
          (cleared_answer raw) tt stands.0 stands.1 (λ contents user keys fits holds end fold. fold))

      by_view : (reset : Reset) → IsResetUnder token label before reset → (late : ShareSeen)
          (view : Result LeafView StoreFault)
          → Looks mid late (IsErrOf view faults.Failed) 1 (TellsView before.account reset.tree view)
          → IfErr view IsLookFault → SeenEnds late new reset view before after raw
          → IsGiven old new before after turn (cleared_answer raw)
      by_view reset under late (Ok view) looks only e =
          seen_given before ready token label stash stash_is row at tree names whole under.main under.main_is turn tt
          answers.PinCleared
          (λ k. let z : ◌≡◌ {A = Answer} answers.PinCleared answers.StorageFault = k in cc z) reset under.made
          under.label_is old new lost share_whole late view _ (most + 1)
          (λ c. Found c × TellsView before.account reset.tree (Ok view) c) after raw (cleared_answer raw)
          (looks_then old mid late failed _ _ most 1 (most + 1) Found
          (TellsView before.account reset.tree (Ok view)) _ l looks (omega arith) (λ f. f) (λ c found told. (found, told)))
          (λ contents told. told.1)
          (λ contents user keys fits holds told. some_row stash stash_is contents user keys fits holds label row at tree
          names under.main under.main_is old.era told.0)
          (ending_cleared raw) e
      by_view reset under late (Err fault) looks only e =
          let stands = refusal_stands fault raw only e.2 in
          let same = refused_same fault raw only e.2 in
          subst (λ (t : ShareSeen × UserState × Answer). IsGiven old t.0 before t.1 turn t.2)
          (λ i. (sym e.0 i, sym e.1 i, sym same i))
          (looked_stood old late late before ready turn _ (most + 1)
          (λ c. Found c × TellsView before.account reset.tree (Err fault) c)
          (looks_then old mid late failed _ (IsErrOf {T = LeafView} (Err fault) faults.Failed) most 1 (most + 1) Found
          (TellsView before.account reset.tree (Err fault)) _ l looks (omega arith) (λ f. f)
          (λ c found told. (found, told))) [] (runs_none late) (omega arith) raw tt stands.0 stands.1
          (λ contents user keys fits holds end fold. fold))

      pub cleared_given : ResetsLeaf mid new token label before after raw
          → IsGiven old new before after turn (cleared_answer raw)
      cleared_given resets = ⊎_elim nothing_given
          (λ r. by_view r.0 r.1 r.2.mid r.2.view r.2.looks r.2.only r.2.ends) resets
