-- A PIN is removed.
use Rattle.std.proofs.Common.{◌≡◌, ◌≢◌, ℕ, ◌-◌, ◌≤◌, Bool, true, false, cond, not, [], Option, None, Some, refl, sym, ap, ◌∙◌, subst, is_some, true≢false, arith}
use Rattle.std.specs.Prelude.{IfSome, IsSome, IsSomeAnd, IsTrue, option_map}
use Rattle.std.specs.Cmp.Lexicographic.{nat_list_cmp_total}
use Rattle.std.specs.FinMap.{get, remove, len, len-remove}
use Rattle.name_map.specs.Mapped.{map_values}
use Rattle.name_map.proofs.MappedLemmas.{get-map_values, len-map_values}
use Rattle.pw_types.specs.declared.era.Era.{Era}
use Rattle.account_machine.specs.Outline.{Marks, Outline, is_pin_kind, pins}
use Rattle.account_machine.specs.Row.{turn_refusals, turn_names_tree, is_pin_mark}
use Rattle.account_machine.specs.Step.{refusal_now}
use Rattle.account_machine.specs.User.{mark_of, outline_of}
use Rattle.account_machine.specs.declared.answer.Answer.TheVariants as answers
use Rattle.account_machine.specs.declared.factor.Factor.{Factor}
use Rattle.account_machine.specs.declared.factor.Kind.{Kind}
use Rattle.account_machine.specs.declared.factor.Kind.TheVariants.{Password, Pin}
use Rattle.account_machine.specs.declared.factor.Mark.{Mark}
use Rattle.account_machine.specs.declared.request.Request.TheVariants.{RemoveFactor}
use Rattle.account_machine.specs.declared.request.Turn.{Turn}
use Rattle.account_machine.specs.declared.request.Turn.TheVariants.{Act}
use Rattle.account_machine.specs.declared.session.Token.{Token}
use Rattle.account_machine.specs.declared.user.User.{User}
use Rattle.factor_files.specs.Record.{LeafFits}
use Rattle.factor_files.specs.declared.factor.FactorRecord.{FactorRecord}
use Rattle.home_edits.specs.Removals.{LosesFactor, RemovesFactor}
use Rattle.home_edits.proofs.CountLemmas.{count_taken}
use Rattle.record_names.specs.Names.{is_factor_label}
use Rattle.share_api.specs.Contents.{Bytes, Contents, settled}
use Rattle.stash_format.specs.declared.contents.Contents.{Contents as Stash}
use Rattle.stored_home.specs.Bounds.{HasBounds}
use Rattle.stored_home.specs.Changes.{durable_without}
use Rattle.stored_home.specs.Coherent.{KeepsBounds}
use Rattle.stored_home.specs.Holds.{Keys, HoldsBy, HoldsUnder}
use Rattle.stored_home.proofs.MapLemmas.{from_some, taken_other}
use Rattle.user_state.specs.Fits.{Fits, is_lost}
use Rattle.user_state.specs.Outlines.{mark_in, outline_in}
use Rattle.user_state.specs.Sound.{IsSound}
use Rattle.user_state.specs.declared.state.UserState.{UserState}
use Rattle.user_state.proofs.OutlineLemmas.{same_outline}
use Rattle.turn_rows.specs.Due.{IsReady, IsDue}
use Rattle.turn_rows.proofs.Quiet.{row_by, as_user}
use Rattle.turn_edits.proofs.EditGiven.{OwesTold}
use Rattle.turn_edits.proofs.Factors.{mapped_removed, made_of, is_made, own_stash, block_of, payload_there, is_labelled, two_blocks}
use Rattle.turn_edits.proofs.Held.{held_beside, stash_by}
use Rattle.turn_edits.proofs.Tallies.{removal_told}
use Rattle.turn_edits.proofs.Tests.{test_at}
use Rattle.turn_pins.specs.Pins.{IsPinAt}

not_not : (b : Bool) → not b ≡ false → b ≡ true
not_not true e = refl
not_not false e = absurd (true≢false e)

-- a PIN is no password
pub kinds_apart : (kind : Kind) → kind ≡ Password → kind ≡ Pin → ⊥
kinds_apart kind password pin = let z : ◌≡◌ {A = Kind} Password Pin = sym password ∙ pin in cc z

-- a PIN's record names a leaf
pub leaf_there : (kind : Kind) (leaf : Option ℕ) → kind ≡ Pin → LeafFits kind leaf → IsSome leaf
leaf_there kind leaf is fits = by leaf (subst (λ k. LeafFits k leaf) is fits)
  where
    by : (o : Option ℕ) → LeafFits Pin o → IsSome o
    by None h = absurd h
    by (Some tree) h = refl

-- what is left of a home without a PIN keeps the bounds
bounds_without : (user : User) (label : Bytes) (b : HasBounds user.durable) → b.label ≢ label
    → HasBounds (durable_without user.durable label)
bounds_without user label b apart =
    let marks : Marks = map_values mark_of user.durable.factors in
    record {
      factors = (let size : len (map_values mark_of (remove user.durable.factors label)) ≡ len (remove
          user.durable.factors label) =
          len-map_values mark_of (remove user.durable.factors label) in
          let before : len (map_values mark_of user.durable.factors) ≡ len user.durable.factors =
          len-map_values mark_of user.durable.factors in
          let most = b.factors in
          let less = fewer (is_some (get user.durable.factors label)) (len user.durable.factors) in
          let step : len (remove user.durable.factors label)
          ≡ cond (is_some (get user.durable.factors label)) (len user.durable.factors - 1) (len user.durable.factors) =
          len-remove nat_list_cmp_total user.durable.factors label in
          omega (arith, size, before, most, less, step));
      pins = (let step : pins (remove marks label) ≤ pins marks =
          count_taken (λ (m : Mark). is_pin_kind m.kind) marks label in
          let most = b.pins in
          subst (λ (m : Marks). pins m ≤ 8) (sym (mapped_removed mark_of user.durable.factors label))
          (omega (arith, step, most)));
      label = b.label;
      factor = b.factor;
      there = taken_other user.durable.factors label b.label apart ∙ b.there;
      is_password = b.is_password;
      files = b.files;
    }
  where
    fewer : (some : Bool) (n : ℕ) → cond some (n - 1) n ≤ n
    fewer true n = omega arith
    fewer false n = omega arith

module _ (before : UserState) (ready : IsReady before) (sound : IsSound before) (account : Bytes) (token : Token)
    (label : Bytes) (due : IsDue before (Act (RemoveFactor account token label)))
    (pin : IsPinAt before.stored label) where
  abbrev turn : Turn
  turn = Act (RemoveFactor account token label)

  stash : (stash : Stash) × (before.stored.stash ≡ Some stash)
  stash = stash_by before.stored.stash
      (not_not (is_some before.stored.stash) (test_at (turn_refusals (outline_in before) turn before.last) due 0))

  row : (row : FactorRecord) × (get before.stored.factors label ≡ Some row)
  row = is_made mark_in before.stored.factors label
      (test_at (turn_refusals (outline_in before) turn before.last) due 5)

  kind : row.0.kind ≡ Pin
  kind = subst (λ o. IfSome o (λ (r : FactorRecord). r.kind ≡ Pin)) row.1 pin

  mark_there : get (map_values mark_in before.stored.factors) label ≡ Some (mark_in row.0)
  mark_there = get-map_values mark_in before.stored.factors label ∙ ap (option_map mark_in) row.1

  -- the turn names the tree
  pub remove_named : turn_names_tree (outline_in before) turn ≡ true
  remove_named = ap is_pin_mark mark_there ∙ ap is_pin_kind kind

  has_payload : IsSome stash.0.payload
  has_payload = payload_there before.account before.stored sound.coherent stash.0 stash.1 label row.0 row.1

  -- a password is there, and it is another factor
  bounds : KeepsBounds before.stored
  bounds = sound.coherent.bounds (subst (λ o. IsSomeAnd o (λ (s : Stash). IsSome s.payload)) (sym stash.1) has_payload)

  other : bounds.label ≢ label
  other same = kinds_apart row.0.kind
      (ap (λ (r : FactorRecord). r.kind)
      (from_some row.0 bounds.row (sym row.1 ∙ ap (get before.stored.factors) (sym same) ∙ bounds.there))
      ∙ bounds.is_password) kind

  -- the stash may lose the block
  pub pin_loses : IsSomeAnd before.stored.stash (LosesFactor label)
  pin_loses = subst (λ o. IsSomeAnd o (LosesFactor label)) (sym stash.1) (record {
    there = has_payload;
    found = ap is_some (block_of before.account before.stored sound.coherent stash.0 stash.1 label row.0 row.1).1;
    others = two_blocks before.account before.stored sound.coherent stash.0 stash.1 label row.0 row.1 bounds.label
        bounds.row other bounds.there;
    short = (own_stash before.account before.stored sound.coherent stash.0 stash.1).short;
  })

  pub pin_labelled : IsTrue (is_factor_label label)
  pin_labelled = is_labelled before.account before.stored sound.coherent stash.0 stash.1 label row.0 row.1

  pub pin_known : IsSomeAnd (get before.stored.factors label) (λ (r : FactorRecord). IsSome r.leaf)
  pin_known = subst (λ o. IsSomeAnd o (λ (r : FactorRecord). IsSome r.leaf)) (sym row.1)
      (leaf_there row.0.kind row.0.leaf kind
      (block_of before.account before.stored sound.coherent stash.0 stash.1 label row.0 row.1).2.plain.leaf)

  module _ (contents : Contents) (user : User) (keys : Keys) (fits : Fits before contents user keys)
      (holds : HoldsUnder (is_lost before) contents before.account user.durable keys) where
    none : refusal_now user turn ≡ None
    none = as_user before ready contents user keys turn None fits holds due

    held : HoldsBy (is_lost before) (settled contents) before.account user.durable keys stash.0
    held = held_beside before ready stash.0 stash.1 contents user keys fits holds

    -- the label's factor is a PIN
    factor : (f : Factor) × (get user.durable.factors label ≡ Some f) × (mark_of f ≡ mark_in row.0)
    factor =
        let same : outline_in before ≡ outline_of user =
        same_outline before contents user keys ready.plain fits ready.settled holds in
        made_of mark_of user.durable.factors label (mark_in row.0)
        (ap (λ (o : Outline). get o.home.marks label) (sym same) ∙ mark_there)

    held_bounds : HasBounds user.durable
    held_bounds = held.bounds has_payload

    apart : held_bounds.label ≢ label
    apart same = kinds_apart factor.0.kind
        (ap (λ (f : Factor). f.kind)
        (from_some factor.0 held_bounds.factor
        (sym factor.1 ∙ ap (get user.durable.factors) (sym same) ∙ held_bounds.there))
        ∙ held_bounds.is_password)
        (ap (λ (m : Mark). m.kind) factor.2 ∙ kind)

    -- the durable part without the factor
    pub remove_owes : (era : Era) → OwesTold era turn (RemovesFactor label) contents user keys
    remove_owes era = record {
      durable = durable_without user.durable label;
      row = row_by era user turn [] answers.Ok (record user { durable = durable_without user.durable label }) none refl;
      asked = record { after_is = refl; bounds = bounds_without user label held_bounds apart };
      told = removal_told user.durable label held.made (ap is_some factor.1);
    }
