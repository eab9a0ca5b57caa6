-- A password is removed.
use Rattle.std.proofs.Common.{◌≡◌, ◌≢◌, ℕ, ◌-◌, ◌≤◌, ◌==◌, Bool, true, false, cond, not, [], None, Some, refl, sym, ap, ◌∙◌, subst, is_some, true≢false, arith}
use Rattle.std.specs.Prelude.{IfSome, IsSomeAnd, IsTrue, ◌&&◌, option_map}
use Rattle.std.specs.Cmp.Lexicographic.{nat_list_cmp_total}
use Rattle.std.specs.FinMap.{get, remove, len, len-remove}
use Rattle.name_map.specs.Mapped.{map_values}
use Rattle.name_map.proofs.MappedLemmas.{get-map_values, len-map_values}
use Rattle.pw_types.specs.declared.era.Era.{Era}
use Rattle.account_machine.specs.Outline.{Marks, Outline, is_password_kind, is_pin_kind, passwords, pins}
use Rattle.account_machine.specs.Row.{turn_refusals, is_password_mark}
use Rattle.account_machine.specs.Step.{refusal_now}
use Rattle.account_machine.specs.User.{mark_of, outline_of}
use Rattle.account_machine.specs.declared.answer.Answer.TheVariants as answers
use Rattle.account_machine.specs.declared.factor.Factor.{Factor}
use Rattle.account_machine.specs.declared.factor.Kind.{Kind}
use Rattle.account_machine.specs.declared.factor.Kind.TheVariants.{Password, Pin}
use Rattle.account_machine.specs.declared.factor.Mark.{Mark}
use Rattle.account_machine.specs.declared.request.Request.TheVariants.{RemoveFactor}
use Rattle.account_machine.specs.declared.request.Turn.{Turn}
use Rattle.account_machine.specs.declared.request.Turn.TheVariants.{Act}
use Rattle.account_machine.specs.declared.session.Token.{Token}
use Rattle.account_machine.specs.declared.user.User.{User}
use Rattle.factor_files.specs.declared.factor.FactorRecord.{FactorRecord}
use Rattle.home_edits.specs.Removals.{LosesFactor, RemovesFactor, KeepsPassword}
use Rattle.home_edits.proofs.CountLemmas.{count_taken, another}
use Rattle.turn_edits.proofs.Tests.{test_at}
use Rattle.record_names.specs.Names.{is_factor_label}
use Rattle.share_api.specs.Contents.{Bytes, Contents, settled}
use Rattle.stash_format.specs.declared.contents.Contents.{Contents as Stash}
use Rattle.stored_home.specs.Bounds.{HasBounds}
use Rattle.stored_home.specs.Changes.{durable_without}
use Rattle.stored_home.specs.Holds.{Keys, HoldsBy, HoldsUnder}
use Rattle.user_state.specs.Fits.{Fits, is_lost}
use Rattle.user_state.specs.Outlines.{mark_in, outline_in}
use Rattle.user_state.specs.Sound.{IsSound}
use Rattle.user_state.specs.declared.state.UserState.{UserState}
use Rattle.stored_home.proofs.MapLemmas.{taken_other}
use Rattle.user_state.proofs.OutlineLemmas.{same_outline}
use Rattle.turn_rows.specs.Due.{IsReady, IsDue}
use Rattle.turn_rows.proofs.Quiet.{row_by, as_user}
use Rattle.turn_edits.proofs.EditGiven.{OwesTold}
use Rattle.turn_edits.proofs.Factors.{mapped_removed, made_of, is_made, own_stash, block_of, payload_there, is_labelled, leafless, two_blocks}
use Rattle.turn_edits.proofs.Held.{held_beside, stash_by}
use Rattle.turn_edits.proofs.Tallies.{AreToldApart, removal_told}

not_not : (b : Bool) → not b ≡ false → b ≡ true
not_not true e = refl
not_not false e = absurd (true≢false e)

password_is : (kind : Kind) → is_password_kind kind ≡ true → kind ≡ Password
password_is Password e = refl
password_is Pin e = absurd (true≢false (sym e))

-- of two passwords another is left
left_password : (marks : Marks) (label : Bytes) (mark : Mark) → get marks label ≡ Some mark → mark.kind ≡ Password
    → (is_password_mark (get marks label) && passwords marks == 1) ≡ false
    → (q : Bytes) × (other : Mark) × (q ≢ label) × (get marks q ≡ Some other)
    × (is_password_kind other.kind ≡ true)
left_password marks label mark there password test =
    let yes : is_password_kind mark.kind ≡ true = ap is_password_kind password in
    another (λ (m : Mark). is_password_kind m.kind) marks label mark there yes
    (sym (ap (λ (b : Bool). b && passwords marks == 1) (ap is_password_mark there ∙ yes)) ∙ test)

-- what is left keeps the bounds
removed_bounds : (user : User) (label : Bytes) → HasBounds user.durable
    → (q : Bytes) (factor : Factor) → q ≢ label → get user.durable.factors q ≡ Some factor → factor.kind ≡ Password
    → HasBounds (durable_without user.durable label)
removed_bounds user label b q factor apart there password =
    let marks : Marks = map_values mark_of user.durable.factors in
    record {
      factors = (let size : len (map_values mark_of (remove user.durable.factors label)) ≡ len (remove
          user.durable.factors label) =
          len-map_values mark_of (remove user.durable.factors label) in
          let before : len (map_values mark_of user.durable.factors) ≡ len user.durable.factors =
          len-map_values mark_of user.durable.factors in
          let most = b.factors in
          let less = fewer (is_some (get user.durable.factors label)) (len user.durable.factors) in
          let step : len (remove user.durable.factors label)
          ≡ cond (is_some (get user.durable.factors label)) (len user.durable.factors - 1) (len user.durable.factors) =
          len-remove nat_list_cmp_total user.durable.factors label in
          omega (arith, size, before, most, less, step));
      pins = (let step : pins (remove marks label) ≤ pins marks =
          count_taken (λ (m : Mark). is_pin_kind m.kind) marks label in
          let most = b.pins in
          subst (λ (m : Marks). pins m ≤ 8) (sym (mapped_removed mark_of user.durable.factors label))
          (omega (arith, step, most)));
      label = q;
      factor = factor;
      there = taken_other user.durable.factors label q apart ∙ there;
      is_password = password;
      files = b.files;
    }
  where
    fewer : (some : Bool) (n : ℕ) → cond some (n - 1) n ≤ n
    fewer true n = omega arith
    fewer false n = omega arith

module _ (before : UserState) (ready : IsReady before) (sound : IsSound before) (account : Bytes) (token : Token)
    (label : Bytes) (due : IsDue before (Act (RemoveFactor account token label)))
    (password : IfSome (get before.stored.factors label) (λ (row : FactorRecord). row.kind ≡ Password)) where
  abbrev turn : Turn
  turn = Act (RemoveFactor account token label)

  stash : (stash : Stash) × (before.stored.stash ≡ Some stash)
  stash = stash_by before.stored.stash
      (not_not (is_some before.stored.stash) (test_at (turn_refusals (outline_in before) turn before.last) due 0))

  row : (row : FactorRecord) × (get before.stored.factors label ≡ Some row)
  row = is_made mark_in before.stored.factors label
      (test_at (turn_refusals (outline_in before) turn before.last) due 5)

  kind : row.0.kind ≡ Password
  kind = subst (λ o. IfSome o (λ (r : FactorRecord). r.kind ≡ Password)) row.1 password

  mark_there : get (map_values mark_in before.stored.factors) label ≡ Some (mark_in row.0)
  mark_there = get-map_values mark_in before.stored.factors label
      ∙ ap (option_map mark_in) row.1

  left : (q : Bytes) × (other : Mark) × (q ≢ label) × (get (map_values mark_in before.stored.factors) q ≡ Some other)
      × (is_password_kind other.kind ≡ true)
  left = left_password (map_values mark_in before.stored.factors) label (mark_in row.0) mark_there kind
      (test_at (turn_refusals (outline_in before) turn before.last) due 6)

  left_row : (r : FactorRecord) × (get before.stored.factors left.0 ≡ Some r) × (mark_in r ≡ left.1)
  left_row = made_of mark_in before.stored.factors left.0 left.1 left.3

  -- another password is left
  pub keeps_password : KeepsPassword label before.stored.factors
  keeps_password = record {
    other = left.0;
    row = left_row.0;
    apart = left.2;
    there = left_row.1;
    is_password = ap (λ (m : Mark). m.kind) left_row.2 ∙ password_is left.1.kind left.4;
  }

  -- the stash may lose the block
  pub loses : IsSomeAnd before.stored.stash (LosesFactor label)
  loses = subst (λ o. IsSomeAnd o (LosesFactor label)) (sym stash.1) (record {
    there = payload_there before.account before.stored sound.coherent stash.0 stash.1 label row.0 row.1;
    found = ap is_some (block_of before.account before.stored sound.coherent stash.0 stash.1 label row.0 row.1).1;
    others = two_blocks before.account before.stored sound.coherent stash.0 stash.1 label row.0 row.1 left.0 left_row.0
        left.2 left_row.1;
    short = (own_stash before.account before.stored sound.coherent stash.0 stash.1).short;
  })

  pub labelled : IsTrue (is_factor_label label)
  labelled = is_labelled before.account before.stored sound.coherent stash.0 stash.1 label row.0 row.1

  pub known : IsSomeAnd (get before.stored.factors label) (λ (r : FactorRecord). r.leaf ≡ None)
  known = subst (λ o. IsSomeAnd o (λ (r : FactorRecord). r.leaf ≡ None)) (sym row.1)
      (leafless before.account before.stored sound.coherent stash.0 stash.1 label row.0 row.1 kind)

  module _ (contents : Contents) (user : User) (keys : Keys) (fits : Fits before contents user keys)
      (holds : HoldsUnder (is_lost before) contents before.account user.durable keys) where
    none : refusal_now user turn ≡ None
    none = as_user before ready contents user keys turn None fits holds due

    held : HoldsBy (is_lost before) (settled contents) before.account user.durable keys
        stash.0
    held = held_beside before ready stash.0 stash.1 contents user keys fits holds

    factor : (factor : Factor) × (get user.durable.factors label ≡ Some factor)
    factor = is_made mark_of user.durable.factors label (test_at (turn_refusals (outline_of user) turn user.last)
        none 5)

    left_factor : (f : Factor) × (get user.durable.factors left.0 ≡ Some f) × (mark_of f ≡ left.1)
    left_factor =
        let same : outline_in before ≡ outline_of user =
        same_outline before contents user keys ready.plain fits ready.settled holds in
        made_of mark_of user.durable.factors left.0 left.1
        (ap (λ (o : Outline). get o.home.marks left.0) (sym same) ∙ left.3)

    pub remove_told_apart : AreToldApart user.durable (durable_without user.durable label)
    remove_told_apart = removal_told user.durable label held.made (ap is_some factor.1)

    -- the durable part without the factor
    pub remove_owes : (era : Era) → OwesTold era turn (RemovesFactor label) contents user keys
    remove_owes era = record {
      durable = durable_without user.durable label;
      row = row_by era user turn [] answers.Ok (record user { durable = durable_without user.durable label }) none refl;
      asked = record {
        after_is = refl;
        bounds = removed_bounds user label
            (held.bounds (payload_there before.account before.stored sound.coherent stash.0 stash.1 label row.0 row.1))
            left.0 left_factor.0 left.2 left_factor.1
            (ap (λ (m : Mark). m.kind) left_factor.2 ∙ password_is left.1.kind left.4);
      };
      told = remove_told_apart;
    }
