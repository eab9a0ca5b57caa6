-- A password is added to a home with factors, or gets another secret.
use Rattle.std.proofs.Common.{◌≡◌, ◌≢◌, ℕ, ◌-◌, ◌^◌, ◌≤◌, ◌<◌, ◌==◌, Bool, true, false, cond, not, List, [], length, Option, None, Some, refl, sym, ap, ◌∙◌, subst, ⊎_elim, is_some, true≢false, arith}
use Rattle.std.proofs.lemmas.Bool.{eqb-false, eqb-true, leb-false}
use Rattle.std.specs.Prelude.{IfSome, IsSome, IsSomeAnd, IsTrue, nat_le, ◌&&◌, ◌||◌, option_map, option_and_then}
use Rattle.std.specs.FinMap.{get, insert, len, entries, values, len-entries}
use Rattle.std.proofs.lemmas.List.{length-map}
use Rattle.std.proofs.lemmas.List.Sums.{count_by-le-length}
use Rattle.name_map.specs.Mapped.{map_values}
use Rattle.name_map.proofs.MappedLemmas.{get-map_values, len-map_values}
use Rattle.pw_types.specs.declared.era.Era.{Era}
use Rattle.account_machine.specs.Effect.{gives, with_factor, new_factor, usual_schedule}
use Rattle.account_machine.specs.Outline.{Marks, Outline, is_pin_kind, pins, session_at}
use Rattle.account_machine.specs.Row.{turn_refusals, is_full, is_not_authorised}
use Rattle.account_machine.specs.Sessions.{changed}
use Rattle.account_machine.specs.Step.{refusal_now}
use Rattle.account_machine.specs.User.{mark_of, outline_of}
use Rattle.account_machine.specs.declared.answer.Answer.TheVariants as answers
use Rattle.account_machine.specs.declared.factor.Factor.{Factor}
use Rattle.account_machine.specs.declared.factor.Kind.{Kind}
use Rattle.account_machine.specs.declared.factor.Kind.TheVariants.{Password}
use Rattle.account_machine.specs.declared.factor.Mark.{Mark}
use Rattle.account_machine.specs.declared.request.Request.TheVariants.{AddFactor, UpdateFactor}
use Rattle.account_machine.specs.declared.request.Turn.{Turn}
use Rattle.account_machine.specs.declared.request.Turn.TheVariants.{Act}
use Rattle.account_machine.specs.declared.session.Token.{Token}
use Rattle.account_machine.specs.declared.user.Durable.{Durable}
use Rattle.account_machine.specs.declared.user.User.{User}
use Rattle.auth_session.specs.Table.{sessions_in}
use Rattle.factor_files.specs.declared.factor.FactorRecord.{FactorRecord}
use Rattle.home_edits.specs.Passwords.{TakesFactor, SetsPassword}
use Rattle.home_edits.proofs.CountLemmas.{count_put}
use Rattle.turn_edits.proofs.Tests.{test_at}
use Rattle.record_names.specs.Names.{is_factor_label}
use Rattle.scrypt_kdf.specs.Derive.{derive}
use Rattle.share_api.specs.Contents.{Bytes, Contents, settled}
use Rattle.stash_format.specs.declared.contents.Contents.{Contents as Stash}
use Rattle.stored_home.specs.Bounds.{HasBounds}
use Rattle.stored_home.specs.Coherent.{KeepsBounds}
use Rattle.stored_home.specs.Holds.{Keys, HoldsBy, HoldsUnder}
use Rattle.stored_home.specs.declared.derived.Derived.{Derived}
use Rattle.stored_home.proofs.MapLemmas.{either, put_at, not_None}
use Rattle.user_state.specs.Fits.{Fits, is_lost}
use Rattle.user_state.specs.Outlines.{next_in, mark_in, outline_in}
use Rattle.user_state.specs.Sound.{IsSound}
use Rattle.user_state.specs.declared.state.UserState.{UserState}
use Rattle.user_state.proofs.OutlineLemmas.{same_outline}
use Rattle.turn_rows.specs.Due.{IsReady, IsDue}
use Rattle.turn_rows.proofs.Quiet.{row_by, as_user}
use Rattle.turn_edits.specs.Sessions.{main_in}
use Rattle.turn_edits.specs.Stashes.{has_payload}
use Rattle.turn_edits.proofs.EditGiven.{OwesTold}
use Rattle.turn_edits.proofs.Factors.{mapped_put, made_of, is_made, none_made, few_with, len_some, own_stash, block_of, payload_there, is_labelled, leafless, as_many}
use Rattle.turn_edits.proofs.Held.{held_beside, stash_by, factors_by}
use Rattle.turn_edits.proofs.Keyed.{main_there, main_is}
use Rattle.turn_edits.proofs.Tallies.{AreToldApart, edition_told}

not_not : (b : Bool) → not b ≡ false → b ≡ true
not_not true e = refl
not_not false e = absurd (true≢false e)

not_zero : (n : ℕ) → 1 ≤ n → (n == 0) ≡ false
not_zero n h = ⊎_elim (λ t. let z = eqb-true n 0 t in absurd (omega (arith, h, z))) (λ f. f) (either (n == 0))

-- ---- bounds

-- a password keeps the bounds, where a new label has room
pub password_bounds : (durable : Durable) (label secret : Bytes) (schedule : List (ℕ × ℕ)) → HasBounds durable
    → (get (map_values mark_of durable.factors) label ≡ None → len (map_values mark_of durable.factors) < 32)
    → HasBounds (with_factor durable label Password secret schedule)
password_bounds durable label secret schedule b room =
    let same : map_values mark_of (insert durable.factors label (new_factor Password secret durable.next schedule))
    ≡ insert (map_values mark_of durable.factors) label (record { kind = Password; edition = durable.next }) =
    mapped_put mark_of durable.factors label (new_factor Password secret durable.next schedule) in
    record {
      factors = subst (λ (m : Marks). len m ≤ 32) (sym same) (few_with 32 (map_values mark_of durable.factors) label
          (record { kind = Password; edition = durable.next }) b.factors room);
      pins = subst (λ (m : Marks). pins m ≤ 8) (sym same)
          (let step : pins (insert (map_values mark_of durable.factors) label
          (record { kind = Password; edition = durable.next })) ≤ pins (map_values mark_of durable.factors) =
          count_put (λ (m : Mark). is_pin_kind m.kind) (map_values mark_of durable.factors) label
          (record { kind = Password; edition = durable.next }) refl in
          let most = b.pins in
          omega (arith, step, most));
      label = label;
      factor = new_factor Password secret durable.next schedule;
      there = put_at durable.factors label (new_factor Password secret durable.next schedule);
      is_password = refl;
      files = b.files;
    }

-- and the first one keeps them
pub first_bounds : (durable : Durable) (label secret : Bytes) (schedule : List (ℕ × ℕ)) → len durable.factors ≡ 0
    → len durable.files ≡ 0 → HasBounds (with_factor durable label Password secret schedule)
first_bounds durable label secret schedule none no_files =
    let marks : len (map_values mark_of durable.factors) ≡ len durable.factors = len-map_values mark_of
    durable.factors in
    let same : map_values mark_of (insert durable.factors label (new_factor Password secret durable.next schedule))
    ≡ insert (map_values mark_of durable.factors) label (record { kind = Password; edition = durable.next }) =
    mapped_put mark_of durable.factors label (new_factor Password secret durable.next schedule) in
    let few : pins (map_values mark_of durable.factors) ≤ length (values (map_values mark_of durable.factors)) =
    count_by-le-length (λ (m : Mark). is_pin_kind m.kind) (values (map_values mark_of durable.factors)) in
    let size : length (values (map_values mark_of durable.factors)) ≡ len (map_values mark_of durable.factors) =
    length-map (entries (map_values mark_of durable.factors)) (λ (e : Bytes × Mark). e.1)
    ∙ sym (len-entries (map_values mark_of durable.factors)) in
    record {
      factors = subst (λ (m : Marks). len m ≤ 32) (sym same) (few_with 32 (map_values mark_of durable.factors) label
          (record { kind = Password; edition = durable.next }) (omega (arith, marks, none))
          (λ _. omega (arith, marks, none)));
      pins = subst (λ (m : Marks). pins m ≤ 8) (sym same)
          (let step : pins (insert (map_values mark_of durable.factors) label
          (record { kind = Password; edition = durable.next })) ≤ pins (map_values mark_of durable.factors) =
          count_put (λ (m : Mark). is_pin_kind m.kind) (map_values mark_of durable.factors) label
          (record { kind = Password; edition = durable.next }) refl in
          omega (arith, step, few, size, marks, none));
      label = label;
      factor = new_factor Password secret durable.next schedule;
      there = put_at durable.factors label (new_factor Password secret durable.next schedule);
      is_password = refl;
      files = omega (arith, no_files);
    }

-- an edition is left
pub edition_left : (next : ℕ) → (next == (2 ^ 64 - 1)) ≡ false → next < 2 ^ 64 → next < 2 ^ 64 - 1
edition_left next test within = let apart : next ≢ 2 ^ 64 - 1 = eqb-false next (2 ^ 64 - 1) test in
    omega (arith, apart, within)

module _ (before : UserState) (ready : IsReady before) (sound : IsSound before) (label : Bytes) where
  -- ---- another secret

  module _ (account : Bytes) (token : Token) (secret : Bytes)
      (due : IsDue before (Act (UpdateFactor account token label secret)))
      (password : IfSome (get before.stored.factors label) (λ (row : FactorRecord). row.kind ≡ Password)) where
    abbrev update_turn : Turn
    update_turn = Act (UpdateFactor account token label secret)

    update_stash : (stash : Stash) × (before.stored.stash ≡ Some stash)
    update_stash = stash_by before.stored.stash (not_not (is_some before.stored.stash)
        (test_at (turn_refusals (outline_in before) update_turn before.last) due 0))

    pub update_row : (row : FactorRecord) × (get before.stored.factors label ≡ Some row)
    update_row = is_made mark_in before.stored.factors label
        (test_at (turn_refusals (outline_in before) update_turn before.last) due 5)

    update_kind : update_row.0.kind ≡ Password
    update_kind = subst (λ o. IfSome o (λ (r : FactorRecord). r.kind ≡ Password)) update_row.1 password

    -- the session has a main key
    pub update_main : is_some (main_in before.sessions.kept token) ≡ true
    update_main = main_there before.sessions.kept token sound.keyed
        (test_at (turn_refusals (outline_in before) update_turn before.last) due 1)
        (test_at (turn_refusals (outline_in before) update_turn before.last) due 4)

    -- the next edition isn't the last number
    pub update_edition : (next_in before.stored.stash == (2 ^ 64 - 1)) ≡ false
    update_edition = test_at (turn_refusals (outline_in before) update_turn before.last) due 7

    pub update_takes : IfSome before.stored.stash (λ (s : Stash). 1 ≤ s.next)
        → IfSome before.stored.stash (λ (s : Stash). s.next < 2 ^ 64)
        → IsSomeAnd before.stored.stash (TakesFactor label)
    update_takes from within = subst (λ o. IsSomeAnd o (TakesFactor label)) (sym update_stash.1) (record {
      there = payload_there before.account before.stored sound.coherent update_stash.0 update_stash.1 label
          update_row.0 update_row.1;
      from = subst (λ o. IfSome o (λ (s : Stash). 1 ≤ s.next)) update_stash.1 from;
      below = edition_left update_stash.0.next
          (subst (λ o. (next_in o == (2 ^ 64 - 1)) ≡ false) update_stash.1
          update_edition)
          (subst (λ o. IfSome o (λ (s : Stash). s.next < 2 ^ 64)) update_stash.1 within);
      room = λ none. let found = block_of before.account before.stored sound.coherent update_stash.0 update_stash.1
          label update_row.0 update_row.1 in absurd (not_None found.0 (sym found.1 ∙ none));
      short = (own_stash before.account before.stored sound.coherent update_stash.0 update_stash.1).short;
    })

    pub update_labelled : IsTrue (is_factor_label label)
    update_labelled = is_labelled before.account before.stored sound.coherent update_stash.0 update_stash.1 label
        update_row.0 update_row.1

    pub update_known : IsSomeAnd (get before.stored.factors label) (λ (r : FactorRecord). r.leaf ≡ None)
    update_known = subst (λ o. IsSomeAnd o (λ (r : FactorRecord). r.leaf ≡ None)) (sym update_row.1)
        (leafless before.account before.stored sound.coherent update_stash.0 update_stash.1 label update_row.0
        update_row.1 update_kind)

    module _ (derived : Derived) (main : Bytes) (key_is : derived.key ≡ derive secret derived.salt derived.cost)
        (proved : main_in before.sessions.kept token ≡ Some main) (contents : Contents) (user : User) (keys : Keys)
        (fits : Fits before contents user keys)
        (holds : HoldsUnder (is_lost before) contents before.account user.durable keys) where
      update_none : refusal_now user update_turn ≡ None
      update_none = as_user before ready contents user keys update_turn None fits holds due

      update_held : HoldsBy (is_lost before) (settled contents) before.account user.durable keys update_stash.0
      update_held = held_beside before ready update_stash.0 update_stash.1 contents user keys fits holds

      -- the label's factor is a password
      pub update_factor : (f : Factor) × (get user.durable.factors label ≡ Some f) × (mark_of f ≡ mark_in update_row.0)
      update_factor =
          let same : outline_in before ≡ outline_of user =
          same_outline before contents user keys ready.plain fits ready.settled holds in
          made_of mark_of user.durable.factors label (mark_in update_row.0)
          (ap (λ (o : Outline). get o.home.marks label) (sym same)
          ∙ get-map_values mark_in before.stored.factors label ∙ ap (option_map mark_in) update_row.1)

      factor_kind : update_factor.0.kind ≡ Password
      factor_kind = ap (λ (m : Mark). m.kind) update_factor.2 ∙ update_kind

      abbrev updated_durable : Durable
      updated_durable = with_factor user.durable label Password secret update_factor.0.schedule

      pub update_told_apart : AreToldApart user.durable updated_durable
      update_told_apart = edition_told user.durable updated_durable update_held.made update_held.made refl

      pub update_owes : (era : Era) → OwesTold era update_turn (SetsPassword label derived main) contents user keys
      update_owes era = record {
        durable = updated_durable;
        told = update_told_apart;
        row = row_by era user update_turn [] answers.Ok (record user { durable = updated_durable }) update_none
            (ap (option_and_then (λ (f : Factor). gives answers.Ok
            (record user { durable = with_factor user.durable label f.kind secret f.schedule }))) update_factor.1
            ∙ ap (λ (k : Kind). gives answers.Ok
            (record user { durable = with_factor user.durable label k secret update_factor.0.schedule })) factor_kind);
        asked = record {
          secret = secret;
          schedule = update_factor.0.schedule;
          main_is = main_is before.sessions.kept token main keys.main fits.has_keys.proved proved;
          key_is = key_is;
          after_is = refl;
          bounds = password_bounds user.durable label secret update_factor.0.schedule
              (update_held.bounds (payload_there before.account before.stored sound.coherent update_stash.0
              update_stash.1 label update_row.0 update_row.1))
              (λ none. absurd (not_None (mark_of update_factor.0)
              (sym (get-map_values mark_of user.durable.factors label
              ∙ ap (option_map mark_of) update_factor.1) ∙ none)));
        };
      }

  -- ---- one more

  module _ (account : Bytes) (token : Token) (secret : Bytes) (schedule : Option (List (ℕ × ℕ)))
      (due : IsDue before (Act (AddFactor account token label Password secret schedule))) where
    abbrev add_turn : Turn
    add_turn = Act (AddFactor account token label Password secret schedule)

    pub add_stash : (stash : Stash) × (before.stored.stash ≡ Some stash)
    add_stash = stash_by before.stored.stash (not_not (is_some before.stored.stash)
        (test_at (turn_refusals (outline_in before) add_turn before.last) due 0))

    pub add_edition : (next_in before.stored.stash == (2 ^ 64 - 1)) ≡ false
    add_edition = test_at (turn_refusals (outline_in before) add_turn before.last) due 9

    pub add_below : IfSome before.stored.stash (λ (s : Stash). s.next < 2 ^ 64) → add_stash.0.next < 2 ^ 64 - 1
    add_below within = edition_left add_stash.0.next
        (subst (λ o. (next_in o == (2 ^ 64 - 1)) ≡ false) add_stash.1 add_edition)
        (subst (λ o. IfSome o (λ (s : Stash). s.next < 2 ^ 64)) add_stash.1 within)

    -- the label is new
    pub add_absent : get before.stored.factors label ≡ None
    add_absent = none_made mark_in before.stored.factors label
        (test_at (turn_refusals (outline_in before) add_turn before.last) due 5)

    -- and there is room
    room_by : (o : Outline) → is_full o Password ≡ false → len o.home.marks < 32
    room_by o test = by (nat_le 32 (len o.home.marks)) refl test
      where
        by : (b : Bool) → nat_le 32 (len o.home.marks) ≡ b
            → (b || (is_pin_kind Password && nat_le 8 (pins o.home.marks))) ≡ false → len o.home.marks < 32
        by true is e = absurd (true≢false e)
        by false is e = let apart = leb-false 32 (len o.home.marks) is in omega (arith, apart)

    pub add_room : len add_stash.0.blocks < 32
    add_room =
        let marks : len (map_values mark_in before.stored.factors) < 32 = room_by (outline_in before)
        (test_at (turn_refusals (outline_in before) add_turn before.last) due 7) in
        let size : len (map_values mark_in before.stored.factors) ≡ len before.stored.factors =
        len-map_values mark_in before.stored.factors in
        let blocks = as_many before.account before.stored sound.coherent add_stash.0 add_stash.1 in
        omega (arith, marks, size, blocks)

    module _ (contents : Contents) (user : User) (keys : Keys) (fits : Fits before contents user keys)
        (holds : HoldsUnder (is_lost before) contents before.account user.durable keys) where
      pub add_none : refusal_now user add_turn ≡ None
      add_none = as_user before ready contents user keys add_turn None fits holds due

      pub add_held : HoldsBy (is_lost before) (settled contents) before.account user.durable keys add_stash.0
      add_held = held_beside before ready add_stash.0 add_stash.1 contents user keys fits holds

      pub add_user_room : len (map_values mark_of user.durable.factors) < 32
      add_user_room = room_by (outline_of user)
          (test_at (turn_refusals (outline_of user) add_turn user.last) add_none 7)

      abbrev pub added_durable : Durable
      added_durable = with_factor user.durable label Password secret usual_schedule

      pub add_told_apart : AreToldApart user.durable added_durable
      add_told_apart = edition_told user.durable added_durable add_held.made add_held.made refl

    -- ---- to a home with factors

    module _ (home : has_payload before.stored.stash ≡ true) where
      some : IsSome add_stash.0.payload
      some = subst (λ o. has_payload o ≡ true) add_stash.1 home

      not_bare : (len (map_values mark_in before.stored.factors) == 0) ≡ false
      not_bare =
          let b : KeepsBounds before.stored = sound.coherent.bounds (factors_by before.stored home) in
          let size : len (map_values mark_in before.stored.factors) ≡ len before.stored.factors =
          len-map_values mark_in before.stored.factors in
          let one = len_some before.stored.factors b.label b.row b.there in
          not_zero (len (map_values mark_in before.stored.factors)) (omega (arith, size, one))

      pub add_main : is_some (main_in before.sessions.kept token) ≡ true
      add_main = main_there before.sessions.kept token sound.keyed
          (test_at (turn_refusals (outline_in before) add_turn before.last) due 1)
          (left (is_not_authorised (session_at (sessions_in before.sessions.kept) token))
          (len (map_values mark_in before.stored.factors) == 0) not_bare
          (test_at (turn_refusals (outline_in before) add_turn before.last) due 4))
        where
          left : (a b : Bool) → b ≡ false → (a && not b) ≡ false → a ≡ false
          left true b is e = absurd (true≢false (sym (ap not is) ∙ e))
          left false b is e = refl

      pub add_takes : IfSome before.stored.stash (λ (s : Stash). 1 ≤ s.next)
          → IfSome before.stored.stash (λ (s : Stash). s.next < 2 ^ 64)
          → IsSomeAnd before.stored.stash (TakesFactor label)
      add_takes from within = subst (λ o. IsSomeAnd o (TakesFactor label)) (sym add_stash.1) (record {
        there = some;
        from = subst (λ o. IfSome o (λ (s : Stash). 1 ≤ s.next)) add_stash.1 from;
        below = add_below within;
        room = λ _. add_room;
        short = (own_stash before.account before.stored sound.coherent add_stash.0 add_stash.1).short;
      })

      module _ (derived : Derived) (main : Bytes) (key_is : derived.key ≡ derive secret derived.salt derived.cost)
          (proved : main_in before.sessions.kept token ≡ Some main) (contents : Contents) (user : User) (keys : Keys)
          (fits : Fits before contents user keys)
          (holds : HoldsUnder (is_lost before) contents before.account user.durable keys) where
        -- the home has a factor, so the session stays as it is
        counted : (len user.durable.factors == 0) ≡ false
        counted =
            let b = (add_held contents user keys fits holds).bounds some in
            let one = len_some user.durable.factors b.label b.factor b.there in
            not_zero (len user.durable.factors) one

        abbrev new_durable : Durable
        new_durable = added_durable contents user keys fits holds

        pub add_owes : (era : Era) → OwesTold era add_turn (SetsPassword label derived main) contents user keys
        add_owes era = record {
          durable = new_durable;
          told = add_told_apart contents user keys fits holds;
          row = row_by era user add_turn [] answers.Ok (record user { durable = new_durable })
              (add_none contents user keys fits holds)
              (ap (λ (b : Bool). gives answers.Ok (record user {
                durable = new_durable;
                sessions = cond b (changed token
                    (λ s. record s { authenticated = true }) user.sessions) user.sessions;
              })) counted);
          asked = record {
            secret = secret;
            schedule = usual_schedule;
            main_is = main_is before.sessions.kept token main keys.main fits.has_keys.proved proved;
            key_is = key_is;
            after_is = refl;
            bounds = password_bounds user.durable label secret usual_schedule
                ((add_held contents user keys fits holds).bounds some)
                (λ _. add_user_room contents user keys fits holds);
          };
        }
