-- A PIN is added, or gets another secret: what the machine's row gives, and what the edit asks.
use Rattle.std.proofs.Common.{◌≡◌, ◌≢◌, ℕ, ◌-◌, ◌^◌, ◌≤◌, ◌<◌, ◌==◌, ◌+◌, Bool, true, false, cond, not, List, [], ◌∷◌, length, Option, None, Some, refl, sym, ap, ◌∙◌, subst, is_some, true≢false, arith}
use Rattle.std.proofs.lemmas.Bool.{eqb-false, eqb-true, leb-false}
use Rattle.std.proofs.lemmas.List.Elements.{recursion_from_All}
use Rattle.std.specs.Prelude.{IfSome, IsSome, IsSomeAnd, IsTrue, nat_le, ◌&&◌, ◌||◌, map, count_by, option_map, option_and_then}
use Rattle.std.specs.List.{AllByRecursion}
use Rattle.std.specs.FinMap.{FinMap, get, insert, len, entries, len-entries}
use Rattle.name_map.specs.Mapped.{map_values}
use Rattle.name_map.proofs.MappedLemmas.{get-map_values, len-map_values, entries-map_values}
use Rattle.pw_types.specs.declared.era.Era.{Era}
use Rattle.account_machine.specs.Effect.{gives, with_factor, new_factor, schedule_of}
use Rattle.account_machine.specs.Outline.{Marks, is_pin_kind, pins, session_at}
use Rattle.account_machine.specs.Row.{turn_refusals, turn_names_tree, is_pin_mark, is_not_authorised}
use Rattle.account_machine.specs.Sessions.{changed}
use Rattle.account_machine.specs.Step.{refusal_now}
use Rattle.account_machine.specs.User.{mark_of, outline_of}
use Rattle.account_machine.specs.declared.answer.Answer.TheVariants as answers
use Rattle.account_machine.specs.declared.factor.Factor.{Factor}
use Rattle.account_machine.specs.declared.factor.Kind.TheVariants.{Pin}
use Rattle.account_machine.specs.declared.factor.Mark.{Mark}
use Rattle.account_machine.specs.declared.request.Request.TheVariants.{AddFactor, UpdateFactor}
use Rattle.account_machine.specs.declared.request.Turn.{Turn}
use Rattle.account_machine.specs.declared.request.Turn.TheVariants.{Act}
use Rattle.account_machine.specs.declared.session.Token.{Token}
use Rattle.account_machine.specs.declared.user.Durable.{Durable}
use Rattle.account_machine.specs.declared.user.User.{User}
use Rattle.auth_session.specs.Table.{sessions_in}
use Rattle.factor_files.specs.declared.factor.FactorRecord.{FactorRecord}
use Rattle.home_edits.specs.Passwords.{TakesFactor}
use Rattle.home_recovery.proofs.BoundLemmas.{count_by-map}
use Rattle.pin_edits.specs.Pins.{SetsPin}
use Rattle.pin_edits.specs.declared.pin_stash.NewPin.{NewPin}
use Rattle.pin_edits.proofs.PinCounts.{count_added, count_replaced}
use Rattle.record_names.specs.Names.{is_factor_label}
use Rattle.scrypt_kdf.specs.Derive.{derive}
use Rattle.share_api.specs.Contents.{Bytes, Contents, settled}
use Rattle.share_api.specs.Steps as steps
use Rattle.share_api.specs.declared.leaf.LeafView.{LeafView}
use Rattle.stash_format.proofs.Rows.{Everywhere-entries}
use Rattle.stash_format.specs.declared.contents.Contents.{Contents as Stash}
use Rattle.stored_home.specs.Bounds.{HasBounds}
use Rattle.stored_home.specs.Coherent.{pin_rows}
use Rattle.stored_home.specs.Holds.{Keys, HoldsBy, HoldsUnder}
use Rattle.stored_home.specs.Loaded.{Rows}
use Rattle.stored_home.proofs.MapLemmas.{put_other, not_None, from_some}
use Rattle.user_state.specs.Fits.{Fits, is_lost}
use Rattle.user_state.specs.Outlines.{next_in, mark_in, outline_in}
use Rattle.user_state.specs.Sound.{IsSound}
use Rattle.user_state.specs.declared.state.UserState.{UserState}
use Rattle.turn_rows.specs.Due.{IsReady, IsDue}
use Rattle.turn_rows.proofs.Quiet.{row_by, as_user}
use Rattle.turn_edits.specs.Sessions.{main_in}
use Rattle.turn_edits.proofs.EditGiven.{OwesTold}
use Rattle.turn_edits.proofs.Factors.{order, mapped_put, is_made, none_made, few_with, len_some, own_stash, payload_there, as_many}
use Rattle.turn_edits.proofs.Held.{held_beside, stash_by}
use Rattle.turn_edits.proofs.Keyed.{main_there, main_is}
use Rattle.turn_edits.proofs.Setting.{edition_left}
use Rattle.turn_edits.proofs.Tallies.{edition_told}
use Rattle.turn_edits.proofs.Tests.{applies_at, test_at}
use Rattle.turn_pins.specs.Pins.{IsPinAt}
use Rattle.turn_pins.proofs.LoadedPins.{its_block, its_pin, shown, label_is}
use Rattle.turn_pins.proofs.Removing.{kinds_apart}

not_not : (b : Bool) → not b ≡ false → b ≡ true
not_not true e = refl
not_not false e = absurd (true≢false e)

-- neither of two tests applies
neither : (a b : Bool) → (a || b) ≡ false → (a ≡ false) × (b ≡ false)
neither true b e = absurd (true≢false e)
neither false b e = (refl, e)

-- who isn't refused as a home has factors, isn't refused
authorised_there : (a b : Bool) → b ≡ false → (a && not b) ≡ false → a ≡ false
authorised_there true b is e = absurd (true≢false (sym (ap not is) ∙ e))
authorised_there false b is e = refl

-- ---- maps

itself : {V : Type 0} (o : Option V) → IfSome o (λ x. o ≡ Some x)
itself None = tt
itself (Some x) = refl

-- where a map isn't empty, something is there
pub some_there : {V : Type 0} (m : FinMap order V) → 1 ≤ len m → (name : Bytes) × (x : V) × (get m name ≡ Some x)
some_there {V} m some = by (entries m) (len-entries m)
    (recursion_from_All (λ (e : Bytes × V). get m e.0 ≡ Some e.1) (entries m)
    (Everywhere-entries (λ name x. get m name ≡ Some x) m (λ name. itself (get m name))))
  where
    by : (rows : List (Bytes × V)) → len m ≡ length rows → AllByRecursion (λ (e : Bytes × V). get m e.0 ≡ Some e.1) rows
        → (name : Bytes) × (x : V) × (get m name ≡ Some x)
    by [] size all = let z : len m ≡ 0 = size in absurd (omega (arith, some, z))
    by (row ∷ rows) size all = (row.0, row.1, all.0)

-- as many of the records are PINs as of their marks
pins_marked : (rows : Rows) → pins (map_values mark_in rows) ≡ pin_rows rows
pins_marked rows =
    ap (λ (all : List (Bytes × Mark)). count_by (λ (m : Mark). is_pin_kind m.kind)
    (map (λ (e : Bytes × Mark). e.1) all)) (entries-map_values mark_in rows)
    ∙ count_by-map (λ (m : Mark). is_pin_kind m.kind) (λ (e : Bytes × Mark). e.1)
    (map (λ (e : Bytes × FactorRecord). (e.0, mark_in e.1)) (entries rows))
    ∙ count_by-map (λ (e : Bytes × Mark). is_pin_kind e.1.kind) (λ (e : Bytes × FactorRecord). (e.0, mark_in e.1))
    (entries rows)
    ∙ sym (count_by-map (λ (row : FactorRecord). is_pin_kind row.kind) (λ (e : Bytes × FactorRecord). e.1)
    (entries rows))

-- ---- bounds

-- a PIN keeps the bounds, where it has room and isn't in the password's place
pin_bounds : (durable : Durable) (label secret : Bytes) (schedule : List (ℕ × ℕ)) (b : HasBounds durable)
    → b.label ≢ label
    → (get (map_values mark_of durable.factors) label ≡ None → len (map_values mark_of durable.factors) < 32)
    → pins (insert (map_values mark_of durable.factors) label (record { kind = Pin; edition = durable.next })) ≤ 8
    → HasBounds (with_factor durable label Pin secret schedule)
pin_bounds durable label secret schedule b away room few =
    let same : map_values mark_of (insert durable.factors label (new_factor Pin secret durable.next schedule))
    ≡ insert (map_values mark_of durable.factors) label (record { kind = Pin; edition = durable.next }) =
    mapped_put mark_of durable.factors label (new_factor Pin secret durable.next schedule) in
    record {
      factors = subst (λ (m : Marks). len m ≤ 32) (sym same) (few_with 32 (map_values mark_of durable.factors) label
          (record { kind = Pin; edition = durable.next }) b.factors room);
      pins = subst (λ (m : Marks). pins m ≤ 8) (sym same) few;
      label = b.label;
      factor = b.factor;
      there = put_other durable.factors label (new_factor Pin secret durable.next schedule) b.label away ∙ b.there;
      is_password = b.is_password;
      files = b.files;
    }

module _ (before : UserState) (ready : IsReady before) (sound : IsSound before) (label : Bytes) (account : Bytes)
    (token : Token) (secret : Bytes) where
  -- ---- one more

  module _ (schedule : Option (List (ℕ × ℕ))) (due : IsDue before (Act (AddFactor account token label Pin secret schedule)))
    where
      abbrev add_turn : Turn
      add_turn = Act (AddFactor account token label Pin secret schedule)

      add_test : (n : ℕ) → applies_at (turn_refusals (outline_in before) add_turn before.last) n ≡ false
      add_test n = test_at (turn_refusals (outline_in before) add_turn before.last) due n

      pub add_stash : (stash : Stash) × (before.stored.stash ≡ Some stash)
      add_stash = stash_by before.stored.stash (not_not (is_some before.stored.stash) (add_test 0))

      -- the label is new
      pub add_absent : get before.stored.factors label ≡ None
      add_absent = none_made mark_in before.stored.factors label (add_test 5)

      -- a factor is there
      add_other : (name : Bytes) × (row : FactorRecord) × (get before.stored.factors name ≡ Some row)
      add_other =
          let apart : len (map_values mark_in before.stored.factors) ≢ 0 =
          eqb-false (len (map_values mark_in before.stored.factors)) 0 (add_test 6) in
          let size : len (map_values mark_in before.stored.factors) ≡ len before.stored.factors =
          len-map_values mark_in before.stored.factors in
          some_there before.stored.factors (omega (arith, apart, size))

      add_payload : IsSome add_stash.0.payload
      add_payload = payload_there before.account before.stored sound.coherent add_stash.0 add_stash.1 add_other.0
          add_other.1 add_other.2

      -- and there is room
      add_full : (nat_le 32 (len (map_values mark_in before.stored.factors)) ≡ false)
          × (nat_le 8 (pins (map_values mark_in before.stored.factors)) ≡ false)
      add_full = neither (nat_le 32 (len (map_values mark_in before.stored.factors)))
          (nat_le 8 (pins (map_values mark_in before.stored.factors))) (add_test 7)

      add_room : len add_stash.0.blocks < 32
      add_room =
          let apart = leb-false 32 (len (map_values mark_in before.stored.factors)) add_full.0 in
          let size : len (map_values mark_in before.stored.factors) ≡ len before.stored.factors =
          len-map_values mark_in before.stored.factors in
          let blocks = as_many before.account before.stored sound.coherent add_stash.0 add_stash.1 in
          omega (arith, apart, size, blocks)

      pub add_pins : pin_rows before.stored.factors < 8
      add_pins =
          let apart = leb-false 8 (pins (map_values mark_in before.stored.factors)) add_full.1 in
          let same : pins (map_values mark_in before.stored.factors) ≡ pin_rows before.stored.factors =
          pins_marked before.stored.factors in
          omega (arith, apart, same)

      -- the session has a main key
      pub add_main : is_some (main_in before.sessions.kept token) ≡ true
      add_main = main_there before.sessions.kept token sound.keyed (add_test 1)
          (authorised_there (is_not_authorised (session_at (sessions_in before.sessions.kept) token))
          (len (map_values mark_in before.stored.factors) == 0) (add_test 6) (add_test 4))

      pub add_below : IfSome before.stored.stash (λ (s : Stash). s.next < 2 ^ 64) → add_stash.0.next < 2 ^ 64 - 1
      add_below within = edition_left add_stash.0.next
          (subst (λ o. (next_in o == (2 ^ 64 - 1)) ≡ false) add_stash.1 (add_test 9))
          (subst (λ o. IfSome o (λ (s : Stash). s.next < 2 ^ 64)) add_stash.1 within)

      pub add_takes : IfSome before.stored.stash (λ (s : Stash). 1 ≤ s.next)
          → IfSome before.stored.stash (λ (s : Stash). s.next < 2 ^ 64)
          → IsSomeAnd before.stored.stash (TakesFactor label)
      add_takes from within = subst (λ o. IsSomeAnd o (TakesFactor label)) (sym add_stash.1) (record {
        there = add_payload;
        from = subst (λ o. IfSome o (λ (s : Stash). 1 ≤ s.next)) add_stash.1 from;
        below = add_below within;
        room = λ _. add_room;
        short = (own_stash before.account before.stored sound.coherent add_stash.0 add_stash.1).short;
      })

      module _ (pin : NewPin) (main : Bytes) (key_is : pin.derived.key ≡ derive secret pin.derived.salt pin.derived.cost)
          (schedule_is : pin.schedule ≡ schedule_of Pin schedule) (proved : main_in before.sessions.kept token ≡ Some main)
          (contents : Contents) (user : User) (keys : Keys) (fits : Fits before contents user keys)
          (holds : HoldsUnder (is_lost before) contents before.account user.durable keys) where
        add_none : refusal_now user add_turn ≡ None
        add_none = as_user before ready contents user keys add_turn None fits holds due

        user_test : (n : ℕ) → applies_at (turn_refusals (outline_of user) add_turn user.last) n ≡ false
        user_test n = test_at (turn_refusals (outline_of user) add_turn user.last) add_none n

        add_held : HoldsBy (is_lost before) (settled contents) before.account user.durable keys add_stash.0
        add_held = held_beside before ready add_stash.0 add_stash.1 contents user keys fits holds

        bounds : HasBounds user.durable
        bounds = add_held.bounds add_payload

        user_absent : get user.durable.factors label ≡ None
        user_absent = none_made mark_of user.durable.factors label (user_test 5)

        -- the home has a factor, so the session stays as it is
        counted : (len user.durable.factors == 0) ≡ false
        counted = not_zero (len user.durable.factors) (len_some user.durable.factors bounds.label bounds.factor bounds.there)
          where
            not_zero : (n : ℕ) → 1 ≤ n → (n == 0) ≡ false
            not_zero n h = by (n == 0) refl
              where
                by : (b : Bool) → (n == 0) ≡ b → (n == 0) ≡ false
                by true e = let z = eqb-true n 0 e in absurd (omega (arith, h, z))
                by false e = e

        user_full : (nat_le 32 (len (map_values mark_of user.durable.factors)) ≡ false)
            × (nat_le 8 (pins (map_values mark_of user.durable.factors)) ≡ false)
        user_full = neither (nat_le 32 (len (map_values mark_of user.durable.factors)))
            (nat_le 8 (pins (map_values mark_of user.durable.factors))) (user_test 7)

        abbrev new_durable : Durable
        new_durable = with_factor user.durable label Pin secret pin.schedule

        pub add_owes : (era : Era) → OwesTold era add_turn (SetsPin label pin main) contents user keys
        add_owes era = record {
          durable = new_durable;
          told = edition_told user.durable new_durable add_held.made add_held.made refl;
          row = row_by era user add_turn [] answers.Ok (record user { durable = new_durable }) add_none
              (λ i. gives answers.Ok (record user {
                durable = with_factor user.durable label Pin secret (sym schedule_is i);
                sessions = cond (counted i) (changed token (λ s. record s { authenticated = true }) user.sessions)
                    user.sessions;
              }));
          asked = record {
            secret = secret;
            main_is = main_is before.sessions.kept token main keys.main fits.has_keys.proved proved;
            key_is = key_is;
            after_is = refl;
            bounds = pin_bounds user.durable label secret pin.schedule bounds
                (λ same. not_None bounds.factor (sym bounds.there ∙ ap (get user.durable.factors) same ∙ user_absent))
                (λ _. let apart = leb-false 32 (len (map_values mark_of user.durable.factors)) user_full.0 in
                omega (arith, apart))
                (let apart = leb-false 8 (pins (map_values mark_of user.durable.factors)) user_full.1 in
                let more : pins (insert (map_values mark_of user.durable.factors) label
                (record { kind = Pin; edition = user.durable.next })) ≤ pins (map_values mark_of user.durable.factors) + 1 =
                count_added (λ (m : Mark). is_pin_kind m.kind) (map_values mark_of user.durable.factors) label
                (record { kind = Pin; edition = user.durable.next }) in
                omega (arith, apart, more));
          };
        }

  -- ---- another secret

  module _ (due : IsDue before (Act (UpdateFactor account token label secret))) (pin_at : IsPinAt before.stored label)
    where
      abbrev update_turn : Turn
      update_turn = Act (UpdateFactor account token label secret)

      update_test : (n : ℕ) → applies_at (turn_refusals (outline_in before) update_turn before.last) n ≡ false
      update_test n = test_at (turn_refusals (outline_in before) update_turn before.last) due n

      pub update_stash : (stash : Stash) × (before.stored.stash ≡ Some stash)
      update_stash = stash_by before.stored.stash (not_not (is_some before.stored.stash) (update_test 0))

      pub update_row : (row : FactorRecord) × (get before.stored.factors label ≡ Some row)
      update_row = is_made mark_in before.stored.factors label (update_test 5)

      pub update_kind : update_row.0.kind ≡ Pin
      update_kind = subst (λ o. IfSome o (λ (r : FactorRecord). r.kind ≡ Pin)) update_row.1 pin_at

      -- the turn names the tree
      pub update_named : turn_names_tree (outline_in before) update_turn ≡ true
      update_named = ap is_pin_mark (get-map_values mark_in before.stored.factors label
          ∙ ap (option_map mark_in) update_row.1) ∙ ap is_pin_kind update_kind

      update_payload : IsSome update_stash.0.payload
      update_payload = payload_there before.account before.stored sound.coherent update_stash.0 update_stash.1 label
          update_row.0 update_row.1

      pub update_main : is_some (main_in before.sessions.kept token) ≡ true
      update_main = main_there before.sessions.kept token sound.keyed (update_test 1) (update_test 4)

      pub update_below : IfSome before.stored.stash (λ (s : Stash). s.next < 2 ^ 64) → update_stash.0.next < 2 ^ 64 - 1
      update_below within = edition_left update_stash.0.next
          (subst (λ o. (next_in o == (2 ^ 64 - 1)) ≡ false) update_stash.1 (update_test 7))
          (subst (λ o. IfSome o (λ (s : Stash). s.next < 2 ^ 64)) update_stash.1 within)

      pub update_takes : IfSome before.stored.stash (λ (s : Stash). 1 ≤ s.next)
          → IfSome before.stored.stash (λ (s : Stash). s.next < 2 ^ 64)
          → IsSomeAnd before.stored.stash (TakesFactor label)
      update_takes from within = subst (λ o. IsSomeAnd o (TakesFactor label)) (sym update_stash.1) (record {
        there = update_payload;
        from = subst (λ o. IfSome o (λ (s : Stash). 1 ≤ s.next)) update_stash.1 from;
        below = update_below within;
        room = λ none.
            let block = its_block before sound update_stash.0 update_stash.1 label update_row.0 update_row.1 update_kind in
            absurd (not_None block.0 (sym block.1 ∙ none));
        short = (own_stash before.account before.stored sound.coherent update_stash.0 update_stash.1).short;
      })

      pub update_labelled : IsTrue (is_factor_label label)
      update_labelled = label_is before sound update_stash.0 update_stash.1 label update_row.0 update_row.1 update_kind

      module _ (whole : before.stored.lost ≡ None) (tree : ℕ) (names : update_row.0.leaf ≡ Some tree) (view : LeafView)
          (pin : NewPin) (main : Bytes) (key_is : pin.derived.key ≡ derive secret pin.derived.salt pin.derived.cost)
          (schedule_is : pin.schedule ≡ view.schedule) (proved : main_in before.sessions.kept token ≡ Some main)
          (contents : Contents) (user : User) (keys : Keys) (fits : Fits before contents user keys)
          (holds : HoldsUnder (is_lost before) contents before.account user.durable keys)
          (seen : Some view ≡ option_map steps.view_of (get contents.leaves tree)) where
        update_none : refusal_now user update_turn ≡ None
        update_none = as_user before ready contents user keys update_turn None fits holds due

        update_held : HoldsBy (is_lost before) (settled contents) before.account user.durable keys update_stash.0
        update_held = held_beside before ready update_stash.0 update_stash.1 contents user keys fits holds

        held_bounds : HasBounds user.durable
        held_bounds = update_held.bounds update_payload

        -- the PIN, as it is held
        abbrev factor : Factor
        factor = (its_pin before ready whole label update_row.0 update_row.1 tree names contents user keys fits
            holds).pin.of.factor

        there : get user.durable.factors label ≡ Some factor
        there = (its_pin before ready whole label update_row.0 update_row.1 tree names contents user keys fits
            holds).pin.of.held

        is_pin : factor.kind ≡ Pin
        is_pin = (its_pin before ready whole label update_row.0 update_row.1 tree names contents user keys fits
            holds).pin.is_pin

        -- its schedule is the leaf's
        schedule_kept : pin.schedule ≡ factor.schedule
        schedule_kept = schedule_is ∙ ap (λ (v : LeafView). v.schedule)
            (shown before ready whole label update_row.0 update_row.1 tree names contents user keys fits holds view seen)

        away : held_bounds.label ≢ label
        away same = kinds_apart factor.kind
            (ap (λ (f : Factor). f.kind) (from_some factor held_bounds.factor
            (sym there ∙ ap (get user.durable.factors) (sym same) ∙ held_bounds.there)) ∙ held_bounds.is_password) is_pin

        mark_there : get (map_values mark_of user.durable.factors) label ≡ Some (mark_of factor)
        mark_there = get-map_values mark_of user.durable.factors label ∙ ap (option_map mark_of) there

        abbrev updated_durable : Durable
        updated_durable = with_factor user.durable label Pin secret pin.schedule

        pub update_owes : (era : Era) → OwesTold era update_turn (SetsPin label pin main) contents user keys
        update_owes era = record {
          durable = updated_durable;
          told = edition_told user.durable updated_durable update_held.made update_held.made refl;
          row = row_by era user update_turn [] answers.Ok (record user { durable = updated_durable }) update_none
              (ap (option_and_then (λ (f : Factor). gives answers.Ok
              (record user { durable = with_factor user.durable label f.kind secret f.schedule }))) there
              ∙ (λ i. gives answers.Ok (record user {
                durable = with_factor user.durable label (is_pin i) secret (sym schedule_kept i);
              })));
          asked = record {
            secret = secret;
            main_is = main_is before.sessions.kept token main keys.main fits.has_keys.proved proved;
            key_is = key_is;
            after_is = refl;
            bounds = pin_bounds user.durable label secret pin.schedule held_bounds away
                (λ none. absurd (not_None (mark_of factor) (sym mark_there ∙ none)))
                (let most = held_bounds.pins in
                let less : pins (insert (map_values mark_of user.durable.factors) label
                (record { kind = Pin; edition = user.durable.next })) ≤ pins (map_values mark_of user.durable.factors) =
                count_replaced (λ (m : Mark). is_pin_kind m.kind) (map_values mark_of user.durable.factors) label
                (mark_of factor) (record { kind = Pin; edition = user.durable.next }) mark_there (ap is_pin_kind is_pin) in
                omega (arith, most, less));
          };
        }
