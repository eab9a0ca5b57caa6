-- The first password of a home is added: from then on the home's keys are those that were drawn.
use Rattle.std.proofs.Common.{◌≡◌, ℕ, ◌^◌, ◌<◌, true, false, List, [], Option, None, Some, Result, Ok, Err, IsOk, OnErr, refl, sym, ap, ◌∙◌, subst, is_some, true≢false}
use Rattle.std.specs.Prelude.{IfErr, IfSome, IsErrOf, IsSomeAnd}
use Rattle.std.specs.List.{AllByRecursion}
use Rattle.std.specs.Cmp.Lexicographic.{nat_list_cmp_total}
use Rattle.std.specs.FinMap.{FinMap, get, len, empty, get-empty, len-empty, same_map, slice_cmp-IsAntisymmetric, nat_cmp-IsAntisymmetric}
use Rattle.pw_types.specs.declared.era.Era.{Era}
use Rattle.account_machine.specs.Effect.{gives, with_factor, usual_schedule, first_proved}
use Rattle.account_machine.specs.Sessions.{changed, place_of}
use Rattle.account_machine.specs.declared.answer.Answer.TheVariants as answers
use Rattle.account_machine.specs.declared.factor.Factor.{Factor}
use Rattle.account_machine.specs.declared.factor.Kind.TheVariants.{Password}
use Rattle.account_machine.specs.declared.request.Request.TheVariants.{AddFactor}
use Rattle.account_machine.specs.declared.request.Turn.{Turn}
use Rattle.account_machine.specs.declared.request.Turn.TheVariants.{Act}
use Rattle.account_machine.specs.declared.session.Session.{Session}
use Rattle.account_machine.specs.declared.session.Token.{Token}
use Rattle.account_machine.specs.declared.user.User.{User}
use Rattle.auth_session.specs.Table.{sessions_in, edit_at, first_proved_kept}
use Rattle.auth_session.proofs.TableLemmas.{changed-edit_at}
use Rattle.home_edits.specs.Edits.{Edits, IsEditFault}
use Rattle.home_edits.specs.FirstPasswords.{TakesFirst, SetsFirstPassword}
use Rattle.home_edits.proofs.KeptLemmas.{none_matched}
use Rattle.random_values.specs.Stretches.{Place}
use Rattle.scrypt_kdf.specs.Derive.{derive}
use Rattle.sealed_text.specs.declared.sealed.Sealed.{Sealed}
use Rattle.share_api.specs.Contents.{Bytes, Contents, settled}
use Rattle.share_api.specs.Seen.{ShareSeen}
use Rattle.stash_format.specs.Blocks.{Blocks}
use Rattle.stash_format.specs.declared.contents.Contents.{Contents as Stash}
use Rattle.stored_home.specs.Bounds.{HasBounds}
use Rattle.stored_home.specs.Coherent.{AreFiles, IsCoherent}
use Rattle.stored_home.specs.Holds.{Keys, Factors, Files, IsBlockOf, HasStash, HoldsBy, HoldsUnder}
use Rattle.stored_home.specs.Matching.{Matches}
use Rattle.stored_home.specs.declared.derived.Derived.{Derived}
use Rattle.stored_home.specs.declared.fault.StoreFault.{StoreFault}
use Rattle.stored_home.specs.declared.fault.StoreFault.TheVariants as faults
use Rattle.stored_home.specs.declared.stored.Stored.{Stored}
use Rattle.stored_home.proofs.MapLemmas.{not_None, some_not_None}
use Rattle.user_state.specs.Fits.{Fits, IsProved, HasKeys, is_lost, tally_in}
use Rattle.user_state.specs.Sound.{IsSound, IsKeyed}
use Rattle.user_state.specs.Turns.{IsGiven}
use Rattle.user_state.specs.declared.state.Doubt.TheVariants.{Editions}
use Rattle.user_state.specs.declared.state.UserState.{UserState}
use Rattle.turn_rows.specs.Due.{IsReady, IsDue}
use Rattle.turn_rows.proofs.Kept.{all_edit}
use Rattle.turn_rows.proofs.Quiet.{row_by, settled_now}
use Rattle.turn_edits.specs.Endings.{answer_of, doubt_of}
use Rattle.turn_edits.specs.Sessions.{has_main, sessions_after}
use Rattle.turn_edits.specs.Stashes.{has_payload}
use Rattle.turn_edits.proofs.EditGiven.{Owes, edited_given}
use Rattle.turn_edits.proofs.Factors.{order}
use Rattle.turn_edits.proofs.Keyed.{proved_by_none, first_is_proved, first_is_keyed}
use Rattle.turn_edits.proofs.Setting.{first_bounds, add_stash, add_below, add_room, add_none, add_held, added_durable, add_told_apart}
use Rattle.turn_edits.proofs.Tallies.{held_tally}

-- nothing stands in a map in which nothing stands
empty_is : {X : Type 0} (m : FinMap order X) → ((q : Bytes) → get m q ≡ None) → m ≡ empty
empty_is {X} m none = same_map nat_list_cmp_total (slice_cmp-IsAntisymmetric nat_cmp-IsAntisymmetric) m empty
    (λ q. none q ∙ sym (get-empty order q))

unproved_vault : (o : Option Bytes) (key : Bytes) → is_some o ≡ false → IfSome o (λ k. k ≡ key)
unproved_vault None key e = tt
unproved_vault (Some k) key e = absurd (true≢false e)

no_payload : (o : Option Sealed) → is_some o ≡ false → o ≡ None
no_payload None e = refl
no_payload (Some sealed) e = absurd (true≢false e)

none_held : {A B : Type 0} (R S : A → B → Type 0) (x : Option A) (y : Option B) → x ≡ None → Matches R x y
    → Matches S x y
none_held R S None None e h = tt
none_held R S None (Some y) e h = absurd h
none_held R S (Some x) y e h = absurd (not_None x e)

module _ (before : UserState) (ready : IsReady before) (sound : IsSound before) (label : Bytes) (account : Bytes)
    (token : Token) (secret : Bytes) (schedule : Option (List (ℕ × ℕ)))
    (due : IsDue before (Act (AddFactor account token label Password secret schedule)))
    (lacks : has_payload before.stored.stash ≡ false) where
  abbrev turn : Turn
  turn = Act (AddFactor account token label Password secret schedule)

  abbrev stash : (stash : Stash) × (before.stored.stash ≡ Some stash)
  stash = add_stash before ready sound label account token secret schedule due

  bare : stash.0.payload ≡ None
  bare = no_payload stash.0.payload (subst (λ o. has_payload o ≡ false) stash.1 lacks)

  -- the stash takes a first password
  pub first_takes : IfSome before.stored.stash (λ (s : Stash). s.next < 2 ^ 64)
      → IsSomeAnd before.stored.stash (TakesFirst label)
  first_takes within = subst (λ o. IsSomeAnd o (TakesFirst label)) (sym stash.1) (record {
    bare = bare;
    below = add_below before ready sound label account token secret schedule due within;
    room = λ _. add_room before ready sound label account token secret schedule due;
  })

  module _ (unmounted : is_some before.vault ≡ false) (no_main : has_main before.sessions.kept ≡ false)
      (derived : Derived) (main vault : Bytes) (key_is : derived.key ≡ derive secret derived.salt derived.cost)
      (at : ℕ) (place : at ≡ place_of token (sessions_in before.sessions.kept)) where
    abbrev under : Keys
    under = record { main = main; vault = vault }

    -- without main keys and mount, the home's keys may be these
    has_keys : HasKeys before under
    has_keys = record {
      proved = proved_by_none main before.sessions.kept no_main sound.keyed;
      mount = unproved_vault before.vault vault unmounted;
    }

    -- the state once it is added
    abbrev pub first_done : Place → Stored → UserState
    first_done generator after = record before {
      generator = generator;
      sessions = record before.sessions { kept = edit_at (first_proved_kept main) at before.sessions.kept };
      stored = after;
    }

    module _ (contents : Contents) (user : User) (keys : Keys) (fits : Fits before contents user keys)
        (holds : HoldsUnder (is_lost before) contents before.account user.durable keys) where
      held : HoldsBy (is_lost before) (settled contents) before.account user.durable keys stash.0
      held = add_held before ready sound label account token secret schedule due contents user keys fits holds

      no_block : (q : Bytes) → get stash.0.blocks q ≡ None
      no_block q = ap (λ (m : Blocks). get m q) (held.bare bare).0 ∙ get-empty order q

      no_factor : (q : Bytes) → get user.durable.factors q ≡ None
      no_factor q = none_matched (IsBlockOf (is_lost before) contents.records (settled contents).leaves before.account
          keys.main held.resets q) (get user.durable.factors q)
          (subst (λ x. Matches (IsBlockOf (is_lost before) contents.records (settled contents).leaves before.account
          keys.main held.resets q) x (get user.durable.factors q)) (no_block q) (held.blocks q))

      -- what is held of a home without factors is held under any keys
      held_under : HoldsBy (is_lost before) (settled contents) before.account user.durable under stash.0
      held_under = record {
        made = held.made;
        account_is = held.account_is;
        next = held.next;
        sound = held.sound;
        resets = held.resets;
        blocks = λ q. none_held
            (IsBlockOf (is_lost before) (settled contents).records (settled contents).leaves before.account keys.main
            held.resets q)
            (IsBlockOf (is_lost before) (settled contents).records (settled contents).leaves before.account main
            held.resets q)
            (get stash.0.blocks q) (get user.durable.factors q) (no_block q) (held.blocks q);
        apart = held.apart;
        bare = held.bare;
        bounds = λ some. absurd (some_not_None stash.0.payload some bare);
        payload = λ some. absurd (some_not_None stash.0.payload some bare);
        files = λ some. absurd (some_not_None stash.0.payload some bare);
      }

      holds_under : HoldsUnder (is_lost before) contents before.account user.durable under
      holds_under = record {
        stash = Some stash.0;
        there = subst (HasStash contents.records before.account) stash.1
            (settled_now before ready contents user keys fits).kept.is_loaded.stash;
        holds = held_under;
      }

      no_count : len user.durable.factors ≡ 0
      no_count = ap (λ (m : Factors). len m) (empty_is user.durable.factors no_factor) ∙ len-empty order Factor

      -- the first password keeps the bounds
      bounds : HasBounds (with_factor user.durable label Password secret usual_schedule)
      bounds = first_bounds user.durable label secret usual_schedule no_count
          (ap (λ (m : Files). len m) (held.bare bare).1 ∙ len-empty order Bytes)

      abbrev next_user : User
      next_user = record user {
        durable = added_durable before ready sound label account token secret schedule due contents user keys fits
            holds;
        sessions = changed token (λ s. record s { authenticated = true }) user.sessions;
      }

      pub first_owes : (era : Era) (generator : Place) (after : Stored)
          → Owes era before (first_done generator after) turn (SetsFirstPassword label derived main vault) contents user
      first_owes era generator after = record {
        next = next_user;
        under = under;
        row = row_by era user turn [] answers.Ok next_user
            (add_none before ready sound label account token secret schedule due contents user keys fits holds)
            (ap (λ (n : ℕ). gives answers.Ok (record user {
              durable = with_factor user.durable label Password secret usual_schedule;
              sessions = first_proved n token user.sessions;
            })) no_count);
        none = (settled_now before ready contents user keys fits).none;
        holds = holds_under;
        asked = record {
          secret = secret;
          schedule = usual_schedule;
          main_is = refl;
          vault_is = refl;
          key_is = key_is;
          after_is = refl;
          bounds = bounds;
        };
        has_keys = has_keys;
        sessions = ap (λ p. sessions_in (edit_at (first_proved_kept main) p before.sessions.kept)) place
            ∙ changed-edit_at token (first_proved_kept main) (λ s. record s { authenticated = true }) (λ k. refl)
            before.sessions.kept
            ∙ ap (changed token (λ (s : Session). record s { authenticated = true })) fits.sessions;
        next_session = fits.next_session;
        mounted = fits.mounted;
        last = fits.last;
        done_keys = record {
          proved = all_edit (IsProved main) (first_proved_kept main) (first_is_proved main) before.sessions.kept at
              has_keys.proved;
          mount = has_keys.mount;
        };
      }

    -- the turn, whichever way the edit ended
    pub first_given : (old new : ShareSeen) (lost : is_some old.lost ≡ is_lost before) (generator : Place)
        (after : Stored) (r : Result (Unit {0}) StoreFault)
        → Edits old new before.account before.stored after (IsOk r) (IsErrOf r faults.Failed)
        (SetsFirstPassword label derived main vault)
        → IfErr r IsEditFault → (IsErrOf r faults.NoMemory → new ≡ old) → OnErr r (after ≡ before.stored)
        → after.lost ≡ before.stored.lost → AreFiles before.account after
        → IsGiven old new before (record before {
          generator = generator;
          sessions = sessions_after r at main before.sessions;
          stored = after;
          doubt = doubt_of Editions before.doubt r;
        }) turn (answer_of r)
    unfolding first_owes
    first_given old new lost generator after r edits only calm err kept files =
        edited_given old new before ready lost turn tt (SetsFirstPassword label derived main vault) generator
        (sessions_after r at main before.sessions) after Editions r edits only calm err (stay r) kept files
        (first_done generator after) (is_done r)
        (λ contents user keys fits holds. first_owes contents user keys fits holds old.era generator after)
        (λ same contents end user keys fits holds starts fold. (
          ap (λ (s : Stored). tally_in s.stash) same
              ∙ held_tally (is_some old.lost) contents before.account user.durable under before.stored starts.holds
              starts.kept,
          add_told_apart before ready sound label account token secret schedule due contents user keys fits holds,
        ))
      where
        stay : (q : Result (Unit {0}) StoreFault) → OnErr q (sessions_after q at main before.sessions ≡ before.sessions)
        stay (Ok u) = tt
        stay (Err e) = refl

        is_done : (q : Result (Unit {0}) StoreFault) → IsOk q → first_done generator after ≡ record before {
          generator = generator;
          sessions = sessions_after q at main before.sessions;
          stored = after;
          doubt = doubt_of Editions before.doubt q;
        }
        is_done (Ok u) ok = refl
        is_done (Err e) ok = absurd (true≢false (sym ok))

-- what is loaded fits together, and sessions with a main key are those that are authenticated
pub first_sound : (before : UserState) (sound : IsSound before) (at : ℕ) (main : Bytes) (generator : Place)
    (after : Stored) (r : Result (Unit {0}) StoreFault) → IsCoherent before.account after
    → IsSound (record before {
      generator = generator;
      sessions = sessions_after r at main before.sessions;
      stored = after;
      doubt = doubt_of Editions before.doubt r;
    })
first_sound before sound at main generator after r coherent = record {
  coherent = coherent;
  least = sound.least;
  most = sound.most;
  keyed = keyed r;
}
  where
    keyed : (q : Result (Unit {0}) StoreFault)
        → AllByRecursion IsKeyed (sessions_after q at main before.sessions).kept
    keyed (Ok u) = all_edit IsKeyed (first_proved_kept main) (first_is_keyed main) before.sessions.kept at sound.keyed
    keyed (Err e) = sound.keyed
