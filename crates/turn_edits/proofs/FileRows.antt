-- A vault file is put.
use Rattle.std.proofs.Common.{◌≡◌, ℕ, ◌<◌, ◌≤◌, Bool, true, false, not, List, [], ◌∷◌, length, Option, None, Some, Result, IsOk, OnErr, refl, sym, ap, ◌∙◌, subst, is_some, true≢false, arith}
use Rattle.std.specs.Prelude.{IsErrOf, IfErr, IfSome, IsSomeAnd, nat_le, bytes_eq, ◌&&◌, ◌||◌}
use Rattle.std.specs.List.{list_any}
use Rattle.std.specs.Ordering.{eq_by_cmp}
use Rattle.std.specs.FinMap.{FinMap, get, len, keys, entries, contains_key-keys, len-entries}
use Rattle.std.proofs.lemmas.Bool.{leb-true, leb-false}
use Rattle.std.proofs.lemmas.List.{length-map}
use Rattle.name_map.proofs.RowLemmas.{Name, order, eq_by_cmp-bytes_eq}
use Rattle.pw_types.specs.declared.era.Era.{Era}
use Rattle.account_machine.specs.Outline.{has_name}
use Rattle.account_machine.specs.Row.{turn_refusals}
use Rattle.account_machine.specs.User.{outline_of}
use Rattle.account_machine.specs.Step.{refusal_now}
use Rattle.account_machine.specs.declared.answer.Answer.TheVariants as answers
use Rattle.account_machine.specs.declared.request.Request.TheVariants.{PutFile}
use Rattle.account_machine.specs.declared.request.Turn.{Turn}
use Rattle.account_machine.specs.declared.request.Turn.TheVariants.{Act}
use Rattle.account_machine.specs.declared.user.User.{User}
use Rattle.turn_edits.proofs.Tests.{test_at}
use Rattle.home_edits.specs.Edits.{IsEditFault}
use Rattle.home_edits.specs.Files.{PutsFile, EditsFile, IsFilePut}
use Rattle.home_edits.specs.declared.files.FilePut.{FilePut}
use Rattle.home_edits.proofs.KeptLemmas.{home_stash}
use Rattle.random_values.specs.Stretches.{Place}
use Rattle.share_api.specs.Contents.{Bytes, Contents}
use Rattle.share_api.specs.Seen.{ShareSeen}
use Rattle.stored_home.specs.Bounds.{HasBounds}
use Rattle.stored_home.specs.Changes.{durable_with_file}
use Rattle.stored_home.specs.Coherent.{AreFiles}
use Rattle.stored_home.specs.Holds.{Keys, HoldsUnder}
use Rattle.stored_home.specs.Loaded.{Filed, HasFactors}
use Rattle.stored_home.specs.declared.fault.StoreFault.{StoreFault}
use Rattle.stored_home.specs.declared.fault.StoreFault.TheVariants as faults
use Rattle.stored_home.specs.declared.stored.Stored.{Stored}
use Rattle.user_state.specs.Fits.{Fits, TellsFile, is_lost}
use Rattle.user_state.specs.Outlines.{outline_in}
use Rattle.user_state.specs.Turns.{IsGiven}
use Rattle.user_state.specs.declared.state.Doubt.TheVariants.{File}
use Rattle.user_state.specs.declared.state.UserState.{UserState}
use Rattle.turn_rows.specs.Due.{IsReady, IsDue}
use Rattle.turn_rows.proofs.Quiet.{row_by, as_user}
use Rattle.turn_edits.specs.Endings.{answer_of, doubt_of}
use Rattle.turn_edits.proofs.EditGiven.{OwesDurable, plain_given}
use Rattle.turn_edits.proofs.Factors.{few_with}
use Rattle.turn_edits.proofs.FileTells.{file_tells}
use Rattle.turn_edits.proofs.Held.{held_beside}

-- ---- room for a file

any_same : (p q : Name → Bool) → ((n : Name) → p n ≡ q n) → (names : List Name) → list_any p names ≡ list_any q names
any_same p q same [] = refl
any_same p q same (n ∷ names) = (λ i. same n i || any_same p q same names i)

module _ {X : Type 0} (m : FinMap order X) (name : Name) where
  -- whether a name is among a map's is whether it is there
  pub has_name_there : has_name name (keys m) ≡ is_some (get m name)
  has_name_there =
      any_same (λ other. bytes_eq other name) (eq_by_cmp order name) (λ other. sym (eq_by_cmp-bytes_eq name other))
      (keys m)
      ∙ sym (contains_key-keys m name)

  names_counted : length (keys m) ≡ len m
  names_counted = length-map (entries m) (λ (e : Name × X). e.0) ∙ sym (len-entries m)

  -- a new name has room
  pub room_left : (not (has_name name (keys m)) && nat_le 256 (length (keys m))) ≡ false → get m name ≡ None
      → len m < 256
  room_left test none =
      let full : nat_le 256 (len m) ≡ false =
      subst (λ (pair : Bool × ℕ). (not pair.0 && nat_le 256 pair.1) ≡ false)
      (λ i. ((has_name_there ∙ ap is_some none) i, names_counted i)) test in
      let apart = leb-false 256 (len m) full in
      omega (arith, apart)

module _ (before : UserState) (ready : IsReady before) (account name bytes : Bytes)
    (due : IsDue before (Act (PutFile account name bytes))) where
  abbrev turn : Turn
  turn = Act (PutFile account name bytes)

  -- the vault is mounted
  not_not : (b : Bool) → not b ≡ false → b ≡ true
  not_not true e = refl
  not_not false e = absurd (true≢false e)

  pub is_mounted : is_some before.vault ≡ true
  is_mounted = not_not (is_some before.vault) (test_at (turn_refusals (outline_in before) turn before.last) due 1)

  -- the file isn't too large, and has room
  pub is_small : length bytes ≤ 49152
  is_small = leb-true (length bytes) 49152 (not_not (nat_le (length bytes) 49152)
      (test_at (turn_refusals (outline_in before) turn before.last) due 2))

  pub has_room : get before.stored.files name ≡ None → len before.stored.files < 256
  has_room = room_left before.stored.files name (test_at (turn_refusals (outline_in before) turn before.last) due 3)

  module _ (vault : Bytes) (mounted : before.vault ≡ Some vault) (home : HasFactors before.stored)
      (contents : Contents) (user : User) (keys : Keys) (fits : Fits before contents user keys)
      (holds : HoldsUnder (is_lost before) contents before.account user.durable keys) where
    none : refusal_now user turn ≡ None
    none = as_user before ready contents user keys turn None fits holds due

    user_room : get user.durable.files name ≡ None → len user.durable.files < 256
    user_room = room_left user.durable.files name (test_at (turn_refusals (outline_of user) turn user.last) none 3)

    -- what is held keeps its bounds
    pub bounds : HasBounds user.durable
    bounds = let found = home_stash before.stored.stash home in
        (held_beside before ready found.0 found.1 contents user keys fits holds).bounds found.2

    -- the durable part with the file
    pub file_owes : (era : Era) → OwesDurable era turn (PutsFile vault name bytes) contents user keys
    file_owes era = record {
      durable = durable_with_file user.durable name bytes;
      row = row_by era user turn [] answers.Ok (record user { durable = durable_with_file user.durable name bytes })
          none refl;
      asked = record {
        vault_is = sym (subst (λ o. IfSome o (λ key. key ≡ keys.vault)) mounted fits.has_keys.mount);
        after_is = refl;
        bounds = record {
          factors = bounds.factors;
          pins = bounds.pins;
          label = bounds.label;
          factor = bounds.factor;
          there = bounds.there;
          is_password = bounds.is_password;
          files = few_with 256 user.durable.files name bytes bounds.files user_room;
        };
      };
    }

-- the turn, whichever way the put ended
pub file_given : (old new : ShareSeen) (before : UserState) (ready : IsReady before)
    (lost : is_some old.lost ≡ is_lost before) (account bytes vault : Bytes) (put : FilePut) (generator : Place)
    (after : Stored) (r : Result (Unit {0}) StoreFault)
    → IsDue before (Act (PutFile account put.name bytes)) → before.vault ≡ Some vault → HasFactors before.stored
    → IsFilePut vault before.account bytes before.stored.files put
    → EditsFile old new before.account before.stored after (IsOk r) (IsErrOf r faults.Failed) vault bytes put
    → IfErr r IsEditFault → (IsErrOf r faults.NoMemory → new ≡ old) → OnErr r (after ≡ before.stored)
    → after.lost ≡ before.stored.lost → AreFiles before.account after
    → IsGiven old new before (record before {
      generator = generator;
      stored = after;
      doubt = doubt_of (File put.name put.sealed) before.doubt r;
    }) (Act (PutFile account put.name bytes)) (answer_of r)
unfolding file_owes
file_given old new before ready lost account bytes vault put generator after r due mounted home made edits only calm
    err kept files =
    plain_given old new before ready lost (Act (PutFile account put.name bytes)) tt (PutsFile vault put.name bytes)
    generator after (File put.name put.sealed)
    (λ contents user keys fits holds. file_owes before ready account put.name bytes due vault mounted home contents user
    keys fits holds old.era)
    r edits.edits only calm err kept files
    (λ same contents end user keys fits holds starts fold.
    let told = edits.tells contents end keys user.durable (durable_with_file user.durable put.name bytes) starts fold in
    subst (λ (v : Option Bytes). IsSomeAnd v (λ key. TellsFile key before.account put.name put.sealed end user.durable
    (durable_with_file user.durable put.name bytes))) (sym mounted)
    (file_tells (is_some old.lost) end before.account put.name put.sealed bytes vault user.durable keys edits.named
    made.opens
    (file_owes before ready account put.name bytes due vault mounted home contents user keys fits holds
    old.era).asked.vault_is
    (bounds before ready account put.name bytes due vault mounted home contents user keys fits holds) told.not_put))

-- the same of an account of another spelling of its name
pub file_edits_at : {old new : ShareSeen} {one two : Bytes} {stored after : Stored} {ok failed : Type 0} {put : FilePut}
    → one ≡ two
    → ((vault bytes : Bytes) → IsFilePut vault one bytes stored.files put
    → EditsFile old new one stored after ok failed vault bytes put)
    → (vault bytes : Bytes) → IsFilePut vault two bytes stored.files put
    → EditsFile old new two stored after ok failed vault bytes put
file_edits_at {old} {new} {one} {two} {stored} {after} {ok} {failed} {put} e =
    subst (λ (n : Bytes). (vault bytes : Bytes) → IsFilePut vault n bytes stored.files put
    → EditsFile old new n stored after ok failed vault bytes put) e

pub file_put_at : {vault one two : Bytes} {a b : Bytes} {files : Filed} {put : FilePut} → one ≡ two → a ≡ b
    → IsFilePut vault one a files put → IsFilePut vault two b files put
file_put_at {vault} {one} {two} {a} {b} {files} {put} e k h =
    subst (λ (n : Bytes). IsFilePut vault two n files put) k (subst (λ (n : Bytes). IsFilePut vault n a files put) e h)
