-- Bytes that are read as words are the words that they hold, written.
use Rattle.std.proofs.Common.{◌≡◌, ℕ, ◌+◌, ◌<◌, ◌≤◌, ◌^◌, ◌↔◌, true, false, eqb, ltb, leb, Bool, ◌||◌, ◌⊎◌, inl, inr, Option, Some, None, Result, Ok, Err, IfOk, IfSome, List, [], ◌∷◌, ◌++◌, length, take, drop, replicate, get_or-drop, get_or, refl, sym, ◌∙◌, ap, subst, arith}
use Rattle.std.specs.Prelude.{slice_index, bytes_eq}
use Rattle.std.specs.Int.{w16, w64, to_be_bytes, from_be_bytes}
use Rattle.std.proofs.lemmas.Bool.{eqb-true, eqb-false, ltb-false, leb-false}
use Rattle.std.proofs.lemmas.List.{take_more, take-append-drop, length-drop, drop-drop}
use Rattle.std.proofs.lemmas.Slice.Eq.{bytes_eq-Decides}
use Rattle.pw_log.specs.declared.entry.LogEntry.{LogEntry}
use Rattle.pw_log.specs.declared.entry.TheConstants.{RESET, TRY, RIGHT, WRONG}
use Rattle.pw_leaf.proofs.Cases.{on_cond}
use Rattle.pw_leaf.proofs.AcceptedLemmas.{AreBytes, length_field, field_fits, number_2, number_8, number_fits, one_more}
use Rattle.pw_chip.specs.declared.bytes.WordsFault.{WordsFault}
use Rattle.pw_chip.specs.declared.bytes.WordsFault.TheVariants.{BadWords}
use Rattle.pw_chip.specs.State.{ChipState}
use Rattle.pw_chip.specs.WordsBytes.{IsKept, IsWords, entry_bytes, words_bytes, entry_in, has_verdict, entry_at, state_in, with_older, with_newest, words_at}

-- ---- an entry

-- an entry that is read at a place is what stands there, in its ranges
record EntryRead (b : List ℕ) (at : ℕ) (e : LogEntry) : Type 0 where
  same : entry_in b at ≡ e
  operation : e.operation ≤ RESET
  label : e.label < 16384
  verdict : has_verdict e.operation e.verdict ≡ true
  moment : e.stamp.at < 2 ^ 40

-- what an entry that is read has
entry_read : (b : List ℕ) (at : ℕ) (e : LogEntry) → entry_at b at ≡ Ok e → EntryRead b at e
unfolding entry_at
entry_read b at e read =
    let x = entry_in b at in
    let P : Result LogEntry WordsFault → Type 0 = λ r. r ≡ Ok e → EntryRead b at e in
    on_cond P (ltb RESET x.operation) (Err (BadWords at)) _ (λ _ q. cc q)
    (λ known. on_cond P (leb 16384 x.label) (Err (BadWords (at + 1))) _ (λ _ q. cc q)
    (λ small. on_cond P (has_verdict x.operation x.verdict) _ (Err (BadWords (at + 67)))
    (λ judged. on_cond P (leb (2 ^ 40) x.stamp.at) (Err (BadWords (at + 76))) (Ok x) (λ _ q. cc q)
    (λ timely q. let same : x ≡ e = cc q in subst (EntryRead b at) same
    (record { same = refl; operation = ltb-false RESET x.operation known; label = leb-false 16384 x.label small; verdict = judged; moment = leb-false (2 ^ 40) x.stamp.at timely })))
    (λ _ q. cc q))) read

-- one of two tests held
or_true : (x y : Bool) → (x || y) ≡ true → (x ≡ true) ⊎ (y ≡ true)
or_true true y e = inl refl
or_true false y e = inr e

-- a verdict that an operation can have
verdict_fits : (operation verdict : ℕ) → has_verdict operation verdict ≡ true → (verdict ≤ WRONG) × ((1 ≤ verdict) ↔ (operation ≡ TRY))
verdict_fits operation verdict e =
    on_cond (λ t. t ≡ true → (verdict ≤ WRONG) × ((1 ≤ verdict) ↔ (operation ≡ TRY))) (eqb operation TRY) (eqb verdict RIGHT || eqb verdict WRONG) (eqb verdict 0)
    (λ is q.
    let try : operation ≡ TRY = eqb-true operation TRY is in
    elim (or_true (eqb verdict RIGHT) (eqb verdict WRONG) q) [
      | inl r ↦ let v = eqb-true verdict RIGHT r in (omega arith, (λ _. try, λ _. omega arith))
      | inr w ↦ let v = eqb-true verdict WRONG w in (omega arith, (λ _. try, λ _. omega arith))
    ])
    (λ other q.
    let v = eqb-true verdict 0 q in
    (omega arith, (λ some. absurd (omega arith), λ t. absurd (eqb-false operation TRY other t)))) e

-- an entry that is read can be kept
entry_kept : (b : List ℕ) (at : ℕ) (e : LogEntry) → length b ≡ 256 → AreBytes b → at + 84 ≤ 256 → EntryRead b at e → IsKept e
entry_kept b at e long fit inside r =
    let v = verdict_fits e.operation e.verdict r.verdict in
    record {
      ranges = record { operation = r.operation; label = r.label; verdict = v.0; tried = v.1; moment = r.moment };
      root = ap (λ (z : LogEntry). length z.root) (sym r.same) ∙ length_field b (at + 3) 32 (omega arith);
      mac = ap (λ (z : LogEntry). length z.mac) (sym r.same) ∙ length_field b (at + 35) 32 (omega arith);
      boot = subst (λ (z : LogEntry). z.stamp.boot < 2 ^ 64) r.same (number_fits (take 8 (drop (at + 68) b)) (field_fits b (at + 68) 8 fit));
    }

-- a byte of what stands at a place
byte_there : (b : List ℕ) (at k n : ℕ) → at + k ≡ n → get_or (drop at b) k 0 ≡ slice_index b n
byte_there b at k n e = get_or-drop at b k 0 ∙ ap (λ i. get_or b i 0) e

-- an entry is written as it stands
entry_written : (b : List ℕ) (at : ℕ) → length b ≡ 256 → AreBytes b → at + 84 ≤ 256 → entry_bytes (entry_in b at) ≡ take 84 (drop at b)
unfolding entry_bytes
entry_written b at long fit inside =
    let d = drop at b in
    let l = length-drop at b in
    let f1 : take 1 d ≡ slice_index b at ∷ [] = take_more d 0 0 (omega arith) ∙ ap (λ v. v ∷ []) (byte_there b at 0 at (omega arith)) in
    let f3 = one_more 1 2 3 d _ (to_be_bytes w16 (from_be_bytes w16 (take 2 (drop (at + 1) b)))) refl f1 (number_2 b (at + 1) fit (omega arith) ∙ ap (take 2) (sym (drop-drop 1 at b))) in
    let f35 = one_more 3 32 35 d _ (take 32 (drop (at + 3) b)) refl f3 (ap (take 32) (sym (drop-drop 3 at b))) in
    let f67 = one_more 35 32 67 d _ (take 32 (drop (at + 35) b)) refl f35 (ap (take 32) (sym (drop-drop 35 at b))) in
    let f68 : take 68 d ≡ ((((slice_index b at ∷ []) ++ to_be_bytes w16 (from_be_bytes w16 (take 2 (drop (at + 1) b)))) ++ take 32 (drop (at + 3) b)) ++ take 32 (drop (at + 35) b)) ++ (slice_index b (at + 67) ∷ []) =
    take_more d 67 0 (omega arith) ∙ (λ i. f67 i ++ byte_there b at 67 (at + 67) refl i ∷ []) in
    let f76 = one_more 68 8 76 d _ (to_be_bytes w64 (from_be_bytes w64 (take 8 (drop (at + 68) b)))) refl f68 (number_8 b (at + 68) fit (omega arith) ∙ ap (take 8) (sym (drop-drop 68 at b))) in
    let f84 = one_more 76 8 84 d _ (to_be_bytes w64 (from_be_bytes w64 (take 8 (drop (at + 76) b)))) refl f76 (number_8 b (at + 76) fit (omega arith) ∙ ap (take 8) (sym (drop-drop 76 at b))) in
    sym f84

-- ---- the words

-- words that are read are what the bytes hold, in their ranges
record WordsRead (b : List ℕ) (w : ChipState) : Type 0 where
  version : slice_index b 0 ≡ 1
  boot : ¬ (from_be_bytes w64 (take 8 (drop 65 b)) ≡ 0)
  start : from_be_bytes w64 (take 8 (drop 73 b)) < 2 ^ 40
  newest : entry_at b 81 ≡ Ok w.log.newest
  older : entry_at b 165 ≡ Ok w.log.older
  rest : drop 249 b ≡ replicate 7 0
  same : state_in b w.log.newest w.log.older ≡ w

module _ (b : List ℕ) (w : ChipState) (version : slice_index b 0 ≡ 1) (boot : ¬ (from_be_bytes w64 (take 8 (drop 65 b)) ≡ 0)) (start : from_be_bytes w64 (take 8 (drop 73 b)) < 2 ^ 40) where
  -- the older entry is read
  older_read : (newest : LogEntry) → entry_at b 81 ≡ Ok newest → (r : Result LogEntry WordsFault) → entry_at b 165 ≡ r → with_older b newest r ≡ Ok (Some w) → WordsRead b w
  older_read newest n (Err fault) o e = cc e
  older_read newest n (Ok older) o e =
      on_cond (λ r. r ≡ Ok (Some w) → WordsRead b w) (bytes_eq (drop 249 b) (replicate 7 0)) (Ok (Some (state_in b newest older))) (Err (BadWords 249))
      (λ t q. let same : state_in b newest older ≡ w = cc q in
      subst (WordsRead b) same (record { version = version; boot = boot; start = start; newest = n; older = o; rest = (bytes_eq-Decides (drop 249 b) (replicate 7 0)).0 t; same = refl }))
      (λ _ q. cc q) e

  -- both entries are read
  newest_read : (r : Result LogEntry WordsFault) → entry_at b 81 ≡ r → with_newest b r ≡ Ok (Some w) → WordsRead b w
  newest_read (Err fault) n e = cc e
  newest_read (Ok newest) n e = older_read newest n (entry_at b 165) refl e

-- what words that are read have
words_read : (b : List ℕ) (w : ChipState) → words_at b ≡ Ok (Some w) → WordsRead b w
unfolding words_at
words_read b w e =
    let P : Result (Option ChipState) WordsFault → Type 0 = λ r. r ≡ Ok (Some w) → WordsRead b w in
    on_cond P (bytes_eq b (replicate 256 0)) (Ok None) _ (λ _ q. cc q)
    (λ _. on_cond P (eqb (slice_index b 0) 1) _ (Err (BadWords 0))
    (λ version. on_cond P (eqb (from_be_bytes w64 (take 8 (drop 65 b))) 0) (Err (BadWords 65)) _ (λ _ q. cc q)
    (λ boot. on_cond P (leb (2 ^ 40) (from_be_bytes w64 (take 8 (drop 73 b)))) (Err (BadWords 73)) _ (λ _ q. cc q)
    (λ start q. newest_read b w (eqb-true (slice_index b 0) 1 version) (eqb-false (from_be_bytes w64 (take 8 (drop 65 b))) 0 boot) (leb-false (2 ^ 40) (from_be_bytes w64 (take 8 (drop 73 b))) start) (entry_at b 81) refl q)))
    (λ _ q. cc q)) e

-- what is read can be kept
pub IsWords-accepted : (b : List ℕ) (w : ChipState) → length b ≡ 256 → AreBytes b → words_at b ≡ Ok (Some w) → IsWords w
IsWords-accepted b w long fit e =
    let r = words_read b w e in
    let boot : ¬ (from_be_bytes w64 (take 8 (drop 65 b)) ≡ 0) = r.boot in
    subst IsWords r.same (
    record {
      mac_key = length_field b 1 32 (omega arith);
      cipher_key = length_field b 33 32 (omega arith);
      booted = omega arith;
      boot = number_fits (take 8 (drop 65 b)) (field_fits b 65 8 fit);
      start = r.start;
      newest = entry_kept b 81 w.log.newest long fit (omega arith) (entry_read b 81 w.log.newest r.newest);
      older = entry_kept b 165 w.log.older long fit (omega arith) (entry_read b 165 w.log.older r.older);
    })

-- all bytes are those of the words in them
whole : (b : List ℕ) → length b ≡ 256 → AreBytes b → slice_index b 0 ≡ 1 → (newest older : LogEntry) → entry_in b 81 ≡ newest → entry_in b 165 ≡ older → drop 249 b ≡ replicate 7 0
    → b ≡ words_bytes (state_in b newest older)
unfolding words_bytes
whole b long fit version newest older n o rest =
    let f1 : take 1 b ≡ 1 ∷ [] = take_more b 0 0 (omega arith) ∙ ap (λ v. v ∷ []) version in
    let f33 = one_more 1 32 33 b _ (take 32 (drop 1 b)) refl f1 refl in
    let f65 = one_more 33 32 65 b _ (take 32 (drop 33 b)) refl f33 refl in
    let f73 = one_more 65 8 73 b _ (to_be_bytes w64 (from_be_bytes w64 (take 8 (drop 65 b)))) refl f65 (number_8 b 65 fit (omega arith)) in
    let f81 = one_more 73 8 81 b _ (to_be_bytes w64 (from_be_bytes w64 (take 8 (drop 73 b)))) refl f73 (number_8 b 73 fit (omega arith)) in
    let f165 = one_more 81 84 165 b _ (entry_bytes newest) refl f81 (ap entry_bytes (sym n) ∙ entry_written b 81 long fit (omega arith)) in
    let f249 = one_more 165 84 249 b _ (entry_bytes older) refl f165 (ap entry_bytes (sym o) ∙ entry_written b 165 long fit (omega arith)) in
    sym (take-append-drop 249 b) ∙ (λ i. f249 i ++ rest i)

-- bytes that are read are the words that they hold, written
pub words_bytes-accepted : (b : List ℕ) (w : ChipState) → length b ≡ 256 → AreBytes b → words_at b ≡ Ok (Some w) → b ≡ words_bytes w
words_bytes-accepted b w long fit e =
    let r = words_read b w e in
    whole b long fit r.version w.log.newest w.log.older (entry_read b 81 w.log.newest r.newest).same (entry_read b 165 w.log.older r.older).same r.rest
    ∙ ap words_bytes r.same

-- whatever bytes hold, words that they hold can be kept
pub IsWords-read : (b : List ℕ) (r : Result (Option ChipState) WordsFault) → length b ≡ 256 → AreBytes b → words_at b ≡ r → IfOk r (λ o. IfSome o IsWords)
IsWords-read b (Err fault) long fit e = tt
IsWords-read b (Ok None) long fit e = tt
IsWords-read b (Ok (Some w)) long fit e = IsWords-accepted b w long fit e
