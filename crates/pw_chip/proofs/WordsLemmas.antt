-- Words that are written are read as what was written.
use Rattle.std.proofs.Common.{◌≡◌, ℕ, zero, suc, ◌+◌, ◌≤◌, ◌^◌, ◌↔◌, inl, inr, true, false, eqb, ltb, leb, Some, None, Ok, List, [], ◌∷◌, ◌++◌, length, take, drop, replicate, get_or, get_or-drop, refl, sym, ◌∙◌, ap, arith}
use Rattle.std.specs.Prelude.{bytes_eq, slice_index}
use Rattle.std.specs.Int.{w16, w64, to_be_bytes, from_be_bytes}
use Rattle.std.proofs.lemmas.Bool.{cases_eq, le-ltb, lt-leb, eq-eqb, ne_eqb}
use Rattle.std.proofs.lemmas.Slice.Eq.{bytes_eq-Decides}
use Rattle.std.proofs.lemmas.List.{length-append, append_assoc}
use Rattle.std.proofs.lemmas.Nat.{from_be_bytes-to_be_bytes_2, from_be_bytes-to_be_bytes_8}
use Rattle.pw_log.specs.declared.entry.LogEntry.{LogEntry}
use Rattle.pw_log.specs.declared.entry.TheConstants.{RESET, TRY, WRONG}
use Rattle.pw_leaf.proofs.Cases.{on_cond}
use Rattle.ct_bytes.proofs.FieldLemmas.{drop_past, take_there}
use Rattle.pw_chip.specs.State.{ChipState}
use Rattle.pw_chip.specs.WordsBytes.{entry_bytes, words_bytes, IsKept, IsWords, entry_in, has_verdict, entry_at, state_in, with_newest, with_older, words_at}

-- ---- fields one after another

-- the byte that stands at a place
first_there : (n x : ℕ) (b rest : List ℕ) → drop n b ≡ (x ∷ []) ++ rest → slice_index b n ≡ x
first_there n x b rest e = ap (λ i. get_or b i 0) (omega arith) ∙ sym (get_or-drop n b 0 0) ∙ ap (λ l. get_or l 0 0) e

-- ---- an entry

entry_laid : (o v : ℕ) (label root mac boot moment rest : List ℕ)
    → ((o ∷ []) ++ label ++ root ++ mac ++ (v ∷ []) ++ boot ++ moment) ++ rest
    ≡ (o ∷ []) ++ (label ++ (root ++ (mac ++ ((v ∷ []) ++ (boot ++ (moment ++ rest))))))
entry_laid o v label root mac boot moment rest = simp append_assoc

-- what stands at a place where an entry was written
entry_in-there : (b rest : List ℕ) (at : ℕ) (e : LogEntry) → IsKept e → drop at b ≡ entry_bytes e ++ rest → entry_in b at ≡ e
unfolding entry_bytes
entry_in-there b rest at e kept there =
    let label = to_be_bytes w16 e.label in
    let boot = to_be_bytes w64 e.stamp.boot in
    let moment = to_be_bytes w64 e.stamp.at in
    let d0 = there ∙ entry_laid e.operation e.verdict label e.root e.mac boot moment rest in
    let d1 = drop_past at 1 (at + 1) b (e.operation ∷ []) (label ++ (e.root ++ (e.mac ++ ((e.verdict ∷ []) ++ (boot ++ (moment ++ rest)))))) refl d0 refl in
    let d3 = drop_past (at + 1) 2 (at + 3) b label (e.root ++ (e.mac ++ ((e.verdict ∷ []) ++ (boot ++ (moment ++ rest))))) (omega arith) d1 refl in
    let d35 = drop_past (at + 3) 32 (at + 35) b e.root (e.mac ++ ((e.verdict ∷ []) ++ (boot ++ (moment ++ rest)))) (omega arith) d3 kept.root in
    let d67 = drop_past (at + 35) 32 (at + 67) b e.mac ((e.verdict ∷ []) ++ (boot ++ (moment ++ rest))) (omega arith) d35 kept.mac in
    let d68 = drop_past (at + 67) 1 (at + 68) b (e.verdict ∷ []) (boot ++ (moment ++ rest)) (omega arith) d67 refl in
    let d76 = drop_past (at + 68) 8 (at + 76) b boot (moment ++ rest) (omega arith) d68 refl in
    let operation : slice_index b at ≡ e.operation = first_there at e.operation b _ d0 in
    let number = ap (from_be_bytes w16) (take_there (at + 1) 2 b label (e.root ++ (e.mac ++ ((e.verdict ∷ []) ++ (boot ++ (moment ++ rest))))) d1 refl) ∙ from_be_bytes-to_be_bytes_2 e.label (let h = kept.ranges.label in omega arith) in
    let root = take_there (at + 3) 32 b e.root (e.mac ++ ((e.verdict ∷ []) ++ (boot ++ (moment ++ rest)))) d3 kept.root in
    let mac = take_there (at + 35) 32 b e.mac ((e.verdict ∷ []) ++ (boot ++ (moment ++ rest))) d35 kept.mac in
    let verdict : slice_index b (at + 67) ≡ e.verdict = first_there (at + 67) e.verdict b _ d67 in
    let number_of_boot = ap (from_be_bytes w64) (take_there (at + 68) 8 b boot (moment ++ rest) d68 refl) ∙ from_be_bytes-to_be_bytes_8 e.stamp.boot kept.boot in
    let moment_at = ap (from_be_bytes w64) (take_there (at + 76) 8 b moment rest d76 refl) ∙ from_be_bytes-to_be_bytes_8 e.stamp.at (let h = kept.ranges.moment in omega arith) in
    λ i. record { operation = operation i; label = number i; root = root i; mac = mac i; verdict = verdict i; stamp = record { boot = number_of_boot i; at = moment_at i } }

-- an entry in its ranges has a verdict of its operation
has_verdict-ranges : (operation verdict : ℕ) → verdict ≤ WRONG → ((1 ≤ verdict) ↔ (operation ≡ TRY)) → has_verdict operation verdict ≡ true
has_verdict-ranges operation zero most tried =
    elim (cases_eq operation TRY) [
      | inl e ↦ absurd (let some = tried.1 e in omega arith)
      | inr ne ↦ rw (ne_eqb operation TRY ne) refl
    ]
has_verdict-ranges operation (suc zero) most tried = rw (eq-eqb operation TRY (tried.0 (omega arith))) refl
has_verdict-ranges operation (suc (suc zero)) most tried = rw (eq-eqb operation TRY (tried.0 (omega arith))) refl
has_verdict-ranges operation (suc (suc (suc verdict))) most tried = absurd (omega arith)

-- an entry that was written at a place is read from it
entry_at-there : (b rest : List ℕ) (at : ℕ) (e : LogEntry) → IsKept e → drop at b ≡ entry_bytes e ++ rest → entry_at b at ≡ Ok e
unfolding entry_at
entry_at-there b rest at e kept there =
    let same = entry_in-there b rest at e kept there in
    let operation : ltb RESET (slice_index b at) ≡ false = ap (λ (z : LogEntry). ltb RESET z.operation) same ∙ le-ltb RESET e.operation kept.ranges.operation in
    let label : leb 16384 (from_be_bytes w16 (take 2 (drop (at + 1) b))) ≡ false = ap (λ (z : LogEntry). leb 16384 z.label) same ∙ lt-leb 16384 e.label kept.ranges.label in
    let verdict : has_verdict (slice_index b at) (slice_index b (at + 67)) ≡ true =
    ap (λ (z : LogEntry). has_verdict z.operation z.verdict) same ∙ has_verdict-ranges e.operation e.verdict kept.ranges.verdict kept.ranges.tried in
    let moment : leb (2 ^ 40) (from_be_bytes w64 (take 8 (drop (at + 76) b))) ≡ false = ap (λ (z : LogEntry). leb (2 ^ 40) z.stamp.at) same ∙ lt-leb (2 ^ 40) e.stamp.at kept.ranges.moment in
    rw operation (rw label (rw verdict (rw moment (ap Ok same))))

length-entry_bytes : (e : LogEntry) → IsKept e → length (entry_bytes e) ≡ 84
unfolding entry_bytes
length-entry_bytes e kept =
    let root = kept.root in
    let mac = kept.mac in
    let label = to_be_bytes w16 e.label in
    let boot = to_be_bytes w64 e.stamp.boot in
    let moment = to_be_bytes w64 e.stamp.at in
    let l1 = length-append ((e.operation ∷ []) ++ label) e.root in
    let l2 = length-append ((e.operation ∷ []) ++ label ++ e.root) e.mac in
    let l3 = length-append ((e.operation ∷ []) ++ label ++ e.root ++ e.mac) (e.verdict ∷ []) in
    let l4 = length-append ((e.operation ∷ []) ++ label ++ e.root ++ e.mac ++ (e.verdict ∷ [])) boot in
    let l5 = length-append ((e.operation ∷ []) ++ label ++ e.root ++ e.mac ++ (e.verdict ∷ []) ++ boot) moment in
    omega arith

-- ---- the words

words_laid : (mac enc boot start newest older : List ℕ)
    → (1 ∷ []) ++ mac ++ enc ++ boot ++ start ++ newest ++ older ++ replicate 7 0
    ≡ (1 ∷ []) ++ (mac ++ (enc ++ (boot ++ (start ++ (newest ++ (older ++ replicate 7 0))))))
words_laid mac enc boot start newest older = simp append_assoc

record Laid (w : ChipState) (b : List ℕ) : Type 0 where
  version : slice_index b 0 ≡ 1
  boot : from_be_bytes w64 (take 8 (drop 65 b)) ≡ w.boot
  start : from_be_bytes w64 (take 8 (drop 73 b)) ≡ w.start
  newest : entry_at b 81 ≡ Ok w.log.newest
  older : entry_at b 165 ≡ Ok w.log.older
  rest : drop 249 b ≡ replicate 7 0
  state : state_in b w.log.newest w.log.older ≡ w

laid_by : (w : ChipState) (b : List ℕ) → IsWords w
    → b ≡ (1 ∷ []) ++ (w.keys.mac ++ (w.keys.enc ++ (to_be_bytes w64 w.boot ++ (to_be_bytes w64 w.start ++ (entry_bytes w.log.newest ++ (entry_bytes w.log.older ++ replicate 7 0))))))
    → Laid w b
laid_by w b is e =
    let mac = w.keys.mac in
    let enc = w.keys.enc in
    let boot = to_be_bytes w64 w.boot in
    let start = to_be_bytes w64 w.start in
    let newest = entry_bytes w.log.newest in
    let older = entry_bytes w.log.older in
    let zeros : List ℕ = replicate 7 0 in
    let d1 = drop_past 0 1 1 b (1 ∷ []) (mac ++ (enc ++ (boot ++ (start ++ (newest ++ (older ++ zeros)))))) refl e refl in
    let d33 = drop_past 1 32 33 b mac (enc ++ (boot ++ (start ++ (newest ++ (older ++ zeros))))) refl d1 is.mac_key in
    let d65 = drop_past 33 32 65 b enc (boot ++ (start ++ (newest ++ (older ++ zeros)))) refl d33 is.cipher_key in
    let d73 = drop_past 65 8 73 b boot (start ++ (newest ++ (older ++ zeros))) refl d65 refl in
    let d81 = drop_past 73 8 81 b start (newest ++ (older ++ zeros)) refl d73 refl in
    let d165 = drop_past 81 84 165 b newest (older ++ zeros) refl d81 (length-entry_bytes w.log.newest is.newest) in
    let d249 = drop_past 165 84 249 b older zeros refl d165 (length-entry_bytes w.log.older is.older) in
    let mac_there = take_there 1 32 b mac (enc ++ (boot ++ (start ++ (newest ++ (older ++ zeros))))) d1 is.mac_key in
    let enc_there = take_there 33 32 b enc (boot ++ (start ++ (newest ++ (older ++ zeros)))) d33 is.cipher_key in
    let boot_there = ap (from_be_bytes w64) (take_there 65 8 b boot (start ++ (newest ++ (older ++ zeros))) d65 refl) ∙ from_be_bytes-to_be_bytes_8 w.boot is.boot in
    let start_there = ap (from_be_bytes w64) (take_there 73 8 b start (newest ++ (older ++ zeros)) d73 refl) ∙ from_be_bytes-to_be_bytes_8 w.start (let h = is.start in omega arith) in
    record {
      version = first_there 0 1 b _ e;
      boot = boot_there;
      start = start_there;
      newest = entry_at-there b (older ++ zeros) 81 w.log.newest is.newest d81;
      older = entry_at-there b zeros 165 w.log.older is.older d165;
      rest = d249;
      state = λ i. record { keys = record { mac = mac_there i; enc = enc_there i }; boot = boot_there i; start = start_there i; log = w.log };
    }

words_at-laid : (w : ChipState) (b : List ℕ) → IsWords w → Laid w b → words_at b ≡ Ok (Some w)
unfolding words_at
words_at-laid w b is l =
    let version : eqb (slice_index b 0) 1 ≡ true = eq-eqb (slice_index b 0) 1 l.version in
    let boot : eqb (from_be_bytes w64 (take 8 (drop 65 b))) 0 ≡ false = ap (λ n. eqb n 0) l.boot ∙ ne_eqb w.boot 0 (λ e. let some = is.booted in omega arith) in
    let start : leb (2 ^ 40) (from_be_bytes w64 (take 8 (drop 73 b))) ≡ false = ap (leb (2 ^ 40)) l.start ∙ lt-leb (2 ^ 40) w.start is.start in
    let rest : bytes_eq (drop 249 b) (replicate 7 0) ≡ true = (bytes_eq-Decides (drop 249 b) (replicate 7 0)).1 l.rest in
    let read : with_newest b (entry_at b 81) ≡ Ok (Some w) =
    ap (with_newest b) l.newest ∙ ap (with_older b w.log.newest) l.older ∙ rw rest (ap (λ (v : ChipState). Ok (Some v)) l.state) in
    on_cond (λ r. r ≡ Ok (Some w)) (bytes_eq b (replicate 256 0)) (Ok None) _
    (λ blank. absurd (
    let zeros = (bytes_eq-Decides b (replicate 256 0)).0 blank in
    let none : slice_index b 0 ≡ 0 = ap (λ l. slice_index l 0) zeros in
    omega (arith, l.version, none)
    ))
    (λ _. rw version (rw boot (rw start read)))

-- what words were written with is read from them
pub words_at-words_bytes : (w : ChipState) → IsWords w → words_at (words_bytes w) ≡ Ok (Some w)
unfolding words_bytes
words_at-words_bytes w is =
    words_at-laid w (words_bytes w) is
    (laid_by w (words_bytes w) is (words_laid w.keys.mac w.keys.enc (to_be_bytes w64 w.boot) (to_be_bytes w64 w.start) (entry_bytes w.log.newest) (entry_bytes w.log.older)))
