-- The least client whose loop ended so.
use Rattle.std.proofs.Common.{◌≡◌, ℕ, ◌+◌, Bool, true, false, List, [], ◌∷◌, map, None, Some, refl, ap, ◌∙◌, arith, rules}
use Rattle.std.specs.Prelude.{option_map, if◌then◌else◌}
use Rattle.std.specs.List.{position, position_from, AllByRecursion}
use Rattle.std.proofs.lemmas.Iterator.Adapters.{position_from-zero}
use Rattle.request_loop.specs.declared.serve.LoopEnd.{LoopEnd}
use Rattle.request_loop.specs.declared.serve.LoopEnd.TheVariants as loops
use Rattle.client_threads.specs.declared.ending.Mark.{Mark}
use Rattle.client_threads.specs.declared.ending.Mark.TheVariants as marks
use Rattle.client_threads.specs.Ends.{is_marked, least, HasNone, IsLeast}

-- a list that starts at a later index
position_shifted : {X : Type 0} (p : X → Bool) (first i : ℕ) (xs : List X)
    → option_map (λ place. first + place) (position_from p i xs) ≡ position_from p (first + i) xs
position_shifted p first i [] = refl
position_shifted {X = X} p first i (x ∷ xs) = by_test (p x) refl (position_shifted p first (i + 1) xs)
  where
    by_test : (b : Bool) → p x ≡ b
        → option_map (λ place. first + place) (position_from p (i + 1) xs) ≡ position_from p (first + (i + 1)) xs
        → option_map (λ place. first + place) (position_from p i (x ∷ xs)) ≡ position_from p (first + i) (x ∷ xs)
    by_test true is later = rw is refl
    by_test false is later =
        let e : first + (i + 1) ≡ (first + i) + 1 = omega arith in
        rw is (later ∙ ap (λ (k : ℕ). position_from p k xs) e)

-- the test of what stands for each element
position_mapped : {X Y : Type 0} (p : Y → Bool) (f : X → Y) (i : ℕ) (xs : List X)
    → position_from (λ x. p (f x)) i xs ≡ position_from p i (map f xs)
position_mapped p f i [] = refl
position_mapped {X = X} {Y = Y} p f i (x ∷ xs) = by_test (p (f x)) refl (position_mapped p f (i + 1) xs)
  where
    by_test : (b : Bool) → p (f x) ≡ b
        → position_from (λ x. p (f x)) (i + 1) xs ≡ position_from p (i + 1) (map f xs)
        → position_from (λ x. p (f x)) i (x ∷ xs) ≡ position_from p i (map f (x ∷ xs))
    by_test true is later = rw is refl
    by_test false is later = rw is later

-- the number of the first place is the least number
pub number_of_place : {X : Type 0} (mark : Mark) (first : ℕ) (end : X → LoopEnd) (xs : List X)
    → option_map (λ place. first + place) (position (λ x. is_marked mark (end x)) xs) ≡ least mark first (map end xs)
number_of_place mark first end xs =
    let e : first + 0 ≡ first = omega arith in
    ap (option_map (λ place. first + place)) (position_from-zero (λ x. is_marked mark (end x)) xs)
    ∙ (position_shifted (λ x. is_marked mark (end x)) first 0 xs
    ∙ (ap (λ (k : ℕ). position_from (λ x. is_marked mark (end x)) k xs) e
    ∙ position_mapped (is_marked mark) end first xs))

-- the least number is that of a client whose loop ended so, and no earlier one's did
pub least_found : (mark : Mark) (first : ℕ) (ended : List LoopEnd) (client : ℕ)
    → least mark first ended ≡ Some client → IsLeast mark first ended client
least_found mark first [] client found = absurd (search rules)
least_found mark first (end ∷ rest) client found =
    by_mark (λ found. least_found mark (first + 1) rest client found) (is_marked mark end) refl found
  where
    by_mark : (least mark (first + 1) rest ≡ Some client → IsLeast mark (first + 1) rest client)
        → (b : Bool) → is_marked mark end ≡ b
        → (if b then Some first else least mark (first + 1) rest) ≡ Some client
        → IsLeast mark first (end ∷ rest) client
    by_mark later true is found = record {
      before = [];
      end = end;
      after = rest;
      ends_are = refl;
      client_is = search rules;
      none = tt;
      one = is;
    }
    by_mark later false is found =
        let more = later found in
        let at = more.client_is in
        record {
          before = end ∷ more.before;
          end = more.end;
          after = more.after;
          ends_are = ap (λ (ends : List LoopEnd). end ∷ ends) more.ends_are;
          client_is = omega (arith, at);
          none = (is, more.none);
          one = more.one;
        }

-- where there is no least number no client's loop ended so
pub least_none : (mark : Mark) (first : ℕ) (ended : List LoopEnd) → least mark first ended ≡ None → HasNone mark ended
least_none mark first [] none = tt
least_none mark first (end ∷ rest) none =
    by_mark (λ none. least_none mark (first + 1) rest none) (is_marked mark end) refl none
  where
    by_mark : (least mark (first + 1) rest ≡ None → HasNone mark rest)
        → (b : Bool) → is_marked mark end ≡ b
        → (if b then Some first else least mark (first + 1) rest) ≡ None
        → HasNone mark (end ∷ rest)
    by_mark later true is none = absurd (search rules)
    by_mark later false is none = (is, later none)

-- a loop that ended in no other way ended at its input's end
pub all_ended : (ended : List LoopEnd) → HasNone marks.Fault ended → HasNone marks.Limit ended
    → HasNone marks.Starved ended → AllByRecursion (λ end. end ≡ loops.End) ended
all_ended [] fault limit starved = tt
all_ended (end ∷ rest) fault limit starved =
    (by_end end fault.0 limit.0 starved.0, all_ended rest fault.1 limit.1 starved.1)
  where
    by_end : (e : LoopEnd) → is_marked marks.Fault e ≡ false → is_marked marks.Limit e ≡ false
        → is_marked marks.Starved e ≡ false → e ≡ loops.End
    by_end loops.End fault limit starved = refl
    by_end loops.SourceFault fault limit starved = absurd (search rules)
    by_end loops.SinkFault fault limit starved = absurd (search rules)
    by_end loops.InputLimit fault limit starved = absurd (search rules)
    by_end loops.NoMemory fault limit starved = absurd (search rules)
