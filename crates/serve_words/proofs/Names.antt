-- Names, each once, gathered one after another.
use Rattle.std.proofs.Common.{◌≡◌, Bool, true, false, ◌&&◌, ◌||◌, not, List, [], ◌∷◌, ◌++◌, refl, ap, sym, ◌∙◌, subst, append_assoc}
use Rattle.std.specs.Prelude.{if◌then◌else◌}
use Rattle.std.specs.List.{filter}
use Rattle.std.specs.Str.{bytes_eq}
use Rattle.std.proofs.lemmas.List.Folds.{list_any-append}
use Rattle.std.proofs.lemmas.Slice.Eq.{bytes_eq-Decides}
use Rattle.serve_words.specs.Words.{Word, is_among, each_once}

-- two tests one after the other are one test
filter_filter : {X : Type 0} (p q r : X → Bool) → ((x : X) → r x ≡ (q x && p x)) → (xs : List X)
    → filter p (filter q xs) ≡ filter r xs
filter_filter {X = X} p q r same [] = refl
filter_filter {X = X} p q r same (x ∷ xs) = by_tests (q x) (p x) refl refl (filter_filter p q r same xs)
  where
    by_tests : (b c : Bool) → q x ≡ b → p x ≡ c → filter p (filter q xs) ≡ filter r xs
        → filter p (filter q (x ∷ xs)) ≡ filter r (x ∷ xs)
    by_tests true true qx px rest = rw (same x, qx, px) (ap (λ (ys : List X). x ∷ ys) rest)
    by_tests true false qx px rest = rw (same x, qx, px) rest
    by_tests false true qx px rest = rw (same x, qx) rest
    by_tests false false qx px rest = rw (same x, qx) rest

-- those that aren't among the held
abbrev pub others : List Word → List Word → List Word
others held names = filter (λ name. not (is_among held name)) names

pub others_none : (names : List Word) → others [] names ≡ names
others_none [] = refl
others_none (name ∷ names) = ap (λ (rest : List Word). name ∷ rest) (others_none names)

-- a name that is held is no other
there_is_no_other : (held : List Word) (name : Word) → is_among held name ≡ true
    → (x : Word) → not (is_among held x) ≡ (not (bytes_eq name x) && not (is_among held x))
there_is_no_other held name there x = by_test (bytes_eq name x) refl
  where
    by_test : (b : Bool) → bytes_eq name x ≡ b
        → not (is_among held x) ≡ (not (bytes_eq name x) && not (is_among held x))
    by_test true is =
        let same : name ≡ x = (bytes_eq-Decides name x).0 is in
        let held_too : is_among held x ≡ true = subst (λ (n : Word). is_among held n ≡ true) same there in
        rw (is, held_too) refl
    by_test false is = rw is refl

-- others than the held and a name
others_than_both : (held : List Word) (name x : Word)
    → not (is_among (held ++ name ∷ []) x) ≡ (not (bytes_eq name x) && not (is_among held x))
others_than_both held name x =
    rw (list_any-append (λ (h : Word). bytes_eq h x) held (name ∷ [])) (by_tests (is_among held x) (bytes_eq name x))
  where
    by_tests : (a b : Bool) → not (a || (b || false)) ≡ (not b && not a)
    by_tests true true = refl
    by_tests true false = refl
    by_tests false true = refl
    by_tests false false = refl

-- a name that is held adds nothing
once_held : (held : List Word) (name : Word) (names : List Word) → is_among held name ≡ true
    → others held (each_once (name ∷ names)) ≡ others held (each_once names)
once_held held name names there = rw there
    (filter_filter (λ (n : Word). not (is_among held n)) (λ (n : Word). not (bytes_eq name n))
    (λ (n : Word). not (is_among held n)) (there_is_no_other held name there) (each_once names))

-- the held names, and then the others of these
abbrev pub gathered : List Word → List Word → List Word
gathered held names = held ++ others held (each_once names)

-- a name that isn't held is the next
once_new : (held : List Word) (name : Word) (names : List Word) → is_among held name ≡ false
    → gathered held (name ∷ names) ≡ gathered (held ++ name ∷ []) names
once_new held name names new =
    let rest = filter_filter (λ (n : Word). not (is_among held n)) (λ (n : Word). not (bytes_eq name n))
    (λ (n : Word). not (is_among (held ++ name ∷ []) n)) (others_than_both held name) (each_once names) in
    rw (new, rest) (sym (append_assoc held (name ∷ []) (others (held ++ name ∷ []) (each_once names))))

-- the held names, and one where it isn't held yet
abbrev pub with_name : List Word → Word → List Word
with_name held name = if is_among held name then held else held ++ name ∷ []

-- one more name is gathered
once_next : (held : List Word) (name : Word) (names : List Word)
    → gathered (with_name held name) names ≡ gathered held (name ∷ names)
once_next held name names = by_test (is_among held name) refl
  where
    by_test : (b : Bool) → is_among held name ≡ b → gathered (with_name held name) names ≡ gathered held (name ∷ names)
    by_test true is = ap (λ (c : Bool). gathered (if c then held else held ++ name ∷ []) names) is
        ∙ ap (λ (rest : List Word). held ++ rest) (sym (once_held held name names is))
    by_test false is = ap (λ (c : Bool). gathered (if c then held else held ++ name ∷ []) names) is
        ∙ sym (once_new held name names is)

-- and so on through the names that are left
pub gathered_next : (all rest : List Word) (held : List Word) (name : Word) (names : List Word)
    → rest ≡ name ∷ names → gathered held rest ≡ each_once all → gathered (with_name held name) names ≡ each_once all
gathered_next all rest held name names is so_far =
    once_next held name names ∙ subst (λ (ns : List Word). gathered held ns ≡ each_once all) is so_far
