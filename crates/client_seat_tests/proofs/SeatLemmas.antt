-- The numbers of clients, of whom the last is taken.
use Rattle.std.proofs.Common.{◌≡◌, ℕ, ◌+◌, List, [], ◌∷◌, ◌++◌, map, ap, ◌∙◌}
use Rattle.std.proofs.lemmas.List.{map-append}
use Rattle.turn_lock.specs.Lists.{count_of}
use Rattle.turn_lock.proofs.Counts.{count_of-append}

-- a number stands in a list as often as before its last element and at it
pub count_of-last : {A : Type 0} (number_of : A → ℕ) (number : ℕ) (all front : List A) (last : A)
    → all ≡ front ++ last ∷ []
    → count_of number (map number_of all)
    ≡ count_of number (map number_of front) + count_of number (number_of last ∷ [])
count_of-last number_of number all front last is =
    ap (λ xs. count_of number (map number_of xs)) is
    ∙ ap (count_of number) (map-append number_of front (last ∷ []))
    ∙ count_of-append number (map number_of front) (number_of last ∷ [])
