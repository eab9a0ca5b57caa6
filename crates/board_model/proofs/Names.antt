-- What files have under a name after a change.
use Rattle.std.proofs.Common.{◌≡◌, ◌≢◌, ◌⊎◌, inl, inr, ℕ, List, None, Some, refl, ap, ◌∙◌, false}
use Rattle.std.proofs.Common.{cond, rules}
use Rattle.std.specs.Ordering.{nat_cmp, is_eq, eq_by_cmp}
use Rattle.std.specs.Cmp.Lexicographic.{slice_cmp, nat_list_cmp_total}
use Rattle.std.specs.declared.cmp.Ordering.TheVariants.{Less, Equal, Greater}
use Rattle.std.specs.FinMap.{get, insert, remove, gets, get-insert, get-remove}
use Rattle.std.specs.FinMap.{slice_cmp-IsAntisymmetric, nat_cmp-IsAntisymmetric}
use Rattle.board_model.specs.Files.{Files, renamed, moved_to}

-- names are the same, or they don't tie
pub same_or_apart : (q name : List ℕ)
    → (q ≡ name) ⊎ (eq_by_cmp (slice_cmp nat_cmp) q name ≡ false)
same_or_apart q name =
    elim (slice_cmp nat_cmp q name) as (λ r. slice_cmp nat_cmp q name ≡ r → (q ≡ name) ⊎ (is_eq r ≡ false)) [
      | Less ↦ λ p. inr refl
      | Equal ↦ λ p. inl (slice_cmp-IsAntisymmetric nat_cmp-IsAntisymmetric q name p)
      | Greater ↦ λ p. inr refl
    ] refl

-- names that differ don't tie
pub apart : (q name : List ℕ) → q ≢ name → eq_by_cmp (slice_cmp nat_cmp) q name ≡ false
apart q name ne =
    elim (same_or_apart q name) [
      | inl same ↦ absurd (ne same)
      | inr untied ↦ untied
    ]

pub get-inserted : (files : Files) (name bytes : List ℕ)
    → get (insert files name bytes) name ≡ Some bytes
get-inserted files name bytes = grind (gets, rules)

pub get-insert_other : (files : Files) (name bytes q : List ℕ) → q ≢ name
    → get (insert files name bytes) q ≡ get files q
get-insert_other files name bytes q ne =
    get-insert nat_list_cmp_total files name bytes q
    ∙ ap (λ b. cond b (Some bytes) (get files q)) (apart q name ne)

pub get-removed : (files : Files) (name : List ℕ) → get (remove files name) name ≡ None
get-removed files name = grind (gets, rules)

pub get-remove_other : (files : Files) (name q : List ℕ) → q ≢ name
    → get (remove files name) q ≡ get files q
get-remove_other files name q ne =
    get-remove nat_list_cmp_total files name q
    ∙ ap (λ b. cond b None (get files q)) (apart q name ne)

pub renamed_there : (files : Files) (from to bytes : List ℕ) → get files from ≡ Some bytes
    → renamed files from to ≡ insert (remove files from) to bytes
renamed_there files from to bytes is = ap (moved_to files from to) is

pub renamed_absent : (files : Files) (from to : List ℕ) → get files from ≡ None
    → renamed files from to ≡ files
renamed_absent files from to is = ap (moved_to files from to) is
