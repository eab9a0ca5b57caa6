-- The listing of nothing.
use Rattle.std.proofs.Common.{◌≡◌, ℕ, List, [], ◌∷◌, rules, refl, sym, subst}
use Rattle.share_api.specs.Contents.{Bytes}
use Rattle.share_api.specs.Replies.{AreListed}

-- no names and no labels are listed as no names
nothing_is_listed : AreListed [] [] []
nothing_is_listed = record { account = 109 ∷ []; plain = refl; all = search rules; sorted = search rules }

pub listed_of_nothing : (names : List Bytes) (labels : List ℕ) (listed : List Bytes)
    → names ≡ [] → labels ≡ [] → listed ≡ [] → AreListed names labels listed
listed_of_nothing names labels listed no_names no_labels none =
    subst (λ (xs : List Bytes). AreListed xs labels listed) (sym no_names)
    (subst (λ (ns : List ℕ). AreListed [] ns listed) (sym no_labels)
    (subst (λ (xs : List Bytes). AreListed [] [] xs) (sym none) nothing_is_listed))
