-- Writing row after row.
use Rattle.std.proofs.Common.{◌≡◌, ℕ, ◌+◌, ◌<◌, List, [], ◌∷◌, ◌++◌, length, get_or, take, sym, ap, subst, ◌∙◌, append_assoc}
use Rattle.std.specs.Prelude.{All}
use Rattle.std.specs.List.{flat_map}
use Rattle.std.proofs.lemmas.List.{take_more, flat_map_more}
use Rattle.std.proofs.lemmas.List.Elements.{All-more}

module _ {V : Type 0} (bytes : List ℕ × V → List ℕ) (Good : V → Type 0) where
  -- one more row is written, and its parts have their sizes
  pub row_written : (rows : List (List ℕ × V)) (i : ℕ) (row : List ℕ × V) (old so_far named new name value : List ℕ)
      → i < length rows → row ≡ get_or rows i row
      → so_far ≡ old ++ flat_map bytes (take i rows) → All (λ (r : List ℕ × V). Good r.1) (take i rows)
      → named ≡ so_far ++ name → new ≡ named ++ value → bytes row ≡ name ++ value → Good row.1
      → (new ≡ old ++ flat_map bytes (take (i + 1) rows)) × All (λ (r : List ℕ × V). Good r.1) (take (i + 1) rows)
  row_written rows i row old so_far named new name value lt is before good by_name by_value spelled here =
      let taken : take (i + 1) rows ≡ take i rows ++ row ∷ [] =
      take_more rows i row lt ∙ ap (λ (r : List ℕ × V). take i rows ++ r ∷ []) (sym is) in
      let grown : new ≡ (old ++ flat_map bytes (take i rows)) ++ bytes row =
      by_value ∙ ap (λ w. w ++ value) by_name ∙ append_assoc so_far name value
      ∙ ap (λ w. so_far ++ w) (sym spelled) ∙ ap (λ w. w ++ bytes row) before in (
        grown ∙ flat_map_more bytes old (take i rows) row ∙ ap (λ (rs : List (List ℕ × V)). old ++ flat_map bytes rs) (sym taken),
        All-more (λ (r : List ℕ × V). Good r.1) rows i row lt good (subst (λ (r : List ℕ × V). Good r.1) is here),
      )
