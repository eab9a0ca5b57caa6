-- A chain and the chain with one step more.
use Rattle.std.proofs.Common.{◌≡◌, ℕ, ◌+◌, List, [], ◌∷◌, ◌++◌, take, length, sym, ap, ◌∙◌}
use Rattle.std.proofs.lemmas.List.{length-append}
use Rattle.std.proofs.Math.Seq.{take-append_seam, take-length}

module _ {S : Type 0} (chain : List S) (s : S) where
  -- of the longer chain the first steps are the chain
  pub first_steps : take (length chain) (chain ++ s ∷ []) ≡ chain
  first_steps = take-append_seam chain (s ∷ [])

  -- it is longer by one
  pub one_longer : length (chain ++ s ∷ []) ≡ length chain + 1
  one_longer = length-append chain (s ∷ [])

  -- and all its steps are the longer chain
  pub all_steps : take (length chain + 1) (chain ++ s ∷ []) ≡ chain ++ s ∷ []
  all_steps = ap (λ (k : ℕ). take k (chain ++ s ∷ [])) (sym one_longer) ∙ take-length (chain ++ s ∷ [])
