-- What holds throughout steps, and steps in two parts.
use Rattle.std.proofs.Common.{◌≡◌, ℕ, List, [], ◌∷◌, ◌++◌, sym, ap, subst, ◌∙◌}
use Rattle.std.proofs.lemmas.List.{map-append}
use Rattle.home_image.specs.Steps.{Fold, Throughout}
use Rattle.home_image.specs.Chain.{steps_of}
use Rattle.share_api.proofs.FoldLaws.{fold_split}

module _ {C S : Type 0} (does : C → S → C → Type 0) where
  -- what holds throughout holds after a first part of the steps
  pub throughout-part : (P : C → Type 0) (old new : C) (steps more : List S)
      → Throughout does P old (steps ++ more)
      → Fold does old steps new
      → P new
  throughout-part P old new [] [] h f = subst P (sym f) h
  throughout-part P old new [] (s ∷ more) h f = subst P (sym f) h.0
  throughout-part P old new (s ∷ steps) more h f =
      throughout-part P f.0 new steps more (h.1 f.0 f.1) f.2

  -- what holds throughout steps with their places holds after a first part of them
  pub throughout-first : (P : C → Type 0) (old new : C) (whole before after : List (ℕ × S))
      → whole ≡ before ++ after
      → Throughout does P old (steps_of whole)
      → Fold does old (steps_of before) new
      → P new
  throughout-first P old new whole before after parts h f =
      throughout-part P old new (steps_of before) (steps_of after)
      (subst (Throughout does P old)
      (ap steps_of parts ∙ map-append (λ (known : ℕ × S). known.1) before after) h) f

  -- what steps with their places lead to, the later ones lead to from what the earlier ones lead to
  pub steps-split : (old new : C) (before after : List (ℕ × S))
      → Fold does old (steps_of (before ++ after)) new
      → (mid : C) × Fold does old (steps_of before) mid × Fold does mid (steps_of after) new
  steps-split old new before after f =
      fold_split does old new (steps_of before) (steps_of after)
      (subst (λ xs. Fold does old xs new) (map-append (λ (known : ℕ × S). known.1) before after) f)
