-- Lists of which one is made of the other, element by element.
use Rattle.std.proofs.Common.{◌≡◌, ℕ, zero, suc, ◌<◌, List, [], ◌∷◌, map, length, get_or, refl, ap, ◌∙◌, arith}

module _ {A B : Type 0} (f : B → A) where
  -- the elements below n are made so
  abbrev pub AgreeBelow : List A → List B → ℕ → Type 0
  AgreeBelow xs ys n = (k : ℕ) → k < n → (d : A) (e : B) → k < length ys → get_or xs k d ≡ f (get_or ys k e)

  pub agree-none : (xs : List A) (ys : List B) → AgreeBelow xs ys 0
  agree-none xs ys k below d e inside = absurd (omega arith)

  -- lists of one length that agree are made so
  pub agree-all : (xs : List A) (ys : List B) → length xs ≡ length ys → AgreeBelow xs ys (length ys) → xs ≡ map f ys
  agree-all [] [] same agree = refl
  agree-all [] (y ∷ ys) same agree = absurd (omega arith)
  agree-all (x ∷ xs) [] same agree = absurd (omega arith)
  agree-all (x ∷ xs) (y ∷ ys) same agree = λ i. agree 0 (omega arith) x y (omega arith) i
      ∷ agree-all xs ys (omega arith) (λ k below d e inside. agree (suc k) (omega arith) d e (omega arith)) i

  pub at-map : (xs : List A) (ys : List B) (k : ℕ) (d : A) (e : B) → xs ≡ map f ys → k < length ys → get_or xs k d ≡ f (get_or ys k e)
  at-map xs ys k d e made inside = ap (λ zs. get_or zs k d) made ∙ in_map ys k d e inside
    where
      in_map : (ys : List B) (k : ℕ) (d : A) (e : B) → k < length ys → get_or (map f ys) k d ≡ f (get_or ys k e)
      in_map [] k d e inside = absurd (omega arith)
      in_map (y ∷ ys) zero d e inside = refl
      in_map (y ∷ ys) (suc k) d e inside = in_map ys k d e (omega arith)
