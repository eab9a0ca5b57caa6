-- Paths of contents.
use Rattle.std.proofs.Common.{◌≡◌, ◌≢◌, ℕ, ◌+◌, suc, List, [], ◌∷◌, ◌++◌, length, refl, sym, ap, ◌∙◌, subst, arith, ◌⊎◌, inl, inr, eqb, if◌then◌else◌, Bool, true, false}
use Rattle.std.proofs.lemmas.Bool.Decides.{eqb_tells}
use Rattle.std.specs.Prelude.{Contains}
use Rattle.std.specs.List.{AllByRecursion}
use Rattle.turn_lock.specs.Lists.{entries_of}
use Rattle.home_image.specs.Parts.{Meaning}
use Rattle.home_image.specs.Steps.{Fold}
use Rattle.home_image.specs.Chain.{steps_of}
use Rattle.home_image.specs.Book.{among}
use Rattle.share_api.proofs.FoldLaws.{fold_append}
use Rattle.home_image.proofs.ChainLemmas.{entries_from-append}
use Rattle.image_path.specs.Showing.{ByAccount, Makes}
use Rattle.image_path.specs.Paths.{IsPart, own_steps, DoesIn, IsPath, IsLedIn}

module _ {C S : Type 0} where
  -- what steps lead to by one relation they lead to by a weaker one
  pub fold-weaker : (P Q : C → S → C → Type 0) → ((old : C) (s : S) (new : C) → P old s new → Q old s new)
      → (old new : C) (steps : List S) → Fold P old steps new → Fold Q old steps new
  fold-weaker P Q sub old new [] f = f
  fold-weaker P Q sub old new (s ∷ steps) f =
      (f.0, sub old s f.0 f.1, fold-weaker P Q sub f.0 new steps f.2)

-- a list has its first element
pub contains-first : {X : Type 0} (x : X) (xs : List X) → Contains (x ∷ xs) x
contains-first x xs = (0, omega arith, refl)

-- and those of its rest
pub contains-rest : {X : Type 0} (y x : X) (xs : List X) → Contains xs x → Contains (y ∷ xs) x
contains-rest y x xs h = (suc h.0, omega (arith, h.1), h.2)

-- the steps of two lists of steps with places
steps-append : {S : Type 0} (xs ys : List (ℕ × S)) → steps_of (xs ++ ys) ≡ steps_of xs ++ steps_of ys
steps-append [] ys = refl
steps-append (x ∷ xs) ys = ap (λ l. x.1 ∷ l) (steps-append xs ys)

module _ {C S : Type 0} (account_of : S → ℕ) (does : C → S → C → Type 0) where
  -- the step, where it is the account's
  abbrev one_if : Bool → S → List S
  one_if mine s = if mine then s ∷ [] else []

  -- its list without the place
  steps-one : (mine : Bool) (place : ℕ) (s : S)
      → steps_of ((if mine then (place, s) ∷ [] else []) ++ []) ≡ one_if mine s
  steps-one true place s = refl
  steps-one false place s = refl

  -- an account's own steps after one step more
  own-more : (account : ℕ) (chain : List S) (s : S)
      → own_steps account_of does account (chain ++ s ∷ [])
      ≡ own_steps account_of does account chain ++ one_if (eqb (account_of s) account) s
  own-more account chain s =
      ap steps_of (entries_from-append account_of 0 account chain (s ∷ []))
      ∙ steps-append (entries_of account_of account chain) _
      ∙ ap (λ l. own_steps account_of does account chain ++ l)
      (steps-one (eqb (account_of s) account) (0 + length chain) s)

  -- with more images, contents that some image has stay such
  part-grows : (P Q : ByAccount C → Type 0) → ((f : ByAccount C) → P f → Q f)
      → (account : ℕ) (c : C) → IsPart P account c → IsPart Q account c
  part-grows P Q sub account c h = (h.0, sub h.0 h.1, h.2)

  -- with more images a path stays one
  pub path-grows : (P Q : ByAccount C → Type 0) → ((f : ByAccount C) → P f → Q f)
      → (chain : List S) (account : ℕ) (first last : C)
      → IsPath account_of does P chain account first last
      → IsPath account_of does Q chain account first last
  path-grows P Q sub chain account first last p = record {
    start = part-grows P Q sub account first p.start;
    fold = fold-weaker (DoesIn account_of does P account) (DoesIn account_of does Q account)
        (λ old s new h. (h.0, part-grows P Q sub account new h.1)) first last
        (own_steps account_of does account chain) p.fold;
  }

  module _ (images : ByAccount C → Type 0) (account : ℕ) where
    -- the step leads to contents that some image has
    abbrev Does : C → S → C → Type 0
    Does = DoesIn account_of does images account

    -- a step more, where it is this account's or isn't
    path-by : (mine : Bool) (s : S) (chain : List S) (first : C) (old new : ByAccount C)
        → ((mine ≡ true) × (account_of s ≡ account)) ⊎ ((mine ≡ false) × (account_of s ≢ account))
        → IsPath account_of does images chain account first (old account)
        → Makes account_of does s old new
        → IsPart images account (new account)
        → Fold Does first (own_steps account_of does account chain ++ one_if mine s) (new account)
    path-by mine s chain first old new (inl is) p makes part =
        subst (λ b. Fold Does first (own_steps account_of does account chain ++ one_if b s) (new account)) (sym is.0)
        (fold_append Does first (old account) (new account) (own_steps account_of does account chain)
        (s ∷ []) p.fold (new account, (subst (λ a. does (old a) s (new a)) is.1 makes.own, part), refl))
    path-by mine s chain first old new (inr is) p makes part =
        subst (λ b. Fold Does first (own_steps account_of does account chain ++ one_if b s) (new account)) (sym is.0)
        (fold_append Does first (old account) (new account) (own_steps account_of does account chain)
        [] p.fold (makes.others account (λ e. is.1 (sym e))))

    -- one step more of any account
    pub path-step : (s : S) (chain : List S) (first : C) (old new : ByAccount C)
        → IsPath account_of does images chain account first (old account)
        → Makes account_of does s old new
        → IsPart images account (new account)
        → IsPath account_of does images (chain ++ s ∷ []) account first (new account)
    path-step s chain first old new p makes part = record {
      start = p.start;
      fold = subst (λ l. Fold Does first l (new account)) (sym (own-more account chain s))
          (path-by (eqb (account_of s) account) s chain first old new (eqb_tells (account_of s) account) p makes part);
    }

-- the contents on a path, as a list
module _ {C S D U E X : Type 0} (m : Meaning C S D U E X) (images : ByAccount C → Type 0) (account : ℕ) where
  -- each element of the one list is in the other
  abbrev IsIn : List C → List C → Type 0
  IsIn xs ys = (c : C) → Contains xs c → Contains ys c

  -- the contents that steps lead through, as a list: they lead so for each list that has these
  record Collected (old : C) (steps : List S) (new : C) : Type 0 where
    pub seen : List C
    pub parts : AllByRecursion (IsPart images account) seen
    pub fold : (more : List C) → IsIn seen more → Fold (among m more).does old steps new

  -- the list of the contents on a path
  collect : (old new : C) (steps : List S) → Fold (DoesIn m.account m.does images account) old steps new
      → Collected old steps new
  collect old new [] f = record { seen = []; parts = tt; fold = λ more sub. f }
  collect old new (s ∷ steps) f =
      let rest = collect f.0 new steps f.2 in
      record {
        seen = f.0 ∷ rest.seen;
        parts = (f.1.1, rest.parts);
        fold = λ more sub. (
          f.0,
          (f.1.0, sub f.0 (contains-first f.0 rest.seen)),
          rest.fold more (λ c h. sub c (contains-rest f.0 c rest.seen h)),
        );
      }

  -- a path is what the books need: the account's steps lead so through contents of images
  pub led-of : (chain : List S) (first last : C)
      → IsPath m.account m.does images chain account first last
      → IsLedIn m images chain account first last
  led-of chain first last p =
      let all = collect first last (own_steps m.account m.does account chain) p.fold in
      record {
        seen = first ∷ all.seen;
        parts = (p.start, all.parts);
        led = record {
          start = contains-first first all.seen;
          fold = all.fold (first ∷ all.seen) (λ c h. contains-rest first c all.seen h);
        };
      }

-- the contents at the end of a path are an image's
module _ {C S : Type 0} (account_of : S → ℕ) (does : C → S → C → Type 0) (images : ByAccount C → Type 0)
    (account : ℕ) where
  -- the last contents on a path are an image's
  ends : (old new : C) (steps : List S) → IsPart images account old
      → Fold (DoesIn account_of does images account) old steps new → IsPart images account new
  ends old new [] part f = subst (IsPart images account) (sym f) part
  ends old new (s ∷ steps) part f = ends f.0 new steps f.1.1 f.2

  -- and so are those at its end
  pub path-end : (chain : List S) (first last : C) → IsPath account_of does images chain account first last
      → IsPart images account last
  path-end chain first last p = ends first last (own_steps account_of does account chain) p.start p.fold
