-- One place in all books.
use Rattle.std.proofs.Common.{◌≡◌, ◌≢◌, ◌⊎◌, inl, inr, ⊎_elim, ℕ, ◌+◌, ◌≤◌, ◌<◌, ◌^◌, List, [], ◌∷◌, ◌++◌, length, refl, sym, ap, subst, ◌∙◌, arith, ne_eqb, eq-eqb, append-nil, length-append, if◌then◌else◌}
use Rattle.std.specs.List.{AllByRecursion}
use Rattle.std.proofs.Math.Seq.{take-append_seam, take-append-add}
use mathlib.Core.Logic.{dite}
use native.Mathlib.Decide.{ℕ_discrete}
use Rattle.home_image.specs.Parts.{Meaning}
use Rattle.home_image.specs.Steps.{Fold}
use Rattle.turn_lock.specs.Lists.{entries_from}
use Rattle.home_image.specs.Chain.{steps_of, place_from, place_of}
use Rattle.home_image.specs.Book.{Made, AreClean, among, entries, steps_in}
use Rattle.home_image.specs.Place.{HasPlace}
use Rattle.home_image.specs.Settled.{BookStands, Opens, IsLed, IsLeft, IsAtPlace, owned}
use Rattle.home_image.proofs.ChainLemmas.{entries_from-append, place-below}
use Rattle.home_image.proofs.BookLemmas.{own-below, own-exact}
use Rattle.home_image.proofs.ListLemmas.{two_cuts, some_in, one_left, all-left, all-right}
use Rattle.home_image.proofs.PlaceLemmas.{at-led}

module _ {C S D U E X : Type 0} (m : Meaning C S D U E X) where
  -- parts to which all accounts' steps among the first n lead are at place n of all books
  pub at-left : (n accounts : ℕ) (chain : List S) (early own : ℕ → List (ℕ × S)) (before after : ℕ → X)
      (first image : ℕ → C) (seen : ℕ → List C) (user : ℕ → U) (book : ℕ → List E)
      → ((account : ℕ) → account < accounts
      → BookStands m (before account) (after account) (own account) (book account))
      → ((account : ℕ) → account < accounts → owned m account chain ≡ early account ++ own account)
      → ((account : ℕ) → account < accounts
      → Opens m (before account) (steps_of (early account)) (first account) (user account))
      → ((account : ℕ) → account < accounts → AreClean m (seen account) (user account) (book account))
      → length chain < 2 ^ 64
      → IsLeft m n accounts chain seen first image
      → IsAtPlace m n accounts user book image
  at-left n accounts chain early own before after first image seen user book stands parts opens clean small left =
      λ account below.
      at-led m n account chain (early account) (own account) (before account) (after account) (first account)
      (image account) (seen account) (user account) (book account) (stands account below) (parts account below)
      (opens account below) (clean account below) small left.within (left.each account below)

  -- a step of another account isn't among this account's
  owned-other : (account : ℕ) (before : List S) (step : S)
      → m.account step ≢ account
      → owned m account (before ++ step ∷ []) ≡ owned m account before
  owned-other account before step other =
      entries_from-append m.account 0 account before (step ∷ [])
      ∙ (ap (λ mine. owned m account before
      ++ ((if mine then (0 + length before, step) ∷ [] else []) ++ []))
      (ne_eqb (m.account step) account other)
      ∙ append-nil (owned m account before))

  -- so what an account's steps lead to stays with another account's step
  led-other : (account : ℕ) (before : List S) (step : S) (seen : List C) (first last : C)
      → m.account step ≢ account
      → IsLed m before account seen first last
      → IsLed m (before ++ step ∷ []) account seen first last
  led-other account before step seen first last other led = record {
    start = led.start;
    fold = subst (λ own. Fold (among m seen).does first (steps_of own) last)
        (sym (owned-other account before step other)) led.fold;
  }

  -- A step in flight is done or not: its account's contents are those with it or without it, and the
  -- others' are the same in either case.
  pub left-in_flight : (accounts : ℕ) (before after : List S) (step : S) (first image : ℕ → C)
      (seen : ℕ → List C)
      → ((account : ℕ) → account < accounts → account ≢ m.account step
      → IsLed m before account (seen account) (first account) (image account))
      → IsLed m before (m.account step) (seen (m.account step)) (first (m.account step)) (image (m.account step))
      ⊎ IsLed m (before ++ step ∷ []) (m.account step) (seen (m.account step)) (first (m.account step))
      (image (m.account step))
      → IsLeft m (length before) accounts (before ++ step ∷ after) seen first image
      ⊎ IsLeft m (length before + 1) accounts (before ++ step ∷ after) seen first image
  left-in_flight accounts before after step first image seen others mine =
      let size = length-append before (step ∷ after) in
      let made : ℕ → List S → Type 0 = λ account chain.
      IsLed m chain account (seen account) (first account) (image account) in
      ⊎_elim
      (λ without. inl (record {
        within = omega (arith, size);
        each = λ account below.
            subst (made account) (sym (take-append_seam before (step ∷ after)))
            (dite (ℕ_discrete account (m.account step))
            (λ same. subst (λ (a : ℕ). made a before) (sym same) without)
            (λ other. others account below other));
      }))
      (λ done. inr (record {
        within = omega (arith, size);
        each = λ account below.
            subst (made account) (sym (take-append-add before (step ∷ after) 1))
            (dite (ℕ_discrete account (m.account step))
            (λ same. subst (λ (a : ℕ). made a (before ++ step ∷ [])) (sym same) done)
            (λ other. led-other account before step (seen account) (first account) (image account)
            (λ e. other (sym e)) (others account below other)));
      }))
      mine

  -- an account's steps in a longer chain
  pub owned-more : (account : ℕ) (chain more : List S)
      → owned m account (chain ++ more)
      ≡ owned m account chain ++ entries_from m.account (length chain) account more
  owned-more account chain more =
      entries_from-append m.account 0 account chain more
      ∙ ap (λ (at : ℕ). owned m account chain ++ entries_from m.account at account more) (omega arith)

  -- the place after steps is one more than the last one's
  place-last : (place : ℕ) (before : List (ℕ × S)) (known : ℕ × S)
      → place_from place (before ++ known ∷ []) ≡ known.0 + 1
  place-last place [] known = refl
  place-last place (first ∷ before) known = place-last (first.0 + 1) before known

  -- a turn that has the last of all steps
  has-last : (made : List (Made S E)) (before : List (ℕ × S)) (known : ℕ × S)
      → AllByRecursion (λ turn. m.place turn.entry ≡ place_of turn.own) made
      → steps_in made ≡ before ++ known ∷ []
      → HasPlace m (known.0 + 1) (entries made)
  has-last [] before known places is = absurd (some_in before known is)
  has-last (turn ∷ made) before known places is = ⊎_elim
      (λ cut. inr (has-last made cut.0 known places.1 cut.2))
      (λ cut.
      let end : turn.own ≡ before ++ known ∷ [] =
      cut.2 ∙ ap (λ (xs : List (ℕ × S)). before ++ xs) (one_left cut.0 cut.1 (steps_in made) known cut.3) in
      inl (places.0 ∙ ap place_of end ∙ place-last 0 before known))
      (two_cuts turn.own (steps_in made) before (known ∷ []) is)

  -- the last step of a chain is of a turn whose place is the chain's length, or of those that open its account
  pub last-place : (chain : List S) (step : S) (early own : List (ℕ × S)) (before after : X) (book : List E)
      → BookStands m before after own book
      → owned m (m.account step) (chain ++ step ∷ []) ≡ early ++ own
      → length (chain ++ step ∷ []) < 2 ^ 64
      → HasPlace m (length (chain ++ step ∷ [])) book ⊎ (place_of early ≡ length (chain ++ step ∷ []))
  last-place chain step early own before after book stands parts small =
      let account = m.account step in
      let exact = own-exact m account (chain ++ step ∷ []) early own before after book stands parts small in
      let made = owned m account chain in
      let known : ℕ × S = (length chain, step) in
      let mine : owned m account (chain ++ step ∷ []) ≡ made ++ known ∷ [] =
      owned-more account chain (step ∷ [])
      ∙ ap (λ mine. made ++ ((if mine then known ∷ [] else []) ++ [])) (eq-eqb (m.account step) account refl) in
      let size : length (chain ++ step ∷ []) ≡ length chain + 1 = length-append chain (step ∷ []) in
      ⊎_elim
      (λ cut. inl
      (subst (λ es. HasPlace m (length (chain ++ step ∷ [])) es) stands.book_is
      (subst (λ (n : ℕ). HasPlace m n (entries stands.made)) (sym size)
      (has-last stands.made cut.0 known exact (stands.own_is ∙ cut.2)))))
      (λ cut. inr
      (ap place_of (cut.2 ∙ ap (λ (xs : List (ℕ × S)). made ++ xs) (one_left cut.0 cut.1 own known cut.3))
      ∙ place-last 0 made known ∙ sym size))
      (two_cuts early own made (known ∷ []) (sym parts ∙ mine))

  -- turns with all steps below n have places up to n
  few : (n : ℕ) (made : List (Made S E))
      → AllByRecursion (λ turn. m.place turn.entry ≡ place_of turn.own) made
      → AllByRecursion (λ known. known.0 < n) (steps_in made)
      → AllByRecursion (λ e. m.place e ≤ n) (entries made)
  few n [] places below = tt
  few n (turn ∷ made) places below =
      let here = place-below n 0 turn.own (omega arith)
      (all-left (λ known. known.0 < n) turn.own (steps_in made) below) in
      let at = places.0 in (
        omega (arith, here, at),
        few n made places.1 (all-right (λ known. known.0 < n) turn.own (steps_in made) below),
      )

  -- no place of a book is above the chain's length
  pub places-few : (account : ℕ) (chain : List S) (early own : List (ℕ × S)) (before after : X) (book : List E)
      → BookStands m before after own book
      → owned m account chain ≡ early ++ own
      → length chain < 2 ^ 64
      → AllByRecursion (λ e. m.place e ≤ length chain) book
  places-few account chain early own before after book stands parts small =
      subst (AllByRecursion (λ e. m.place e ≤ length chain)) stands.book_is
      (few (length chain) stands.made (own-exact m account chain early own before after book stands parts small)
      (own-below m account chain early own before after book stands parts))
