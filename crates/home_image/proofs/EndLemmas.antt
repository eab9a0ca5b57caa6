-- The end of a book, by what its turns say.
use Rattle.std.proofs.Common.{◌≡◌, ◌⊎◌, inl, inr, ℕ, ◌+◌, ◌<◌, ◌^◌, List, [], ◌∷◌, ◌++◌, length, refl, sym, subst, arith}
use Rattle.std.specs.Prelude.{Contains}
use Rattle.std.specs.List.{AllByRecursion}
use Rattle.home_image.specs.Parts.{Meaning}
use Rattle.home_image.specs.Steps.{Fold}
use Rattle.home_image.specs.Chain.{steps_of, place_of}
use Rattle.home_image.specs.Book.{Made, entries, steps_in, SameDurable, among, Tells, AreClean}
use Rattle.home_image.specs.Place.{IsWithin, AreHeld}
use Rattle.home_image.specs.Settled.{IsStateOf, Opens, BookStands, IsLed, BookEnds, owned}
use Rattle.home_image.proofs.ListLemmas.{all-left, all-right}
use Rattle.home_image.proofs.StepLemmas.{steps-split}
use Rattle.home_image.proofs.ChainLemmas.{place-positive, place-below}
use Rattle.home_image.proofs.BookLemmas.{stays_seen, clean_first, clean_rest, opens-then, own-below, own-exact}

module _ {C S D U E X : Type 0} (m : Meaning C S D U E X) where
  -- an entry has a place up to n, or no device step
  within-or-same : (n : ℕ) (user next : U) (e : E) (own : List (ℕ × S))
      → (own ≡ [] → SameDurable m user next)
      → m.place e ≡ place_of own
      → AllByRecursion (λ known. known.0 < n) own
      → IsWithin m n e ⊎ SameDurable m user next
  within-or-same n user next e [] idle at below = inr (idle refl)
  within-or-same n user next e (known ∷ own) idle at below =
      let some = place-positive (known.0 + 1) own (omega arith) in
      let few = place-below n 0 (known ∷ own) (omega arith) below in
      inl (record { made = omega (arith, at, some); within = omega (arith, at, few) })

  -- what the turns say of the end: a user to whom they lead, and what End says of it
  ends-tells : (n : ℕ) (seen : List C) (End : C → U → Type 0) (made : List (Made S E)) (c now : C) (user : U)
      → Contains seen c
      → AreClean m seen user (entries made)
      → Tells m seen End made c user
      → AllByRecursion (λ turn. m.place turn.entry ≡ place_of turn.own) made
      → AllByRecursion (λ known. known.0 < n) (steps_in made)
      → Fold (among m seen).does c (steps_of (steps_in made)) now
      → (last : U) × AreHeld m n user (entries made) last × End now last
  ends-tells n seen End [] c now user has clean tells places below f =
      (user, refl, subst (λ x. End x user) (sym f) tells)
  ends-tells n seen End (turn ∷ made) c now user has clean tells places below f =
      let told = tells has (clean_first m seen user turn.entry (entries made) clean) in
      let split = steps-split (among m seen).does c now turn.own (steps_in made) f in
      let led = told.leads split.0 split.1 in
      let rest = ends-tells n seen End made split.0 now led.0
      (stays_seen m seen c split.0 (steps_of turn.own) has split.1)
      (clean_rest m seen user led.0 turn.entry (entries made) led.1.allowed clean) led.2 places.1
      (all-right (λ known. known.0 < n) turn.own (steps_in made) below) split.2 in (
        rest.0,
        (
          led.0,
          led.1.allowed,
          within-or-same n user led.0 turn.entry turn.own led.1.idle places.0
              (all-left (λ known. known.0 < n) turn.own (steps_in made) below),
          rest.1,
        ),
        rest.2,
      )

  -- Contents to which an account's whole chain leads hold the user at the end of its book. Its first steps
  -- open it, and the others are those of its book.
  pub ends-led : (account : ℕ) (chain : List S) (early own : List (ℕ × S)) (before after : X) (first now : C)
      (seen : List C) (user : U) (book : List E)
      → BookStands m before after own book
      → owned m account chain ≡ early ++ own
      → Opens m before (steps_of early) first user
      → AreClean m seen user book
      → length chain < 2 ^ 64
      → IsLed m chain account seen first now
      → BookEnds m (length chain) after user book now
  ends-led account chain early own before after first now seen user book stands parts opens clean small led =
      let opened = opens-then m seen before user early own first now opens led.start
      (subst (λ xs. Fold (among m seen).does first (steps_of xs) now) parts led.fold) in
      let ends = ends-tells (length chain) seen (IsStateOf m after) stands.made opened.mid now user opened.has
      (subst (λ es. AreClean m seen user es) (sym stands.book_is) clean)
      (stands.right seen opened.mid user opened.state_of)
      (own-exact m account chain early own before after book stands parts small)
      (own-below m account chain early own before after book stands parts)
      (subst (λ xs. Fold (among m seen).does opened.mid (steps_of xs) now) (sym stands.own_is) opened.fold) in
      record {
        last = ends.0;
        held = subst (λ es. AreHeld m (length chain) user es ends.0) stands.book_is ends.1;
        stands = ends.2;
      }
