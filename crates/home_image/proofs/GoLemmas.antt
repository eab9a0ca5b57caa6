-- All accounts go on, by the steps of one platform.
use Rattle.std.proofs.Common.{◌≡◌, ◌≢◌, ℕ, ◌+◌, List, [], ◌∷◌, ◌++◌, length, sym, ap, subst, ◌∙◌, ne_eqb, if◌then◌else◌}
use Rattle.std.specs.List.{AllByRecursion}
use mathlib.Core.Logic.{dite}
use native.Mathlib.Decide.{ℕ_discrete}
use Rattle.turn_lock.specs.Lists.{entries_from}
use Rattle.home_image.specs.Parts.{Meaning}
use Rattle.home_image.specs.Book.{Made}
use Rattle.home_image.specs.Settled.{BookStands, BooksGo, AreTurnOf, OneTurn}
use Rattle.home_image.proofs.ChainLemmas.{entries_from-append}
use Rattle.home_image.proofs.BookLemmas.{stands-new, stands-turn, stands-more}

module _ {C S D U E X : Type 0} (m : Meaning C S D U E X) where
  -- steps of one account are no other's
  none-of : (place account other : ℕ) (steps : List S)
      → other ≢ account
      → AllByRecursion (λ step. m.account step ≡ account) steps
      → entries_from m.account place other steps ≡ []
  none-of place account other [] apart mine = λ i. []
  none-of place account other (s ∷ steps) apart mine =
      ap (λ is_its. (if is_its then (place, s) ∷ [] else []) ++ entries_from m.account (place + 1) other steps)
      (ne_eqb (m.account s) other (λ e. apart (sym e ∙ mine.0)))
      ∙ none-of (place + 1) account other steps apart mine.1

  -- all books go on by one account's turn
  pub go-turn : (made_before account : ℕ) (steps : List S) (turn : Made S E) (before after : ℕ → X)
      (turns : ℕ → List E)
      → AreTurnOf m made_before account steps turn
      → OneTurn m account turn before after turns
      → BooksGo m made_before before after steps turns
  go-turn made_before account steps turn before after turns are one = λ other.
      let Stands : X → List (ℕ × S) → List E → Type 0 = λ state own book.
      BookStands m (before other) state own book in
      dite (ℕ_discrete other account)
      (λ same.
      subst (λ (a : ℕ). BookStands m (before a) (after a) (entries_from m.account made_before a steps) (turns a))
      (sym same)
      (subst (λ book. BookStands m (before account) (after account)
      (entries_from m.account made_before account steps) book) (sym one.entry)
      (subst (λ own. BookStands m (before account) (after account) own (turn.entry ∷ [])) are.own
      (stands-turn m (before account) (before account) (after account) [] [] turn
      (stands-new m (before account)) one.stands))))
      (λ apart.
      subst (λ state. Stands state (entries_from m.account made_before other steps) (turns other))
      (sym (one.states other apart))
      (subst (λ own. Stands (before other) own (turns other))
      (sym (none-of made_before account other steps apart are.mine))
      (subst (λ book. Stands (before other) [] book) (sym (one.none other apart))
      (stands-new m (before other)))))

  -- and by steps and turns, and then more of them
  pub go-on : (made_before : ℕ) (steps more : List S) (before mid after : ℕ → X)
      (turns more_turns : ℕ → List E)
      → BooksGo m made_before before mid steps turns
      → BooksGo m (made_before + length steps) mid after more more_turns
      → BooksGo m made_before before after (steps ++ more) (λ account. turns account ++ more_turns account)
  go-on made_before steps more before mid after turns more_turns first next = λ account.
      subst (λ own. BookStands m (before account) (after account) own (turns account ++ more_turns account))
      (sym (entries_from-append m.account made_before account steps more))
      (stands-more m (before account) (mid account) (after account)
      (entries_from m.account made_before account steps)
      (entries_from m.account (made_before + length steps) account more) (turns account)
      (more_turns account) (first account) (next account))
