-- Words that are reached by boots and calls.
use Rattle.std.proofs.Common.{◌≡◌, ℕ, ◌<◌, ◌^◌, List, [], ◌∷◌, ◌++◌, refl, ◌∙◌, ap, subst}
use Rattle.pw_chip.specs.State.{ChipState, booted}
use Rattle.pw_chip.specs.Calls.{CallData}
use Rattle.pw_chip.specs.Step.{step}
use Rattle.pw_chip.specs.Ledger.{Event, Boots, Calls}
use Rattle.pw_chip.specs.Law.{words_after, IsCall, AreEvents}
use Rattle.pw_chip.specs.History.{words_in_the_end}
use Rattle.pw_chip.specs.WordsBytes.{IsWords}
use Rattle.pw_chip.specs.Reach.{IsReached}
use Rattle.pw_chip.proofs.ReachedLemmas.{events_kept}

-- two lists of events, one after another
end_append : (xs ys : List Event) (w : ChipState) → words_in_the_end w (xs ++ ys) ≡ words_in_the_end (words_in_the_end w xs) ys
unfolding words_in_the_end
end_append [] ys w = refl
end_append (x ∷ xs) ys w = end_append xs ys (words_after w x)

-- they are events too
are_append : (xs ys : List Event) → AreEvents xs → AreEvents ys → AreEvents (xs ++ ys)
unfolding AreEvents
are_append [] ys hx hy = hy
are_append (x ∷ xs) ys hx hy = (hx.0, are_append xs ys hx.1 hy)

-- no event leads to the same words
pub reached-start : (w : ChipState) → IsReached w w
unfolding words_in_the_end AreEvents
reached-start w = record { events = []; are = tt; leads = refl }

-- ways join
pub reached-then : (a b c : ChipState) → IsReached a b → IsReached b c → IsReached a c
reached-then a b c p q =
    record {
      events = p.events ++ q.events;
      are = are_append p.events q.events p.are q.are;
      leads = end_append p.events q.events a ∙ ap (λ w. words_in_the_end w q.events) p.leads ∙ q.leads;
    }

-- a boot leads on
pub reached-boot : (w : ChipState) (moment : ℕ) → moment < 2 ^ 40 → IsReached w (booted w moment)
unfolding words_in_the_end AreEvents
reached-boot w moment h = record { events = Boots moment ∷ []; are = (h, tt); leads = refl }

-- a call leads on
pub reached-call : (w : ChipState) (call : CallData) (now : ℕ) → now < 2 ^ 40 → IsCall call → IsReached w (step w call now).1
unfolding words_in_the_end AreEvents
reached-call w call now h ok = record { events = Calls call now ∷ []; are = ((h, ok), tt); leads = refl }

-- words that can be kept lead to such words
pub IsWords-reached_from : (from to : ChipState) → IsWords from → IsReached from to → IsWords to
IsWords-reached_from from to is p = subst IsWords p.leads (events_kept p.events from is p.are)
