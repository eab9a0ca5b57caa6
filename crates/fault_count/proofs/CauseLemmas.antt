-- The count of faults over two calls, or where a fault goes by another name.
use Rattle.std.proofs.Common.{ℕ, ◌≤◌, ◌⊎◌, ⊎_elim, refl, ◌∙◌, arith}
use Rattle.fault_count.specs.Causes.{Rose, HasCause}

-- a count that rose later has risen since before
pub rose_before : (before middle after : ℕ) → before ≤ middle → Rose middle after → Rose before after
rose_before before middle after later rose = omega arith

-- a count that rose stays risen
pub rose_after : (before middle after : ℕ) → Rose before middle → middle ≤ after → Rose before after
rose_after before middle after rose later = omega arith

-- no call
pub cause_none : (count : ℕ) (Failing : Type 0) → ¬ Failing → HasCause count count Failing
cause_none count Failing none = record { later = omega arith; rose = λ failing. absurd (none failing); kept = λ _. refl }

-- the same fault by another name
pub cause_renamed : (before now : ℕ) (F G : Type 0) → (F → G) → (G → F) → HasCause before now F → HasCause before now G
cause_renamed before now F G to from cause =
    record { later = cause.later; rose = λ failing. cause.rose (from failing); kept = λ none. cause.kept (λ failing. none (to failing)) }

-- two calls, either of which may have failed
pub cause_then : (before middle after : ℕ) (F G H : Type 0) → (F → H) → (G → H) → (H → F ⊎ G)
    → HasCause before middle F → HasCause middle after G → HasCause before after H
cause_then before middle after F G H first second either f g = record {
  later = omega (arith, f.later, g.later);
  rose = λ failing. ⊎_elim
      (λ failed. rose_after before middle after (f.rose failed) g.later)
      (λ failed. rose_before before middle after f.later (g.rose failed))
      (either failing);
  kept = λ none. g.kept (λ failed. none (second failed)) ∙ f.kept (λ failed. none (first failed));
}
