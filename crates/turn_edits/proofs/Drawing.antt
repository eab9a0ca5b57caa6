-- Words are drawn one after another.
use Rattle.std.proofs.Common.{◌≡◌, ◌+◌, ◌≤◌, ◌<◌, ◌%◌, ◌^◌, ℕ, zero, suc, refl, ap, ◌∙◌, arith}
use Rattle.std.proofs.Math.Nat.{mod-eq_of_lt}
use Rattle.random_values.specs.Stretches.{Place, moved}
use Rattle.random_values.proofs.StretchLemmas.{moved_on}
use Rattle.turn_edits.specs.Endings.{Draws, after_words}

moved_is_after : (words : ℕ) (place : Place) → 1 ≤ words → moved place words ≡ after_words place words
moved_is_after zero place some = absurd (omega (arith, some))
moved_is_after (suc words) place some = refl

moved_after : (one : Place) (before words : ℕ) → moved (after_words one before) words ≡ moved one (before + words)
moved_after one zero words = ap (moved one) (omega arith)
moved_after one (suc before) words = moved_on one (suc before) words

-- some words, and then so many more
pub draws_then : (least most : ℕ) (one two three : Place) (words : ℕ) → 1 ≤ words → Draws least most one two
    → three ≡ moved two words → Draws (least + words) (most + words) one three
draws_then least most one two three words more d e = record {
  words = d.words + words;
  some = (let some = d.some in omega (arith, some));
  few = (let few = d.few in omega (arith, few));
  moved_is = e ∙ ap (λ (p : Place). moved p words) d.moved_is ∙ moved_after one d.words words
      ∙ moved_is_after (d.words + words) one (omega (arith, more));
}

-- a wider range
pub draws_wider : (least most less more : ℕ) (one two : Place) → less ≤ least → most ≤ more → Draws least most one two
    → Draws less more one two
draws_wider least most less more one two low high d = record {
  words = d.words;
  some = (let some = d.some in omega (arith, some, low));
  few = (let few = d.few in omega (arith, few, high));
  moved_is = d.moved_is;
}

-- no word
pub draws_none : (place : Place) (most : ℕ) → Draws 0 most place place
draws_none place most = record { words = 0; some = omega arith; few = omega arith; moved_is = refl }

-- the key stays, and the place doesn't fall before the stream's end
pub goes_on : (least most : ℕ) (before after : Place) → Draws least most before after
    → before.position + most < 2 ^ 68 → (after.key ≡ before.key) × (before.position ≤ after.position)
goes_on least most before after d below = by d.words d.few d.moved_is
  where
    by : (words : ℕ) → words ≤ most → after ≡ after_words before words
        → (after.key ≡ before.key) × (before.position ≤ after.position)
    by zero few e =
        let same : after.position ≡ before.position = ap (λ (p : Place). p.position) e in
        (ap (λ (p : Place). p.key) e, omega (arith, same))
    by (suc words) few e =
        let same : after.position ≡ (before.position + suc words) % 2 ^ 68 = ap (λ (p : Place). p.position) e in
        let within : (before.position + suc words) % 2 ^ 68 ≡ before.position + suc words =
        mod-eq_of_lt (omega (arith, few, below)) in
        (ap (λ (p : Place). p.key) e, omega (arith, same, within))
