use Rattle.std.proofs.Common.{◌≡◌, ◌&&◌, Bool, true, false, take, drop, refl, sym, ◌∙◌, ap}
use Rattle.std.specs.Prelude.{is_ok}
use Rattle.std.proofs.lemmas.Bool.{and_right}
use Rattle.std.proofs.lemmas.Bool.Decides.{same_from_decides}
use Rattle.pw_types.specs.Schedule.{is_schedule}
use Rattle.pw_types.proofs.ScheduleLemmas.{is_schedule-Decides}
use Rattle.pw_leaf.specs.Reading.{pairs_in, pairs_of}
use Rattle.pw_leaf.proofs.ReadLemmas.{has_schedule-by}
use Rattle.pw_leaf.proofs.read.schedule_in.Goals as goal

-- an unused pair isn't zero
pub returns-then-not-are_zero-clause-tested : goal.returns-then-not-are_zero-clause-tested
returns-then-not-are_zero-clause-tested c =
    sym (has_schedule-by c.args.bytes.now c.args.count (is_schedule (pairs_in c.args.bytes.now)) false c.requires.count refl (sym c.are_zero.ensures ∙ c.if-not-are_zero.true)
    ∙ and_right (is_schedule (pairs_in c.args.bytes.now)) false refl)

-- the pairs are tested where the unused ones are zero
pub returns-clause-tested : goal.returns-clause-tested
returns-clause-tested c =
    let bytes = c.args.bytes.now in
    let pairs = take c.args.count c.pairs_of-pairs.result in
    let tested = same_from_decides (is_ok c.new.result) (is_schedule pairs) c.new.ensures.succeeds (is_schedule-Decides pairs) in
    let read : pairs ≡ pairs_in bytes = c.pairs_of-pairs.ensures ∙ ap (λ n. pairs_of n (drop 4 bytes)) c.requires.count in
    c.ok.ensures.variant ∙ tested ∙ sym (has_schedule-by bytes c.args.count (is_schedule pairs) true c.requires.count (ap is_schedule (sym read)) (sym c.are_zero.ensures ∙ c.if-not-are_zero.false) ∙ and_true (is_schedule pairs))
  where
    and_true : (b : Bool) → (b && true) ≡ b
    and_true true = refl
    and_true false = refl
