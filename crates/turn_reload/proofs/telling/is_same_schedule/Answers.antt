use Rattle.std.proofs.Common.{sym, ◌∙◌}
use Rattle.std.proofs.lemmas.Slice.Eq.{slice_eq-Decides}
use Rattle.turn_reload.proofs.EvidenceLemmas.{pair_decides}
use Rattle.turn_reload.proofs.telling.is_same_schedule.Goals as goal

-- the pairs are the schedules
pub returns : goal.returns
returns c =
    let one = c.pairs.ensures.value in
    let two = c.pairs-2.ensures.value in
    let both = slice_eq-Decides pair_decides c.pairs.result.now c.pairs-2.result.now c.eq.result c.eq.ensures in
    (λ e. sym one ∙ both.0 e ∙ two, λ same. both.1 (one ∙ same ∙ sym two))
