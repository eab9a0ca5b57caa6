use Rattle.std.proofs.Common.{Some, sym, ◌∙◌, ap, refl}
use Rattle.std.specs.Prelude.{option_and_then}
use Rattle.serde_json.specs.View.{items_view}
use Rattle.client_lang.specs.Fields.{pairs_of}
use Rattle.client_lang.proofs.Pairs.{chosen, chosen-schedule, chosen-other, too_many}
use Rattle.client_lang.proofs.schedule.schedule_of.Goals as goal

-- more than 16 pairs are no schedule
pub returns-then-items-gt-MOST_PAIRS : goal.returns-then-items-gt-MOST_PAIRS
returns-then-items-gt-MOST_PAIRS c =
    sym (ap (λ o. option_and_then chosen (option_and_then pairs_of o)) (sym c.in_ok-as_array.ensures)
    ∙ ap (λ vs. option_and_then chosen (pairs_of (items_view vs))) (sym c.as_slice-items.ensures.value)
    ∙ too_many c.as_slice-items.result.now c.if-items-gt-MOST_PAIRS.true)

-- the pairs that were read are the array's
pub returns-in-Ok : goal.returns-in-Ok
returns-in-Ok c =
    let pairs = c.read_pairs.new.pairs in
    let schedule = c.in-Ok.ensures.succeeds.0 refl in
    sym (ap (λ o. option_and_then chosen (option_and_then pairs_of o)) (sym c.in_ok-as_array.ensures)
    ∙ ap (λ vs. option_and_then chosen (pairs_of (items_view vs))) (sym c.as_slice-items.ensures.value)
    ∙ ap (option_and_then chosen) (c.read_pairs.ensures.read c.if-not-read_pairs.false)
    ∙ chosen-schedule pairs schedule
    ∙ ap Some (sym c.in-Ok.ensures.found))

pub returns-in-Err : goal.returns-in-Err
returns-in-Err c =
    let pairs = c.read_pairs.new.pairs in
    sym (ap (λ o. option_and_then chosen (option_and_then pairs_of o)) (sym c.in_ok-as_array.ensures)
    ∙ ap (λ vs. option_and_then chosen (pairs_of (items_view vs))) (sym c.as_slice-items.ensures.value)
    ∙ ap (option_and_then chosen) (c.read_pairs.ensures.read c.if-not-read_pairs.false)
    ∙ chosen-other pairs (λ schedule. let clash = c.in-Err.ensures.succeeds.1 schedule in cc))
