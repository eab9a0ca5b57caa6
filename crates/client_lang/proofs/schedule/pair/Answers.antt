use Rattle.std.proofs.Common.{sym, ◌∙◌, ap}
use Rattle.std.specs.Prelude.{option_and_then}
use Rattle.serde_json.specs.View.{items_view}
use Rattle.client_lang.specs.Fields.{pair_of}
use Rattle.client_lang.proofs.Pairs.{pair_of-length}
use Rattle.client_lang.proofs.schedule.pair.Goals as goal

-- an array of another length is no pair
pub returns-then-items-ne2 : goal.returns-then-items-ne2
returns-then-items-ne2 c =
    sym (ap (option_and_then pair_of) (sym c.in_ok-as_array.ensures)
    ∙ ap (λ vs. pair_of (items_view vs)) (sym c.as_slice-items.ensures.value)
    ∙ pair_of-length c.as_slice-items.result.now c.if-items-ne2.true)
