use Rattle.std.proofs.Common.{◌≡◌, take, drop}
use Rattle.serde_json.specs.View.{items_view}
use Rattle.client_lang.specs.Fields.{pairs_of}
use Rattle.client_lang.proofs.Pairs.{With}
use Rattle.client_lang.proofs.schedule.read_pairs.Given as goal

-- the pairs so far stand before those of the rest
abbrev pub invariant-loop-at : goal.invariant-loop-at
invariant-loop-at l = pairs_of (items_view l.items) ≡ With (take l.at l.pairs) (drop l.at l.items)
