use Rattle.std.proofs.Common.{◌≡◌, ◌∙◌, ap, length, Some, None}
use Rattle.std.specs.List.{position}
use Rattle.record_names.specs.Names.{is_full_stop}
use Rattle.record_names.proofs.NameLemmas.{position_full_stop, split_parts}
use Rattle.record_names.proofs.reading.split_at_full_stop.Goals as goal

-- no full stop was found, but there is one
pub returns-in_err-at : goal.returns-in_err-at
returns-in_err-at c = λ front rest names is.
    let there : position is_full_stop c.args.bytes.now ≡ Some (length front) = ap (position is_full_stop) is ∙ position_full_stop front rest names in
    let none : None ≡ position is_full_stop c.args.bytes.now = c.in_err-at.ensures in
    cc

pub returns : goal.returns
returns c = λ front rest names is.
    let there : position is_full_stop c.args.bytes.now ≡ Some (length front) = ap (position is_full_stop) is ∙ position_full_stop front rest names in
    let found : Some c.in_ok-at.at ≡ position is_full_stop c.args.bytes.now = c.in_ok-at.ensures in
    let at : c.in_ok-at.at ≡ length front = cc in
    split_parts c.args.bytes.now front rest c.in_ok-at.at is at
