use Rattle.std.proofs.Common.{◌≤◌, [], length, sym, subst, arith}
use Rattle.platform_core.specs.Records.{IsRecordOf}
use Rattle.platform_core.specs.Picks.{Picked}
use Rattle.platform_core.proofs.PickLemmas.{picked_none, picked_more, picked_whole}
use Rattle.platform_core.proofs.names.own_names.Goals as goal

pub loop-name-init : goal.loop-name-init
loop-name-init c = subst (Picked (IsRecordOf c.args.account.now) []) (sym c.new-own.ensures.items)
    (picked_none (IsRecordOf c.args.account.now))

pub loop-name-preserved : goal.loop-name-preserved
loop-name-preserved c =
    picked_more (IsRecordOf c.args.account.now) c.args.names.now c.loop-name.own.items c.add_own.new.own.items
    c.loop-name.name-index c.name-item.result c.loop-name-test.true c.name-item.is c.loop-name.invariant
    c.in_ok-add_own.ensures

pub returns : goal.returns
returns c =
    let end : length c.args.names.now ≤ c.loop-name.name-index = omega arith in
    picked_whole (IsRecordOf c.args.account.now) c.args.names.now c.loop-name.own.items c.loop-name.name-index end
    c.loop-name.invariant
