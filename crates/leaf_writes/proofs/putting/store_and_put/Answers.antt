use Rattle.std.proofs.Common.{Some}
use Rattle.std.proofs.lemmas.Result.{on_ok_weaker}
use Rattle.leaf_writes.proofs.WriteLemmas.{only_stored, ends_stored, then_changed, both_last, both_done, ends_changed}
use Rattle.leaf_writes.proofs.putting.store_and_put.Goals as goal

-- the store failed: it is done or not

pub returns-in_err-nv_store-clause-any_moment : goal.returns-in_err-nv_store-clause-any_moment
returns-in_err-nv_store-clause-any_moment g c =
    only_stored c.args.words.now c.args.name.now (Some c.args.bytes.now) _ _ c.nv_store.ensures.crash

pub returns-in_err-nv_store-clause-done_or_not : goal.returns-in_err-nv_store-clause-done_or_not
returns-in_err-nv_store-clause-done_or_not g c =
    ends_stored c.args.words.now c.args.name.now (Some c.args.bytes.now) _ _ c.nv_store.ensures.done_or_not

-- it lasts, and the record's change goes on from it

pub returns-clause-any_moment : goal.returns-clause-any_moment
returns-clause-any_moment g c =
    then_changed c.args.words.now c.args.name.now (Some c.args.bytes.now) _ _ _ c.nv_store.ensures.crash c.in_ok-nv_store.ensures.lasts
    c.put.ensures.any_moment

pub returns-clause-durable : goal.returns-clause-durable
returns-clause-durable g c =
    let a = g.B.Board.disk c.args.board.now in
    let b = g.B.Board.disk c.nv_store.new.self in
    let d = g.B.Board.disk c.put.new.board in
    on_ok_weaker c.put.result (both_last c.args.words.now c.args.name.now (Some c.args.bytes.now) a b d c.in_ok-nv_store.ensures.lasts)
    c.put.ensures.durable

pub returns-clause-done : goal.returns-clause-done
returns-clause-done g c =
    let a = g.B.Board.disk c.args.board.now in
    let b = g.B.Board.disk c.nv_store.new.self in
    let d = g.B.Board.disk c.put.new.board in
    on_ok_weaker c.put.result (both_done c.args.words.now c.args.name.now (Some c.args.bytes.now) a b d c.in_ok-nv_store.ensures.done)
    c.put.ensures.done

pub returns-clause-done_or_not : goal.returns-clause-done_or_not
returns-clause-done_or_not g c =
    ends_changed c.args.words.now c.args.name.now (Some c.args.bytes.now) _ _ _ c.in_ok-nv_store.ensures.done c.put.ensures.done_or_not
