use Rattle.pin_edits.proofs.PinStashes.{pin_stash_is}
use Rattle.pin_edits.proofs.pin_stash.pin_stash.Goals as goal

-- the block was put, and the payload sealed
pub returns-in-Ok-clause-value : goal.returns-in-Ok-clause-value
returns-in-Ok-clause-value c =
    pin_stash_is c.args.stash.now c.args.label.now c.args.pin.now c.args.main.now c.args.ivs.now.block
    c.args.ivs.now.payload c.in_ok-made.made c.set_payload.new.self c.in_ok-payload.payload c.in_ok-payload.ensures.value
    c.in_ok-made.ensures.value c.in-Ok.ensures.ok c.in-Ok.ensures.opens c.in-Ok.ensures.size
