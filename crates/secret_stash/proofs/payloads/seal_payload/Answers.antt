use Rattle.secret_stash.proofs.LiveLemmas.{live_spelling}
use Rattle.secret_stash.proofs.payloads.seal_payload.Goals as goal

-- those that a block names have its label
pub spell_payload-requires : goal.spell_payload-requires
spell_payload-requires c =
    rw c.in_ok-live.ensures.value (live_spelling c.requires.rows.0 c.args.blocks.now c.args.payload.now.resets c.requires.rows.1 c.requires.few)
