use Rattle.turn_rows.proofs.files.unmount.Goals as goal
use Rattle.turn_rows.proofs.Rows.{unmount_given}
use Rattle.turn_rows.proofs.Sounds.{sound_unmounted}

pub returns-clause-given : goal.returns-clause-given
returns-clause-given c = λ share account. unmount_given c.args.state.now c.requires.ready share account c.requires.due

pub returns-clause-sound : goal.returns-clause-sound
returns-clause-sound c = sound_unmounted c.args.state.now
