use Rattle.std.proofs.Common.{ap}
use Rattle.pw_chip.specs.declared.reply.Reply.{Reply}
use Rattle.pw_chip.specs.State.{ChipState}
use Rattle.pw_chip.proofs.StandingLemmas.{insert-standing}
use Rattle.pw_chip.proofs.host_laws.unused_label_is_given.Goals as goal

pub returns : goal.returns
returns c = λ w leaves label les hes reset schedule iv now small unused is.
    ap (λ (r : Reply × ChipState). r.0) (insert-standing w leaves label les hes reset schedule iv now small unused is)
