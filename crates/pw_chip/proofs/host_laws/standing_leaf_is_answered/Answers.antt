use Rattle.std.proofs.Common.{ap}
use Rattle.pw_chip.specs.declared.reply.Reply.{Reply}
use Rattle.pw_chip.specs.State.{ChipState}
use Rattle.pw_chip.proofs.StandingLemmas.{try-standing, reset-standing, replay-standing, remove-standing}
use Rattle.pw_chip.proofs.host_laws.standing_leaf_is_answered.Goals as goal

pub returns : goal.returns
returns c = record {
  tried = λ w leaves label x les now is. ap (λ (r : Reply × ChipState). r.0) (try-standing w leaves label x les now is);
  reset = λ w leaves label x reset now is. ap (λ (r : Reply × ChipState). r.0) (reset-standing w leaves label x reset now is);
  replayed = λ w leaves label x now is of_label room. replay-standing w leaves label x now is of_label room;
  removed = λ w leaves label x now is used. ap (λ (r : Reply × ChipState). r.0) (remove-standing w leaves label x now is used);
}
