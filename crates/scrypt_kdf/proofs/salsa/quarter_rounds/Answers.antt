use Rattle.std.proofs.Common.{refl}
use Rattle.scrypt_kdf.specs.Salsa.{quarter_round}
use Rattle.scrypt_kdf.proofs.salsa.quarter_rounds.Goals as goal

-- each step is the quarter round's, in each lane
pub returns-clause-a : goal.returns-clause-a
unfolding quarter_round
returns-clause-a c = rw (c.mixed_in-a.ensures, c.mixed_in-d.ensures, c.mixed_in-c.ensures, c.mixed_in-b.ensures) refl

pub returns-clause-b : goal.returns-clause-b
unfolding quarter_round
returns-clause-b c = c.mixed_in-b.ensures

pub returns-clause-c : goal.returns-clause-c
unfolding quarter_round
returns-clause-c c = rw (c.mixed_in-c.ensures, c.mixed_in-b.ensures) refl

pub returns-clause-d : goal.returns-clause-d
unfolding quarter_round
returns-clause-d c = rw (c.mixed_in-d.ensures, c.mixed_in-c.ensures, c.mixed_in-b.ensures) refl
