use Rattle.std.proofs.Common.{length}
use Rattle.user_home.proofs.open_home.OpenHome.+take_turns_among.Given as goal

abbrev pub decreases-take_turns_among : goal.decreases-take_turns_among
decreases-take_turns_among g l = length l.slots.now
