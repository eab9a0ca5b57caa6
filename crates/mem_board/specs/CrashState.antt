-- What is chosen so far.
use Rattle.mem_board.specs.Content.{image_of}
use Rattle.mem_board.specs.Crash.{Choice}
use Rattle.mem_board.specs.declared.crash.Crash.{Crash}

abbrev pub choice_of : Crash → Choice
choice_of crash = record { image = image_of crash.image; pick = crash.pick }
