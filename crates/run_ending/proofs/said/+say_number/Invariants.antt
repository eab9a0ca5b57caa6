use Rattle.run_ending.proofs.said.+say_number.Given as goal

-- what is said first has a digit less
abbrev pub decreases-say_number : goal.decreases-say_number
decreases-say_number l = l.number
