use Rattle.std.proofs.Common.{◌≡◌, drop}
use Rattle.account_machine.specs.Row.{first_refusal}
use Rattle.account_machine.proofs.table.first.Given as goal

-- the refusals so far don't apply
abbrev pub invariant-loop-refusal : goal.invariant-loop-refusal
invariant-loop-refusal l = first_refusal l.refusals ≡ first_refusal (drop l.refusal-index l.refusals)
