use Rattle.std.proofs.Common.{inl, inr}
use Rattle.std.specs.Prelude.{codes}
use Rattle.user_opening_tests.proofs.support.name_of.Goals as goal

-- each is the name of a record of the account
pub returns-in-BadStash : goal.returns-in-BadStash
returns-in-BadStash c = (codes "ann", tt, inl c.stash.ensures.value)

pub returns-in-Factor : goal.returns-in-Factor
returns-in-Factor c = (codes "ann", tt, inr (inl (codes "main", 3, c.factor.ensures.value)))

pub returns-in-File : goal.returns-in-File
returns-in-File c = (codes "ann", tt, inr (inr (codes "list", c.file.ensures.value)))
