use Rattle.std.proofs.Common.{inr}
use Rattle.edit_tests.proofs.records.file_name.Goals as goal

-- it is the name of a vault file's record of the account
pub returns : goal.returns
returns c = (c.ann.result.now, tt, inr (inr (c.args.name.now, c.file.ensures.value)))
