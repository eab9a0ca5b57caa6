-- What the lock asks is what the platform asks: the names are those of records.
use Rattle.std.proofs.Common.{sym, ◌∙◌}
use Rattle.platform_core.specs.Records.{account_at}
use Rattle.board_device.specs.Device.{accounts_of}
use Rattle.board_device.proofs.NameLemmas.{asked_own, name_at}
use Rattle.board_device.proofs.device.BoardDevice.make_step.Goals as goal

pub record_step-requires-clause-own : goal.record_step-requires-clause-own
record_step-requires-clause-own g c =
    let old = c.args.self.now in
    asked_own (account_at (accounts_of old) c.args.account) c.args.op
    (name_at (accounts_of old) c.args.account old.named c.requires.account) c.look_at_names.ensures
    (sym c.is_on_leaf.ensures ∙ c.if-is_on_leaf.false) c.requires.asked
