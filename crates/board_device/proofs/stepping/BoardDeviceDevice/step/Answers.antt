-- The owner that the lock knows is the account's name.
use Rattle.std.proofs.Common.{subst, Option}
use Rattle.share_api.specs.Contents.{Bytes}
use Rattle.platform_lock.specs.Answers.{IsAsked}
use Rattle.board_device.specs.Device.{accounts_of}
use Rattle.board_device.proofs.NameLemmas.{owner_is}
use Rattle.board_device.proofs.stepping.BoardDeviceDevice.step.Goals as goal

pub make_step-requires-clause-asked : goal.make_step-requires-clause-asked
make_step-requires-clause-asked g c =
    subst (λ (owner : Option Bytes). IsAsked owner c.args.op)
    (owner_is (accounts_of c.args.self.now) c.args.account c.requires.account) c.requires.asked
