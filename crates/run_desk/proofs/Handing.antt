-- A desk that was asked for nothing has what it had.
use Rattle.std.proofs.Common.{[]}
use Rattle.run_desk.specs.Desk.{DeskSeen, KeepsBoard, HandsOut}

module _ {B S K C : Type 0} (desk : DeskSeen B S K C) where
  -- it has the same boards
  pub board_still : KeepsBoard desk desk
  board_still = λ dir board. (λ has. has, λ has. has)

  -- and handed out no client
  pub clients_still : HandsOut desk desk []
  clients_still = λ rest. (λ has. has, λ has. has)
