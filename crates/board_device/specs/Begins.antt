-- A proof that the device's law cites.
use Rattle.std.proofs.Common.{refl, ℕ, ◌≤◌, []}
use Rattle.board_model.specs.Disk.{Image, Disk}
use Rattle.image_path.proofs.StandLemmas.{lawful}
use Rattle.platform_core.specs.Held.{memory_of, is_unsettled}
use Rattle.platform_core.proofs.ChainLemmas.{chain_start}
use Rattle.board_device.specs.Device.{platform_of, board_of, accounts_of, era_of}
use Rattle.board_device.specs.Standing.{StandsTo}
use Rattle.board_device.specs.declared.device.BoardDevice.{BoardDevice}

module _ {B : Type 0} (disk_of : B → Disk) where
  -- a device stands to itself, with no steps
  pub stands_to_itself : (device : BoardDevice B)
      → ((t : ℕ) (i : Image) → t ≤ (disk_of (board_of device)).ticks → (disk_of (board_of device)).may_leave i
      → (disk_of (board_of device)).left_since t i)
      → ((i : Image) → (disk_of (board_of device)).left_since (disk_of (board_of device)).ticks i
      → (disk_of (board_of device)).may_leave i)
      → StandsTo disk_of device device []
  stands_to_itself device counts only = record {
    accounts = refl;
    era = refl;
    platform = chain_start (era_of device) (accounts_of device) (disk_of (board_of device))
        (memory_of (platform_of device))
        (is_unsettled (platform_of device)) (lawful (disk_of (board_of device)) counts only);
  }
