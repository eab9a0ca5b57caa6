-- What accounts have on a board, and in its images, with their names.
use Rattle.std.specs.Prelude.{◌≡◌, ℕ, false}
use Rattle.board_model.specs.Disk.{Disk}
use Rattle.image_path.specs.Showing.{ByAccount}
use Rattle.platform_core.specs.Records.{account_at}
use Rattle.share_api.specs.Contents.{Contents}
use Rattle.board_device.specs.Device.{accounts_of}
use Rattle.board_device.specs.Standing.{contents_of, images_now, images_since}
use Rattle.board_device.specs.declared.device.BoardDevice.{BoardDevice}
use Rattle.turn_meaning.specs.Meanings.{Part, part_of}

module _ {B : Type 0} where
  -- what the device's accounts have where these are their contents. No tree is lost, since there is none.
  abbrev pub parts_with : BoardDevice B → ByAccount Contents → ByAccount Part
  parts_with device contents account = part_of (account_at (accounts_of device) account) false (contents account)

module _ {B : Type 0} (disk_of : B → Disk) where
  -- what each account has of what is there
  abbrev pub parts_of : BoardDevice B → ByAccount Part
  parts_of device = parts_with device (contents_of disk_of device)

  -- what the images show that a crash since the first might have left
  abbrev pub part_images_since : BoardDevice B → BoardDevice B → ByAccount Part → Type 0
  part_images_since first now parts = (contents : ByAccount Contents)
      × images_since disk_of first now contents
      × ((account : ℕ) → parts account ≡ parts_with first contents account)

  -- what the images show that a crash may leave now
  abbrev pub part_images_now : BoardDevice B → ByAccount Part → Type 0
  part_images_now device parts = (contents : ByAccount Contents)
      × images_now disk_of device contents
      × ((account : ℕ) → parts account ≡ parts_with device contents account)
