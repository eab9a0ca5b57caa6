-- What images of a device have, by the steps since its opening.
use Rattle.std.proofs.Common.{◌≡◌, ℕ, ◌≤◌, List, take, length, subst, Some, false}
use Rattle.board_model.specs.Disk.{Image, Disk}
use Rattle.share_api.specs.Contents.{Bytes, Contents}
use Rattle.share_api.specs.declared.step.Step.{Step}
use Rattle.image_path.specs.Showing.{ByAccount}
use Rattle.platform_core.specs.Held.{memory_of, is_unsettled}
use Rattle.platform_core.specs.Records.{Shows}
use Rattle.platform_core.specs.Standing.{AreThere}
use Rattle.platform_core.proofs.ShownLemmas.{right_shows, one_shown}
use Rattle.platform_core.proofs.BoardLemmas.{of_told}
use Rattle.board_device.specs.Device.{platform_of, board_of, accounts_of}
use Rattle.board_device.specs.Standing.{StandsTo, IsOpened, contents_of, images_since, images_now, AreLed}
use Rattle.board_device.specs.declared.device.BoardDevice.{BoardDevice}

module _ {B : Type 0} (disk_of : B → Disk) (first now : BoardDevice B) (chain : List Step)
    (stands : StandsTo disk_of first now chain)
    (opened : IsOpened disk_of first) where
  begun : AreThere (accounts_of first) (disk_of (board_of first)) (contents_of disk_of first)
  begun = right_shows (accounts_of first) (disk_of (board_of first)) (memory_of (platform_of first)) false opened

  -- each image since the opening
  pub image_led : (parts : ByAccount Contents) → images_since disk_of first now parts
      → (n : ℕ) × (n ≤ length chain) × AreLed disk_of first now (take n chain) parts
  image_led parts has =
      let h = (stands.platform.images opened (contents_of disk_of first) begun).image has.0 has.1 in (
        h.2,
        h.4,
        subst (λ (f : ByAccount Contents). AreLed disk_of first now (take h.2 chain) f)
            (one_shown (accounts_of first) has.0 h.0 parts h.1 has.2) h.5,
      )

  -- each image that a crash may leave now
  pub last_led : (parts : ByAccount Contents) → images_now disk_of now parts → AreLed disk_of first now chain parts
  last_led parts has =
      let h = (stands.platform.stands opened (contents_of disk_of first) begun).image has.0 has.1 in
      subst (λ (f : ByAccount Contents). AreLed disk_of first now chain f)
      (one_shown (accounts_of first) has.0 h.0 parts h.1
      (subst (λ (names : List Bytes). Shows names has.0 parts) stands.accounts has.2)) h.2

  -- what is there, which is one of these images
  pub now_led : ((image : Image) → (disk_of (board_of now)).now ≡ Some image → (disk_of (board_of now)).may_leave image)
      → AreLed disk_of first now chain (contents_of disk_of now)
  now_led left =
      let right = stands.platform.right opened in
      let there : AreThere (accounts_of now) (disk_of (board_of now)) (contents_of disk_of now) =
      right_shows (accounts_of now) (disk_of (board_of now)) (memory_of (platform_of now))
      (is_unsettled (platform_of now)) right in
      last_led (contents_of disk_of now) (
        right.now,
        left right.now right.told,
        of_told (λ (image : Image). Shows (accounts_of now) image (contents_of disk_of now))
            (disk_of (board_of now)).now right.now there right.told,
      )
