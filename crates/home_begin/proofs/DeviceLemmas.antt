-- The device of a board that was opened.
use Rattle.std.proofs.Common.{◌≡◌, ℕ, ◌≤◌, Bool, false, List, length, refl, sym, ap, ◌∙◌, subst}
use Rattle.fault_count.specs.Causes.{HasCause}
use Rattle.board_model.specs.Disk.{Disk, Image, Goes, Leaves}
use Rattle.cabinet.specs.Edits.{Agrees}
use Rattle.cabinet.specs.Opening.{Opened}
use Rattle.staged_file.specs.Staged.{Kept}
use Rattle.platform_core.specs.Held as held
use Rattle.platform_core.specs.Records.{Shows}
use Rattle.platform_core.specs.Standing.{IsRight, IsTold}
use Rattle.platform_core.specs.declared.platform.Platform.{Platform}
use Rattle.share_api.specs.Contents.{Bytes}
use Rattle.board_device.specs.Device.{board_of, platform_of, refused_of}
use Rattle.board_device.specs.declared.device.BoardDevice.{BoardDevice}
use Rattle.home_opening.specs.declared.fault.HomeFault.{HomeFault}
use Rattle.home_opening.specs.declared.fault.HomeFault.TheVariants as faults
use Rattle.home_begin.specs.Begins.{OpensDevice, IsUnopened}

module _ {B : Type 0} (disk_of : B → Disk) (faults_of : B → ℕ) (board : B) (named : List Bytes) where
  -- the device is that of the platform that was opened
  pub opens_device : (platform : Platform B) (device : BoardDevice B)
      → platform_of device ≡ platform
      → refused_of device ≡ 0
      → Opened (disk_of board) (disk_of (held.board_of platform)) named (held.most_of platform) (held.names_of platform)
      (held.accounts_of platform)
      → (IsTold (disk_of board) → Agrees (disk_of board)
      → IsRight (disk_of (held.board_of platform)) (held.memory_of platform) (held.is_unsettled platform))
      → held.is_unsettled platform ≡ false
      → (IsTold (disk_of board) → Agrees (disk_of board) → (image : Image)
      → (disk_of (held.board_of platform)).may_leave image
      → Shows (held.accounts_of platform) image (held.contents_of (disk_of (held.board_of platform)) platform))
      → Leaves (disk_of board) (disk_of (held.board_of platform)) Kept
      → Goes (disk_of board) (disk_of (held.board_of platform)) Kept
      → faults_of (held.board_of platform) ≡ faults_of board
      → OpensDevice disk_of faults_of board named device
  opens_device platform device is refused opened right settled shown any_moment kept quiet =
      let back = sym is in
      record {
        opened = subst (λ (p : Platform B). Opened (disk_of board) (disk_of (held.board_of p)) named (held.most_of p)
            (held.names_of p) (held.accounts_of p)) back opened;
        right = λ told agrees.
            subst (λ (p : Platform B). IsRight (disk_of (held.board_of p)) (held.memory_of p) false) back
            (subst (IsRight (disk_of (held.board_of platform)) (held.memory_of platform)) settled (right told agrees));
        shown = λ told agrees.
            subst (λ (p : Platform B). (image : Image) → (disk_of (held.board_of p)).may_leave image
            → Shows (held.accounts_of p) image (held.contents_of (disk_of (held.board_of p)) p)) back
            (shown told agrees);
        any_moment = subst (λ (p : Platform B). Leaves (disk_of board) (disk_of (held.board_of p)) Kept) back
            any_moment;
        kept = subst (λ (p : Platform B). Goes (disk_of board) (disk_of (held.board_of p)) Kept) back kept;
        quiet = ap (λ (p : Platform B). faults_of (held.board_of p)) is ∙ quiet;
        refused = refused;
      }
