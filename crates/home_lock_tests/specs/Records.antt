-- Turns that do nothing, over a platform of records.
use Rattle.std.specs.Prelude.{◌≡◌, ℕ, List, [], None, Option, IfSome, take}
use Rattle.std.proofs.Common.{subst}
use Rattle.board_model.specs.Disk.{Image, Disk}
use Rattle.pw_types.specs.declared.era.Era.{Era}
use Rattle.share_api.specs.Contents.{Contents}
use Rattle.share_api.specs.Steps.{Does}
use Rattle.share_api.specs.declared.step.Step.{Step}
use Rattle.image_path.specs.Paths.{IsLedIn, Recovers}
use Rattle.image_path.specs.Showing.{ByAccount}
use Rattle.image_path.proofs.PathLemmas.{led-of}
use Rattle.home_locks.specs.Meanings.{Rules, meaning_of}
use Rattle.board_device.specs.Device.{board_of, era_of}
use Rattle.board_device.specs.Standing.{StandsTo, IsOpened, contents_of, images_now, images_since}
use Rattle.board_device.specs.declared.device.BoardDevice.{BoardDevice}
use Rattle.board_device.proofs.LedLemmas.{image_led, last_led, now_led}

-- Steps mean what they do to an account's contents. Durable parts and users are numbers, which contents say nothing of.
-- A turn has no steps, and leaves the state.
abbrev pub record_rules : Era → Rules Contents ℕ ℕ ℕ ℕ
record_rules era = record {
  does = Does era;
  holds = λ contents durable. Unit {0};
  durable = λ user. user;
  other = λ user. None;
  allows = λ before turn after. after ≡ before;
  clean = λ seen user turn. Unit {0};
  fits = λ state contents user. Unit {0};
  moves = λ before turn steps after. (after ≡ before) × (steps ≡ []);
}

-- ---- proofs that laws of the turns cite

-- each image has what the first so many steps lead to
pub records_recover : {B : Type 0} (disk_of : B → Disk) (first now : BoardDevice B) (chain : List Step)
    → IsOpened disk_of first
    → StandsTo disk_of first now chain
    → ((image : Image) → (disk_of (board_of now)).once_synced image → (disk_of (board_of now)).may_leave image)
    → IfSome (disk_of (board_of now)).now (disk_of (board_of now)).once_synced
    → Recovers (meaning_of (record_rules (era_of first))) (contents_of disk_of first) (contents_of disk_of now)
    (images_since disk_of first now) chain
records_recover disk_of first now chain opened stands synced there = record {
  image = λ parts has.
      let h = image_led disk_of first now chain stands opened parts has in (
        h.0,
        record {
          within = h.1;
          each = λ account. led-of (meaning_of (record_rules (era_of first))) (images_since disk_of first now) account
              (take h.0 chain) (contents_of disk_of first account) (parts account) (h.2 account);
        },
      );
  now_is = λ account. led-of (meaning_of (record_rules (era_of first))) (images_since disk_of first now) account chain
      (contents_of disk_of first account) (contents_of disk_of now account)
      (now_led disk_of first now chain stands opened
      (λ image told. synced image
      (subst (λ (o : Option Image). IfSome o (disk_of (board_of now)).once_synced) told there)) account);
}

-- each image that a crash may leave now has what all steps lead to
pub records_last : {B : Type 0} (disk_of : B → Disk) (first now : BoardDevice B) (chain : List Step)
    → IsOpened disk_of first
    → StandsTo disk_of first now chain
    → (parts : ByAccount Contents) → images_now disk_of now parts → (account : ℕ)
    → IsLedIn (meaning_of (record_rules (era_of first))) (images_since disk_of first now) chain account
    (contents_of disk_of first account) (parts account)
records_last disk_of first now chain opened stands parts has account =
    led-of (meaning_of (record_rules (era_of first))) (images_since disk_of first now) account chain
    (contents_of disk_of first account) (parts account)
    (last_led disk_of first now chain stands opened parts has account)
