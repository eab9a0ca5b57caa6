-- Proofs that laws of the turns cite: what images have of accounts is led to by the first so many steps, and what those
-- have that a crash may leave now by all steps.
use Rattle.std.specs.Prelude.{ℕ, List, [], ◌∷◌, false, Option, IfSome, take}
use Rattle.std.proofs.Common.{refl, sym, ap, subst}
use Rattle.board_model.specs.Disk.{Image, Disk}
use Rattle.home_image.specs.Steps.{Fold}
use Rattle.home_locks.specs.Meanings.{meaning_of}
use Rattle.image_path.specs.Paths.{IsPart, DoesIn, IsPath, IsLedIn, Recovers, own_steps}
use Rattle.image_path.specs.Showing.{ByAccount}
use Rattle.image_path.proofs.PathLemmas.{led-of}
use Rattle.platform_core.specs.Records.{account_at}
use Rattle.platform_core.specs.Standing.{number_of}
use Rattle.share_api.specs.Contents.{Contents}
use Rattle.share_api.specs.Steps.{Does}
use Rattle.share_api.specs.declared.step.Step.{Step}
use Rattle.board_device.specs.Device.{board_of, accounts_of, era_of}
use Rattle.board_device.specs.Standing.{StandsTo, IsOpened, contents_of, images_since}
use Rattle.board_device.specs.declared.device.BoardDevice.{BoardDevice}
use Rattle.board_device.proofs.LedLemmas.{image_led, last_led, now_led}
use Rattle.turn_meaning.specs.Meanings.{Part, part_of, DoesPart, user_rules}
use Rattle.user_accounts.specs.Parts.{parts_with, parts_of, part_images_now, part_images_since}

module _ {B : Type 0} (disk_of : B → Disk) (first now : BoardDevice B) where
  abbrev PartImages : ByAccount Part → Type 0
  PartImages = part_images_since disk_of first now

  module _ (account : ℕ) where
    -- the account's part with these contents
    abbrev named : Contents → Part
    named = part_of (account_at (accounts_of first) account) false

    -- contents that some image has are a part that some image has
    part_shown : (contents : Contents) → IsPart (images_since disk_of first now) account contents
        → IsPart PartImages account (named contents)
    part_shown contents h = (parts_with first h.0, (h.0, h.1, λ each. refl), ap named h.2)

    -- what steps lead to in the contents they lead to in the part
    fold_named : (old new : Contents) (steps : List Step)
        → Fold (DoesIn number_of (Does (era_of first)) (images_since disk_of first now) account) old steps new
        → Fold (DoesIn number_of (DoesPart (era_of first)) PartImages account) (named old) steps (named new)
    fold_named old new [] f = ap named f
    fold_named old new (step ∷ steps) f = (
      named f.0,
      (record { account = refl; lost = refl; does = f.1.0 }, part_shown f.0 f.1.1),
      fold_named f.0 new steps f.2,
    )

    -- a path of contents, as the books need it of parts
    led_named : (chain : List Step) (start end : Contents)
        → IsPath number_of (Does (era_of first)) (images_since disk_of first now) chain account start end
        → IsLedIn (meaning_of (user_rules (era_of first))) PartImages chain account (named start) (named end)
    led_named chain start end path =
        led-of (meaning_of (user_rules (era_of first))) PartImages account chain (named start) (named end)
        (record {
          start = part_shown start path.start;
          fold = fold_named start end (own_steps number_of (Does (era_of first)) account chain) path.fold;
        })

  -- each image has of all accounts what their steps among the first so many lead to
  pub parts_recover : (chain : List Step)
      → IsOpened disk_of first
      → StandsTo disk_of first now chain
      → ((image : Image) → (disk_of (board_of now)).once_synced image → (disk_of (board_of now)).may_leave image)
      → IfSome (disk_of (board_of now)).now (disk_of (board_of now)).once_synced
      → Recovers (meaning_of (user_rules (era_of first))) (parts_of disk_of first) (parts_of disk_of now) PartImages
      chain
  parts_recover chain opened stands synced there = record {
    image = λ parts has.
        let h = image_led disk_of first now chain stands opened has.0 has.1 in (
          h.0,
          record {
            within = h.1;
            each = λ account.
                subst (λ (part : Part). IsLedIn (meaning_of (user_rules (era_of first))) PartImages (take h.0 chain)
                account (parts_of disk_of first account) part) (sym (has.2 account))
                (led_named account (take h.0 chain) (contents_of disk_of first account) (has.0 account) (h.2 account));
          },
        );
    now_is = λ account.
        let led = now_led disk_of first now chain stands opened
        (λ image told. synced image
        (subst (λ (o : Option Image). IfSome o (disk_of (board_of now)).once_synced) told there)) in
        subst (λ (accounts : List (List ℕ)). IsLedIn (meaning_of (user_rules (era_of first))) PartImages chain account
        (parts_of disk_of first account)
        (part_of (account_at accounts account) false (contents_of disk_of now account))) (sym stands.accounts)
        (led_named account chain (contents_of disk_of first account) (contents_of disk_of now account) (led account));
  }

  -- each image that a crash may leave now has of all accounts what all their steps lead to
  pub parts_last : (chain : List Step)
      → IsOpened disk_of first
      → StandsTo disk_of first now chain
      → (parts : ByAccount Part) → part_images_now disk_of now parts → (account : ℕ)
      → IsLedIn (meaning_of (user_rules (era_of first))) PartImages chain account (parts_of disk_of first account)
      (parts account)
  parts_last chain opened stands parts has account =
      subst (λ (part : Part). IsLedIn (meaning_of (user_rules (era_of first))) PartImages chain account
      (parts_of disk_of first account) part) (sym (has.2 account))
      (subst (λ (accounts : List (List ℕ)). IsLedIn (meaning_of (user_rules (era_of first))) PartImages chain account
      (parts_of disk_of first account) (part_of (account_at accounts account) false (has.0 account)))
      (sym stands.accounts)
      (led_named account chain (contents_of disk_of first account) (has.0 account)
      (last_led disk_of first now chain stands opened has.0 has.1 account)))
