-- What accounts hold when a start is refused, they hold still.
use Rattle.std.proofs.Common.{◌≡◌, ◌⊎◌, ⊎_elim, ℕ, ◌≤◌, List, length, take, refl, sym, ap, ◌∙◌, subst}
use Rattle.account_machine.specs.declared.user.Durable.{Durable}
use Rattle.board_model.specs.Disk.{Disk}
use Rattle.home_image.specs.Steps.{Fold, Throughout}
use Rattle.home_image.specs.Settled.{IsLed}
use Rattle.home_image.proofs.BookLemmas.{fold-seen}
use Rattle.home_image.proofs.ChainLemmas.{chain-cut}
use Rattle.home_image.proofs.StepLemmas.{throughout-first}
use Rattle.home_locks.specs.Meanings.{meaning_of}
use Rattle.share_api.specs.Places.{steps_of}
use Rattle.share_api.specs.declared.step.Step.{Step}
use Rattle.share_api.proofs.FoldLaws.{throughout_end}
use Rattle.turn_lock.specs.Lists.{entries_of}
use Rattle.turn_lock.specs.Seats.{LockId}
use Rattle.platform_lock.specs.Devices.{account_of}
use Rattle.board_device.specs.Device.{accounts_of, era_of, seen_by}
use Rattle.board_device.specs.declared.device.BoardDevice.{BoardDevice}
use Rattle.image_path.specs.Paths.{IsLedIn, Recovers}
use Rattle.image_path.specs.Showing.{ByAccount}
use Rattle.turn_meaning.specs.Meanings.{Part, DoesPart, HoldsPart, user_rules}
use Rattle.turn_meaning.proofs.OpeningParts.{opening_stands}
use Rattle.user_accounts.specs.Parts.{parts_of}
use Rattle.home_opening.specs.Opened.{AreOpeningSteps, IsTried, first_share, generator_of}
use Rattle.home_opening.specs.declared.opening.Opening.{Opening}
use Rattle.home_begin.proofs.Begun.{named_at}

module _ {B : Type 0} (disk_of : B → Disk) (faults_of : B → ℕ) (device : BoardDevice B) (shared : LockId)
    (opening : Opening) (chain : List Step) (account : ℕ) (durable : Durable) where
  abbrev first : Part
  first = parts_of disk_of device account

  abbrev Held : Part → Type 0
  Held part = HoldsPart part durable

  -- the durable part is held throughout these steps
  abbrev HeldBy : List (ℕ × Step) → Type 0
  HeldBy own = Throughout (DoesPart (era_of device)) Held first (steps_of own)

  -- as it is throughout an opening, whatever came of that
  held_by_opening : (own : List (ℕ × Step)) → IsTried (seen_by faults_of device) shared opening account own
      → Held first
      → HeldBy own
  held_by_opening own tried holds =
      let made = opening_stands (first_share (seen_by faults_of device) shared account) tried.opens.after tried.name
      opening.cost opening.moment (generator_of opening.entropy.now tried.name) tried.result tried.opens.opens in
      let right = made.right first durable (named_at (accounts_of device) account tried.name tried.owner.owner) refl
      holds in
      subst HeldBy (sym made.steps.own_is ∙ tried.opens.own_is) right.held

  held_by : (own : List (ℕ × Step)) → AreOpeningSteps (seen_by faults_of device) shared opening account own
      → Held first
      → HeldBy own
  held_by own steps holds =
      ⊎_elim (λ none. subst HeldBy (sym none) holds) (λ tried. held_by_opening own tried holds) steps

  module _ (openings : AreOpeningSteps (seen_by faults_of device) shared opening account
      (entries_of account_of account chain)) (holds : Held first) where
    -- so it is held where all steps of the chain led
    pub held_at_end : (images : ByAccount Part → Type 0) (last : Part)
        → IsLedIn (meaning_of (user_rules (era_of device))) images chain account first last
        → Held last
    held_at_end images last led =
        throughout_end (DoesPart (era_of device)) Held first last (steps_of (entries_of account_of account chain))
        (held_by (entries_of account_of account chain) openings holds)
        (fold-seen (meaning_of (user_rules (era_of device))) led.seen first last
        (steps_of (entries_of account_of account chain)) led.led.fold)

    -- and where its first steps did
    pub held_at : (images : ByAccount Part → Type 0) (n : ℕ) (now : Part)
        → n ≤ length chain
        → IsLedIn (meaning_of (user_rules (era_of device))) images (take n chain) account first now
        → Held now
    held_at images n now within led =
        let cut = chain-cut account_of n account chain within in
        let early = entries_of account_of account (take n chain) in
        throughout-first (DoesPart (era_of device)) Held first now (entries_of account_of account chain) early cut.rest
        cut.whole (held_by (entries_of account_of account chain) openings holds)
        (fold-seen (meaning_of (user_rules (era_of device))) led.seen first now (steps_of early) led.led.fold)
