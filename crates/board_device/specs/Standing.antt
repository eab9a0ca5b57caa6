-- What a device is to the one that a run began with, and to the steps since.
use Rattle.std.specs.Prelude.{◌≡◌, ℕ, List, [], ◌∷◌, ◌++◌, false, None, Result}
use Rattle.fault_count.specs.Causes.{HasCause}
use Rattle.board_model.specs.Disk.{Image, Disk}
use Rattle.share_api.specs.Contents.{Contents}
use Rattle.share_api.specs.Steps.{Does}
use Rattle.share_api.specs.declared.fault.ShareFault.{ShareFault}
use Rattle.share_api.specs.declared.step.Op.{Op}
use Rattle.share_api.specs.declared.step.Reply.TheVariants.{Failed}
use Rattle.share_api.specs.declared.step.Step.{Step}
use Rattle.platform_lock.specs.Answers.{IsAnswerTo}
use Rattle.platform_lock.specs.Devices.{IsSameDevice}
use Rattle.platform_lock.specs.declared.answer.Answer.{Answer}
use Rattle.image_path.specs.Showing.{ByAccount}
use Rattle.image_path.specs.Paths.{shown_since, ArePaths}
use Rattle.platform_core.specs.Held.{memory_of, is_unsettled}
use Rattle.platform_core.specs.Held as held
use Rattle.platform_core.specs.Records.{Shows}
use Rattle.platform_core.specs.Standing.{IsRight, number_of, ChainStands}
use Rattle.board_device.specs.Device.{platform_of, board_of, accounts_of, era_of, seen_by}
use Rattle.board_device.specs.declared.device.BoardDevice.{BoardDevice}

module _ {B : Type 0} (disk_of : B → Disk) where
  -- It is of the same accounts and era, and its platform stands to the first one and the steps since.
  pub record StandsTo (first now : BoardDevice B) (chain : List Step) : Type 0 where
    pub accounts : accounts_of now ≡ accounts_of first
    pub era : era_of now ≡ era_of first
    pub platform : ChainStands (era_of first) (accounts_of first) (disk_of (board_of first))
        (memory_of (platform_of first))
        (disk_of (board_of now)) (memory_of (platform_of now)) (is_unsettled (platform_of now)) chain

  -- The board tells its content, each image has it, and the names are those of the records that are there.
  abbrev pub IsOpened : BoardDevice B → Type 0
  IsOpened first = IsRight (disk_of (board_of first)) (memory_of (platform_of first)) false

  -- what each account has of what is there
  abbrev pub contents_of : BoardDevice B → ByAccount Contents
  contents_of device = held.contents_of (disk_of (board_of device)) (platform_of device)

  -- what the images show that a crash since the first might have left
  abbrev pub images_since : BoardDevice B → BoardDevice B → ByAccount Contents → Type 0
  images_since first now parts =
      shown_since (Shows (accounts_of first)) (disk_of (board_of now)) (disk_of (board_of first)).ticks parts

  -- what the images show that a crash may leave now
  abbrev pub images_now : BoardDevice B → ByAccount Contents → Type 0
  images_now device parts =
      (image : Image) × (disk_of (board_of device)).may_leave image × Shows (accounts_of device) image parts

  -- each account's steps in the chain lead from what it had at first to its part of these, by contents that images had
  abbrev pub AreLed : BoardDevice B → BoardDevice B → List Step → ByAccount Contents → Type 0
  AreLed first now chain parts =
      ArePaths number_of (Does (era_of first)) (images_since first now) chain (contents_of first) parts

-- what a device did in a step
module _ {B : Type 0} (disk_of : B → Disk) (faults_of : B → ℕ) where
  pub record Made (old new : BoardDevice B) (account moment : ℕ) (op : Op) (answer : Result Answer ShareFault)
      (step : Step)
      : Type 0 where
    pub asked : step ≡ record { account = account; moment = moment; op = op; reply = step.reply }
    pub answers : IsAnswerTo None op answer step.reply
    -- the step goes on the chain, whatever platform and steps it stands to
    pub stands : (first : BoardDevice B) (chain : List Step) → StandsTo disk_of first old chain
        → StandsTo disk_of first new (chain ++ step ∷ [])
    pub same : IsSameDevice (seen_by faults_of old) (seen_by faults_of new)
    pub cause : HasCause (seen_by faults_of old).faults (seen_by faults_of new).faults (step.reply ≡ Failed)
