-- What a device keeps, and what a contract sees of it.
use Rattle.std.specs.Prelude.{ℕ, ◌+◌, List, map, None, Some}
use Rattle.pw_types.specs.declared.era.Era.{Era}
use Rattle.share_api.specs.Contents.{Bytes}
use Rattle.platform_core.specs.Held as held
use Rattle.platform_core.specs.declared.platform.Platform.{Platform}
use Rattle.platform_lock.specs.Devices.{DeviceSeen}
use Rattle.board_device.specs.declared.device.BoardDevice.{BoardDevice}

module _ {B : Type 0} where
  abbrev pub platform_of : BoardDevice B → Platform B
  platform_of device = device.platform

  abbrev pub board_of : BoardDevice B → B
  board_of device = held.board_of device.platform

  abbrev pub accounts_of : BoardDevice B → List Bytes
  accounts_of device = held.accounts_of device.platform

  abbrev pub era_of : BoardDevice B → Era
  era_of device = device.era

  -- how many steps it has refused, up to the end of a u64
  abbrev pub refused_of : BoardDevice B → ℕ
  refused_of device = device.refused

  -- What its lock sees, where the board's faults are so counted. No tree is lost, since there is none.
  abbrev pub seen_by : (B → ℕ) → BoardDevice B → DeviceSeen
  seen_by faults_of device = record {
    owners = map (λ (account : Bytes). Some account) (accounts_of device);
    era = era_of device;
    lost = None;
    faults = faults_of (board_of device) + refused_of device;
  }
