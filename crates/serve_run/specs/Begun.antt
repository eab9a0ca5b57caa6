-- How a run's home was begun, or why it wasn't.
use Rattle.std.specs.Prelude.{◌≡◌, ℕ, List, [], Option, IfSome}
use Rattle.fault_count.specs.Causes.{HasCause, Rose}
use Rattle.pw_types.specs.Moment.{cut_moment}
use Rattle.run_desk.specs.Desk.{DeskSeen, HandsOut, KeepsBoard}
use Rattle.run_desk.specs.declared.desk.DeskFault.TheVariants as desk_faults
use Rattle.share_api.specs.Contents.{Bytes}
use Rattle.share_api.specs.declared.step.Step.{Step}
use Rattle.turn_lock.specs.Seats.{LockId, SeatView}
use Rattle.board_device.specs.declared.device.BoardDevice.{BoardDevice}
use Rattle.home_seats.specs.Seats.{LockSeen}
use Rattle.home_opening.specs.declared.fault.HomeFault.{HomeFault}
use Rattle.home_opening.specs.declared.opening.Opening.{Opening}
use Rattle.home_begin.specs.Begins.{IsBegun, IsNotBegun}
use Rattle.serve_words.specs.Limits.{client_count}
use Rattle.serve_words.specs.Words.{Asked}
use Rattle.serve_run.specs.Outside.{Outside}
use Rattle.serve_run.specs.declared.begin.Unbegun.{Unbegun}
use Rattle.serve_run.specs.declared.begin.Unbegun.TheVariants as unbegun

-- what the accounts of a run are opened with: the desk's entropy and moment, and the words' cost and clients
pub record IsOpening {B S K C : Type 0} (asked : Asked) (desk : DeskSeen B S K C) (opening : Opening) : Type 0 where
  pub entropy : IfSome desk.entropy (λ told. opening.entropy.now ≡ told)
  pub cost : opening.cost ≡ asked.cost
  pub moment : opening.moment ≡ cut_moment desk.moment
  pub era : opening.era ≡ record { boot = 0; start = cut_moment desk.moment }
  pub clients : opening.clients ≡ client_count asked.clients

module _ {B S K C : Type 0} (outside : Outside B S K C) (asked : Asked) (before after : DeskSeen B S K C) where
  -- the desk handed out a board for the directory, and a home was begun over it
  pub record HasBegun (device : BoardDevice B) (shared : LockId) (names : List Bytes) (locks : List LockSeen)
      (idle : Option (SeatView Step)) : Type 0 where
    pub handed : B
    pub handed_is : before.board asked.dir handed
    pub opening : Opening
    pub opening_is : IsOpening asked before opening
    pub begun : IsBegun outside.disk outside.board_faults handed asked.accounts opening device shared names locks idle
    pub quiet : after.faults ≡ before.faults

  -- the desk handed out a board for the directory, and no home was begun over it, for this fault
  pub record IsRefused (fault : HomeFault) (left : B) : Type 0 where
    pub handed : B
    pub handed_is : before.board asked.dir handed
    pub opening : Opening
    pub opening_is : IsOpening asked before opening
    pub stops : IsNotBegun outside.disk outside.board_faults handed asked.accounts opening fault left
    pub quiet : after.faults ≡ before.faults

  -- no home was begun: the desk gave no entropy, or no board, or the home was refused
  abbrev pub HasNotBegun : Unbegun B → Type 0
  HasNotBegun unbegun.NoEntropy = KeepsBoard before after × Rose before.faults after.faults
  HasNotBegun (unbegun.NoBoard fault) =
      KeepsBoard before after × HasCause before.faults after.faults (fault ≡ desk_faults.Failed)
  HasNotBegun (unbegun.Refused fault left) = IsRefused fault left
