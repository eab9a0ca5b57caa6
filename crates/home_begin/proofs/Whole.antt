-- A home that was begun, by what was opened and dealt.
use Rattle.std.proofs.Common.{◌≡◌, ℕ, true, List, length, Option, Result, Ok, Err, refl, sym, ap, ◌∙◌, subst}
use Rattle.std.specs.Prelude.{IfOk, IfErr}
use Rattle.board_model.specs.Disk.{Disk}
use Rattle.share_api.specs.Contents.{Bytes}
use Rattle.share_api.specs.declared.step.Step.{Step}
use Rattle.turn_lock.specs.Seats.{LockId, SeatView}
use Rattle.request_turns.specs.Named.{are_apart}
use Rattle.board_device.specs.Device.{accounts_of, era_of, seen_by}
use Rattle.board_device.specs.declared.device.BoardDevice.{BoardDevice}
use Rattle.home_seats.specs.Seats.{LockSeen}
use Rattle.home_opening.specs.Opened.{AreOpenedFrom}
use Rattle.home_opening.specs.declared.opening.Opening.{Opening}
use Rattle.user_home.specs.Ending.{IsIdle}
use Rattle.home_begin.specs.Begins.{IsBegun, OpensDevice}

-- ---- what holds of results

module _ {A E : Type 0} where
  pub ok_gives : (result : Result A E) (P Q : A → Type 0) → ((a : A) → P a → Q a) → IfOk result P → IfOk result Q
  ok_gives (Ok a) P Q gives p = gives a p
  ok_gives (Err e) P Q gives p = tt

  pub err_gives : (result : Result A E) (P Q : E → Type 0) → ((e : E) → P e → Q e) → IfErr result P → IfErr result Q
  err_gives (Ok a) P Q gives p = tt
  err_gives (Err e) P Q gives p = gives e p

  pub ok_with : (result : Result A E) (P Q : A → Type 0) → IfOk result P → IfOk result Q
      → IfOk result (λ a. P a × Q a)
  ok_with (Ok a) P Q p q = (p, q)
  ok_with (Err e) P Q p q = tt

module _ {B : Type 0} (disk_of : B → Disk) (faults_of : B → ℕ) where
  -- the home is begun over the device that was opened
  pub is_begun : (board : B) (named : List Bytes) (opening : Opening) (given device : BoardDevice B) (shared : LockId)
      (found names : List Bytes) (locks : List LockSeen) (count : ℕ) (idle : Option (SeatView Step))
      → OpensDevice disk_of faults_of board named given
      → era_of given ≡ opening.era
      → found ≡ accounts_of given
      → are_apart found ≡ true
      → device ≡ given
      → names ≡ found
      → AreOpenedFrom (seen_by faults_of given) shared opening 0 found locks
      → length locks ≡ count
      → IsIdle shared count idle
      → IsBegun disk_of faults_of board named opening device shared names locks idle
  is_begun board named opening given device shared found names locks count idle opens era accounts apart device_is
      names_is opened many none = record {
        device_is = subst (OpensDevice disk_of faults_of board named) (sym device_is) opens;
        era_is = ap era_of device_is ∙ era;
        names_are = names_is ∙ accounts ∙ ap accounts_of (sym device_is);
        apart = ap are_apart names_is ∙ apart;
        opened = subst (λ (d : BoardDevice B). AreOpenedFrom (seen_by faults_of d) shared opening 0 names locks)
            (sym device_is)
            (subst (λ (xs : List Bytes). AreOpenedFrom (seen_by faults_of given) shared opening 0 xs locks)
            (sym names_is)
            opened);
        idle_is = subst (λ (n : ℕ). IsIdle shared n idle) (sym many) none;
      }
