-- How the beginning of a home ends without one.
use Rattle.std.proofs.Common.{◌≡◌, ◌⊎◌, ℕ, ◌≤◌, Bool, true, false, List, Err, refl, sym, ap, ◌∙◌, subst, arith, inl, inr, true≢false}
use Rattle.std.proofs.lemmas.List.Elements.{All-contains, All-from_recursion, recursion_from_All}
use Rattle.fault_count.specs.Causes.{HasCause}
use Rattle.board_model.specs.Disk.{Disk, Goes, Leaves}
use Rattle.staged_file.specs.Staged.{Kept}
use Rattle.share_api.specs.Contents.{Bytes}
use Rattle.share_api.specs.declared.step.Step.{Step}
use Rattle.stored_home.specs.declared.fault.StoreFault.{StoreFault}
use Rattle.stored_home.specs.declared.fault.StoreFault.TheVariants as stores
use Rattle.turn_lock.specs.Lists.{entries_of}
use Rattle.turn_lock.specs.Seats.{LockId, SeatView, HasEachNumber}
use Rattle.platform_lock.specs.Devices.{account_of}
use Rattle.board_device.specs.Device.{board_of, era_of, seen_by}
use Rattle.board_device.specs.declared.device.BoardDevice.{BoardDevice}
use Rattle.home_opening.specs.Numbers.{KnowsSteps, known_by}
use Rattle.home_opening.specs.Opened.{AreOpeningSteps, IsRefused, IsRefusedAt, KnowsOpenings, OpensAt, told_fault}
use Rattle.home_opening.specs.declared.opening.Opening.{Opening}
use Rattle.home_opening.specs.declared.fault.HomeFault.{HomeFault}
use Rattle.home_opening.specs.declared.fault.HomeFault.TheVariants as faults
use Rattle.home_opening.proofs.RecallLemmas.{all_recalled}
use Rattle.home_begin.specs.Begins.{Closes, IsNotBegun, IsRefusedBy, IsUnopened, OpensDevice, StopsAt}
use Rattle.home_begin.proofs.Failures.{known_failure}

-- ---- faults apart

abbrev is_failed : HomeFault → Bool
is_failed faults.Failed = true
is_failed (faults.Damaged name) = false
is_failed (faults.TooMany accounts) = false
is_failed faults.NoMemory = false

abbrev is_memory : HomeFault → Bool
is_memory faults.Failed = false
is_memory (faults.Damaged name) = false
is_memory (faults.TooMany accounts) = false
is_memory faults.NoMemory = true

-- a home fails for a store that failed
store_failed : (store : StoreFault) → told_fault store ≡ faults.Failed → store ≡ stores.Failed
store_failed stores.Failed is = refl
store_failed (stores.Damaged name) is = absurd (true≢false (sym (ap is_failed is)))
store_failed stores.NoMemory is = absurd (true≢false (sym (ap is_failed is)))
store_failed (stores.TreeLost host chip) is = absurd (true≢false (sym (ap is_failed is)))

module _ {B : Type 0} (disk_of : B → Disk) (faults_of : B → ℕ) where
  -- no memory was left once the device was opened
  pub unopened_for_memory : (board : B) (named : List Bytes) (device : BoardDevice B) (fault : HomeFault) (left : B)
      → OpensDevice disk_of faults_of board named device
      → fault ≡ faults.NoMemory
      → left ≡ board_of device
      → IsUnopened disk_of faults_of board named fault left
  unopened_for_memory board named device fault left opened memory is =
      let memory_is : is_memory fault ≡ true = ap is_memory memory in
      let quiet : faults_of left ≡ faults_of board = ap faults_of is ∙ opened.quiet in
      record {
        many = λ accounts many. absurd (true≢false (sym memory_is ∙ ap is_memory many));
        whole = λ name damaged. absurd (true≢false (sym memory_is ∙ ap is_memory damaged));
        any_moment = subst (λ (b : B). Leaves (disk_of board) (disk_of b) Kept) (sym is) opened.any_moment;
        kept = subst (λ (b : B). Goes (disk_of board) (disk_of b) Kept) (sym is) opened.kept;
        cause = record {
          later = omega (arith, quiet);
          rose = λ failed. absurd (true≢false (sym memory_is ∙ ap is_memory failed));
          kept = λ done. quiet;
        };
      }

  module _ (device : BoardDevice B) (shared : LockId) (opening : Opening) (seat : SeatView Step) (left : B)
      (closed : Closes disk_of faults_of device seat left)
      (knows : KnowsOpenings (seen_by faults_of device) shared opening seat) (each : HasEachNumber seat) where
    -- the steps of each account are those of its opening, where the lock was closed with a seat that knows no others
    openings : (account : ℕ) → AreOpeningSteps (seen_by faults_of device) shared opening account
        (entries_of account_of account closed.chain)
    openings = all_recalled account_of (AreOpeningSteps (seen_by faults_of device) shared opening) closed.chain seat
        (λ account. inl refl) knows closed.entries each closed.callers

    -- what the seat knows of an account are its steps in the chain
    steps_are : (account : ℕ) (own : List (ℕ × Step)) → KnowsSteps seat account own
        → entries_of account_of account closed.chain ≡ own
    steps_are account own known =
        All-contains (λ (known : ℕ × List (ℕ × Step)). entries_of account_of known.0 closed.chain ≡ known.1)
        (known_by seat) (account, own)
        (All-from_recursion (λ (known : ℕ × List (ℕ × Step)). entries_of account_of known.0 closed.chain ≡ known.1)
        (known_by seat) (
          closed.entries.own,
          recursion_from_All (λ (known : ℕ × List (ℕ × Step)). entries_of account_of known.0 closed.chain ≡ known.1)
              seat.joined closed.entries.joined,
        )) known

    -- no memory was left once the accounts were opened, and their locks were closed
    pub stops_for_memory : StopsAt disk_of faults_of device opening faults.NoMemory left
    stops_for_memory = record {
      last = closed.last;
      shared = shared;
      chain = closed.chain;
      served = closed.served;
      left_is = closed.left_is;
      openings = openings;
      cause = inl refl;
      failed = λ failed. absurd (true≢false (ap is_memory failed));
    }

    -- an account was refused, and the seat knows why
    refused_by : (fault : HomeFault) → IsRefusedAt (seen_by faults_of device) shared opening fault seat
        → IsRefusedBy disk_of faults_of device shared opening closed.chain fault
    refused_by fault at = record {
      account = at.account;
      name = at.name;
      owner = at.owner;
      store = at.store;
      opens = subst (λ (own : List (ℕ × Step)). OpensAt (seen_by faults_of device) shared opening at.account at.name own
          (Err at.store)) (sym (steps_are at.account at.own at.known)) at.opens;
      fault_is = at.fault_is;
    }

    pub stops_refused : (fault : HomeFault) → IsRefused (seen_by faults_of device) shared opening fault seat
        → StopsAt disk_of faults_of device opening fault left
    stops_refused fault (inl memory) = subst (λ (f : HomeFault). StopsAt disk_of faults_of device opening f left)
        (sym memory) stops_for_memory
    stops_refused fault (inr at) = record {
      last = closed.last;
      shared = shared;
      chain = closed.chain;
      served = closed.served;
      left_is = closed.left_is;
      openings = openings;
      cause = inr (refused_by fault at);
      failed = λ failed. known_failure closed.chain seat closed.entries
          (at.failed (store_failed at.store (sym at.fault_is ∙ failed)));
    }

  -- either way no home was begun over the device
  pub not_begun : (board : B) (named : List Bytes) (device : BoardDevice B) (opening : Opening) (fault : HomeFault)
      (left : B)
      → OpensDevice disk_of faults_of board named device
      → era_of device ≡ opening.era
      → ((fault ≡ faults.NoMemory) × (left ≡ board_of device)) ⊎ StopsAt disk_of faults_of device opening fault left
      → IsNotBegun disk_of faults_of board named opening fault left
  not_begun board named device opening fault left opened era (inl memory) =
      inl (unopened_for_memory board named device fault left opened memory.0 memory.1)
  not_begun board named device opening fault left opened era (inr stops) = inr (record {
    device = device;
    device_is = opened;
    era_is = era;
    stops = stops;
  })
