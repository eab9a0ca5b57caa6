-- Device steps that didn't fail, and what they leave: of the platform, and of one account's contents.
use Rattle.std.specs.Prelude.{◌≡◌, ◌≢◌, ℕ, ◌+◌, ◌<◌, ◌^◌, Option, Some, None, List, [], ◌∷◌, option_map, ◌==◌, if◌then◌else◌, bytes_eq}
use Rattle.std.specs.FinMap.{insert, remove}
use Rattle.pw_path.specs.Tree.{no_hash}
use Rattle.pw_types.specs.Delay.{readiness}
use Rattle.pw_types.specs.declared.stamp.Stamp.{Stamp}
use Rattle.pw_types.specs.declared.delay.Readiness.{Readiness}
use Rattle.pw_types.specs.declared.delay.Readiness.TheVariants as delay
use Rattle.pw_leaf.specs.Contents.{Contents, no_stamp}
use Rattle.pw_leaf.specs.LeafBytes.{leaf_mac}
use Rattle.pin_recovery.specs.LeafCalls.{LeafOp, InsertLeaf, TryLeaf, ResetLeaf, RemoveLeaf, IsLeafOp, stepped}
use Rattle.platform_model.specs.Views.{Records, Platform, PlainLeaf, View}
use Rattle.pw_types.specs.declared.era.Era.{Era}

-- what a device step does. A removal of a leaf that isn't there or is another account's is a look.
pub data Op : Type 0 where
  Looks : Op
  Puts : (name : List ℕ) → (bytes : List ℕ) → Op
  Removes : (name : List ℕ) → Op
  Asks : (op : LeafOp) → Op

-- one account's step at a moment
pub record Step : Type 0 where
  pub account : ℕ
  pub op : Op
  pub now : ℕ

-- ---- the platform

-- one account's records change
abbrev pub with_records : (ℕ → Records) → ℕ → Records → ℕ → Records
with_records records account new a = if a == account then new else records a

-- an insert makes the label the account's
abbrev pub owners_after : LeafOp → ℕ → (ℕ → ℕ) → ℕ → ℕ
owners_after (InsertLeaf label les hes reset schedule iv) account owners i = if i == label then account else owners i
owners_after (TryLeaf label les) account owners i = owners i
owners_after (ResetLeaf label reset) account owners i = owners i
owners_after (RemoveLeaf label) account owners i = owners i

-- the platform after a step
abbrev pub done_by : Platform → ℕ → Op → ℕ → Platform
done_by s account Looks now = s
done_by s account (Puts name bytes) now = record s { records = with_records s.records account (insert (s.records account) name bytes) }
done_by s account (Removes name) now = record s { records = with_records s.records account (remove (s.records account) name) }
done_by s account (Asks op) now = record s { devices = stepped s.devices op now; owners = owners_after op account s.owners }

-- the same of a step as one
abbrev pub after : Platform → Step → Platform
after s step = done_by s step.account step.op step.now

-- the platform after a list of steps
unfoldable pub run : Platform → List Step → Platform
run s [] = s
run s (step ∷ steps) = run (after s step) steps

-- ---- an account's contents: no chip, no hash and no other account

-- a leaf that is inserted
abbrev pub new_leaf : List ℕ → List ℕ → List ℕ → List (ℕ × ℕ) → PlainLeaf
new_leaf les hes reset schedule = record { les = les; hes = hes; reset = reset; schedule = schedule; wrong = 0; last = no_stamp }

-- a leaf after a try under this readiness
abbrev pub tried_leaf : Readiness → List ℕ → Stamp → PlainLeaf → PlainLeaf
tried_leaf delay.Ready les now x = if bytes_eq x.les les then record x { wrong = 0; last = no_stamp } else record x { wrong = x.wrong + 1; last = now }
tried_leaf (delay.Delayed until) les now x = x
tried_leaf delay.Locked les now x = x

-- a leaf after a try at a moment of the era
abbrev pub after_try : Era → List ℕ → ℕ → PlainLeaf → PlainLeaf
after_try era les now x = tried_leaf (readiness x.schedule x.wrong x.last (record { boot = era.boot; at = now }) era.start) les (record { boot = era.boot; at = now }) x

-- a leaf after a reset
abbrev pub after_reset : List ℕ → PlainLeaf → PlainLeaf
after_reset reset x = if bytes_eq x.reset reset then record x { wrong = 0; last = no_stamp } else x

-- leaves with one set
abbrev pub with_plain : (ℕ → Option PlainLeaf) → ℕ → Option PlainLeaf → ℕ → Option PlainLeaf
with_plain leaves label x i = if i == label then x else leaves i

-- the account's leaves after a call
abbrev pub leaves_done : Era → LeafOp → ℕ → (ℕ → Option PlainLeaf) → ℕ → Option PlainLeaf
leaves_done era (InsertLeaf label les hes reset schedule iv) now leaves = with_plain leaves label (Some (new_leaf les hes reset schedule))
leaves_done era (TryLeaf label les) now leaves = with_plain leaves label (option_map (after_try era les now) (leaves label))
leaves_done era (ResetLeaf label reset) now leaves = with_plain leaves label (option_map (after_reset reset) (leaves label))
leaves_done era (RemoveLeaf label) now leaves = with_plain leaves label None

-- the account's contents after its step
abbrev pub done : Era → Op → ℕ → View → View
done era Looks now view = view
done era (Puts name bytes) now view = record view { records = insert view.records name bytes }
done era (Removes name) now view = record view { records = remove view.records name }
done era (Asks op) now view = record view { leaves = leaves_done era op now view.leaves }

-- the account's own steps among these
unfoldable pub fold : Era → ℕ → View → List Step → View
fold era account view [] = view
fold era account view (step ∷ steps) = fold era account (if step.account == account then done era step.op step.now view else view) steps

-- ---- what steps may come

-- the label of a leaf call is free at an insert, and else the account's, with a leaf there
unfoldable pub IsAllowedLeaf : Platform → ℕ → LeafOp → Type 0
IsAllowedLeaf s account (InsertLeaf label les hes reset schedule iv) = s.devices.leaves label ≡ None
IsAllowedLeaf s account (TryLeaf label les) = (s.owners label ≡ account) × ((x : Contents) × (s.devices.leaves label ≡ Some x))
IsAllowedLeaf s account (ResetLeaf label reset) = (s.owners label ≡ account) × ((x : Contents) × (s.devices.leaves label ≡ Some x))
-- the leaf's MAC isn't that of an empty label: of the premises on hashes the only one here
IsAllowedLeaf s account (RemoveLeaf label) =
    (s.owners label ≡ account) × ((x : Contents) × ((s.devices.leaves label ≡ Some x) × (leaf_mac s.devices.words.keys x ≢ no_hash)))

-- what the platform lets an account do
abbrev pub IsAllowedOp : Platform → ℕ → Op → ℕ → Type 0
IsAllowedOp s account Looks now = Unit {0}
IsAllowedOp s account (Puts name bytes) now = Unit {0}
IsAllowedOp s account (Removes name) now = Unit {0}
IsAllowedOp s account (Asks op) now = (now < 2 ^ 40) × IsLeafOp op × IsAllowedLeaf s account op

-- the same of a step as one
abbrev pub IsAllowed : Platform → Step → Type 0
IsAllowed s step = IsAllowedOp s step.account step.op step.now

-- each step of a list is allowed where it comes
unfoldable pub AreAllowed : Platform → List Step → Type 0
AreAllowed s [] = Unit {0}
AreAllowed s (step ∷ steps) = IsAllowed s step × AreAllowed (after s step) steps
