-- Factors as they are listed, and the looks at their leaves.
use Rattle.std.specs.Prelude.{◌≡◌, ◌⊎◌, ◌≤◌, ℕ, List, map, length, Bool, true, false, Option, None, Some, Result, Ok, Err, option_map, option_and_then, Contains}
use Rattle.std.specs.FinMap.{get, entries}
use Rattle.account_machine.specs.declared.answer.Answer.{Answer}
use Rattle.account_machine.specs.declared.answer.Answer.TheVariants as answers
use Rattle.account_machine.specs.declared.answer.FactorLine.{FactorLine}
use Rattle.account_machine.specs.declared.factor.Kind.{Kind}
use Rattle.account_machine.specs.declared.factor.Kind.TheVariants.{Password, Pin}
use Rattle.factor_files.specs.declared.factor.FactorRecord.{FactorRecord}
use Rattle.home_edits.specs.Edits.{told_fault}
use Rattle.home_recovery.specs.Reading.{AreReads}
use Rattle.record_names.specs.Names.{leaf_name}
use Rattle.share_api.specs.Contents.{Bytes, Contents, Leaves}
use Rattle.share_api.specs.Folds.{Fold}
use Rattle.share_api.specs.Seen.{ShareSeen, Runs, HasFailed}
use Rattle.share_api.specs.Steps.{Does}
use Rattle.share_api.specs.declared.fault.ShareFault.{ShareFault}
use Rattle.share_api.specs.declared.leaf.Leaf.{Leaf}
use Rattle.share_api.specs.declared.leaf.LeafView.{LeafView}
use Rattle.share_api.specs.declared.step.Step.{Step}
use Rattle.stored_home.specs.declared.fault.StoreFault.{StoreFault}
use Rattle.stored_home.specs.declared.fault.StoreFault.TheVariants.{Failed, Damaged, NoMemory, TreeLost}
use Rattle.user_state.specs.Fits.{is_lost}
use Rattle.user_state.specs.declared.state.Doubt.TheVariants.{Editions}
use Rattle.user_state.specs.declared.state.UserState.{UserState}

-- ---- lines

-- the count of the leaf at a label
abbrev pub leaf_count : Leaves → Option ℕ → Option ℕ
leaf_count leaves tree = option_and_then (λ t. option_map (λ (leaf : Leaf). leaf.wrong) (get leaves t)) tree

-- the leaf that has a factor's count: a PIN's, unless the tree is lost
abbrev pub counted_leaf : Kind → Bool → Option ℕ → Option ℕ
counted_leaf Password lost tree = None
counted_leaf Pin true tree = None
counted_leaf Pin false tree = tree

-- a PIN's count, unless the tree is lost; a password has none
abbrev pub count_in : Kind → Bool → Leaves → Option ℕ → Option ℕ
count_in kind lost leaves tree = leaf_count leaves (counted_leaf kind lost tree)

-- a factor's line, by its record and the leaves
abbrev pub line_in : Bool → Leaves → Bytes × FactorRecord → FactorLine
line_in lost leaves row =
    record { label = row.0; kind = row.1.kind; wrong = count_in row.1.kind lost leaves row.1.leaf }

-- ---- looks

-- The share made at most so many steps, each a read; a fault is told only where one of them failed. Whatever contents
-- they fit, in which no leaf is in doubt, P is so of these.
pub record Looks (old new : ShareSeen) (failed : Type 0) (most : ℕ) (P : Contents → Type 0) : Type 0 where
  pub steps : List Step
  pub runs : Runs old new steps
  pub reads : AreReads steps
  pub few : length steps ≤ most
  pub fails : failed → HasFailed steps
  pub tells : (contents : Contents) → contents.doubt ≡ None → Fold (Does old.era) contents steps contents → P contents

-- the record names a leaf that isn't there
pub record LacksLeaf (account : Bytes) (row : FactorRecord) (name : Bytes) (contents : Contents) : Type 0 where
  pub tree : ℕ
  pub names : row.leaf ≡ Some tree
  pub name_is : name ≡ leaf_name account tree
  pub none : get contents.leaves tree ≡ None

-- the count that the answer of a look shows
abbrev pub count_told : Bytes → ℕ → Result (Option LeafView) ShareFault → Result (Option ℕ) StoreFault
count_told account tree (Ok (Some view)) = Ok (Some view.wrong)
count_told account tree (Ok None) = Err (Damaged (leaf_name account tree))
count_told account tree (Err fault) = Err (told_fault fault)

-- what a look at a leaf tells
abbrev pub TellsLook : Bytes → ℕ → Result (Option ℕ) StoreFault → Contents → Type 0
TellsLook account tree (Ok wrong) contents = wrong ≡ option_map (λ (leaf : Leaf). leaf.wrong) (get contents.leaves tree)
TellsLook account tree (Err (Damaged name)) contents =
    (name ≡ leaf_name account tree) × (get contents.leaves tree ≡ None)
TellsLook account tree (Err Failed) contents = Unit {0}
TellsLook account tree (Err NoMemory) contents = Unit {0}
TellsLook account tree (Err (TreeLost host chip)) contents = Unit {0}

-- what a look at a factor's leaf tells
abbrev pub TellsCount : Bytes → Bool → FactorRecord → Result (Option ℕ) StoreFault → Contents → Type 0
TellsCount account lost row (Ok wrong) contents = wrong ≡ count_in row.kind lost contents.leaves row.leaf
TellsCount account lost row (Err (Damaged name)) contents = LacksLeaf account row name contents
TellsCount account lost row (Err Failed) contents = Unit {0}
TellsCount account lost row (Err NoMemory) contents = Unit {0}
TellsCount account lost row (Err (TreeLost host chip)) contents = Unit {0}

-- what a factor's line tells
abbrev pub TellsLine : Bytes → Bool → Bytes × FactorRecord → Result FactorLine StoreFault → Contents → Type 0
TellsLine account lost row (Ok line) contents = line ≡ line_in lost contents.leaves row
TellsLine account lost row (Err (Damaged name)) contents = LacksLeaf account row.1 name contents
TellsLine account lost row (Err Failed) contents = Unit {0}
TellsLine account lost row (Err NoMemory) contents = Unit {0}
TellsLine account lost row (Err (TreeLost host chip)) contents = Unit {0}

-- one of the records names a leaf that isn't there
abbrev pub LacksOne : Bytes → List (Bytes × FactorRecord) → Bytes → Contents → Type 0
LacksOne account rows name contents =
    (row : Bytes × FactorRecord) × Contains rows row × LacksLeaf account row.1 name contents

-- what the lines of all factors tell
abbrev pub TellsLines : Bytes → Bool → List (Bytes × FactorRecord) → Result (List FactorLine) StoreFault → Contents
    → Type 0
TellsLines account lost rows (Ok lines) contents = lines ≡ map (line_in lost contents.leaves) rows
TellsLines account lost rows (Err (Damaged name)) contents = LacksOne account rows name contents
TellsLines account lost rows (Err Failed) contents = Unit {0}
TellsLines account lost rows (Err NoMemory) contents = Unit {0}
TellsLines account lost rows (Err (TreeLost host chip)) contents = Unit {0}

-- no tree is told lost by a look where it isn't
abbrev pub IsListFault : StoreFault → Type 0
IsListFault Failed = Unit {0}
IsListFault (Damaged name) = Unit {0}
IsListFault NoMemory = Unit {0}
IsListFault (TreeLost host chip) = ⊥

-- ---- answers

-- the answers to a list
abbrev pub IsListAnswer : Answer → Type 0
IsListAnswer answer =
    ((lines : List FactorLine) × (answer ≡ answers.OkFactors lines)) ⊎ (answer ≡ answers.StorageFault)
    ⊎ (answer ≡ answers.NoMemory) ⊎ ((name : Bytes) × (answer ≡ answers.Damaged name))

-- what the answer to a list tells of contents
abbrev pub TellsList : UserState → Answer → Contents → Type 0
TellsList state (answers.OkFactors lines) contents =
    lines ≡ map (line_in (is_lost state) contents.leaves) (entries state.stored.factors)
TellsList state (answers.Damaged name) contents = LacksOne state.account (entries state.stored.factors) name contents
TellsList state answers.StorageFault contents = Unit {0}
TellsList state answers.NoMemory contents = Unit {0}
TellsList state _ contents = ⊥

-- after a failed look the account is unsettled, and else nothing changes
abbrev pub after_list : Answer → UserState → UserState
after_list answers.StorageFault before = record before { doubt = Some Editions }
after_list _ before = before

-- how a fault of the looks is answered, and the state after it
abbrev pub FailsSo : UserState → StoreFault → UserState → Answer → Type 0
FailsSo before Failed after answer =
    (answer ≡ answers.StorageFault) × (after ≡ record before { doubt = Some Editions })
FailsSo before (Damaged name) after answer =
    ((answer ≡ answers.Damaged name) ⊎ (answer ≡ answers.NoMemory)) × (after ≡ before)
FailsSo before NoMemory after answer = (answer ≡ answers.NoMemory) × (after ≡ before)
FailsSo before (TreeLost host chip) after answer = ⊥
