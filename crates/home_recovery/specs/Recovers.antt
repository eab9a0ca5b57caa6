-- What recovering does.
use Rattle.std.specs.Prelude.{◌≡◌, ◌⊎◌, ℕ, ◌+◌, ◌≤◌, Bool, false, List, [], ◌∷◌, Result, IfOk, IsOk, IsErrOf, is_some, length}
use Rattle.account_machine.specs.declared.user.Durable.{Durable}
use Rattle.pw_types.specs.declared.era.Era.{Era}
use Rattle.share_api.specs.Conditions.{IsFiledName}
use Rattle.share_api.specs.Contents.{Bytes, Contents}
use Rattle.share_api.specs.Folds.{Fold, Throughout}
use Rattle.share_api.specs.Seen.{ShareSeen, HasFailed}
use Rattle.share_api.specs.Steps.{Does}
use Rattle.share_api.specs.declared.step.Op.{Op}
use Rattle.share_api.specs.declared.step.Op.TheVariants.{Names, Get, Do, InsertLeaf, TryLeaf, ResetLeaf, LookLeaf}
use Rattle.share_api.specs.declared.step.Reply.{Reply}
use Rattle.share_api.specs.declared.step.Reply.TheVariants.{Done, Found, Listed, Labelled, Tried, Fits, Viewed, TreeLost, Damaged, Failed, NoMemory}
use Rattle.share_api.specs.declared.step.Step.{Step}
use Rattle.share_api.specs.declared.step.Write.{Write}
use Rattle.share_api.specs.declared.step.Write.TheVariants.{Put, Remove, RemoveLeaf}
use Rattle.stored_home.specs.Coherent.{IsCoherent}
use Rattle.stored_home.specs.Holds.{Keys, HoldsUnder}
use Rattle.stored_home.specs.Loaded.{IsNamed, NamesTree, IsKept}
use Rattle.stored_home.specs.declared.fault.StoreFault.{StoreFault}
use Rattle.stored_home.specs.declared.fault.StoreFault.TheVariants as faults
use Rattle.stored_home.specs.declared.stored.Stored.{Stored}
use Rattle.home_recovery.specs.Damage.{IsDamaged, IsSoundHome}
use Rattle.home_recovery.specs.Loose.{IsReadOf}
use Rattle.home_recovery.specs.Reading.{RunsOver, AreReads}
use Rattle.home_recovery.specs.Told.{lost_tree}

-- how many names and labels a reply lists
abbrev pub listed_by : Reply → ℕ
listed_by (Listed listing) = length listing.0 + length listing.1
listed_by Done = 0
listed_by (Found found) = 0
listed_by (Labelled label) = 0
listed_by (Tried answer) = 0
listed_by (Fits fits) = 0
listed_by (Viewed view) = 0
listed_by TreeLost = 0
listed_by Damaged = 0
listed_by Failed = 0
listed_by NoMemory = 0

-- how many the first of the steps listed
abbrev pub listed_first : List Step → ℕ
listed_first [] = 0
listed_first (step ∷ steps) = listed_by step.reply

-- what is removed is a record of the account, or a leaf of a tree that isn't lost, and the loaded state doesn't name it
abbrev pub RemovesUnnamed : Bool → Bytes → Stored → Write → Type 0
RemovesUnnamed lost account stored (Put name bytes) = ⊥
RemovesUnnamed lost account stored (Remove name) = IsFiledName account name × (IsNamed account stored name → ⊥)
RemovesUnnamed lost account stored (RemoveLeaf tree) = (lost ≡ false) × (NamesTree stored tree → ⊥)

-- nothing is changed, or something is removed that isn't named
abbrev pub IsTidying : Bool → Bytes → Stored → Op → Type 0
IsTidying lost account stored Names = Unit {0}
IsTidying lost account stored (Get name) = Unit {0}
IsTidying lost account stored (Do write) = RemovesUnnamed lost account stored write
IsTidying lost account stored (InsertLeaf leaf) = ⊥
IsTidying lost account stored (TryLeaf label les) = ⊥
IsTidying lost account stored (ResetLeaf label secret) = ⊥
IsTidying lost account stored (LookLeaf label) = Unit {0}

abbrev pub AreTidying : Bool → Bytes → Stored → List Step → Type 0
AreTidying lost account stored [] = Unit {0}
AreTidying lost account stored (step ∷ steps) =
    IsTidying lost account stored step.op × AreTidying lost account stored steps

-- Each change among the steps removes something that a state doesn't name, and this is the state of the contents:
-- the result's, where there is one.
pub record Tidies (era : Era) (lost : Bool) (account : Bytes) (steps : List Step) (result : Result Stored StoreFault)
    : Type 0 where
  pub stored : Stored
  pub read : (contents new : Contents) → Fold (Does era) contents steps new → IsReadOf new account stored
  pub tidying : AreTidying lost account stored steps
  pub is : IfOk result (λ kept. kept ≡ stored)

-- Of whatever contents the steps fit: what is loaded is what is there, and besides it nothing of the account is; what
-- is held stays held; and what is told damaged is so.
pub record Recovers (old new : ShareSeen) (account : Bytes) (result : Result Stored StoreFault) : Type 0 where
  pub steps : List Step
  pub runs : RunsOver old new steps
  -- the reads of loading, and a removal for each that is listed
  pub few : length steps ≤ 67 + listed_first steps
  pub most : listed_first steps ≤ 533 → length steps ≤ 600
  -- no more calls are used than there are steps
  pub spare : old.spare ≤ new.spare + length steps
  pub well : IsOk result → HasFailed steps → ⊥
  pub fails : IsErrOf result faults.Failed → HasFailed steps
  -- at least the names were asked for
  pub made : IsOk result → steps ≡ [] → ⊥
  -- the share's roots, where its tree is lost
  pub lost : IfOk result (λ stored. stored.lost ≡ lost_tree old.lost)
  -- what is loaded fits together, whatever the contents are
  pub coherent : IfOk result (IsCoherent account)
  pub loaded : IfOk result (λ stored. (contents new : Contents) → Fold (Does old.era) contents steps new
      → IsKept (is_some old.lost) new account stored × IsSoundHome (is_some old.lost) new account stored)
  pub kept : (contents : Contents) (durable : Durable) (keys : Keys)
      → HoldsUnder (is_some old.lost) contents account durable keys
      → Throughout (Does old.era) (λ c. HoldsUnder (is_some old.lost) c account durable keys) contents steps
  pub removes : AreReads steps ⊎ Tidies old.era (is_some old.lost) account steps result
  -- damage is told before anything is removed
  pub damaged : (name : Bytes) → IsErrOf result (faults.Damaged name) → AreReads steps
      × ((contents new : Contents) → Fold (Does old.era) contents steps new
      → IsDamaged (is_some old.lost) new account name)
  -- and not of what is held
  pub safe : (name : Bytes) → IsErrOf result (faults.Damaged name)
      → (contents new : Contents) (durable : Durable) (keys : Keys) → Fold (Does old.era) contents steps new → HoldsUnder (is_some old.lost) contents account durable keys → ⊥
