-- What device steps leave of an account's contents.
use Rattle.std.specs.Prelude.{◌≡◌, ◌⊎◌, ℕ, ◌+◌, List, [], ◌∷◌, None, Some, Bool, true, false, if◌then◌else◌, bytes_eq, option_map, Contains}
use Rattle.std.specs.FinMap.{get, insert, remove, keys}
use Rattle.pw_types.specs.Delay.{readiness}
use Rattle.pw_types.specs.declared.stamp.Stamp.{Stamp}
use Rattle.pw_types.specs.declared.delay.Readiness.{Readiness}
use Rattle.pw_types.specs.declared.delay.Readiness.TheVariants as readinesses
use Rattle.share_api.specs.Contents.{Bytes, Contents, settled}
use Rattle.pw_types.specs.declared.era.Era.{Era}
use Rattle.share_api.specs.declared.leaf.Leaf.{Leaf}
use Rattle.share_api.specs.declared.leaf.NewLeaf.{NewLeaf}
use Rattle.share_api.specs.declared.leaf.LeafView.{LeafView}
use Rattle.share_api.specs.declared.leaf.TryAnswer.{TryAnswer}
use Rattle.share_api.specs.declared.leaf.TryAnswer.TheVariants.{Right, Wrong, Delayed, Locked}
use Rattle.share_api.specs.declared.step.Write.{Write}
use Rattle.share_api.specs.declared.step.Write.TheVariants.{Put, Remove, RemoveLeaf}
use Rattle.share_api.specs.declared.step.Op.{Op}
use Rattle.share_api.specs.declared.step.Op.TheVariants.{Names, Get, Do, InsertLeaf, TryLeaf, ResetLeaf, LookLeaf}
use Rattle.share_api.specs.declared.step.Reply.{Reply}
use Rattle.share_api.specs.declared.step.Reply.TheVariants.{Done, Found, Listed, Labelled, Tried, Fits, Viewed, TreeLost, Damaged, Failed, NoMemory}
use Rattle.share_api.specs.declared.step.Step.{Step}

-- ---- leaves

abbrev pub no_stamp : Stamp
no_stamp = record { boot = 0; at = 0 }

abbrev pub leaf_of : NewLeaf → Leaf
leaf_of new = record { les = new.les; hes = new.hes; reset = new.reset; schedule = new.schedule; wrong = 0; last = no_stamp }

abbrev pub view_of : Leaf → LeafView
view_of leaf = record { wrong = leaf.wrong; last = leaf.last; schedule = leaf.schedule }

-- the leaf without wrong tries
abbrev pub cleared : Leaf → Leaf
cleared leaf = record leaf { wrong = 0; last = no_stamp }

-- the leaf after one more wrong try
abbrev pub missed : Era → ℕ → Leaf → Leaf
missed era moment leaf = record leaf { wrong = leaf.wrong + 1; last = record { boot = era.boot; at = moment } }

-- a try that may come
abbrev pub due : Bool → Era → ℕ → Leaf → TryAnswer × Leaf
due true era moment leaf = (Right leaf.hes, cleared leaf)
due false era moment leaf = (Wrong, missed era moment leaf)

abbrev pub tried_by : Readiness → Era → ℕ → Bytes → Leaf → TryAnswer × Leaf
tried_by readinesses.Ready era moment les leaf = due (bytes_eq les leaf.les) era moment leaf
tried_by (readinesses.Delayed until) era moment les leaf = (Delayed until, leaf)
tried_by readinesses.Locked era moment les leaf = (Locked, leaf)

-- whether a try of the leaf may come at this moment
abbrev pub leaf_readiness : Era → ℕ → Leaf → Readiness
leaf_readiness era moment leaf = readiness leaf.schedule leaf.wrong leaf.last (record { boot = era.boot; at = moment }) era.start

-- what a try with this secret answers, and the leaf after it
abbrev pub tried : Era → ℕ → Bytes → Leaf → TryAnswer × Leaf
tried era moment les leaf = tried_by (leaf_readiness era moment leaf) era moment les leaf

-- the leaf after a reset with this secret
abbrev pub reset_to : Bytes → Leaf → Leaf
reset_to secret leaf = if bytes_eq secret leaf.reset then cleared leaf else leaf

abbrev pub with_leaf : Contents → ℕ → Leaf → Contents
with_leaf c label leaf = record c { leaves = insert c.leaves label leaf }

-- the leaf of an insert that failed is in doubt
abbrev pub doubted : Contents → ℕ → Leaf → Contents
doubted c label leaf = record c { leaves = insert c.leaves label leaf; doubt = Some label }

-- ---- one step

-- what a change leaves where it is done
abbrev pub done : Write → Contents → Contents
done (Put name bytes) c = record c { records = insert c.records name bytes }
done (Remove name) c = record c { records = remove c.records name }
done (RemoveLeaf label) c = record c { leaves = remove c.leaves label }

-- what a step that was answered well leaves
abbrev pub Gives : Era → ℕ → Op → Reply → Contents → Contents → Type 0
Gives era moment Names reply old new = (reply ≡ Listed (keys old.records, keys old.leaves)) × (new ≡ old)
Gives era moment (Get name) reply old new = (reply ≡ Found (get old.records name)) × (new ≡ old)
Gives era moment (Do write) reply old new = (reply ≡ Done) × (new ≡ done write old)
Gives era moment (InsertLeaf leaf) reply old new = (label : ℕ) × (get old.leaves label ≡ None) × (reply ≡ Labelled label) × (new ≡ with_leaf old label (leaf_of leaf))
Gives era moment (TryLeaf label les) reply old new = (leaf : Leaf) × (get old.leaves label ≡ Some leaf) × (reply ≡ Tried (tried era moment les leaf).0) × (new ≡ with_leaf old label (tried era moment les leaf).1)
Gives era moment (ResetLeaf label secret) reply old new = (leaf : Leaf) × (get old.leaves label ≡ Some leaf) × (reply ≡ Fits (bytes_eq secret leaf.reset)) × (new ≡ with_leaf old label (reset_to secret leaf))
Gives era moment (LookLeaf label) reply old new = (reply ≡ Viewed (option_map view_of (get old.leaves label))) × (new ≡ old)

-- what a step that failed may leave: it is done or not
abbrev pub Fails : Era → ℕ → Op → Contents → Contents → Type 0
Fails era moment Names old new = new ≡ old
Fails era moment (Get name) old new = new ≡ old
Fails era moment (Do write) old new = (new ≡ old) ⊎ (new ≡ done write old)
Fails era moment (InsertLeaf leaf) old new = (new ≡ old) ⊎ ((label : ℕ) × (get old.leaves label ≡ None) × (new ≡ doubted old label (leaf_of leaf)))
Fails era moment (TryLeaf label les) old new = (new ≡ old) ⊎ ((leaf : Leaf) × (get old.leaves label ≡ Some leaf) × (new ≡ with_leaf old label (tried era moment les leaf).1))
Fails era moment (ResetLeaf label secret) old new = (new ≡ old) ⊎ ((leaf : Leaf) × (get old.leaves label ≡ Some leaf) × (new ≡ with_leaf old label (reset_to secret leaf)))
Fails era moment (LookLeaf label) old new = new ≡ old

-- what a step with this reply may lead to
abbrev pub Leads : Era → ℕ → Op → Reply → Contents → Contents → Type 0
Leads era moment op Failed old new = Fails era moment op old new
Leads era moment op NoMemory old new = new ≡ old
Leads era moment op TreeLost old new = new ≡ old
Leads era moment op Damaged old new = new ≡ old
Leads era moment op reply old new = Gives era moment op reply old new

-- one step may lead from these contents to those
abbrev pub Does : Era → Contents → Step → Contents → Type 0
Does era old step new = Leads era step.moment step.op step.reply (settled old) new

-- the same, where the contents after the step are among these
abbrev pub DoesAmong : Era → List Contents → Contents → Step → Contents → Type 0
DoesAmong era seen old step new = Does era old step new × Contains seen new

-- ---- changes that are tried in order, up to the first that isn't done

-- the reply to a change, and what the steps after it have to be
abbrev pub ThenReply : Reply → Type 0 → List Step → Type 0
ThenReply Done next steps = next
ThenReply Failed next steps = steps ≡ []
ThenReply TreeLost next steps = steps ≡ []
ThenReply (Found bytes) next steps = ⊥
ThenReply (Listed listing) next steps = ⊥
ThenReply (Labelled label) next steps = ⊥
ThenReply (Tried answer) next steps = ⊥
ThenReply (Fits fits) next steps = ⊥
ThenReply (Viewed view) next steps = ⊥
ThenReply Damaged next steps = ⊥
ThenReply NoMemory next steps = ⊥

-- The steps make these changes in order, up to the first that wasn't done.
abbrev pub Follows : List Write → List Step → Type 0
Follows writes [] = Unit {0}
Follows [] (step ∷ steps) = ⊥
Follows (write ∷ writes) (step ∷ steps) = (step.op ≡ Do write) × ThenReply step.reply (Follows writes steps) steps

-- What a list of changes needs, so that P holds throughout: it holds before the first and after each.
abbrev pub Along : (Contents → Type 0) → Contents → List Write → Type 0
Along P c [] = P c
Along P c (write ∷ writes) = P c × Along P (done write c) writes

-- all changes were made
abbrev pub AllDone : List Write → List Step → Type 0
AllDone [] [] = Unit {0}
AllDone [] (step ∷ steps) = ⊥
AllDone (write ∷ writes) [] = ⊥
AllDone (write ∷ writes) (step ∷ steps) = (step.op ≡ Do write) × (step.reply ≡ Done) × AllDone writes steps

-- the contents after all changes
abbrev pub after : List Write → Contents → Contents
after [] c = c
after (write ∷ writes) c = after writes (done write c)

-- after an insert the changes that its label gives
abbrev pub ThenLabel : Reply → (ℕ → List Write) → List Step → Type 0
ThenLabel (Labelled label) writes steps = Follows (writes label) steps
ThenLabel Failed writes steps = steps ≡ []
ThenLabel TreeLost writes steps = steps ≡ []
ThenLabel Done writes steps = ⊥
ThenLabel (Found bytes) writes steps = ⊥
ThenLabel (Listed listing) writes steps = ⊥
ThenLabel (Tried answer) writes steps = ⊥
ThenLabel (Fits fits) writes steps = ⊥
ThenLabel (Viewed view) writes steps = ⊥
ThenLabel Damaged writes steps = ⊥
ThenLabel NoMemory writes steps = ⊥

-- The steps insert the leaf and then make the changes that its label gives, up to the first that wasn't done.
abbrev pub FollowsInsert : NewLeaf → (ℕ → List Write) → List Step → Type 0
FollowsInsert leaf writes [] = Unit {0}
FollowsInsert leaf writes (step ∷ steps) = (step.op ≡ InsertLeaf leaf) × ThenLabel step.reply writes steps
