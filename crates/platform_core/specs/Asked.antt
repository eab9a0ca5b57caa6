-- What a step on records asks, and what its reply tells.
use Rattle.std.specs.Prelude.{◌≡◌, ◌⊎◌, ℕ, ◌≤◌, List, [], ◌∷◌, length, take, option_map, Option, None, Some, Bool}
use Rattle.std.specs.Prelude.{true, false, IsSorted}
use Rattle.std.specs.Ordering.{nat_cmp}
use Rattle.std.specs.Cmp.Lexicographic.{slice_cmp}
use Rattle.std.specs.FinMap.{get}
use Rattle.board_model.specs.Disk.{Image}
use Rattle.cabinet.specs.Edits.{Edit, File}
use Rattle.cabinet.specs.Names.{HasRoom, with_name}
use Rattle.share_api.specs.Contents.{Bytes}
use Rattle.share_api.specs.declared.step.Write.TheVariants.{Put, Remove, RemoveLeaf}
use Rattle.share_api.specs.declared.step.Op.{Op}
use Rattle.share_api.specs.declared.step.Op.TheVariants.{Names, Get, Do, InsertLeaf, TryLeaf, ResetLeaf, LookLeaf}
use Rattle.share_api.specs.declared.step.Reply.{Reply}
use Rattle.share_api.specs.declared.step.Reply.TheVariants.{Done, Found, Listed, Labelled, Tried, Fits, Viewed}
use Rattle.share_api.specs.declared.step.Reply.TheVariants.{TreeLost, Damaged, Failed, NoMemory}
use Rattle.platform_core.specs.Records.{IsRecordOf, AreNames}
use Rattle.platform_core.specs.Picks.{AreFewer}

-- the step concerns a record of the account, or all of them, and no leaf
abbrev pub IsOwn : Bytes → Op → Type 0
IsOwn account Names = Unit {0}
IsOwn account (Get name) = IsRecordOf account name
IsOwn account (Do (Put name bytes)) = IsRecordOf account name × (length bytes ≤ 49181)
IsOwn account (Do (Remove name)) = IsRecordOf account name
IsOwn account (Do (RemoveLeaf label)) = ⊥
IsOwn account (InsertLeaf leaf) = ⊥
IsOwn account (TryLeaf label secret) = ⊥
IsOwn account (ResetLeaf label secret) = ⊥
IsOwn account (LookLeaf label) = ⊥

-- the name of a put is held, or there is room for one more
abbrev pub HasRoomFor : List Bytes → ℕ → Op → Type 0
HasRoomFor names most Names = Unit {0}
HasRoomFor names most (Get name) = Unit {0}
HasRoomFor names most (Do (Put name bytes)) = HasRoom names most name
HasRoomFor names most (Do (Remove name)) = Unit {0}
HasRoomFor names most (Do (RemoveLeaf label)) = Unit {0}
HasRoomFor names most (InsertLeaf leaf) = Unit {0}
HasRoomFor names most (TryLeaf label secret) = Unit {0}
HasRoomFor names most (ResetLeaf label secret) = Unit {0}
HasRoomFor names most (LookLeaf label) = Unit {0}

-- the change of files that a step makes
abbrev pub edits_of : Op → List Edit
edits_of Names = []
edits_of (Get name) = []
edits_of (Do (Put name bytes)) = File name (Some bytes) ∷ []
edits_of (Do (Remove name)) = File name None ∷ []
edits_of (Do (RemoveLeaf label)) = []
edits_of (InsertLeaf leaf) = []
edits_of (TryLeaf label secret) = []
edits_of (ResetLeaf label secret) = []
edits_of (LookLeaf label) = []

-- The names that are held after a step: only a put may hold one more.
abbrev pub NamesGo : Op → List Bytes → List Bytes → Type 0
NamesGo Names old new = AreFewer old new
NamesGo (Get name) old new = AreFewer old new
NamesGo (Do (Put name bytes)) old new = (new ≡ old) ⊎ (new ≡ with_name old name)
NamesGo (Do (Remove name)) old new = AreFewer old new
NamesGo (Do (RemoveLeaf label)) old new = AreFewer old new
NamesGo (InsertLeaf leaf) old new = AreFewer old new
NamesGo (TryLeaf label secret) old new = AreFewer old new
NamesGo (ResetLeaf label secret) old new = AreFewer old new
NamesGo (LookLeaf label) old new = AreFewer old new

abbrev pub has_failed : Reply → Bool
has_failed Done = false
has_failed (Found found) = false
has_failed (Listed listing) = false
has_failed (Labelled label) = false
has_failed (Tried answer) = false
has_failed (Fits fits) = false
has_failed (Viewed view) = false
has_failed TreeLost = false
has_failed Damaged = false
has_failed Failed = true
has_failed NoMemory = false

-- the reply of a read: what is there, or a fault
abbrev pub IsFound : Option Bytes → Reply → Type 0
IsFound there (Found found) = found ≡ there
IsFound there Failed = Unit {0}
IsFound there NoMemory = Unit {0}
IsFound there Done = ⊥
IsFound there (Listed listing) = ⊥
IsFound there (Labelled label) = ⊥
IsFound there (Tried answer) = ⊥
IsFound there (Fits fits) = ⊥
IsFound there (Viewed view) = ⊥
IsFound there TreeLost = ⊥
IsFound there Damaged = ⊥

-- the reply of a change
abbrev pub IsDone : Reply → Type 0
IsDone Done = Unit {0}
IsDone Failed = Unit {0}
IsDone (Found found) = ⊥
IsDone NoMemory = ⊥
IsDone (Listed listing) = ⊥
IsDone (Labelled label) = ⊥
IsDone (Tried answer) = ⊥
IsDone (Fits fits) = ⊥
IsDone (Viewed view) = ⊥
IsDone TreeLost = ⊥
IsDone Damaged = ⊥

-- a reply with names in rising order of bytes and no labels, or a fault
abbrev pub IsListing : Reply → Type 0
IsListing (Listed listing) = IsSorted (slice_cmp nat_cmp) listing.0 × (listing.1 ≡ [])
IsListing Failed = Unit {0}
IsListing NoMemory = Unit {0}
IsListing (Found found) = ⊥
IsListing Done = ⊥
IsListing (Labelled label) = ⊥
IsListing (Tried answer) = ⊥
IsListing (Fits fits) = ⊥
IsListing (Viewed view) = ⊥
IsListing TreeLost = ⊥
IsListing Damaged = ⊥

-- a reply with what was found, or a fault
abbrev pub IsFinding : Reply → Type 0
IsFinding (Found found) = Unit {0}
IsFinding Failed = Unit {0}
IsFinding NoMemory = Unit {0}
IsFinding Done = ⊥
IsFinding (Listed listing) = ⊥
IsFinding (Labelled label) = ⊥
IsFinding (Tried answer) = ⊥
IsFinding (Fits fits) = ⊥
IsFinding (Viewed view) = ⊥
IsFinding TreeLost = ⊥
IsFinding Damaged = ⊥

-- the reply is one to this step, whether the board tells its content or not
abbrev pub IsReplyTo : Op → Reply → Type 0
IsReplyTo Names reply = IsListing reply
IsReplyTo (Get name) reply = IsFinding reply
IsReplyTo (Do write) reply = IsDone reply
IsReplyTo (InsertLeaf leaf) reply = ⊥
IsReplyTo (TryLeaf label secret) reply = ⊥
IsReplyTo (ResetLeaf label secret) reply = ⊥
IsReplyTo (LookLeaf label) reply = ⊥

-- the reply with the account's names, and no labels
abbrev pub IsListed : Bytes → Image → Reply → Type 0
IsListed account now (Listed listing) = AreNames account now listing.0 × (listing.1 ≡ [])
IsListed account now Failed = Unit {0}
IsListed account now NoMemory = Unit {0}
IsListed account now (Found found) = ⊥
IsListed account now Done = ⊥
IsListed account now (Labelled label) = ⊥
IsListed account now (Tried answer) = ⊥
IsListed account now (Fits fits) = ⊥
IsListed account now (Viewed view) = ⊥
IsListed account now TreeLost = ⊥
IsListed account now Damaged = ⊥

-- what a reply tells of the files that are there
abbrev pub Tells : Bytes → Op → Reply → Image → Type 0
Tells account Names reply now = IsListed account now reply
Tells account (Get name) reply now = IsFound (option_map (take 49182) (get now.files name)) reply
Tells account (Do write) reply now = IsDone reply
Tells account (InsertLeaf leaf) reply now = ⊥
Tells account (TryLeaf label secret) reply now = ⊥
Tells account (ResetLeaf label secret) reply now = ⊥
Tells account (LookLeaf label) reply now = ⊥
