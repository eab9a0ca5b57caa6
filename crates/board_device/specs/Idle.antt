-- Steps on leaves of a platform that has none.
use Rattle.std.specs.Prelude.{◌≡◌, ◌≢◌, ◌⊎◌, ℕ, Bool, true, false, None, Result, Err}
use Rattle.share_api.specs.Contents.{Bytes}
use Rattle.share_api.specs.declared.step.Write.TheVariants.{Put, Remove, RemoveLeaf}
use Rattle.share_api.specs.declared.step.Op.{Op}
use Rattle.share_api.specs.declared.step.Op.TheVariants.{Names, Get, Do, InsertLeaf, TryLeaf, ResetLeaf, LookLeaf}
use Rattle.share_api.specs.declared.step.Reply.{Reply}
use Rattle.share_api.specs.declared.step.Reply.TheVariants.{Done, Viewed, Damaged, Failed, NoMemory}
use Rattle.share_api.specs.declared.step.Step.{Step}
use Rattle.share_api.specs.declared.fault.ShareFault.{ShareFault}
use Rattle.share_api.specs.declared.fault.ShareFault.TheVariants as faults
use Rattle.record_names.specs.Names.{IsRecordName, leaf_name}
use Rattle.platform_lock.specs.declared.answer.Answer.{Answer}

abbrev pub is_on_leaf : Op → Bool
is_on_leaf Names = false
is_on_leaf (Get name) = false
is_on_leaf (Do (Put name bytes)) = false
is_on_leaf (Do (Remove name)) = false
is_on_leaf (Do (RemoveLeaf label)) = true
is_on_leaf (InsertLeaf leaf) = true
is_on_leaf (TryLeaf label secret) = true
is_on_leaf (ResetLeaf label secret) = true
is_on_leaf (LookLeaf label) = true

-- What a step replies that needs no work: a leaf that is removed or looked at isn't there, one that is tried or reset
-- has no record, and all else is refused.
abbrev pub idle_reply : Op → Reply
idle_reply Names = Failed
idle_reply (Get name) = Failed
idle_reply (Do (Put name bytes)) = Failed
idle_reply (Do (Remove name)) = Failed
idle_reply (Do (RemoveLeaf label)) = Done
idle_reply (InsertLeaf leaf) = Failed
idle_reply (TryLeaf label secret) = Damaged
idle_reply (ResetLeaf label secret) = Damaged
idle_reply (LookLeaf label) = Viewed None

-- the record of a leaf that isn't there is refused
abbrev pub no_record : Bytes → ℕ → Result Answer ShareFault × Reply
no_record account label = (Err (faults.Damaged (leaf_name account label)), Damaged)

-- a step that only reads
abbrev pub IsRead : Op → Type 0
IsRead Names = Unit {0}
IsRead (Get name) = Unit {0}
IsRead (Do write) = ⊥
IsRead (InsertLeaf leaf) = ⊥
IsRead (TryLeaf label secret) = ⊥
IsRead (ResetLeaf label secret) = ⊥
IsRead (LookLeaf label) = ⊥

-- It is the same step, or one that read, and for whose answer there was no memory.
abbrev pub IsOrForgets : Step → Step → Type 0
IsOrForgets made step =
    (step ≡ made)
    ⊎ (IsRead made.op × (made.reply ≢ Failed) × (step ≡ record made { reply = NoMemory }))

-- the names that the step has are those of records
abbrev pub HasRecordNames : Op → Type 0
HasRecordNames Names = Unit {0}
HasRecordNames (Get name) = IsRecordName name
HasRecordNames (Do (Put name bytes)) = IsRecordName name
HasRecordNames (Do (Remove name)) = IsRecordName name
HasRecordNames (Do (RemoveLeaf label)) = Unit {0}
HasRecordNames (InsertLeaf leaf) = Unit {0}
HasRecordNames (TryLeaf label secret) = Unit {0}
HasRecordNames (ResetLeaf label secret) = Unit {0}
HasRecordNames (LookLeaf label) = Unit {0}
