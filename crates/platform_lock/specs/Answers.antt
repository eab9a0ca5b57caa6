-- What a device step may be asked, and what its answer and its reply are to one another.
use Rattle.std.specs.Prelude.{◌≡◌, ◌≤◌, ℕ, length, Option, Bool, Result, Ok, Err, IfOk, IfErr}
use Rattle.share_api.specs.Contents.{Bytes}
use Rattle.share_api.specs.Conditions.{IsOwnName, IsReadFault, IsLeafFault, IsTryFault, TellsLoss}
use Rattle.share_api.specs.Replies.{fault_reply, IsNamesReply}
use Rattle.share_api.specs.declared.fault.ShareFault.{ShareFault}
use Rattle.share_api.specs.declared.fault.ShareFault.TheVariants as faults
use Rattle.share_api.specs.declared.leaf.LeafView.{LeafView}
use Rattle.share_api.specs.declared.leaf.TryAnswer.{TryAnswer}
use Rattle.share_api.specs.declared.step.Op.{Op}
use Rattle.share_api.specs.declared.step.Op.TheVariants.{Names, Get, Do, InsertLeaf, TryLeaf, ResetLeaf, LookLeaf}
use Rattle.share_api.specs.declared.step.Write.TheVariants.{Put, Remove, RemoveLeaf}
use Rattle.share_api.specs.declared.step.Reply.{Reply}
use Rattle.share_api.specs.declared.step.Reply.TheVariants as replies
use Rattle.platform_lock.specs.declared.answer.Answer.{Answer}
use Rattle.platform_lock.specs.declared.answer.Answer.TheVariants as answers

-- what a step of an account with this name, where it is known, may ask
abbrev pub IsAsked : Option Bytes → Op → Type 0
IsAsked owner Names = Unit {0}
IsAsked owner (Get name) = IsOwnName owner name
IsAsked owner (Do (Put name bytes)) = IsOwnName owner name × (length bytes ≤ 49181)
IsAsked owner (Do (Remove name)) = IsOwnName owner name
IsAsked owner (Do (RemoveLeaf label)) = Unit {0}
IsAsked owner (InsertLeaf leaf) = Unit {0}
IsAsked owner (TryLeaf label les) = Unit {0}
IsAsked owner (ResetLeaf label reset) = Unit {0}
IsAsked owner (LookLeaf label) = Unit {0}

-- the reply that an answer stands for
abbrev pub IsReplyTo : Result Answer ShareFault → Reply → Type 0
IsReplyTo (Err fault) reply = reply ≡ fault_reply fault
IsReplyTo (Ok answers.Done) reply = reply ≡ replies.Done
IsReplyTo (Ok (answers.Found found)) reply = reply ≡ replies.Found found
IsReplyTo (Ok (answers.Names names)) reply = IsNamesReply (Ok names) reply
IsReplyTo (Ok (answers.Labelled label)) reply = reply ≡ replies.Labelled label
IsReplyTo (Ok (answers.Tried answer)) reply = reply ≡ replies.Tried answer
IsReplyTo (Ok (answers.Fits fits)) reply = reply ≡ replies.Fits fits
IsReplyTo (Ok (answers.Viewed view)) reply = reply ≡ replies.Viewed view

-- the answer is of the kind that was asked for
abbrev pub IsKindOf : Op → Answer → Type 0
IsKindOf Names answer = (names : _) × (answer ≡ answers.Names names)
IsKindOf (Get name) answer = (found : Option Bytes) × (answer ≡ answers.Found found)
IsKindOf (Do write) answer = answer ≡ answers.Done
IsKindOf (InsertLeaf leaf) answer = (label : ℕ) × (answer ≡ answers.Labelled label)
IsKindOf (TryLeaf label les) answer = (tried : TryAnswer) × (answer ≡ answers.Tried tried)
IsKindOf (ResetLeaf label reset) answer = (fits : Bool) × (answer ≡ answers.Fits fits)
IsKindOf (LookLeaf label) answer = (view : Option LeafView) × (answer ≡ answers.Viewed view)

-- the faults that a step may answer
abbrev pub IsFaultOf : Op → ShareFault → Type 0
IsFaultOf Names fault = IsReadFault fault
IsFaultOf (Get name) fault = IsReadFault fault
IsFaultOf (Do (Put name bytes)) fault = fault ≡ faults.Failed
IsFaultOf (Do (Remove name)) fault = fault ≡ faults.Failed
IsFaultOf (Do (RemoveLeaf label)) fault = IsLeafFault fault
IsFaultOf (InsertLeaf leaf) fault = IsLeafFault fault
IsFaultOf (TryLeaf label les) fault = IsTryFault label fault
IsFaultOf (ResetLeaf label reset) fault = IsTryFault label fault
IsFaultOf (LookLeaf label) fault = IsLeafFault fault

-- a step on a leaf tells a lost tree, unless it fails, and none tells one that isn't lost
abbrev pub IsLossTold : Option (Bytes × Bytes) → Op → Result Answer ShareFault → Type 0
IsLossTold lost Names answer = Unit {0}
IsLossTold lost (Get name) answer = Unit {0}
IsLossTold lost (Do (Put name bytes)) answer = Unit {0}
IsLossTold lost (Do (Remove name)) answer = Unit {0}
IsLossTold lost (Do (RemoveLeaf label)) answer = TellsLoss lost answer
IsLossTold lost (InsertLeaf leaf) answer = TellsLoss lost answer
IsLossTold lost (TryLeaf label les) answer = TellsLoss lost answer
IsLossTold lost (ResetLeaf label reset) answer = TellsLoss lost answer
IsLossTold lost (LookLeaf label) answer = TellsLoss lost answer

-- what a step answers where it was asked this, and the reply that stands in the chain
pub record IsAnswerTo (lost : Option (Bytes × Bytes)) (op : Op) (answer : Result Answer ShareFault) (reply : Reply)
    : Type 0 where
  pub told : IsReplyTo answer reply
  pub kind : IfOk answer (IsKindOf op)
  pub fault : IfErr answer (IsFaultOf op)
  pub loss : IsLossTold lost op answer
