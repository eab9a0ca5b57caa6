-- The reset of a PIN, as a turn makes it.
use Rattle.std.specs.Prelude.{◌≡◌, ◌⊎◌, Bool, Some, Result, Ok, Err, IfErr, IsErrOf}
use Rattle.std.specs.FinMap.{get}
use Rattle.account_machine.specs.declared.answer.Answer.{Answer}
use Rattle.account_machine.specs.declared.answer.Answer.TheVariants as answers
use Rattle.account_machine.specs.declared.session.Token.{Token}
use Rattle.factor_files.specs.declared.factor.FactorRecord.{FactorRecord}
use Rattle.pin_edits.specs.Resets.{IsResetOf, told_reset}
use Rattle.record_names.specs.Names.{stash_name, factor_name}
use Rattle.share_api.specs.Conditions.{IsTryFault, TellsLoss}
use Rattle.share_api.specs.Contents.{Bytes}
use Rattle.share_api.specs.Replies.{fits_reply}
use Rattle.share_api.specs.Seen.{ShareSeen, Makes, step_of}
use Rattle.share_api.specs.declared.fault.ShareFault.{ShareFault}
use Rattle.share_api.specs.declared.leaf.LeafView.{LeafView}
use Rattle.share_api.specs.declared.step.Op.TheVariants.{ResetLeaf}
use Rattle.stash_format.specs.declared.contents.Contents.{Contents as Stash}
use Rattle.stored_home.specs.declared.fault.StoreFault.{StoreFault}
use Rattle.stored_home.specs.declared.fault.StoreFault.TheVariants as faults
use Rattle.stored_home.specs.declared.stored.Stored.{Stored}
use Rattle.user_state.specs.declared.state.Doubt.TheVariants.{Leaf}
use Rattle.user_state.specs.declared.state.UserState.{UserState}
use Rattle.turn_edits.specs.Endings.{doubt_of}
use Rattle.turn_edits.specs.Sessions.{main_in}
use Rattle.turn_secrets.specs.Listing.{Looks}
use Rattle.turn_pins.specs.Looking.{TellsView, IsLookFault, IsRefusal}
use Rattle.turn_pins.specs.declared.reset.Reset.{Reset}

-- the answer to an edit that may find a record damaged, whose name takes memory
abbrev pub IsToldAnswer : Result (Unit {0}) StoreFault → Answer → Type 0
IsToldAnswer (Ok done) answer = answer ≡ answers.Ok
IsToldAnswer (Err faults.Failed) answer = answer ≡ answers.StorageFault
IsToldAnswer (Err (faults.Damaged name)) answer = (answer ≡ answers.Damaged name) ⊎ (answer ≡ answers.NoMemory)
IsToldAnswer (Err faults.NoMemory) answer = answer ≡ answers.NoMemory
IsToldAnswer (Err (faults.TreeLost host chip)) answer = answer ≡ answers.TreeLost host chip

-- what was made for the reset of the label's PIN: its leaf's label and reset secret, by its record and the stash
abbrev pub IsResetMade : Stored → Bytes → Bytes → Reset → Type 0
IsResetMade stored label main reset = (row : FactorRecord) (stash : Stash)
    → get stored.factors label ≡ Some row → stored.stash ≡ Some stash
    → IsResetOf stash main label row reset.tree reset.secret

-- the name that was made is that of the PIN's record
abbrev pub IsResetNamed : Stored → Bytes → Bytes → Reset → Type 0
IsResetNamed stored account label reset = (row : FactorRecord) → get stored.factors label ≡ Some row
    → reset.name ≡ factor_name account label row.edition

-- The leaf was reset, once it had shown this.
pub record ResetEnds (old new : ShareSeen) (reset : Reset) (view : LeafView) (before after : UserState)
    (answer : Answer) : Type 0 where
  pub tried : Result Bool ShareFault
  pub made : Makes old new (step_of old before.last (ResetLeaf reset.tree reset.secret) (fits_reply tried))
  pub only : IfErr tried (IsTryFault reset.tree)
  pub lost : TellsLoss old.lost tried
  pub answered : IsToldAnswer (told_reset reset.name tried) answer
  pub after_is : after ≡ record before {
    doubt = doubt_of (Leaf reset.label reset.tree view) before.doubt (told_reset reset.name tried);
  }

-- by what the look at the leaf showed
abbrev pub SeenEnds : ShareSeen → ShareSeen → Reset → Result LeafView StoreFault → UserState → UserState → Answer
    → Type 0
SeenEnds mid new reset (Ok view) before after answer = ResetEnds mid new reset view before after answer
SeenEnds mid new reset (Err fault) before after answer =
    (new ≡ mid) × (after ≡ before) × IsRefusal fault answer

-- The leaf was looked at, and then it was reset where it could be seen.
pub record ResetHeld (old new : ShareSeen) (reset : Reset) (before after : UserState) (answer : Answer) : Type 0 where
  pub mid : ShareSeen
  pub view : Result LeafView StoreFault
  pub looks : Looks old mid (IsErrOf view faults.Failed) 1 (TellsView before.account reset.tree view)
  pub only : IfErr view IsLookFault
  pub ends : SeenEnds mid new reset view before after answer

-- What a reset of the label's PIN made under the session's main key.
pub record IsResetUnder (token : Token) (label : Bytes) (state : UserState) (reset : Reset) : Type 0 where
  pub main : Bytes
  pub main_is : main_in state.sessions.kept token ≡ Some main
  pub label_is : reset.label ≡ label
  pub made : IsResetMade state.stored label main reset
  pub named : IsResetNamed state.stored state.account label reset

-- What a reset does where the tree isn't lost: nothing, for want of memory or of the PIN's reset secret, or the leaf of
-- the label's PIN was looked at and reset.
abbrev pub ResetsLeaf : ShareSeen → ShareSeen → Token → Bytes → UserState → UserState → Answer → Type 0
ResetsLeaf old new token label before after answer =
    ((new ≡ old) × (after ≡ before)
    × ((answer ≡ answers.NoMemory) ⊎ (answer ≡ answers.Damaged (stash_name before.account))))
    ⊎ ((reset : Reset) × IsResetUnder token label before reset × ResetHeld old new reset before after answer)
