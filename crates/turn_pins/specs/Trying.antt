-- The try of a PIN, as a turn makes it.
use Rattle.std.specs.Prelude.{◌≡◌, ◌⊎◌, ℕ, ◌-◌, Option, None, Some, Result, Ok, Err, IfErr, IsErrOf, take, slice_get, option_map}
use Rattle.std.specs.FinMap.{get}
use Rattle.account_machine.specs.Effect.{proved_end}
use Rattle.account_machine.specs.declared.answer.Answer.{Answer}
use Rattle.account_machine.specs.declared.answer.Answer.TheVariants as answers
use Rattle.account_machine.specs.Sessions.{place_of}
use Rattle.account_machine.specs.declared.session.Token.{Token}
use Rattle.auth_session.specs.Table.{sessions_in, edit_at, proved_kept}
use Rattle.auth_session.specs.declared.table.Kept.{Kept}
use Rattle.factor_files.specs.declared.factor.FactorRecord.{FactorRecord}
use Rattle.scrypt_kdf.specs.Derive.{derive}
use Rattle.sealed_text.specs.OpeningSealed.{opened}
use Rattle.secret_stash.specs.Keys.{pin_wrap}
use Rattle.share_api.specs.Conditions.{IsTryFault, TellsLoss}
use Rattle.share_api.specs.Contents.{Bytes}
use Rattle.share_api.specs.Replies.{try_reply}
use Rattle.share_api.specs.Seen.{ShareSeen, Makes, step_of}
use Rattle.share_api.specs.declared.fault.ShareFault.{ShareFault}
use Rattle.share_api.specs.declared.fault.ShareFault.TheVariants as shares
use Rattle.share_api.specs.declared.leaf.LeafView.{LeafView}
use Rattle.share_api.specs.declared.leaf.TryAnswer.{TryAnswer}
use Rattle.share_api.specs.declared.leaf.TryAnswer.TheVariants.{Right, Wrong, Delayed, Locked}
use Rattle.share_api.specs.declared.step.Op.TheVariants.{TryLeaf}
use Rattle.stash_format.specs.Forms.{block_extra, main_of}
use Rattle.stash_format.specs.declared.contents.Contents.{Contents as Stash}
use Rattle.stored_home.specs.declared.fault.StoreFault.{StoreFault}
use Rattle.stored_home.specs.declared.fault.StoreFault.TheVariants as faults
use Rattle.stored_home.specs.declared.stored.Stored.{Stored}
use Rattle.user_state.specs.declared.state.Doubt.TheVariants.{Leaf}
use Rattle.user_state.specs.declared.state.UserState.{UserState}
use Rattle.turn_secrets.specs.Listing.{Looks}
use Rattle.turn_pins.specs.Looking.{TellsView, IsLookFault, IsRefusal}
use Rattle.turn_pins.specs.declared.trial.Trial.{Trial}

-- What the try of the label's PIN needs: what is derived of the secret with the record's salt and cost, the leaf's
-- label, and the PIN's block with what it is bound to.
pub record IsTrial (stored : Stored) (label secret : Bytes) (trial : Trial) : Type 0 where
  pub label_is : trial.label ≡ label
  pub leaf : (row : FactorRecord) → get stored.factors label ≡ Some row → row.leaf ≡ Some trial.tree
  pub key : (row : FactorRecord) → get stored.factors label ≡ Some row → trial.key ≡ derive secret row.salt row.cost
  pub block : (stash : Stash) → stored.stash ≡ Some stash → get stash.blocks label ≡ Some trial.block
  pub extra : (stash : Stash) → stored.stash ≡ Some stash
      → trial.extra ≡ block_extra stash.account label trial.block

-- a damaged record, or want of memory for its name. Nothing changes
abbrev pub IsDamagedBy : Bytes → UserState → UserState → Answer → Type 0
IsDamagedBy name before after answer =
    (after ≡ before) × ((answer ≡ answers.Damaged name) ⊎ (answer ≡ answers.NoMemory))

-- once the leaf took the secret, by the main key that the PIN's block opens to: the session there keeps it
abbrev pub RightEnds : Option Bytes → ℕ → UserState → UserState → Answer → Type 0
RightEnds (Some main) at before after answer =
    (ends : ℕ)
    × (option_map (λ (k : Kept). proved_end before.last k.session) (slice_get before.sessions.kept at) ≡ Some ends)
    × (answer ≡ answers.OkEnds ends)
    × (after ≡ record before {
      sessions = record before.sessions { kept = edit_at (proved_kept main before.last) at before.sessions.kept };
    })
RightEnds None at before after answer = (name : Bytes) × IsDamagedBy name before after answer

-- how the turn ends, by what the try of the leaf answered
abbrev pub TriedEnds : Result TryAnswer ShareFault → Trial → LeafView → ℕ → UserState → UserState → Answer → Type 0
TriedEnds (Ok (Right high)) trial view at before after answer =
    RightEnds (opened (pin_wrap high trial.key) trial.extra (main_of trial.block)) at before after answer
TriedEnds (Ok Wrong) trial view at before after answer = (after ≡ before) × (answer ≡ answers.Wrong)
TriedEnds (Ok (Delayed until)) trial view at before after answer =
    (after ≡ before) × (answer ≡ answers.Delayed (until - before.last))
TriedEnds (Ok Locked) trial view at before after answer = (after ≡ before) × (answer ≡ answers.Locked)
TriedEnds (Err shares.Failed) trial view at before after answer =
    (after ≡ record before { doubt = Some (Leaf trial.label trial.tree view) }) × (answer ≡ answers.StorageFault)
TriedEnds (Err (shares.Damaged name)) trial view at before after answer = IsDamagedBy name before after answer
TriedEnds (Err (shares.TreeLost host chip)) trial view at before after answer =
    (after ≡ before) × (answer ≡ answers.TreeLost host chip)
TriedEnds (Err shares.NoMemory) trial view at before after answer = (after ≡ before) × (answer ≡ answers.NoMemory)

-- The leaf was tried, once it had shown this.
pub record TryEnds (old new : ShareSeen) (trial : Trial) (view : LeafView) (at : ℕ) (before after : UserState)
    (answer : Answer) : Type 0 where
  pub tried : Result TryAnswer ShareFault
  pub made : Makes old new (step_of old before.last (TryLeaf trial.tree (take 32 trial.key)) (try_reply tried))
  pub only : IfErr tried (IsTryFault trial.tree)
  pub lost : TellsLoss old.lost tried
  pub ends : TriedEnds tried trial view at before after answer

-- by what the look at the leaf showed
abbrev pub SeenTried : ShareSeen → ShareSeen → Trial → Result LeafView StoreFault → ℕ → UserState → UserState → Answer
    → Type 0
SeenTried mid new trial (Ok view) at before after answer = TryEnds mid new trial view at before after answer
SeenTried mid new trial (Err fault) at before after answer =
    (new ≡ mid) × (after ≡ before) × IsRefusal fault answer

-- The leaf was looked at, and then it was tried where it could be seen.
pub record TryHeld (old new : ShareSeen) (trial : Trial) (at : ℕ) (before after : UserState) (answer : Answer)
    : Type 0 where
  pub mid : ShareSeen
  pub view : Result LeafView StoreFault
  pub looks : Looks old mid (IsErrOf view faults.Failed) 1 (TellsView before.account trial.tree view)
  pub only : IfErr view IsLookFault
  pub ends : SeenTried mid new trial view at before after answer

-- What a try does where the tree isn't lost: nothing for want of memory, or the leaf of the label's PIN was looked at and
-- tried with what is derived of the secret.
abbrev pub TriesLeaf : ShareSeen → ShareSeen → Token → Bytes → Bytes → UserState → UserState → Answer → Type 0
TriesLeaf old new token label secret before after answer =
    ((new ≡ old) × (after ≡ before) × (answer ≡ answers.NoMemory))
    ⊎ ((trial : Trial) × IsTrial before.stored label secret trial
    × TryHeld old new trial (place_of token (sessions_in before.sessions.kept)) before after answer)
