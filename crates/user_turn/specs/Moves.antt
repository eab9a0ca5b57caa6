-- What one turn of an account did by its own device steps, whatever the account's contents are.
use Rattle.std.specs.Prelude.{◌≡◌, ◌⊎◌, ℕ, List, [], Option, None, Some, IfSome, IsSome, IsSomeAnd}
use Rattle.std.specs.FinMap.{entries}
use Rattle.std.specs.List.{AllByRecursion}
use Rattle.pw_types.specs.declared.era.Era.{Era}
use Rattle.account_machine.specs.Answers.{refused_in}
use Rattle.account_machine.specs.Row.{first_refusal, turn_refusals}
use Rattle.account_machine.specs.declared.answer.Answer.{Answer}
use Rattle.account_machine.specs.declared.answer.Answer.TheVariants as answers
use Rattle.account_machine.specs.declared.entry.Entry.{Entry}
use Rattle.account_machine.specs.declared.entry.Told.TheVariants.{Settled, Failed}
use Rattle.account_machine.specs.declared.request.Request.{Request}
use Rattle.account_machine.specs.declared.request.Request.TheVariants.{Create, StartSession, ExtendSession, EndSession, Authenticate, AddFactor, UpdateFactor, RemoveFactor, ResetPin, ListFactors, Mount, Unmount, PutFile, GetFile, ListFiles}
use Rattle.account_machine.specs.declared.request.Turn.{Turn}
use Rattle.account_machine.specs.declared.request.Turn.TheVariants.{Look, Act, Clear}
use Rattle.account_machine.specs.declared.session.Token.{Token}
use Rattle.home_edits.specs.Costs.{HasCost}
use Rattle.home_edits.specs.Files.{file_of}
use Rattle.home_recovery.specs.Damage.{IsDamaged}
use Rattle.random_values.specs.Stretches.{moved, stretch}
use Rattle.record_names.specs.Names.{stash_name, file_name}
use Rattle.share_api.specs.Contents.{Bytes, Contents}
use Rattle.share_api.specs.Folds.{Fold}
use Rattle.share_api.specs.Seen.{HasFailed}
use Rattle.share_api.specs.Steps.{Does}
use Rattle.share_api.specs.declared.step.Step.{Step}
use Rattle.stash_format.specs.declared.contents.Contents.{Contents as Stash}
use Rattle.stored_home.specs.declared.stored.Stored.{Stored}
use Rattle.turn_edits.specs.Endings.{Draws}
use Rattle.turn_edits.specs.Sessions.{ShowsHome}
use Rattle.turn_edits.specs.Stashes.{LacksPayload}
use Rattle.turn_rows.specs.Ends.{ends_of}
use Rattle.turn_secrets.specs.Listing.{LacksOne}
use Rattle.turn_secrets.specs.Mounts.{HasMain, OpensToNone}
use Rattle.user_state.specs.Fits.{is_lost}
use Rattle.user_state.specs.Outlines.{outline_in}
use Rattle.user_state.specs.declared.state.UserState.{UserState}

-- ---- why a record is told damaged

-- The payload of the loaded stash isn't there, or opens to nothing under the main key of the token's session.
pub record ShutsVault (found : UserState) (token : Token) : Type 0 where
  pub main : Bytes
  pub stash : Stash
  pub has : HasMain found token main stash
  pub none : OpensToNone stash main

-- the loaded stash lacks what the request needs
abbrev pub IsBroken : UserState → Request → Type 0
IsBroken found (Create account) = ⊥
IsBroken found (StartSession account intent) = ⊥
IsBroken found (ExtendSession account token seconds) = ⊥
IsBroken found (EndSession account token) = ⊥
IsBroken found (Authenticate account token label secret) = ⊥
IsBroken found (AddFactor account token label kind secret schedule) = ShowsHome found
IsBroken found (UpdateFactor account token label secret) = ⊥
IsBroken found (RemoveFactor account token label) = ⊥
IsBroken found (ResetPin account token label) = ⊥
IsBroken found (ListFactors account) = ⊥
IsBroken found (Mount account token) = ShutsVault found token
IsBroken found (Unmount account) = ⊥
IsBroken found (PutFile account name bytes) = LacksPayload found
IsBroken found (GetFile account name) = LacksPayload found
IsBroken found (ListFiles account) = ⊥

-- what the request reads of these contents isn't there or doesn't open: a leaf that a factor names, or the file
abbrev pub IsLacking : UserState → Request → Bytes → Contents → Type 0
IsLacking found (Create account) name contents = ⊥
IsLacking found (StartSession account intent) name contents = ⊥
IsLacking found (ExtendSession account token seconds) name contents = ⊥
IsLacking found (EndSession account token) name contents = ⊥
IsLacking found (Authenticate account token label secret) name contents = ⊥
IsLacking found (AddFactor account token label kind secret schedule) name contents = ⊥
IsLacking found (UpdateFactor account token label secret) name contents = ⊥
IsLacking found (RemoveFactor account token label) name contents = ⊥
IsLacking found (ResetPin account token label) name contents = ⊥
IsLacking found (ListFactors account) name contents =
    LacksOne found.account (entries found.stored.factors) name contents
IsLacking found (Mount account token) name contents = ⊥
IsLacking found (Unmount account) name contents = ⊥
IsLacking found (PutFile account file bytes) name contents = ⊥
IsLacking found (GetFile account file) name contents = (name ≡ file_name found.account file)
    × IsSomeAnd found.vault (λ key. file_of key found.account file contents ≡ None)
IsLacking found (ListFiles account) name contents = ⊥

-- whatever contents the steps lead to, in which no leaf is in doubt, P is so of these
abbrev pub Shows : Era → List Step → (Contents → Type 0) → Type 0
Shows era steps P = (start end : Contents) → Fold (Does era) start steps end → end.doubt ≡ None → P end

-- the record of this name is damaged: the stash that is loaded, or what the steps read
abbrev pub IsDamage : Era → UserState → Turn → List Step → Bytes → Type 0
IsDamage era found (Look label) steps name = ⊥
IsDamage era found (Act request) steps name =
    ((name ≡ stash_name found.account) × IsBroken found request) ⊎ Shows era steps (IsLacking found request name)
IsDamage era found (Clear token) steps name = ⊥

-- ---- what is told of sessions

-- the end of a session that an answer tells
abbrev pub end_in : Answer → Option ℕ
end_in (answers.OkEnds ends) = Some ends
end_in (answers.OkPassword ends) = Some ends
end_in (answers.OkSession ends token) = Some ends
end_in _ = None

-- The token of a new session has the next number, and its tail is the next stretch of the account's generator.
pub record IsNewToken (before : UserState) (token : Token) (after : UserState) : Type 0 where
  pub number : token.number ≡ before.sessions.next
  pub tail : token.tail ≡ stretch before.generator.key before.generator.position 4
  pub drawn : after.generator ≡ moved before.generator 4

-- ---- turns without device steps

abbrev pub AsksNone : Turn → Type 0
AsksNone (Look label) = Unit {0}
AsksNone (Act (Create account)) = ⊥
AsksNone (Act (StartSession account intent)) = Unit {0}
AsksNone (Act (ExtendSession account token seconds)) = Unit {0}
AsksNone (Act (EndSession account token)) = Unit {0}
AsksNone (Act (Authenticate account token label secret)) = ⊥
AsksNone (Act (AddFactor account token label kind secret schedule)) = ⊥
AsksNone (Act (UpdateFactor account token label secret)) = ⊥
AsksNone (Act (RemoveFactor account token label)) = ⊥
AsksNone (Act (ResetPin account token label)) = ⊥
AsksNone (Act (ListFactors account)) = ⊥
AsksNone (Act (Mount account token)) = Unit {0}
AsksNone (Act (Unmount account)) = Unit {0}
AsksNone (Act (PutFile account name bytes)) = ⊥
AsksNone (Act (GetFile account name)) = ⊥
AsksNone (Act (ListFiles account)) = Unit {0}
AsksNone (Clear token) = ⊥

-- ---- a turn

-- What a settled account's turn did by these steps, from the state that was found: each factor's record that it put has
-- the cost of new factors, and the words that it drew follow the generator's position; its answer is the first of the
-- table's refusals that applies, and then nothing is done, or else none is; sessions end as the table has it, and damage
-- has a cause.
pub record RowMoves (era : Era) (found after : UserState) (turn : Turn) (answer : Answer) (steps : List Step) : Type 0
  where
    pub costs : AllByRecursion (HasCost found.account found.cost) steps
    pub draws : Draws 0 26 found.generator after.generator
    pub token : (ends : ℕ) (token : Token) → answer ≡ answers.OkSession ends token → IsNewToken found token after
    pub ends : IfSome (end_in answer) (λ ends. ends_of (outline_in found) turn found.last ≡ Some ends)
    pub damaged : (name : Bytes) → answer ≡ answers.Damaged name → IsDamage era found turn steps name
    pub refusal : refused_in answer ≡ first_refusal (turn_refusals (outline_in found) turn found.last)
    pub refused : IsSome (refused_in answer) → (after ≡ found) × (steps ≡ [])
    pub quiet : AsksNone turn → steps ≡ []

-- the state with which a turn's row begins, at the turn's moment, with what is loaded
abbrev pub found_with : UserState → ℕ → Stored → UserState
found_with before moment stored = record before { stored = stored; doubt = None; last = moment }

-- The turn's row was taken, after a reload where that was due. Without one nothing else was loaded, and all steps are the
-- row's.
pub record TakesRow (era : Era) (before : UserState) (entry : Entry) (steps : List Step) (after : UserState) : Type 0
  where
    pub stored : Stored
    pub same : entry.told ≡ Settled → stored ≡ before.stored
    pub ends : IfSome (end_in entry.answer) (λ ends.
        ends_of (outline_in (found_with before entry.moment stored)) entry.turn entry.moment ≡ Some ends)
    pub damaged : (name : Bytes) → entry.answer ≡ answers.Damaged name
        → IsDamage era (found_with before entry.moment stored) entry.turn steps name
    pub refusal : refused_in entry.answer
        ≡ first_refusal (turn_refusals (outline_in (found_with before entry.moment stored)) entry.turn entry.moment)
    pub refused : IsSome (refused_in entry.answer) → after ≡ found_with before entry.moment stored
    pub quiet : entry.told ≡ Settled → AsksNone entry.turn → steps ≡ []
    pub unmoved : entry.told ≡ Settled → IsSome (refused_in entry.answer) → steps ≡ []

-- The reload that was due failed: no refusal is answered, the state stays, and damage is that of a home that is loaded.
pub record FailsRow (era : Era) (before : UserState) (entry : Entry) (steps : List Step) (after : UserState) : Type 0
  where
    pub refused : refused_in entry.answer ≡ None
    pub ends : end_in entry.answer ≡ None
    pub same : after ≡ record before { last = entry.moment }
    pub damaged : (name : Bytes) → entry.answer ≡ answers.Damaged name
        → Shows era steps (λ contents. IsDamaged (is_lost before) contents before.account name)

-- What the turn of an entry did by these steps, from the state before it.
pub record Moves (era : Era) (before : UserState) (entry : Entry) (steps : List Step) (after : UserState) : Type 0 where
  -- the account stays, and so does the cost that new factors have
  pub account : after.account ≡ before.account
  pub cost : after.cost ≡ before.cost
  -- each factor's record that is put has that cost
  pub costs : AllByRecursion (HasCost before.account before.cost) steps
  -- the generator's key stays, and at most 26 words are drawn from its position on
  pub draws : Draws 0 26 before.generator after.generator
  pub token : (ends : ℕ) (token : Token) → entry.answer ≡ answers.OkSession ends token
      → IsNewToken before token after
  -- a storage fault only where one of the steps failed
  pub fault : entry.answer ≡ answers.StorageFault → HasFailed steps
  -- the row of the table
  pub row : (entry.told ≡ Failed → ⊥) → TakesRow era before entry steps after
  pub failed : entry.told ≡ Failed → FailsRow era before entry steps after
