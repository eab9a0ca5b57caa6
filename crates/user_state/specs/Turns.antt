-- What one turn does over any share, of whatever contents its device steps fit.
use Rattle.std.specs.Prelude.{◌≡◌, ◌⊎◌, Bool, List, [], Option, None, Some, Contains}
use Rattle.pw_types.specs.declared.era.Era.{Era}
use Rattle.account_machine.specs.declared.user.Durable.{Durable}
use Rattle.account_machine.specs.declared.user.User.{User}
use Rattle.account_machine.specs.declared.request.Request.{Request}
use Rattle.account_machine.specs.declared.request.Request.TheVariants.{Create, StartSession, ExtendSession, EndSession, Authenticate, AddFactor, UpdateFactor, RemoveFactor, ResetPin, ListFactors, Mount, Unmount, PutFile, GetFile, ListFiles}
use Rattle.account_machine.specs.declared.request.Turn.{Turn}
use Rattle.account_machine.specs.declared.request.Turn.TheVariants.{Look, Act, Clear}
use Rattle.account_machine.specs.declared.answer.Answer.{Answer}
use Rattle.account_machine.specs.declared.answer.Answer.TheVariants as answers
use Rattle.account_machine.specs.Step.{Given}
use Rattle.share_api.specs.Contents.{Bytes, Contents}
use Rattle.share_api.specs.Folds.{Fold, Throughout}
use Rattle.share_api.specs.Seen.{ShareSeen, Runs, HasFailed}
use Rattle.share_api.specs.Steps.{DoesAmong}
use Rattle.share_api.specs.declared.step.Step.{Step}
use Rattle.stored_home.specs.Clean.{IsClean, IsTurnSecret}
use Rattle.stored_home.specs.Holds.{Keys, Holds, HoldsUnder}
use Rattle.user_state.specs.Fits.{Fits, HoldsOne, HoldsOneUnder, is_lost}
use Rattle.user_state.specs.declared.state.UserState.{UserState}

-- the secret that a request brings
abbrev pub asked_secret : Request → Option Bytes
asked_secret (Create account) = None
asked_secret (StartSession account intent) = None
asked_secret (ExtendSession account token seconds) = None
asked_secret (EndSession account token) = None
asked_secret (Authenticate account token label secret) = Some secret
asked_secret (AddFactor account token label kind secret schedule) = Some secret
asked_secret (UpdateFactor account token label secret) = Some secret
asked_secret (RemoveFactor account token label) = None
asked_secret (ResetPin account token label) = None
asked_secret (ListFactors account) = None
asked_secret (Mount account token) = None
asked_secret (Unmount account) = None
asked_secret (PutFile account name bytes) = None
asked_secret (GetFile account name) = None
asked_secret (ListFiles account) = None

abbrev pub secret_of : Turn → Option Bytes
secret_of (Look label) = None
secret_of (Act request) = asked_secret request
secret_of (Clear token) = None

-- the two users have the same durable parts
pub record SameDurable (before after : User) : Type 0 where
  pub durable : after.durable ≡ before.durable
  pub other : after.other ≡ before.other

-- the contents hold the durable part that was held before the turn, or one of a user that may come after it
abbrev pub HoldsAround : Bool → Bytes → Durable → (User → Type 0) → Contents → Type 0
HoldsAround lost account held Allowed contents =
    Holds lost contents account held ⊎ ((next : User) × Allowed next × HoldsOne lost contents account next)

-- A turn led to a user that may come after it, of whom these contents hold a durable part. Without a device
-- step the durable parts stay.
pub record Leads (account : Bytes) (Allowed : User → Type 0) (after : UserState) (steps : List Step) (user : User)
    (contents : Contents) : Type 0 where
  pub next : User
  pub keys : Keys
  pub allowed : Allowed next
  pub fits : Fits after contents next keys
  pub holds : HoldsOneUnder (is_lost after) contents account next keys
  pub idle : steps ≡ [] → SameDurable user next

-- what a turn with these steps says of the contents before it, where the contents after its steps are among
-- those seen
pub record Turns (era : Era) (seen : List Contents) (lost : Bool) (account : Bytes) (held : Durable)
    (Allowed : User → Type 0) (after : UserState) (steps : List Step) (user : User) (contents : Contents) : Type 0 where
  pub throughout : Throughout (DoesAmong era seen) (HoldsAround lost account held Allowed) contents steps
  pub leads : (new : Contents) → Fold (DoesAmong era seen) contents steps new
      → Leads account Allowed after steps user new

-- The state is a settled user's over these contents, and no two inputs coincide that are recorded of those seen.
pub record Premises (seen : List Contents) (contents : Contents) (before : UserState) (secret : Option Bytes)
    (user : User) (keys : Keys) : Type 0 where
  pub among : Contains seen contents
  pub clean : IsClean (IsTurnSecret user.durable user.other secret) (Contains seen) before.account
  pub fits : Fits before contents user keys
  pub holds : HoldsUnder (is_lost before) contents before.account user.durable keys

-- What a turn keeps of the state: the account, the cost of new factors, and whether the tree is lost.
pub record KeepsAccount (before after : UserState) : Type 0 where
  pub account : after.account ≡ before.account
  pub cost : after.cost ≡ before.cost
  pub lost : after.stored.lost ≡ before.stored.lost

-- A turn of a settled account, of whatever contents its steps fit.
pub record IsGiven (old new : ShareSeen) (before after : UserState) (turn : Turn) (answer : Answer) : Type 0 where
  pub steps : List Step
  pub runs : Runs old new steps
  pub fault : answer ≡ answers.StorageFault → HasFailed steps
  pub keeps : KeepsAccount before after
  pub right : (seen : List Contents) (contents : Contents) (user : User) (keys : Keys)
      → Premises seen contents before (secret_of turn) user keys
      → Turns old.era seen (is_lost before) before.account user.durable
      (Given old.era user turn answer) after steps user contents
