-- What comes along with a turn that is asked.
use Rattle.std.specs.Prelude.{Option, None, Some, IfSome}
use Rattle.std.specs.Coded.{Unit-prop}
use Rattle.std.proofs.Props.{props}
use Rattle.account_machine.specs.declared.request.Request.{Request}
use Rattle.account_machine.specs.declared.request.Request.TheVariants.{Create, StartSession, ExtendSession, EndSession, Authenticate, AddFactor, UpdateFactor, RemoveFactor, ResetPin, ListFactors, Mount, Unmount, PutFile, GetFile, ListFiles}
use Rattle.account_machine.specs.declared.request.Turn.{Turn}
use Rattle.account_machine.specs.declared.request.Turn.TheVariants.{Look, Act, Clear}
use Rattle.request_forms.specs.Formed.{IsFormed, IsFormedRequest}
use Rattle.share_api.specs.Contents.{Bytes}
use Rattle.stored_home.specs.declared.derived.Derived.{Derived}
use Rattle.user_state.specs.Turns.{secret_of}
use Rattle.user_turn.specs.Acts.{IsDerivedOf}

-- what was derived before was derived of the turn's own secret
abbrev pub IsOwnKey : Turn → Option Derived → Type 0
IsOwnKey turn derived = IfSome derived (IsDerivedOf (secret_of turn))

-- ---- each of these facts has one proof at most, as a field that keeps it needs

IsFormedRequest-prop : (request : Request) → IsProp (IsFormedRequest request)
IsFormedRequest-prop (Create account) = Unit-prop
IsFormedRequest-prop (StartSession account intent) = Unit-prop
IsFormedRequest-prop (ExtendSession account token seconds) = Unit-prop
IsFormedRequest-prop (EndSession account token) = Unit-prop
IsFormedRequest-prop (Authenticate account token label secret) = Prim.hlevel props
IsFormedRequest-prop (AddFactor account token label kind secret schedule) = Prim.hlevel props
IsFormedRequest-prop (UpdateFactor account token label secret) = Prim.hlevel props
IsFormedRequest-prop (RemoveFactor account token label) = Prim.hlevel props
IsFormedRequest-prop (ResetPin account token label) = Prim.hlevel props
IsFormedRequest-prop (ListFactors account) = Unit-prop
IsFormedRequest-prop (Mount account token) = Unit-prop
IsFormedRequest-prop (Unmount account) = Unit-prop
IsFormedRequest-prop (PutFile account name bytes) = Prim.hlevel props
IsFormedRequest-prop (GetFile account name) = Prim.hlevel props
IsFormedRequest-prop (ListFiles account) = Unit-prop

pub IsFormed-prop : (turn : Turn) → IsProp (IsFormed turn)
IsFormed-prop (Look label) = Unit-prop
IsFormed-prop (Act request) = IsFormedRequest-prop request
IsFormed-prop (Clear token) = Unit-prop

IsDerivedOf-prop : (secret : Option Bytes) (derived : Derived) → IsProp (IsDerivedOf secret derived)
IsDerivedOf-prop None derived = Unit-prop
IsDerivedOf-prop (Some secret) derived = Prim.hlevel props

pub IsOwnKey-prop : (turn : Turn) (derived : Option Derived) → IsProp (IsOwnKey turn derived)
IsOwnKey-prop turn None = Unit-prop
IsOwnKey-prop turn (Some derived) = IsDerivedOf-prop (secret_of turn) derived
