-- When a session ends, as the table gives it.
use Rattle.std.specs.Prelude.{ℕ, ◌+◌, Option, None, Some, option_map}
use Rattle.account_machine.specs.Effect.{extended_end, proved_end}
use Rattle.account_machine.specs.Outline.{Outline, session_at}
use Rattle.account_machine.specs.declared.request.Request.{Request}
use Rattle.account_machine.specs.declared.request.Request.TheVariants.{Create, StartSession, ExtendSession, EndSession, Authenticate, AddFactor, UpdateFactor, RemoveFactor, ResetPin, ListFactors, Mount, Unmount, PutFile, GetFile, ListFiles}
use Rattle.account_machine.specs.declared.request.Turn.{Turn}
use Rattle.account_machine.specs.declared.request.Turn.TheVariants.{Look, Act, Clear}

-- the end of the session that a request starts, moves on or proves at a moment
abbrev pub ends_asked : Outline → Request → ℕ → Option ℕ
ends_asked o (Create account) moment = None
ends_asked o (StartSession account intent) moment = Some (moment + 300)
ends_asked o (ExtendSession account token seconds) moment =
    option_map (extended_end seconds moment) (session_at o.sessions token)
ends_asked o (EndSession account token) moment = None
ends_asked o (Authenticate account token label secret) moment =
    option_map (proved_end moment) (session_at o.sessions token)
ends_asked o (AddFactor account token label kind secret schedule) moment = None
ends_asked o (UpdateFactor account token label secret) moment = None
ends_asked o (RemoveFactor account token label) moment = None
ends_asked o (ResetPin account token label) moment = None
ends_asked o (ListFactors account) moment = None
ends_asked o (Mount account token) moment = None
ends_asked o (Unmount account) moment = None
ends_asked o (PutFile account name bytes) moment = None
ends_asked o (GetFile account name) moment = None
ends_asked o (ListFiles account) moment = None

abbrev pub ends_of : Outline → Turn → ℕ → Option ℕ
ends_of o (Look label) moment = None
ends_of o (Act request) moment = ends_asked o request moment
ends_of o (Clear token) moment = None
