-- What a request asks of whom.
use Rattle.std.specs.Prelude.{ℕ, List}
use Rattle.account_machine.specs.declared.request.Request.{Request}
use Rattle.account_machine.specs.declared.request.Request.TheVariants.{Create, StartSession, ExtendSession, EndSession, Authenticate, AddFactor, UpdateFactor, RemoveFactor, ResetPin, ListFactors, Mount, Unmount, PutFile, GetFile, ListFiles}

-- the account that is asked
abbrev pub account_of : Request → List ℕ
account_of (Create account) = account
account_of (StartSession account intent) = account
account_of (ExtendSession account token seconds) = account
account_of (EndSession account token) = account
account_of (Authenticate account token label secret) = account
account_of (AddFactor account token label kind secret schedule) = account
account_of (UpdateFactor account token label secret) = account
account_of (RemoveFactor account token label) = account
account_of (ResetPin account token label) = account
account_of (ListFactors account) = account
account_of (Mount account token) = account
account_of (Unmount account) = account
account_of (PutFile account name bytes) = account
account_of (GetFile account name) = account
account_of (ListFiles account) = account
