-- Requests whose labels and file names are in their grammars.
use Rattle.std.specs.Prelude.{IsTrue}
use Rattle.home_names.specs.Names.{is_factor_label}
use Rattle.account_machine.specs.declared.request.Request.{Request}
use Rattle.account_machine.specs.declared.request.Request.TheVariants.{Create, StartSession, ExtendSession, EndSession, Authenticate, AddFactor, UpdateFactor, RemoveFactor, ResetPin, ListFactors, Mount, Unmount, PutFile, GetFile, ListFiles}
use Rattle.account_machine.specs.declared.request.Turn.{Turn}
use Rattle.account_machine.specs.declared.request.Turn.TheVariants.{Look, Act, Clear}
use Rattle.vault_crypt.specs.VaultFile.{IsFileName}

-- labels and file names are in their grammars, as those of each line that is read
abbrev pub IsFormedRequest : Request → Type 0
IsFormedRequest (Create account) = Unit {0}
IsFormedRequest (StartSession account intent) = Unit {0}
IsFormedRequest (ExtendSession account token seconds) = Unit {0}
IsFormedRequest (EndSession account token) = Unit {0}
IsFormedRequest (Authenticate account token label secret) = IsTrue (is_factor_label label)
IsFormedRequest (AddFactor account token label kind secret schedule) = IsTrue (is_factor_label label)
IsFormedRequest (UpdateFactor account token label secret) = IsTrue (is_factor_label label)
IsFormedRequest (RemoveFactor account token label) = IsTrue (is_factor_label label)
IsFormedRequest (ResetPin account token label) = IsTrue (is_factor_label label)
IsFormedRequest (ListFactors account) = Unit {0}
IsFormedRequest (Mount account token) = Unit {0}
IsFormedRequest (Unmount account) = Unit {0}
IsFormedRequest (PutFile account name bytes) = IsFileName name
IsFormedRequest (GetFile account name) = IsFileName name
IsFormedRequest (ListFiles account) = Unit {0}

abbrev pub IsFormed : Turn → Type 0
IsFormed (Look label) = Unit {0}
IsFormed (Act request) = IsFormedRequest request
IsFormed (Clear token) = Unit {0}
