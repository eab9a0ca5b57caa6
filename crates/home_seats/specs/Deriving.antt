-- What is derived between a request's look and its act.
use Rattle.std.specs.Prelude.{◌≡◌, ℕ, Option, None, Some}
use Rattle.account_machine.specs.declared.request.Request.{Request}
use Rattle.account_machine.specs.declared.request.Request.TheVariants.{Create, StartSession, ExtendSession, EndSession, Authenticate, AddFactor, UpdateFactor, RemoveFactor, ResetPin, ListFactors, Mount, Unmount, PutFile, GetFile, ListFiles}
use Rattle.share_api.specs.Contents.{Bytes}
use Rattle.user_state.specs.Turns.{secret_of}
use Rattle.user_state.specs.declared.state.Seen.{Seen}
use Rattle.account_machine.specs.declared.request.Turn.TheVariants.{Act}
use Rattle.home_seats.specs.declared.prepared.Prepared.{Prepared}

-- The salt and the cost that a request derives with, by what its look saw: those of the factor that is tried, and a
-- new salt with the cost of new factors where one is made or changed.
abbrev pub derives_with : Request → Seen → ℕ → Bytes × ℕ
derives_with (AddFactor account token label kind secret schedule) seen cost = (seen.fresh, cost)
derives_with (UpdateFactor account token label secret) seen cost = (seen.fresh, cost)
derives_with _ seen cost = (seen.salt, seen.cost)

-- the key is that of the request's secret, with that salt and cost
pub record IsFor (request : Request) (seen : Seen) (cost : ℕ) (prepared : Prepared) : Type 0 where
  pub secret : secret_of (Act request) ≡ Some prepared.secret
  pub salt : prepared.derived.salt ≡ (derives_with request seen cost).0
  pub cost_is : prepared.derived.cost ≡ (derives_with request seen cost).1
