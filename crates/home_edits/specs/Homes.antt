-- Making a home.
use Rattle.std.specs.Prelude.{◌≡◌}
use Rattle.account_machine.specs.declared.user.Durable.{Durable}
use Rattle.account_machine.specs.User.{new_home}
use Rattle.share_api.specs.Contents.{Contents}
use Rattle.stored_home.specs.Holds.{Keys}

-- create: the durable part after it is that of a new home
abbrev pub MakesHome : Contents → Keys → Durable → Durable → Type 0
MakesHome contents keys before after = after ≡ new_home
