-- The machine's state of one account.
use Rattle.std.specs.Prelude.{ℕ, [], None, true, false}
use Rattle.std.specs.FinMap.{empty, keys}
use Rattle.name_map.specs.Mapped.{map_values}
use Rattle.account_machine.specs.declared.factor.Factor.{Factor}
use Rattle.account_machine.specs.declared.factor.Mark.{Mark}
use Rattle.account_machine.specs.declared.user.Durable.{Durable}
use Rattle.account_machine.specs.declared.user.User.{User}
use Rattle.account_machine.specs.Outline.{HomeOutline, Outline}

-- the durable part of an account without a home
abbrev pub no_home : Durable
no_home = record { made = false; next = 1; factors = empty; files = empty }

-- the durable part of a new home
abbrev pub new_home : Durable
new_home = record { made = true; next = 1; factors = empty; files = empty }

-- an account with a durable part, as an opening at a moment leaves it
abbrev pub opened : Durable → ℕ → User
opened durable moment =
    record { durable = durable; other = None; sessions = []; next_session = 1; mounted = false; last = moment }

abbrev pub mark_of : Factor → Mark
mark_of factor = record { kind = factor.kind; edition = factor.edition }

abbrev pub home_of : Durable → HomeOutline
home_of durable =
    record { made = durable.made; next = durable.next; marks = map_values mark_of durable.factors; files = keys durable.files }

abbrev pub outline_of : User → Outline
outline_of user =
    record { home = home_of user.durable; sessions = user.sessions; next_session = user.next_session; mounted = user.mounted }
