-- What the refusals read of a state.
use Rattle.std.specs.Prelude.{ℕ, Option, None, Some, is_some}
use Rattle.std.specs.FinMap.{keys}
use Rattle.name_map.specs.Mapped.{map_values}
use Rattle.account_machine.specs.Outline.{HomeOutline, Outline}
use Rattle.account_machine.specs.declared.factor.Mark.{Mark}
use Rattle.auth_session.specs.Table.{sessions_in}
use Rattle.stash_format.specs.declared.contents.Contents.{Contents as Stash}
use Rattle.factor_files.specs.declared.factor.FactorRecord.{FactorRecord}
use Rattle.stored_home.specs.declared.stored.Stored.{Stored}
use Rattle.user_state.specs.declared.state.UserState.{UserState}

-- the next edition, which is 1 where there is no home
abbrev pub next_in : Option Stash → ℕ
next_in None = 1
next_in (Some stash) = stash.next

abbrev pub mark_in : FactorRecord → Mark
mark_in row = record { kind = row.kind; edition = row.edition }

-- the home as it is loaded
abbrev pub home_in : Stored → HomeOutline
home_in stored =
    record {
      made = is_some stored.stash;
      next = next_in stored.stash;
      marks = map_values mark_in stored.factors;
      files = keys stored.files;
    }

abbrev pub outline_in : UserState → Outline
outline_in state = record {
  home = home_in state.stored;
  sessions = sessions_in state.sessions.kept;
  next_session = state.sessions.next;
  mounted = is_some state.vault;
}
