-- Main keys that sessions keep.
use Rattle.std.specs.Prelude.{◌≡◌, ◌⊎◌, ◌<◌, ℕ, List, Option, Result, Ok, Err, Bool, true, false, is_some, slice_get, option_and_then}
use Rattle.std.specs.List.{list_any}
use Rattle.std.specs.FinMap.{len}
use Rattle.account_machine.specs.Sessions.{place_of}
use Rattle.account_machine.specs.declared.session.Token.{Token}
use Rattle.auth_session.specs.Table.{Table, sessions_in, edit_at, first_proved_kept}
use Rattle.auth_session.specs.declared.table.Kept.{Kept}
use Rattle.share_api.specs.Contents.{Bytes}
use Rattle.stored_home.specs.declared.fault.StoreFault.{StoreFault}
use Rattle.user_state.specs.declared.state.UserState.{UserState}
use Rattle.turn_edits.specs.Stashes.{has_payload}

-- the main key that was proved in the token's session
abbrev pub main_in : List Kept → Token → Option Bytes
main_in kept token = option_and_then (λ k. k.main) (slice_get kept (place_of token (sessions_in kept)))

-- whether a main key was proved in a session
abbrev pub has_main : List Kept → Bool
has_main kept = list_any (λ k. is_some k.main) kept

-- The stash has no payload, and yet a session has a main key, the vault is mounted or a vault file is loaded.
pub record ShowsHome (state : UserState) : Type 0 where
  pub lacks : has_payload state.stored.stash ≡ false
  pub shows : (is_some state.vault ≡ true) ⊎ (0 < len state.stored.files) ⊎ (has_main state.sessions.kept ≡ true)

-- the sessions after a first password was to be added: where it was, the one there keeps its main key
abbrev pub sessions_after : Result (Unit {0}) StoreFault → ℕ → Bytes → Table → Table
sessions_after (Ok done) at main table = record table { kept = edit_at (first_proved_kept main) at table.kept }
sessions_after (Err fault) at main table = table
