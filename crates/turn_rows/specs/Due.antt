-- When a row's turn is due: the account is settled, and no refusal applies.
use Rattle.std.specs.Prelude.{◌≡◌, ◌<◌, ◌^◌, None, IsTrue}
use Rattle.account_machine.specs.Row.{first_refusal, turn_refusals}
use Rattle.account_machine.specs.declared.request.Turn.{Turn}
use Rattle.record_names.specs.Names.{is_account_name}
use Rattle.user_state.specs.Outlines.{outline_in}
use Rattle.user_state.specs.declared.state.UserState.{UserState}

-- the account's name is plain, its last moment is one, and there is one possible durable part
pub record IsReady (state : UserState) : Type 0 where
  pub plain : IsTrue (is_account_name state.account)
  pub moment : state.last < 2 ^ 40
  pub settled : state.doubt ≡ None

-- no refusal of the turn applies
abbrev pub IsDue : UserState → Turn → Type 0
IsDue state turn = first_refusal (turn_refusals (outline_in state) turn state.last) ≡ None
