-- What a turn's own device steps did to an account's state.
use Rattle.std.specs.Prelude.{◌≡◌, ◌↔◌, List, None}
use Rattle.pw_types.specs.declared.era.Era.{Era}
use Rattle.account_machine.specs.declared.entry.Entry.{Entry}
use Rattle.account_machine.specs.declared.entry.Told.TheVariants.{Settled}
use Rattle.share_api.specs.declared.step.Step.{Step}
use Rattle.user_state.specs.Turns.{KeepsAccount}
use Rattle.user_state.specs.declared.state.UserState.{UserState}
use Rattle.user_turn.specs.Moves.{Moves}
use Rattle.turn_meaning.specs.declared.taken.TurnTaken.{TurnTaken}

-- the machine's entry of a turn, whoever took it and wherever it stands
abbrev pub entry_of : TurnTaken → Entry
entry_of taken = record {
  caller = 0;
  given = taken.given;
  moment = taken.moment;
  told = taken.told;
  turn = taken.turn;
  answer = taken.answer;
  place = 0;
}

-- The turn moved the state by these steps. It told of a reload exactly where the state was in doubt, the account is the
-- same, and the steps, the state after and the answer are what the table's row makes of the state before (`Moves`).
pub record MovesAccount (era : Era) (before : UserState) (taken : TurnTaken) (steps : List Step) (after : UserState)
    : Type 0 where
  pub settled : (taken.told ≡ Settled) ↔ (before.doubt ≡ None)
  pub keeps : KeepsAccount before after
  pub moves : Moves era before (entry_of taken) steps after
