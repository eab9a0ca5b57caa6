-- What an account's data mean to one another, for the composition of all accounts.
use Rattle.std.specs.Prelude.{◌≡◌, Bool, List, Contains, map}
use Rattle.pw_types.specs.declared.era.Era.{Era}
use Rattle.account_machine.specs.declared.request.Turn.{Turn}
use Rattle.account_machine.specs.declared.user.Durable.{Durable}
use Rattle.account_machine.specs.declared.user.User.{User}
use Rattle.account_machine.specs.Step as machine
use Rattle.home_locks.specs.Meanings.{Rules}
use Rattle.share_api.specs.Contents.{Bytes, Contents}
use Rattle.share_api.specs.Steps.{Does}
use Rattle.share_api.specs.declared.step.Step.{Step}
use Rattle.stored_home.specs.Clean.{IsClean, IsTurnSecret}
use Rattle.stored_home.specs.Holds.{Keys, Holds}
use Rattle.user_state.specs.Fits.{Fits, HoldsOneUnder, is_lost}
use Rattle.user_state.specs.Turns.{secret_of}
use Rattle.user_state.specs.declared.state.UserState.{UserState}
use Rattle.turn_meaning.specs.Moves.{MovesAccount}
pub use Rattle.turn_meaning.specs.Moves.{entry_of}
use Rattle.turn_meaning.specs.declared.taken.TurnTaken.{TurnTaken}

-- what an account has on the platform or in an image, with its name, and whether the tree of leaves is lost
pub record Part : Type 0 where
  pub account : Bytes
  pub lost : Bool
  pub contents : Contents

abbrev pub part_of : Bytes → Bool → Contents → Part
part_of account lost contents = record { account = account; lost = lost; contents = contents }

abbrev pub contents_of : List Part → List Contents
contents_of seen = map (λ (part : Part). part.contents) seen

-- a step leaves the name, and whether the tree is lost
pub record DoesPart (era : Era) (old : Part) (step : Step) (new : Part) : Type 0 where
  pub account : new.account ≡ old.account
  pub lost : new.lost ≡ old.lost
  pub does : Does era old.contents step new.contents

-- the part has the durable part
abbrev pub HoldsPart : Part → Durable → Type 0
HoldsPart part durable = Holds part.lost part.contents part.account durable

-- the state is that of the account's user, under the keys that the contents hold it by
pub record StandsFor (state : UserState) (part : Part) (user : User) : Type 0 where
  pub account_is : state.account ≡ part.account
  pub lost_is : is_lost state ≡ part.lost
  pub keys : Keys
  pub fits : Fits state part.contents user keys
  pub holds : HoldsOneUnder part.lost part.contents part.account user keys

-- no two inputs coincide that are recorded of these parts of an account and of a turn
abbrev pub IsCleanOf : List Part → User → Turn → Type 0
IsCleanOf seen user turn = (part : Part) → Contains seen part
    → IsClean (IsTurnSecret user.durable user.other (secret_of turn)) (Contains (contents_of seen)) part.account

-- what accounts' data mean to one another in an era
abbrev pub user_rules : Era → Rules Part Durable User TurnTaken UserState
user_rules era = record {
  does = DoesPart era;
  holds = HoldsPart;
  durable = λ user. user.durable;
  other = λ user. user.other;
  allows = λ user taken next. machine.Step era user (entry_of taken) next;
  clean = λ seen user taken. IsCleanOf seen user taken.turn;
  fits = StandsFor;
  moves = MovesAccount era;
}
