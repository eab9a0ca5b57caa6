-- One step of the machine: an entry, with the user before it and the user after it.
use Rattle.std.specs.Prelude.{◌≡◌, ◌<◌, ◌^◌, ◌⊎◌, max, map, Option, None, Some, IsSome, IsTrue, MatchOption}
use Rattle.std.specs.FinMap.{entries}
use Rattle.account_machine.specs.declared.user.Durable.{Durable}
use Rattle.account_machine.specs.declared.user.User.{User}
use Rattle.pw_types.specs.declared.era.Era.{Era}
use Rattle.account_machine.specs.declared.request.Request.TheVariants.{ListFactors}
use Rattle.account_machine.specs.declared.request.Turn.{Turn}
use Rattle.account_machine.specs.declared.request.Turn.TheVariants.{Look, Act, Clear}
use Rattle.account_machine.specs.declared.answer.Answer.{Answer}
use Rattle.account_machine.specs.declared.answer.Answer.TheVariants as answers
use Rattle.account_machine.specs.declared.answer.Refused.{Refused}
use Rattle.account_machine.specs.declared.entry.Told.{Told}
use Rattle.account_machine.specs.declared.entry.Told.TheVariants.{Settled, Before, After, Failed}
use Rattle.account_machine.specs.declared.entry.Entry.{Entry}
use Rattle.account_machine.specs.Outline.{Bytes}
use Rattle.account_machine.specs.User.{outline_of}
use Rattle.account_machine.specs.Answers.{answer_of}
use Rattle.account_machine.specs.Row.{first_refusal, turn_refusals, turn_names_tree}
use Rattle.account_machine.specs.Effect.{Outcome, gives, turn_effect, line_without_count}

-- the first refusal that applies to a turn now
abbrev pub refusal_now : User → Turn → Option Refused
refusal_now user turn = first_refusal (turn_refusals (outline_of user) turn user.last)

-- what a row gives: its first refusal, which changes nothing, or else its effect
abbrev pub outcome_by : Option Refused → Era → Bytes → User → Turn → Option Outcome
outcome_by None era tail user turn = turn_effect era tail user turn
outcome_by (Some refused) era tail user turn = gives (answer_of refused) user

abbrev pub outcome : Era → Bytes → User → Turn → Option Outcome
outcome era tail user turn = outcome_by (refusal_now user turn) era tail user turn

-- the table gives a turn this answer and this user after it. A new session's tail is free
abbrev pub Row : Era → User → Turn → Answer → User → Type 0
Row era user turn answer after = (tail : Bytes) × (outcome era tail user turn ≡ gives answer after)

-- a look always answers by its row. In a row of another turn the alternatives below may stand
abbrev pub MayFail : Turn → Type 0
MayFail (Look label) = ⊥
MayFail (Act request) = Unit {0}
MayFail (Clear token) = Unit {0}

-- a device failed: the durable part stays, and the one that the row gives is the second possible one
pub record Unsettles (era : Era) (user : User) (turn : Turn) (answer : Answer) (after : User) : Type 0 where
  pub may : MayFail turn
  pub fault : answer ≡ answers.StorageFault
  pub due : Answer
  pub done : User
  pub row : Row era user turn due done
  pub after_is : after ≡ record user { other = Some done.durable }

-- the tree is lost, the row names it, and no refusal before it applies
pub record Loses (user : User) (turn : Turn) (answer : Answer) (after : User) : Type 0 where
  pub named : IsTrue (turn_names_tree (outline_of user) turn)
  pub none : refusal_now user turn ≡ None
  pub host : Bytes
  pub chip : Bytes
  pub answer_is : answer ≡ answers.TreeLost host chip
  pub after_is : after ≡ user

-- the tree is lost, and the factors are listed without counts
pub record HidesCounts (user : User) (turn : Turn) (answer : Answer) (after : User) : Type 0 where
  pub account : Bytes
  pub turn_is : turn ≡ Act (ListFactors account)
  pub none : refusal_now user turn ≡ None
  pub answer_is : answer ≡ answers.OkFactors (map line_without_count (entries user.durable.factors))
  pub after_is : after ≡ user

-- want of memory and a damaged record
abbrev pub IsStandIn : Answer → Type 0
IsStandIn answer = (answer ≡ answers.NoMemory) ⊎ ((name : Bytes) × (answer ≡ answers.Damaged name))

-- they stand in place of the row's answer, and nothing changes
pub record StandsIn (user : User) (turn : Turn) (answer : Answer) (after : User) : Type 0 where
  pub may : MayFail turn
  pub answer_is : IsStandIn answer
  pub after_is : after ≡ user

-- what may be answered to a settled user
pub data Given (era : Era) (user : User) (turn : Turn) (answer : Answer) (after : User) : Type 0 where
  by_row : Row era user turn answer after → Given era user turn answer after
  unsettles : Unsettles era user turn answer after → Given era user turn answer after
  loses : Loses user turn answer after → Given era user turn answer after
  hides : HidesCounts user turn answer after → Given era user turn answer after
  stands_in : StandsIn user turn answer after → Given era user turn answer after

-- the user with which a turn begins, by what the reload told and the second possible durable part
abbrev pub reload_of : User → Told → Option Durable → Option User
reload_of user Settled None = Some user
reload_of user Settled (Some other) = None
reload_of user Before None = None
reload_of user Before (Some other) = Some (record user { other = None })
reload_of user After None = None
reload_of user After (Some other) = Some (record user { durable = other; other = None })
reload_of user Failed other = None

-- the settled user, and none where the reload can't have told this or failed
abbrev pub reloaded : User → Told → Option User
reloaded user told = reload_of user told user.other

-- a reload that was due failed, and the account stays unsettled
pub record FailsToReload (user : User) (told : Told) (answer : Answer) (after : User) : Type 0 where
  pub failed : told ≡ Failed
  pub due : IsSome user.other
  pub answer_is : (answer ≡ answers.StorageFault) ⊎ IsStandIn answer
  pub after_is : after ≡ user

-- what may be answered once the reload at the turn's start told this
abbrev pub Turned : Era → User → Told → Turn → Answer → User → Type 0
Turned era user told turn answer after =
    MatchOption (reloaded user told) (FailsToReload user told answer after) (λ start. Given era start turn answer after)

-- The machine may make this entry. Its moment is the greater of the user's last one and the
-- number that the clock gave, and is the last moment after it.
pub record Step (era : Era) (before : User) (entry : Entry) (after : User) : Type 0 where
  pub given : entry.given < 2 ^ 40
  pub moment : entry.moment ≡ max before.last entry.given
  pub turned : Turned era (record before { last = entry.moment }) entry.told entry.turn entry.answer after
