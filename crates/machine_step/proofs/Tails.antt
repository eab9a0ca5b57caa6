-- What a row gives doesn't rest on the tail of a new session, but for the session that it starts.
use Rattle.std.proofs.Common.{◌≡◌, ◌+◌, Option, Some, None, refl, ap, sym, subst}
use Rattle.std.specs.Prelude.{is_some, unwrap_or}
use Rattle.account_machine.specs.declared.answer.Answer.{Answer}
use Rattle.account_machine.specs.declared.answer.Answer.TheVariants as answers
use Rattle.account_machine.specs.declared.answer.Refused.{Refused}
use Rattle.account_machine.specs.declared.request.Request.{Request}
use Rattle.account_machine.specs.declared.request.Request.TheVariants.{Create, StartSession, ExtendSession, EndSession, Authenticate, AddFactor, UpdateFactor, RemoveFactor, ResetPin, ListFactors, Mount, Unmount, PutFile, GetFile, ListFiles}
use Rattle.account_machine.specs.declared.request.Turn.{Turn}
use Rattle.account_machine.specs.declared.request.Turn.TheVariants.{Look, Act, Clear}
use Rattle.account_machine.specs.declared.user.User.{User}
use Rattle.pw_types.specs.declared.era.Era.{Era}
use Rattle.account_machine.specs.Outline.{Bytes}
use Rattle.account_machine.specs.Effect.{Outcome, gives, started, effect}
use Rattle.account_machine.specs.Step.{outcome, outcome_by, refusal_now}
use Rattle.machine_step.specs.Done.{tail_in}

-- the answer that a row gives
pub answer_given : (answer other : Answer) (after then : User) → gives answer after ≡ gives other then → answer ≡ other
answer_given answer other after then is = ap (λ (o : Option Outcome). (unwrap_or o (record { answer = answer; after = after })).answer) is

pub after_given : (answer other : Answer) (after then : User) → gives answer after ≡ gives other then → after ≡ then
after_given answer other after then is = ap (λ (o : Option Outcome). (unwrap_or o (record { answer = answer; after = after })).after) is

module _ (era : Era) (user : User) where
  some_effect : (request : Request) (tail other : Bytes) → is_some (effect era tail user request) ≡ is_some (effect era other user request)
  some_effect (Create account) tail other = refl
  some_effect (StartSession account intent) tail other = refl
  some_effect (ExtendSession account token seconds) tail other = refl
  some_effect (EndSession account token) tail other = refl
  some_effect (Authenticate account token label secret) tail other = refl
  some_effect (AddFactor account token label kind secret schedule) tail other = refl
  some_effect (UpdateFactor account token label secret) tail other = refl
  some_effect (RemoveFactor account token label) tail other = refl
  some_effect (ResetPin account token label) tail other = refl
  some_effect (ListFactors account) tail other = refl
  some_effect (Mount account token) tail other = refl
  some_effect (Unmount account) tail other = refl
  some_effect (PutFile account name bytes) tail other = refl
  some_effect (GetFile account name) tail other = refl
  some_effect (ListFiles account) tail other = refl

  some_by : (refused : Option Refused) (turn : Turn) (tail other : Bytes) → is_some (outcome_by refused era tail user turn) ≡ is_some (outcome_by refused era other user turn)
  some_by (Some refused) turn tail other = refl
  some_by None (Look label) tail other = refl
  some_by None (Act request) tail other = some_effect request tail other
  some_by None (Clear token) tail other = refl

  -- whether a row gives something doesn't rest on the tail
  pub some_outcome : (turn : Turn) (tail other : Bytes) → is_some (outcome era tail user turn) ≡ is_some (outcome era other user turn)
  some_outcome turn tail other = some_by (refusal_now user turn) turn tail other

  started_tail : (account : Bytes) (tail : Bytes) (answer : Answer) (after : User) → answer ≡ answers.OkSession (user.last + 300) (record { number = user.next_session; tail = tail })
      → tail ≡ tail_in answer
  started_tail account tail answer after is = sym (ap tail_in is)

  effect_tail : (request : Request) (tail : Bytes) (answer : Answer) (after : User) → effect era tail user request ≡ gives answer after → effect era (tail_in answer) user request ≡ gives answer after
  effect_tail (Create account) tail answer after is = is
  effect_tail (StartSession account intent) tail answer after is =
      let same : tail ≡ tail_in answer = started_tail account tail answer after (sym (answer_given _ answer _ after is)) in
      subst (λ t. started t user intent ≡ gives answer after) same is
  effect_tail (ExtendSession account token seconds) tail answer after is = is
  effect_tail (EndSession account token) tail answer after is = is
  effect_tail (Authenticate account token label secret) tail answer after is = is
  effect_tail (AddFactor account token label kind secret schedule) tail answer after is = is
  effect_tail (UpdateFactor account token label secret) tail answer after is = is
  effect_tail (RemoveFactor account token label) tail answer after is = is
  effect_tail (ResetPin account token label) tail answer after is = is
  effect_tail (ListFactors account) tail answer after is = is
  effect_tail (Mount account token) tail answer after is = is
  effect_tail (Unmount account) tail answer after is = is
  effect_tail (PutFile account name bytes) tail answer after is = is
  effect_tail (GetFile account name) tail answer after is = is
  effect_tail (ListFiles account) tail answer after is = is

  by_tail : (refused : Option Refused) (turn : Turn) (tail : Bytes) (answer : Answer) (after : User)
      → outcome_by refused era tail user turn ≡ gives answer after → outcome_by refused era (tail_in answer) user turn ≡ gives answer after
  by_tail (Some refused) turn tail answer after is = is
  by_tail None (Look label) tail answer after is = is
  by_tail None (Act request) tail answer after is = effect_tail request tail answer after is
  by_tail None (Clear token) tail answer after is = is

  -- a row that gives an answer gives it with the answer's own tail
  pub outcome_tail : (turn : Turn) (tail : Bytes) (answer : Answer) (after : User) → outcome era tail user turn ≡ gives answer after → outcome era (tail_in answer) user turn ≡ gives answer after
  outcome_tail turn tail answer after is = by_tail (refusal_now user turn) turn tail answer after is
