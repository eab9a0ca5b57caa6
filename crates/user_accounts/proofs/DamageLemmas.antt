-- Where damage may be answered, want of memory may be, since no row of the table answers damage.
use Rattle.std.proofs.Common.{◌≡◌, List, Bool, true, false, Option, None, Some, refl, sym, ap, ◌∙◌, subst, inl, inr, true≢false}
use Rattle.std.specs.Prelude.{MatchOption, option_and_then, if◌then◌else◌, bytes_eq}
use Rattle.std.specs.FinMap.{get, entries}
use Rattle.pw_types.specs.declared.delay.Readiness.{Readiness}
use Rattle.pw_types.specs.declared.delay.Readiness.TheVariants as readiness
use Rattle.pw_types.specs.declared.era.Era.{Era}
use Rattle.account_machine.specs.Answers.{answer_of, refused_in}
use Rattle.account_machine.specs.Effect.{Outcome, effect, turn_effect, tried, pin_tried, right_password, right_pin, readiness_now, cleared_by, first_counted}
use Rattle.account_machine.specs.Outline.{session_at}
use Rattle.account_machine.specs.Step.{Step, FailsToReload, Given, by_row, unsettles, loses, hides, stands_in, Row, outcome_by, refusal_now, reloaded}
use Rattle.account_machine.specs.declared.answer.Answer.{Answer}
use Rattle.account_machine.specs.declared.answer.Answer.TheVariants as answers
use Rattle.account_machine.specs.declared.answer.Refused.{Refused}
use Rattle.account_machine.specs.declared.answer.Refused.TheVariants.{Exists, NoHome, SessionsSpent, UnknownSession, Expired, WrongIntent, NotAuthorised, UnknownFactor, FactorExists, PasswordFirst, LastPassword, TooManyFactors, BadSecret, EditionsSpent, AlreadyMounted, NotMounted, UnknownFile, TooManyFiles, TooLarge}
use Rattle.account_machine.specs.declared.entry.Entry.{Entry}
use Rattle.account_machine.specs.declared.entry.Told.{Told}
use Rattle.account_machine.specs.declared.factor.Factor.{Factor}
use Rattle.account_machine.specs.declared.factor.Kind.{Kind}
use Rattle.account_machine.specs.declared.factor.Kind.TheVariants.{Password, Pin}
use Rattle.account_machine.specs.declared.request.Request.{Request}
use Rattle.account_machine.specs.declared.request.Request.TheVariants.{Create, StartSession, ExtendSession, EndSession, Authenticate, AddFactor, UpdateFactor, RemoveFactor, ResetPin, ListFactors, Mount, Unmount, PutFile, GetFile, ListFiles}
use Rattle.account_machine.specs.declared.request.Turn.{Turn}
use Rattle.account_machine.specs.declared.request.Turn.TheVariants.{Look, Act, Clear}
use Rattle.account_machine.specs.declared.session.Session.{Session}
use Rattle.account_machine.specs.declared.session.Token.{Token}
use Rattle.account_machine.specs.declared.user.User.{User}
use Rattle.share_api.specs.Contents.{Bytes}
use Rattle.share_api.specs.Seen.{ShareSeen}
use Rattle.user_state.specs.Fits.{is_lost}
use Rattle.user_state.specs.declared.state.UserState.{UserState}
use Rattle.share_api.specs.declared.step.Step.{Step as DeviceStep}
use Rattle.user_turn.specs.Acts.{IsAct}
use Rattle.user_turn.specs.Moves.{Moves}
use Rattle.user_turn.proofs.Turning.{turns_more}

-- ---- no row answers damage

abbrev pub is_damage : Answer → Bool
is_damage (answers.Damaged name) = true
is_damage _ = false

-- what a row gives, if anything, isn't damage
abbrev IsWhole : Option Outcome → Type 0
IsWhole None = Unit {0}
IsWhole (Some outcome) = is_damage outcome.answer ≡ false

refusal_whole : (refused : Refused) → is_damage (answer_of refused) ≡ false
refusal_whole Exists = refl
refusal_whole NoHome = refl
refusal_whole SessionsSpent = refl
refusal_whole UnknownSession = refl
refusal_whole Expired = refl
refusal_whole WrongIntent = refl
refusal_whole NotAuthorised = refl
refusal_whole UnknownFactor = refl
refusal_whole FactorExists = refl
refusal_whole PasswordFirst = refl
refusal_whole LastPassword = refl
refusal_whole TooManyFactors = refl
refusal_whole BadSecret = refl
refusal_whole EditionsSpent = refl
refusal_whole AlreadyMounted = refl
refusal_whole NotMounted = refl
refusal_whole UnknownFile = refl
refusal_whole TooManyFiles = refl
refusal_whole TooLarge = refl

then_whole : {X : Type 0} (f : X → Option Outcome) (o : Option X) → ((x : X) → IsWhole (f x))
    → IsWhole (option_and_then f o)
then_whole f None each = tt
then_whole f (Some x) each = each x

if_whole : (b : Bool) (found other : Option Outcome) → IsWhole found → IsWhole other
    → IsWhole (if b then found else other)
if_whole true found other h k = h
if_whole false found other h k = k

module _ (era : Era) (user : User) (token : Token) (label secret : Bytes) (session : Session) (factor : Factor) where
  pin_whole : (ready : Readiness) → IsWhole (pin_tried ready era user token label secret session factor)
  pin_whole readiness.Ready =
      if_whole (bytes_eq secret factor.secret) (right_pin user token label session factor) _ refl refl
  pin_whole (readiness.Delayed until) = refl
  pin_whole readiness.Locked = refl

  tried_whole : (kind : Kind) → IsWhole (tried kind era user token label secret session factor)
  tried_whole Password =
      if_whole (bytes_eq secret factor.secret) (right_password user token session) _ refl refl
  tried_whole Pin = pin_whole (readiness_now era user.last factor)

effect_whole : (era : Era) (tail : Bytes) (user : User) (request : Request) → IsWhole (effect era tail user request)
effect_whole era tail user (Create account) = refl
effect_whole era tail user (StartSession account intent) = refl
effect_whole era tail user (ExtendSession account token seconds) =
    then_whole _ (session_at user.sessions token) (λ session. refl)
effect_whole era tail user (EndSession account token) = refl
effect_whole era tail user (Authenticate account token label secret) =
    then_whole _ (session_at user.sessions token) (λ session.
    then_whole (λ factor. tried factor.kind era user token label secret session factor)
    (get user.durable.factors label) (λ factor.
    tried_whole era user token label secret session factor factor.kind))
effect_whole era tail user (AddFactor account token label kind secret schedule) = refl
effect_whole era tail user (UpdateFactor account token label secret) =
    then_whole _ (get user.durable.factors label) (λ factor. refl)
effect_whole era tail user (RemoveFactor account token label) = refl
effect_whole era tail user (ResetPin account token label) =
    then_whole _ (get user.durable.factors label) (λ factor. refl)
effect_whole era tail user (ListFactors account) = refl
effect_whole era tail user (Mount account token) = refl
effect_whole era tail user (Unmount account) = refl
effect_whole era tail user (PutFile account name bytes) = refl
effect_whole era tail user (GetFile account name) = then_whole _ (get user.durable.files name) (λ bytes. refl)
effect_whole era tail user (ListFiles account) = refl

cleared_whole : (row : Option (Bytes × Factor)) (user : User) → IsWhole (cleared_by row user)
cleared_whole None user = refl
cleared_whole (Some row) user = refl

turn_whole : (era : Era) (tail : Bytes) (user : User) (turn : Turn) → IsWhole (turn_effect era tail user turn)
turn_whole era tail user (Look label) = refl
turn_whole era tail user (Act request) = effect_whole era tail user request
turn_whole era tail user (Clear token) = cleared_whole (first_counted (entries user.durable.factors)) user

outcome_whole : (refused : Option Refused) (era : Era) (tail : Bytes) (user : User) (turn : Turn)
    → IsWhole (outcome_by refused era tail user turn)
outcome_whole None era tail user turn = turn_whole era tail user turn
outcome_whole (Some refused) era tail user turn = refusal_whole refused

-- an answer that isn't damage isn't damage of a name
not_damage : (answer : Answer) (name : Bytes) → answer ≡ answers.Damaged name → is_damage answer ≡ false → ⊥
not_damage answer name is whole = true≢false (sym (ap is_damage is) ∙ whole)

row_whole : (era : Era) (user : User) (turn : Turn) (answer : Answer) (after : User) → Row era user turn answer after
    → is_damage answer ≡ false
row_whole era user turn answer after row =
    subst IsWhole row.1 (outcome_whole (refusal_now user turn) era row.0 user turn)

-- ---- want of memory in place of damage

module _ (era : Era) (turn : Turn) (answer : Answer) (name : Bytes) (is : answer ≡ answers.Damaged name) where
  whole_given : {T : Type 0} → is_damage answer ≡ false → T
  whole_given whole = absurd (not_damage answer name is whole)

  given_forgotten : (user after : User) → Given era user turn answer after → Given era user turn answers.NoMemory after
  given_forgotten user after (by_row row) = whole_given (row_whole era user turn answer after row)
  given_forgotten user after (unsettles u) = whole_given (ap is_damage u.fault)
  given_forgotten user after (loses l) = whole_given (ap is_damage l.answer_is)
  given_forgotten user after (hides h) = whole_given (ap is_damage h.answer_is)
  given_forgotten user after (stands_in s) =
      stands_in (record { may = s.may; answer_is = inl refl; after_is = s.after_is })

  turned_forgotten : (user : User) (told : Told) (after : User) (start : Option User)
      → MatchOption start (FailsToReload user told answer after) (λ start. Given era start turn answer after)
      → MatchOption start (FailsToReload user told answers.NoMemory after)
      (λ start. Given era start turn answers.NoMemory after)
  turned_forgotten user told after None h =
      record { failed = h.failed; due = h.due; answer_is = inr (inl refl); after_is = h.after_is }
  turned_forgotten user told after (Some start) h = given_forgotten start after h

-- the entry, answered that there was no memory
abbrev forgotten : Entry → Entry
forgotten entry = record entry { answer = answers.NoMemory }

step_forgotten : (era : Era) (user : User) (entry : Entry) (name : Bytes) → entry.answer ≡ answers.Damaged name
    → (next : User) → Step era user entry next → Step era user (forgotten entry) next
step_forgotten era user entry name is next step = record {
  given = step.given;
  moment = step.moment;
  turned = turned_forgotten era entry.turn entry.answer name is (record user { last = entry.moment }) entry.told next
      (reloaded (record user { last = entry.moment }) entry.told) step.turned;
}

abbrev IsNoMemory : Answer → Type 0
IsNoMemory answers.NoMemory = Unit {0}
IsNoMemory _ = ⊥

-- what the turn did stays so of it
moves_forgotten : (era : Era) (before after : UserState) (entry : Entry) (steps : List DeviceStep) (name : Bytes)
    → entry.answer ≡ answers.Damaged name → Moves era before entry steps after
    → Moves era before (forgotten entry) steps after
moves_forgotten era before after entry steps name is m = record {
  account = m.account;
  cost = m.cost;
  costs = m.costs;
  draws = m.draws;
  token = λ ends token e. absurd (subst IsNoMemory e tt);
  fault = λ e. absurd (subst IsNoMemory e tt);
  row = λ no. let r = m.row no in record {
    stored = r.stored;
    same = r.same;
    ends = tt;
    damaged = λ broken e. absurd (subst IsNoMemory e tt);
    refusal = sym (ap refused_in is) ∙ r.refusal;
    refused = λ some. absurd (true≢false (sym some));
    quiet = r.quiet;
    unmoved = λ _ some. absurd (true≢false (sym some));
  };
  failed = λ e. let f = m.failed e in record {
    refused = refl;
    ends = refl;
    same = f.same;
    damaged = λ broken k. absurd (subst IsNoMemory k tt);
  };
}

-- an entry of a turn that was answered damage may be answered that there was no memory
pub damage_forgotten : (old new : ShareSeen) (before after : UserState) (entry : Entry) (name : Bytes)
    → entry.answer ≡ answers.Damaged name
    → IsAct old new before after entry
    → IsAct old new before after (forgotten entry)
damage_forgotten old new before after entry name is act = record {
  steps = act.steps;
  runs = act.runs;
  settled = act.settled;
  fault = λ e. absurd (subst IsNoMemory e tt);
  keeps = act.keeps;
  moves = moves_forgotten old.era before after entry act.steps name is act.moves;
  right = λ seen contents user held keys premises.
      turns_more old.era seen (is_lost before) before.account held (λ next. Step old.era user entry next)
      (λ next. Step old.era user (forgotten entry) next) after act.steps user contents
      (step_forgotten old.era user entry name is)
      (act.right seen contents user held keys premises);
}
