-- An entry leads to one user: no two of the machine's alternatives give an answer with different users after it.
use Rattle.std.proofs.Common.{◌≡◌, Bool, true, false, cond, Option, Some, None, inl, inr, refl, ap, sym, ◌∙◌}
use Rattle.std.specs.Prelude.{bytes_eq, option_and_then, option_map, unwrap_or, MatchOption}
use Rattle.std.specs.FinMap.{get, entries}
use Rattle.pw_types.specs.declared.delay.Readiness.{Readiness}
use Rattle.pw_types.specs.declared.delay.Readiness.TheVariants as readiness
use Rattle.pw_types.specs.declared.era.Era.{Era}
use Rattle.account_machine.specs.declared.answer.Answer.{Answer}
use Rattle.account_machine.specs.declared.answer.Answer.TheVariants as answers
use Rattle.account_machine.specs.declared.answer.Refused.{Refused}
use Rattle.account_machine.specs.declared.answer.Refused.TheVariants.{Exists, NoHome, SessionsSpent, UnknownSession, Expired, WrongIntent, NotAuthorised, UnknownFactor, FactorExists, PasswordFirst, LastPassword, TooManyFactors, BadSecret, EditionsSpent, AlreadyMounted, NotMounted, UnknownFile, TooManyFiles, TooLarge}
use Rattle.account_machine.specs.declared.factor.Factor.{Factor}
use Rattle.account_machine.specs.declared.factor.Kind.{Kind}
use Rattle.account_machine.specs.declared.factor.Kind.TheVariants.{Password, Pin}
use Rattle.account_machine.specs.declared.session.Session.{Session}
use Rattle.account_machine.specs.declared.session.Token.{Token}
use Rattle.account_machine.specs.declared.request.Request.{Request}
use Rattle.account_machine.specs.declared.request.Request.TheVariants.{Create, StartSession, ExtendSession, EndSession, Authenticate, AddFactor, UpdateFactor, RemoveFactor, ResetPin, ListFactors, Mount, Unmount, PutFile, GetFile, ListFiles}
use Rattle.account_machine.specs.declared.request.Turn.{Turn}
use Rattle.account_machine.specs.declared.request.Turn.TheVariants.{Look, Act, Clear}
use Rattle.account_machine.specs.declared.entry.Entry.{Entry}
use Rattle.account_machine.specs.declared.entry.Told.{Told}
use Rattle.account_machine.specs.declared.user.Durable.{Durable}
use Rattle.account_machine.specs.declared.user.User.{User}
use Rattle.account_machine.specs.Answers.{answer_of}
use Rattle.account_machine.specs.Outline.{Bytes, session_at}
use Rattle.account_machine.specs.Effect.{Outcome, gives, effect, tried, pin_tried, readiness_now, right_pin, right_password, set_factor, missed, cleared_by, first_counted}
use Rattle.account_machine.specs.Step.{outcome, outcome_by, refusal_now, Row, Unsettles, IsStandIn, Given, by_row, unsettles, loses, hides, stands_in, reloaded, FailsToReload, Step}
use Rattle.machine_step.proofs.Tails.{after_given, outcome_tail}

-- ---- the answers that rows give

-- every answer but those that stand in place of a row's
abbrev is_given : Answer → Bool
is_given answers.StorageFault = false
is_given answers.NoMemory = false
is_given (answers.TreeLost host chip) = false
is_given (answers.Damaged name) = false
is_given _ = true

abbrev fine : Option Outcome → Bool
fine None = true
fine (Some o) = is_given o.answer

by_refusal : (refused : Refused) → is_given (answer_of refused) ≡ true
by_refusal Exists = refl
by_refusal NoHome = refl
by_refusal SessionsSpent = refl
by_refusal UnknownSession = refl
by_refusal Expired = refl
by_refusal WrongIntent = refl
by_refusal NotAuthorised = refl
by_refusal UnknownFactor = refl
by_refusal FactorExists = refl
by_refusal PasswordFirst = refl
by_refusal LastPassword = refl
by_refusal TooManyFactors = refl
by_refusal BadSecret = refl
by_refusal EditionsSpent = refl
by_refusal AlreadyMounted = refl
by_refusal NotMounted = refl
by_refusal UnknownFile = refl
by_refusal TooManyFiles = refl
by_refusal TooLarge = refl

-- a row over something that may not be there
over : {A : Type 0} (o : Option A) (f : A → Option Outcome) → ((x : A) → fine (f x) ≡ true) → fine (option_and_then f o) ≡ true
over None f each = refl
over (Some x) f each = each x

module _ (era : Era) (user : User) where
  compared : (b : Bool) (token : Token) (label : Bytes) (session : Session) (factor : Factor)
      → fine (cond b (right_pin user token label session factor) (gives answers.Wrong (set_factor user label (missed (record { boot = era.boot; at = user.last }) factor)))) ≡ true
  compared true token label session factor = refl
  compared false token label session factor = refl

  pin : (r : Readiness) (token : Token) (label secret : Bytes) (session : Session) (factor : Factor) → fine (pin_tried r era user token label secret session factor) ≡ true
  pin readiness.Ready token label secret session factor = compared (bytes_eq secret factor.secret) token label session factor
  pin (readiness.Delayed until) token label secret session factor = refl
  pin readiness.Locked token label secret session factor = refl

  password : (b : Bool) (token : Token) (session : Session) → fine (cond b (right_password user token session) (gives answers.Wrong user)) ≡ true
  password true token session = refl
  password false token session = refl

  a_try : (kind : Kind) (token : Token) (label secret : Bytes) (session : Session) (factor : Factor) → fine (tried kind era user token label secret session factor) ≡ true
  a_try Password token label secret session factor = password (bytes_eq secret factor.secret) token session
  a_try Pin token label secret session factor = pin (readiness_now era user.last factor) token label secret session factor

  by_effect : (request : Request) (tail : Bytes) → fine (effect era tail user request) ≡ true
  by_effect (Create account) tail = refl
  by_effect (StartSession account intent) tail = refl
  by_effect (ExtendSession account token seconds) tail = over (session_at user.sessions token) _ (λ s. refl)
  by_effect (EndSession account token) tail = refl
  by_effect (Authenticate account token label secret) tail =
      over (session_at user.sessions token) _ (λ s. over (get user.durable.factors label) _ (λ f. a_try f.kind token label secret s f))
  by_effect (AddFactor account token label kind secret schedule) tail = refl
  by_effect (UpdateFactor account token label secret) tail = over (get user.durable.factors label) _ (λ f. refl)
  by_effect (RemoveFactor account token label) tail = refl
  by_effect (ResetPin account token label) tail = over (get user.durable.factors label) _ (λ f. refl)
  by_effect (ListFactors account) tail = refl
  by_effect (Mount account token) tail = refl
  by_effect (Unmount account) tail = refl
  by_effect (PutFile account name bytes) tail = refl
  by_effect (GetFile account name) tail = over (get user.durable.files name) _ (λ b. refl)
  by_effect (ListFiles account) tail = refl

  clears : (found : Option (Bytes × Factor)) → fine (cleared_by found user) ≡ true
  clears None = refl
  clears (Some row) = refl

  by_outcome : (refused : Option Refused) (turn : Turn) (tail : Bytes) → fine (outcome_by refused era tail user turn) ≡ true
  by_outcome (Some refused) turn tail = by_refusal refused
  by_outcome None (Look label) tail = refl
  by_outcome None (Act request) tail = by_effect request tail
  by_outcome None (Clear token) tail = clears (first_counted (entries user.durable.factors))

  row_given : (turn : Turn) (answer : Answer) (after : User) → Row era user turn answer after → is_given answer ≡ true
  row_given turn answer after row = sym (ap fine row.1) ∙ by_outcome (refusal_now user turn) turn row.0

  -- ---- the users that rows give

  one_row : (turn : Turn) (answer : Answer) (after other : User) → Row era user turn answer after → Row era user turn answer other → after ≡ other
  one_row turn answer after other row again =
      after_given answer answer after other (sym (outcome_tail era user turn row.0 answer after row.1) ∙ outcome_tail era user turn again.0 answer other again.1)

  -- a list of factors leaves the user
  listed : (account : Bytes) (answer : Answer) (after : User) → (refused : Option Refused) → refused ≡ None → (tail : Bytes)
      → outcome_by refused era tail user (Act (ListFactors account)) ≡ gives answer after → user ≡ after
  listed account answer after (Some refused) none tail e = cc
  listed account answer after None none tail e = after_given _ answer user after e

  durable_of : Option Outcome → Option Durable
  durable_of o = option_map (λ (o : Outcome). o.after.durable) o

  effect_durable : (request : Request) (tail other : Bytes) → durable_of (effect era tail user request) ≡ durable_of (effect era other user request)
  unfolding durable_of
  effect_durable (Create account) tail other = refl
  effect_durable (StartSession account intent) tail other = refl
  effect_durable (ExtendSession account token seconds) tail other = refl
  effect_durable (EndSession account token) tail other = refl
  effect_durable (Authenticate account token label secret) tail other = refl
  effect_durable (AddFactor account token label kind secret schedule) tail other = refl
  effect_durable (UpdateFactor account token label secret) tail other = refl
  effect_durable (RemoveFactor account token label) tail other = refl
  effect_durable (ResetPin account token label) tail other = refl
  effect_durable (ListFactors account) tail other = refl
  effect_durable (Mount account token) tail other = refl
  effect_durable (Unmount account) tail other = refl
  effect_durable (PutFile account name bytes) tail other = refl
  effect_durable (GetFile account name) tail other = refl
  effect_durable (ListFiles account) tail other = refl

  by_durable : (refused : Option Refused) (turn : Turn) (tail other : Bytes) → durable_of (outcome_by refused era tail user turn) ≡ durable_of (outcome_by refused era other user turn)
  by_durable (Some refused) turn tail other = refl
  by_durable None (Look label) tail other = refl
  by_durable None (Act request) tail other = effect_durable request tail other
  by_durable None (Clear token) tail other = refl

  -- the durable part that a row gives doesn't rest on a new session's tail
  one_durable : (turn : Turn) (due again : Answer) (done other : User) → Row era user turn due done → Row era user turn again other → done.durable ≡ other.durable
  unfolding durable_of
  one_durable turn due again done other row next =
      ap (λ o. unwrap_or o done.durable)
      (sym (ap durable_of row.1) ∙ by_durable (refusal_now user turn) turn row.0 next.0 ∙ ap durable_of next.1)

  -- ---- all alternatives

  -- how an answer was given: by the row, by a fault, or with the user left as it was, as the row leaves it too
  -- where it gives the same answer
  data Way (turn : Turn) (answer : Answer) (after : User) : Type 0 where
    row_way : Row era user turn answer after → Way turn answer after
    fault_way : Unsettles era user turn answer after → Way turn answer after
    quiet_way : after ≡ user → (answer ≡ answers.StorageFault → ⊥) → ((other : User) → Row era user turn answer other → other ≡ user) → Way turn answer after

  not_by_row : (turn : Turn) (answer : Answer) → is_given answer ≡ false → (other : User) → Row era user turn answer other → other ≡ user
  not_by_row turn answer stands other row = let clash : false ≡ true = sym stands ∙ row_given turn answer other row in cc

  stand_in : (answer : Answer) → IsStandIn answer → (is_given answer ≡ false) × (answer ≡ answers.StorageFault → ⊥)
  stand_in answer (inl none) = (ap is_given none, λ fault. let clash : answers.NoMemory ≡ answers.StorageFault = sym none ∙ fault in cc)
  stand_in answer (inr damaged) =
      (ap is_given damaged.1, λ fault. let clash : answers.Damaged damaged.0 ≡ answers.StorageFault = sym damaged.1 ∙ fault in cc)

  way : (turn : Turn) (answer : Answer) (after : User) → Given era user turn answer after → Way turn answer after
  way turn answer after (by_row row) = row_way row
  way turn answer after (unsettles u) = fault_way u
  way turn answer after (loses l) =
      quiet_way l.after_is (λ fault. let clash : answers.TreeLost l.host l.chip ≡ answers.StorageFault = sym l.answer_is ∙ fault in cc)
      (not_by_row turn answer (ap is_given l.answer_is))
  way turn answer after (hides h) =
      quiet_way h.after_is (λ fault. let clash : answers.OkFactors _ ≡ answers.StorageFault = sym h.answer_is ∙ fault in cc)
      (λ other row.
      sym (listed h.account answer other (refusal_now user (Act (ListFactors h.account))) (ap (refusal_now user) (sym h.turn_is) ∙ h.none) row.0
      (ap (outcome era row.0 user) (sym h.turn_is) ∙ row.1)))
  way turn answer after (stands_in s) =
      let stands = stand_in answer s.answer_is in
      quiet_way s.after_is stands.1 (not_by_row turn answer stands.0)

  no_fault : (turn : Turn) (answer : Answer) (after : User) → Row era user turn answer after → answer ≡ answers.StorageFault → ⊥
  no_fault turn answer after row fault = let clash : false ≡ true = sym (ap is_given fault) ∙ row_given turn answer after row in cc

  one_way : (turn : Turn) (answer : Answer) (after other : User) → Way turn answer after → Way turn answer other → after ≡ other
  one_way turn answer after other (row_way row) (row_way again) = one_row turn answer after other row again
  one_way turn answer after other (row_way row) (fault_way u) = absurd (no_fault turn answer after row u.fault)
  one_way turn answer after other (row_way row) (quiet_way same no_fault rows) = rows after row ∙ sym same
  one_way turn answer after other (fault_way u) (row_way row) = absurd (no_fault turn answer other row u.fault)
  one_way turn answer after other (fault_way u) (fault_way v) =
      u.after_is ∙ ap (λ (d : Durable). record user { other = Some d }) (one_durable turn u.due v.due u.done v.done u.row v.row) ∙ sym v.after_is
  one_way turn answer after other (fault_way u) (quiet_way same no_fault rows) = absurd (no_fault u.fault)
  one_way turn answer after other (quiet_way same no_fault rows) (row_way row) = same ∙ sym (rows other row)
  one_way turn answer after other (quiet_way same no_fault rows) (fault_way u) = absurd (no_fault u.fault)
  one_way turn answer after other (quiet_way same no_fault rows) (quiet_way too none more) = same ∙ sym too

  one_given : (turn : Turn) (answer : Answer) (after other : User) → Given era user turn answer after → Given era user turn answer other → after ≡ other
  one_given turn answer after other given again = one_way turn answer after other (way turn answer after given) (way turn answer other again)

one_turned : (era : Era) (user : User) (found : Option User) (told : Told) (turn : Turn) (answer : Answer) (after other : User)
    → MatchOption found (FailsToReload user told answer after) (λ start. Given era start turn answer after)
    → MatchOption found (FailsToReload user told answer other) (λ start. Given era start turn answer other) → after ≡ other
one_turned era user None told turn answer after other fails again = fails.after_is ∙ sym again.after_is
one_turned era user (Some start) told turn answer after other given again = one_given era start turn answer after other given again

-- an entry leads to one user
pub one_step : (era : Era) (before : User) (entry : Entry) (after other : User) → Step era before entry after → Step era before entry other → after ≡ other
one_step era before entry after other step again =
    one_turned era (record before { last = entry.moment }) (reloaded (record before { last = entry.moment }) entry.told) entry.told entry.turn entry.answer after other step.turned again.turned
