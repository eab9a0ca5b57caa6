-- A step keeps an account's moments below 2^40.
use Rattle.std.proofs.Common.{◌≡◌, ◌<◌, ◌^◌, Bool, true, false, cond, Option, Some, None, refl, ap, sym, ◌∙◌, subst, arith}
use Rattle.std.specs.Prelude.{bytes_eq, option_and_then, unwrap_or, IfSome, MatchOption}
use Rattle.std.specs.Ordering.{eq_by_cmp}
use Rattle.std.specs.Cmp.Lexicographic.{nat_list_cmp_total}
use Rattle.std.specs.FinMap.{FinMap, get, insert, remove, empty, get-insert, get-remove, get-empty, entries}
use Rattle.pw_types.specs.declared.delay.Readiness.{Readiness}
use Rattle.pw_types.specs.declared.delay.Readiness.TheVariants as readiness
use Rattle.account_machine.specs.declared.answer.Answer.{Answer}
use Rattle.account_machine.specs.declared.answer.Answer.TheVariants as answers
use Rattle.account_machine.specs.declared.answer.Refused.{Refused}
use Rattle.account_machine.specs.declared.factor.Factor.{Factor}
use Rattle.account_machine.specs.declared.factor.Kind.{Kind}
use Rattle.account_machine.specs.declared.factor.Kind.TheVariants.{Password, Pin}
use Rattle.account_machine.specs.declared.session.Session.{Session}
use Rattle.account_machine.specs.declared.session.Token.{Token}
use Rattle.account_machine.specs.declared.request.Request.{Request}
use Rattle.account_machine.specs.declared.request.Request.TheVariants.{Create, StartSession, ExtendSession, EndSession, Authenticate, AddFactor, UpdateFactor, RemoveFactor, ResetPin, ListFactors, Mount, Unmount, PutFile, GetFile, ListFiles}
use Rattle.account_machine.specs.declared.request.Turn.{Turn}
use Rattle.account_machine.specs.declared.request.Turn.TheVariants.{Look, Act, Clear}
use Rattle.account_machine.specs.declared.entry.Entry.{Entry}
use Rattle.account_machine.specs.declared.entry.Told.{Told}
use Rattle.account_machine.specs.declared.entry.Told.TheVariants.{Settled, Before, After, Failed}
use Rattle.account_machine.specs.declared.user.Durable.{Durable}
use Rattle.account_machine.specs.declared.user.User.{User}
use Rattle.pw_types.specs.declared.era.Era.{Era}
use Rattle.account_machine.specs.Outline.{Bytes, session_at}
use Rattle.account_machine.specs.Effect.{Outcome, gives, effect, tried, pin_tried, readiness_now, right_password, right_pin, set_factor, cleared, missed, cleared_by, first_counted}
use Rattle.account_machine.specs.Step.{outcome_by, refusal_now, Row, Given, by_row, unsettles, loses, hides, stands_in, reload_of, FailsToReload, Step}
use Rattle.machine_step.specs.Timely.{AreTimely, IsTimely}
use Rattle.name_map.proofs.RowLemmas.{order}
use Rattle.machine_step.proofs.Tails.{after_given}

pub timely_empty : AreTimely empty
timely_empty label factor found =
    let none : get (empty {R = order}) label ≡ None = get-empty order label in
    let clash : None ≡ Some factor = sym none ∙ found in cc

pub timely_insert : (factors : FinMap order Factor) (name : Bytes) (value : Factor) → AreTimely factors → value.stamp.at < 2 ^ 40 → AreTimely (insert factors name value)
timely_insert factors name value timely at label factor found =
    elim (eq_by_cmp order label name) as (λ b. cond b (Some value) (get factors label) ≡ Some factor → factor.stamp.at < 2 ^ 40) [
      | true ↦ λ h. let same : value ≡ factor = ap (λ o. unwrap_or o value) h in subst (λ (f : Factor). f.stamp.at < 2 ^ 40) same at
      | false ↦ λ h. timely label factor h
    ] (sym (get-insert nat_list_cmp_total factors name value label) ∙ found)

pub timely_remove : (factors : FinMap order Factor) (name : Bytes) → AreTimely factors → AreTimely (remove factors name)
timely_remove factors name timely label factor found =
    elim (eq_by_cmp order label name) as (λ b. cond b None (get factors label) ≡ Some factor → factor.stamp.at < 2 ^ 40) [
      | true ↦ λ h. cc
      | false ↦ λ h. timely label factor h
    ] (sym (get-remove nat_list_cmp_total factors name label) ∙ found)

module _ (era : Era) (user : User) (below : user.last < 2 ^ 40) (timely : AreTimely user.durable.factors) where
  -- what a row keeps
  pub record Keeps (after : User) : Type 0 where
    pub factors : AreTimely after.durable.factors
    pub last : after.last ≡ user.last
    pub other : after.other ≡ user.other

  same : Keeps user
  same = record { factors = timely; last = refl; other = refl }

  keeps : (then : User) → Keeps then → (given answer : Answer) (after : User) → gives given then ≡ gives answer after → Keeps after
  keeps then is given answer after e = subst Keeps (after_given given answer then after e) is

  no_moment : 0 < 2 ^ 40
  no_moment = omega arith

  with_set : (label : Bytes) (factor : Factor) → factor.stamp.at < 2 ^ 40 → Keeps (set_factor user label factor)
  with_set label factor at = record { factors = timely_insert user.durable.factors label factor timely at; last = refl; other = refl }

  compared : (b : Bool) (token : Token) (label : Bytes) (session : Session) (factor : Factor) (answer : Answer) (after : User)
      → cond b (right_pin user token label session factor) (gives answers.Wrong (set_factor user label (missed (record { boot = era.boot; at = user.last }) factor))) ≡ gives answer after → Keeps after
  compared true token label session factor answer after e =
      keeps _ (record { factors = timely_insert user.durable.factors label (cleared factor) timely no_moment; last = refl; other = refl }) _ answer after e
  compared false token label session factor answer after e = keeps _ (with_set label (missed (record { boot = era.boot; at = user.last }) factor) below) _ answer after e

  pin : (r : Readiness) (token : Token) (label secret : Bytes) (session : Session) (factor : Factor) (answer : Answer) (after : User)
      → pin_tried r era user token label secret session factor ≡ gives answer after → Keeps after
  pin readiness.Ready token label secret session factor answer after e = compared (bytes_eq secret factor.secret) token label session factor answer after e
  pin (readiness.Delayed until) token label secret session factor answer after e = keeps user same _ answer after e
  pin readiness.Locked token label secret session factor answer after e = keeps user same _ answer after e

  password : (b : Bool) (token : Token) (session : Session) (answer : Answer) (after : User)
      → cond b (right_password user token session) (gives answers.Wrong user) ≡ gives answer after → Keeps after
  password true token session answer after e = keeps _ (record { factors = timely; last = refl; other = refl }) _ answer after e
  password false token session answer after e = keeps user same _ answer after e

  a_try : (kind : Kind) (token : Token) (label secret : Bytes) (session : Session) (factor : Factor) (answer : Answer) (after : User)
      → tried kind era user token label secret session factor ≡ gives answer after → Keeps after
  a_try Password token label secret session factor answer after e = password (bytes_eq secret factor.secret) token session answer after e
  a_try Pin token label secret session factor answer after e = pin (readiness_now era user.last factor) token label secret session factor answer after e

  -- a row over something that may not be there
  over : {A : Type 0} (o : Option A) (f : A → Option Outcome) (answer : Answer) (after : User)
      → ((x : A) → o ≡ Some x → f x ≡ gives answer after → Keeps after) → option_and_then f o ≡ gives answer after → Keeps after
  over None f answer after step e = cc
  over (Some x) f answer after step e = step x refl e

  by_effect : (request : Request) (tail : Bytes) (answer : Answer) (after : User) → effect era tail user request ≡ gives answer after → Keeps after
  by_effect (Create account) tail answer after e = keeps _ (record { factors = timely_empty; last = refl; other = refl }) _ answer after e
  by_effect (StartSession account intent) tail answer after e = keeps _ (record { factors = timely; last = refl; other = refl }) _ answer after e
  by_effect (ExtendSession account token seconds) tail answer after e =
      over (session_at user.sessions token) _ answer after (λ s there h. keeps _ (record { factors = timely; last = refl; other = refl }) _ answer after h) e
  by_effect (EndSession account token) tail answer after e = keeps _ (record { factors = timely; last = refl; other = refl }) _ answer after e
  by_effect (Authenticate account token label secret) tail answer after e =
      over (session_at user.sessions token) _ answer after (λ s there h.
      over (get user.durable.factors label) _ answer after (λ f found g. a_try f.kind token label secret s f answer after g) h) e
  by_effect (AddFactor account token label kind secret schedule) tail answer after e =
      keeps _ (record { factors = timely_insert user.durable.factors label _ timely no_moment; last = refl; other = refl }) _ answer after e
  by_effect (UpdateFactor account token label secret) tail answer after e =
      over (get user.durable.factors label) _ answer after (λ f found h. keeps _ (record { factors = timely_insert user.durable.factors label _ timely no_moment; last = refl; other = refl }) _ answer after h) e
  by_effect (RemoveFactor account token label) tail answer after e =
      keeps _ (record { factors = timely_remove user.durable.factors label timely; last = refl; other = refl }) _ answer after e
  by_effect (ResetPin account token label) tail answer after e =
      over (get user.durable.factors label) _ answer after (λ f found h. keeps _ (with_set label (cleared f) no_moment) _ answer after h) e
  by_effect (ListFactors account) tail answer after e = keeps user same _ answer after e
  by_effect (Mount account token) tail answer after e = keeps _ (record { factors = timely; last = refl; other = refl }) _ answer after e
  by_effect (Unmount account) tail answer after e = keeps _ (record { factors = timely; last = refl; other = refl }) _ answer after e
  by_effect (PutFile account name bytes) tail answer after e = keeps _ (record { factors = timely; last = refl; other = refl }) _ answer after e
  by_effect (GetFile account name) tail answer after e = over (get user.durable.files name) _ answer after (λ b found h. keeps user same _ answer after h) e
  by_effect (ListFiles account) tail answer after e = keeps user same _ answer after e

  clears : (found : Option (Bytes × Factor)) (answer : Answer) (after : User) → cleared_by found user ≡ gives answer after → Keeps after
  clears None answer after e = keeps user same _ answer after e
  clears (Some row) answer after e = keeps _ (with_set row.0 (cleared row.1) no_moment) _ answer after e

  by_outcome : (refused : Option Refused) (turn : Turn) (tail : Bytes) (answer : Answer) (after : User) → outcome_by refused era tail user turn ≡ gives answer after → Keeps after
  by_outcome (Some refused) turn tail answer after e = keeps user same _ answer after e
  by_outcome None (Look label) tail answer after e = keeps user same _ answer after e
  by_outcome None (Act request) tail answer after e = by_effect request tail answer after e
  by_outcome None (Clear token) tail answer after e = clears (first_counted (entries user.durable.factors)) answer after e

  pub row_keeps : (turn : Turn) (answer : Answer) (after : User) → Row era user turn answer after → Keeps after
  row_keeps turn answer after row = by_outcome (refusal_now user turn) turn row.0 answer after row.1

-- what is given to a settled account
settled_keeps : (era : Era) (user : User) → IsTimely era user → (turn : Turn) (answer : Answer) (after : User) → user.other ≡ None → Given era user turn answer after → IsTimely era after
settled_keeps era user timely turn answer after none (by_row row) =
    let kept = row_keeps era user timely.last timely.stamps turn answer after row in
    record {
      start = timely.start;
      last = subst (λ n. n < 2 ^ 40) (sym kept.last) timely.last;
      stamps = kept.factors;
      other_stamps = subst (λ (o : Option Durable). IfSome o (λ d. AreTimely d.factors)) (sym (kept.other ∙ none)) tt;
    }
settled_keeps era user timely turn answer after none (unsettles u) =
    let kept = row_keeps era user timely.last timely.stamps turn u.due u.done u.row in
    subst (IsTimely era) (sym u.after_is) (record { start = timely.start; last = timely.last; stamps = timely.stamps; other_stamps = kept.factors })
settled_keeps era user timely turn answer after none (loses l) = subst (IsTimely era) (sym l.after_is) timely
settled_keeps era user timely turn answer after none (hides h) = subst (IsTimely era) (sym h.after_is) timely
settled_keeps era user timely turn answer after none (stands_in s) = subst (IsTimely era) (sym s.after_is) timely

turned_by : (era : Era) (durable : Durable) (other : Option Durable) (user : User) → IsTimely era (record user { durable = durable; other = other })
    → (told : Told) (turn : Turn) (answer : Answer) (after : User)
    → MatchOption (reload_of (record user { durable = durable; other = other }) told other)
    (FailsToReload (record user { durable = durable; other = other }) told answer after) (λ start. Given era start turn answer after)
    → IsTimely era after
turned_by era durable None user timely Settled turn answer after given = settled_keeps era _ timely turn answer after refl given
turned_by era durable (Some o) user timely Settled turn answer after fails = subst (IsTimely era) (sym fails.after_is) timely
turned_by era durable None user timely Before turn answer after fails = subst (IsTimely era) (sym fails.after_is) timely
turned_by era durable (Some o) user timely Before turn answer after given =
    settled_keeps era _ (record { start = timely.start; last = timely.last; stamps = timely.stamps; other_stamps = tt }) turn answer after refl given
turned_by era durable None user timely After turn answer after fails = subst (IsTimely era) (sym fails.after_is) timely
turned_by era durable (Some o) user timely After turn answer after given =
    settled_keeps era _ (record { start = timely.start; last = timely.last; stamps = timely.other_stamps; other_stamps = tt }) turn answer after refl given
turned_by era durable other user timely Failed turn answer after fails = subst (IsTimely era) (sym fails.after_is) timely

-- a step from a timely account leads to one
pub step_keeps : (era : Era) (before : User) (entry : Entry) (after : User) → IsTimely era before → Step era before entry after → IsTimely era after
step_keeps era before entry after timely step =
    let moment : entry.moment < 2 ^ 40 = omega (arith, step.moment, step.given, timely.last) in
    turned_by era before.durable before.other (record before { last = entry.moment })
    (record { start = timely.start; last = moment; stamps = timely.stamps; other_stamps = timely.other_stamps }) entry.told entry.turn entry.answer after step.turned
