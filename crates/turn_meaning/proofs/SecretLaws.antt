-- No secret comes to a user but with a request.
use Rattle.std.proofs.Common.{◌≡◌, ℕ, List, [], ◌∷◌, Option, None, Some, refl, sym, ap, ◌∙◌, subst, ◌⊎◌, inl, inr, ⊎_elim, Bool, true, false}
use Rattle.std.specs.Prelude.{IfSome, if◌then◌else◌, option_and_then, ◌==◌, ◌&&◌, T, bytes_eq}
use Rattle.std.specs.Ordering.{nat_cmp, is_lt, is_eq}
use Rattle.std.specs.declared.cmp.Ordering.{Ordering}
use Rattle.std.specs.declared.cmp.Ordering.TheVariants.{Less, Equal, Greater}
use Rattle.std.specs.Cmp.Lexicographic.{slice_cmp}
use Rattle.std.specs.FinMap.{get, insert, remove, empty, entries, get-empty, get-entries, entries_sorted}
use Rattle.std.specs.FinMap.Entries.{find, below_all, is_sorted}
use Rattle.pw_types.specs.declared.era.Era.{Era}
use Rattle.pw_types.specs.declared.delay.Readiness.{Readiness}
use Rattle.pw_types.specs.declared.delay.Readiness.TheVariants as readiness
use Rattle.account_machine.specs.declared.answer.Answer.{Answer}
use Rattle.account_machine.specs.declared.answer.Refused.{Refused}
use Rattle.account_machine.specs.declared.entry.Entry.{Entry as MachineEntry}
use Rattle.account_machine.specs.declared.entry.Told.{Told}
use Rattle.account_machine.specs.declared.entry.Told.TheVariants.{Settled, Before, After, Failed}
use Rattle.account_machine.specs.declared.factor.Factor.{Factor}
use Rattle.account_machine.specs.declared.factor.Kind.{Kind}
use Rattle.account_machine.specs.declared.factor.Kind.TheVariants.{Password, Pin}
use Rattle.account_machine.specs.declared.request.Request.{Request}
use Rattle.account_machine.specs.declared.request.Request.TheVariants.{Create, StartSession, ExtendSession, EndSession, Authenticate, AddFactor, UpdateFactor, RemoveFactor, ResetPin, ListFactors, Mount, Unmount, PutFile, GetFile, ListFiles}
use Rattle.account_machine.specs.declared.request.Turn.{Turn}
use Rattle.account_machine.specs.declared.request.Turn.TheVariants.{Look, Act, Clear}
use Rattle.account_machine.specs.declared.session.Session.{Session}
use Rattle.account_machine.specs.declared.session.Token.{Token}
use Rattle.account_machine.specs.declared.user.Durable.{Durable}
use Rattle.account_machine.specs.declared.user.User.{User}
use Rattle.account_machine.specs.Effect.{Outcome, gives, effect, turn_effect, cleared, cleared_by, first_counted, missed, new_factor, schedule_of, with_factor, tried, pin_tried, readiness_now, right_pin, password_tried}
use Rattle.account_machine.specs.Outline.{Bytes, is_pin_kind, session_at}
use Rattle.account_machine.specs.Step.{Step, Row, Given, by_row, unsettles, loses, hides, stands_in, Turned, outcome, outcome_by, refusal_now, reload_of}
use Rattle.stored_home.specs.Clean.{IsSecretOf}
use Rattle.stored_home.specs.Holds.{Factors}
use Rattle.stored_home.proofs.MapLemmas.{is_at, at_itself, not_at, same_or_apart, put_at, put_other, taken_at, taken_other, not_None, from_some}
use Rattle.user_state.specs.Turns.{secret_of}
use Rattle.turn_meaning.specs.Secrets.{IsHeld}

-- no secret more but the given one
abbrev Grows : Durable → Option Bytes → Durable → Type 0
Grows before given after = (s : Bytes) → IsSecretOf after s → IsSecretOf before s ⊎ (given ≡ Some s)

record RowKeeps (user : User) (given : Option Bytes) (after : User) : Type 0 where
  grows : Grows user.durable given after.durable
  other : after.other ≡ user.other

-- what a row gives has no secret more but the given one
abbrev Keeps : User → Option Bytes → Option Outcome → Type 0
Keeps user given found = IfSome found (λ (o : Outcome). RowKeeps user given o.after)

same_durable : (user after : User) (given : Option Bytes) → after.durable ≡ user.durable → after.other ≡ user.other
    → RowKeeps user given after
same_durable user after given e o =
    record { grows = λ s h. inl (subst (λ d. IsSecretOf d s) e h); other = o }

stays : (user : User) (given : Option Bytes) → RowKeeps user given user
stays user given = same_durable user user given refl refl

insert_grows : (before after : Durable) (given : Option Bytes) (label : Bytes) (factor : Factor)
    → after.factors ≡ insert before.factors label factor
    → ((s : Bytes) → factor.secret ≡ s → IsSecretOf before s ⊎ (given ≡ Some s)) → Grows before given after
insert_grows before after given label factor e own s h =
    let g : get (insert before.factors label factor) h.label ≡ Some h.factor =
    ap (λ (m : Factors). get m h.label) (sym e) ∙ h.there in
    ⊎_elim
    (λ same. own s (ap (λ (f : Factor). f.secret) (from_some factor h.factor
    (sym (put_at before.factors label factor)
    ∙ subst (λ l. get (insert before.factors label factor) l ≡ Some h.factor) same g)) ∙ h.is))
    (λ away. inl (record {
      label = h.label;
      factor = h.factor;
      there = sym (put_other before.factors label factor h.label away) ∙ g;
      is = h.is;
    }))
    (same_or_apart h.label label)

remove_grows : (before after : Durable) (given : Option Bytes) (label : Bytes)
    → after.factors ≡ remove before.factors label → Grows before given after
remove_grows before after given label e s h =
    let g : get (remove before.factors label) h.label ≡ Some h.factor =
    ap (λ (m : Factors). get m h.label) (sym e) ∙ h.there in
    ⊎_elim
    (λ same. absurd (not_None h.factor (sym (subst (λ l. get (remove before.factors label) l ≡ Some h.factor) same g)
    ∙ taken_at before.factors label)))
    (λ away. inl (record {
      label = h.label;
      factor = h.factor;
      there = sym (taken_other before.factors label h.label away) ∙ g;
      is = h.is;
    }))
    (same_or_apart h.label label)

empty_grows : (before after : Durable) (given : Option Bytes) → after.factors ≡ empty → Grows before given after
empty_grows before after given e s h =
    absurd (not_None h.factor (sym (ap (λ (m : Factors). get m h.label) (sym e) ∙ h.there)
    ∙ get-empty (slice_cmp nat_cmp) h.label))

-- a factor of the label with the same secret
set_keeps : (user after : User) (given : Option Bytes) (label : Bytes) (factor set : Factor)
    → get user.durable.factors label ≡ Some factor → set.secret ≡ factor.secret
    → after.durable.factors ≡ insert user.durable.factors label set → after.other ≡ user.other
    → RowKeeps user given after
set_keeps user after given label factor set is same e o = record {
  grows = insert_grows user.durable after.durable given label set e
      (λ s k. inl (record { label = label; factor = factor; there = is; is = sym same ∙ k }));
  other = o;
}

-- ---- all rows

and_then : {A : Type 0} (user : User) (given : Option Bytes) (f : A → Option Outcome) (o : Option A)
    → ((a : A) → o ≡ Some a → Keeps user given (f a)) → Keeps user given (option_and_then f o)
and_then user given f None h = tt
and_then user given f (Some a) h = h a refl

if_else : (user : User) (given : Option Bytes) (b : Bool) (x y : Option Outcome)
    → Keeps user given x → Keeps user given y → Keeps user given (if b then x else y)
if_else user given true x y h k = h
if_else user given false x y h k = k

pin_keeps : (found : Readiness) (era : Era) (user : User) (token : Token) (label secret : Bytes) (session : Session)
    (factor : Factor) (given : Option Bytes) → get user.durable.factors label ≡ Some factor
    → Keeps user given (pin_tried found era user token label secret session factor)
pin_keeps readiness.Ready era user token label secret session factor given is =
    if_else user given (bytes_eq secret factor.secret)
    (right_pin user token label session factor)
    (gives Rattle.account_machine.specs.declared.answer.Answer.TheVariants.Wrong
    (Rattle.account_machine.specs.Effect.set_factor user label (missed (record { boot = era.boot; at = user.last }) factor)))
    (set_keeps user _ given label factor (cleared factor) is refl refl refl)
    (set_keeps user _ given label factor (missed (record { boot = era.boot; at = user.last }) factor) is refl refl refl)
pin_keeps (readiness.Delayed until) era user token label secret session factor given is = stays user given
pin_keeps readiness.Locked era user token label secret session factor given is = stays user given

tried_keeps : (kind : Kind) (era : Era) (user : User) (token : Token) (label secret : Bytes) (session : Session)
    (factor : Factor) (given : Option Bytes) → get user.durable.factors label ≡ Some factor
    → Keeps user given (tried kind era user token label secret session factor)
tried_keeps Password era user token label secret session factor given is =
    if_else user given (bytes_eq secret factor.secret) _ _ (same_durable user _ given refl refl) (stays user given)
tried_keeps Pin era user token label secret session factor given is =
    pin_keeps (readiness_now era user.last factor) era user token label secret session factor given is

new_keeps : (user after : User) (label secret : Bytes) (kind : Kind) (schedule : List (ℕ × ℕ))
    → after.durable ≡ with_factor user.durable label kind secret schedule → after.other ≡ user.other
    → RowKeeps user (Some secret) after
new_keeps user after label secret kind schedule e o = record {
  grows = insert_grows user.durable after.durable (Some secret) label
      (new_factor kind secret user.durable.next schedule) (ap (λ (d : Durable). d.factors) e)
      (λ s k. inr (ap (λ (x : Bytes). Some x) k));
  other = o;
}

-- what a request gives
effect_keeps : (era : Era) (tail : Bytes) (user : User) (request : Request)
    → Keeps user (secret_of (Act request)) (effect era tail user request)
effect_keeps era tail user (Create account) = record {
  grows = λ s h. empty_grows user.durable _ None refl s h;
  other = refl;
}
effect_keeps era tail user (StartSession account intent) = same_durable user _ None refl refl
effect_keeps era tail user (ExtendSession account token seconds) =
    and_then user None _ (session_at user.sessions token) (λ session is. same_durable user _ None refl refl)
effect_keeps era tail user (EndSession account token) = same_durable user _ None refl refl
effect_keeps era tail user (Authenticate account token label secret) =
    and_then user (Some secret) _ (session_at user.sessions token)
    (λ session is. and_then user (Some secret) _ (get user.durable.factors label)
    (λ factor found. tried_keeps factor.kind era user token label secret session factor (Some secret) found))
effect_keeps era tail user (AddFactor account token label kind secret schedule) =
    new_keeps user _ label secret kind (schedule_of kind schedule) refl refl
effect_keeps era tail user (UpdateFactor account token label secret) =
    and_then user (Some secret) _ (get user.durable.factors label)
    (λ factor found. new_keeps user _ label secret factor.kind factor.schedule refl refl)
effect_keeps era tail user (RemoveFactor account token label) = record {
  grows = λ s h. remove_grows user.durable _ None label refl s h;
  other = refl;
}
effect_keeps era tail user (ResetPin account token label) =
    and_then user None _ (get user.durable.factors label)
    (λ factor found. set_keeps user _ None label factor (cleared factor) found refl refl refl)
effect_keeps era tail user (ListFactors account) = stays user None
effect_keeps era tail user (Mount account token) = same_durable user _ None refl refl
effect_keeps era tail user (Unmount account) = same_durable user _ None refl refl
effect_keeps era tail user (PutFile account name bytes) = record {
  grows = λ s h. inl (record { label = h.label; factor = h.factor; there = h.there; is = h.is });
  other = refl;
}
effect_keeps era tail user (GetFile account name) =
    and_then user None _ (get user.durable.files name) (λ bytes found. stays user None)
effect_keeps era tail user (ListFiles account) = stays user None

-- ---- a clearing: the PIN that is cleared is the one at its label

counted_case : (a b : Bool) (rest : Option (Bytes × Factor)) (e x : Bytes × Factor)
    → (if a then (if b then rest else Some e) else rest) ≡ Some x → (e ≡ x) ⊎ (rest ≡ Some x)
counted_case true true rest e x h = inr h
counted_case true false rest e x h = inl (from_some e x h)
counted_case false b rest e x h = inr h

left_of : (a b : Bool) → T (a && b) → T a
left_of true b h = tt
left_of false b h = absurd h

right_of : (a b : Bool) → T (a && b) → T b
right_of true b h = h
right_of false b h = absurd h

below_found : (k : Bytes) (es : List (Bytes × Factor)) (x : Bytes × Factor)
    → T (below_all (slice_cmp nat_cmp) k es) → first_counted es ≡ Some x → T (is_lt (slice_cmp nat_cmp k x.0))
below_found k [] x b h = absurd (not_None x (sym h))
below_found k (e ∷ es) x b h = ⊎_elim
    (λ q. subst (λ (y : Bytes × Factor). T (is_lt (slice_cmp nat_cmp k y.0))) q
    (left_of (is_lt (slice_cmp nat_cmp k e.0)) (below_all (slice_cmp nat_cmp) k es) b))
    (λ r. below_found k es x (right_of (is_lt (slice_cmp nat_cmp k e.0)) (below_all (slice_cmp nat_cmp) k es) b) r)
    (counted_case (is_pin_kind e.1.kind) (e.1.wrong == 0) (first_counted es) e x h)

not_both : (o : Ordering) → T (is_lt o) → is_eq o ≡ true → ⊥
not_both Less l e = Rattle.std.proofs.Common.true≢false (sym e)
not_both Equal l e = absurd l
not_both Greater l e = absurd l

found_at : (es : List (Bytes × Factor)) (x : Bytes × Factor) → T (is_sorted (slice_cmp nat_cmp) es)
    → first_counted es ≡ Some x → find (slice_cmp nat_cmp) x.0 es ≡ Some x.1
found_at [] x s h = absurd (not_None x (sym h))
found_at (e ∷ es) x s h = ⊎_elim
    (λ q. subst (λ (y : Bytes × Factor). find (slice_cmp nat_cmp) y.0 (e ∷ es) ≡ Some y.1) q
    (ap (λ b. Rattle.std.proofs.Common.cond b (Some e.1) (find (slice_cmp nat_cmp) e.0 es)) (at_itself e.0)))
    (λ r. ap (λ b. Rattle.std.proofs.Common.cond b (Some e.1) (find (slice_cmp nat_cmp) x.0 es))
    (not_at x.0 e.0 (λ same. not_both (slice_cmp nat_cmp e.0 x.0)
    (below_found e.0 es x (left_of (below_all (slice_cmp nat_cmp) e.0 es) (is_sorted (slice_cmp nat_cmp) es) s) r)
    (subst (λ (k : Bytes). is_at e.0 k ≡ true) (sym same) (at_itself e.0))))
    ∙ found_at es x (right_of (below_all (slice_cmp nat_cmp) e.0 es) (is_sorted (slice_cmp nat_cmp) es) s) r)
    (counted_case (is_pin_kind e.1.kind) (e.1.wrong == 0) (first_counted es) e x h)

clear_keeps : (user : User) (o : Option (Bytes × Factor)) → first_counted (entries user.durable.factors) ≡ o
    → Keeps user None (cleared_by o user)
clear_keeps user None e = stays user None
clear_keeps user (Some row) e = set_keeps user _ None row.0 row.1 (cleared row.1)
    (get-entries user.durable.factors row.0
    ∙ found_at (entries user.durable.factors) row (entries_sorted user.durable.factors) e) refl refl refl

-- ---- a turn

turn_keeps : (era : Era) (tail : Bytes) (user : User) (turn : Turn) → Keeps user (secret_of turn) (turn_effect era tail user turn)
turn_keeps era tail user (Look label) = stays user None
turn_keeps era tail user (Act request) = effect_keeps era tail user request
turn_keeps era tail user (Clear token) =
    clear_keeps user (first_counted (entries user.durable.factors)) refl

outcome_keeps : (found : Option Refused) (era : Era) (tail : Bytes) (user : User) (turn : Turn)
    → Keeps user (secret_of turn) (outcome_by found era tail user turn)
outcome_keeps None era tail user turn = turn_keeps era tail user turn
outcome_keeps (Some refused) era tail user turn = stays user (secret_of turn)

row_keeps : (era : Era) (user : User) (turn : Turn) (answer : Answer) (after : User) → Row era user turn answer after
    → RowKeeps user (secret_of turn) after
row_keeps era user turn answer after row =
    subst (Keeps user (secret_of turn)) row.1 (outcome_keeps (refusal_now user turn) era row.0 user turn)

abbrev Brings : User → Option Bytes → User → Type 0
Brings user given after = (s : Bytes) → IsHeld after s → IsSecretOf user.durable s ⊎ (given ≡ Some s)

held_alone : (user : User) (s : Bytes) → user.other ≡ None → IsHeld user s → IsSecretOf user.durable s
held_alone user s none h = ⊎_elim (λ d. d) (λ w. absurd (not_None w.0 (sym w.1 ∙ none))) h

-- a settled user's turn
given_brings : (era : Era) (user : User) (turn : Turn) (answer : Answer) (after : User) → user.other ≡ None
    → Given era user turn answer after → Brings user (secret_of turn) after
given_brings era user turn answer after none (by_row r) s h =
    let k = row_keeps era user turn answer after r in k.grows s (held_alone after s (k.other ∙ none) h)
given_brings era user turn answer after none (unsettles u) s h =
    let k = row_keeps era user turn u.due u.done u.row in
    ⊎_elim
    (λ d. inl (subst (λ x. IsSecretOf x s) (ap (λ (v : User). v.durable) u.after_is) d))
    (λ w. k.grows s (subst (λ x. IsSecretOf x s)
    (from_some w.0 u.done.durable (sym w.1 ∙ ap (λ (v : User). v.other) u.after_is)) w.2)) h
given_brings era user turn answer after none (loses l) s h =
    inl (held_alone user s none (subst (λ u. IsHeld u s) l.after_is h))
given_brings era user turn answer after none (hides l) s h =
    inl (held_alone user s none (subst (λ u. IsHeld u s) l.after_is h))
given_brings era user turn answer after none (stands_in i) s h =
    inl (held_alone user s none (subst (λ u. IsHeld u s) i.after_is h))

-- once one of the possible durable parts was told
told_brings : (era : Era) (user : User) (told : Told) (turn : Turn) (answer : Answer) (after : User)
    (o : Option Durable) → user.other ≡ o
    → Rattle.std.specs.Prelude.MatchOption (reload_of user told o)
    (Rattle.account_machine.specs.Step.FailsToReload user told answer after)
    (λ start. Given era start turn answer after)
    → (s : Bytes) → IsHeld after s → IsHeld user s ⊎ (secret_of turn ≡ Some s)
told_brings era user Settled turn answer after None e t s h =
    ⊎_elim (λ k. inl (inl k)) inr (given_brings era user turn answer after e t s h)
told_brings era user Settled turn answer after (Some other) e t s h = inl (subst (λ u. IsHeld u s) t.after_is h)
told_brings era user Before turn answer after None e t s h = inl (subst (λ u. IsHeld u s) t.after_is h)
told_brings era user Before turn answer after (Some other) e t s h =
    ⊎_elim (λ k. inl (inl k)) inr (given_brings era (record user { other = None }) turn answer after refl t s h)
told_brings era user After turn answer after None e t s h = inl (subst (λ u. IsHeld u s) t.after_is h)
told_brings era user After turn answer after (Some other) e t s h =
    ⊎_elim (λ k. inl (inr (other, e, k))) inr
    (given_brings era (record user { durable = other; other = None }) turn answer after refl t s h)
told_brings era user Failed turn answer after o e t s h = inl (subst (λ u. IsHeld u s) t.after_is h)

pub step_brings : (era : Era) (user next : User) (entry : MachineEntry) → Step era user entry next
    → (s : Bytes) → IsHeld next s → IsHeld user s ⊎ (secret_of entry.turn ≡ Some s)
step_brings era user next entry step s h =
    told_brings era (record user { last = entry.moment }) entry.told entry.turn entry.answer next user.other refl
    step.turned s h
