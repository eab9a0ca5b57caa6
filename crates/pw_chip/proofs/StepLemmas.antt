-- What a try and a replay come to, case by case.
use Rattle.std.proofs.Common.{◌≡◌, ◌≢◌, ℕ, ◌<◌, ◌≤◌, Bool, true, false, cond, eqb, Result, Ok, Err, IfOk, List, length, refl, sym, ◌∙◌, ap, subst}
use Rattle.std.specs.Prelude.{bytes_eq}
use Rattle.std.proofs.lemmas.Bool.{lt-ltb, le-ltb, eq-eqb, ne_eqb, and_left}
use Rattle.pw_types.specs.Schedule.{limit_of}
use Rattle.pw_types.specs.Delay.{readiness}
use Rattle.pw_types.specs.declared.stamp.Stamp.{Stamp}
use Rattle.pw_types.specs.declared.delay.Readiness.{Readiness}
use Rattle.pw_log.specs.declared.entry.LogEntry.{LogEntry}
use Rattle.pw_log.specs.declared.entry.TheConstants.{INSERT, NO_VERDICT, WRONG}
use Rattle.pw_leaf.specs.Contents.{Contents, bumped, cleared}
use Rattle.pw_leaf.specs.LeafBytes.{leaf_bytes, leaf_mac}
use Rattle.pw_leaf.specs.Reading.{mac_of}
use Rattle.pw_path.specs.Tree.{no_hash}
use Rattle.pw_path.specs.Path.{root_of}
use Rattle.pw_chip.specs.Held.{entry_of}
use Rattle.pw_chip.proofs.OpenLemmas.{mac_of-leaf_bytes}
use Rattle.pw_chip.specs.declared.reply.Reply.{Reply}
use Rattle.pw_chip.specs.declared.reply.Reply.TheVariants.{Inserted, Replayed, LabelInvalid, Locked, RootUnknown, Cleared, ResetWrong}
use Rattle.pw_chip.specs.declared.open.Refusal.{Refusal}
use Rattle.pw_chip.specs.State.{ChipState}
use Rattle.pw_chip.specs.Step.{logged, leaf_entry, insert_step, refused, opened, tried, tried_when, try_opened, after_try, try_step, reset_at, after_reset, reset_opened, reset_step, is_replayed, redone_by, is_full, replay_opened, replay_step}

-- what holds of an outcome holds of its value
pub at_ok : {A E : Type 0} (P : A → Type 0) (r : Result A E) (a : A) → r ≡ Ok a → IfOk r P → P a
at_ok {A = A} {E = E} P r a e h = subst (λ (q : Result A E). IfOk q P) e h

module _ (w : ChipState) (label : ℕ) (aux : List (List (List ℕ))) (leaf : List ℕ) where
  -- ---- try

  pub try_step-refused : (les : List ℕ) (now : ℕ) (refusal : Refusal) → opened w.keys w.log.newest.root label aux leaf ≡ Err refusal → try_step w label aux leaf les now ≡ (refused refusal, w)
  unfolding try_step
  try_step-refused les now refusal e = ap (try_opened w label aux les now) e

  pub try_step-when : (les : List ℕ) (now : ℕ) (x : Contents) (r : Readiness) (reply : Reply) → opened w.keys w.log.newest.root label aux leaf ≡ Ok x
      → readiness x.schedule x.wrong x.last (record { boot = w.boot; at = now }) w.start ≡ r
      → reply ≡ tried_when r w.keys x les (record { boot = w.boot; at = now })
      → try_step w label aux leaf les now ≡ (reply, after_try w label aux x (record { boot = w.boot; at = now }) reply)
  unfolding try_step tried
  try_step-when les now x r reply e ready is =
      let stamp : Stamp = record { boot = w.boot; at = now } in
      let same : tried w.keys x les stamp w.start ≡ reply = ap (λ q. tried_when q w.keys x les stamp) ready ∙ sym is in
      ap (try_opened w label aux les now) e ∙ (λ i. (same i, after_try w label aux x stamp (same i)))

  -- ---- reset

  pub reset_step-refused : (reset : List ℕ) (now : ℕ) (refusal : Refusal) → opened w.keys w.log.newest.root label aux leaf ≡ Err refusal → reset_step w label aux leaf reset now ≡ (refused refusal, w)
  unfolding reset_step
  reset_step-refused reset now refusal e = ap (reset_opened w label aux reset now) e

  pub reset_step-when : (reset : List ℕ) (now : ℕ) (x : Contents) (reply : Reply) (b : Bool) → opened w.keys w.log.newest.root label aux leaf ≡ Ok x
      → bytes_eq x.reset reset ≡ b → reply ≡ cond b (Cleared (leaf_bytes w.keys (cleared x))) ResetWrong
      → reset_step w label aux leaf reset now ≡ (reply, after_reset w label aux x (record { boot = w.boot; at = now }) reply)
  unfolding reset_step reset_at
  reset_step-when reset now x reply b e test is =
      let stamp : Stamp = record { boot = w.boot; at = now } in
      let same : reset_at w.keys x reset ≡ reply = ap (λ q. cond q (Cleared (leaf_bytes w.keys (cleared x))) ResetWrong) test ∙ sym is in
      ap (reset_opened w label aux reset now) e ∙ (λ i. (same i, after_reset w label aux x stamp (same i)))

  -- ---- replay

  pub replay_step-no_label : 16384 ≤ label → replay_step w label aux leaf ≡ (LabelInvalid, w)
  unfolding replay_step
  replay_step-no_label h = rw (le-ltb label 16384 h) refl

  pub replay_step-other : (entry : LogEntry) → label < 16384 → w.log.newest ≡ entry → is_replayed entry label ≡ false → replay_step w label aux leaf ≡ (RootUnknown, w)
  unfolding replay_step
  replay_step-other entry h e t =
      let other : is_replayed w.log.newest label ≡ false = ap (λ (z : LogEntry). is_replayed z label) e ∙ t in
      rw (lt-ltb label 16384 h) (ap (λ b. cond b (replay_opened w (opened w.keys w.log.older.root label aux leaf), w) (RootUnknown, w)) other)

  -- an entry of this label is replayed on what was opened
  replayed : (entry : LogEntry) → label < 16384 → w.log.newest ≡ entry → is_replayed entry label ≡ true → (r : Result Contents Refusal) → opened w.keys w.log.older.root label aux leaf ≡ r
      → replay_step w label aux leaf ≡ (replay_opened w r, w)
  unfolding replay_step
  replayed entry h e t r o =
      let same : is_replayed w.log.newest label ≡ true = ap (λ (z : LogEntry). is_replayed z label) e ∙ t in
      rw (lt-ltb label 16384 h) (ap (λ b. cond b (replay_opened w (opened w.keys w.log.older.root label aux leaf), w) (RootUnknown, w)) same ∙ (λ i. (replay_opened w (o i), w)))

  pub replay_step-refused : (entry : LogEntry) → label < 16384 → w.log.newest ≡ entry → is_replayed entry label ≡ true → (refusal : Refusal) → opened w.keys w.log.older.root label aux leaf ≡ Err refusal
      → replay_step w label aux leaf ≡ (refused refusal, w)
  replay_step-refused entry h e t refusal o = replayed entry h e t (Err refusal) o

  -- an opened leaf is redone, unless it is full
  pub replay_step-done : (entry : LogEntry) → label < 16384 → w.log.newest ≡ entry → is_replayed entry label ≡ true → (x : Contents) → opened w.keys w.log.older.root label aux leaf ≡ Ok x
      → (b : Bool) → is_full entry.verdict x ≡ b → (reply : Reply) → reply ≡ cond b Locked (Replayed (leaf_bytes w.keys (redone_by entry.verdict entry.stamp x)))
      → replay_step w label aux leaf ≡ (reply, w)
  replay_step-done entry h e t x o b full reply is =
      replayed entry h e t (Ok x) o
      ∙ ap (λ (z : LogEntry). (cond (is_full z.verdict x) Locked (Replayed (leaf_bytes w.keys (redone_by z.verdict z.stamp x))), w)) e
      ∙ ap (λ q. (cond q Locked (Replayed (leaf_bytes w.keys (redone_by entry.verdict entry.stamp x))), w)) full
      ∙ (λ i. (sym is i, w))

-- what an entry of this verdict does
pub redone_cleared : (verdict : ℕ) (stamp : Stamp) (x : Contents) → verdict ≢ WRONG → redone_by verdict stamp x ≡ cleared x
redone_cleared verdict stamp x ne = rw (ne_eqb verdict WRONG ne) refl

pub redone_bumped : (verdict : ℕ) (stamp : Stamp) (x : Contents) → verdict ≡ WRONG → redone_by verdict stamp x ≡ bumped stamp x
redone_bumped verdict stamp x e = rw (eq-eqb verdict WRONG e) refl

pub not_full-right : (verdict : ℕ) (x : Contents) → verdict ≢ WRONG → is_full verdict x ≡ false
not_full-right verdict x ne = and_left (eqb verdict WRONG) (eqb x.wrong (limit_of x.schedule)) (ne_eqb verdict WRONG ne)

pub full-wrong : (verdict : ℕ) (x : Contents) → verdict ≡ WRONG → is_full verdict x ≡ eqb x.wrong (limit_of x.schedule)
full-wrong verdict x e = rw (eq-eqb verdict WRONG e) refl

-- ---- entries

-- the entry of a record is that of its contents
pub entry_of-leaf_bytes : (w : ChipState) (operation verdict label : ℕ) (aux : List (List (List ℕ))) (now : ℕ) (x : Contents) (leaf : List ℕ)
    → leaf ≡ leaf_bytes w.keys x → length leaf ≡ 296
    → entry_of w operation verdict label aux leaf now ≡ leaf_entry w.keys operation verdict label aux x (record { boot = w.boot; at = now })
entry_of-leaf_bytes w operation verdict label aux now x leaf e long =
    let mac : mac_of leaf ≡ leaf_mac w.keys x = ap mac_of e ∙ mac_of-leaf_bytes w.keys x (ap length (sym e) ∙ long) in
    λ i. record { operation = operation; label = label; root = root_of label (mac i) aux; mac = mac i; verdict = verdict; stamp = record { boot = w.boot; at = now } }

-- an insert that is accepted
pub insert_step-ok : (w : ChipState) (label : ℕ) (aux : List (List (List ℕ))) (mac : List ℕ) (x : Contents) (now : ℕ) → label < 16384
    → bytes_eq (root_of label mac aux) w.log.newest.root ≡ true → bytes_eq mac no_hash ≡ true
    → insert_step w label aux mac x now ≡ (Inserted (leaf_bytes w.keys x), logged w (leaf_entry w.keys INSERT NO_VERDICT label aux x (record { boot = w.boot; at = now })))
unfolding insert_step
insert_step-ok w label aux mac x now h in_tree empty = rw (lt-ltb label 16384 h) (rw in_tree (rw empty refl))
