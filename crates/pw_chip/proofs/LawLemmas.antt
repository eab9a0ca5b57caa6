-- The law, over every list of events.
use Rattle.std.proofs.Common.{◌≡◌, ℕ, ◌+◌, ◌-◌, ◌<◌, ◌^◌, inl, inr, min, Option, None, List, [], ◌∷◌, refl, ap, subst, arith}
use Rattle.pw_path.specs.Path.{OnTree, HasNoCollision}
use Rattle.pw_leaf.specs.declared.keys.ChipKeys.{ChipKeys}
use Rattle.pw_leaf.specs.Contents.{Contents}
use Rattle.pw_chip.specs.State.{ChipState, booted, new_state, empty_root}
use Rattle.pw_chip.specs.Calls.{CallData}
use Rattle.pw_chip.specs.Step.{step}
use Rattle.pw_chip.specs.Ledger.{Event, Boots, Calls, Ledger, noted_call, noted_boot, new_ledger, leaves_after}
use Rattle.pw_chip.specs.Law.{values, InLeaves, OnPresented, InPresented, Hashed, Signed, HasNoMacCollision, IsClean, IsCall, AreEvents, IsLawful, Law}
use Rattle.pw_chip.specs.History.{ledger_in_the_end, words_in_the_end}
use Rattle.pw_chip.proofs.GenuineLemmas.{Covered}
use Rattle.pw_chip.proofs.KeptLemmas.{Holds}
use Rattle.pw_chip.proofs.CallLemmas.{Keeps, kept_call, law_call}

holds_booted : (N M : List ℕ → Type 0) (w : ChipState) (ledger : Ledger) (moment : ℕ) → Holds N M ledger.boot ledger.start w ledger.leaves
    → Holds N M (noted_boot ledger moment).boot moment (booted w moment) ledger.leaves
holds_booted N M w ledger moment h =
    let p = h.past in
    record {
      macs = h.macs;
      boot = ap (λ b. min (b + 1) (2 ^ 64 - 1)) h.boot;
      start = refl;
      small = omega arith;
      covered = h.covered;
      root = h.root;
      past = record { before = p.before; covered = p.covered; root = p.root; follows = p.follows; tells = p.tells };
    }

first_nodes : (w : ChipState) (ledger : Ledger) (events : List Event) (a : List ℕ) → OnTree (values w.keys ledger.leaves) a → Hashed w ledger events a
unfolding Hashed
first_nodes w ledger [] a h = h
first_nodes w ledger (event ∷ events) a h = inl h

first_macs : (w : ChipState) (ledger : Ledger) (events : List Event) (a : List ℕ) → InLeaves w.keys ledger.leaves a → Signed w ledger events a
unfolding Signed
first_macs w ledger [] a h = h
first_macs w ledger (event ∷ events) a h = inl h

-- the ledger has the words' era
as_ledger : (N M : List ℕ → Type 0) (w : ChipState) (ledger : Ledger) → Holds N M ledger.boot ledger.start w ledger.leaves
    → ◌≡◌ {A = Ledger} (record { boot = w.boot; start = w.start; leaves = ledger.leaves }) ledger
as_ledger N M w ledger h = λ i. record { boot = Holds.boot h i; start = Holds.start h i; leaves = ledger.leaves }

holds_called : (N M : List ℕ → Type 0) → HasNoCollision N → (w : ChipState) (ledger : Ledger) (call : CallData) (now : ℕ) → Holds N M ledger.boot ledger.start w ledger.leaves → now < 2 ^ 40 → IsCall call
    → ((a : List ℕ) → OnPresented w call a → N a) → ((a : List ℕ) → InPresented w call a → M a)
    → ((a : List ℕ) → OnTree (values (step w call now).1.keys (noted_call ledger call now (step w call now).0).leaves) a → N a)
    → ((a : List ℕ) → InLeaves (step w call now).1.keys (noted_call ledger call now (step w call now).0).leaves a → M a)
    → Holds N M (noted_call ledger call now (step w call now).0).boot (noted_call ledger call now (step w call now).0).start (step w call now).1 (noted_call ledger call now (step w call now).0).leaves
unfolding noted_call Keeps
holds_called N M apart w ledger call now h small ok path ins =
    let kept = kept_call N M apart ledger.boot ledger.start w ledger.leaves call now h small ok path ins in
    subst (λ b. ((a : List ℕ) → OnTree (values (step w call now).1.keys (leaves_after (record { boot = b; at = now }) call (step w call now).0 ledger.leaves)) a → N a)
    → ((a : List ℕ) → InLeaves (step w call now).1.keys (leaves_after (record { boot = b; at = now }) call (step w call now).0 ledger.leaves) a → M a)
    → Holds N M ledger.boot ledger.start (step w call now).1 (leaves_after (record { boot = b; at = now }) call (step w call now).0 ledger.leaves)) h.boot kept

law_from : (N M : List ℕ → Type 0) → HasNoCollision N → (events : List Event) (w : ChipState) (ledger : Ledger) → Holds N M ledger.boot ledger.start w ledger.leaves → AreEvents events
    → ((a : List ℕ) → Hashed w ledger events a → N a) → ((a : List ℕ) → Signed w ledger events a → M a) → Law w ledger events
unfolding Law AreEvents Hashed Signed
law_from N M apart [] w ledger h ok nodes macs = h.root
law_from N M apart (Boots moment ∷ events) w ledger h ok nodes macs = (
  h.root,
  (
    tt,
    law_from N M apart events (booted w moment) (noted_boot ledger moment) (holds_booted N M w ledger moment h) ok.1
        (λ a q. nodes a (inr (inr q))) (λ a q. macs a (inr (inr q))),
  ),
)
law_from N M apart (Calls call now ∷ events) w ledger h ok nodes macs =
    let path : (a : List ℕ) → OnPresented w call a → N a = λ a q. nodes a (inr (inl q)) in
    let ins : (a : List ℕ) → InPresented w call a → M a = λ a q. macs a (inr (inl q)) in
    let lawful = law_call N M apart ledger.boot ledger.start w ledger.leaves call now h ok.0.1 path ins in
    let next : ChipState = (step w call now).1 in
    let noted : Ledger = noted_call ledger call now (step w call now).0 in (
      h.root,
      (
        subst (λ l. IsLawful w l call now (step w call now).0) (as_ledger N M w ledger h) lawful,
        law_from N M apart events next noted
            (holds_called N M apart w ledger call now h ok.0.0 ok.0.1 path ins
            (λ a q. nodes a (inr (inr (first_nodes next noted events a q)))) (λ a q. macs a (inr (inr (first_macs next noted events a q)))))
            ok.1 (λ a q. nodes a (inr (inr q))) (λ a q. macs a (inr (inr q))),
      ),
    )

-- what holds of a new chip
holds_new : (N M : List ℕ → Type 0) (keys : ChipKeys) (events : List Event) → HasNoMacCollision keys.mac M
    → ((a : List ℕ) → Hashed (new_state keys) new_ledger events a → N a) → ((a : List ℕ) → Signed (new_state keys) new_ledger events a → M a)
    → Holds N M 0 0 (new_state keys) (λ i. None)
unfolding empty_root
holds_new N M keys events apart nodes macs =
    let none : ℕ → Option Contents = λ i. None in
    let covered : Covered N M keys none = record {
      leaf = λ i x q. cc q;
      label = λ i x q. cc q;
      nodes = λ a q. nodes a (first_nodes (new_state keys) new_ledger events a q);
      macs = λ a q. macs a (first_macs (new_state keys) new_ledger events a q);
    } in
    record {
      macs = apart;
      boot = refl;
      start = refl;
      small = omega arith;
      covered = covered;
      root = refl;
      past = record { before = none; covered = covered; root = refl; follows = λ l q. cc q; tells = λ i. refl };
    }

pub chip_law : (keys : ChipKeys) (events : List Event) → AreEvents events → IsClean (new_state keys) new_ledger events → Law (new_state keys) new_ledger events
chip_law keys events ok clean =
    let N = Hashed (new_state keys) new_ledger events in
    let M = Signed (new_state keys) new_ledger events in
    law_from N M clean.hashes events (new_state keys) new_ledger
    (holds_new N M keys events clean.macs (λ a q. q) (λ a q. q))
    ok (λ a q. q) (λ a q. q)

-- ---- what holds in the end

holds_from : (N M : List ℕ → Type 0) → HasNoCollision N → (events : List Event) (w : ChipState) (ledger : Ledger) → Holds N M ledger.boot ledger.start w ledger.leaves → AreEvents events
    → ((a : List ℕ) → Hashed w ledger events a → N a) → ((a : List ℕ) → Signed w ledger events a → M a)
    → Holds N M (ledger_in_the_end w ledger events).boot (ledger_in_the_end w ledger events).start (words_in_the_end w events) (ledger_in_the_end w ledger events).leaves
unfolding AreEvents Hashed Signed ledger_in_the_end words_in_the_end
holds_from N M apart [] w ledger h ok nodes macs = h
holds_from N M apart (Boots moment ∷ events) w ledger h ok nodes macs =
    holds_from N M apart events (booted w moment) (noted_boot ledger moment) (holds_booted N M w ledger moment h) ok.1
    (λ a q. nodes a (inr (inr q))) (λ a q. macs a (inr (inr q)))
holds_from N M apart (Calls call now ∷ events) w ledger h ok nodes macs =
    let next : ChipState = (step w call now).1 in
    let noted : Ledger = noted_call ledger call now (step w call now).0 in
    holds_from N M apart events next noted
    (holds_called N M apart w ledger call now h ok.0.0 ok.0.1 (λ a q. nodes a (inr (inl q))) (λ a q. macs a (inr (inl q)))
    (λ a q. nodes a (inr (inr (first_nodes next noted events a q)))) (λ a q. macs a (inr (inr (first_macs next noted events a q)))))
    ok.1 (λ a q. nodes a (inr (inr q))) (λ a q. macs a (inr (inr q)))

-- a run from a new chip leaves what holds
pub holds_in_the_end : (N M : List ℕ → Type 0) → HasNoCollision N → (keys : ChipKeys) (events : List Event) → HasNoMacCollision keys.mac M → AreEvents events
    → ((a : List ℕ) → Hashed (new_state keys) new_ledger events a → N a) → ((a : List ℕ) → Signed (new_state keys) new_ledger events a → M a)
    → Holds N M (ledger_in_the_end (new_state keys) new_ledger events).boot (ledger_in_the_end (new_state keys) new_ledger events).start
    (words_in_the_end (new_state keys) events) (ledger_in_the_end (new_state keys) new_ledger events).leaves
holds_in_the_end N M apart keys events clean ok nodes macs =
    holds_from N M apart events (new_state keys) new_ledger (holds_new N M keys events clean nodes macs) ok nodes macs
