-- Where no hash and no MAC coincides, one root has one set of leaves.
use Rattle.std.proofs.Common.{◌≡◌, ℕ, ◌<◌, ◌^◌, inl, inr, Option, Some, None, refl, sym, ◌∙◌, ap, arith}
use Rattle.std.proofs.lemmas.Bool.{cases_lt}
use Rattle.pw_path.specs.Tree.{root}
use Rattle.pw_path.proofs.TreeLemmas.{one_tree}
use Rattle.pw_leaf.specs.declared.keys.ChipKeys.{ChipKeys}
use Rattle.pw_leaf.specs.Contents.{Contents}
use Rattle.pw_chip.specs.Law.{values}
use Rattle.pw_chip.proofs.GenuineLemmas.{Covered, values_hashes, same_leaf}
use Rattle.pw_chip.proofs.EraLemmas.{era_step}
use Rattle.pin_recovery.specs.Devices.{Leaves, Devices, AreLeaves, AreInStep}
use Rattle.pin_recovery.specs.LeafCalls.{LeafOp, call_of, stepped, IsLeafOp}
use Rattle.pin_recovery.specs.Clean.{OnEither, InEither, IsCleanBetween}
use Rattle.pin_recovery.proofs.AtomicLemmas.{crash_atomic}

-- where neither has a leaf, they are equal
none_past : (a b : Option Contents) → ((x : Contents) → a ≡ Some x → ⊥) → ((x : Contents) → b ≡ Some x → ⊥) → a ≡ b
none_past None None f g = refl
none_past (Some x) b f g = absurd (f x refl)
none_past None (Some y) f g = absurd (g y refl)

module _ (keys : ChipKeys) (t t' : Leaves) (h : AreLeaves t) (h' : AreLeaves t') (clean : IsCleanBetween keys t t') where
  -- the leaves before
  covered : Covered (OnEither keys t t') (InEither keys t t') keys t
  covered = record { leaf = h.each; label = h.labels; nodes = λ a on. inl on; macs = λ a is. inl is }

  -- the leaves after
  covered' : Covered (OnEither keys t t') (InEither keys t t') keys t'
  covered' = record { leaf = h'.each; label = h'.labels; nodes = λ a on. inr on; macs = λ a is. inr is }

  -- past the labels there is no leaf
  past : (u : Leaves) → AreLeaves u → (i : ℕ) → (i < 16384 → ⊥) → (x : Contents) → u i ≡ Some x → ⊥
  past u are i ge x q = let good = are.each i x q in let own = are.labels i x q in let lt = good.label in ge (omega arith)

  -- one root, one set of leaves
  pub one_root : root (values keys t) ≡ root (values keys t') → t ≡ t'
  one_root e =
      let at : (i : ℕ) → t i ≡ t' i =
      λ i. elim (cases_lt i 16384) [
        | inl lt ↦
            same_leaf (OnEither keys t t') (InEither keys t t') keys clean.hashes clean.macs t t' i covered covered'
            (one_tree (OnEither keys t t') clean.hashes (values keys t) (values keys t') (values_hashes keys t) (values_hashes keys t') (λ a on. inl on) (λ a on. inr on) e i lt)
        | inr ge ↦ none_past (t i) (t' i) (past t h i (λ lt. omega arith)) (past t' h' i (λ lt. omega arith))
      ] in
      λ j i. at i j

-- a call that leaves the root leaves the leaves
pub unchanged : (d : Devices) (op : LeafOp) (now : ℕ) → AreInStep d → IsLeafOp op → now < 2 ^ 40 → IsCleanBetween d.words.keys d.leaves (stepped d op now).leaves
    → (stepped d op now).words.log.newest.root ≡ d.words.log.newest.root → (stepped d op now).leaves ≡ d.leaves
unfolding stepped
unchanged d op now h ok small clean same =
    let all = crash_atomic d op now h ok small in
    let after = all.after in
    let e = era_step d.words (call_of d.words.keys d.leaves op) now in
    let new_root : root (values d.words.keys (stepped d op now).leaves) ≡ root (values d.words.keys d.leaves) =
    ap (λ keys. root (values keys (stepped d op now).leaves)) (sym e.keys) ∙ sym after.root ∙ same ∙ h.root in
    sym (one_root d.words.keys d.leaves (stepped d op now).leaves h.leaves after.leaves clean (sym new_root))
