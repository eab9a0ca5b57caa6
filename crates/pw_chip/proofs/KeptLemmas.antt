-- What holds of the words and the ledger, and how a new log entry keeps it.
use Rattle.std.proofs.Common.{◌≡◌, ◌≢◌, ℕ, ◌<◌, ◌^◌, inl, inr, true, false, Option, Some, None, List, refl, sym, ◌∙◌, subst, arith}
use Rattle.std.specs.Prelude.{bytes_eq}
use Rattle.std.proofs.lemmas.Bool.{cases_eq, cases_lt}
use Rattle.std.proofs.lemmas.Slice.Eq.{bytes_eq-Decides}
use Rattle.pw_path.specs.Tree.{root}
use Rattle.pw_path.specs.Path.{OnTree, HasNoCollision}
use Rattle.pw_path.proofs.TreeLemmas.{one_tree, set_value_other, set_value_same}
use Rattle.pw_log.specs.declared.entry.LogEntry.{LogEntry}
use Rattle.pw_log.specs.Entries.{pushed}
use Rattle.pw_chip.specs.Told.{told}
use Rattle.pw_leaf.specs.declared.keys.ChipKeys.{ChipKeys}
use Rattle.pw_leaf.specs.Contents.{Contents, IsContents}
use Rattle.pw_leaf.proofs.Cases.{on_cond}
use Rattle.pw_chip.specs.State.{ChipState}
use Rattle.pw_chip.specs.Step.{logged, is_replayed, redone_by, is_full}
use Rattle.pw_chip.specs.Ledger.{with_leaf}
use Rattle.pw_chip.specs.Law.{values, InLeaves, HasNoMacCollision}
use Rattle.pw_chip.proofs.GenuineLemmas.{Covered, values_hashes, same_leaf}

-- what an entry did to a leaf, and to it alone
pub record Redone (e : LogEntry) (label : ℕ) (before leaves : ℕ → Option Contents) : Type 0 where
  pub leaf : Contents
  pub was : before label ≡ Some leaf
  pub others : (i : ℕ) → i ≢ label → leaves i ≡ before i
  pub is : leaves label ≡ Some (redone_by e.verdict e.stamp leaf)
  pub room : is_full e.verdict leaf ≡ false

-- the ledger before the newest entry
pub record Past (N M : List ℕ → Type 0) (w : ChipState) (leaves : ℕ → Option Contents) : Type 0 where
  pub before : ℕ → Option Contents
  pub covered : Covered N M w.keys before
  pub root : w.log.older.root ≡ root (values w.keys before)
  pub follows : (label : ℕ) → is_replayed w.log.newest label ≡ true → Redone w.log.newest label before leaves
  pub tells : (i : ℕ) → values w.keys leaves i ≡ told w.log.newest (values w.keys before) i

pub record Holds (N M : List ℕ → Type 0) (b s : ℕ) (w : ChipState) (leaves : ℕ → Option Contents) : Type 0 where
  pub macs : HasNoMacCollision w.keys.mac M
  pub boot : w.boot ≡ b
  pub start : w.start ≡ s
  pub small : w.boot < 2 ^ 64
  pub covered : Covered N M w.keys leaves
  pub root : w.log.newest.root ≡ root (values w.keys leaves)
  pub past : Past N M w leaves

module _ (N M : List ℕ → Type 0) (apart : HasNoCollision N) (b s : ℕ) where
  -- ledgers with one root are one
  pub same_leaves : (w : ChipState) (t t' : ℕ → Option Contents) → HasNoMacCollision w.keys.mac M → Covered N M w.keys t → Covered N M w.keys t' → root (values w.keys t) ≡ root (values w.keys t') → (i : ℕ) → t i ≡ t' i
  same_leaves w t t' macs c c' e i =
      elim (cases_lt i 16384) [
        | inl lt ↦ same_leaf N M w.keys apart macs t t' i c c' (one_tree N apart (values w.keys t) (values w.keys t') (values_hashes w.keys t) (values_hashes w.keys t') c.nodes c'.nodes e i lt)
        | inr ge ↦ none_is (t i) (t' i) (λ x q. let h = c.leaf i x q in let l = c.label i x q in let lt = h.label in omega arith) (λ x q. let h = c'.leaf i x q in let l = c'.label i x q in let lt = h.label in omega arith)
      ]
    where
      none_is : (a b : Option Contents) → ((x : Contents) → a ≡ Some x → ⊥) → ((x : Contents) → b ≡ Some x → ⊥) → a ≡ b
      none_is None None f g = refl
      none_is (Some x) b f g = absurd (f x refl)
      none_is None (Some y) f g = absurd (g y refl)

  -- the words after an entry whose root is that of the leaves
  pub kept_logged : (w : ChipState) (t t' : ℕ → Option Contents) (e : LogEntry) → Holds N M b s w t → Covered N M w.keys t' → e.root ≡ root (values w.keys t')
      → ((label : ℕ) → is_replayed e label ≡ true → Redone e label t t') → ((i : ℕ) → values w.keys t' i ≡ told e (values w.keys t) i) → Holds N M b s (logged w e) t'
  unfolding logged
  kept_logged w t t' e h c r redone tells =
      on_cond (λ v. Holds N M b s v t') (bytes_eq e.root w.log.newest.root) w (record w { log = pushed w.log e })
      (λ same.
      let q : e.root ≡ w.log.newest.root = (bytes_eq-Decides e.root w.log.newest.root).0 same in
      let each : (i : ℕ) → t i ≡ t' i = same_leaves w t t' h.macs h.covered c (sym h.root ∙ sym q ∙ r) in
      subst (λ f. Holds N M b s w f) (λ i j. each j i) h)
      (λ _. record {
        macs = h.macs;
        boot = h.boot;
        start = h.start;
        small = h.small;
        covered = c;
        root = r;
        past = record { before = t; covered = h.covered; root = h.root; follows = redone; tells = tells };
      })

  -- keys stay
  pub logged_keys : (w : ChipState) (e : LogEntry) → (logged w e).keys ≡ w.keys
  unfolding logged
  logged_keys w e = on_cond (λ v. v.keys ≡ w.keys) (bytes_eq e.root w.log.newest.root) w (record w { log = pushed w.log e }) (λ _. refl) (λ _. refl)

  -- a changed leaf
  pub covered_with : (keys : ChipKeys) (t : ℕ → Option Contents) (label : ℕ) (o : Option Contents) → Covered N M keys t → ((x : Contents) → o ≡ Some x → IsContents x × (x.label ≡ label))
      → ((a : List ℕ) → OnTree (values keys (with_leaf t label o)) a → N a) → ((a : List ℕ) → InLeaves keys (with_leaf t label o) a → M a) → Covered N M keys (with_leaf t label o)
  covered_with keys t label o c known nodes macs =
      let at : (i : ℕ) (x : Contents) → with_leaf t label o i ≡ Some x → IsContents x × (x.label ≡ i) =
      λ i x q. elim (cases_eq i label) [
        | inl same ↦ let p = known x (sym (rw same (set_value_same t label o)) ∙ q) in (p.0, p.1 ∙ sym same)
        | inr ne ↦ let p = sym (set_value_other t label o i ne) ∙ q in (c.leaf i x p, c.label i x p)
      ] in
      record { leaf = λ i x q. (at i x q).0; label = λ i x q. (at i x q).1; nodes = nodes; macs = macs }
