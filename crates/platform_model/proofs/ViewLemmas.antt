-- What an account sees of one changed label.
use Rattle.std.proofs.Common.{◌≡◌, ◌≢◌, ℕ, inl, inr, cond, eqb, Option, Some, None, refl, sym, ◌∙◌, ap}
use Rattle.std.specs.Prelude.{option_map}
use Rattle.std.proofs.lemmas.Bool.{cases_eq, eq-eqb, ne_eqb}
use Rattle.pw_path.proofs.TreeLemmas.{set_value_other, set_value_same}
use Rattle.pw_leaf.specs.Contents.{Contents}
use Rattle.pw_chip.specs.Ledger.{with_leaf}
use Rattle.pin_recovery.specs.Devices.{Leaves}
use Rattle.platform_model.specs.Views.{Records, plain, owned}
use Rattle.platform_model.specs.Steps.{with_records, with_plain}

-- a label with an owner
abbrev with_owner : (ℕ → ℕ) → ℕ → ℕ → ℕ → ℕ
with_owner owners label account i = cond (eqb i label) account (owners i)

module _ (owners : ℕ → ℕ) (t : Leaves) (label : ℕ) where
  -- a label of the account shows its leaf
  owned_own : (a : ℕ) → owners label ≡ a → owned owners t a label ≡ option_map plain (t label)
  owned_own a e = rw (eq-eqb (owners label) a e) refl

  -- another account's label shows none
  owned_none : (a : ℕ) → owners label ≢ a → owned owners t a label ≡ None
  owned_none a ne = rw (ne_eqb (owners label) a ne) refl

  -- nor does a label without a leaf
  owned_empty : (a : ℕ) → t label ≡ None → owned owners t a label ≡ None
  owned_empty a e =
      elim (cases_eq (owners label) a) [
        | inl same ↦ owned_own a same ∙ ap (option_map plain) e
        | inr ne ↦ owned_none a ne
      ]

-- the label's owner sees the change
pub view_changed : (owners : ℕ → ℕ) (t : Leaves) (label a : ℕ) (o : Option Contents) → owners label ≡ a
    → owned owners (with_leaf t label o) a ≡ with_plain (owned owners t a) label (option_map plain o)
view_changed owners t label a o e =
    let at : (i : ℕ) → owned owners (with_leaf t label o) a i ≡ with_plain (owned owners t a) label (option_map plain o) i =
    λ i. elim (cases_eq i label) [
      | inl same ↦
          rw same (owned_own owners (with_leaf t label o) label a e ∙ ap (option_map plain) (set_value_same t label o) ∙ sym (set_value_same (owned owners t a) label (option_map plain o)))
      | inr ne ↦
          ap (λ z. cond (eqb (owners i) a) (option_map plain z) None) (set_value_other t label o i ne) ∙ sym (set_value_other (owned owners t a) label (option_map plain o) i ne)
    ] in
    λ j i. at i j

-- no other account does
pub view_other : (owners : ℕ → ℕ) (t : Leaves) (label b : ℕ) (o : Option Contents) → owners label ≢ b → owned owners (with_leaf t label o) b ≡ owned owners t b
view_other owners t label b o ne =
    let at : (i : ℕ) → owned owners (with_leaf t label o) b i ≡ owned owners t b i =
    λ i. elim (cases_eq i label) [
      | inl same ↦ rw same (owned_none owners (with_leaf t label o) label b ne ∙ sym (owned_none owners t label b ne))
      | inr away ↦ ap (λ z. cond (eqb (owners i) b) (option_map plain z) None) (set_value_other t label o i away)
    ] in
    λ j i. at i j

-- ---- a label that gets an owner

module _ (owners : ℕ → ℕ) (t : Leaves) (label a : ℕ) (free : t label ≡ None) where
  -- as long as it isn't used, nobody sees it
  pub view_unused : (b : ℕ) → owned (with_owner owners label a) t b ≡ owned owners t b
  view_unused b =
      let at : (i : ℕ) → owned (with_owner owners label a) t b i ≡ owned owners t b i =
      λ i. elim (cases_eq i label) [
        | inl same ↦ rw same (owned_empty (with_owner owners label a) t label b free ∙ sym (owned_empty owners t label b free))
        | inr ne ↦ ap (λ o. cond (eqb o b) (option_map plain (t i)) None) (set_value_other owners label a i ne)
      ] in
      λ j i. at i j

  -- its owner sees the leaf that is inserted
  pub view_inserted : (x : Contents) → owned (with_owner owners label a) (with_leaf t label (Some x)) a ≡ with_plain (owned owners t a) label (Some (plain x))
  view_inserted x =
      view_changed (with_owner owners label a) t label a (Some x) (set_value_same owners label a)
      ∙ ap (λ v. with_plain v label (Some (plain x))) (view_unused a)

  -- no other account does
  pub view_inserted_other : (x : Contents) (b : ℕ) → b ≢ a → owned (with_owner owners label a) (with_leaf t label (Some x)) b ≡ owned owners t b
  view_inserted_other x b ne =
      view_other (with_owner owners label a) t label b (Some x) (λ e. ne (sym e ∙ set_value_same owners label a)) ∙ view_unused b

-- ---- records

-- an account's new records
pub records_own : (records : ℕ → Records) (a : ℕ) (new : Records) → with_records records a new a ≡ new
records_own records a new = set_value_same records a new

-- the other accounts keep theirs
pub records_other : (records : ℕ → Records) (a : ℕ) (new : Records) (b : ℕ) → b ≢ a → with_records records a new b ≡ records b
records_other records a new b ne = set_value_other records a new b ne
