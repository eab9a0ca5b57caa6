-- Which reset secrets stay where a payload is sealed anew.
use Rattle.std.proofs.Common.{◌≡◌, Bool, true, false, cond, List, [], ◌∷◌, Option, None, Some, refl, sym, ap, ◌∙◌, subst, ◌⊎◌, inl, inr, ⊎_elim}
use Rattle.std.specs.Prelude.{IfSome, filter}
use Rattle.std.specs.List.{AllByRecursion}
use Rattle.std.specs.Ordering.{nat_cmp}
use Rattle.std.specs.Cmp.Lexicographic.{slice_cmp}
use Rattle.std.specs.FinMap.{FinMap, find, empty, entries, get, get-entries, insert}
use Rattle.std.proofs.lemmas.Bool.Decides.{eqb_tells}
use Rattle.std.proofs.lemmas.List.Elements.{recursion_from_All}
use Rattle.secret_stash.specs.Edits.{has_edition, is_live, live_resets}
use Rattle.share_api.specs.Contents.{Bytes}
use Rattle.stash_format.specs.Blocks.{Blocks}
use Rattle.stash_format.specs.Live.{inserted_all}
use Rattle.stash_format.specs.Resets.{Resets}
use Rattle.stash_format.specs.declared.block.Block.{Block}
use Rattle.stash_format.specs.declared.reset.Reset.{Reset}
use Rattle.stash_format.proofs.Rows.{Everywhere-entries}
use Rattle.stored_home.proofs.MapLemmas.{is_at, at_same, same_or_apart, put_at, put_other, not_None, from_some, either}

abbrev Map : Type 0 → Type 0
Map X = FinMap (slice_cmp nat_cmp) X

module _ {X : Type 0} (p : Bytes × X → Bool) (q : Bytes) (x : X) (pass : p (q, x) ≡ true) where
  -- the row is of another name, or has this value
  abbrev Only : Bytes × X → Type 0
  Only row = row.0 ≡ q → row.1 ≡ x

  put_stands : (m : Map X) (row : Bytes × X) → Only row → get m q ≡ Some x → get (insert m row.0 row.1) q ≡ Some x
  put_stands m row only there = ⊎_elim
      (λ e. ap (get (insert m row.0 row.1)) e ∙ put_at m row.0 row.1 ∙ ap Some (only (sym e)))
      (λ away. put_other m row.0 row.1 q away ∙ there)
      (same_or_apart q row.0)

  -- a value that stands stays
  stays : (m : Map X) (rows : List (Bytes × X)) → AllByRecursion Only rows → get m q ≡ Some x
      → get (inserted_all m (filter p rows)) q ≡ Some x
  stays m [] all there = there
  stays m (row ∷ rows) all there = by (λ n h. stays n rows all.1 h) (p row)
    where
      by : ((n : Map X) → get n q ≡ Some x → get (inserted_all n (filter p rows)) q ≡ Some x) → (b : Bool)
          → get (inserted_all m (cond b (row ∷ filter p rows) (filter p rows))) q ≡ Some x
      by rest true = rest (insert m row.0 row.1) (put_stands m row all.0 there)
      by rest false = rest m there

  -- one that is found is put in
  put_in : (m : Map X) (rows : List (Bytes × X)) → AllByRecursion Only rows
      → find (slice_cmp nat_cmp) q rows ≡ Some x → get (inserted_all m (filter p rows)) q ≡ Some x
  put_in m [] all e = absurd (not_None x (sym e))
  put_in m (row ∷ rows) all e = by (λ n found. put_in n rows all.1 found) (either (is_at q row.0))
    where
      rest : ((n : Map X) → find (slice_cmp nat_cmp) q rows ≡ Some x → get (inserted_all n (filter p rows)) q ≡ Some x)
          → find (slice_cmp nat_cmp) q rows ≡ Some x → (b : Bool)
          → get (inserted_all m (cond b (row ∷ filter p rows) (filter p rows))) q ≡ Some x
      rest go found true = go (insert m row.0 row.1) found
      rest go found false = go m found

      here : is_at q row.0 ≡ true → get (inserted_all m (filter p (row ∷ rows))) q ≡ Some x
      here same =
          let name : row.0 ≡ q = sym (at_same q row.0 same) in
          let value : row.1 ≡ x = all.0 name in
          let kept : p row ≡ true = (λ i. p (name i, value i)) ∙ pass in
          subst (λ b. get (inserted_all m (cond b (row ∷ filter p rows) (filter p rows))) q ≡ Some x) (sym kept)
          (stays (insert m row.0 row.1) rows all.1
          (ap (get (insert m row.0 row.1)) (sym name) ∙ put_at m row.0 row.1 ∙ ap Some value))

      by : ((n : Map X) → find (slice_cmp nat_cmp) q rows ≡ Some x → get (inserted_all n (filter p rows)) q ≡ Some x)
          → (is_at q row.0 ≡ true) ⊎ (is_at q row.0 ≡ false)
          → get (inserted_all m (filter p (row ∷ rows))) q ≡ Some x
      by go (inl same) = here same
      by go (inr apart) = rest go
          (sym (ap (λ b. cond b (Some row.1) (find (slice_cmp nat_cmp) q rows)) apart) ∙ e) (p row)

  only_at : (m : Map X) → get m q ≡ Some x → (name : Bytes) (o : Option X) → get m name ≡ o
      → IfSome o (λ v. name ≡ q → v ≡ x)
  only_at m there name None is = tt
  only_at m there name (Some v) is = λ same. from_some v x (sym is ∙ ap (get m) same ∙ there)

  -- a value that passes stays where a map is filtered
  pub filtered : (m : Map X) → get m q ≡ Some x → get (inserted_all empty (filter p (entries m))) q ≡ Some x
  filtered m there = put_in empty (entries m)
      (recursion_from_All Only (entries m)
      (Everywhere-entries (λ name v. name ≡ q → v ≡ x) m (λ name. only_at m there name (get m name) refl)))
      (sym (get-entries m q) ∙ there)

-- a reset secret that a block names by label and edition stays
pub live_there : (blocks : Blocks) (resets : Resets) (label : Bytes) (reset : Reset) (block : Block)
    → get resets label ≡ Some reset → get blocks label ≡ Some block → block.edition ≡ reset.edition
    → get (live_resets blocks resets) label ≡ Some reset
live_there blocks resets label reset block there named same =
    filtered (is_live blocks) label reset
    (ap (λ (o : Option Block). has_edition o reset.edition) named
    ∙ ⊎_elim (λ t. t.0) (λ f. absurd (f.1 same)) (eqb_tells block.edition reset.edition))
    resets there
