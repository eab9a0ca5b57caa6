-- What is true of each block of a map, label by label and row by row.
use Rattle.std.proofs.Common.{◌≡◌, ℕ, zero, suc, ◌+◌, ◌<◌, ◌≤◌, true, false, cond, List, [], ◌∷◌, Option, Some, None, Result, Ok, refl, sym, ap, subst, ◌∙◌, arith}
use Rattle.std.specs.Prelude.{IsTrue, IfSome, All, nat_lt}
use Rattle.std.specs.List.{AllByRecursion}
use Rattle.std.specs.Ordering.{eq_by_cmp, is_eq}
use Rattle.std.specs.declared.cmp.Ordering.{Ordering}
use Rattle.std.specs.declared.cmp.Ordering.TheVariants.{Less, Equal, Greater}
use Rattle.std.specs.Cmp.{tied_itself}
use Rattle.std.specs.Cmp.Lexicographic.{nat_list_cmp_total}
use Rattle.std.specs.FinMap.{FinMap, empty, entries, insert, remove, get, len, find, is_sorted, get-empty, get-insert, get-remove, get-entries, len-empty, len-insert, len-entries, contains_key, slice_cmp-IsAntisymmetric, nat_cmp-IsAntisymmetric}
use Rattle.std.specs.FinMap.Entries.{below_all}
use Rattle.std.proofs.lemmas.Bool.{and_parts, ltb-true}
use Rattle.std.proofs.lemmas.List.Elements.{All-from_recursion}
use Rattle.name_map.proofs.Maps.{IsRows-entries}
use Rattle.ct_bytes.specs.Reading.{Unread, field8_at, u64_at, rule, ◌>>=◌, ◌>>◌}
use Rattle.ct_bytes.proofs.StepLemmas.{bind-ok, rule_then-ok, step-ok}
use Rattle.home_names.specs.Names.{is_factor_label}
use Rattle.record_fields.specs.Names.{label_at, bad_here}
use Rattle.stash_format.specs.declared.fault.RecordFault.{RecordFault}
use Rattle.stash_format.specs.declared.fault.RecordFault.TheVariants.{BadStash}
use Rattle.stash_format.specs.declared.block.Block.{Block}
use Rattle.ct_bytes.specs.declared.fault.ByteFault.{ByteFault}
use Rattle.stash_format.specs.Faults.{bad_at, bad_field}
use Rattle.stash_format.specs.Fields.{edition_at, form_at, block_at, part_at}
use Rattle.stash_format.specs.Blocks.{Blocks, rises, row_at, blocks_at}
use Rattle.stash_format.specs.declared.contents.Contents.{Contents}
use Rattle.stash_format.specs.Kept.{HasRows, IsStash, HasBoth}
use Rattle.stash_format.specs.Spelled.{IsRow, HasSpelling}
use Rattle.stash_format.proofs.Rising.{order, is_less, entries-empty}

is_equal : (o : Ordering) → is_eq o ≡ true → o ≡ Equal
is_equal Less e = absurd cc
is_equal Equal e = refl
is_equal Greater e = absurd cc

pub same_label : (q label : List ℕ) → eq_by_cmp order q label ≡ true → q ≡ label
same_label q label tie = slice_cmp-IsAntisymmetric nat_cmp-IsAntisymmetric q label (is_equal (order q label) tie)

-- a label ties with itself
tied_with_itself : (label : List ℕ) → eq_by_cmp order label label ≡ true
tied_with_itself label = ap is_eq (tied_itself nat_list_cmp_total label)

ok_is : {A : Type 0} (x y : A) → ◌≡◌ {A = Result A RecordFault} (Ok x) (Ok y) → x ≡ y
ok_is x y e = cc

ap_le : {a b n : ℕ} → a ≡ b → b ≤ n → a ≤ n
ap_le e le = omega arith

pub len-insert-le : {X : Type 0} (m : FinMap order X) (label : List ℕ) (value : X) → len (insert m label value) ≤ len m + 1
len-insert-le m label value =
    rw (len-insert nat_list_cmp_total m label value) (elim (contains_key m label) as (λ b. cond b (len m) (len m + 1) ≤ len m + 1) [ true ↦ omega arith | false ↦ omega arith ])

module _ {X : Type 0} (P : List ℕ → X → Type 0) where
  -- each value of the map has P at its label
  abbrev pub Everywhere : FinMap order X → Type 0
  Everywhere m = (label : List ℕ) → IfSome (get m label) (P label)

  pub Everywhere-empty : Everywhere empty
  Everywhere-empty label = rw (get-empty order label) tt

  pub Everywhere-insert : (m : FinMap order X) (label : List ℕ) (value : X) → Everywhere m → P label value → Everywhere (insert m label value)
  Everywhere-insert m label value all here q =
      rw (get-insert nat_list_cmp_total m label value q) (elim (eq_by_cmp order q label) as (λ b. eq_by_cmp order q label ≡ b → IfSome (cond b (Some value) (get m q)) (P q)) [
        | true ↦ λ tie. subst (λ (l : List ℕ). P l value) (sym (same_label q label tie)) here
        | false ↦ λ _. all q
      ] refl)

  pub Everywhere-remove : (m : FinMap order X) (label : List ℕ) → Everywhere m → Everywhere (remove m label)
  Everywhere-remove m label all q =
      rw (get-remove nat_list_cmp_total m label q) (elim (eq_by_cmp order q label) as (λ b. IfSome (cond b None (get m q)) (P q)) [ true ↦ tt | false ↦ all q ])

  -- in rising entries the first label isn't among the others
  find-above : (label : List ℕ) (es : List (List ℕ × X)) → below_all order label es ≡ true → (q : List ℕ) → eq_by_cmp order q label ≡ true → find order q es ≡ None
  find-above label [] below q tie = refl
  find-above label (e ∷ es) below q tie =
      let parts = and_parts _ _ below in
      let apart : eq_by_cmp order q e.0 ≡ false =
      ap (λ (l : List ℕ). eq_by_cmp order l e.0) (same_label q label tie) ∙ ap is_eq (is_less (order label e.0) parts.0) in
      ap (λ b. cond b (Some e.1) (find order q es)) apart ∙ find-above label es parts.1 q tie

  -- what holds at each label holds of each entry
  entries_all : (es : List (List ℕ × X)) → is_sorted order es ≡ true → ((q : List ℕ) → IfSome (find order q es) (P q)) → AllByRecursion (λ (e : List ℕ × X). P e.0 e.1) es
  entries_all [] sorted all = tt
  entries_all (e ∷ es) sorted all =
      let parts = and_parts _ _ sorted in
      let here : find order e.0 (e ∷ es) ≡ Some e.1 = ap (λ b. cond b (Some e.1) (find order e.0 es)) (tied_with_itself e.0) in (
        subst (λ (o : Option X). IfSome o (P e.0)) here (all e.0),
        entries_all es parts.1 (λ q. elim (eq_by_cmp order q e.0) as (λ b. eq_by_cmp order q e.0 ≡ b → IfSome (find order q es) (P q)) [
          | true ↦ λ tie. rw (find-above e.0 es parts.0 q tie) tt
          | false ↦ λ apart. subst (λ (o : Option X). IfSome o (P q)) (ap (λ b. cond b (Some e.1) (find order q es)) apart) (all q)
        ] refl),
      )

  pub Everywhere-entries : (m : FinMap order X) → Everywhere m → All (λ (e : List ℕ × X). P e.0 e.1) (entries m)
  Everywhere-entries m all =
      All-from_recursion (λ (e : List ℕ × X). P e.0 e.1) (entries m)
      (entries_all (entries m) (IsRows-entries m) (λ q. subst (λ (o : Option X). IfSome o (P q)) (get-entries m q) (all q)))

-- ---- what reading gives

label-ok : (at : Unread) (x : List ℕ × Unread) → label_at at ≡ Ok x → is_factor_label x.0 ≡ true
unfolding label_at
label-ok at x is =
    let a = step-ok (λ (fault : ByteFault). bad_here at) (field8_at at) (λ name. rule (is_factor_label name.0) (bad_here at) >> Ok name) x is in
    let b = rule_then-ok (is_factor_label a.0.0) (bad_here at) (Ok a.0) x a.2 in
    let same : a.0 ≡ x = cc in
    subst (λ (y : List ℕ × Unread). is_factor_label y.0 ≡ true) same b.0

edition-ok : (next : ℕ) (at : Unread) (x : ℕ × Unread) → edition_at next at ≡ Ok x → x.0 < next
unfolding edition_at
edition-ok next at x is =
    let a = step-ok bad_at (u64_at at) (λ number. rule (nat_lt number.0 next) (BadStash at.place) >> Ok number) x is in
    let b = rule_then-ok (nat_lt a.0.0 next) (BadStash at.place) (Ok a.0) x a.2 in
    let same : a.0 ≡ x = cc in
    subst (λ (y : ℕ × Unread). y.0 < next) same (ltb-true _ _ b.0)

block-ok : (version next : ℕ) (at : Unread) (x : Block × Unread) → block_at version next at ≡ Ok x → x.0.edition < next
unfolding block_at
block-ok version next at x is =
    let a = bind-ok (edition_at next at) (λ edition. form_at version edition.1 >>= λ form. part_at 12 form.1 >>= λ iv. part_at 32 iv.1 >>= λ text. part_at 16 text.1 >>= λ tag.
    Ok (record { edition = edition.0; form = form.0; iv = iv.0; text = text.0; tag = tag.0 }, tag.1)) x is in
    let b = bind-ok (form_at version a.0.1) (λ form. part_at 12 form.1 >>= λ iv. part_at 32 iv.1 >>= λ text. part_at 16 text.1 >>= λ tag.
    Ok (record { edition = a.0.0; form = form.0; iv = iv.0; text = text.0; tag = tag.0 }, tag.1)) x a.2 in
    let d = bind-ok (part_at 12 b.0.1) (λ iv. part_at 32 iv.1 >>= λ text. part_at 16 text.1 >>= λ tag.
    Ok (record { edition = a.0.0; form = b.0.0; iv = iv.0; text = text.0; tag = tag.0 }, tag.1)) x b.2 in
    let e = bind-ok (part_at 32 d.0.1) (λ text. part_at 16 text.1 >>= λ tag.
    Ok (record { edition = a.0.0; form = b.0.0; iv = d.0.0; text = text.0; tag = tag.0 }, tag.1)) x d.2 in
    let f = bind-ok (part_at 16 e.0.1) (λ tag.
    Ok (record { edition = a.0.0; form = b.0.0; iv = d.0.0; text = e.0.0; tag = tag.0 }, tag.1)) x e.2 in
    let made : Block × Unread = (record { edition = a.0.0; form = b.0.0; iv = d.0.0; text = e.0.0; tag = f.0.0 }, f.0.1) in
    let same : made ≡ x = ok_is made x f.2 in
    subst (λ (y : Block × Unread). y.0.edition < next) same (edition-ok next at a.0 a.1)

-- a row that is read puts a block of a label to those before
row-ok : (version next : ℕ) (last : List ℕ) (blocks : Blocks) (at : Unread) (x : (List ℕ × Blocks) × Unread) → row_at version next last blocks at ≡ Ok x
    → (block : Block) × (x.0.1 ≡ insert blocks x.0.0 block) × (is_factor_label x.0.0 ≡ true) × (block.edition < next)
unfolding row_at
row-ok version next last blocks at x is =
    let a = step-ok bad_field (label_at at) (λ label. rule (rises last label.0) (BadStash at.place) >> (block_at version next label.1 >>= λ block. Ok ((label.0, insert blocks label.0 block.0), block.1))) x is in
    let b = rule_then-ok (rises last a.0.0) (BadStash at.place) (block_at version next a.0.1 >>= λ block. Ok ((a.0.0, insert blocks a.0.0 block.0), block.1)) x a.2 in
    let d = bind-ok (block_at version next a.0.1) (λ block. Ok ((a.0.0, insert blocks a.0.0 block.0), block.1)) x b.1 in
    let made : (List ℕ × Blocks) × Unread = ((a.0.0, insert blocks a.0.0 d.0.0), d.0.1) in
    let same : made ≡ x = ok_is made x d.2 in (
      d.0.0,
      subst (λ (y : (List ℕ × Blocks) × Unread). y.0.1 ≡ insert blocks y.0.0 d.0.0) same refl,
      subst (λ (y : (List ℕ × Blocks) × Unread). is_factor_label y.0.0 ≡ true) same (label-ok at a.0 a.1),
      block-ok version next a.0.1 d.0 d.1,
    )

-- whether a label and a block may stand in a record
abbrev pub MayStand : ℕ → List ℕ → Block → Type 0
MayStand next label block = IsTrue (is_factor_label label) × (block.edition < next)

rows_more : (count version next : ℕ) (last : List ℕ) (blocks : Blocks) (at : Unread) (x : Blocks × Unread) → blocks_at count version next last blocks at ≡ Ok x
    → HasRows next blocks → HasRows next x.0 × (len x.0 ≤ len blocks + count)
unfolding blocks_at
rows_more zero version next last blocks at x is all =
    let same : (blocks, at) ≡ x = ok_is (blocks, at) x is in
    subst (λ (y : Blocks × Unread). HasRows next y.0 × (len y.0 ≤ len blocks + 0)) same (all, omega arith)
rows_more (suc count) version next last blocks at x is all =
    let a = bind-ok (row_at version next last blocks at) (λ row. blocks_at count version next row.0.0 row.0.1 row.1) x is in
    let r = row-ok version next last blocks at a.0 a.1 in
    let here : HasRows next a.0.0.1 = subst (λ (m : Blocks). HasRows next m) (sym r.1) (Everywhere-insert (MayStand next) blocks a.0.0.0 r.0 all (r.2, r.3)) in
    let rest = rows_more count version next a.0.0.0 a.0.0.1 a.0.1 x a.2 here in
    let grown : len a.0.0.1 ≤ len blocks + 1 = ap_le (ap len r.1) (len-insert-le blocks a.0.0.0 r.0) in
    (rest.0, omega (arith, rest.1, grown))

-- blocks that are read stand under labels, with editions below the next
pub rows_read : (count version next : ℕ) (at rest : Unread) (blocks : Blocks) → blocks_at count version next [] empty at ≡ Ok (blocks, rest) → HasRows next blocks
rows_read count version next at rest blocks is = (rows_more count version next [] empty at (blocks, rest) is (Everywhere-empty (MayStand next))).0

-- and are no more than were to be read
pub few_read : (count version next : ℕ) (at rest : Unread) (blocks : Blocks) → blocks_at count version next [] empty at ≡ Ok (blocks, rest) → len blocks ≤ count
few_read count version next at rest blocks is =
    omega (arith, (rows_more count version next [] empty at (blocks, rest) is (Everywhere-empty (MayStand next))).1, len-empty order Block)

pub HasRows_empty : (next : ℕ) → HasRows next empty
HasRows_empty next = Everywhere-empty (MayStand next)

pub few_empty : len (empty {K = List ℕ} {X = Block} {R = order}) ≤ 32
few_empty = omega (arith, len-empty order Block)

rows_all : (next : ℕ) (es : List (List ℕ × Block)) → All (λ (e : List ℕ × Block). MayStand next e.0 e.1) es → All (IsRow next) es
rows_all next es all k d lt = let here = all k d lt in record { label = here.0; edition = here.1 }

-- contents that are kept have a spelling, where payload and blocks are there together
pub spelling_of : (contents : Contents) → IsStash contents → HasBoth contents → HasSpelling contents
spelling_of contents kept both =
    record {
      account = kept.account;
      next = kept.next;
      text = kept.text;
      rows = rows_all contents.next (entries contents.blocks) (Everywhere-entries (MayStand contents.next) contents.blocks kept.rows);
      few = omega (arith, kept.few, len-entries contents.blocks);
      none = λ none. ap entries (both.none none) ∙ entries-empty;
      some = λ some. omega (arith, both.some some, len-entries contents.blocks);
    }
