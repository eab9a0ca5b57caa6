-- Payload and blocks of a stash stay together.
use Rattle.std.proofs.Common.{◌≡◌, ◌+◌, ◌-◌, ◌≤◌, Option, Bool, true, false, cond, sym, ap, ◌∙◌, ⊎_elim, arith}
use Rattle.std.specs.Prelude.{IsSome, is_some}
use Rattle.std.specs.Ordering.{nat_cmp}
use Rattle.std.specs.Cmp.Lexicographic.{slice_cmp, nat_list_cmp_total}
use Rattle.std.specs.FinMap.{FinMap, get, insert, remove, len, contains_key, len-insert, len-remove, same_map, slice_cmp-IsAntisymmetric, nat_cmp-IsAntisymmetric}
use Rattle.secret_stash.specs.Edits.{with_block, without_block}
use Rattle.share_api.specs.Contents.{Bytes}
use Rattle.sealed_text.specs.declared.sealed.Sealed.{Sealed}
use Rattle.stash_format.specs.Kept.{HasBoth}
use Rattle.stash_format.specs.declared.block.Block.{Block}
use Rattle.stash_format.specs.declared.contents.Contents.{Contents as Stash}
use Rattle.stored_home.specs.Changes.{stash_with}
use Rattle.stored_home.proofs.MapLemmas.{same_or_apart, put_at, put_other, taken_at, taken_other, some_not_None}

module _ {X : Type 0} (m : FinMap (slice_cmp nat_cmp) X) (name : Bytes) where
  -- a map in which a value was put has a name
  one_there : (x : X) → 1 ≤ len (insert m name x)
  one_there x =
      let same : insert (remove m name) name x ≡ insert m name x =
      same_map nat_list_cmp_total (slice_cmp-IsAntisymmetric nat_cmp-IsAntisymmetric) (insert (remove m name) name x)
      (insert m name x)
      (λ q. ⊎_elim
      (λ e. ap (get (insert (remove m name) name x)) e ∙ put_at (remove m name) name x ∙ sym (put_at m name x) ∙ ap
      (get (insert m name x)) (sym e))
      (λ away. put_other (remove m name) name x q away ∙ taken_other m name q away ∙ sym (put_other m name x q away))
      (same_or_apart q name)) in
      let size : len (insert (remove m name) name x) ≡ len (remove m name) + 1 =
      len-insert nat_list_cmp_total (remove m name) name x
      ∙ ap (λ (o : Option X). cond (is_some o) (len (remove m name)) (len (remove m name) + 1)) (taken_at m name) in
      let sizes : len (insert (remove m name) name x) ≡ len (insert m name x) = ap
      (λ (n : FinMap (slice_cmp nat_cmp) X). len n) same in
      omega (arith, size, sizes)

  -- of two names one is left
  one_left : 2 ≤ len m → 1 ≤ len (remove m name)
  one_left two = by (contains_key m name) (len-remove nat_list_cmp_total m name)
    where
      by : (b : Bool) → len (remove m name) ≡ cond b (len m - 1) (len m) → 1 ≤ len (remove m name)
      by true e = omega (arith, e, two)
      by false e = omega (arith, e, two)

-- a stash with a payload to which a block was added
pub both_with : (stash : Stash) (payload : Option Sealed) (label : Bytes) (block : Block) → IsSome payload
    → HasBoth (stash_with stash payload label block)
both_with stash payload label block some = record {
  none = λ e. absurd (some_not_None payload some e);
  some = λ _. one_there stash.blocks label block;
}

-- and one from which a block of several was taken
pub both_without : (stash : Stash) (label : Bytes) → IsSome stash.payload → 2 ≤ len stash.blocks → HasBoth
    (without_block stash label)
both_without stash label some two = record {
  none = λ e. absurd (some_not_None stash.payload some e);
  some = λ _. one_left stash.blocks label two;
}

-- a stash in which a block was put beside the payload
pub both_sealed : (stash : Stash) (label : Bytes) (block : Block) → IsSome stash.payload → HasBoth
    (with_block stash label block)
both_sealed stash label block some = record {
  none = λ e. absurd (some_not_None stash.payload some e);
  some = λ _. one_there stash.blocks label block;
}
