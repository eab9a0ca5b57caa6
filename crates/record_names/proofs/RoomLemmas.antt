-- Bytes put behind those that are used.
use Rattle.std.proofs.Common.{◌≡◌, ℕ, ◌+◌, ◌-◌, ◌≤◌, List, ◌++◌, length, take, drop, sym, ap, ◌∙◌, arith}
use Rattle.std.proofs.Math.ListN.{replicate}
use Rattle.std.proofs.lemmas.List.{drop-replicate, drop-drop, length-append, length-take-le, length-drop}
use Rattle.std.proofs.lemmas.Slice.{drop-put_mid}
use borrow.Rule.Slice.PartMut.{put_mid}
use Rattle.record_names.specs.Room.{IsZeroBehind}

length-put_mid : (room bytes : List ℕ) (used k : ℕ) → used + k ≤ length room → length bytes ≡ k → length (put_mid used k room bytes) ≡ length room
length-put_mid room bytes used k fits size =
    let inside : used ≤ length room = omega arith in
    omega (arith, size, length-append (take used room) (bytes ++ drop k (drop used room)), length-append bytes (drop k (drop used room)), length-take-le used room inside, length-drop k (drop used room), length-drop used room)

-- what is behind stays zero, where n bytes are put behind the ones that are used
pub zero_behind_more : (room bytes : List ℕ) (used n k : ℕ) → IsZeroBehind room used → used + n ≤ 166 → k ≡ n → length bytes ≡ k
    → IsZeroBehind (put_mid used k room bytes) (used + n)
zero_behind_more room bytes used n k kept fits e size = record {
  size = length-put_mid room bytes used k (omega (arith, kept.size)) size ∙ kept.size;
  inside = fits;
  behind =
      let inside : used ≤ length room = omega (arith, kept.size, kept.inside) in
      let past : used + k ≤ used + n = omega arith in
      let rest : 166 - used - n ≡ 166 - (used + n) = omega arith in
      drop-put_mid used k room bytes (used + n) past inside size
      ∙ sym (drop-drop n used room)
      ∙ ap (drop n) kept.behind
      ∙ drop-replicate n (166 - used) 0
      ∙ ap (λ (m : ℕ). replicate m 0) rest;
}
