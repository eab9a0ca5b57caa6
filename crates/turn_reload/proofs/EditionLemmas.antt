-- Editions side by side, and beside those of a durable part.
use Rattle.std.proofs.Common.{◌≡◌, ℕ, zero, suc, ◌+◌, ◌<◌, ◌≤◌, List, [], ◌∷◌, map, length, Option, None, Some, Bool, true, false, refl, sym, ap, ◌∙◌, subst, ⊎_elim, true≢false, arith}
use Rattle.std.proofs.lemmas.List.{length-map}
use Rattle.std.proofs.lemmas.Bool.{cases_lt}
use Rattle.std.specs.Prelude.{slice_get, option_map, if◌then◌else◌}
use Rattle.std.specs.Ordering.{nat_cmp}
use Rattle.std.specs.Cmp.Lexicographic.{slice_cmp, nat_list_cmp_total}
use Rattle.std.specs.FinMap.{FinMap, get, entries, len, len-entries, same_entries_map, same_map, slice_cmp-IsAntisymmetric, nat_cmp-IsAntisymmetric}
use Rattle.name_map.specs.Mapped.{map_values}
use Rattle.name_map.proofs.MappedLemmas.{entries-map_values, get-map_values}
use Rattle.account_machine.specs.declared.factor.Factor.{Factor}
use Rattle.account_machine.specs.declared.user.Durable.{Durable}
use Rattle.share_api.specs.Contents.{Bytes, Contents, settled}
use Rattle.stash_format.specs.declared.block.Block.{Block}
use Rattle.stash_format.specs.declared.contents.Contents.{Contents as Stash}
use Rattle.stored_home.specs.Holds.{Keys, HasStash, HoldsStash, HoldsBy, HoldsUnder, IsBlockOf}
use Rattle.stored_home.specs.Matching.{Matches}
use Rattle.stored_home.proofs.FrameLemmas.{same_stash}
use Rattle.stored_home.proofs.MapLemmas.{from_some, not_None}
use Rattle.user_state.specs.Fits.{Tally, tally_of, tally_in}
use Rattle.turn_reload.specs.Editions.{editions_in}

abbrev edition_of : Block → ℕ
edition_of block = block.edition

-- ---- two stashes

-- a label with its block's edition
abbrev pair_of : Bytes → Block → Bytes × ℕ
pair_of label block = (label, block.edition)

-- what stands at a place of the editions
edition_at : (stash : Stash) (at : ℕ) (label : Bytes) (block : Block) → slice_get (entries stash.blocks) at ≡ Some (label, block)
    → slice_get (editions_in stash) at ≡ Some (pair_of label block)
edition_at stash at label block is = by (entries stash.blocks) at is
  where
    by : (es : List (Bytes × Block)) (k : ℕ) → slice_get es k ≡ Some (label, block)
        → slice_get (map (λ (e : Bytes × Block). pair_of e.0 e.1) es) k ≡ Some (pair_of label block)
    by [] k e = absurd (not_None (label, block) (sym e))
    by (x ∷ xs) zero e = ap (λ (y : Bytes × Block). Some (pair_of y.0 y.1)) (from_some x (label, block) e)
    by (x ∷ xs) (suc k) e = by xs k e

module _ (one other : Stash) (at : ℕ) (label another : Bytes) (block second : Block) (edition later : ℕ)
    (is : slice_get (entries one.blocks) at ≡ Some (label, block)) (of_block : edition ≡ block.edition)
    (stands : slice_get (entries other.blocks) at ≡ Some (another, second)) (of_second : later ≡ second.edition) where
  -- blocks of one label and one edition are the same at the place
  pub place_same : label ≡ another → edition ≡ later → slice_get (editions_in one) at ≡ slice_get (editions_in other) at
  place_same labels editions =
      let number : block.edition ≡ second.edition = sym of_block ∙ editions ∙ of_second in
      let pairs : pair_of label block ≡ pair_of another second = λ i. (labels i, number i) in
      edition_at one at label block is ∙ ap (λ (p : Bytes × ℕ). Some p) pairs ∙ sym (edition_at other at another second stands)

  -- and others aren't
  pub place_tells : slice_get (editions_in one) at ≡ slice_get (editions_in other) at → (label ≡ another) × (edition ≡ later)
  place_tells same =
      let pairs : pair_of label block ≡ pair_of another second = from_some (pair_of label block) (pair_of another second)
      (sym (edition_at one at label block is) ∙ same ∙ edition_at other at another second stands) in (
        ap (λ (p : Bytes × ℕ). p.0) pairs,
        of_block ∙ ap (λ (p : Bytes × ℕ). p.1) pairs ∙ sym of_second,
      )

-- lists that have the same at each place are one
pub same_places : {X : Type 0} (xs ys : List X) → length xs ≡ length ys
    → ((k : ℕ) → k < length xs → slice_get xs k ≡ slice_get ys k) → xs ≡ ys
same_places [] [] size same = refl
same_places [] (y ∷ ys) size same = absurd (let e = size in omega (arith, e))
same_places (x ∷ xs) [] size same = absurd (let e = size in omega (arith, e))
same_places (x ∷ xs) (y ∷ ys) size same =
    let head : x ≡ y = from_some x y (same zero (omega arith)) in
    let rest : xs ≡ ys = same_places xs ys (let e = size in omega (arith, e)) (λ k within. same (suc k) (let lt = within in omega (arith, lt))) in
    λ i. head i ∷ rest i

pub editions_size : (stash : Stash) → length (editions_in stash) ≡ len stash.blocks
editions_size stash = length-map (entries stash.blocks) (λ (e : Bytes × Block). (e.0, e.1.edition)) ∙ sym (len-entries stash.blocks)

-- one place more is the same
pub one_more : (one other : Stash) (at : ℕ)
    → ((k : ℕ) → k < at → slice_get (editions_in one) k ≡ slice_get (editions_in other) k)
    → slice_get (editions_in one) at ≡ slice_get (editions_in other) at
    → (k : ℕ) → k < at + 1 → slice_get (editions_in one) k ≡ slice_get (editions_in other) k
one_more one other at before here k within = ⊎_elim
    (λ lt. before k lt)
    (λ ge. let above = ge in let same : k ≡ at = omega (arith, within, above) in
    subst (λ (n : ℕ). slice_get (editions_in one) n ≡ slice_get (editions_in other) n) (sym same) here)
    (cases_lt k at)

-- the same at all places
pub all_same : (one other : Stash) (at : ℕ) → len one.blocks ≡ len other.blocks → len one.blocks ≤ at
    → ((k : ℕ) → k < at → slice_get (editions_in one) k ≡ slice_get (editions_in other) k) → editions_in one ≡ editions_in other
all_same one other at size past same = same_places (editions_in one) (editions_in other) (editions_size one ∙ size ∙ sym (editions_size other))
    (λ k within. let lt = within in let all = editions_size one in same k (omega (arith, lt, all, past)))

-- stashes of one next edition and the same editions have one tally
pub same_tally : (one other : Stash) → one.next ≡ other.next → editions_in one ≡ editions_in other
    → tally_in (Some one) ≡ tally_in (Some other)
same_tally one other next same =
    let maps : map_values edition_of one.blocks ≡ map_values edition_of other.blocks =
    same_entries_map (map_values edition_of one.blocks) (map_values edition_of other.blocks)
    (entries-map_values edition_of one.blocks ∙ same ∙ sym (entries-map_values edition_of other.blocks)) in
    λ i. Some (next i, maps i)

next_of : Tally → ℕ
next_of None = 0
next_of (Some t) = t.0

-- and those of one tally have these
pub tally_next : (one other : Stash) → tally_in (Some one) ≡ tally_in (Some other) → one.next ≡ other.next
unfolding next_of
tally_next one other e = ap next_of e

pub tally_editions : (one other : Stash) → tally_in (Some one) ≡ tally_in (Some other) → editions_in one ≡ editions_in other
tally_editions one other e =
    let maps : map_values edition_of one.blocks ≡ map_values edition_of other.blocks =
    ap (λ (t : ℕ × FinMap (slice_cmp nat_cmp) ℕ). t.1)
    (from_some (one.next, map_values edition_of one.blocks) (other.next, map_values edition_of other.blocks) e) in
    sym (entries-map_values edition_of one.blocks) ∙ ap entries maps ∙ entries-map_values edition_of other.blocks

pub no_tally : (stash : Stash) → tally_in (Some stash) ≡ tally_in None → ⊥
no_tally stash e = not_None (stash.next, map_values edition_of stash.blocks) e

-- ---- a stash beside a durable part

module _ (lost : Bool) (c : Contents) (account : Bytes) (held : Durable) (keys : Keys) where
  same_edition : (stash : Stash) (holds : HoldsBy lost (settled c) account held keys stash) (label : Bytes) (x : Option Block) (y : Option Factor)
      → Matches (IsBlockOf lost c.records (settled c).leaves account keys.main holds.resets label) x y
      → option_map edition_of x ≡ option_map (λ (f : Factor). f.edition) y
  same_edition stash holds label None None h = refl
  same_edition stash holds label None (Some f) h = absurd h
  same_edition stash holds label (Some b) None h = absurd h
  same_edition stash holds label (Some b) (Some f) h = ap (λ (n : ℕ). Some n) h.edition

  abbrev full : Tally
  full = Some (held.next, map_values (λ (f : Factor). f.edition) held.factors)

  tally_made : (made : Bool) → made ≡ true → (if made then full else None) ≡ full
  tally_made true e = refl
  tally_made false e = absurd (true≢false (sym e))

  by_stash : (stash : Option Stash) → HoldsStash lost (settled c) account held keys stash → tally_in stash ≡ tally_of held
  by_stash None h = sym (ap tally_of h)
  by_stash (Some stash) h =
      let maps : map_values edition_of stash.blocks ≡ map_values (λ (f : Factor). f.edition) held.factors =
      same_map nat_list_cmp_total (slice_cmp-IsAntisymmetric nat_cmp-IsAntisymmetric) (map_values edition_of stash.blocks)
      (map_values (λ (f : Factor). f.edition) held.factors)
      (λ label. get-map_values edition_of stash.blocks label ∙ same_edition stash h label (get stash.blocks label) (get held.factors label) (h.blocks label)
      ∙ sym (get-map_values (λ (f : Factor). f.edition) held.factors label)) in
      let next = h.next in
      (λ i. Some (next i, maps i)) ∙ sym (tally_made held.made h.made)

  -- the editions of the stash that is there are those of the durable part that is held
  pub tally_held : (stash : Option Stash) → HasStash c.records account stash → HoldsUnder lost c account held keys → tally_in stash ≡ tally_of held
  tally_held stash there h =
      by_stash stash (subst (HoldsStash lost (settled c) account held keys) (same_stash c.records account h.stash stash h.there there) h.holds)
