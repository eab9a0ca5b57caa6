-- Reading row after row, as a loop does.
use Rattle.std.proofs.Common.{◌≡◌, ℕ, suc, ◌-◌, ◌+◌, ◌≤◌, ◌<◌, List, Result, Ok, refl, sym, ◌∙◌, arith}
use Rattle.ct_bytes.specs.Reading.{Unread, ◌>>=◌}
use Rattle.stash_format.specs.declared.fault.RecordFault.{RecordFault}
use Rattle.stash_format.specs.declared.fault.RecordFault.TheVariants.{BadStash, NoMemory}
use Rattle.stash_format.specs.Faults.{Refuses}
use Rattle.stash_format.specs.Blocks.{Blocks, row_at, blocks_at}
use Rattle.stash_format.specs.Resets.{Resets, reset_row_at, resets_at}

-- what a step refuses, the steps that begin with it refuse
pub refused_first : {A B : Type 0} (fault : RecordFault) (first : Result A RecordFault) (later : A → Result B RecordFault) (total : Result B RecordFault)
    → (first >>= later) ≡ total → Refuses fault first → Refuses fault total
refused_first (BadStash place) first later total is refused = sym is ∙ rw refused refl
refused_first NoMemory first later total is refused = tt

one_less : (count i : ℕ) → i < count → count - i ≡ suc (count - (i + 1))
one_less count i lt = omega arith

pub blocks_on : (count i version next : ℕ) (last label : List ℕ) (blocks after : Blocks) (at rest : Unread) (total : Result (Blocks × Unread) RecordFault)
    → i < count → row_at version next last blocks at ≡ Ok ((label, after), rest) → blocks_at (count - i) version next last blocks at ≡ total
    → blocks_at (count - (i + 1)) version next label after rest ≡ total
unfolding blocks_at
blocks_on count i version next last label blocks after at rest total lt row so_far =
    let k : count - i ≡ suc (count - (i + 1)) = one_less count i lt in
    let one : blocks_at (count - i) version next last blocks at ≡ blocks_at (count - (i + 1)) version next label after rest = rw (k, row) refl in
    sym one ∙ so_far

pub blocks_end : (fault : RecordFault) (count i version next : ℕ) (last : List ℕ) (blocks : Blocks) (at : Unread) (total : Result (Blocks × Unread) RecordFault)
    → i < count → Refuses fault (row_at version next last blocks at) → blocks_at (count - i) version next last blocks at ≡ total → Refuses fault total
unfolding blocks_at
blocks_end fault count i version next last blocks at total lt refused so_far =
    let k : count - i ≡ suc (count - (i + 1)) = one_less count i lt in
    refused_first fault (row_at version next last blocks at) (λ row. blocks_at (count - (i + 1)) version next row.0.0 row.0.1 row.1) total (rw k at so_far) refused

pub blocks_done : (count i version next : ℕ) (last : List ℕ) (blocks : Blocks) (at : Unread) (total : Result (Blocks × Unread) RecordFault)
    → count ≤ i → blocks_at (count - i) version next last blocks at ≡ total → total ≡ Ok (blocks, at)
unfolding blocks_at
blocks_done count i version next last blocks at total le so_far =
    let k : count - i ≡ 0 = omega arith in sym so_far ∙ rw k refl

pub resets_on : (count i : ℕ) (last label : List ℕ) (resets after : Resets) (at rest : Unread) (total : Result (Resets × Unread) RecordFault)
    → i < count → reset_row_at last resets at ≡ Ok ((label, after), rest) → resets_at (count - i) last resets at ≡ total
    → resets_at (count - (i + 1)) label after rest ≡ total
unfolding resets_at
resets_on count i last label resets after at rest total lt row so_far =
    let k : count - i ≡ suc (count - (i + 1)) = one_less count i lt in
    let one : resets_at (count - i) last resets at ≡ resets_at (count - (i + 1)) label after rest = rw (k, row) refl in
    sym one ∙ so_far

pub resets_end : (fault : RecordFault) (count i : ℕ) (last : List ℕ) (resets : Resets) (at : Unread) (total : Result (Resets × Unread) RecordFault)
    → i < count → Refuses fault (reset_row_at last resets at) → resets_at (count - i) last resets at ≡ total → Refuses fault total
unfolding resets_at
resets_end fault count i last resets at total lt refused so_far =
    let k : count - i ≡ suc (count - (i + 1)) = one_less count i lt in
    refused_first fault (reset_row_at last resets at) (λ row. resets_at (count - (i + 1)) row.0.0 row.0.1 row.1) total (rw k at so_far) refused

pub resets_done : (count i : ℕ) (last : List ℕ) (resets : Resets) (at : Unread) (total : Result (Resets × Unread) RecordFault)
    → count ≤ i → resets_at (count - i) last resets at ≡ total → total ≡ Ok (resets, at)
unfolding resets_at
resets_done count i last resets at total le so_far =
    let k : count - i ≡ 0 = omega arith in sym so_far ∙ rw k refl
