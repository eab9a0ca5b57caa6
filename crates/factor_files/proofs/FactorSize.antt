-- How long a factor record is.
use Rattle.std.proofs.Common.{◌≡◌, ℕ, suc, ◌≤◌, List, ◌∷◌, ◌++◌, length, Option, Some, None, refl, arith}
use Rattle.std.specs.Int.{w16, w64, to_be_bytes}
use Rattle.std.proofs.lemmas.Bool.{and_parts, leb-true}
use Rattle.std.proofs.lemmas.List.{length-append}
use Rattle.ct_bytes.specs.Fields.{field8}
use Rattle.factor_files.specs.declared.factor.FactorRecord.{FactorRecord}
use Rattle.factor_files.specs.Record.{factor_bytes, leaf_bytes, most_factor, IsFactor, HasFactorSizes}

-- a tree label has two bytes, where there is one
leaf_within : (leaf : Option ℕ) → length (leaf_bytes leaf) ≤ 2
leaf_within None = omega arith
leaf_within (Some label) = let two : length (to_be_bytes w16 label) ≡ 2 = refl in omega (arith, two)

-- a record has at most 46 bytes
pub factor_within : (factor : FactorRecord) → IsFactor factor → HasFactorSizes factor → length (factor_bytes factor) ≤ most_factor
unfolding factor_bytes
factor_within factor is sizes =
    let edition : List ℕ = to_be_bytes w64 factor.edition in
    let behind : List ℕ = factor.cost ∷ (factor.salt ++ leaf_bytes factor.leaf) in
    let eight : length edition ≡ 8 = refl in
    let named : length (field8 factor.label) ≡ suc (length factor.label) = refl in
    let short : length factor.label ≤ 16 = leb-true _ _ (and_parts _ _ (and_parts _ _ is.label).0).1 in
    let front = length-append (field8 factor.label) (edition ++ behind) in
    let middle = length-append edition behind in
    let end = length-append factor.salt (leaf_bytes factor.leaf) in
    omega (arith, front, middle, end, eight, named, short, sizes.salt, leaf_within factor.leaf)
