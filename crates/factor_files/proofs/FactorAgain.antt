-- What a factor record was written with is read from it.
use Rattle.std.proofs.Common.{◌≡◌, ℕ, ◌+◌, ◌<◌, ◌^◌, true, List, [], ◌∷◌, ◌++◌, length, Option, Some, None, Ok, refl, sym, ap, ◌∙◌, arith}
use Rattle.std.specs.Prelude.{nat_le, nat_lt, IfSome}
use Rattle.std.specs.Int.{w16, w64, to_be_bytes}
use Rattle.std.proofs.lemmas.Bool.{le-leb, lt-ltb}
use Rattle.std.proofs.lemmas.List.{append-nil}
use Rattle.ct_bytes.specs.Fields.{field8}
use Rattle.ct_bytes.specs.Reading.{Unread}
use Rattle.ct_bytes.proofs.ReadLemmas.{u8_at-front, u16_at-front, u64_at-front, bytes_at-front, end_at-none}
use Rattle.record_fields.proofs.NameLemmas.{label_at-front}
use Rattle.account_machine.specs.declared.factor.Kind.{Kind}
use Rattle.account_machine.specs.declared.factor.Kind.TheVariants.{Password, Pin}
use Rattle.factor_files.specs.declared.factor.FactorRecord.{FactorRecord}
use Rattle.factor_files.specs.Fields.{version_at, kind_at, edition_at, cost_at, leaf_at, number_of}
use Rattle.factor_files.specs.Record.{factor_read, factor_bytes, leaf_bytes, LeafFits, IsFactor, HasFactorSizes}

abbrev unread : ℕ → List ℕ → Unread
unread place left = record { place = place; left = left }

kind_at-front : (place : ℕ) (kind : Kind) (rest : List ℕ) → kind_at (unread place (number_of kind ∷ rest)) ≡ Ok (kind, unread (place + 1) rest)
unfolding kind_at
kind_at-front place Password rest = rw (u8_at-front place 1 rest) refl
kind_at-front place Pin rest = rw (u8_at-front place 2 rest) refl

leaf_at-front : (place : ℕ) (kind : Kind) (leaf : Option ℕ) → LeafFits kind leaf → IfSome leaf (λ label. label < 16384)
    → (end : ℕ) × (leaf_at kind (unread place (leaf_bytes leaf)) ≡ Ok (leaf, unread end []))
unfolding leaf_at
leaf_at-front place Password None fits small = (place, refl)
leaf_at-front place Password (Some label) fits small = absurd fits
leaf_at-front place Pin None fits small = absurd fits
leaf_at-front place Pin (Some label) fits small =
    let whole : to_be_bytes w16 label ≡ to_be_bytes w16 label ++ [] = sym (append-nil (to_be_bytes w16 label)) in
    let low : nat_lt label 16384 ≡ true = lt-ltb _ _ small in
    let short : label < 2 ^ 16 = omega (arith, small) in
    (place + 2, ap (λ left. leaf_at Pin (unread place left)) whole ∙ rw (u16_at-front place label [] short, low) refl)

pub factor_again : (factor : FactorRecord) → IsFactor factor → HasFactorSizes factor → factor_read (factor_bytes factor) ≡ Ok factor
unfolding factor_read factor_bytes version_at edition_at cost_at
factor_again factor is sizes =
    let edition : List ℕ = to_be_bytes w64 factor.edition in
    let behind_salt : List ℕ = leaf_bytes factor.leaf in
    let behind_cost : List ℕ = factor.salt ++ behind_salt in
    let behind_edition : List ℕ = factor.cost ∷ behind_cost in
    let behind_label : List ℕ = edition ++ behind_edition in
    let from : nat_le 1 factor.edition ≡ true = le-leb _ _ is.edition in
    let least : nat_le 1 factor.cost ≡ true = le-leb _ _ is.cost in
    let most : nat_le factor.cost 16 ≡ true = le-leb _ _ is.most in
    let place : ℕ = 0 + 1 + 1 + 1 + length factor.label in
    let leaf = leaf_at-front (place + 8 + 1 + 16) factor.kind factor.leaf is.leaf sizes.leaf in
    rw (
      u8_at-front 0 1 (number_of factor.kind ∷ (field8 factor.label ++ behind_label)),
      kind_at-front (0 + 1) factor.kind (field8 factor.label ++ behind_label),
      label_at-front (0 + 1 + 1) factor.label behind_label is.label,
      u64_at-front place factor.edition behind_edition sizes.edition,
      from,
      u8_at-front (place + 8) factor.cost behind_cost,
      least,
      most,
      bytes_at-front 16 (place + 8 + 1) factor.salt behind_salt sizes.salt,
      leaf.1,
      end_at-none leaf.0,
    ) refl
