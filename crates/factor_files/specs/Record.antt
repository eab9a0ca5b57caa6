-- A factor record: read, spelled, and what it can hold.
use Rattle.std.specs.Prelude.{◌≡◌, ℕ, ◌<◌, ◌≤◌, ◌^◌, List, [], ◌∷◌, ◌++◌, length, Option, Some, None, Result, Ok, Err, IsTrue, IfSome}
use Rattle.std.specs.Result.{result_ok}
use Rattle.std.specs.Int.{w16, w64, to_be_bytes}
use Rattle.ct_bytes.specs.Fields.{field8}
use Rattle.ct_bytes.specs.Reading.{start, bytes_at, end_at, or_fault, ◌>>=◌, ◌>>◌}
use Rattle.home_names.specs.Names.{is_factor_label}
use Rattle.record_fields.specs.Names.{label_at}
use Rattle.account_machine.specs.declared.factor.Kind.{Kind}
use Rattle.account_machine.specs.declared.factor.Kind.TheVariants.{Password, Pin}
use Rattle.factor_files.specs.declared.fault.FactorFault.{FactorFault}
use Rattle.factor_files.specs.declared.fault.FactorFault.TheVariants.{BadRecord, NoMemory}
use Rattle.factor_files.specs.declared.factor.FactorRecord.{FactorRecord}
use Rattle.factor_files.specs.Fields.{bad_at, bad_field, version_at, kind_at, edition_at, cost_at, leaf_at, number_of}

-- what the bytes of a record hold, or the first place that breaks a rule
unfoldable pub factor_read : List ℕ → Result FactorRecord FactorFault
factor_read bytes = do
  version ← version_at (start bytes)
  kind ← kind_at version.1
  label ← or_fault bad_field (label_at kind.1)
  edition ← edition_at label.1
  cost ← cost_at edition.1
  salt ← or_fault bad_at (bytes_at 16 cost.1)
  leaf ← leaf_at kind.0 salt.1
  or_fault bad_at (end_at leaf.1)
  Ok (record { kind = kind.0; label = label.0; edition = edition.0; cost = cost.0; salt = salt.0; leaf = leaf.0 })

-- what the bytes of a record hold, and none where they are outside the grammar
abbrev pub factor_at : List ℕ → Option FactorRecord
factor_at bytes = result_ok (factor_read bytes)

-- reading is refused so, unless there was no memory
abbrev pub Refuses : {A : Type 0} → FactorFault → Result A FactorFault → Type 0
Refuses (BadRecord place) read = read ≡ Err (BadRecord place)
Refuses NoMemory read = Unit {0}

-- a PIN has a tree label, and a password has none
abbrev pub LeafFits : Kind → Option ℕ → Type 0
LeafFits Password None = Unit {0}
LeafFits Password (Some label) = ⊥
LeafFits Pin None = ⊥
LeafFits Pin (Some label) = Unit {0}

-- what a record can hold
pub record IsFactor (factor : FactorRecord) : Type 0 where
  pub label : IsTrue (is_factor_label factor.label)
  pub edition : 1 ≤ factor.edition
  pub cost : 1 ≤ factor.cost
  pub most : factor.cost ≤ 16
  pub leaf : LeafFits factor.kind factor.leaf

-- the sizes of a record's parts, which their types give
pub record HasFactorSizes (factor : FactorRecord) : Type 0 where
  pub edition : factor.edition < 2 ^ 64
  pub salt : length factor.salt ≡ 16
  pub leaf : IfSome factor.leaf (λ label. label < 16384)

-- the tree label, where there is one
abbrev pub leaf_bytes : Option ℕ → List ℕ
leaf_bytes None = []
leaf_bytes (Some label) = to_be_bytes w16 label

-- the record: version, kind, label, edition, cost, salt, tree label
unfoldable pub factor_bytes : FactorRecord → List ℕ
factor_bytes factor =
    (1 ∷ []) ++ ((number_of factor.kind ∷ []) ++ (field8 factor.label ++ (to_be_bytes w64 factor.edition
    ++ ((factor.cost ∷ []) ++ (factor.salt ++ leaf_bytes factor.leaf)))))

-- the most bytes of a record: those of a PIN with a label of 16 bytes
abbrev pub most_factor : ℕ
most_factor = 46
