-- The slot of a lock whose value has no entry yet.
use Rattle.std.specs.Prelude.{◌≡◌, List, [], ◌∷◌, Option, Some}
use Rattle.turn_lock.specs.declared.table.Content.{Content}

module _ {T E : Type 0} where
  -- the value, with a chain that has no entry
  abbrev pub blank : T → Content T E
  blank value = record { value = value; chain = [] }

  -- one slot, which has the value with no entry
  abbrev pub HasBlank : List (Option (Content T E)) → T → Type 0
  HasBlank slots value = slots ≡ Some (blank value) ∷ []

  -- a slot that has a value with no entry
  abbrev pub IsBlank : Option (Content T E) → Type 0
  IsBlank slot = (value : T) × (slot ≡ Some (blank value))
