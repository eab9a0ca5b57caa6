-- What an outline has of maps, from their rows.
use Rattle.std.proofs.Common.{◌≡◌, ℕ, Bool, List, [], ◌∷◌, map, cond, length, refl, ap, sym, ◌∙◌}
use Rattle.std.specs.Prelude.{◌+◌, ◌||◌, count_by, bytes_eq}
use Rattle.std.specs.List.{list_any, fold}
use Rattle.std.specs.FinMap.{FinMap, entries, len, keys, values, len-entries}
use Rattle.std.proofs.lemmas.List.{length-map}
use Rattle.name_map.specs.Mapped.{map_values}
use Rattle.name_map.proofs.RowLemmas.{Name, order}
use Rattle.name_map.proofs.MappedLemmas.{entries-map_values}
use Rattle.account_machine.specs.declared.factor.Mark.{Mark}
use Rattle.account_machine.specs.Outline.{pins, passwords, has_name, is_pin_kind, is_password_kind}

-- counting by what is made of each is counting what is made
count_made : {A B : Type 0} (p : B → Bool) (f : A → B) (xs : List A)
    → count_by p (map f xs) ≡ count_by (λ x. p (f x)) xs
count_made {A} {B} p f xs = go 0 xs
  where
    go : (start : ℕ) (ys : List A)
        → fold (λ n y. n + cond (p y) 1 0) start (map f ys) ≡ fold (λ n x. n + cond (p (f x)) 1 0) start ys
    go start [] = refl
    go start (y ∷ ys) = go (start + cond (p (f y)) 1 0) ys

any_made : {A B : Type 0} (p : B → Bool) (f : A → B) (xs : List A)
    → list_any p (map f xs) ≡ list_any (λ x. p (f x)) xs
any_made p f [] = refl
any_made p f (x ∷ xs) = ap (λ b. p (f x) || b) (any_made p f xs)

module _ {V : Type 0} (mark : V → Mark) (rows : FinMap order V) where
  counted : (p : Mark → Bool)
      → count_by p (values (map_values mark rows)) ≡ count_by (λ (row : Name × V). p (mark row.1)) (entries rows)
  counted p =
      ap (λ (made : List (Name × Mark)). count_by p (map (λ (e : Name × Mark). e.1) made))
      (entries-map_values mark rows)
      ∙ count_made p (λ (e : Name × Mark). e.1) (map (λ (e : Name × V). (e.0, mark e.1)) (entries rows))
      ∙ count_made (λ (e : Name × Mark). p e.1) (λ (e : Name × V). (e.0, mark e.1)) (entries rows)

  -- how many are marked as PINs
  pub pins_marked : pins (map_values mark rows) ≡ count_by (λ (row : Name × V). is_pin_kind (mark row.1).kind)
      (entries rows)
  pins_marked = counted (λ m. is_pin_kind m.kind)

  -- and as passwords
  pub passwords_marked : passwords (map_values mark rows)
      ≡ count_by (λ (row : Name × V). is_password_kind (mark row.1).kind) (entries rows)
  passwords_marked = counted (λ m. is_password_kind m.kind)

module _ {V : Type 0} (rows : FinMap order V) where
  -- whether a name is there
  pub has_name_among : (name : Name)
      → has_name name (keys rows) ≡ list_any (λ (row : Name × V). bytes_eq row.0 name) (entries rows)
  has_name_among name = any_made (λ other. bytes_eq other name) (λ (e : Name × V). e.0) (entries rows)

  -- how many names there are
  pub length_names : length (keys rows) ≡ len rows
  length_names = length-map (entries rows) (λ (e : Name × V). e.0) ∙ sym (len-entries rows)
