-- What the outline of the machine's state has, from the factors and files themselves.
use Rattle.std.proofs.Common.{◌≡◌, Bool, List, [], ◌∷◌, map, cond, length, refl, ap, sym, ◌∙◌}
use Rattle.std.specs.Prelude.{◌+◌, ◌||◌, count_by, bytes_eq}
use Rattle.std.specs.List.{list_any, fold}
use Rattle.std.specs.FinMap.{FinMap, entries, len, keys, values, len-entries}
use Rattle.std.proofs.lemmas.List.{length-map}
use Rattle.name_map.specs.Mapped.{map_values}
use Rattle.name_map.proofs.RowLemmas.{Name, order}
use Rattle.name_map.proofs.MappedLemmas.{entries-map_values}
use Rattle.account_machine.specs.declared.factor.Factor.{Factor}
use Rattle.account_machine.specs.declared.factor.Mark.{Mark}
use Rattle.account_machine.specs.Outline.{Bytes, pins, passwords, has_name, is_pin_kind, is_password_kind}
use Rattle.account_machine.specs.User.{mark_of}

fold-map : {A B C : Type 0} (step : C → B → C) (f : A → B) (start : C) (xs : List A) → fold step start (map f xs) ≡ fold (λ c x. step c (f x)) start xs
fold-map step f start [] = refl
fold-map step f start (x ∷ xs) = fold-map step f (step start (f x)) xs

count_by-map : {A B : Type 0} (p : B → Bool) (f : A → B) (xs : List A) → count_by p (map f xs) ≡ count_by (λ x. p (f x)) xs
count_by-map p f xs = fold-map (λ n x. n + cond (p x) 1 0) f 0 xs

list_any-map : {A B : Type 0} (p : B → Bool) (f : A → B) (xs : List A) → list_any p (map f xs) ≡ list_any (λ x. p (f x)) xs
list_any-map p f [] = refl
list_any-map p f (x ∷ xs) = ap (λ b. p (f x) || b) (list_any-map p f xs)

module _ (factors : FinMap order Factor) where
  counted : (p : Mark → Bool) → count_by p (values (map_values mark_of factors)) ≡ count_by (λ (row : Name × Factor). p (mark_of row.1)) (entries factors)
  counted p =
      ap (λ (rows : List (Name × Mark)). count_by p (map (λ (e : Name × Mark). e.1) rows)) (entries-map_values mark_of factors)
      ∙ count_by-map p (λ (e : Name × Mark). e.1) (map (λ (e : Name × Factor). (e.0, mark_of e.1)) (entries factors))
      ∙ count_by-map (λ (e : Name × Mark). p e.1) (λ (e : Name × Factor). (e.0, mark_of e.1)) (entries factors)

  pub pins-marks : pins (map_values mark_of factors) ≡ count_by (λ (row : Name × Factor). is_pin_kind row.1.kind) (entries factors)
  pins-marks = counted (λ mark. is_pin_kind mark.kind)

  pub passwords-marks : passwords (map_values mark_of factors) ≡ count_by (λ (row : Name × Factor). is_password_kind row.1.kind) (entries factors)
  passwords-marks = counted (λ mark. is_password_kind mark.kind)

module _ (files : FinMap order Bytes) where
  pub has_name-keys : (name : Bytes) → has_name name (keys files) ≡ list_any (λ (row : Name × Bytes). bytes_eq row.0 name) (entries files)
  has_name-keys name = list_any-map (λ other. bytes_eq other name) (λ (e : Name × Bytes). e.0) (entries files)

  pub length-keys : length (keys files) ≡ len files
  length-keys = length-map (entries files) (λ (e : Name × Bytes). e.0) ∙ sym (len-entries files)
