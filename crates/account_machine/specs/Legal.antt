-- The history of an account: entries that lead by steps from one user to another.
use Rattle.std.specs.Prelude.{◌≡◌, ℕ, ◌==◌, List, [], ◌∷◌, filter}
use Rattle.account_machine.specs.declared.user.User.{User}
use Rattle.pw_types.specs.declared.era.Era.{Era}
use Rattle.account_machine.specs.declared.entry.Entry.{Entry}
use Rattle.account_machine.specs.Step.{Step}

-- each entry is a step, from the user that the one before it left
abbrev pub IsLegal : Era → User → List Entry → User → Type 0
IsLegal era before [] after = after ≡ before
IsLegal era before (entry ∷ entries) after =
    (next : User) × Step era before entry next × IsLegal era next entries after

-- the entries that a caller made, in their order
abbrev pub own_entries : ℕ → List Entry → List Entry
own_entries caller entries = filter (λ entry. entry.caller == caller) entries
