-- Which secrets a user may have after a turn, and when the turns of a book are clean.
use Rattle.std.specs.Prelude.{◌≡◌, ◌⊎◌, List, [], ◌∷◌, Some, Contains}
use Rattle.pw_types.specs.declared.era.Era.{Era}
use Rattle.account_machine.specs.declared.entry.Entry.{Entry as MachineEntry}
use Rattle.account_machine.specs.declared.user.Durable.{Durable}
use Rattle.account_machine.specs.declared.user.User.{User}
use Rattle.account_machine.specs.Step as machine
use Rattle.home_image.specs.Book.{AreClean}
use Rattle.home_locks.specs.Meanings.{meaning_of}
use Rattle.home_locks.specs.declared.account.Entry.{Entry}
use Rattle.share_api.specs.Contents.{Bytes}
use Rattle.stored_home.specs.Clean.{IsClean, IsSecretOf}
use Rattle.user_state.specs.Turns.{secret_of}
use Rattle.turn_meaning.specs.Meanings.{Part, contents_of, user_rules}
use Rattle.turn_meaning.specs.declared.taken.TurnTaken.{TurnTaken}

-- a secret of the durable part or of the second possible one
abbrev pub IsHeld : User → Bytes → Type 0
IsHeld user secret =
    IsSecretOf user.durable secret ⊎ ((other : Durable) × (user.other ≡ Some other) × IsSecretOf other secret)

-- after a turn no secret is held but those before it and its own
abbrev pub SecretsLaw : Type 0
SecretsLaw = (era : Era) (user next : User) (entry : MachineEntry) → machine.Step era user entry next
    → (secret : Bytes) → IsHeld next secret → IsHeld user secret ⊎ (secret_of entry.turn ≡ Some secret)

-- a turn of the book has this secret
abbrev pub AsksFor : List (Entry TurnTaken) → Bytes → Type 0
AsksFor [] secret = ⊥
AsksFor (e ∷ es) secret = (secret_of e.turn.turn ≡ Some secret) ⊎ AsksFor es secret

abbrev pub IsBookSecret : User → List (Entry TurnTaken) → Bytes → Type 0
IsBookSecret user book secret = IsHeld user secret ⊎ AsksFor book secret

-- where no two inputs coincide that are recorded of the user at first, the book and these parts, each turn is clean
abbrev pub CleanLaw : Type 0
CleanLaw = (era : Era) (seen : List Part) (user : User) (book : List (Entry TurnTaken))
    → ((part : Part) → Contains seen part
    → IsClean (IsBookSecret user book) (Contains (contents_of seen)) part.account)
    → AreClean (meaning_of (user_rules era)) seen user book
