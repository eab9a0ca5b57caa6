-- Rows on sessions and on the mount leave a sound state.
use Rattle.std.proofs.Common.{ℕ, List, refl}
use Rattle.std.specs.Prelude.{None}
use Rattle.std.specs.List.{AllByRecursion, remove}
use Rattle.account_machine.specs.declared.session.Intent.{Intent}
use Rattle.auth_session.specs.Table.{Table, new_session, with_kept, edit_at, extended_kept}
use Rattle.auth_session.specs.declared.table.Kept.{Kept}
use Rattle.random_values.specs.Stretches.{Place}
use Rattle.user_state.specs.Sound.{IsSound, IsKeyed}
use Rattle.user_state.specs.declared.state.UserState.{UserState}
use Rattle.turn_rows.proofs.Kept.{all_with_kept, all_edit, all_remove}

-- other sessions and random values, and a mount or none
pub sound_with : (before : UserState) (table : Table) (generator : Place) → IsSound before
    → AllByRecursion IsKeyed table.kept → IsSound (record before { sessions = table; generator = generator })
sound_with before table generator sound keyed =
    record { coherent = sound.coherent; least = sound.least; most = sound.most; keyed = keyed }

pub sound_unmounted : (before : UserState) → IsSound before → IsSound (record before { vault = None })
sound_unmounted before sound =
    record { coherent = sound.coherent; least = sound.least; most = sound.most; keyed = sound.keyed }

-- a new session has no main key and isn't authenticated
pub keyed_started : (kept : List Kept) (number : ℕ) (tail : List ℕ) (intent : Intent) (moment : ℕ)
    → AllByRecursion IsKeyed kept
    → AllByRecursion IsKeyed (with_kept kept (record { session = new_session number tail intent moment; main = None }))
keyed_started kept number tail intent moment keyed =
    all_with_kept IsKeyed kept (record { session = new_session number tail intent moment; main = None }) keyed refl

-- another end changes no key
pub keyed_extended : (kept : List Kept) (place seconds moment : ℕ) → AllByRecursion IsKeyed kept
    → AllByRecursion IsKeyed (edit_at (extended_kept seconds moment) place kept)
keyed_extended kept place seconds moment keyed =
    all_edit IsKeyed (extended_kept seconds moment) (λ k is. is) kept place keyed

pub keyed_ended : (kept : List Kept) (place : ℕ) → AllByRecursion IsKeyed kept
    → AllByRecursion IsKeyed (remove kept place)
keyed_ended kept place keyed = all_remove IsKeyed kept place keyed
