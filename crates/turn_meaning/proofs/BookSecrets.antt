-- The secrets of all turns of a book.
use Rattle.std.proofs.Common.{◌≡◌, List, [], ◌∷◌, ◌++◌, Option, None, Some, refl, sym, subst, ◌⊎◌, inl, inr, ⊎_elim}
use Rattle.std.specs.Prelude.{Contains}
use Rattle.pw_types.specs.declared.era.Era.{Era}
use Rattle.account_machine.specs.declared.user.Durable.{Durable}
use Rattle.account_machine.specs.declared.user.User.{User}
use Rattle.home_image.specs.Book.{AreClean, IsLegal}
use Rattle.home_locks.specs.Meanings.{meaning_of}
use Rattle.home_locks.specs.declared.account.Entry.{Entry}
use Rattle.share_api.specs.Contents.{Bytes}
use Rattle.stored_home.specs.Clean.{IsClean, IsSecretOf, IsTurnSecret}
use Rattle.user_state.specs.Turns.{secret_of}
use Rattle.user_turn.proofs.CleanParts.{clean_part}
use Rattle.turn_meaning.specs.Meanings.{Part, contents_of, user_rules, entry_of}
use Rattle.turn_meaning.specs.Secrets.{IsHeld, AsksFor, IsBookSecret}
use Rattle.turn_meaning.specs.declared.taken.TurnTaken.{TurnTaken}
use Rattle.turn_meaning.proofs.SecretLaws.{step_brings}

-- all turns of a book
book_brings : (era : Era) (user last : User) (es : List (Entry TurnTaken))
    → IsLegal (meaning_of (user_rules era)) user es last
    → (s : Bytes) → IsHeld last s → IsHeld user s ⊎ AsksFor es s
book_brings era user last [] legal s h = inl (subst (λ u. IsHeld u s) legal h)
book_brings era user last (e ∷ es) legal s h =
    ⊎_elim
    (λ k. ⊎_elim inl (λ q. inr (inl q)) (step_brings era user legal.0 (entry_of e.turn) legal.1 s k))
    (λ k. inr (inr k))
    (book_brings era legal.0 last es legal.2 s h)

asks_first : (es rest : List (Entry TurnTaken)) (s : Bytes) → AsksFor es s → AsksFor (es ++ rest) s
asks_first [] rest s h = absurd h
asks_first (e ∷ es) rest s h = ⊎_elim inl (λ k. inr (asks_first es rest s k)) h

asks_here : (es : List (Entry TurnTaken)) (e : Entry TurnTaken) (rest : List (Entry TurnTaken)) (s : Bytes)
    → secret_of e.turn.turn ≡ Some s → AsksFor (es ++ e ∷ rest) s
asks_here [] e rest s h = inl h
asks_here (x ∷ es) e rest s h = inr (asks_here es e rest s h)

-- a turn's secrets
turn_secret : (durable : Durable) (o : Option Durable) (given : Option Bytes) (s : Bytes)
    → IsTurnSecret durable o given s
    → IsSecretOf durable s ⊎ ((d : Durable) × (o ≡ Some d) × IsSecretOf d s) ⊎ (given ≡ Some s)
turn_secret durable None given s h = ⊎_elim inl (λ k. inr (inr k)) h
turn_secret durable (Some d) given s h = ⊎_elim inl (λ k. inr (⊎_elim (λ q. inl (d, refl, q)) inr k)) h

pub book_clean : (era : Era) (seen : List Part) (user : User) (book : List (Entry TurnTaken))
    → ((part : Part) → Contains seen part
    → IsClean (IsBookSecret user book) (Contains (contents_of seen)) part.account)
    → AreClean (meaning_of (user_rules era)) seen user book
book_clean era seen user book clean es e rest before parts legal part has =
    clean_part (IsBookSecret user book) (IsTurnSecret before.durable before.other (secret_of e.turn.turn))
    (Contains (contents_of seen)) part.account
    (λ s h. subst (λ b. IsBookSecret user b s) (sym parts)
    (whole s (turn_secret before.durable before.other (secret_of e.turn.turn) s h))) (clean part has)
  where
    of_before : (s : Bytes) → IsHeld before s → IsBookSecret user (es ++ e ∷ rest) s
    of_before s h = ⊎_elim inl (λ k. inr (asks_first es (e ∷ rest) s k)) (book_brings era user before es legal s h)

    whole : (s : Bytes)
        → IsSecretOf before.durable s ⊎ ((d : Durable) × (before.other ≡ Some d) × IsSecretOf d s)
        ⊎ (secret_of e.turn.turn ≡ Some s)
        → IsBookSecret user (es ++ e ∷ rest) s
    whole s h =
        ⊎_elim (λ k. of_before s (inl k))
        (λ k. ⊎_elim (λ q. of_before s (inr q)) (λ q. inr (asks_here es e rest s q)) k) h
