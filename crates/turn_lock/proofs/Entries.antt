-- The entries of a caller, after one entry more.
use Rattle.std.proofs.Common.{◌≡◌, ◌≢◌, ℕ, ◌+◌, eqb, List, [], ◌∷◌, ◌++◌, length, sym, ap, ◌∙◌, arith, eq-eqb, ne_eqb, append_assoc, append-nil, if◌then◌else◌}
use Rattle.turn_lock.specs.Lists.{entries_from, entries_of}

module _ {E : Type 0} (caller_of : E → ℕ) where
  -- the entry with its place, where it is the caller's
  abbrev entry_if : ℕ → ℕ → E → List (ℕ × E)
  entry_if place caller e = if eqb (caller_of e) caller then (place, e) ∷ [] else []

  entries_from-push : (place caller : ℕ) (entries : List E) (e : E)
      → entries_from caller_of place caller (entries ++ e ∷ [])
      ≡ entries_from caller_of place caller entries
      ++ entry_if (place + length entries) caller e
  entries_from-push place caller [] e =
      append-nil (entry_if place caller e)
      ∙ ap (λ (at : ℕ). entry_if at caller e) (omega arith)
  entries_from-push place caller (x ∷ xs) e =
      let first = entry_if place caller x in
      let more = entries_from caller_of (place + 1) caller xs in
      ap (λ rest. first ++ rest) (entries_from-push (place + 1) caller xs e
      ∙ ap (λ (at : ℕ). more ++ entry_if at caller e) (omega arith))
      ∙ sym (append_assoc first more (entry_if (place + length (x ∷ xs)) caller e))

  entries_of-push : (caller : ℕ) (entries : List E) (e : E)
      → entries_of caller_of caller (entries ++ e ∷ [])
      ≡ entries_of caller_of caller entries ++ entry_if (length entries) caller e
  entries_of-push caller entries e =
      entries_from-push 0 caller entries e
      ∙ ap (λ (at : ℕ). entries_of caller_of caller entries ++ entry_if at caller e)
      (omega arith)

  -- its caller has it behind its other entries, at the place that is next
  pub entries_of-own : (caller : ℕ) (entries : List E) (e : E)
      → caller_of e ≡ caller
      → entries_of caller_of caller (entries ++ e ∷ [])
      ≡ entries_of caller_of caller entries ++ (length entries, e) ∷ []
  entries_of-own caller entries e own =
      entries_of-push caller entries e
      ∙ ap (λ mine. entries_of caller_of caller entries
      ++ (if mine then (length entries, e) ∷ [] else [])) (eq-eqb (caller_of e) caller own)

  -- any other caller has the entries that it had
  pub entries_of-other : (caller : ℕ) (entries : List E) (e : E)
      → caller_of e ≢ caller
      → entries_of caller_of caller (entries ++ e ∷ []) ≡ entries_of caller_of caller entries
  entries_of-other caller entries e other =
      entries_of-push caller entries e
      ∙ (ap (λ mine. entries_of caller_of caller entries
      ++ (if mine then (length entries, e) ∷ [] else [])) (ne_eqb (caller_of e) caller other)
      ∙ append-nil (entries_of caller_of caller entries))
