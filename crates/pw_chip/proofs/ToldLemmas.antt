-- What the newest entry of a run means for the leaf values of a host.
use Rattle.std.proofs.Common.{◌≡◌, ℕ, ◌<◌, ◌⊎◌, inl, inr, cond, eqb, List, sym, ◌∙◌, ap}
use Rattle.pw_path.specs.Tree.{root, no_hash, AllHashes}
use Rattle.pw_path.specs.Path.{OnTree, HasNoCollision}
use Rattle.pw_path.proofs.TreeLemmas.{one_tree}
use Rattle.pw_log.specs.declared.entry.LogEntry.{LogEntry}
use Rattle.pw_log.specs.declared.entry.TheConstants.{BLANK, RESET_TREE}
use Rattle.pw_leaf.specs.declared.keys.ChipKeys.{ChipKeys}
use Rattle.pw_chip.specs.State.{new_state}
use Rattle.pw_chip.specs.Ledger.{Event, new_ledger}
use Rattle.pw_chip.specs.Law.{values, Hashed, Signed, HasNoMacCollision, IsClean, AreEvents}
use Rattle.pw_chip.specs.Told.{told, IsTold, words_of_run, values_of_run}
use Rattle.pw_chip.proofs.GenuineLemmas.{values_hashes}
use Rattle.pw_chip.proofs.LawLemmas.{holds_in_the_end}

-- an entry tells of each label by that label's value alone
told_alike : (e : LogEntry) (v u : ℕ → List ℕ) (i : ℕ) → v i ≡ u i → told e v i ≡ told e u i
told_alike e v u i same = ap (λ hash. cond (eqb e.operation RESET_TREE) no_hash (cond (eqb e.operation BLANK) hash (cond (eqb i e.label) e.mac hash))) same

-- the newest entry made the ledger's values
pub newest_tells : (keys : ChipKeys) (events : List Event) → AreEvents events → IsClean (new_state keys) new_ledger events
    → IsTold (words_of_run keys events).log (values_of_run keys events)
newest_tells keys events ok clean =
    let w = words_of_run keys events in
    let h = holds_in_the_end (Hashed (new_state keys) new_ledger events) (Signed (new_state keys) new_ledger events) clean.hashes keys events clean.macs ok (λ a q. q) (λ a q. q) in
    let past = h.past in
    record { before = values w.keys past.before; older = past.root; newest = past.tells }

-- a host whose tree has the older root comes to the ledger's values by it
pub newest_tells_host : (keys : ChipKeys) (events : List Event) (host : ℕ → List ℕ) (label : ℕ) → AreEvents events → AllHashes host
    → HasNoCollision (λ input. Hashed (new_state keys) new_ledger events input ⊎ OnTree host input)
    → HasNoMacCollision keys.mac (Signed (new_state keys) new_ledger events)
    → root host ≡ (words_of_run keys events).log.older.root → label < 16384
    → told (words_of_run keys events).log.newest host label ≡ values_of_run keys events label
newest_tells_host keys events host label ok hashes apart macs same small =
    let w = words_of_run keys events in
    let N : List ℕ → Type 0 = λ input. Hashed (new_state keys) new_ledger events input ⊎ OnTree host input in
    let h = holds_in_the_end N (Signed (new_state keys) new_ledger events) apart keys events macs ok (λ a q. inl q) (λ a q. q) in
    let past = h.past in
    let one = one_tree N apart host (values w.keys past.before) hashes (values_hashes w.keys past.before) (λ a q. inr q) past.covered.nodes (same ∙ past.root) label small in
    told_alike w.log.newest host (values w.keys past.before) label one ∙ sym (past.tells label)
