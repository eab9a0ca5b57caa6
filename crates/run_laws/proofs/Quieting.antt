-- Where nothing outside gave a cause for a fault, a run ends well.
use Rattle.std.proofs.Common.{◌≡◌, inl, inr, ℕ, ◌<◌, ◌+◌, ◌^◌, List, [], ◌∷◌, length, map, false, Option, None, Some, refl, sym, ap, ◌∙◌, subst, arith}
use Rattle.std.specs.Prelude.{IsSomeAnd}
use Rattle.std.specs.List.{AllZip}
use Rattle.std.proofs.lemmas.List.{length-append, length-map}
use Rattle.fault_count.specs.Told.{Becomes}
use Rattle.request_loop.specs.Exchange.{Exchange}
use Rattle.request_loop.specs.Served.{TakesLines}
use Rattle.request_loop.specs.declared.serve.LoopEnd.{LoopEnd}
use Rattle.request_loop.specs.declared.serve.LoopEnd.TheVariants as loop_ends
use Rattle.client_threads.specs.Ends.{ends_from, first_told, is_marked, least}
use Rattle.client_threads.specs.declared.ending.ClientsEnd.{ClientsEnd}
use Rattle.client_threads.specs.declared.ending.Mark.TheVariants as marks
use Rattle.home_service.specs.Served.{ServesEnds}
use Rattle.home_opening.specs.declared.fault.HomeFault.{HomeFault}
use Rattle.home_opening.specs.declared.fault.HomeFault.TheVariants as faults
use Rattle.run_desk.specs.Desk.{DeskSeen}
use Rattle.run_desk.specs.declared.desk.Client.{Client}
use Rattle.run_desk.specs.declared.desk.DeskFault.{DeskFault}
use Rattle.run_desk.specs.declared.desk.DeskFault.TheVariants as desk_faults
use Rattle.run_ending.specs.declared.ending.Ending.{Ending}
use Rattle.run_ending.specs.declared.ending.Ending.TheVariants as endings
use Rattle.run_ending.specs.Ending.{EndsWell, status_of}
use Rattle.served_books.specs.Books.{AreClientsServed, Serving}
use Rattle.serve_words.specs.Words.{Asked}
use Rattle.home_locks.specs.declared.account.Entry.{Entry}
use Rattle.turn_meaning.specs.declared.taken.TurnTaken.{TurnTaken}
use Rattle.serve_run.specs.Begun.{HasNotBegun}
use Rattle.serve_run.specs.Left.{LeftOver}
use Rattle.serve_run.specs.Outside.{Outside}
use Rattle.serve_run.specs.Run.{Did, LeavesUnbegun, ending_refused, ending_unbegun}
use Rattle.serve_run.specs.Serving.{AreServedUntil, EndsSo, StaysUnserved, ending_told, ending_unopened}
use Rattle.serve_run.specs.declared.begin.Unbegun.{Unbegun}
use Rattle.serve_run.specs.declared.begin.Unbegun.TheVariants as unbegun
use Rattle.run_laws.specs.Quiet.{IsQuiet, IsQuietClient, StaysBelowLimit}

-- want of memory is one of the two
starved_well : (ending : Ending) → ending ≡ endings.NoMemory → EndsWell (status_of ending)
starved_well ending is = subst (λ (e : Ending). EndsWell (status_of e)) (sym is) (inr refl)

-- an input that is told and is below the limit doesn't meet it
told_below : (before after : Option (List ℕ)) (earlier exchanges : List Exchange)
    → IsSomeAnd before (λ input. length input < 2 ^ 32)
    → Becomes before after (TakesLines loop_ends.InputLimit earlier exchanges) → ⊥
told_below None after earlier exchanges below becomes = below
told_below (Some input) None earlier exchanges below becomes = becomes
told_below (Some input) (Some rest) earlier exchanges below becomes =
    let whole : length input ≡ length becomes.0 + length rest = ap length becomes.1 ∙ length-append becomes.0 rest in
    omega (arith, below, whole, becomes.3)

-- where no client ended with a fault or at the limit, all were served, or there was no memory
quiet_ending : (starved : Option ℕ) → EndsWell (status_of (ending_told (first_told None None starved)))
quiet_ending None = inl refl
quiet_ending (Some client) = inr refl

module _ {B S K C : Type 0} (outside : Outside B S K C) where
  -- what serving did to a client's ends
  abbrev Serves : LoopEnd → List Exchange → Client S K C → Client S K C → Type 0
  Serves = ServesEnds outside.left outside.taken outside.source_faults outside.written outside.sink_faults outside.given

  below_limit : (exchanges : List Exchange) (before after : Client S K C)
      → Serves loop_ends.InputLimit exchanges before after
      → StaysBelowLimit outside before.source after.source → ⊥
  below_limit exchanges before after serves (inl below) =
      told_below (outside.left before.source) (outside.left after.source) serves.earlier exchanges below serves.lines
  below_limit exchanges before after serves (inr below) =
      let met = serves.limit refl in
      omega (arith, met, below)

  -- a quiet client ends without a fault and below the limit
  quiet_end : (end : LoopEnd) (exchanges : List Exchange) (before after : Client S K C)
      → Serves end exchanges before after → IsQuietClient outside before after
      → (is_marked marks.Fault end ≡ false) × (is_marked marks.Limit end ≡ false)
  quiet_end loop_ends.End exchanges before after serves quiet = (refl, refl)
  quiet_end loop_ends.SourceFault exchanges before after serves quiet =
      absurd (quiet.source (serves.source_cause.rose refl))
  quiet_end loop_ends.SinkFault exchanges before after serves quiet =
      absurd (quiet.sink (serves.sink_cause.rose refl))
  quiet_end loop_ends.InputLimit exchanges before after serves quiet =
      absurd (below_limit exchanges before after serves quiet.input)
  quiet_end loop_ends.NoMemory exchanges before after serves quiet = (refl, refl)

  -- and so do several
  none_so : (names : List (List ℕ)) (books : List (List (Entry TurnTaken))) (client number : ℕ)
      (servings : List (Serving S K C))
      → AreClientsServed outside.left outside.taken outside.source_faults outside.written outside.sink_faults
      outside.given names books client servings
      → AllZip (IsQuietClient outside) (map (λ serving. serving.before) servings)
      (map (λ serving. serving.after) servings)
      → (least marks.Fault number (map (λ serving. serving.end) servings) ≡ None)
      × (least marks.Limit number (map (λ serving. serving.end) servings) ≡ None)
  none_so names books client number [] served quiet = (refl, refl)
  none_so names books client number (serving ∷ servings) served quiet =
      let this = quiet_end serving.end serving.exchanges serving.before serving.after served.0.loop quiet.0 in
      let rest = none_so names books (client + 1) (number + 1) servings served.1 quiet.1 in
      (rw this.0 rest.0, rw this.1 rest.1)

module _ {B S K C : Type 0} (outside : Outside B S K C) (asked : Asked) (before after : DeskSeen B S K C)
    (left_over : LeftOver B S K C) (ending : Ending) (quiet : IsQuiet outside asked before after left_over) where
  -- clients that were served
  served_well : (first count : ℕ) → AreServedUntil outside first count before after left_over ending
      → EndsWell (status_of ending)
  served_well first count until =
      let servings = until.served.servings in
      let as_many : length until.handed ≡ length left_over.clients =
      ap length until.served.befores_are
      ∙ (length-map servings (λ (serving : Serving S K C). serving.before)
      ∙ (sym (length-map servings (λ (serving : Serving S K C). serving.after))
      ∙ ap length (sym until.served.afters_are))) in
      let each = subst (λ (clients : List (Client S K C)). AllZip (IsQuietClient outside)
      (map (λ (serving : Serving S K C). serving.before) servings) clients) until.served.afters_are
      (subst (λ (clients : List (Client S K C)). AllZip (IsQuietClient outside) clients left_over.clients)
      until.served.befores_are (quiet.clients until.handed until.handed_out as_many)) in
      let none = none_so outside left_over.names left_over.books 0 first servings until.served.served each in
      let ended = map (λ (serving : Serving S K C). serving.end) servings in
      let starved = least marks.Starved first ended in
      let is : ending ≡ ending_told (first_told None None starved) =
      until.ending_is
      ∙ (ap ending_told until.served.end_is
      ∙ (ap (λ (fault : Option ℕ). ending_told (first_told fault (least marks.Limit first ended) starved)) none.0
      ∙ ap (λ (limit : Option ℕ). ending_told (first_told None limit starved)) none.1)) in
      subst (λ (e : Ending). EndsWell (status_of e)) (sym is) (quiet_ending starved)

  -- a client that couldn't be opened
  unopened_well : (first count client : ℕ) (fault : DeskFault) (stays : StaysUnserved outside first count before after left_over ending)
      → stays.client ≡ client → stays.fault ≡ fault → EndsWell (status_of ending)
  unopened_well first count client desk_faults.Failed stays number failed =
      absurd (quiet.desk (stays.stops.cause.rose failed))
  unopened_well first count client desk_faults.NoMemory stays number starved =
      starved_well ending (stays.ending_is ∙ ap (ending_unopened stays.client) starved)

  ends_well : (first count : ℕ) → EndsSo outside first count before after left_over ending
      → EndsWell (status_of ending)
  ends_well first count (inl until) = served_well first count until
  ends_well first count (inr (inl starved)) = starved_well ending starved.ending_is
  ends_well first count (inr (inr stays)) = unopened_well first count stays.client stays.fault stays refl refl

  -- a home that wasn't begun
  unbegun_well : (un : Unbegun B) → HasNotBegun outside asked before after un
      → ending ≡ ending_unbegun asked.clients un → EndsWell (status_of ending)
  unbegun_well unbegun.NoEntropy not_begun is = absurd (quiet.desk not_begun.1)
  unbegun_well (unbegun.NoBoard desk_faults.Failed) not_begun is = absurd (quiet.desk (not_begun.1.rose refl))
  unbegun_well (unbegun.NoBoard desk_faults.NoMemory) not_begun is = starved_well ending is
  unbegun_well (unbegun.Refused fault left) not_begun is =
      starved_well ending (is ∙ ap (ending_refused asked.clients) (quiet.start fault left not_begun))

  pub quiet_at : Did outside before after left_over asked ending → EndsWell (status_of ending)
  quiet_at (inl nothing) = starved_well ending nothing.1
  quiet_at (inr (inl leaves)) = unbegun_well leaves.unbegun leaves.not_begun leaves.ending_is
  quiet_at (inr (inr serves)) = ends_well _ _ serves.ends

-- a quiet run ends served, or without memory
pub quiet_did : {B S K C : Type 0} (outside : Outside B S K C) (asked : Asked) (before after : DeskSeen B S K C)
    (left_over : LeftOver B S K C) (ending : Ending)
    → Did outside before after left_over asked ending
    → IsQuiet outside asked before after left_over
    → EndsWell (status_of ending)
quiet_did outside asked before after left_over ending did quiet =
    quiet_at outside asked before after left_over ending quiet did
