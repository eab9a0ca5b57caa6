-- How the clients of a home ended that were opened, or of which one couldn't be.
use Rattle.std.proofs.Common.{◌≡◌, inl, inr, ℕ, ◌+◌, ◌<◌, List, [], ◌++◌, length, Option, None, Some, sym, ap, ◌∙◌, subst, arith}
use Rattle.std.specs.Prelude.{IfNone, IfSome}
use Rattle.fault_count.specs.Causes.{HasCause}
use Rattle.client_threads.specs.declared.ending.ClientsEnd.{ClientsEnd}
use Rattle.run_desk.specs.Desk.{DeskSeen, HandsOut, OpensClients}
use Rattle.run_desk.specs.declared.desk.Client.{Client}
use Rattle.run_desk.specs.declared.desk.DeskFault.{DeskFault}
use Rattle.run_desk.specs.declared.desk.DeskFault.TheVariants as desk_faults
use Rattle.run_ending.specs.declared.ending.Ending.{Ending}
use Rattle.served_books.specs.Books.{AreServed, HaveNoTurns}
use Rattle.serve_run.specs.Left.{LeftOver}
use Rattle.serve_run.specs.Outside.{Outside}
use Rattle.serve_run.specs.Serving.{EndsSo, ending_of, ending_unopened}

module _ {B S K C : Type 0} (before after : DeskSeen B S K C) (first next : ℕ) (old clients : List (Client S K C))
    (none : old ≡ []) (opens : OpensClients before after first next old clients) where
  -- behind none are those that were handed out
  clients_are : clients ≡ opens.handed
  clients_are = opens.added ∙ ap (λ (front : List (Client S K C)). front ++ opens.handed) none

  pub next_is : next ≡ first + length clients
  next_is = opens.count ∙ ap (λ (handed : List (Client S K C)). first + length handed) (sym clients_are)

  pub handed_out : HandsOut before after clients
  handed_out = subst (λ (handed : List (Client S K C)). HandsOut before after handed) (sym clients_are) opens.in_order

module _ {B S K C : Type 0} (outside : Outside B S K C) (first count : ℕ) (before after : DeskSeen B S K C)
    (left_over : LeftOver B S K C) (old clients : List (Client S K C)) (ending : Ending) where
  -- all of them were opened
  pub opened_ends : (end : Option ClientsEnd)
      → old ≡ []
      → OpensClients before after first (first + count) old clients
      → after.faults ≡ before.faults
      → ending ≡ ending_of end
      → IfSome end (λ end. AreServed outside.left outside.taken outside.source_faults outside.written
      outside.sink_faults outside.given left_over.names left_over.books first end clients left_over.clients)
      → IfNone end ((left_over.clients ≡ clients) × HaveNoTurns (length clients) left_over.books)
      → EndsSo outside first count before after left_over ending
  opened_ends None none opens quiet is served stays =
      let next = next_is before after first (first + count) old clients none opens in
      let many : length clients ≡ count = omega (arith, next) in
      inr (inl (record {
        ending_is = is;
        count_is = ap length stays.0 ∙ many;
        handed_out = subst (λ (handed : List (Client S K C)). HandsOut before after handed) (sym stays.0)
            (handed_out before after first (first + count) old clients none opens);
        none = subst (λ (n : ℕ). HaveNoTurns n left_over.books) many stays.1;
        quiet = quiet;
      }))
  opened_ends (Some end) none opens quiet is served stays =
      let next = next_is before after first (first + count) old clients none opens in
      inl (record {
        end = end;
        ending_is = is;
        handed = clients;
        count_is = omega (arith, next);
        handed_out = handed_out before after first (first + count) old clients none opens;
        served = served;
        quiet = quiet;
      })

  -- this one couldn't be, and nobody was served
  pub stopped_ends : (client seats : ℕ) (fault : DeskFault)
      → old ≡ []
      → OpensClients before after first client old clients
      → client < first + count
      → HasCause before.faults after.faults (fault ≡ desk_faults.Failed)
      → ending ≡ ending_unopened client fault
      → left_over.clients ≡ clients
      → seats ≡ count
      → HaveNoTurns seats left_over.books
      → EndsSo outside first count before after left_over ending
  stopped_ends client seats fault none opens within cause is left many turns =
      let next = next_is before after first client old clients none opens in
      let as_many : length left_over.clients ≡ length clients = ap length left in
      inr (inr (record {
        client = client;
        fault = fault;
        ending_is = is;
        stops = record {
          client_is = omega (arith, next, as_many);
          fewer = omega (arith, next, as_many, within);
          handed_out = subst (λ (handed : List (Client S K C)). HandsOut before after handed) (sym left)
              (handed_out before after first client old clients none opens);
          none = subst (λ (n : ℕ). HaveNoTurns n left_over.books) many turns;
          cause = cause;
        };
      }))
