-- One more line of a client.
use Rattle.std.proofs.Common.{◌≡◌, Bool, true, false, List, [], ◌∷◌, ◌++◌, Option, Result, Ok, Err, ap, ◌∙◌, subst, true≢false}
use Rattle.account_machine.specs.declared.request.Request.{Request}
use Rattle.client_lang.specs.declared.line.LineFault.{LineFault}
use Rattle.client_lang.specs.declared.line.LineFault.TheVariants as faults
use Rattle.request_loop.specs.Exchange.{Exchange}
use Rattle.client_output.specs.Grown.{SeatSeen, Grew}
use Rattle.client_output.proofs.Growing.{grew_then}
use Rattle.client_output.specs.Seats.{BareSeat}
use Rattle.client_lines.specs.Seats.{Answered, bare_at, seen_at}

-- whether there is a request
abbrev has_request : Result Request LineFault → Bool
has_request (Ok request) = true
has_request (Err fault) = false

-- a request isn't want of memory
pub ok_is_no_fault : (request : Request) → ¬ (◌≡◌ {A = Result Request LineFault} (Ok request) (Err faults.NoMemory))
ok_is_no_fault request is = true≢false (ap has_request is)

module _ {H T : Type 0} (pins : H → Bool) (seen : H → T → SeatSeen) (bare : T → List (Option BareSeat)) where
  -- since the first home and seat, these lines were answered
  abbrev AnsweredAt : H → Option T → H → Option T → List Exchange → Type 0
  AnsweredAt start_home start home now lines =
      (home ≡ start_home) × Answered (seen start_home) bare (pins start_home) start now lines

  -- one line more, by what the seat knew before it and knows now
  pub answered_more : (start_home home : H) (start old new : Option T) (earlier : List Exchange) (line : Exchange)
      → AnsweredAt start_home start home old earlier
      → bare_at bare new ≡ bare_at bare old
      → Grew (pins home) (seen_at (seen home) old) (seen_at (seen home) new) (line ∷ [])
      → AnsweredAt start_home start home new (earlier ++ line ∷ [])
  answered_more start_home home start old new earlier line before same grew = (
    before.0,
    record {
      same = same ∙ before.1.same;
      grew = grew_then (pins start_home) (seen_at (seen start_home) start) (seen_at (seen start_home) old)
          (seen_at (seen start_home) new) earlier (line ∷ []) before.1.grew
          (subst (λ (h : H). Grew (pins h) (seen_at (seen h) old) (seen_at (seen h) new) (line ∷ [])) before.0 grew);
    },
  )
