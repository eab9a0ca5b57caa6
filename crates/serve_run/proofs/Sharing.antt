-- What a desk has after one call and another.
use Rattle.std.proofs.Common.{◌≡◌, inl, inr, ℕ, ◌≤◌, List, [], ◌∷◌, ◌++◌, refl, ◌∙◌, subst, sym}
use Rattle.fault_count.specs.Causes.{HasCause}
use Rattle.run_desk.specs.Desk.{DeskSeen, HandsOut, KeepsBoard}
use Rattle.run_desk.specs.declared.desk.Client.{Client}
use Rattle.run_desk.specs.declared.desk.DeskFault.TheVariants as desk_faults
use Rattle.run_ending.specs.declared.ending.Ending.{Ending}
use Rattle.serve_run.specs.Left.{LeftOver}
use Rattle.serve_run.specs.Outside.{Outside}
use Rattle.serve_run.specs.Serving.{AreServedUntil, AreStarved, EndsSo, StaysUnserved}

module _ {B S K C : Type 0} (before between after : DeskSeen B S K C) where
  -- it keeps its boards over both
  pub keeps_then : KeepsBoard before between → KeepsBoard between after → KeepsBoard before after
  keeps_then one two = λ dir board.
      (λ has. (two dir board).0 ((one dir board).0 has), λ has. (one dir board).1 ((two dir board).1 has))

  -- where the first handed out no client, the second hands out of the same
  pub hands_then : (handed : List (Client S K C)) → HandsOut before between [] → HandsOut between after handed
      → HandsOut before after handed
  hands_then handed none hands = λ rest.
      (λ has. (hands rest).0 ((none (handed ++ rest)).0 has), λ has. (none (handed ++ rest)).1 ((hands rest).1 has))

  module _ (outside : Outside B S K C) (first count : ℕ) (left_over : LeftOver B S K C) (ending : Ending)
      (none : HandsOut before between []) (quiet : between.faults ≡ before.faults) where
    -- what was served since is served of all
    pub serves_since : EndsSo outside first count between after left_over ending
        → EndsSo outside first count before after left_over ending
    serves_since (inl served) = inl (record {
      end = served.end;
      ending_is = served.ending_is;
      handed = served.handed;
      count_is = served.count_is;
      handed_out = hands_then served.handed none served.handed_out;
      served = served.served;
      quiet = served.quiet ∙ quiet;
    })
    serves_since (inr (inl starved)) = inr (inl (record {
      ending_is = starved.ending_is;
      count_is = starved.count_is;
      handed_out = hands_then left_over.clients none starved.handed_out;
      none = starved.none;
      quiet = starved.quiet ∙ quiet;
    }))
    serves_since (inr (inr stays)) = inr (inr (record {
      client = stays.client;
      fault = stays.fault;
      ending_is = stays.ending_is;
      stops = record {
        client_is = stays.stops.client_is;
        fewer = stays.stops.fewer;
        handed_out = hands_then left_over.clients none stays.stops.handed_out;
        none = stays.stops.none;
        cause = subst (λ (faults : ℕ). HasCause faults after.faults (stays.fault ≡ desk_faults.Failed)) quiet stays.stops.cause;
      };
    }))
