-- What an edit of PINs leaves where it is refused.
use Rattle.std.specs.Prelude.{◌≡◌, List, None, is_some}
use Rattle.account_machine.specs.declared.user.Durable.{Durable}
use Rattle.share_api.specs.Contents.{Bytes, Contents}
use Rattle.share_api.specs.Folds.{Fold, Throughout}
use Rattle.share_api.specs.Seen.{ShareSeen, HasFailed}
use Rattle.share_api.specs.Steps.{Does}
use Rattle.share_api.specs.declared.step.Step.{Step}
use Rattle.stored_home.specs.Holds.{Keys, HoldsUnder}
use Rattle.stored_home.specs.declared.stored.Stored.{Stored}
use Rattle.home_edits.specs.Edits.{Starts}

-- The steps of an edit that was refused: none of them has failed, after each of them the contents hold the durable part
-- before it, and at the end they are those before it.
pub record ChangesNothing (old : ShareSeen) (account : Bytes) (stored : Stored)
    (Asks : Contents → Keys → Durable → Durable → Type 0) (steps : List Step) : Type 0 where
  pub quiet : HasFailed steps → ⊥
  pub held : (contents : Contents) (keys : Keys) (before next : Durable)
      → Starts (is_some old.lost) account stored Asks contents keys before next
      → Throughout (Does old.era) (λ c. HoldsUnder (is_some old.lost) c account before keys) contents steps
  pub same : (contents end : Contents) → contents.doubt ≡ None → Fold (Does old.era) contents steps end
      → end ≡ contents
