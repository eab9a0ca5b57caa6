-- What a run did, by what its parts did.
use Rattle.std.proofs.Common.{◌≡◌, ◌⊎◌, inl, inr, List, [], None, Some, Result, Ok, Err, refl, sym, ap, ◌∙◌, subst}
use Rattle.run_desk.specs.Desk.{DeskSeen, HandsOut}
use Rattle.run_desk.proofs.Handing.{board_still, clients_still}
use Rattle.run_ending.specs.declared.ending.Ending.{Ending}
use Rattle.run_ending.specs.declared.ending.Ending.TheVariants as endings
use Rattle.serve_words.specs.declared.fault.UsageFault.{UsageFault}
use Rattle.serve_words.specs.declared.fault.UsageFault.TheVariants as usage
use Rattle.serve_words.specs.Words.{Asked}
use Rattle.serve_run.specs.Begun.{HasNotBegun}
use Rattle.serve_run.specs.Left.{LeftOver}
use Rattle.serve_run.specs.Outside.{Outside}
use Rattle.serve_run.specs.Run.{AsksNothing, Did, DidAnswer, HasNone, board_unbegun, ending_of_words, ending_unbegun}
use Rattle.serve_run.specs.declared.begin.Unbegun.{Unbegun}

module _ {B S K C : Type 0} (desk : DeskSeen B S K C) (left_over : LeftOver B S K C) where
  -- a desk that is as it was was asked for nothing
  pub asks_nothing : left_over.board ≡ None → HasNone left_over → AsksNothing desk desk left_over
  asks_nothing board none = record {
    no_board = board;
    none = none;
    board_kept = board_still desk;
    clients_kept = clients_still desk;
    quiet = refl;
  }

module _ {B S K C : Type 0} (outside : Outside B S K C) (before after : DeskSeen B S K C)
    (left_over : LeftOver B S K C) where
  -- a run whose home wasn't begun
  pub did_not_begin : (asked : Asked) (unbegun : Unbegun B) (ending : Ending)
      → HasNotBegun outside asked before after unbegun
      → ending ≡ ending_unbegun asked.clients unbegun
      → left_over.board ≡ board_unbegun unbegun
      → HasNone left_over
      → HandsOut before after []
      → Did outside before after left_over asked ending
  did_not_begin asked unbegun ending not_begun is board none clients = inr (inl (record {
    unbegun = unbegun;
    not_begun = not_begun;
    ending_is = is;
    board_is = board;
    none = none;
    clients_kept = clients;
  }))

  -- want of memory before anything else
  pub nothing_at_once : (answer : Result Asked UsageFault) → AsksNothing before after left_over
      → DidAnswer outside before after left_over answer endings.NoMemory
  nothing_at_once (Ok asked) nothing = inl (nothing, refl)
  nothing_at_once (Err fault) nothing = (nothing, inr refl)

  -- words that aren't served
  pub did_refuse : (answer : Result Asked UsageFault) (fault : UsageFault)
      → AsksNothing before after left_over
      → (fault ≡ usage.NoMemory) ⊎ (answer ≡ Err fault)
      → DidAnswer outside before after left_over answer (ending_of_words fault)
  did_refuse answer fault nothing (inl starved) =
      subst (λ (f : UsageFault). DidAnswer outside before after left_over answer (ending_of_words f)) (sym starved)
      (nothing_at_once answer nothing)
  did_refuse answer fault nothing (inr is) =
      subst (λ (a : Result Asked UsageFault). DidAnswer outside before after left_over a (ending_of_words fault))
      (sym is)
      (nothing, inl refl)
