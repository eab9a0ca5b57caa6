use Rattle.std.proofs.Common.{ℕ, List, sym, ap, ◌∙◌}
use Rattle.std.specs.FinMap.{empty, insert}
use Rattle.stash_format.specs.Resets.{Resets}
use Rattle.secret_stash.specs.Edits.{is_live}
use Rattle.secret_stash.proofs.LiveLemmas.{kept_row, left_row}
use Rattle.secret_stash.proofs.payloads.live_resets.Goals as goal
use Rattle.secret_stash.proofs.payloads.live_resets.Goals.{then-is_live+in_ok-copy+in_ok-insert, else-is_live}

-- a live reset secret is put in, another is left out
pub rows-preserved : goal.rows-preserved
rows-preserved c =
    let row = c.row-item.result in
    let live = is_live c.args.blocks.now in
    elim c.if-is_live.branch [
      | then-is_live+in_ok-copy+in_ok-insert w ↦ (
        c.rows.invariant.0,
        w.live-is ∙ w.in_ok-insert.ensures.ok ∙ ap (λ (l : List ℕ). insert c.rows.live l row.1) w.in_ok-copy.ensures.value
            ∙ ap (λ (m : Resets). insert m row.0 row.1) c.rows.invariant.1
            ∙ sym (kept_row live empty c.rows-row-items.result.now c.rows.row-index row c.rows-test.true c.row-item.is (sym c.is_live.ensures.value ∙ w.if-is_live.true)),
      )
      | else-is_live w ↦ (
        c.rows.invariant.0,
        w.live-is ∙ c.rows.invariant.1
            ∙ sym (left_row live empty c.rows-row-items.result.now c.rows.row-index row c.rows-test.true c.row-item.is (sym c.is_live.ensures.value ∙ w.if-is_live.false)),
      )
    ]
