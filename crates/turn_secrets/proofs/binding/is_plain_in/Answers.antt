use Rattle.std.proofs.Common.{◌≡◌, ℕ, List, Some, nat_eq, sym, ap, ◌∙◌, bytes_eq, true, false, arith}
use Rattle.std.specs.FinMap.{get, entries, get-entries, len-entries}
use Rattle.stash_format.specs.declared.block.Block.{Block}
use Rattle.stored_home.proofs.MapLemmas.{from_some}
use Rattle.turn_secrets.specs.Binding.{is_unbound}
use Rattle.turn_secrets.proofs.Forms.{find_more, find_past, plain_number}
use Rattle.turn_secrets.proofs.binding.is_plain_in.Goals as goal

pub loop-at-init : goal.loop-at-init
loop-at-init c = sym (get-entries c.args.stash.now.blocks c.args.label.now)

-- this block has the label
pub returns-then-eq-clause-value : goal.returns-then-eq-clause-value
returns-then-eq-clause-value c =
    let b = c.block.ensures.value in
    let f = c.form.ensures.value in
    let test : bytes_eq c.block.result.0.now c.args.label.now ≡ true =
    ap (bytes_eq c.block.result.0.now) (sym c.as_str.ensures.value) ∙ sym c.eq.ensures ∙ c.if-eq.true in
    let got : get c.args.stash.now.blocks c.args.label.now ≡ Some b.0 =
    sym c.loop-at.invariant
    ∙ find_more c.args.label.now (entries c.args.stash.now.blocks) c.loop-at.at (c.block.result.0.now, b.0) true b.1
    test
    in
    let same : b.0 ≡ f.1 = ap (λ (row : List ℕ × Block). row.1)
    (from_some (c.block.result.0.now, b.0) (f.0, f.1) (sym b.1 ∙ f.2)) in
    ap (λ n. nat_eq n 1) f.3
    ∙ plain_number f.1.form
    ∙ ap (λ (block : Block). is_unbound (Some block)) (sym same)
    ∙ ap is_unbound (sym got)

-- this block has another
pub loop-at-preserved : goal.loop-at-preserved
loop-at-preserved c =
    let b = c.block.ensures.value in
    let test : bytes_eq c.block.result.0.now c.args.label.now ≡ false =
    ap (bytes_eq c.block.result.0.now) (sym c.as_str.ensures.value) ∙ sym c.eq.ensures ∙ c.if-eq.false in
    sym (find_more c.args.label.now (entries c.args.stash.now.blocks) c.loop-at.at (c.block.result.0.now, b.0) false b.1
    test)
    ∙ c.loop-at.invariant

-- no block has it
pub returns-clause-value : goal.returns-clause-value
returns-clause-value c =
    let past = c.loop-at-test.false in
    let size = c.count-at-end.ensures.value in
    let all = len-entries c.args.stash.now.blocks in
    ap is_unbound (sym (sym c.loop-at.invariant
    ∙ find_past c.args.label.now (entries c.args.stash.now.blocks) c.loop-at.at (omega (arith, past, size, all))))
