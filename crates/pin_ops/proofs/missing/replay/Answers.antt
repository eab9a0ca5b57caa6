use Rattle.std.proofs.Common.{sym, ◌∙◌, ap}
use Rattle.std.specs.Option.{option_copied}
use Rattle.pw_chip.specs.declared.reply.Reply.{Reply}
use Rattle.pw_chip.specs.State.{ChipState}
use Rattle.pw_chip.specs.Calls.{Replay}
use Rattle.pw_chip.specs.Step.{step}
use Rattle.label_tree.specs.Values.{value_in}
use Rattle.pin_ops.specs.Resyncing.{replay_of}
use Rattle.pin_ops.proofs.MissingLemmas.{replay_keeps, replay_is}
use Rattle.pin_ops.proofs.missing.replay.Goals as goal

-- the chip is asked for the label's record, by its true path
pub returns : goal.returns
returns c =
    let w = c.args.words.now in
    let v = value_in c.args.tree.now in
    let leaf = c.in-Some.leaf.now in
    let is = c.step.ensures.value in
    let label = sym c.number.ensures.value in
    let aux = sym c.aux.ensures in
    record {
      value =
          c.record_in.ensures
          ∙ replay_is w c.step.new.words v c.args.label leaf c.step.result c.requires ((λ i. step w (Replay (label i) (aux i) leaf) 0) ∙ is)
          ∙ ap (replay_of w v) (sym (ap option_copied c.in-Some.is));
      words = sym (ap (λ (q : Reply × ChipState). q.1) is) ∙ replay_keeps w c.number.result c.aux.result leaf 0;
    }
