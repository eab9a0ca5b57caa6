use Rattle.std.proofs.Common.{◌≡◌, refl, sym, ◌∙◌, ap, subst, option_copied}
use Rattle.board_model.specs.Disk.{Follows, Leaves, Goes}
use Rattle.pw_chip.specs.State.{ChipState, IsSameEra}
use Rattle.pw_chip.specs.WordsBytes.{words_bytes}
use Rattle.leaf_table.specs.Rows.{row_in}
use Rattle.label_tree.specs.Values.{value_in}
use Rattle.pin_ops.specs.Following.{IsFound}
use Rattle.pin_recovery.specs.Recovery.{words_by, tree_by}
use Rattle.chip_replay.specs.Records.{answer_of, rows_by}
use Rattle.chip_replay.specs.Carrying.{Carrying, Carried, EndsCarried, words_after}
use Rattle.chip_replay.proofs.ReplayLemmas.{next_is, tree_is, by_answer}
use Rattle.chip_replay.proofs.replaying.replay.Goals as goal

-- the write failed: the host keeps its words

pub returns-in-Err-clause-replays : goal.returns-in-Err-clause-replays
returns-in-Err-clause-replays g c =
    let w = c.args.host.now.words in
    let v = value_in c.args.host.now.tree in
    let next = c.follow.new.words in
    let told = c.ask-answer.result in
    let name = option_copied c.args.name in
    let a = g.B.Board.disk c.args.board.now in
    let b = g.B.Board.disk c.write.new.board in
    let followed : next ≡ words_by w v told c.args.now =
    c.follow.ensures.words ∙ ap (λ x. words_after x (value_in c.ask-answer.new.tree) told c.args.now) c.ask-answer.ensures.words
    ∙ next_is w v (value_in c.ask-answer.new.tree) told c.args.now c.ask-answer.ensures.tree in
    let is : next ≡ words_by w v (answer_of w v (row_in c.args.leaves.now)) c.args.now = followed ∙ ap (λ r. words_by w v r c.args.now) c.ask-answer.ensures.value in
    record {
      any_moment = by_answer (λ x r. Leaves a b (Carrying (words_bytes x) name r)) _ _ _ _ is c.ask-answer.ensures.value c.write.ensures.any_moment;
      done_or_not = by_answer (λ x r. EndsCarried (words_bytes x) name r a b) _ _ _ _ is c.ask-answer.ensures.value c.write.ensures.done_or_not;
      made = tt;
      failed_words = λ failed. refl;
      failed_rows = λ failed. refl;
    }

-- it is done: the host has the next words, and the records follow

pub returns-in-Ok-clause-replays : goal.returns-in-Ok-clause-replays
returns-in-Ok-clause-replays g c =
    let w = c.args.host.now.words in
    let v = value_in c.args.host.now.tree in
    let next = c.follow.new.words in
    let told = c.ask-answer.result in
    let name = option_copied c.args.name in
    let a = g.B.Board.disk c.args.board.now in
    let b = g.B.Board.disk c.write.new.board in
    let t = value_in c.ask-answer.new.tree in
    let value = c.ask-answer.ensures.value in
    let followed : next ≡ words_by w v told c.args.now =
    c.follow.ensures.words ∙ ap (λ x. words_after x t told c.args.now) c.ask-answer.ensures.words ∙ next_is w v t told c.args.now c.ask-answer.ensures.tree in
    let is : next ≡ words_by w v (answer_of w v (row_in c.args.leaves.now)) c.args.now = followed ∙ ap (λ r. words_by w v r c.args.now) value in
    record {
      any_moment = by_answer (λ x r. Leaves a b (Carrying (words_bytes x) name r)) _ _ _ _ is value c.write.ensures.any_moment;
      done_or_not = by_answer (λ x r. EndsCarried (words_bytes x) name r a b) _ _ _ _ is value c.write.ensures.done_or_not;
      made = (
        value,
        record {
          words = is;
          values = c.follow.ensures.tree ∙ tree_is w v t told c.ask-answer.ensures.tree ∙ ap (λ r. tree_by r w.log.newest.mac v) value;
          rows = c.keep.ensures ∙ ap (λ r. rows_by r (row_in c.args.leaves.now)) value;
          in_step = λ found. c.follow.ensures.in_step (ap (λ (x : ChipState). x.log.newest.root) c.ask-answer.ensures.words ∙ c.ask-answer.ensures.in_step (subst IsFound (sym value) found));
          era = subst (λ x. IsSameEra x next) c.ask-answer.ensures.words c.follow.ensures.era;
          durable = by_answer (λ x r. Follows (Carried (words_bytes x) name r) a.may_leave b.may_leave) _ _ _ _ is value c.in-Ok.ensures.durable;
          done = by_answer (λ x r. Goes a b (Carried (words_bytes x) name r)) _ _ _ _ is value c.in-Ok.ensures.done;
        },
      );
      failed_words = λ failed. absurd (cc failed);
      failed_rows = λ failed. absurd (cc failed);
    }
