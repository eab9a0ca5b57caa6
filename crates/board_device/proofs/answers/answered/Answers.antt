-- The names are those of the listing in the reply.
use Rattle.std.proofs.Common.{◌≡◌, refl, sym, ◌∙◌, subst, None, Ok}
use Rattle.share_api.specs.declared.step.Op.{Op}
use Rattle.share_api.specs.declared.step.Op.TheVariants as ops
use Rattle.share_api.specs.declared.step.Reply.{Reply}
use Rattle.platform_core.specs.Asked.{IsReplyTo}
use Rattle.platform_lock.specs.Answers.{IsAnswerTo}
use Rattle.platform_lock.specs.declared.answer.Answer.TheVariants as answers
use Rattle.board_device.proofs.AnswerLemmas.{names_only, listed_alone}
use Rattle.board_device.proofs.answers.answered.Goals as goal

pub returns-in-Ok-copied_names-clause-answer : goal.returns-in-Ok-copied_names-clause-answer
returns-in-Ok-copied_names-clause-answer c =
    let step = c.args.step in
    let listing = c.in-Listed.listing in
    let names = c.in-Ok-copied_names.names in
    let only = names_only step.op listing (subst (λ (reply : Reply). IsReplyTo step.op reply) c.in-Listed.is
    c.requires.reply) in
    let same : names.items ≡ listing.0 = c.in-Ok-copied_names.ensures ∙ c.names.ensures.value in
    subst (λ (op : Op). IsAnswerTo None op (Ok (answers.Names names)) step.reply) (sym only.0)
    (subst (λ (reply : Reply). IsAnswerTo None ops.Names (Ok (answers.Names names)) reply) (sym c.in-Listed.is)
    (record {
      told = (listing.0, listing.1, listed_alone listing.0 names.items listing.1 only.1 only.2 same, refl);
      kind = (names, refl);
      fault = tt;
      loss = tt;
    }))
