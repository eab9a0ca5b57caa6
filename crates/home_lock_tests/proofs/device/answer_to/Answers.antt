-- The names that are given are those of the listing in the reply.
use Rattle.std.proofs.Common.{None, Ok, refl, sym, subst}
use Rattle.platform_lock.specs.Answers.{IsAnswerTo}
use Rattle.platform_lock.specs.declared.answer.Answer.TheVariants as answers
use Rattle.share_api.specs.declared.step.Reply.TheVariants as replies
use Rattle.home_lock_tests.proofs.device.answer_to.Goals as goal

pub returns-in-Names-clause-answer : goal.returns-in-Names-clause-answer
returns-in-Names-clause-answer c =
    let names = c.no_names-names.result.0 in
    let listing = c.no_names-names.result.1 in
    subst (λ op. IsAnswerTo None op (Ok (answers.Names names)) (replies.Listed listing)) (sym c.in-Names.is)
    (record {
      told = (listing.0, listing.1, c.no_names-names.ensures, refl);
      kind = (names, refl);
      fault = tt;
      loss = tt;
    })
