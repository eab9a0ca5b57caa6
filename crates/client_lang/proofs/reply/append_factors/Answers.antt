use Rattle.std.proofs.Common.{ap, ◌++◌, ◌∙◌, codes}
use Rattle.account_machine.specs.declared.answer.Answer.TheVariants as answers
use Rattle.client_lang.proofs.Replying.{replied}
use Rattle.client_lang.proofs.reply.append_factors.Goals as goal

-- the list is the factors'
pub returns-in-Ok-clause-text : goal.returns-in-Ok-clause-text
returns-in-Ok-clause-text c =
    replied (answers.OkFactors c.args.lines.now) c.args.out.now.items c.append_list.new.out.items (codes "{\"answer\":\"ok\",\"factors\":[") c.deref.result.now (codes "]}") tt
    (ap (λ list. codes "{\"answer\":\"ok\",\"factors\":[" ++ list ++ codes "]}") (c.deref.ensures.value ∙ c.in-Ok.ensures))
    c.append_list.ensures.text
