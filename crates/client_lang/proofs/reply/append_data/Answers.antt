use Rattle.std.proofs.Common.{ap, ◌++◌, ◌∙◌, codes}
use Rattle.account_machine.specs.declared.answer.Answer.TheVariants as answers
use Rattle.client_lang.proofs.Replying.{replied}
use Rattle.client_lang.proofs.reply.append_data.Goals as goal

-- the digits are the bytes'
pub returns-in-Ok-clause-text : goal.returns-in-Ok-clause-text
returns-in-Ok-clause-text c =
    replied (answers.OkBytes c.args.bytes.now) c.args.out.now.items c.append_list.new.out.items (codes "{\"answer\":\"ok\",\"data\":\"") c.as_bytes.result.now (codes "\"}") tt
    (ap (λ digits. codes "{\"answer\":\"ok\",\"data\":\"" ++ digits ++ codes "\"}") (c.as_bytes.ensures.value ∙ c.in-Ok.ensures))
    c.append_list.ensures.text
