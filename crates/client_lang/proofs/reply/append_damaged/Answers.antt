use Rattle.std.proofs.Common.{ap, sym, ◌++◌, ◌∙◌, codes}
use Rattle.account_machine.specs.declared.answer.Answer.TheVariants as answers
use Rattle.client_lang.specs.Replies.{quoted}
use Rattle.client_lang.proofs.Replying.{replied}
use Rattle.client_lang.proofs.reply.append_damaged.Goals as goal

-- the string is the name's
pub returns-in-Ok-clause-text : goal.returns-in-Ok-clause-text
returns-in-Ok-clause-text c =
    replied (answers.Damaged c.args.name.now) c.args.out.now.items c.append_list.new.out.items (codes "{\"answer\":\"damaged\",\"record\":") c.deref.result.now (codes "}")
    (sym c.is_plain_name.ensures ∙ c.if-is_plain_name.false)
    (ap (λ string. codes "{\"answer\":\"damaged\",\"record\":" ++ string ++ codes "}") (c.deref.ensures.value ∙ c.in-Ok.ensures ∙ ap (λ front. front ++ quoted c.args.name.now) c.new-text.ensures.items))
    c.append_list.ensures.text
