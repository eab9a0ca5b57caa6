use Rattle.std.proofs.Common.{◌++◌, ◌∙◌, ap, codes}
use Rattle.client_lang.proofs.Replying.{plain_damaged}
use Rattle.client_lang.proofs.reply.append_plain_damaged.Goals as goal

-- nothing in the name is escaped
pub returns-clause-text : goal.returns-clause-text
returns-clause-text c =
    c.append-3.ensures.items
    ∙ ap (λ front. front ++ codes "\"}") (c.append-2.ensures.items ∙ ap (λ front. front ++ c.args.name.now) c.append.ensures.items)
    ∙ plain_damaged c.args.out.now.items c.args.name.now c.requires.plain
