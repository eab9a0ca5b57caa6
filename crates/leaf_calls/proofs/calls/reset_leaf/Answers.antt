use Rattle.std.proofs.Common.{Some}
use Rattle.label_tree.specs.Values.{value_in}
use Rattle.leaf_calls.specs.Calls.{host_of}
use Rattle.leaf_calls.proofs.CallLemmas.{boot_stays, call_made}
use Rattle.leaf_calls.proofs.calls.reset_leaf.Goals as goal

pub keep-requires-clause-next : goal.keep-requires-clause-next
keep-requires-clause-next g c = boot_stays _ _ _ _ _ c.requires.boot c.reset-reply.ensures.call

pub returns-clause-makes : goal.returns-clause-makes
returns-clause-makes g c =
    let k = c.keep.ensures in
    call_made _ _ (Some c.args.leaf.now) _ _ _ (host_of c.args.host.now) _ _ (value_in c.reset-reply.new.tree) (host_of c.keep.new.host)
    c.keep.result c.reset-reply.ensures.call c.reset-reply.ensures.tree
    (record {
      any_moment = k.any_moment;
      done_or_not = k.done_or_not;
      durable = k.durable;
      done = k.done;
      reply = k.reply;
      words = k.words;
      tree = k.tree;
      old_words = k.old_words;
      old_tree = rw (← c.at-value.ensures) k.old_tree;
    })
