use Rattle.std.proofs.Common.{None}
use Rattle.label_tree.specs.Values.{value_in}
use Rattle.leaf_calls.specs.Calls.{host_of}
use Rattle.leaf_calls.proofs.CallLemmas.{boot_stays, call_made}
use Rattle.leaf_calls.proofs.calls.remove_leaf.Goals as goal

pub keep-requires-clause-next : goal.keep-requires-clause-next
keep-requires-clause-next g c = boot_stays _ _ _ _ _ c.requires.boot c.remove-reply.ensures.call

pub returns-clause-makes : goal.returns-clause-makes
returns-clause-makes g c =
    let k = c.keep.ensures in
    call_made _ _ None _ _ _ (host_of c.args.host.now) _ _ (value_in c.remove-reply.new.tree) (host_of c.keep.new.host)
    c.keep.result c.remove-reply.ensures.call c.remove-reply.ensures.tree
    (record {
      any_moment = k.any_moment;
      done_or_not = k.done_or_not;
      durable = k.durable;
      done = k.done;
      reply = k.reply;
      words = k.words;
      tree = k.tree;
      old_words = k.old_words;
      old_tree = rw (← c.at-value.ensures) k.old_tree;
    })
