use Rattle.std.proofs.Common.{None}
use Rattle.stash_format.specs.declared.contents.Contents.{Contents}
use Rattle.secret_stash.proofs.KeptLemmas.{kept_new}
use Rattle.secret_stash.proofs.stash.Stash.new.Goals as goal

-- no block, and the account that was given
pub invariant_of-result : goal.invariant_of-result
invariant_of-result c =
    let made : Contents = record { account = c.in_ok-from_str.field-0; next = 1; payload = None; blocks = c.new.result } in
    rw (c.in_ok-from_str.ensures.value, c.new.ensures) (kept_new c.args.account.now c.requires.account)
