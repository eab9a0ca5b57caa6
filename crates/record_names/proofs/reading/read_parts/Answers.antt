use Rattle.std.proofs.Common.{ap, sym, ◌∙◌, Some, true≢false}
use Rattle.record_names.specs.Names.{owner_of, tail_of, is_account_name}
use Rattle.record_names.proofs.NameLemmas.{name_parts, bytes-owner, owner_is_account}
use Rattle.record_names.proofs.reading.read_parts.Goals as goal

-- a name has a full stop
pub returns-in_err-account : goal.returns-in_err-account
returns-in_err-account c = λ parts are is.
    absurd (c.in_err-account.ensures (owner_of parts) (tail_of parts) (bytes-owner parts are) (c.as_bytes.ensures.value ∙ name_parts c.args.text.now parts is))

-- and its account before it
pub returns-then-not-is_account : goal.returns-then-not-is_account
returns-then-not-is_account c = λ parts are is.
    let both = c.in_ok-account.ensures (owner_of parts) (tail_of parts) (bytes-owner parts are) (c.as_bytes.ensures.value ∙ name_parts c.args.text.now parts is) in
    absurd (true≢false (sym (c.is_account.ensures ∙ ap is_account_name both.0 ∙ owner_is_account parts are) ∙ c.if-not-is_account.true))

pub returns : goal.returns
returns c = λ parts are is.
    let both = c.in_ok-account.ensures (owner_of parts) (tail_of parts) (bytes-owner parts are) (c.as_bytes.ensures.value ∙ name_parts c.args.text.now parts is) in
    c.read_rest.ensures parts are (sym both.0) both.1 ∙ ap Some (sym is)
