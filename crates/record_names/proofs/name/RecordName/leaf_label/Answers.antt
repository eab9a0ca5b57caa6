use Rattle.std.proofs.Common.{◌≡◌, ◌∙◌, sym, ap, Some, false, true≢false}
use Rattle.std.specs.Str.{bytes_eq}
use Rattle.record_names.specs.Names.{Leaf, leaf_name, account_of}
use Rattle.record_names.proofs.NameLemmas.{account_of-name, bytes_eq_same}
use Rattle.record_names.proofs.name.RecordName.leaf_label.Goals as goal

-- the name that is spelled again is the same
pub returns-else-eq-clause-found : goal.returns-else-eq-clause-found
returns-else-eq-clause-found c = λ account label plain within is.
    let name = c.args.self.now in
    let read : Some c.in_ok-label.label ≡ Some label = c.in_ok-label.ensures account label plain within (c.as_bytes.ensures.value ∙ c.as_str.ensures.value ∙ is) in
    let labels : c.in_ok-label.label ≡ label = cc in
    let owner : c.account.result.now ≡ account = c.account.ensures.value ∙ ap account_of is ∙ account_of-name (Leaf account label) (plain, within) in
    let spelled : c.leaf.result ≡ name = c.leaf.ensures.value ∙ (λ i. leaf_name (owner i) (labels i)) ∙ sym is in
    let differ : bytes_eq c.leaf.result name ≡ false = sym c.eq.ensures ∙ c.if-eq.false in
    absurd (true≢false (sym (bytes_eq_same c.leaf.result name spelled) ∙ differ))
