use Rattle.std.proofs.Common.{true≢false}
use Rattle.record_names.specs.Names.{Leaf, tail_of}
use Rattle.record_names.proofs.NameLemmas.{name_parts, bytes-account}
use Rattle.record_names.proofs.reading.read_label.Goals as goal

-- a leaf's name has a full stop
pub returns-in_err-rest : goal.returns-in_err-rest
returns-in_err-rest c = λ account label plain within is.
    absurd (c.in_err-rest.ensures account (tail_of (Leaf account label)) (bytes-account account plain) (name_parts c.args.name.now (Leaf account label) is))

-- and behind it what a leaf's name has
pub returns-in_err-digits : goal.returns-in_err-digits
returns-in_err-digits c = λ account label plain within is.
    let both = c.in_ok-rest.ensures account (tail_of (Leaf account label)) (bytes-account account plain) (name_parts c.args.name.now (Leaf account label) is) in
    let none = rw both.1 at c.in_err-digits.ensures.cases in
    absurd (true≢false none)

pub returns : goal.returns
returns c = λ account label plain within is.
    let both = c.in_ok-rest.ensures account (tail_of (Leaf account label)) (bytes-account account plain) (name_parts c.args.name.now (Leaf account label) is) in
    let some = rw both.1 at c.in_ok-digits.ensures.cases in
    c.label_of.ensures label within some.1
