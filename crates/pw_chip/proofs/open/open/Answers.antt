use Rattle.std.proofs.Common.{inl, inr, Ok, refl, sym, ◌∙◌, ap}
use Rattle.std.specs.Prelude.{bytes_eq}
use Rattle.std.proofs.lemmas.Bool.{cases_lt, not-true, not-false, false≢true}
use Rattle.pw_path.specs.Path.{root_of}
use Rattle.pw_leaf.specs.Contents.{contents_of}
use Rattle.pw_leaf.specs.Reading.{iv_in}
use Rattle.pw_chip.proofs.OpenLemmas.{count_within, moment_below, length_read, mac_read, opened-no_label, opened-fault, opened-foreign, opened-no_path, opened-ok}
use Rattle.pw_chip.proofs.open.open.Goals as goal

pub returns-in_default-clause-refusal : goal.returns-in_default-clause-refusal
returns-in_default-clause-refusal c =
    let found = c.in_default.ensures.found in
    opened-no_label c.args.keys.now c.args.tree_root.now c.args.number c.args.aux.now c.args.leaf.now
    (elim (cases_lt c.args.number 16384) [ inl l ↦ absurd (false≢true (found.1 l)) | inr l ↦ l ])

pub returns-in-Err-clause-refusal : goal.returns-in-Err-clause-refusal
returns-in-Err-clause-refusal c =
    let found = c.in-Some.ensures.found in
    opened-fault c.args.keys.now c.args.tree_root.now c.args.number c.args.aux.now c.args.leaf.now c.in-Err.fault (found.0 refl) c.in-Err.ensures.fault

pub copy_from_slice-requires : goal.copy_from_slice-requires
copy_from_slice-requires c = sym (length_read c.args.keys.now c.args.leaf.now _ c.in-Ok.ensures.contents)

pub returns-clause-moment : goal.returns-clause-moment
returns-clause-moment c = moment_below c.args.keys.now c.args.leaf.now _ c.in-Ok.ensures.contents

-- the record is of another label
pub returns-then-number-clause-refusal : goal.returns-then-number-clause-refusal
returns-then-number-clause-refusal c =
    let found = c.in-Some.ensures.found in
    opened-foreign c.args.keys.now c.args.tree_root.now c.args.number c.args.aux.now c.args.leaf.now _ (found.0 refl) c.in-Ok.ensures.contents
    (λ e. c.if-number.true (c.number.ensures.value ∙ e))

-- the path gives another root
pub returns-then-ne-clause-refusal : goal.returns-then-ne-clause-refusal
returns-then-ne-clause-refusal c =
    let found = c.in-Some.ensures.found in
    let aux = c.args.aux.now in
    let mac = mac_read c.args.keys.now c.args.leaf.now c.in-Ok.read (sym c.in-Ok.ensures.value) in
    let path = sym (c.root_of.ensures ∙ (λ i. root_of (c.in-Some.ensures.value i) (mac i) aux)) in
    opened-no_path c.args.keys.now c.args.tree_root.now c.args.number aux c.args.leaf.now _ (found.0 refl) c.in-Ok.ensures.contents
    (sym c.number.ensures.value ∙ c.if-number.false)
    (ap (λ r. bytes_eq r c.args.tree_root.now) path ∙ not-true (bytes_eq c.root_of.result c.args.tree_root.now) (sym c.ne.ensures ∙ c.if-ne.true))

pub returns-clause-found : goal.returns-clause-found
returns-clause-found c =
    let found = c.in-Some.ensures.found in
    let aux = c.args.aux.now in
    let leaf = c.args.leaf.now in
    let mac = mac_read c.args.keys.now leaf c.in-Ok.read (sym c.in-Ok.ensures.value) in
    let path = sym (c.root_of.ensures ∙ (λ i. root_of (c.in-Some.ensures.value i) (mac i) aux)) in
    opened-ok c.args.keys.now c.args.tree_root.now c.args.number aux leaf _ (found.0 refl) c.in-Ok.ensures.contents
    (sym c.number.ensures.value ∙ c.if-number.false)
    (ap (λ r. bytes_eq r c.args.tree_root.now) path ∙ not-false (bytes_eq c.root_of.result c.args.tree_root.now) (sym c.ne.ensures ∙ c.if-ne.false))
    ∙ ap (λ bytes. Ok (contents_of c.in-Ok.read (iv_in bytes))) (sym c.copy_from_slice.ensures.after)

pub returns-clause-room : goal.returns-clause-room
returns-clause-room c = count_within c.args.keys.now c.args.leaf.now _ c.in-Ok.ensures.contents
