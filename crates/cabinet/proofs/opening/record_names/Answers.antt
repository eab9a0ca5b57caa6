use Rattle.std.proofs.Common.{◌≡◌, ◌≤◌, List, ℕ, length, get_or, subst, sym, arith}
use Rattle.std.specs.Prelude.{Contains, bytes_eq}
use Rattle.std.specs.List.{IsDistinct}
use Rattle.std.proofs.lemmas.List.{take_all}
use Rattle.cabinet.proofs.OpeningLemmas.{found_more, only_more, none_in}
use Rattle.cabinet.proofs.NamedLemmas.{once_more, distinct_none}
use Rattle.cabinet.proofs.opening.record_names.Goals as goal

pub loop-file-init : goal.loop-file-init
loop-file-init c = record {
  found = λ q name h. absurd (none_in q h);
  only = λ q h. absurd (none_in q (subst (λ (xs : List (List ℕ)). Contains xs q) c.new-names.ensures.items h));
  once = λ d. subst (IsDistinct bytes_eq) (sym c.new-names.ensures.items) distinct_none;
}

-- one file more
pub loop-file-preserved : goal.loop-file-preserved
loop-file-preserved c =
    let files = c.args.files.now in
    let k = c.loop-file.file-index in
    let item = c.as_str.result.now in
    let is : item ≡ get_or files k item = rw c.as_str.ensures.value c.file-item.is in
    record {
      found = found_more files c.loop-file.names.items c.add_name.new.names.items k item c.loop-file-test.true is c.loop-file.invariant.found c.loop-file.invariant.only c.in_ok-add_name.ensures.found c.in_ok-add_name.ensures.only;
      once = λ d. once_more files c.loop-file.names.items c.add_name.new.names.items k item c.loop-file-test.true is c.loop-file.invariant.only c.in_ok-add_name.ensures.only d (c.loop-file.invariant.once d);
      only = only_more files c.loop-file.names.items c.add_name.new.names.items k item c.loop-file-test.true is c.loop-file.invariant.found c.loop-file.invariant.only c.in_ok-add_name.ensures.found c.in_ok-add_name.ensures.only;
    }

pub returns : goal.returns
returns c =
    let files = c.args.files.now in
    let end : length files ≤ c.loop-file.file-index = omega arith in
    let whole = take_all c.loop-file.file-index files end in
    record {
      found = λ q name h. c.loop-file.invariant.found q name (subst (λ (xs : List (List ℕ)). Contains xs q) (sym whole) h);
      only = λ q h. let was = c.loop-file.invariant.only q h in (was.0, subst (λ (xs : List (List ℕ)). Contains xs q) whole was.1);
      once = c.loop-file.invariant.once;
    }
