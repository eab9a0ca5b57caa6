use Rattle.std.proofs.Common.{sym, subst, arith, ◌≡◌, ◌<◌, length}
use Rattle.std.specs.List.{position_or_len}
use Rattle.record_names.specs.Names.{is_full_stop, IsRecordName}
use Rattle.std.proofs.lemmas.Str.Pattern.{split_once_first}
use Rattle.record_names.proofs.NameLemmas.{full_stop_inside, account_of-record}
use Rattle.record_names.proofs.name.RecordName.account.Goals as goal

-- each name has a full stop
pub unreachable-requires : goal.unreachable-requires
unreachable-requires c =
    let name = c.as_str.result.now in
    let parts = split_once_first 46 name c.split_once.result c.split_once.ensures.cases (omega arith) in
    let none : position_or_len is_full_stop name ≡ length name = rw c.in_default.is at parts in
    let inside : position_or_len is_full_stop name < length name = full_stop_inside name (subst IsRecordName (sym c.as_str.ensures.value) c.as_str.ensures.name) in
    absurd (omega arith)

pub returns-clause-name : goal.returns-clause-name
returns-clause-name c = account_of-record c.args.self.now c.as_str.ensures.name
