use Rattle.std.proofs.Common.{sym, subst}
use Rattle.std.specs.Str.{IsUtf8}
use Rattle.record_names.proofs.NameLemmas.{IsUtf8-name}
use Rattle.record_names.proofs.name.RecordName.as_str.Goals as goal

-- a name is text
pub unreachable-requires : goal.unreachable-requires
unreachable-requires c =
    c.in_default.ensures.cases.0 (subst IsUtf8 (sym c.as_slice.ensures.value) (IsUtf8-name c.self.inside.bytes c.self.invariant))
