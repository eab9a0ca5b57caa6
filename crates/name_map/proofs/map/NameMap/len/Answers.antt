use Rattle.std.proofs.Common.{sym, ◌∙◌, ap, length}
use Rattle.std.specs.FinMap.{len-entries}
use Rattle.name_map.proofs.map.NameMap.len.Goals as goal

pub returns : goal.returns
returns g c = ap length c.rows.ensures ∙ sym (len-entries c.args.self.now)
