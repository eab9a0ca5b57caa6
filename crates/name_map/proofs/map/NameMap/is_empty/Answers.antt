use Rattle.std.proofs.Common.{sym, ◌∙◌, ap, length}
use Rattle.std.specs.Prelude.{◌==◌}
use Rattle.std.specs.FinMap.{len-entries}
use Rattle.name_map.proofs.map.NameMap.is_empty.Goals as goal

pub returns : goal.returns
returns g c = c.is_empty.ensures ∙ ap (λ n. n == 0) (ap length c.rows.ensures ∙ sym (len-entries c.args.self.now))
