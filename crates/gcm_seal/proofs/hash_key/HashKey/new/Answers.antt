use Rattle.gcm_seal.proofs.HornerRule.{table_key}
use Rattle.gcm_seal.proofs.hash_key.HashKey.new.Goals as goal

-- the table's key is its entry 8
pub invariant_of-result : goal.invariant_of-result
invariant_of-result c = rw (table_key c.table.result c.args.block c.table.ensures) c.table.ensures

pub returns : goal.returns
returns c = table_key c.table.result c.args.block c.table.ensures
