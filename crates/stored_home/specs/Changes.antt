-- Durable parts and stashes after a change.
use Rattle.std.specs.Prelude.{ℕ, ◌+◌, Option}
use Rattle.std.specs.FinMap.{insert, remove}
use Rattle.account_machine.specs.declared.factor.Factor.{Factor}
use Rattle.account_machine.specs.declared.user.Durable.{Durable}
use Rattle.pw_types.specs.declared.stamp.Stamp.{Stamp}
use Rattle.share_api.specs.Contents.{Bytes}
use Rattle.share_api.specs.declared.leaf.Leaf.{Leaf}
use Rattle.sealed_text.specs.declared.sealed.Sealed.{Sealed}
use Rattle.stash_format.specs.declared.block.Block.{Block}
use Rattle.stash_format.specs.declared.contents.Contents.{Contents as Stash}

-- the label's factor is this one, of the next edition
abbrev pub durable_with : Durable → Bytes → Factor → Durable
durable_with durable label factor =
    record durable { next = durable.next + 1; factors = insert durable.factors label factor }

-- the label's factor is this one, of the edition that it has
abbrev pub durable_set : Durable → Bytes → Factor → Durable
durable_set durable label factor = record durable { factors = insert durable.factors label factor }

-- the label's factor is gone
abbrev pub durable_without : Durable → Bytes → Durable
durable_without durable label = record durable { factors = remove durable.factors label }

-- the file holds these bytes
abbrev pub durable_with_file : Durable → Bytes → Bytes → Durable
durable_with_file durable name bytes = record durable { files = insert durable.files name bytes }

-- the stash with a block, under the next edition but one, with this payload
abbrev pub stash_with : Stash → Option Sealed → Bytes → Block → Stash
stash_with stash payload label block =
    record stash { next = stash.next + 1; payload = payload; blocks = insert stash.blocks label block }

-- a leaf and a factor with this count and stamp
abbrev pub leaf_counted : Leaf → ℕ → Stamp → Leaf
leaf_counted leaf wrong last = record leaf { wrong = wrong; last = last }

abbrev pub factor_counted : Factor → ℕ → Stamp → Factor
factor_counted factor wrong last = record factor { wrong = wrong; stamp = last }
