use Rattle.std.proofs.Common.{◌∙◌, ap}
use Rattle.std.specs.Int.{w128, from_be_bytes}
use Rattle.gcm_seal.specs.Gcm.{hash_key}
use Rattle.gcm_seal.proofs.gcm.hash_key.Goals as goal

pub returns : goal.returns
unfolding hash_key
returns g c = c.new.ensures ∙ c.from_be_bytes.ensures ∙ ap (from_be_bytes w128) c.encrypt.ensures
