use Rattle.client_lang.proofs.Escapes.{quoted-compact}
use Rattle.client_lang.proofs.laws.strings_are_as_serde_json_writes_them.Goals as goal

pub returns : goal.returns
returns c = quoted-compact
