use Rattle.client_lang.proofs.Tokens.{token_read}
use Rattle.client_lang.proofs.laws.printed_tokens_are_read.Goals as goal

pub returns : goal.returns
returns c = token_read
