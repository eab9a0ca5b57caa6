use Rattle.std.proofs.Common.{◌<◌, sym}
use Rattle.std.proofs.lemmas.List.Elements.{All-from_get_or}
use Rattle.pw_chip.proofs.AcceptedWordsLemmas.{IsWords-read}
use Rattle.pw_chip.proofs.words.Words.read.Goals as goal

-- the bytes are bytes, so what they hold can be kept
pub returns-clause-kept : goal.returns-clause-kept
returns-clause-kept c =
    let bytes = c.args.bytes.now in
    IsWords-read bytes c.in_bytes.result c.told-bytes (All-from_get_or (λ byte. byte < 256) bytes 0 (λ i inside. c.fits-bytes i)) (sym c.in_bytes.ensures)
