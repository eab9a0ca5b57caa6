use Rattle.std.proofs.Common.{ap, ◌∙◌}
use Rattle.std.specs.Int.{from_be_bytes, w64}
use Rattle.client_lang.proofs.fields.token_of.Goals as goal

-- the number is in the first 8 bytes, the tail in the others
pub returns : goal.returns
returns c = λ i. record {
  number = (c.from_be_bytes.ensures ∙ ap (from_be_bytes w64) c.copy_from_slice.ensures.after) i;
  tail = c.copy_from_slice-2.ensures.after i;
}
