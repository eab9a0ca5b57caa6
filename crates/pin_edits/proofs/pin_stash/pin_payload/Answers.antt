use Rattle.std.proofs.Common.{◌∙◌, arith}
use Rattle.pin_edits.specs.Pins.{with_reset}
use Rattle.pin_edits.proofs.pin_stash.pin_payload.Goals as goal

-- the reset secret is among them, and there are at most 16
pub returns-clause-value : goal.returns-clause-value
returns-clause-value c = record {
  old = c.in_ok-payload.payload;
  opened = c.in_ok-payload.ensures.ok;
  vault = c.in_ok-payload-2.ensures.vault;
  resets = c.in_ok-payload-2.ensures.resets
      ∙ (λ i. with_reset c.in_ok-payload.payload.resets c.args.label.now (c.next.ensures.value i) c.args.secret);
  few = (let most = c.if-len-gt16.false in let size = c.len.ensures in omega (arith, most, size));
}
