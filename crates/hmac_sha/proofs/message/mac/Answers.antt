use Rattle.hmac_sha.proofs.message.mac.Goals as goal

pub returns : goal.returns
returns c = c.finish.ensures _ _ (c.update.ensures _ _ c.new-mac.ensures)
