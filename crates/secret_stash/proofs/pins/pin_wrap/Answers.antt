use Rattle.std.proofs.Common.{◌≡◌, ℕ, List, [], ◌++◌, ap, ◌∙◌, rules}
use Rattle.std.specs.Prelude.{codes, drop}
use Rattle.hmac_sha.specs.Hmac.{hmac}
use Rattle.secret_stash.proofs.pins.pin_wrap.Goals as goal

-- the text comes in two pieces
pub returns : goal.returns
returns c =
    let last : c.split_at.result.1.now ≡ drop 32 c.args.derived.now = search rules in
    let high = c.args.high.now in
    let text : List ℕ = codes "pin wrap" ++ c.split_at.result.1.now in
    record {
      value = c.finish.ensures high text (c.update-2.ensures high (codes "pin wrap") (c.update.ensures high [] c.new-wrap.ensures))
          ∙ ap (λ (t : List ℕ). hmac high (codes "pin wrap" ++ t)) last;
    }
