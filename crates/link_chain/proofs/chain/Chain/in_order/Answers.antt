-- The whole stack was collected, the newest first, and then turned round.
use Rattle.std.proofs.Common.{◌≡◌, List, map, reverse, [], ◌++◌, ap, sym, ◌∙◌, append-nil}
use Rattle.link_chain.proofs.Reversed.{map-reverse}
use Rattle.link_chain.specs.Stack.{entries}
use Rattle.link_chain.proofs.chain.Chain.in_order.Goals as goal

pub returns : goal.returns
returns g c =
    let seen : List g.row.E.Denot = map (λ entry. entry.now) c.loop-at.all.items in
    -- nothing is below the last node
    let ended : c.loop-at.at.now ≡ [] = sym c.at.view_is ∙ ap entries c.in_default.is in
    let all : seen ≡ c.self.inside.stack =
    sym (append-nil seen) ∙ (ap (λ below. seen ++ below) (sym ended) ∙ c.loop-at.invariant) in
    ap (map (λ entry. entry.now)) c.reverse.ensures.items
    ∙ (map-reverse (λ entry. entry.now) c.loop-at.all.items ∙ (ap reverse all ∙ c.self.view_is))
