-- What a link lends: its entry.
use Rattle.std.specs.Borrow.{Lends, MutBor, Fml, RattleType}
use Rattle.link_chain.specs.contracts.link.Link.{the_row}

-- the link ends as the last entry written behind the reference
abbrev pub LendsEntry : (E : RattleType) → MutBor E.Denot → MutBor E.Denot → Fml
LendsEntry E link entry = Lends (the_row E) E link entry (λ last. last)
