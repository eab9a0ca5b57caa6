use Rattle.std.proofs.Common.{ℕ, List, sym, ap, subst, get_or}
use Rattle.stash_format.specs.Kept.{HasBoth}
use Rattle.stash_format.specs.Spelling.{stash_bytes}
use Rattle.stash_format.proofs.Rows.{spelling_of}
use Rattle.secret_stash.proofs.stash.Stash.write.Goals as goal

-- what is kept has a spelling
pub spell_contents-requires : goal.spell_contents-requires
spell_contents-requires c = spelling_of c.self.inside.contents c.self.invariant (subst HasBoth (sym c.self.view_is) c.requires.both)

-- the record begins with its version
pub returns-clause-version : goal.returns-clause-version
unfolding stash_bytes
returns-clause-version c = ap (λ (bytes : List ℕ). get_or bytes 0 0) c.in_ok-spell_contents.ensures.value
