use Rattle.std.proofs.Common.{◌≡◌, Result, Ok, Err, sym, subst}
use Rattle.std.specs.Prelude.{IfOk}
use Rattle.stash_format.specs.Kept.{HasBoth}
use Rattle.stash_format.specs.declared.contents.Contents.{Contents as Stash}
use Rattle.stored_home.specs.Coherent.{IsOwnStash}
use Rattle.stored_home.specs.declared.fault.StoreFault.{StoreFault}
use Rattle.home_recovery.proofs.StashLemmas.{both_read}
use Rattle.home_recovery.proofs.stash.parse_stash.Goals as goal

-- the stash is the one that was read
pub returns-in-Ok-clause-both : goal.returns-in-Ok-clause-both
returns-in-Ok-clause-both c = both_by c.own_stash.result c.own_stash.ensures.own
  where
    both_by : (r : Result Stash StoreFault) → IfOk r (λ own. (own ≡ c.in-Ok.stash) × IsOwnStash c.args.account.now c.in-Ok.stash)
        → IfOk r HasBoth
    both_by (Ok own) h = subst HasBoth (sym h.0) (both_read c.args.bytes.now c.in-Ok.stash c.in-Ok.ensures.found)
    both_by (Err fault) h = tt
