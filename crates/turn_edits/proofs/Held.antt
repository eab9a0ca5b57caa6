-- What the contents of a settled account hold beside its loaded stash.
use Rattle.std.proofs.Common.{◌≡◌, Bool, true, false, Option, None, Some, refl, sym, ap, ◌∙◌, subst, true≢false}
use Rattle.std.specs.Prelude.{IsSome, IsSomeAnd}
use Rattle.account_machine.specs.declared.user.User.{User}
use Rattle.home_edits.proofs.KeptLemmas.{held_by}
use Rattle.share_api.specs.Contents.{Contents, settled}
use Rattle.stash_format.specs.declared.contents.Contents.{Contents as Stash}
use Rattle.stored_home.specs.Holds.{Keys, HasStash, HoldsBy, HoldsUnder}
use Rattle.stored_home.specs.Loaded.{HasFactors}
use Rattle.stored_home.specs.declared.stored.Stored.{Stored}
use Rattle.user_state.specs.Fits.{Fits, is_lost}
use Rattle.user_state.specs.declared.state.UserState.{UserState}
use Rattle.turn_rows.specs.Due.{IsReady}
use Rattle.turn_rows.proofs.Quiet.{settled_now}
use Rattle.turn_edits.specs.Stashes.{has_payload}

-- a home with factors has a payload
pub factors_by : (stored : Stored) → has_payload stored.stash ≡ true → HasFactors stored
factors_by stored e = by stored.stash e
  where
    by : (o : Option Stash) → has_payload o ≡ true → IsSomeAnd o (λ stash. IsSome stash.payload)
    by None e = absurd (true≢false (sym e))
    by (Some stash) e = e

-- a stash that is there
pub stash_by : (o : Option Stash) → Rattle.std.proofs.Common.is_some o ≡ true → (stash : Stash) × (o ≡ Some stash)
stash_by None e = absurd (true≢false (sym e))
stash_by (Some stash) e = (stash, refl)

-- what is held beside the loaded stash
pub held_beside : (before : UserState) (ready : IsReady before) (stash : Stash) → before.stored.stash ≡ Some stash
    → (contents : Contents) (user : User) (keys : Keys) → Fits before contents user keys
    → HoldsUnder (is_lost before) contents before.account user.durable keys
    → HoldsBy (is_lost before) (settled contents) before.account user.durable keys stash
held_beside before ready stash is contents user keys fits holds =
    held_by (is_lost before) contents before.account keys user.durable stash holds
    (subst (HasStash contents.records before.account) is
    (settled_now before ready contents user keys fits).kept.is_loaded.stash)
