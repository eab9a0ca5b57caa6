use Rattle.std.proofs.Common.{◌∷◌, IsOk, IsErr, Err, refl, ap, inl, inr}
use Rattle.stored_home.specs.declared.fault.StoreFault.TheVariants as faults
use Rattle.pin_edits.specs.Writes.{rest_of}
use Rattle.pin_edits.proofs.ChangeTries.{tries_told}
use Rattle.pin_edits.proofs.NamedFaults.{back_is_held, back_damaged}
use Rattle.home_edits.proofs.Edited.{fault_is_err}
use Rattle.pin_edits.proofs.setting.put_named.Goals as goal

-- the record is named, and all is tried
pub returns-in-Ok-clause-puts : goal.returns-in-Ok-clause-puts
returns-in-Ok-clause-puts g c = inl (
  c.in-Ok.row_put,
  c.in-Ok.ensures.put,
  c.commit.ensures.only,
  tries_told (g.S.Share.seen c.args.share.now) (g.S.Share.seen c.commit.new.share)
      (c.in-Ok.row_put ∷ c.args.put ∷ rest_of c.args.old) (IsOk c.commit.result) (IsErr c.commit.result) _ _
      c.commit.ensures.tried (λ o. o) (fault_is_err c.commit.result faults.Failed),
)

-- it can't be named
pub returns-in-Err-clause-puts : goal.returns-in-Err-clause-puts
returns-in-Err-clause-puts g c = inr (c.give_back.ensures.none, c.give_back.ensures.tried)

-- no loaded record names the leaf
pub returns-in-Ok-clause-free : goal.returns-in-Ok-clause-free
returns-in-Ok-clause-free g c = λ _. c.in-Ok.ensures.free refl

-- want of memory, or a damaged leaf, or the removal failed
pub returns-in-Err-clause-only : goal.returns-in-Err-clause-only
returns-in-Err-clause-only g c = back_is_held c.args.account.now c.args.tree c.in-Err.fault c.give_back.result
    c.in-Err.ensures.only c.give_back.ensures.only

-- a loaded record names the leaf that is damaged
pub returns-in-Err-clause-taken : goal.returns-in-Err-clause-taken
returns-in-Err-clause-taken g c = λ name is.
    c.in-Err.ensures.taken name (ap Err (back_damaged c.in-Err.fault c.give_back.result name c.give_back.ensures.only is))
