use Rattle.std.proofs.Common.{◌≤◌, ℕ, List, sym, subst, arith}
use Rattle.std.specs.Ordering.{nat_cmp}
use Rattle.std.specs.Cmp.Lexicographic.{slice_cmp}
use Rattle.std.specs.FinMap.{empty, len, len-empty}
use Rattle.secret_stash.specs.Edits.{live_resets}
use Rattle.stash_format.specs.Resets.{Resets}
use Rattle.stash_format.specs.declared.reset.Reset.{Reset}
use Rattle.home_edits.proofs.FirstEdits.{first_is}
use Rattle.home_edits.proofs.first_password.first_stash.Goals as goal

-- no reset secrets are few
none_few : len (empty {K = List ℕ} {X = Reset} {R = slice_cmp nat_cmp}) ≤ 16
none_few = omega (arith, len-empty (slice_cmp nat_cmp) Reset)

pub set_payload-requires : goal.set_payload-requires
set_payload-requires c = record { few = subst (λ (m : Resets). len m ≤ 16) (sym c.new.ensures) none_few }

-- the block was added first, and the payload was sealed beside it
pub returns-in-Ok : goal.returns-in-Ok
returns-in-Ok c = record {
  value = first_is c.args.stash.now c.args.label.now c.args.derived.now c.args.keys.now.main c.args.keys.now.vault
      c.args.ivs.now.block c.args.ivs.now.payload c.in_ok-made.made c.set_payload.new.self
      (record { vault = c.args.keys.now.vault; resets = c.new.result })
      (live_resets c.in_ok-made.made.blocks c.new.result)
      c.in_ok-made.ensures.value c.in-Ok.ensures.ok c.in-Ok.ensures.opens c.in-Ok.ensures.size;
}
