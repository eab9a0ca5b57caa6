-- A home is made.
use Rattle.std.proofs.Common.{◌≡◌, [], Option, None, Some, false, refl, sym, subst, is_some, true≢false}
use Rattle.pw_types.specs.declared.era.Era.{Era}
use Rattle.account_machine.specs.declared.request.Request.TheVariants.{Create}
use Rattle.account_machine.specs.declared.request.Turn.TheVariants.{Act}
use Rattle.account_machine.specs.declared.answer.Answer.TheVariants as answers
use Rattle.account_machine.specs.declared.user.Durable.{Durable}
use Rattle.account_machine.specs.declared.user.User.{User}
use Rattle.account_machine.specs.User.{no_home, new_home}
use Rattle.turn_edits.proofs.Tests.{test_at}
use Rattle.account_machine.specs.Row.{turn_refusals}
use Rattle.home_edits.specs.Homes.{MakesHome}
use Rattle.home_edits.proofs.KeptLemmas.{bare_is}
use Rattle.share_api.specs.Contents.{Bytes, Contents}
use Rattle.stash_format.specs.declared.contents.Contents.{Contents as Stash}
use Rattle.stored_home.specs.Holds.{Keys, HasStash, HoldsUnder}
use Rattle.user_state.specs.Fits.{Fits, is_lost}
use Rattle.user_state.specs.Outlines.{outline_in}
use Rattle.user_state.specs.declared.state.UserState.{UserState}
use Rattle.turn_rows.specs.Due.{IsReady, IsDue}
use Rattle.turn_rows.proofs.Quiet.{row_by, as_user, settled_now}
use Rattle.turn_edits.proofs.EditGiven.{OwesTold}
use Rattle.turn_edits.proofs.Tallies.{AreToldApart, home_told}

absent_is : (o : Option Stash) → is_some o ≡ false → o ≡ None
absent_is None e = refl
absent_is (Some stash) e = absurd (true≢false e)

module _ (before : UserState) (account : Bytes) (due : IsDue before (Act (Create account))) where
  -- there is no home
  pub absent : before.stored.stash ≡ None
  absent = absent_is before.stored.stash
      (test_at (turn_refusals (outline_in before) (Act (Create account)) before.last) due 0)

  module _ (ready : IsReady before) (contents : Contents) (user : User) (keys : Keys)
      (fits : Fits before contents user keys)
      (holds : HoldsUnder (is_lost before) contents before.account user.durable keys) where
    bare : user.durable ≡ no_home
    bare = bare_is (is_lost before) contents before.account keys user.durable holds
        (subst (HasStash contents.records before.account) absent
        (settled_now before ready contents user keys fits).kept.is_loaded.stash)

    pub home_told_apart : AreToldApart user.durable new_home
    home_told_apart = subst (λ (d : Durable). AreToldApart d new_home) (sym bare) home_told

    -- the new home's user
    pub create_owes : (era : Era) → OwesTold era (Act (Create account)) MakesHome contents user keys
    create_owes era = record {
      durable = new_home;
      row = row_by era user (Act (Create account)) [] answers.Ok (record user { durable = new_home })
          (as_user before ready contents user keys (Act (Create account)) None fits holds due) refl;
      asked = refl;
      told = home_told_apart;
    }
