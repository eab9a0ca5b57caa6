-- The state that opening gave has the account's name, the opening's cost and its generator.
use Rattle.std.proofs.Common.{ℕ, List, ap, subst}
use Rattle.std.specs.List.{AllByRecursion}
use Rattle.home_edits.specs.Costs.{HasCost}
use Rattle.share_api.specs.Contents.{Bytes}
use Rattle.share_api.specs.Places.{steps_of}
use Rattle.turn_meaning.specs.Words.{TellsStretch}
use Rattle.user_state.specs.declared.state.UserState.{UserState}
use Rattle.run_laws.proofs.laws.accounts_keep_to_their_opening.Goals as goal

pub returns : goal.returns
returns c = λ device shared opening chain account name book says.
    let laws = c.books_keep_to_the_first_state.ensures in
    let state = says.opened.opens.state in
    record {
      costs = subst (λ (kept : Bytes × ℕ). AllByRecursion (HasCost kept.0 kept.1) (steps_of says.own))
          (λ i. ((state i).account, (state i).cost))
          (laws.costs device.era says.start says.last says.own book says.moved);
      tails = subst (λ (key : List ℕ). AllByRecursion (TellsStretch key) book)
          (ap (λ (user : UserState). user.generator.key) state)
          (laws.tails device.era says.start says.last says.own book says.moved);
    }
