-- A turn as the book keeps it, and what is told of it.
use Rattle.std.proofs.Common.{◌≡◌, ℕ, Option, None, Some, sym, ap, ◌∙◌, subst, true≢false, ⊎_elim}
use Rattle.std.specs.Prelude.{IfSome}
use Rattle.account_machine.specs.declared.answer.Answer.{Answer}
use Rattle.account_machine.specs.declared.answer.Answer.TheVariants as answers
use Rattle.account_machine.specs.declared.request.Turn.{Turn}
use Rattle.home_locks.specs.Turns.{ActStands}
use Rattle.home_locks.specs.Accounts.{StaysReady}
use Rattle.share_api.specs.Conditions.{IsOf}
use Rattle.share_api.specs.Seen.{ShareSeen}
use Rattle.user_state.specs.Turns.{KeepsAccount}
use Rattle.user_state.specs.declared.state.Seen.{Seen}
use Rattle.user_state.specs.declared.state.UserState.{UserState}
use Rattle.user_turn.specs.Acts.{IsAct, IsSteady, ShowsFactor}
use Rattle.turn_meaning.specs.Meanings.{entry_of, user_rules}
use Rattle.turn_meaning.specs.declared.taken.TurnTaken.{TurnTaken}
use Rattle.turn_meaning.proofs.Joining.{stands}
use Rattle.user_accounts.specs.Ready.{IsReadyFor}
use Rattle.user_accounts.specs.Told.{IsKeptOf, IsSeenBy}
use Rattle.user_accounts.proofs.DamageLemmas.{damage_forgotten, is_damage}

-- the turn with another answer
abbrev answered_by : TurnTaken → Answer → TurnTaken
answered_by taken answer = record taken { answer = answer }

-- a turn stands with the answer that the book keeps
pub kept_stands : (old new : ShareSeen) (before after : UserState) (taken : TurnTaken) (answer : Answer)
    → IsKeptOf answer taken.answer
    → IsAct old new before after (entry_of (answered_by taken answer))
    → ActStands (user_rules old.era) before after taken old new
kept_stands old new before after taken answer kept act = stands old new before after taken
    (⊎_elim
    (λ same. subst (λ (a : Answer). IsAct old new before after (entry_of (answered_by taken a))) (sym same) act)
    (λ damage. subst (λ (a : Answer). IsAct old new before after (entry_of (answered_by taken a))) (sym damage.2)
    (damage_forgotten old new before after (entry_of (answered_by taken answer)) damage.0 damage.1 act))
    kept)

-- a turn leaves a state with which another can begin
pub stays_ready : (before after : UserState) → KeepsAccount before after → IsSteady after
    → StaysReady IsReadyFor before after
stays_ready before after keeps steady owner lost ready = record {
  steady = steady;
  own = subst (IsOf owner) (sym keeps.account) ready.own;
  lost_is = keeps.lost ∙ ready.lost_is;
}

-- what a look was answered isn't damage, and is kept
kept_seen : (edition : Option ℕ) (answer kept : Answer) → IsKeptOf answer kept → answer ≡ answers.Seen edition
    → kept ≡ answers.Seen edition
kept_seen edition answer kept h is = ⊎_elim (λ same. same ∙ is)
    (λ damage. absurd (true≢false (sym (ap is_damage damage.1) ∙ ap is_damage is))) h

-- what is shown is what the look was answered
pub seen_kept : (after : UserState) (turn : Turn) (answer kept : Answer) (seen : Option Seen) → IsKeptOf answer kept
    → IfSome seen (ShowsFactor after turn answer)
    → IfSome seen (IsSeenBy turn kept)
seen_kept after turn answer kept None h shows = tt
seen_kept after turn answer kept (Some seen) h shows = record {
  label = shows.label;
  turn_is = shows.turn_is;
  answer_is = kept_seen seen.edition answer kept h shows.answer_is;
}
