-- Turns that make no device step.
use Rattle.std.proofs.Common.{◌≡◌, ◌≢◌, ℕ, List, [], Option, None, Some, refl, sym, ap, ◌∙◌, subst, inl, is_some, arith}
use Rattle.pw_types.specs.declared.era.Era.{Era}
use Rattle.account_machine.specs.declared.answer.Answer.{Answer}
use Rattle.account_machine.specs.declared.answer.Answer.TheVariants as answers
use Rattle.account_machine.specs.declared.answer.Refused.{Refused}
use Rattle.account_machine.specs.declared.request.Turn.{Turn}
use Rattle.account_machine.specs.declared.user.User.{User}
use Rattle.account_machine.specs.Answers.{answer_of}
use Rattle.account_machine.specs.Effect.{gives, turn_effect}
use Rattle.account_machine.specs.Outline.{Bytes}
use Rattle.account_machine.specs.Row.{first_refusal, turn_refusals}
use Rattle.account_machine.specs.Step.{Row, Given, by_row, stands_in, MayFail, refusal_now, outcome_by}
use Rattle.share_api.specs.Contents.{Contents}
use Rattle.share_api.specs.Seen.{ShareSeen}
use Rattle.share_api.proofs.RunLaws.{runs_none}
use Rattle.stored_home.specs.Holds.{Keys, HoldsUnder}
use Rattle.user_state.specs.Fits.{Fits, IsSettled, StandsBy, is_lost}
use Rattle.user_state.specs.Outlines.{outline_in}
use Rattle.user_state.specs.Turns.{IsGiven, Premises, Leads, KeepsAccount, secret_of}
use Rattle.user_state.specs.declared.state.Doubt.{Doubt}
use Rattle.user_state.specs.declared.state.UserState.{UserState}
use Rattle.user_state.proofs.OutlineLemmas.{same_outline, settled_by}
use Rattle.turn_rows.specs.Due.{IsReady}

-- what a turn without steps owes: a user after it, of whom the state after is, with the same durable parts
pub record Stays (era : Era) (contents : Contents) (after : UserState) (turn : Turn) (answer : Answer) (user : User)
    (keys : Keys) : Type 0 where
  pub next : User
  pub given : Given era user turn answer next
  pub fits : Fits after contents next keys
  pub durable : next.durable ≡ user.durable
  pub other : next.other ≡ user.other

pub quiet_given : (share : ShareSeen) (before after : UserState) (turn : Turn) (answer : Answer)
    → answer ≢ answers.StorageFault → KeepsAccount before after
    → ((seen : List Contents) (contents : Contents) (user : User) (keys : Keys)
    → Premises seen contents before (secret_of turn) user keys → Stays share.era contents after turn answer user keys)
    → IsGiven share share before after turn answer
quiet_given share before after turn answer calm keeps right = record {
  steps = [];
  runs = runs_none share;
  fault = λ e. absurd (calm e);
  keeps = keeps;
  right = λ seen contents user keys p. let s = right seen contents user keys p in record {
    throughout = inl (keys, p.holds);
    leads = λ new same. subst (Leads before.account (Given share.era user turn answer) after [] user) (sym same)
        (record {
          next = s.next;
          keys = keys;
          allowed = s.given;
          fits = s.fits;
          holds = inl
              (subst (λ lost. HoldsUnder lost contents before.account s.next.durable keys) (ap is_some (sym keeps.lost))
              (subst (λ d. HoldsUnder (is_lost before) contents before.account d keys) (sym s.durable) p.holds));
          idle = λ _. record { durable = s.durable; other = s.other };
        });
  };
}

-- the row's effect, where no refusal applies
pub row_by : (era : Era) (user : User) (turn : Turn) (tail : Bytes) (answer : Answer) (next : User)
    → refusal_now user turn ≡ None → turn_effect era tail user turn ≡ gives answer next → Row era user turn answer next
row_by era user turn tail answer next none effect = (
  tail,
  ap (λ found. outcome_by found era tail user turn) none
      ∙ effect,
)

row_refused : (era : Era) (user : User) (turn : Turn) (refused : Refused) → refusal_now user turn ≡ Some refused
    → Row era user turn (answer_of refused) user
row_refused era user turn refused some = ([], ap (λ found. outcome_by found era [] user turn) some)

module _ (before : UserState) (ready : IsReady before) where
  -- the state is settled over the contents
  pub settled_now : (contents : Contents) (user : User) (keys : Keys) → Fits before contents user keys
      → IsSettled before contents user
  settled_now contents user keys fits = settled_by before contents user before.doubt fits.stands ready.settled

  -- the state's refusals are the user's
  pub as_user : (contents : Contents) (user : User) (keys : Keys) (turn : Turn) (found : Option Refused)
      → Fits before contents user keys → HoldsUnder (is_lost before) contents before.account user.durable keys
      → first_refusal (turn_refusals (outline_in before) turn before.last) ≡ found → refusal_now user turn ≡ found
  as_user contents user keys turn found fits holds e =
      sym (λ i. first_refusal
      (turn_refusals (same_outline before contents user keys ready.plain fits ready.settled holds i) turn
      (fits.last i))) ∙ e

  -- a settled state stands so, by its doubt
  pub stands_settled : (after : UserState) (contents : Contents) (user : User) → after.doubt ≡ before.doubt
      → IsSettled after contents user → StandsBy after.doubt after contents user
  stands_settled after contents user same s =
      subst (λ (d : Option Doubt). StandsBy d after contents user) (sym (same ∙ ready.settled)) s

  -- a refusal leaves the state as it is
  pub refused_given : (turn : Turn) (refused : Refused) → answer_of refused ≢ answers.StorageFault
      → first_refusal (turn_refusals (outline_in before) turn before.last) ≡ Some refused
      → (share : ShareSeen) → IsGiven share share before before turn (answer_of refused)
  refused_given turn refused calm e share =
      quiet_given share before before turn (answer_of refused) calm
      (record { account = refl; cost = refl; lost = refl })
      (λ seen contents user keys p. record {
        next = user;
        given = by_row
            (row_refused share.era user turn refused (as_user contents user keys turn (Some refused) p.fits p.holds e));
        fits = p.fits;
        durable = refl;
        other = refl;
      })

  -- and so does want of memory, where it may come
  pub starved_given : (turn : Turn) → MayFail turn → (share : ShareSeen)
      → IsGiven share share before before turn answers.NoMemory
  starved_given turn may share =
      quiet_given share before before turn answers.NoMemory (λ k. let z : ◌≡◌ {A = ℕ} 0 1 = cc in omega (arith, z))
      (record { account = refl; cost = refl; lost = refl })
      (λ seen contents user keys p. record {
        next = user;
        given = stands_in (record { may = may; answer_is = inl refl; after_is = refl });
        fits = p.fits;
        durable = refl;
        other = refl;
      })
