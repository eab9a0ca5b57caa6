-- Parts of what a row did.
use Rattle.std.proofs.Common.{◌≡◌, ℕ, List, [], ◌∷◌, append-nil, true≢false, Option, None, Some, refl, sym, ap, ◌∙◌, subst, is_some}
use Rattle.std.specs.Prelude.{IfSome, IsSome}
use Rattle.std.specs.List.{AllByRecursion}
use Rattle.pw_types.specs.declared.era.Era.{Era}
use Rattle.account_machine.specs.Answers.{answer_of, refused_in}
use Rattle.account_machine.specs.Row.{first_refusal, turn_refusals}
use Rattle.account_machine.specs.declared.answer.Answer.{Answer}
use Rattle.account_machine.specs.declared.answer.Answer.TheVariants as answers
use Rattle.account_machine.specs.declared.answer.Refused.{Refused}
use Rattle.account_machine.specs.declared.answer.Refused.TheVariants.{Exists, NoHome, SessionsSpent, UnknownSession, Expired, WrongIntent, NotAuthorised, UnknownFactor, FactorExists, PasswordFirst, LastPassword, TooManyFactors, BadSecret, EditionsSpent, AlreadyMounted, NotMounted, UnknownFile, TooManyFiles, TooLarge}
use Rattle.account_machine.specs.declared.request.Turn.{Turn}
use Rattle.account_machine.specs.declared.session.Token.{Token}
use Rattle.home_edits.specs.Costs.{HasCost, PutsCost}
use Rattle.home_edits.proofs.CostLemmas.{same_rest}
use Rattle.home_recovery.specs.Reading.{AreReads, IsReadOp}
use Rattle.home_recovery.proofs.ReadLemmas.{read_leads, reads_stay}
use Rattle.share_api.specs.Contents.{Bytes, Contents}
use Rattle.share_api.specs.Folds.{Fold}
use Rattle.share_api.specs.Places.{steps_of}
use Rattle.share_api.specs.Seen.{ShareSeen, Runs}
use Rattle.share_api.specs.Steps.{Does}
use Rattle.share_api.specs.declared.step.Step.{Step}
use Rattle.stored_home.proofs.MapLemmas.{not_None}
use Rattle.user_state.specs.Outlines.{outline_in}
use Rattle.user_state.specs.Turns.{IsGiven}
use Rattle.user_state.specs.declared.state.UserState.{UserState}
use Rattle.turn_edits.specs.Endings.{Draws}
use Rattle.turn_rows.specs.Due.{IsDue}
use Rattle.turn_rows.specs.Ends.{ends_of}
use Rattle.user_turn.specs.Acts.{IsMade}
use Rattle.user_turn.specs.Moves.{AsksNone, IsDamage, IsNewToken, end_in}

-- ---- runs

-- one share's steps between two places are one list
pub runs_same : (old new : ShareSeen) (steps more : List Step) → Runs old new steps → Runs old new more → steps ≡ more
runs_same old new steps more one two =
    sym one.steps_are
    ∙ ap (λ (o : List (ℕ × Step)). steps_of o) (same_rest old.own one.own two.own (sym one.own_is ∙ two.own_is))
    ∙ two.steps_are

-- a share that stays made no step
pub runs_still : (old new : ShareSeen) (steps : List Step) → Runs old new steps → new ≡ old → steps ≡ []
runs_still old new steps runs still =
    sym runs.steps_are
    ∙ ap (λ (o : List (ℕ × Step)). steps_of o)
    (same_rest old.own runs.own []
    (sym runs.own_is ∙ ap (λ (s : ShareSeen). s.own) still ∙ sym (append-nil old.own)))

-- the records that a run puts have the cost
pub costs_run : (old new : ShareSeen) (steps : List Step) (account : Bytes) (cost : ℕ) → Runs old new steps
    → PutsCost old new account cost → AllByRecursion (HasCost account cost) steps
costs_run old new steps account cost runs puts =
    subst (AllByRecursion (HasCost account cost)) runs.steps_are (puts runs.own runs.own_is)

-- reads put nothing
pub reads_cost : (account : Bytes) (cost : ℕ) (steps : List Step) → AreReads steps
    → AllByRecursion (HasCost account cost) steps
reads_cost account cost [] reads = tt
reads_cost account cost (step ∷ steps) reads = (
  λ label edition bytes row op found. absurd (subst IsReadOp op reads.0),
  reads_cost account cost steps reads.1,
)

-- reads from whatever contents show those that they leave, where no leaf is in doubt there
pub reads_again : (era : Era) (start end : Contents) (steps : List Step) → AreReads steps
    → Fold (Does era) start steps end → end.doubt ≡ None → Fold (Does era) end steps end
reads_again era start end [] reads fold clear = refl
reads_again era start end (step ∷ steps) reads fold clear =
    let began = read_leads era step.moment step.op step.reply _ fold.0 reads.0 fold.1 in
    let calm : fold.0.doubt ≡ None = ap (λ (c : Contents). c.doubt) began in
    let same : end ≡ fold.0 = reads_stay era fold.0 end steps calm reads.1 fold.2 in
    subst (λ (c : Contents). Fold (Does era) c (step ∷ steps) end) (sym (same ∙ began)) (fold.0, fold.1, fold.2)

-- ---- answers

pub refused_said : (r : Refused) → refused_in (answer_of r) ≡ Some r
refused_said Exists = refl
refused_said NoHome = refl
refused_said SessionsSpent = refl
refused_said UnknownSession = refl
refused_said Expired = refl
refused_said WrongIntent = refl
refused_said NotAuthorised = refl
refused_said UnknownFactor = refl
refused_said FactorExists = refl
refused_said PasswordFirst = refl
refused_said LastPassword = refl
refused_said TooManyFactors = refl
refused_said BadSecret = refl
refused_said EditionsSpent = refl
refused_said AlreadyMounted = refl
refused_said NotMounted = refl
refused_said UnknownFile = refl
refused_said TooManyFiles = refl
refused_said TooLarge = refl

-- a refusal ends no session
pub refusal_ends_none : (r : Refused) → end_in (answer_of r) ≡ None
refusal_ends_none Exists = refl
refusal_ends_none NoHome = refl
refusal_ends_none SessionsSpent = refl
refusal_ends_none UnknownSession = refl
refusal_ends_none Expired = refl
refusal_ends_none WrongIntent = refl
refusal_ends_none NotAuthorised = refl
refusal_ends_none UnknownFactor = refl
refusal_ends_none FactorExists = refl
refusal_ends_none PasswordFirst = refl
refusal_ends_none LastPassword = refl
refusal_ends_none TooManyFactors = refl
refusal_ends_none BadSecret = refl
refusal_ends_none EditionsSpent = refl
refusal_ends_none AlreadyMounted = refl
refusal_ends_none NotMounted = refl
refusal_ends_none UnknownFile = refl
refusal_ends_none TooManyFiles = refl
refusal_ends_none TooLarge = refl

-- the answer is no refusal, and tells no end
abbrev pub IsPlain : Answer → Type 0
IsPlain answer = (refused_in answer ≡ None) × (end_in answer ≡ None)

pub plain_at : (answer other : Answer) → answer ≡ other → IsPlain other → IsPlain answer
plain_at answer other e plain = (ap refused_in e ∙ plain.0, ap end_in e ∙ plain.1)

pub no_token : (answer : Answer) → end_in answer ≡ None → (ends : ℕ) (token : Token)
    → answer ≡ answers.OkSession ends token → ⊥
no_token answer none ends token e = not_None ends (sym (ap end_in e) ∙ none)

none_some : {A : Type 0} (o : Option A) → o ≡ None → IsSome o → ⊥
none_some o none some = true≢false (sym some ∙ ap is_some none)

-- ---- a row

module _ (old new : ShareSeen) (before after : UserState) (turn : Turn) (answer : Answer)
    (given : IsGiven old new before after turn answer) where
  -- a row that no refusal applied to
  pub made_due : IsDue before turn → refused_in answer ≡ None
      → AllByRecursion (HasCost before.account before.cost) given.steps → Draws 0 26 before.generator after.generator
      → ((ends : ℕ) (token : Token) → answer ≡ answers.OkSession ends token → IsNewToken before token after)
      → IfSome (end_in answer) (λ ends. ends_of (outline_in before) turn before.last ≡ Some ends)
      → ((name : Bytes) → answer ≡ answers.Damaged name → IsDamage old.era before turn given.steps name)
      → (AsksNone turn → new ≡ old)
      → IsMade old new before after turn answer
  made_due due none costs draws token ends damaged quiet = record {
    given = given;
    moves = record {
      costs = costs;
      draws = draws;
      token = token;
      ends = ends;
      damaged = damaged;
      refusal = none ∙ sym due;
      refused = λ some. absurd (none_some (refused_in answer) none some);
      quiet = λ asks. runs_still old new given.steps given.runs (quiet asks);
    };
  }

  -- one whose answer tells no end
  pub made_plain : IsDue before turn → IsPlain answer
      → AllByRecursion (HasCost before.account before.cost) given.steps → Draws 0 26 before.generator after.generator
      → ((name : Bytes) → answer ≡ answers.Damaged name → IsDamage old.era before turn given.steps name)
      → (AsksNone turn → new ≡ old)
      → IsMade old new before after turn answer
  made_plain due plain costs draws damaged quiet = made_due due plain.0 costs draws
      (λ ends token e. absurd (no_token answer plain.1 ends token e))
      (subst (λ (o : Option ℕ). IfSome o (λ ends. ends_of (outline_in before) turn before.last ≡ Some ends))
      (sym plain.1) tt)
      damaged quiet

  -- a refusal
  pub made_refused : (r : Refused) → first_refusal (turn_refusals (outline_in before) turn before.last) ≡ Some r
      → answer ≡ answer_of r → after ≡ before → new ≡ old → Draws 0 26 before.generator after.generator
      → IsMade old new before after turn answer
  made_refused r first is same still draws = record {
    given = given;
    moves =
        let none : given.steps ≡ [] = runs_still old new given.steps given.runs still in
        let ends_none : end_in answer ≡ None = ap end_in is ∙ refusal_ends_none r in
        let said : refused_in answer ≡ Some r = ap refused_in is ∙ refused_said r in record {
          costs = subst (AllByRecursion (HasCost before.account before.cost)) (sym none) tt;
          draws = draws;
          token = λ ends token e. absurd (no_token answer ends_none ends token e);
          ends = subst (λ (o : Option ℕ).
              IfSome o (λ ends. ends_of (outline_in before) turn before.last ≡ Some ends)) (sym ends_none) tt;
          damaged = λ name e. absurd (not_None r (sym said ∙ ap refused_in e));
          refusal = said ∙ sym first;
          refused = λ _. (same, none);
          quiet = λ _. none;
        };
  }
