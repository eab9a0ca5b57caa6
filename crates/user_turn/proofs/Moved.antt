-- What a turn did, from what its reload and its row did.
use Rattle.std.proofs.Common.{◌≡◌, ℕ, List, [], ◌∷◌, ◌++◌, Option, None, Some, refl, sym, ap, ◌∙◌, subst, ◌⊎◌, inl, inr, ⊎_elim}
use Rattle.std.specs.List.{AllByRecursion}
use Rattle.pw_types.specs.declared.era.Era.{Era}
use Rattle.account_machine.specs.declared.answer.Answer.{Answer}
use Rattle.account_machine.specs.declared.answer.Answer.TheVariants as answers
use Rattle.account_machine.specs.declared.entry.Told.{Told}
use Rattle.account_machine.specs.declared.entry.Told.TheVariants as told_as
use Rattle.account_machine.specs.declared.request.Turn.{Turn}
use Rattle.account_machine.specs.declared.request.Turn.TheVariants.{Look, Act, Clear}
use Rattle.home_edits.specs.Costs.{HasCost}
use Rattle.home_recovery.specs.Damage.{IsDamaged}
use Rattle.record_names.specs.Names.{factor_name}
use Rattle.share_api.specs.Contents.{Bytes, Contents}
use Rattle.share_api.specs.Folds.{Fold}
use Rattle.share_api.specs.Seen.{HasFailed}
use Rattle.share_api.specs.Steps.{Does}
use Rattle.share_api.specs.declared.step.Step.{Step}
use Rattle.share_api.proofs.FoldLaws.{fold_split}
use Rattle.share_api.proofs.RunLaws.{failed_either}
use Rattle.stored_home.specs.declared.fault.StoreFault.{StoreFault}
use Rattle.stored_home.specs.declared.fault.StoreFault.TheVariants as faults
use Rattle.turn_reload.specs.Reloads.{PutsNone, settled_with}
use Rattle.user_state.specs.Fits.{is_lost}
use Rattle.user_state.specs.Turns.{KeepsAccount}
use Rattle.user_state.specs.declared.state.UserState.{UserState}
use Rattle.user_turn.specs.Acts.{IsFaultAnswer, entry_by}
use Rattle.user_turn.specs.Moves.{IsDamage, RowMoves, Moves, found_with}
use Rattle.user_turn.proofs.Moving.{draws_same}
use Rattle.user_turn.proofs.MovingParts.{IsPlain, plain_at, no_token}

-- ---- without a reload

pub moves_settled : (era : Era) (before after : UserState) (turn : Turn) (answer : Answer) (steps : List Step)
    → before.doubt ≡ None → KeepsAccount before after → (answer ≡ answers.StorageFault → HasFailed steps)
    → RowMoves era before after turn answer steps
    → (caller at place : ℕ)
    → Moves era before (entry_by caller at before.last turn told_as.Settled answer place) steps after
moves_settled era before after turn answer steps settled keeps fault m caller at place = record {
  account = keeps.account;
  cost = keeps.cost;
  costs = m.costs;
  draws = m.draws;
  token = m.token;
  fault = fault;
  row = λ _. record {
    stored = before.stored;
    same = λ _. refl;
    ends = found.ends;
    damaged = found.damaged;
    refusal = found.refusal;
    refused = λ some. (found.refused some).0;
    quiet = λ _ asks. found.quiet asks;
    unmoved = λ _ some. (found.refused some).1;
  };
  failed = λ e. absurd (not_failed e);
}
  where
    -- the state without a doubt
    found : RowMoves era (found_with before before.last before.stored) after turn answer steps
    found = subst (λ (s : UserState). RowMoves era s after turn answer steps)
        (λ i. record before { doubt = settled i }) m

    not_failed : told_as.Settled ≡ told_as.Failed → ⊥
    not_failed e = cc e

-- ---- after a reload

-- a record that isn't put has any cost
costs_unput : (account : Bytes) (cost : ℕ) (steps more : List Step) → AllByRecursion PutsNone steps
    → AllByRecursion (HasCost account cost) more → AllByRecursion (HasCost account cost) (steps ++ more)
costs_unput account cost [] more none costs = costs
costs_unput account cost (step ∷ steps) more none costs = (
  λ label edition bytes row op found. absurd (none.0 (factor_name account label edition) bytes op),
  costs_unput account cost steps more none.1 costs,
)

-- what the last steps show, all steps show
damage_later : (era : Era) (found : UserState) (turn : Turn) (steps more : List Step) (name : Bytes)
    → IsDamage era found turn more name → IsDamage era found turn (steps ++ more) name
damage_later era found (Look label) steps more name d = absurd d
damage_later era found (Act request) steps more name d = ⊎_elim (λ broken. inl broken)
    (λ shows. inr (λ start end fold clear.
    let split = fold_split (Does era) start end steps more fold in shows split.0 end split.2 clear)) d
damage_later era found (Clear token) steps more name d = absurd d

pub moves_reloaded : (era : Era) (before ready after : UserState) (turn : Turn) (told : Told) (answer : Answer)
    (steps more : List Step) → (told ≡ told_as.Before) ⊎ (told ≡ told_as.After)
    → ready ≡ settled_with before ready.stored → AllByRecursion PutsNone steps → KeepsAccount ready after
    → (answer ≡ answers.StorageFault → HasFailed more) → RowMoves era ready after turn answer more
    → (caller at place : ℕ)
    → Moves era before (entry_by caller at before.last turn told answer place) (steps ++ more) after
moves_reloaded era before ready after turn told answer steps more which settles puts keeps fault m caller at place =
    record {
      account = keeps.account ∙ ap (λ (s : UserState). s.account) settles;
      cost = keeps.cost ∙ ap (λ (s : UserState). s.cost) settles;
      costs = costs_unput before.account before.cost steps more puts found.costs;
      draws = found.draws;
      token = λ ends token e. let t = found.token ends token e in
          record { number = t.number; tail = t.tail; drawn = t.drawn };
      fault = λ e. failed_either steps more (inr (fault e));
      row = λ _. record {
        stored = ready.stored;
        same = λ e. absurd (not_settled e);
        ends = found.ends;
        damaged = λ name e. damage_later era (found_with before before.last ready.stored) turn steps more name
            (found.damaged name e);
        refusal = found.refusal;
        refused = λ some. (found.refused some).0;
        quiet = λ e. absurd (not_settled e);
        unmoved = λ e. absurd (not_settled e);
      };
      failed = λ e. absurd (not_failed e);
    }
  where
    found : RowMoves era (found_with before before.last ready.stored) after turn answer more
    found = subst (λ (s : UserState). RowMoves era s after turn answer more) settles m

    not_settled : told ≡ told_as.Settled → ⊥
    not_settled e = ⊎_elim (λ b. let k : told_as.Before ≡ told_as.Settled = sym b ∙ e in cc k)
        (λ a. let k : told_as.After ≡ told_as.Settled = sym a ∙ e in cc k) which

    not_failed : told ≡ told_as.Failed → ⊥
    not_failed e = ⊎_elim (λ b. let k : told_as.Before ≡ told_as.Failed = sym b ∙ e in cc k)
        (λ a. let k : told_as.After ≡ told_as.Failed = sym a ∙ e in cc k) which

-- ---- after a reload that failed

-- a reload's fault is answered by no refusal, and tells no end
fault_plain : (fault : StoreFault) (answer : Answer) → IsFaultAnswer fault answer → IsPlain answer
fault_plain faults.Failed answer h = plain_at answer answers.StorageFault h (refl, refl)
fault_plain (faults.Damaged name) answer h = ⊎_elim
    (λ d. plain_at answer (answers.Damaged name) d (refl, refl))
    (λ m. plain_at answer answers.NoMemory m (refl, refl)) h
fault_plain faults.NoMemory answer h = plain_at answer answers.NoMemory h (refl, refl)
fault_plain (faults.TreeLost host chip) answer h = plain_at answer answers.NoMemory h (refl, refl)

memory_undamaged : (answer : Answer) (name : Bytes) → answer ≡ answers.NoMemory → answer ≡ answers.Damaged name → ⊥
memory_undamaged answer name m e =
    let k : ◌≡◌ {A = Answer} answers.NoMemory (answers.Damaged name) = sym m ∙ e in cc k

-- what is answered damaged the reload told damaged
damage_told : (fault : StoreFault) (answer : Answer) (name : Bytes) → IsFaultAnswer fault answer
    → answer ≡ answers.Damaged name → fault ≡ faults.Damaged name
damage_told faults.Failed answer name h e =
    absurd (let k : ◌≡◌ {A = Answer} answers.StorageFault (answers.Damaged name) = sym h ∙ e in cc k)
damage_told (faults.Damaged broken) answer name h e = ⊎_elim
    (λ d. named (sym d ∙ e))
    (λ m. absurd (memory_undamaged answer name m e)) h
  where
    named : ◌≡◌ {A = Answer} (answers.Damaged broken) (answers.Damaged name)
        → faults.Damaged broken ≡ faults.Damaged name
    named k = let same : broken ≡ name = cc in ap (λ (n : Bytes). faults.Damaged n) same
damage_told faults.NoMemory answer name h e = absurd (memory_undamaged answer name h e)
damage_told (faults.TreeLost host chip) answer name h e = absurd (memory_undamaged answer name h e)

append_none : (xs : List Step) → xs ++ [] ≡ xs
append_none xs = Rattle.std.proofs.Common.append-nil xs

pub moves_unloaded : (era : Era) (before ready : UserState) (turn : Turn) (fault : StoreFault) (answer : Answer)
    (steps : List Step) → ready ≡ before → AllByRecursion PutsNone steps
    → (answer ≡ answers.StorageFault → HasFailed steps) → IsFaultAnswer fault answer
    → ((name : Bytes) → fault ≡ faults.Damaged name → (contents new : Contents) → Fold (Does era) contents steps new
    → IsDamaged (is_lost before) new before.account name)
    → (caller at place : ℕ)
    → Moves era before (entry_by caller at before.last turn told_as.Failed answer place) steps ready
moves_unloaded era before ready turn fault answer steps same puts caused answered damaged caller at place =
    let plain = fault_plain fault answer answered in record {
      account = ap (λ (s : UserState). s.account) same;
      cost = ap (λ (s : UserState). s.cost) same;
      costs = subst (AllByRecursion (HasCost before.account before.cost)) (append_none steps)
          (costs_unput before.account before.cost steps [] puts tt);
      draws = draws_same before ready (ap (λ (s : UserState). s.generator) same);
      token = λ ends token e. absurd (no_token answer plain.1 ends token e);
      fault = caused;
      row = λ no. absurd (no refl);
      failed = λ _. record {
        refused = plain.0;
        ends = plain.1;
        same = same;
        damaged = λ name e start end fold clear. damaged name (damage_told fault answer name answered e) start end fold;
      };
    }
