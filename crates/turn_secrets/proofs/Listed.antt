-- The row of a list of factors.
use Rattle.std.proofs.Common.{◌≡◌, ℕ, List, [], map, not, None, Some, Err, refl, sym, ap, ◌∙◌, subst, inl, inr, ⊎_elim, is_some, arith}
use Rattle.std.specs.FinMap.{get, entries}
use Rattle.account_machine.specs.declared.answer.Answer.{Answer}
use Rattle.account_machine.specs.declared.answer.Answer.TheVariants as answers
use Rattle.account_machine.specs.declared.answer.FactorLine.{FactorLine}
use Rattle.account_machine.specs.declared.answer.Refused.TheVariants.{NoHome}
use Rattle.account_machine.specs.declared.request.Request.TheVariants.{ListFactors}
use Rattle.account_machine.specs.declared.request.Turn.{Turn}
use Rattle.account_machine.specs.declared.request.Turn.TheVariants.{Act}
use Rattle.account_machine.specs.declared.user.User.{User}
use Rattle.account_machine.specs.Effect.{line_of}
use Rattle.account_machine.specs.Step.{Given, Row, IsStandIn, by_row, hides, unsettles, stands_in}
use Rattle.home_edits.proofs.KeptLemmas.{held_by}
use Rattle.home_recovery.proofs.ReadLemmas.{reads_stay, reads_keep}
use Rattle.pw_types.specs.declared.era.Era.{Era}
use Rattle.share_api.specs.Contents.{Bytes, Contents, settled}
use Rattle.share_api.specs.Folds.{Fold}
use Rattle.share_api.specs.Seen.{ShareSeen, HasFailed}
use Rattle.share_api.specs.Steps.{Does}
use Rattle.share_api.proofs.FoldLaws.{fold_among, throughout_among}
use Rattle.share_api.proofs.StepLaws.{settled_same}
use Rattle.stash_format.specs.declared.contents.Contents.{Contents as Stash}
use Rattle.stored_home.specs.Holds.{Keys, HasStash, HoldsBy, HoldsUnder}
use Rattle.stored_home.specs.Loaded.{IsRowOf, block_in}
use Rattle.stored_home.specs.Matching.{Matches}
use Rattle.stored_home.specs.declared.fault.StoreFault.{StoreFault}
use Rattle.stored_home.specs.declared.fault.StoreFault.TheVariants.{Failed, Damaged, NoMemory, TreeLost}
use Rattle.stored_home.proofs.MapLemmas.{either, some_is}
use Rattle.user_state.specs.Fits.{Fits, is_lost, tally_in}
use Rattle.user_state.specs.Sound.{IsSound}
use Rattle.user_state.specs.Turns.{IsGiven, Leads, HoldsAround, KeepsAccount}
use Rattle.user_state.specs.declared.state.Doubt.TheVariants.{Editions}
use Rattle.user_state.specs.declared.state.UserState.{UserState}
use Rattle.turn_rows.specs.Due.{IsReady, IsDue}
use Rattle.turn_rows.proofs.Quiet.{row_by, settled_now, as_user}
use Rattle.turn_secrets.specs.Listing.{Looks, TellsLines, TellsList, FailsSo, IsListAnswer, after_list, line_in}
use Rattle.turn_secrets.proofs.Lines.{lines_held, lines_lost}
use Rattle.turn_secrets.proofs.Looking.{looks_as}
use Rattle.turn_secrets.proofs.Sounds.{sound_doubted}
use Rattle.turn_secrets.proofs.Mounting.{not_first, untrue}
use Rattle.turn_secrets.proofs.Tally.{same_tally}

-- these answers are no storage fault
pub no_fault_lines : (lines : List FactorLine) → answers.OkFactors lines ≡ answers.StorageFault → ⊥
no_fault_lines lines e = let z : ◌≡◌ {A = ℕ} 0 1 = cc in omega (arith, z)

pub no_fault_damaged : (name : Bytes) → answers.Damaged name ≡ answers.StorageFault → ⊥
no_fault_damaged name e = let z : ◌≡◌ {A = ℕ} 0 1 = cc in omega (arith, z)

pub no_fault_memory : answers.NoMemory ≡ answers.StorageFault → ⊥
no_fault_memory e = let z : ◌≡◌ {A = ℕ} 0 1 = cc in omega (arith, z)

module _ (before : UserState) (ready : IsReady before) (account : Bytes)
    (due : IsDue before (Act (ListFactors account))) (old new : ShareSeen) where
  abbrev turn : Turn
  turn = Act (ListFactors account)

  -- the home is made
  pub home_is : (stash : Stash) × (before.stored.stash ≡ Some stash)
  home_is = some_is before.stored.stash (untrue (is_some before.stored.stash)
      (not_first (not (is_some before.stored.stash)) NoHome [] due).0)

  -- a turn whose steps only read leaves what is held
  reads_given : (after : UserState) (answer : Answer) (failed : Type 0) (most : ℕ) (P : Contents → Type 0)
      → (l : Looks old new failed most P) → (answer ≡ answers.StorageFault → failed) → KeepsAccount before after
      → ((contents : Contents) (user : User) (keys : Keys) → Fits before contents user keys
      → HoldsUnder (is_lost before) contents before.account user.durable keys → P contents
      → Leads before.account (Given old.era user turn answer) after l.steps user contents)
      → IsGiven old new before after (Act (ListFactors account)) answer
  reads_given after answer failed most P l fault keeps leads = record {
    steps = l.steps;
    runs = l.runs;
    fault = λ e. l.fails (fault e);
    keeps = keeps;
    right = λ seen contents user keys p.
        let clear : contents.doubt ≡ None = (settled_now before ready contents user keys p.fits).kept.clear in
        record {
          throughout = throughout_among old.era seen
              (HoldsAround (is_lost before) before.account user.durable (Given old.era user turn answer)) contents
              l.steps
              (reads_keep old.era
              (HoldsAround (is_lost before) before.account user.durable (Given old.era user turn answer)) contents
              l.steps
              clear l.reads (inl (keys, p.holds)));
          leads = λ later fold.
              let there : Fold (Does old.era) contents l.steps later = fold_among old.era seen contents later l.steps
              fold
              in
              let same : later ≡ contents = reads_stay old.era contents later l.steps clear l.reads there in
              subst (Leads before.account (Given old.era user turn answer) after l.steps user) (sym same)
              (leads contents user keys p.fits p.holds
              (l.tells contents clear (subst (λ c. Fold (Does old.era) contents l.steps c) same there)));
        };
  }

  module _ (contents : Contents) (user : User) (keys : Keys) (f : Fits before contents user keys)
      (holds : HoldsUnder (is_lost before) contents before.account user.durable keys) where
    -- the home is held beside the loaded stash
    held : HoldsBy (is_lost before) (settled contents) before.account user.durable keys home_is.0
    held = held_by (is_lost before) contents before.account keys user.durable home_is.0 holds
        (subst (HasStash contents.records before.account) home_is.1
        (settled_now before ready contents user keys f).kept.is_loaded.stash)

    held_clear : HoldsBy (is_lost before) contents before.account user.durable keys home_is.0
    held_clear = subst (λ c. HoldsBy (is_lost before) c before.account user.durable keys home_is.0)
        (settled_same contents (settled_now before ready contents user keys f).kept.clear) held

    are_rows : (label : Bytes) → Matches (IsRowOf contents.records before.account label) (get home_is.0.blocks label)
        (get before.stored.factors label)
    are_rows label = subst (λ x. Matches (IsRowOf contents.records before.account label) (block_in x label)
        (get before.stored.factors label)) home_is.1
        ((settled_now before ready contents user keys f).kept.is_loaded.rows label)

    -- the row lists the factors with their counts
    list_row : (era : Era) → Row era user turn (answers.OkFactors (map line_of (entries user.durable.factors))) user
    list_row era = row_by era user turn [] (answers.OkFactors (map line_of (entries user.durable.factors))) user
        (as_user before ready contents user keys turn None f holds due) refl

    -- and so does this answer, or without them where the tree is lost
    listed : (lines : List FactorLine)
        → lines ≡ map (line_in (is_lost before) contents.leaves) (entries before.stored.factors)
        → Given old.era user turn (answers.OkFactors lines) user
    listed lines are = ⊎_elim
        (λ lost. hides (record {
          account = account;
          turn_is = refl;
          none = as_user before ready contents user keys turn None f holds due;
          answer_is = ap answers.OkFactors (are ∙ lines_lost contents before.account user.durable keys home_is.0
              (is_lost before) held_clear before.stored.factors are_rows lost);
          after_is = refl;
        }))
        (λ whole. by_row (subst (λ (l : List FactorLine). Row old.era user turn (answers.OkFactors l) user)
        (sym (are ∙ lines_held contents before.account user.durable keys home_is.0 (is_lost before) held_clear
        before.stored.factors are_rows whole)) (list_row old.era)))
        (either (is_lost before))

  -- the factors are listed
  pub listed_given : (lines : List FactorLine) (failed : Type 0) (most : ℕ)
      → Looks old new failed most (λ c. lines ≡ map (line_in (is_lost before) c.leaves) (entries before.stored.factors))
      → IsGiven old new before before (Act (ListFactors account)) (answers.OkFactors lines)
  listed_given lines failed most l =
      reads_given before (answers.OkFactors lines) failed most
      (λ c. lines ≡ map (line_in (is_lost before) c.leaves) (entries before.stored.factors)) l
      (λ e. absurd (let z : ◌≡◌ {A = ℕ} 0 1 = cc in omega (arith, z)))
      (record { account = refl; cost = refl; lost = refl })
      (λ contents user keys f holds are. record {
        next = user;
        keys = keys;
        allowed = listed contents user keys f holds lines are;
        fits = f;
        holds = inl holds;
        idle = λ _. record { durable = refl; other = refl };
      })

  -- a damaged leaf, or want of memory
  pub stand_in_given : (answer : Answer) (failed : Type 0) (most : ℕ) (P : Contents → Type 0) → IsStandIn answer
      → (answer ≡ answers.StorageFault → ⊥) → Looks old new failed most P
      → IsGiven old new before before (Act (ListFactors account)) answer
  stand_in_given answer failed most P stands calm l =
      reads_given before answer failed most P l (λ e. absurd (calm e))
      (record { account = refl; cost = refl; lost = refl })
      (λ contents user keys f holds told. record {
        next = user;
        keys = keys;
        allowed = stands_in (record { may = tt; answer_is = stands; after_is = refl });
        fits = f;
        holds = inl holds;
        idle = λ _. record { durable = refl; other = refl };
      })

  -- a look failed
  pub doubted_given : (failed : Type 0) (most : ℕ) (P : Contents → Type 0) → failed → Looks old new failed most P
      → IsGiven old new before (record before { doubt = Some Editions }) (Act (ListFactors account))
      answers.StorageFault
  doubted_given failed most P so l =
      reads_given (record before { doubt = Some Editions }) answers.StorageFault failed most P l (λ e. so)
      (record { account = refl; cost = refl; lost = refl })
      (λ contents user keys f holds told. record {
        next = record user { other = Some user.durable };
        keys = keys;
        allowed = unsettles (record {
          may = tt;
          fault = refl;
          due = answers.OkFactors (map line_of (entries user.durable.factors));
          done = user;
          row = list_row contents user keys f holds old.era;
          after_is = refl;
        });
        fits = record {
          sessions = f.sessions;
          next_session = f.next_session;
          mounted = f.mounted;
          last = f.last;
          stands = record {
            other = user.durable;
            other_is = refl;
            tells = (
              ap tally_in home_is.1
                  ∙ same_tally (is_lost before) (settled contents) before.account user.durable keys home_is.0
                  (held contents user keys f holds),
              inl refl,
            );
          };
          has_keys = record { proved = f.has_keys.proved; mount = f.has_keys.mount };
        };
        holds = inl holds;
        idle = λ none. absurd (subst HasFailed none (l.fails so));
      })

  -- what a fault of the looks leaves to tell
  abbrev Told : StoreFault → Contents → Type 0
  Told fault = TellsLines before.account (is_lost before) (entries before.stored.factors) (Err fault)

  abbrev Ends : UserState × Answer → Type 0
  Ends t = IsGiven old new before t.0 (Act (ListFactors account)) t.1

  -- a fault is answered as the table has it
  pub fails_given : (fault : StoreFault) (failed : Type 0) (most : ℕ) → (fault ≡ Failed → failed)
      → Looks old new failed most (Told fault) → (after : UserState) (answer : Answer)
      → FailsSo before fault after answer → IsGiven old new before after (Act (ListFactors account)) answer
  fails_given Failed failed most told l after answer h =
      subst Ends (λ i. (sym h.1 i, sym h.0 i)) (doubted_given failed most (Told Failed) (told refl) l)
  fails_given (Damaged name) failed most told l after answer h =
      ⊎_elim
      (λ e. subst Ends (λ i. (sym h.1 i, sym e i))
      (stand_in_given (answers.Damaged name) failed most (Told (Damaged name)) (inr (name, refl)) (no_fault_damaged
      name) l))
      (λ e. subst Ends (λ i. (sym h.1 i, sym e i))
      (stand_in_given answers.NoMemory failed most (Told (Damaged name)) (inl refl) no_fault_memory l))
      h.0
  fails_given NoMemory failed most told l after answer h =
      subst Ends (λ i. (sym h.1 i, sym h.0 i))
      (stand_in_given answers.NoMemory failed most (Told NoMemory) (inl refl) no_fault_memory l)
  fails_given (TreeLost host chip) failed most told l after answer h = absurd h

  abbrev Shows : ℕ → Answer → Type 0
  Shows most answer = Looks old new (answer ≡ answers.StorageFault) most (TellsList before answer)

  -- and its looks tell what the answer says
  pub fails_looks : (fault : StoreFault) (failed : Type 0) (most : ℕ) → (fault ≡ Failed → failed)
      → Looks old new failed most (Told fault) → (after : UserState) (answer : Answer)
      → FailsSo before fault after answer → Shows most answer
  fails_looks Failed failed most told l after answer h =
      subst (Shows most) (sym h.0)
      (looks_as old new failed (answers.StorageFault ≡ answers.StorageFault) most most (Told Failed)
      (TellsList before answers.StorageFault) l (omega arith) (λ f. told refl) (λ c k. tt))
  fails_looks (Damaged name) failed most told l after answer h =
      ⊎_elim
      (λ e. subst (Shows most) (sym e)
      (looks_as old new failed (answers.Damaged name ≡ answers.StorageFault) most most (Told (Damaged name))
      (TellsList before (answers.Damaged name)) l (omega arith) (λ f. absurd (no_fault_damaged name f)) (λ c k. k)))
      (λ e. subst (Shows most) (sym e)
      (looks_as old new failed (answers.NoMemory ≡ answers.StorageFault) most most (Told (Damaged name))
      (TellsList before answers.NoMemory) l (omega arith) (λ f. absurd (no_fault_memory f)) (λ c k. tt)))
      h.0
  fails_looks NoMemory failed most told l after answer h =
      subst (Shows most) (sym h.0)
      (looks_as old new failed (answers.NoMemory ≡ answers.StorageFault) most most (Told NoMemory)
      (TellsList before answers.NoMemory) l (omega arith) (λ f. absurd (no_fault_memory f)) (λ c k. tt))
  fails_looks (TreeLost host chip) failed most told l after answer h = absurd h

-- after a fault the state is what its answer tells
pub fails_after : (before : UserState) (fault : StoreFault) (after : UserState) (answer : Answer)
    → FailsSo before fault after answer → after ≡ after_list answer before
fails_after before Failed after answer h = h.1 ∙ ap (λ (a : Answer). after_list a before) (sym h.0)
fails_after before (Damaged name) after answer h =
    ⊎_elim (λ e. h.1 ∙ ap (λ (a : Answer). after_list a before) (sym e))
    (λ e. h.1 ∙ ap (λ (a : Answer). after_list a before) (sym e)) h.0
fails_after before NoMemory after answer h = h.1 ∙ ap (λ (a : Answer). after_list a before) (sym h.0)
fails_after before (TreeLost host chip) after answer h = absurd h

-- and is sound
pub fails_sound : (before : UserState) → IsSound before → (fault : StoreFault) (after : UserState) (answer : Answer)
    → FailsSo before fault after answer → IsSound after
fails_sound before sound Failed after answer h =
    subst IsSound (sym h.1) (sound_doubted before sound (Some Editions) before.generator)
fails_sound before sound (Damaged name) after answer h = subst IsSound (sym h.1) sound
fails_sound before sound NoMemory after answer h = subst IsSound (sym h.1) sound
fails_sound before sound (TreeLost host chip) after answer h = absurd h

-- and what a fault is answered with is one of the answers to a list
pub fails_known : (before : UserState) (fault : StoreFault) (after : UserState) (answer : Answer)
    → FailsSo before fault after answer → IsListAnswer answer
fails_known before Failed after answer h = inr (inl h.0)
fails_known before (Damaged name) after answer h =
    ⊎_elim (λ d. inr (inr (inr (name, d)))) (λ m. inr (inr (inl m))) h.0
fails_known before NoMemory after answer h = inr (inr (inl h.0))
fails_known before (TreeLost host chip) after answer h = absurd h
