-- A turn of a settled account, and of one that is reloaded first.
use Rattle.std.proofs.Common.{◌≡◌, ℕ, List, [], ◌∷◌, ◌++◌, Bool, Option, None, Some, refl, sym, ap, ◌∙◌, subst, ◌⊎◌, inl, inr, ⊎_elim, is_some, is_ok, is_err, true, false, true≢false, IsOk, ◌<◌, ◌^◌, arith}
use Rattle.std.specs.Prelude.{IsSome, IsSomeAnd, IsTrue, IfOk, IsErrOf, Contains, MatchOption, Result, Ok, Err}
use Rattle.pw_types.specs.declared.era.Era.{Era}
use Rattle.account_machine.specs.declared.answer.Answer.{Answer}
use Rattle.account_machine.specs.declared.answer.Answer.TheVariants as answers
use Rattle.account_machine.specs.declared.entry.Told.{Told}
use Rattle.account_machine.specs.declared.entry.Told.TheVariants as told_as
use Rattle.account_machine.specs.declared.request.Turn.{Turn}
use Rattle.account_machine.specs.declared.user.Durable.{Durable}
use Rattle.account_machine.specs.declared.user.User.{User}
use Rattle.account_machine.specs.Step.{Given, Turned, FailsToReload, IsStandIn, reload_of}
use Rattle.home_recovery.specs.Reading.{RunsOver}
use Rattle.home_recovery.proofs.ReadLemmas.{over_then}
use Rattle.share_api.specs.Contents.{Bytes, Contents}
use Rattle.share_api.specs.Folds.{Fold}
use Rattle.share_api.specs.Seen.{ShareSeen, Runs, HasFailed}
use Rattle.share_api.specs.Steps.{DoesAmong}
use Rattle.share_api.specs.declared.step.Step.{Step}
use Rattle.share_api.proofs.FoldLaws.{throughout_end, throughout_append, throughout_weaker, throughout_among, fold_among, fold_split, among_end}
use Rattle.share_api.proofs.RunLaws.{failed_either}
use Rattle.stored_home.specs.Clean.{IsClean, IsTurnSecret}
use Rattle.stored_home.specs.Holds.{Keys, HoldsUnder}
use Rattle.stored_home.specs.declared.fault.StoreFault.{StoreFault}
use Rattle.stored_home.specs.declared.fault.StoreFault.TheVariants as faults
use Rattle.stored_home.proofs.MapLemmas.{from_some, not_None}
use Rattle.record_names.specs.Names.{is_account_name}
use Rattle.turn_reload.specs.Reloads.{IsUnsettledOver, IsReloaded, ReloadsOver, Reloads}
use Rattle.user_state.specs.Fits.{Fits, IsSettled, StandsBy, HoldsOneUnder, is_lost}
use Rattle.user_state.specs.Turns.{IsGiven, KeepsAccount, Turns, HoldsAround, secret_of}
use Rattle.user_state.specs.declared.state.Doubt.{Doubt}
use Rattle.user_state.specs.declared.state.UserState.{UserState}
use Rattle.user_state.proofs.OutlineLemmas.{settled_by}
use Rattle.user_turn.specs.Acts.{IsOneOf, IsTurn, entry_by, TurnPremises, GivenOver, IsFaultAnswer, IsSteady}
use Rattle.user_turn.proofs.CleanParts.{clean_part, part_secret}
use Rattle.user_turn.specs.Moves.{Moves, RowMoves}
use Rattle.user_turn.proofs.Moved.{moves_settled, moves_reloaded, moves_unloaded}
use Rattle.user_turn.proofs.Resting.{told_none}

-- a turn that may lead to more users
pub turns_more : (era : Era) (seen : List Contents) (lost : Bool) (account : Bytes) (held : Durable)
    (A B : User → Type 0) (after : UserState) (steps : List Step) (user : User) (contents : Contents)
    → ((next : User) → A next → B next)
    → Turns era seen lost account held A after steps user contents
    → Turns era seen lost account held B after steps user contents
turns_more era seen lost account held A B after steps user contents more t = record {
  throughout = throughout_weaker (DoesAmong era seen) (HoldsAround lost account held A)
      (HoldsAround lost account held B) contents steps
      (λ c. ⊎_elim inl (λ h. inr (h.0, more h.0 h.1, h.2))) t.throughout;
  leads = λ new fold. let l = t.leads new fold in record {
    next = l.next;
    keys = l.keys;
    allowed = more l.next l.allowed;
    fits = l.fits;
    holds = l.holds;
    idle = l.idle;
  };
}

-- a run of a share that stocked calls before it
pub runs_over : (old start new : ShareSeen) (steps : List Step) → start ≡ record old { spare = start.spare }
    → Runs start new steps → RunsOver old new steps
runs_over old start new steps stocked runs =
    subst (λ (s : ShareSeen). Runs s new steps)
    (stocked ∙ ap (λ (n : ℕ). record old { spare = n }) (sym runs.spare)) runs

-- the turn of a settled account
pub turn_settled : (old new : ShareSeen) (before after : UserState) (turn : Turn) (answer : Answer)
    → before.doubt ≡ None → GivenOver old new before after turn answer
    → IsTurn old new before after turn told_as.Settled answer
turn_settled old new before after turn answer settled over = record {
  steps = over.made.given.steps;
  runs = runs_over old over.start new over.made.given.steps over.stocked over.made.given.runs;
  settled = (λ _. settled, λ _. refl);
  fault = over.made.given.fault;
  keeps = over.made.given.keeps;
  moves = λ caller at place. moves_settled old.era before after turn answer over.made.given.steps settled
      over.made.given.keeps over.made.given.fault
      (subst (λ (era : Era). RowMoves era before after turn answer over.made.given.steps)
      (ap (λ (x : ShareSeen). x.era) over.stocked) over.made.moves) caller at place;
  right = λ seen contents user held keys p.
      let s : IsSettled before contents user = settled_by before contents user before.doubt p.fits.stands settled in
      let e : held ≡ user.durable = ⊎_elim (λ q. q) (λ q. absurd (not_None held (sym q ∙ s.none))) p.which in
      subst (λ d. Turns old.era seen (is_lost before) before.account d (Turned old.era user told_as.Settled turn answer)
      after over.made.given.steps user contents) (sym e)
      (turns_more old.era seen (is_lost before) before.account user.durable (Given old.era user turn answer)
      (Turned old.era user told_as.Settled turn answer) after over.made.given.steps user contents
      (λ next g. settled_turned user next s.none g)
      (subst (λ era. Turns era seen (is_lost before) before.account user.durable (Given era user turn answer) after
      over.made.given.steps user contents) (ap (λ (x : ShareSeen). x.era) over.stocked)
      (over.made.given.right seen contents user keys (record {
        among = p.among;
        clean = p.clean;
        fits = p.fits;
        holds = subst (λ d. HoldsUnder (is_lost before) contents before.account d keys) e p.holds;
      }))));
}
  where
    settled_turned : (user next : User) → user.other ≡ None → Given old.era user turn answer next
        → Turned old.era user told_as.Settled turn answer next
    settled_turned user next none g =
        subst (λ o. MatchOption (reload_of user told_as.Settled o)
        (FailsToReload user told_as.Settled answer next)
        (λ start. Given old.era start turn answer next)) (sym none) g

no_cons : (xs ys : List Step) → (xs ≡ [] → ⊥) → xs ++ ys ≡ [] → ⊥
no_cons [] ys made e = made refl
no_cons (x ∷ xs) ys made e = cons_not x (xs ++ ys) e
  where
    cons_not : (y : Step) (zs : List Step) → y ∷ zs ≡ [] → ⊥
    cons_not y zs q =
        let k : ◌≡◌ {A = ℕ} 1 0 = ap (λ (l : List Step). elim l as (λ _. ℕ) [ [] ↦ 0 | z ∷ more ↦ 1 ]) q in omega (arith, k)

-- a reload gives a user with one possible durable part
one_part : (user next : User) (told : Told) (o : Option Durable) → user.other ≡ o
    → reload_of user told o ≡ Some next → next.other ≡ None
one_part user next told_as.Settled None none e = sym (ap (λ (u : User). u.other) (from_some user next e)) ∙ none
one_part user next told_as.Settled (Some other) some e = absurd (not_None next (sym e))
one_part user next told_as.Before None none e = absurd (not_None next (sym e))
one_part user next told_as.Before (Some other) some e =
    sym (ap (λ (u : User). u.other) (from_some (record user { other = None }) next e))
one_part user next told_as.After None none e = absurd (not_None next (sym e))
one_part user next told_as.After (Some other) some e =
    sym (ap (λ (u : User). u.other) (from_some (record user { durable = other; other = None }) next e))
one_part user next told_as.Failed o is e = absurd (not_None next (sym e))

-- what a reload owes, of all contents that the state is unsettled over
abbrev pub OwesAll : ShareSeen → List Step → UserState → UserState → Result Told StoreFault → Type 0
OwesAll old steps before after result = (contents : Contents) (user : User) (held : Durable) (keys : Keys)
    → IsUnsettledOver before contents user held keys
    → ReloadsOver old steps before after result contents user held keys

over : (seen : List Contents) (contents : Contents) (before : UserState) (secret : Option Bytes) (user : User)
    (held : Durable) (keys : Keys) → TurnPremises seen contents before secret user held keys
    → IsUnsettledOver before contents user held keys
over seen contents before secret user held keys p = record { fits = p.fits; which = p.which; holds = p.holds }

-- a reload, and then the turn of the account that it settled
module _ (old mid start new : ShareSeen) (before ready after : UserState) (turn : Turn) (told : Told)
    (answer : Answer) (steps : List Step) (runs : RunsOver old mid steps)
    (owes : OwesAll old steps before ready (Ok told)) (keeps : KeepsAccount before ready)
    (made : steps ≡ [] → ⊥) (not_settled : told ≡ told_as.Settled → ⊥) (doubtful : before.doubt ≡ None → ⊥)
    (same_era : start.era ≡ old.era) (given : IsGiven start new ready after turn answer)
    (more : RunsOver mid new given.steps)
    (moves : (caller at place : ℕ) → Moves old.era before (entry_by caller at before.last turn told answer place)
    (steps ++ given.steps) after) where
  same_lost : is_lost ready ≡ is_lost before
  same_lost = ap is_some keeps.lost

  module _ (seen : List Contents) (contents : Contents) (user : User) (held : Durable) (keys : Keys)
      (p : TurnPremises seen contents before (secret_of turn) user held keys) where
    abbrev Whole : User → Type 0
    Whole next = Turned old.era user told turn answer next

    owed : ReloadsOver old steps before ready (Ok told) contents user held keys
    owed = owes contents user held keys (over seen contents before (secret_of turn) user held keys p)

    -- the row's turn, from any contents that the reload leads to
    module _ (c : Contents) (fold : Fold (DoesAmong old.era seen) contents steps c) where
      told_user : IsReloaded ready user held keys told c
      told_user = owed.ends c (fold_among old.era seen contents c steps fold)

      none_other : told_user.next.other ≡ None
      none_other = one_part user told_user.next told user.other refl told_user.reloaded

      its : Turns start.era seen (is_lost ready) ready.account told_user.next.durable
          (Given start.era told_user.next turn answer) after given.steps told_user.next c
      its = given.right seen c told_user.next keys (record {
        among = among_end old.era seen contents c steps p.among fold;
        clean = subst (λ (t : Bytes × Durable × Option Durable). IsClean (IsTurnSecret t.1 t.2 (secret_of turn))
            (Contains seen) t.0) (λ i. (sym keeps.account i, sym told_user.durable i, sym none_other i))
            (clean_part (IsTurnSecret user.durable user.other (secret_of turn))
            (IsTurnSecret held None (secret_of turn)) (Contains seen) before.account
            (part_secret user held (secret_of turn) p.which) p.clean);
        fits = told_user.fits;
        holds = told_user.holds;
      })

      -- the same, as of the state before the reload
      abbrev Row : User → Type 0
      Row next = Given old.era told_user.next turn answer next

      same_place : Turns old.era seen (is_lost before) before.account held Row after given.steps told_user.next c
      same_place = subst (λ (t : Era × Bool × Bytes × Durable). Turns t.0 seen t.1 t.2 t.3
          (Given t.0 told_user.next turn answer) after given.steps told_user.next c)
          (λ i. (same_era i, same_lost i, keeps.account i, told_user.durable i)) its

      whole : Turns old.era seen (is_lost before) before.account held Whole after given.steps told_user.next c
      whole = turns_more old.era seen (is_lost before) before.account held Row Whole after given.steps told_user.next c
          (λ next g. subst (λ o. MatchOption o (FailsToReload user told answer next)
          (λ first. Given old.era first turn answer next)) (sym told_user.reloaded) g) same_place

    whole_turn : Turns old.era seen (is_lost before) before.account held Whole after (steps ++ given.steps) user contents
    whole_turn = record {
      throughout = throughout_append (DoesAmong old.era seen) (HoldsAround (is_lost before) before.account held Whole)
          contents steps given.steps
          (throughout_weaker (DoesAmong old.era seen) (λ c. HoldsUnder (is_lost before) c before.account held keys)
          (HoldsAround (is_lost before) before.account held Whole) contents steps (λ c h. inl (keys, h))
          (throughout_among old.era seen (λ c. HoldsUnder (is_lost before) c before.account held keys) contents steps
          owed.throughout))
          (λ c fold. (whole c fold).throughout);
      leads = λ end fold.
          let split = fold_split (DoesAmong old.era seen) contents end steps given.steps fold in
          let l = (whole split.0 split.1).leads end split.2 in
          record {
            next = l.next;
            keys = l.keys;
            allowed = l.allowed;
            fits = l.fits;
            holds = l.holds;
            idle = λ e. absurd (no_cons steps given.steps made e);
          };
    }

  pub turn_reloaded : IsTurn old new before after turn told answer
  turn_reloaded = record {
    steps = steps ++ given.steps;
    runs = over_then old mid new steps given.steps runs more;
    settled = (λ e. absurd (not_settled e), λ e. absurd (doubtful e));
    fault = λ e. failed_either steps given.steps (inr (given.fault e));
    keeps = record {
      account = given.keeps.account ∙ keeps.account;
      cost = given.keeps.cost ∙ keeps.cost;
      lost = given.keeps.lost ∙ keeps.lost;
    };
    moves = moves;
    right = λ seen contents user held keys p. whole_turn seen contents user held keys p;
  }

-- the reload failed, and the account stays as it was
pub turn_failed : (old new : ShareSeen) (before after : UserState) (turn : Turn) (fault : StoreFault) (answer : Answer)
    (steps : List Step) → RunsOver old new steps → OwesAll old steps before after (Err fault) → after ≡ before
    → (before.doubt ≡ None → ⊥) → (answer ≡ answers.StorageFault) ⊎ IsStandIn answer
    → (answer ≡ answers.StorageFault → HasFailed steps)
    → ((caller at place : ℕ) → Moves old.era before (entry_by caller at before.last turn told_as.Failed answer place)
    steps after)
    → IsTurn old new before after turn told_as.Failed answer
turn_failed old new before after turn fault answer steps runs owes same doubtful standing caused moves = record {
  steps = steps;
  runs = runs;
  moves = moves;
  settled = (λ e. absurd (not_failed e), λ e. absurd (doubtful e));
  fault = caused;
  keeps = subst (KeepsAccount before) (sym same) (record { account = refl; cost = refl; lost = refl });
  right = λ seen contents user held keys p.
      let owed = owes contents user held keys (over seen contents before (secret_of turn) user held keys p) in
      let safe = throughout_among old.era seen (λ c. HoldsUnder (is_lost before) c before.account held keys) contents
      steps owed.throughout in
      record {
        throughout = throughout_weaker (DoesAmong old.era seen)
            (λ c. HoldsUnder (is_lost before) c before.account held keys)
            (HoldsAround (is_lost before) before.account held (Turned old.era user told_as.Failed turn answer))
            contents steps (λ c h. inl (keys, h)) safe;
        leads = λ end fold. let u = owed.ends end (fold_among old.era seen contents end steps fold) in record {
          next = user;
          keys = keys;
          allowed = record { failed = refl; due = unsettled contents user p.fits; answer_is = standing; after_is = refl };
          fits = u.fits;
          holds = subst (λ (s : UserState). HoldsOneUnder (is_lost s) end before.account user keys) (sym same)
              (last_by user held keys end p.which
              (throughout_end (DoesAmong old.era seen) (λ c. HoldsUnder (is_lost before) c before.account held keys)
              contents end steps safe fold));
          idle = λ _. record { durable = refl; other = refl };
        };
      };
}
  where
    not_failed : told_as.Failed ≡ told_as.Settled → ⊥
    not_failed e = let k : ◌≡◌ {A = ℕ} 0 1 = cc in omega (arith, k)

    unsettled_by : (contents : Contents) (user : User) (doubt : Option Doubt) → before.doubt ≡ doubt
        → StandsBy doubt before contents user → IsSome user.other
    unsettled_by contents user None e s = absurd (doubtful e)
    unsettled_by contents user (Some doubt) e s = subst IsSome (sym s.other_is) refl

    unsettled : (contents : Contents) (user : User) {keys : Keys} → Fits before contents user keys → IsSome user.other
    unsettled contents user fits = unsettled_by contents user before.doubt refl fits.stands

    last_by : (user : User) (held : Durable) (keys : Keys) (end : Contents) → IsOneOf user held
        → HoldsUnder (is_lost before) end before.account held keys
        → HoldsOneUnder (is_lost before) end before.account user keys
    last_by user held keys end which h =
        ⊎_elim (λ e. inl (subst (λ d. HoldsUnder (is_lost before) end before.account d keys) e h))
        (λ e. inr (subst (λ o. IsSomeAnd o (λ other. HoldsUnder (is_lost before) end before.account other keys)) (sym e) h))
        which

-- ---- from what a reload says

module _ (old mid new : ShareSeen) (before ready after : UserState) (turn : Turn) (answer : Answer)
    (r : Result Told StoreFault) (reloads : Reloads old mid before ready r) (doubtful : before.doubt ≡ None → ⊥) where
  told_which : (told : Told) → (told ≡ told_as.Before) ⊎ (told ≡ told_as.After) → told ≡ told_as.Settled → ⊥
  told_which told which e = ⊎_elim
      (λ b. let k : told_as.Before ≡ told_as.Settled = sym b ∙ e in absurd (cc k))
      (λ a. let k : told_as.After ≡ told_as.Settled = sym a ∙ e in absurd (cc k)) which

  -- the account was reloaded, and its turn followed
  pub turn_of_reload : (told : Told) → r ≡ Ok told → GivenOver mid new ready after turn answer
      → IsTurn old new before after turn told answer
  turn_of_reload told is over =
      turn_reloaded old mid over.start new before ready after turn told answer reloads.steps reloads.runs
      (subst (λ x. OwesAll old reloads.steps before ready x) is reloads.right) reloads.keeps
      (reloads.made (ap is_ok is))
      (told_which told (subst (λ x. IfOk x (λ t. (t ≡ told_as.Before) ⊎ (t ≡ told_as.After))) is reloads.told))
      doubtful (ap (λ (x : ShareSeen). x.era) over.stocked ∙ reloads.runs.era) over.made.given
      (runs_over mid over.start new over.made.given.steps over.stocked over.made.given.runs)
      (λ caller at place. moves_reloaded old.era before ready after turn told answer reloads.steps
      over.made.given.steps (subst (λ x. IfOk x (λ t. (t ≡ told_as.Before) ⊎ (t ≡ told_as.After))) is
      reloads.told) (reloads.settles (ap is_ok is)) reloads.puts over.made.given.keeps over.made.given.fault
      (subst (λ (era : Era). RowMoves era ready after turn answer over.made.given.steps)
      (ap (λ (x : ShareSeen). x.era) over.stocked ∙ reloads.runs.era) over.made.moves) caller at place)

  -- it wasn't, and the account stays as it was
  pub turn_of_fault : (fault : StoreFault) → r ≡ Err fault → IsFaultAnswer fault answer
      → IsTurn old mid before ready turn told_as.Failed answer
  turn_of_fault fault is answered =
      turn_failed old mid before ready turn fault answer reloads.steps reloads.runs
      (subst (λ x. OwesAll old reloads.steps before ready x) is reloads.right) (reloads.stays (ap is_err is)) doubtful
      (standing fault answered) (caused fault answered (λ e. reloads.fails (subst (λ x. IsErrOf x faults.Failed)
      (sym is) (ap (λ (f : StoreFault). Err f) e))))
      (λ caller at place. moves_unloaded old.era before ready turn fault answer reloads.steps
      (reloads.stays (ap is_err is)) reloads.puts
      (caused fault answered (λ e. reloads.fails (subst (λ x. IsErrOf x faults.Failed)
      (sym is) (ap (λ (f : StoreFault). Err f) e)))) answered
      (λ name e. reloads.damaged name (is ∙ ap (λ (f : StoreFault). Err f) e)) caller at place)
    where
      standing : (f : StoreFault) → IsFaultAnswer f answer → (answer ≡ answers.StorageFault) ⊎ IsStandIn answer
      standing faults.Failed h = inl h
      standing (faults.Damaged name) h = inr (⊎_elim (λ d. inr (name, d)) (λ m. inl m) h)
      standing faults.NoMemory h = inr (inl h)
      standing (faults.TreeLost host chip) h = inr (inl h)

      no_fault : answer ≡ answers.NoMemory → answer ≡ answers.StorageFault → ⊥
      no_fault m e = let k : answers.NoMemory ≡ answers.StorageFault = sym m ∙ e in absurd (cc k)

      caused : (f : StoreFault) → IsFaultAnswer f answer → (f ≡ faults.Failed → HasFailed reloads.steps)
          → answer ≡ answers.StorageFault → HasFailed reloads.steps
      caused faults.Failed h failed e = failed refl
      caused (faults.Damaged name) h failed e = absurd (⊎_elim
          (λ d. let k : answers.Damaged name ≡ answers.StorageFault = sym d ∙ e in absurd (cc k))
          (λ m. no_fault m e) h)
      caused faults.NoMemory h failed e = absurd (no_fault h e)
      caused (faults.TreeLost host chip) h failed e = absurd (no_fault h e)

  -- the account is steady again
  pub steady_again : IsSteady before → IsOk r → IsSteady ready
  steady_again steady ok =
      let e = reloads.settles ok in record {
        plain = subst (λ (a : Bytes). IsTrue (is_account_name a)) (sym reloads.keeps.account) steady.plain;
        moment = subst (λ (n : ℕ). n < 2 ^ 40) (sym (ap (λ (s : UserState). s.last) e)) steady.moment;
        sound = reloads.sound steady.sound;
        tellable = told_none ready (ap (λ (s : UserState). s.doubt) e);
      }

-- whether there is a doubt
pub none_by : (o : Option Doubt) → is_some o ≡ false → o ≡ None
none_by None e = refl
none_by (Some doubt) e = absurd (true≢false e)

pub some_by : (o : Option Doubt) → is_some o ≡ true → o ≡ None → ⊥
some_by None e none = true≢false (sym e)
some_by (Some doubt) e none = not_None doubt none
