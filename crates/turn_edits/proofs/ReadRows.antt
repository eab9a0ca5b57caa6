-- A vault file is read.
use Rattle.std.proofs.Common.{◌≡◌, ℕ, List, ◌∷◌, Bool, true, false, not, [], Option, None, Some, Result, Ok, Err, refl, sym, ap, ◌∙◌, subst, inl, inr, ⊎_elim, is_some, true≢false}
use Rattle.std.specs.Prelude.{◌⊎◌, IfErr, IfSome, option_and_then}
use Rattle.std.specs.FinMap.{get, keys}
use Rattle.account_machine.specs.Effect.{gives}
use Rattle.account_machine.specs.Outline.{has_name}
use Rattle.account_machine.specs.Row.{turn_refusals}
use Rattle.account_machine.specs.Step.{Given, by_row, unsettles, stands_in, refusal_now}
use Rattle.account_machine.specs.User.{outline_of}
use Rattle.account_machine.specs.declared.answer.Answer.{Answer}
use Rattle.account_machine.specs.declared.answer.Answer.TheVariants as answers
use Rattle.account_machine.specs.declared.request.Request.TheVariants.{GetFile}
use Rattle.account_machine.specs.declared.request.Turn.{Turn}
use Rattle.account_machine.specs.declared.request.Turn.TheVariants.{Act}
use Rattle.account_machine.specs.declared.user.User.{User}
use Rattle.home_edits.specs.Files.{ReadsFile, IsReadFileFault, file_in}
use Rattle.home_edits.proofs.CostLemmas.{same_rest}
use Rattle.pw_types.specs.declared.era.Era.{Era}
use Rattle.turn_edits.proofs.Tests.{test_at}
use Rattle.share_api.specs.Contents.{Bytes, Contents, Records, settled as once_begun}
use Rattle.share_api.specs.Places.{steps_of}
use Rattle.share_api.specs.declared.step.Step.{Step}
use Rattle.share_api.specs.Folds.{Fold}
use Rattle.share_api.specs.Seen.{ShareSeen, HasFailed}
use Rattle.share_api.specs.Steps.{Does, DoesAmong}
use Rattle.share_api.proofs.FoldLaws.{throughout_weaker, throughout_among, fold_among}
use Rattle.stored_home.specs.Holds.{Keys, HoldsUnder}
use Rattle.stored_home.specs.Loaded.{IsKept, HasFactors}
use Rattle.stored_home.specs.declared.fault.StoreFault.{StoreFault}
use Rattle.stored_home.specs.declared.fault.StoreFault.TheVariants as faults
use Rattle.user_state.specs.Fits.{Fits, IsSettled, is_lost}
use Rattle.user_state.specs.Outlines.{outline_in}
use Rattle.user_state.specs.Turns.{IsGiven, HoldsAround, SameDurable}
use Rattle.user_state.specs.declared.state.Doubt.{Doubt}
use Rattle.user_state.specs.declared.state.Doubt.TheVariants.{Editions}
use Rattle.user_state.specs.declared.state.UserState.{UserState}
use Rattle.turn_rows.specs.Due.{IsReady, IsDue}
use Rattle.turn_rows.proofs.Quiet.{row_by, as_user, settled_now, stands_settled}
use Rattle.turn_edits.specs.Endings.{IsEnded, IsEditions}
use Rattle.turn_edits.specs.Reads.{IsReadAnswer, IsReadCaused, IsUnreadable, doubt_of_read}
use Rattle.turn_edits.proofs.EndingLemmas.{made_failed}
use Rattle.turn_edits.proofs.StandsIn.{IsStoodFor}
use Rattle.record_names.specs.Names.{stash_name, file_name}
use Rattle.turn_edits.proofs.FileRows.{has_name_there}
use Rattle.turn_edits.proofs.Tallies.{held_tally}

module _ (old new : ShareSeen) (before : UserState) (ready : IsReady before)
    (lost : is_some old.lost ≡ is_lost before) (account name vault : Bytes)
    (due : IsDue before (Act (GetFile account name))) (mounted : before.vault ≡ Some vault)
    (home : HasFactors before.stored) (r : Result Bytes StoreFault)
    (reads : ReadsFile old new before.account vault name r) where
  abbrev turn : Turn
  turn = Act (GetFile account name)

  abbrev state_with : Option Doubt → UserState
  state_with doubt = record before { doubt = doubt }

  -- the turn, from what it does to a user
  turn_by : (answer : Answer) (doubt : Option Doubt) (next : User → User)
      → ((user : User) → (next user).durable ≡ user.durable)
      → (answer ≡ answers.StorageFault → HasFailed reads.steps)
      → ((user : User) → reads.steps ≡ [] → SameDurable user (next user))
      → ((contents end : Contents) (user : User) (keys : Keys) → Fits before contents user keys
      → HoldsUnder (is_lost before) contents before.account user.durable keys
      → Fold (Does old.era) contents reads.steps end
      → Given old.era user turn answer (next user) × Fits (state_with doubt) contents (next user) keys)
      → IsGiven old new before (state_with doubt) turn answer
  turn_by answer doubt next same fault idle row = record {
    steps = reads.steps;
    runs = reads.runs;
    fault = fault;
    keeps = record { account = refl; cost = refl; lost = refl };
    right = λ seen contents user keys p. record {
      throughout = throughout_weaker (DoesAmong old.era seen)
          (λ c. HoldsUnder (is_some old.lost) c before.account user.durable keys)
          (HoldsAround (is_lost before) before.account user.durable (Given old.era user turn answer)) contents
          reads.steps
          (λ c h. inl (keys, subst (λ (l : Bool). HoldsUnder l c before.account user.durable keys) lost h))
          (throughout_among old.era seen (λ c. HoldsUnder (is_some old.lost) c before.account user.durable keys)
          contents reads.steps (reads.kept contents user.durable keys
          (subst (λ (l : Bool). HoldsUnder l contents before.account user.durable keys) (sym lost) p.holds)));
      leads = λ end fold.
          let f = fold_among old.era seen contents end reads.steps fold in
          let still : end ≡ contents = reads.same contents end
          (settled_now before ready contents user keys p.fits).kept.clear f in
          let both = row contents end user keys p.fits p.holds f in
          record {
            next = next user;
            keys = keys;
            allowed = both.0;
            fits = subst (λ (c : Contents). Fits (state_with doubt) c (next user) keys) (sym still) both.1;
            holds = inl (subst (λ (c : Contents). HoldsUnder (is_lost before) c before.account (next user).durable keys)
                (sym still)
                (subst (λ d. HoldsUnder (is_lost before) contents before.account d keys) (sym (same user)) p.holds));
            idle = idle user;
          };
    };
  }

  module _ (contents : Contents) (user : User) (keys_of : Keys) (fits : Fits before contents user keys_of)
      (holds : HoldsUnder (is_lost before) contents before.account user.durable keys_of) where
    settled : IsSettled before contents user
    settled = settled_now before ready contents user keys_of fits

    none : refusal_now user turn ≡ None
    none = as_user before ready contents user keys_of turn None fits holds due

    -- a settled state that stays
    fits_still : Fits (state_with before.doubt) contents user keys_of
    fits_still = record {
      sessions = fits.sessions;
      next_session = fits.next_session;
      mounted = fits.mounted;
      last = fits.last;
      stands = stands_settled before ready (state_with before.doubt) contents user refl
          (record { none = settled.none; kept = settled.kept; files = settled.files });
      has_keys = record { proved = fits.has_keys.proved; mount = fits.has_keys.mount };
    }

    -- the file is there
    there : (o : Option Bytes) → is_some o ≡ true → (bytes : Bytes) × (o ≡ Some bytes)
    there None e = absurd (true≢false (sym e))
    there (Some bytes) e = (bytes, refl)

    not_not : (b : Bool) → not b ≡ false → b ≡ true
    not_not true e = refl
    not_not false e = absurd (true≢false e)

    file : (bytes : Bytes) × (get user.durable.files name ≡ Some bytes)
    file = there (get user.durable.files name)
        (sym (has_name_there user.durable.files name)
        ∙ not_not (has_name name (keys user.durable.files))
        (test_at (turn_refusals (outline_of user) turn user.last) none 2))

    row_of : (bytes : Bytes) → get user.durable.files name ≡ Some bytes
        → Given old.era user turn (answers.OkBytes bytes) user
    row_of bytes at = by_row (row_by old.era user turn [] (answers.OkBytes bytes) user none
        (ap (option_and_then (λ (b : Bytes). gives (answers.OkBytes b) user)) at))

    failed : Given old.era user turn answers.StorageFault (record user { other = Some user.durable })
    failed = unsettles (record {
      may = tt;
      fault = refl;
      due = answers.OkBytes file.0;
      done = user;
      row = row_by old.era user turn [] (answers.OkBytes file.0) user none
          (ap (option_and_then (λ (b : Bytes). gives (answers.OkBytes b) user)) file.1);
      after_is = refl;
    })

    fits_failed : Fits (state_with (Some Editions)) contents (record user { other = Some user.durable }) keys_of
    fits_failed = record {
      sessions = fits.sessions;
      next_session = fits.next_session;
      mounted = fits.mounted;
      last = fits.last;
      stands = record {
        other = user.durable;
        other_is = refl;
        tells = (
          held_tally (is_lost before) contents before.account user.durable keys_of before.stored holds settled.kept,
          inl refl,
        );
      };
      has_keys = record { proved = fits.has_keys.proved; mount = fits.has_keys.mount };
    }

  -- a stand-in, which leaves the user
  stood : (answer : Answer) → (answer ≡ answers.NoMemory) ⊎ ((named : Bytes) × (answer ≡ answers.Damaged named))
      → IsGiven old new before (state_with before.doubt) turn answer
  stood answer is = turn_by answer before.doubt (λ user. user) (λ user. refl)
      (λ e. absurd (calm e)) (λ user _. record { durable = refl; other = refl })
      (λ contents end user keys fits holds fold. (
        stands_in (record { may = tt; answer_is = is; after_is = refl }),
        fits_still contents user keys fits holds,
      ))
    where
      calm : answer ≡ answers.StorageFault → ⊥
      calm e = ⊎_elim
          (λ d. let z : ◌≡◌ {A = Answer} answers.NoMemory answers.StorageFault = sym d ∙ e in cc z)
          (λ d. let z : ◌≡◌ {A = Answer} (answers.Damaged d.0) answers.StorageFault = sym d.1 ∙ e in cc z) is

-- the turn, whichever way the read ended
pub read_given : (old new : ShareSeen) (before : UserState) (ready : IsReady before)
    (lost : is_some old.lost ≡ is_lost before) (account name vault : Bytes)
    (due : IsDue before (Act (GetFile account name))) (mounted : before.vault ≡ Some vault)
    (home : HasFactors before.stored) (r : Result Bytes StoreFault)
    → ReadsFile old new before.account vault name r → IfErr r IsReadFileFault
    → (answer : Answer) → IsReadAnswer r answer
    → IsGiven old new before (record before { doubt = doubt_of_read before.doubt r }) (Act (GetFile account name))
    answer
read_given old new before ready lost account name vault due mounted home (Ok bytes) reads only answer is =
    subst (IsGiven old new before (record before { doubt = before.doubt }) (Act (GetFile account name))) (sym is)
    (turn_by old new before ready lost account name vault due mounted home (Ok bytes) reads (answers.OkBytes bytes)
    before.doubt (λ user. user) (λ user. refl)
    (λ e. let z : ◌≡◌ {A = Answer} (answers.OkBytes bytes) answers.StorageFault = e in absurd (cc z))
    (λ user _. record { durable = refl; other = refl })
    (λ contents end user keys fits holds fold. (
      row_of old new before ready lost account name vault due mounted home (Ok bytes) reads contents user keys fits
          holds
          bytes
          (reads.held bytes refl contents end user.durable keys before.stored home
          (subst (λ (l : Bool). HoldsUnder l contents before.account user.durable keys) (sym lost) holds)
          (subst (λ (l : Bool). IsKept l contents before.account before.stored) (sym lost)
          (settled_now before ready contents user keys fits).kept)
          (sym (subst (λ o. IfSome o (λ key. key ≡ keys.vault)) mounted fits.has_keys.mount)) fold),
      fits_still old new before ready lost account name vault due mounted home (Ok bytes) reads contents user keys fits
          holds,
    )))
read_given old new before ready lost account name vault due mounted home (Err faults.Failed) reads only answer is =
    subst (IsGiven old new before (record before { doubt = Some Editions }) (Act (GetFile account name))) (sym is)
    (turn_by old new before ready lost account name vault due mounted home (Err faults.Failed) reads
    answers.StorageFault (Some Editions) (λ user. record user { other = Some user.durable }) (λ user. refl)
    (λ _. reads.fails refl) (λ user e. absurd (subst HasFailed e (reads.fails refl)))
    (λ contents end user keys fits holds fold. (
      failed old new before ready lost account name vault due mounted home (Err faults.Failed) reads contents user keys
          fits holds,
      fits_failed old new before ready lost account name vault due mounted home (Err faults.Failed) reads contents user
          keys fits holds,
    )))
read_given old new before ready lost account name vault due mounted home (Err (faults.Damaged named)) reads only answer
    is =
    stood old new before ready lost account name vault due mounted home (Err (faults.Damaged named)) reads answer
    (⊎_elim (λ e. inr (named, e)) (λ e. inl e) is)
read_given old new before ready lost account name vault due mounted home (Err faults.NoMemory) reads only answer is =
    stood old new before ready lost account name vault due mounted home (Err faults.NoMemory) reads answer (inl is)
read_given old new before ready lost account name vault due mounted home (Err (faults.TreeLost host chip)) reads only
    answer is = absurd only

-- what the read leaves in doubt
pub read_ended : (before : UserState) (r : Result Bytes StoreFault) → before.doubt ≡ None → IfErr r IsReadFileFault
    → (answer : Answer) → IsReadAnswer r answer
    → IsEnded IsEditions before (record before { doubt = doubt_of_read before.doubt r }) answer
read_ended before (Ok bytes) none only answer is = record {
  fault = λ e. let z : ◌≡◌ {A = Answer} (answers.OkBytes bytes) answers.StorageFault = sym is ∙ e in absurd (cc z);
  loaded = λ _. refl;
  settled = λ _. none;
}
read_ended before (Err faults.Failed) none only answer is = record {
  fault = λ _. tt;
  loaded = λ _. refl;
  settled = λ apart. absurd (apart is);
}
read_ended before (Err (faults.Damaged named)) none only answer is = record {
  fault = λ e. absurd (⊎_elim
      (λ d. let z : ◌≡◌ {A = Answer} (answers.Damaged named) answers.StorageFault = sym d ∙ e in cc z)
      (λ d. let z : ◌≡◌ {A = Answer} answers.NoMemory answers.StorageFault = sym d ∙ e in cc z) is);
  loaded = λ _. refl;
  settled = λ _. none;
}
read_ended before (Err faults.NoMemory) none only answer is = record {
  fault = λ e. let z : ◌≡◌ {A = Answer} answers.NoMemory answers.StorageFault = sym is ∙ e in absurd (cc z);
  loaded = λ _. refl;
  settled = λ _. none;
}
read_ended before (Err (faults.TreeLost host chip)) none only answer is = absurd only

named_same : (one two : Bytes) → ◌≡◌ {A = Answer} (answers.Damaged one) (answers.Damaged two) → two ≡ one
named_same one two e = let same : one ≡ two = cc in sym same

-- records stay where the steps leave contents in which no leaf is in doubt
records_stay : (era : Era) (steps : List Step)
    → ((c new : Contents) → c.doubt ≡ None → Fold (Does era) c steps new → new ≡ c)
    → (start end : Contents) → Fold (Does era) start steps end → end.records ≡ start.records
records_stay era [] same start end fold = ap (λ (c : Contents). c.records) fold
records_stay era (step ∷ steps) same start end fold =
    ap (λ (c : Contents). c.records) (same (once_begun start) end refl (fold.0, fold.1, fold.2))

-- a file that doesn't open is the damaged record
unreadable : (old new : ShareSeen) (account name key : Bytes) (vault : Option Bytes) (r : Result Bytes StoreFault)
    (reads : ReadsFile old new account key name r) → vault ≡ Some key → (named : Bytes)
    → r ≡ Err (faults.Damaged named) → IsUnreadable old new account name vault named
unreadable old new account name key vault r reads vault_is named damaged = record {
  name_is = (reads.damaged named damaged).0;
  key = key;
  vault_is = vault_is;
  shown = λ own is start end fold.
      let same : own ≡ reads.runs.own = same_rest old.own own reads.runs.own (sym is ∙ reads.runs.own_is) in
      let f : Fold (Does old.era) start reads.steps end = subst (λ (steps : List Step).
      Fold (Does old.era) start steps end) (ap (λ (o : List (ℕ × Step)). steps_of o) same ∙ reads.runs.steps_are) fold
      in
      ap (λ (r : Records). file_in key account name (get r (file_name account name)))
      (records_stay old.era reads.steps reads.same start end f)
      ∙ (reads.damaged named damaged).1 start end f;
}

-- why it was answered so
pub read_caused : (old new : ShareSeen) (account name key : Bytes) (vault : Option Bytes) (Broken : Type 0)
    (r : Result Bytes StoreFault) → vault ≡ Some key
    → ReadsFile old new account key name r → IfErr r IsReadFileFault → (answer : Answer) → IsReadAnswer r answer
    → IsReadCaused old new account name vault Broken answer
read_caused old new account name key vault Broken (Ok bytes) vault_is reads only answer is = record {
  known = inl (bytes, is);
  fault = λ e. let z : ◌≡◌ {A = Answer} (answers.OkBytes bytes) answers.StorageFault = sym is ∙ e in absurd (cc z);
  damaged = λ named e. let z : ◌≡◌ {A = Answer} (answers.OkBytes bytes) (answers.Damaged named) = sym is ∙ e in
      absurd (cc z);
}
read_caused old new account name key vault Broken (Err faults.Failed) vault_is reads only answer is = record {
  known = inr (inl is);
  fault = λ _. made_failed old new reads.steps reads.runs (reads.fails refl);
  damaged = λ named e. let z : ◌≡◌ {A = Answer} answers.StorageFault (answers.Damaged named) = sym is ∙ e in
      absurd (cc z);
}
read_caused old new account name key vault Broken (Err (faults.Damaged broken)) vault_is reads only answer is = record {
  known = ⊎_elim (λ d. inr (inr (inr (broken, d)))) (λ m. inr (inr (inl m))) is;
  fault = λ e. absurd (⊎_elim
      (λ d. let z : ◌≡◌ {A = Answer} (answers.Damaged broken) answers.StorageFault = sym d ∙ e in cc z)
      (λ d. let z : ◌≡◌ {A = Answer} answers.NoMemory answers.StorageFault = sym d ∙ e in cc z) is);
  damaged = λ named e. ⊎_elim
      (λ d. inr (unreadable old new account name key vault (Err (faults.Damaged broken)) reads vault_is named
      (ap (λ (n : Bytes). Err (faults.Damaged n)) (sym (named_same broken named (sym d ∙ e))))))
      (λ d. let z : ◌≡◌ {A = Answer} answers.NoMemory (answers.Damaged named) = sym d ∙ e in absurd (cc z)) is;
}
read_caused old new account name key vault Broken (Err faults.NoMemory) vault_is reads only answer is = record {
  known = inr (inr (inl is));
  fault = λ e. let z : ◌≡◌ {A = Answer} answers.NoMemory answers.StorageFault = sym is ∙ e in absurd (cc z);
  damaged = λ named e. let z : ◌≡◌ {A = Answer} answers.NoMemory (answers.Damaged named) = sym is ∙ e in absurd (cc z);
}
read_caused old new account name key vault Broken (Err (faults.TreeLost host chip)) vault_is reads only answer is =
    absurd only

-- a damaged stash, before any step
pub stood_read_caused : (share : ShareSeen) (account name : Bytes) (vault : Option Bytes) (Broken : Type 0)
    (answer : Answer) → IsStoodFor account answer → Broken
    → IsReadCaused share share account name vault Broken answer
stood_read_caused share account name vault Broken answer is broken = record {
  known = ⊎_elim (λ d. inr (inr (inr (stash_name account, d)))) (λ m. inr (inr (inl m))) is;
  fault = λ e. absurd (⊎_elim
      (λ d. let z : ◌≡◌ {A = Answer} (answers.Damaged (stash_name account)) answers.StorageFault = sym d ∙ e in cc z)
      (λ d. let z : ◌≡◌ {A = Answer} answers.NoMemory answers.StorageFault = sym d ∙ e in cc z) is);
  damaged = λ named e. ⊎_elim
      (λ d. inl (named_same (stash_name account) named (sym d ∙ e), broken))
      (λ d. let z : ◌≡◌ {A = Answer} answers.NoMemory (answers.Damaged named) = sym d ∙ e in absurd (cc z)) is;
}

-- the same of an account and a file of another spelling of their names
pub reads_at : {old new : ShareSeen} {vault one two a b : Bytes} {r : Result Bytes StoreFault} → one ≡ two → a ≡ b
    → ReadsFile old new one vault a r → ReadsFile old new two vault b r
reads_at {old} {new} {vault} {one} {two} {a} {b} {r} e k h =
    subst (λ (n : Bytes). ReadsFile old new two vault n r) k (subst (λ (n : Bytes). ReadsFile old new n vault a r) e h)

is_true : (b : Bool) → not b ≡ false → b ≡ true
is_true true e = refl
is_true false e = absurd (true≢false e)

-- the vault is mounted
pub read_mounted : (before : UserState) (account name : Bytes) → IsDue before (Act (GetFile account name))
    → is_some before.vault ≡ true
read_mounted before account name due = is_true (is_some before.vault)
    (test_at (turn_refusals (outline_in before) (Act (GetFile account name)) before.last) due 1)
