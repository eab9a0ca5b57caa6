-- From an edit of the records to a turn of the account.
use Rattle.std.proofs.Common.{◌≡◌, ◌≢◌, ℕ, List, Option, None, Some, Result, Ok, Err, IsOk, OnErr, Bool, refl, sym, ap, ◌∙◌, subst, inl, inr, ⊎_elim, is_some, true≢false, arith}
use Rattle.std.specs.Prelude.{IsErrOf, IfErr, IfSome}
use Rattle.std.specs.List.{AllByRecursion}
use Rattle.pw_types.specs.declared.era.Era.{Era}
use Rattle.account_machine.specs.declared.answer.Answer.{Answer}
use Rattle.account_machine.specs.declared.answer.Answer.TheVariants as answers
use Rattle.account_machine.specs.declared.request.Turn.{Turn}
use Rattle.account_machine.specs.declared.user.Durable.{Durable}
use Rattle.account_machine.specs.declared.user.User.{User}
use Rattle.account_machine.specs.Step.{Row, Given, by_row, unsettles, stands_in, MayFail, IsStandIn}
use Rattle.auth_session.specs.Table.{Table, sessions_in}
use Rattle.home_edits.specs.Costs.{PutsCost}
use Rattle.home_edits.specs.Edits.{Edits, Starts, IsEditFault}
use Rattle.random_values.specs.Stretches.{Place}
use Rattle.share_api.specs.Contents.{Bytes, Contents}
use Rattle.share_api.specs.Folds.{Fold, Throughout}
use Rattle.share_api.specs.Seen.{ShareSeen, HasFailed}
use Rattle.share_api.specs.Steps.{Does, DoesAmong}
use Rattle.share_api.proofs.FoldLaws.{throughout_weaker, throughout_end, throughout_among, fold_among}
use Rattle.stored_home.specs.Adding.{HoldsEither}
use Rattle.stored_home.specs.Coherent.{AreFiles, IsCoherent}
use Rattle.stored_home.specs.Holds.{Keys, HoldsUnder}
use Rattle.stored_home.specs.Loaded.{IsKept}
use Rattle.stored_home.specs.declared.fault.StoreFault.{StoreFault}
use Rattle.stored_home.specs.declared.fault.StoreFault.TheVariants as faults
use Rattle.stored_home.specs.declared.stored.Stored.{Stored}
use Rattle.user_state.specs.Fits.{Fits, IsSettled, IsProved, HasKeys, TellsBy, StandsBy, HoldsOneUnder, is_lost, tally_in}
use Rattle.user_state.specs.Turns.{IsGiven, Premises, Turns, HoldsAround, KeepsAccount, secret_of}
use Rattle.user_state.specs.declared.state.Doubt.{Doubt}
use Rattle.user_state.specs.declared.state.Doubt.TheVariants.{Editions}
use Rattle.user_state.specs.declared.state.UserState.{UserState}
use Rattle.turn_rows.specs.Due.{IsReady}
use Rattle.turn_rows.proofs.Quiet.{quiet_given, settled_now, stands_settled}
use Rattle.turn_edits.specs.Endings.{answer_of, doubt_of}
use Rattle.turn_edits.proofs.Tallies.{AreToldApart, held_tally}

-- What the row of an edit owes of a settled user: the user that the table gives, what the edit asks, and the keys under
-- which the contents hold what they hold before and after it.
pub record Owes (era : Era) (before done : UserState) (turn : Turn)
    (Asks : Contents → Keys → Durable → Durable → Type 0) (contents : Contents) (user : User) : Type 0 where
  pub next : User
  pub under : Keys
  pub row : Row era user turn answers.Ok next
  pub none : next.other ≡ None
  pub holds : HoldsUnder (is_lost before) contents before.account user.durable under
  pub asked : Asks contents under user.durable next.durable
  pub has_keys : HasKeys before under
  pub sessions : sessions_in done.sessions.kept ≡ next.sessions
  pub next_session : done.sessions.next ≡ next.next_session
  pub mounted : is_some done.vault ≡ next.mounted
  pub last : done.last ≡ next.last
  pub done_keys : HasKeys done under

module _ (old new : ShareSeen) (before : UserState) (ready : IsReady before)
    (lost : is_some old.lost ≡ is_lost before) (turn : Turn) (may : MayFail turn)
    (Asks : Contents → Keys → Durable → Durable → Type 0) (after : Stored) (ok failed : Type 0)
    (edits : Edits old new before.account before.stored after ok failed Asks) (done : UserState)
    (owes : (contents : Contents) (user : User) (keys : Keys) → Fits before contents user keys
    → HoldsUnder (is_lost before) contents before.account user.durable keys
    → Owes old.era before done turn Asks contents user) where
  module _ (seen : List Contents) (contents : Contents) (user : User) (keys : Keys)
      (p : Premises seen contents before (secret_of turn) user keys) where
    abbrev o : Owes old.era before done turn Asks contents user
    o = owes contents user keys p.fits p.holds

    settled : IsSettled before contents user
    settled = settled_now before ready contents user keys p.fits

    starts : Starts (is_some old.lost) before.account before.stored Asks contents o.under user.durable o.next.durable
    starts = record {
      holds = subst (λ (l : Bool). HoldsUnder l contents before.account user.durable o.under) (sym lost) o.holds;
      kept = subst (λ (l : Bool). IsKept l contents before.account before.stored) (sym lost) settled.kept;
      asked = o.asked;
    }

    abbrev Either : Contents → Type 0
    Either = HoldsEither (is_some old.lost) before.account o.under user.durable o.next.durable

    around : Throughout (DoesAmong old.era seen) Either contents edits.steps
    around = throughout_among old.era seen Either contents edits.steps
        (edits.atomic contents o.under user.durable o.next.durable starts).throughout

    back : (c : Contents) (durable : Durable) → HoldsUnder (is_some old.lost) c before.account durable o.under
        → HoldsUnder (is_lost before) c before.account durable o.under
    back c durable h = subst (λ (l : Bool). HoldsUnder l c before.account durable o.under) lost h

    -- ---- the edit is done

    done_turns : KeepsAccount before done → done.stored ≡ after → done.doubt ≡ before.doubt
        → AreFiles done.account done.stored → ok
        → Turns old.era seen (is_lost before) before.account user.durable (Given old.era user turn answers.Ok) done
        edits.steps user contents
    done_turns keeps stored doubt files went = record {
      throughout = throughout_weaker (DoesAmong old.era seen) Either
          (HoldsAround (is_lost before) before.account user.durable (Given old.era user turn answers.Ok)) contents
          edits.steps
          (λ c h. ⊎_elim (λ k. inl (o.under, back c user.durable k))
          (λ k. inr (o.next, by_row o.row, inl (o.under, back c o.next.durable k))) h) around;
      leads = λ end fold. let f = fold_among old.era seen contents end edits.steps fold in record {
        next = o.next;
        keys = o.under;
        allowed = by_row o.row;
        fits = record {
          sessions = o.sessions;
          next_session = o.next_session;
          mounted = o.mounted;
          last = o.last;
          stands = stands_settled before ready done end o.next doubt (record {
            none = o.none;
            kept = subst (λ (t : Bool × Bytes × Stored). IsKept t.0 end t.1 t.2)
                (λ i. ((lost ∙ ap is_some (sym keeps.lost)) i, sym keeps.account i, sym stored i))
                (edits.loaded went contents o.under user.durable o.next.durable starts end f);
            files = files;
          });
          has_keys = o.done_keys;
        };
        holds = inl (subst (λ (l : Bool). HoldsUnder l end before.account o.next.durable o.under)
            (lost ∙ ap is_some (sym keeps.lost))
            ((edits.atomic contents o.under user.durable o.next.durable starts).last went end f));
        idle = λ none. absurd (edits.made went none);
      };
    }

    -- ---- a step of it failed

    abbrev failed_user : User
    failed_user = record user { other = Some o.next.durable }

    failed_given : Given old.era user turn answers.StorageFault failed_user
    failed_given = unsettles (record {
      may = may;
      fault = refl;
      due = answers.Ok;
      done = o.next;
      row = o.row;
      after_is = refl;
    })

    failed_turns : (failing : UserState) (doubt : Doubt) → KeepsAccount before failing → failing.doubt ≡ Some doubt
        → failing.sessions ≡ before.sessions → failing.vault ≡ before.vault → failing.last ≡ before.last
        → ((end : Contents) → Fold (Does old.era) contents edits.steps end
        → TellsBy doubt failing end user.durable o.next.durable)
        → failed
        → Turns old.era seen (is_lost before) before.account user.durable
        (Given old.era user turn answers.StorageFault) failing edits.steps user contents
    failed_turns failing doubt keeps doubtful sessions vault last tells went = record {
      throughout = throughout_weaker (DoesAmong old.era seen) Either
          (HoldsAround (is_lost before) before.account user.durable (Given old.era user turn answers.StorageFault))
          contents edits.steps
          (λ c h. ⊎_elim (λ k. inl (o.under, back c user.durable k))
          (λ k. inr (failed_user, failed_given, inr (o.under, back c o.next.durable k))) h) around;
      leads = λ end fold. let f = fold_among old.era seen contents end edits.steps fold in record {
        next = failed_user;
        keys = o.under;
        allowed = failed_given;
        fits = record {
          sessions = ap (λ (t : Table). sessions_in t.kept) sessions ∙ p.fits.sessions;
          next_session = ap (λ (t : Table). t.next) sessions ∙ p.fits.next_session;
          mounted = ap is_some vault ∙ p.fits.mounted;
          last = last ∙ p.fits.last;
          stands = subst (λ (d : Option Doubt). StandsBy d failing end failed_user) (sym doubtful) (record {
            other = o.next.durable;
            other_is = refl;
            tells = tells end f;
          });
          has_keys = record {
            proved = subst (λ (t : Table). AllByRecursion (IsProved o.under.main) t.kept) (sym sessions)
                o.has_keys.proved;
            mount = subst (λ (v : Option Bytes). IfSome v (λ key. key ≡ o.under.vault)) (sym vault) o.has_keys.mount;
          };
        };
        holds = subst (λ (l : Bool). HoldsOneUnder l end before.account failed_user o.under)
            (lost ∙ ap is_some (sym keeps.lost))
            (throughout_end (DoesAmong old.era seen) Either contents end edits.steps around fold);
        idle = λ none. absurd (subst HasFailed none (edits.fails went));
      };
    }

  -- the turn of an edit that is done
  pub done_given : KeepsAccount before done → done.stored ≡ after → done.doubt ≡ before.doubt
      → AreFiles done.account done.stored → ok → IsGiven old new before done turn answers.Ok
  done_given keeps stored doubt files went = record {
    steps = edits.steps;
    runs = edits.runs;
    fault = λ e. let z : ◌≡◌ {A = ℕ} 0 1 = cc in absurd (omega (arith, z));
    keeps = keeps;
    right = λ seen contents user keys p. done_turns seen contents user keys p keeps stored doubt files went;
  }

  -- the turn of an edit of which a step failed
  pub failed_turn_given : (failing : UserState) (doubt : Doubt) → KeepsAccount before failing
      → failing.doubt ≡ Some doubt → failing.sessions ≡ before.sessions → failing.vault ≡ before.vault
      → failing.last ≡ before.last
      → ((contents end : Contents) (user : User) (keys : Keys) (fits : Fits before contents user keys)
      (holds : HoldsUnder (is_lost before) contents before.account user.durable keys)
      → Starts (is_some old.lost) before.account before.stored Asks contents (owes contents user keys fits holds).under
      user.durable (owes contents user keys fits holds).next.durable
      → Fold (Does old.era) contents edits.steps end
      → TellsBy doubt failing end user.durable (owes contents user keys fits holds).next.durable)
      → failed → IsGiven old new before failing turn answers.StorageFault
  failed_turn_given failing doubt keeps doubtful sessions vault last tells went = record {
    steps = edits.steps;
    runs = edits.runs;
    fault = λ _. edits.fails went;
    keeps = keeps;
    right = λ seen contents user keys p. failed_turns seen contents user keys p failing doubt keeps doubtful sessions
        vault last
        (λ end fold. tells contents end user keys p.fits p.holds (starts seen contents user keys p) fold) went;
  }

-- ---- the same of an account of another spelling of its name

pub edits_at : {old new : ShareSeen} {one two : Bytes} {stored after : Stored} {ok failed : Type 0}
    {Asks : Contents → Keys → Durable → Durable → Type 0} → one ≡ two → Edits old new one stored after ok failed Asks
    → Edits old new two stored after ok failed Asks
edits_at {old} {new} {one} {two} {stored} {after} {ok} {failed} {Asks} e h =
    subst (λ (n : Bytes). Edits old new n stored after ok failed Asks) e h

pub coherent_at : {one two : Bytes} {old new : Stored} → one ≡ two → (IsCoherent one old → IsCoherent one new)
    → IsCoherent two old → IsCoherent two new
coherent_at {one} {two} {old} {new} e h = subst (λ (n : Bytes). IsCoherent n old → IsCoherent n new) e h

pub costs_at : (old new : ShareSeen) {one two : Bytes} {a b : ℕ} → one ≡ two → a ≡ b → PutsCost old new one a
    → PutsCost old new two b
costs_at old new {one} {two} {a} {b} e k h = subst (PutsCost old new two) k
    (subst (λ (n : Bytes). PutsCost old new n a) e h)

-- a stand-in isn't a storage fault
stand_in_calm : (answer : Answer) → IsStandIn answer → answer ≢ answers.StorageFault
stand_in_calm answer is e = ⊎_elim
    (λ memory. let z : ◌≡◌ {A = Answer} answers.NoMemory answers.StorageFault = sym memory ∙ e in absurd (cc z))
    (λ damaged. let z : ◌≡◌ {A = Answer} (answers.Damaged damaged.0) answers.StorageFault = sym damaged.1 ∙ e in
    absurd (cc z)) is

-- a stand-in before any step, once some words were drawn
pub stood_given : (before : UserState) (ready : IsReady before) (turn : Turn) (may : MayFail turn) (generator : Place)
    (answer : Answer) → IsStandIn answer → (share : ShareSeen)
    → IsGiven share share before (record before { generator = generator }) turn answer
stood_given before ready turn may generator answer is share =
    quiet_given share before (record before { generator = generator }) turn answer (stand_in_calm answer is)
    (record { account = refl; cost = refl; lost = refl })
    (λ seen contents user keys p. let s = settled_now before ready contents user keys p.fits in record {
      next = user;
      given = stands_in (record { may = may; answer_is = is; after_is = refl });
      fits = record {
        sessions = p.fits.sessions;
        next_session = p.fits.next_session;
        mounted = p.fits.mounted;
        last = p.fits.last;
        stands = stands_settled before ready (record before { generator = generator }) contents user refl
            (record { none = s.none; kept = s.kept; files = s.files });
        has_keys = record { proved = p.fits.has_keys.proved; mount = p.fits.has_keys.mount };
      };
      durable = refl;
      other = refl;
    })

-- ---- whichever way an edit ended

module _ (old new : ShareSeen) (before : UserState) (ready : IsReady before)
    (lost : is_some old.lost ≡ is_lost before) (turn : Turn) (may : MayFail turn)
    (Asks : Contents → Keys → Durable → Durable → Type 0) (generator : Place) (sessions : Table) (after : Stored)
    (doubt : Doubt) where
  -- the state after it
  abbrev pub state_after : Result (Unit {0}) StoreFault → UserState
  state_after r = record before {
    generator = generator;
    sessions = sessions;
    stored = after;
    doubt = doubt_of doubt before.doubt r;
  }

  pub edited_given : (r : Result (Unit {0}) StoreFault)
      → (edits : Edits old new before.account before.stored after (IsOk r) (IsErrOf r faults.Failed) Asks)
      → IfErr r IsEditFault → (IsErrOf r faults.NoMemory → new ≡ old) → OnErr r (after ≡ before.stored)
      → OnErr r (sessions ≡ before.sessions) → after.lost ≡ before.stored.lost → AreFiles before.account after
      → (done : UserState) → (IsOk r → done ≡ state_after r)
      → (owes : (contents : Contents) (user : User) (keys : Keys) → Fits before contents user keys
      → HoldsUnder (is_lost before) contents before.account user.durable keys
      → Owes old.era before done turn Asks contents user)
      → (after ≡ before.stored → (contents end : Contents) (user : User) (keys : Keys)
      (fits : Fits before contents user keys)
      (holds : HoldsUnder (is_lost before) contents before.account user.durable keys)
      → Starts (is_some old.lost) before.account before.stored Asks contents (owes contents user keys fits holds).under
      user.durable (owes contents user keys fits holds).next.durable
      → Fold (Does old.era) contents edits.steps end
      → TellsBy doubt (state_after r) end user.durable (owes contents user keys fits holds).next.durable)
      → IsGiven old new before (state_after r) turn (answer_of r)
  edited_given (Ok u) edits only calm err same kept files done is owes tells =
      let e : done ≡ state_after (Ok u) = is refl in
      subst (λ (s : UserState). IsGiven old new before s turn answers.Ok) e
      (done_given old new before ready lost turn may Asks after _ _ edits done owes
      (subst (KeepsAccount before) (sym e) (record { account = refl; cost = refl; lost = kept }))
      (ap (λ (s : UserState). s.stored) e) (ap (λ (s : UserState). s.doubt) e)
      (subst (λ (s : UserState). AreFiles s.account s.stored) (sym e) files) refl)
  edited_given (Err faults.Failed) edits only calm err same kept files done is owes tells =
      failed_turn_given old new before ready lost turn may Asks after _ _ edits done owes
      (state_after (Err faults.Failed)) doubt (record { account = refl; cost = refl; lost = kept }) refl same refl refl
      (tells err) refl
  edited_given (Err (faults.Damaged name)) edits only calm err same kept files done is owes tells = absurd only
  edited_given (Err faults.NoMemory) edits only calm err same kept files done is owes tells =
      subst (λ (t : ShareSeen × Stored × Table). IsGiven old t.0 before (record before {
        generator = generator;
        sessions = t.2;
        stored = t.1;
      }) turn answers.NoMemory)
      (λ i. (sym (calm refl) i, sym err i, sym same i))
      (stood_given before ready turn may generator answers.NoMemory (inl refl) old)
  edited_given (Err (faults.TreeLost host chip)) edits only calm err same kept files done is owes tells = absurd only

-- ---- rows that leave sessions and keys

-- What such a row owes of a settled user: the durable part that the table gives, and what the edit asks.
pub record OwesDurable (era : Era) (turn : Turn) (Asks : Contents → Keys → Durable → Durable → Type 0)
    (contents : Contents) (user : User) (keys : Keys) : Type 0 where
  pub durable : Durable
  pub row : Row era user turn answers.Ok (record user { durable = durable })
  pub asked : Asks contents keys user.durable durable

module _ (old new : ShareSeen) (before : UserState) (ready : IsReady before)
    (lost : is_some old.lost ≡ is_lost before) (turn : Turn) (may : MayFail turn)
    (Asks : Contents → Keys → Durable → Durable → Type 0) (generator : Place) (after : Stored) (doubt : Doubt)
    (owes : (contents : Contents) (user : User) (keys : Keys) → Fits before contents user keys
    → HoldsUnder (is_lost before) contents before.account user.durable keys
    → OwesDurable old.era turn Asks contents user keys) where
  abbrev pub plain_after : Result (Unit {0}) StoreFault → UserState
  plain_after r = state_after old new before ready lost turn may Asks generator before.sessions after doubt r

  abbrev owes_plain : (contents : Contents) (user : User) (keys : Keys) → Fits before contents user keys
      → HoldsUnder (is_lost before) contents before.account user.durable keys
      → Owes old.era before (plain_after (Ok tt)) turn Asks contents user
  owes_plain contents user keys fits holds = let o = owes contents user keys fits holds in record {
    next = record user { durable = o.durable };
    under = keys;
    row = o.row;
    none = (settled_now before ready contents user keys fits).none;
    holds = holds;
    asked = o.asked;
    has_keys = fits.has_keys;
    sessions = fits.sessions;
    next_session = fits.next_session;
    mounted = fits.mounted;
    last = fits.last;
    done_keys = record { proved = fits.has_keys.proved; mount = fits.has_keys.mount };
  }

  pub plain_given : (r : Result (Unit {0}) StoreFault)
      → (edits : Edits old new before.account before.stored after (IsOk r) (IsErrOf r faults.Failed) Asks)
      → IfErr r IsEditFault → (IsErrOf r faults.NoMemory → new ≡ old) → OnErr r (after ≡ before.stored)
      → after.lost ≡ before.stored.lost → AreFiles before.account after
      → (after ≡ before.stored → (contents end : Contents) (user : User) (keys : Keys)
      (fits : Fits before contents user keys)
      (holds : HoldsUnder (is_lost before) contents before.account user.durable keys)
      → Starts (is_some old.lost) before.account before.stored Asks contents keys user.durable
      (owes contents user keys fits holds).durable
      → Fold (Does old.era) contents edits.steps end
      → TellsBy doubt (plain_after r) end user.durable (owes contents user keys fits holds).durable)
      → IsGiven old new before (plain_after r) turn (answer_of r)
  plain_given r edits only calm err kept files tells =
      edited_given old new before ready lost turn may Asks generator before.sessions after doubt r edits only calm err
      (stays r) kept files (plain_after (Ok tt)) (is_done r) owes_plain tells
    where
      is_done : (q : Result (Unit {0}) StoreFault) → IsOk q → plain_after (Ok tt) ≡ plain_after q
      is_done (Ok u) ok = refl
      is_done (Err e) ok = absurd (true≢false (sym ok))

      stays : (q : Result (Unit {0}) StoreFault) → OnErr q (before.sessions ≡ before.sessions)
      stays (Ok u) = tt
      stays (Err e) = refl

-- What a row owes of which editions tell whether its edit was done.
pub record OwesTold (era : Era) (turn : Turn) (Asks : Contents → Keys → Durable → Durable → Type 0)
    (contents : Contents) (user : User) (keys : Keys) : Type 0 where
  pub durable : Durable
  pub row : Row era user turn answers.Ok (record user { durable = durable })
  pub asked : Asks contents keys user.durable durable
  pub told : AreToldApart user.durable durable

pub editions_given : (old new : ShareSeen) (before : UserState) (ready : IsReady before)
    (lost : is_some old.lost ≡ is_lost before) (turn : Turn) (may : MayFail turn)
    (Asks : Contents → Keys → Durable → Durable → Type 0) (generator : Place) (after : Stored)
    (r : Result (Unit {0}) StoreFault)
    (edits : Edits old new before.account before.stored after (IsOk r) (IsErrOf r faults.Failed) Asks)
    → IfErr r IsEditFault → (IsErrOf r faults.NoMemory → new ≡ old) → OnErr r (after ≡ before.stored)
    → after.lost ≡ before.stored.lost → AreFiles before.account after
    → ((contents : Contents) (user : User) (keys : Keys) → Fits before contents user keys
    → HoldsUnder (is_lost before) contents before.account user.durable keys
    → OwesTold old.era turn Asks contents user keys)
    → IsGiven old new before (record before {
      generator = generator;
      stored = after;
      doubt = doubt_of Editions before.doubt r;
    }) turn (answer_of r)
editions_given old new before ready lost turn may Asks generator after r edits only calm err kept files owes =
    plain_given old new before ready lost turn may Asks generator after Editions
    (λ contents user keys fits holds. let o = owes contents user keys fits holds in
    record { durable = o.durable; row = o.row; asked = o.asked })
    r edits only calm err kept files
    (λ same contents end user keys fits holds starts fold. (
      ap (λ (s : Stored). tally_in s.stash) same
          ∙ held_tally (is_some old.lost) contents before.account user.durable keys before.stored starts.holds
          starts.kept,
      (owes contents user keys fits holds).told,
    ))
