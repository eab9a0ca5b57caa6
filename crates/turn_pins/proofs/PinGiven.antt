-- A turn that looks, and then sets a PIN.
use Rattle.std.proofs.Common.{◌≡◌, ℕ, List, [], ◌++◌, Option, None, Some, Result, Ok, Err, IsOk, IsErr, OnErr, Bool, refl, sym, ap, ◌∙◌, subst, inl, inr, ⊎_elim, is_some, arith}
use Rattle.pw_types.specs.declared.era.Era.{Era}
use Rattle.account_machine.specs.declared.answer.Answer.{Answer}
use Rattle.account_machine.specs.declared.answer.Answer.TheVariants as answers
use Rattle.account_machine.specs.declared.request.Turn.{Turn}
use Rattle.account_machine.specs.declared.user.Durable.{Durable}
use Rattle.account_machine.specs.declared.user.User.{User}
use Rattle.account_machine.specs.Step.{Given, MayFail, IsStandIn, by_row, unsettles, stands_in}
use Rattle.home_edits.specs.Edits.{Starts}
use Rattle.home_recovery.proofs.ReadLemmas.{reads_stay, reads_keep}
use Rattle.pin_edits.specs.Faults.{TellsLost}
use Rattle.pin_edits.specs.Pins.{EditsPin}
use Rattle.random_values.specs.Stretches.{Place}
use Rattle.share_api.specs.Contents.{Bytes, Contents}
use Rattle.share_api.specs.Folds.{Fold, Throughout}
use Rattle.share_api.specs.Seen.{ShareSeen, HasFailed}
use Rattle.share_api.specs.Steps.{Does}
use Rattle.share_api.specs.declared.step.Step.{Step}
use Rattle.share_api.proofs.FoldLaws.{throughout_weaker, throughout_end, throughout_append, throughout_among, fold_split, fold_among}
use Rattle.share_api.proofs.RunLaws.{runs_none, runs_then, failed_either}
use Rattle.stored_home.specs.Adding.{HoldsEither}
use Rattle.stored_home.specs.Coherent.{AreFiles}
use Rattle.stored_home.specs.Holds.{Keys, HoldsUnder}
use Rattle.stored_home.specs.Loaded.{IsKept}
use Rattle.stored_home.specs.declared.fault.StoreFault.{StoreFault}
use Rattle.stored_home.specs.declared.fault.StoreFault.TheVariants as faults
use Rattle.stored_home.specs.declared.stored.Stored.{Stored}
use Rattle.user_state.specs.Fits.{Fits, IsSettled, StandsBy, is_lost, tally_in}
use Rattle.user_state.specs.Turns.{IsGiven, Premises, Turns, Leads, HoldsAround, KeepsAccount, secret_of}
use Rattle.user_state.specs.declared.state.Doubt.{Doubt}
use Rattle.user_state.specs.declared.state.Doubt.TheVariants.{Editions}
use Rattle.user_state.specs.declared.state.UserState.{UserState}
use Rattle.turn_rows.specs.Due.{IsReady}
use Rattle.turn_rows.proofs.Quiet.{settled_now, stands_settled}
use Rattle.turn_edits.specs.Endings.{doubt_of}
use Rattle.turn_edits.proofs.EditGiven.{OwesTold}
use Rattle.turn_edits.proofs.Tallies.{held_tally}
use Rattle.turn_secrets.specs.Listing.{Looks}
use Rattle.turn_pins.specs.Resetting.{IsToldAnswer}
use Rattle.turn_pins.specs.Looking.{IsRefusal}
use Rattle.turn_pins.specs.Setting.{IsRenewFault}
use Rattle.turn_pins.proofs.LookedLeaf.{append_none, looked_given}

-- a stand-in is no storage fault
stand_in_calm : (a : Answer) → IsStandIn a → a ≡ answers.StorageFault → ⊥
stand_in_calm a is f = ⊎_elim
    (λ memory. let z : ◌≡◌ {A = Answer} answers.NoMemory answers.StorageFault = sym memory ∙ f in cc z)
    (λ damaged. let z : ◌≡◌ {A = Answer} (answers.Damaged damaged.0) answers.StorageFault = sym damaged.1 ∙ f in cc z)
    is

module _ (old mid new : ShareSeen) (before : UserState) (ready : IsReady before)
    (lost : is_some old.lost ≡ is_lost before) (turn : Turn) (may : MayFail turn) (failed : Type 0) (most : ℕ)
    (P : Contents → Type 0) (l : Looks old mid failed most P)
    (Asks : Contents → Keys → Durable → Durable → Type 0) (generator : Place) (after : Stored)
    (owes : (contents : Contents) (user : User) (keys : Keys) → Fits before contents user keys
    → HoldsUnder (is_lost before) contents before.account user.durable keys → P contents
    → OwesTold old.era turn Asks contents user keys) where
  -- the state after it
  abbrev pub set_after : Result (Unit {0}) StoreFault → UserState
  set_after r = record before { generator = generator; stored = after; doubt = doubt_of Editions before.doubt r }

  module _ (r : Result (Unit {0}) StoreFault) (e : EditsPin mid new before.account before.stored after r Asks)
      (kept : after.lost ≡ before.stored.lost) where
    abbrev steps : List Step
    steps = e.edits.steps

    mid_lost : is_some mid.lost ≡ is_lost before
    mid_lost = ap is_some l.runs.lost ∙ lost

    keeps : KeepsAccount before (set_after r)
    keeps = record { account = refl; cost = refl; lost = kept }

    module _ (seen : List Contents) (contents : Contents) (user : User) (keys : Keys)
        (p : Premises seen contents before (secret_of turn) user keys) where
      settled : IsSettled before contents user
      settled = settled_now before ready contents user keys p.fits

      clear : contents.doubt ≡ None
      clear = settled.kept.clear

      -- what was looked at, the contents are
      stays : (c : Contents) → Fold (Does old.era) contents l.steps c → c ≡ contents
      stays c f = reads_stay old.era contents c l.steps clear l.reads f

      shown : (c : Contents) → Fold (Does old.era) contents l.steps c → P contents
      shown c f = l.tells contents clear (subst (λ x. Fold (Does old.era) contents l.steps x) (stays c f) f)

      -- the durable part before it is held, or one that this answer allows
      abbrev Around : Answer → Contents → Type 0
      Around answer = HoldsAround (is_lost before) before.account user.durable (Given old.era user turn answer)

      -- A turn that looks and then edits, by what the edit does.
      looked_turns : (answer : Answer)
          → (P contents → Throughout (Does mid.era) (HoldsAround (is_lost before) before.account user.durable
          (Given old.era user turn answer)) contents steps)
          → (P contents → (end : Contents) → Fold (Does mid.era) contents steps end
          → Leads before.account (Given old.era user turn answer) (set_after r) (l.steps ++ steps) user end)
          → Turns old.era seen (is_lost before) before.account user.durable (Given old.era user turn answer)
          (set_after r) (l.steps ++ steps) user contents
      looked_turns answer through led = record {
        throughout = throughout_among old.era seen (Around answer) contents (l.steps ++ steps)
            (throughout_append (Does old.era) (Around answer) contents l.steps steps
            (reads_keep old.era (Around answer) contents l.steps clear l.reads (inl (keys, p.holds)))
            (λ c f. subst (λ x. Throughout (Does old.era) (Around answer) x steps) (sym (stays c f))
            (subst (λ (era : Era). Throughout (Does era) (Around answer) contents steps) l.runs.era (through (shown c f)))));
        leads = λ end fold.
            let parts = fold_split (Does old.era) contents end l.steps steps
            (fold_among old.era seen contents end (l.steps ++ steps) fold) in
            led (shown parts.0 parts.1) end
            (subst (λ (era : Era). Fold (Does era) contents steps end) (sym l.runs.era)
            (subst (λ x. Fold (Does old.era) x steps end) (stays parts.0 parts.1) parts.2));
      }

      module _ (told : P contents) where
        abbrev o : OwesTold old.era turn Asks contents user keys
        o = owes contents user keys p.fits p.holds told

        abbrev next : User
        next = record user { durable = o.durable }

        starts : Starts (is_some mid.lost) before.account before.stored Asks contents keys user.durable o.durable
        starts = record {
          holds = subst (λ (b : Bool). HoldsUnder b contents before.account user.durable keys) (sym mid_lost) p.holds;
          kept = subst (λ (b : Bool). IsKept b contents before.account before.stored) (sym mid_lost) settled.kept;
          asked = o.asked;
        }

        back : (c : Contents) (durable : Durable) → HoldsUnder (is_some mid.lost) c before.account durable keys
            → HoldsUnder (is_lost before) c before.account durable keys
        back c durable h = subst (λ (b : Bool). HoldsUnder b c before.account durable keys) mid_lost h

        after_lost : is_some mid.lost ≡ is_some after.lost
        after_lost = mid_lost ∙ ap is_some (sym kept)

        either : Throughout (Does mid.era) (HoldsEither (is_some mid.lost) before.account keys user.durable o.durable)
            contents steps
        either = (e.edits.atomic contents keys user.durable o.durable starts).throughout

        -- ---- the PIN was set

        done_around : Throughout (Does mid.era) (HoldsAround (is_lost before) before.account user.durable
            (Given old.era user turn answers.Ok)) contents steps
        done_around = throughout_weaker (Does mid.era)
            (HoldsEither (is_some mid.lost) before.account keys user.durable o.durable)
            (HoldsAround (is_lost before) before.account user.durable (Given old.era user turn answers.Ok)) contents
            steps
            (λ c h. ⊎_elim (λ k. inl (keys, back c user.durable k))
            (λ k. inr (next, by_row o.row, inl (keys, back c o.durable k))) h) either

        done_leads : r ≡ Ok tt → AreFiles before.account after → (end : Contents) → Fold (Does mid.era) contents steps end
            → Leads before.account (Given old.era user turn answers.Ok) (set_after r) (l.steps ++ steps) user end
        done_leads is files end fold =
            let ok : IsOk r = subst IsOk (sym is) refl in record {
              next = next;
              keys = keys;
              allowed = by_row o.row;
              fits = record {
                sessions = p.fits.sessions;
                next_session = p.fits.next_session;
                mounted = p.fits.mounted;
                last = p.fits.last;
                stands = stands_settled before ready (set_after r) end next (ap (doubt_of Editions before.doubt) is)
                    (record {
                      none = settled.none;
                      kept = subst (λ (b : Bool). IsKept b end before.account after) after_lost
                          (e.edits.loaded ok contents keys user.durable o.durable starts end fold);
                      files = files;
                    });
                has_keys = record { proved = p.fits.has_keys.proved; mount = p.fits.has_keys.mount };
              };
              holds = inl (subst (λ (b : Bool). HoldsUnder b end before.account o.durable keys) after_lost
                  ((e.edits.atomic contents keys user.durable o.durable starts).last ok end fold));
              idle = λ none. absurd (e.edits.made ok (append_none l.steps steps none));
            }

        -- ---- a step of the edit failed

        abbrev failed_user : User
        failed_user = record user { other = Some o.durable }

        failed_given : Given old.era user turn answers.StorageFault failed_user
        failed_given = unsettles (record {
          may = may;
          fault = refl;
          due = answers.Ok;
          done = next;
          row = o.row;
          after_is = refl;
        })

        failed_around : Throughout (Does mid.era) (HoldsAround (is_lost before) before.account user.durable
            (Given old.era user turn answers.StorageFault)) contents steps
        failed_around = throughout_weaker (Does mid.era)
            (HoldsEither (is_some mid.lost) before.account keys user.durable o.durable)
            (HoldsAround (is_lost before) before.account user.durable (Given old.era user turn answers.StorageFault))
            contents steps
            (λ c h. ⊎_elim (λ k. inl (keys, back c user.durable k))
            (λ k. inr (failed_user, failed_given, inr (keys, back c o.durable k))) h) either

        failed_leads : r ≡ Err faults.Failed → after ≡ before.stored → (end : Contents)
            → Fold (Does mid.era) contents steps end
            → Leads before.account (Given old.era user turn answers.StorageFault) (set_after r) (l.steps ++ steps) user
            end
        failed_leads is same end fold = record {
          next = failed_user;
          keys = keys;
          allowed = failed_given;
          fits = record {
            sessions = p.fits.sessions;
            next_session = p.fits.next_session;
            mounted = p.fits.mounted;
            last = p.fits.last;
            stands = subst (λ (d : Option Doubt). StandsBy d (set_after r) end failed_user)
                (sym (ap (doubt_of Editions before.doubt) is)) (record {
                  other = o.durable;
                  other_is = refl;
                  tells = (
                    ap (λ (s : Stored). tally_in s.stash) same
                        ∙ held_tally (is_some mid.lost) contents before.account user.durable keys before.stored
                        starts.holds starts.kept,
                    o.told,
                  );
                });
            has_keys = record { proved = p.fits.has_keys.proved; mount = p.fits.has_keys.mount };
          };
          holds =
              let h : HoldsEither (is_some mid.lost) before.account keys user.durable o.durable end =
              throughout_end (Does mid.era)
              (HoldsEither (is_some mid.lost) before.account keys user.durable o.durable) contents end steps either
              fold in
              ⊎_elim
              (λ k. inl (subst (λ (b : Bool). HoldsUnder b end before.account user.durable keys) after_lost k))
              (λ k. inr (subst (λ (b : Bool). HoldsUnder b end before.account o.durable keys) after_lost k)) h;
          idle = λ none. absurd
              (subst HasFailed (append_none l.steps steps none) (e.edits.fails is));
        }

        -- ---- the edit was refused

        module _ (is_err : IsErr r) (calm : r ≡ Err faults.Failed → ⊥) (answer : Answer)
            (stands : IsStandIn answer) where
          stood : Given old.era user turn answer user
          stood = stands_in (record { may = may; answer_is = stands; after_is = refl })

          refused_around : Throughout (Does mid.era) (HoldsAround (is_lost before) before.account user.durable
              (Given old.era user turn answer)) contents steps
          refused_around = throughout_weaker (Does mid.era)
              (λ c. HoldsUnder (is_some mid.lost) c before.account user.durable keys)
              (HoldsAround (is_lost before) before.account user.durable (Given old.era user turn answer)) contents steps
              (λ c h. inl (keys, back c user.durable h))
              ((e.refused is_err calm).held contents keys user.durable o.durable starts)

          refused_leads : after ≡ before.stored → doubt_of Editions before.doubt r ≡ before.doubt → (end : Contents)
              → Fold (Does mid.era) contents steps end
              → Leads before.account (Given old.era user turn answer) (set_after r) (l.steps ++ steps) user end
          refused_leads same doubt end fold = subst
              (Leads before.account (Given old.era user turn answer) (set_after r) (l.steps ++ steps) user)
              (sym ((e.refused is_err calm).same contents end clear fold)) (record {
                next = user;
                keys = keys;
                allowed = stood;
                fits = record {
                  sessions = p.fits.sessions;
                  next_session = p.fits.next_session;
                  mounted = p.fits.mounted;
                  last = p.fits.last;
                  stands = stands_settled before ready (set_after r) contents user doubt (record {
                    none = settled.none;
                    kept = subst (λ (s : Stored). IsKept (is_some s.lost) contents before.account s) (sym same)
                        settled.kept;
                    files = subst (AreFiles before.account) (sym same) settled.files;
                  });
                  has_keys = record { proved = p.fits.has_keys.proved; mount = p.fits.has_keys.mount };
                };
                holds = inl (subst (λ (s : Stored). HoldsUnder (is_some s.lost) contents before.account user.durable
                    keys) (sym same) p.holds);
                idle = λ none. record { durable = refl; other = refl };
              })

    -- the turn, by what it does of each user
    given_by : (answer : Answer) → (answer ≡ answers.StorageFault → HasFailed steps)
        → ((seen : List Contents) (contents : Contents) (user : User) (keys : Keys)
        → Premises seen contents before (secret_of turn) user keys
        → Turns old.era seen (is_lost before) before.account user.durable (Given old.era user turn answer)
        (set_after r) (l.steps ++ steps) user contents)
        → IsGiven old new before (set_after r) turn answer
    given_by answer fault right = record {
      steps = l.steps ++ steps;
      runs = runs_then old mid new l.steps steps l.runs e.edits.runs;
      fault = λ f. failed_either l.steps steps (inr (fault f));
      keeps = keeps;
      right = right;
    }

    refused_given : IsErr r → (r ≡ Err faults.Failed → ⊥) → (answer : Answer)
        → IsStandIn answer → after ≡ before.stored → doubt_of Editions before.doubt r ≡ before.doubt
        → IsGiven old new before (set_after r) turn answer
    refused_given is_err calm answer stands same doubt =
        given_by answer (λ f. absurd (stand_in_calm answer stands f))
        (λ seen contents user keys p. looked_turns seen contents user keys p answer
        (λ told. refused_around seen contents user keys p told is_err calm answer stands)
        (λ told end fold. refused_leads seen contents user keys p told is_err calm answer stands same doubt end fold))

  -- whichever way the edit ended, where the tree isn't lost
  pub set_given : (r : Result (Unit {0}) StoreFault)
      → EditsPin mid new before.account before.stored after r Asks → after.lost ≡ before.stored.lost
      → OnErr r (after ≡ before.stored) → TellsLost None r → AreFiles before.account after → (answer : Answer)
      → IsToldAnswer r answer → IsGiven old new before (set_after r) turn answer
  set_given (Ok u) e kept err tells files answer told = subst (IsGiven old new before (set_after (Ok u)) turn) (sym told)
      (given_by (Ok u) e kept answers.Ok
      (λ f. let z : ◌≡◌ {A = Answer} answers.Ok answers.StorageFault = f in absurd (cc z))
      (λ seen contents user keys p. looked_turns (Ok u) e kept seen contents user keys p answers.Ok
      (λ t. done_around (Ok u) e kept seen contents user keys p t)
      (λ t end fold. done_leads (Ok u) e kept seen contents user keys p t refl files end fold)))
  set_given (Err faults.Failed) e kept err tells files answer told =
      subst (IsGiven old new before (set_after (Err faults.Failed)) turn) (sym told)
      (given_by (Err faults.Failed) e kept answers.StorageFault (λ f. e.edits.fails refl)
      (λ seen contents user keys p. looked_turns (Err faults.Failed) e kept seen contents user keys p
      answers.StorageFault
      (λ t. failed_around (Err faults.Failed) e kept seen contents user keys p t)
      (λ t end fold. failed_leads (Err faults.Failed) e kept seen contents user keys p t refl err end fold)))
  set_given (Err (faults.Damaged name)) e kept err tells files answer told =
      refused_given (Err (faults.Damaged name)) e kept refl
      (λ f. let z : ◌≡◌ {A = Result (Unit {0}) StoreFault} (Err (faults.Damaged name)) (Err faults.Failed) = f in cc z)
      answer (⊎_elim (λ d. inr (name, d)) inl told) err refl
  set_given (Err faults.NoMemory) e kept err tells files answer told =
      refused_given (Err faults.NoMemory) e kept refl
      (λ f. let z : ◌≡◌ {A = Result (Unit {0}) StoreFault} (Err faults.NoMemory) (Err faults.Failed) = f in cc z)
      answer (inl told) err refl
  set_given (Err (faults.TreeLost host chip)) e kept err tells files answer told = absurd (tells host chip refl)

-- ---- no edit was made

-- a turn that looked, and then was refused once some words were drawn
pub looked_refused : (old mid : ShareSeen) (before : UserState) (ready : IsReady before) (turn : Turn)
    (may : MayFail turn) (failed : Type 0) (most : ℕ) (P : Contents → Type 0) (l : Looks old mid failed most P)
    (generator : Place) (account : Bytes) (tree : ℕ) (fault : StoreFault) → IsRenewFault account tree fault
    → (answer : Answer) → IsRefusal fault answer
    → IsGiven old mid before (record before { generator = generator }) turn answer
looked_refused old mid before ready turn may failed most P l generator account tree fault only answer is =
    looked_given old mid mid before ready turn failed most P l [] (runs_none mid) (omega arith) answer
    (record before { generator = generator }) (λ e. absurd (stand_in_calm answer stands e))
    (record { account = refl; cost = refl; lost = refl })
    (λ seen contents user keys p told end same.
    let s = settled_now before ready contents user keys p.fits in
    subst (Leads before.account (Given old.era user turn answer) (record before { generator = generator })
    (l.steps ++ []) user) (sym same) (record {
      next = user;
      keys = keys;
      allowed = stands_in (record { may = may; answer_is = stands; after_is = refl });
      fits = record {
        sessions = p.fits.sessions;
        next_session = p.fits.next_session;
        mounted = p.fits.mounted;
        last = p.fits.last;
        stands = stands_settled before ready (record before { generator = generator }) contents user refl
            (record { none = s.none; kept = s.kept; files = s.files });
        has_keys = record { proved = p.fits.has_keys.proved; mount = p.fits.has_keys.mount };
      };
      holds = inl p.holds;
      idle = λ none. record { durable = refl; other = refl };
    }))
  where
    by : (f : StoreFault) → IsRenewFault account tree f → IsRefusal f answer → IsStandIn answer
    by faults.Failed only is = inl is
    by (faults.Damaged name) only is = ⊎_elim (λ d. inr (name, d)) inl is
    by faults.NoMemory only is = inl is
    by (faults.TreeLost host chip) only is = absurd only

    stands : IsStandIn answer
    stands = by fault only is
