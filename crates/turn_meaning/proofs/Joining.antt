-- A turn as the composition takes it.
use Rattle.std.proofs.Common.{◌≡◌, ◌<◌, ℕ, zero, suc, Bool, List, [], ◌∷◌, Option, None, Some, refl, sym, ap, ◌∙◌, subst, ◌⊎◌, inl, inr, ⊎_elim}
use Rattle.std.specs.Prelude.{IsSomeAnd, Contains, slice_index_or}
use Rattle.std.proofs.lemmas.List.{length-map}
use Rattle.fault_count.specs.Causes.{HasCause}
use Rattle.pw_types.specs.declared.era.Era.{Era}
use Rattle.account_machine.specs.declared.user.Durable.{Durable}
use Rattle.account_machine.specs.declared.user.User.{User}
use Rattle.account_machine.specs.Step as machine
use Rattle.home_image.specs.Book as book
use Rattle.home_image.specs.Settled.{IsStateOf}
use Rattle.home_locks.specs.Meanings.{meaning_of}
use Rattle.home_locks.specs.Turns.{ActStands, made_of}
use Rattle.home_locks.specs.declared.account.Entry.{Entry}
use Rattle.share_api.specs.Contents.{Bytes, Contents}
use Rattle.share_api.specs.Folds.{Fold, Throughout}
use Rattle.share_api.specs.Seen.{ShareSeen, HasFailed}
use Rattle.share_api.specs.Steps.{DoesAmong}
use Rattle.share_api.specs.declared.step.Step.{Step}
use Rattle.share_api.proofs.FoldLaws.{throughout_weaker}
use Rattle.share_api.proofs.RunLaws.{none_made}
use Rattle.stored_home.specs.Clean.{IsClean, IsTurnSecret}
use Rattle.stored_home.specs.Holds.{Keys, Holds, HoldsUnder}
use Rattle.user_state.specs.Fits.{HoldsOne, HoldsOneUnder, is_lost}
use Rattle.user_state.specs.Turns.{HoldsAround, secret_of}
use Rattle.user_state.specs.declared.state.UserState.{UserState}
use Rattle.user_turn.specs.Acts.{IsAct, IsOneOf}
use Rattle.turn_meaning.specs.Moves.{MovesAccount}
use Rattle.turn_meaning.specs.Meanings.{user_rules, entry_of, Part, part_of, contents_of, DoesPart, IsCleanOf}
use Rattle.turn_meaning.specs.declared.taken.TurnTaken.{TurnTaken}

module _ (lost : Bool) (contents : Contents) (account : Bytes) (keys : Keys) where
  of_other : (user : User) (o : Option Durable) → user.other ≡ o
      → IsSomeAnd o (λ d. HoldsUnder lost contents account d keys)
      → (held : Durable) × IsOneOf user held × HoldsUnder lost contents account held keys
  of_other user None e h = absurd h
  of_other user (Some d) e h = (d, inr e, h)

  -- the durable part of the user that is held
  which : (user : User) → HoldsOneUnder lost contents account user keys
      → (held : Durable) × IsOneOf user held × HoldsUnder lost contents account held keys
  which user h = ⊎_elim (λ d. (user.durable, inl refl, d)) (λ d. of_other user user.other refl d) h

  some_one : (o : Option Durable) → IsSomeAnd o (λ d. HoldsUnder lost contents account d keys)
      → IsSomeAnd o (Holds lost contents account)
  some_one None h = h
  some_one (Some d) h = (keys, h)

  one_of : (user : User) → HoldsOneUnder lost contents account user keys → HoldsOne lost contents account user
  one_of user h = ⊎_elim (λ d. inl (keys, d)) (λ d. inr (some_one user.other d)) h

one_by : (lost : Bool) (contents : Contents) (account : Bytes) (user : User) (held : Durable) → IsOneOf user held
    → Holds lost contents account held → HoldsOne lost contents account user
one_by lost contents account user held w h =
    ⊎_elim (λ e. inl (subst (λ d. Holds lost contents account d) e h))
    (λ e. inr (subst (λ o. IsSomeAnd o (Holds lost contents account)) (sym e) h)) w

index_map : (xs : List Part) (k : ℕ) (x : Part)
    → slice_index_or (contents_of xs) k x.contents ≡ (slice_index_or xs k x).contents
index_map [] k x = refl
index_map (y ∷ ys) zero x = refl
index_map (y ∷ ys) (suc k) x = index_map ys k x

contains_map : (xs : List Part) (x : Part) → Contains xs x → Contains (contents_of xs) x.contents
contains_map xs x h = (
  h.0,
  subst (λ n. h.0 < n) (sym (length-map xs (λ (part : Part). part.contents))) h.1,
  index_map xs h.0 x
      ∙ ap (λ (part : Part). part.contents) h.2,
)

module _ (era : Era) (seen : List Part) where
  abbrev PartAmong : Part → Step → Part → Type 0
  PartAmong old step new = DoesPart era old step new × Contains seen new

  -- steps on parts leave the name and the mark, and lead on in the contents
  fold_parts : (old new : Part) (steps : List Step) → Fold PartAmong old steps new
      → (new.account ≡ old.account) × (new.lost ≡ old.lost)
      × Fold (DoesAmong era (contents_of seen)) old.contents steps new.contents
  fold_parts old new [] f = (
    ap (λ (part : Part). part.account) f,
    ap (λ (part : Part). part.lost) f,
    ap (λ (part : Part). part.contents) f,
  )
  fold_parts old new (step ∷ steps) f =
      let rest = fold_parts f.0 new steps f.2 in (
        rest.0
            ∙ f.1.0.account,
        rest.1
            ∙ f.1.0.lost,
        (f.0.contents, (f.1.0.does, contains_map seen f.0 f.1.1), rest.2),
      )

  throughout_parts : (P : Part → Type 0) (old : Part) (steps : List Step)
      → Throughout (DoesAmong era (contents_of seen)) (λ c. P (part_of old.account old.lost c)) old.contents steps
      → Throughout PartAmong P old steps
  throughout_parts P old [] h = h
  throughout_parts P old (step ∷ steps) h = (
    h.0,
    λ mid does.
        throughout_parts P mid steps
        (subst (λ (t : Bytes × Bool). Throughout (DoesAmong era (contents_of seen)) (λ c. P (part_of t.0 t.1 c))
        mid.contents steps) (λ i. (sym does.0.account i, sym does.0.lost i))
        (h.1 mid.contents (does.0.does, contains_map seen mid does.1))),
  )

module _ (old new : ShareSeen) (before after : UserState) (taken : TurnTaken)
    (act : IsAct old new before after (entry_of taken)) where
  abbrev own : List (ℕ × Step)
  own = act.runs.own

  module _ (client place : ℕ) where
    abbrev made : book.Made Step (Entry TurnTaken)
    made = made_of client taken place own

    abbrev Around : User → Part → Type 0
    Around user = book.HoldsAround (meaning_of (user_rules old.era)) user made.entry

    right : (seen : List Part) (part : Part) (user : User) → Contains seen part → IsCleanOf seen user taken.turn
        → IsStateOf (meaning_of (user_rules old.era)) before part user
        → book.Turns (meaning_of (user_rules old.era)) seen (IsStateOf (meaning_of (user_rules old.era)) after) made
        part user
    right seen part user has clean is =
        let keys = is.fits.keys in
        let named : before.account ≡ part.account = is.fits.account_is in
        let marked : is_lost before ≡ part.lost = is.fits.lost_is in
        let held : HoldsOneUnder (is_lost before) part.contents before.account user keys =
        subst (λ (t : Bytes × Bool). HoldsOneUnder t.1 part.contents t.0 user keys)
        (λ i. (sym named i, sym marked i)) is.fits.holds in
        let w = which (is_lost before) part.contents before.account keys user held in
        let t = act.right (contents_of seen) part.contents user w.0 keys (record {
          among = contains_map seen part has;
          clean = subst (IsClean (IsTurnSecret user.durable user.other (secret_of taken.turn))
              (Contains (contents_of seen))) (sym named) (clean part has);
          fits = is.fits.fits;
          which = w.1;
          holds = w.2;
        }) in
        let plain : Throughout (DoesAmong old.era (contents_of seen))
        (λ c. Around user (part_of before.account (is_lost before) c)) part.contents act.steps =
        throughout_weaker (DoesAmong old.era (contents_of seen))
        (HoldsAround (is_lost before) before.account w.0 (λ next. machine.Step old.era user (entry_of taken) next))
        (λ c. Around user (part_of before.account (is_lost before) c)) part.contents act.steps
        (λ c. ⊎_elim (λ h. inl (one_by (is_lost before) c before.account user w.0 w.1 h)) inr) t.throughout in
        record {
          throughout = subst (λ steps. Throughout (PartAmong old.era seen) (Around user) part steps)
              (sym act.runs.steps_are)
              (throughout_parts old.era seen (Around user) part act.steps
              (subst (λ (p : Bytes × Bool). Throughout (DoesAmong old.era (contents_of seen))
              (λ c. Around user (part_of p.0 p.1 c)) part.contents act.steps) (λ i. (named i, marked i)) plain));
          leads = λ end fold.
              let f = fold_parts old.era seen part end act.steps
              (subst (λ steps. Fold (PartAmong old.era seen) part steps end) act.runs.steps_are fold) in
              let l = t.leads end.contents f.2 in
              let same : before.account ≡ end.account = named ∙ sym f.0 in
              let lost_then : is_lost after ≡ end.lost =
              ap Rattle.std.proofs.Common.is_some act.keeps.lost ∙ marked ∙ sym f.1 in
              let holds : HoldsOneUnder end.lost end.contents end.account l.next l.keys =
              subst (λ (p : Bytes × Bool). HoldsOneUnder p.1 end.contents p.0 l.next l.keys)
              (λ i. (same i, lost_then i)) l.holds in
              let one = one_of end.lost end.contents end.account l.keys l.next holds in (
                l.next,
                record {
                  allowed = l.allowed;
                  holds = one;
                  idle = λ none. let s = l.idle (none_made (record old { spare = Rattle.std.specs.Prelude.◌+◌ new.spare (Rattle.std.specs.Prelude.length act.steps) }) new act.steps act.runs none) in
                      record { durable = s.durable; other = s.other };
                },
                record {
                  fits = record {
                    account_is = act.keeps.account ∙ same;
                    lost_is = lost_then;
                    keys = l.keys;
                    fits = l.fits;
                    holds = holds;
                  };
                  holds = one;
                },
              );
        }

  pub stands : ActStands (user_rules old.era) before after taken old new
  stands = record {
    own = own;
    steps = record {
      own_is = act.runs.own_is;
      place = act.runs.place;
      cause = subst (λ steps. HasCause old.faults new.faults (HasFailed steps)) (sym act.runs.steps_are) act.runs.cause;
    };
    moved = subst (λ steps. MovesAccount old.era before taken steps after) (sym act.runs.steps_are) (record {
      settled = act.settled;
      keeps = act.keeps;
      moves = act.moves;
    });
    right = λ client place seen part user has clean is. right client place seen part user has clean is;
  }
