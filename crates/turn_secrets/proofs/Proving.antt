-- The rows of a password, from what its block says of the secret.
use Rattle.std.proofs.Common.{◌≡◌, ◌≢◌, ℕ, ◌<◌, List, [], None, Some, Err, IsOk, refl, sym, ap, ◌∙◌, subst, inl, length, is_some, true≢false, arith}
use Rattle.std.specs.Prelude.{slice_get, option_map}
use Rattle.account_machine.specs.declared.answer.Answer.TheVariants as answers
use Rattle.account_machine.specs.declared.factor.Factor.{Factor}
use Rattle.account_machine.specs.declared.request.Request.TheVariants.{Authenticate}
use Rattle.account_machine.specs.declared.request.Turn.{Turn}
use Rattle.account_machine.specs.declared.request.Turn.TheVariants.{Act}
use Rattle.account_machine.specs.declared.session.Token.{Token}
use Rattle.account_machine.specs.declared.user.User.{User}
use Rattle.account_machine.specs.Effect.{proved, proved_end}
use Rattle.account_machine.specs.Outline.{session_at}
use Rattle.account_machine.specs.Sessions.{place_of, changed}
use Rattle.account_machine.specs.Step.{Row, Given, by_row, unsettles, stands_in}
use Rattle.auth_session.specs.Table.{sessions_in, edit_at, proved_kept}
use Rattle.auth_session.specs.declared.table.Kept.{Kept}
use Rattle.auth_session.proofs.TableLemmas.{changed-edit_at}
use Rattle.home_edits.specs.Edits.{Starts}
use Rattle.home_edits.specs.Reseals.{Reseals}
use Rattle.pw_types.specs.declared.era.Era.{Era}
use Rattle.random_values.specs.Stretches.{Place}
use Rattle.scrypt_kdf.specs.Derive.{derive}
use Rattle.share_api.specs.Contents.{Bytes, Contents, settled}
use Rattle.share_api.specs.Folds.{Fold, Throughout}
use Rattle.share_api.specs.Seen.{ShareSeen, HasFailed}
use Rattle.share_api.specs.Steps.{Does, DoesAmong}
use Rattle.share_api.proofs.FoldLaws.{throughout_end, throughout_weaker, fold_among, throughout_among}
use Rattle.stored_home.specs.Coherent.{AreFiles}
use Rattle.stored_home.specs.Holds.{Keys, HoldsUnder}
use Rattle.stored_home.specs.Loaded.{IsKept}
use Rattle.stored_home.specs.declared.fault.StoreFault.{StoreFault}
use Rattle.stored_home.specs.declared.fault.StoreFault.TheVariants as faults
use Rattle.stored_home.specs.declared.stored.Stored.{Stored}
use Rattle.stored_home.proofs.MapLemmas.{from_some}
use Rattle.user_state.specs.Fits.{Fits, IsSettled, IsProved, is_lost, tally_in}
use Rattle.user_state.specs.Turns.{IsGiven, Premises, HoldsAround}
use Rattle.user_state.specs.declared.state.Doubt.TheVariants.{Editions}
use Rattle.user_state.specs.declared.state.UserState.{UserState}
use Rattle.turn_rows.specs.Due.{IsReady, IsDue}
use Rattle.turn_rows.proofs.Kept.{all_edit}
use Rattle.turn_rows.proofs.Quiet.{quiet_given, row_by, settled_now, as_user, stands_settled}
use Rattle.turn_secrets.specs.Binding.{Binds}
use Rattle.turn_secrets.specs.Checked.{IsRight, IsWrong}
use Rattle.turn_secrets.specs.Opening.{wrap_key, HasTag, GivesMain, HoldsPassword}
use Rattle.turn_secrets.proofs.Loading.{held_password}
use Rattle.turn_secrets.proofs.Tally.{same_tally}
use Rattle.turn_secrets.proofs.Tried.{kept_at, session_there, wrong_effect, right_effect}
use Rattle.turn_secrets.proofs.WrongPassword.{only_password, right_tag, main_is}

-- the user once a password was right
abbrev pub proved_user : Token → User → User
proved_user token user = record user { sessions = changed token (proved user.last) user.sessions }

-- the state once a password was right: the session keeps the main key
abbrev pub proved_state : UserState → Stored → Place → ℕ → Bytes → UserState
proved_state before stored generator at main = record before {
  stored = stored;
  generator = generator;
  sessions = record before.sessions { kept = edit_at (proved_kept main before.last) at before.sessions.kept };
}

-- the state once the put of a bound block failed
abbrev pub doubted_state : UserState → Place → UserState
doubted_state before generator = record before { doubt = Some Editions; generator = generator }

module _ (before : UserState) (ready : IsReady before) (token : Token) (label secret account : Bytes) (at : ℕ)
    (place : at ≡ place_of token (sessions_in before.sessions.kept)) (inside : at < length before.sessions.kept)
    (due : IsDue before (Act (Authenticate account token label secret))) where
  abbrev turn : Turn
  turn = Act (Authenticate account token label secret)

  -- the session that the token names
  known : (k : Kept) × (slice_get before.sessions.kept at ≡ Some k)
  known = kept_at before.sessions.kept at inside

  user_session : (contents : Contents) (user : User) (keys : Keys) → Fits before contents user keys
      → session_at user.sessions token ≡ Some known.0.session
  user_session contents user keys f = subst (λ l. session_at l token ≡ Some known.0.session) f.sessions
      (session_there before.sessions.kept token at known.0 place known.1)

  -- a wrong password
  pub wrong_given : IsWrong before.stored label secret → (share : ShareSeen)
      → IsGiven share share before before (Act (Authenticate account token label secret)) answers.Wrong
  wrong_given w share =
      quiet_given share before before turn answers.Wrong (λ k. let z : ◌≡◌ {A = ℕ} 0 1 = cc in omega (arith, z))
      (record { account = refl; cost = refl; lost = refl })
      (λ seen contents user keys p.
      let held = held_password before ready label w.loads contents user keys p.fits p.holds in
      let apart : secret ≢ held.0.secret = λ same. w.differs
      (subst (λ (a : Bytes). HasTag (wrap_key secret w.loads.row) a label w.loads.block) (sym held.1.holds.account_is)
      (right_tag (is_lost before) contents before.account user.durable keys w.loads.stash label w.loads.block held.0
      w.loads.row held.1 secret same)) in
      record {
        next = user;
        given = by_row (row_by share.era user turn [] answers.Wrong user
            (as_user before ready contents user keys turn None p.fits p.holds due)
            (wrong_effect share.era user token label secret known.0.session held.0
            (user_session contents user keys p.fits) held.1.factor_is held.1.is_password apart));
        fits = p.fits;
        durable = refl;
        other = refl;
      })

  module _ (key main : Bytes) (r : IsRight before.stored label secret key main) where
    module _ (seen : List Contents) (contents : Contents) (user : User) (keys : Keys)
        (p : Premises seen contents before (Some secret) user keys) where
      held : (factor : Factor)
          × HoldsPassword (is_lost before) contents before.account user.durable keys r.loads.stash label r.loads.block
          factor r.loads.row
      held = held_password before ready label r.loads contents user keys p.fits p.holds

      gives_main : GivesMain (wrap_key secret r.loads.row) before.account label r.loads.block main
      gives_main = subst (λ (a : Bytes). GivesMain (wrap_key secret r.loads.row) a label r.loads.block main)
          held.1.holds.account_is r.gives

      -- the secret is the factor's
      same_secret : secret ≡ held.0.secret
      same_secret = only_password (is_lost before) contents before.account user.durable keys r.loads.stash label
          r.loads.block held.0 r.loads.row held.1 seen user.other secret p.among p.clean gives_main.tag

      -- and the main key is the home's
      same_main : main ≡ keys.main
      same_main = main_is (is_lost before) contents before.account user.durable keys r.loads.stash label r.loads.block
          held.0 r.loads.row held.1 main
          (subst (λ (s : Bytes). GivesMain (wrap_key s r.loads.row) before.account label r.loads.block main) same_secret
          gives_main)

      is_settled : IsSettled before contents user
      is_settled = settled_now before ready contents user keys p.fits

      -- sealing the block anew may begin
      starts : Starts (is_lost before) before.account before.stored (Reseals before.account label key main) contents
          keys
          user.durable user.durable
      starts = record {
        holds = p.holds;
        kept = is_settled.kept;
        asked = record {
          factor = held.0;
          held = held.1.factor_is;
          is_password = held.1.is_password;
          main_is = sym same_main;
          key_is = λ row read. r.key_is
              ∙ (λ i. derive (same_secret i) (from_some r.loads.row row (sym held.1.row_is ∙ read) i).salt
              (from_some r.loads.row row (sym held.1.row_is ∙ read) i).cost);
          after_is = refl;
        };
      }

      -- the row's answer and the user after it
      proved_row : (era : Era) → Row era user turn (answers.OkPassword (proved_end user.last known.0.session))
          (proved_user token user)
      proved_row era = row_by era user turn [] (answers.OkPassword (proved_end user.last known.0.session))
          (proved_user token user) (as_user before ready contents user keys turn None p.fits p.holds due)
          (right_effect era user token label secret known.0.session held.0 (user_session contents user keys p.fits)
          held.1.factor_is held.1.is_password same_secret)

    module _ (old new : ShareSeen) (same_lost : is_some old.lost ≡ is_lost before) (stored : Stored)
        (ok failed : Type 0)
        (b : Binds old new before.account before.stored stored label key main ok failed) where
      module _ (seen : List Contents) (contents : Contents) (user : User) (keys : Keys)
          (p : Premises seen contents before (Some secret) user keys) where
        begun : Starts (is_some old.lost) before.account before.stored (Reseals before.account label key main) contents
            keys user.durable user.durable
        begun = subst (λ lost. Starts lost before.account before.stored (Reseals before.account label key main) contents
            keys user.durable user.durable) (sym same_lost) (starts seen contents user keys p)

        abbrev IsHeld : Contents → Type 0
        IsHeld c = HoldsUnder (is_lost before) c before.account user.durable keys

        -- what is held stays throughout
        stays : Throughout (Does old.era) IsHeld contents b.steps
        stays = subst (λ lost. Throughout (Does old.era) (λ c. HoldsUnder lost c before.account user.durable keys)
            contents
            b.steps) same_lost (b.throughout contents keys user.durable begun)

        around : (Allowed : User → Type 0) → Throughout (DoesAmong old.era seen)
            (HoldsAround (is_lost before) before.account user.durable Allowed) contents b.steps
        around Allowed = throughout_among old.era seen
            (HoldsAround (is_lost before) before.account user.durable Allowed) contents b.steps
            (throughout_weaker (Does old.era) IsHeld (HoldsAround (is_lost before) before.account user.durable Allowed)
            contents b.steps (λ c h. inl (keys, h)) stays)

        -- and after the last step
        held_after : (after : Contents) → Fold (DoesAmong old.era seen) contents b.steps after → IsHeld after
        held_after after fold = throughout_end (Does old.era) IsHeld contents after b.steps stays
            (fold_among old.era seen contents after b.steps fold)

        kept_after : ok → (after : Contents) → Fold (DoesAmong old.era seen) contents b.steps after
            → IsKept (is_lost before) after before.account stored
        kept_after o after fold = subst (λ lost. IsKept lost after before.account stored) same_lost
            (b.loaded o contents keys user.durable begun after (fold_among old.era seen contents after b.steps fold))

      -- a right password, with a block that is bound
      pub proved_given : ok → (failed → ⊥) → stored.lost ≡ before.stored.lost → AreFiles before.account stored
          → (generator : Place) (ends : ℕ)
          → option_map (λ (k : Kept). proved_end before.last k.session) (slice_get before.sessions.kept at) ≡ Some ends
          → IsGiven old new before (proved_state before stored generator at main)
          (Act (Authenticate account token label secret)) (answers.OkPassword ends)
      proved_given o none keeps_lost files generator ends read = record {
        steps = b.steps;
        runs = b.runs;
        fault = λ e. absurd (let z : ◌≡◌ {A = ℕ} 0 1 = cc in omega (arith, z));
        keeps = record { account = refl; cost = refl; lost = keeps_lost };
        right = λ seen contents user keys p. record {
          throughout = around seen contents user keys p (Given old.era user turn (answers.OkPassword ends));
          leads = λ after fold.
              let end : proved_end user.last known.0.session ≡ ends =
              ap (λ n. proved_end n known.0.session) (sym p.fits.last)
              ∙ from_some (proved_end before.last known.0.session) ends
              (ap (option_map (λ (k : Kept). proved_end before.last k.session)) (sym known.1) ∙ read) in
              record {
                next = proved_user token user;
                keys = keys;
                allowed = by_row (subst (λ n. Row old.era user turn (answers.OkPassword n) (proved_user token user)) end
                    (proved_row seen contents user keys p old.era));
                fits = record {
                  sessions = ap (λ q. sessions_in (edit_at (proved_kept main before.last) q before.sessions.kept)) place
                      ∙ changed-edit_at token (proved_kept main before.last) (proved before.last) (λ k. refl)
                      before.sessions.kept
                      ∙ (λ i. changed token (proved (p.fits.last i)) (p.fits.sessions i));
                  next_session = p.fits.next_session;
                  mounted = p.fits.mounted;
                  last = p.fits.last;
                  stands = stands_settled before ready (proved_state before stored generator at main) after
                      (proved_user token user) refl
                      (record {
                        none = (is_settled seen contents user keys p).none;
                        kept = subst (λ lost. IsKept lost after before.account stored) (ap is_some (sym keeps_lost))
                            (kept_after seen contents user keys p o after fold);
                        files = files;
                      });
                  has_keys = record {
                    proved = all_edit (IsProved keys.main) (proved_kept main before.last)
                        (λ k h. (refl, same_main seen contents user keys p)) before.sessions.kept at
                        p.fits.has_keys.proved;
                    mount = p.fits.has_keys.mount;
                  };
                };
                holds = inl (subst (λ lost. HoldsUnder lost after before.account user.durable keys)
                    (ap is_some (sym keeps_lost)) (held_after seen contents user keys p after fold));
                idle = λ _. record { durable = refl; other = refl };
              };
        };
      }

      -- a right password whose block couldn't be bound
      pub doubted_given : failed → (generator : Place)
          → IsGiven old new before (doubted_state before generator) (Act (Authenticate account token label secret))
          answers.StorageFault
      doubted_given f generator = record {
        steps = b.steps;
        runs = b.runs;
        fault = λ e. b.fails f;
        keeps = record { account = refl; cost = refl; lost = refl };
        right = λ seen contents user keys p. record {
          throughout = around seen contents user keys p (Given old.era user turn answers.StorageFault);
          leads = λ after fold. record {
            next = record user { other = Some user.durable };
            keys = keys;
            allowed = unsettles (record {
              may = tt;
              fault = refl;
              due = answers.OkPassword (proved_end user.last known.0.session);
              done = proved_user token user;
              row = proved_row seen contents user keys p old.era;
              after_is = refl;
            });
            fits = record {
              sessions = p.fits.sessions;
              next_session = p.fits.next_session;
              mounted = p.fits.mounted;
              last = p.fits.last;
              stands = record {
                other = user.durable;
                other_is = refl;
                tells = (
                  ap tally_in r.loads.stash_is
                      ∙ same_tally (is_lost before) (settled contents) before.account user.durable keys r.loads.stash
                      (held seen contents user keys p).1.holds,
                  inl refl,
                );
              };
              has_keys = record { proved = p.fits.has_keys.proved; mount = p.fits.has_keys.mount };
            };
            holds = inl (held_after seen contents user keys p after fold);
            idle = λ none. absurd (subst HasFailed none (b.fails f));
          };
        };
      }

-- the session's end, by its token
pub proved_end_there : (before : UserState) (token : Token) (at : ℕ)
    → at ≡ place_of token (sessions_in before.sessions.kept)
    → at < length before.sessions.kept → (ends : ℕ)
    → option_map (λ (k : Kept). proved_end before.last k.session) (slice_get before.sessions.kept at) ≡ Some ends
    → option_map (proved_end before.last) (session_at (sessions_in before.sessions.kept) token) ≡ Some ends
proved_end_there before token at place inside ends read =
    let k = kept_at before.sessions.kept at inside in
    ap (option_map (proved_end before.last)) (session_there before.sessions.kept token at k.0 place k.1)
    ∙ ap (option_map (λ (x : Kept). proved_end before.last x.session)) (sym k.1)
    ∙ read

-- a failed step is no Ok
pub failed_not_ok : IsOk {T = Unit {0}} {E = StoreFault} (Err faults.Failed) → ⊥
failed_not_ok o = true≢false (sym o)

-- without memory the generator alone may have gone on
pub starved_later : (before : UserState) → IsReady before → (generator : Place) (account : Bytes) (token : Token)
    (label secret : Bytes) (share : ShareSeen)
    → IsGiven share share before (record before { generator = generator })
    (Act (Authenticate account token label secret)) answers.NoMemory
starved_later before ready generator account token label secret share =
    quiet_given share before (record before { generator = generator }) (Act (Authenticate account token label secret))
    answers.NoMemory (λ k. let z : ◌≡◌ {A = ℕ} 0 1 = cc in omega (arith, z))
    (record { account = refl; cost = refl; lost = refl })
    (λ seen contents user keys p.
    let s = settled_now before ready contents user keys p.fits in
    record {
      next = user;
      given = stands_in (record { may = tt; answer_is = inl refl; after_is = refl });
      fits = record {
        sessions = p.fits.sessions;
        next_session = p.fits.next_session;
        mounted = p.fits.mounted;
        last = p.fits.last;
        stands = stands_settled before ready (record before { generator = generator }) contents user refl
            (record { none = s.none; kept = s.kept; files = s.files });
        has_keys = record { proved = p.fits.has_keys.proved; mount = p.fits.has_keys.mount };
      };
      durable = refl;
      other = refl;
    })
