-- The rows that make no device step.
use Rattle.std.proofs.Common.{◌≡◌, ◌≢◌, ℕ, ◌+◌, ◌<◌, List, [], Option, None, Some, refl, sym, ap, ◌∙◌, subst, length, is_some, false, arith}
use Rattle.std.specs.Prelude.{slice_get, option_map, option_and_then}
use Rattle.std.specs.List.{remove}
use Rattle.std.specs.FinMap.{get, keys}
use Rattle.name_map.proofs.MappedLemmas.{get-map_values}
use Rattle.account_machine.specs.declared.answer.Answer.{Answer}
use Rattle.account_machine.specs.declared.answer.Answer.TheVariants as answers
use Rattle.account_machine.specs.declared.factor.Factor.{Factor}
use Rattle.account_machine.specs.declared.factor.Mark.{Mark}
use Rattle.account_machine.specs.declared.request.Request.TheVariants.{StartSession, ExtendSession, EndSession, Unmount, ListFiles}
use Rattle.account_machine.specs.declared.request.Turn.{Turn}
use Rattle.account_machine.specs.declared.request.Turn.TheVariants.{Look, Act}
use Rattle.account_machine.specs.declared.session.Intent.{Intent}
use Rattle.account_machine.specs.declared.session.Session.{Session}
use Rattle.account_machine.specs.declared.session.Token.{Token}
use Rattle.account_machine.specs.declared.user.User.{User}
use Rattle.account_machine.specs.Answers.{answer_of, refused_in}
use Rattle.account_machine.specs.declared.answer.Refused.{Refused}
use Rattle.account_machine.specs.declared.answer.Refused.TheVariants.{Exists, NoHome, SessionsSpent, UnknownSession, Expired, WrongIntent, NotAuthorised, UnknownFactor, FactorExists, PasswordFirst, LastPassword, TooManyFactors, BadSecret, EditionsSpent, AlreadyMounted, NotMounted, UnknownFile, TooManyFiles, TooLarge}
use Rattle.account_machine.specs.Effect.{gives, turn_effect, extended_end, edition_of}
use Rattle.account_machine.specs.Outline.{Bytes, session_at}
use Rattle.account_machine.specs.Sessions.{place_of, changed, ended, with_session}
use Rattle.account_machine.specs.Step.{by_row}
use Rattle.account_machine.specs.User.{mark_of, outline_of}
use Rattle.auth_session.specs.Table.{sessions_in, new_session, with_kept, edit_at, extended_kept}
use Rattle.auth_session.specs.declared.table.Kept.{Kept}
use Rattle.auth_session.proofs.TableLemmas.{with_session-kept, changed-edit_at, ended-remove}
use Rattle.factor_files.specs.declared.factor.FactorRecord.{FactorRecord}
use Rattle.random_values.specs.Stretches.{Place}
use Rattle.share_api.specs.Contents.{Contents}
use Rattle.share_api.specs.Seen.{ShareSeen}
use Rattle.stored_home.proofs.MapLemmas.{not_None}
use Rattle.stored_home.specs.Holds.{Keys, HoldsUnder}
use Rattle.user_state.specs.Fits.{Fits, IsSettled, IsProved, HasKeys, is_lost}
use Rattle.user_state.specs.Outlines.{mark_in, outline_in}
use Rattle.user_state.specs.Turns.{IsGiven, KeepsAccount}
use Rattle.user_state.specs.declared.state.UserState.{UserState}
use Rattle.user_state.proofs.OutlineLemmas.{same_outline}
use Rattle.turn_rows.specs.Due.{IsReady, IsDue}
use Rattle.turn_rows.proofs.Quiet.{quiet_given, row_by, settled_now, as_user, stands_settled}
use Rattle.turn_rows.proofs.Kept.{all_with_kept, all_edit, all_remove, at_its_place}

-- the state after is the next user's, settled over the same contents
pub record FitsNext (after : UserState) (contents : Contents) (next : User) (keys : Keys) : Type 0 where
  pub sessions : sessions_in after.sessions.kept ≡ next.sessions
  pub next_session : after.sessions.next ≡ next.next_session
  pub mounted : is_some after.vault ≡ next.mounted
  pub last : after.last ≡ next.last
  pub settled : IsSettled after contents next
  pub has_keys : HasKeys after keys

-- the end of the token's session, once it is moved
pub moved_end : (before : UserState) (at seconds ends : ℕ) (token : Token) → at ≡ place_of token (sessions_in before.sessions.kept)
    → option_map (λ (k : Kept). extended_end seconds before.last k.session) (slice_get before.sessions.kept at)
    ≡ Some ends
    → option_map (extended_end seconds before.last) (session_at (sessions_in before.sessions.kept) token) ≡ Some ends
moved_end before at seconds ends token place read =
    ap (option_map (extended_end seconds before.last)) (at_its_place token before.sessions.kept)
    ∙ mapped_twice (slice_get before.sessions.kept (place_of token (sessions_in before.sessions.kept)))
    ∙ ap (λ p. option_map (λ (k : Kept). extended_end seconds before.last k.session)
    (slice_get before.sessions.kept p)) (sym place)
    ∙ read
  where
    mapped_twice : (o : Option Kept)
        → option_map (extended_end seconds before.last) (option_map (λ (k : Kept). k.session) o)
        ≡ option_map (λ (k : Kept). extended_end seconds before.last k.session) o
    mapped_twice None = refl
    mapped_twice (Some k) = refl

module _ (before : UserState) (ready : IsReady before) (share : ShareSeen) where
  -- a row without steps, from its effect on the user and what it keeps
  row_given : (after : UserState) (turn : Turn) (tail : Bytes) (answer : Answer) (next : User → User)
      → answer ≢ answers.StorageFault → KeepsAccount before after → after.doubt ≡ before.doubt → IsDue before turn
      → ((user : User) → (next user).durable ≡ user.durable) → ((user : User) → (next user).other ≡ user.other)
      → ((contents : Contents) (user : User) (keys : Keys) → Fits before contents user keys
      → HoldsUnder (is_lost before) contents before.account user.durable keys
      → (turn_effect share.era tail user turn ≡ gives answer (next user)) × FitsNext after contents (next user) keys)
      → IsGiven share share before after turn answer
  row_given after turn tail answer next calm keeps doubt due durable other row =
      quiet_given share before after turn answer calm keeps
      (λ seen contents user keys p. let r = row contents user keys p.fits p.holds in record {
        next = next user;
        given = by_row (row_by share.era user turn tail answer (next user)
            (as_user before ready contents user keys turn None p.fits p.holds due) r.0);
        fits = record {
          sessions = r.1.sessions;
          next_session = r.1.next_session;
          mounted = r.1.mounted;
          last = r.1.last;
          stands = stands_settled before ready after contents (next user) doubt r.1.settled;
          has_keys = r.1.has_keys;
        };
        durable = durable user;
        other = other user;
      })

  -- the vault is closed
  pub unmount_given : (account : Bytes) → IsDue before (Act (Unmount account))
      → IsGiven share share before (record before { vault = None }) (Act (Unmount account)) answers.Ok
  unmount_given account due =
      row_given (record before { vault = None }) (Act (Unmount account)) [] answers.Ok
      (λ user. record user { mounted = false })
      (λ k. let z : ◌≡◌ {A = ℕ} 0 1 = cc in omega (arith, z))
      (record { account = refl; cost = refl; lost = refl }) refl due
      (λ user. refl) (λ user. refl)
      (λ contents user keys f holds. let s = settled_now before ready contents user keys f in (
        refl,
        record {
          sessions = f.sessions;
          next_session = f.next_session;
          mounted = refl;
          last = f.last;
          settled = record { none = s.none; kept = s.kept; files = s.files };
          has_keys = record { proved = f.has_keys.proved; mount = tt };
        },
      ))

  -- the files are listed
  pub list_given : (account : Bytes) → IsDue before (Act (ListFiles account))
      → IsGiven share share before before (Act (ListFiles account)) (answers.OkFiles (keys before.stored.files))
  list_given account due =
      row_given before (Act (ListFiles account)) [] (answers.OkFiles (keys before.stored.files)) (λ user. user)
      (λ k. let z : ◌≡◌ {A = ℕ} 0 1 = cc in omega (arith, z))
      (record { account = refl; cost = refl; lost = refl }) refl due
      (λ user. refl) (λ user. refl)
      (λ contents user ks f holds.
      let same : outline_in before
      ≡ outline_of user = same_outline before contents user ks ready.plain f ready.settled holds in (
        λ i. gives (answers.OkFiles (sym same i).home.files) user,
        record {
          sessions = f.sessions;
          next_session = f.next_session;
          mounted = f.mounted;
          last = f.last;
          settled = settled_now before ready contents user ks f;
          has_keys = f.has_keys;
        },
      ))

  -- a session is started
  pub start_given : (generator : Place) (tail : Bytes) (intent : Intent) (account : Bytes)
      → IsDue before (Act (StartSession account intent))
      → IsGiven share share before (record before {
        generator = generator;
        sessions = record {
          kept = with_kept before.sessions.kept
              (record { session = new_session before.sessions.next tail intent before.last; main = None });
          next = before.sessions.next + 1;
        };
      }) (Act (StartSession account intent))
      (answers.OkSession (before.last + 300) (record { number = before.sessions.next; tail = tail }))
  start_given generator tail intent account due =
      row_given _ (Act (StartSession account intent)) tail _
      (λ user. record user {
        next_session = user.next_session + 1;
        sessions = with_session user.sessions
            (record {
              number = user.next_session;
              tail = tail;
              intent = intent;
              ends = user.last + 300;
              authenticated = false;
            });
      })
      (λ k. let z : ◌≡◌ {A = ℕ} 0 1 = cc in omega (arith, z))
      (record { account = refl; cost = refl; lost = refl }) refl due
      (λ user. refl) (λ user. refl)
      (λ contents user keys f holds. let s = settled_now before ready contents user keys f in (
        λ i. gives (answers.OkSession (sym f.last i + 300) (record { number = sym f.next_session i; tail = tail }))
            (record user {
              next_session = user.next_session + 1;
              sessions = with_session user.sessions
                  (record {
                    number = user.next_session;
                    tail = tail;
                    intent = intent;
                    ends = user.last + 300;
                    authenticated = false;
                  });
            }),
        record {
          sessions = with_session-kept before.sessions.kept
              (record { session = new_session before.sessions.next tail intent before.last; main = None })
              ∙ (λ i. with_session (f.sessions i) (new_session (f.next_session i) tail intent (f.last i)));
          next_session = ap (λ n. n + 1) f.next_session;
          mounted = f.mounted;
          last = f.last;
          settled = record { none = s.none; kept = s.kept; files = s.files };
          has_keys = record {
            proved = all_with_kept (IsProved keys.main) before.sessions.kept
                (record {
                  session = new_session before.sessions.next tail intent before.last;
                  main = None;
                }) f.has_keys.proved (refl, tt);
            mount = f.has_keys.mount;
          };
        },
      ))

  -- a session is dropped
  pub end_given : (at : ℕ) (token : Token) (account : Bytes) → at ≡ place_of token (sessions_in before.sessions.kept)
      → at < length before.sessions.kept → IsDue before (Act (EndSession account token))
      → IsGiven share share before
      (record before { sessions = record before.sessions { kept = remove before.sessions.kept at } })
      (Act (EndSession account token)) answers.Ok
  end_given at token account place inside due =
      row_given _ (Act (EndSession account token)) [] answers.Ok
      (λ user. record user { sessions = ended token user.sessions })
      (λ k. let z : ◌≡◌ {A = ℕ} 0 1 = cc in omega (arith, z))
      (record { account = refl; cost = refl; lost = refl }) refl due
      (λ user. refl) (λ user. refl)
      (λ contents user keys f holds. let s = settled_now before ready contents user keys f in (
        refl,
        record {
          sessions = ap (λ p. sessions_in (remove before.sessions.kept p)) place
              ∙ ended-remove token before.sessions.kept (subst (λ p. p < length before.sessions.kept) place inside)
              ∙ ap (ended token) f.sessions;
          next_session = f.next_session;
          mounted = f.mounted;
          last = f.last;
          settled = record { none = s.none; kept = s.kept; files = s.files };
          has_keys = record {
            proved = all_remove (IsProved keys.main) before.sessions.kept at f.has_keys.proved;
            mount = f.has_keys.mount;
          };
        },
      ))

  -- the effect of a session that is found
  extended_found : (user : User) (token : Token) (seconds ends : ℕ) (o : Option Session)
      → option_map (extended_end seconds user.last) o ≡ Some ends
      → option_and_then (λ session. gives (answers.OkEnds (extended_end seconds user.last session))
      (record user {
        sessions = changed token
            (λ s. record s { ends = extended_end seconds user.last s }) user.sessions;
      })) o
      ≡ gives (answers.OkEnds ends)
      (record user {
        sessions = changed token
            (λ s. record s { ends = extended_end seconds user.last s }) user.sessions;
      })
  extended_found user token seconds ends None e = absurd (let z : ◌≡◌ {A = ℕ} 0 1 = cc in omega (arith, z))
  extended_found user token seconds ends (Some session) e =
      ap (option_and_then (λ (n : ℕ). gives (answers.OkEnds n)
      (record user {
        sessions = changed token
            (λ s. record s { ends = extended_end seconds user.last s }) user.sessions;
      }))) e

  -- a session's end is moved
  pub extend_given : (at seconds ends : ℕ) (token : Token) (account : Bytes)
      → at ≡ place_of token (sessions_in before.sessions.kept)
      → option_map (λ (k : Kept). extended_end seconds before.last k.session) (slice_get before.sessions.kept at)
      ≡ Some ends
      → IsDue before (Act (ExtendSession account token seconds))
      → IsGiven share share before
      (record before {
        sessions = record before.sessions {
          kept = edit_at
              (extended_kept seconds before.last) at before.sessions.kept;
        };
      })
      (Act (ExtendSession account token seconds)) (answers.OkEnds ends)
  extend_given at seconds ends token account place read due =
      row_given _ (Act (ExtendSession account token seconds)) [] (answers.OkEnds ends)
      (λ user. record user {
        sessions = changed token
            (λ s. record s { ends = extended_end seconds user.last s }) user.sessions;
      })
      (λ k. let z : ◌≡◌ {A = ℕ} 0 1 = cc in omega (arith, z))
      (record { account = refl; cost = refl; lost = refl }) refl due
      (λ user. refl) (λ user. refl)
      (λ contents user keys f holds. let s = settled_now before ready contents user keys f in (
        extended_found user token seconds ends (session_at user.sessions token)
            (subst (λ (pair : List Session × ℕ). option_map (extended_end seconds pair.1) (session_at pair.0 token)
            ≡ Some ends)
            (λ i. (f.sessions i, f.last i)) (moved_end before at seconds ends token place read)),
        record {
          sessions = ap (λ p. sessions_in (edit_at (extended_kept seconds before.last) p before.sessions.kept)) place
              ∙ changed-edit_at token (extended_kept seconds before.last)
              (λ x. record x { ends = extended_end seconds before.last x }) (λ k. refl) before.sessions.kept
              ∙ (λ i. changed token (λ x. record x { ends = extended_end seconds (f.last i) x }) (f.sessions i));
          next_session = f.next_session;
          mounted = f.mounted;
          last = f.last;
          settled = record { none = s.none; kept = s.kept; files = s.files };
          has_keys = record {
            proved = all_edit (IsProved keys.main) (extended_kept seconds before.last)
                (λ k p. (p.0, p.1)) before.sessions.kept at f.has_keys.proved;
            mount = f.has_keys.mount;
          };
        },
      ))

  -- a label's edition is the state's
  edition_same : (contents : Contents) (user : User) (keys : Keys) (label : Bytes) → Fits before contents user keys
      → HoldsUnder (is_lost before) contents before.account user.durable keys
      → edition_of user label ≡ option_map (λ (row : FactorRecord). row.edition) (get before.stored.factors label)
  edition_same contents user keys label f holds =
      let same : outline_in before
      ≡ outline_of user = same_outline before contents user keys ready.plain f ready.settled holds in
      let marks : option_map mark_of (get user.durable.factors label)
      ≡ option_map mark_in (get before.stored.factors label) =
      sym (get-map_values mark_of user.durable.factors label)
      ∙ (λ i. get (sym same i).home.marks label)
      ∙ get-map_values mark_in before.stored.factors label in
      sym (of_factor (get user.durable.factors label)) ∙ ap (option_map (λ (m : Mark). m.edition)) marks
      ∙ of_row (get before.stored.factors label)
    where
      of_factor : (o : Option Factor) → option_map (λ (m : Mark). m.edition) (option_map mark_of o)
          ≡ option_map (λ (x : Factor). x.edition) o
      of_factor None = refl
      of_factor (Some x) = refl

      of_row : (o : Option FactorRecord) → option_map (λ (m : Mark). m.edition) (option_map mark_in o)
          ≡ option_map (λ (x : FactorRecord). x.edition) o
      of_row None = refl
      of_row (Some x) = refl

  -- a label is looked at
  pub look_given : (generator : Place) (label : Bytes) (edition : Option ℕ)
      → option_map (λ (row : FactorRecord). row.edition) (get before.stored.factors label) ≡ edition
      → IsGiven share share before (record before { generator = generator }) (Look label) (answers.Seen edition)
  look_given generator label edition read =
      row_given (record before { generator = generator }) (Look label) [] (answers.Seen edition) (λ user. user)
      (λ k. let z : ◌≡◌ {A = ℕ} 0 1 = cc in omega (arith, z))
      (record { account = refl; cost = refl; lost = refl }) refl refl
      (λ user. refl) (λ user. refl)
      (λ contents user keys f holds. let s = settled_now before ready contents user keys f in (
        ap (λ e. gives (answers.Seen e) user) (edition_same contents user keys label f holds ∙ read),
        record {
          sessions = f.sessions;
          next_session = f.next_session;
          mounted = f.mounted;
          last = f.last;
          settled = record { none = s.none; kept = s.kept; files = s.files };
          has_keys = record { proved = f.has_keys.proved; mount = f.has_keys.mount };
        },
      ))

-- a plain refusal isn't a storage fault
pub no_fault : (refused : Refused) → answer_of refused ≢ answers.StorageFault
no_fault refused e =
    let z : ◌≡◌ {A = Option Refused} (Some refused) None = sym (said refused) ∙ ap refused_in e in
    not_None refused z
  where
    said : (r : Refused) → refused_in (answer_of r) ≡ Some r
    said Exists = refl
    said NoHome = refl
    said SessionsSpent = refl
    said UnknownSession = refl
    said Expired = refl
    said WrongIntent = refl
    said NotAuthorised = refl
    said UnknownFactor = refl
    said FactorExists = refl
    said PasswordFirst = refl
    said LastPassword = refl
    said TooManyFactors = refl
    said BadSecret = refl
    said EditionsSpent = refl
    said AlreadyMounted = refl
    said NotMounted = refl
    said UnknownFile = refl
    said TooManyFiles = refl
    said TooLarge = refl
