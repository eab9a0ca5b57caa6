-- The row of a mount.
use Rattle.std.proofs.Common.{◌≡◌, ℕ, zero, suc, ◌<◌, List, [], ◌∷◌, Bool, true, false, not, Option, None, Some, Result, Ok, Err, refl, sym, ap, ◌∙◌, subst, inr, length, is_some, true≢false, arith}
use Rattle.std.specs.Prelude.{slice_get, option_and_then, IfSome, IsSome, is_none}
use Rattle.std.specs.Result.{result_ok}
use Rattle.std.specs.List.{AllByRecursion}
use Rattle.account_machine.specs.declared.answer.Answer.TheVariants as answers
use Rattle.account_machine.specs.declared.answer.Refused.{Refused}
use Rattle.account_machine.specs.declared.answer.Refused.TheVariants.{NoHome, UnknownSession, Expired, WrongIntent, NotAuthorised, AlreadyMounted}
use Rattle.account_machine.specs.declared.request.Request.TheVariants.{Mount}
use Rattle.account_machine.specs.declared.request.Turn.{Turn}
use Rattle.account_machine.specs.declared.request.Turn.TheVariants.{Act}
use Rattle.account_machine.specs.declared.session.Token.{Token}
use Rattle.account_machine.specs.Outline.{session_at}
use Rattle.account_machine.specs.Row.{first_refusal, is_expired, is_wrong_intent, is_not_authorised}
use Rattle.account_machine.specs.Sessions.{place_of}
use Rattle.account_machine.specs.Step.{by_row, stands_in, MayFail}
use Rattle.auth_session.specs.Table.{sessions_in}
use Rattle.auth_session.specs.declared.table.Kept.{Kept}
use Rattle.ct_bytes.specs.Reading.{or_fault}
use Rattle.home_edits.proofs.KeptLemmas.{held_by}
use Rattle.sealed_text.specs.declared.sealed.Sealed.{Sealed}
use Rattle.sealed_text.proofs.OpeningLemmas.{opened_by_tag}
use Rattle.secret_stash.specs.Faults.{told_record}
use Rattle.secret_stash.specs.Keys.{payload_extra, payload_or_fault, opened_payload, opened_payload_of}
use Rattle.secret_stash.specs.declared.fault.StashFault.{StashFault}
use Rattle.share_api.specs.Contents.{Bytes, settled}
use Rattle.share_api.specs.Seen.{ShareSeen}
use Rattle.stash_format.specs.declared.contents.Contents.{Contents as Stash}
use Rattle.stash_format.specs.declared.payload.Payload.{Payload}
use Rattle.stash_format.specs.Payloads.{payload_read}
use Rattle.stash_format.specs.Resets.{Resets}
use Rattle.stored_home.specs.Holds.{Keys, HasStash, HoldsPayload, HoldsBy}
use Rattle.stored_home.proofs.MapLemmas.{from_some, not_None}
use Rattle.user_state.specs.Fits.{IsProved, is_lost}
use Rattle.user_state.specs.Sound.{IsKeyed}
use Rattle.user_state.specs.Turns.{IsGiven}
use Rattle.user_state.specs.declared.state.UserState.{UserState}
use Rattle.turn_rows.specs.Due.{IsReady, IsDue}
use Rattle.turn_rows.proofs.Quiet.{quiet_given, row_by, settled_now, as_user, stands_settled}
use Rattle.turn_secrets.specs.Mounts.{HasMain}
use Rattle.turn_secrets.proofs.Checking.{from_ok}
use Rattle.turn_secrets.proofs.Tried.{kept_at, session_there}

-- what is read where something is read
read_ok : {A E : Type 0} (r : Result A E) (x : A) → result_ok r ≡ Some x → r ≡ Ok x
read_ok (Ok y) x e = ap Ok (from_some y x e)
read_ok (Err f) x e = absurd (not_None x (sym e))

-- what is true of all kept sessions is true of the one at a place
pub all_at : (P : Kept → Type 0) (kept : List Kept) (at : ℕ) (k : Kept) → AllByRecursion P kept
    → slice_get kept at ≡ Some k → P k
all_at P [] at k all read = absurd (not_None k (sym read))
all_at P (x ∷ kept) zero k all read = subst P (from_some x k read) all.0
all_at P (x ∷ kept) (suc at) k all read = all_at P kept at k all.1 read

-- where no refusal applies the first one doesn't, and none of the others does
pub not_first : (b : Bool) (refused : Refused) (rest : List (Bool × Refused))
    → first_refusal ((b, refused) ∷ rest) ≡ None → (b ≡ false) × (first_refusal rest ≡ None)
not_first true refused rest e = absurd (not_None refused e)
not_first false refused rest e = (refl, e)

-- what isn't false is true
pub untrue : (b : Bool) → not b ≡ false → b ≡ true
untrue true e = refl
untrue false e = absurd (true≢false e)

-- a mount that is due comes in a session with a main key
pub main_there : (before : UserState) (token : Token) (account : Bytes) (at : ℕ)
    → IsDue before (Act (Mount account token)) → AllByRecursion IsKeyed before.sessions.kept
    → at ≡ place_of token (sessions_in before.sessions.kept) → at < length before.sessions.kept
    → option_and_then (λ (k : Kept). k.main) (slice_get before.sessions.kept at) ≡ None → ⊥
main_there before token account at due keyed place inside none =
    let session = session_at (sessions_in before.sessions.kept) token in
    let mounted = is_some before.vault in
    let one = not_first (not (is_some before.stored.stash)) NoHome ((is_none session, UnknownSession)
    ∷ (is_expired before.last session, Expired) ∷ (is_wrong_intent session, WrongIntent)
    ∷ (is_not_authorised session, NotAuthorised) ∷ (mounted, AlreadyMounted) ∷ []) due in
    let two = not_first (is_none session) UnknownSession ((is_expired before.last session, Expired)
    ∷ (is_wrong_intent session, WrongIntent) ∷ (is_not_authorised session, NotAuthorised)
    ∷ (mounted, AlreadyMounted) ∷ []) one.1 in
    let three = not_first (is_expired before.last session) Expired ((is_wrong_intent session, WrongIntent)
    ∷ (is_not_authorised session, NotAuthorised) ∷ (mounted, AlreadyMounted) ∷ []) two.1 in
    let four = not_first (is_wrong_intent session) WrongIntent ((is_not_authorised session, NotAuthorised)
    ∷ (mounted, AlreadyMounted) ∷ []) three.1 in
    let five = not_first (is_not_authorised session) NotAuthorised ((mounted, AlreadyMounted) ∷ []) four.1 in
    let k = kept_at before.sessions.kept at inside in
    let there : session_at (sessions_in before.sessions.kept) token ≡ Some k.0.session =
    session_there before.sessions.kept token at k.0 place k.1 in
    let proved : k.0.session.authenticated ≡ true = untrue k.0.session.authenticated
    (ap is_not_authorised (sym there) ∙ five.0) in
    let key : k.0.session.authenticated ≡ is_some k.0.main =
    all_at IsKeyed before.sessions.kept at k.0 keyed k.1 in
    let gone : k.0.main ≡ None = ap (option_and_then (λ (x : Kept). x.main)) (sym k.1) ∙ none in
    true≢false (sym proved ∙ key ∙ ap is_some gone)

-- the payload opens to what the home's payload holds
pub payload_opens : (account : Bytes) (keys : Keys) (stash : Stash) (payload : Option Sealed)
    (resets : Resets) → HoldsPayload account keys resets payload → IsSome payload
    → opened_payload_of keys.main account payload ≡ Ok (record { vault = keys.vault; resets = resets })
payload_opens account keys stash None resets h there = absurd (true≢false (sym there))
payload_opens account keys stash (Some sealed) resets h there =
    ap payload_or_fault
    (opened_by_tag keys.main sealed.iv (payload_extra account) sealed.text sealed.tag h.text (sym h.opens.tag)
    (sym h.opens.text))
    ∙ ap (or_fault told_record) (read_ok (payload_read h.text) (record { vault = keys.vault; resets = resets }) h.read)

-- a stash without a payload gives none
no_payload : (main account : Bytes) (payload : Option Sealed) (p : Payload)
    → opened_payload_of main account payload ≡ Ok p
    → IsSome payload
no_payload main account None p e = absurd (not_ok e)
  where
    not_ok : ◌≡◌ {A = Result Payload StashFault} (opened_payload_of main account None) (Ok p) → ⊥
    not_ok same = true≢false (sym (ap (λ r. elim r as (λ _. Bool) [ Ok x ↦ true | Err f ↦ false ]) same))
no_payload main account (Some sealed) p e = refl

module _ (before : UserState) (ready : IsReady before) (token : Token) (account : Bytes)
    (due : IsDue before (Act (Mount account token))) (main : Bytes) (stash : Stash) (has : HasMain before token main
    stash)
  where
    abbrev turn : Turn
    turn = Act (Mount account token)

    -- the session's main key is the home's
    same_main : (keys : Keys) → AllByRecursion (IsProved keys.main) before.sessions.kept → main ≡ keys.main
    same_main keys all = by (slice_get before.sessions.kept (place_of token (sessions_in before.sessions.kept))) refl
        has.main_is
      where
        by : (o : Option Kept) → slice_get before.sessions.kept (place_of token (sessions_in before.sessions.kept)) ≡ o
            → option_and_then (λ (k : Kept). k.main) o ≡ Some main → main ≡ keys.main
        by None read e = absurd (not_None main (sym e))
        by (Some k) read e = subst (λ (o : Option Bytes). IfSome o (λ key. key ≡ keys.main)) e
            (all_at (IsProved keys.main) before.sessions.kept (place_of token (sessions_in before.sessions.kept)) k all
            read).1

    -- the vault is open
    pub mounted_given : (payload : Payload) → opened_payload stash main ≡ Ok payload → (share : ShareSeen)
        → IsGiven share share before (record before { vault = Some payload.vault }) (Act (Mount account token))
        answers.Ok
    mounted_given payload opens share =
        quiet_given share before (record before { vault = Some payload.vault }) turn answers.Ok
        (λ k. let z : ◌≡◌ {A = ℕ} 0 1 = cc in omega (arith, z)) (record { account = refl; cost = refl; lost = refl })
        (λ seen contents user keys p.
        let s = settled_now before ready contents user keys p.fits in
        let by : HoldsBy (is_lost before) (settled contents) before.account user.durable keys stash =
        held_by (is_lost before) contents before.account keys user.durable stash p.holds
        (subst (HasStash contents.records before.account) has.stash_is s.kept.is_loaded.stash) in
        let there : IsSome stash.payload = no_payload main stash.account stash.payload payload opens in
        let own : main ≡ keys.main = same_main keys p.fits.has_keys.proved in
        let held : ◌≡◌ {A = Result Payload StashFault} (opened_payload stash main)
        (Ok (record { vault = keys.vault; resets = by.resets })) =
        (λ i. opened_payload_of (own i) (by.account_is i) stash.payload)
        ∙ payload_opens before.account keys stash stash.payload by.resets (by.payload there) there in
        let same : payload ≡ record { vault = keys.vault; resets = by.resets } =
        from_ok payload (record { vault = keys.vault; resets = by.resets }) (sym opens ∙ held) in
        record {
          next = record user { mounted = true };
          given = by_row (row_by share.era user turn [] answers.Ok (record user { mounted = true })
              (as_user before ready contents user keys turn None p.fits p.holds due) refl);
          fits = record {
            sessions = p.fits.sessions;
            next_session = p.fits.next_session;
            mounted = refl;
            last = p.fits.last;
            stands = stands_settled before ready (record before { vault = Some payload.vault }) contents
                (record user { mounted = true }) refl (record { none = s.none; kept = s.kept; files = s.files });
            has_keys = record {
              proved = p.fits.has_keys.proved;
              mount = ap (λ (x : Payload). x.vault) same;
            };
          };
          durable = refl;
          other = refl;
        })

-- a damaged record stands in place of a row's answer, and nothing changes
pub damaged_given : (before : UserState) → IsReady before → (turn : Turn)
    → MayFail turn → (name : Bytes) (share : ShareSeen)
    → IsGiven share share before before turn (answers.Damaged name)
damaged_given before ready turn may name share =
    quiet_given share before before turn (answers.Damaged name)
    (λ k. let z : ◌≡◌ {A = ℕ} 0 1 = cc in omega (arith, z))
    (record { account = refl; cost = refl; lost = refl })
    (λ seen contents user keys p. record {
      next = user;
      given = stands_in (record { may = may; answer_is = inr (name, refl); after_is = refl });
      fits = p.fits;
      durable = refl;
      other = refl;
    })
