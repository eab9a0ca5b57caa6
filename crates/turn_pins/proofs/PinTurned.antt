-- The turn of a PIN's try, by what the leaf answered.
use Rattle.std.proofs.Common.{◌≡◌, ◌≢◌, ℕ, ◌-◌, ◌≤◌, ◌<◌, List, [], ◌∷◌, ◌++◌, length, take, Bool, true, false, Option, None, Some, Result, Ok, Err, IsErr, IsOk, refl, sym, ap, ◌∙◌, subst, ◌⊎◌, inl, inr, ⊎_elim, is_some, option_map, bytes_eq, arith}
use Rattle.std.proofs.lemmas.Slice.Eq.{bytes_eq-Decides}
use Rattle.std.specs.Prelude.{IfErr, IsErrOf, slice_get}
use Rattle.std.specs.List.{AllByRecursion}
use Rattle.std.specs.FinMap.{get}
use Rattle.account_machine.specs.Effect.{proved, proved_end, readiness_now}
use Rattle.account_machine.specs.Sessions.{place_of, changed}
use Rattle.account_machine.specs.Step.{Row, Given, by_row, unsettles}
use Rattle.account_machine.specs.declared.answer.Answer.{Answer}
use Rattle.account_machine.specs.declared.answer.Answer.TheVariants as answers
use Rattle.account_machine.specs.declared.factor.Factor.{Factor}
use Rattle.account_machine.specs.declared.request.Request.TheVariants.{Authenticate}
use Rattle.account_machine.specs.declared.request.Turn.{Turn}
use Rattle.account_machine.specs.declared.request.Turn.TheVariants.{Act}
use Rattle.account_machine.specs.declared.session.Session.{Session}
use Rattle.account_machine.specs.declared.session.Token.{Token}
use Rattle.account_machine.specs.declared.user.Durable.{Durable}
use Rattle.account_machine.specs.declared.user.User.{User}
use Rattle.auth_session.specs.Table.{Table, sessions_in, edit_at, proved_kept}
use Rattle.auth_session.specs.declared.table.Kept.{Kept}
use Rattle.auth_session.proofs.TableLemmas.{changed-edit_at}
use Rattle.factor_files.specs.declared.factor.FactorRecord.{FactorRecord}
use Rattle.home_edits.specs.Edits.{Starts}
use Rattle.pin_edits.specs.Tries.{EditsByTry, TriesPin, AnswersPin, durable_tried, is_low, told_try}
use Rattle.pin_edits.specs.Tries as tries
use Rattle.pin_edits.proofs.PinTried.{try_edits}
use Rattle.pw_types.specs.declared.delay.Readiness.{Readiness}
use Rattle.pw_types.specs.declared.delay.Readiness.TheVariants as readinesses
use Rattle.pw_types.specs.declared.era.Era.{Era}
use Rattle.scrypt_kdf.specs.Derive.{derive}
use Rattle.sealed_text.specs.OpeningSealed.{Opens, opened}
use Rattle.secret_stash.specs.Keys.{pin_wrap}
use Rattle.share_api.specs.Conditions.{IsTryFault, TellsLoss}
use Rattle.share_api.specs.Contents.{Bytes, Contents, settled}
use Rattle.share_api.specs.Folds.{Fold}
use Rattle.share_api.specs.Replies.{try_reply}
use Rattle.share_api.specs.Seen.{ShareSeen, Runs, HasFailed, step_of}
use Rattle.share_api.specs.Steps as share_steps
use Rattle.share_api.specs.Steps.{Does}
use Rattle.share_api.specs.declared.fault.ShareFault.{ShareFault}
use Rattle.share_api.specs.declared.fault.ShareFault.TheVariants as shares
use Rattle.share_api.specs.declared.leaf.LeafView.{LeafView}
use Rattle.share_api.specs.declared.leaf.TryAnswer.{TryAnswer}
use Rattle.share_api.specs.declared.leaf.TryAnswer.TheVariants.{Right, Wrong, Delayed, Locked}
use Rattle.share_api.specs.declared.step.Op.TheVariants.{TryLeaf}
use Rattle.share_api.specs.declared.step.Step.{Step}
use Rattle.share_api.proofs.FoldLaws.{throughout_end}
use Rattle.share_api.proofs.RunLaws.{failed_either, runs_none}
use Rattle.stash_format.specs.Forms.{block_extra, main_of}
use Rattle.stored_home.specs.Adding.{HoldsEither}
use Rattle.stored_home.specs.Holds.{Keys, HoldsUnder}
use Rattle.stored_home.specs.Loaded.{IsKept}
use Rattle.stored_home.specs.declared.fault.StoreFault.{StoreFault}
use Rattle.stored_home.specs.declared.fault.StoreFault.TheVariants as faults
use Rattle.stored_home.proofs.MapLemmas.{from_some, not_None}
use Rattle.user_state.specs.Fits.{IsProved, is_lost}
use Rattle.user_state.specs.Sound.{IsSound}
use Rattle.user_state.specs.Turns.{IsGiven, Leads, Premises, KeepsAccount}
use Rattle.user_state.specs.declared.state.Doubt.TheVariants.{Leaf}
use Rattle.user_state.specs.declared.state.UserState.{UserState}
use Rattle.turn_rows.specs.Due.{IsReady, IsDue}
use Rattle.turn_rows.proofs.Kept.{all_edit}
use Rattle.turn_rows.proofs.Quiet.{settled_now, stands_settled}
use Rattle.turn_edits.proofs.Factors.{own_stash}
use Rattle.turn_secrets.specs.Listing.{Looks}
use Rattle.turn_pins.specs.Looking.{TellsView, IsLookFault}
use Rattle.turn_pins.specs.Pins.{IsPinAt}
use Rattle.turn_pins.specs.Trying.{IsTrial, RightEnds, TriedEnds, TryEnds, SeenTried, TryHeld}
use Rattle.turn_pins.specs.declared.trial.Trial.{Trial}
use Rattle.turn_pins.proofs.LookedLeaf.{only_step, append_none, looked_given, looked_stood}
use Rattle.turn_pins.proofs.LoadedPins.{its_pin, leaf_tells}
use Rattle.turn_pins.proofs.PinsSetBack.{damaged_stands, refusal_stands}
use Rattle.turn_pins.proofs.PinTrials.{answer_try, later_try, after_try, rests, durable_is, later_there, later_kind, later_edition, later_apart, right_means, wrong_means, delayed_means, locked_means, low_is, opens_to, try_stash, its_session, its, its_there, try_given}

-- a try of a leaf leaves the records
try_frames : (era : Era) (moment tree : ℕ) (les : Bytes) (gave : Result TryAnswer ShareFault) (contents mid : Contents)
    → share_steps.Leads era moment (TryLeaf tree les) (try_reply gave) contents mid → mid.records ≡ contents.records
try_frames era moment tree les (Ok answer) contents mid l = ap (λ (c : Contents). c.records) l.3
try_frames era moment tree les (Err shares.Failed) contents mid l = ⊎_elim
    (λ e. ap (λ (c : Contents). c.records) e) (λ w. ap (λ (c : Contents). c.records) w.2) l
try_frames era moment tree les (Err (shares.TreeLost host chip)) contents mid l = ap (λ (c : Contents). c.records) l
try_frames era moment tree les (Err (shares.Damaged name)) contents mid l = ap (λ (c : Contents). c.records) l
try_frames era moment tree les (Err shares.NoMemory) contents mid l = ap (λ (c : Contents). c.records) l

module _ (before : UserState) (ready : IsReady before) (sound : IsSound before) (account : Bytes) (token : Token)
    (label secret : Bytes) (due : IsDue before (Act (Authenticate account token label secret)))
    (pin : IsPinAt before.stored label) (row : FactorRecord) (at : get before.stored.factors label ≡ Some row)
    (tree : ℕ) (names : row.leaf ≡ Some tree) (whole : before.stored.lost ≡ None) (place : ℕ)
    (place_is : place ≡ place_of token (sessions_in before.sessions.kept))
    (inside : place < length before.sessions.kept) (trial : Trial)
    (fits_trial : IsTrial before.stored label secret trial) (tree_is : trial.tree ≡ tree) where
  abbrev turn : Turn
  turn = Act (Authenticate account token label secret)

  abbrev session : Session
  session = (its_session before ready sound account token label secret due pin row at tree names whole place place_is
      inside).0.session

  module _ (old mid new : ShareSeen) (lost : is_some old.lost ≡ is_lost before) (view : LeafView) (failed : Type 0)
      (l : Looks old mid failed 1 (TellsView before.account tree (Ok view))) where
    mid_lost : is_some mid.lost ≡ is_lost before
    mid_lost = ap is_some l.runs.lost ∙ lost

    -- the turn, in the era that the look left
    by_leads : (steps : List Step) (runs : Runs mid new steps) → length steps ≤ 1
        → (answer : Answer) (after : UserState) → (answer ≡ answers.StorageFault → HasFailed (l.steps ++ steps))
        → KeepsAccount before after
        → ((seen : List Contents) (contents : Contents) (user : User) (keys : Keys)
        → Premises seen contents before (Some secret) user keys → TellsView before.account tree (Ok view) contents
        → (end : Contents) → Fold (Does mid.era) contents steps end
        → Leads before.account (Given mid.era user turn answer) after (l.steps ++ steps) user end)
        → IsGiven old new before after turn answer
    by_leads steps runs few answer after fault keeps led =
        looked_given old mid new before ready turn failed 1 (TellsView before.account tree (Ok view)) l steps runs few
        answer after fault keeps
        (λ seen contents user keys p told end fold.
        subst (λ (era : Era). Leads before.account (Given era user turn answer) after (l.steps ++ steps) user end)
        l.runs.era
        (led seen contents user keys p told end
        (subst (λ (era : Era). Fold (Does era) contents steps end) (sym l.runs.era) fold)))

    module _ (gave : Result TryAnswer StoreFault)
        (e : EditsByTry mid new before.account before.stored label trial.key before.last gave)
        (few : length e.edits.steps ≤ 1)
        (frames : (contents end : Contents) → contents.doubt ≡ None → Fold (Does mid.era) contents e.edits.steps end
        → end.records ≡ contents.records) where
      module _ (seen : List Contents) (contents : Contents) (user : User) (keys : Keys)
          (p : Premises seen contents before (Some secret) user keys) where
        abbrev f : Factor
        f = its before ready sound account token label secret due pin row at tree names whole place place_is inside
            contents user keys p.fits p.holds

        f_there : get user.durable.factors label ≡ Some f
        f_there = its_there before ready sound account token label secret due pin row at tree names whole place place_is
            inside contents user keys p.fits p.holds

        -- whether the try may come, and whether the secret is right
        abbrev R : Readiness
        R = readiness_now mid.era user.last f

        abbrev L : Bool
        L = is_low trial.key row f

        low : L ≡ bytes_eq secret f.secret
        low = low_is seen contents before.account user.durable user.other label secret row f f_there
            (its_pin before ready whole label row at tree names contents user keys p.fits p.holds).pin.read p.among
            p.clean trial.key (fits_trial.key row at)

        abbrev tried_part : Durable
        tried_part = durable_tried (readiness_now mid.era before.last f) L mid.era before.last user.durable label f

        part_is : (r : Readiness) (b : Bool) → R ≡ r → L ≡ b
            → tried_part ≡ (after_try r b mid.era user token label f).durable
        part_is r b r_is b_is =
            (λ i. durable_tried (readiness_now mid.era (p.fits.last i) f) L mid.era (p.fits.last i) user.durable label
            f)
            ∙ (λ i. durable_tried (r_is i) (b_is i) mid.era user.last user.durable label f)
            ∙ sym (durable_is mid.era user token label f r b)

        starts : Starts (is_some mid.lost) before.account before.stored
            (TriesPin mid.era before.stored label trial.key before.last) contents keys user.durable tried_part
        starts = record {
          holds = subst (λ (x : Bool). HoldsUnder x contents before.account user.durable keys) (sym mid_lost) p.holds;
          kept = subst (λ (x : Bool). IsKept x contents before.account before.stored) (sym mid_lost)
              (settled_now before ready contents user keys p.fits).kept;
          asked = record { row = row; known = at; factor = f; held = f_there; after_is = refl };
        }

        row_of : (r : Readiness) (b : Bool) → R ≡ r → L ≡ b
            → Row mid.era user turn (answer_try r b user session) (after_try r b mid.era user token label f)
        row_of r b r_is b_is = try_given before ready sound account token label secret due pin row at tree names whole
            place place_is inside contents user keys p.fits p.holds mid.era r b r_is (sym low ∙ b_is)

        -- ---- it was answered

        done_leads : (answer : TryAnswer) → gave ≡ Ok answer → (end : Contents)
            → Fold (Does mid.era) contents e.edits.steps end → (r : Readiness) (b : Bool) → R ≡ r → L ≡ b
            → (told : Answer) → told ≡ answer_try r b user session → (table : Table)
            → sessions_in table.kept ≡ (after_try r b mid.era user token label f).sessions
            → table.next ≡ before.sessions.next → AllByRecursion (IsProved keys.main) table.kept
            → Leads before.account (Given mid.era user turn told) (record before { sessions = table })
            (l.steps ++ e.edits.steps) user end
        done_leads answer is end fold r b r_is b_is told told_is table sessions next proved_all =
            let s = settled_now before ready contents user keys p.fits in
            let after = after_try r b mid.era user token label f in
            let stays = rests mid.era user token label f r b in
            let ok : IsOk gave = subst IsOk (sym is) refl in
            record {
              next = after;
              keys = keys;
              allowed = by_row (subst (λ (a : Answer). Row mid.era user turn a after) (sym told_is)
                  (row_of r b r_is b_is));
              fits = record {
                sessions = sessions;
                next_session = next ∙ p.fits.next_session ∙ sym stays.next_session;
                mounted = p.fits.mounted ∙ sym stays.mounted;
                last = p.fits.last ∙ sym stays.last;
                stands = stands_settled before ready (record before { sessions = table }) end after refl (record {
                  none = stays.other ∙ s.none;
                  kept = subst (λ (x : Bool). IsKept x end before.account before.stored) mid_lost
                      (e.edits.loaded ok contents keys user.durable tried_part starts end fold);
                  files = s.files;
                });
                has_keys = record { proved = proved_all; mount = p.fits.has_keys.mount };
              };
              holds = inl (subst (λ (t : Bool × Durable). HoldsUnder t.0 end before.account t.1 keys)
                  (λ i. (mid_lost i, part_is r b r_is b_is i))
                  ((e.edits.atomic contents keys user.durable tried_part starts).last ok end fold));
              idle = λ none. absurd (e.edits.made ok (append_none l.steps e.edits.steps none));
            }

        -- what it was answered says what the factor gives
        answered : (answer : TryAnswer) → gave ≡ Ok answer → (end : Contents)
            → Fold (Does mid.era) contents e.edits.steps end
            → AnswersPin mid.era before.account label trial.key before.last row f keys trial.block answer
        unfolding starts
        answered answer is end fold =
            let stash = try_stash before ready sound account token label secret due pin in
            e.answers answer is contents end keys user.durable tried_part stash.0 trial.block starts stash.1
            (fits_trial.block stash.0 stash.1) fold

        means : (answer : TryAnswer) (is : gave ≡ Ok answer) (end : Contents)
            (fold : Fold (Does mid.era) contents e.edits.steps end)
            → answer ≡ tries.answer_of R L (answered answer is end fold).high
        means answer is end fold = (answered answer is end fold).answer_is
            ∙ (λ i. tries.answer_of (readiness_now mid.era (p.fits.last i) f) L (answered answer is end fold).high)

        -- the block opens to the home's main key
        right_opens : (high : Bytes) (is : gave ≡ Ok (Right high)) (end : Contents)
            → Fold (Does mid.era) contents e.edits.steps end
            → opened (pin_wrap high trial.key) trial.extra (main_of trial.block) ≡ Some keys.main
        right_opens high is end fold =
            let a = answered (Right high) is end fold in
            let m = right_means R L high a.high (means (Right high) is end fold) in
            let stash = try_stash before ready sound account token label secret due pin in
            let same : secret ≡ f.secret = (bytes_eq-Decides secret f.secret).0
            (sym low ∙ m.1) in
            let key_is : trial.key ≡ derive f.secret row.salt row.cost =
            fits_trial.key row at ∙ (λ i. derive (same i) row.salt row.cost) in
            let extra_is : trial.extra ≡ block_extra before.account label trial.block =
            fits_trial.extra stash.0 stash.1
            ∙ ap (λ (n : Bytes). block_extra n label trial.block)
            (own_stash before.account before.stored sound.coherent stash.0 stash.1).account_is in
            opens_to (pin_wrap high trial.key) trial.extra keys.main trial.block
            (subst (λ (t : Bytes × Bytes). Opens t.0 t.1 (main_of trial.block) keys.main)
            (λ i. (pin_wrap (sym m.2 i) (sym key_is i), sym extra_is i)) a.opens)

        -- ---- the try failed

        failed_leads : gave ≡ Err faults.Failed → TellsView before.account tree (Ok view) contents → (end : Contents)
            → Fold (Does mid.era) contents e.edits.steps end
            → Leads before.account (Given mid.era user turn answers.StorageFault)
            (record before { doubt = Some (Leaf label tree view) }) (l.steps ++ e.edits.steps) user end
        failed_leads is told end fold =
            let s = settled_now before ready contents user keys p.fits in
            let after = after_try R L mid.era user token label f in
            let held = its_pin before ready whole label row at tree names contents user keys p.fits p.holds in
            record {
              next = record user { other = Some after.durable };
              keys = keys;
              allowed = unsettles (record {
                may = tt;
                fault = refl;
                due = answer_try R L user session;
                done = after;
                row = row_of R L refl refl;
                after_is = refl;
              });
              fits = record {
                sessions = p.fits.sessions;
                next_session = p.fits.next_session;
                mounted = p.fits.mounted;
                last = p.fits.last;
                stands = record {
                  other = after.durable;
                  other_is = refl;
                  tells = leaf_tells before ready whole label row at tree names contents user keys p.fits p.holds view
                      told end (frames contents end s.kept.clear fold) (later_try R L mid.era user.last f)
                      (later_kind mid.era user token label f f_there R L ∙ held.pin.is_pin)
                      (later_edition mid.era user token label f f_there R L) after.durable
                      (later_there mid.era user token label f f_there R L)
                      (later_apart mid.era user token label f f_there R L);
                };
                has_keys = record { proved = p.fits.has_keys.proved; mount = p.fits.has_keys.mount };
              };
              holds = subst (λ (t : Bool × Durable). HoldsEither t.0 before.account keys user.durable t.1 end)
                  (λ i. (mid_lost i, part_is R L refl refl i))
                  (throughout_end (Does mid.era)
                  (HoldsEither (is_some mid.lost) before.account keys user.durable tried_part) contents end
                  e.edits.steps (e.edits.atomic contents keys user.durable tried_part starts).throughout fold);
              idle = λ none. absurd (subst HasFailed (append_none l.steps e.edits.steps none) (e.edits.fails is));
            }

      -- ---- the turns

      -- an answer that leaves the sessions
      plain_given : (answer : TryAnswer) → gave ≡ Ok answer → (told : Answer) → told ≢ answers.StorageFault
          → ((seen : List Contents) (contents : Contents) (user : User) (keys : Keys)
          (p : Premises seen contents before (Some secret) user keys) (end : Contents)
          → Fold (Does mid.era) contents e.edits.steps end
          → (r : Readiness) × (b : Bool) × (R seen contents user keys p ≡ r) × (L seen contents user keys p ≡ b)
          × (told ≡ answer_try r b user session)
          × (user.sessions
          ≡ (after_try r b mid.era user token label (f seen contents user keys p)).sessions))
          → IsGiven old new before before turn told
      plain_given answer is told calm led =
          by_leads e.edits.steps e.edits.runs few told before (λ k. absurd (calm k))
          (record { account = refl; cost = refl; lost = refl })
          (λ seen contents user keys p view_told end fold.
          let g = led seen contents user keys p end fold in
          done_leads seen contents user keys p answer is end fold g.0 g.1 g.2 g.3 told g.4 before.sessions
          (p.fits.sessions ∙ g.5) refl p.fits.has_keys.proved)

      wrong_given : gave ≡ Ok Wrong → IsGiven old new before before turn answers.Wrong
      wrong_given is = plain_given Wrong is answers.Wrong
          (λ k. let z : ◌≡◌ {A = Answer} answers.Wrong answers.StorageFault = k in cc z)
          (λ seen contents user keys p end fold.
          let m = wrong_means (R seen contents user keys p) (L seen contents user keys p) _
          (means seen contents user keys p Wrong is end fold) in
          (readinesses.Ready, false, m.0, m.1, refl, refl))

      delayed_given : (until : ℕ) → gave ≡ Ok (Delayed until)
          → IsGiven old new before before turn (answers.Delayed (until - before.last))
      delayed_given until is = plain_given (Delayed until) is (answers.Delayed (until - before.last))
          (λ k. let z : ◌≡◌ {A = Answer} (answers.Delayed (until - before.last)) answers.StorageFault = k in cc z)
          (λ seen contents user keys p end fold.
          let m = delayed_means (R seen contents user keys p) (L seen contents user keys p) until _
          (means seen contents user keys p (Delayed until) is end fold) in (
            readinesses.Delayed until,
            L seen contents user keys p,
            m,
            refl,
            (λ i. answers.Delayed (until - p.fits.last i)),
            refl,
          ))

      locked_given : gave ≡ Ok Locked → IsGiven old new before before turn answers.Locked
      locked_given is = plain_given Locked is answers.Locked
          (λ k. let z : ◌≡◌ {A = Answer} answers.Locked answers.StorageFault = k in cc z)
          (λ seen contents user keys p end fold.
          let m = locked_means (R seen contents user keys p) (L seen contents user keys p) _
          (means seen contents user keys p Locked is end fold) in
          (readinesses.Locked, L seen contents user keys p, m, refl, refl, refl))

      -- a right secret: the session keeps the main key
      right_given : (high : Bytes) → gave ≡ Ok (Right high) → (main : Bytes)
          → opened (pin_wrap high trial.key) trial.extra (main_of trial.block) ≡ Some main → (ends : ℕ)
          → option_map (λ (k : Kept). proved_end before.last k.session) (slice_get before.sessions.kept place)
          ≡ Some ends
          → IsGiven old new before (record before {
            sessions = record before.sessions {
              kept = edit_at (proved_kept main before.last) place before.sessions.kept;
            };
          }) turn (answers.OkEnds ends)
      right_given high is main opens ends read =
          by_leads e.edits.steps e.edits.runs few (answers.OkEnds ends) _
          (λ k. let z : ◌≡◌ {A = Answer} (answers.OkEnds ends) answers.StorageFault = k in absurd (cc z))
          (record { account = refl; cost = refl; lost = refl })
          (λ seen contents user keys p view_told end fold.
          let a = answered seen contents user keys p (Right high) is end fold in
          let m = right_means (R seen contents user keys p) (L seen contents user keys p) high a.high
          (means seen contents user keys p (Right high) is end fold) in
          let kept = its_session before ready sound account token label secret due pin row at tree names whole place
          place_is inside in
          let end_is : proved_end user.last session ≡ ends =
          ap (λ n. proved_end n session) (sym p.fits.last)
          ∙ from_some (proved_end before.last session) ends
          (ap (option_map (λ (k : Kept). proved_end before.last k.session)) (sym kept.1) ∙ read) in
          let main_same : main ≡ keys.main =
          from_some main keys.main (sym opens ∙ right_opens seen contents user keys p high is end fold) in
          done_leads seen contents user keys p (Right high) is end fold readinesses.Ready true m.0 m.1
          (answers.OkEnds ends) (ap (λ (n : ℕ). answers.OkEnds n) (sym end_is))
          (record before.sessions { kept = edit_at (proved_kept main before.last) place before.sessions.kept })
          (ap (λ q. sessions_in (edit_at (proved_kept main before.last) q before.sessions.kept)) place_is
          ∙ changed-edit_at token (proved_kept main before.last) (proved before.last) (λ k. refl) before.sessions.kept
          ∙ (λ i. changed token (proved (p.fits.last i)) (p.fits.sessions i)))
          refl
          (all_edit (IsProved keys.main) (proved_kept main before.last) (λ k h. (refl, main_same)) before.sessions.kept
          place p.fits.has_keys.proved))

      -- a block that doesn't open isn't one that is held
      unopened_given : (high : Bytes) → gave ≡ Ok (Right high)
          → opened (pin_wrap high trial.key) trial.extra (main_of trial.block) ≡ None → (told : Answer)
          → told ≢ answers.StorageFault → IsGiven old new before before turn told
      unopened_given high is none told calm =
          by_leads e.edits.steps e.edits.runs few told before (λ k. absurd (calm k))
          (record { account = refl; cost = refl; lost = refl })
          (λ seen contents user keys p view_told end fold.
          absurd (not_None keys.main (sym (right_opens seen contents user keys p high is end fold) ∙ none)))

      failed_given : gave ≡ Err faults.Failed
          → IsGiven old new before (record before { doubt = Some (Leaf label tree view) }) turn answers.StorageFault
      failed_given is =
          by_leads e.edits.steps e.edits.runs few answers.StorageFault _
          (λ _. failed_either l.steps e.edits.steps (inr (e.edits.fails is)))
          (record { account = refl; cost = refl; lost = refl })
          (λ seen contents user keys p told end fold. failed_leads seen contents user keys p is told end fold)

      damaged_given : (name : Bytes) → gave ≡ Err (faults.Damaged name) → (told : Answer)
          → (told ≡ answers.Damaged name) ⊎ (told ≡ answers.NoMemory) → IsGiven old new before before turn told
      damaged_given name is told told_is =
          let stands = damaged_stands name told told_is in
          looked_stood old mid new before ready turn failed 1 (TellsView before.account tree (Ok view)) l e.edits.steps
          e.edits.runs few told tt stands.0 stands.1
          (λ contents user keys fits holds end fold. (e.refused (subst IsErr (sym is) refl) (λ f.
          let z : ◌≡◌ {A = Result TryAnswer StoreFault} (Err (faults.Damaged name)) (Err faults.Failed) = sym is ∙ f in
          cc z)).same contents end (settled_now before ready contents user keys fits).kept.clear
          (subst (λ (era : Era). Fold (Does era) contents e.edits.steps end) (sym l.runs.era) fold))

  -- ---- the try that was made

  module _ (old mid new : ShareSeen) (lost : is_some old.lost ≡ is_lost before) (share_whole : old.lost ≡ None)
      (view : LeafView) (failed : Type 0) (l : Looks old mid failed 1 (TellsView before.account tree (Ok view)))
      (after : UserState) (answer : Answer) (t : TryEnds mid new trial view place before after answer) where
    abbrev edited : EditsByTry mid new before.account before.stored label trial.key before.last (told_try t.tried)
    edited = try_edits before.account before.stored label row at trial.tree (fits_trial.leaf row at) mid trial.key
        before.last t.tried new (told_try t.tried) (ap is_some (l.runs.lost ∙ share_whole)) t.made refl

    abbrev step : Step
    step = step_of mid before.last (TryLeaf trial.tree (take 32 trial.key)) (try_reply t.tried)

    only : edited.edits.steps ≡ step ∷ []
    only = only_step mid new edited.edits.steps step edited.edits.runs t.made

    few : length edited.edits.steps ≤ 1
    few = subst (λ (s : List Step). length s ≤ 1) (sym only) (omega arith)

    frames : (contents end : Contents) → contents.doubt ≡ None → Fold (Does mid.era) contents edited.edits.steps end
        → end.records ≡ contents.records
    frames contents end clear fold =
        let f : Fold (Does mid.era) contents (step ∷ []) end =
        subst (λ (s : List Step). Fold (Does mid.era) contents s end) only fold in
        ap (λ (c : Contents). c.records) f.2
        ∙ try_frames mid.era before.last trial.tree (take 32 trial.key) t.tried (settled contents) f.0 f.1

    -- by the main key that the block opens to
    right_by : (high : Bytes) → told_try t.tried ≡ Ok (Right high) → (o : Option Bytes)
        → opened (pin_wrap high trial.key) trial.extra (main_of trial.block) ≡ o → RightEnds o place before after answer
        → IsGiven old new before after turn answer
    right_by high is None none h =
        let stands = damaged_stands h.0 answer h.1.1 in
        subst (λ (s : UserState). IsGiven old new before s turn answer) (sym h.1.0)
        (unopened_given old mid new lost view failed l (told_try t.tried) edited few frames high is none answer
        stands.1)
    right_by high is (Some main) opens h =
        subst (λ (s : UserState × Answer). IsGiven old new before s.0 turn s.1) (λ i. (sym h.3 i, sym h.2 i))
        (right_given old mid new lost view failed l (told_try t.tried) edited few frames high is main opens h.0 h.1)

    by_tried : (gave : Result TryAnswer ShareFault) → t.tried ≡ gave → IfErr gave (IsTryFault trial.tree)
        → TellsLoss mid.lost gave → TriedEnds gave trial view place before after answer
        → IsGiven old new before after turn answer
    by_tried (Ok (Right high)) is within tells h = right_by high (ap told_try is) _ refl h
    by_tried (Ok Wrong) is within tells h =
        subst (λ (s : UserState × Answer). IsGiven old new before s.0 turn s.1) (λ i. (sym h.0 i, sym h.1 i))
        (wrong_given old mid new lost view failed l (told_try t.tried) edited few frames (ap told_try is))
    by_tried (Ok (Delayed until)) is within tells h =
        subst (λ (s : UserState × Answer). IsGiven old new before s.0 turn s.1) (λ i. (sym h.0 i, sym h.1 i))
        (delayed_given old mid new lost view failed l (told_try t.tried) edited few frames until (ap told_try is))
    by_tried (Ok Locked) is within tells h =
        subst (λ (s : UserState × Answer). IsGiven old new before s.0 turn s.1) (λ i. (sym h.0 i, sym h.1 i))
        (locked_given old mid new lost view failed l (told_try t.tried) edited few frames (ap told_try is))
    by_tried (Err shares.Failed) is within tells h =
        subst (λ (s : UserState × Answer). IsGiven old new before s.0 turn s.1)
        (λ i. (
          (sym (h.0 ∙ (λ j. record before { doubt = Some (Leaf (fits_trial.label_is j) (tree_is j) view) }))) i,
          sym h.1 i,
        ))
        (failed_given old mid new lost view failed l (told_try t.tried) edited few frames (ap told_try is))
    by_tried (Err (shares.Damaged name)) is within tells h =
        subst (λ (s : UserState). IsGiven old new before s turn answer) (sym h.0)
        (damaged_given old mid new lost view failed l (told_try t.tried) edited few frames name (ap told_try is) answer
        h.1)
    by_tried (Err (shares.TreeLost host chip)) is within tells h =
        absurd (subst (λ roots. TellsLoss {A = TryAnswer} roots (Err (shares.TreeLost host chip)))
        (l.runs.lost ∙ share_whole) tells host chip refl)
    by_tried (Err shares.NoMemory) is within tells h = absurd within

    pub ends_given : IsGiven old new before after turn answer
    ends_given = by_tried t.tried refl t.only t.lost t.ends

  module _ (old new : ShareSeen) (lost : is_some old.lost ≡ is_lost before) (share_whole : old.lost ≡ None) where
    by_view : (mid : ShareSeen) (view : Result LeafView StoreFault) (after : UserState) (answer : Answer)
        → Looks old mid (IsErrOf view faults.Failed) 1 (TellsView before.account trial.tree view)
        → IfErr view IsLookFault → SeenTried mid new trial view place before after answer
        → IsGiven old new before after turn answer
    by_view mid (Ok view) after answer l only t =
        ends_given old mid new lost share_whole view _
        (subst (λ (n : ℕ). Looks old mid (IsErrOf {T = LeafView} {E = StoreFault} (Ok view) faults.Failed) 1
        (TellsView before.account n (Ok view))) tree_is l) after answer t
    by_view mid (Err fault) after answer l only t =
        let stands = refusal_stands fault answer only t.2 in
        subst (λ (s : ShareSeen × UserState). IsGiven old s.0 before s.1 turn answer)
        (λ i. (sym t.0 i, sym t.1 i))
        (looked_stood old mid mid before ready turn _ 1 (TellsView before.account trial.tree (Err fault)) l []
        (runs_none mid) (omega arith) answer tt stands.0 stands.1 (λ contents user keys fits holds end fold. fold))

    -- the row's turn
    pub tried_given : (after : UserState) (answer : Answer) → TryHeld old new trial place before after answer
        → IsGiven old new before after turn answer
    tried_given after answer h = by_view h.mid h.view after answer h.looks h.only h.ends
