-- A PIN is tried.
use Rattle.std.proofs.Common.{◌≡◌, ℕ, ◌+◌, List, [], ◌∷◌, None, Some, Result, Ok, Err, IsOk, IsErr, Bool, true, false, refl, sym, ap, ◌∙◌, subst, ◌⊎◌, inl, inr, ⊎_elim, take, true≢false}
use Rattle.std.specs.Prelude.{bytes_eq, is_some}
use Rattle.std.specs.FinMap.{get}
use Rattle.account_machine.specs.declared.factor.Factor.{Factor}
use Rattle.account_machine.specs.declared.user.Durable.{Durable}
use Rattle.account_machine.specs.Effect.{readiness_now}
use Rattle.factor_files.specs.declared.factor.FactorRecord.{FactorRecord}
use Rattle.pw_types.specs.Delay.{readiness}
use Rattle.pw_types.specs.declared.delay.Readiness.{Readiness}
use Rattle.pw_types.specs.declared.delay.Readiness.TheVariants as readinesses
use Rattle.pw_types.specs.declared.era.Era.{Era}
use Rattle.pw_types.specs.declared.stamp.Stamp.{Stamp}
use Rattle.scrypt_kdf.specs.Derive.{derive}
use Rattle.sealed_text.specs.OpeningSealed.{Opens}
use Rattle.secret_stash.specs.Keys.{pin_wrap}
use Rattle.share_api.specs.Contents.{Bytes, Contents}
use Rattle.share_api.specs.Replies.{try_reply}
use Rattle.share_api.specs.Seen.{ShareSeen, Makes, step_of}
use Rattle.share_api.specs.Folds.{Fold}
use Rattle.share_api.specs.Steps.{Does, Leads, with_leaf, no_stamp, due, tried_by, tried, leaf_readiness}
use Rattle.share_api.specs.declared.fault.ShareFault.{ShareFault}
use Rattle.share_api.specs.declared.fault.ShareFault.TheVariants as shares
use Rattle.share_api.specs.declared.leaf.Leaf.{Leaf}
use Rattle.share_api.specs.declared.leaf.TryAnswer.{TryAnswer}
use Rattle.share_api.specs.declared.leaf.TryAnswer.TheVariants.{Delayed, Locked}
use Rattle.share_api.specs.declared.step.Op.TheVariants.{TryLeaf}
use Rattle.share_api.specs.declared.step.Reply.{Reply}
use Rattle.share_api.specs.declared.step.Reply.TheVariants.{Tried, Failed}
use Rattle.share_api.specs.declared.step.Step.{Step}
use Rattle.share_api.proofs.StepLaws.{settled_same}
use Rattle.stash_format.specs.Forms.{block_extra, main_of}
use Rattle.stash_format.specs.declared.block.Block.{Block}
use Rattle.stash_format.specs.declared.contents.Contents.{Contents as Stash}
use Rattle.stored_home.specs.Adding.{HoldsEither}
use Rattle.stored_home.specs.Changes.{durable_set, factor_counted}
use Rattle.stored_home.specs.Holds.{Keys, HoldsUnder}
use Rattle.stored_home.specs.Loaded.{IsKept}
use Rattle.stored_home.specs.declared.fault.StoreFault.{StoreFault}
use Rattle.stored_home.specs.declared.fault.StoreFault.TheVariants as faults
use Rattle.stored_home.specs.declared.stored.Stored.{Stored}
use Rattle.stored_home.proofs.MapLemmas.{from_some}
use Rattle.home_edits.specs.Edits.{Starts}
use Rattle.home_edits.proofs.Edited.{edits_none}
use Rattle.pin_edits.specs.Refusals.{ChangesNothing}
use Rattle.pin_edits.specs.Tries.{is_low, durable_tried, answer_of, TriesPin, AnswersPin, EditsByTry, told_try}
use Rattle.pin_edits.proofs.OneStep.{Steps, edits_one, one_step, nothing_made, one_refused}
use Rattle.pin_edits.proofs.PinCounted.{HoldsPin, pin_held, leaf_kept, count_held, own_leaf}

-- what a try answers and leaves of a leaf
abbrev leaf_tries : Era → ℕ → Bytes → Leaf → TryAnswer × Leaf
leaf_tries era moment les leaf = tried era moment les leaf

-- the same, by whether it may come and whether it is right
abbrev due_by : Readiness → Bool → Era → ℕ → Leaf → TryAnswer × Leaf
due_by readinesses.Ready right era moment leaf = due right era moment leaf
due_by (readinesses.Delayed until) right era moment leaf = (Delayed until, leaf)
due_by readinesses.Locked right era moment leaf = (Locked, leaf)

tried_is : (r : Readiness) (era : Era) (moment : ℕ) (les : Bytes) (leaf : Leaf)
    → tried_by r era moment les leaf ≡ due_by r (bytes_eq les leaf.les) era moment leaf
tried_is readinesses.Ready era moment les leaf = refl
tried_is (readinesses.Delayed until) era moment les leaf = refl
tried_is readinesses.Locked era moment les leaf = refl

-- the answer is that of the delay rule and the comparison
answered : (r : Readiness) (right : Bool) (era : Era) (moment : ℕ) (leaf : Leaf)
    → (due_by r right era moment leaf).0 ≡ answer_of r right leaf.hes
answered readinesses.Ready true era moment leaf = refl
answered readinesses.Ready false era moment leaf = refl
answered (readinesses.Delayed until) right era moment leaf = refl
answered readinesses.Locked right era moment leaf = refl

same_answer : (one two : TryAnswer) → ◌≡◌ {A = Reply} (Tried one) (Tried two) → one ≡ two
same_answer one two e = cc

module _ (era : Era) (moment : ℕ) (les : Bytes) (tree : ℕ) (contents mid : Contents) where
  -- by its answer
  try_leads : (leaf : Leaf) → get contents.leaves tree ≡ Some leaf → (result : Result TryAnswer ShareFault)
      → Leads era moment (TryLeaf tree les) (try_reply result) contents mid
      → (mid ≡ contents) ⊎ (mid ≡ with_leaf contents tree (leaf_tries era moment les leaf).1)
  try_leads leaf found (Ok answer) l = inr (l.3 ∙ ap (λ (x : Leaf). with_leaf contents tree (leaf_tries era moment les x).1)
      (from_some l.0 leaf (sym l.1 ∙ found)))
  try_leads leaf found (Err shares.Failed) l = ⊎_elim inl
      (λ w. inr (w.2 ∙ ap (λ (x : Leaf). with_leaf contents tree (leaf_tries era moment les x).1)
      (from_some w.0 leaf (sym w.1 ∙ found)))) l
  try_leads leaf found (Err (shares.TreeLost host chip)) l = inl l
  try_leads leaf found (Err (shares.Damaged name)) l = inl l
  try_leads leaf found (Err shares.NoMemory) l = inl l

  -- an answer is that of the leaf, which was tried
  try_answers : (leaf : Leaf) → get contents.leaves tree ≡ Some leaf → (answer : TryAnswer)
      → Leads era moment (TryLeaf tree les) (Tried answer) contents mid
      → (answer ≡ (leaf_tries era moment les leaf).0) × (mid ≡ with_leaf contents tree (leaf_tries era moment les leaf).1)
  try_answers leaf found answer l =
      let same : l.0 ≡ leaf = from_some l.0 leaf (sym l.1 ∙ found) in (
        same_answer answer (leaf_tries era moment les l.0).0 l.2 ∙ ap (λ (x : Leaf). (leaf_tries era moment les x).0) same,
        l.3 ∙ ap (λ (x : Leaf). with_leaf contents tree (leaf_tries era moment les x).1) same,
      )

module _ (account : Bytes) (stored : Stored) (label : Bytes) (row : FactorRecord)
    (at : get stored.factors label ≡ Some row) (tree : ℕ) (names : row.leaf ≡ Some tree) (era : Era) (key : Bytes)
    (moment : ℕ) where
  module _ (contents : Contents) (keys : Keys) (before next : Durable)
      (starts : Starts false account stored (TriesPin era stored label key moment) contents keys before next) where
    abbrev h : HoldsPin account stored label row tree contents keys before
    h = pin_held account stored label row at tree names contents keys before starts.holds starts.kept

    abbrev leaf : Leaf
    leaf = h.pin.leaf

    abbrev its : Factor
    its = h.pin.of.factor

    abbrev now : Stamp
    now = record { boot = era.boot; at = moment }

    -- the try that comes of the leaf comes of the factor
    leaf_tried : leaf_tries era moment (take 32 key) leaf
        ≡ due_by (readiness_now era moment its) (is_low key row its) era moment leaf
    leaf_tried = tried_is (leaf_readiness era moment leaf) era moment (take 32 key) leaf
        ∙ (λ i. due_by
        (readiness (h.pin.own.schedule i) (h.pin.own.wrong i) (h.pin.own.last i)
        (record { boot = era.boot; at = moment }) era.start)
        (bytes_eq (take 32 key) (h.pin.own.les i)) era moment leaf)

    unchanged : HoldsUnder false (with_leaf contents tree leaf) account before keys
    unchanged = subst (λ c. HoldsUnder false c account before keys)
        (sym (own_leaf account stored label row at tree names contents keys before starts.holds starts.kept h))
        starts.holds

    -- whatever the delay rule and the comparison give, the durable part goes with the leaf
    tried_by_held : (r : Readiness) (right : Bool)
        → HoldsUnder false (with_leaf contents tree (due_by r right era moment leaf).1) account
        (durable_tried r right era moment before label its) keys
    tried_by_held readinesses.Ready true = count_held account stored label row at tree names contents keys before
        starts.holds starts.kept h 0 no_stamp
    tried_by_held readinesses.Ready false =
        subst (λ (n : ℕ). HoldsUnder false (with_leaf contents tree (due_by readinesses.Ready false era moment leaf).1)
        account (durable_set before label (factor_counted its (n + 1) now)) keys) h.pin.own.wrong
        (count_held account stored label row at tree names contents keys before starts.holds starts.kept h
        (leaf.wrong + 1) now)
    tried_by_held (readinesses.Delayed until) right = unchanged
    tried_by_held readinesses.Locked right = unchanged

    same_row : starts.asked.row ≡ row
    same_row = from_some starts.asked.row row (sym starts.asked.known ∙ at)

    same_factor : its ≡ starts.asked.factor
    same_factor = from_some its starts.asked.factor (sym h.pin.of.held ∙ starts.asked.held)

    -- once the leaf was tried the durable part after it is held
    tried_held : HoldsUnder false (with_leaf contents tree (leaf_tries era moment (take 32 key) leaf).1) account next keys
    tried_held = subst (λ (n : Durable). HoldsUnder false
        (with_leaf contents tree (leaf_tries era moment (take 32 key) leaf).1) account n keys)
        ((λ i. durable_tried (readiness_now era moment (same_factor i)) (is_low key (sym same_row i) (same_factor i)) era
        moment before label (same_factor i)) ∙ sym starts.asked.after_is)
        (subst (λ (t : TryAnswer × Leaf). HoldsUnder false (with_leaf contents tree t.1) account
        (durable_tried (readiness_now era moment its) (is_low key row its) era moment before label its) keys)
        (sym leaf_tried)
        (tried_by_held (readiness_now era moment its) (is_low key row its)))

    -- the answer is the factor's, with a secret that opens its block
    answers_pin : (block : Block) → get h.stash.blocks label ≡ Some block
        → AnswersPin era account label key moment starts.asked.row starts.asked.factor keys block
        (leaf_tries era moment (take 32 key) leaf).0
    answers_pin block there = record {
      high = leaf.hes;
      answer_is = ap (λ (t : TryAnswer × Leaf). t.0) leaf_tried
          ∙ answered (readiness_now era moment its) (is_low key row its) era moment leaf
          ∙ (λ i. answer_of (readiness_now era moment (same_factor i)) (is_low key (sym same_row i) (same_factor i))
          leaf.hes);
      opens = subst (λ (t : Factor × FactorRecord × Block). Opens (pin_wrap leaf.hes (derive t.0.secret t.1.salt t.1.cost))
          (block_extra account label t.2) (main_of t.2) keys.main)
          (λ i. (
            same_factor i,
            sym same_row i,
            from_some h.pin.of.block block (sym h.pin.of.found ∙ there) i,
          ))
          h.pin.opens;
    }

-- it failed exactly where the step did
failed_reply : (r : Result TryAnswer ShareFault) → told_try r ≡ Err faults.Failed → try_reply r ≡ Failed
failed_reply (Ok answer) e = absurd (cc e)
failed_reply (Err shares.Failed) e = refl
failed_reply (Err (shares.TreeLost host chip)) e = absurd (cc e)
failed_reply (Err (shares.Damaged name)) e = absurd (cc e)
failed_reply (Err shares.NoMemory) e = absurd (cc e)

ok_reply : (r : Result TryAnswer ShareFault) → IsOk (told_try r) → try_reply r ≡ Failed → ⊥
ok_reply (Ok answer) o e = cc e
ok_reply (Err fault) o e = true≢false (sym o)

-- an answer is the leaf's
ok_gives : (r : Result TryAnswer ShareFault) → IsOk (told_try r) → (answer : TryAnswer) × (r ≡ Ok answer)
ok_gives (Ok answer) o = (answer, refl)
ok_gives (Err fault) o = absurd (true≢false (sym o))

ok_told : (r : Result TryAnswer ShareFault) (answer : TryAnswer) → told_try r ≡ Ok answer → r ≡ Ok answer
ok_told (Ok other) answer e = let same : other ≡ answer = cc in ap Ok same
ok_told (Err fault) answer e = absurd (cc e)

-- a refusal leaves the leaf as it is
refused_same : (era : Era) (moment tree : ℕ) (les : Bytes) (r : Result TryAnswer ShareFault) → IsErr (told_try r)
    → (told_try r ≡ Err faults.Failed → ⊥) → (contents mid : Contents)
    → Leads era moment (TryLeaf tree les) (try_reply r) contents mid → mid ≡ contents
refused_same era moment tree les (Ok answer) e not contents mid l = absurd (true≢false (sym e))
refused_same era moment tree les (Err shares.Failed) e not contents mid l = absurd (not refl)
refused_same era moment tree les (Err (shares.TreeLost host chip)) e not contents mid l = l
refused_same era moment tree les (Err (shares.Damaged other)) e not contents mid l = l
refused_same era moment tree les (Err shares.NoMemory) e not contents mid l = l

-- and is no failed step
refused_calm : (r : Result TryAnswer ShareFault) → (told_try r ≡ Err faults.Failed → ⊥) → try_reply r ≡ Failed → ⊥
refused_calm (Ok answer) not e = cc e
refused_calm (Err shares.Failed) not e = not refl
refused_calm (Err (shares.TreeLost host chip)) not e = cc e
refused_calm (Err (shares.Damaged name)) not e = cc e
refused_calm (Err shares.NoMemory) not e = cc e

-- the step from contents in which no leaf is in doubt
plainly : (old : ShareSeen) (moment tree : ℕ) (les : Bytes) (result : Result TryAnswer ShareFault)
    (contents mid : Contents) → contents.doubt ≡ None
    → Does old.era contents (step_of old moment (TryLeaf tree les) (try_reply result)) mid
    → Leads old.era moment (TryLeaf tree les) (try_reply result) contents mid
plainly old moment tree les result contents mid clear does =
    subst (λ c. Leads old.era moment (TryLeaf tree les) (try_reply result) c mid) (settled_same contents clear) does

module _ (account : Bytes) (stored : Stored) (label : Bytes) (row : FactorRecord)
    (at : get stored.factors label ≡ Some row) (tree : ℕ) (names : row.leaf ≡ Some tree) (old : ShareSeen) (key : Bytes)
    (moment : ℕ) (gave : Result TryAnswer ShareFault) where
  abbrev Asks : Contents → Keys → Durable → Durable → Type 0
  Asks = TriesPin old.era stored label key moment

  abbrev step : Step
  step = step_of old moment (TryLeaf tree (take 32 key)) (try_reply gave)

  module _ (contents mid : Contents) (keys : Keys) (before next : Durable)
      (starts : Starts false account stored Asks contents keys before next) (does : Does old.era contents step mid) where
    abbrev held : HoldsPin account stored label row tree contents keys before
    held = pin_held account stored label row at tree names contents keys before starts.holds starts.kept

    leads : Leads old.era moment (TryLeaf tree (take 32 key)) (try_reply gave) contents mid
    leads = plainly old moment tree (take 32 key) gave contents mid starts.kept.clear does

    after_try : (mid ≡ with_leaf contents tree (leaf_tries old.era moment (take 32 key) held.pin.leaf).1)
        → HoldsUnder false mid account next keys × IsKept false mid account stored
    after_try is = (
      subst (λ c. HoldsUnder false c account next keys) (sym is)
          (tried_held account stored label row at tree names old.era key moment contents keys before next starts),
      subst (λ c. IsKept false c account stored) (sym is)
          (leaf_kept account stored label row at tree names contents keys before starts.holds starts.kept
          (leaf_tries old.era moment (take 32 key) held.pin.leaf).1),
    )

    -- whichever way it ended
    either_held : HoldsEither false account keys before next mid
    either_held = ⊎_elim (λ e. inl (subst (λ c. HoldsUnder false c account before keys) (sym e) starts.holds))
        (λ e. inr (after_try e).0)
        (try_leads old.era moment (take 32 key) tree contents mid held.pin.leaf held.pin.found gave leads)

    -- with an answer
    module _ (answer : TryAnswer) (is : gave ≡ Ok answer) where
      both : (answer ≡ (leaf_tries old.era moment (take 32 key) held.pin.leaf).0)
          × (mid ≡ with_leaf contents tree (leaf_tries old.era moment (take 32 key) held.pin.leaf).1)
      both = try_answers old.era moment (take 32 key) tree contents mid held.pin.leaf held.pin.found answer
          (subst (λ (r : Result TryAnswer ShareFault). Leads old.era moment (TryLeaf tree (take 32 key)) (try_reply r)
          contents mid) is leads)

      answers : (stash : Stash) (block : Block) → stored.stash ≡ Some stash → get stash.blocks label ≡ Some block
          → AnswersPin old.era account label key moment starts.asked.row starts.asked.factor keys block answer
      answers stash block stash_is there = subst
          (λ (a : TryAnswer). AnswersPin old.era account label key moment starts.asked.row starts.asked.factor keys block a)
          (sym both.0)
          (answers_pin account stored label row at tree names old.era key moment contents keys before next starts block
          (ap (λ (s : Stash). get s.blocks label) (from_some held.stash stash (sym held.is ∙ stash_is)) ∙ there))

  -- what the step does of the edit
  try_steps : (ok : Type 0) → (ok → (answer : TryAnswer) × (gave ≡ Ok answer)) → Steps old account stored step ok Asks
  try_steps ok given = record {
    either = either_held;
    last = λ o contents mid keys before next starts does.
        let a = given o in
        after_try contents mid keys before next starts does (both contents mid keys before next starts does a.0 a.1).1;
  }

  -- where the tree isn't lost
  abbrev begun : is_some old.lost ≡ false → (contents : Contents) (keys : Keys) (before next : Durable)
      → Starts (is_some old.lost) account stored Asks contents keys before next
      → Starts false account stored Asks contents keys before next
  begun found contents keys before next starts = record {
    holds = subst (λ (lost : Bool). HoldsUnder lost contents account before keys) found starts.holds;
    kept = subst (λ (lost : Bool). IsKept lost contents account stored) found starts.kept;
    asked = starts.asked;
  }

  -- try_pin, whichever way its step ended
  pub try_edits : (new : ShareSeen) (result : Result TryAnswer StoreFault) → is_some old.lost ≡ false
      → Makes old new step → result ≡ told_try gave → EditsByTry old new account stored label key moment result
  try_edits new result found makes is =
      let fails : result ≡ Err faults.Failed → step.reply ≡ Failed = λ f. failed_reply gave (sym is ∙ f) in
      let done : IsOk result → step.reply ≡ Failed → ⊥ = λ o e. ok_reply gave (subst IsOk is o) e in
      let steps = try_steps (IsOk result) (λ o. ok_gives gave (subst IsOk is o)) in
      let edits = edits_one old new account stored (IsOk result) (result ≡ Err faults.Failed) Asks step found makes fails
      done steps in
      let only : edits.steps ≡ step ∷ [] = one_step old new account stored (IsOk result) (result ≡ Err faults.Failed) Asks
      step found makes fails done steps in
      let folded : (contents end : Contents) → Fold (Does old.era) contents edits.steps end
      → Fold (Does old.era) contents (step ∷ []) end =
      λ contents end fold. subst (λ (s : List Step). Fold (Does old.era) contents s end) only fold in
      record {
        edits = edits;
        answers = λ answer ok contents end keys before next stash block starts stash_is there fold.
            let f = folded contents end fold in
            answers contents f.0 keys before next (begun found contents keys before next starts) f.1 answer
            (ok_told gave answer (sym is ∙ ok)) stash block stash_is there;
        refused = λ e not.
            subst (ChangesNothing old account stored Asks) (sym only)
            (one_refused old account stored Asks step (refused_calm gave (λ f. not (is ∙ f)))
            (λ contents mid clear does.
            refused_same old.era moment tree (take 32 key) gave (subst IsErr is e) (λ f. not (is ∙ f)) contents mid
            (plainly old moment tree (take 32 key) gave contents mid clear does)));
      }

-- try_pin, where it made no step
pub no_try : (old : ShareSeen) (account : Bytes) (stored : Stored) (label key : Bytes) (moment : ℕ)
    (result : Result TryAnswer StoreFault) → (IsOk result → ⊥) → (result ≡ Err faults.Failed → ⊥)
    → EditsByTry old old account stored label key moment result
no_try old account stored label key moment result none calm =
    let edits = edits_none old account stored stored (IsOk result) (result ≡ Err faults.Failed)
    (TriesPin old.era stored label key moment) none calm in
    record {
      edits = edits;
      answers = λ answer ok contents end keys before next stash block starts stash_is there fold.
          absurd (none (subst IsOk (sym ok) refl));
      refused = λ e not. nothing_made old account stored stored (IsOk result) (result ≡ Err faults.Failed)
          (TriesPin old.era stored label key moment) edits;
    }
