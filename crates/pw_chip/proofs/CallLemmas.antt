-- Each call keeps what holds, and its reply is lawful.
use Rattle.std.proofs.Common.{◌≡◌, ℕ, ◌<◌, ◌^◌, inl, inr, Bool, true, false, cond, eqb, ltb, ◌&&◌, Option, Some, None, Ok, List, length, refl, sym, ◌∙◌, ap, subst, arith}
use Rattle.std.specs.Prelude.{bytes_eq, option_map}
use Rattle.std.proofs.lemmas.Bool.{cases_eq, eqb-true, ltb-true, ne_eqb, false≢true}
use Rattle.std.proofs.lemmas.Slice.Eq.{bytes_eq-Decides}
use Rattle.pw_path.specs.Tree.{root, aux_of, AgreeBut, no_hash}
use Rattle.pw_path.specs.Path.{root_of, OnPath, OnTree, IsAux, HasNoCollision}
use Rattle.pw_path.proofs.TreeLemmas.{true_value, aux_of_same, root_of_changed, set_value_other, set_value_same}
use Rattle.pw_types.specs.Schedule.{limit_of}
use Rattle.pw_types.specs.Delay.{readiness}
use Rattle.pw_types.specs.declared.stamp.Stamp.{Stamp}
use Rattle.pw_types.specs.declared.delay.Readiness.{Readiness}
use Rattle.pw_types.specs.declared.delay.Readiness.TheVariants as delay
use Rattle.pw_types.proofs.DelayLemmas.{below_limit}
use Rattle.pw_chip.specs.Told.{told}
use Rattle.pw_log.specs.declared.entry.LogEntry.{LogEntry}
use Rattle.pw_log.specs.declared.entry.TheConstants.{RESET_TREE, INSERT, REMOVE, TRY, RESET, NO_VERDICT, RIGHT, WRONG}
use Rattle.pw_leaf.specs.declared.keys.ChipKeys.{ChipKeys}
use Rattle.pw_leaf.specs.Contents.{Contents, IsContents, new_contents, bumped, cleared}
use Rattle.pw_leaf.specs.LeafBytes.{leaf_bytes, leaf_mac}
use Rattle.pw_leaf.specs.Reading.{mac_of, text_of}
use Rattle.pw_leaf.proofs.Cases.{on_cond, on_result}
use Rattle.pw_leaf.proofs.ChangeLemmas.{IsContents-bumped, IsContents-cleared}
use Rattle.pw_chip.specs.declared.reply.Reply.{Reply}
use Rattle.pw_chip.specs.declared.reply.Reply.TheVariants.{Done, Inserted, Released, Cleared, Wrong, Delayed, Locked, ResetWrong, RootUnknown, LabelUsed, LabelEmpty}
use Rattle.pw_chip.specs.State.{ChipState, empty_root}
use Rattle.pw_chip.specs.Calls.{CallData, ResetTree, Insert, Remove, Try, Reset, GetLog, Replay}
use Rattle.pw_chip.specs.declared.open.Refusal.TheVariants.{NoLabel, NoLeaf, NoPath}
use Rattle.pw_chip.specs.Step.{refused, logged, is_replayed, redone_by, is_full, opened, tried, tried_when, try_opened, after_try, reset_at, reset_opened, after_reset, replay_opened, leaf_entry, reset_tree_step, insert_step, remove_step, try_step, reset_step, replay_step, step}
use Rattle.pw_chip.specs.Ledger.{with_leaf, leaves_after}
use Rattle.pw_chip.specs.Law.{value_of, values, InLeaves, OnPresented, InPresented, IsCall, by, IsOfOlderLeaf, IsOfUsed, IsLawful}
use Rattle.pw_chip.proofs.GenuineLemmas.{Covered, values_hashes, Genuine, genuine, none_of}
use Rattle.pw_chip.proofs.KeptLemmas.{Holds, Redone, kept_logged, logged_keys, covered_with}

-- ---- the tree after a change

-- the other labels keep their values
agree_with : (keys : ChipKeys) (t : ℕ → Option Contents) (label : ℕ) (o : Option Contents) → AgreeBut label (values keys t) (values keys (with_leaf t label o))
unfolding AgreeBut
agree_with keys t label o = λ j ne. ap (value_of keys) (set_value_other t label o j ne)

-- the root of a leaf that is set, with its siblings as they were
pub new_root : (keys : ChipKeys) (t : ℕ → Option Contents) (label : ℕ) (o : Option Contents) (aux : List (List (List ℕ))) → label < 16384 → aux ≡ aux_of (values keys t) label
    → root_of label (value_of keys o) aux ≡ root (values keys (with_leaf t label o))
new_root keys t label o aux lt e =
    ap (root_of label (value_of keys o)) e
    ∙ root_of_changed (values keys t) (values keys (with_leaf t label o)) label (value_of keys o) lt (agree_with keys t label o) (ap (value_of keys) (set_value_same t label o))

-- ---- cases of an answer

-- a claim of each answer to a try that may come then
pub on_tried_when : (P : Reply → Type 0) (r : Readiness) (keys : ChipKeys) (x : Contents) (les : List ℕ) (now : Stamp) (start : ℕ) → readiness x.schedule x.wrong x.last now start ≡ r
    → P (Released (leaf_bytes keys (cleared x)) x.hes)
    → (readiness x.schedule x.wrong x.last now start ≡ delay.Ready → P (Wrong (leaf_bytes keys (bumped now x))))
    → ((u : ℕ) → P (Delayed u)) → P Locked → P (tried_when r keys x les now)
on_tried_when P delay.Ready keys x les now start e f g d l =
    on_cond P (bytes_eq x.les les) (Released (leaf_bytes keys (cleared x)) x.hes) (Wrong (leaf_bytes keys (bumped now x))) (λ _. f) (λ _. g e)
on_tried_when P (delay.Delayed u) keys x les now start e f g d l = d u
on_tried_when P delay.Locked keys x les now start e f g d l = l

-- a claim of each answer to a try
pub on_tried : (P : Reply → Type 0) (keys : ChipKeys) (x : Contents) (les : List ℕ) (now : Stamp) (start : ℕ)
    → P (Released (leaf_bytes keys (cleared x)) x.hes)
    → (readiness x.schedule x.wrong x.last now start ≡ delay.Ready → P (Wrong (leaf_bytes keys (bumped now x))))
    → ((u : ℕ) → P (Delayed u)) → P Locked → P (tried keys x les now start)
unfolding tried
on_tried P keys x les now start f g d l = on_tried_when P (readiness x.schedule x.wrong x.last now start) keys x les now start refl f g d l

-- a claim of each answer to a reset
pub on_reset : (P : Reply → Type 0) (keys : ChipKeys) (x : Contents) (reset : List ℕ) → P (Cleared (leaf_bytes keys (cleared x))) → P ResetWrong → P (reset_at keys x reset)
unfolding reset_at
on_reset P keys x reset f g = on_cond P (bytes_eq x.reset reset) (Cleared (leaf_bytes keys (cleared x))) ResetWrong (λ _. f) (λ _. g)

-- an entry of a leaf is of its label alone
of_label : (label l : ℕ) → true && eqb label l ≡ true → label ≡ l
of_label label l e = eqb-true label l e

-- the value of a choice
value_cond : (keys : ChipKeys) (b : Bool) (o p : Option Contents) → value_of keys (cond b o p) ≡ cond b (value_of keys o) (value_of keys p)
value_cond keys true o p = refl
value_cond keys false o p = refl

-- the values with one leaf set
value_with : (keys : ChipKeys) (t : ℕ → Option Contents) (label : ℕ) (o : Option Contents) (i : ℕ) → values keys (with_leaf t label o) i ≡ cond (eqb i label) (value_of keys o) (values keys t i)
value_with keys t label o i = value_cond keys (eqb i label) o (t i)

module _ (N M : List ℕ → Type 0) (apart : HasNoCollision N) (b s : ℕ) where
  -- a changed leaf keeps what holds
  changed : (w : ChipState) (t : ℕ → Option Contents) (label : ℕ) (o : Option Contents) (aux : List (List (List ℕ))) (e : LogEntry) → Holds N M b s w t → label < 16384 → aux ≡ aux_of (values w.keys t) label
      → e.root ≡ root_of label (value_of w.keys o) aux → ((x : Contents) → o ≡ Some x → IsContents x × (x.label ≡ label))
      → ((l : ℕ) → is_replayed e l ≡ true → Redone e l t (with_leaf t label o))
      → ((i : ℕ) → values w.keys (with_leaf t label o) i ≡ told e (values w.keys t) i)
      → ((a : List ℕ) → OnTree (values (logged w e).keys (with_leaf t label o)) a → N a) → ((a : List ℕ) → InLeaves (logged w e).keys (with_leaf t label o) a → M a)
      → Holds N M b s (logged w e) (with_leaf t label o)
  changed w t label o aux e h lt ea er known redone tells nodes macs =
      let same : (logged w e).keys ≡ w.keys = logged_keys N M apart b s w e in
      kept_logged N M apart b s w t (with_leaf t label o) e h
      (covered_with N M apart b s w.keys t label o h.covered known
      (subst (λ ks. (a : List ℕ) → OnTree (values ks (with_leaf t label o)) a → N a) same nodes)
      (subst (λ ks. (a : List ℕ) → InLeaves ks (with_leaf t label o) a → M a) same macs))
      (er ∙ new_root w.keys t label o aux lt ea) redone tells

  -- what a step leaves
  unfoldable pub Keeps : ChipState → (ℕ → Option Contents) → CallData → ℕ → Reply × ChipState → Type 0
  Keeps w t call now r =
      ((a : List ℕ) → OnTree (values r.1.keys (leaves_after (record { boot = w.boot; at = now }) call r.0 t)) a → N a)
      → ((a : List ℕ) → InLeaves r.1.keys (leaves_after (record { boot = w.boot; at = now }) call r.0 t) a → M a)
      → Holds N M b s r.1 (leaves_after (record { boot = w.boot; at = now }) call r.0 t)

  -- ---- insert and remove

  true_path : (w : ChipState) (t : ℕ → Option Contents) (label : ℕ) (aux : List (List (List ℕ))) (mac : List ℕ) → Holds N M b s w t → label < 16384 → IsAux aux → length mac ≡ 32
      → ((a : List ℕ) → (root_of label mac aux ≡ w.log.newest.root) × OnPath 0 label mac aux a → N a) → root_of label mac aux ≡ w.log.newest.root → (mac ≡ values w.keys t label) × (aux ≡ aux_of (values w.keys t) label)
  true_path w t label aux mac h lt ha long path e =
      true_value N apart (values w.keys t) label mac aux lt (values_hashes w.keys t) long ha (λ b on. path b (e, on)) (Covered.nodes (Holds.covered h)) (e ∙ Holds.root h)

  kept_insert : (w : ChipState) (t : ℕ → Option Contents) (label : ℕ) (aux : List (List (List ℕ))) (mac les hes reset : List ℕ) (schedule : List (ℕ × ℕ)) (iv : List ℕ) (now : ℕ)
      → Holds N M b s w t → IsCall (Insert label aux mac les hes reset schedule iv) → ((a : List ℕ) → OnPresented w (Insert label aux mac les hes reset schedule iv) a → N a)
      → Keeps w t (Insert label aux mac les hes reset schedule iv) now (step w (Insert label aux mac les hes reset schedule iv) now)
  unfolding step reset_tree_step insert_step remove_step try_step reset_step replay_step leaves_after IsCall OnPresented Keeps
  kept_insert w t label aux mac les hes reset schedule iv now h ok path =
      let call = Insert label aux mac les hes reset schedule iv in
      let y = new_contents label les hes reset schedule iv in
      let e = leaf_entry w.keys INSERT NO_VERDICT label aux y (record { boot = w.boot; at = now }) in
      on_cond (Keeps w t call now) (ltb label 16384) _ _
      (λ small. on_cond (Keeps w t call now) (bytes_eq (root_of label mac aux) w.log.newest.root) _ _
      (λ in_tree. on_cond (Keeps w t call now) (bytes_eq mac no_hash) (Inserted (leaf_bytes w.keys y), logged w e) (LabelUsed, w)
      (λ empty nodes macs.
      let lt = ltb-true label 16384 small in
      let p = true_path w t label aux mac h lt ok.0 ok.1 path ((bytes_eq-Decides (root_of label mac aux) w.log.newest.root).0 in_tree) in
      changed w t label (Some y) aux e h lt p.1 refl
      (λ x q. let same : y ≡ x = cc q in subst (λ z. IsContents z × (z.label ≡ label)) same (
        record {
          label = lt;
          schedule = ok.5;
          wrong = omega arith;
          boot = omega arith;
          moment = omega arith;
          fresh = λ _. (refl, refl);
          les = ok.2;
          hes = ok.3;
          reset = ok.4;
          iv = ok.6;
        },
        refl,
      ))
      (λ l q. absurd (false≢true q)) (value_with w.keys t label (Some y)) nodes macs)
      (λ _ nodes macs. h))
      (λ _ nodes macs. h))
      (λ _ nodes macs. h)

  kept_remove : (w : ChipState) (t : ℕ → Option Contents) (label : ℕ) (aux : List (List (List ℕ))) (mac : List ℕ) (now : ℕ)
      → Holds N M b s w t → IsCall (Remove label aux mac) → ((a : List ℕ) → OnPresented w (Remove label aux mac) a → N a)
      → Keeps w t (Remove label aux mac) now (step w (Remove label aux mac) now)
  unfolding step reset_tree_step insert_step remove_step try_step reset_step replay_step leaves_after IsCall OnPresented Keeps
  kept_remove w t label aux mac now h ok path =
      let call = Remove label aux mac in
      let e : LogEntry = record { operation = REMOVE; label = label; root = root_of label no_hash aux; mac = no_hash; verdict = NO_VERDICT; stamp = record { boot = w.boot; at = now } } in
      on_cond (Keeps w t call now) (ltb label 16384) _ _
      (λ small. on_cond (Keeps w t call now) (bytes_eq (root_of label mac aux) w.log.newest.root) _ _
      (λ in_tree. on_cond (Keeps w t call now) (bytes_eq mac no_hash) (LabelEmpty, w) (Done, logged w e)
      (λ _ nodes macs. h)
      (λ used nodes macs.
      let lt = ltb-true label 16384 small in
      let p = true_path w t label aux mac h lt ok.0 ok.1 path ((bytes_eq-Decides (root_of label mac aux) w.log.newest.root).0 in_tree) in
      changed w t label None aux e h lt p.1 refl (λ x q. cc q) (λ l q. absurd (false≢true q)) (value_with w.keys t label None) nodes macs))
      (λ _ nodes macs. h))
      (λ _ nodes macs. h)

  -- ---- a leaf that a call changes

  changed_leaf : (w : ChipState) (t : ℕ → Option Contents) (label : ℕ) (aux : List (List (List ℕ))) (leaf : List ℕ) (x : Contents) (f : Contents → Contents) (e : LogEntry)
      → Holds N M b s w t → Genuine w.keys t label aux leaf x → e.root ≡ root_of label (leaf_mac w.keys (f x)) aux → IsContents (f x) → (f x).label ≡ x.label
      → ((l : ℕ) → is_replayed e l ≡ true → label ≡ l) → f x ≡ redone_by e.verdict e.stamp x → is_full e.verdict x ≡ false
      → ((v : ℕ → List ℕ) (i : ℕ) → told e v i ≡ cond (eqb i label) (leaf_mac w.keys (f x)) (v i))
      → ((a : List ℕ) → OnTree (values (logged w e).keys (with_leaf t label (option_map f (t label)))) a → N a) → ((a : List ℕ) → InLeaves (logged w e).keys (with_leaf t label (option_map f (t label))) a → M a)
      → Holds N M b s (logged w e) (with_leaf t label (option_map f (t label)))
  changed_leaf w t label aux leaf x f e h g er good l of_e fx room tells nodes macs =
      let there : option_map f (t label) ≡ Some (f x) = ap (option_map f) g.stands in
      changed w t label (option_map f (t label)) aux e h g.small g.true_aux (er ∙ ap (λ o. root_of label (value_of w.keys o) aux) (sym there))
      (λ y q. let same : f x ≡ y = cc (sym there ∙ q) in subst (λ z. IsContents z × (z.label ≡ label)) same (good, l ∙ Covered.label (Holds.covered h) label x g.stands))
      (λ m q. subst (λ i. Redone e i t (with_leaf t label (option_map f (t label)))) (of_e m q)
      (record { leaf = x; was = g.stands; others = λ i ne. set_value_other t label (option_map f (t label)) i ne; is = set_value_same t label (option_map f (t label)) ∙ there ∙ ap Some fx; room = room }))
      (λ i. value_with w.keys t label (option_map f (t label)) i ∙ ap (λ o. cond (eqb i label) (value_of w.keys o) (values w.keys t i)) there ∙ sym (tells (values w.keys t) i))
      nodes macs

  -- ---- try

  try_genuine : (w : ChipState) (t : ℕ → Option Contents) (label : ℕ) (aux : List (List (List ℕ))) (leaf : List ℕ) (x : Contents) → Holds N M b s w t → IsAux aux
      → ((a : List ℕ) → (root_of label (mac_of leaf) aux ≡ w.log.newest.root) × OnPath 0 label (mac_of leaf) aux a → N a) → ((a : List ℕ) → (root_of label (mac_of leaf) aux ≡ w.log.newest.root) × ((length leaf ≡ 296) × (a ≡ text_of leaf)) → M a)
      → opened w.keys w.log.newest.root label aux leaf ≡ Ok x → Genuine w.keys t label aux leaf x
  try_genuine w t label aux leaf x h ha path ins e = genuine N M w.keys apart h.macs t label aux leaf x w.log.newest.root h.covered h.root ha path ins e

  kept_try : (w : ChipState) (t : ℕ → Option Contents) (label : ℕ) (aux : List (List (List ℕ))) (leaf les : List ℕ) (now : ℕ)
      → Holds N M b s w t → now < 2 ^ 40 → IsCall (Try label aux leaf les) → ((a : List ℕ) → OnPresented w (Try label aux leaf les) a → N a) → ((a : List ℕ) → InPresented w (Try label aux leaf les) a → M a)
      → Keeps w t (Try label aux leaf les) now (step w (Try label aux leaf les) now)
  unfolding step reset_tree_step insert_step remove_step try_step reset_step replay_step leaves_after IsCall OnPresented InPresented Keeps
  kept_try w t label aux leaf les now h small ok path ins =
      let call = Try label aux leaf les in
      let stamp : Stamp = record { boot = w.boot; at = now } in
      on_result (λ r. Keeps w t call now (try_opened w label aux les now r)) (opened w.keys w.log.newest.root label aux leaf)
      (λ x q.
      let g = try_genuine w t label aux leaf x h ok path ins q in
      let good = Covered.leaf (Holds.covered h) label x g.stands in
      on_tried (λ reply. Keeps w t call now (reply, after_try w label aux x stamp reply)) w.keys x les stamp w.start
      (λ nodes macs. changed_leaf w t label aux leaf x cleared (leaf_entry w.keys TRY RIGHT label aux (cleared x) stamp) h g refl (IsContents-cleared x good) refl (of_label label) refl refl (λ v i. refl) nodes macs)
      (λ ready nodes macs.
      let below = below_limit x.schedule x.wrong x.last stamp w.start good.schedule (λ q. cc (sym ready ∙ q)) in
      changed_leaf w t label aux leaf x (bumped stamp) (leaf_entry w.keys TRY WRONG label aux (bumped stamp x) stamp) h g refl
      (IsContents-bumped x stamp good below h.small small) refl (of_label label) refl (ne_eqb x.wrong (limit_of x.schedule) (λ e. omega arith)) (λ v i. refl) nodes macs)
      (λ u nodes macs. h) (λ nodes macs. h))
      (λ r q. elim r as (λ r. Keeps w t call now (refused r, w)) [ NoLabel ↦ λ nodes macs. h | NoLeaf f ↦ λ nodes macs. h | NoPath ↦ λ nodes macs. h ])

  kept_reset : (w : ChipState) (t : ℕ → Option Contents) (label : ℕ) (aux : List (List (List ℕ))) (leaf reset : List ℕ) (now : ℕ)
      → Holds N M b s w t → IsCall (Reset label aux leaf reset) → ((a : List ℕ) → OnPresented w (Reset label aux leaf reset) a → N a) → ((a : List ℕ) → InPresented w (Reset label aux leaf reset) a → M a)
      → Keeps w t (Reset label aux leaf reset) now (step w (Reset label aux leaf reset) now)
  unfolding step reset_tree_step insert_step remove_step try_step reset_step replay_step leaves_after IsCall OnPresented InPresented Keeps
  kept_reset w t label aux leaf reset now h ok path ins =
      let call = Reset label aux leaf reset in
      let stamp : Stamp = record { boot = w.boot; at = now } in
      on_result (λ r. Keeps w t call now (reset_opened w label aux reset now r)) (opened w.keys w.log.newest.root label aux leaf)
      (λ x q.
      let g = try_genuine w t label aux leaf x h ok path ins q in
      on_reset (λ reply. Keeps w t call now (reply, after_reset w label aux x stamp reply)) w.keys x reset
      (λ nodes macs. changed_leaf w t label aux leaf x cleared (leaf_entry w.keys RESET NO_VERDICT label aux (cleared x) stamp) h g refl (IsContents-cleared x (Covered.leaf (Holds.covered h) label x g.stands)) refl (of_label label) refl refl (λ v i. refl) nodes macs)
      (λ nodes macs. h))
      (λ r q. elim r as (λ r. Keeps w t call now (refused r, w)) [ NoLabel ↦ λ nodes macs. h | NoLeaf f ↦ λ nodes macs. h | NoPath ↦ λ nodes macs. h ])

  -- ---- reset tree

  kept_reset_tree : (w : ChipState) (t : ℕ → Option Contents) (now : ℕ) → Holds N M b s w t → Keeps w t ResetTree now (step w ResetTree now)
  unfolding step reset_tree_step insert_step remove_step try_step reset_step replay_step leaves_after empty_root Keeps
  kept_reset_tree w t now h nodes macs =
      let e : LogEntry = record { operation = RESET_TREE; label = 0; root = empty_root; mac = no_hash; verdict = NO_VERDICT; stamp = record { boot = w.boot; at = now } } in
      let none : ℕ → Option Contents = λ i. None in
      let same : (logged w e).keys ≡ w.keys = logged_keys N M apart b s w e in
      kept_logged N M apart b s w t none e h
      (record {
        leaf = λ i x q. cc q;
        label = λ i x q. cc q;
        nodes = subst (λ ks. (a : List ℕ) → OnTree (values ks none) a → N a) same nodes;
        macs = subst (λ ks. (a : List ℕ) → InLeaves ks none a → M a) same macs;
      })
      refl (λ l q. absurd (false≢true q)) (λ i. refl)

  -- ---- replay and log

  kept_replay : (w : ChipState) (t : ℕ → Option Contents) (label : ℕ) (aux : List (List (List ℕ))) (leaf : List ℕ) (now : ℕ) → Holds N M b s w t → Keeps w t (Replay label aux leaf) now (step w (Replay label aux leaf) now)
  unfolding step reset_tree_step insert_step remove_step try_step reset_step replay_step leaves_after Keeps
  kept_replay w t label aux leaf now h =
      on_cond (Keeps w t (Replay label aux leaf) now) (ltb label 16384) _ _
      (λ _. on_cond (Keeps w t (Replay label aux leaf) now) (is_replayed w.log.newest label) _ _ (λ _ nodes macs. h) (λ _ nodes macs. h))
      (λ _ nodes macs. h)

  kept_log : (w : ChipState) (t : ℕ → Option Contents) (host : List ℕ) (now : ℕ) → Holds N M b s w t → Keeps w t (GetLog host) now (step w (GetLog host) now)
  unfolding step reset_tree_step insert_step remove_step try_step reset_step replay_step leaves_after Keeps
  kept_log w t host now h = λ nodes macs. h

  -- each call keeps what holds
  pub kept_call : (w : ChipState) (t : ℕ → Option Contents) (call : CallData) (now : ℕ) → Holds N M b s w t → now < 2 ^ 40 → IsCall call
      → ((a : List ℕ) → OnPresented w call a → N a) → ((a : List ℕ) → InPresented w call a → M a) → Keeps w t call now (step w call now)
  kept_call w t ResetTree now h small ok path ins = kept_reset_tree w t now h
  kept_call w t (Insert label aux mac les hes reset schedule iv) now h small ok path ins = kept_insert w t label aux mac les hes reset schedule iv now h ok path
  kept_call w t (Remove label aux mac) now h small ok path ins = kept_remove w t label aux mac now h ok path
  kept_call w t (Try label aux leaf les) now h small ok path ins = kept_try w t label aux leaf les now h small ok path ins
  kept_call w t (Reset label aux leaf reset) now h small ok path ins = kept_reset w t label aux leaf reset now h ok path ins
  kept_call w t (GetLog host) now h small ok path ins = kept_log w t host now h
  kept_call w t (Replay label aux leaf) now h small ok path ins = kept_replay w t label aux leaf now h

  -- ---- each reply is lawful

  Answers : ChipState → (ℕ → Option Contents) → CallData → ℕ → Reply → Type 0
  Answers w t call now reply = IsLawful w (record { boot = w.boot; start = w.start; leaves = t }) call now reply

  law_insert : (w : ChipState) (t : ℕ → Option Contents) (label : ℕ) (aux : List (List (List ℕ))) (mac les hes reset : List ℕ) (schedule : List (ℕ × ℕ)) (iv : List ℕ) (now : ℕ)
      → Holds N M b s w t → IsCall (Insert label aux mac les hes reset schedule iv) → ((a : List ℕ) → OnPresented w (Insert label aux mac les hes reset schedule iv) a → N a)
      → Answers w t (Insert label aux mac les hes reset schedule iv) now (step w (Insert label aux mac les hes reset schedule iv) now).0
  unfolding Answers step reset_tree_step insert_step remove_step try_step reset_step replay_step IsLawful IsCall OnPresented
  law_insert w t label aux mac les hes reset schedule iv now h ok path =
      let call = Insert label aux mac les hes reset schedule iv in
      let y = new_contents label les hes reset schedule iv in
      let e = leaf_entry w.keys INSERT NO_VERDICT label aux y (record { boot = w.boot; at = now }) in
      let P : Reply × ChipState → Type 0 = λ r. Answers w t call now r.0 in
      on_cond P (ltb label 16384) _ _
      (λ small. on_cond P (bytes_eq (root_of label mac aux) w.log.newest.root) _ _
      (λ in_tree. on_cond P (bytes_eq mac no_hash) (Inserted (leaf_bytes w.keys y), logged w e) (LabelUsed, w)
      (λ empty.
      let p = true_path w t label aux mac h (ltb-true label 16384 small) ok.0 ok.1 path ((bytes_eq-Decides (root_of label mac aux) w.log.newest.root).0 in_tree) in
      let zero_mac : mac ≡ no_hash = (bytes_eq-Decides mac no_hash).0 empty in
      record { unused = none_of N M w.keys apart h.macs t label h.covered (sym zero_mac ∙ p.0); path = p.1; bytes = refl })
      (λ _. tt))
      (λ _. tt))
      (λ _. tt)

  used_of : (keys : ChipKeys) (t : ℕ → Option Contents) (label : ℕ) (aux : List (List (List ℕ))) (mac : List ℕ) (o : Option Contents) → t label ≡ o → mac ≡ value_of keys o → (mac ≡ no_hash → ⊥)
      → aux ≡ aux_of (values keys t) label → IsOfUsed keys t label aux mac
  used_of keys t label aux mac None e m f p = absurd (f m)
  used_of keys t label aux mac (Some x) e m f p = record { contents = x; stands = e; value = m; path = p }

  law_remove : (w : ChipState) (t : ℕ → Option Contents) (label : ℕ) (aux : List (List (List ℕ))) (mac : List ℕ) (now : ℕ)
      → Holds N M b s w t → IsCall (Remove label aux mac) → ((a : List ℕ) → OnPresented w (Remove label aux mac) a → N a)
      → Answers w t (Remove label aux mac) now (step w (Remove label aux mac) now).0
  unfolding Answers step reset_tree_step insert_step remove_step try_step reset_step replay_step IsLawful IsCall OnPresented
  law_remove w t label aux mac now h ok path =
      let e : LogEntry = record { operation = REMOVE; label = label; root = root_of label no_hash aux; mac = no_hash; verdict = NO_VERDICT; stamp = record { boot = w.boot; at = now } } in
      let P : Reply × ChipState → Type 0 = λ r. Answers w t (Remove label aux mac) now r.0 in
      on_cond P (ltb label 16384) _ _
      (λ small. on_cond P (bytes_eq (root_of label mac aux) w.log.newest.root) _ _
      (λ in_tree. on_cond P (bytes_eq mac no_hash) (LabelEmpty, w) (Done, logged w e)
      (λ _. tt)
      (λ used.
      let p = true_path w t label aux mac h (ltb-true label 16384 small) ok.0 ok.1 path ((bytes_eq-Decides (root_of label mac aux) w.log.newest.root).0 in_tree) in
      used_of w.keys t label aux mac (t label) refl p.0 (λ z. false≢true (sym used ∙ (bytes_eq-Decides mac no_hash).1 z)) p.1))
      (λ _. tt))
      (λ _. tt)

  law_try : (w : ChipState) (t : ℕ → Option Contents) (label : ℕ) (aux : List (List (List ℕ))) (leaf les : List ℕ) (now : ℕ)
      → Holds N M b s w t → IsCall (Try label aux leaf les) → ((a : List ℕ) → OnPresented w (Try label aux leaf les) a → N a) → ((a : List ℕ) → InPresented w (Try label aux leaf les) a → M a)
      → Answers w t (Try label aux leaf les) now (step w (Try label aux leaf les) now).0
  unfolding Answers step reset_tree_step insert_step remove_step try_step reset_step replay_step IsLawful IsCall OnPresented InPresented
  law_try w t label aux leaf les now h ok path ins =
      on_result (λ r. Answers w t (Try label aux leaf les) now (try_opened w label aux les now r).0) (opened w.keys w.log.newest.root label aux leaf)
      (λ x q. let g = try_genuine w t label aux leaf x h ok path ins q in inr (record { contents = x; stands = g.stands; bytes = g.bytes; path = g.true_aux; answer = refl }))
      (λ r q. inl (by r))

  law_reset : (w : ChipState) (t : ℕ → Option Contents) (label : ℕ) (aux : List (List (List ℕ))) (leaf reset : List ℕ) (now : ℕ)
      → Holds N M b s w t → IsCall (Reset label aux leaf reset) → ((a : List ℕ) → OnPresented w (Reset label aux leaf reset) a → N a) → ((a : List ℕ) → InPresented w (Reset label aux leaf reset) a → M a)
      → Answers w t (Reset label aux leaf reset) now (step w (Reset label aux leaf reset) now).0
  unfolding Answers step reset_tree_step insert_step remove_step try_step reset_step replay_step IsLawful IsCall OnPresented InPresented
  law_reset w t label aux leaf reset now h ok path ins =
      on_result (λ r. Answers w t (Reset label aux leaf reset) now (reset_opened w label aux reset now r).0) (opened w.keys w.log.newest.root label aux leaf)
      (λ x q. let g = try_genuine w t label aux leaf x h ok path ins q in inr (record { contents = x; stands = g.stands; bytes = g.bytes; path = g.true_aux; answer = refl }))
      (λ r q. inl (by r))

  -- a leaf that the newest entry changed, with the tree before it
  older_of : (w : ChipState) (t : ℕ → Option Contents) (label : ℕ) (aux : List (List (List ℕ))) (leaf : List ℕ) (x : Contents) (before : ℕ → Option Contents) (reply : Reply)
      → Redone w.log.newest label before t → Genuine w.keys before label aux leaf x → w.log.older.root ≡ root (values w.keys before)
      → reply ≡ replay_opened w (Ok x) → IsOfOlderLeaf w t label aux leaf reply
  unfolding AgreeBut
  older_of w t label aux leaf x before reply redone g older is =
      let same : redone.leaf ≡ x = cc (sym redone.was ∙ g.stands) in
      let room : is_full w.log.newest.verdict x ≡ false = subst (λ z. is_full w.log.newest.verdict z ≡ false) same redone.room in
      let each : (i : ℕ) → before i ≡ with_leaf t label (Some x) i =
      λ i. elim (cases_eq i label) [
        | inl e ↦ ap before e ∙ g.stands ∙ sym (rw e (set_value_same t label (Some x)))
        | inr ne ↦ sym (redone.others i ne) ∙ sym (set_value_other t label (Some x) i ne)
      ] in
      let stood : before ≡ with_leaf t label (Some x) = λ i j. each j i in
      record {
        before = x;
        bytes = g.bytes;
        root = older ∙ ap (λ f. root (values w.keys f)) stood;
        older_path = g.true_aux ∙ ap (λ f. aux_of (values w.keys f) label) stood;
        path = g.true_aux ∙ sym (aux_of_same (values w.keys before) (values w.keys t) label (λ i ne. ap (value_of w.keys) (redone.others i ne)));
        stands = redone.is ∙ ap (λ z. Some (redone_by w.log.newest.verdict w.log.newest.stamp z)) same;
        answer = is ∙ rw room refl;
      }

  law_replay : (w : ChipState) (t : ℕ → Option Contents) (label : ℕ) (aux : List (List (List ℕ))) (leaf : List ℕ) (now : ℕ)
      → Holds N M b s w t → IsCall (Replay label aux leaf) → ((a : List ℕ) → OnPresented w (Replay label aux leaf) a → N a) → ((a : List ℕ) → InPresented w (Replay label aux leaf) a → M a)
      → Answers w t (Replay label aux leaf) now (step w (Replay label aux leaf) now).0
  unfolding Answers step reset_tree_step insert_step remove_step try_step reset_step replay_step IsLawful IsCall OnPresented InPresented
  law_replay w t label aux leaf now h ok path ins =
      let P : Reply × ChipState → Type 0 = λ r. Answers w t (Replay label aux leaf) now r.0 in
      on_cond P (ltb label 16384) _ _
      (λ _. on_cond P (is_replayed w.log.newest label) (replay_opened w (opened w.keys w.log.older.root label aux leaf), w) (RootUnknown, w)
      (λ is. on_result (λ r. Answers w t (Replay label aux leaf) now (replay_opened w r)) (opened w.keys w.log.older.root label aux leaf)
      (λ x q.
      let past = h.past in
      let g = genuine N M w.keys apart h.macs past.before label aux leaf x w.log.older.root past.covered past.root ok path ins q in
      inr (older_of w t label aux leaf x past.before (replay_opened w (Ok x)) (past.follows label is) g past.root refl))
      (λ r q. inl (inl (by r))))
      (λ _. inl (inr refl)))
      (λ _. inl (inl (by NoLabel)))

  pub law_call : (w : ChipState) (t : ℕ → Option Contents) (call : CallData) (now : ℕ) → Holds N M b s w t → IsCall call
      → ((a : List ℕ) → OnPresented w call a → N a) → ((a : List ℕ) → InPresented w call a → M a) → IsLawful w (record { boot = w.boot; start = w.start; leaves = t }) call now (step w call now).0
  unfolding Answers IsLawful
  law_call w t ResetTree now h ok path ins = tt
  law_call w t (Insert label aux mac les hes reset schedule iv) now h ok path ins = law_insert w t label aux mac les hes reset schedule iv now h ok path
  law_call w t (Remove label aux mac) now h ok path ins = law_remove w t label aux mac now h ok path
  law_call w t (Try label aux leaf les) now h ok path ins = law_try w t label aux leaf les now h ok path ins
  law_call w t (Reset label aux leaf reset) now h ok path ins = law_reset w t label aux leaf reset now h ok path ins
  law_call w t (GetLog host) now h ok path ins = tt
  law_call w t (Replay label aux leaf) now h ok path ins = law_replay w t label aux leaf now h ok path ins
