-- A host that is in step, and presents the record and the path that stand there, is answered.
use Rattle.std.proofs.Common.{◌≡◌, ℕ, ◌<◌, Bool, true, false, Option, None, Ok, List, refl, sym, ◌∙◌, ap}
use Rattle.std.specs.Prelude.{bytes_eq}
use Rattle.std.proofs.lemmas.Bool.{lt-ltb}
use Rattle.std.proofs.lemmas.Slice.Eq.{bytes_eq-Decides}
use Rattle.pw_path.specs.Tree.{root, no_hash}
use Rattle.pw_path.specs.Path.{root_of}
use Rattle.pw_path.proofs.TreeLemmas.{root_of_true}
use Rattle.pw_log.specs.declared.entry.LogEntry.{LogEntry}
use Rattle.pw_log.specs.declared.entry.TheConstants.{INSERT, REMOVE, NO_VERDICT}
use Rattle.pw_log.specs.Entries.{pushed}
use Rattle.pw_leaf.specs.declared.keys.ChipKeys.{ChipKeys}
use Rattle.pw_leaf.specs.Contents.{Contents, new_contents}
use Rattle.pw_leaf.specs.LeafBytes.{leaf_bytes, leaf_mac}
use Rattle.pw_leaf.specs.Reading.{mac_of}
use Rattle.pw_leaf.proofs.Cases.{on_cond}
use Rattle.pw_leaf.proofs.RecordLemmas.{check_at-leaf_bytes}
use Rattle.pw_chip.specs.declared.reply.Reply.TheVariants.{Done, Inserted, Replayed}
use Rattle.pw_chip.specs.State.{ChipState}
use Rattle.pw_chip.specs.Calls.{Insert, Remove, Try, Reset, Replay}
use Rattle.pw_chip.specs.Step.{logged, leaf_entry, opened, tried, after_try, try_opened, try_step, reset_at, after_reset, reset_opened, reset_step, remove_step, is_replayed, redone_by, is_full, step}
use Rattle.pw_chip.specs.Law.{value_of, values}
use Rattle.pw_chip.specs.Standing.{Stands, true_path}
use Rattle.pw_chip.proofs.OpenLemmas.{length_read, mac_of-leaf_bytes, opened-ok}
use Rattle.pw_chip.proofs.StepLemmas.{insert_step-ok, replay_step-done}

-- the leaf that stands at a label is opened by its record and its true path
pub opened-standing : (keys : ChipKeys) (leaves : ℕ → Option Contents) (tree_root : List ℕ) (label : ℕ) (x : Contents) → Stands keys leaves tree_root label x
    → opened keys tree_root label (true_path keys leaves label) (leaf_bytes keys x) ≡ Ok x
opened-standing keys leaves tree_root label x is =
    let aux = true_path keys leaves label in
    let checked = check_at-leaf_bytes keys x is.contents in
    let long = length_read keys (leaf_bytes keys x) x checked in
    let mac : mac_of (leaf_bytes keys x) ≡ values keys leaves label = mac_of-leaf_bytes keys x long ∙ ap (value_of keys) (sym is.there) in
    let path : root_of label (mac_of (leaf_bytes keys x)) aux ≡ tree_root = ap (λ m. root_of label m aux) mac ∙ root_of_true (values keys leaves) label is.small ∙ sym is.root in
    opened-ok keys tree_root label aux (leaf_bytes keys x) x is.small checked is.own ((bytes_eq-Decides (root_of label (mac_of (leaf_bytes keys x)) aux) tree_root).1 path)

-- a test that isn't true
is_false : (b : Bool) → (b ≡ true → ⊥) → b ≡ false
is_false true f = absurd (f refl)
is_false false f = refl

module _ (w : ChipState) (leaves : ℕ → Option Contents) (label : ℕ) (x : Contents) where
  -- a try of it is answered by what it holds
  pub try-standing : (les : List ℕ) (now : ℕ) → Stands w.keys leaves w.log.newest.root label x
      → step w (Try label (true_path w.keys leaves label) (leaf_bytes w.keys x) les) now
      ≡ (
        tried w.keys x les (record { boot = w.boot; at = now }) w.start,
        after_try w label (true_path w.keys leaves label) x (record { boot = w.boot; at = now }) (tried w.keys x les (record { boot = w.boot; at = now }) w.start),
      )
  unfolding step try_step
  try-standing les now is =
      ap (try_opened w label (true_path w.keys leaves label) les now) (opened-standing w.keys leaves w.log.newest.root label x is)

  -- a reset too
  pub reset-standing : (reset : List ℕ) (now : ℕ) → Stands w.keys leaves w.log.newest.root label x
      → step w (Reset label (true_path w.keys leaves label) (leaf_bytes w.keys x) reset) now
      ≡ (reset_at w.keys x reset, after_reset w label (true_path w.keys leaves label) x (record { boot = w.boot; at = now }) (reset_at w.keys x reset))
  unfolding step reset_step
  reset-standing reset now is =
      ap (reset_opened w label (true_path w.keys leaves label) reset now) (opened-standing w.keys leaves w.log.newest.root label x is)

  -- one that stood in the tree of the older root is redone, where the newest entry is of its label
  pub replay-standing : (now : ℕ) → Stands w.keys leaves w.log.older.root label x → is_replayed w.log.newest label ≡ true → is_full w.log.newest.verdict x ≡ false
      → step w (Replay label (true_path w.keys leaves label) (leaf_bytes w.keys x)) now
      ≡ (Replayed (leaf_bytes w.keys (redone_by w.log.newest.verdict w.log.newest.stamp x)), w)
  unfolding step
  replay-standing now is of_label room =
      replay_step-done w label (true_path w.keys leaves label) (leaf_bytes w.keys x) w.log.newest is.small refl of_label x
      (opened-standing w.keys leaves w.log.older.root label x is) false room _ refl

  -- it is removed by its MAC
  pub remove-standing : (now : ℕ) → Stands w.keys leaves w.log.newest.root label x → (leaf_mac w.keys x ≡ no_hash → ⊥)
      → step w (Remove label (true_path w.keys leaves label) (leaf_mac w.keys x)) now
      ≡ (Done, logged w (record { operation = REMOVE; label = label; root = root_of label no_hash (true_path w.keys leaves label); mac = no_hash; verdict = NO_VERDICT; stamp = record { boot = w.boot; at = now } }))
  unfolding step remove_step
  remove-standing now is used =
      let aux = true_path w.keys leaves label in
      let path : root_of label (leaf_mac w.keys x) aux ≡ w.log.newest.root =
      ap (λ o. root_of label (value_of w.keys o) aux) (sym is.there) ∙ root_of_true (values w.keys leaves) label is.small ∙ sym is.root in
      let in_tree = (bytes_eq-Decides (root_of label (leaf_mac w.keys x) aux) w.log.newest.root).1 path in
      let some = is_false (bytes_eq (leaf_mac w.keys x) no_hash) (λ same. used ((bytes_eq-Decides (leaf_mac w.keys x) no_hash).0 same)) in
      rw (lt-ltb label 16384 is.small) (rw in_tree (rw some refl))

-- a new leaf is inserted at an unused label
pub insert-standing : (w : ChipState) (leaves : ℕ → Option Contents) (label : ℕ) (les hes reset : List ℕ) (schedule : List (ℕ × ℕ)) (iv : List ℕ) (now : ℕ)
    → label < 16384 → leaves label ≡ None → w.log.newest.root ≡ root (values w.keys leaves)
    → step w (Insert label (true_path w.keys leaves label) no_hash les hes reset schedule iv) now
    ≡ (
      Inserted (leaf_bytes w.keys (new_contents label les hes reset schedule iv)),
      logged w (leaf_entry w.keys INSERT NO_VERDICT label (true_path w.keys leaves label) (new_contents label les hes reset schedule iv) (record { boot = w.boot; at = now })),
    )
unfolding step
insert-standing w leaves label les hes reset schedule iv now small unused is =
    let aux = true_path w.keys leaves label in
    let path : root_of label no_hash aux ≡ w.log.newest.root =
    ap (λ o. root_of label (value_of w.keys o) aux) (sym unused) ∙ root_of_true (values w.keys leaves) label small ∙ sym is in
    insert_step-ok w label aux no_hash (new_contents label les hes reset schedule iv) now small
    ((bytes_eq-Decides (root_of label no_hash aux) w.log.newest.root).1 path) ((bytes_eq-Decides no_hash no_hash).1 refl)

-- after an entry the chip has its root, whether it was noted or not
pub logged-root : (w : ChipState) (e : LogEntry) → (logged w e).log.newest.root ≡ e.root
unfolding logged
logged-root w e =
    on_cond (λ v. v.log.newest.root ≡ e.root) (bytes_eq e.root w.log.newest.root) w (record w { log = pushed w.log e })
    (λ same. sym ((bytes_eq-Decides e.root w.log.newest.root).0 same)) (λ _. refl)
