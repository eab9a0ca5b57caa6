-- The words that a chip reaches can be kept.
use Rattle.std.proofs.Common.{◌≡◌, ℕ, ◌/◌, ◌%◌, suc, ◌<◌, ◌≤◌, ◌^◌, ltb, List, [], ◌∷◌, length, refl, arith}
use Rattle.std.specs.Prelude.{bytes_eq}
use Rattle.std.proofs.lemmas.Bool.{ltb-true}
use Rattle.sha2.specs.Sha256.{sha256}
use Rattle.sha2.proofs.Facts256.{length-sha256}
use Rattle.pw_path.specs.Tree.{node_input, AllHashes, no_hash}
use Rattle.pw_path.specs.Path.{put_at, climb, root_of}
use Rattle.pw_path.proofs.TreeLemmas.{length-node_at}
use Rattle.pw_log.specs.declared.entry.LogEntry.{LogEntry}
use Rattle.pw_log.specs.declared.entry.TheConstants.{BLANK, RESET_TREE, INSERT, REMOVE, TRY, RESET, NO_VERDICT, RIGHT, WRONG}
use Rattle.pw_log.specs.Entries.{pushed}
use Rattle.pw_leaf.specs.declared.keys.ChipKeys.{ChipKeys}
use Rattle.pw_leaf.specs.Contents.{Contents, bumped, cleared}
use Rattle.pw_leaf.specs.LeafBytes.{leaf_mac}
use Rattle.pw_leaf.proofs.Cases.{on_cond, on_result}
use Rattle.pw_leaf.proofs.RecordLemmas.{length-leaf_mac}
use Rattle.pw_chip.specs.declared.reply.Reply.{Reply}
use Rattle.pw_chip.specs.declared.reply.Reply.TheVariants.{Released, Wrong, Cleared}
use Rattle.pw_chip.specs.State.{ChipState, empty_root, new_state, booted}
use Rattle.pw_chip.specs.Calls.{CallData, ResetTree, Insert, Remove, Try, Reset, GetLog, Replay}
use Rattle.pw_chip.specs.Step.{logged, leaf_entry, opened, try_opened, after_try, reset_opened, after_reset, is_replayed, reset_tree_step, insert_step, remove_step, try_step, reset_step, replay_step, step}
use Rattle.pw_chip.specs.Ledger.{Event, Boots, Calls}
use Rattle.pw_chip.specs.Law.{AreEvents}
use Rattle.pw_chip.specs.History.{words_in_the_end}
use Rattle.pw_chip.specs.WordsBytes.{IsKept, IsWords}
use Rattle.pw_chip.proofs.GenuineLemmas.{opened_has}

-- ---- hashes have 32 bytes

length-climb : (level i : ℕ) (hash : List ℕ) (rows : List (List (List ℕ))) → length hash ≡ 32 → length (climb level i hash rows) ≡ 32
unfolding climb
length-climb level i hash [] long = long
length-climb level i hash (row ∷ rows) long =
    length-climb (suc level) (i / 4) (sha256 (node_input (suc level) (put_at (i % 4) hash row))) rows
    (length-sha256 (node_input (suc level) (put_at (i % 4) hash row)))

length-empty_root : length empty_root ≡ 32
unfolding empty_root AllHashes
length-empty_root = length-node_at (λ label. no_hash) (λ i. refl) 7 0

-- ---- entries

-- what an operation notes of its verdict
fits : (operation verdict : ℕ) → verdict ≤ WRONG → ((1 ≤ verdict → operation ≡ TRY) × (operation ≡ TRY → 1 ≤ verdict)) → (operation ≤ RESET) → (label : ℕ) (root mac : List ℕ) (boot now : ℕ)
    → label < 16384 → length root ≡ 32 → length mac ≡ 32 → boot < 2 ^ 64 → now < 2 ^ 40
    → IsKept (record { operation = operation; label = label; root = root; mac = mac; verdict = verdict; stamp = record { boot = boot; at = now } })
fits operation verdict most tried known label root mac boot now small long_root long_mac small_boot timely =
    record {
      ranges = record { operation = known; label = small; verdict = most; tried = tried; moment = timely };
      root = long_root;
      mac = long_mac;
      boot = small_boot;
    }

blank_kept : IsKept (record { operation = BLANK; label = 0; root = empty_root; mac = no_hash; verdict = NO_VERDICT; stamp = record { boot = 0; at = 0 } })
blank_kept = fits BLANK NO_VERDICT (omega arith) (λ l. omega arith, λ e. omega arith) (omega arith) 0 empty_root no_hash 0 0 (omega arith) length-empty_root refl (omega arith) (omega arith)

-- the words after an entry that can be kept
kept_logged : (w : ChipState) (e : LogEntry) → IsWords w → IsKept e → IsWords (logged w e)
unfolding logged
kept_logged w e is kept =
    on_cond IsWords (bytes_eq e.root w.log.newest.root) w (record w { log = pushed w.log e }) (λ _. is)
    (λ _. record { mac_key = is.mac_key; cipher_key = is.cipher_key; booted = is.booted; boot = is.boot; start = is.start; newest = kept; older = is.newest })

-- the entry of a leaf
leaf_kept : (keys : ChipKeys) (operation verdict label : ℕ) (aux : List (List (List ℕ))) (x : Contents) (boot now : ℕ)
    → verdict ≤ WRONG → ((1 ≤ verdict → operation ≡ TRY) × (operation ≡ TRY → 1 ≤ verdict)) → (operation ≤ RESET) → label < 16384 → boot < 2 ^ 64 → now < 2 ^ 40
    → IsKept (leaf_entry keys operation verdict label aux x (record { boot = boot; at = now }))
leaf_kept keys operation verdict label aux x boot now most tried known small small_boot timely =
    fits operation verdict most tried known label (root_of label (leaf_mac keys x) aux) (leaf_mac keys x) boot now small
    (length-climb 0 label (leaf_mac keys x) aux (length-leaf_mac keys x)) (length-leaf_mac keys x) small_boot timely

-- ---- calls

module _ (w : ChipState) (is : IsWords w) (now : ℕ) (timely : now < 2 ^ 40) where
  P : Reply × ChipState → Type 0
  P r = IsWords r.1

  after_try_kept : (label : ℕ) (aux : List (List (List ℕ))) (x : Contents) → label < 16384 → (reply : Reply) → IsWords (after_try w label aux x (record { boot = w.boot; at = now }) reply)
  after_try_kept label aux x small (Released leaf hes) =
      kept_logged w _ is (leaf_kept w.keys TRY RIGHT label aux (cleared x) w.boot now (omega arith) (λ l. refl, λ e. omega arith) (omega arith) small is.boot timely)
  after_try_kept label aux x small (Wrong leaf) =
      kept_logged w _ is (leaf_kept w.keys TRY WRONG label aux (bumped (record { boot = w.boot; at = now }) x) w.boot now (omega arith) (λ l. refl, λ e. omega arith) (omega arith) small is.boot timely)
  after_try_kept label aux x small _ = is

  after_reset_kept : (label : ℕ) (aux : List (List (List ℕ))) (x : Contents) → label < 16384 → (reply : Reply) → IsWords (after_reset w label aux x (record { boot = w.boot; at = now }) reply)
  after_reset_kept label aux x small (Cleared leaf) =
      kept_logged w _ is (leaf_kept w.keys RESET NO_VERDICT label aux (cleared x) w.boot now (omega arith) (λ l. omega arith, λ e. omega arith) (omega arith) small is.boot timely)
  after_reset_kept label aux x small _ = is

  insert_kept : (label : ℕ) (aux : List (List (List ℕ))) (mac : List ℕ) (x : Contents) → IsWords (insert_step w label aux mac x now).1
  unfolding P insert_step
  insert_kept label aux mac x =
      on_cond P (ltb label 16384) _ _
      (λ small. on_cond P (bytes_eq (root_of label mac aux) w.log.newest.root) _ _
      (λ _. on_cond P (bytes_eq mac no_hash) _ _
      (λ _. kept_logged w _ is (leaf_kept w.keys INSERT NO_VERDICT label aux x w.boot now (omega arith) (λ l. omega arith, λ e. omega arith) (omega arith) (ltb-true label 16384 small) is.boot timely))
      (λ _. is))
      (λ _. is))
      (λ _. is)

  remove_kept : (label : ℕ) (aux : List (List (List ℕ))) (mac : List ℕ) → IsWords (remove_step w label aux mac now).1
  unfolding P remove_step
  remove_kept label aux mac =
      on_cond P (ltb label 16384) _ _
      (λ small. on_cond P (bytes_eq (root_of label mac aux) w.log.newest.root) _ _
      (λ _. on_cond P (bytes_eq mac no_hash) _ _ (λ _. is)
      (λ _. kept_logged w _ is
      (fits REMOVE NO_VERDICT (omega arith) (λ l. omega arith, λ e. omega arith) (omega arith) label (root_of label no_hash aux) no_hash w.boot now (ltb-true label 16384 small)
      (length-climb 0 label no_hash aux refl) refl is.boot timely)))
      (λ _. is))
      (λ _. is)

  replay_kept : (label : ℕ) (aux : List (List (List ℕ))) (leaf : List ℕ) → IsWords (replay_step w label aux leaf).1
  unfolding P replay_step
  replay_kept label aux leaf =
      on_cond P (ltb label 16384) _ _
      (λ _. on_cond P (is_replayed w.log.newest label) _ _ (λ _. is) (λ _. is))
      (λ _. is)

  -- each call keeps what can be kept
  pub call_kept : (call : CallData) → IsWords (step w call now).1
  unfolding P step reset_tree_step try_step reset_step
  call_kept ResetTree =
      kept_logged w _ is (fits RESET_TREE NO_VERDICT (omega arith) (λ l. omega arith, λ e. omega arith) (omega arith) 0 empty_root no_hash w.boot now (omega arith) length-empty_root refl is.boot timely)
  call_kept (Insert label aux mac les hes reset schedule iv) = insert_kept label aux mac _
  call_kept (Remove label aux mac) = remove_kept label aux mac
  call_kept (Try label aux leaf les) =
      on_result (λ r. IsWords (try_opened w label aux les now r).1) (opened w.keys w.log.newest.root label aux leaf)
      (λ x e. after_try_kept label aux x (opened_has w.keys w.log.newest.root label aux leaf x e).small _) (λ r _. is)
  call_kept (Reset label aux leaf reset) =
      on_result (λ r. IsWords (reset_opened w label aux reset now r).1) (opened w.keys w.log.newest.root label aux leaf)
      (λ x e. after_reset_kept label aux x (opened_has w.keys w.log.newest.root label aux leaf x e).small _) (λ r _. is)
  call_kept (GetLog host) = is
  call_kept (Replay label aux leaf) = replay_kept label aux leaf

-- ---- boots

boot_kept : (w : ChipState) (moment : ℕ) → IsWords w → moment < 2 ^ 40 → IsWords (booted w moment)
boot_kept w moment is timely =
    let some = is.booted in
    record { mac_key = is.mac_key; cipher_key = is.cipher_key; booted = omega arith; boot = omega arith; start = timely; newest = is.newest; older = is.older }

new_booted : (keys : ChipKeys) (moment : ℕ) → length keys.mac ≡ 32 → length keys.enc ≡ 32 → moment < 2 ^ 40 → IsWords (booted (new_state keys) moment)
new_booted keys moment mac enc timely =
    record { mac_key = mac; cipher_key = enc; booted = omega arith; boot = omega arith; start = timely; newest = blank_kept; older = blank_kept }

pub events_kept : (events : List Event) (w : ChipState) → IsWords w → AreEvents events → IsWords (words_in_the_end w events)
unfolding words_in_the_end AreEvents
events_kept [] w is ok = is
events_kept (Boots moment ∷ events) w is ok = events_kept events (booted w moment) (boot_kept w moment is ok.0) ok.1
events_kept (Calls call now ∷ events) w is ok = events_kept events (step w call now).1 (call_kept w is now ok.0.0 call) ok.1

pub IsWords-reached : (keys : ChipKeys) (moment : ℕ) (events : List Event) → length keys.mac ≡ 32 → length keys.enc ≡ 32 → moment < 2 ^ 40 → AreEvents events
    → IsWords (words_in_the_end (booted (new_state keys) moment) events)
IsWords-reached keys moment events mac enc timely ok = events_kept events (booted (new_state keys) moment) (new_booted keys moment mac enc timely) ok
