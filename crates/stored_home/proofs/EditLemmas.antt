-- Each edit, step by step.
use Rattle.std.proofs.Common.{◌≡◌, ◌≢◌, ℕ, ◌<◌, ◌^◌, arith, [], ◌∷◌, Bool, false, None, Some, refl, sym, ap, ◌∙◌, subst, inl, inr, ⊎_elim}
use Rattle.std.specs.Prelude.{IsTrue, option_and_then}
use Rattle.std.specs.FinMap.{get, insert, remove}
use Rattle.account_machine.specs.declared.factor.Factor.{Factor}
use Rattle.account_machine.specs.declared.user.Durable.{Durable}
use Rattle.account_machine.specs.User.{no_home, new_home}
use Rattle.record_names.specs.Names.{is_account_name, is_factor_label, stash_name, factor_name}
use Rattle.share_api.specs.Contents.{Bytes, Contents, Records, settled}
use Rattle.share_api.specs.Steps.{done, with_leaf, doubted, leaf_of}
use Rattle.share_api.specs.declared.step.Write.TheVariants.{Put, Remove, RemoveLeaf}
use Rattle.share_api.specs.declared.leaf.Leaf.{Leaf}
use Rattle.share_api.proofs.StepLaws.{throughout_follows, throughout_insert}
use Rattle.stash_format.specs.declared.contents.Contents.{Contents as Stash}
use Rattle.factor_files.specs.declared.factor.FactorRecord.{FactorRecord}
use Rattle.factor_files.specs.Record.{factor_at}
use Rattle.stored_home.specs.Changes.{durable_with, durable_without, durable_with_file}
use Rattle.stored_home.specs.Unnamed.{NamesNot}
use Rattle.stored_home.specs.Adding.{HoldsEither}
use Rattle.stored_home.proofs.MapLemmas.{same_or_apart, put_at, put_other, taken_at, taken_other, not_None, from_some}
use Rattle.stored_home.specs.EditLaws.{CreateLaw, AddLaw, UpdateLaw, AddPinLaw, UpdatePinLaw, RemoveLaw, RemovePinLaw, ResealLaw, PutFileLaw, UnnamedRecordLaw, UnnamedLeafLaw, CountLaw}
use Rattle.stored_home.specs.Holds.{Keys, record_at, NamesLeaf, HoldsBy, HoldsStash, HoldsUnder}
use Rattle.stored_home.proofs.NameLemmas.{factor_not_stash}
use Rattle.stored_home.proofs.FrameLemmas.{factor_is_sound, other_removed}
use Rattle.stored_home.proofs.AddLemmas.{rows_same, new_row_read, with_row_held, with_stash_held, old_row_is_other}
use Rattle.stored_home.proofs.HomeLemmas.{home_made}
use Rattle.stored_home.proofs.ChangeLemmas.{factor_removed, removed_row_is_other, block_resealed, doubted_settled, fresh_leaf_held, unnamed_leaf_taken, counted_held, file_put_held}

pub create_law : CreateLaw
create_law era lost account keys contents bytes steps plain clear h read follows =
    throughout_follows era contents (Put (stash_name account) bytes ∷ []) steps
    (HoldsEither lost account keys no_home new_home) clear
    (inl h, inr (home_made lost account keys plain contents bytes read)) follows

pub add_law : AddLaw
add_law era lost account keys contents durable stash label factor payload block row row_bytes stash_bytes resets steps
    plain clear a follows =
    throughout_follows era contents
    (Put (factor_name account label stash.next) row_bytes ∷ Put (stash_name account) stash_bytes ∷ []) steps
    (HoldsEither lost account keys durable (durable_with durable label factor)) clear (
      inl (record { stash = Some stash; there = a.there; holds = a.holds }),
      (
        inl (with_row_held lost account keys plain contents durable stash label factor payload block row row_bytes stash_bytes
            resets a.there a.holds a.added),
        inr (with_stash_held lost account keys plain contents durable stash label factor payload block row row_bytes stash_bytes
            resets a.there a.holds a.added a.entries a.own a.bounds a.files),
      ),
    ) follows

pub update_law : UpdateLaw
update_law era lost account keys contents durable stash label factor old payload block row row_bytes stash_bytes resets steps
    plain clear at a follows =
    let after = with_stash_held lost account keys plain contents durable stash label factor payload block row row_bytes stash_bytes
    resets a.there a.holds a.added a.entries a.own a.bounds a.files in
    let contents_after = done (Put (stash_name account) stash_bytes)
    (done (Put (factor_name account label stash.next) row_bytes) contents) in
    throughout_follows era contents
    (Put (factor_name account label stash.next) row_bytes ∷ Put (stash_name account) stash_bytes
    ∷ Remove (factor_name account label old.edition) ∷ []) steps
    (HoldsEither lost account keys durable (durable_with durable label factor)) clear (
      inl (record { stash = Some stash; there = a.there; holds = a.holds }),
      (
        inl (with_row_held lost account keys plain contents durable stash label factor payload block row row_bytes stash_bytes
            resets a.there a.holds a.added),
        (
          inr after,
          inr (other_removed lost account keys plain contents_after (durable_with durable label factor)
              (factor_name account label old.edition)
              (old_row_is_other lost account keys plain contents durable stash label factor payload block row row_bytes stash_bytes
              resets a.there a.holds a.added a.entries a.own a.bounds a.files old at contents_after) after),
        ),
      ),
    ) follows

pub reseal_law : ResealLaw
reseal_law era lost account keys contents durable stash label factor block stash_bytes steps plain clear there h some at is read follows =
    throughout_follows era contents (Put (stash_name account) stash_bytes ∷ []) steps
    (λ c. HoldsUnder lost c account durable keys) clear (
      record { stash = Some stash; there = there; holds = h },
      block_resealed lost account keys plain contents durable stash label stash_bytes there h factor block some at is read,
    ) follows

pub put_file_law : PutFileLaw
put_file_law era lost account keys contents durable stash name bytes plain_bytes steps plain clear there h are some is bounds follows =
    throughout_follows era contents (Put (Rattle.record_names.specs.Names.file_name account name) bytes ∷ []) steps
    (HoldsEither lost account keys durable (durable_with_file durable name plain_bytes)) clear (
      inl (record { stash = Some stash; there = there; holds = h }),
      inr (file_put_held lost account keys plain contents durable stash name bytes plain_bytes there h are some is bounds),
    ) follows

pub remove_law : RemoveLaw
remove_law era lost account keys contents durable stash label old stash_bytes steps plain clear there h some at bounds read follows =
    let after = factor_removed lost account keys plain contents durable stash label stash_bytes there h some bounds read in
    let contents_after = done (Put (stash_name account) stash_bytes) contents in
    throughout_follows era contents
    (Put (stash_name account) stash_bytes ∷ Remove (factor_name account label old.edition) ∷ []) steps
    (HoldsEither lost account keys durable (durable_without durable label)) clear (
      inl (record { stash = Some stash; there = there; holds = h }),
      (
        inr after,
        inr (other_removed lost account keys plain contents_after (durable_without durable label)
            (factor_name account label old.edition)
            (removed_row_is_other lost account keys plain contents durable stash label stash_bytes there h old at contents_after) after),
      ),
    ) follows

-- ---- PINs

-- a leaf in doubt counts as taken away, so an insert that failed changes nothing that is held
doubted_held : (account : Bytes) (keys : Keys) (contents : Contents) (durable : Durable) (tree : ℕ) (leaf : Leaf)
    → contents.doubt ≡ None → get contents.leaves tree ≡ None
    → HoldsUnder false contents account durable keys
    → HoldsUnder false (doubted contents tree leaf) account durable keys
doubted_held account keys contents durable tree leaf clear free h =
    let same : settled (doubted contents tree leaf) ≡ settled contents = doubted_settled contents tree leaf clear free in
    record {
      stash = h.stash;
      there = h.there;
      holds = subst (λ c. HoldsStash false c account durable keys h.stash) (sym same) h.holds;
    }

pub add_pin_law : AddPinLaw
add_pin_law era account keys contents durable stash label factor leaf payload block row row_bytes stash_bytes resets steps
    plain clear h adds follows =
    throughout_insert era contents leaf
    (λ tree. Put (factor_name account label stash.next) (row_bytes tree) ∷ Put (stash_name account) stash_bytes ∷ [])
    (HoldsEither false account keys durable (durable_with durable label factor)) clear (inl h)
    (λ tree free. inl (doubted_held account keys contents durable tree (leaf_of leaf) clear free h))
    (λ tree free.
    let a = adds tree free in (
      inl (fresh_leaf_held false account keys contents durable tree clear (leaf_of leaf) free h),
      (
        inl (with_row_held false account keys plain (with_leaf contents tree (leaf_of leaf)) durable stash label factor payload
            block (row tree) (row_bytes tree) stash_bytes resets a.there a.holds a.added),
        inr (with_stash_held false account keys plain (with_leaf contents tree (leaf_of leaf)) durable stash label factor payload
            block (row tree) (row_bytes tree) stash_bytes resets a.there a.holds a.added a.entries a.own a.bounds a.files),
      ),
    )) steps follows

-- a leaf that another label's record names isn't the label's own; so the old leaf of a PIN, and the leaf of a removed
-- one, are named no more
module _ (account : Bytes) (keys : Keys) (contents : Contents) (durable : Durable) (stash : Stash) (label : Bytes)
    (old : Factor) (old_row : FactorRecord) (tree : ℕ)
    (h : HoldsBy false (settled contents) account durable keys stash)
    (at : get durable.factors label ≡ Some old)
    (read : record_at contents.records account label old.edition ≡ Some old_row)
    (names : old_row.leaf ≡ Some tree) where
  -- only the label names its leaf
  only_own : (q : Bytes) → NamesLeaf contents.records account durable.factors q tree → q ≡ label
  only_own q n = h.apart q label tree n
      (record { factor = old; row = old_row; there = at; read = read; names = names })

  -- once the factor is removed, no record names its leaf
  removed_leaf_is_unnamed : (new : Records)
      → ((q : Bytes) (f : Factor) → get durable.factors q ≡ Some f → record_at new account q f.edition ≡ record_at contents.records account q f.edition)
      → NamesNot new account (remove durable.factors label) tree
  removed_leaf_is_unnamed new same q n = ⊎_elim
      (λ e. not_None n.factor (sym n.there ∙ ap (get (remove durable.factors label)) e ∙ taken_at durable.factors label))
      (λ away.
      let was = sym (taken_other durable.factors label q away) ∙ n.there in
      away (only_own q (record {
        factor = n.factor;
        row = n.row;
        there = was;
        read = sym (same q n.factor was) ∙ n.read;
        names = n.names;
      })))
      (same_or_apart q label)

  -- once the factor has another leaf, no record names the old one
  old_leaf_is_unnamed : (new : Records) (factor : Factor) (row : FactorRecord) (new_tree : ℕ)
      → ((q : Bytes) (f : Factor) → q ≢ label → get durable.factors q ≡ Some f → record_at new account q f.edition ≡ record_at contents.records account q f.edition)
      → record_at new account label factor.edition ≡ Some row
      → row.leaf ≡ Some new_tree
      → new_tree ≢ tree
      → NamesNot new account (insert durable.factors label factor) tree
  old_leaf_is_unnamed new factor row new_tree same new_read new_names apart q n = ⊎_elim
      (λ e.
      let own : factor ≡ n.factor = from_some factor n.factor (sym (put_at durable.factors label factor)
      ∙ ap (get (insert durable.factors label factor)) (sym e) ∙ n.there) in
      let its : row ≡ n.row = from_some row n.row (sym new_read
      ∙ (λ i. record_at new account (sym e i) (own i).edition) ∙ n.read) in
      apart (from_some new_tree tree (sym new_names ∙ ap (λ (r : FactorRecord). r.leaf) its ∙ n.names)))
      (λ away.
      let was = sym (put_other durable.factors label factor q away) ∙ n.there in
      away (only_own q (record {
        factor = n.factor;
        row = n.row;
        there = was;
        read = sym (same q n.factor away was) ∙ n.read;
        names = n.names;
      })))
      (same_or_apart q label)

-- the put of the stash leaves each factor's record
stash_rows_same : (account : Bytes) → IsTrue (is_account_name account) → (records : Records) (bytes label : Bytes) (edition : ℕ)
    → IsTrue (is_factor_label label) → edition < 2 ^ 64
    → record_at (insert records (stash_name account) bytes) account label edition ≡ record_at records account label edition
stash_rows_same account plain records bytes label edition labelled within = ap (option_and_then factor_at)
    (put_other records (stash_name account) bytes (factor_name account label edition)
    (factor_not_stash account plain label edition labelled within))

-- the factors of a home have labels of factors, and editions of 64 bits
factor_within : (lost : Bool) (account : Bytes) (keys : Keys) (contents : Contents) (durable : Durable) (stash : Stash)
    → (h : HoldsBy lost (settled contents) account durable keys stash) → (label : Bytes) (factor : Factor)
    → get durable.factors label ≡ Some factor → IsTrue (is_factor_label label) × (factor.edition < stash.next) × (factor.edition < 2 ^ 64)
factor_within lost account keys contents durable stash h label factor at =
    let sound = factor_is_sound lost account keys.main h.resets contents.records (settled contents).leaves stash.next label
    (get stash.blocks label) (get durable.factors label) factor (h.sound.blocks label) (h.blocks label) at in
    let below = sound.1 in
    let within = h.sound.within in
    (sound.0, below, omega (arith, below, within))

pub remove_pin_law : RemovePinLaw
remove_pin_law era account keys contents durable stash label old old_row tree stash_bytes steps plain clear there h some at read names
    bounds stash_read follows =
    let after = factor_removed false account keys plain contents durable stash label stash_bytes there h some bounds stash_read in
    let contents_after = done (Put (stash_name account) stash_bytes) contents in
    let without_leaf = unnamed_leaf_taken false account keys contents_after (durable_without durable label) tree clear
    (removed_leaf_is_unnamed account keys contents durable stash label old old_row tree h at read names contents_after.records
    (λ q f there_now.
    let within = factor_within false account keys contents durable stash h q f there_now in
    stash_rows_same account plain contents.records stash_bytes q f.edition within.0 within.2)) after in
    throughout_follows era contents
    (Put (stash_name account) stash_bytes ∷ RemoveLeaf tree ∷ Remove (factor_name account label old.edition) ∷ []) steps
    (HoldsEither false account keys durable (durable_without durable label)) clear (
      inl (record { stash = Some stash; there = there; holds = h }),
      (
        inr after,
        (
          inr without_leaf,
          inr (other_removed false account keys plain (done (RemoveLeaf tree) contents_after) (durable_without durable label)
              (factor_name account label old.edition)
              (removed_row_is_other false account keys plain contents durable stash label stash_bytes there h old at
              (done (RemoveLeaf tree) contents_after)) without_leaf),
        ),
      ),
    ) follows

pub update_pin_law : UpdatePinLaw
update_pin_law era account keys contents durable stash label factor old old_row old_tree old_leaf leaf payload block row row_bytes
    stash_bytes resets steps plain clear h at read names found row_names adds follows =
    throughout_insert era contents leaf
    (λ tree. Put (factor_name account label stash.next) (row_bytes tree) ∷ Put (stash_name account) stash_bytes
    ∷ RemoveLeaf old_tree ∷ Remove (factor_name account label old.edition) ∷ [])
    (HoldsEither false account keys durable (durable_with durable label factor)) clear (inl h)
    (λ tree free. inl (doubted_held account keys contents durable tree (leaf_of leaf) clear free h))
    (λ tree free.
    let a = adds tree free in
    let start = with_leaf contents tree (leaf_of leaf) in
    let put_row = done (Put (factor_name account label stash.next) (row_bytes tree)) start in
    let put_stash = done (Put (stash_name account) stash_bytes) put_row in
    let within = factor_within false account keys start durable stash a.holds in
    let new_within : factor.edition < 2 ^ 64 = (let edition = a.added.edition in let room = a.added.room in omega (arith, edition, room)) in
    let after = with_stash_held false account keys plain start durable stash label factor payload
    block (row tree) (row_bytes tree) stash_bytes resets a.there a.holds a.added a.entries a.own a.bounds a.files in
    let unnamed = old_leaf_is_unnamed account keys start durable stash label old old_row old_tree a.holds at read names put_stash.records
    factor (row tree) tree
    (λ q f away there_now.
    let w = within q f there_now in
    stash_rows_same account plain put_row.records stash_bytes q f.edition w.0 w.2
    ∙ rows_same false account keys plain start durable stash label factor payload block (row tree) (row_bytes tree) stash_bytes resets
    a.there a.holds a.added q f there_now w.0 w.1)
    (stash_rows_same account plain put_row.records stash_bytes label factor.edition a.added.labelled new_within
    ∙ new_row_read false account keys plain start durable stash label factor payload block (row tree) (row_bytes tree) stash_bytes resets
    a.there a.holds a.added)
    (row_names tree free)
    (λ same. not_None old_leaf (sym found ∙ ap (get contents.leaves) (sym same) ∙ free)) in
    let without_leaf = unnamed_leaf_taken false account keys put_stash (durable_with durable label factor) old_tree clear unnamed after in (
      inl (fresh_leaf_held false account keys contents durable tree clear (leaf_of leaf) free h),
      (
        inl (with_row_held false account keys plain start durable stash label factor payload
            block (row tree) (row_bytes tree) stash_bytes resets a.there a.holds a.added),
        (
          inr after,
          (
            inr without_leaf,
            inr (other_removed false account keys plain (done (RemoveLeaf old_tree) put_stash) (durable_with durable label factor)
                (factor_name account label old.edition)
                (old_row_is_other false account keys plain start durable stash label factor payload block (row tree) (row_bytes tree)
                stash_bytes resets a.there a.holds a.added a.entries a.own a.bounds a.files old at
                (done (RemoveLeaf old_tree) put_stash)) without_leaf),
          ),
        ),
      ),
    )) steps follows

-- ---- what recovery removes, and what a try changes

pub unnamed_record_law : UnnamedRecordLaw
unnamed_record_law era lost account keys contents durable name steps plain clear unnamed h follows =
    throughout_follows era contents (Remove name ∷ []) steps (λ c. HoldsUnder lost c account durable keys) clear
    (h, other_removed lost account keys plain contents durable name unnamed h) follows

pub unnamed_leaf_law : UnnamedLeafLaw
unnamed_leaf_law era lost account keys contents durable tree steps clear unnamed h follows =
    throughout_follows era contents (RemoveLeaf tree ∷ []) steps (λ c. HoldsUnder lost c account durable keys) clear
    (h, unnamed_leaf_taken lost account keys contents durable tree clear unnamed h) follows

pub count_law : CountLaw
count_law = counted_held
