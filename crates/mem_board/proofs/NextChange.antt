-- One call more of a board in memory.
use Rattle.std.proofs.Common.{◌≡◌, ◌≢◌, ◌⊎◌, inl, inr, ⊎_elim, ℕ, ◌<◌, List, ◌∷◌, Option, None, Some}
use Rattle.std.proofs.Common.{refl, sym, ap, ◌∙◌, subst, arith, Result, Ok, Err, OnOk, true, false}
use Rattle.std.specs.Prelude.{IsErr}
use Rattle.std.specs.FinMap.{get}
use Rattle.fault_count.specs.Told.{Becomes}
use Rattle.board_model.specs.Files.{Files, with_content}
use Rattle.board_model.specs.Disk.{Image, Disk, Same, SameBut, Written, Stored, Follows}
use Rattle.board_model.specs.Disk.{Leaves, Goes, GoesOrNot, Unchanged, IsWholeIn}
use Rattle.board_model.proofs.Effects.{leaves_none, goes_same, unchanged_none}
use Rattle.board_model.proofs.Effects.{goes_or_not_weaker}
use Rattle.board_model.proofs.Names.{get-inserted, get-removed, get-insert_other, get-remove_other}
use Rattle.mem_board.specs.Images.{changed, now_of, mended, SyncedBy, IsSynced, ImageBy}
use Rattle.mem_board.specs.Images.{IsImage, disk_of, InCall, DoneAs}
use Rattle.mem_board.specs.ImageLaws.{only_newest, synced_is_image}
use Rattle.mem_board.specs.Memory.{Memory, disk, next_outcome, Looks, Changes}
use Rattle.mem_board.specs.declared.change.Call.{Call}
use Rattle.mem_board.specs.declared.change.Change.{Change}
use Rattle.mem_board.specs.declared.change.Change.TheVariants.{Write, SyncTemp, Rename, Remove}
use Rattle.mem_board.specs.declared.change.Change.TheVariants.{SyncDir, Store}
use Rattle.mem_board.specs.declared.change.Outcome.{Outcome}
use Rattle.mem_board.specs.declared.change.Outcome.TheVariants.{Done, FailedDone, FailedNot}

-- what a call may leave, it may leave undone

pub in_none : (change : Change) (i : Image) → InCall change i i
in_none (Write name bytes) i = record { words = refl; others = λ q ne. refl }
in_none (SyncTemp name) i = record { words = refl; others = λ q ne. refl }
in_none (Rename from to) i = inl refl
in_none (Remove name) i = inl refl
in_none SyncDir i = refl
in_none (Store words) i = inl refl

pub same_but : (name : List ℕ) (d i : Image) → i ≡ d → SameBut name d i
same_but name d i e = record {
  words = ap (λ (x : Image). x.words) e;
  others = λ q ne. ap (λ (x : Image). get x.files q) e;
}

with_content_other : (files : Files) (name q : List ℕ) (o : Option (List ℕ)) → q ≢ name
    → get (with_content files name o) q ≡ get files q
with_content_other files name q None ne = get-remove_other files name q ne
with_content_other files name q (Some bytes) ne = get-insert_other files name bytes q ne

mended_but : (name : List ℕ) (now d i : Image) → i ≡ mended name now d → SameBut name d i
mended_but name now d i e = record {
  words = ap (λ (x : Image). x.words) e;
  others = λ q ne.
      ap (λ (x : Image). get x.files q) e ∙ with_content_other d.files name q (get now.files name) ne;
}

content_there : (files : Files) (name : List ℕ) (o : Option (List ℕ))
    → get (with_content files name o) name ≡ o
content_there files name None = get-removed files name
content_there files name (Some bytes) = get-inserted files name bytes

mended_there : (name : List ℕ) (now d i : Image) → i ≡ mended name now d
    → get i.files name ≡ get now.files name
mended_there name now d i e =
    ap (λ (x : Image). get x.files name) e ∙ content_there d.files name (get now.files name)

-- each image after a call is one from before it with what the call may leave
here : (change : Change) (outcome : Outcome) (now : Image) (synced before : Image → Type 0)
    → ((i : Image) → synced i → before i)
    → Follows (InCall change) before (ImageBy change outcome now synced before)
here (Write name bytes) outcome now synced before sub i h = h
here (SyncTemp name) Done now synced before sub i h =
    (h.0, h.1, ⊎_elim (λ none. same_but name h.0 i none.1) (λ e. mended_but name now h.0 i e) h.2)
here (SyncTemp name) FailedDone now synced before sub i h = (i, h, same_but name i i refl)
here (SyncTemp name) FailedNot now synced before sub i h = (i, h, same_but name i i refl)
here (Rename from to) outcome now synced before sub i h = h
here (Remove name) outcome now synced before sub i h = h
here SyncDir Done now synced before sub i h = (i, sub i h, refl)
here SyncDir FailedDone now synced before sub i h = (i, h, refl)
here SyncDir FailedNot now synced before sub i h = (i, h, refl)
here (Store words) Done now synced before sub i h = (h.0, h.1, inr h.2)
here (Store words) FailedDone now synced before sub i h = h
here (Store words) FailedNot now synced before sub i h = h

here_of : (first : Image) (calls : List Call) (call : Call)
    → Follows (InCall call.change) (IsImage first calls) (IsImage first (call ∷ calls))
here_of first calls call =
    here call.change call.outcome (now_of first calls) (IsSynced first calls) (IsImage first calls)
    (synced_is_image first calls)

leaves_call : (first : Image) (calls : List Call) (call : Call)
    → Leaves (disk_of first calls) (disk_of first (call ∷ calls)) (InCall call.change)
leaves_call first calls call = record {
  later = omega arith;
  each = λ i was.
      ⊎_elim (λ now. here_of first calls call i now)
      (λ h. (i, only_newest first calls i h.1, in_none call.change i)) was;
  here = here_of first calls call;
  before = λ t i le was. ⊎_elim (λ now. inr (here_of first calls call i now)) (λ h. inl h.1) was;
  keeps = λ t i le was. inr (le, was);
}

done_now : (change : Change) (i : Image) → DoneAs change i (changed change i)
done_now (Write name bytes) i =
    record { words = refl; others = λ q ne. get-insert_other i.files name bytes q ne }
done_now (SyncTemp name) i = same_but name i i refl
done_now (Rename from to) i = refl
done_now (Remove name) i = refl
done_now SyncDir i = refl
done_now (Store words) i = refl

done_synced : (change : Change) (now : Image) (before : Image → Type 0)
    → Follows (DoneAs change) before (SyncedBy change Done now before)
done_synced (Write name bytes) now before i h = h
done_synced (SyncTemp name) now before i h = (h.0, h.1, mended_but name now h.0 i h.2)
done_synced (Rename from to) now before i h = h
done_synced (Remove name) now before i h = h
done_synced SyncDir now before i h = (i, h, refl)
done_synced (Store words) now before i h = h

goes_done : (first : Image) (calls : List Call) (change : Change)
    → Goes (disk_of first calls)
    (disk_of first (record { change = change; outcome = Done } ∷ calls)) (DoneAs change)
goes_done first calls change = record {
  now = done_now change (now_of first calls);
  synced = done_synced change (now_of first calls) (IsSynced first calls);
}

-- the disk after a call that was stored with this outcome
abbrev pub then : Memory → Change → Outcome → Disk
then m change outcome = disk_of m.first (record { change = change; outcome = outcome } ∷ m.calls)

not_done : (m : Memory) (change : Change) (outcome : Outcome)
    → now_of m.first (record { change = change; outcome = outcome } ∷ m.calls) ≡ now_of m.first m.calls
    → Follows Same (IsSynced m.first m.calls)
    (IsSynced m.first (record { change = change; outcome = outcome } ∷ m.calls))
    → Goes (disk m) (then m change outcome) Same
not_done m change outcome now synced = record { now = now; synced = synced }

goes_or_not : (m : Memory) (change : Change) (outcome : Outcome)
    → GoesOrNot (disk m) (then m change outcome) (DoneAs change)
goes_or_not m change Done = inr (goes_done m.first m.calls change)
goes_or_not m (Write name bytes) FailedDone =
    inr (record { now = done_now (Write name bytes) (now_of m.first m.calls); synced = λ i h. h })
goes_or_not m (Write name bytes) FailedNot =
    inr (record { now = same_but name (now_of m.first m.calls) (now_of m.first m.calls) refl; synced = λ i h. h })
goes_or_not m (SyncTemp name) FailedDone =
    inl (not_done m (SyncTemp name) FailedDone refl (λ i h. (i, h, refl)))
goes_or_not m (SyncTemp name) FailedNot =
    inl (not_done m (SyncTemp name) FailedNot refl (λ i h. (i, h, refl)))
goes_or_not m (Rename from to) FailedDone = inr (record { now = refl; synced = λ i h. h })
goes_or_not m (Rename from to) FailedNot =
    inl (not_done m (Rename from to) FailedNot refl (λ i h. h))
goes_or_not m (Remove name) FailedDone = inr (record { now = refl; synced = λ i h. h })
goes_or_not m (Remove name) FailedNot = inl (not_done m (Remove name) FailedNot refl (λ i h. h))
goes_or_not m SyncDir FailedDone = inl (not_done m SyncDir FailedDone refl (λ i h. (i, h, refl)))
goes_or_not m SyncDir FailedNot = inl (not_done m SyncDir FailedNot refl (λ i h. (i, h, refl)))
goes_or_not m (Store words) FailedDone = inr (record { now = refl; synced = λ i h. h })
goes_or_not m (Store words) FailedNot = inl (not_done m (Store words) FailedNot refl (λ i h. h))

-- what holds of the disk of these calls holds of the board that has them
at_disk : (P : Disk → Type 0) (n : Memory) (first : Image) (calls : List Call)
    → n.first ≡ first → n.calls ≡ calls → P (disk_of first calls) → P (disk n)
at_disk P n first calls from are h =
    subst (λ x. P (disk_of x n.calls)) (sym from) (subst (λ l. P (disk_of first l)) (sym are) h)

-- what holds where nothing changed and where the call was stored holds after it
after : (P : Disk → Type 0) (change : Change) (m n : Memory) (Failing : Type 0)
    → P (disk m) → ((outcome : Outcome) → P (then m change outcome))
    → Changes change m n Failing → P (disk n)
after P change m n Failing same stored h =
    ⊎_elim (λ s. at_disk P n m.first _ h.counts.first s.calls (stored (next_outcome m)))
    (λ s. at_disk P n m.first m.calls h.counts.first s.calls same) h.ends

is_done : (outcome : Outcome) → (outcome ≢ Done → ⊥) → outcome ≡ Done
is_done Done h = refl
is_done FailedDone h = absurd (h (λ e. subst (λ o. elim o as (λ _. Type 0) [ Done ↦ ⊥ | FailedDone ↦ Unit {0} | FailedNot ↦ ⊥ ]) e tt))
is_done FailedNot h = absurd (h (λ e. subst (λ o. elim o as (λ _. Type 0) [ Done ↦ ⊥ | FailedDone ↦ ⊥ | FailedNot ↦ Unit {0} ]) e tt))

-- what holds where the call is done holds after one that didn't fail
after_done : (P : Disk → Type 0) (change : Change) (m n : Memory) (Failing : Type 0)
    → P (then m change Done) → Changes change m n Failing → (Failing → ⊥) → P (disk n)
after_done P change m n Failing done h fine =
    ⊎_elim (λ s. at_disk P n m.first _ h.counts.first s.calls (subst (λ o. P (then m change o)) (sym (is_done (next_outcome m) (λ listed. fine (s.failed.1 listed)))) done))
    (λ s. absurd (fine s.failed)) h.ends

on_ok : {A E : Type 0} (r : Result A E) (P : Type 0) → ((IsErr r → ⊥) → P) → OnOk r P
on_ok (Ok x) P f = f (λ e. subst (λ b. elim b as (λ _. Type 0) [ true ↦ ⊥ | false ↦ Unit {0} ]) e tt)
on_ok (Err x) P f = tt

module _ {A E : Type 0} (r : Result A E) (m n : Memory) where
  pub changes_leaves : (c : Change) → Changes c m n (IsErr r) → Leaves (disk m) (disk n) (InCall c)
  changes_leaves c h =
      after (λ d. Leaves (disk m) d (InCall c)) c m n (IsErr r)
      (leaves_none (disk m) (InCall c) (in_none c) (only_newest m.first m.calls))
      (λ o. leaves_call m.first m.calls (record { change = c; outcome = o })) h

  pub changes_or_not : (c : Change) → Changes c m n (IsErr r) → GoesOrNot (disk m) (disk n) (DoneAs c)
  changes_or_not c h =
      after (λ d. GoesOrNot (disk m) d (DoneAs c)) c m n (IsErr r) (inl (goes_same (disk m))) (goes_or_not m c) h

  pub changes_done : (c : Change) → Changes c m n (IsErr r) → OnOk r (Goes (disk m) (disk n) (DoneAs c))
  changes_done c h =
      on_ok r _ (after_done (λ d. Goes (disk m) d (DoneAs c)) c m n (IsErr r) (goes_done m.first m.calls c) h)

  pub changes_tick : (c : Change) → Changes c m n (IsErr r) → OnOk r ((disk m).ticks < (disk n).ticks)
  changes_tick c h = on_ok r _ (after_done (λ d. (disk m).ticks < d.ticks) c m n (IsErr r) (omega arith) h)

  pub write_done : (name bytes : List ℕ) → Changes (Write name bytes) m n (IsErr r)
      → OnOk r (Becomes (disk m).now (disk n).now (Written name bytes))
  write_done name bytes h =
      on_ok r _ (after_done (λ d. Becomes (disk m).now d.now (Written name bytes)) (Write name bytes) m n (IsErr r) refl h)

  pub goes_but : (c : Change) (name : List ℕ) → DoneAs c ≡ SameBut name
      → Changes c m n (IsErr r) → Goes (disk m) (disk n) (SameBut name)
  goes_but c name is h =
      goes_or_not_weaker (disk m) (disk n) (SameBut name) (SameBut name) (λ d i b. b) (same_but name)
      (subst (GoesOrNot (disk m) (disk n)) is (changes_or_not c h))

  pub sync_same : (name : List ℕ) → Changes (SyncTemp name) m n (IsErr r) → (disk n).now ≡ (disk m).now
  sync_same name h =
      after (λ d. d.now ≡ (disk m).now) (SyncTemp name) m n (IsErr r) refl stays h
    where
      stays : (outcome : Outcome) → (then m (SyncTemp name) outcome).now ≡ (disk m).now
      stays Done = refl
      stays FailedDone = refl
      stays FailedNot = refl

  pub sync_synced : (name : List ℕ) → Changes (SyncTemp name) m n (IsErr r)
      → OnOk r ((i : Image) → (disk n).once_synced i → IsWholeIn name (disk n).now i)
  sync_synced name h =
      on_ok r _ (after_done (λ d. (i : Image) → d.once_synced i → IsWholeIn name d.now i) (SyncTemp name) m n (IsErr r) whole h)
    where
      whole : (i : Image) → (then m (SyncTemp name) Done).once_synced i
          → IsWholeIn name (then m (SyncTemp name) Done).now i
      whole i s = mended_there name (now_of m.first m.calls) s.0 i s.2

  pub sync_whole : (name : List ℕ) → Changes (SyncTemp name) m n (IsErr r)
      → OnOk r ((i : Image) → (disk n).may_leave i
      → (get i.files name ≡ None) ⊎ IsWholeIn name (disk n).now i)
  sync_whole name h =
      on_ok r _ (after_done (λ d. (i : Image) → d.may_leave i → (get i.files name ≡ None) ⊎ IsWholeIn name d.now i) (SyncTemp name) m n (IsErr r) whole h)
    where
      whole : (i : Image) → (then m (SyncTemp name) Done).may_leave i
          → (get i.files name ≡ None) ⊎ IsWholeIn name (then m (SyncTemp name) Done).now i
      whole i s =
          ⊎_elim (λ none. inl (ap (λ (x : Image). get x.files name) none.1 ∙ none.0))
          (λ e. inr (mended_there name (now_of m.first m.calls) s.0 i e)) s.2

  pub dir_unchanged : Changes SyncDir m n (IsErr r) → Unchanged (disk m) (disk n)
  dir_unchanged h =
      after (Unchanged (disk m)) SyncDir m n (IsErr r) (unchanged_none (disk m) (only_newest m.first m.calls)) (λ o. record {
        now = stays o;
        goes = ⊎_elim (λ g. g) (λ g. g) (goes_or_not m SyncDir o);
        crash = leaves_call m.first m.calls (record { change = SyncDir; outcome = o });
      }) h
    where
      stays : (outcome : Outcome) → (then m SyncDir outcome).now ≡ (disk m).now
      stays Done = refl
      stays FailedDone = refl
      stays FailedNot = refl

  pub dir_stands : Changes SyncDir m n (IsErr r)
      → OnOk r ((i : Image) → (disk n).may_leave i → (disk m).once_synced i)
  dir_stands h =
      on_ok r _ (after_done (λ d. (i : Image) → d.may_leave i → (disk m).once_synced i) SyncDir m n (IsErr r) (λ i s. s) h)

  pub store_lasts : (words : List ℕ) → Changes (Store words) m n (IsErr r)
      → OnOk r (Follows (Stored words) (disk m).may_leave (disk n).may_leave)
  store_lasts words h =
      on_ok r _ (after_done (λ d. Follows (Stored words) (disk m).may_leave d.may_leave) (Store words) m n (IsErr r) (λ i s. s) h)

pub looks_unchanged : (m n : Memory) (Failing : Type 0) → Looks m n Failing
    → Unchanged (disk m) (disk n)
looks_unchanged m n Failing h =
    at_disk (Unchanged (disk m)) n m.first m.calls h.counts.first h.calls
    (unchanged_none (disk m) (only_newest m.first m.calls))
