-- The laws of the images of a board in memory. (They are proved here, as the board's laws cite them.)
use Rattle.std.specs.Prelude.{◌≡◌, ◌⊎◌, ℕ, ◌≤◌, List, [], ◌∷◌, length, Option, None, Some}
use mathlib.Core.Logic.{inl, inr}
use mathlib.Core.Path.{refl, sym, ap, ◌∙◌}
use native.Mathlib.Omega.{arith}
use mathlib.Core.Bool.{Bool, true, false, cond}
use Rattle.std.specs.Ordering.{nat_cmp, eq_by_cmp}
use Rattle.std.specs.Cmp.Lexicographic.{slice_cmp, nat_list_cmp_total}
use Rattle.std.specs.FinMap.{get, get-insert, get-remove, same_map}
use Rattle.std.specs.FinMap.{slice_cmp-IsAntisymmetric, nat_cmp-IsAntisymmetric}
use Rattle.board_model.specs.Files.{Files, with_content}
use Rattle.board_model.specs.Disk.{Image}
use Rattle.board_model.proofs.Names.{same_or_apart, get-insert_other}
use Rattle.mem_board.specs.Images.{changed, changed_by, now_of, SyncedBy, IsSynced, ImageBy}
use Rattle.mem_board.specs.Images.{IsImage, WasImage}
use Rattle.mem_board.specs.declared.change.Call.{Call}
use Rattle.mem_board.specs.declared.change.Change.{Change}
use Rattle.mem_board.specs.declared.change.Change.TheVariants.{Write, SyncTemp, Rename, Remove}
use Rattle.mem_board.specs.declared.change.Change.TheVariants.{SyncDir, Store}
use Rattle.mem_board.specs.declared.change.Outcome.{Outcome}
use Rattle.mem_board.specs.declared.change.Outcome.TheVariants.{Done, FailedDone, FailedNot}

pub counted : (first : Image) (calls : List Call) (t : ℕ) (i : Image) → IsImage first calls i → WasImage first calls t i
counted first [] t i is = is
counted first (call ∷ calls) t i is = inl is

pub was_earlier : (first : Image) (calls : List Call) (t u : ℕ) (i : Image) → t ≤ u → WasImage first calls u i → WasImage first calls t i
was_earlier first [] t u i le was = was
was_earlier first (call ∷ calls) t u i le (inl is) = inl is
was_earlier first (call ∷ calls) t u i le (inr h) =
    inr (omega (arith, le, h.0), was_earlier first calls t u i le h.1)

pub only_newest : (first : Image) (calls : List Call) (i : Image) → WasImage first calls (length calls) i → IsImage first calls i
only_newest first [] i was = was
only_newest first (call ∷ calls) i (inl is) = is
only_newest first (call ∷ calls) i (inr h) = absurd (omega (arith, h.0))

maybe_done : (change : Change) (outcome : Outcome) (d i : Image) → i ≡ changed_by change outcome d → (i ≡ d) ⊎ (i ≡ changed change d)
maybe_done change Done d i e = inr e
maybe_done change FailedDone d i e = inr e
maybe_done change FailedNot d i e = inl e

synced_step : (change : Change) (outcome : Outcome) (now : Image) (synced before : Image → Type 0) → ((i : Image) → synced i → before i) → (i : Image) → SyncedBy change outcome now synced i → ImageBy change outcome now synced before i
synced_step (Write name bytes) outcome now synced before sub i h = (h.0, sub h.0 h.1, h.2)
synced_step (SyncTemp name) Done now synced before sub i h = (h.0, sub h.0 h.1, inr h.2)
synced_step (SyncTemp name) FailedDone now synced before sub i h = sub i h
synced_step (SyncTemp name) FailedNot now synced before sub i h = sub i h
synced_step (Rename from to) outcome now synced before sub i h = (h.0, sub h.0 h.1, maybe_done (Rename from to) outcome h.0 i h.2)
synced_step (Remove name) outcome now synced before sub i h = (h.0, sub h.0 h.1, maybe_done (Remove name) outcome h.0 i h.2)
synced_step SyncDir Done now synced before sub i h = h
synced_step SyncDir FailedDone now synced before sub i h = sub i h
synced_step SyncDir FailedNot now synced before sub i h = sub i h
synced_step (Store words) Done now synced before sub i h = (h.0, sub h.0 h.1, h.2)
synced_step (Store words) FailedDone now synced before sub i h = (h.0, sub h.0 h.1, inr h.2)
synced_step (Store words) FailedNot now synced before sub i h = (h.0, sub h.0 h.1, inl h.2)

pub synced_is_image : (first : Image) (calls : List Call) (i : Image) → IsSynced first calls i → IsImage first calls i
synced_is_image first [] i h = h
synced_is_image first (call ∷ calls) i h = synced_step call.change call.outcome (now_of first calls) (IsSynced first calls) (IsImage first calls) (synced_is_image first calls) i h

same_choice : {A : Type 0} (x : Option A) (b : Bool) → cond b x x ≡ x
same_choice x true = refl
same_choice x false = refl

-- what stands under a name already changes nothing there
kept_at : (files : Files) (name q : List ℕ) (o : Option (List ℕ)) → get files name ≡ o
    → cond (eq_by_cmp (slice_cmp nat_cmp) q name) o (get files q) ≡ get files q
kept_at files name q o is =
    elim (same_or_apart q name) [
      | inl same ↦
          ap (λ x. cond (eq_by_cmp (slice_cmp nat_cmp) q name) x (get files q)) (sym is ∙ ap (get files) (sym same))
          ∙ same_choice (get files q) (eq_by_cmp (slice_cmp nat_cmp) q name)
      | inr apart ↦ ap (λ b. cond b o (get files q)) apart
    ]

with_content_kept : (files : Files) (name : List ℕ) (o : Option (List ℕ)) → get files name ≡ o
    → with_content files name o ≡ files
with_content_kept files name None is =
    same_map nat_list_cmp_total (slice_cmp-IsAntisymmetric nat_cmp-IsAntisymmetric) _ _ (λ q.
    get-remove nat_list_cmp_total files name q ∙ kept_at files name q None is)
with_content_kept files name (Some bytes) is =
    same_map nat_list_cmp_total (slice_cmp-IsAntisymmetric nat_cmp-IsAntisymmetric) _ _ (λ q.
    get-insert nat_list_cmp_total files name bytes q ∙ kept_at files name q (Some bytes) is)

now_step : (change : Change) (outcome : Outcome) (now : Image) (synced : Image → Type 0) → synced now → SyncedBy change outcome now synced (changed_by change outcome now)
now_step (Write name bytes) Done now synced is = (now, is, record { words = refl; others = λ q ne. get-insert_other now.files name bytes q ne })
now_step (Write name bytes) FailedDone now synced is = (now, is, record { words = refl; others = λ q ne. get-insert_other now.files name bytes q ne })
now_step (Write name bytes) FailedNot now synced is = (now, is, record { words = refl; others = λ q ne. refl })
now_step (SyncTemp name) Done now synced is = (now, is, ap (λ (f : Files). record { files = f; words = now.words }) (sym (with_content_kept now.files name (get now.files name) refl)))
now_step (SyncTemp name) FailedDone now synced is = is
now_step (SyncTemp name) FailedNot now synced is = is
now_step (Rename from to) outcome now synced is = (now, is, refl)
now_step (Remove name) outcome now synced is = (now, is, refl)
now_step SyncDir Done now synced is = is
now_step SyncDir FailedDone now synced is = is
now_step SyncDir FailedNot now synced is = is
now_step (Store words) outcome now synced is = (now, is, refl)

pub now_is_image : (first : Image) (calls : List Call) → IsSynced first calls (now_of first calls)
now_is_image first [] = refl
now_is_image first (call ∷ calls) = now_step call.change call.outcome (now_of first calls) (IsSynced first calls) (now_is_image first calls)
