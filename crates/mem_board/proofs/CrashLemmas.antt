-- The image that is chosen is one that a crash may leave.
use Rattle.std.proofs.Common.{◌≡◌, ◌⊎◌, ⊎_elim, inl, inr, ℕ, suc, ◌<◌, ◌≤◌, ◌/◌, ◌%◌, Bool, true, false, cond, nat_eq, nat_lt}
use Rattle.std.proofs.Common.{get_or, drop, ◌+◌, ◌-◌, length-drop}
use Rattle.std.proofs.lemmas.List.{at_drop_more, drop_more, drop_all}
use Rattle.std.proofs.Common.{List, [], ◌∷◌, length, take, None, Some, is_some, refl, sym, ap, ◌∙◌, subst, arith}
use Rattle.std.proofs.lemmas.Bool.{lt-ltb, le-ltb, cases_lt}
use Rattle.std.specs.FinMap.{get}
use Rattle.board_model.specs.Disk.{Image, SameBut}
use Rattle.board_model.proofs.Names.{get-insert_other, get-remove_other}
use Rattle.mem_board.specs.Images.{changed, changed_by, now_of, mended, Mended, SyncedBy, IsSynced}
use Rattle.mem_board.specs.Images.{ImageBy, IsImage, WasImage}
use Rattle.mem_board.specs.Crash.{choices, written_as, synced_as, chosen, is_dir_sync}
use Rattle.mem_board.specs.Crash.{synced_to, Choice, choice_at, next_choice}
use Rattle.mem_board.specs.declared.change.Call.{Call}
use Rattle.mem_board.specs.declared.change.Change.{Change}
use Rattle.mem_board.specs.declared.change.Change.TheVariants.{Write, SyncTemp, Rename, Remove}
use Rattle.mem_board.specs.declared.change.Change.TheVariants.{SyncDir, Store}
use Rattle.mem_board.specs.declared.change.Outcome.{Outcome}
use Rattle.mem_board.specs.declared.change.Outcome.TheVariants.{Done, FailedDone, FailedNot}

not_true : false ≡ true → ⊥
not_true e = subst (λ b. elim b as (λ _. Type 0) [ true ↦ ⊥ | false ↦ Unit {0} ]) e tt

-- what holds of both holds of the one that a test picks
either : {A : Type 0} (P : A → Type 0) (b : Bool) (x y : A) → P x → P y → P (cond b x y)
either P true x y px py = px
either P false x y px py = py

written_but : (digit : ℕ) (name bytes : List ℕ) (i : Image) → SameBut name i (written_as digit name bytes i)
written_but digit name bytes i =
    either (SameBut name i) (nat_eq digit 0) _ _ (new bytes)
    (either (SameBut name i) (nat_eq digit 1) _ _ (record { words = refl; others = λ q ne. refl })
    (either (SameBut name i) (nat_eq digit 2) _ _
    (record { words = refl; others = λ q ne. get-remove_other i.files name q ne })
    (new (take (length bytes / 2) bytes))))
  where
    new : (bs : List ℕ) → SameBut name i (changed (Write name bs) i)
    new bs = record { words = refl; others = λ q ne. get-insert_other i.files name bs q ne }

-- done or not
maybe : (digit : ℕ) (change : Change) (i : Image)
    → let j = cond (nat_eq digit 0) (changed change i) i in (j ≡ i) ⊎ (j ≡ changed change i)
maybe digit change i =
    either (λ j. (j ≡ i) ⊎ (j ≡ changed change i)) (nat_eq digit 0) (changed change i) i (inr refl) (inl refl)

mended_or_absent : (name : List ℕ) (now i : Image) → Mended name now i (synced_as false name now i)
mended_or_absent name now i =
    elim (get i.files name) as (λ o. get i.files name ≡ o → Mended name now i (cond (is_some o) (mended name now i) i)) [
      | None ↦ λ none. inl (none, refl)
      | Some bytes ↦ λ some. inr refl
    ] refl

-- one call more, of those after which the directory was synced
synced_chosen : (change : Change) (outcome : Outcome) (now : Image) (before : Image → Type 0) (digit : ℕ) (i : Image)
    → before i → SyncedBy change outcome now before (chosen true change outcome now digit i)
synced_chosen (Write name bytes) outcome now before digit i h = (i, h, written_but digit name bytes i)
synced_chosen (SyncTemp name) Done now before digit i h = (i, h, refl)
synced_chosen (SyncTemp name) FailedDone now before digit i h = h
synced_chosen (SyncTemp name) FailedNot now before digit i h = h
synced_chosen (Rename from to) outcome now before digit i h = (i, h, refl)
synced_chosen (Remove name) outcome now before digit i h = (i, h, refl)
synced_chosen SyncDir outcome now before digit i h = h
synced_chosen (Store words) Done now before digit i h = (i, h, refl)
synced_chosen (Store words) FailedDone now before digit i h = (i, h, refl)
synced_chosen (Store words) FailedNot now before digit i h = (i, h, refl)

-- one call more, of the others
image_chosen : (change : Change) (outcome : Outcome) (now : Image) (synced before : Image → Type 0) (digit : ℕ) (i : Image)
    → is_dir_sync change outcome ≡ false
    → before i → ImageBy change outcome now synced before (chosen false change outcome now digit i)
image_chosen (Write name bytes) outcome now synced before digit i other h = (i, h, written_but digit name bytes i)
image_chosen (SyncTemp name) Done now synced before digit i other h = (i, h, mended_or_absent name now i)
image_chosen (SyncTemp name) FailedDone now synced before digit i other h = h
image_chosen (SyncTemp name) FailedNot now synced before digit i other h = h
image_chosen (Rename from to) outcome now synced before digit i other h = (i, h, maybe digit (Rename from to) i)
image_chosen (Remove name) outcome now synced before digit i other h = (i, h, maybe digit (Remove name) i)
image_chosen SyncDir Done now synced before digit i other h =
    absurd (not_true (sym other))
image_chosen SyncDir FailedDone now synced before digit i other h = h
image_chosen SyncDir FailedNot now synced before digit i other h = h
image_chosen (Store words) Done now synced before digit i other h = (i, h, refl)
image_chosen (Store words) FailedDone now synced before digit i other h = (i, h, maybe digit (Store words) i)
image_chosen (Store words) FailedNot now synced before digit i other h = (i, h, maybe digit (Store words) i)

-- a sync of the directory leaves what is synced
dir_chosen : (change : Change) (outcome : Outcome) (now : Image) (synced before : Image → Type 0) (b : Bool) (digit : ℕ) (i : Image)
    → is_dir_sync change outcome ≡ true
    → synced i → ImageBy change outcome now synced before (chosen b change outcome now digit i)
dir_chosen SyncDir Done now synced before b digit i is h = h
dir_chosen SyncDir FailedDone now synced before b digit i is h = absurd (not_true is)
dir_chosen SyncDir FailedNot now synced before b digit i is h = absurd (not_true is)
dir_chosen (Write name bytes) outcome now synced before b digit i is h = absurd (not_true is)
dir_chosen (SyncTemp name) outcome now synced before b digit i is h = absurd (not_true is)
dir_chosen (Rename from to) outcome now synced before b digit i is h = absurd (not_true is)
dir_chosen (Remove name) outcome now synced before b digit i is h = absurd (not_true is)
dir_chosen (Store words) outcome now synced before b digit i is h = absurd (not_true is)

pub synced_chosen_at : (to : ℕ) (first : Image) (calls : List Call) (pick : ℕ) → length calls ≤ to
    → IsSynced first calls (choice_at to first calls pick).image
synced_chosen_at to first [] pick le = refl
synced_chosen_at to first (call ∷ calls) pick le =
    let before = choice_at to first calls pick in
    let within : length calls < to = omega (arith, le) in
    subst (λ b. SyncedBy call.change call.outcome (now_of first calls) (IsSynced first calls) (chosen b call.change call.outcome (now_of first calls) (before.pick % choices b call.change call.outcome) before.image))
    (sym (lt-ltb (length calls) to within))
    (synced_chosen call.change call.outcome (now_of first calls) (IsSynced first calls) (before.pick % choices true call.change call.outcome) before.image
    (synced_chosen_at to first calls pick (omega (arith, le))))

synced_within : (calls : List Call) → synced_to calls ≤ length calls
synced_within [] = omega arith
synced_within (call ∷ calls) =
    either (λ n. n ≤ length (call ∷ calls)) (is_dir_sync call.change call.outcome) _ _ (omega arith) (omega (arith, synced_within calls))

pub image_chosen_at : (to : ℕ) (first : Image) (calls : List Call) (pick : ℕ) → synced_to calls ≡ to
    → IsImage first calls (choice_at to first calls pick).image
image_chosen_at to first [] pick is = refl
image_chosen_at to first (call ∷ calls) pick is =
    let before = choice_at to first calls pick in
    elim (is_dir_sync call.change call.outcome) as (λ d. is_dir_sync call.change call.outcome ≡ d → cond d (length (call ∷ calls)) (synced_to calls) ≡ to → IsImage first (call ∷ calls) (choice_at to first (call ∷ calls) pick).image) [
      | true ↦ λ dir end.
          dir_chosen call.change call.outcome (now_of first calls) (IsSynced first calls) (IsImage first calls) (nat_lt (length calls) to) (before.pick % choices (nat_lt (length calls) to) call.change call.outcome) before.image dir
          (synced_chosen_at to first calls pick (omega (arith, end)))
      | false ↦ λ other end.
          subst (λ b. ImageBy call.change call.outcome (now_of first calls) (IsSynced first calls) (IsImage first calls) (chosen b call.change call.outcome (now_of first calls) (before.pick % choices b call.change call.outcome) before.image))
          (sym (le-ltb (length calls) to (omega (arith, end, synced_within calls))))
          (image_chosen call.change call.outcome (now_of first calls) (IsSynced first calls) (IsImage first calls) (before.pick % choices false call.change call.outcome) before.image other
          (image_chosen_at to first calls pick end))
    ] refl is

-- where the newest of the calls from a place on is a sync of the directory, all of them are synced
pub synced_here : (calls : List Call) (at : ℕ) (d : Call) → at < length calls
    → is_dir_sync (get_or calls at d).change (get_or calls at d).outcome ≡ true
    → synced_to (drop at calls) ≡ length calls - at
synced_here calls at d le is =
    at_drop_more synced_to calls at d le
    ∙ ap (λ b. cond b (length (get_or calls at d ∷ drop (at + 1) calls)) (synced_to (drop (at + 1) calls))) is
    ∙ rest
  where
    rest : length (get_or calls at d ∷ drop (at + 1) calls) ≡ length calls - at
    rest = omega (arith, length-drop (at + 1) calls, le)

pub synced_before : (calls : List Call) (at : ℕ) (d : Call) → at < length calls
    → is_dir_sync (get_or calls at d).change (get_or calls at d).outcome ≡ false
    → synced_to (drop at calls) ≡ synced_to (drop (at + 1) calls)
synced_before calls at d le is =
    at_drop_more synced_to calls at d le
    ∙ ap (λ b. cond b (length (get_or calls at d ∷ drop (at + 1) calls)) (synced_to (drop (at + 1) calls))) is

-- what a crash may leave now it might have left since a tick that has passed
pub since_then : (first : Image) (calls : List Call) (k : ℕ) (i : Image) → k ≤ length calls
    → IsImage first (drop (length calls - k) calls) i → WasImage first calls k i
since_then first [] k i le is =
    subst (λ l. IsImage first l i) (drop_all (0 - k) [] (omega arith)) is
since_then first (call ∷ calls) k i le is =
    ⊎_elim (λ lt. inl (at 0 (omega (arith, lt, le)) is))
    (λ ge. inr (ge, since_then first calls k i ge (at (suc (length calls - k)) (omega (arith, ge)) is)))
    (cases_lt (length calls) k)
  where
    at : (n : ℕ) → length (call ∷ calls) - k ≡ n
        → IsImage first (drop (length (call ∷ calls) - k) (call ∷ calls)) i
        → IsImage first (drop n (call ∷ calls)) i
    at n e h = subst (λ n. IsImage first (drop n (call ∷ calls)) i) e h

-- the image so far, and what is there
pub record LeftBy (first : Image) (calls : List Call) (synced pick : ℕ) (so_far : Choice)
    (there : Image) : Type 0 where
  pub choice : so_far ≡ choice_at synced first calls pick
  pub content : there ≡ now_of first calls

left_cons : (first : Image) (call : Call) (calls : List Call) (synced pick : ℕ) (before after : Choice)
    (content next : Image) → LeftBy first calls synced pick before content
    → after ≡ next_choice (nat_lt (length calls) synced) call content before
    → next ≡ changed_by call.change call.outcome content
    → LeftBy first (call ∷ calls) synced pick after next
left_cons first call calls synced pick before after content next h is then = record {
  choice =
      is
      ∙ ap (λ i. next_choice (nat_lt (length calls) synced) call i before) h.content
      ∙ ap (next_choice (nat_lt (length calls) synced) call (now_of first calls)) h.choice;
  content = then ∙ ap (changed_by call.change call.outcome) h.content;
}

-- the next call, where so many are older
pub left_more : (first : Image) (calls : List Call) (number synced pick : ℕ) (call : Call)
    (before after : Choice) (content next : Image) → number < length calls
    → get_or calls (length calls - 1 - number) call ≡ call
    → LeftBy first (drop (length calls - number) calls) synced pick before content
    → after ≡ next_choice (nat_lt number synced) call content before
    → next ≡ changed_by call.change call.outcome content
    → LeftBy first (drop (length calls - (number + 1)) calls) synced pick after next
left_more first calls number synced pick call before after content next le here h is then =
    subst (λ l. LeftBy first l synced pick after next) (sym more)
    (left_cons first call older synced pick before after content next (subst (λ l. LeftBy first l synced pick before content) same h)
    (is ∙ ap (λ n. next_choice (nat_lt n synced) call content before) (sym long)) then)
  where
    at : ℕ
    at = length calls - 1 - number

    older : List Call
    older = drop (at + 1) calls

    place : length calls - number ≡ at + 1
    place = omega (arith, le)

    same : drop (length calls - number) calls ≡ older
    same = ap (λ n. drop n calls) place

    long : length older ≡ number
    long = length-drop (at + 1) calls ∙ left
      where
        left : length calls - (at + 1) ≡ number
        left = omega (arith, le)

    next_place : length calls - (number + 1) ≡ at
    next_place = omega (arith, le)

    more : drop (length calls - (number + 1)) calls ≡ call ∷ older
    more =
        ap (λ n. drop n calls) next_place
        ∙ drop_more calls at call (omega (arith, le))
        ∙ ap (λ c. c ∷ older) here

-- before the first call
pub left_none : (first : Image) (calls : List Call) (synced pick : ℕ) (choice : Choice)
    (content : Image) → choice ≡ record { image = first; pick = pick } → content ≡ first
    → LeftBy first (drop (length calls - 0) calls) synced pick choice content
left_none first calls synced pick choice content is same =
    subst (λ l. LeftBy first l synced pick choice content) (sym none) (record { choice = is; content = same })
  where
    none : drop (length calls - 0) calls ≡ []
    none = drop_all (length calls - 0) calls (omega arith)
