-- The four calls of a put.
use Rattle.std.proofs.Common.{◌≡◌, ◌⊎◌, inl, inr, ⊎_elim, ℕ, List, Option, None, Some, sym, ap}
use Rattle.std.proofs.Common.{◌∙◌, subst, IsTrue, is_some}
use Rattle.std.specs.Prelude.{IfSome}
use Rattle.std.specs.FinMap.{get, insert, remove, contains_key}
use Rattle.fault_count.specs.Told.{Becomes}
use Rattle.board_model.specs.Files.{Files, IsTemporary}
use Rattle.board_model.specs.Disk.{Image, Disk, Effect, SameBut, Written, Renamed, Maybe}
use Rattle.board_model.specs.Disk.{Leaves, Goes, GoesOrNot, IsWholeIn}
use Rattle.board_model.proofs.Effects.{leaves_then, leaves_weaker, becomes_both, goes_then, goes_weaker}
use Rattle.board_model.proofs.Names.{get-inserted, get-insert_other, get-remove_other}
use Rattle.board_model.proofs.Names.{renamed_there, renamed_absent}
use Rattle.staged_file.specs.Staged.{Kept, Replaced, KeptOr}
use Rattle.staged_file.proofs.Staging.{kept_same, kept_then, but_kept, goes_on}

-- a temporary file has these bytes, and nothing else that counts has changed
pub record Staged (temp bytes : List ℕ) (old new : Image) : Type 0 where
  pub kept : Kept old new
  pub here : get new.files temp ≡ Some bytes

-- where a file is whole it has the bytes that were written
whole_bytes : (x y z : Option Image) (temp bytes : List ℕ) (i : Image)
    → Becomes x y (Written temp bytes) → z ≡ y → IsWholeIn temp z i → get i.files temp ≡ Some bytes
whole_bytes None None z temp bytes i w e h = absurd (subst (λ o. IsWholeIn temp o i) e h)
whole_bytes None (Some y) z temp bytes i w e h = absurd w
whole_bytes (Some x) None z temp bytes i w e h = absurd w
whole_bytes (Some x) (Some y) z temp bytes i w e h =
    subst (λ o. IsWholeIn temp o i) e h
    ∙ ap (λ (m : Image). get m.files temp) w
    ∙ get-inserted x.files temp bytes

-- the file that was written is there
pub is_there : (x y z : Option Image) (temp bytes : List ℕ)
    → Becomes x y (Written temp bytes) → z ≡ y
    → IfSome z (λ m. IsTrue (contains_key m.files temp))
is_there None None z temp bytes w e =
    subst (λ o. IfSome o (λ m. IsTrue (contains_key m.files temp))) (sym e) tt
is_there None (Some y) z temp bytes w e = absurd w
is_there (Some x) None z temp bytes w e = absurd w
is_there (Some x) (Some y) z temp bytes w e =
    subst (λ o. IfSome o (λ m. IsTrue (contains_key m.files temp))) (sym e)
    (ap is_some (ap (λ (m : Image). get m.files temp) w ∙ get-inserted x.files temp bytes))

written_staged : (temp bytes : List ℕ) (d i : Image) → Kept d i → Written temp bytes d i
    → Staged temp bytes d i
written_staged temp bytes d i kept w = record {
  kept = kept;
  here = ap (λ (m : Image). get m.files temp) w ∙ get-inserted d.files temp bytes;
}

module _ (temp name bytes : List ℕ) (is : IsTemporary temp) (plain : ¬ IsTemporary name) where
  abbrev Put : Effect
  Put = Replaced name (Some bytes)

  -- a whole temporary file takes the name's place
  moved : (d e i : Image) → Staged temp bytes d e → Renamed temp name e i → Put d i
  moved d e i s r = record {
    words = ap (λ (m : Image). m.words) r ∙ s.kept.words;
    here =
        ap (λ (f : Files). get f name) files ∙ get-inserted (remove e.files temp) name bytes;
    others = λ q away ne.
        ap (λ (f : Files). get f q) files
        ∙ get-insert_other (remove e.files temp) name bytes q ne
        ∙ get-remove_other e.files temp q (λ eq. away (subst IsTemporary (sym eq) is))
        ∙ s.kept.others q away;
  }
    where
      files : i.files ≡ insert (remove e.files temp) name bytes
      files = ap (λ (m : Image). m.files) r ∙ renamed_there e.files temp name bytes s.here

  -- where it is absent nothing moves
  not_moved : (d e i : Image) → Kept d e → get e.files temp ≡ None → Renamed temp name e i
      → Kept d i
  not_moved d e i kept none r = record {
    words = ap (λ (m : Image). m.words) r ∙ kept.words;
    others = λ q away.
        ap (λ (m : Image). get m.files q) r
        ∙ ap (λ (f : Files). get f q) (renamed_absent e.files temp name none)
        ∙ kept.others q away;
  }

  moved_or_not : (d e i : Image) → Kept d e
      → (get e.files temp ≡ None) ⊎ (get e.files temp ≡ Some bytes)
      → Maybe (Renamed temp name) e i → KeptOr Put d i
  moved_or_not d e i kept whole (inl same) = inl (kept_then d e i kept (kept_same e i same))
  moved_or_not d e i kept (inl none) (inr r) = inl (not_moved d e i kept none r)
  moved_or_not d e i kept (inr there) (inr r) =
      inr (moved d e i (record { kept = kept; here = there }) r)

  -- what a crash may leave after each call

  pub after_write : (a b : Disk) → Leaves a b (SameBut temp) → Leaves a b Kept
  after_write a b l = leaves_weaker a b (SameBut temp) Kept (but_kept temp is) l

  pub after_sync : (a b c : Disk) → Leaves a b (SameBut temp) → Leaves b c (SameBut temp)
      → Leaves a c Kept
  after_sync a b c f g =
      leaves_then a b c Kept (SameBut temp) Kept (λ d i k. k)
      (λ d e i k left s. kept_then d e i k (but_kept temp is e i s)) (after_write a b f) g

  pub or_not : (a b : Disk) → Leaves a b Kept → Leaves a b (KeptOr Put)
  or_not a b l = leaves_weaker a b Kept (KeptOr Put) (λ d i k. inl k) l

  -- before the rename the temporary file is whole in each image that has it
  pub after_rename : (a b c d : Disk) → Leaves a c Kept
      → Becomes a.now b.now (Written temp bytes) → c.now ≡ b.now
      → ((i : Image) → c.may_leave i → (get i.files temp ≡ None) ⊎ IsWholeIn temp c.now i)
      → Leaves c d (Maybe (Renamed temp name)) → Leaves a d (KeptOr Put)
  after_rename a b c d f written same whole g =
      leaves_then a c d Kept (Maybe (Renamed temp name)) (KeptOr Put) (λ x i k. inl k)
      (λ x e i k left r. moved_or_not x e i k (there e left) r) f g
    where
      there : (e : Image) → c.may_leave e
          → (get e.files temp ≡ None) ⊎ (get e.files temp ≡ Some bytes)
      there e left =
          ⊎_elim (λ none. inl none)
          (λ h. inr (whole_bytes a.now b.now c.now temp bytes e written same h)) (whole e left)

  -- what the content and the synced images go by after each call

  pub goes_write : (a b : Disk) → Goes a b (SameBut temp) → Goes a b Kept
  goes_write a b f = goes_weaker a b (SameBut temp) Kept (but_kept temp is) f

  pub goes_sync : (a b c : Disk) → Goes a b (SameBut temp) → Goes b c (SameBut temp)
      → Goes a c Kept
  goes_sync a b c f g =
      goes_then a b c Kept (SameBut temp) Kept
      (λ d e i k s. kept_then d e i k (but_kept temp is e i s)) (goes_write a b f) g

  -- once the directory is synced the temporary file is there with its bytes
  pub goes_staged : (a b c : Disk) → Becomes a.now b.now (Written temp bytes)
      → Goes a b (SameBut temp) → c.now ≡ b.now → Goes b c (SameBut temp)
      → ((i : Image) → c.once_synced i → IsWholeIn temp c.now i) → Goes a c (Staged temp bytes)
  goes_staged a b c written f same g whole = record {
    now =
        subst (λ o. Becomes a.now o (Staged temp bytes)) (sym same)
        (becomes_both Kept (Written temp bytes) (Staged temp bytes) a.now b.now
        (written_staged temp bytes) (goes_write a b f).now written);
    synced = λ i left.
        let from = (goes_sync a b c f g).synced i left in
        let here = whole_bytes a.now b.now c.now temp bytes i written same (whole i left) in
        (from.0, from.1, record { kept = from.2; here = here });
  }

  pub goes_rename : (a c d : Disk) → Goes a c (Staged temp bytes) → Goes c d (Renamed temp name)
      → Goes a d Put
  goes_rename a c d f g = goes_then a c d (Staged temp bytes) (Renamed temp name) Put moved f g

  pub goes_or_not : (a c d : Disk) → Goes a c (Staged temp bytes)
      → GoesOrNot c d (Renamed temp name) → Goes a d Kept ⊎ Goes a d Put
  goes_or_not a c d f (inl not_done) =
      inl (goes_on Kept a c d (goes_weaker a c (Staged temp bytes) Kept (λ x i s. s.kept) f) not_done)
  goes_or_not a c d f (inr done) = inr (goes_rename a c d f done)
