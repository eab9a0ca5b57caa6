-- The two calls of a removal.
use Rattle.std.proofs.Common.{◌⊎◌, inl, inr, ℕ, List, None, ap, ◌∙◌}
use Rattle.std.specs.FinMap.{get}
use Rattle.board_model.specs.Disk.{Image, Disk, Effect, Same, Removed, Maybe, Leaves, Goes, GoesOrNot}
use Rattle.board_model.proofs.Effects.{leaves_weaker, goes_weaker}
use Rattle.board_model.proofs.Names.{get-removed, get-remove_other}
use Rattle.staged_file.specs.Staged.{Kept, Replaced, KeptOr}
use Rattle.staged_file.proofs.Staging.{kept_same, leaves_same, goes_on}

module _ (name : List ℕ) where
  abbrev Gone : Effect
  Gone = Replaced name None

  gone : (d i : Image) → Removed name d i → Gone d i
  gone d i r = record {
    words = ap (λ (m : Image). m.words) r;
    here = ap (λ (m : Image). get m.files name) r ∙ get-removed d.files name;
    others = λ q plain ne. ap (λ (m : Image). get m.files q) r ∙ get-remove_other d.files name q ne;
  }

  gone_or_not : (d i : Image) → Maybe (Removed name) d i → KeptOr Gone d i
  gone_or_not d i (inl same) = inl (kept_same d i same)
  gone_or_not d i (inr r) = inr (gone d i r)

  pub after_remove : (a b : Disk) → Leaves a b (Maybe (Removed name)) → Leaves a b (KeptOr Gone)
  after_remove a b l = leaves_weaker a b (Maybe (Removed name)) (KeptOr Gone) gone_or_not l

  pub after_remove_dir : (a b c : Disk) → Leaves a b (Maybe (Removed name)) → Leaves b c Same
      → Leaves a c (KeptOr Gone)
  after_remove_dir a b c f g = leaves_same (KeptOr Gone) a b c (after_remove a b f) g

  pub goes_gone : (a b : Disk) → Goes a b (Removed name) → Goes a b Gone
  goes_gone a b f = goes_weaker a b (Removed name) Gone gone f

  pub goes_gone_or_not : (a b : Disk) → GoesOrNot a b (Removed name) → Goes a b Kept ⊎ Goes a b Gone
  goes_gone_or_not a b (inl not_done) = inl (goes_weaker a b Same Kept kept_same not_done)
  goes_gone_or_not a b (inr done) = inr (goes_gone a b done)

  pub goes_gone_dir : (a b c : Disk) → Goes a b (Removed name) → Goes b c Same → Goes a c Gone
  goes_gone_dir a b c f g = goes_on Gone a b c (goes_gone a b f) g
