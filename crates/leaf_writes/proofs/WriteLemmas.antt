-- The words' store, and the record's change after it.
use Rattle.std.proofs.Common.{◌⊎◌, inl, inr, ℕ, List, Option, ap, ◌∙◌}
use Rattle.std.specs.FinMap.{get}
use Rattle.board_model.specs.Disk.{Image, Disk, Same, Stored, Maybe, Follows, Leaves, Goes, GoesOrNot}
use Rattle.board_model.proofs.Effects.{Includes, Joins, leaves_on, leaves_weaker, follows_then, goes_weaker, goes_then}
use Rattle.staged_file.specs.Staged.{Kept, Replaced, KeptOr}
use Rattle.leaf_writes.specs.Writes.{StoredAlone, StoredWith, NoneOneOrBoth, EndsAtOneOf}

module _ (words name : List ℕ) (content : Option (List ℕ)) where
  -- an image that stays is kept
  kept_same : Includes Kept Same
  kept_same d i same = record {
    words = ap (λ (m : Image). m.words) same;
    others = λ q away. ap (λ (m : Image). get m.files q) same;
  }

  -- where the words alone are stored the files stay
  alone_stored : Includes (StoredAlone words) (Stored words)
  alone_stored d i stored = record {
    stored = ap (λ (m : Image). m.words) stored;
    others = λ q away. ap (λ (m : Image). get m.files q) stored;
  }

  -- a store that is done or not leaves none or one of the writes
  none_or_one : Includes (NoneOneOrBoth words name content) (Maybe (Stored words))
  none_or_one d i (inl same) = inl (kept_same d i same)
  none_or_one d i (inr stored) = inr (inl (alone_stored d i stored))

  -- what is kept after the store has the words alone
  stored_kept : Joins (Stored words) Kept (StoredAlone words)
  stored_kept d e i s k = record {
    stored = k.words ∙ ap (λ (m : Image). m.words) s;
    others = λ q away. k.others q away ∙ ap (λ (m : Image). get m.files q) s;
  }

  -- the record's change after the store makes both
  stored_with : Joins (Stored words) (Replaced name content) (StoredWith words name content)
  stored_with d e i s r = record {
    stored = r.words ∙ ap (λ (m : Image). m.words) s;
    here = r.here;
    others = λ q away ne. r.others q away ne ∙ ap (λ (m : Image). get m.files q) s;
  }

  -- a change that is done or not after the store makes one or both
  one_or_both : Joins (Stored words) (KeptOr (Replaced name content)) (NoneOneOrBoth words name content)
  one_or_both d e i s (inl k) = inr (inl (stored_kept d e i s k))
  one_or_both d e i s (inr r) = inr (inr (stored_with d e i s r))

  -- ---- the store failed

  -- at each moment there are none or one of the writes
  pub only_stored : (a b : Disk) → Leaves a b (Maybe (Stored words)) → Leaves a b (NoneOneOrBoth words name content)
  only_stored a b f = leaves_weaker a b (Maybe (Stored words)) (NoneOneOrBoth words name content) none_or_one f

  -- the store is done or not
  pub ends_stored : (a b : Disk) → GoesOrNot a b (Stored words) → EndsAtOneOf words name content a b
  ends_stored a b (inl same) = inl (goes_weaker a b Same Kept kept_same same)
  ends_stored a b (inr stored) = inr (inl (goes_weaker a b (Stored words) (StoredAlone words) alone_stored stored))

  -- ---- the store lasts, and the record's change goes on from it

  -- at each moment there are none, one or both of the writes
  pub then_changed : (a b c : Disk) → Leaves a b (Maybe (Stored words))
      → Follows (Stored words) a.may_leave b.may_leave → Leaves b c (KeptOr (Replaced name content))
      → Leaves a c (NoneOneOrBoth words name content)
  then_changed a b c f lasts g =
      leaves_on a b c (Maybe (Stored words)) (Stored words) (KeptOr (Replaced name content))
      (NoneOneOrBoth words name content) none_or_one one_or_both f lasts g

  -- where both last each image has both
  pub both_last : (a b c : Disk) → Follows (Stored words) a.may_leave b.may_leave
      → Follows (Replaced name content) b.may_leave c.may_leave
      → Follows (StoredWith words name content) a.may_leave c.may_leave
  both_last a b c f g =
      follows_then (Stored words) (Replaced name content) (StoredWith words name content) a.may_leave b.may_leave
      c.may_leave stored_with f g

  -- where both are done both are there
  pub both_done : (a b c : Disk) → Goes a b (Stored words) → Goes b c (Replaced name content)
      → Goes a c (StoredWith words name content)
  both_done a b c f g =
      goes_then a b c (Stored words) (Replaced name content) (StoredWith words name content) stored_with f g

  -- the record's change is done or not, over words that are stored
  pub ends_changed : (a b c : Disk) → Goes a b (Stored words)
      → Goes b c Kept ⊎ Goes b c (Replaced name content) → EndsAtOneOf words name content a c
  ends_changed a b c f (inl kept) =
      inr (inl (goes_then a b c (Stored words) Kept (StoredAlone words) stored_kept f kept))
  ends_changed a b c f (inr changed) = inr (inr (both_done a b c f changed))
