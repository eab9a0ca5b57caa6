-- What one account has on the platform: its records by name, and its leaves as plain data.
use Rattle.std.specs.Prelude.{ℕ, List, Option, None, Some}
use Rattle.std.specs.Ordering.{nat_cmp}
use Rattle.std.specs.Cmp.Lexicographic.{slice_cmp}
use Rattle.std.specs.FinMap.{FinMap, remove, empty}
use Rattle.share_api.specs.declared.leaf.Leaf.{Leaf}

abbrev pub Bytes : Type 0
Bytes = List ℕ

abbrev pub Records : Type 0
Records = FinMap (slice_cmp nat_cmp) Bytes

-- leaves by their labels
abbrev pub Leaves : Type 0
Leaves = FinMap nat_cmp Leaf

-- doubt is the label of a leaf whose insert failed: the next step takes it away
pub record Contents : Type 0 where
  pub records : Records
  pub leaves : Leaves
  pub doubt : Option ℕ

-- no records and no leaves
abbrev pub no_contents : Contents
no_contents = record { records = empty; leaves = empty; doubt = None }

-- the leaves without the one in doubt
abbrev pub leaves_left : Option ℕ → Leaves → Leaves
leaves_left None leaves = leaves
leaves_left (Some label) leaves = remove leaves label

-- the contents once the next step has begun: the records are plainly as before
abbrev pub settled : Contents → Contents
settled contents = record contents { leaves = leaves_left contents.doubt contents.leaves; doubt = None }
