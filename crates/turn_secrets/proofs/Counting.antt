-- What looks at leaves tell of counts and lines.
use Rattle.std.proofs.Common.{◌≡◌, ℕ, ◌+◌, ◌<◌, List, [], ◌∷◌, ◌++◌, map, take, length, get_or, Bool, true, false, Option, None, Some, Result, Ok, Err, refl, sym, ap, ◌∙◌, is_some, true≢false}
use Rattle.std.proofs.lemmas.List.{take_more, map-append}
use Rattle.account_machine.specs.declared.answer.FactorLine.{FactorLine}
use Rattle.account_machine.specs.declared.factor.Kind.{Kind}
use Rattle.account_machine.specs.declared.factor.Kind.TheVariants.{Password, Pin}
use Rattle.factor_files.specs.declared.factor.FactorRecord.{FactorRecord}
use Rattle.share_api.specs.Contents.{Bytes, Contents}
use Rattle.stored_home.specs.declared.fault.StoreFault.{StoreFault}
use Rattle.stored_home.specs.declared.fault.StoreFault.TheVariants.{Failed, Damaged, NoMemory, TreeLost}
use Rattle.stored_home.proofs.MapLemmas.{not_None}
use Rattle.turn_secrets.specs.Listing.{leaf_count, counted_leaf, count_in, line_in, TellsLook, TellsCount, TellsLine, TellsLines}

-- ---- a leaf that is looked at

-- the tree isn't lost
pub counted_whole : (kind : Kind) (lost : Bool) (leaf : Option ℕ) (tree : ℕ) → counted_leaf kind lost leaf ≡ Some tree
    → lost ≡ false
counted_whole Password lost leaf tree e = absurd (not_None tree (sym e))
counted_whole Pin true leaf tree e = absurd (not_None tree (sym e))
counted_whole Pin false leaf tree e = refl

-- and it is the record's
pub counted_is : (kind : Kind) (lost : Bool) (leaf : Option ℕ) (tree : ℕ) → counted_leaf kind lost leaf ≡ Some tree
    → leaf ≡ Some tree
counted_is Password lost leaf tree e = absurd (not_None tree (sym e))
counted_is Pin true leaf tree e = absurd (not_None tree (sym e))
counted_is Pin false leaf tree e = e

-- what isn't there is None
pub none_there : {A : Type 0} (o : Option A) → is_some o ≡ false → o ≡ None
none_there None e = refl
none_there (Some x) e = absurd (true≢false e)

-- ---- what is told

module _ (account : Bytes) (lost : Bool) (row : FactorRecord) (c : Contents) where
  -- a look at the record's leaf tells its count
  pub count_looked : (tree : ℕ) → counted_leaf row.kind lost row.leaf ≡ Some tree → (r : Result (Option ℕ) StoreFault)
      → TellsLook account tree r c → TellsCount account lost row r c
  count_looked tree e (Ok wrong) told = told ∙ ap (leaf_count c.leaves) (sym e)
  count_looked tree e (Err (Damaged name)) told = record {
    tree = tree;
    names = counted_is row.kind lost row.leaf tree e;
    name_is = told.0;
    none = told.1;
  }
  count_looked tree e (Err Failed) told = tt
  count_looked tree e (Err NoMemory) told = tt
  count_looked tree e (Err (TreeLost host chip)) told = tt

  -- without a leaf there is no count
  pub count_none : counted_leaf row.kind lost row.leaf ≡ None → None ≡ count_in row.kind lost c.leaves row.leaf
  count_none e = ap (leaf_count c.leaves) (sym e)

  -- a fault of the count is one of the line
  pub line_fault : (label : Bytes) (fault : StoreFault) → TellsCount account lost row (Err fault) c
      → TellsLine account lost (label, row) (Err fault) c
  line_fault label (Damaged name) told = told
  line_fault label Failed told = tt
  line_fault label NoMemory told = tt
  line_fault label (TreeLost host chip) told = tt

module _ (account : Bytes) (lost : Bool) (rows : List (Bytes × FactorRecord)) (c : Contents) where
  -- a fault of a line is one of all lines
  pub lines_fault : (at : ℕ) (row : Bytes × FactorRecord) → at < length rows → row ≡ get_or rows at row
      → (fault : StoreFault) → TellsLine account lost row (Err fault) c → TellsLines account lost rows (Err fault) c
  lines_fault at row inside is (Damaged name) told = (row, (at, inside, sym is), told)
  lines_fault at row inside is Failed told = tt
  lines_fault at row inside is NoMemory told = tt
  lines_fault at row inside is (TreeLost host chip) told = tt

  -- one line more
  pub lines_more : (at : ℕ) (row : Bytes × FactorRecord) (lines : List FactorLine) (line : FactorLine)
      → at < length rows
      → row ≡ get_or rows at row → lines ≡ map (line_in lost c.leaves) (take at rows)
      → line ≡ line_in lost c.leaves row
      → lines ++ line ∷ [] ≡ map (line_in lost c.leaves) (take (at + 1) rows)
  lines_more at row lines line inside is are one =
      (λ i. are i ++ one i ∷ [])
      ∙ sym (map-append (line_in lost c.leaves) (take at rows) (row ∷ []))
      ∙ ap (map (line_in lost c.leaves))
      (sym (take_more rows at row inside ∙ ap (λ (r : Bytes × FactorRecord). take at rows ++ r ∷ []) (sym is)))
