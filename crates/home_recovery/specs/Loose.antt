-- Records and leaves that a loaded state doesn't name.
use Rattle.std.specs.Prelude.{◌≢◌, ◌≡◌, List, [], ◌∷◌, Some}
use Rattle.std.specs.FinMap.{get}
use Rattle.record_names.specs.Names.{AreParts, File, stash_name, factor_name, file_name}
use Rattle.share_api.specs.Contents.{Bytes, Contents}
use Rattle.share_api.specs.declared.step.Write.{Write}
use Rattle.share_api.specs.declared.step.Write.TheVariants.{Put, Remove, RemoveLeaf}
use Rattle.factor_files.specs.declared.factor.FactorRecord.{FactorRecord}
use Rattle.stored_home.specs.Holds.{HasStash}
use Rattle.stored_home.specs.Loaded.{IsRowOf, block_in, HasFactors, NamesTree}
use Rattle.stored_home.specs.Matching.{Matches}
use Rattle.stored_home.specs.declared.stored.Stored.{Stored}

-- the stash and the factors' records are those of the contents
pub record IsReadOf (contents : Contents) (account : Bytes) (loaded : Stored) : Type 0 where
  pub stash : HasStash contents.records account loaded.stash
  pub rows : (label : Bytes) → Matches (IsRowOf contents.records account label)
      (block_in loaded.stash label) (get loaded.factors label)

-- The name is none that the loaded state names: not the stash, no factor's record, and where the home has factors no
-- vault file.
pub record IsLoose (account : Bytes) (loaded : Stored) (name : Bytes) : Type 0 where
  pub not_stash : stash_name account ≢ name
  pub not_row : (label : Bytes) (row : FactorRecord) → get loaded.factors label ≡ Some row
      → factor_name account label row.edition ≢ name
  pub not_file : HasFactors loaded → (file : Bytes) → AreParts (File account file) → file_name account file ≢ name

-- each of the changes removes a record or a leaf that isn't named
abbrev pub RemovesLoose : Bytes → Stored → List Write → Type 0
RemovesLoose account loaded [] = Unit {0}
RemovesLoose account loaded (Put name bytes ∷ writes) = ⊥
RemovesLoose account loaded (Remove name ∷ writes) = IsLoose account loaded name × RemovesLoose account loaded writes
RemovesLoose account loaded (RemoveLeaf tree ∷ writes) = (NamesTree loaded tree → ⊥) × RemovesLoose account loaded writes
