-- Records and leaves that a home doesn't name.
use Rattle.std.specs.Prelude.{◌≡◌, ◌≢◌, ℕ, ◌<◌, ◌^◌, Some, IsTrue}
use Rattle.std.specs.FinMap.{get}
use Rattle.account_machine.specs.declared.factor.Factor.{Factor}
use Rattle.account_machine.specs.declared.user.Durable.{Durable}
use Rattle.record_names.specs.Names.{is_factor_label, AreParts, File, stash_name, factor_name, file_name}
use Rattle.share_api.specs.Contents.{Bytes, Contents, Records}
use Rattle.stash_format.specs.declared.contents.Contents.{Contents as Stash}
use Rattle.stored_home.specs.Holds.{Factors, NamesLeaf, HasStash}

-- the name is none of a record that the home names: not the stash, no factor's record, no vault file
pub record IsUnnamed (account : Bytes) (contents : Contents) (durable : Durable) (name : Bytes) : Type 0 where
  pub not_stash : name ≢ stash_name account
  pub not_row : (stash : Stash) → HasStash contents.records account (Some stash) → (label : Bytes) (factor : Factor)
      → get durable.factors label ≡ Some factor → IsTrue (is_factor_label label) → factor.edition < stash.next
      → factor.edition < 2 ^ 64 → factor_name account label factor.edition ≢ name
  pub not_file : (file : Bytes) → AreParts (File account file) → file_name account file ≢ name

-- no factor's record names the leaf
abbrev pub NamesNot : Records → Bytes → Factors → ℕ → Type 0
NamesNot records account factors tree = (label : Bytes) → NamesLeaf records account factors label tree → ⊥
