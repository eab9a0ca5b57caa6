-- When a state is that of a user over contents.
use Rattle.std.specs.Prelude.{◌≡◌, ◌≢◌, ◌⊎◌, ℕ, Option, None, Some, IfSome, IsSome, IsSomeAnd, Bool, is_some, if◌then◌else◌}
use Rattle.std.specs.List.{AllByRecursion}
use Rattle.std.specs.Ordering.{nat_cmp}
use Rattle.std.specs.Cmp.Lexicographic.{slice_cmp}
use Rattle.std.specs.FinMap.{FinMap, get}
use Rattle.name_map.specs.Mapped.{map_values}
use Rattle.account_machine.specs.declared.factor.Factor.{Factor}
use Rattle.account_machine.specs.declared.factor.Kind.TheVariants.{Pin}
use Rattle.account_machine.specs.declared.user.Durable.{Durable}
use Rattle.account_machine.specs.declared.user.User.{User}
use Rattle.auth_session.specs.Table.{sessions_in}
use Rattle.auth_session.specs.declared.table.Kept.{Kept}
use Rattle.record_names.specs.Names.{AreParts, File, file_name}
use Rattle.share_api.specs.Contents.{Bytes, Contents}
use Rattle.share_api.specs.declared.leaf.LeafView.{LeafView}
use Rattle.stash_format.specs.declared.block.Block.{Block}
use Rattle.stash_format.specs.declared.contents.Contents.{Contents as Stash}
use Rattle.stored_home.specs.Changes.{durable_with_file}
use Rattle.stored_home.specs.Holds.{Keys, Holds, HoldsUnder, IsFileOf, record_at}
use Rattle.stored_home.specs.Coherent.{AreFiles}
use Rattle.stored_home.specs.Loaded.{IsKept}
use Rattle.stored_home.specs.declared.stored.Stored.{Stored}
use Rattle.user_state.specs.declared.state.Doubt.{Doubt}
use Rattle.user_state.specs.declared.state.Doubt.TheVariants.{Editions, File as OfFile, Leaf as OfLeaf}
use Rattle.user_state.specs.declared.state.UserState.{UserState}

-- ---- keys

-- a session is authenticated exactly where a main key was proved in it, and that is the home's
abbrev pub IsProved : Bytes → Kept → Type 0
IsProved main kept = (kept.session.authenticated ≡ is_some kept.main) × IfSome kept.main (λ key. key ≡ main)

-- the keys that sessions and mount keep are the home's
pub record HasKeys (state : UserState) (keys : Keys) : Type 0 where
  pub proved : AllByRecursion (IsProved keys.main) state.sessions.kept
  pub mount : IfSome state.vault (λ vault. vault ≡ keys.vault)

-- ---- a settled state

-- whether the tree was lost when the account was loaded
abbrev pub is_lost : UserState → Bool
is_lost state = is_some state.stored.lost

-- There is one possible durable part, and what is loaded is what the contents hold.
pub record IsSettled (state : UserState) (contents : Contents) (user : User) : Type 0 where
  pub none : user.other ≡ None
  pub kept : IsKept (is_lost state) contents state.account state.stored
  pub files : AreFiles state.account state.stored

-- ---- an unsettled state

-- the next edition and the editions by label, and none where there is no home
abbrev pub Tally : Type 0
Tally = Option (ℕ × FinMap (slice_cmp nat_cmp) ℕ)

abbrev pub tally_of : Durable → Tally
tally_of durable = if durable.made then Some
    (durable.next, map_values (λ (factor : Factor). factor.edition) durable.factors) else None

abbrev pub tally_in : Option Stash → Tally
tally_in None = None
tally_in (Some stash) = Some (stash.next, map_values (λ (block : Block). block.edition) stash.blocks)

-- what anybody may know of a factor's leaf
abbrev pub view_of : Factor → LeafView
view_of factor = record { wrong = factor.wrong; last = factor.stamp; schedule = factor.schedule }

-- The record that was put opens to the bytes that the file has in the second durable part, which is the first one but
-- for that file. Where the two differ, no other record of the file that is there opens to these bytes.
pub record TellsFile (vault account name bytes : Bytes) (contents : Contents) (durable other : Durable) : Type 0 where
  pub plain : Bytes
  pub named : AreParts (File account name)
  pub opens : IsFileOf vault account name bytes plain
  pub other_is : other ≡ durable_with_file durable name plain
  pub apart : (durable ≡ other) ⊎ IfSome (get contents.records (file_name account name))
      (λ found. IsFileOf vault account name found plain → found ≡ bytes)

-- The label's factor is a PIN of one edition in both durable parts, whose record names this leaf. What is kept is what
-- the leaf shows in the first one, and in the second it shows something else or the two are one.
pub record TellsLeaf (account label : Bytes) (tree : ℕ) (view : LeafView) (contents : Contents)
    (durable other : Durable) : Type 0 where
  pub factor : Factor
  pub later : Factor
  pub there : get durable.factors label ≡ Some factor
  pub later_there : get other.factors label ≡ Some later
  pub is_pin : factor.kind ≡ Pin
  pub later_is_pin : later.kind ≡ Pin
  pub edition : later.edition ≡ factor.edition
  pub names : IfSome (record_at contents.records account label factor.edition) (λ row. row.leaf ≡ Some tree)
  pub view_is : view ≡ view_of factor
  pub apart : (durable ≡ other) ⊎ (view_of later ≢ view)

-- What is kept tells whether the contents hold the first durable part or the second: the editions, of which those in
-- memory are the first one's; a vault file's record, by the vault key of the mount; or what a leaf showed.
abbrev pub TellsBy : Doubt → UserState → Contents → Durable → Durable → Type 0
TellsBy Editions state contents durable other =
    (tally_in state.stored.stash ≡ tally_of durable) × ((durable ≡ other) ⊎ (tally_of durable ≢ tally_of other))
TellsBy (OfFile name bytes) state contents durable other =
    IsSomeAnd state.vault (λ vault. TellsFile vault state.account name bytes contents durable other)
TellsBy (OfLeaf label tree view) state contents durable other =
    TellsLeaf state.account label tree view contents durable other

-- There are two possible durable parts, and what is kept tells them apart.
pub record IsUnsettled (doubt : Doubt) (state : UserState) (contents : Contents) (user : User) : Type 0 where
  pub other : Durable
  pub other_is : user.other ≡ Some other
  pub tells : TellsBy doubt state contents user.durable other

-- ---- both

abbrev pub StandsBy : Option Doubt → UserState → Contents → User → Type 0
StandsBy None state contents user = IsSettled state contents user
StandsBy (Some doubt) state contents user = IsUnsettled doubt state contents user

-- The state is the user's over these contents, under the keys that the contents hold it by.
pub record Fits (state : UserState) (contents : Contents) (user : User) (keys : Keys) : Type 0 where
  pub sessions : sessions_in state.sessions.kept ≡ user.sessions
  pub next_session : state.sessions.next ≡ user.next_session
  pub mounted : is_some state.vault ≡ user.mounted
  pub last : state.last ≡ user.last
  pub stands : StandsBy state.doubt state contents user
  pub has_keys : HasKeys state keys

-- the contents hold the durable part, or the second possible one
abbrev pub HoldsOne : Bool → Contents → Bytes → User → Type 0
HoldsOne lost contents account user =
    Holds lost contents account user.durable ⊎ IsSomeAnd user.other (Holds lost contents account)

abbrev pub HoldsOneUnder : Bool → Contents → Bytes → User → Keys → Type 0
HoldsOneUnder lost contents account user keys =
    HoldsUnder lost contents account user.durable keys
    ⊎ IsSomeAnd user.other (λ other. HoldsUnder lost contents account other keys)
