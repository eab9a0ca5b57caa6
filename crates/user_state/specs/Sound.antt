-- What is true of a state whatever the account's contents are.
use Rattle.std.specs.Prelude.{◌≡◌, ◌≤◌, is_some, Option, None, Some}
use Rattle.std.specs.List.{AllByRecursion}
use Rattle.auth_session.specs.declared.table.Kept.{Kept}
use Rattle.stored_home.specs.Coherent.{IsCoherent}
use Rattle.record_names.specs.Names.{AreParts, File}
use Rattle.user_state.specs.declared.state.Doubt.{Doubt}
use Rattle.user_state.specs.declared.state.Doubt.TheVariants.{Editions, File as OfFile, Leaf as OfLeaf}
use Rattle.user_state.specs.declared.state.UserState.{UserState}

-- a session is authenticated exactly where a main key was proved in it
abbrev pub IsKeyed : Kept → Type 0
IsKeyed kept = kept.session.authenticated ≡ is_some kept.main

-- What settles a doubt can be read: the name of a vault file is one, and the tree of a leaf isn't lost.
abbrev pub IsTellable : Option Doubt → UserState → Type 0
IsTellable None state = Unit {0}
IsTellable (Some Editions) state = Unit {0}
IsTellable (Some (OfFile name bytes)) state = AreParts (File state.account name)
IsTellable (Some (OfLeaf label tree view)) state = state.stored.lost ≡ None

-- What is loaded fits together, the cost of new factors is one from 1 to 16, and authenticated sessions are those with
-- a main key.
pub record IsSound (state : UserState) : Type 0 where
  pub coherent : IsCoherent state.account state.stored
  pub least : 1 ≤ state.cost
  pub most : state.cost ≤ 16
  pub keyed : AllByRecursion IsKeyed state.sessions.kept
