-- What each answer to a mount says.
use Rattle.std.specs.Prelude.{◌≡◌, Some, Ok, slice_get, option_and_then}
use Rattle.account_machine.specs.Sessions.{place_of}
use Rattle.account_machine.specs.declared.answer.Answer.{Answer}
use Rattle.account_machine.specs.declared.answer.Answer.TheVariants as answers
use Rattle.account_machine.specs.declared.session.Token.{Token}
use Rattle.auth_session.specs.Table.{sessions_in}
use Rattle.auth_session.specs.declared.table.Kept.{Kept}
use Rattle.record_names.specs.Names.{stash_name}
use Rattle.secret_stash.specs.Keys.{opened_payload}
use Rattle.share_api.specs.Contents.{Bytes}
use Rattle.stash_format.specs.declared.contents.Contents.{Contents as Stash}
use Rattle.stash_format.specs.declared.payload.Payload.{Payload}
use Rattle.user_state.specs.declared.state.UserState.{UserState}
use Rattle.turn_secrets.specs.declared.vault.VaultKey.{VaultKey}
use Rattle.turn_secrets.specs.declared.vault.VaultKey.TheVariants.{Opened, Damaged, Starved}

-- the payload isn't there, or opens to nothing under the main key
abbrev pub OpensToNone : Stash → Bytes → Type 0
OpensToNone stash main = (payload : Payload) → opened_payload stash main ≡ Ok payload → ⊥

-- what the payload gives under a main key
abbrev pub IsVaultKey : Stash → Bytes → VaultKey → Type 0
IsVaultKey stash main (Opened vault) =
    (payload : Payload) × (opened_payload stash main ≡ Ok payload) × (vault ≡ payload.vault)
IsVaultKey stash main Damaged = OpensToNone stash main
IsVaultKey stash main Starved = Unit {0}

-- The token's session has this main key, and this stash is loaded.
pub record HasMain (state : UserState) (token : Token) (main : Bytes) (stash : Stash) : Type 0 where
  pub main_is : option_and_then (λ (kept : Kept). kept.main)
      (slice_get state.sessions.kept (place_of token (sessions_in state.sessions.kept))) ≡ Some main
  pub stash_is : state.stored.stash ≡ Some stash

-- The vault key of the payload is kept, and nothing else changes.
pub record Mounts (token : Token) (before after : UserState) : Type 0 where
  pub main : Bytes
  pub stash : Stash
  pub has : HasMain before token main stash
  pub payload : Payload
  pub opens : opened_payload stash main ≡ Ok payload
  pub same : after ≡ record before { vault = Some payload.vault }

-- The payload opens to nothing under the session's main key. Nothing changes.
pub record IsDamaged (token : Token) (name : Bytes) (before after : UserState) : Type 0 where
  pub main : Bytes
  pub stash : Stash
  pub has : HasMain before token main stash
  pub none : OpensToNone stash main
  pub name_is : name ≡ stash_name before.account
  pub same : after ≡ before

-- there are no other answers than these and want of memory, at which nothing changes
abbrev pub MountAnswers : Token → UserState → UserState → Answer → Type 0
MountAnswers token before after answers.Ok = Mounts token before after
MountAnswers token before after (answers.Damaged name) = IsDamaged token name before after
MountAnswers token before after answers.NoMemory = after ≡ before
MountAnswers token before after _ = ⊥
