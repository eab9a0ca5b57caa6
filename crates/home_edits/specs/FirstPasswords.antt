-- The first password of a home, with its main key, its vault key and its payload.
use Rattle.std.specs.Prelude.{◌≡◌, ℕ, ◌-◌, ◌<◌, ◌≤◌, ◌^◌, List, None, Some, Ok, length}
use Rattle.std.specs.FinMap.{get, len}
use Rattle.account_machine.specs.declared.factor.Kind.TheVariants.{Password}
use Rattle.account_machine.specs.declared.user.Durable.{Durable}
use Rattle.account_machine.specs.Effect.{with_factor}
use Rattle.scrypt_kdf.specs.Derive.{derive}
use Rattle.sealed_text.specs.declared.sealed.Sealed.{Sealed}
use Rattle.secret_stash.specs.Keys.{opened_sealed}
use Rattle.share_api.specs.Contents.{Bytes, Contents}
use Rattle.stash_format.specs.Resets.{Resets}
use Rattle.stash_format.specs.Sizes.{most_payload}
use Rattle.stash_format.specs.declared.contents.Contents.{Contents as Stash}
use Rattle.stored_home.specs.Bounds.{HasBounds}
use Rattle.stored_home.specs.Changes.{stash_with}
use Rattle.stored_home.specs.Holds.{Keys}
use Rattle.home_edits.specs.Passwords.{password_block}
use Rattle.stored_home.specs.declared.derived.Derived.{Derived}

-- the stash is of a home without factors that takes its first
pub record TakesFirst (label : Bytes) (stash : Stash) : Type 0 where
  pub bare : stash.payload ≡ None
  pub below : stash.next < 2 ^ 64 - 1
  pub room : get stash.blocks label ≡ None → len stash.blocks < 32

-- the stash with the password's block, and a payload that opens under the main key to the vault key
pub record IsFirstStash (stash : Stash) (label : Bytes) (derived : Derived) (main vault iv : Bytes)
    (made : Stash) : Type 0 where
  pub payload : Sealed
  pub resets : Resets
  pub made_is : made ≡ stash_with stash (Some payload) label (password_block stash label derived main iv)
  pub opens : opened_sealed main stash.account payload ≡ Ok (record { vault = vault; resets = resets })
  pub short : length payload.text ≤ most_payload

-- The first password is set: from then on these are the home's keys, the key is derived of the secret, and the label's
-- factor is a password with this secret, of the next edition.
pub record SetsFirstPassword (label : Bytes) (derived : Derived) (main vault : Bytes) (contents : Contents)
    (keys : Keys)
    (before after : Durable) : Type 0 where
  pub secret : Bytes
  pub schedule : List (ℕ × ℕ)
  pub main_is : keys.main ≡ main
  pub vault_is : keys.vault ≡ vault
  pub key_is : derived.key ≡ derive secret derived.salt derived.cost
  pub after_is : after ≡ with_factor before label Password secret schedule
  pub bounds : HasBounds after
