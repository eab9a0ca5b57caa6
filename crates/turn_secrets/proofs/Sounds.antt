-- A state stays sound where the row changes it.
use Rattle.std.proofs.Common.{ℕ, Option, refl}
use Rattle.auth_session.specs.Table.{proved_kept}
use Rattle.random_values.specs.Stretches.{Place}
use Rattle.share_api.specs.Contents.{Bytes}
use Rattle.stored_home.specs.Coherent.{IsCoherent}
use Rattle.stored_home.specs.declared.stored.Stored.{Stored}
use Rattle.user_state.specs.Sound.{IsKeyed, IsSound}
use Rattle.user_state.specs.declared.state.Doubt.{Doubt}
use Rattle.user_state.specs.declared.state.UserState.{UserState}
use Rattle.turn_rows.proofs.Kept.{all_edit}
use Rattle.turn_secrets.proofs.Proving.{proved_state}

module _ (before : UserState) (sound : IsSound before) where
  -- once a session keeps a main key
  pub sound_proved : (stored : Stored) → IsCoherent before.account stored → (generator : Place) (at : ℕ) (main : Bytes)
      → IsSound (proved_state before stored generator at main)
  sound_proved stored coherent generator at main = record {
    coherent = coherent;
    least = sound.least;
    most = sound.most;
    keyed = all_edit IsKeyed (proved_kept main before.last) (λ k h. refl) before.sessions.kept at sound.keyed;
  }

  -- where the generator went on, or the account is unsettled
  pub sound_doubted : (doubt : Option Doubt) (generator : Place)
      → IsSound (record before { doubt = doubt; generator = generator })
  sound_doubted doubt generator =
      record { coherent = sound.coherent; least = sound.least; most = sound.most; keyed = sound.keyed }

  -- once the vault is open
  pub sound_mounted : (vault : Option Bytes) → IsSound (record before { vault = vault })
  sound_mounted vault =
      record { coherent = sound.coherent; least = sound.least; most = sound.most; keyed = sound.keyed }
