-- What each answer to a password says, and what stays.
use Rattle.std.specs.Prelude.{◌≡◌, ◌⊎◌, ℕ, true, false, Some, option_map, Bool}
use Rattle.account_machine.specs.Effect.{proved_end}
use Rattle.account_machine.specs.Outline.{session_at}
use Rattle.account_machine.specs.Sessions.{place_of}
use Rattle.account_machine.specs.declared.answer.Answer.{Answer}
use Rattle.account_machine.specs.declared.answer.Answer.TheVariants as answers
use Rattle.account_machine.specs.declared.session.Token.{Token}
use Rattle.auth_session.specs.Table.{sessions_in, edit_at, proved_kept}
use Rattle.random_values.specs.Stretches.{moved}
use Rattle.share_api.specs.Contents.{Bytes}
use Rattle.share_api.specs.Seen.{ShareSeen}
use Rattle.stored_home.specs.Loaded.{block_in}
use Rattle.user_state.specs.declared.state.Doubt.TheVariants.{Editions}
use Rattle.user_state.specs.declared.state.UserState.{UserState}
use Rattle.turn_secrets.specs.Binding.{is_unbound, drawn_by, LoadsBound, IsBoundAt}
use Rattle.turn_secrets.specs.Checked.{IsRight, IsWrong}

-- whether the label's block is bound to nothing
abbrev pub unbound_at : UserState → Bytes → Bool
unbound_at state label = is_unbound (block_in state.stored.stash label)

-- The secret is right: the token's session keeps the main key and lasts to this end, and the block is bound. Where it
-- wasn't it is sealed anew, under the next IV of the account's generator; else no step is made. Nothing else changes.
pub record Proves (old new : ShareSeen) (token : Token) (label secret : Bytes) (before after : UserState) (ends : ℕ)
    : Type 0 where
  pub key : Bytes
  pub main : Bytes
  pub right : IsRight before.stored label secret key main
  pub end : option_map (proved_end before.last) (session_at (sessions_in before.sessions.kept) token) ≡ Some ends
  pub bound : IsBoundAt after.stored label
  pub loaded : LoadsBound (unbound_at before label) before.stored label key main before.generator after.stored
  pub quiet : unbound_at before label ≡ false → new ≡ old
  pub same : after ≡ record before {
    stored = after.stored;
    generator = drawn_by (unbound_at before label) before.generator;
    sessions = record before.sessions {
      kept = edit_at (proved_kept main before.last) (place_of token (sessions_in before.sessions.kept))
          before.sessions.kept;
    };
  }

-- The secret is right, and the put of the stash with the block that was sealed anew failed: the session isn't
-- authenticated, and what is loaded stays.
pub record FailsToBind (label secret : Bytes) (before after : UserState) : Type 0 where
  pub key : Bytes
  pub main : Bytes
  pub right : IsRight before.stored label secret key main
  pub unbound : unbound_at before label ≡ true
  pub same : after ≡ record before { doubt = Some Editions; generator = moved before.generator 3 }

-- The secret is wrong, and nothing changes.
pub record IsRefused (old new : ShareSeen) (label secret : Bytes) (before after : UserState) : Type 0 where
  pub wrong : IsWrong before.stored label secret
  pub quiet : new ≡ old
  pub same : after ≡ before

-- There was no memory: no step is made, and nothing changes but that an IV may be drawn.
pub record IsStarved (old new : ShareSeen) (before after : UserState) : Type 0 where
  pub quiet : new ≡ old
  pub same : (after ≡ before) ⊎ (after ≡ record before { generator = moved before.generator 3 })

-- there are no other answers
abbrev pub Answers : ShareSeen → ShareSeen → Token → Bytes → Bytes → UserState → UserState → Answer → Type 0
Answers old new token label secret before after (answers.OkPassword ends) =
    Proves old new token label secret before after ends
Answers old new token label secret before after answers.Wrong = IsRefused old new label secret before after
Answers old new token label secret before after answers.StorageFault = FailsToBind label secret before after
Answers old new token label secret before after answers.NoMemory = IsStarved old new before after
Answers old new token label secret before after _ = ⊥
