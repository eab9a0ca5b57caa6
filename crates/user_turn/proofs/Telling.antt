-- Which answers a mount and a try of a password have.
use Rattle.std.proofs.Common.{◌≡◌, ℕ, refl, ◌⊎◌, inl, inr}
use Rattle.account_machine.specs.declared.answer.Answer.{Answer}
use Rattle.account_machine.specs.declared.answer.Answer.TheVariants as answers
use Rattle.account_machine.specs.declared.session.Token.{Token}
use Rattle.share_api.specs.Contents.{Bytes}
use Rattle.share_api.specs.Seen.{ShareSeen}
use Rattle.user_state.specs.declared.state.UserState.{UserState}
use Rattle.turn_secrets.specs.Mounts.{Mounts, IsDamaged, MountAnswers}
use Rattle.turn_secrets.specs.Passwords.{Answers, Proves, FailsToBind, IsRefused, IsStarved}

module _ (token : Token) (before after : UserState) where
  pub mounts_so : (answer : Answer) → MountAnswers token before after answer
      → ((answer ≡ answers.Ok) × Mounts token before after)
      ⊎ ((name : Bytes) × (answer ≡ answers.Damaged name) × IsDamaged token name before after)
      ⊎ ((answer ≡ answers.NoMemory) × (after ≡ before))
  mounts_so answers.Ok h = inl (refl, h)
  mounts_so (answers.OkEnds ends) h = absurd h
  mounts_so (answers.OkPassword ends) h = absurd h
  mounts_so (answers.OkSession ends other) h = absurd h
  mounts_so (answers.OkFactors lines) h = absurd h
  mounts_so (answers.OkFiles names) h = absurd h
  mounts_so (answers.OkBytes bytes) h = absurd h
  mounts_so answers.PinCleared h = absurd h
  mounts_so answers.PinsClear h = absurd h
  mounts_so (answers.Seen edition) h = absurd h
  mounts_so answers.Exists h = absurd h
  mounts_so answers.NoHome h = absurd h
  mounts_so answers.SessionsSpent h = absurd h
  mounts_so answers.UnknownSession h = absurd h
  mounts_so answers.Expired h = absurd h
  mounts_so answers.WrongIntent h = absurd h
  mounts_so answers.NotAuthorised h = absurd h
  mounts_so answers.UnknownFactor h = absurd h
  mounts_so answers.FactorExists h = absurd h
  mounts_so answers.PasswordFirst h = absurd h
  mounts_so answers.LastPassword h = absurd h
  mounts_so answers.TooManyFactors h = absurd h
  mounts_so answers.BadSecret h = absurd h
  mounts_so answers.EditionsSpent h = absurd h
  mounts_so answers.AlreadyMounted h = absurd h
  mounts_so answers.NotMounted h = absurd h
  mounts_so answers.UnknownFile h = absurd h
  mounts_so answers.TooManyFiles h = absurd h
  mounts_so answers.TooLarge h = absurd h
  mounts_so answers.UnknownAccount h = absurd h
  mounts_so answers.Wrong h = absurd h
  mounts_so answers.Locked h = absurd h
  mounts_so (answers.Delayed seconds) h = absurd h
  mounts_so (answers.TreeLost host chip) h = absurd h
  mounts_so (answers.Damaged name) h = inr (inl (name, refl, h))
  mounts_so answers.StorageFault h = absurd h
  mounts_so answers.NoMemory h = inr (inr (refl, h))

module _ (old new : ShareSeen) (token : Token) (label secret : Bytes) (before after : UserState) where
  pub tried_so : (answer : Answer) → Answers old new token label secret before after answer
      → ((ends : ℕ) × (answer ≡ answers.OkPassword ends) × Proves old new token label secret before after ends)
      ⊎ ((answer ≡ answers.Wrong) × IsRefused old new label secret before after)
      ⊎ ((answer ≡ answers.StorageFault) × FailsToBind label secret before after)
      ⊎ ((answer ≡ answers.NoMemory) × IsStarved old new before after)
  tried_so answers.Ok h = absurd h
  tried_so (answers.OkEnds ends) h = absurd h
  tried_so (answers.OkPassword ends) h = inl (ends, refl, h)
  tried_so (answers.OkSession ends other) h = absurd h
  tried_so (answers.OkFactors lines) h = absurd h
  tried_so (answers.OkFiles names) h = absurd h
  tried_so (answers.OkBytes bytes) h = absurd h
  tried_so answers.PinCleared h = absurd h
  tried_so answers.PinsClear h = absurd h
  tried_so (answers.Seen edition) h = absurd h
  tried_so answers.Exists h = absurd h
  tried_so answers.NoHome h = absurd h
  tried_so answers.SessionsSpent h = absurd h
  tried_so answers.UnknownSession h = absurd h
  tried_so answers.Expired h = absurd h
  tried_so answers.WrongIntent h = absurd h
  tried_so answers.NotAuthorised h = absurd h
  tried_so answers.UnknownFactor h = absurd h
  tried_so answers.FactorExists h = absurd h
  tried_so answers.PasswordFirst h = absurd h
  tried_so answers.LastPassword h = absurd h
  tried_so answers.TooManyFactors h = absurd h
  tried_so answers.BadSecret h = absurd h
  tried_so answers.EditionsSpent h = absurd h
  tried_so answers.AlreadyMounted h = absurd h
  tried_so answers.NotMounted h = absurd h
  tried_so answers.UnknownFile h = absurd h
  tried_so answers.TooManyFiles h = absurd h
  tried_so answers.TooLarge h = absurd h
  tried_so answers.UnknownAccount h = absurd h
  tried_so answers.Wrong h = inr (inl (refl, h))
  tried_so answers.Locked h = absurd h
  tried_so (answers.Delayed seconds) h = absurd h
  tried_so (answers.TreeLost host chip) h = absurd h
  tried_so (answers.Damaged name) h = absurd h
  tried_so answers.StorageFault h = inr (inr (inl (refl, h)))
  tried_so answers.NoMemory h = inr (inr (inr (refl, h)))
