-- Trying a PIN.
use Rattle.std.specs.Prelude.{◌≡◌, ℕ, Bool, true, false, Some, Result, Ok, Err, bytes_eq, is_some, take, IsOk, IsErr}
use Rattle.std.specs.FinMap.{get}
use Rattle.account_machine.specs.declared.factor.Factor.{Factor}
use Rattle.account_machine.specs.declared.user.Durable.{Durable}
use Rattle.account_machine.specs.Effect.{cleared, missed, readiness_now}
use Rattle.factor_files.specs.declared.factor.FactorRecord.{FactorRecord}
use Rattle.pw_types.specs.declared.delay.Readiness.{Readiness}
use Rattle.pw_types.specs.declared.delay.Readiness.TheVariants as readinesses
use Rattle.pw_types.specs.declared.era.Era.{Era}
use Rattle.scrypt_kdf.specs.Derive.{derive, derive_32}
use Rattle.sealed_text.specs.OpeningSealed.{Opens}
use Rattle.secret_stash.specs.Keys.{pin_wrap}
use Rattle.share_api.specs.Contents.{Bytes, Contents}
use Rattle.share_api.specs.Folds.{Fold}
use Rattle.share_api.specs.Seen.{ShareSeen}
use Rattle.share_api.specs.Steps.{Does}
use Rattle.share_api.specs.declared.fault.ShareFault.{ShareFault}
use Rattle.share_api.specs.declared.leaf.TryAnswer.{TryAnswer}
use Rattle.share_api.specs.declared.leaf.TryAnswer.TheVariants.{Right, Wrong, Delayed, Locked}
use Rattle.stash_format.specs.Forms.{block_extra, main_of}
use Rattle.stash_format.specs.declared.block.Block.{Block}
use Rattle.stash_format.specs.declared.contents.Contents.{Contents as Stash}
use Rattle.stored_home.specs.Changes.{durable_set}
use Rattle.stored_home.specs.Holds.{Keys}
use Rattle.stored_home.specs.declared.fault.StoreFault.{StoreFault}
use Rattle.stored_home.specs.declared.fault.StoreFault.TheVariants as faults
use Rattle.stored_home.specs.declared.stored.Stored.{Stored}
use Rattle.home_edits.specs.Edits.{Edits, Starts, told_fault}
use Rattle.pin_edits.specs.Refusals.{ChangesNothing}

-- how the try of a leaf ended, as an edit tells it
abbrev pub told_try : Result TryAnswer ShareFault → Result TryAnswer StoreFault
told_try (Ok answer) = Ok answer
told_try (Err fault) = Err (told_fault fault)

-- the low-entropy secret of a PIN, which its leaf has
abbrev pub low_of : FactorRecord → Factor → Bytes
low_of row factor = derive_32 factor.secret row.salt row.cost

-- whether what was derived begins with the PIN's low-entropy secret
abbrev pub is_low : Bytes → FactorRecord → Factor → Bool
is_low key row factor = bytes_eq (take 32 key) (low_of row factor)

-- the durable part after a try of the label's factor, which may come or not, with a right or a wrong secret
abbrev pub durable_tried : Readiness → Bool → Era → ℕ → Durable → Bytes → Factor → Durable
durable_tried readinesses.Ready true era moment durable label factor = durable_set durable label (cleared factor)
durable_tried readinesses.Ready false era moment durable label factor =
    durable_set durable label (missed (record { boot = era.boot; at = moment }) factor)
durable_tried (readinesses.Delayed until) right era moment durable label factor = durable
durable_tried readinesses.Locked right era moment durable label factor = durable

-- what such a try answers, with the leaf's high-entropy secret where it is right
abbrev pub answer_of : Readiness → Bool → Bytes → TryAnswer
answer_of readinesses.Ready true high = Right high
answer_of readinesses.Ready false high = Wrong
answer_of (readinesses.Delayed until) right high = Delayed until
answer_of readinesses.Locked right high = Locked

-- A PIN is tried at a moment with what was derived of a secret: after it the factor's count and stamp are those that
-- the delay rule and the comparison with its own secret give.
pub record TriesPin (era : Era) (stored : Stored) (label key : Bytes) (moment : ℕ) (contents : Contents) (keys : Keys)
    (before after : Durable) : Type 0 where
  pub row : FactorRecord
  pub known : get stored.factors label ≡ Some row
  pub factor : Factor
  pub held : get before.factors label ≡ Some factor
  pub after_is : after
      ≡ durable_tried (readiness_now era moment factor) (is_low key row factor) era moment before label factor

-- The answer is what the factor gives. The secret that a right one gets opens the factor's block, together with what
-- is derived of the factor's secret.
pub record AnswersPin (era : Era) (account label key : Bytes) (moment : ℕ) (row : FactorRecord) (factor : Factor)
    (keys : Keys) (block : Block) (answer : TryAnswer) : Type 0 where
  pub high : Bytes
  pub answer_is : answer ≡ answer_of (readiness_now era moment factor) (is_low key row factor) high
  pub opens : Opens (pin_wrap high (derive factor.secret row.salt row.cost)) (block_extra account label block)
      (main_of block) keys.main

-- A try of a PIN: an edit whose answer is that of the durable part before it, and which changes nothing where it is
-- refused.
pub record EditsByTry (old new : ShareSeen) (account : Bytes) (stored : Stored) (label key : Bytes) (moment : ℕ)
    (result : Result TryAnswer StoreFault) : Type 0 where
  pub edits : Edits old new account stored stored (IsOk result) (result ≡ Err faults.Failed)
      (TriesPin old.era stored label key moment)
  pub answers : (answer : TryAnswer) → result ≡ Ok answer → (contents new : Contents) (keys : Keys)
      (before next : Durable) (stash : Stash) (block : Block)
      → (starts : Starts (is_some old.lost) account stored (TriesPin old.era stored label key moment) contents keys
      before next)
      → stored.stash ≡ Some stash → get stash.blocks label ≡ Some block
      → Fold (Does old.era) contents edits.steps new
      → AnswersPin old.era account label key moment starts.asked.row starts.asked.factor keys block answer
  pub refused : IsErr result → (result ≡ Err faults.Failed → ⊥)
      → ChangesNothing old account stored (TriesPin old.era stored label key moment) edits.steps
