-- Turns that end before any step: they leave all but the generator.
use Rattle.std.proofs.Common.{◌≡◌, None, refl, sym, ◌∙◌, subst, inl, inr, ⊎_elim}
use Rattle.std.specs.Prelude.{◌⊎◌}
use Rattle.account_machine.specs.declared.answer.Answer.{Answer}
use Rattle.account_machine.specs.declared.answer.Answer.TheVariants as answers
use Rattle.account_machine.specs.declared.request.Turn.{Turn}
use Rattle.account_machine.specs.Step.{MayFail}
use Rattle.random_values.specs.Stretches.{Place}
use Rattle.record_names.specs.Names.{stash_name}
use Rattle.share_api.specs.Contents.{Bytes}
use Rattle.share_api.specs.Seen.{ShareSeen}
use Rattle.user_state.specs.Turns.{IsGiven}
use Rattle.user_state.specs.declared.state.Doubt.{Doubt}
use Rattle.user_state.specs.declared.state.UserState.{UserState}
use Rattle.turn_rows.specs.Due.{IsReady}
use Rattle.turn_edits.specs.Endings.{IsEnded, IsTried, IsCaused}
use Rattle.turn_edits.proofs.EditGiven.{stood_given}

-- want of memory, or a damaged stash
abbrev pub IsStoodFor : Bytes → Answer → Type 0
IsStoodFor account answer = (answer ≡ answers.Damaged (stash_name account)) ⊎ (answer ≡ answers.NoMemory)

pub stood_turn : (before : UserState) (ready : IsReady before) (turn : Turn) (may : MayFail turn) (generator : Place)
    (account : Bytes) (answer : Answer) → IsStoodFor account answer → (share : ShareSeen)
    → IsGiven share share before (record before { generator = generator }) turn answer
stood_turn before ready turn may generator account answer is share =
    stood_given before ready turn may generator answer
    (⊎_elim (λ e. inr (stash_name account, e)) (λ e. inl e) is) share

-- the account stays settled
pub stood_ended : (Tells : Doubt → Type 0) (before : UserState) (generator : Place) (account : Bytes) (answer : Answer)
    → IsStoodFor account answer → before.doubt ≡ None
    → IsEnded Tells before (record before { generator = generator }) answer
stood_ended Tells before generator account answer is none = record {
  fault = λ e. absurd (calm e);
  loaded = λ e. absurd (calm e);
  settled = λ _. none;
}
  where
    calm : answer ≡ answers.StorageFault → ⊥
    calm e = ⊎_elim
        (λ d. let z : ◌≡◌ {A = Answer} (answers.Damaged (stash_name account)) answers.StorageFault = sym d ∙ e in cc z)
        (λ d. let z : ◌≡◌ {A = Answer} answers.NoMemory answers.StorageFault = sym d ∙ e in cc z) is

-- want of memory is answered so
pub starved_caused : (share : ShareSeen) (account : Bytes) (Broken : Type 0)
    → IsCaused share share account Broken answers.NoMemory
starved_caused share account Broken = record {
  known = inr (inr (inl refl));
  fault = λ e. let z : ◌≡◌ {A = Answer} answers.NoMemory answers.StorageFault = e in absurd (cc z);
  done = λ e. let z : ◌≡◌ {A = Answer} answers.NoMemory answers.Ok = e in absurd (cc z);
  memory = λ _. refl;
  damaged = λ name e. let z : ◌≡◌ {A = Answer} answers.NoMemory (answers.Damaged name) = e in absurd (cc z);
}

named_same : (one two : Bytes) → ◌≡◌ {A = Answer} (answers.Damaged one) (answers.Damaged two) → two ≡ one
named_same one two e = let same : one ≡ two = cc in sym same

-- and so is a damaged stash, where the account is broken so
pub stood_caused : (share : ShareSeen) (account : Bytes) (Broken : Type 0) (answer : Answer)
    → IsStoodFor account answer → Broken → IsCaused share share account Broken answer
stood_caused share account Broken answer is broken = ⊎_elim
    (λ e. subst (IsCaused share share account Broken) (sym e) (record {
      known = inr (inr (inr (stash_name account, refl)));
      fault = λ k. let z : ◌≡◌ {A = Answer} (answers.Damaged (stash_name account)) answers.StorageFault = k in
          absurd (cc z);
      done = λ k. let z : ◌≡◌ {A = Answer} (answers.Damaged (stash_name account)) answers.Ok = k in absurd (cc z);
      memory = λ k. let z : ◌≡◌ {A = Answer} (answers.Damaged (stash_name account)) answers.NoMemory = k in
          absurd (cc z);
      damaged = λ name k. (named_same (stash_name account) name k, broken, refl);
    }))
    (λ e. subst (IsCaused share share account Broken) (sym e) (starved_caused share account Broken)) is

-- nothing was tried
pub not_tried : (account : Bytes) (answer : Answer) (P : Type 0) → IsStoodFor account answer → IsTried answer → P
not_tried account answer P is tried = absurd (⊎_elim
    (λ d. ⊎_elim
    (λ e. let z : ◌≡◌ {A = Answer} (answers.Damaged (stash_name account)) answers.Ok = sym d ∙ e in cc z)
    (λ e. let z : ◌≡◌ {A = Answer} (answers.Damaged (stash_name account)) answers.StorageFault = sym d ∙ e in cc z)
    tried)
    (λ d. ⊎_elim
    (λ e. let z : ◌≡◌ {A = Answer} answers.NoMemory answers.Ok = sym d ∙ e in cc z)
    (λ e. let z : ◌≡◌ {A = Answer} answers.NoMemory answers.StorageFault = sym d ∙ e in cc z)
    tried) is)
