-- A turn over one content that no step changes.
use Rattle.std.proofs.Common.{◌≡◌, inl, ℕ, List, [], ◌∷◌, refl, sym, ap, ◌∙◌, subst, append-nil, arith}
use Rattle.fault_count.specs.Causes.{HasCause}
use Rattle.home_image.specs.Book.{among, HoldsOne, HoldsAround, Turns}
use Rattle.home_image.specs.Settled.{IsStateOf}
use Rattle.share_api.specs.Folds.{Fold, Throughout}
use Rattle.share_api.specs.Places.{steps_of}
use Rattle.share_api.specs.Seen.{ShareSeen}
use Rattle.share_api.specs.declared.step.Step.{Step}
use Rattle.home_locks.specs.Meanings.{meaning_of}
use Rattle.home_locks.specs.Turns.{ActStands, made_of}
use Rattle.home_lock_tests.specs.Looks.{look_rules}

-- the steps leave the contents
stays : (seen : List ℕ) (old new : ℕ) (steps : List Step)
    → Fold (among (meaning_of look_rules) seen).does old steps new → new ≡ old
stays seen old new [] fold = fold
stays seen old new (step ∷ steps) fold = stays seen fold.0 new steps fold.2 ∙ fold.1.0

holds_throughout : (P : ℕ → Type 0) (seen : List ℕ) (contents : ℕ) (steps : List Step)
    → P contents → Throughout (among (meaning_of look_rules) seen).does P contents steps
holds_throughout P seen contents [] holds = holds
holds_throughout P seen contents (step ∷ steps) holds = (
  holds,
  λ mid does. holds_throughout P seen mid steps (subst P (sym does.0) holds),
)

look_turns : (client turn place : ℕ) (own : List (ℕ × Step)) (seen : List ℕ) (contents user state : ℕ)
    → HoldsOne (meaning_of look_rules) user contents
    → Turns (meaning_of look_rules) seen (IsStateOf (meaning_of look_rules) state) (made_of client turn place own)
    contents user
look_turns client turn place own seen contents user state holds = record {
  throughout = holds_throughout (HoldsAround (meaning_of look_rules) user (made_of client turn place own).entry) seen
      contents (steps_of own) (inl holds);
  leads = λ new fold.
      let held = subst (HoldsOne (meaning_of look_rules) user) (sym (stays seen contents new (steps_of own) fold)) holds in (
        user,
        record { allowed = refl; holds = held; idle = λ none. record { durable = refl; other = refl } },
        record { fits = tt; holds = held },
      );
}

-- a turn without steps, whatever the share's memory
pub idle_stands : (state turn : ℕ) (old new : ShareSeen)
    → new ≡ old
    → ActStands look_rules state state turn old new
idle_stands state turn old new same = record {
  own = [];
  steps = record {
    own_is = ap (λ (s : ShareSeen). s.own) same ∙ sym (append-nil old.own);
    place = ap (λ (s : ShareSeen). s.place) same;
    cause = subst (λ (s : ShareSeen). HasCause old.faults s.faults ⊥) (sym same)
        (record { later = omega arith; rose = absurd; kept = λ none. refl });
  };
  moved = refl;
  right = λ client place seen contents user among clean is.
      look_turns client turn place [] seen contents user state is.holds;
}
