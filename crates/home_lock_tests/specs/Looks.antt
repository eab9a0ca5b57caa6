-- Turns that look and change nothing.
use Rattle.std.specs.Prelude.{◌≡◌, ℕ, List, [], ◌∷◌, None, Contains}
use Rattle.std.proofs.Common.{refl, sym, subst, arith}
use Rattle.home_image.specs.Book.{among}
use Rattle.home_image.specs.Settled.{owned}
use Rattle.image_path.specs.Paths.{IsLedIn, Recovers}
use Rattle.image_path.specs.Showing.{ByAccount}
use Rattle.share_api.specs.Folds.{Fold}
use Rattle.share_api.specs.Places.{steps_of}
use Rattle.share_api.specs.declared.step.Step.{Step}
use Rattle.home_locks.specs.Meanings.{Rules, meaning_of}

-- Contents, durable parts and users are numbers. No step and no turn changes them, and contents hold their own number.
-- A turn leaves the state.
abbrev pub look_rules : Rules ℕ ℕ ℕ ℕ ℕ
look_rules = record {
  does = λ old step new. new ≡ old;
  holds = λ contents durable. contents ≡ durable;
  durable = λ user. user;
  other = λ user. None;
  allows = λ before turn after. after ≡ before;
  clean = λ seen user turn. Unit {0};
  fits = λ state contents user. Unit {0};
  moves = λ before turn steps after. after ≡ before;
}

-- a turn's number stays, and is told
abbrev pub TellsNumber : ℕ → ℕ → ℕ → Type 0
TellsNumber asked done told = (done ≡ asked) × (told ≡ done)

-- each account has 0 in the image
abbrev pub IsBlankImage : ByAccount ℕ → Type 0
IsBlankImage image = (account : ℕ) → image account ≡ 0

-- ---- proofs that a law of the turns cites

first_is_there : Contains {X = ℕ} (0 ∷ []) 0
first_is_there = (0, omega arith, refl)

steps_stay : (steps : List Step) → Fold (among (meaning_of look_rules) (0 ∷ [])).does 0 steps 0
steps_stay [] = refl
steps_stay (step ∷ steps) = (0, (refl, first_is_there), steps_stay steps)

led_in : (chain : List Step) (account : ℕ) → IsLedIn (meaning_of look_rules) IsBlankImage chain account 0 0
led_in chain account = record {
  seen = 0 ∷ [];
  parts = ((λ a. 0, λ a. refl, refl), tt);
  led = record {
    start = first_is_there;
    fold = steps_stay (steps_of (owned (meaning_of look_rules) account chain));
  };
}

-- each image has what no step leads to
pub looks_recover : (chain : List Step)
    → Recovers (meaning_of look_rules) (λ account. 0) (λ account. 0) IsBlankImage chain
looks_recover chain = record {
  image = λ image blank. (
    0,
    record {
      within = omega arith;
      each = λ account. record {
        seen = 0 ∷ [];
        parts = ((λ a. 0, λ a. refl, refl), tt);
        led = record { start = first_is_there; fold = blank account };
      };
    },
  );
  now_is = λ account. led_in chain account;
}

-- as it has what all steps lead to
pub looks_last : (chain : List Step) (image : ByAccount ℕ) → IsBlankImage image → (account : ℕ)
    → IsLedIn (meaning_of look_rules) IsBlankImage chain account 0 (image account)
looks_last chain image blank account =
    subst (λ (contents : ℕ). IsLedIn (meaning_of look_rules) IsBlankImage chain account 0 contents)
    (sym (blank account)) (led_in chain account)
