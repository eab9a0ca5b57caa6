-- What is served is within all bounds.
use Rattle.std.proofs.Common.{◌≡◌, ℕ, ◌≤◌, Bool, true, false, ◌&&◌, nat_le, not, List, [], ◌∷◌, length, Option, None, Some, Ok, Err, refl, sym, ap, subst, arith, rules}
use Rattle.std.specs.Prelude.{if◌then◌else◌, IsTrue}
use Rattle.std.specs.Option.{option_and_then}
use Rattle.std.specs.List.{list_all, filter}
use Rattle.std.specs.Str.{bytes_eq}
use Rattle.std.proofs.lemmas.Bool.{and_parts, leb-true}
use Rattle.home_names.specs.Names.{is_account_name}
use Rattle.serve_words.specs.declared.fault.UsageFault.TheVariants.{TooMany}
use Rattle.serve_words.specs.Words.{Word, Asked, asked_by, cost_at, cost_of, cost_asked, number_of, each_once}
use Rattle.serve_words.specs.Limits.{answer_to, within_limits, IsBounded}
use Rattle.serve_words.proofs.Spelling.{asked_found}

-- what is asked is answered, where it is within the limits
pub record IsWithin (found : Option Asked) (what : Asked) : Type 0 where
  pub found_is : found ≡ Some what
  pub few : length what.accounts ≤ 64
  pub clients : what.clients ≤ 16

limits_kept : (found : Option Asked) (what : Asked) → within_limits found ≡ Ok what → IsWithin found what
limits_kept None what answered = absurd (search rules)
limits_kept (Some asked) what answered =
    by_test (nat_le (length asked.accounts) 64 && nat_le asked.clients 16) refl answered
  where
    by_test : (b : Bool) → (nat_le (length asked.accounts) 64 && nat_le asked.clients 16) ≡ b
        → (if b then Ok asked else Err (TooMany (length asked.accounts) asked.clients)) ≡ Ok what → IsWithin (Some asked) what
    by_test true kept is =
        let parts = and_parts (nat_le (length asked.accounts) 64) (nat_le asked.clients 16) kept in
        let same : asked ≡ what = search rules in
        subst (λ (w : Asked). IsWithin (Some asked) w) same record {
          found_is = refl;
          few = leb-true (length asked.accounts) 64 parts.0;
          clients = leb-true asked.clients 16 parts.1;
        }
    by_test false kept is = absurd (search rules)

-- a cost is from 1 to 16
cost_within : (number cost : ℕ) → cost_at number ≡ Some cost → (1 ≤ cost) × (cost ≤ 16)
cost_within number cost is = by_test (nat_le 1 number && nat_le number 16) refl is
  where
    by_test : (b : Bool) → (nat_le 1 number && nat_le number 16) ≡ b
        → (if b then Some number else None) ≡ Some cost → (1 ≤ cost) × (cost ≤ 16)
    by_test true within is =
        let parts = and_parts (nat_le 1 number) (nat_le number 16) within in
        let least = leb-true 1 number parts.0 in
        let most = leb-true number 16 parts.1 in
        let same : number ≡ cost = search rules in
        (omega (arith, least, same), omega (arith, most, same))
    by_test false within is = absurd (search rules)

cost_bounded : (digits : Option Word) (cost : ℕ) → cost_asked digits ≡ Some cost → (1 ≤ cost) × (cost ≤ 16)
cost_bounded None cost is =
    let same : 14 ≡ cost = search rules in
    (omega (arith, same), omega (arith, same))
cost_bounded (Some digits) cost is = by_number (number_of 2 digits) refl is
  where
    by_number : (number : Option ℕ) → number_of 2 digits ≡ number
        → option_and_then cost_at number ≡ Some cost → (1 ≤ cost) × (cost ≤ 16)
    by_number None at is = absurd (search rules)
    by_number (Some number) at is = cost_within number cost is

-- those of names that pass a test are names
plain_filter : (p : Word → Bool) (names : List Word) → list_all is_account_name names ≡ true
    → list_all is_account_name (filter p names) ≡ true
plain_filter p [] plain = refl
plain_filter p (name ∷ names) plain =
    let parts = and_parts (is_account_name name) (list_all is_account_name names) plain in
    by_test (p name) refl parts.0 (plain_filter p names parts.1)
  where
    by_test : (b : Bool) → p name ≡ b → is_account_name name ≡ true
        → list_all is_account_name (filter p names) ≡ true
        → list_all is_account_name (filter p (name ∷ names)) ≡ true
    by_test true is this rest = rw (is, this) rest
    by_test false is this rest = rw is rest

-- and so are they, each once
plain_once : (names : List Word) → list_all is_account_name names ≡ true
    → list_all is_account_name (each_once names) ≡ true
plain_once [] plain = refl
plain_once (name ∷ names) plain =
    let parts = and_parts (is_account_name name) (list_all is_account_name names) plain in
    rw parts.0 (plain_filter (λ (other : Word). not (bytes_eq name other)) (each_once names)
    (plain_once names parts.1))

pub is_bounded : (words : List Word) (what : Asked) → answer_to words ≡ Ok what → IsBounded what
is_bounded words what answered =
    let within = limits_kept (asked_by words) what answered in
    let asks = asked_found words what within.found_is in
    let cost = cost_bounded asks.cost what.cost asks.cost_number in
    record {
      least = cost.0;
      most = cost.1;
      plain = subst (λ (names : List Word). IsTrue (list_all is_account_name names)) (sym asks.accounts)
          (plain_once asks.names asks.named);
      few = within.few;
      clients = within.clients;
    }
