-- No account's name comes twice.
use Rattle.std.proofs.Common.{◌≡◌, ℕ, Bool, true, false, List, [], ◌∷◌, ◌++◌, map, refl, sym, ap, ◌∙◌, subst, true≢false}
use Rattle.std.specs.Prelude.{bytes_eq, ◌&&◌, ◌||◌, not, if◌then◌else◌}
use Rattle.std.proofs.lemmas.Slice.Eq.{bytes_eq-Decides}
use Rattle.share_api.specs.Contents.{Bytes}
use Rattle.cabinet.specs.Names.{is_held, with_name, with_names}
use Rattle.cabinet.specs.Opening.{accounts_found}
use Rattle.record_names.specs.Names.{account_of}
use Rattle.client_output.specs.Output.{is_among}
use Rattle.request_turns.specs.Named.{are_apart}

-- names that differ one way differ the other
same_back : (x y : Bytes) → bytes_eq x y ≡ false → bytes_eq y x ≡ false
same_back x y other = by (bytes_eq y x) refl
  where
    by : (b : Bool) → bytes_eq y x ≡ b → bytes_eq y x ≡ false
    by true is = absurd (true≢false (sym ((bytes_eq-Decides x y).1 (sym ((bytes_eq-Decides y x).0 is))) ∙ other))
    by false is = is

or_none : (b c : Bool) → (b || c) ≡ false → (b ≡ false) × (c ≡ false)
or_none true c is = absurd (true≢false is)
or_none false c is = (refl, is)

both : (b c : Bool) → (not b && c) ≡ true → (b ≡ false) × (c ≡ true)
both true c is = absurd (true≢false (sym is))
both false c is = (refl, is)

-- a name that is none of these is none of them with another behind
among_more : (name x : Bytes) (names : List Bytes) → is_among name names ≡ false → bytes_eq x name ≡ false
    → is_among name (names ++ x ∷ []) ≡ false
among_more name x [] none other = ap (λ (b : Bool). b || false) other
among_more name x (y ∷ names) none other =
    let parts = or_none (bytes_eq y name) (is_among name names) none in
    (λ i. parts.0 i || among_more name x names parts.1 other i)

-- another name behind names that are apart
apart_more : (names : List Bytes) (x : Bytes) → are_apart names ≡ true → is_held names x ≡ false
    → are_apart (names ++ x ∷ []) ≡ true
apart_more [] x apart none = refl
apart_more (y ∷ names) x apart none =
    let here = both (is_among y names) (are_apart names) apart in
    let parts = or_none (bytes_eq y x) (is_held names x) none in
    (λ i. not (among_more y x names here.0 (same_back y x parts.0) i) && apart_more names x here.1 parts.1 i)

with_one : (names : List Bytes) (x : Bytes) → are_apart names ≡ true → are_apart (with_name names x) ≡ true
with_one names x apart = by (is_held names x) refl
  where
    by : (b : Bool) → is_held names x ≡ b → are_apart (if b then names else names ++ x ∷ []) ≡ true
    by true is = apart
    by false is = apart_more names x apart is

with_all : (names more : List Bytes) → are_apart names ≡ true → are_apart (with_names names more) ≡ true
with_all names [] apart = apart
with_all names (x ∷ more) apart = with_all (with_name names x) more (with_one names x apart)

-- those that are named and found are apart
pub found_apart : (named names accounts : List Bytes) → accounts ≡ accounts_found named names
    → are_apart accounts ≡ true
found_apart named names accounts is =
    ap are_apart is ∙ with_all (with_names [] named) (map account_of names) (with_all [] named refl)
