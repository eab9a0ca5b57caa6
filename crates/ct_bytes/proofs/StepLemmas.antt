-- A chain of steps that gave something gave something at each step.
use Rattle.std.proofs.Common.{◌≡◌, Bool, true, false, Result, Ok, Err, refl, ap, sym, ◌∙◌}
use Rattle.ct_bytes.specs.Reading.{◌>>=◌, ◌>>◌, rule, or_fault}

-- what the first step gave, and that the next one went on from it
pub bind-ok : {A B E : Type 0} (first : Result A E) (next : A → Result B E) (y : B) → (first >>= next) ≡ Ok y
    → (x : A) × (first ≡ Ok x) × (next x ≡ Ok y)
bind-ok (Ok x) next y is = (x, refl, is)
bind-ok (Err fault) next y is = absurd (cc)

-- the same for a step that gives nothing
pub then-ok : {B E : Type 0} (first : Result (Unit {0}) E) (next : Result B E) (y : B) → (first >> next) ≡ Ok y
    → (first ≡ Ok tt) × (next ≡ Ok y)
then-ok (Ok tt) next y is = (refl, is)
then-ok (Err fault) next y is = absurd (cc)

-- the rule held
pub rule-ok : {E : Type 0} (holds : Bool) (fault : E) → rule holds fault ≡ Ok tt → holds ≡ true
rule-ok true fault is = refl
rule-ok false fault is = absurd (cc)

-- the step itself gave it
pub or_fault-ok : {A E F : Type 0} (told : E → F) (step : Result A E) (x : A) → or_fault told step ≡ Ok x → step ≡ Ok x
or_fault-ok told (Ok y) x is = let same : y ≡ x = cc in ap Ok same
or_fault-ok told (Err fault) x is = absurd (cc)

-- so a reading that went on with a rule kept it
pub rule_then-ok : {B E : Type 0} (holds : Bool) (fault : E) (next : Result B E) (y : B) → (rule holds fault >> next) ≡ Ok y
    → (holds ≡ true) × (next ≡ Ok y)
rule_then-ok true fault next y is = (refl, is)
rule_then-ok false fault next y is = absurd (cc)

-- and one that went on from a step told in other words had it from the step
pub step-ok : {A B E F : Type 0} (told : E → F) (step : Result A E) (next : A → Result B F) (y : B)
    → (or_fault told step >>= next) ≡ Ok y → (x : A) × (step ≡ Ok x) × (next x ≡ Ok y)
step-ok told (Ok x) next y is = (x, refl, is)
step-ok told (Err fault) next y is = absurd (cc)

-- the same for a step that gives nothing
pub done-ok : {B E F : Type 0} (told : E → F) (step : Result (Unit {0}) E) (next : Result B F) (y : B)
    → (or_fault told step >> next) ≡ Ok y → (step ≡ Ok tt) × (next ≡ Ok y)
done-ok told (Ok tt) next y is = (refl, is)
done-ok told (Err fault) next y is = absurd (cc)

-- what the last step gave
pub ok-same : {B E : Type 0} (x y : B) (read : Result B E) → read ≡ Ok x → read ≡ Ok y → x ≡ y
ok-same x y read first second = let same : Ok x ≡ Ok y = sym first ∙ second in cc
