-- What is told of an object after two calls, or by two facts of one call.
use Rattle.std.proofs.Common.{ℕ, List, [], ◌++◌, sym, ap, ◌∙◌, append_assoc, append-nil, Option, None, Some}
use Rattle.fault_count.specs.Told.{Becomes, Gives}

-- content that didn't change
pub becomes_same : {A : Type 0} (R : A → A → Type 0) (x : Option A) → ((d : A) → R d d) → Becomes x x R
becomes_same R None each = tt
becomes_same R (Some x) each = each x

-- a weaker fact of the same change
pub becomes_weaker : {A : Type 0} (R T : A → A → Type 0) (x y : Option A)
    → ((d i : A) → R d i → T d i) → Becomes x y R → Becomes x y T
becomes_weaker R T None None weaker h = tt
becomes_weaker R T None (Some y) weaker h = h
becomes_weaker R T (Some x) None weaker h = h
becomes_weaker R T (Some x) (Some y) weaker h = weaker x y h

-- content that changed twice
pub becomes_then : {A : Type 0} (R S T : A → A → Type 0) (x y z : Option A)
    → ((d e i : A) → R d e → S e i → T d i) → Becomes x y R → Becomes y z S → Becomes x z T
becomes_then R S T None None None step f g = tt
becomes_then R S T None None (Some z) step f g = g
becomes_then R S T None (Some y) z step f g = absurd f
becomes_then R S T (Some x) None z step f g = absurd f
becomes_then R S T (Some x) (Some y) None step f g = g
becomes_then R S T (Some x) (Some y) (Some z) step f g = step x y z f g

-- two facts of one change
pub becomes_both : {A : Type 0} (R S T : A → A → Type 0) (x y : Option A)
    → ((d i : A) → R d i → S d i → T d i) → Becomes x y R → Becomes x y S → Becomes x y T
becomes_both R S T None None step f g = tt
becomes_both R S T None (Some y) step f g = f
becomes_both R S T (Some x) None step f g = f
becomes_both R S T (Some x) (Some y) step f g = step x y f g

-- a clock that wasn't asked
pub gives_none : (x : Option (List ℕ)) → Gives x x []
gives_none None = tt
gives_none (Some x) = sym (append-nil x)

-- a clock that was asked by two steps
pub gives_then : (x y z : Option (List ℕ)) (first second : List ℕ) → Gives x y first → Gives y z second → Gives x z (first ++ second)
gives_then x y None first second f g = tt
gives_then x None (Some z) first second f g = absurd g
gives_then None (Some y) (Some z) first second f g = f
gives_then (Some x) (Some y) (Some z) first second f g = g ∙ (ap (λ old. old ++ second) f ∙ append_assoc x first second)
