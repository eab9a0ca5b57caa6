-- How the effects of several calls of a board join.
use Rattle.std.proofs.Common.{◌≡◌, inl, inr, ⊎_elim, Option, None, Some, refl, arith}
use Rattle.fault_count.specs.Told.{Becomes}
use Rattle.board_model.specs.Disk.{Image, Disk, Effect, Same, Follows, Leaves, Goes, GoesOrNot}
use Rattle.board_model.specs.Disk.{Unchanged}

-- the effect R is one of kind T
abbrev pub Includes : Effect → Effect → Type 0
Includes T R = (d i : Image) → R d i → T d i

-- an effect R and then S is one of kind T
abbrev pub Joins : Effect → Effect → Effect → Type 0
Joins R S T = (d e i : Image) → R d e → S e i → T d i

pub follows_weaker : (R T : Effect) (a b : Image → Type 0) → Includes T R
    → Follows R a b → Follows T a b
follows_weaker R T a b sub f i left =
    let from = f i left in (from.0, from.1, sub from.0 i from.2)

pub follows_then : (R S T : Effect) (a b c : Image → Type 0) → Joins R S T
    → Follows R a b → Follows S b c → Follows T a c
follows_then R S T a b c step f g i left =
    let from = g i left in
    let first = f from.0 from.1 in
    (first.0, first.1, step first.0 from.0 i first.2 from.2)

-- the same, where the images between are known to be such
pub follows_through : (R S T : Effect) (a b c : Image → Type 0)
    → ((d e i : Image) → R d e → b e → S e i → T d i)
    → Follows R a b → Follows S b c → Follows T a c
follows_through R S T a b c step f g i left =
    let from = g i left in
    let first = f from.0 from.1 in
    (first.0, first.1, step first.0 from.0 i first.2 from.1 from.2)

-- what a crash may leave goes on by R until b, by S until c, and by T at their end
pub leaves_by : (a b c : Disk) (R S T : Effect) → Includes T R
    → Leaves a b R → Leaves b c S → Follows T a.may_leave c.may_leave
    → ((i : Image) → ((e : Image) × b.may_leave e × S e i) → (d : Image) × a.may_leave d × T d i)
    → Leaves a c T
leaves_by a b c R S T sub f g here go = record {
  later = omega (arith, f.later, g.later);
  each = λ i left.
      ⊎_elim (λ sooner. follows_weaker R T a.may_leave (b.left_since a.ticks) sub f.each i sooner) (go i)
      (g.before a.ticks i f.later left);
  here = here;
  before = λ t i le left.
      ⊎_elim (λ sooner. ⊎_elim (λ long. inl long) (λ h. inr (h.0, h.1, sub h.0 i h.2)) (f.before t i le sooner))
      (λ h. inr (go i h)) (g.before t i (omega (arith, le, f.later)) left);
  keeps = λ t i le left. g.keeps t i (omega (arith, le, f.later)) (f.keeps t i le left);
}

-- one call more, whose effect may be read at an image that was there before it
pub leaves_then : (a b c : Disk) (R S T : Effect) → Includes T R
    → ((d e i : Image) → R d e → b.may_leave e → S e i → T d i)
    → Leaves a b R → Leaves b c S → Leaves a c T
leaves_then a b c R S T sub step f g =
    let here = follows_through R S T a.may_leave b.may_leave c.may_leave step f.here g.here in
    leaves_by a b c R S T sub f g here (λ i h.
    let first = f.here h.0 h.1 in (first.0, first.1, step first.0 h.0 i first.2 h.1 h.2))

-- the same, where more is known of the images before the last call than of those at each moment
pub leaves_on : (a b c : Disk) (R H S T : Effect) → Includes T R → Joins H S T
    → Leaves a b R → Follows H a.may_leave b.may_leave → Leaves b c S → Leaves a c T
leaves_on a b c R H S T sub step f h g =
    let here = follows_then H S T a.may_leave b.may_leave c.may_leave step h g.here in
    leaves_by a b c R S T sub f g here (λ i x.
    let first = h x.0 x.1 in (first.0, first.1, step first.0 x.0 i first.2 x.2))

pub leaves_weaker : (a b : Disk) (R T : Effect) → Includes T R → Leaves a b R → Leaves a b T
leaves_weaker a b R T sub f = record {
  later = f.later;
  each = follows_weaker R T a.may_leave (b.left_since a.ticks) sub f.each;
  here = follows_weaker R T a.may_leave b.may_leave sub f.here;
  before = λ t i le left.
      ⊎_elim (λ long. inl long) (λ h. inr (h.0, h.1, sub h.0 i h.2)) (f.before t i le left);
  keeps = f.keeps;
}

-- before the first call
pub leaves_none : (a : Disk) (T : Effect) → ((i : Image) → T i i)
    → ((i : Image) → a.left_since a.ticks i → a.may_leave i) → Leaves a a T
leaves_none a T same only = record {
  later = omega arith;
  each = λ i left. (i, only i left, same i);
  here = λ i left. (i, left, same i);
  before = λ t i le left. inl left;
  keeps = λ t i le left. left;
}

pub becomes_same : {A : Type 0} (x : Option A) → Becomes x x (λ old new. new ≡ old)
becomes_same None = tt
becomes_same (Some x) = refl

pub becomes_weaker : {A : Type 0} (R T : A → A → Type 0) (x y : Option A)
    → ((d i : A) → R d i → T d i) → Becomes x y R → Becomes x y T
becomes_weaker R T None None sub h = tt
becomes_weaker R T None (Some y) sub h = h
becomes_weaker R T (Some x) None sub h = h
becomes_weaker R T (Some x) (Some y) sub h = sub x y h

pub becomes_then : {A : Type 0} (R S T : A → A → Type 0) (x y z : Option A)
    → ((d e i : A) → R d e → S e i → T d i) → Becomes x y R → Becomes y z S → Becomes x z T
becomes_then R S T None None None step f g = tt
becomes_then R S T None None (Some z) step f g = g
becomes_then R S T None (Some y) z step f g = absurd f
becomes_then R S T (Some x) None z step f g = absurd f
becomes_then R S T (Some x) (Some y) None step f g = g
becomes_then R S T (Some x) (Some y) (Some z) step f g = step x y z f g

pub becomes_both : {A : Type 0} (R S T : A → A → Type 0) (x y : Option A)
    → ((d i : A) → R d i → S d i → T d i) → Becomes x y R → Becomes x y S → Becomes x y T
becomes_both R S T None None step f g = tt
becomes_both R S T None (Some y) step f g = f
becomes_both R S T (Some x) None step f g = f
becomes_both R S T (Some x) (Some y) step f g = step x y f g

pub goes_weaker : (a b : Disk) (R T : Effect) → Includes T R → Goes a b R → Goes a b T
goes_weaker a b R T sub f = record {
  now = becomes_weaker R T a.now b.now sub f.now;
  synced = follows_weaker R T a.once_synced b.once_synced sub f.synced;
}

pub goes_then : (a b c : Disk) (R S T : Effect) → Joins R S T
    → Goes a b R → Goes b c S → Goes a c T
goes_then a b c R S T step f g = record {
  now = becomes_then R S T a.now b.now c.now step f.now g.now;
  synced = follows_then R S T a.once_synced b.once_synced c.once_synced step f.synced g.synced;
}

-- no call, or one that leaves all as it was
pub goes_same : (a : Disk) → Goes a a Same
goes_same a = record { now = becomes_same a.now; synced = λ i left. (i, left, refl) }

pub goes_or_not_weaker : (a b : Disk) (R T : Effect) → Includes T R → Includes T Same
    → GoesOrNot a b R → Goes a b T
goes_or_not_weaker a b R T sub same (inl not_done) = goes_weaker a b Same T same not_done
goes_or_not_weaker a b R T sub same (inr done) = goes_weaker a b R T sub done

-- a call that changes nothing
pub unchanged_none : (a : Disk) → ((i : Image) → a.left_since a.ticks i → a.may_leave i)
    → Unchanged a a
unchanged_none a only = record {
  now = refl;
  goes = goes_same a;
  crash = leaves_none a Same (λ i. refl) only;
}
