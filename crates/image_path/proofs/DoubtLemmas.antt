-- What stands goes on by a step, where settling may undo one that failed.
use Rattle.std.proofs.Common.{inl, inr, ⊎_elim, ℕ, ◌+◌, ◌≤◌, List, [], ◌∷◌, ◌++◌, take, length, refl, sym, subst, arith}
use Rattle.std.proofs.lemmas.List.{take-append-le}
use Rattle.board_model.specs.Disk.{Image, Disk, Leaves, Follows}
use Rattle.board_model.proofs.Effects.{leaves_weaker, follows_weaker, leaves_on, follows_then}
use Rattle.image_path.specs.Showing.{ByAccount, AreSame, Makes, MakesOrNot, Shown, StepGoes, IsLawful}
use Rattle.image_path.specs.Paths.{shown_since, IsPart, IsPath, ArePaths, Stands, StandsSince}
use Rattle.image_path.specs.Doubt.{IsOneOf, InStepFrom, AfterStepFrom, StepGoesFrom, StandsFrom}
use Rattle.image_path.specs.Doubt.{InSettling, Settled}
use Rattle.image_path.proofs.ChainLemmas.{first_steps, one_longer, all_steps}
use Rattle.image_path.proofs.PathLemmas.{path-grows, path-step, path-end}

module _ {C S : Type 0} (account_of : S → ℕ) (does : C → S → C → Type 0)
    (shows : Image → ByAccount C → Type 0) (since : ℕ) (first : ByAccount C)
    (Back More : ByAccount C → ByAccount C → Type 0)
    (old new : Disk) (s : S) (chain : List S)
    (goes : StepGoesFrom account_of does shows Back More old new s)
    (more : IsLawful new) (stands : StandsFrom account_of does shows since first Back old chain) where
  -- what images since the start show
  abbrev Seen : Disk → ByAccount C → Type 0
  Seen disk = shown_since shows disk since

  -- the steps lead to these parts
  abbrev Led : Disk → List S → ByAccount C → Type 0
  Led disk l parts = ArePaths account_of does (Seen disk) l first parts

  -- what was shown stays among what is shown since the start
  grows : (parts : ByAccount C) → Seen old parts → Seen new parts
  grows parts h = (h.0, goes.moments.keeps since h.0 stands.later h.1, h.2)

  -- to the same parts they lead too
  led-same : (l : List S) (from to : ByAccount C) → AreSame from to → Led old l from → Led new l to
  led-same l from to same paths account =
      subst (λ c. IsPath account_of does (Seen new) l account (first account) c) (sym (same account))
      (path-grows account_of does (Seen old) (Seen new) grows l account (first account) (from account) (paths account))

  -- and a step more leads further
  led-next : (from to : ByAccount C) → Led new chain from → Makes account_of does s from to
      → ((account : ℕ) → IsPart (Seen new) account (to account)) → Led new (chain ++ s ∷ []) to
  led-next from to paths makes parts account =
      path-step account_of does (Seen new) account s chain (first account) from to (paths account) makes (parts account)

  -- of either family the steps so far are led
  led-one : (parts back from : ByAccount C) → IsOneOf parts back from → Led old chain parts → Led old chain back
      → Led new chain from
  led-one parts back from one p q =
      ⊎_elim (λ same. led-same chain parts from same p) (λ same. led-same chain back from same q) one

  -- what an image since the start shows of an account is a part of an image
  shown-part : (i : Image) (parts : ByAccount C) → new.left_since since i → shows i parts
      → (account : ℕ) → IsPart (Seen new) account (parts account)
  shown-part i parts left is account = (parts, (i, left, is), refl)

  -- contents that a path leads to are an image's
  led-part : (from to : ByAccount C) → AreSame from to → Led new chain from
      → (account : ℕ) → IsPart (Seen new) account (to account)
  led-part from to same paths account =
      subst (IsPart (Seen new) account) (sym (same account))
      (path-end account_of does (Seen new) account chain (first account) (from account) (paths account))

  -- past the step, to the same parts
  same-led : (l : List S) (from to : ByAccount C) → AreSame from to → Led new l from → Led new l to
  same-led l from to same paths account =
      subst (λ c. IsPath account_of does (Seen new) l account (first account) c) (sym (same account)) (paths account)

  -- the start is no later than the end of the step
  later : since ≤ new.ticks
  later = omega (arith, stands.later, goes.moments.later)

  -- of each image now both families are led by the longer chain
  pub stands-from-step : StandsFrom account_of does shows since first More new (chain ++ s ∷ [])
  stands-from-step = record {
    later = later;
    image = λ i left.
        let at = goes.ended i left in
        let h = stands.image at.0 at.1 in
        let to = at.2 h.0 h.1 h.2 h.3 in
        let back = to.5 in
        let led = led-next to.1 to.0 (led-one h.0 h.1 to.1 to.3 h.4 h.5) to.4
        (shown-part i to.0 (more.counts since i later left) to.2) in
        let start = led-one h.0 h.1 back.1 back.3 h.4 h.5 in (
          to.0,
          back.0,
          to.2,
          back.2,
          led,
          ⊎_elim (λ same. same-led (chain ++ s ∷ []) to.0 back.0 same led)
              (λ undone. led-next back.1 back.0 start undone.1 (led-part back.1 back.0 undone.0 start)) back.4,
        );
  }

  -- the parts of an image, and the number of steps that lead to them
  abbrev Left : ℕ → Image → Type 0
  Left ended i = (parts : ByAccount C) × shows i parts
      × (n : ℕ) × (ended ≤ n) × (n ≤ length (chain ++ s ∷ []))
      × Led new (take n (chain ++ s ∷ [])) parts

  -- an image from within the step shows what the chain leads to, with the step or without it
  in-flight : (ended : ℕ) (i : Image) → ended ≤ length chain → new.left_since since i
      → (from to : ByAccount C) → shows i to → Led new chain from
      → MakesOrNot account_of does s from to
      → Left ended i
  in-flight ended i fits left from to is paths (inl same) = (
    to,
    is,
    length chain,
    fits,
    omega (arith, one_longer chain s),
    subst (λ l. Led new l to) (sym (first_steps chain s)) (same-led chain from to same paths),
  )
  in-flight ended i fits left from to is paths (inr makes) = (
    to,
    is,
    length chain + 1,
    omega (arith, fits),
    omega (arith, one_longer chain s),
    subst (λ l. Led new l to) (sym (all_steps chain s)) (led-next from to paths makes (shown-part i to left is)),
  )

  -- each image since a tick shows what the first steps lead to
  pub since-from-step : (tick ended : ℕ)
      → StandsSince account_of does shows since first tick ended old chain → ended ≤ length chain
      → ((i : Image) → new.left_since tick i → new.left_since since i)
      → StandsSince account_of does shows since first tick ended new (chain ++ s ∷ [])
  since-from-step tick ended was fits sooner = record {
    later = omega (arith, was.later, goes.moments.later);
    image = λ i left.
        ⊎_elim (λ before.
        let h = was.image i before in (
          h.0,
          h.1,
          h.2,
          h.3,
          omega (arith, one_longer chain s, h.4),
          subst (λ l. Led new l h.0) (sym (take-append-le h.2 chain (s ∷ []) h.4))
              (led-same (take h.2 chain) h.0 h.0 (λ account. refl) h.5),
        ))
        (λ at.
        let h = stands.image at.0 at.1 in
        let to = at.2 h.0 h.1 h.2 h.3 in
        in-flight ended i fits (sooner i left) to.1 to.0 to.2 (led-one h.0 h.1 to.1 to.3 h.4 h.5) to.4)
        (goes.moments.before tick i was.later left);
  }

-- where nothing is in doubt, what settling may go back to is what the image shows
module _ {C S : Type 0} (account_of : S → ℕ) (does : C → S → C → Type 0)
    (shows : Image → ByAccount C → Type 0) (since : ℕ) (first : ByAccount C) (disk : Disk) (chain : List S) where
  pub from-settled : (Back : ByAccount C → ByAccount C → Type 0) → ((parts : ByAccount C) → Back parts parts)
      → Stands account_of does shows since first disk chain
      → StandsFrom account_of does shows since first Back disk chain
  from-settled Back same stands = record {
    later = stands.later;
    image = λ i left. let h = stands.image i left in (h.0, h.0, h.1, same h.0, h.2, h.2);
  }

  -- what an image shows is led by the steps, whatever settling may go back to
  pub shown-stands : (Back : ByAccount C → ByAccount C → Type 0)
      → StandsFrom account_of does shows since first Back disk chain
      → Stands account_of does shows since first disk chain
  shown-stands Back stands = record {
    later = stands.later;
    image = λ i left. let h = stands.image i left in (h.0, h.2, h.4);
  }

-- each family is the same as itself
same : {C : Type 0} (parts : ByAccount C) → AreSame parts parts
same parts account = refl

-- a step that may be undone where it failed, and a step that first settles
module _ {C S : Type 0} (account_of : S → ℕ) (does : C → S → C → Type 0)
    (shows : Image → ByAccount C → Type 0) (Back : ByAccount C → ByAccount C → Type 0) (s : S) where
  -- the step failed, and may be done or not; settling may go back to what was there before it
  pub failed-goes : (old new : Disk)
      → ((parts later : ByAccount C) → AreSame parts later → Makes account_of does s parts later)
      → ((parts later : ByAccount C) → AreSame parts later → Back later parts)
      → ((parts later : ByAccount C) → Makes account_of does s parts later → Back later parts)
      → Leaves old new (Shown shows (MakesOrNot account_of does s))
      → StepGoesFrom account_of does shows AreSame Back old new s
  failed-goes old new undone none done l = record {
    moments = leaves_weaker old new (Shown shows (MakesOrNot account_of does s)) (InStepFrom account_of does shows AreSame s)
        (λ d i r parts back is b. let to = r parts is in (to.0, parts, to.1, inl (same parts), to.2)) l;
    ended = follows_weaker (Shown shows (MakesOrNot account_of does s)) (AfterStepFrom account_of does shows AreSame Back s)
        old.may_leave new.may_leave
        (λ d i r parts back is b.
        let to = r parts is in (
          to.0,
          parts,
          to.1,
          inl (same parts),
          ⊎_elim (λ e. undone parts to.0 e) (λ m. m) to.2,
          (
            parts,
            parts,
            ⊎_elim (λ e. none parts to.0 e) (λ m. done parts to.0 m) to.2,
            inl (same parts),
            inr (same parts, undone parts parts (same parts)),
          ),
        )) l.here;
  }

  -- settling goes back, and then the step does its own work
  pub settled-goes : (old mid new : Disk)
      → Leaves old mid (InSettling shows Back)
      → Follows (Settled shows Back) old.may_leave mid.may_leave
      → StepGoes account_of does shows mid new s
      → StepGoesFrom account_of does shows Back AreSame old new s
  settled-goes old mid new l f goes = record {
    moments = leaves_on old mid new (InSettling shows Back) (Settled shows Back)
        (Shown shows (MakesOrNot account_of does s)) (InStepFrom account_of does shows Back s)
        (λ d i r parts back is b. let to = r parts back is b in (to.0, to.0, to.1, to.2, inl (same to.0)))
        (λ d e i h r parts back is b.
        let at = h parts back is b in
        let to = r at.0 at.1 in
        (to.0, at.0, to.1, inr at.2, to.2)) l f goes.moments;
    ended = follows_then (Settled shows Back) (Shown shows (Makes account_of does s))
        (AfterStepFrom account_of does shows Back AreSame s) old.may_leave mid.may_leave new.may_leave
        (λ d e i h r parts back is b.
        let at = h parts back is b in
        let to = r at.0 at.1 in
        (to.0, at.0, to.1, inr at.2, to.2, (to.0, at.0, same to.0, inr at.2, inl (same to.0)))) f goes.ended;
  }

  -- settling failed: what it may go back to stays
  pub unsettled-goes : (old new : Disk)
      → ((parts later : ByAccount C) → AreSame parts later → Makes account_of does s parts later)
      → ((parts later back : ByAccount C) → AreSame parts later → Back parts back → Back later back)
      → ((back later : ByAccount C) → AreSame back later → Back later back)
      → Leaves old new (InSettling shows Back)
      → StepGoesFrom account_of does shows Back Back old new s
  unsettled-goes old new undone moves least l = record {
    moments = leaves_weaker old new (InSettling shows Back) (InStepFrom account_of does shows Back s)
        (λ d i r parts back is b. let to = r parts back is b in (to.0, to.0, to.1, to.2, inl (same to.0))) l;
    ended = follows_weaker (InSettling shows Back) (AfterStepFrom account_of does shows Back Back s)
        old.may_leave new.may_leave
        (λ d i r parts back is b.
        let to = r parts back is b in (
          to.0,
          to.0,
          to.1,
          to.2,
          undone to.0 to.0 (same to.0),
          (
            back,
            back,
            ⊎_elim (λ e. moves parts to.0 back e b) (λ e. least back to.0 e) to.2,
            inr (same back),
            inr (same back, undone back back (same back)),
          ),
        )) l.here;
  }
