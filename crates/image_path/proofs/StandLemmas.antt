-- What stands goes on by a step.
use Rattle.std.proofs.Common.{◌≡◌, inl, inr, ⊎_elim, ℕ, ◌+◌, ◌≤◌, List, [], ◌∷◌, ◌++◌, take, length, refl, sym, subst, arith}
use Rattle.std.proofs.lemmas.List.{take-append-le}
use Rattle.std.proofs.Math.Seq.{take-length}
use Rattle.board_model.specs.Disk.{Image, Disk, Leaves}
use Rattle.image_path.specs.Showing.{ByAccount, AreSame, Makes, MakesOrNot, Shown, StepGoes, IsLawful}
use Rattle.image_path.specs.Paths.{shown_since, IsPart, IsPath, ArePaths, Stands, StandsSince}
use Rattle.image_path.proofs.ChainLemmas.{first_steps, one_longer, all_steps}
use Rattle.image_path.proofs.PathLemmas.{path-grows, path-step}

-- two laws of a board are those of its disk
pub lawful : (disk : Disk) → ((t : ℕ) (i : Image) → t ≤ disk.ticks → disk.may_leave i → disk.left_since t i)
    → ((i : Image) → disk.left_since disk.ticks i → disk.may_leave i) → IsLawful disk
lawful disk counts only = record { counts = counts; only = only }

module _ {C S : Type 0} (account_of : S → ℕ) (does : C → S → C → Type 0)
    (shows : Image → ByAccount C → Type 0) (since : ℕ) (first : ByAccount C) where
  -- each image now shows what all the steps lead to
  abbrev Now : Disk → List S → Type 0
  Now = Stands account_of does shows since first

  -- each image since a tick shows what the first of them lead to
  abbrev Since : ℕ → ℕ → Disk → List S → Type 0
  Since = StandsSince account_of does shows since first

  -- what images since the start show
  abbrev Seen : Disk → ByAccount C → Type 0
  Seen disk = shown_since shows disk since

  -- what an image since the start shows of an account is a part of an image
  seen : (disk : Disk) (i : Image) (parts : ByAccount C) → disk.left_since since i → shows i parts
      → (account : ℕ) → IsPart (Seen disk) account (parts account)
  seen disk i parts left is account = (parts, (i, left, is), refl)

  -- at the start each image shows the first contents
  pub stands-start : (disk : Disk) → IsLawful disk → since ≡ disk.ticks
      → ((i : Image) → disk.may_leave i → shows i first)
      → Now disk []
  stands-start disk laws at shown =
      let le : since ≤ disk.ticks = omega (arith, at) in
      record {
        later = le;
        image = λ i left. (
          first,
          shown i left,
          λ account. record {
            start = seen disk i first (laws.counts since i le left) (shown i left) account;
            fold = refl;
          },
        );
      }

  -- whatever stands now, every image from now on is at the end of the chain or further
  pub since-now : (disk : Disk) (chain : List S) → IsLawful disk → Now disk chain
      → Since disk.ticks (length chain) disk chain
  since-now disk chain laws stands = record {
    later = omega arith;
    image = λ i left.
        let h = stands.image i (laws.only i left) in (
          h.0,
          h.1,
          length chain,
          omega arith,
          omega arith,
          subst (λ l. ArePaths account_of does (Seen disk) l first h.0) (sym (take-length chain)) h.2,
        );
  }

  module _ (old new : Disk) (s : S) (chain : List S) (goes : StepGoes account_of does shows old new s)
      (laws : IsLawful old) (more : IsLawful new) (stands : Now old chain) where
    -- what was shown stays among what is shown since the start
    grows : (parts : ByAccount C) → Seen old parts → Seen new parts
    grows parts h = (h.0, goes.moments.keeps since h.0 stands.later h.1, h.2)

    -- the start is no later than the end of the step
    later : since ≤ new.ticks
    later = omega (arith, stands.later, goes.moments.later)

    -- a step more
    further : (i : Image) (from to : ByAccount C) → new.left_since since i → shows i to
        → ArePaths account_of does (Seen old) chain first from
        → Makes account_of does s from to
        → ArePaths account_of does (Seen new) (chain ++ s ∷ []) first to
    further i from to left is paths makes account =
        path-step account_of does (Seen new) account s chain (first account) from to
        (path-grows account_of does (Seen old) (Seen new) grows chain account (first account) (from account) (paths account))
        makes (seen new i to left is account)

    -- paths to the same contents
    same-paths : (l : List S) (from to : ByAccount C) → AreSame from to
        → ArePaths account_of does (Seen old) l first from
        → ArePaths account_of does (Seen new) l first to
    same-paths l from to same paths account =
        subst (λ c. IsPath account_of does (Seen new) l account (first account) c) (sym (same account))
        (path-grows account_of does (Seen old) (Seen new) grows l account (first account) (from account) (paths account))

    -- each image now is from one before the step, with the step
    pub stands-step : Now new (chain ++ s ∷ [])
    stands-step = record {
      later = later;
      image = λ i left.
          let from = goes.ended i left in
          let h = stands.image from.0 from.1 in
          let to = from.2 h.0 h.1 in
          (to.0, to.1, further i h.0 to.0 (more.counts since i later left) to.1 h.2 to.2);
    }

    -- the parts of an image, and the number of steps that lead to them
    abbrev Left : ℕ → Disk → List S → Image → Type 0
    Left ended disk l i = (parts : ByAccount C) × shows i parts
        × (n : ℕ) × (ended ≤ n) × (n ≤ length l)
        × ArePaths account_of does (Seen disk) (take n l) first parts

    -- an image from within the step shows what the chain leads to, with the step or without it
    in-flight : (ended : ℕ) (i : Image) → ended ≤ length chain → new.left_since since i
        → (from to : ByAccount C) → shows i to
        → ArePaths account_of does (Seen old) chain first from
        → MakesOrNot account_of does s from to
        → Left ended new (chain ++ s ∷ []) i
    in-flight ended i fits left from to is paths (inl same) = (
      to,
      is,
      length chain,
      fits,
      omega (arith, one_longer chain s),
      subst (λ l. ArePaths account_of does (Seen new) l first to) (sym (first_steps chain s))
          (same-paths chain from to same paths),
    )
    in-flight ended i fits left from to is paths (inr makes) = (
      to,
      is,
      length chain + 1,
      omega (arith, fits),
      omega (arith, one_longer chain s),
      subst (λ l. ArePaths account_of does (Seen new) l first to) (sym (all_steps chain s))
          (further i from to left is paths makes),
    )

    -- What a crash might have left since a tick that has passed, it might have left since the start.
    pub since-step : (tick ended : ℕ) → Since tick ended old chain → ended ≤ length chain
        → ((i : Image) → new.left_since tick i → new.left_since since i)
        → Since tick ended new (chain ++ s ∷ [])
    since-step tick ended was fits sooner = record {
      later = omega (arith, was.later, goes.moments.later);
      image = λ i left.
          ⊎_elim (λ before.
          let h = was.image i before in (
            h.0,
            h.1,
            h.2,
            h.3,
            omega (arith, one_longer chain s, h.4),
            subst (λ l. ArePaths account_of does (Seen new) l first h.0)
                (sym (take-append-le h.2 chain (s ∷ []) h.4))
                (same-paths (take h.2 chain) h.0 h.0 (λ account. refl) h.5),
          ))
          (λ from.
          let h = stands.image from.0 from.1 in
          let to = from.2 h.0 h.1 in
          in-flight ended i fits (sooner i left) h.0 to.0 to.1 h.2 to.2)
          (goes.moments.before tick i was.later left);
    }

  -- a call that changes no account's contents, and is no step: settling, or one of the opening
  module _ (old new : Disk) (chain : List S) (quiet : Leaves old new (Shown shows AreSame))
      (more : IsLawful new) (stands : Now old chain) where
    -- what was shown stays among what is shown since the start
    still-grows : (parts : ByAccount C) → Seen old parts → Seen new parts
    still-grows parts h = (h.0, quiet.keeps since h.0 stands.later h.1, h.2)

    -- paths to the same contents, past such work
    still : (l : List S) (from to : ByAccount C) → AreSame from to
        → ArePaths account_of does (Seen old) l first from
        → ArePaths account_of does (Seen new) l first to
    still l from to same paths account =
        subst (λ c. IsPath account_of does (Seen new) l account (first account) c) (sym (same account))
        (path-grows account_of does (Seen old) (Seen new) still-grows l account (first account) (from account) (paths account))

    -- each image now still shows what the steps lead to
    pub stands-quiet : Now new chain
    stands-quiet = record {
      later = omega (arith, stands.later, quiet.later);
      image = λ i left.
          let from = quiet.here i left in
          let h = stands.image from.0 from.1 in
          let to = from.2 h.0 h.1 in
          (to.0, to.1, still chain h.0 to.0 to.2 h.2);
    }

    -- and so does each image since a tick
    pub since-quiet : (tick ended : ℕ) → Since tick ended old chain → ended ≤ length chain
        → Since tick ended new chain
    since-quiet tick ended was fits = record {
      later = omega (arith, was.later, quiet.later);
      image = λ i left.
          ⊎_elim (λ before.
          let h = was.image i before in
          (h.0, h.1, h.2, h.3, h.4, still (take h.2 chain) h.0 h.0 (λ account. refl) h.5))
          (λ from.
          let h = stands.image from.0 from.1 in
          let to = from.2 h.0 h.1 in (
            to.0,
            to.1,
            length chain,
            fits,
            omega arith,
            subst (λ l. ArePaths account_of does (Seen new) l first to.0) (sym (take-length chain))
                (still chain h.0 to.0 to.2 h.2),
          ))
          (quiet.before tick i was.later left);
    }
