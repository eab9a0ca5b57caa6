-- What stands since a run began goes on by a step.
use Rattle.std.proofs.Common.{inl, ⊎_elim, ℕ, List, [], ◌∷◌, ◌++◌, None, Some, refl, subst, Bool, false}
use Rattle.std.proofs.Common.{arith}
use Rattle.std.specs.Prelude.{IfSome, Option}
use Rattle.board_model.specs.Disk.{Image, Disk, Leaves}
use Rattle.board_model.proofs.Effects.{leaves_none}
use Rattle.cabinet.specs.Edits.{File, AfterSome}
use Rattle.pw_types.specs.declared.era.Era.{Era}
use Rattle.share_api.specs.Contents.{Bytes, Contents}
use Rattle.share_api.specs.Steps.{Does}
use Rattle.share_api.specs.declared.step.Write.TheVariants.{Put, Remove, RemoveLeaf}
use Rattle.share_api.specs.declared.step.Op.{Op}
use Rattle.share_api.specs.declared.step.Op.TheVariants.{Names, Get, Do, InsertLeaf, TryLeaf, ResetLeaf, LookLeaf}
use Rattle.share_api.specs.declared.step.Step.{Step}
use Rattle.image_path.specs.Showing.{ByAccount, MakesOrNot, Shown, IsLawful}
use Rattle.image_path.proofs.StandLemmas.{stands-start, since-now, stands-step, since-step}
use Rattle.platform_core.specs.Records.{account_at, AreDistinct, Shows, ShowsSome, OthersKept}
use Rattle.platform_core.specs.Shown.{contents_in}
use Rattle.platform_core.specs.Asked.{IsOwn, edits_of}
use Rattle.platform_core.specs.Standing.{IsRight, IsIdle, number_of, AccountsGo, RecordsStand}
use Rattle.platform_core.specs.Standing.{AreThere, ChainStands}
use Rattle.platform_core.specs.Unsure.{Memory}
use Rattle.platform_core.proofs.RecordLemmas.{kept_shows, others_kept, others_then, others_change}
use Rattle.platform_core.proofs.BoardLemmas.{none_done, one_done}
use Rattle.platform_core.proofs.StepLemmas.{whole}
use Rattle.platform_core.proofs.ShownLemmas.{right_shows}

-- a step on records leaves what is no account's
others_step : (accounts : List Bytes) → AreDistinct accounts → (number : ℕ) (op : Op)
    → IsOwn (account_at accounts number) op → (d i : Image) → AfterSome (edits_of op) d i → OthersKept accounts d i
others_step accounts distinct number Names own d i s = others_kept accounts d i (none_done d i s)
others_step accounts distinct number (Get name) own d i s = others_kept accounts d i (none_done d i s)
others_step accounts distinct number (Do (Put name bytes)) own d i s =
    ⊎_elim (others_kept accounts d i) (others_change accounts distinct number name (Some bytes) own.0
    (whole bytes own.1) d i) (one_done (File name (Some bytes)) d i s)
others_step accounts distinct number (Do (Remove name)) own d i s =
    ⊎_elim (others_kept accounts d i) (others_change accounts distinct number name None own refl d i)
    (one_done (File name None) d i s)
others_step accounts distinct number (Do (RemoveLeaf label)) own d i s = absurd own
others_step accounts distinct number (InsertLeaf x) own d i s = absurd own
others_step accounts distinct number (TryLeaf x y) own d i s = absurd own
others_step accounts distinct number (ResetLeaf x y) own d i s = absurd own
others_step accounts distinct number (LookLeaf x) own d i s = absurd own

module _ (era : Era) (accounts : List Bytes) where
  -- before the first step
  pub chain_start : (a : Disk) (memory : Memory) (unsettled : Bool) → IsLawful a
      → ChainStands era accounts a memory a memory unsettled []
  chain_start a memory unsettled laws = record {
    right = λ r. record {
      now = r.now;
      told = r.told;
      agrees = r.agrees;
      settled = λ e. r.settled refl;
      named = r.named;
    };
    stands = begun;
    images = λ r parts there. since-now number_of (Does era) (Shows accounts) a.ticks parts a [] laws
        (begun r parts there);
    later = omega arith;
    others = λ r image i told left. others_kept accounts image i (r.settled refl image i told (laws.only i left));
  }
    where
      begun : IsRight a memory false → (parts : ByAccount Contents) → AreThere accounts a parts
          → RecordsStand era accounts a.ticks parts a []
      begun r parts there =
          let shown : Shows accounts r.now parts = subst (λ (o : Option Image). IfSome o
          (λ now. Shows accounts now parts)) r.told there in
          stands-start number_of (Does era) (Shows accounts) a.ticks parts a laws refl
          (λ i left. kept_shows accounts r.now i parts (r.settled refl r.now i r.told left) shown)

  -- a step that does nothing, and so needs no work on the board
  idle_goes : (a : Disk) (step : Step) → IsLawful a → IsIdle era step → AccountsGo era accounts a a step
  idle_goes a step laws idle = record {
    moments = leaves_none a (Shown (Shows accounts) (MakesOrNot number_of (Does era) step))
        (λ i parts shows. (parts, shows, inl (λ account. refl))) laws.only;
    ended = λ i left. (
      i,
      left,
      λ parts shows. (
        parts,
        shows,
        record {
          own = let mine = shows (number_of step) in idle (parts (number_of step)) mine.leaves mine.clear;
          others = λ account other. refl;
        },
      ),
    );
  }

  pub chain_idle : (first a : Disk) (start memory : Memory) (unsettled : Bool) (step : Step) (chain : List Step)
      → IsLawful a → IsIdle era step
      → ChainStands era accounts first start a memory unsettled chain
      → ChainStands era accounts first start a memory unsettled (chain ++ step ∷ [])
  chain_idle first a start memory unsettled step chain laws idle c = record {
    right = c.right;
    stands = λ r parts there.
        stands-step number_of (Does era) (Shows accounts) first.ticks parts a a step chain
        (idle_goes a step laws idle) laws laws
        (c.stands r parts there);
    images = λ r parts there.
        since-step number_of (Does era) (Shows accounts) first.ticks parts a a step chain
        (idle_goes a step laws idle) laws laws
        (c.stands r parts there) first.ticks 0 (c.images r parts there) (omega arith) (λ i left. left);
    later = c.later;
    others = c.others;
  }

  -- each image since the run began shows contents
  pub chain_shows : (first a : Disk) (start memory : Memory) (unsettled : Bool) (chain : List Step)
      → ChainStands era accounts first start a memory unsettled chain
      → IsRight first start false
      → (i : Image) → a.left_since first.ticks i → ShowsSome accounts i
  chain_shows first a start memory unsettled chain c right i left =
      let h = (c.images right (contents_in accounts start.names first.now)
      (right_shows accounts first start false right)).image i left in
      (h.0, h.1)

  -- a step more
  pub chain_step : AreDistinct accounts → (first old new : Disk) (start before after : Memory) (unsettled more : Bool)
      (step : Step) (chain : List Step)
      → IsLawful old → IsLawful new
      → IsOwn (account_at accounts (number_of step)) step.op
      → Leaves old new (AfterSome (edits_of step.op))
      → (IsRight old before unsettled → IsRight new after more)
      → (IsRight old before unsettled → AccountsGo era accounts old new step)
      → ChainStands era accounts first start old before unsettled chain
      → ChainStands era accounts first start new after more (chain ++ step ∷ [])
  chain_step distinct first old new start before after unsettled more step chain laws later_laws own edits right goes
      c = record {
        right = λ r. right (c.right r);
        stands = λ r parts there. stands-step number_of (Does era) (Shows accounts) first.ticks parts old new step chain
            (goes (c.right r)) laws later_laws (c.stands r parts there);
        images = λ r parts there.
            since-step number_of (Does era) (Shows accounts) first.ticks parts old new step chain
            (goes (c.right r)) laws later_laws (c.stands r parts there)
            first.ticks 0 (c.images r parts there) (omega arith) (λ i left. left);
        later = omega (arith, c.later, edits.later);
        others = λ r image i told left.
            ⊎_elim (c.others r image i told)
            (λ from. others_then accounts image from.0 i (c.others r image from.0 told
            (laws.counts first.ticks from.0 c.later from.1))
            (others_step accounts distinct (number_of step) step.op own from.0 i from.2))
            (edits.before first.ticks i c.later left);
      }
