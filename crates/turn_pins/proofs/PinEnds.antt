-- How the try of a leaf ends a turn, by its fault.
use Rattle.std.proofs.Common.{◌≡◌, ◌⊎◌, ⊎_elim, ℕ, Option, None, Some, Result, Ok, Err, refl, sym, ◌∙◌, subst}
use Rattle.std.specs.Prelude.{IfErr}
use Rattle.account_machine.specs.declared.answer.Answer.{Answer}
use Rattle.account_machine.specs.declared.answer.Answer.TheVariants as answers
use Rattle.auth_session.specs.Table.{Table, proved_kept}
use Rattle.home_edits.specs.Edits.{told_fault}
use Rattle.share_api.specs.Contents.{Bytes}
use Rattle.share_api.specs.Seen.{ShareSeen}
use Rattle.share_api.specs.declared.fault.ShareFault.{ShareFault}
use Rattle.share_api.specs.declared.fault.ShareFault.TheVariants as shares
use Rattle.share_api.specs.declared.leaf.LeafView.{LeafView}
use Rattle.share_api.specs.declared.leaf.TryAnswer.{TryAnswer}
use Rattle.share_api.specs.declared.leaf.TryAnswer.TheVariants.{Right, Wrong, Delayed, Locked}
use Rattle.share_api.specs.Conditions.{TellsLoss}
use Rattle.stored_home.specs.declared.fault.StoreFault.{StoreFault}
use Rattle.stored_home.specs.declared.fault.StoreFault.TheVariants as faults
use Rattle.user_state.specs.Sound.{IsSound, IsKeyed, IsTellable}
use Rattle.user_state.specs.declared.state.Doubt.{Doubt}
use Rattle.user_state.specs.declared.state.Doubt.TheVariants.{Leaf}
use Rattle.user_state.specs.declared.state.UserState.{UserState}
use Rattle.turn_edits.specs.Endings.{doubt_of, KeepsState, IsEnded}
use Rattle.turn_rows.proofs.Kept.{all_edit}
use Rattle.turn_secrets.proofs.Sounds.{sound_doubted}
use Rattle.turn_pins.specs.Endings.{TellsTree}
use Rattle.turn_pins.specs.Looking.{IsLeafDoubt, IsLookFault, IsRefusal}
use Rattle.turn_pins.specs.Resetting.{IsToldAnswer}
use Rattle.turn_pins.specs.Trying.{RightEnds, TriedEnds, SeenTried, TryHeld}
use Rattle.turn_pins.specs.declared.trial.Trial.{Trial}

-- a fault of the try, as it is told
pub fault_ends : (fault : ShareFault) (trial : Trial) (view : LeafView) (at : ℕ) (before after : UserState)
    (answer : Answer) → IsToldAnswer (Err (told_fault fault)) answer
    → after ≡ record before {
      doubt = doubt_of (Leaf trial.label trial.tree view) before.doubt (Err (told_fault fault));
    }
    → TriedEnds (Err fault) trial view at before after answer
fault_ends shares.Failed trial view at before after answer told is = (is, told)
fault_ends (shares.TreeLost host chip) trial view at before after answer told is = (is, told)
fault_ends (shares.Damaged name) trial view at before after answer told is = (is, told)
fault_ends shares.NoMemory trial view at before after answer told is = (is, told)

-- ---- what is sound stays so

module _ (before : UserState) (sound : IsSound before) where
  same_sound : (after : UserState) → after ≡ before → IsSound after
  same_sound after is = subst (λ (s : UserState). IsSound s) (sym is) sound

  right_sound : (o : Option Bytes) (at : ℕ) (after : UserState) (answer : Answer) → RightEnds o at before after answer
      → IsSound after
  right_sound None at after answer h = same_sound after h.1.0
  right_sound (Some main) at after answer h = subst (λ (s : UserState). IsSound s) (sym h.3) (record {
    coherent = sound.coherent;
    least = sound.least;
    most = sound.most;
    keyed = all_edit IsKeyed (proved_kept main before.last) (λ k h. refl) before.sessions.kept at sound.keyed;
  })

  tried_sound : (gave : Result TryAnswer ShareFault) (trial : Trial) (view : LeafView) (at : ℕ) (after : UserState)
      (answer : Answer) → TriedEnds gave trial view at before after answer → IsSound after
  tried_sound (Ok (Right high)) trial view at after answer h = right_sound _ at after answer h
  tried_sound (Ok Wrong) trial view at after answer h = same_sound after h.0
  tried_sound (Ok (Delayed until)) trial view at after answer h = same_sound after h.0
  tried_sound (Ok Locked) trial view at after answer h = same_sound after h.0
  tried_sound (Err shares.Failed) trial view at after answer h = subst (λ (s : UserState). IsSound s) (sym h.0)
      (sound_doubted before sound (Some (Leaf trial.label trial.tree view)) before.generator)
  tried_sound (Err (shares.TreeLost host chip)) trial view at after answer h = same_sound after h.0
  tried_sound (Err (shares.Damaged name)) trial view at after answer h = same_sound after h.0
  tried_sound (Err shares.NoMemory) trial view at after answer h = same_sound after h.0

  seen_sound : (mid new : ShareSeen) (trial : Trial) (view : Result LeafView StoreFault) (at : ℕ) (after : UserState)
      (answer : Answer) → SeenTried mid new trial view at before after answer → IsSound after
  seen_sound mid new trial (Ok view) at after answer h = tried_sound h.tried trial view at after answer h.ends
  seen_sound mid new trial (Err fault) at after answer h = same_sound after h.1

  pub held_sound : (old new : ShareSeen) (trial : Trial) (at : ℕ) (after : UserState) (answer : Answer)
      → TryHeld old new trial at before after answer → IsSound after
  held_sound old new trial at after answer h = seen_sound h.mid new trial h.view at after answer h.ends

-- ---- what the turn keeps

-- what a turn on a leaf keeps of the state, where the tree isn't lost
pub record LeafKept (label : Bytes) (before after : UserState) (answer : Answer) : Type 0 where
  pub keeps : KeepsState before after
  pub ended : IsEnded (IsLeafDoubt label) before after answer
  pub tellable : IsTellable after.doubt after
  pub generator : after.generator ≡ before.generator
  pub stored : after.stored ≡ before.stored
  pub tree : TellsTree None answer

-- the answer is neither a storage fault nor a lost tree
record IsCalm (answer : Answer) : Type 0 where
  calm : answer ≡ answers.StorageFault → ⊥
  tree : TellsTree None answer

memory_calm : IsCalm answers.NoMemory
memory_calm = record {
  calm = λ e. let z : ◌≡◌ {A = Answer} answers.NoMemory answers.StorageFault = e in cc z;
  tree = λ host chip e. let z : ◌≡◌ {A = Answer} answers.NoMemory (answers.TreeLost host chip) = e in cc z;
}

damaged_calm : (name : Bytes) → IsCalm (answers.Damaged name)
damaged_calm name = record {
  calm = λ e. let z : ◌≡◌ {A = Answer} (answers.Damaged name) answers.StorageFault = e in cc z;
  tree = λ host chip e. let z : ◌≡◌ {A = Answer} (answers.Damaged name) (answers.TreeLost host chip) = e in cc z;
}

told_calm : (name : Bytes) (answer : Answer) → (answer ≡ answers.Damaged name) ⊎ (answer ≡ answers.NoMemory)
    → IsCalm answer
told_calm name answer is = ⊎_elim (λ e. subst IsCalm (sym e) (damaged_calm name))
    (λ e. subst IsCalm (sym e) memory_calm) is

module _ (label : Bytes) (before : UserState) (none : before.doubt ≡ None) (whole : before.stored.lost ≡ None) where
  -- the sessions alone change
  calm_kept : (answer : Answer) (table : Table) → IsCalm answer
      → LeafKept label before (record before { sessions = table }) answer
  calm_kept answer table c = record {
    keeps = record { account = refl; cost = refl; last = refl };
    ended = record {
      fault = λ e. absurd (c.calm e);
      loaded = λ e. absurd (c.calm e);
      settled = λ _. none;
    };
    tellable = subst (λ (d : Option Doubt). IsTellable d (record before { sessions = table })) (sym none) tt;
    generator = refl;
    stored = refl;
    tree = c.tree;
  }

  same_kept : (after : UserState) (answer : Answer) → after ≡ before → IsCalm answer
      → LeafKept label before after answer
  same_kept after answer is c = subst (λ (s : UserState). LeafKept label before s answer) (sym is)
      (calm_kept answer before.sessions c)

  right_kept : (o : Option Bytes) (at : ℕ) (after : UserState) (answer : Answer) → RightEnds o at before after answer
      → LeafKept label before after answer
  right_kept None at after answer h = same_kept after answer h.1.0 (told_calm h.0 answer h.1.1)
  right_kept (Some main) at after answer h =
      subst (λ (s : UserState). LeafKept label before s answer) (sym h.3)
      (calm_kept answer _ (subst IsCalm (sym h.2) (record {
        calm = λ e. let z : ◌≡◌ {A = Answer} (answers.OkEnds h.0) answers.StorageFault = e in cc z;
        tree = λ host chip e. let z : ◌≡◌ {A = Answer} (answers.OkEnds h.0) (answers.TreeLost host chip) = e in cc z;
      })))

  module _ (trial : Trial) (label_is : trial.label ≡ label) (view : LeafView) (at : ℕ) where
    tried_kept : (gave : Result TryAnswer ShareFault) (lost : Option (Bytes × Bytes)) → TellsLoss lost gave
        → lost ≡ None → (after : UserState) (answer : Answer) → TriedEnds gave trial view at before after answer
        → LeafKept label before after answer
    tried_kept (Ok (Right high)) lost tells found after answer h = right_kept _ at after answer h
    tried_kept (Ok Wrong) lost tells found after answer h = same_kept after answer h.0 (subst IsCalm (sym h.1) (record {
      calm = λ e. let z : ◌≡◌ {A = Answer} answers.Wrong answers.StorageFault = e in cc z;
      tree = λ host chip e. let z : ◌≡◌ {A = Answer} answers.Wrong (answers.TreeLost host chip) = e in cc z;
    }))
    tried_kept (Ok (Delayed until)) lost tells found after answer h =
        same_kept after answer h.0 (subst IsCalm (sym h.1) (delayed_calm _))
      where
        delayed_calm : (seconds : ℕ) → IsCalm (answers.Delayed seconds)
        delayed_calm seconds = record {
          calm = λ e. let z : ◌≡◌ {A = Answer} (answers.Delayed seconds) answers.StorageFault = e in cc z;
          tree = λ host chip e. let z : ◌≡◌ {A = Answer} (answers.Delayed seconds) (answers.TreeLost host chip) = e in
              cc z;
        }
    tried_kept (Ok Locked) lost tells found after answer h =
        same_kept after answer h.0 (subst IsCalm (sym h.1) (record {
          calm = λ e. let z : ◌≡◌ {A = Answer} answers.Locked answers.StorageFault = e in cc z;
          tree = λ host chip e. let z : ◌≡◌ {A = Answer} answers.Locked (answers.TreeLost host chip) = e in cc z;
        }))
    tried_kept (Err shares.Failed) lost tells found after answer h =
        subst (λ (s : UserState). LeafKept label before s answer) (sym h.0) (record {
          keeps = record { account = refl; cost = refl; last = refl };
          ended = record {
            fault = λ _. label_is;
            loaded = λ _. refl;
            settled = λ apart. absurd (apart h.1);
          };
          tellable = whole;
          generator = refl;
          stored = refl;
          tree = λ host chip e.
              let z : ◌≡◌ {A = Answer} answers.StorageFault (answers.TreeLost host chip) = sym h.1 ∙ e in cc z;
        })
    tried_kept (Err (shares.TreeLost host chip)) lost tells found after answer h =
        absurd (subst (λ roots. TellsLoss {A = TryAnswer} roots (Err (shares.TreeLost host chip))) found tells host chip
        refl)
    tried_kept (Err (shares.Damaged name)) lost tells found after answer h =
        same_kept after answer h.0 (told_calm name answer h.1)
    tried_kept (Err shares.NoMemory) lost tells found after answer h =
        same_kept after answer h.0 (subst IsCalm (sym h.1) memory_calm)

  refused_calm : (fault : StoreFault) (answer : Answer) → IsLookFault fault → IsRefusal fault answer → IsCalm answer
  refused_calm faults.Failed answer only is = subst IsCalm (sym is) memory_calm
  refused_calm (faults.Damaged name) answer only is = told_calm name answer is
  refused_calm faults.NoMemory answer only is = absurd only
  refused_calm (faults.TreeLost host chip) answer only is = absurd only

  seen_kept : (mid new : ShareSeen) (trial : Trial) → trial.label ≡ label → (view : Result LeafView StoreFault) (at : ℕ)
      → IfErr view IsLookFault → mid.lost ≡ None → (after : UserState) (answer : Answer)
      → SeenTried mid new trial view at before after answer → LeafKept label before after answer
  seen_kept mid new trial label_is (Ok view) at only found after answer h =
      tried_kept trial label_is view at h.tried mid.lost h.lost found after answer h.ends
  seen_kept mid new trial label_is (Err fault) at only found after answer h =
      same_kept after answer h.1 (refused_calm fault answer only h.2)

  -- a turn that looked at a leaf and tried it
  pub held_kept : (old new : ShareSeen) (trial : Trial) → trial.label ≡ label → (at : ℕ) → old.lost ≡ None
      → (after : UserState) (answer : Answer) → TryHeld old new trial at before after answer
      → LeafKept label before after answer
  held_kept old new trial label_is at found after answer h =
      seen_kept h.mid new trial label_is h.view at h.only (h.looks.runs.lost ∙ found) after answer h.ends
