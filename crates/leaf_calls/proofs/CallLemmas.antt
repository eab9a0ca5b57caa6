-- What a call's keeping gives of the call.
use Rattle.std.proofs.Common.{◌≡◌, ◌≤◌, ℕ, inl, inr, List, Option, Result, Ok, Err, OnOk, OnErr, IfOk, IsErr, sym, ◌∙◌, ap, subst}
use Rattle.std.proofs.lemmas.Bool.{cases_eq}
use Rattle.board_model.specs.Disk.{Disk, Follows, Leaves, Goes}
use Rattle.pw_path.specs.Tree.{no_hash}
use Rattle.pw_path.proofs.TreeLemmas.{set_value_other, set_value_same}
use Rattle.pw_leaf.specs.Reading.{mac_of}
use Rattle.pw_chip.specs.State.{ChipState}
use Rattle.pw_chip.specs.Calls.{CallData}
use Rattle.pw_chip.specs.Step.{step}
use Rattle.pw_chip.specs.WordsBytes.{words_bytes}
use Rattle.pw_chip.specs.declared.reply.Reply.{Reply}
use Rattle.pw_chip.specs.declared.reply.Reply.TheVariants as reply
use Rattle.pw_chip.proofs.EraLemmas.{era_step}
use Rattle.pin_ops.specs.Following.{values_after}
use Rattle.label_tree.specs.Values.{with_value}
use Rattle.fault_count.specs.declared.count.Failed.{Failed}
use Rattle.leaf_calls.specs.Dues.{due_of, Leaving, Done, EndsWith}
use Rattle.leaf_calls.specs.Calls.{Host, IsMade, MakesCall}

-- a label that is set and set back
set_back : (values : ℕ → List ℕ) (label : ℕ) (hash : List ℕ)
    → with_value (with_value values label hash) label (values label) ≡ values
set_back values label hash =
    let at : (i : ℕ) → with_value (with_value values label hash) label (values label) i ≡ values i =
    λ i. elim (cases_eq i label) [
      | inl same ↦ rw same (set_value_same (with_value values label hash) label (values label))
      | inr ne ↦
          set_value_other (with_value values label hash) label (values label) i ne
          ∙ set_value_other values label hash i ne
    ] in
    λ j i. at i j

-- a label that is set to what it has
set_same : (values : ℕ → List ℕ) (label : ℕ) → with_value values label (values label) ≡ values
set_same values label =
    let at : (i : ℕ) → with_value values label (values label) i ≡ values i =
    λ i. elim (cases_eq i label) [
      | inl same ↦ rw same (set_value_same values label (values label))
      | inr ne ↦ set_value_other values label (values label) i ne
    ] in
    λ j i. at i j

-- a tree that followed a reply, and whose label is set back, is the tree before
followed_back : (r : Reply) (label : ℕ) (values : ℕ → List ℕ)
    → with_value (values_after r label values) label (values label) ≡ values
followed_back reply.Done label values = set_back values label no_hash
followed_back (reply.Inserted leaf) label values = set_back values label (mac_of leaf)
followed_back (reply.Released leaf hes) label values = set_back values label (mac_of leaf)
followed_back (reply.Cleared leaf) label values = set_back values label (mac_of leaf)
followed_back (reply.Wrong leaf) label values = set_back values label (mac_of leaf)
followed_back (reply.Log answer) label values = set_same values label
followed_back (reply.Replayed leaf) label values = set_same values label
followed_back reply.LabelInvalid label values = set_same values label
followed_back reply.PathAuthFailed label values = set_same values label
followed_back (reply.LeafInvalid fault) label values = set_same values label
followed_back (reply.Delayed until) label values = set_same values label
followed_back reply.Locked label values = set_same values label
followed_back reply.ResetWrong label values = set_same values label
followed_back reply.RootUnknown label values = set_same values label
followed_back reply.LabelUsed label values = set_same values label
followed_back reply.LabelEmpty label values = set_same values label

-- no call takes back a boot
pub boot_stays : (w next : ChipState) (call : CallData) (now : ℕ) (r : Reply) → 1 ≤ w.boot
    → step w call now ≡ (r, next) → 1 ≤ next.boot
boot_stays w next call now r some e =
    let era = era_step w call now in
    subst (λ n. 1 ≤ n) (sym era.boot ∙ ap (λ (q : Reply × ChipState). q.1.boot) e) some

-- ---- what keeping a call says of it

module _ (label : ℕ) (name : List ℕ) (there : Option (List ℕ)) (r : Reply) (next : ChipState) (before : Host)
    (old new : Disk) where
  -- what keeping gives, by its clauses
  pub record Keeps (followed : ℕ → List ℕ) (after : Host) (result : Result Reply Failed) : Type 0 where
    pub any_moment : Leaves old new (Leaving (words_bytes next) name (due_of before.words next there r))
    pub done_or_not : EndsWith (words_bytes next) name (due_of before.words next there r) old new
    pub durable : OnOk result
        (Follows (Done (words_bytes next) name (due_of before.words next there r)) old.may_leave new.may_leave)
    pub done : OnOk result (Goes old new (Done (words_bytes next) name (due_of before.words next there r)))
    pub reply : IfOk result (λ told. told ≡ r)
    pub words : OnOk result (after.words ≡ next)
    pub tree : OnOk result (after.values ≡ followed)
    pub old_words : OnErr result (after.words ≡ before.words)
    pub old_tree : OnErr result (after.values ≡ with_value followed label (before.values label))

  abbrev Makes : Host → Result Reply Failed → Type 0
  Makes after result = MakesCall label name there (r, next) before old new after result

  made_of : (followed : ℕ → List ℕ) (after : Host) (result : Result Reply Failed)
      → followed ≡ values_after r label before.values → Keeps followed after result
      → IfOk result (λ told. (told ≡ r) × IsMade label name there (r, next) before old new after)
  made_of followed after (Ok told) e k =
      (k.reply, record { words = k.words; values = k.tree ∙ e; durable = k.durable; done = k.done })
  made_of followed after (Err fault) e k = tt

  failed_of : (followed : ℕ → List ℕ) (after : Host) (result : Result Reply Failed)
      → followed ≡ values_after r label before.values → Keeps followed after result
      → IsErr result → after ≡ before
  failed_of followed after (Ok told) e k wrong = cc wrong
  failed_of followed after (Err fault) e k _ =
      let tree : after.values ≡ before.values =
      k.old_tree ∙ ap (λ v. with_value v label (before.values label)) e ∙ followed_back r label before.values in
      λ i. record { words = k.old_words i; values = tree i }

  kept_made : (followed : ℕ → List ℕ) (after : Host) (result : Result Reply Failed)
      → followed ≡ values_after r label before.values → Keeps followed after result → Makes after result
  kept_made followed after result e k = record {
    any_moment = k.any_moment;
    done_or_not = k.done_or_not;
    made = made_of followed after result e k;
    failed = failed_of followed after result e k;
  }

-- so a call is made whose writes are kept
pub call_made : (label : ℕ) (name : List ℕ) (there : Option (List ℕ)) (answer : Reply × ChipState) (r : Reply)
    (next : ChipState) (before : Host) (old new : Disk) (followed : ℕ → List ℕ) (after : Host)
    (result : Result Reply Failed) → answer ≡ (r, next) → followed ≡ values_after r label before.values
    → Keeps label name there r next before old new followed after result
    → MakesCall label name there answer before old new after result
call_made label name there answer r next before old new followed after result is e k =
    subst (λ (q : Reply × ChipState). MakesCall label name there q before old new after result) (sym is)
    (kept_made label name there r next before old new followed after result e k)
