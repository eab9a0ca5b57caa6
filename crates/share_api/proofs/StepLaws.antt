-- What holds throughout steps that make a list of changes, or an insert and then such a list.
use Rattle.std.proofs.Common.{◌≡◌, ℕ, List, [], ◌∷◌, None, refl, sym, ◌∙◌, subst, ⊎_elim}
use Rattle.std.specs.FinMap.{get}
use Rattle.share_api.specs.Contents.{Contents, settled, leaves_left}
use Rattle.pw_types.specs.declared.era.Era.{Era}
use Rattle.share_api.specs.Folds.{Fold, Throughout}
use Rattle.share_api.specs.Steps.{leaf_of, with_leaf, doubted, done, after, Leads, Does, ThenReply, Follows, Along, AllDone, ThenLabel, FollowsInsert}
use Rattle.share_api.specs.declared.leaf.NewLeaf.{NewLeaf}
use Rattle.share_api.specs.declared.step.Write.{Write}
use Rattle.share_api.specs.declared.step.Op.{Op}
use Rattle.share_api.specs.declared.step.Reply.{Reply}
use Rattle.share_api.specs.declared.step.Step.{Step}
use Rattle.share_api.specs.declared.step.Write.TheVariants.{Put, Remove, RemoveLeaf}
use Rattle.share_api.specs.declared.step.Op.TheVariants.{Do, InsertLeaf}
use Rattle.share_api.specs.declared.step.Reply.TheVariants.{Done, Found, Listed, Labelled, Tried, Fits, Viewed, TreeLost, Damaged, Failed, NoMemory}

-- settling changes nothing where no leaf is in doubt
pub settled_same : (c : Contents) → c.doubt ≡ None → settled c ≡ c
settled_same c e = λ i. record c { leaves = leaves_left (e i) c.leaves; doubt = sym e i }

along_head : (P : Contents → Type 0) (c : Contents) (writes : List Write) → Along P c writes → P c
along_head P c [] h = h
along_head P c (write ∷ writes) h = h.0

pub doubt_same : (write : Write) (c : Contents) → (done write c).doubt ≡ c.doubt
doubt_same (Put name bytes) c = refl
doubt_same (Remove name) c = refl
doubt_same (RemoveLeaf label) c = refl

ended : (era : Era) (mid : Contents) (steps : List Step) (P : Contents → Type 0) → steps ≡ [] → P mid → Throughout (Does era) P mid steps
ended era mid steps P e h = let end : Throughout (Does era) P mid [] = h in subst (λ s. Throughout (Does era) P mid s) (sym e) end

write_case : (era : Era) (moment : ℕ) (c : Contents) (write : Write) (writes : List Write) (steps : List Step) (P : Contents → Type 0) → Along P c (write ∷ writes) → (reply : Reply) (mid : Contents)
    → (mid ≡ done write c → Follows writes steps → Throughout (Does era) P mid steps) → Leads era moment (Do write) reply c mid → ThenReply reply (Follows writes steps) steps → Throughout (Does era) P mid steps
write_case era moment c write writes steps P h Done mid more l t = more l.1 t
write_case era moment c write writes steps P h Failed mid more l t = ended era mid steps P t (⊎_elim (λ e. subst P (sym e) h.0) (λ e. subst P (sym e) (along_head P (done write c) writes h.1)) l)
write_case era moment c write writes steps P h TreeLost mid more l t = ended era mid steps P t (subst P (sym l) h.0)
write_case era moment c write writes steps P h (Found b) mid more l t = absurd t
write_case era moment c write writes steps P h (Listed b) mid more l t = absurd t
write_case era moment c write writes steps P h (Labelled b) mid more l t = absurd t
write_case era moment c write writes steps P h (Tried b) mid more l t = absurd t
write_case era moment c write writes steps P h (Fits b) mid more l t = absurd t
write_case era moment c write writes steps P h (Viewed b) mid more l t = absurd t
write_case era moment c write writes steps P h Damaged mid more l t = absurd t
write_case era moment c write writes steps P h NoMemory mid more l t = absurd t

-- the step by its own op, from contents in which no leaf is in doubt
step_leads : (era : Era) (c mid : Contents) (step : Step) (op : Op) → c.doubt ≡ None → step.op ≡ op → Does era c step mid → Leads era step.moment op step.reply c mid
step_leads era c mid step op clear same does =
    subst (λ o. Leads era step.moment o step.reply c mid) same (subst (λ x. Leads era step.moment step.op step.reply x mid) (settled_same c clear) does)

-- P holds after each prefix of steps that make the changes, whichever of them failed
pub throughout_follows : (era : Era) (c : Contents) (writes : List Write) (steps : List Step) (P : Contents → Type 0) → c.doubt ≡ None → Along P c writes → Follows writes steps → Throughout (Does era) P c steps
throughout_follows era c writes [] P clear h f = along_head P c writes h
throughout_follows era c [] (step ∷ steps) P clear h f = absurd f
throughout_follows era c (write ∷ writes) (step ∷ steps) P clear h f = (
  h.0,
  λ mid does.
      write_case era step.moment c write writes steps P h step.reply mid
      (λ e g. subst (λ x. Throughout (Does era) P x steps) (sym e) (throughout_follows era (done write c) writes steps P (doubt_same write c ∙ clear) h.1 g))
      (step_leads era c mid step (Do write) clear f.0 does)
      f.1,
)

-- the contents once all changes are made
pub after_all : (era : Era) (c new : Contents) (writes : List Write) (steps : List Step) → c.doubt ≡ None → AllDone writes steps → Fold (Does era) c steps new → new ≡ after writes c
after_all era c new [] [] clear a f = f
after_all era c new [] (step ∷ steps) clear a f = absurd a
after_all era c new (write ∷ writes) [] clear a f = absurd a
after_all era c new (write ∷ writes) (step ∷ steps) clear a f =
    let l : Leads era step.moment (Do write) Done c f.0 = subst (λ r. Leads era step.moment (Do write) r c f.0) a.1 (step_leads era c f.0 step (Do write) clear a.0 f.1) in
    after_all era (done write c) new writes steps (doubt_same write c ∙ clear) a.2 (subst (λ x. Fold (Does era) x steps new) l.1 f.2)

pub same_label : (one two : ℕ) → ◌≡◌ {A = Reply} (Labelled one) (Labelled two) → one ≡ two
same_label one two e = cc

module _ (era : Era) (c : Contents) (leaf : NewLeaf) (writes : ℕ → List Write) (P : Contents → Type 0) (clear : c.doubt ≡ None) (before : P c)
    (doubtful : (label : ℕ) → get c.leaves label ≡ None → P (doubted c label (leaf_of leaf)))
    (along : (label : ℕ) → get c.leaves label ≡ None → Along P (with_leaf c label (leaf_of leaf)) (writes label)) where
  insert_case : (moment : ℕ) (steps : List Step) (reply : Reply) (mid : Contents) → Leads era moment (InsertLeaf leaf) reply c mid → ThenLabel reply writes steps → Throughout (Does era) P mid steps
  insert_case moment steps (Labelled label) mid l t =
      let same : label ≡ l.0 = same_label label l.0 l.2 in
      subst (λ x. Throughout (Does era) P x steps) (sym l.3)
      (throughout_follows era (with_leaf c l.0 (leaf_of leaf)) (writes l.0) steps P clear (along l.0 l.1) (subst (λ n. Follows (writes n) steps) same t))
  insert_case moment steps Failed mid l t = ended era mid steps P t (⊎_elim (λ e. subst P (sym e) before) (λ w. subst P (sym w.2) (doubtful w.0 w.1)) l)
  insert_case moment steps TreeLost mid l t = ended era mid steps P t (subst P (sym l) before)
  insert_case moment steps Done mid l t = absurd t
  insert_case moment steps (Found b) mid l t = absurd t
  insert_case moment steps (Listed b) mid l t = absurd t
  insert_case moment steps (Tried b) mid l t = absurd t
  insert_case moment steps (Fits b) mid l t = absurd t
  insert_case moment steps (Viewed b) mid l t = absurd t
  insert_case moment steps Damaged mid l t = absurd t
  insert_case moment steps NoMemory mid l t = absurd t

  -- P holds after each prefix of an insert and the changes that its label gives
  pub throughout_insert : (steps : List Step) → FollowsInsert leaf writes steps → Throughout (Does era) P c steps
  throughout_insert [] f = before
  throughout_insert (step ∷ steps) f = (before, λ mid does. insert_case step.moment steps step.reply mid (step_leads era c mid step (InsertLeaf leaf) clear f.0 does) f.1)

-- the contents once the leaf is inserted and all changes are made
pub after_insert : (era : Era) (c new : Contents) (leaf : NewLeaf) (label : ℕ) (writes : List Write) (step : Step) (steps : List Step) → c.doubt ≡ None → step.op ≡ InsertLeaf leaf → step.reply ≡ Labelled label
    → AllDone writes steps → Fold (Does era) c (step ∷ steps) new → (get c.leaves label ≡ None) × (new ≡ after writes (with_leaf c label (leaf_of leaf)))
after_insert era c new leaf label writes step steps clear op reply a f =
    let l : Leads era step.moment (InsertLeaf leaf) (Labelled label) c f.0 = subst (λ r. Leads era step.moment (InsertLeaf leaf) r c f.0) reply (step_leads era c f.0 step (InsertLeaf leaf) clear op f.1) in
    let same : label ≡ l.0 = same_label label l.0 l.2 in
    let mid : f.0 ≡ with_leaf c label (leaf_of leaf) = subst (λ (n : ℕ). f.0 ≡ with_leaf c n (leaf_of leaf)) (sym same) l.3 in (
      subst (λ (n : ℕ). get c.leaves n ≡ None) (sym same) l.1,
      after_all era (with_leaf c label (leaf_of leaf)) new writes steps clear a (subst (λ x. Fold (Does era) x steps new) mid f.2),
    )
