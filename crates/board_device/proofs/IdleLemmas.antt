-- Steps that leave contents without leaves as they are.
use Rattle.std.proofs.Common.{◌≡◌, inl, refl, sym, ap, ◌∙◌, subst, ℕ, ◌-◌, Bool, true, false, cond, None, Option}
use Rattle.std.proofs.Common.{arith}
use Rattle.std.specs.Prelude.{option_map}
use Rattle.std.specs.Ordering.{nat_cmp}
use Rattle.std.proofs.lemmas.Cmp.{nat_cmp_total}
use Rattle.std.specs.FinMap.{get, remove, empty, len, contains_key, get-empty, len-empty, len-remove, empty_of_len}
use Rattle.pw_types.specs.declared.era.Era.{Era}
use Rattle.share_api.specs.Contents.{Contents, Leaves, settled}
use Rattle.share_api.specs.Steps.{Leads, view_of}
use Rattle.share_api.proofs.StepLaws.{settled_same}
use Rattle.share_api.specs.declared.leaf.Leaf.{Leaf}
use Rattle.share_api.specs.declared.step.Write.TheVariants.{Put, Remove, RemoveLeaf}
use Rattle.share_api.specs.declared.step.Op.{Op}
use Rattle.share_api.specs.declared.step.Op.TheVariants.{Names, Get, Do, InsertLeaf, TryLeaf, ResetLeaf, LookLeaf}
use Rattle.share_api.specs.declared.step.Reply.{Reply}
use Rattle.share_api.specs.declared.step.Reply.TheVariants.{Viewed, Failed}
use Rattle.platform_core.specs.Standing.{IsIdle}
use Rattle.board_device.specs.Idle.{idle_reply}

none_less : (b : Bool) (n : ℕ) → n ≡ 0 → cond b (n - 1) n ≡ 0
none_less true n e = omega (arith, e)
none_less false n e = e

-- without leaves there is none to remove
remove_none : (label : ℕ) → remove (empty {X = Leaf} {R = nat_cmp}) label ≡ empty
remove_none label =
    empty_of_len (remove (empty {X = Leaf} {R = nat_cmp}) label)
    (len-remove nat_cmp_total (empty {X = Leaf} {R = nat_cmp}) label
    ∙ none_less (contains_key (empty {X = Leaf} {R = nat_cmp}) label) (len (empty {X = Leaf} {R = nat_cmp}))
    (len-empty nat_cmp Leaf))

module _ (era : Era) (moment : ℕ) (c : Contents) (none : c.leaves ≡ empty) (clear : c.doubt ≡ None) where
  same : settled c ≡ c
  same = settled_same c clear

  no_leaves : (settled c).leaves ≡ empty
  no_leaves = ap (λ (x : Contents). x.leaves) same ∙ none

  -- a step that failed and changed nothing
  failed_leads : (op : Op) → Leads era moment op Failed (settled c) c
  failed_leads Names = sym same
  failed_leads (Get name) = sym same
  failed_leads (Do write) = inl (sym same)
  failed_leads (InsertLeaf leaf) = inl (sym same)
  failed_leads (TryLeaf label les) = inl (sym same)
  failed_leads (ResetLeaf label secret) = inl (sym same)
  failed_leads (LookLeaf label) = sym same

  -- the contents without a leaf that they lack
  without_leaf : (label : ℕ) → c ≡ record (settled c) { leaves = remove (settled c).leaves label }
  without_leaf label =
      sym same
      ∙ ap (λ (leaves : Leaves). record (settled c) { leaves = leaves })
      (no_leaves ∙ sym (remove_none label) ∙ ap (λ (leaves : Leaves). remove leaves label) (sym no_leaves))

  -- there is no leaf to be seen
  no_view : (label : ℕ) → Viewed None ≡ Viewed (option_map view_of (get (settled c).leaves label))
  no_view label =
      ap (λ (o : Option Leaf). Viewed (option_map view_of o))
      (sym (get-empty nat_cmp label) ∙ ap (λ (leaves : Leaves). get leaves label) (sym no_leaves))

  idle_leads : (op : Op) → Leads era moment op (idle_reply op) (settled c) c
  idle_leads Names = sym same
  idle_leads (Get name) = sym same
  idle_leads (Do (Put name bytes)) = inl (sym same)
  idle_leads (Do (Remove name)) = inl (sym same)
  idle_leads (Do (RemoveLeaf label)) = (refl, without_leaf label)
  idle_leads (InsertLeaf leaf) = inl (sym same)
  idle_leads (TryLeaf label les) = sym same
  idle_leads (ResetLeaf label secret) = sym same
  idle_leads (LookLeaf label) = (no_view label, sym same)

-- a step with a reply that needs no work
pub reply_idle : (era : Era) (account moment : ℕ) (op : Op) (reply : Reply) → reply ≡ idle_reply op
    → IsIdle era (record { account = account; moment = moment; op = op; reply = reply })
reply_idle era account moment op reply is contents none clear =
    subst (λ (r : Reply). Leads era moment op r (settled contents) contents) (sym is)
    (idle_leads era moment contents none clear op)

-- a step that failed and changed nothing
pub failed_idle : (era : Era) (account moment : ℕ) (op : Op) (reply : Reply) → reply ≡ Failed
    → IsIdle era (record { account = account; moment = moment; op = op; reply = reply })
failed_idle era account moment op reply is contents none clear =
    subst (λ (r : Reply). Leads era moment op r (settled contents) contents) (sym is)
    (failed_leads era moment contents none clear op)
