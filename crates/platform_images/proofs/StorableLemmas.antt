-- What a step leaves of a storable platform.
use Rattle.std.proofs.Common.{◌≡◌, ℕ, ◌<◌, inl, inr, Option, List, length, sym, ◌∙◌, ap, subst}
use Rattle.std.specs.Prelude.{IsSome}
use Rattle.std.proofs.lemmas.Bool.{cases_eq}
use Rattle.share_api.specs.Contents.{Bytes}
use Rattle.pw_path.proofs.TreeLemmas.{set_value_other}
use Rattle.pw_leaf.specs.Contents.{Contents}
use Rattle.pin_recovery.specs.Devices.{Leaves, AreInStep}
use Rattle.pin_recovery.specs.LeafCalls.{LeafOp, label_of, stepped}
use Rattle.platform_model.specs.Views.{Platform}
use Rattle.platform_model.specs.Steps.{Op, Looks, Puts, Removes, Asks, owners_after, done_by, IsAllowedOp}
use Rattle.platform_model.specs.Crashes.{halfway, IsImageOf}
use Rattle.platform_model.proofs.StepLemmas.{in_step_after}
use Rattle.platform_images.specs.Shown.{IsStorable}
use Rattle.platform_images.proofs.CallLemmas.{changes_one, owner_is, owner_away, words_kept}

module _ (accounts : List Bytes) (s : Platform) (number : ℕ) (op : LeafOp) (now : ℕ) (h : IsStorable accounts s)
    (in_step : AreInStep s.devices) (known : number < length accounts) (ok : IsAllowedOp s number (Asks op) now) where
  -- each used label is an account's
  owners_half : (label : ℕ) → IsSome (s.devices.leaves label) → owners_after op number s.owners label < length accounts
  owners_half label some =
      elim (cases_eq label (label_of op)) [
        | inl same ↦
            subst (λ (n : ℕ). n < length accounts)
            (sym (ap (owners_after op number s.owners) same ∙ owner_is s number op ok.2)) known
        | inr ne ↦
            subst (λ (n : ℕ). n < length accounts) (sym (owner_away s number op label ne)) (h.owners label some)
      ]

  -- after the call too
  owners_done : (label : ℕ) → IsSome ((stepped s.devices op now).leaves label)
      → owners_after op number s.owners label < length accounts
  owners_done label some =
      elim (cases_eq label (label_of op)) [
        | inl same ↦
            subst (λ (n : ℕ). n < length accounts)
            (sym (ap (owners_after op number s.owners) same ∙ owner_is s number op ok.2)) known
        | inr ne ↦
            let one = changes_one s number op now in_step ok.1 ok.2 in
            let leaf : (stepped s.devices op now).leaves label ≡ s.devices.leaves label =
            ap (λ (t : Leaves). t label) one.is ∙ set_value_other s.devices.leaves (label_of op) one.leaf label ne in
            subst (λ (n : ℕ). n < length accounts) (sym (owner_away s number op label ne))
            (h.owners label (subst (λ (o : Option Contents). IsSome o) leaf some))
      ]

  -- between the two writes
  storable_half : IsStorable accounts (halfway s number op now)
  storable_half =
      record { words = words_kept s op now h.words ok.0; leaves = h.leaves; owners = owners_half }

  -- and after them
  storable_done : IsStorable accounts (done_by s number (Asks op) now)
  storable_done =
      let after = in_step_after s number (Asks op) now in_step ok in
      record { words = words_kept s op now h.words ok.0; leaves = after.leaves; owners = owners_done }

-- each image of a step is storable
pub storable_image : (accounts : List Bytes) (s q : Platform) (number : ℕ) (op : Op) (now : ℕ) → IsStorable accounts s
    → AreInStep s.devices → number < length accounts → IsAllowedOp s number op now → IsImageOf s number op now q
    → IsStorable accounts q
unfolding IsImageOf
storable_image accounts s q number Looks now h in_step known ok e = subst (IsStorable accounts) (sym e) h
storable_image accounts s q number (Puts name bytes) now h in_step known ok (inl e) =
    subst (IsStorable accounts) (sym e) h
storable_image accounts s q number (Puts name bytes) now h in_step known ok (inr e) =
    subst (IsStorable accounts) (sym e) (record { words = h.words; leaves = h.leaves; owners = h.owners })
storable_image accounts s q number (Removes name) now h in_step known ok (inl e) = subst (IsStorable accounts) (sym e) h
storable_image accounts s q number (Removes name) now h in_step known ok (inr e) =
    subst (IsStorable accounts) (sym e) (record { words = h.words; leaves = h.leaves; owners = h.owners })
storable_image accounts s q number (Asks op) now h in_step known ok (inl e) = subst (IsStorable accounts) (sym e) h
storable_image accounts s q number (Asks op) now h in_step known ok (inr (inl e)) =
    subst (IsStorable accounts) (sym e) (storable_half accounts s number op now h in_step known ok)
storable_image accounts s q number (Asks op) now h in_step known ok (inr (inr e)) =
    subst (IsStorable accounts) (sym e) (storable_done accounts s number op now h in_step known ok)
