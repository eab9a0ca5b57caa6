-- The factor record that the setting of a PIN puts has the cost of what was derived.
use Rattle.std.proofs.Common.{◌≡◌, ℕ, List, [], ◌∷◌, ◌++◌, Option, None, Some, Result, IsOk, Err, refl, sym, ap, ◌∙◌, subst, ⊎_elim}
use Rattle.std.proofs.lemmas.List.{append_assoc}
use Rattle.std.specs.List.{AllByRecursion}
use Rattle.factor_files.specs.declared.factor.FactorRecord.{FactorRecord}
use Rattle.record_names.specs.Names.{stash_name, factor_name}
use Rattle.share_api.specs.Contents.{Bytes}
use Rattle.share_api.specs.Places.{steps_of}
use Rattle.share_api.specs.Seen.{ShareSeen, Makes, Tries, step_of}
use Rattle.share_api.specs.declared.leaf.NewLeaf.{NewLeaf}
use Rattle.share_api.specs.declared.step.Op.{Op}
use Rattle.share_api.specs.declared.step.Op.TheVariants.{Do, InsertLeaf}
use Rattle.share_api.specs.declared.step.Reply.{Reply}
use Rattle.share_api.specs.declared.step.Step.{Step}
use Rattle.share_api.specs.declared.step.Write.{Write}
use Rattle.share_api.specs.declared.step.Write.TheVariants.{Put, RemoveLeaf}
use Rattle.stash_format.specs.declared.contents.Contents.{Contents as Stash}
use Rattle.stored_home.specs.Loaded.{Rows}
use Rattle.stored_home.specs.declared.fault.StoreFault.{StoreFault}
use Rattle.stored_home.specs.declared.fault.StoreFault.TheVariants as faults
use Rattle.home_edits.specs.Costs.{HasCost, PutsCost}
use Rattle.home_edits.proofs.CostLemmas.{Suited, same_rest, row_suits, stash_suits, removal_suits, costs_tried}
use Rattle.pin_edits.specs.Pins.{IsOldPin, PutsPin}
use Rattle.pin_edits.specs.Writes.{IsStashWrite, rest_of}
use Rattle.pin_edits.proofs.PinRemoved.{leaf_removal_suits}

-- a first step that puts no other cost, and steps with this cost after it
costs_then : (old mid new : ShareSeen) (account : Bytes) (cost : ℕ) (step : Step) (more : List (ℕ × Step))
    → Makes old mid step → HasCost account cost step → new.own ≡ mid.own ++ more → PutsCost mid new account cost
    → PutsCost old new account cost
costs_then old mid new account cost step more makes first more_is rest own is =
    let same : own ≡ (makes.at, step) ∷ more = same_rest old.own own ((makes.at, step) ∷ more)
    (sym is ∙ more_is ∙ ap (λ (o : List (ℕ × Step)). o ++ more) makes.own
    ∙ append_assoc old.own ((makes.at, step) ∷ []) more) in
    subst (λ (o : List (ℕ × Step)). AllByRecursion (HasCost account cost) (steps_of o)) (sym same)
    (first, rest more more_is)

-- an insert puts no factor's record
insert_has_cost : (old : ShareSeen) (account : Bytes) (cost moment : ℕ) (leaf : NewLeaf) (reply : Reply)
    → HasCost account cost (step_of old moment (InsertLeaf leaf) reply)
insert_has_cost old account cost moment leaf reply label edition bytes row same there =
    let both : ◌≡◌ {A = Op} (InsertLeaf leaf) (Do (Put (factor_name account label edition) bytes)) = same in
    absurd (cc both)

-- the insert alone
pub inserted_costs : (old new : ShareSeen) (account : Bytes) (cost moment : ℕ) (leaf : NewLeaf) (reply : Reply)
    → Makes old new (step_of old moment (InsertLeaf leaf) reply) → PutsCost old new account cost
inserted_costs old new account cost moment leaf reply makes own is =
    let step = step_of old moment (InsertLeaf leaf) reply in
    let same : own ≡ (makes.at, step) ∷ [] = same_rest old.own own ((makes.at, step) ∷ []) (sym is ∙ makes.own) in
    subst (λ (o : List (ℕ × Step)). AllByRecursion (HasCost account cost) (steps_of o)) (sym same)
    (insert_has_cost old account cost moment leaf reply, tt)

-- the removals of what a PIN had put none
rest_suits : (account : Bytes) (cost : ℕ) (rows : Rows) (label : Bytes) (had : Option (Write × Write))
    → IsOldPin account rows label had → AllByRecursion (Suited (HasCost account cost)) (rest_of had)
rest_suits account cost rows label None o = tt
rest_suits account cost rows label (Some gone) o = (
  subst (Suited (HasCost account cost)) (sym o.4) (leaf_removal_suits account o.1 cost),
  (
    subst (Suited (HasCost account cost)) (sym o.5)
        (removal_suits account (factor_name account label o.0.edition) cost),
    tt,
  ),
)

-- the insert, and what comes after it
pub set_costs : (old mid new : ShareSeen) (account : Bytes) (moment : ℕ) (leaf : NewLeaf) (reply : Reply) (rows : Rows)
    (label : Bytes) (row : FactorRecord) (tree : ℕ) (stash : Stash) (stash_put : Write) (had : Option (Write × Write))
    (result : Result Unit StoreFault)
    → Makes old mid (step_of old moment (InsertLeaf leaf) reply) → IsOldPin account rows label had
    → IsStashWrite account stash stash_put → PutsPin mid new account row tree stash_put had result
    → PutsCost old new account row.cost
set_costs old mid new account moment leaf reply rows label row tree stash stash_put had result makes o are puts =
    ⊎_elim
    (λ w. then (w.0 ∷ stash_put ∷ rest_of had) (IsOk result) (result ≡ Err faults.Failed) w.3 (
      subst (Suited (HasCost account row.cost)) (sym w.1.write_is) (row_suits account
          (factor_name account row.label row.edition) w.1.bytes row row.cost w.1.read refl),
      (
        subst (Suited (HasCost account row.cost)) (sym are.write_is)
            (stash_suits account (stash_name account) are.bytes row.cost refl),
        rest_suits account row.cost rows label had o,
      ),
    ))
    (λ w. then (RemoveLeaf tree ∷ []) (result ≡ Err faults.Failed → ⊥) (result ≡ Err faults.Failed) w.1
    (leaf_removal_suits account tree row.cost, tt))
    puts
  where
    then : (writes : List Write) (went err : Type 0) → Tries mid new writes went err
        → AllByRecursion (Suited (HasCost account row.cost)) writes → PutsCost old new account row.cost
    then writes went err tried all = costs_then old mid new account row.cost (step_of old moment (InsertLeaf leaf) reply)
        tried.runs.own makes (insert_has_cost old account row.cost moment leaf reply) tried.runs.own_is
        (costs_tried mid new account row.cost writes went err tried all)
