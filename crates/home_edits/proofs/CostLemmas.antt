-- The factor records that an edit puts have the cost that was given.
use Rattle.std.proofs.Common.{◌≡◌, ℕ, List, [], ◌∷◌, ◌++◌, length, drop, Some, refl, sym, ap, ◌∙◌, subst, append-nil}
use Rattle.std.proofs.lemmas.List.{drop_at}
use Rattle.std.specs.List.{AllByRecursion}
use Rattle.factor_files.specs.Record.{factor_at}
use Rattle.factor_files.specs.declared.factor.FactorRecord.{FactorRecord}
use Rattle.record_names.specs.Names.{stash_name, factor_name, file_name}
use Rattle.share_api.specs.Contents.{Bytes}
use Rattle.share_api.specs.Places.{steps_of}
use Rattle.share_api.specs.Seen.{ShareSeen, Makes, Tries}
use Rattle.share_api.specs.Steps.{Follows, ThenReply}
use Rattle.share_api.specs.declared.step.Op.{Op}
use Rattle.share_api.specs.declared.step.Op.TheVariants.{Do, Get}
use Rattle.share_api.specs.declared.step.Reply.{Reply}
use Rattle.share_api.specs.declared.step.Reply.TheVariants.{Done, Found, Listed, Labelled, Tried, Fits, Viewed, TreeLost, Damaged, Failed, NoMemory}
use Rattle.share_api.specs.declared.step.Step.{Step}
use Rattle.share_api.specs.declared.step.Write.{Write}
use Rattle.share_api.specs.declared.step.Write.TheVariants.{Put, Remove}
use Rattle.stored_home.proofs.MapLemmas.{from_some}
use Rattle.home_edits.specs.Costs.{HasCost, PutsCost}
use Rattle.home_edits.proofs.NamesApart.{stash_apart_factor, factor_apart_file}

module _ (P : Step → Type 0) where
  -- what is so of each step that makes one of the changes
  abbrev pub Suited : Write → Type 0
  Suited write = (step : Step) → step.op ≡ Do write → P step

  ended : (steps : List Step) → steps ≡ [] → AllByRecursion P steps
  ended steps e = let none : AllByRecursion P [] = tt in subst (AllByRecursion P) (sym e) none

  by_reply : (reply : Reply) (steps : List Step) (next : Type 0) → (next → AllByRecursion P steps) → ThenReply reply
      next steps
      → AllByRecursion P steps
  by_reply Done steps next more t = more t
  by_reply Failed steps next more t = ended steps t
  by_reply TreeLost steps next more t = ended steps t
  by_reply (Found b) steps next more t = absurd t
  by_reply (Listed b) steps next more t = absurd t
  by_reply (Labelled b) steps next more t = absurd t
  by_reply (Tried b) steps next more t = absurd t
  by_reply (Fits b) steps next more t = absurd t
  by_reply (Viewed b) steps next more t = absurd t
  by_reply Damaged steps next more t = absurd t
  by_reply NoMemory steps next more t = absurd t

  -- is so of all steps that make the changes in order
  follows_all : (writes : List Write) (steps : List Step) → AllByRecursion Suited writes → Follows writes steps
      → AllByRecursion P steps
  follows_all writes [] h f = tt
  follows_all [] (step ∷ steps) h f = absurd f
  follows_all (write ∷ writes) (step ∷ steps) h f =
      (h.0 step f.0, by_reply step.reply steps (Follows writes steps) (λ more. follows_all writes steps h.1 more) f.1)

-- what stands behind equal fronts is equal
pub same_rest : {A : Type 0} (front one two : List A) → front ++ one ≡ front ++ two → one ≡ two
same_rest front one two same =
    sym (drop_at front one (length front) refl) ∙ ap (drop (length front)) same ∙ drop_at front two (length front) refl

-- a factor's record has its own cost
pub row_suits : (account name bytes : Bytes) (row : FactorRecord) (cost : ℕ) → factor_at bytes ≡ Some row → row.cost ≡
    cost
    → Suited (HasCost account cost) (Put name bytes)
row_suits account name bytes row cost read is step op label edition other found same there =
    let both : ◌≡◌ {A = Op} (Do (Put name bytes)) (Do (Put (factor_name account label edition) other)) = sym op ∙ same
    in
    let bytes_same : bytes ≡ other = cc in
    ap (λ (r : FactorRecord). r.cost) (from_some found row (sym there ∙ ap factor_at (sym bytes_same) ∙ read)) ∙ is

-- the stash is no factor's record
pub stash_suits : (account name bytes : Bytes) (cost : ℕ) → name ≡ stash_name account → Suited (HasCost account cost)
    (Put name bytes)
stash_suits account name bytes cost is step op label edition other found same there =
    let both : ◌≡◌ {A = Op} (Do (Put name bytes)) (Do (Put (factor_name account label edition) other)) = sym op ∙ same
    in
    let names : name ≡ factor_name account label edition = cc in
    absurd (stash_apart_factor account label edition (sym is ∙ names))

-- nor is a vault file's
pub filed_suits : (account name bytes file : Bytes) (cost : ℕ) → name ≡ file_name account file
    → Suited (HasCost account cost) (Put name bytes)
filed_suits account name bytes file cost is step op label edition other found same there =
    let both : ◌≡◌ {A = Op} (Do (Put name bytes)) (Do (Put (factor_name account label edition) other)) = sym op ∙ same
    in
    let names : name ≡ factor_name account label edition = cc in
    absurd (factor_apart_file account label edition file (sym names ∙ is))

-- a removal puts nothing
pub removal_suits : (account name : Bytes) (cost : ℕ) → Suited (HasCost account cost) (Remove name)
removal_suits account name cost step op label edition other found same there =
    let both : ◌≡◌ {A = Op} (Do (Remove name)) (Do (Put (factor_name account label edition) other)) = sym op ∙ same in
    absurd (cc both)

-- steps that were tried
pub costs_tried : (old new : ShareSeen) (account : Bytes) (cost : ℕ) (writes : List Write) (went err : Type 0)
    → Tries old new writes went err → AllByRecursion (Suited (HasCost account cost)) writes → PutsCost old new account
    cost
costs_tried old new account cost writes went err tried all own is =
    let same : own ≡ tried.runs.own = same_rest old.own own tried.runs.own (sym is ∙ tried.runs.own_is) in
    subst (AllByRecursion (HasCost account cost))
    (sym (ap (λ (o : List (ℕ × Step)). steps_of o) same ∙ tried.runs.steps_are))
    (follows_all (HasCost account cost) writes tried.steps all tried.follows)

-- a step that reads
pub costs_read : (old new : ShareSeen) (account name : Bytes) (cost : ℕ) (step : Step) → Makes old new step
    → step.op ≡ Get name → PutsCost old new account cost
costs_read old new account name cost step makes read own is =
    let same : own ≡ (makes.at, step) ∷ [] = same_rest old.own own ((makes.at, step) ∷ []) (sym is ∙ makes.own) in
    subst (λ (o : List (ℕ × Step)). AllByRecursion (HasCost account cost) (steps_of o)) (sym same) (
      λ label edition bytes row put at.
          let both : ◌≡◌ {A = Op} (Get name) (Do (Put (factor_name account label edition) bytes)) = sym read ∙ put in
          absurd (cc both),
      tt,
    )

-- no steps
pub costs_none : (old : ShareSeen) (account : Bytes) (cost : ℕ) → PutsCost old old account cost
costs_none old account cost own is =
    let same : own ≡ [] = same_rest old.own own [] (sym is ∙ sym (append-nil old.own)) in
    let none : AllByRecursion (HasCost account cost) [] = tt in
    subst (λ (o : List (ℕ × Step)). AllByRecursion (HasCost account cost) (steps_of o)) (sym same) none
