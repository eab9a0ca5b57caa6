-- Edits that make no step, and edits that try a list of changes.
use Rattle.std.proofs.Common.{◌≡◌, List, [], ◌∷◌, Option, None, Some, Result, Ok, Err, IsOk, IsErr, IsErrAnd, OnOk, refl, sym, subst, inl, true≢false}
use Rattle.std.specs.Prelude.{IfOk, IsErrOf, IsSomeAnd, is_some}
use Rattle.account_machine.specs.declared.user.Durable.{Durable}
use Rattle.share_api.specs.Contents.{Bytes, Contents}
use Rattle.share_api.specs.Folds.{Throughout}
use Rattle.share_api.specs.Seen.{ShareSeen, Tries}
use Rattle.share_api.specs.Steps.{Does, Follows, AllDone, after}
use Rattle.share_api.specs.declared.step.Step.{Step}
use Rattle.share_api.specs.declared.step.Write.{Write}
use Rattle.share_api.proofs.RunLaws.{runs_none}
use Rattle.share_api.proofs.StepLaws.{after_all}
use Rattle.share_api.proofs.TryLaws.{failed_not_all}
use Rattle.stored_home.specs.Adding.{HoldsEither}
use Rattle.stored_home.specs.Holds.{Keys, HoldsUnder}
use Rattle.stored_home.specs.Loaded.{IsKept}
use Rattle.stored_home.specs.declared.stored.Stored.{Stored}
use Rattle.stored_home.specs.declared.fault.StoreFault.{StoreFault}
use Rattle.stored_home.specs.declared.fault.StoreFault.TheVariants.{Failed, NoMemory}
use Rattle.home_edits.specs.Edits.{Starts, Edits}

-- a fault isn't Ok
pub err_not_ok : {A E : Type 0} (r : Result A E) → IsErr r → IsOk r → ⊥
err_not_ok (Ok x) e o = true≢false (sym e)
err_not_ok (Err x) e o = true≢false (sym o)

-- nor is Ok a fault
pub ok_not_fault : {A : Type 0} (x : A) (e : StoreFault) → IsErrOf (Ok x) e → ⊥
ok_not_fault x e h = cc

-- a fault of a name is a fault
pub fault_is_err : {A : Type 0} (r : Result A StoreFault) (e : StoreFault) → IsErrOf r e → IsErr r
fault_is_err (Ok x) e h = absurd (ok_not_fault x e h)
fault_is_err (Err x) e h = refl

-- what is left where it is Ok
pub ok_gives : {A E : Type 0} (r : Result A E) (P : Type 0) → OnOk r P → IsOk r → P
ok_gives (Ok x) P h o = h
ok_gives (Err x) P h o = absurd (true≢false (sym o))

-- what is weaker is so where it is Ok
pub if_ok_weaker : {A E : Type 0} (P Q : A → Type 0) (r : Result A E) → ((x : A) → P x → Q x) → IfOk r P → IfOk r Q
if_ok_weaker P Q (Ok x) w h = w x h
if_ok_weaker P Q (Err x) w h = h

-- what is so of a value that is there
pub there_gives : {A : Type 0} (P : A → Type 0) (o : Option A) (x : A) → o ≡ Some x → IsSomeAnd o P → P x
there_gives P o x e h = subst (λ v. IsSomeAnd v P) e h

-- and that it is there
pub there_some : {A : Type 0} (P : A → Type 0) (o : Option A) → IsSomeAnd o P → (x : A) × (o ≡ Some x) × P x
there_some P None h = absurd h
there_some P (Some x) h = (x, refl, h)

-- want of memory is no failed step
pub memory_not_failed : {A : Type 0} (r : Result A StoreFault) → IsErrAnd r (λ e. e ≡ NoMemory) → IsErrOf r Failed → ⊥
memory_not_failed (Ok x) h e = h
memory_not_failed (Err x) h e = let k : ◌≡◌ {A = StoreFault} NoMemory Failed = cc in absurd (cc k)

-- nothing was tried
pub edits_none : (old : ShareSeen) (account : Bytes) (stored after : Stored) (ok failed : Type 0)
    (Asks : Contents → Keys → Durable → Durable → Type 0)
    → (ok → ⊥) → (failed → ⊥) → Edits old old account stored after ok failed Asks
edits_none old account stored after ok failed Asks none calm = record {
  steps = [];
  runs = runs_none old;
  fails = λ f. absurd (calm f);
  done = λ o. absurd (none o);
  made = λ o. absurd (none o);
  atomic = λ contents keys before next starts. record {
    throughout = inl starts.holds;
    last = λ o. absurd (none o);
  };
  loaded = λ o. absurd (none o);
}

-- What an edit that tries these changes needs of them: whichever of them failed, the durable part before or the one
-- after is held throughout; once they are made the one after is, and it is loaded.
pub record Suits (old : ShareSeen) (account : Bytes) (stored later : Stored) (writes : List Write) (ok : Type 0)
    (Asks : Contents → Keys → Durable → Durable → Type 0) : Type 0 where
  pub throughout : (contents : Contents) (keys : Keys) (before next : Durable) (steps : List Step)
      → Starts (is_some old.lost) account stored Asks contents keys before next → Follows writes steps
      → Throughout (Does old.era) (HoldsEither (is_some old.lost) account keys before next) contents steps
  pub last : ok → (contents : Contents) (keys : Keys) (before next : Durable)
      → Starts (is_some old.lost) account stored Asks contents keys before next
      → HoldsUnder (is_some old.lost) (after writes contents) account next keys
      × IsKept (is_some old.lost) (after writes contents) account later

-- a list of changes that were made has steps
all_made : (write : Write) (writes : List Write) (steps : List Step) → AllDone (write ∷ writes) steps → steps ≡ [] → ⊥
all_made write writes steps all none = subst (AllDone (write ∷ writes)) none all

-- an edit that tries a list of changes
pub edits_tried : (old new : ShareSeen) (account : Bytes) (stored later : Stored) (ok failed went err : Type 0)
    (Asks : Contents → Keys → Durable → Durable → Type 0) (write : Write) (writes : List Write)
    → Tries old new (write ∷ writes) went err → (ok → went) → (failed → err)
    → Suits old account stored later (write ∷ writes) ok Asks
    → Edits old new account stored later ok failed Asks
edits_tried old new account stored later ok failed went err Asks write writes tried goes fails suits = record {
  steps = tried.steps;
  runs = tried.runs;
  fails = λ f. tried.fails (fails f);
  done = λ o has. failed_not_all (write ∷ writes) tried.steps has (tried.all (goes o));
  made = λ o. all_made write writes tried.steps (tried.all (goes o));
  atomic = λ contents keys before next starts. record {
    throughout = suits.throughout contents keys before next tried.steps starts tried.follows;
    last = λ o end fold. subst (λ c. HoldsUnder (is_some old.lost) c account next keys)
        (sym (after_all old.era contents end (write ∷ writes) tried.steps starts.kept.clear (tried.all (goes o)) fold))
        (suits.last o contents keys before next starts).0;
  };
  loaded = λ o contents keys before next starts end fold. subst (λ c. IsKept (is_some old.lost) c account later)
      (sym (after_all old.era contents end (write ∷ writes) tried.steps starts.kept.clear (tried.all (goes o)) fold))
      (suits.last o contents keys before next starts).1;
}
