-- Boards that are settled, before and after a step.
use Rattle.std.proofs.Common.{◌≡◌, ◌≢◌, ◌⊎◌, inl, inr, ℕ, zero, suc, List, [], ◌∷◌, take, Option, None, Some}
use Rattle.std.proofs.Common.{refl, sym, ap, ◌∙◌, subst, Bool, false, true≢false, arith, Result, Ok, Err, OnOk}
use Rattle.std.proofs.Common.{IsOk}
use Rattle.std.specs.Prelude.{IfSome}
use Rattle.fault_count.specs.Told.{Becomes}
use Rattle.board_model.specs.Disk.{Image, Disk, Same, Follows, Leaves, Goes, Unchanged}
use Rattle.board_model.proofs.Effects.{leaves_weaker, follows_weaker, goes_weaker}
use Rattle.staged_file.specs.Staged.{Kept}
use Rattle.staged_file.proofs.Staging.{kept_same, kept_then}
use Rattle.cabinet.specs.Named.{AreNamed}
use Rattle.cabinet.specs.Edits.{Edit, after, After, AfterSome, Agrees, IsSettled, Edits, Changes}
use Rattle.cabinet.proofs.EditLemmas.{kept_after, edits_then, edits_failed}
use Rattle.share_api.specs.Contents.{Bytes}
use Rattle.share_api.specs.declared.step.Write.{Write}
use Rattle.share_api.specs.declared.step.Op.TheVariants.{Do}
use Rattle.share_api.specs.declared.step.Op.{Op}
use Rattle.share_api.specs.declared.step.Reply.{Reply}
use Rattle.share_api.specs.declared.step.Reply.TheVariants.{Failed}
use Rattle.platform_core.specs.Asked.{edits_of, has_failed, Tells, IsDone}
use Rattle.platform_core.specs.Standing.{IsRight, Answers}
use Rattle.platform_core.specs.Unsure.{Memory, NamesKnown, is_unsure}
use Rattle.platform_core.specs.declared.unsure.Unsure.{Unsure}

-- what was told before goes on to what is told now
pub told_on : (R : Image → Image → Type 0) (x y : Option Image) (now : Image) → x ≡ Some now → Becomes x y R
    → (m : Image) × (y ≡ Some m) × R now m
told_on R x y now is h = there y (subst (λ (o : Option Image). Becomes o y R) is h)
  where
    there : (o : Option Image) → Becomes (Some now) o R → (m : Image) × (o ≡ Some m) × R now m
    there None b = absurd b
    there (Some m) b = (m, refl, b)

pub told_back : (R : Image → Image → Type 0) (x y : Option Image) (now : Image) → y ≡ Some now → Becomes x y R
    → (m : Image) × (x ≡ Some m) × R m now
told_back R x y now is h = there x (subst (λ (o : Option Image). Becomes x o R) is h)
  where
    there : (o : Option Image) → Becomes o (Some now) R → (m : Image) × (o ≡ Some m) × R m now
    there None b = absurd b
    there (Some m) b = (m, refl, b)

kept_turned : (d e i : Image) → Kept d e → Kept d i → Kept e i
kept_turned d e i f g = record {
  words = g.words ∙ sym f.words;
  others = λ q plain. g.others q plain
      ∙ sym (f.others q plain);
}

-- where all images go by the same edits, a settled board stays so
pub settled_goes : (edits : List Edit) (a b : Disk) → Goes a b (After edits)
    → Follows (After edits) a.may_leave b.may_leave → IsSettled a → IsSettled b
settled_goes edits a b g f settled now i is left =
    let from = told_back (After edits) a.now b.now now is g.now in
    let image = f i left in
    let same = settled from.0 image.0 from.1 image.1 in
    kept_turned (after edits from.0) now i from.2 (kept_then (after edits from.0) (after edits image.0) i
    (kept_after edits from.0 image.0 same) image.2)

-- where what a sync makes certain goes by the same edits
pub agrees_goes : (edits : List Edit) (a b : Disk) → Goes a b (After edits) → Agrees a → Agrees b
agrees_goes edits a b g agrees now i is left =
    let from = told_back (After edits) a.now b.now now is g.now in
    let image = g.synced i left in
    let same = agrees from.0 image.0 from.1 image.1 in
    kept_turned (after edits from.0) now i from.2 (kept_then (after edits from.0) (after edits image.0) i
    (kept_after edits from.0 image.0 same) image.2)

-- a call that changes nothing
pub agrees_same : (a b : Disk) → b.now ≡ a.now → Follows Same a.once_synced b.once_synced → Agrees a → Agrees b
agrees_same a b same f agrees now i is left = let from = f i left in subst (Kept now) (sym from.2)
    (agrees now from.0 (sym same ∙ is) from.1)

settled_same_board : (a b : Disk) → b.now ≡ a.now → Follows Same a.may_leave b.may_leave → IsSettled a → IsSettled b
settled_same_board a b same f settled now i is left = let from = f i left in subst (Kept now) (sym from.2)
    (settled now from.0 (sym same ∙ is) from.1)

pub right_unchanged : (a b : Disk) (before after : Memory) (unsettled : Bool) → Unchanged a b
    → after.names ≡ before.names → after.unsure ≡ before.unsure
    → IsRight a before unsettled → IsRight b after unsettled
right_unchanged a b before after unsettled u names unsure r = record {
  now = r.now;
  told = u.now ∙ r.told;
  agrees = agrees_same a b u.now u.goes.synced r.agrees;
  settled = λ e. settled_same_board a b u.now u.crash.here (r.settled e);
  named = record {
    doubtful = r.named.doubtful;
    named = subst (λ (xs : List Bytes). AreNamed r.named.doubtful r.now xs) (sym names) r.named.named;
    covered = λ q held. ap (λ (u : Unsure). is_unsure u q) unsure ∙ r.named.covered q held;
  };
}

pub on_ok_from : {T E P : Type 0} (r : Result T E) → (IsOk r → P) → OnOk r P
on_ok_from (Ok x) f = f refl
on_ok_from (Err e) f = tt

-- what is so of the content that is told
pub of_told : (P : Image → Type 0) (o : Option Image) (now : Image) → IfSome o P → o ≡ Some now → P now
of_told P o now h told = subst (λ (x : Option Image). IfSome x P) told h

-- ---- edits

quiet_edits : (a m : Disk) → Leaves a m Same → Goes a m Same → Edits a m [] (Unit {0})
quiet_edits a m l g = record {
  any_moment = leaves_weaker a m Same (AfterSome []) (λ d i e. record {
    count = 0;
    within = omega arith;
    are = kept_same
        d i e;
  }) l;
  durable = λ o. follows_weaker Same (After []) a.may_leave m.may_leave kept_same l.here;
  done = λ o. goes_weaker a m Same (After []) kept_same g;
}

-- edits after a call that changes nothing
pub edits_after : (a m b : Disk) (edits : List Edit) (ok : Type 0) → Leaves a m Same → Goes a m Same
    → Edits m b edits ok → Edits a b edits ok
edits_after a m b edits ok l g e = edits_then a m b [] edits (Unit {0}) ok (quiet_edits a m l g) tt e

-- edits that were not begun
pub edits_none : (a m : Disk) (edits : List Edit) (ok : Type 0) → (ok → ⊥) → Leaves a m Same → Goes a m Same
    → Edits a m edits ok
edits_none a m edits ok none l g = edits_failed a m [] edits (Unit {0}) ok none (quiet_edits a m l g)

-- no edit is done
pub none_done : (d i : Image) → AfterSome [] d i → Kept d i
none_done d i s = at s.count s.are
  where
    at : (n : ℕ) → After (take n []) d i → Kept d i
    at zero k = k
    at (suc n) k = k

-- the one edit is done, or isn't
pub one_done : (edit : Edit) (d i : Image) → AfterSome (edit ∷ []) d i → Kept d i ⊎ After (edit ∷ []) d i
one_done edit d i s = at s.count s.are
  where
    at : (n : ℕ) → After (take n (edit ∷ [])) d i → Kept d i ⊎ After (edit ∷ []) d i
    at zero k = inl k
    at (suc zero) k = inr k
    at (suc (suc n)) k = inr k

-- ---- answers

-- a reply that isn't Failed
pub not_failed : (reply : Reply) → has_failed reply ≡ false → reply ≢ Failed
not_failed reply e f = true≢false (sym (ap has_failed f) ∙ e)

module _ (account : Bytes) (a b : Disk) (before after : Memory)
    (named : (now then : Image) → a.now ≡ Some now → b.now ≡ Some then → NamesKnown now before → NamesKnown then after)
  where
    -- a read
    pub read_answers : (op : Op) (reply : Reply) → edits_of op ≡ [] → Unchanged a b
        → ((now : Image) → a.now ≡ Some now → NamesKnown now before → Tells account op reply now)
        → Answers account a b before after op reply
    read_answers op reply none u tells =
        let e = quiet_edits a b u.crash u.goes in
        let edits : Edits a b [] (reply ≢ Failed) = record {
          any_moment = e.any_moment;
          durable = λ o. e.durable tt;
          done = λ o. e.done tt;
        } in
        let goes : Goes a b (After []) ⊎ Goes a b (After []) = inl (goes_weaker a b Same (After []) kept_same u.goes) in
        record {
          edits = subst (λ (es : List Edit). Edits a b es (reply ≢ Failed)) (sym none) edits;
          done_or_not = subst (λ (es : List Edit). Goes a b (After []) ⊎ Goes a b (After es)) (sym none) goes;
          agrees = agrees_same a b u.now u.goes.synced;
          named = named;
          tells = tells;
        }

    -- a change, as its reply says
    pub changed_answers : (write : Write) (edit : Edit) (ok : Type 0) (reply : Reply) → edits_of (Do write) ≡ edit ∷ []
        → IsDone reply → (reply ≢ Failed → ok) → Changes a b edit ok
        → Answers account a b before after (Do write) reply
    changed_answers write edit ok reply is done to h = record {
      edits = subst (λ (es : List Edit). Edits a b es (reply ≢ Failed)) (sym is)
          (record {
            any_moment = h.edits.any_moment;
            durable = λ o. h.edits.durable (to o);
            done = λ o. h.edits.done
                (to o);
          });
      done_or_not = subst (λ (es : List Edit). Goes a b (After []) ⊎ Goes a b (After es)) (sym is) h.done_or_not;
      agrees = h.agrees;
      named = named;
      tells = λ now told names. done;
    }
