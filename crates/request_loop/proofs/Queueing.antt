-- What is left in the sink and waits, after a reply was put behind those that wait.
use Rattle.std.proofs.Common.{◌≡◌, ℕ, ◌+◌, List, [], ◌∷◌, ◌++◌, length, take, drop, take-append-drop, sym, ap, ◌∙◌, append_assoc, append-nil, Option, Result, Ok, Err, OnOk, OnErr}
use Rattle.std.proofs.Math.Seq.{take-append-add}
use Rattle.fault_count.specs.Told.{Becomes}
use Rattle.fault_count.proofs.ToldLemmas.{becomes_then, becomes_weaker}
use Rattle.request_loop.specs.Cut.{Queues, QueuesFor}

-- a reply was written, and of its line feed only so much
pub feed_cut : {A E : Type 0} (r : Result A E) (k l m : Option (List ℕ)) (written reply : List ℕ) → written ≡ reply
    → Becomes k l (λ old new. new ≡ old ++ written)
    → OnErr r (Becomes l m (λ old new. (count : ℕ) × (new ≡ old ++ take count (10 ∷ []))))
    → OnErr r (Becomes k m (λ old new. (count : ℕ) × (new ≡ old ++ take count (reply ++ 10 ∷ []))))
feed_cut (Ok v) k l m written reply same first next = tt
feed_cut (Err e) k l m written reply same first next =
    becomes_then (λ old new. new ≡ old ++ written) (λ old new. (count : ℕ) × (new ≡ old ++ take count (10 ∷ [])))
    (λ old new. (count : ℕ) × (new ≡ old ++ take count (reply ++ 10 ∷ []))) k l m
    (λ (x y z : List ℕ) (p : y ≡ x ++ written) (q : (count : ℕ) × (z ≡ y ++ take count (10 ∷ []))). (
      length reply + q.0,
      q.1 ∙ (ap (λ y. y ++ take q.0 (10 ∷ [])) (p ∙ ap (λ written. x ++ written) same)
          ∙ (append_assoc x reply (take q.0 (10 ∷ [])) ∙ ap (λ text. x ++ text) (sym (take-append-add reply (10 ∷ []) q.0)))),
    )) first next

-- what waited couldn't be written whole
pub waiting_cut : (k l : Option (List ℕ)) (waiting before text : List ℕ) → waiting ≡ before
    → Becomes k l (λ old new. (count : ℕ) × (new ≡ old ++ take count waiting))
    → Becomes k l (λ old new. (rest : List ℕ) × Queues before rest text old new)
waiting_cut k l waiting before text same cut =
    becomes_weaker (λ old new. (count : ℕ) × (new ≡ old ++ take count waiting)) (λ old new. (rest : List ℕ) × Queues before rest text old new) k l
    (λ (old new : List ℕ) (p : (count : ℕ) × (new ≡ old ++ take count waiting)). (
      drop p.0 before ++ text,
      record {
        done = take p.0 before;
        written = p.1 ∙ ap (λ waiting. old ++ take p.0 waiting) same;
        all = sym (append_assoc (take p.0 before) (drop p.0 before) text) ∙ ap (λ front. front ++ text) (take-append-drop p.0 before);
      },
    )) cut

-- what waited was written, and then the reply by itself, whole or not
pub written_alone : {A E : Type 0} (r : Result A E) (k l m : Option (List ℕ)) (waiting before after text : List ℕ)
    → waiting ≡ before → after ≡ []
    → Becomes k l (λ old new. new ≡ old ++ waiting)
    → OnOk r (Becomes l m (λ old new. new ≡ old ++ text))
    → OnErr r (Becomes l m (λ old new. (count : ℕ) × (new ≡ old ++ take count text)))
    → Becomes k m (QueuesFor r before after text)
written_alone (Ok v) k l m waiting before after text same none first ok err =
    becomes_then (λ old new. new ≡ old ++ waiting) (λ old new. new ≡ old ++ text) (Queues before after text) k l m
    (λ (x y z : List ℕ) (p : y ≡ x ++ waiting) (q : z ≡ y ++ text). record {
      done = before ++ text;
      written = q ∙ (ap (λ y. y ++ text) (p ∙ ap (λ waiting. x ++ waiting) same) ∙ append_assoc x before text);
      all = ap (λ after. (before ++ text) ++ after) none ∙ append-nil (before ++ text);
    }) first ok
written_alone (Err e) k l m waiting before after text same none first ok err =
    becomes_then (λ old new. new ≡ old ++ waiting) (λ old new. (count : ℕ) × (new ≡ old ++ take count text))
    (λ old new. (rest : List ℕ) × Queues before rest text old new) k l m
    (λ (x y z : List ℕ) (p : y ≡ x ++ waiting) (q : (count : ℕ) × (z ≡ y ++ take count text)). (
      drop q.0 text,
      record {
        done = before ++ take q.0 text;
        written = q.1 ∙ (ap (λ y. y ++ take q.0 text) (p ∙ ap (λ waiting. x ++ waiting) same) ∙ append_assoc x before (take q.0 text));
        all = append_assoc before (take q.0 text) (drop q.0 text) ∙ ap (λ text. before ++ text) (take-append-drop q.0 text);
      },
    )) first err
