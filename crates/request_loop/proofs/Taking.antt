-- What was taken from the source when the loop goes on or ends.
use Rattle.std.proofs.Common.{◌≡◌, ◌↔◌, ℕ, ◌+◌, ◌<◌, ◌≤◌, ◌^◌, List, [], ◌++◌, length, take, refl, sym, ap, ◌∙◌, append_assoc, append-nil, subst, Option, arith}
use Rattle.std.proofs.lemmas.Grind.{common_steps}
use Rattle.fault_count.specs.Told.{Becomes}
use Rattle.request_loop.specs.declared.serve.LoopEnd.TheVariants.{End, SinkFault, NoMemory}
use Rattle.request_loop.specs.Lines.{lines_seen, ended_seen}
use Rattle.request_loop.specs.Exchange.{Exchange}
use Rattle.request_loop.specs.Served.{TakesLines, lines_answered}
use Rattle.fault_count.proofs.ToldLemmas.{becomes_then, becomes_both, becomes_weaker, becomes_same}
use Rattle.request_loop.proofs.Cutting.{lines_seen-more}
use Rattle.request_loop.proofs.Serving.{lines_answered-append}

-- another piece was read
pub left-more : (k l m : Option (List ℕ)) (bytes piece : List ℕ) → Becomes k l (λ input rest. input ≡ bytes ++ rest)
    → Becomes l m (λ old new. old ≡ piece ++ new) → Becomes k m (λ input rest. input ≡ (bytes ++ piece) ++ rest)
left-more k l m bytes piece p q =
    becomes_then (λ input rest. input ≡ bytes ++ rest) (λ old new. old ≡ piece ++ new) (λ input rest. input ≡ (bytes ++ piece) ++ rest) k l m
    (λ (x y z : List ℕ) (p : x ≡ bytes ++ y) (q : y ≡ piece ++ z). p ∙ (ap (λ rest. bytes ++ rest) q ∙ sym (append_assoc bytes piece z))) p q

-- the end of the input was read
pub left-end : (k l m : Option (List ℕ)) (bytes buf : List ℕ) (count : ℕ) → count ≡ 0 → Becomes k l (λ input rest. input ≡ bytes ++ rest)
    → Becomes l m (λ old new. old ≡ take count buf ++ new) → Becomes l m (λ old new. (count ≡ 0) ↔ (old ≡ []))
    → Becomes k m (λ input rest. (input ≡ bytes) × (rest ≡ []))
left-end k l m bytes buf count e p q end =
    becomes_then (λ input rest. input ≡ bytes ++ rest) (λ old new. (old ≡ []) × (new ≡ [])) (λ input rest. (input ≡ bytes) × (rest ≡ [])) k l m
    (λ (x y z : List ℕ) (p : x ≡ bytes ++ y) (q : (y ≡ []) × (z ≡ [])). (p ∙ (ap (λ rest. bytes ++ rest) q.0 ∙ append-nil bytes), q.1)) p
    (becomes_both (λ old new. old ≡ take count buf ++ new) (λ old new. (count ≡ 0) ↔ (old ≡ [])) (λ old new. (old ≡ []) × (new ≡ [])) l m
    (λ (y z : List ℕ) (q : y ≡ take count buf ++ z) (end : (count ≡ 0) ↔ (y ≡ [])). (end.0 e, sym (sym (end.0 e) ∙ (q ∙ ap (λ count. take count buf ++ z) e)))) q end)

-- the lines that ended in a piece were answered
pub lines-more : (bytes gone : List ℕ) (xs ys : List Exchange) → lines_answered xs ≡ ended_seen bytes
    → ended_seen (bytes ++ gone) ≡ ended_seen bytes ++ lines_answered ys → lines_answered (xs ++ ys) ≡ ended_seen (bytes ++ gone)
lines-more bytes gone xs ys p q = lines_answered-append xs ys ∙ (ap (λ lines. lines ++ lines_answered ys) p ∙ sym q)

-- the last line was answered, where there is one
pub lines-end : (bytes : List ℕ) (xs ys : List Exchange) → lines_answered xs ≡ ended_seen bytes
    → lines_seen bytes ≡ ended_seen bytes ++ lines_answered ys → lines_answered (xs ++ ys) ≡ lines_seen bytes
lines-end bytes xs ys p q = lines_answered-append xs ys ∙ (ap (λ lines. lines ++ lines_answered ys) p ∙ sym q)

-- the loop ended at the end of the input
pub takes-end : (k m : Option (List ℕ)) (bytes : List ℕ) (earlier exchanges : List Exchange) → lines_answered exchanges ≡ lines_seen bytes → length bytes < 2 ^ 32
    → Becomes k m (λ input rest. (input ≡ bytes) × (rest ≡ [])) → Becomes k m (TakesLines End earlier exchanges)
takes-end k m bytes earlier exchanges lines few p =
    becomes_weaker (λ input rest. (input ≡ bytes) × (rest ≡ [])) (TakesLines End earlier exchanges) k m
    (λ (input rest : List ℕ) (p : (input ≡ bytes) × (rest ≡ [])).
    (lines ∙ ap lines_seen (sym p.0), p.1, subst (λ (bytes : List ℕ). length bytes < 2 ^ 32) (sym p.0) few)) p

-- or at the reply to the last line
pub takes-last : (k m : Option (List ℕ)) (bytes : List ℕ) (earlier exchanges : List Exchange) → lines_answered earlier ≡ ended_seen bytes
    → lines_answered exchanges ≡ lines_seen bytes
    → Becomes k m (λ input rest. (input ≡ bytes) × (rest ≡ [])) → Becomes k m (TakesLines SinkFault earlier exchanges)
takes-last k m bytes earlier exchanges before lines p =
    becomes_weaker (λ input rest. (input ≡ bytes) × (rest ≡ [])) (TakesLines SinkFault earlier exchanges) k m
    (λ (input rest : List ℕ) (p : (input ≡ bytes) × (rest ≡ [])). (
      bytes,
      [],
      [],
      p.0 ∙ (sym (append-nil bytes) ∙ (sym (append-nil (bytes ++ [])) ∙ ap (λ rest. (bytes ++ []) ++ rest) (sym p.1))),
      before,
      omega arith,
      ap lines_seen p.0 ∙ (sym lines ∙ sym (append-nil (lines_answered exchanges))),
    )) p

-- or at the replies to lines that ended in a piece
pub takes-part : (k m : Option (List ℕ)) (bytes piece gone rest : List ℕ) (earlier exchanges : List Exchange) → piece ≡ gone ++ rest
    → length piece ≤ 4096 → lines_answered earlier ≡ ended_seen bytes
    → lines_answered exchanges ≡ ended_seen (bytes ++ gone)
    → Becomes k m (λ input rest. input ≡ (bytes ++ piece) ++ rest) → Becomes k m (TakesLines SinkFault earlier exchanges)
takes-part k m bytes piece gone rest earlier exchanges cut short before lines p =
    becomes_weaker (λ input left. input ≡ (bytes ++ piece) ++ left) (TakesLines SinkFault earlier exchanges) k m
    (λ (input left : List ℕ) (p : input ≡ (bytes ++ piece) ++ left).
    let more = lines_seen-more (bytes ++ gone) (rest ++ left) in
    let seam : input ≡ (bytes ++ gone) ++ (rest ++ left) = p ∙ (ap (λ piece. (bytes ++ piece) ++ left) cut ∙ regroup left) in
    (bytes, piece, more.0, p, before, short, ap lines_seen seam ∙ (more.1 ∙ ap (λ lines. lines ++ more.0) (sym lines)))) p where
      regroup : (left : List ℕ) → (bytes ++ (gone ++ rest)) ++ left ≡ (bytes ++ gone) ++ (rest ++ left)
      regroup left = simp append_assoc

-- the loop found no memory
pub takes-none : (k : Option (List ℕ)) → Becomes k k (TakesLines NoMemory [] [])
takes-none k = becomes_same (TakesLines NoMemory [] []) k (λ (input : List ℕ). (refl, refl))

-- so many bytes were taken
pub length-taken : (bytes buf : List ℕ) (taken count : ℕ) → length bytes ≡ taken → count ≤ length buf → length (bytes ++ take count buf) ≡ taken + count
length-taken bytes buf taken count p fits = grind (arith, common_steps)
