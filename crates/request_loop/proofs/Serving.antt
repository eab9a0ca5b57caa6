-- How stretches of the loop make one whole.
use Rattle.std.proofs.Common.{◌≡◌, ℕ, List, [], ◌∷◌, ◌++◌, map, take, drop, take-append-drop, refl, sym, ap, ◌∙◌, append_assoc, append-nil, subst, Option, Result, Ok, Err, OnOk, OnErr}
use Rattle.std.proofs.lemmas.List.{map-append}
use Rattle.fault_count.specs.Told.{Becomes, Gives}
use Rattle.request_loop.specs.Exchange.{Exchange, text_of, written_for}
use Rattle.request_loop.specs.Served.{WritesAll, WritesPart, lines_answered}
use Rattle.request_loop.specs.Cut.{Queues, QueuesFor, Serves, WritesFor}
use Rattle.fault_count.proofs.ToldLemmas.{becomes_then, becomes_same, gives_then, gives_none}

pub written_for-append : (xs ys : List Exchange) → written_for (xs ++ ys) ≡ written_for xs ++ written_for ys
written_for-append [] ys = refl
written_for-append (x ∷ xs) ys =
    ap (λ text. text_of x ++ text) (written_for-append xs ys) ∙ sym (append_assoc (text_of x) (written_for xs) (written_for ys))

pub lines_answered-append : (xs ys : List Exchange) → lines_answered (xs ++ ys) ≡ lines_answered xs ++ lines_answered ys
lines_answered-append xs ys = map-append (λ (x : Exchange). x.line) xs ys

-- no reply
pub queues-none : (waiting old : List ℕ) → Queues waiting waiting [] old old
queues-none waiting old = record { done = []; written = sym (append-nil old); all = sym (append-nil waiting) }

-- one stretch of replies after another
queues-on : (a b c x y old mid new : List ℕ) → Queues a b x old mid → Queues b c y mid new → Queues a c (x ++ y) old new
queues-on a b c x y old mid new first next = record {
  done = first.done ++ next.done;
  written = next.written
      ∙ (ap (λ front. front ++ next.done) first.written ∙ append_assoc old first.done next.done);
  all = append_assoc first.done next.done c
      ∙ (ap (λ text. first.done ++ text) next.all
      ∙ (sym (append_assoc first.done b y)
      ∙ (ap (λ front. front ++ y) first.all ∙ append_assoc a x y)));
}

queues-then : {A E : Type 0} (r : Result A E) (a b c x y old mid new : List ℕ)
    → Queues a b x old mid → QueuesFor r b c y mid new → QueuesFor r a c (x ++ y) old new
queues-then (Ok v) a b c x y old mid new first next = queues-on a b c x y old mid new first next
queues-then (Err e) a b c x y old mid new first next =
    (next.0, queues-on a b next.0 x y old mid new first next.1)

-- one more stretch of replies
pub writes-then : {A E : Type 0} (r : Result A E) (a b c : List ℕ) (xs ys : List Exchange) (old mid new : List ℕ)
    → Queues a b (written_for xs) old mid → WritesFor r b c ys mid new → WritesFor r a c (xs ++ ys) old new
writes-then r a b c xs ys old mid new first next =
    subst (λ (text : List ℕ). QueuesFor r a c text old new) (sym (written_for-append xs ys))
    (queues-then r a b c (written_for xs) (written_for ys) old mid new first next)

-- a reply with its line feed
pub writes-one : {A E : Type 0} (r : Result A E) (a b : List ℕ) (x : Exchange) (old new : List ℕ)
    → QueuesFor r a b (x.reply ++ 10 ∷ []) old new → WritesFor r a b (x ∷ []) old new
writes-one r a b x old new queues =
    subst (λ (text : List ℕ). QueuesFor r a b text old new) (sym (append-nil (text_of x))) queues

-- what waited was written
pub writes-out : (a text waiting old mid new : List ℕ) → Queues a waiting text old mid → new ≡ mid ++ waiting
    → Queues a [] text old new
writes-out a text waiting old mid new queues is = record {
  done = queues.done ++ waiting;
  written = is ∙ (ap (λ front. front ++ waiting) queues.written ∙ append_assoc old queues.done waiting);
  all = append-nil (queues.done ++ waiting) ∙ queues.all;
}

-- or the first bytes of it
pub writes-front : (a text waiting old mid new : List ℕ) → Queues a waiting text old mid
    → (count : ℕ) × (new ≡ mid ++ take count waiting) → (rest : List ℕ) × Queues a rest text old new
writes-front a text waiting old mid new queues cut = (
  drop cut.0 waiting,
  record {
    done = queues.done ++ take cut.0 waiting;
    written = cut.1 ∙ (ap (λ front. front ++ take cut.0 waiting) queues.written
        ∙ append_assoc old queues.done (take cut.0 waiting));
    all = append_assoc queues.done (take cut.0 waiting) (drop cut.0 waiting)
        ∙ (ap (λ text. queues.done ++ text) (take-append-drop cut.0 waiting) ∙ queues.all);
  },
)

-- where nothing waited and nothing waits, all was written
pub writes-all : (xs : List Exchange) (old new : List ℕ) → Queues [] [] (written_for xs) old new → WritesAll xs old new
writes-all xs old new queues =
    queues.written ∙ ap (λ text. old ++ text) (sym (append-nil queues.done) ∙ queues.all)

pub writes-more : (xs ys : List Exchange) (old mid new : List ℕ)
    → WritesAll xs old mid → Queues [] [] (written_for ys) mid new → WritesAll (xs ++ ys) old new
writes-more xs ys old mid new first next =
    writes-all ys mid new next
    ∙ (ap (λ front. front ++ written_for ys) first
    ∙ (append_assoc old (written_for xs) (written_for ys) ∙ ap (λ text. old ++ text) (sym (written_for-append xs ys))))

-- replies that were cut short, after others that were all written
pub writes-part : (xs ys : List Exchange) (old mid new : List ℕ)
    → WritesAll xs old mid → (rest : List ℕ) × Queues [] rest (written_for ys) mid new → WritesPart xs (xs ++ ys) old new
writes-part xs ys old mid new first next = record {
  late = ys;
  done = next.1.done;
  rest = next.0;
  all = refl;
  cut = sym next.1.all;
  written = next.1.written
      ∙ (ap (λ front. front ++ next.1.done) first ∙ append_assoc old (written_for xs) next.1.done);
}

-- no line was answered
pub serves-none : {S : Type 0} (was : S → List Exchange → Type 0) (k c : Option (List ℕ)) (Writes : List Exchange → List ℕ → List ℕ → Type 0)
    → ((old : List ℕ) → Writes [] old old) → Serves was was k k c c Writes []
serves-none was k c Writes none = record {
  answered = λ start earlier h. subst (was start) (sym (append-nil earlier)) h;
  moments = gives_none c;
  written = becomes_same (Writes []) k none;
}

-- a stretch after another
pub serves-then : {S : Type 0} {was now : S → List Exchange → Type 0} {k m c e : Option (List ℕ)} (xs ys : List Exchange)
    (P Q R : List Exchange → List ℕ → List ℕ → Type 0)
    (mid : S → List Exchange → Type 0) (l d : Option (List ℕ))
    → ((x y z : List ℕ) → P xs x y → Q ys y z → R (xs ++ ys) x z)
    → Serves was mid k l c d P xs → Serves mid now l m d e Q ys → Serves was now k m c e R (xs ++ ys)
serves-then {now = now} {k = k} {m = m} {c = c} {e = e} xs ys P Q R mid l d joins first next = record {
  answered = λ start earlier h. subst (now start) (append_assoc earlier xs ys) (next.answered start (earlier ++ xs) (first.answered start earlier h));
  moments = subst (λ (numbers : List ℕ). Gives c e numbers) (sym (map-append (λ (x : Exchange). x.moment) xs ys))
      (gives_then c d e (map (λ (x : Exchange). x.moment) xs) (map (λ (x : Exchange). x.moment) ys) first.moments next.moments);
  written = becomes_then (P xs) (Q ys) (R (xs ++ ys)) k l m joins first.written next.written;
}

-- the same, while replies may wait
pub waits-then : {A E : Type 0} (r : Result A E) {S : Type 0} {was now : S → List Exchange → Type 0} {k m c e : Option (List ℕ)} (xs ys : List Exchange)
    (before middle after : List ℕ) (mid : S → List Exchange → Type 0) (l d : Option (List ℕ))
    → Serves was mid k l c d (λ exchanges. Queues before middle (written_for exchanges)) xs
    → Serves mid now l m d e (WritesFor r middle after) ys
    → Serves was now k m c e (WritesFor r before after) (xs ++ ys)
waits-then r xs ys before middle after mid l d first next =
    serves-then xs ys (λ exchanges. Queues before middle (written_for exchanges)) (WritesFor r middle after) (WritesFor r before after)
    mid l d (writes-then r before middle after xs ys) first next

-- then what waits is written, or the first bytes of it
pub serves-out : {A E : Type 0} (r : Result A E) {S : Type 0} {was now : S → List Exchange → Type 0} {k c e : Option (List ℕ)} (xs : List Exchange)
    (before waiting : List ℕ) (l m : Option (List ℕ))
    → Serves was now k l c e (λ exchanges. Queues before waiting (written_for exchanges)) xs
    → OnOk r (Becomes l m (λ old new. new ≡ old ++ waiting))
    → OnErr r (Becomes l m (λ old new. (count : ℕ) × (new ≡ old ++ take count waiting)))
    → Serves was now k m c e (WritesFor r before []) xs
serves-out (Ok v) {k = k} xs before waiting l m serves ok err = record {
  answered = serves.answered;
  moments = serves.moments;
  written = becomes_then (Queues before waiting (written_for xs)) (λ old new. new ≡ old ++ waiting) (Queues before [] (written_for xs)) k l m
      (λ (x y z : List ℕ) (p : Queues before waiting (written_for xs) x y) (q : z ≡ y ++ waiting). writes-out before (written_for xs) waiting x y z p q) serves.written ok;
}
serves-out (Err v) {k = k} xs before waiting l m serves ok err = record {
  answered = serves.answered;
  moments = serves.moments;
  written = becomes_then (Queues before waiting (written_for xs)) (λ old new. (count : ℕ) × (new ≡ old ++ take count waiting))
      (λ old new. (rest : List ℕ) × Queues before rest (written_for xs) old new) k l m
      (λ (x y z : List ℕ) (p : Queues before waiting (written_for xs) x y) (q : (count : ℕ) × (z ≡ y ++ take count waiting)). writes-front before (written_for xs) waiting x y z p q) serves.written err;
}

-- the same, where nothing waited before
pub serves-nothing : {A E : Type 0} (r : Result A E) {S : Type 0} {was now : S → List Exchange → Type 0} {k m c e : Option (List ℕ)} (xs : List Exchange)
    (before after : List ℕ) → before ≡ []
    → Serves was now k m c e (WritesFor r before after) xs → Serves was now k m c e (WritesFor r [] after) xs
serves-nothing r {was = was} {now = now} {k = k} {m = m} {c = c} {e = e} xs before after none serves =
    subst (λ (before : List ℕ). Serves was now k m c e (WritesFor r before after) xs) none serves

-- what holds holds at any outcome
pub on_ok : {A E : Type 0} (r : Result A E) (P : Type 0) → P → OnOk r P
on_ok (Ok v) P holds = holds
on_ok (Err e) P holds = tt
