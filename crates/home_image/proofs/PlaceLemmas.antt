-- Contents at a place of a book, by what its turns say.
use Rattle.std.proofs.Common.{◌≡◌, ◌⊎◌, inl, inr, ⊎_elim, ℕ, ◌+◌, ◌≤◌, ◌<◌, ◌^◌, List, [], ◌∷◌, ◌++◌, take, length, refl, sym, ap, subst, ◌∙◌, arith}
use Rattle.std.specs.Prelude.{Contains}
use Rattle.std.specs.List.{AllByRecursion}
use Rattle.home_image.specs.Parts.{Meaning}
use Rattle.home_image.specs.Steps.{Fold}
use Rattle.home_image.specs.Chain.{steps_of, place_of}
use Rattle.home_image.specs.Book.{Made, entries, steps_in, HoldsOne, SameDurable, HoldsAround, among, Tells, AreClean}
use Rattle.home_image.specs.Place.{IsWithin, EndsWithin, HoldsAfter, HoldsFlying, At}
use Rattle.home_image.proofs.ListLemmas.{two_cuts, first_of_none, all-left, all-right}
use Rattle.home_image.proofs.StepLemmas.{throughout-first, steps-split}
use Rattle.home_image.specs.Settled.{BookStands, IsLed, IsStateOf, Opens, owned}
use Rattle.home_image.proofs.ChainLemmas.{place-positive, place-below, place-past, chain-cut}
use Rattle.home_image.proofs.BookLemmas.{same_parts, stays_seen, fold-seen, clean_first, clean_rest, opens-then, own-exact}

module _ {C S D U E X : Type 0} (m : Meaning C S D U E X) (n : ℕ) where
  -- what holds after entries holds after one more at the front
  after-cons : (user next : U) (e : E) (es : List E) (x : C)
      → m.allows user e next → HoldsAfter m next es x → HoldsAfter m user (e ∷ es) x
  after-cons user next e es x allowed h =
      record { last = h.last; legal = (next, allowed, h.legal); holds = h.holds }

  -- and so does what holds with the entry in flight
  flying-cons : (user next : U) (e : E) (done after : List E) (x : C)
      → m.allows user e next
      → HoldsFlying m n next done after x
      → HoldsFlying m n user (e ∷ done) after x
  flying-cons user next e done after x allowed h = record {
    idle = h.idle;
    flying = h.flying;
    rest = h.rest;
    parts = h.parts;
    none = h.none;
    above = h.above;
    holds = after-cons user next e (done ++ h.idle ++ h.flying ∷ []) x allowed h.holds;
  }

  -- and the last of the entries keeps its place
  ends-cons : (e : E) (done : List E)
      → IsWithin m n e → EndsWithin m n done → EndsWithin m n (e ∷ done)
  ends-cons e [] w h = w
  ends-cons e (d ∷ done) w h = h

  -- behind an entry that is done
  at-done : (user next : U) (e : E) (es : List E) (x : C)
      → m.allows user e next → IsWithin m n e → At m n next es x → At m n user (e ∷ es) x
  at-done user next e es x allowed w h = record {
    done = e ∷ h.done;
    after = h.after;
    parts = ap (λ (xs : List E). e ∷ xs) h.parts;
    last = ends-cons e h.done w h.last;
    none = h.none;
    holds = ⊎_elim
        (λ k. inl (after-cons user next e h.done x allowed k))
        (λ k. inr (flying-cons user next e h.done h.after x allowed k))
        h.holds;
  }

  -- behind an entry without device steps
  at-idle-by : (user next : U) (e : E) (es done after : List E) (x : C)
      → m.allows user e next
      → m.place e ≡ 0
      → SameDurable m user next
      → es ≡ done ++ after
      → EndsWithin m n done
      → AllByRecursion (λ e. ¬ IsWithin m n e) after
      → HoldsAfter m next done x ⊎ HoldsFlying m n next done after x
      → At m n user (e ∷ es) x
  at-idle-by user next e es [] after x allowed zero_place same parts last none holds = record {
    done = [];
    after = e ∷ after;
    parts = ap (λ (xs : List E). e ∷ xs) parts;
    last = tt;
    none = ((λ w. let some = w.made in omega (arith, zero_place, some)), none);
    holds = ⊎_elim
        (λ k. inl (record {
          last = user;
          legal = refl;
          holds = same_parts m user next x same (subst (λ u. HoldsOne m u x) k.legal k.holds);
        }))
        (λ k. inr (record {
          idle = e ∷ k.idle;
          flying = k.flying;
          rest = k.rest;
          parts = ap (λ (xs : List E). e ∷ xs) k.parts;
          none = (omega (arith, zero_place), k.none);
          above = k.above;
          holds = after-cons user next e (k.idle ++ k.flying ∷ []) x allowed k.holds;
        }))
        holds;
  }
  at-idle-by user next e es (d ∷ done) after x allowed zero_place same parts last none holds = record {
    done = e ∷ d ∷ done;
    after = after;
    parts = ap (λ (xs : List E). e ∷ xs) parts;
    last = last;
    none = none;
    holds = ⊎_elim
        (λ k. inl (after-cons user next e (d ∷ done) x allowed k))
        (λ k. inr (flying-cons user next e (d ∷ done) after x allowed k))
        holds;
  }

  -- behind an entry whose steps are all among the first n
  at-cons : (user next : U) (e : E) (es : List E) (x : C) (own : List (ℕ × S))
      → m.allows user e next
      → (own ≡ [] → SameDurable m user next)
      → m.place e ≡ place_of own
      → AllByRecursion (λ known. known.0 < n) own
      → At m n next es x
      → At m n user (e ∷ es) x
  at-cons user next e es x [] allowed idle at below h =
      at-idle-by user next e es h.done h.after x allowed at (idle refl) h.parts h.last h.none h.holds
  at-cons user next e es x (known ∷ own) allowed idle at below h =
      let some = place-positive (known.0 + 1) own (omega arith) in
      let few = place-below n 0 (known ∷ own) (omega arith) below in
      at-done user next e es x allowed
      (record { made = omega (arith, at, some); within = omega (arith, at, few) }) h

  -- an entry whose steps aren't below n has no place from 1 to n
  not-within : (e : E) (own : List (ℕ × S))
      → m.place e ≡ place_of own
      → AllByRecursion (λ known. n ≤ known.0) own
      → ¬ IsWithin m n e
  not-within e [] at above w = let some = w.made in omega (arith, at, some)
  not-within e (known ∷ own) at above w =
      let past = place-past n 0 [] known own above in
      let few = w.within in omega (arith, at, past, few)

  -- and neither has any entry of turns with such steps
  none-within : (made : List (Made S E))
      → AllByRecursion (λ turn. m.place turn.entry ≡ place_of turn.own) made
      → AllByRecursion (λ known. n ≤ known.0) (steps_in made)
      → AllByRecursion (λ e. ¬ IsWithin m n e) (entries made)
  none-within [] places above = tt
  none-within (turn ∷ made) places above = (
    not-within turn.entry turn.own places.0
        (all-left (λ known. n ≤ known.0) turn.own (steps_in made) above),
    none-within made places.1
        (all-right (λ known. n ≤ known.0) turn.own (steps_in made) above),
  )

  -- contents around the entry in flight are at place n
  at-flying : (user : U) (e : E) (es : List E) (x : C)
      → HoldsAround m user e x
      → n < m.place e
      → AllByRecursion (λ e. ¬ IsWithin m n e) es
      → At m n user (e ∷ es) x
  at-flying user e es x around past none = record {
    done = [];
    after = e ∷ es;
    parts = refl;
    last = tt;
    none = ((λ w. let few = w.within in omega (arith, past, few)), none);
    holds = ⊎_elim
        (λ k. inl (record { last = user; legal = refl; holds = k }))
        (λ k. inr (record {
          idle = [];
          flying = e;
          rest = es;
          parts = refl;
          none = tt;
          above = past;
          holds = record { last = k.0; legal = (k.0, k.1, refl); holds = k.2 };
        }))
        around;
  }

  -- contents before the first step of a book are at place n
  at-before : (user : U) (made : List (Made S E)) (x : C)
      → HoldsOne m user x
      → AllByRecursion (λ turn. m.place turn.entry ≡ place_of turn.own) made
      → AllByRecursion (λ known. n ≤ known.0) (steps_in made)
      → At m n user (entries made) x
  at-before user made x h places above = record {
    done = [];
    after = entries made;
    parts = refl;
    last = tt;
    none = none-within made places above;
    holds = inl (record { last = user; legal = refl; holds = h });
  }

  -- contents before the first entry are at each place
  at-start : (user : U) (x c : C) → HoldsOne m user c → x ≡ c → At m n user [] x
  at-start user x c h e = record {
    done = [];
    after = [];
    parts = refl;
    last = tt;
    none = tt;
    holds = inl (record { last = user; legal = refl; holds = subst (HoldsOne m user) (sym e) h });
  }

  -- The account's steps below n are `before`, and lead to x: then x is at place n.
  pub at-tells : (seen : List C) (End : C → U → Type 0) (made : List (Made S E)) (c x : C) (user : U)
      (before after : List (ℕ × S))
      → HoldsOne m user c
      → Contains seen c
      → AreClean m seen user (entries made)
      → Tells m seen End made c user
      → AllByRecursion (λ turn. m.place turn.entry ≡ place_of turn.own) made
      → steps_in made ≡ before ++ after
      → AllByRecursion (λ known. known.0 < n) before
      → AllByRecursion (λ known. n ≤ known.0) after
      → Fold (among m seen).does c (steps_of before) x
      → At m n user (entries made) x
  at-tells seen End [] c x user before after holds has clean tells places parts below above f =
      at-start user x c holds
      (subst (λ xs. Fold (among m seen).does c (steps_of xs) x) (first_of_none before after parts) f)
  at-tells seen End (turn ∷ made) c x user before after holds has clean tells places parts below above f =
      let told = tells has (clean_first m seen user turn.entry (entries made) clean) in
      ⊎_elim
      (λ cut.
      let below_parts = subst (AllByRecursion (λ known. known.0 < n)) cut.1 below in
      let split = steps-split (among m seen).does c x turn.own cut.0
      (subst (λ xs. Fold (among m seen).does c (steps_of xs) x) cut.1 f) in
      let led = told.leads split.0 split.1 in
      at-cons user led.0 turn.entry (entries made) x turn.own led.1.allowed led.1.idle places.0
      (all-left (λ known. known.0 < n) turn.own cut.0 below_parts)
      (at-tells seen End made split.0 x led.0 cut.0 after led.1.holds
      (stays_seen m seen c split.0 (steps_of turn.own) has split.1)
      (clean_rest m seen user led.0 turn.entry (entries made) led.1.allowed clean)
      led.2 places.1 cut.2 (all-right (λ known. known.0 < n) turn.own cut.0 below_parts)
      above split.2))
      (λ cut.
      let above_parts = subst (AllByRecursion (λ known. n ≤ known.0)) cut.3 above in
      let own_above = all-left (λ known. n ≤ known.0) (cut.0 ∷ cut.1) (steps_in made) above_parts in
      let past = place-past n 0 before cut.0 cut.1 own_above in
      let at : place_of turn.own ≡ place_of (before ++ cut.0 ∷ cut.1) = ap place_of cut.2 in
      at-flying user turn.entry (entries made) x
      (throughout-first (among m seen).does (HoldsAround m user turn.entry) c x turn.own before
      (cut.0 ∷ cut.1) cut.2 told.throughout f)
      (let place_is = places.0 in omega (arith, at, place_is, past))
      (none-within made places.1
      (all-right (λ known. n ≤ known.0) (cut.0 ∷ cut.1) (steps_in made) above_parts)))
      (two_cuts turn.own (steps_in made) before after parts)

-- Contents to which an account's steps among the first n of a chain lead are those at place n. The account's
-- first steps in the chain open it, and the others are those of its book.
pub at-led : {C S D U E X : Type 0} (m : Meaning C S D U E X) (n account : ℕ) (chain : List S)
    (early own : List (ℕ × S)) (before after : X) (first image : C) (seen : List C) (user : U) (book : List E)
    → BookStands m before after own book
    → owned m account chain ≡ early ++ own
    → Opens m before (steps_of early) first user
    → AreClean m seen user book
    → length chain < 2 ^ 64
    → n ≤ length chain
    → IsLed m (take n chain) account seen first image
    → At m n user book image
at-led m n account chain early own before after first image seen user book stands parts opens clean small fits led =
    let cut = chain-cut m.account n account chain fits in
    let made = owned m account (take n chain) in
    let exact = own-exact m account chain early own before after book stands parts small in
    subst (λ es. At m n user es image) stands.book_is
    (⊎_elim
    (λ opened.
    let then = opens-then m seen before user early opened.0 first image opens led.start
    (subst (λ xs. Fold (among m seen).does first (steps_of xs) image) opened.1 led.fold) in
    at-tells m n seen (IsStateOf m after) stands.made then.mid image user opened.0 cut.rest then.state_of.holds
    then.has (subst (λ es. AreClean m seen user es) (sym stands.book_is) clean)
    (stands.right seen then.mid user then.state_of) exact (stands.own_is ∙ opened.2)
    (all-right (λ known. known.0 < n) early opened.0
    (subst (AllByRecursion (λ known. known.0 < n)) opened.1 cut.below))
    cut.above then.fold)
    (λ opening.
    at-before m n user stands.made image
    (throughout-first m.does (HoldsOne m user) first image early made (opening.0 ∷ opening.1) opening.2
    opens.throughout (fold-seen m seen first image (steps_of made) led.fold))
    exact
    (subst (AllByRecursion (λ known. n ≤ known.0)) (sym stands.own_is)
    (all-right (λ known. n ≤ known.0) (opening.0 ∷ opening.1) own
    (subst (AllByRecursion (λ known. n ≤ known.0)) opening.3 cut.above))))
    (two_cuts early own made cut.rest (sym parts ∙ cut.whole)))
