-- Turns, one after another.
use Rattle.std.proofs.Common.{◌≡◌, inl, inr, ⊎_elim, ℕ, ◌<◌, ◌%◌, ◌^◌, arith, List, [], ◌∷◌, ◌++◌, length, refl, sym, ap, subst, ◌∙◌, append_assoc, append-nil}
use Rattle.std.specs.Prelude.{IsSomeAnd, Contains}
use Rattle.home_image.specs.Parts.{Meaning}
use Rattle.home_image.specs.Steps.{Fold}
use Rattle.std.specs.List.{AllByRecursion}
use Rattle.std.proofs.lemmas.List.{map-append}
use Rattle.home_image.specs.Chain.{place_of, steps_of}
use Rattle.home_image.specs.Book.{Made, entries, steps_in, HoldsOne, SameDurable, among, Turns, Tells, AreClean}
use Rattle.home_image.specs.Settled.{IsStateOf, Opens, BookStands, TurnStands, owned}
use Rattle.home_image.proofs.ListLemmas.{all-both, all-left, all-right}
use Rattle.home_image.proofs.ChainLemmas.{place-below, places-below}
use Rattle.home_image.proofs.StepLemmas.{steps-split}

module _ {C S D U E X : Type 0} (m : Meaning C S D U E X) where
  -- a durable part of the later user is one of the earlier user
  pub same_parts : (before after : U) (c : C)
      → SameDurable m before after → HoldsOne m after c → HoldsOne m before c
  same_parts before after c same h = ⊎_elim
      (λ d. inl (subst (m.holds c) same.durable d))
      (λ o. inr (subst (λ x. IsSomeAnd x (m.holds c)) same.other o))
      h

  -- what the steps lead to is among the contents seen
  pub stays_seen : (seen : List C) (old new : C) (steps : List S)
      → Contains seen old
      → Fold (among m seen).does old steps new
      → Contains seen new
  stays_seen seen old new [] has f = subst (Contains seen) (sym f) has
  stays_seen seen old new (s ∷ steps) has f = stays_seen seen f.0 new steps f.1.1 f.2

  -- what steps lead to among the contents seen, they lead to
  pub fold-seen : (seen : List C) (old new : C) (steps : List S)
      → Fold (among m seen).does old steps new
      → Fold m.does old steps new
  fold-seen seen old new [] f = f
  fold-seen seen old new (s ∷ steps) f = (f.0, f.1.0, fold-seen seen f.0 new steps f.2)

  -- the contents after the steps that opened an account: the state is that of the user over them, and the
  -- account's other steps lead on from there
  pub record After (seen : List C) (state : X) (user : U) (own : List (ℕ × S)) (new : C) : Type 0 where
    pub mid : C
    pub has : Contains seen mid
    pub state_of : IsStateOf m state mid user
    pub fold : Fold (among m seen).does mid (steps_of own) new

  -- steps that open an account, and then others
  pub opens-then : (seen : List C) (state : X) (user : U) (early own : List (ℕ × S)) (first new : C)
      → Opens m state (steps_of early) first user
      → Contains seen first
      → Fold (among m seen).does first (steps_of (early ++ own)) new
      → After seen state user own new
  opens-then seen state user early own first new opens has f =
      let split = steps-split (among m seen).does first new early own f in
      record {
        mid = split.0;
        has = stays_seen seen first split.0 (steps_of early) has split.1;
        state_of = opens.opened split.0 (fold-seen seen first split.0 (steps_of early) split.1);
        fold = split.2;
      }

  -- no steps open a state that is that of the user
  pub opens-at_once : (state : X) (contents : C) (user : U)
      → IsStateOf m state contents user → Opens m state [] contents user
  opens-at_once state contents user is = record {
    throughout = is.holds;
    opened = λ new same. subst (λ c. IsStateOf m state c user) (sym same) is;
  }

  -- and a state that no steps open is that of the user
  pub opened-at_once : (state : X) (contents : C) (user : U)
      → Opens m state [] contents user → IsStateOf m state contents user
  opened-at_once state contents user opens = opens.opened contents refl

  -- what is clean for a book is clean for its first turn
  pub clean_first : (seen : List C) (user : U) (e : E) (es : List E)
      → AreClean m seen user (e ∷ es) → m.clean seen user e
  clean_first seen user e es h = h [] e es user refl refl

  -- and for the rest of the book, from the user after the first turn
  pub clean_rest : (seen : List C) (user next : U) (e : E) (es : List E)
      → m.allows user e next → AreClean m seen user (e ∷ es) → AreClean m seen next es
  clean_rest seen user next e es allowed h =
      λ before turn rest at parts legal.
      h (e ∷ before) turn rest at (ap (λ (xs : List E). e ∷ xs) parts) (next, allowed, legal)

  -- one turn more at the end
  tells-turn : (seen : List C) (Old New : C → U → Type 0) (made : List (Made S E)) (turn : Made S E)
      (c : C) (user : U)
      → ((x : C) (last : U)
      → Old x last → Contains seen x → m.clean seen last turn.entry → Turns m seen New turn x last)
      → Tells m seen Old made c user
      → Tells m seen New (made ++ turn ∷ []) c user
  tells-turn seen Old New [] turn c user then tells = λ has clean. then c user tells has clean
  tells-turn seen Old New (first ∷ made) turn c user then tells = λ has clean.
      let told = tells has clean in
      record {
        throughout = told.throughout;
        leads = λ new f.
            let led = told.leads new f in
            (led.0, led.1, tells-turn seen Old New made turn new led.0 then led.2);
      }

  -- the entries with one turn more
  entries-turn : (made : List (Made S E)) (turn : Made S E)
      → entries (made ++ turn ∷ []) ≡ entries made ++ turn.entry ∷ []
  entries-turn made turn = map-append (λ (turn : Made S E). turn.entry) made (turn ∷ [])

  -- the device steps with one turn more
  steps-turn : (made : List (Made S E)) (turn : Made S E)
      → steps_in (made ++ turn ∷ []) ≡ steps_in made ++ turn.own
  steps-turn [] turn = append-nil turn.own
  steps-turn (first ∷ made) turn =
      ap (λ (xs : List (ℕ × S)). first.own ++ xs) (steps-turn made turn)
      ∙ sym (append_assoc first.own (steps_in made) turn.own)

  -- an empty book stands
  pub stands-new : (state : X) → BookStands m state state [] []
  stands-new state =
      record { made = []; book_is = refl; own_is = refl; places = tt; right = λ seen c user state. state }

  -- a book stands with one turn more
  pub stands-turn : (first before after : X) (own : List (ℕ × S)) (book : List E) (turn : Made S E)
      → BookStands m first before own book
      → TurnStands m before after turn
      → BookStands m first after (own ++ turn.own) (book ++ turn.entry ∷ [])
  stands-turn first before after own book turn stands stood = record {
    made = stands.made ++ turn ∷ [];
    book_is = entries-turn stands.made turn ∙ ap (λ (es : List E). es ++ turn.entry ∷ []) stands.book_is;
    own_is = steps-turn stands.made turn ∙ ap (λ (xs : List (ℕ × S)). xs ++ turn.own) stands.own_is;
    places = all-both (λ turn. m.place turn.entry ≡ place_of turn.own % 2 ^ 64) stands.made (turn ∷ [])
        stands.places (stood.place, tt);
    right = λ seen c user state.
        tells-turn seen (IsStateOf m before) (IsStateOf m after) stands.made turn c user
        (λ x last state has clean. stood.right seen x last has clean state)
        (stands.right seen c user state);
  }

  -- where all places are below a bound that a u64 holds, each is its turn's own
  pub places-exact : (n : ℕ) (made : List (Made S E))
      → n < 2 ^ 64
      → AllByRecursion (λ known. known.0 < n) (steps_in made)
      → AllByRecursion (λ turn. m.place turn.entry ≡ place_of turn.own % 2 ^ 64) made
      → AllByRecursion (λ turn. m.place turn.entry ≡ place_of turn.own) made
  places-exact n [] small below places = tt
  places-exact n (turn ∷ made) small below places =
      let few = place-below n 0 turn.own (omega arith)
      (all-left (λ known. known.0 < n) turn.own (steps_in made) below) in
      let at = places.0 in (
        omega (arith, few, at, small),
        places-exact n made small (all-right (λ known. known.0 < n) turn.own (steps_in made) below) places.1,
      )

  -- a book's steps have places below the chain's length
  pub own-below : (account : ℕ) (chain : List S) (early own : List (ℕ × S)) (before after : X) (book : List E)
      (stands : BookStands m before after own book)
      → owned m account chain ≡ early ++ own
      → AllByRecursion (λ known. known.0 < length chain) (steps_in stands.made)
  own-below account chain early own before after book stands parts =
      subst (AllByRecursion (λ known. known.0 < length chain)) (sym stands.own_is)
      (all-right (λ known. known.0 < length chain) early own
      (subst (AllByRecursion (λ known. known.0 < length chain)) parts (places-below m.account account chain)))

  -- so its places are its turns' own
  pub own-exact : (account : ℕ) (chain : List S) (early own : List (ℕ × S)) (before after : X) (book : List E)
      (stands : BookStands m before after own book)
      → owned m account chain ≡ early ++ own
      → length chain < 2 ^ 64
      → AllByRecursion (λ turn. m.place turn.entry ≡ place_of turn.own) stands.made
  own-exact account chain early own before after book stands parts small =
      places-exact (length chain) stands.made small
      (own-below account chain early own before after book stands parts) stands.places

  -- more turns at the end
  tells-more : (seen : List C) (Old New : C → U → Type 0) (made more : List (Made S E)) (c : C) (user : U)
      → ((x : C) (last : U) → Old x last → Tells m seen New more x last)
      → Tells m seen Old made c user
      → Tells m seen New (made ++ more) c user
  tells-more seen Old New [] more c user then tells = then c user tells
  tells-more seen Old New (first ∷ made) more c user then tells = λ has clean.
      let told = tells has clean in
      record {
        throughout = told.throughout;
        leads = λ new f.
            let led = told.leads new f in
            (led.0, led.1, tells-more seen Old New made more new led.0 then led.2);
      }

  -- the device steps of turns and then more turns
  steps-more : (made more : List (Made S E)) → steps_in (made ++ more) ≡ steps_in made ++ steps_in more
  steps-more [] more = refl
  steps-more (first ∷ made) more =
      ap (λ (xs : List (ℕ × S)). first.own ++ xs) (steps-more made more)
      ∙ sym (append_assoc first.own (steps_in made) (steps_in more))

  -- two books that follow one another stand as one
  pub stands-more : (first mid last : X) (own more_own : List (ℕ × S)) (book more_book : List E)
      → BookStands m first mid own book
      → BookStands m mid last more_own more_book
      → BookStands m first last (own ++ more_own) (book ++ more_book)
  stands-more first mid last own more_own book more_book one two = record {
    made = one.made ++ two.made;
    book_is = map-append (λ (turn : Made S E). turn.entry) one.made two.made
        ∙ (λ i. one.book_is i ++ two.book_is i);
    own_is = steps-more one.made two.made ∙ (λ i. one.own_is i ++ two.own_is i);
    places = all-both (λ turn. m.place turn.entry ≡ place_of turn.own % 2 ^ 64) one.made two.made
        one.places two.places;
    right = λ seen c user state.
        tells-more seen (IsStateOf m mid) (IsStateOf m last) one.made two.made c user
        (λ x user state. two.right seen x user state) (one.right seen c user state);
  }
