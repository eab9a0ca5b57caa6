-- The account that is asked, among the others.
use Rattle.std.proofs.Common.{◌≡◌, ℕ, Bool, true, false, List, [], ◌∷◌, map, length, refl, sym, ap, ◌∙◌, subst, append-nil, true≢false, arith}
use Rattle.std.proofs.lemmas.List.{length-map}
use Rattle.std.proofs.lemmas.Slice.Eq.{bytes_eq-Decides}
use Rattle.std.specs.Prelude.{MatchBool, bytes_eq, if◌then◌else◌, ◌&&◌, ◌||◌, not}
use Rattle.pw_types.specs.Moment.{cut_moment}
use Rattle.account_machine.specs.Asked.{account_of}
use Rattle.account_machine.specs.declared.answer.Answer.{Answer}
use Rattle.account_machine.specs.declared.answer.Answer.TheVariants as answers
use Rattle.account_machine.specs.declared.entry.Entry.{Entry}
use Rattle.account_machine.specs.declared.request.Request.{Request}
use Rattle.client_output.specs.Turns.{Makes}
use Rattle.client_output.specs.Output.{Owned, accounts_in, is_among}
use Rattle.client_output.specs.Grown.{Calls, MakesTurns, grown_at, with_more}
use Rattle.request_turns.specs.Taken.{Gives}
use Rattle.request_turns.specs.Named.{are_apart, named, seats_seen}

-- where one of two tests holds or none
either-not : (b m : Bool) → (b || m) ≡ false → (b ≡ false) × (m ≡ false)
either-not true m is = absurd (true≢false is)
either-not false m is = (refl, is)

first-apart : (b m : Bool) → (not b && m) ≡ true → (b ≡ false) × (m ≡ true)
first-apart true m is = absurd (true≢false (sym is))
first-apart false m is = (refl, is)

-- an account that isn't asked has no entry more
add-none : (b : Bool) (own : Owned) (turns : List Entry) → b ≡ false → with_more own (if b then turns else []) ≡ own
add-none b own turns is =
    ap (λ (b : Bool). with_more own (if b then turns else [])) is
    ∙ ap (λ (entries : List Entry). record own { entries = entries }) (append-nil own.entries)

-- nor have accounts none of which is asked
grown-none : (account : List ℕ) (turns : List Entry) (names : List (List ℕ)) (entries : List (List Entry))
    → is_among account names ≡ false
    → grown_at account turns (named names entries) ≡ named names entries
grown-none account turns [] entries none = refl
grown-none account turns (name ∷ names) [] none = refl
grown-none account turns (name ∷ names) (own ∷ entries) none =
    let both = either-not (bytes_eq name account) (is_among account names) none in
    λ i. add-none (bytes_eq name account) (record { account = name; entries = own }) turns both.0 i
    ∷ grown-none account turns names entries both.1 i

-- equal names are among the same names
same-among : (name account : List ℕ) (names : List (List ℕ)) → bytes_eq name account ≡ true
    → is_among name names ≡ is_among account names
same-among name account names is =
    ap (λ (n : List ℕ). is_among n names) ((bytes_eq-Decides name account).0 is)

module _ {S : Type 0} (own : S → List Entry) (caller moment : ℕ) (request : Request) (told : Answer) where
  -- what is known of seats before and after
  abbrev MakesIn : List (List ℕ) → List S → List S → Type 0
  MakesIn names old new = MakesTurns (seats_seen caller names (map own old)) (seats_seen caller names (map own new))
      request moment told

  carried : (all names : List (List ℕ)) (old old_is new new_is : List S)
      → all ≡ names → old ≡ old_is → new ≡ new_is → MakesIn names old_is new_is → MakesIn all old new
  carried all names old old_is new new_is names_are olds_are news_are makes =
      subst (λ (names : List (List ℕ)). MakesIn names old new) (sym names_are)
      (subst (λ (olds : List S). MakesIn names olds new) (sym olds_are)
      (subst (λ (news : List S). MakesIn names old_is news) (sym news_are) makes))

  -- the first account is the one that is asked
  pub makes_here : (all names : List (List ℕ)) (name : List ℕ) (old rest new : List S) (seat after : S)
      → all ≡ name ∷ names
      → old ≡ seat ∷ rest
      → new ≡ after ∷ rest
      → bytes_eq name (account_of request) ≡ true
      → are_apart all ≡ true
      → Gives (Makes caller (cut_moment moment) request) (own seat) (own after) told
      → MakesIn all old new
  makes_here all names name old rest new seat after names_are olds_are news_are is apart gives =
      let account = account_of request in
      let others : is_among account names ≡ false =
      sym (same-among name account names is)
      ∙ (first-apart (is_among name names) (are_apart names)
      (subst (λ (names : List (List ℕ)). are_apart names ≡ true) names_are apart)).0 in
      let first : Owned = record { account = name; entries = own seat } in
      carried all (name ∷ names) old (seat ∷ rest) new (after ∷ rest) names_are olds_are news_are (record {
        answer = gives.answer;
        turns = gives.turns;
        told_is = gives.told_is;
        makes = gives.are;
        owned = ap (λ (entries : List Entry). record { account = name; entries = entries } ∷ named names (map own rest))
            gives.own
            ∙ ap (λ (b : Bool). with_more first (if b then gives.turns else []) ∷ named names (map own rest)) (sym is)
            ∙ ap (λ (others : List Owned).
            with_more first (if bytes_eq name account then gives.turns else []) ∷ others)
            (sym (grown-none account gives.turns names (map own rest) others));
      })

  -- it is a later one
  pub makes_later : (all names : List (List ℕ)) (name : List ℕ) (old rest new rest_new : List S) (seat : S)
      → all ≡ name ∷ names
      → old ≡ seat ∷ rest
      → new ≡ seat ∷ rest_new
      → bytes_eq name (account_of request) ≡ false
      → MakesIn names rest rest_new
      → MakesIn all old new
  makes_later all names name old rest new rest_new seat names_are olds_are news_are is makes =
      let account = account_of request in
      let first : Owned = record { account = name; entries = own seat } in
      carried all (name ∷ names) old (seat ∷ rest) new (seat ∷ rest_new) names_are olds_are news_are (record {
        answer = makes.answer;
        turns = makes.turns;
        told_is = makes.told_is;
        makes = makes.makes;
        owned = ap (λ (others : List Owned). first ∷ others) makes.owned
            ∙ ap (λ (one : Owned). one ∷ grown_at account makes.turns (named names (map own rest)))
            (sym (add-none (bytes_eq name account) first makes.turns is));
      })

-- the accounts of named entries are the names
accounts-named : (names : List (List ℕ)) (entries : List (List Entry)) → length entries ≡ length names
    → accounts_in (named names entries) ≡ names
accounts-named [] entries many = refl
accounts-named (name ∷ names) [] many = absurd (omega (arith, many))
accounts-named (name ∷ names) (own ∷ entries) many =
    ap (λ (rest : List (List ℕ)). name ∷ rest) (accounts-named names entries (omega (arith, many)))

-- ---- calls by seats

module _ {S : Type 0} (own : S → List Entry) (caller moment : ℕ) (request : Request) where
  -- what a call is to the seats, by whether the account is one of theirs
  abbrev CallsBy : Bool → Answer → List (List ℕ) → List S → List S → Type 0
  CallsBy b told names old new = MatchBool b (MakesIn own caller moment request told names old new)
      ((told ≡ answers.UnknownAccount) × (named names (map own new) ≡ named names (map own old)))

  calls_by : (told : Answer) (names : List (List ℕ)) (old new : List S) (b : Bool)
      → length old ≡ length names
      → is_among (account_of request) names ≡ b
      → CallsBy b told names old new
      → Calls (seats_seen caller names (map own old)) (seats_seen caller names (map own new)) request moment told
  calls_by told names old new b many among by = record {
    caller = refl;
    owned = subst (λ (b : Bool). CallsBy b told names old new)
        (sym (ap (is_among (account_of request))
        (accounts-named names (map own old) (length-map old own ∙ many)) ∙ among)) by;
  }

  -- the account is one of these
  pub calls_known : (told : Answer) (names : List (List ℕ)) (old new : List S)
      → length old ≡ length names
      → is_among (account_of request) names ≡ true
      → MakesIn own caller moment request told names old new
      → Calls (seats_seen caller names (map own old)) (seats_seen caller names (map own new)) request moment told
  calls_known told names old new many among makes = calls_by told names old new true many among makes

  -- it is none of these
  pub calls_unknown : (names : List (List ℕ)) (old new : List S)
      → length old ≡ length names
      → is_among (account_of request) names ≡ false
      → new ≡ old
      → Calls (seats_seen caller names (map own old)) (seats_seen caller names (map own new)) request moment
      answers.UnknownAccount
  calls_unknown names old new many among same =
      calls_by answers.UnknownAccount names old new false many among
      (refl, ap (λ (seats : List S). named names (map own seats)) same)
