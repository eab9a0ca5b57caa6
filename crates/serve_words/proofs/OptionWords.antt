-- Options in front of words: what is read is spelled so, and what is spelled so is read.
use Rattle.std.proofs.Common.{◌≡◌, inl, inr, Bool, true, false, not, ◌==◌, List, [], ◌∷◌, ◌++◌, length, take, drop, Option, None, Some, refl, ap, sym, ◌∙◌, subst, append-nil, length-append, rules, arith}
use Rattle.std.specs.Prelude.{if◌then◌else◌, codes}
use Rattle.std.specs.Option.{option_and_then}
use Rattle.std.specs.Str.{bytes_eq}
use Rattle.std.proofs.lemmas.List.{take-append-drop, take_at, drop_at}
use Rattle.std.proofs.lemmas.Slice.Eq.{bytes_eq-Decides}
use Rattle.serve_words.specs.Words.{Word, behind, value_in, in_next, in_same, option_at, before_or_behind, Options, options_at, is_dir}
use Rattle.serve_words.specs.Grammar.{Spells, SpellsOption, InFront}

abbrev clients_name : Word
clients_name = codes "--clients"

abbrev cost_name : Word
cost_name = codes "--cost"

-- what follows a text stands behind it
behind_found : (front word rest : Word) → behind front word ≡ Some rest → word ≡ front ++ rest
behind_found front word rest found = by_test (bytes_eq (take (length front) word) front) refl found
  where
    by_test : (b : Bool) → bytes_eq (take (length front) word) front ≡ b
        → (if b then Some (drop (length front) word) else None) ≡ Some rest → word ≡ front ++ rest
    by_test true is found =
        let begins : take (length front) word ≡ front = (bytes_eq-Decides (take (length front) word) front).0 is in
        let left : drop (length front) word ≡ rest = search rules in
        sym (take-append-drop (length front) word)
        ∙ (ap (λ (a : Word). a ++ drop (length front) word) begins ∙ ap (λ (a : Word). front ++ a) left)
    by_test false is found = absurd (search rules)

behind_spelled : (front rest : Word) → behind front (front ++ rest) ≡ Some rest
behind_spelled front rest =
    let begins : take (length front) (front ++ rest) ≡ front = take_at front rest (length front) refl in
    let left : drop (length front) (front ++ rest) ≡ rest = drop_at front rest (length front) refl in
    rw (begins, (bytes_eq-Decides front front).1 refl, left) refl

-- the value in one word with the option's name
value_found : (name word value : Word) → value_in name word ≡ Some value → word ≡ name ++ (codes "=" ++ value)
value_found name word value found = by_rest (behind name word) refl found
  where
    by_rest : (r : Option Word) → behind name word ≡ r → option_and_then (behind (codes "=")) r ≡ Some value
        → word ≡ name ++ (codes "=" ++ value)
    by_rest None is found = absurd (search rules)
    by_rest (Some rest) is found =
        behind_found name word rest is ∙ ap (λ (r : Word). name ++ r) (behind_found (codes "=") rest value found)

value_spelled : (name value : Word) → value_in name (name ++ (codes "=" ++ value)) ≡ Some value
value_spelled name value = rw (behind_spelled name (codes "=" ++ value)) (behind_spelled (codes "=") value)

-- an option was found in front of the rest, or there is none
pub record FindsOption (name : Word) (words : List Word) (found : Option Word × List Word) : Type 0 where
  pub front : List Word
  pub spelled : SpellsOption name found.0 front
  pub words_are : words ≡ front ++ found.1

next_found : (name word : Word) (rest : List Word) → word ≡ name → FindsOption name (word ∷ rest) (in_next word rest)
next_found name word [] is = record { front = []; spelled = refl; words_are = refl }
next_found name word (value ∷ rest) is = record {
  front = word ∷ value ∷ [];
  spelled = inl (ap (λ (w : Word). w ∷ value ∷ []) is);
  words_are = refl;
}

same_found : (name word : Word) (rest : List Word) (value : Option Word) → value_in name word ≡ value
    → FindsOption name (word ∷ rest) (in_same value word rest)
same_found name word rest None is = record { front = []; spelled = refl; words_are = refl }
same_found name word rest (Some value) is = record {
  front = word ∷ [];
  spelled = inr (ap (λ (w : Word). w ∷ []) (value_found name word value is));
  words_are = refl;
}

option_found : (name : Word) (words : List Word) → FindsOption name words (option_at name words)
option_found name [] = record { front = []; spelled = refl; words_are = refl }
option_found name (word ∷ rest) = by_name (bytes_eq word name) refl
  where
    by_name : (b : Bool) → bytes_eq word name ≡ b
        → FindsOption name (word ∷ rest) (if b then in_next word rest else in_same (value_in name word) word rest)
    by_name true is = next_found name word rest ((bytes_eq-Decides word name).0 is)
    by_name false is = same_found name word rest (value_in name word) refl

-- both options were found, in either order
pub record FindsOptions (words : List Word) (options : Options) : Type 0 where
  pub clients_words : List Word
  pub cost_words : List Word
  pub clients_spelled : SpellsOption (codes "--clients") options.clients clients_words
  pub cost_spelled : SpellsOption (codes "--cost") options.cost cost_words
  pub words_are : InFront clients_words cost_words options.rest words

options_behind : (words : List Word) (clients : Option Word) (rest : List Word)
    → FindsOption clients_name words (clients, rest)
    → FindsOptions words (record {
      clients = (before_or_behind (codes "--clients") clients (option_at (codes "--cost") rest).1).0;
      cost = (option_at (codes "--cost") rest).0;
      rest = (before_or_behind (codes "--clients") clients (option_at (codes "--cost") rest).1).1;
    })
options_behind words None rest first =
    let second = option_found cost_name rest in
    let third = option_found clients_name (option_at cost_name rest).1 in
    record {
      clients_words = third.front;
      cost_words = second.front;
      clients_spelled = third.spelled;
      cost_spelled = second.spelled;
      words_are = inr (first.words_are
          ∙ (ap (λ (front : List Word). front ++ rest) first.spelled
          ∙ (second.words_are ∙ ap (λ (more : List Word). second.front ++ more) third.words_are)));
    }
options_behind words (Some value) rest first =
    let second = option_found cost_name rest in
    record {
      clients_words = first.front;
      cost_words = second.front;
      clients_spelled = first.spelled;
      cost_spelled = second.spelled;
      words_are = inl (first.words_are ∙ ap (λ (more : List Word). first.front ++ more) second.words_are);
    }

pub options_found : (words : List Word) → FindsOptions words (options_at words)
options_found words =
    let first = option_at clients_name words in
    options_behind words first.0 first.1 (option_found clients_name words)

-- a word is longer than what it begins with
longer_differs : (name value : Word) → bytes_eq (name ++ (codes "=" ++ value)) name ≡ false
longer_differs name value = by_test (bytes_eq (name ++ (codes "=" ++ value)) name) refl
  where
    by_test : (b : Bool) → bytes_eq (name ++ (codes "=" ++ value)) name ≡ b → b ≡ false
    by_test false is = refl
    by_test true is =
        let same : name ++ (codes "=" ++ value) ≡ name = (bytes_eq-Decides (name ++ (codes "=" ++ value)) name).0 is in
        let long = length-append name (codes "=" ++ value) in
        let len = ap (λ (w : Word). length w) same in
        absurd (omega (arith, long, len))

-- an option that stands first is read
spelled_first : (name value : Word) (front rest : List Word) → Spells name value front
    → option_at name (front ++ rest) ≡ (Some value, rest)
spelled_first name value front rest (inl is) =
    subst (λ (f : List Word). option_at name (f ++ rest) ≡ (Some value, rest)) (sym is)
    (rw ((bytes_eq-Decides name name).1 refl) refl)
spelled_first name value front rest (inr is) =
    subst (λ (f : List Word). option_at name (f ++ rest) ≡ (Some value, rest)) (sym is)
    (rw (longer_differs name value, value_spelled name value) refl)

-- a word that doesn't begin with the name stays
absent_first : (name word : Word) (rest : List Word) → behind name word ≡ None
    → option_at name (word ∷ rest) ≡ (None, word ∷ rest)
absent_first name word rest none = rw (differs, none) refl
  where
    by_test : (b : Bool) → bytes_eq word name ≡ b → b ≡ false
    by_test false is = refl
    by_test true is =
        let same : word ≡ name = (bytes_eq-Decides word name).0 is in
        let whole : behind name (name ++ []) ≡ Some [] = behind_spelled name [] in
        let more : behind name word ≡ Some [] = ap (behind name) (same ∙ sym (append-nil name)) ∙ whole in
        absurd (search rules)

    differs : bytes_eq word name ≡ false
    differs = by_test (bytes_eq word name) refl

-- the words of the cost are no clients
cost_is_no_clients : (value : Word) (front rest : List Word) → Spells cost_name value front
    → option_at clients_name (front ++ rest) ≡ (None, front ++ rest)
cost_is_no_clients value front rest (inl is) =
    subst (λ (f : List Word). option_at clients_name (f ++ rest) ≡ (None, f ++ rest)) (sym is)
    (absent_first clients_name cost_name (value ∷ rest) refl)
cost_is_no_clients value front rest (inr is) =
    subst (λ (f : List Word). option_at clients_name (f ++ rest) ≡ (None, f ++ rest)) (sym is)
    (absent_first clients_name (cost_name ++ (codes "=" ++ value)) rest refl)

-- a directory is no option
dir_is_no_option : (dir : Word) → is_dir dir ≡ true → (behind clients_name dir ≡ None) × (behind cost_name dir ≡ None)
dir_is_no_option [] is = absurd (search rules)
dir_is_no_option (byte ∷ bytes) is = by_test (byte == 45) refl is
  where
    by_test : (b : Bool) → (byte == 45) ≡ b → not b ≡ true
        → (behind clients_name (byte ∷ bytes) ≡ None) × (behind cost_name (byte ∷ bytes) ≡ None)
    by_test true same is = absurd (search rules)
    by_test false other is = (rw other refl, rw other refl)

-- no option stands in front of these
record HasNoOption (words : List Word) : Type 0 where
  clients : option_at clients_name words ≡ (None, words)
  cost : option_at cost_name words ≡ (None, words)

options_read : (words : List Word) (first second third : Option Word × List Word)
    → option_at clients_name words ≡ first → option_at cost_name first.1 ≡ second
    → before_or_behind clients_name first.0 second.1 ≡ third
    → options_at words ≡ record { clients = third.0; cost = second.0; rest = third.1 }
options_read words first second third one two three = rw (one, two, three) refl

module _ (tail : List Word) (none : HasNoOption tail) where
  clients_read : (clients : Option Word) (front : List Word) → SpellsOption clients_name clients front
      → option_at clients_name (front ++ tail) ≡ (clients, tail)
  clients_read None front is =
      subst (λ (f : List Word). option_at clients_name (f ++ tail) ≡ (None, tail)) (sym is) none.clients
  clients_read (Some value) front is = spelled_first clients_name value front tail is

  cost_read : (cost : Option Word) (front : List Word) → SpellsOption cost_name cost front
      → option_at cost_name (front ++ tail) ≡ (cost, tail)
  cost_read None front is =
      subst (λ (f : List Word). option_at cost_name (f ++ tail) ≡ (None, tail)) (sym is) none.cost
  cost_read (Some value) front is = spelled_first cost_name value front tail is

  cost_passed : (cost : Option Word) (front : List Word) → SpellsOption cost_name cost front
      → option_at clients_name (front ++ tail) ≡ (None, front ++ tail)
  cost_passed None front is =
      subst (λ (f : List Word). option_at clients_name (f ++ tail) ≡ (None, f ++ tail)) (sym is) none.clients
  cost_passed (Some value) front is = cost_is_no_clients value front tail is

  clients_then_cost : (clients cost : Option Word) (one other : List Word)
      → SpellsOption clients_name clients one → SpellsOption cost_name cost other
      → options_at (one ++ (other ++ tail)) ≡ record { clients = clients; cost = cost; rest = tail }
  clients_then_cost None cost one other is more =
      options_read (one ++ (other ++ tail)) (None, other ++ tail) (cost, tail) (None, tail)
      (subst (λ (f : List Word). option_at clients_name (f ++ (other ++ tail)) ≡ (None, other ++ tail)) (sym is)
      (cost_passed cost other more))
      (cost_read cost other more) none.clients
  clients_then_cost (Some value) cost one other is more =
      options_read (one ++ (other ++ tail)) (Some value, other ++ tail) (cost, tail) (Some value, tail)
      (spelled_first clients_name value one (other ++ tail) is) (cost_read cost other more) refl

  cost_then_clients : (clients cost : Option Word) (one other : List Word)
      → SpellsOption clients_name clients one → SpellsOption cost_name cost other
      → options_at (other ++ (one ++ tail)) ≡ record { clients = clients; cost = cost; rest = tail }
  cost_then_clients clients None one other is more =
      subst
      (λ (f : List Word). options_at (f ++ (one ++ tail)) ≡ record { clients = clients; cost = None; rest = tail })
      (sym more)
      (clients_then_cost clients None one [] is refl)
  cost_then_clients clients (Some value) one other is more =
      options_read (other ++ (one ++ tail)) (None, other ++ (one ++ tail)) (Some value, one ++ tail) (clients, tail)
      (cost_is_no_clients value other (one ++ tail) more) (spelled_first cost_name value other (one ++ tail) more)
      (clients_read clients one is)

dir_first : (dir : Word) (names : List Word) → is_dir dir ≡ true → HasNoOption (dir ∷ names)
dir_first dir names plain = record {
  clients = absent_first clients_name dir names (dir_is_no_option dir plain).0;
  cost = absent_first cost_name dir names (dir_is_no_option dir plain).1;
}

-- options that are spelled in front of a directory are read
pub options_spelled : (clients cost : Option Word) (one other : List Word) (dir : Word) (names behind : List Word)
    → SpellsOption (codes "--clients") clients one → SpellsOption (codes "--cost") cost other → is_dir dir ≡ true
    → InFront one other (dir ∷ names) behind
    → options_at behind ≡ record { clients = clients; cost = cost; rest = dir ∷ names }
options_spelled clients cost one other dir names behind is more plain (inl are) =
    ap options_at are ∙ clients_then_cost (dir ∷ names) (dir_first dir names plain) clients cost one other is more
options_spelled clients cost one other dir names behind is more plain (inr are) =
    ap options_at are ∙ cost_then_clients (dir ∷ names) (dir_first dir names plain) clients cost one other is more
