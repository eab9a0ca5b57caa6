-- Words ask exactly what the grammar spells by them.
use Rattle.std.proofs.Common.{◌≡◌, ℕ, Bool, true, false, ◌&&◌, List, [], ◌∷◌, Option, None, Some, refl, ap, sym, ◌∙◌, subst, rules}
use Rattle.std.specs.Prelude.{if◌then◌else◌, codes}
use Rattle.std.specs.Option.{option_and_then}
use Rattle.std.specs.List.{list_all}
use Rattle.std.specs.Str.{bytes_eq}
use Rattle.std.proofs.lemmas.Bool.{and_parts}
use Rattle.std.proofs.lemmas.Slice.Eq.{bytes_eq-Decides}
use Rattle.home_names.specs.Names.{is_account_name}
use Rattle.serve_words.specs.Words.{Word, Asked, Options, asked, asked_behind, asked_with, asked_by, options_at, clients_asked, cost_asked, is_dir, each_once}
use Rattle.serve_words.specs.Grammar.{Asks, InFront}
use Rattle.serve_words.proofs.OptionWords.{FindsOptions, options_found, options_spelled}

-- the words behind the options ask this
record AsksBehind (clients cost : ℕ) (rest : List Word) (what : Asked) : Type 0 where
  names : List Word
  rest_is : rest ≡ what.dir ∷ names
  clients_is : clients ≡ what.clients
  cost_is : cost ≡ what.cost
  dir : is_dir what.dir ≡ true
  named : list_all is_account_name names ≡ true
  accounts : what.accounts ≡ each_once names

asked_behind_found : (clients cost : ℕ) (rest : List Word) (what : Asked) → asked_behind clients cost rest ≡ Some what
    → AsksBehind clients cost rest what
asked_behind_found clients cost [] what found = absurd (search rules)
asked_behind_found clients cost (dir ∷ names) what found =
    by_test (is_dir dir && list_all is_account_name names) refl found
  where
    by_test : (b : Bool) → (is_dir dir && list_all is_account_name names) ≡ b
        → (if b then Some (asked clients cost dir names) else None) ≡ Some what
        → AsksBehind clients cost (dir ∷ names) what
    by_test true are found =
        let parts = and_parts (is_dir dir) (list_all is_account_name names) are in
        let same : asked clients cost dir names ≡ what = search rules in
        subst (λ (w : Asked). AsksBehind clients cost (dir ∷ names) w) same record {
          names = names;
          rest_is = refl;
          clients_is = refl;
          cost_is = refl;
          dir = parts.0;
          named = parts.1;
          accounts = refl;
        }
    by_test false are found = absurd (search rules)

asked_with_found : (command : Word) (words : List Word) (options : Options) (what : Asked) → command ≡ codes "serve"
    → FindsOptions words options → asked_with options ≡ Some what → Asks (command ∷ words) what
asked_with_found command words options what is found asks =
    by_clients (clients_asked options.clients) refl asks
  where
    by_cost : (clients : ℕ) (k : Option ℕ) → clients_asked options.clients ≡ Some clients → cost_asked options.cost ≡ k
        → option_and_then (λ cost. asked_behind clients cost options.rest) k ≡ Some what → Asks (command ∷ words) what
    by_cost clients None number at asks = absurd (search rules)
    by_cost clients (Some cost) number at asks =
        let rest = asked_behind_found clients cost options.rest what asks in
        record {
          clients = options.clients;
          cost = options.cost;
          clients_words = found.clients_words;
          cost_words = found.cost_words;
          names = rest.names;
          behind = words;
          command = ap (λ (c : Word). c ∷ words) is;
          options = subst (λ (tail : List Word). InFront found.clients_words found.cost_words tail words)
              rest.rest_is found.words_are;
          clients_spelled = found.clients_spelled;
          cost_spelled = found.cost_spelled;
          clients_number = number ∙ ap Some rest.clients_is;
          cost_number = at ∙ ap Some rest.cost_is;
          dir = rest.dir;
          named = rest.named;
          accounts = rest.accounts;
        }

    by_clients : (n : Option ℕ) → clients_asked options.clients ≡ n
        → option_and_then
        (λ clients. option_and_then (λ cost. asked_behind clients cost options.rest) (cost_asked options.cost)) n
        ≡ Some what
        → Asks (command ∷ words) what
    by_clients None at asks = absurd (search rules)
    by_clients (Some clients) at asks = by_cost clients (cost_asked options.cost) at refl asks

-- what words ask is spelled by them
pub asked_found : (words : List Word) (what : Asked) → asked_by words ≡ Some what → Asks words what
asked_found [] what found = absurd (search rules)
asked_found (command ∷ words) what found = by_command (bytes_eq command (codes "serve")) refl found
  where
    by_command : (b : Bool) → bytes_eq command (codes "serve") ≡ b
        → (if b then asked_with (options_at words) else None) ≡ Some what → Asks (command ∷ words) what
    by_command true is found =
        let serves : command ≡ codes "serve" = (bytes_eq-Decides command (codes "serve")).0 is in
        asked_with_found command words (options_at words) what serves (options_found words) found
    by_command false is found = absurd (search rules)

-- what is spelled by words they ask
pub asked_spelled : (words : List Word) (what : Asked) → Asks words what → asked_by words ≡ Some what
asked_spelled words what a =
    let read = options_spelled a.clients a.cost a.clients_words a.cost_words what.dir a.names a.behind
    a.clients_spelled a.cost_spelled a.dir a.options in
    let with_command : asked_by (codes "serve" ∷ a.behind) ≡ asked_with (options_at a.behind) = refl in
    let with_options : asked_with (record { clients = a.clients; cost = a.cost; rest = what.dir ∷ a.names })
    ≡ Some (asked what.clients what.cost what.dir a.names)
    = rw (a.clients_number, a.cost_number, a.dir, a.named) refl in
    ap asked_by a.command ∙ (with_command ∙ (ap asked_with read ∙ (with_options
    ∙ ap (λ (accounts : List Word). Some (record what { accounts = accounts })) (sym a.accounts))))
