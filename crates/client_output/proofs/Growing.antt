-- What a seat knows after lines.
use Rattle.std.proofs.Common.{◌≡◌, ◌≢◌, ◌⊎◌, inl, inr, ℕ, Bool, true, false, List, [], ◌∷◌, ◌++◌, map, Result, Ok, Err, refl, sym, ap, ◌∙◌, subst, append_assoc, append-nil, true≢false}
use Rattle.std.proofs.lemmas.List.{map-append}
use Rattle.std.proofs.lemmas.List.Concat.{flat_map-append}
use Rattle.std.specs.Prelude.{MatchResult, MatchBool, bytes_eq, if◌then◌else◌}
use Rattle.std.specs.List.{AllByRecursion}
use Rattle.request_loop.specs.Exchange.{Exchange}
use Rattle.account_machine.specs.Asked.{account_of}
use Rattle.account_machine.specs.declared.answer.Answer.{Answer}
use Rattle.account_machine.specs.declared.answer.Answer.TheVariants as answers
use Rattle.account_machine.specs.declared.entry.Entry.{Entry}
use Rattle.account_machine.specs.declared.request.Request.{Request}
use Rattle.client_lang.specs.declared.line.LineFault.{LineFault}
use Rattle.client_lang.specs.declared.line.LineFault.TheVariants as faults
use Rattle.client_lang.specs.Replies.{answer_text, fault_text}
use Rattle.client_output.specs.Output.{LineTurns, LineGives, RequestGives, Refuses, Tells, IsToldOf, Owned, IsOutput, accounts_in, asked_by, asks, is_among, turns_of, turns_for}
use Rattle.client_output.specs.Grown.{SeatSeen, Calls, Grew, MakesTurns, grown_by, with_more}
use Rattle.client_output.specs.Books.{BookSeen, own_in}

-- what holds of each element of two lists holds of each of both together
all-both : {A : Type 0} (P : A → Type 0) (xs ys : List A)
    → AllByRecursion P xs → AllByRecursion P ys → AllByRecursion P (xs ++ ys)
all-both P [] ys front back = back
all-both P (x ∷ xs) ys front back = (front.0, all-both P xs ys front.1 back)

-- ---- own entries that grow

-- equal entries for each account make equal own entries
with-same : (f g : List ℕ → List Entry) → ((account : List ℕ) → f account ≡ g account) → (owned : List Owned)
    → map (λ own. with_more own (f own.account)) owned ≡ map (λ own. with_more own (g own.account)) owned
with-same f g same [] = refl
with-same f g same (own ∷ owned) =
    ap (λ turns. with_more own turns ∷ map (λ own. with_more own (f own.account)) owned) (same own.account)
    ∙ ap (λ rest. with_more own (g own.account) ∷ rest) (with-same f g same owned)

-- no entries more leave the own entries
with-none : (owned : List Owned) → map (λ own. with_more own []) owned ≡ owned
with-none [] = refl
with-none (own ∷ owned) =
    ap (λ (entries : List Entry). record own { entries = entries } ∷ map (λ own. with_more own []) owned)
    (append-nil own.entries)
    ∙ ap (λ rest. own ∷ rest) (with-none owned)

-- two parts more are the first, and then the second
with-two : (f g : List ℕ → List Entry) (owned : List Owned)
    → map (λ own. with_more own (f own.account ++ g own.account)) owned
    ≡ map (λ own. with_more own (g own.account)) (map (λ own. with_more own (f own.account)) owned)
with-two f g [] = refl
with-two f g (own ∷ owned) =
    ap (λ (entries : List Entry). record own { entries = entries }
    ∷ map (λ own. with_more own (f own.account ++ g own.account)) owned)
    (sym (append_assoc own.entries (f own.account) (g own.account)))
    ∙ ap (λ rest. with_more (with_more own (f own.account)) (g own.account) ∷ rest) (with-two f g owned)

-- the accounts stay
accounts-with : (f : List ℕ → List Entry) (owned : List Owned)
    → accounts_in (map (λ own. with_more own (f own.account)) owned) ≡ accounts_in owned
accounts-with f [] = refl
accounts-with f (own ∷ owned) = ap (λ rest. own.account ∷ rest) (accounts-with f owned)

-- lines, and then more
grown-then : (pins : Bool) (lines more : List LineTurns) (owned : List Owned)
    → grown_by pins (lines ++ more) owned ≡ grown_by pins more (grown_by pins lines owned)
grown-then pins lines more owned =
    with-same (λ account. turns_for pins account (lines ++ more))
    (λ account. turns_for pins account lines ++ turns_for pins account more)
    (λ account. flat_map-append (turns_of pins account) lines more) owned
    ∙ with-two (λ account. turns_for pins account lines) (λ account. turns_for pins account more) owned

-- ---- lines that were answered

-- a seat that has answered no line
pub grew_none : (pins : Bool) (seat : SeatSeen) → Grew pins seat seat []
grew_none pins seat = record {
  lines = [];
  exchanged = refl;
  each = tt;
  caller = refl;
  used = sym (with-none seat.owned);
}

-- lines, and then more
pub grew_then : (pins : Bool) (start mid now : SeatSeen) (lines more : List Exchange)
    → Grew pins start mid lines → Grew pins mid now more → Grew pins start now (lines ++ more)
grew_then pins start mid now lines more first second =
    let accounts : accounts_in mid.owned ≡ accounts_in start.owned =
    ap accounts_in first.used ∙ accounts-with (λ account. turns_for pins account first.lines) start.owned in
    record {
      lines = first.lines ++ second.lines;
      exchanged = map-append (λ (line : LineTurns). line.exchange) first.lines second.lines
          ∙ ap (λ (xs : List Exchange). xs ++ map (λ (line : LineTurns). line.exchange) second.lines) first.exchanged
          ∙ ap (λ (xs : List Exchange). lines ++ xs) second.exchanged;
      each = all-both (LineGives pins (accounts_in start.owned) start.caller) first.lines second.lines first.each
          (subst (λ (names : List (List ℕ)). AllByRecursion (LineGives pins names start.caller) second.lines) accounts
          (subst (λ (caller : ℕ). AllByRecursion (LineGives pins (accounts_in mid.owned) caller) second.lines)
          first.caller second.each));
      caller = second.caller ∙ first.caller;
      used = second.used ∙ ap (grown_by pins second.lines) first.used
          ∙ sym (grown-then pins first.lines second.lines start.owned);
    }

-- one line
grew-one : (pins : Bool) (old new : SeatSeen) (line : LineTurns)
    → LineGives pins (accounts_in old.owned) old.caller line
    → new.caller ≡ old.caller
    → new.owned ≡ grown_by pins (line ∷ []) old.owned
    → Grew pins old new (line.exchange ∷ [])
grew-one pins old new line gives caller used = record {
  lines = line ∷ [];
  exchanged = refl;
  each = (gives, tt);
  caller = caller;
  used = used;
}

choose-none : (b : Bool) → ◌≡◌ {A = List Entry} ((if b then [] else []) ++ []) []
choose-none true = refl
choose-none false = refl

-- a line without turns leaves the own entries
no-turns : (pins : Bool) (exchange : Exchange) (owned : List Owned)
    → owned ≡ grown_by pins (record { exchange = exchange; turns = [] } ∷ []) owned
no-turns pins exchange owned =
    sym (with-none owned)
    ∙ sym (with-same (λ account. turns_for pins account (record { exchange = exchange; turns = [] } ∷ []))
    (λ account. []) (λ account. choose-none (asks account (asked_by pins exchange.line))) owned)

module _ (accounts : List (List ℕ)) (caller : ℕ) (line : LineTurns) where
  -- what a line gives, by what it asks
  abbrev GivesBy : Result Request LineFault → Type 0
  GivesBy asked = MatchResult asked
      (λ request. MatchBool (is_among (account_of request) accounts)
      (RequestGives caller request line)
      (Refuses (answer_text answers.UnknownAccount) line))
      (λ fault. Refuses (fault_text fault) line)

-- a line without a request
pub grew_refused : (pins : Bool) (seat : SeatSeen) (exchange : Exchange) (fault : LineFault)
    → asked_by pins exchange.line ≡ Err fault
    → (exchange.reply ≡ fault_text fault) ⊎ (exchange.reply ≡ answer_text answers.NoMemory)
    → Grew pins seat seat (exchange ∷ [])
grew_refused pins seat exchange fault asked reply =
    let line : LineTurns = record { exchange = exchange; turns = [] } in
    grew-one pins seat seat line
    (subst (GivesBy (accounts_in seat.owned) seat.caller line) (sym asked) (reply, refl))
    refl (no-turns pins exchange seat.owned)

-- what a line gives without turns where there was no memory, whatever it asks
starved : (accounts : List (List ℕ)) (caller : ℕ) (line : LineTurns)
    → line.exchange.reply ≡ answer_text answers.NoMemory → line.turns ≡ []
    → (asked : Result Request LineFault) → GivesBy accounts caller line asked
starved accounts caller line reply none (Ok request) = by_account (is_among (account_of request) accounts)
  where
    by_account : (b : Bool)
        → MatchBool b (RequestGives caller request line) (Refuses (answer_text answers.UnknownAccount) line)
    by_account true = (answers.NoMemory, inl reply, inr (refl, inl none))
    by_account false = (inr reply, none)
starved accounts caller line reply none (Err fault) = (inr reply, none)

-- a line for whose request there was no memory
pub grew_starved : (pins : Bool) (seat : SeatSeen) (exchange : Exchange)
    → exchange.reply ≡ answer_text answers.NoMemory
    → Grew pins seat seat (exchange ∷ [])
grew_starved pins seat exchange reply =
    let line : LineTurns = record { exchange = exchange; turns = [] } in
    grew-one pins seat seat line
    (starved (accounts_in seat.owned) seat.caller line reply refl (asked_by pins exchange.line))
    refl (no-turns pins exchange seat.owned)

-- whether there was no memory for a request
abbrev is_starved : Result Request LineFault → Bool
is_starved (Ok request) = false
is_starved (Err faults.NoMemory) = true
is_starved (Err fault) = false

-- a line without a request, by what reading it said: unless there was no memory, that is the line's fault
pub grew_fault : (pins : Bool) (seat : SeatSeen) (exchange : Exchange) (fault : LineFault)
    → (◌≢◌ {A = Result Request LineFault} (Err fault) (Err faults.NoMemory) → Err fault ≡ asked_by pins exchange.line)
    → exchange.reply ≡ fault_text fault
    → Grew pins seat seat (exchange ∷ [])
grew_fault pins seat exchange faults.NoMemory asked reply = grew_starved pins seat exchange reply
grew_fault pins seat exchange fault asked reply =
    grew_refused pins seat exchange fault (sym (asked (λ same. true≢false (sym (ap is_starved same))))) (inl reply)

-- a reply that tells what is told of an answer tells the answer
tells-of : (answer told : Answer) (reply : List ℕ) → IsToldOf answer told → Tells told reply → Tells answer reply
tells-of answer told reply (inl same) tells = subst (λ (a : Answer). Tells a reply) same tells
tells-of answer told reply (inr list) (inl text) = inr (list.0, text ∙ ap answer_text list.1)
tells-of answer told reply (inr list) (inr none) = inr (list.0, none.1)

-- a line whose request was called
pub grew_call : (pins : Bool) (old new : SeatSeen) (exchange : Exchange) (request : Request) (told : Answer)
    → asked_by pins exchange.line ≡ Ok request
    → Tells told exchange.reply
    → Calls old new request exchange.moment told
    → Grew pins old new (exchange ∷ [])
grew_call pins old new exchange request told asked reply calls =
    by_account (is_among (account_of request) (accounts_in old.owned)) refl calls.owned
  where
    -- what the line gives, once it is known whether the account is served
    gives : (line : LineTurns) → line.exchange ≡ exchange → (b : Bool)
        → is_among (account_of request) (accounts_in old.owned) ≡ b
        → MatchBool b (RequestGives old.caller request line) (Refuses (answer_text answers.UnknownAccount) line)
        → LineGives pins (accounts_in old.owned) old.caller line
    gives line same b among given =
        subst (GivesBy (accounts_in old.owned) old.caller line)
        (sym (ap (λ (x : Exchange). asked_by pins x.line) same ∙ asked))
        (subst (λ (b : Bool). MatchBool b (RequestGives old.caller request line)
        (Refuses (answer_text answers.UnknownAccount) line)) (sym among) given)

    -- the text for an account that isn't served, or no_memory
    unknown : told ≡ answers.UnknownAccount → Tells told exchange.reply
        → (exchange.reply ≡ answer_text answers.UnknownAccount) ⊎ (exchange.reply ≡ answer_text answers.NoMemory)
    unknown is (inl text) = inl (text ∙ ap answer_text is)
    unknown is (inr list) = inr list.1

    by_account : (b : Bool) → is_among (account_of request) (accounts_in old.owned) ≡ b
        → MatchBool b (MakesTurns old new request exchange.moment told)
        ((told ≡ answers.UnknownAccount) × (new.owned ≡ old.owned))
        → Grew pins old new (exchange ∷ [])
    by_account true among made =
        let line : LineTurns = record { exchange = exchange; turns = made.turns } in
        grew-one pins old new line
        (gives line refl true among
        (made.answer, tells-of made.answer told exchange.reply made.told_is reply, made.makes))
        calls.caller
        (made.owned ∙ with-same
        (λ account. if bytes_eq account (account_of request) then made.turns else [])
        (λ account. turns_for pins account (line ∷ []))
        (λ account. sym (append-nil (turns_of pins account line)
        ∙ ap (λ (asked : Result Request LineFault). if asks account asked then made.turns else []) asked)) old.owned)
    by_account false among none =
        let line : LineTurns = record { exchange = exchange; turns = [] } in
        grew-one pins old new line
        (gives line refl false among (unknown none.0 reply, refl))
        calls.caller
        (none.1 ∙ no-turns pins exchange old.owned)

-- ---- the output, by the books

-- own entries that began with none are the turns of the lines
fresh-used : (pins : Bool) (lines : List LineTurns) (owned : List Owned)
    → AllByRecursion (λ own. own.entries ≡ []) owned
    → AllByRecursion (λ own. turns_for pins own.account lines ≡ own.entries) (grown_by pins lines owned)
fresh-used pins lines [] fresh = tt
fresh-used pins lines (own ∷ owned) fresh = (
  ap (λ (entries : List Entry). entries ++ turns_for pins own.account lines) (sym fresh.0),
  fresh-used pins lines owned fresh.1,
)

-- what a seat knows that began with no entries is the output of the caller's own entries in the books
pub output_of_books : (pins : Bool) (start now : SeatSeen) (books : List BookSeen) (lines : List Exchange)
    → AllByRecursion (λ own. own.entries ≡ []) start.owned
    → now.owned ≡ map (own_in start.caller) books
    → Grew pins start now lines
    → IsOutput pins start.caller (map (own_in start.caller) books) lines
output_of_books pins start now books lines fresh books_are grew =
    let same = sym grew.used ∙ books_are in
    record {
      lines = grew.lines;
      exchanged = grew.exchanged;
      each = subst (λ (names : List (List ℕ)). AllByRecursion (LineGives pins names start.caller) grew.lines)
          (sym (accounts-with (λ account. turns_for pins account grew.lines) start.owned) ∙ ap accounts_in same)
          grew.each;
      used = subst (AllByRecursion (λ own. turns_for pins own.account grew.lines ≡ own.entries)) same
          (fresh-used pins grew.lines start.owned fresh);
    }
