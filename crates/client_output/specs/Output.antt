-- The output of a client: each line, its turns in the books, and its reply.
use Rattle.std.specs.Prelude.{◌≡◌, ◌⊎◌, ℕ, Bool, true, false, IsTrue, List, [], map, flat_map, Option, None, Some, Result, Ok, Err, MatchResult, MatchBool, bytes_eq, if◌then◌else◌}
use Rattle.std.specs.List.{AllByRecursion, list_any}
use Rattle.pw_types.specs.Moment.{cut_moment}
use Rattle.request_loop.specs.Lines.{LineSeen, whole, too_long}
use Rattle.request_loop.specs.Exchange.{Exchange}
use Rattle.account_machine.specs.Asked.{account_of}
use Rattle.account_machine.specs.declared.answer.Answer.{Answer}
use Rattle.account_machine.specs.declared.answer.Answer.TheVariants as answers
use Rattle.account_machine.specs.declared.entry.Entry.{Entry}
use Rattle.account_machine.specs.declared.factor.Kind.{Kind}
use Rattle.account_machine.specs.declared.factor.Kind.TheVariants.{Password, Pin}
use Rattle.account_machine.specs.declared.request.Request.{Request}
use Rattle.account_machine.specs.declared.request.Request.TheVariants.{AddFactor, ResetPin}
use Rattle.client_lang.specs.declared.line.Field.TheVariants as fields
use Rattle.client_lang.specs.declared.line.LineFault.{LineFault}
use Rattle.client_lang.specs.declared.line.LineFault.TheVariants as faults
use Rattle.client_lang.specs.Lines.{request_in}
use Rattle.client_lang.specs.Replies.{answer_text, fault_text, is_plain_name}
use Rattle.client_output.specs.Turns.{Makes}

-- ---- which request a line has

-- what is said against a kind of factor where there are no PINs
abbrev pub kind_fault : Kind → Option LineFault
kind_fault Password = None
kind_fault Pin = Some (faults.BadField fields.Kind)

-- what is said against a request where there are no PINs
abbrev pub pin_fault : Request → Option LineFault
pin_fault (AddFactor account token label kind secret schedule) = kind_fault kind
pin_fault (ResetPin account token label) = Some faults.UnknownOp
pin_fault _ = None

abbrev pub fault_first : Option LineFault → Request → Result Request LineFault
fault_first None request = Ok request
fault_first (Some fault) request = Err fault

-- the request, unless it is kept out: where there are no PINs, those that speak of them are
abbrev pub request_let_in : Bool → Request → Result Request LineFault
request_let_in true request = Ok request
request_let_in false request = fault_first (pin_fault request) request

abbrev pub line_let_in : Bool → Result Request LineFault → Result Request LineFault
line_let_in pins (Ok request) = request_let_in pins request
line_let_in pins (Err fault) = Err fault

-- the request of a line, or why it has none
abbrev pub asked_by : Bool → LineSeen → Result Request LineFault
asked_by pins too_long = Err faults.TooLong
asked_by pins (whole bytes) = line_let_in pins (request_in bytes)

-- ---- what a line gives

-- a line with its moment and its reply, and the turns that it made, in order
pub record LineTurns : Type 0 where
  pub exchange : Exchange
  pub turns : List Entry

-- the reply is this text, or that there was no memory, and no turn was made
abbrev pub Refuses : List ℕ → LineTurns → Type 0
Refuses text line =
    ((line.exchange.reply ≡ text) ⊎ (line.exchange.reply ≡ answer_text answers.NoMemory)) × (line.turns ≡ [])

-- the answers with a list, whose text takes memory
abbrev pub HasList : Answer → Type 0
HasList (answers.OkFactors lines) = Unit {0}
HasList (answers.OkFiles names) = Unit {0}
HasList (answers.OkBytes bytes) = Unit {0}
HasList _ = ⊥

-- damage is answered of what has a name as short and plain as each record's
abbrev pub NamesPlainly : Answer → Type 0
NamesPlainly (answers.Damaged name) = IsTrue (is_plain_name name)
NamesPlainly _ = Unit {0}

-- the reply is the answer's text, or that there was no memory for the text of a list
abbrev pub Tells : Answer → List ℕ → Type 0
Tells answer reply = (reply ≡ answer_text answer) ⊎ (HasList answer × (reply ≡ answer_text answers.NoMemory))

-- what is told of an answer: it, or that there was no memory for its list
abbrev pub IsToldOf : Answer → Answer → Type 0
IsToldOf answer told = (told ≡ answer) ⊎ (HasList answer × (told ≡ answers.NoMemory))

-- the line's request was answered by turns of its account, at the number that the clock gave
abbrev pub RequestGives : ℕ → Request → LineTurns → Type 0
RequestGives caller request line = (answer : Answer)
    × Tells answer line.exchange.reply
    × Makes caller (cut_moment line.exchange.moment) request answer line.turns

-- whether the account is one of these
abbrev pub is_among : List ℕ → List (List ℕ) → Bool
is_among account accounts = list_any (λ name. bytes_eq name account) accounts

-- what a line gives where these accounts are served
abbrev pub LineGives : Bool → List (List ℕ) → ℕ → LineTurns → Type 0
LineGives pins accounts caller line =
    MatchResult (asked_by pins line.exchange.line)
    (λ request. MatchBool (is_among (account_of request) accounts)
    (RequestGives caller request line)
    (Refuses (answer_text answers.UnknownAccount) line))
    (λ fault. Refuses (fault_text fault) line)

-- ---- what all lines give

-- whether this account is asked
abbrev pub asks : List ℕ → Result Request LineFault → Bool
asks account (Ok request) = bytes_eq account (account_of request)
asks account (Err fault) = false

-- the turns of an account that a line made
abbrev pub turns_of : Bool → List ℕ → LineTurns → List Entry
turns_of pins account line = if asks account (asked_by pins line.exchange.line) then line.turns else []

-- the turns of an account that these lines made
abbrev pub turns_for : Bool → List ℕ → List LineTurns → List Entry
turns_for pins account lines = flat_map (turns_of pins account) lines

-- an account, with one caller's own entries in its book
pub record Owned : Type 0 where
  pub account : List ℕ
  pub entries : List Entry

abbrev pub accounts_in : List Owned → List (List ℕ)
accounts_in owned = map (λ own. own.account) owned

-- These lines made the caller's own entries, each line its own in order: each entry is used once, and none is left.
pub record IsOutput (pins : Bool) (caller : ℕ) (owned : List Owned) (exchanges : List Exchange) : Type 0 where
  pub lines : List LineTurns
  pub exchanged : map (λ line. line.exchange) lines ≡ exchanges
  pub each : AllByRecursion (LineGives pins (accounts_in owned) caller) lines
  pub used : AllByRecursion (λ own. turns_for pins own.account lines ≡ own.entries) owned
