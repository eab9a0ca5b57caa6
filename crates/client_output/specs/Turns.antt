-- The turns that a request makes in its account's book.
use Rattle.std.specs.Prelude.{◌≡◌, ◌⊎◌, ◌≤◌, ℕ, Bool, true, false, List, [], ◌∷◌, ◌++◌, length, Option, None, Some, IsTrue, MatchOption, MatchBool}
use Rattle.std.specs.List.{AllByRecursion}
use Rattle.account_machine.specs.declared.answer.Answer.{Answer}
use Rattle.account_machine.specs.declared.answer.Answer.TheVariants as answers
use Rattle.account_machine.specs.declared.entry.Entry.{Entry}
use Rattle.account_machine.specs.declared.request.Request.{Request}
use Rattle.account_machine.specs.declared.request.Request.TheVariants.{Create, StartSession, ExtendSession, EndSession, Authenticate, AddFactor, UpdateFactor, RemoveFactor, ResetPin, ListFactors, Mount, Unmount, PutFile, GetFile, ListFiles}
use Rattle.account_machine.specs.declared.request.Turn.{Turn}
use Rattle.account_machine.specs.declared.request.Turn.TheVariants.{Look, Act, Clear}
use Rattle.account_machine.specs.declared.session.Token.{Token}

-- the label at which a request looks before it acts
abbrev pub label_looked : Request → Option (List ℕ)
label_looked (Create account) = None
label_looked (StartSession account intent) = None
label_looked (ExtendSession account token seconds) = None
label_looked (EndSession account token) = None
label_looked (Authenticate account token label secret) = Some label
label_looked (AddFactor account token label kind secret schedule) = Some label
label_looked (UpdateFactor account token label secret) = Some label
label_looked (RemoveFactor account token label) = None
label_looked (ResetPin account token label) = None
label_looked (ListFactors account) = None
label_looked (Mount account token) = None
label_looked (Unmount account) = None
label_looked (PutFile account name bytes) = None
label_looked (GetFile account name) = None
label_looked (ListFiles account) = None

-- the token of the clearings behind an act: an authenticate's, where a password was right
abbrev pub token_cleared : Request → Answer → Option Token
token_cleared (Authenticate account token label secret) (answers.OkPassword ends) = Some token
token_cleared _ _ = None

-- a look found what the label's factor is, or that there is none
abbrev pub has_seen : Answer → Bool
has_seen (answers.Seen edition) = true
has_seen _ = false

-- a clearing set a PIN's count back
abbrev pub has_cleared : Answer → Bool
has_cleared answers.PinCleared = true
has_cleared _ = false

-- the caller's entry of a turn, with the number that the clock gave
pub record IsTurnOf (caller given : ℕ) (turn : Turn) (entry : Entry) : Type 0 where
  pub caller_is : entry.caller ≡ caller
  pub given_is : entry.given ≡ given
  pub turn_is : entry.turn ≡ turn

module _ (caller given : ℕ) where
  -- clearings in a session, up to and with the first that cleared no PIN, and at most so many
  pub record AreClearings (most : ℕ) (token : Token) (turns : List Entry) : Type 0 where
    pub cleared : List Entry
    pub last : Entry
    pub turns_are : turns ≡ cleared ++ last ∷ []
    pub each : AllByRecursion (IsTurnOf caller given (Clear token)) turns
    pub went_on : AllByRecursion (λ turn. IsTrue (has_cleared turn.answer)) cleared
    pub within : length turns ≤ most
    pub ended : IsTrue (has_cleared last.answer) → length turns ≡ most

  -- clearings, at most 8, stand behind an act exactly where a password was right
  abbrev pub ClearsAfter : Request → Answer → List Entry → Type 0
  ClearsAfter request answer turns = MatchOption (token_cleared request answer) (turns ≡ [])
      (λ token. AreClearings 8 token turns)

  -- the act of a request, which gave this answer, and the clearings behind it
  pub record Acts (request : Request) (answer : Answer) (turns : List Entry) : Type 0 where
    pub act : Entry
    pub clearings : List Entry
    pub turns_are : turns ≡ act ∷ clearings
    pub act_is : IsTurnOf caller given (Act request) act
    pub answer_is : act.answer ≡ answer
    pub clears : ClearsAfter request answer clearings

  -- A look at the label, and the act behind it exactly where the look saw. Else the look gave the answer.
  pub record Looks (label : List ℕ) (request : Request) (answer : Answer) (turns : List Entry) : Type 0 where
    pub look : Entry
    pub rest : List Entry
    pub turns_are : turns ≡ look ∷ rest
    pub look_is : IsTurnOf caller given (Look label) look
    pub acts : MatchBool (has_seen look.answer) (Acts request answer rest)
        ((rest ≡ []) × (look.answer ≡ answer))

  -- all turns of a request
  abbrev pub MakesAll : Request → Answer → List Entry → Type 0
  MakesAll request answer turns = MatchOption (label_looked request) (Acts request answer turns)
      (λ label. Looks label request answer turns)

  -- a look that saw, without its act
  pub record OnlyLooks (label : List ℕ) (turns : List Entry) : Type 0 where
    pub look : Entry
    pub turns_are : turns ≡ look ∷ []
    pub look_is : IsTurnOf caller given (Look label) look
    pub saw : IsTrue (has_seen look.answer)

  -- the act is missing, and the look may be
  abbrev pub LacksAct : Request → List Entry → Type 0
  LacksAct request turns = (turns ≡ [])
      ⊎ MatchOption (label_looked request) ⊥ (λ label. OnlyLooks label turns)

  -- The turns of a request that was answered so. Only for want of memory is one missing.
  abbrev pub Makes : Request → Answer → List Entry → Type 0
  Makes request answer turns = MakesAll request answer turns
      ⊎ ((answer ≡ answers.NoMemory) × LacksAct request turns)
