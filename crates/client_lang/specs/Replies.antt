-- Reply texts: compact JSON objects whose keys stand in rising order of bytes, with serde_json's escapes (laws.rt).
use Rattle.std.specs.Prelude.{◌≡◌, ◌⊎◌, ℕ, ◌&&◌, ◌||◌, ◌==◌, nat_le, nat_lt, if◌then◌else◌, Bool, false, List, [], ◌∷◌, ◌++◌, flat_map, length, codes, decimal, Option, None, Some}
use Rattle.std.specs.List.{list_all}
use Rattle.std.specs.Int.{to_be_bytes, w64}
use Rattle.hex.specs.Hex.{encode_lower}
use Rattle.home_names.specs.Names.{is_name_byte}
use Rattle.account_machine.specs.declared.session.Token.{Token}
use Rattle.account_machine.specs.declared.factor.Kind.{Kind}
use Rattle.account_machine.specs.declared.factor.Kind.TheVariants.{Password, Pin}
use Rattle.account_machine.specs.declared.answer.FactorLine.{FactorLine}
use Rattle.account_machine.specs.declared.answer.Answer.{Answer}
use Rattle.account_machine.specs.declared.answer.Answer.TheVariants as answers
use Rattle.client_lang.specs.declared.line.Field.{Field}
use Rattle.client_lang.specs.declared.line.Field.TheVariants as fields
use Rattle.client_lang.specs.declared.line.LineFault.{LineFault}
use Rattle.client_lang.specs.declared.line.LineFault.TheVariants as faults

-- what stands in a JSON string for a byte
abbrev pub escaped : ℕ → List ℕ
escaped byte =
    if byte == 34 then codes "\\\""
    else if byte == 92 then codes "\\\\"
    else if byte == 8 then codes "\\b"
    else if byte == 9 then codes "\\t"
    else if byte == 10 then codes "\\n"
    else if byte == 12 then codes "\\f"
    else if byte == 13 then codes "\\r"
    else if nat_lt byte 32 then codes "\\u00" ++ encode_lower (byte ∷ [])
    else byte ∷ []

-- a text as a JSON string
abbrev pub quoted : List ℕ → List ℕ
quoted text = 34 ∷ (flat_map escaped text ++ 34 ∷ [])

-- texts with commas between them
abbrev pub listed : {A : Type 0} → (A → List ℕ) → List A → List ℕ
listed text_of [] = []
listed text_of (x ∷ xs) = text_of x ++ flat_map (λ y. 44 ∷ text_of y) xs

-- ---- what stands in replies

-- a token's digits: the number in 8 bytes, the highest first, and the tail
abbrev pub token_text : Token → List ℕ
token_text token = encode_lower (to_be_bytes w64 token.number ++ token.tail)

abbrev pub kind_word : Kind → List ℕ
kind_word Password = codes "password"
kind_word Pin = codes "pin"

-- a PIN's count, which is null while the tree is lost
abbrev pub count_text : Kind → Option ℕ → List ℕ
count_text Password wrong = codes "}"
count_text Pin None = codes ",\"wrong\":null}"
count_text Pin (Some wrong) = codes ",\"wrong\":" ++ decimal wrong ++ codes "}"

abbrev pub line_text : FactorLine → List ℕ
line_text line = codes "{\"kind\":\"" ++ kind_word line.kind ++ codes "\",\"label\":" ++ quoted line.label ++ count_text line.kind line.wrong

-- ---- the replies

-- the word of an answer
abbrev pub word_of : Answer → List ℕ
word_of answers.Ok = codes "ok"
word_of (answers.OkEnds ends) = codes "ok"
word_of (answers.OkPassword ends) = codes "ok"
word_of (answers.OkSession ends token) = codes "ok"
word_of (answers.OkFactors lines) = codes "ok"
word_of (answers.OkFiles names) = codes "ok"
word_of (answers.OkBytes bytes) = codes "ok"
word_of answers.PinCleared = codes "pin_cleared"
word_of answers.PinsClear = codes "pins_clear"
word_of (answers.Seen edition) = codes "seen"
word_of answers.Exists = codes "exists"
word_of answers.NoHome = codes "no_home"
word_of answers.SessionsSpent = codes "sessions_spent"
word_of answers.UnknownSession = codes "unknown_session"
word_of answers.Expired = codes "expired"
word_of answers.WrongIntent = codes "wrong_intent"
word_of answers.NotAuthorised = codes "not_authorised"
word_of answers.UnknownFactor = codes "unknown_factor"
word_of answers.FactorExists = codes "factor_exists"
word_of answers.PasswordFirst = codes "password_first"
word_of answers.LastPassword = codes "last_password"
word_of answers.TooManyFactors = codes "too_many_factors"
word_of answers.BadSecret = codes "bad_secret"
word_of answers.EditionsSpent = codes "editions_spent"
word_of answers.AlreadyMounted = codes "already_mounted"
word_of answers.NotMounted = codes "not_mounted"
word_of answers.UnknownFile = codes "unknown_file"
word_of answers.TooManyFiles = codes "too_many_files"
word_of answers.TooLarge = codes "too_large"
word_of answers.UnknownAccount = codes "unknown_account"
word_of answers.Wrong = codes "wrong"
word_of answers.Locked = codes "locked"
word_of (answers.Delayed seconds) = codes "delayed"
word_of (answers.TreeLost host chip) = codes "tree_lost"
word_of (answers.Damaged name) = codes "damaged"
word_of answers.StorageFault = codes "storage_fault"
word_of answers.NoMemory = codes "no_memory"

abbrev pub word_text : List ℕ → List ℕ
word_text word = codes "{\"answer\":\"" ++ word ++ codes "\"}"

abbrev pub ends_text : ℕ → List ℕ
ends_text ends = codes "{\"answer\":\"ok\",\"ends\":" ++ decimal ends ++ codes "}"

-- the reply for an answer
abbrev pub answer_text : Answer → List ℕ
answer_text (answers.OkEnds ends) = ends_text ends
answer_text (answers.OkPassword ends) = ends_text ends
answer_text (answers.OkSession ends token) = codes "{\"answer\":\"ok\",\"ends\":" ++ decimal ends ++ codes ",\"token\":\"" ++ token_text token ++ codes "\"}"
answer_text (answers.OkFactors lines) = codes "{\"answer\":\"ok\",\"factors\":[" ++ listed line_text lines ++ codes "]}"
answer_text (answers.OkFiles names) = codes "{\"answer\":\"ok\",\"files\":[" ++ listed quoted names ++ codes "]}"
answer_text (answers.OkBytes bytes) = codes "{\"answer\":\"ok\",\"data\":\"" ++ encode_lower bytes ++ codes "\"}"
answer_text (answers.Delayed seconds) = codes "{\"answer\":\"delayed\",\"seconds\":" ++ decimal seconds ++ codes "}"
answer_text (answers.TreeLost host chip) = codes "{\"answer\":\"tree_lost\",\"chip\":\"" ++ encode_lower chip ++ codes "\",\"host\":\"" ++ encode_lower host ++ codes "\"}"
answer_text (answers.Damaged name) = codes "{\"answer\":\"damaged\",\"record\":" ++ quoted name ++ codes "}"
answer_text answer = word_text (word_of answer)

-- a name as short and plain as each record's: at most 166 bytes a to z, 0 to 9 and full stops
abbrev pub is_plain_name : List ℕ → Bool
is_plain_name name = nat_le (length name) 166 && list_all (λ byte. is_name_byte byte || byte == 46) name

-- the answers whose text may need memory: the three lists, and damage of what has no record's name
abbrev pub TakesMemory : Answer → Type 0
TakesMemory (answers.OkFactors lines) = Unit {0}
TakesMemory (answers.OkFiles names) = Unit {0}
TakesMemory (answers.OkBytes bytes) = Unit {0}
TakesMemory (answers.Damaged name) = is_plain_name name ≡ false
TakesMemory _ = ⊥

-- the answer's text was added, or that of no_memory in its place
abbrev pub Replies : Answer → List ℕ → List ℕ → Type 0
Replies answer old new = (new ≡ old ++ answer_text answer) ⊎ (TakesMemory answer × (new ≡ old ++ answer_text answers.NoMemory))

-- ---- lines that are no requests

abbrev pub field_name : Field → List ℕ
field_name fields.Account = codes "account"
field_name fields.Intent = codes "intent"
field_name fields.Token = codes "token"
field_name fields.Seconds = codes "seconds"
field_name fields.Label = codes "label"
field_name fields.Secret = codes "secret"
field_name fields.Kind = codes "kind"
field_name fields.Schedule = codes "schedule"
field_name fields.Name = codes "name"
field_name fields.Data = codes "data"

-- the reply to a line that isn't a request
abbrev pub fault_text : LineFault → List ℕ
fault_text faults.TooLong = codes "{\"answer\":\"bad_line\",\"fault\":\"too_long\"}"
fault_text faults.NotJson = codes "{\"answer\":\"bad_line\",\"fault\":\"not_json\"}"
fault_text faults.UnknownOp = codes "{\"answer\":\"bad_line\",\"fault\":\"unknown_op\"}"
fault_text (faults.BadField field) = codes "{\"answer\":\"bad_line\",\"fault\":\"bad_field\",\"field\":\"" ++ field_name field ++ codes "\"}"
fault_text faults.NoMemory = codes "{\"answer\":\"no_memory\"}"
