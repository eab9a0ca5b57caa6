-- The fields of request lines, each with the form that its row asks.
use Rattle.std.specs.Prelude.{ℕ, ◌^◌, ◌&&◌, nat_eq, nat_le, nat_lt, Bool, List, [], ◌∷◌, length, take, drop, codes, Option, None, Some, Result, Ok, Err, option_and_then, option_map, if◌then◌else◌}
use Rattle.std.specs.List.{list_all}
use Rattle.std.specs.Int.{from_be_bytes, w64}
use Rattle.std.specs.Cmp.Lexicographic.{pointwise}
use Rattle.serde_json.specs.Data.{Data, Items, no_items, item}
use Rattle.serde_json.specs.Find.{get, as_str, as_number, as_u64, as_array}
use Rattle.hex.specs.Hex.{decode_sized, decode_of}
use Rattle.hex.specs.declared.FromHexError.{FromHexError}
use Rattle.home_names.specs.Names.{is_name_byte, is_account_name}
use Rattle.pw_types.specs.Schedule.{is_schedule}
use Rattle.account_machine.specs.declared.session.Token.{Token}
use Rattle.account_machine.specs.declared.session.Intent.{Intent}
use Rattle.account_machine.specs.declared.session.Intent.TheVariants.{Decrypt, Verify}
use Rattle.account_machine.specs.declared.factor.Kind.{Kind}
use Rattle.account_machine.specs.declared.factor.Kind.TheVariants.{Password, Pin}

-- the text is this word
abbrev pub is_word : List ℕ → List ℕ → Bool
is_word text word = pointwise nat_eq text word

-- a member that is a text
abbrev pub text_of : List ℕ → Data → Option (List ℕ)
text_of name json = option_and_then as_str (get name json)

-- a text in a form
abbrev pub formed : (List ℕ → Bool) → Option (List ℕ) → Option (List ℕ)
formed form text = option_and_then (λ t. if form t then Some t else None) text

-- a label: 1 to 16 bytes a to z and 0 to 9
abbrev pub is_label : List ℕ → Bool
is_label text = nat_le 1 (length text) && nat_le (length text) 16 && list_all is_name_byte text

-- a file's name: 1 to 64 bytes
abbrev pub is_file_name : List ℕ → Bool
is_file_name text = nat_le 1 (length text) && nat_le (length text) 64

abbrev pub account_in : Data → Option (List ℕ)
account_in json = formed is_account_name (text_of (codes "account") json)

abbrev pub label_in : Data → Option (List ℕ)
label_in json = formed is_label (text_of (codes "label") json)

abbrev pub name_in : Data → Option (List ℕ)
name_in json = formed is_file_name (text_of (codes "name") json)

abbrev pub secret_in : Data → Option (List ℕ)
secret_in json = text_of (codes "secret") json

abbrev pub intent_of : List ℕ → Option Intent
intent_of text = if is_word text (codes "decrypt") then Some Decrypt else if is_word text (codes "verify") then Some Verify else None

abbrev pub intent_in : Data → Option Intent
intent_in json = option_and_then intent_of (text_of (codes "intent") json)

abbrev pub kind_of : List ℕ → Option Kind
kind_of text = if is_word text (codes "password") then Some Password else if is_word text (codes "pin") then Some Pin else None

abbrev pub kind_in : Data → Option Kind
kind_in json = option_and_then kind_of (text_of (codes "kind") json)

-- 24 bytes: the number in 8, the highest first, and the tail in 16
abbrev pub token_of : List ℕ → Token
token_of bytes = record { number = from_be_bytes w64 (take 8 bytes); tail = take 16 (drop 8 bytes) }

abbrev pub token_by : Result (List ℕ) FromHexError → Option Token
token_by (Ok bytes) = Some (token_of bytes)
token_by (Err fault) = None

-- a token: 48 hexadecimal digits of either case
abbrev pub token_in : Data → Option Token
token_in json = option_and_then (λ text. token_by (decode_sized text 24)) (text_of (codes "token") json)

-- a whole number, without fraction and exponent
abbrev pub whole : Data → Option ℕ
whole json = option_and_then as_u64 (as_number json)

abbrev pub seconds_in : Data → Option ℕ
seconds_in json = option_and_then (λ n. if nat_le 1 n && nat_le n 300 then Some n else None) (option_and_then whole (get (codes "seconds") json))

-- the bytes that an even number of hexadecimal digits spell
abbrev pub bytes_by : Result (List ℕ) FromHexError → Option (List ℕ)
bytes_by (Ok bytes) = Some bytes
bytes_by (Err fault) = None

abbrev pub bytes_in : Data → Option (List ℕ)
bytes_in json = option_and_then (λ text. bytes_by (decode_of text)) (text_of (codes "data") json)

-- ---- schedules

abbrev pub word_in : Data → Option ℕ
word_in json = option_and_then (λ n. if nat_lt n (2 ^ 32) then Some n else None) (whole json)

-- two whole numbers below 2^32
abbrev pub pair_of : Items → Option (ℕ × ℕ)
pair_of no_items = None
pair_of (item a no_items) = None
pair_of (item a (item b no_items)) = option_and_then (λ x. option_map (λ y. (x, y)) (word_in b)) (word_in a)
pair_of (item a (item b (item c ds))) = None

abbrev pub pair_in : Data → Option (ℕ × ℕ)
pair_in json = option_and_then pair_of (as_array json)

abbrev pub pairs_of : Items → Option (List (ℕ × ℕ))
pairs_of no_items = Some []
pairs_of (item d ds) = option_and_then (λ pair. option_map (λ pairs. pair ∷ pairs) (pairs_of ds)) (pair_in d)

-- an array of pairs that are a schedule
abbrev pub schedule_of : Data → Option (List (ℕ × ℕ))
schedule_of json = option_and_then (λ pairs. if is_schedule pairs then Some pairs else None) (option_and_then pairs_of (as_array json))

abbrev pub schedule_by : Option Data → Option (Option (List (ℕ × ℕ)))
schedule_by None = Some None
schedule_by (Some json) = option_map (λ pairs. Some pairs) (schedule_of json)

-- a PIN's schedule, which may be absent. That of a password is ignored
abbrev pub schedule_in : Kind → Data → Option (Option (List (ℕ × ℕ)))
schedule_in Password json = Some None
schedule_in Pin json = schedule_by (get (codes "schedule") json)
