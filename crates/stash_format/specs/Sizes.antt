-- How long records and payloads are.
use Rattle.std.specs.Prelude.{ℕ, length, Option, Some, None}
use Rattle.sealed_text.specs.declared.sealed.Sealed.{Sealed}
use Rattle.stash_format.specs.declared.contents.Contents.{Contents}

abbrev pub text_size : Option Sealed → ℕ
text_size None = 0
text_size (Some sealed) = length sealed.text

-- the bytes of the sealed payload's text, and 0 where there is no payload
abbrev pub payload_size : Contents → ℕ
payload_size contents = text_size contents.payload

-- the most bytes of a written record besides the payload's text: 74 of the head and of the payload's
-- frame, and 86 of each of 32 blocks
abbrev pub most_beside_payload : ℕ
most_beside_payload = 2826

-- the most bytes of a payload: the vault key, the number of reset secrets, and 57 of each of 16
abbrev pub most_payload : ℕ
most_payload = 945
