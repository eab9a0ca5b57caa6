-- The request of a line, from the JSON value that was read of it.
use Rattle.std.proofs.Common.{◌≡◌, ℕ, ◌≤◌, true, false, List, Option, None, Some, Err, ap, ◌∙◌, length, refl, nat_le, if◌then◌else◌, arith}
use Rattle.std.specs.Str.{IsUtf8, is_utf8}
use Rattle.std.proofs.lemmas.Str.{is_utf8-from_IsUtf8, IsUtf8-from_is_utf8}
use Rattle.serde_json.specs.Data.{Data}
use Rattle.serde_json.specs.Read.{read}
use Rattle.client_lang.specs.declared.line.LineFault.TheVariants as faults
use Rattle.client_lang.specs.Lines.{request_of, request_read, request_in, json_in}

-- what a line of this length that reads so asks
in_short : (line : List ℕ) (json : Option Data) → length line ≤ 100000 → json_in line ≡ json → request_in line ≡ request_read json
in_short line json short is =
    let fits : nat_le (length line) 100000 ≡ true = grind (arith, short) in
    ap (λ b. if b then request_read (json_in line) else Err faults.TooLong) fits
    ∙ ap request_read is

-- a line that is a JSON value asks what the value asks
pub request_in-value : (line : List ℕ) (json : Data) → length line ≤ 100000 → IsUtf8 line → read line ≡ Some json → request_in line ≡ request_of json
request_in-value line json short utf8 is =
    in_short line (Some json) short (ap (λ b. if b then read line else None) (is_utf8-from_IsUtf8 line utf8) ∙ is)

-- a line that is no JSON value asks nothing
pub request_in-no_value : (line : List ℕ) → length line ≤ 100000 → (IsUtf8 line → read line ≡ None) → request_in line ≡ Err faults.NotJson
request_in-no_value line short none =
    in_short line None short
    (elim (is_utf8 line) as (λ b. is_utf8 line ≡ b → (if b then read line else None) ≡ None) [
      | true ↦ λ utf8. none (IsUtf8-from_is_utf8 line utf8)
      | false ↦ λ other. refl
    ] refl)
