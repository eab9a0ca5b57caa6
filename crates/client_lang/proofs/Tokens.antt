-- A token's digits read back.
use Rattle.std.proofs.Common.{◌≡◌, ℕ, zero, suc, ◌<◌, ◌^◌, List, ◌∷◌, ◌++◌, length, ap, ◌∙◌, arith}
use Rattle.std.specs.Prelude.{Some}
use Rattle.std.specs.Int.{byte_at, bytes_high_first, to_be_bytes, w64}
use Rattle.std.proofs.lemmas.Nat.{from_be_bytes-to_be_bytes_8}
use Rattle.std.proofs.lemmas.List.{take_all}
use Rattle.hex.specs.Hex.{IsBytes, decode_sized}
use Rattle.hex.proofs.HexLemmas.{decode_sized-encode_lower}
use Rattle.account_machine.specs.declared.session.Token.{Token}
use Rattle.client_lang.specs.Fields.{token_by}
use Rattle.client_lang.specs.Replies.{token_text}

more : (byte : ℕ) (bytes : List ℕ) → byte < 256 → IsBytes bytes → IsBytes (byte ∷ bytes)
more byte bytes small all zero = small
more byte bytes small all (suc i) = all i

small : (k n : ℕ) → byte_at k n < 256
small zero n = omega arith
small (suc k) n = omega arith

-- a number's bytes before others
IsBytes-number : (k n : ℕ) (tail : List ℕ) → IsBytes tail → IsBytes (bytes_high_first k n ++ tail)
IsBytes-number zero n tail all = all
IsBytes-number (suc k) n tail all = more (byte_at k n) (bytes_high_first k n ++ tail) (small k n) (IsBytes-number k n tail all)

pub token_read : (token : Token) → token.number < 2 ^ 64 → length token.tail ≡ 16 → IsBytes token.tail
    → token_by (decode_sized (token_text token) 24) ≡ Some token
token_read token fits size all =
    ap token_by (decode_sized-encode_lower (to_be_bytes w64 token.number ++ token.tail) 24 (ap (λ n. suc (suc (suc (suc (suc (suc (suc (suc n)))))))) size) (IsBytes-number 8 token.number token.tail all))
    ∙ ap Some (λ i. record {
      number = from_be_bytes-to_be_bytes_8 token.number fits i;
      tail = take_all 16 token.tail (omega (arith, size)) i;
    })
