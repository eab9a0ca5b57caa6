-- What the refusals read of an account: sessions without keys, factors without secrets, files without
-- bytes. Code that loads no secrets gives the same outline, so that one equation serves every refusal.
use Rattle.std.specs.Prelude.{ℕ, List, [], ◌∷◌, Option, None, Some, Bool, true, false, ◌&&◌, ◌==◌, if◌then◌else◌, bytes_eq, count_by}
use Rattle.std.specs.List.{list_any}
use Rattle.std.specs.Ordering.{nat_cmp}
use Rattle.std.specs.Cmp.Lexicographic.{slice_cmp}
use Rattle.std.specs.FinMap.{FinMap, values}
use Rattle.account_machine.specs.declared.factor.Mark.{Mark}
use Rattle.account_machine.specs.declared.factor.Kind.{Kind}
use Rattle.account_machine.specs.declared.factor.Kind.TheVariants.{Password, Pin}
use Rattle.account_machine.specs.declared.session.Session.{Session}
use Rattle.account_machine.specs.declared.session.Token.{Token}

abbrev pub Bytes : Type 0
Bytes = List ℕ

-- the kinds and editions of a home's factors, by label
abbrev pub Marks : Type 0
Marks = FinMap (slice_cmp nat_cmp) Mark

pub record HomeOutline : Type 0 where
  pub made : Bool
  pub next : ℕ
  pub marks : Marks
  pub files : List Bytes

pub record Outline : Type 0 where
  pub home : HomeOutline
  pub sessions : List Session
  pub next_session : ℕ
  pub mounted : Bool

-- the session is the token's
abbrev pub is_of : Token → Session → Bool
is_of token session = (session.number == token.number) && bytes_eq session.tail token.tail

-- the session of a token
abbrev pub session_at : List Session → Token → Option Session
session_at [] token = None
session_at (session ∷ sessions) token = if is_of token session then Some session else session_at sessions token

abbrev pub is_pin_kind : Kind → Bool
is_pin_kind Password = false
is_pin_kind Pin = true

abbrev pub is_password_kind : Kind → Bool
is_password_kind Password = true
is_password_kind Pin = false

-- how many PINs there are, and how many passwords
abbrev pub pins : Marks → ℕ
pins marks = count_by (λ mark. is_pin_kind mark.kind) (values marks)

abbrev pub passwords : Marks → ℕ
passwords marks = count_by (λ mark. is_password_kind mark.kind) (values marks)

abbrev pub has_name : Bytes → List Bytes → Bool
has_name name names = list_any (λ other. bytes_eq other name) names
