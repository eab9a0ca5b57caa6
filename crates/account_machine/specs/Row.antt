-- The table's refusals: of each request in their order, as pairs of a condition and the refusal.
use Rattle.std.specs.Prelude.{ℕ, ◌-◌, ◌^◌, List, [], ◌∷◌, Option, None, Some, Bool, true, false, not, ◌&&◌, ◌||◌, ◌==◌, nat_le, if◌then◌else◌, is_none, is_some, length}
use Rattle.std.specs.List.{list_all}
use Rattle.std.specs.FinMap.{get, len}
use Rattle.account_machine.specs.Outline.{Bytes, Outline, session_at, is_pin_kind, is_password_kind, pins, passwords, has_name}
use Rattle.account_machine.specs.declared.factor.Mark.{Mark}
use Rattle.account_machine.specs.declared.factor.Kind.{Kind}
use Rattle.account_machine.specs.declared.factor.Kind.TheVariants.{Password, Pin}
use Rattle.account_machine.specs.declared.session.Session.{Session}
use Rattle.account_machine.specs.declared.session.Intent.{Intent}
use Rattle.account_machine.specs.declared.session.Intent.TheVariants.{Decrypt, Verify}
use Rattle.account_machine.specs.declared.answer.Refused.{Refused}
use Rattle.account_machine.specs.declared.answer.Refused.TheVariants.{Exists, NoHome, SessionsSpent, UnknownSession, Expired, WrongIntent, NotAuthorised, UnknownFactor, FactorExists, PasswordFirst, LastPassword, TooManyFactors, BadSecret, EditionsSpent, AlreadyMounted, NotMounted, UnknownFile, TooManyFiles, TooLarge}
use Rattle.account_machine.specs.declared.request.Request.{Request}
use Rattle.account_machine.specs.declared.request.Request.TheVariants.{Create, StartSession, ExtendSession, EndSession, Authenticate, AddFactor, UpdateFactor, RemoveFactor, ResetPin, ListFactors, Mount, Unmount, PutFile, GetFile, ListFiles}
use Rattle.account_machine.specs.declared.request.Turn.{Turn}
use Rattle.account_machine.specs.declared.request.Turn.TheVariants.{Look, Act, Clear}

-- the first refusal that applies
abbrev pub first_refusal : List (Bool × Refused) → Option Refused
first_refusal [] = None
first_refusal (refusal ∷ refusals) = if refusal.0 then Some refusal.1 else first_refusal refusals

-- whether it is there, and so
abbrev pub is_there : {A : Type 0} → (A → Bool) → Option A → Bool
is_there test None = false
is_there test (Some x) = test x

abbrev pub is_verify : Intent → Bool
is_verify Decrypt = false
is_verify Verify = true

-- the last number is given
abbrev pub is_spent : ℕ → Bool
is_spent number = number == (2 ^ 64 - 1)

-- the digits 0 to 9
abbrev pub is_digit : ℕ → Bool
is_digit byte = nat_le 48 byte && nat_le byte 57

-- the secret is in the grammar of the kind: 1 to 256 bytes, or 4 to 12 digits
abbrev pub is_secret : Kind → Bytes → Bool
is_secret Password secret = nat_le 1 (length secret) && nat_le (length secret) 256
is_secret Pin secret = (nat_le 4 (length secret) && nat_le (length secret) 12) && list_all is_digit secret

-- these don't apply to a session that isn't there, since unknown_session comes first
abbrev pub is_expired : ℕ → Option Session → Bool
is_expired moment session = is_there (λ s. nat_le s.ends moment) session

abbrev pub is_wrong_intent : Option Session → Bool
is_wrong_intent session = is_there (λ s. is_verify s.intent) session

abbrev pub is_not_authorised : Option Session → Bool
is_not_authorised session = is_there (λ s. not s.authenticated) session

-- nor these to a factor that isn't there
abbrev pub is_bad_secret : Bytes → Option Mark → Bool
is_bad_secret secret mark = is_there (λ m. not (is_secret m.kind secret)) mark

abbrev pub is_password_mark : Option Mark → Bool
is_password_mark mark = is_there (λ m. is_password_kind m.kind) mark

abbrev pub is_pin_mark : Option Mark → Bool
is_pin_mark mark = is_there (λ m. is_pin_kind m.kind) mark

-- a home has no room for another factor of the kind: it has 32, or the kind is PIN and it has 8 PINs
abbrev pub is_full : Outline → Kind → Bool
is_full o kind = nat_le 32 (len o.home.marks) || (is_pin_kind kind && nat_le 8 (pins o.home.marks))

-- the home has no factor
abbrev pub is_bare : Outline → Bool
is_bare o = len o.home.marks == 0

-- the rows that name a session or a factor, over what the outline has of them
abbrev pub extend_row : Outline → Option Session → ℕ → List (Bool × Refused)
extend_row o session moment =
    (not o.home.made, NoHome)
    ∷ (is_none session, UnknownSession)
    ∷ (is_expired moment session, Expired)
    ∷ (is_not_authorised session, NotAuthorised)
    ∷ []

abbrev pub authenticate_row : Outline → Option Session → Option Mark → Bytes → ℕ → List (Bool × Refused)
authenticate_row o session mark secret moment =
    (not o.home.made, NoHome)
    ∷ (is_none session, UnknownSession)
    ∷ (is_expired moment session, Expired)
    ∷ (is_none mark, UnknownFactor)
    ∷ (is_bad_secret secret mark, BadSecret)
    ∷ []

abbrev pub add_row : Outline → Option Session → Option Mark → Kind → Bytes → ℕ → List (Bool × Refused)
add_row o session mark kind secret moment =
    (not o.home.made, NoHome)
    ∷ (is_none session, UnknownSession)
    ∷ (is_expired moment session, Expired)
    ∷ (is_wrong_intent session, WrongIntent)
    ∷ (is_not_authorised session && not (is_bare o), NotAuthorised)
    ∷ (is_some mark, FactorExists)
    ∷ (is_pin_kind kind && is_bare o, PasswordFirst)
    ∷ (is_full o kind, TooManyFactors)
    ∷ (not (is_secret kind secret), BadSecret)
    ∷ (is_spent o.home.next, EditionsSpent)
    ∷ []

abbrev pub update_row : Outline → Option Session → Option Mark → Bytes → ℕ → List (Bool × Refused)
update_row o session mark secret moment =
    (not o.home.made, NoHome)
    ∷ (is_none session, UnknownSession)
    ∷ (is_expired moment session, Expired)
    ∷ (is_wrong_intent session, WrongIntent)
    ∷ (is_not_authorised session, NotAuthorised)
    ∷ (is_none mark, UnknownFactor)
    ∷ (is_bad_secret secret mark, BadSecret)
    ∷ (is_spent o.home.next, EditionsSpent)
    ∷ []

abbrev pub remove_row : Outline → Option Session → Option Mark → ℕ → List (Bool × Refused)
remove_row o session mark moment =
    (not o.home.made, NoHome)
    ∷ (is_none session, UnknownSession)
    ∷ (is_expired moment session, Expired)
    ∷ (is_wrong_intent session, WrongIntent)
    ∷ (is_not_authorised session, NotAuthorised)
    ∷ (is_none mark, UnknownFactor)
    ∷ (is_password_mark mark && passwords o.home.marks == 1, LastPassword)
    ∷ []

abbrev pub reset_row : Outline → Option Session → Option Mark → ℕ → List (Bool × Refused)
reset_row o session mark moment =
    (not o.home.made, NoHome)
    ∷ (is_none session, UnknownSession)
    ∷ (is_expired moment session, Expired)
    ∷ (is_wrong_intent session, WrongIntent)
    ∷ (is_not_authorised session, NotAuthorised)
    ∷ (not (is_pin_mark mark), UnknownFactor)
    ∷ []

abbrev pub mount_row : Outline → Option Session → ℕ → List (Bool × Refused)
mount_row o session moment =
    (not o.home.made, NoHome)
    ∷ (is_none session, UnknownSession)
    ∷ (is_expired moment session, Expired)
    ∷ (is_wrong_intent session, WrongIntent)
    ∷ (is_not_authorised session, NotAuthorised)
    ∷ (o.mounted, AlreadyMounted)
    ∷ []

abbrev pub put_row : Outline → Bytes → ℕ → List (Bool × Refused)
put_row o name size =
    (not o.home.made, NoHome)
    ∷ (not o.mounted, NotMounted)
    ∷ (not (nat_le size 49152), TooLarge)
    ∷ (not (has_name name o.home.files) && nat_le 256 (length o.home.files), TooManyFiles)
    ∷ []

abbrev pub get_row : Outline → Bytes → List (Bool × Refused)
get_row o name =
    (not o.home.made, NoHome)
    ∷ (not o.mounted, NotMounted)
    ∷ (not (has_name name o.home.files), UnknownFile)
    ∷ []

-- a request's refusals at a moment, in their order
abbrev pub refusals_of : Outline → Request → ℕ → List (Bool × Refused)
refusals_of o (Create account) moment = (o.home.made, Exists) ∷ []
refusals_of o (StartSession account intent) moment = (not o.home.made, NoHome) ∷ (is_spent o.next_session, SessionsSpent) ∷ []
refusals_of o (ExtendSession account token seconds) moment = extend_row o (session_at o.sessions token) moment
refusals_of o (EndSession account token) moment = (not o.home.made, NoHome) ∷ (is_none (session_at o.sessions token), UnknownSession) ∷ []
refusals_of o (Authenticate account token label secret) moment = authenticate_row o (session_at o.sessions token) (get o.home.marks label) secret moment
refusals_of o (AddFactor account token label kind secret schedule) moment = add_row o (session_at o.sessions token) (get o.home.marks label) kind secret moment
refusals_of o (UpdateFactor account token label secret) moment = update_row o (session_at o.sessions token) (get o.home.marks label) secret moment
refusals_of o (RemoveFactor account token label) moment = remove_row o (session_at o.sessions token) (get o.home.marks label) moment
refusals_of o (ResetPin account token label) moment = reset_row o (session_at o.sessions token) (get o.home.marks label) moment
refusals_of o (ListFactors account) moment = (not o.home.made, NoHome) ∷ []
refusals_of o (Mount account token) moment = mount_row o (session_at o.sessions token) moment
refusals_of o (Unmount account) moment = (not o.home.made, NoHome) ∷ (not o.mounted, NotMounted) ∷ []
refusals_of o (PutFile account name bytes) moment = put_row o name (length bytes)
refusals_of o (GetFile account name) moment = get_row o name
refusals_of o (ListFiles account) moment = (not o.home.made, NoHome) ∷ (not o.mounted, NotMounted) ∷ []

-- the refusals of a clearing
abbrev pub clear_row : Outline → Option Session → ℕ → List (Bool × Refused)
clear_row o session moment =
    (is_none session, UnknownSession)
    ∷ (is_expired moment session, Expired)
    ∷ (is_not_authorised session, NotAuthorised)
    ∷ []

-- the refusals of a turn. A look has none
abbrev pub turn_refusals : Outline → Turn → ℕ → List (Bool × Refused)
turn_refusals o (Look label) moment = []
turn_refusals o (Act request) moment = refusals_of o request moment
turn_refusals o (Clear token) moment = clear_row o (session_at o.sessions token) moment

-- the row names tree_lost, and always last: an authenticate, an update and a removal of a PIN, an added
-- PIN, a reset
abbrev pub names_tree : Outline → Request → Bool
names_tree o (Create account) = false
names_tree o (StartSession account intent) = false
names_tree o (ExtendSession account token seconds) = false
names_tree o (EndSession account token) = false
names_tree o (Authenticate account token label secret) = is_pin_mark (get o.home.marks label)
names_tree o (AddFactor account token label kind secret schedule) = is_pin_kind kind
names_tree o (UpdateFactor account token label secret) = is_pin_mark (get o.home.marks label)
names_tree o (RemoveFactor account token label) = is_pin_mark (get o.home.marks label)
names_tree o (ResetPin account token label) = true
names_tree o (ListFactors account) = false
names_tree o (Mount account token) = false
names_tree o (Unmount account) = false
names_tree o (PutFile account name bytes) = false
names_tree o (GetFile account name) = false
names_tree o (ListFiles account) = false

-- and a clearing does
abbrev pub turn_names_tree : Outline → Turn → Bool
turn_names_tree o (Look label) = false
turn_names_tree o (Act request) = names_tree o request
turn_names_tree o (Clear token) = true
