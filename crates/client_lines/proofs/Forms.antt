-- Each request that is read from a line is in form.
use Rattle.std.proofs.Common.{◌≡◌, ℕ, Bool, true, false, List, length, codes, Option, None, Some, Result, Ok, Err, refl, sym, ap, ◌∙◌, subst, true≢false}
use Rattle.std.proofs.lemmas.Bool.{and_parts, leb-true}
use Rattle.std.specs.Prelude.{nat_le, IsTrue, IfOk, if◌then◌else◌, is_some}
use Rattle.serde_json.specs.Data.{Data}
use Rattle.serde_json.specs.Find.{as_object}
use Rattle.home_names.specs.Names.{is_factor_label}
use Rattle.account_machine.specs.declared.request.Request.{Request}
use Rattle.account_machine.specs.declared.request.Request.TheVariants as requests
use Rattle.vault_crypt.specs.VaultFile.{IsFileName}
use Rattle.request_loop.specs.Lines.{LineSeen, whole, too_long}
use Rattle.client_lang.specs.declared.line.Field.{Field}
use Rattle.client_lang.specs.declared.line.Field.TheVariants as fields
use Rattle.client_lang.specs.declared.line.LineFault.{LineFault}
use Rattle.client_lang.specs.Fields.{is_word, is_file_name, is_label, formed, text_of, account_in, label_in, name_in, secret_in, intent_in, kind_in, token_in, seconds_in, bytes_in, schedule_in}
use Rattle.client_lang.specs.Lines.{with_field, request_by, request_for, request_of, request_read, request_in, json_in, create_in, list_factors_in, unmount_in, list_files_in, start_session_in, extend_session_in, end_session_in, mount_in, authenticate_in, update_factor_in, add_factor_in, remove_factor_in, reset_pin_in, put_file_in, get_file_in}
use Rattle.client_output.specs.Output.{asked_by, line_let_in, request_let_in, fault_first, pin_fault}
use Rattle.request_forms.specs.Formed.{IsFormedRequest}
use Rattle.client_lang.specs.declared.line.LineFault.TheVariants as faults
use Rattle.client_lines.proofs.Answering.{ok_is_no_fault}

-- a request is in form wherever there is one
abbrev AreFormed : Result Request LineFault → Type 0
AreFormed result = IfOk result IsFormedRequest

-- whatever a field's value goes on to
field_then : {A : Type 0} (field : Field) (value : Option A) (more : A → Result Request LineFault)
    → ((a : A) → value ≡ Some a → AreFormed (more a)) → AreFormed (with_field field value more)
field_then field None more each = tt
field_then field (Some a) more each = each a refl

-- either of two
either : (b : Bool) (x y : Result Request LineFault) → AreFormed x → AreFormed y → AreFormed (if b then x else y)
either true x y is other = is
either false x y is other = other

abbrev value_or : {A : Type 0} → A → Option A → A
value_or other None = other
value_or other (Some a) = a

abbrev has_value : {A : Type 0} → Option A → Bool
has_value None = false
has_value (Some a) = true

-- a text that was let through by a form is in it
in_form : (form : List ℕ → Bool) (text : Option (List ℕ)) (t : List ℕ) → formed form text ≡ Some t → IsTrue (form t)
in_form form None t is = absurd (true≢false (sym (ap has_value is)))
in_form form (Some given) t is = by_form (form given) refl is
  where
    by_form : (b : Bool) → form given ≡ b → (if b then Some given else None) ≡ Some t → IsTrue (form t)
    by_form true at same = subst (λ text. IsTrue (form text)) (ap (value_or given) same) at
    by_form false at same = absurd (true≢false (sym (ap has_value same)))

label_form : (json : Data) (label : List ℕ) → label_in json ≡ Some label → IsTrue (is_factor_label label)
label_form json label is = in_form is_label (text_of (codes "label") json) label is

name_form : (json : Data) (name : List ℕ) → name_in json ≡ Some name → IsFileName name
name_form json name is =
    let both = and_parts (nat_le 1 (length name)) (nat_le (length name) 64)
    (in_form is_file_name (text_of (codes "name") json) name is) in
    record { some = leb-true 1 (length name) both.0; few = leb-true (length name) 64 both.1 }

-- ---- the rows

create_in_formed : (json : Data) → AreFormed (create_in json)
create_in_formed json = field_then fields.Account (account_in json) _ (λ account is. tt)

list_factors_in_formed : (json : Data) → AreFormed (list_factors_in json)
list_factors_in_formed json = field_then fields.Account (account_in json) _ (λ account is. tt)

unmount_in_formed : (json : Data) → AreFormed (unmount_in json)
unmount_in_formed json = field_then fields.Account (account_in json) _ (λ account is. tt)

list_files_in_formed : (json : Data) → AreFormed (list_files_in json)
list_files_in_formed json = field_then fields.Account (account_in json) _ (λ account is. tt)

start_session_in_formed : (json : Data) → AreFormed (start_session_in json)
start_session_in_formed json = field_then fields.Account (account_in json) _ (λ account is. field_then fields.Intent (intent_in json) _ (λ intent is. tt))

extend_session_in_formed : (json : Data) → AreFormed (extend_session_in json)
extend_session_in_formed json = field_then fields.Account (account_in json) _ (λ account is. field_then fields.Token (token_in json) _ (λ token is. field_then fields.Seconds (seconds_in json) _ (λ seconds is. tt)))

end_session_in_formed : (json : Data) → AreFormed (end_session_in json)
end_session_in_formed json = field_then fields.Account (account_in json) _ (λ account is. field_then fields.Token (token_in json) _ (λ token is. tt))

mount_in_formed : (json : Data) → AreFormed (mount_in json)
mount_in_formed json = field_then fields.Account (account_in json) _ (λ account is. field_then fields.Token (token_in json) _ (λ token is. tt))

authenticate_in_formed : (json : Data) → AreFormed (authenticate_in json)
authenticate_in_formed json = field_then fields.Account (account_in json) _ (λ account is. field_then fields.Token (token_in json) _ (λ token is. field_then fields.Label (label_in json) _ (λ label label_is. field_then fields.Secret (secret_in json) _ (λ secret is. label_form json label label_is))))

update_factor_in_formed : (json : Data) → AreFormed (update_factor_in json)
update_factor_in_formed json = field_then fields.Account (account_in json) _ (λ account is. field_then fields.Token (token_in json) _ (λ token is. field_then fields.Label (label_in json) _ (λ label label_is. field_then fields.Secret (secret_in json) _ (λ secret is. label_form json label label_is))))

add_factor_in_formed : (json : Data) → AreFormed (add_factor_in json)
add_factor_in_formed json = field_then fields.Account (account_in json) _ (λ account is. field_then fields.Token (token_in json) _ (λ token is. field_then fields.Label (label_in json) _ (λ label label_is. field_then fields.Kind (kind_in json) _ (λ kind is. field_then fields.Secret (secret_in json) _ (λ secret is. field_then fields.Schedule (schedule_in kind json) _ (λ schedule is. label_form json label label_is))))))

remove_factor_in_formed : (json : Data) → AreFormed (remove_factor_in json)
remove_factor_in_formed json = field_then fields.Account (account_in json) _ (λ account is. field_then fields.Token (token_in json) _ (λ token is. field_then fields.Label (label_in json) _ (λ label label_is. label_form json label label_is)))

reset_pin_in_formed : (json : Data) → AreFormed (reset_pin_in json)
reset_pin_in_formed json = field_then fields.Account (account_in json) _ (λ account is. field_then fields.Token (token_in json) _ (λ token is. field_then fields.Label (label_in json) _ (λ label label_is. label_form json label label_is)))

get_file_in_formed : (json : Data) → AreFormed (get_file_in json)
get_file_in_formed json = field_then fields.Account (account_in json) _ (λ account is. field_then fields.Name (name_in json) _ (λ name name_is. name_form json name name_is))

put_file_in_formed : (json : Data) → AreFormed (put_file_in json)
put_file_in_formed json = field_then fields.Account (account_in json) _ (λ account is. field_then fields.Name (name_in json) _ (λ name name_is. field_then fields.Data (bytes_in json) _ (λ bytes is. name_form json name name_is)))

request_by_formed : (op : List ℕ) (json : Data) → AreFormed (request_by op json)
request_by_formed op json =
    either (is_word op (codes "create")) _ _ (create_in_formed json) (
    either (is_word op (codes "start_session")) _ _ (start_session_in_formed json) (
    either (is_word op (codes "extend_session")) _ _ (extend_session_in_formed json) (
    either (is_word op (codes "end_session")) _ _ (end_session_in_formed json) (
    either (is_word op (codes "authenticate")) _ _ (authenticate_in_formed json) (
    either (is_word op (codes "add_factor")) _ _ (add_factor_in_formed json) (
    either (is_word op (codes "update_factor")) _ _ (update_factor_in_formed json) (
    either (is_word op (codes "remove_factor")) _ _ (remove_factor_in_formed json) (
    either (is_word op (codes "reset_pin")) _ _ (reset_pin_in_formed json) (
    either (is_word op (codes "list_factors")) _ _ (list_factors_in_formed json) (
    either (is_word op (codes "mount")) _ _ (mount_in_formed json) (
    either (is_word op (codes "unmount")) _ _ (unmount_in_formed json) (
    either (is_word op (codes "put_file")) _ _ (put_file_in_formed json) (
    either (is_word op (codes "get_file")) _ _ (get_file_in_formed json) (
    either (is_word op (codes "list_files")) _ _ (list_files_in_formed json) (
    tt)))))))))))))))

request_for_formed : (op : Option (List ℕ)) (json : Data) → AreFormed (request_for op json)
request_for_formed None json = tt
request_for_formed (Some op) json = request_by_formed op json

request_read_formed : (json : Option Data) → AreFormed (request_read json)
request_read_formed None = tt
request_read_formed (Some json) =
    either (is_some (as_object json)) _ _ (request_for_formed (text_of (codes "op") json) json) tt

request_in_formed : (line : List ℕ) → AreFormed (request_in line)
request_in_formed line = either (nat_le (length line) 100000) _ _ (request_read_formed (json_in line)) tt

-- ---- a line

fault_first_formed : (fault : Option LineFault) (request : Request)
    → IsFormedRequest request → AreFormed (fault_first fault request)
fault_first_formed None request is = is
fault_first_formed (Some fault) request is = tt

line_let_in_formed : (pins : Bool) (asked : Result Request LineFault)
    → AreFormed asked → AreFormed (line_let_in pins asked)
line_let_in_formed true (Ok request) is = is
line_let_in_formed false (Ok request) is = fault_first_formed (pin_fault request) request is
line_let_in_formed pins (Err fault) is = tt

-- the request of a line is in form
pub asked_formed : (pins : Bool) (line : LineSeen) → AreFormed (asked_by pins line)
asked_formed pins too_long = tt
asked_formed pins (whole bytes) = line_let_in_formed pins (request_in bytes) (request_in_formed bytes)

-- a request that was read and let in is in form
pub let_in_formed : (pins : Bool) (bytes : List ℕ) (read result : Result Request LineFault) (request : Request)
    → (¬ (read ≡ Err faults.NoMemory) → read ≡ request_in bytes)
    → read ≡ Ok request
    → result ≡ request_let_in pins request
    → AreFormed result
let_in_formed pins bytes read result request exact is let_in =
    let formed = subst AreFormed (sym (exact (λ starved. ok_is_no_fault request (sym is ∙ starved))) ∙ is)
    (request_in_formed bytes) in
    subst AreFormed (sym let_in) (line_let_in_formed pins (Ok request) formed)
