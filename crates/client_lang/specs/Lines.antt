-- Request lines: JSON objects, of which the fields of their op are read.
use Rattle.std.specs.Prelude.{ℕ, nat_le, List, length, codes, Option, None, Some, Result, Ok, Err, is_some, if◌then◌else◌}
use Rattle.std.specs.Str.{is_utf8}
use Rattle.serde_json.specs.Data.{Data}
use Rattle.serde_json.specs.Read.{read}
use Rattle.serde_json.specs.Find.{as_object}
use Rattle.account_machine.specs.declared.request.Request.{Request}
use Rattle.account_machine.specs.declared.request.Request.TheVariants as requests
use Rattle.client_lang.specs.declared.line.Field.{Field}
use Rattle.client_lang.specs.declared.line.Field.TheVariants.{Account, Intent, Token, Seconds, Label, Secret, Kind, Schedule, Name, Data as Bytes}
use Rattle.client_lang.specs.declared.line.LineFault.{LineFault}
use Rattle.client_lang.specs.declared.line.LineFault.TheVariants as faults
use Rattle.client_lang.specs.Fields.{is_word, text_of, account_in, label_in, name_in, secret_in, intent_in, kind_in, token_in, seconds_in, bytes_in, schedule_in}

-- what goes on with a field, which is the bad one where it is missing or outside its form
abbrev pub with_field : {A : Type 0} → Field → Option A → (A → Result Request LineFault) → Result Request LineFault
with_field field None more = Err (faults.BadField field)
with_field field (Some value) more = more value

-- the bytes of a file
abbrev pub data_by : Option (List ℕ) → Result (List ℕ) LineFault
data_by None = Err (faults.BadField Bytes)
data_by (Some bytes) = Ok bytes

abbrev pub data_in : Data → Result (List ℕ) LineFault
data_in json = data_by (bytes_in json)

-- ---- the rows: the fields of each op, in their order

abbrev pub create_in : Data → Result Request LineFault
create_in json = with_field Account (account_in json) (λ account. Ok (requests.Create account))

abbrev pub list_factors_in : Data → Result Request LineFault
list_factors_in json = with_field Account (account_in json) (λ account. Ok (requests.ListFactors account))

abbrev pub unmount_in : Data → Result Request LineFault
unmount_in json = with_field Account (account_in json) (λ account. Ok (requests.Unmount account))

abbrev pub list_files_in : Data → Result Request LineFault
list_files_in json = with_field Account (account_in json) (λ account. Ok (requests.ListFiles account))

abbrev pub start_session_in : Data → Result Request LineFault
start_session_in json = with_field Account (account_in json) (λ account. with_field Intent (intent_in json) (λ intent. Ok (requests.StartSession account intent)))

abbrev pub extend_session_in : Data → Result Request LineFault
extend_session_in json = with_field Account (account_in json) (λ account. with_field Token (token_in json) (λ token. with_field Seconds (seconds_in json) (λ seconds.
    Ok (requests.ExtendSession account token seconds))))

abbrev pub end_session_in : Data → Result Request LineFault
end_session_in json = with_field Account (account_in json) (λ account. with_field Token (token_in json) (λ token. Ok (requests.EndSession account token)))

abbrev pub mount_in : Data → Result Request LineFault
mount_in json = with_field Account (account_in json) (λ account. with_field Token (token_in json) (λ token. Ok (requests.Mount account token)))

abbrev pub authenticate_in : Data → Result Request LineFault
authenticate_in json = with_field Account (account_in json) (λ account. with_field Token (token_in json) (λ token. with_field Label (label_in json) (λ label.
    with_field Secret (secret_in json) (λ secret. Ok (requests.Authenticate account token label secret)))))

abbrev pub update_factor_in : Data → Result Request LineFault
update_factor_in json = with_field Account (account_in json) (λ account. with_field Token (token_in json) (λ token. with_field Label (label_in json) (λ label.
    with_field Secret (secret_in json) (λ secret. Ok (requests.UpdateFactor account token label secret)))))

abbrev pub add_factor_in : Data → Result Request LineFault
add_factor_in json = with_field Account (account_in json) (λ account. with_field Token (token_in json) (λ token. with_field Label (label_in json) (λ label.
    with_field Kind (kind_in json) (λ kind. with_field Secret (secret_in json) (λ secret. with_field Schedule (schedule_in kind json) (λ schedule.
    Ok (requests.AddFactor account token label kind secret schedule)))))))

abbrev pub remove_factor_in : Data → Result Request LineFault
remove_factor_in json = with_field Account (account_in json) (λ account. with_field Token (token_in json) (λ token. with_field Label (label_in json) (λ label.
    Ok (requests.RemoveFactor account token label))))

abbrev pub reset_pin_in : Data → Result Request LineFault
reset_pin_in json = with_field Account (account_in json) (λ account. with_field Token (token_in json) (λ token. with_field Label (label_in json) (λ label.
    Ok (requests.ResetPin account token label))))

abbrev pub put_file_in : Data → Result Request LineFault
put_file_in json = with_field Account (account_in json) (λ account. with_field Name (name_in json) (λ name. with_field Bytes (bytes_in json) (λ bytes.
    Ok (requests.PutFile account name bytes))))

abbrev pub get_file_in : Data → Result Request LineFault
get_file_in json = with_field Account (account_in json) (λ account. with_field Name (name_in json) (λ name. Ok (requests.GetFile account name)))

-- the request of an op
abbrev pub request_by : List ℕ → Data → Result Request LineFault
request_by op json =
    if is_word op (codes "create") then create_in json
    else if is_word op (codes "start_session") then start_session_in json
    else if is_word op (codes "extend_session") then extend_session_in json
    else if is_word op (codes "end_session") then end_session_in json
    else if is_word op (codes "authenticate") then authenticate_in json
    else if is_word op (codes "add_factor") then add_factor_in json
    else if is_word op (codes "update_factor") then update_factor_in json
    else if is_word op (codes "remove_factor") then remove_factor_in json
    else if is_word op (codes "reset_pin") then reset_pin_in json
    else if is_word op (codes "list_factors") then list_factors_in json
    else if is_word op (codes "mount") then mount_in json
    else if is_word op (codes "unmount") then unmount_in json
    else if is_word op (codes "put_file") then put_file_in json
    else if is_word op (codes "get_file") then get_file_in json
    else if is_word op (codes "list_files") then list_files_in json
    else Err faults.UnknownOp

abbrev pub request_for : Option (List ℕ) → Data → Result Request LineFault
request_for None json = Err faults.UnknownOp
request_for (Some op) json = request_by op json

-- the request of a JSON value, which is to be an object
abbrev pub request_of : Data → Result Request LineFault
request_of json = if is_some (as_object json) then request_for (text_of (codes "op") json) json else Err faults.NotJson

-- the JSON value of bytes that are UTF-8
abbrev pub json_in : List ℕ → Option Data
json_in bytes = if is_utf8 bytes then read bytes else None

abbrev pub request_read : Option Data → Result Request LineFault
request_read None = Err faults.NotJson
request_read (Some json) = request_of json

-- the request of a line of at most 100,000 bytes, or its first fault
abbrev pub request_in : List ℕ → Result Request LineFault
request_in line = if nat_le (length line) 100000 then request_read (json_in line) else Err faults.TooLong
