-- The contents that an image shows, by the names of the records that are there.
use Rattle.std.specs.Prelude.{List, [], ◌∷◌, Bool, ◌&&◌, not, if◌then◌else◌, bytes_eq, nat_eq, codes, take}
use Rattle.std.specs.Prelude.{option_map, Option, None, Some}
use Rattle.std.specs.List.{starts_with, after_first}
use Rattle.std.specs.FinMap.{get, empty}
use Rattle.board_model.specs.Disk.{Image}
use Rattle.board_model.specs.Files.{with_content}
use Rattle.record_names.specs.Names.{account_of, is_full_stop}
use Rattle.share_api.specs.Contents.{Bytes, Records, Contents, no_contents}
use Rattle.image_path.specs.Showing.{ByAccount}
use Rattle.platform_core.specs.Records.{account_at}

-- whether a record's name is that of a leaf
abbrev pub is_leaf : Bytes → Bool
is_leaf name = starts_with nat_eq (after_first is_full_stop name) (codes "leaf.")

-- whether a record's name is one of the account's, and not a leaf's
abbrev pub is_filed : Bytes → Bytes → Bool
is_filed account name = bytes_eq (account_of name) account && not (is_leaf name)

-- what the account has under these names, of each file at most the first 49,182 bytes
abbrev pub records_under : List Bytes → Image → Bytes → Records
records_under [] now account = empty
records_under (name ∷ names) now account =
    if is_filed account name
    then with_content (records_under names now account) name (option_map (take 49182) (get now.files name))
    else records_under names now account

abbrev pub contents_under : List Bytes → Image → Bytes → Contents
contents_under names now account = record no_contents { records = records_under names now account }

-- what each account has of what is there, where the board tells it
abbrev pub contents_in : List Bytes → List Bytes → Option Image → ByAccount Contents
contents_in accounts names None number = no_contents
contents_in accounts names (Some now) number = contents_under names now (account_at accounts number)
