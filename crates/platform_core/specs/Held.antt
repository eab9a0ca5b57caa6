-- What a platform keeps.
use Rattle.std.specs.Prelude.{ℕ, List, Bool}
use Rattle.board_model.specs.Disk.{Disk}
use Rattle.image_path.specs.Showing.{ByAccount}
use Rattle.share_api.specs.Contents.{Bytes, Contents}
use Rattle.platform_core.specs.Shown.{contents_in}
use Rattle.platform_core.specs.Unsure.{Memory}
use Rattle.platform_core.specs.Kept as kept
use Rattle.platform_core.specs.declared.platform.Platform.{Platform}

module _ {B : Type 0} where
  abbrev pub board_of : Platform B → B
  board_of platform = kept.board_of platform.records

  abbrev pub accounts_of : Platform B → List Bytes
  accounts_of platform = kept.accounts_of platform.records

  -- the names that it holds, and those that are unsure
  abbrev pub memory_of : Platform B → Memory
  memory_of platform = kept.memory_of platform.records

  abbrev pub names_of : Platform B → List Bytes
  names_of platform = kept.names_of platform.records

  -- what each account has of what is there, where the board, whose disk this is, tells it
  abbrev pub contents_of : Disk → Platform B → ByAccount Contents
  contents_of disk platform = contents_in (accounts_of platform) (names_of platform) disk.now

  -- for how many names it has room
  abbrev pub most_of : Platform B → ℕ
  most_of platform = kept.most_of platform.records

  -- whether a step has failed since the board was last settled
  abbrev pub is_unsettled : Platform B → Bool
  is_unsettled platform = platform.unsettled
