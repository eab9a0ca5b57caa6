-- What a run did, by its words and by how it ended.
use Rattle.std.specs.Prelude.{◌≡◌, ◌⊎◌, ℕ, List, [], Option, None, Some, Result, Ok, Err}
use Rattle.run_desk.specs.Desk.{DeskSeen, HandsOut, KeepsBoard}
use Rattle.run_desk.specs.declared.desk.DeskFault.{DeskFault}
use Rattle.run_desk.specs.declared.desk.DeskFault.TheVariants as desk_faults
use Rattle.run_ending.specs.declared.ending.Ending.{Ending}
use Rattle.run_ending.specs.declared.ending.Ending.TheVariants as endings
use Rattle.home_opening.specs.declared.fault.HomeFault.{HomeFault}
use Rattle.home_opening.specs.declared.fault.HomeFault.TheVariants as faults
use Rattle.home_opening.specs.declared.opening.Opening.{Opening}
use Rattle.serve_words.specs.declared.fault.UsageFault.{UsageFault}
use Rattle.serve_words.specs.declared.fault.UsageFault.TheVariants as usage
use Rattle.serve_words.specs.Limits.{answer_to, client_count, first_client}
use Rattle.serve_words.specs.Words.{Asked, Word}
use Rattle.serve_run.specs.Begun.{HasNotBegun, IsOpening}
use Rattle.serve_run.specs.Histories.{Histories}
use Rattle.serve_run.specs.Left.{LeftOver}
use Rattle.serve_run.specs.Outside.{Outside}
use Rattle.serve_run.specs.Serving.{EndsSo}
use Rattle.serve_run.specs.declared.begin.Unbegun.{Unbegun}
use Rattle.serve_run.specs.declared.begin.Unbegun.TheVariants as unbegun

-- how a run ends whose words aren't served
abbrev pub ending_of_words : UsageFault → Ending
ending_of_words usage.BadWords = endings.BadWords
ending_of_words (usage.TooMany accounts clients) = endings.TooMany accounts clients
ending_of_words usage.NoMemory = endings.NoMemory

-- how a run for so many clients ends to which the desk gave no board, or whose home was refused
abbrev pub ending_without_board : DeskFault → Ending
ending_without_board desk_faults.Failed = endings.BoardFault
ending_without_board desk_faults.NoMemory = endings.NoMemory

abbrev pub ending_refused : ℕ → HomeFault → Ending
ending_refused clients faults.Failed = endings.BoardFault
ending_refused clients (faults.Damaged name) = endings.Damaged name
ending_refused clients (faults.TooMany accounts) = endings.TooMany accounts clients
ending_refused clients faults.NoMemory = endings.NoMemory

module _ {B : Type 0} where
  abbrev pub ending_unbegun : ℕ → Unbegun B → Ending
  ending_unbegun clients unbegun.NoEntropy = endings.NoEntropy
  ending_unbegun clients (unbegun.NoBoard fault) = ending_without_board fault
  ending_unbegun clients (unbegun.Refused fault board) = ending_refused clients fault

  -- the board that is left
  abbrev pub board_unbegun : Unbegun B → Option B
  board_unbegun unbegun.NoEntropy = None
  board_unbegun (unbegun.NoBoard fault) = None
  board_unbegun (unbegun.Refused fault board) = Some board

-- no client, no name and no book is left
pub record HasNone {B S K C : Type 0} (left_over : LeftOver B S K C) : Type 0 where
  pub no_client : left_over.clients ≡ []
  pub no_name : left_over.names ≡ []
  pub no_book : left_over.books ≡ []

-- the desk was asked for nothing
pub record AsksNothing {B S K C : Type 0} (before after : DeskSeen B S K C) (left_over : LeftOver B S K C) : Type 0 where
  pub no_board : left_over.board ≡ None
  pub none : HasNone left_over
  pub board_kept : KeepsBoard before after
  pub clients_kept : HandsOut before after []
  pub quiet : after.faults ≡ before.faults

module _ {B S K C : Type 0} (outside : Outside B S K C) (before after : DeskSeen B S K C)
    (left_over : LeftOver B S K C) where
  -- No home was begun. What the desk has of clients stays, and the board is left that it handed out, where it did.
  pub record LeavesUnbegun (asked : Asked) (ending : Ending) : Type 0 where
    pub unbegun : Unbegun B
    pub not_begun : HasNotBegun outside asked before after unbegun
    pub ending_is : ending ≡ ending_unbegun asked.clients unbegun
    pub board_is : left_over.board ≡ board_unbegun unbegun
    pub none : HasNone left_over
    pub clients_kept : HandsOut before after []

  -- A home was begun over the board that the desk handed out for the directory. Its clients were served or they
  -- weren't, and it was ended.
  pub record ServesHome (asked : Asked) (ending : Ending) : Type 0 where
    pub handed : B
    pub handed_is : before.board asked.dir handed
    pub opening : Opening
    pub opening_is : IsOpening asked before opening
    pub histories : Histories outside handed asked.accounts opening left_over.board left_over.names left_over.books
    pub ends : EndsSo outside (first_client asked.clients) (client_count asked.clients) before after left_over ending

  -- what a run of words did that ask this
  abbrev pub Did : Asked → Ending → Type 0
  Did asked ending =
      (AsksNothing before after left_over × (ending ≡ endings.NoMemory))
      ⊎ LeavesUnbegun asked ending
      ⊎ ServesHome asked ending

  -- Words that aren't served ask the desk for nothing, and are told so. Want of memory may come at any words.
  abbrev pub DidAnswer : Result Asked UsageFault → Ending → Type 0
  DidAnswer (Ok asked) ending = Did asked ending
  DidAnswer (Err fault) ending =
      AsksNothing before after left_over × ((ending ≡ ending_of_words fault) ⊎ (ending ≡ endings.NoMemory))

  -- what a run of these words did
  abbrev pub DidFor : List Word → Ending → Type 0
  DidFor words ending = DidAnswer (answer_to words) ending
