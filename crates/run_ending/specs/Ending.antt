-- The program's statuses, and what is printed with each.
use Rattle.std.specs.Prelude.{◌≡◌, ◌⊎◌, ℕ, List, [], ◌++◌, codes}
use Rattle.std.specs.Fmt.{decimal}
use Rattle.run_ending.specs.declared.ending.Ending.{Ending}
use Rattle.run_ending.specs.declared.ending.Ending.TheVariants.{Served, BadWords, BoardFault, Damaged, NoMemory, ClientFault, TooMany, InputLimit, NoEntropy}

abbrev pub status_of : Ending → ℕ
status_of Served = 0
status_of BadWords = 2
status_of BoardFault = 3
status_of (Damaged name) = 4
status_of NoMemory = 5
status_of (ClientFault client) = 6
status_of (TooMany accounts clients) = 7
status_of (InputLimit client) = 8
status_of NoEntropy = 9

abbrev pub text_of : Ending → List ℕ
text_of Served = []
text_of BadWords = codes "bad words\n"
text_of BoardFault = codes "board fault\n"
text_of (Damaged name) = codes "damaged " ++ name ++ codes "\n"
text_of NoMemory = codes "no memory\n"
text_of (ClientFault client) = codes "client fault " ++ decimal client ++ codes "\n"
text_of (TooMany accounts clients) =
    codes "too many accounts " ++ decimal accounts ++ codes " clients " ++ decimal clients ++ codes "\n"
text_of (InputLimit client) = codes "input limit " ++ decimal client ++ codes "\n"
text_of NoEntropy = codes "no entropy\n"

-- the clients were served, or there was no memory
abbrev pub EndsWell : ℕ → Type 0
EndsWell status = (status ≡ status_of Served) ⊎ (status ≡ status_of NoMemory)

-- the status and the text are the ending's, or there was no memory for any text
pub record Shows (ending : Ending) (status : ℕ) (said : List ℕ) : Type 0 where
  pub status_is : status ≡ status_of ending
  pub said_is : (said ≡ text_of ending) ⊎ ((ending ≡ NoMemory) × (said ≡ []))
