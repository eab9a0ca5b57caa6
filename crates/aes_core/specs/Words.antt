-- What the code keeps: a state as four words, and a key as the words of its schedule.
use Rattle.std.specs.Prelude.{◌≡◌, ℕ, ◌+◌, ◌*◌, List, ◌++◌, take}
use Rattle.std.specs.List.{flat_map}
use Rattle.std.specs.Int.{w32, to_be_bytes}
use Rattle.aes_core.specs.Aes.{key_words, IsKeySize}

-- the state in four words, a column each
abbrev pub state_bytes : ℕ → ℕ → ℕ → ℕ → List ℕ
state_bytes a b c d = to_be_bytes w32 a ++ to_be_bytes w32 b ++ to_be_bytes w32 c ++ to_be_bytes w32 d

-- the key that a schedule begins with
abbrev pub key_of : ℕ → List ℕ → List ℕ
key_of nk words = flat_map (to_be_bytes w32) (take nk words)

-- the words are the key schedule of the key that they begin with
pub record IsSchedule (nk nr : ℕ) (words : List ℕ) : Type 0 where
  pub size : IsKeySize nk nr
  pub schedule : take (4 * (nr + 1)) words ≡ key_words nk (key_of nk words) (4 * (nr + 1))
