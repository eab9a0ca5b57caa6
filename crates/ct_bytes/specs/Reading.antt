-- What is read from the front of bytes, piece after piece.
use Rattle.std.specs.Prelude.{ℕ, ◌+◌, Bool, true, false, ◌==◌, nat_le, List, length, take, drop, slice_index, Result, Ok, Err, if◌then◌else◌}
use Rattle.std.specs.Int.{w16, w32, w64, from_be_bytes}
use Rattle.ct_bytes.specs.declared.fault.ByteFault.{ByteFault}
use Rattle.ct_bytes.specs.declared.fault.ByteFault.TheVariants.{Short, Trailing}

-- the bytes that are left to read, and how many stood before them
pub record Unread : Type 0 where
  pub place : ℕ
  pub left : List ℕ

-- nothing is read yet
abbrev pub start : List ℕ → Unread
start bytes = record { place = 0; left = bytes }

-- so many bytes further on
abbrev pub past : ℕ → Unread → Unread
past count at = record { place = at.place + count; left = drop count at.left }

-- one step and then the next, up to the first fault; a do block is made of it
infixl 10 ◌>>=◌
abbrev pub ◌>>=◌ : {A B E : Type 0} → Result A E → (A → Result B E) → Result B E
(Ok x) >>= f = f x
(Err fault) >>= f = Err fault

-- the same, where the first step gives nothing that the next one needs
infixl 10 ◌>>◌
abbrev pub ◌>>◌ : {A B E : Type 0} → Result A E → Result B E → Result B E
(Ok x) >> next = next
(Err fault) >> next = Err fault

-- a rule on what was read, and the fault where it is broken
abbrev pub rule : {E : Type 0} → Bool → E → Result (Unit {0}) E
rule true fault = Ok tt
rule false fault = Err fault

-- a step whose fault is told in other words
abbrev pub or_fault : {A E F : Type 0} → (E → F) → Result A E → Result A F
or_fault told (Ok x) = Ok x
or_fault told (Err fault) = Err (told fault)

-- so many bytes
unfoldable pub bytes_at : ℕ → Unread → Result (List ℕ × Unread) ByteFault
bytes_at count at =
    if nat_le count (length at.left) then Ok (take count at.left, past count at) else Err (Short at.place)

-- the first byte, as a number
unfoldable pub u8_at : Unread → Result (ℕ × Unread) ByteFault
u8_at at =
    if nat_le 1 (length at.left) then Ok (slice_index at.left 0, past 1 at) else Err (Short at.place)

-- two bytes, as a big-endian number
unfoldable pub u16_at : Unread → Result (ℕ × Unread) ByteFault
u16_at at = do
  field ← bytes_at 2 at
  Ok (from_be_bytes w16 field.0, field.1)

-- four bytes, as a big-endian number
unfoldable pub u32_at : Unread → Result (ℕ × Unread) ByteFault
u32_at at = do
  field ← bytes_at 4 at
  Ok (from_be_bytes w32 field.0, field.1)

-- eight bytes, as a big-endian number
unfoldable pub u64_at : Unread → Result (ℕ × Unread) ByteFault
u64_at at = do
  field ← bytes_at 8 at
  Ok (from_be_bytes w64 field.0, field.1)

-- a length byte and so many bytes; the length byte is a piece of its own
unfoldable pub field8_at : Unread → Result (List ℕ × Unread) ByteFault
field8_at at = do
  size ← u8_at at
  bytes_at size.0 size.1

-- the end of the bytes
unfoldable pub end_at : Unread → Result (Unit {0}) ByteFault
end_at at = if length at.left == 0 then Ok tt else Err (Trailing at.place)
