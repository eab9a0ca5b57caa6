use Rattle.std.proofs.Common.{◌≡◌, ◌++◌, take}
use Rattle.std.specs.Prelude.{flat_map}
use Rattle.client_lang.specs.Replies.{escaped}
use Rattle.client_lang.proofs.listed.push_all.Given as goal

-- the bytes so far were added
abbrev pub invariant-loop-byte : goal.invariant-loop-byte
invariant-loop-byte l = l.text.items ≡ l.fn.text.items ++ flat_map escaped (take l.byte-index l.bytes)
