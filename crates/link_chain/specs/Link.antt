-- The room that a link brings.
use Rattle.std.specs.Prelude.{◌≡◌, None, []}
use Rattle.link_chain.specs.declared.stack.Node.{Node}

-- a node with no entry, and nothing below
abbrev pub IsBlank : {E : Type 0} → Node E → Type 0
IsBlank node = (node.entry ≡ None) × (node.below ≡ [])
