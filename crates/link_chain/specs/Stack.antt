-- What a stack of nodes holds.
use Rattle.std.specs.Prelude.{List, [], ◌++◌, option_to_list, IsSome}
use Rattle.link_chain.specs.declared.stack.Top.{Top}
use Rattle.link_chain.specs.declared.stack.Top.TheVariants.{End, More}

-- the entries, the newest first
abbrev pub entries : {E : Type 0} → Top E → List E
entries End = []
entries (More node) = option_to_list node.value.entry ++ node.value.below

-- the node at the top has an entry
abbrev pub IsFilled : {E : Type 0} → Top E → Type 0
IsFilled End = Unit {0}
IsFilled (More node) = IsSome node.value.entry
