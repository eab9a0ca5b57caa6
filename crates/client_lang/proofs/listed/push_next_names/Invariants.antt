use Rattle.std.proofs.Common.{◌≡◌, ◌∷◌, ◌++◌, take}
use Rattle.std.specs.Prelude.{flat_map}
use Rattle.client_lang.specs.Replies.{quoted}
use Rattle.client_lang.proofs.listed.push_next_names.Given as goal

-- the names so far were added
abbrev pub invariant-loop-name : goal.invariant-loop-name
invariant-loop-name l = l.text.items ≡ l.fn.text.items ++ flat_map (λ name. 44 ∷ quoted name) (take l.name-index l.names)
