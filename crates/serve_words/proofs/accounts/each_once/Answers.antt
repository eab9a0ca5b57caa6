use Rattle.std.proofs.Common.{◌≡◌, ◌∷◌, ◌+◌, ap, sym, map, drop, string_bytes}
use Rattle.std.proofs.lemmas.List.{drop_more}
use Rattle.serve_words.specs.Words.{each_once}
use Rattle.serve_words.proofs.Names.{others_none, gathered_next}
use Rattle.serve_words.proofs.accounts.each_once.Goals as goal

-- none is held yet
pub loop-name-init : goal.loop-name-init
loop-name-init c = rw c.new-accounts.ensures.items (others_none (each_once (map string_bytes c.args.names.now)))

-- the next name is gathered
pub loop-name-preserved : goal.loop-name-preserved
loop-name-preserved c =
    let here = drop_more c.args.names.now c.loop-name.name-index c.name-item.result c.loop-name-test.true in
    let more = map string_bytes (drop (c.loop-name.name-index + 1) c.args.names.now) in
    let next : map string_bytes (drop c.loop-name.name-index c.args.names.now) ≡ c.as_str.result.now ∷ more
    = rw (c.as_str.ensures.value, here) (ap (λ (word : _). string_bytes word ∷ more) (sym c.name-item.is)) in
    rw c.in_ok-add_name.ensures
    (gathered_next _ _ c.loop-name.accounts.items c.as_str.result.now _ next c.loop-name.invariant)
