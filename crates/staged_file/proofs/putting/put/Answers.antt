use Rattle.std.proofs.Common.{[], ◌∷◌, refl, sym, subst}
use Rattle.std.specs.Str.{IsUtf8}
use Rattle.std.proofs.lemmas.Str.{IsUtf8-append}
use Rattle.staged_file.proofs.putting.put.Goals as goal

front : IsUtf8 (116 ∷ 109 ∷ 112 ∷ 45 ∷ [])
unfolding lib.Utf8.encode
front = (116 ∷ 109 ∷ 112 ∷ 45 ∷ [], (refl, refl))

-- the temporary name is text, since both of its parts are
pub unreachable-requires : goal.unreachable-requires
unreachable-requires g c =
    let text = IsUtf8-append (116 ∷ 109 ∷ 112 ∷ 45 ∷ []) c.args.name.now front c.utf8.name in
    c.in_default.ensures.cases.0 (subst IsUtf8 (sym c.write_temporary_name-end.ensures.name) text)
