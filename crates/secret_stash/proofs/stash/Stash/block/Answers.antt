use Rattle.std.proofs.Common.{◌≡◌, ℕ, List, sym, ap, ◌∙◌, ◌<◌, length, arith, refl, Some}
use Rattle.std.specs.Prelude.{slice_get}
use Rattle.std.proofs.lemmas.Option.{slice_get_read}
use Rattle.stash_format.specs.declared.block.Block.{Block}
use Rattle.std.specs.FinMap.{entries, len, len-entries}
use Rattle.stash_format.specs.declared.contents.Contents.{Contents}
use Rattle.secret_stash.proofs.stash.Stash.block.Goals as goal

-- the rows are the map's entries
pub bounds-rows-at : goal.bounds-rows-at
bounds-rows-at c =
    omega (arith, c.requires, ap length c.rows.ensures, len-entries c.self.inside.contents.blocks, ap (λ (s : Contents). len s.blocks) c.self.view_is)

pub returns : goal.returns
returns c =
    let e = c.rows.ensures ∙ ap (λ (s : Contents). entries s.blocks) c.self.view_is in
    let x = c.index-rows-at.result in
    let within : c.args.at < length c.rows.result.now =
    omega (arith, c.requires, ap length c.rows.ensures, len-entries c.self.inside.contents.blocks, ap (λ (s : Contents). len s.blocks) c.self.view_is) in
    let got : slice_get c.rows.result.now c.args.at ≡ Some x = slice_get_read c.rows.result.now _ c.args.at x refl within c.index-rows-at.is in
    record {
      value = (x.1, ap (λ (rows : List (List ℕ × Block)). slice_get rows c.args.at) (sym e) ∙ got ∙ ap (λ (l : List ℕ). Some (l, x.1)) (sym c.as_str.ensures.value), refl);
    }
