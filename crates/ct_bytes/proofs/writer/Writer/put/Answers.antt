use Rattle.std.proofs.Common.{◌≡◌, ◌+◌, ◌-◌, ◌≤◌, length, sym, ◌∙◌, arith}
use Rattle.std.proofs.lemmas.List.{drop-drop}
use Rattle.std.proofs.lemmas.Slice.{drop-put_mid}
use Rattle.ct_bytes.proofs.writer.Writer.put.Goals as goal

-- what lies behind the bytes that were copied wasn't touched
pub returns-clause-behind : goal.returns-clause-behind
returns-clause-behind c =
    let used = c.args.self.now.used in
    let size = length c.args.bytes.now in
    let same : length c.copy_from_slice.new.self ≡ used + size - used = omega arith in
    let whole : used + (used + size - used) ≤ used + size = omega arith in
    let inside : used ≤ length c.args.self.now.bytes.now = omega arith in
    drop-put_mid used (used + size - used) c.args.self.now.bytes.now c.copy_from_slice.new.self (used + size) whole inside same
    ∙ sym (drop-drop size used c.args.self.now.bytes.now)
