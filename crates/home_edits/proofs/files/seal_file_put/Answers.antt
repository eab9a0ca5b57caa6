use Rattle.std.proofs.Common.{sym, ap, ◌∙◌, subst}
use Rattle.share_api.specs.Contents.{Bytes}
use Rattle.stored_home.specs.Holds.{IsFileOf}
use Rattle.home_edits.specs.Files.{with_file}
use Rattle.home_edits.proofs.files.seal_file_put.Goals as goal

-- the record is made under the name that is kept
pub returns-clause-value : goal.returns-clause-value
returns-clause-value c =
    let same = c.as_str-text.ensures.value ∙ sym c.in_ok-name.ensures.value in
    record {
      opens = subst (λ (n : Bytes). IsFileOf c.args.vault.now c.args.account.now n c.in_ok-sealed.sealed
          c.args.bytes.now) same c.in_ok-sealed.ensures.opens;
      size = c.in_ok-sealed.ensures.size;
      files_are = c.in_ok-files.ensures.value ∙ ap (with_file c.args.files.now) same;
    }
