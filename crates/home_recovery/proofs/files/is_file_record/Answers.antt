use Rattle.std.proofs.Common.{◌≡◌, ◌+◌, ◌-◌, length, take, drop, sym, ap, ◌∙◌, arith}
use Rattle.std.proofs.lemmas.Bool.{leb-true}
use Rattle.std.proofs.lemmas.Slice.Eq.{bytes_eq-Decides}
use Rattle.share_api.specs.Contents.{Bytes}
use Rattle.home_recovery.proofs.OwnNames.{mark_of_file, file_of_mark}
use Rattle.home_recovery.proofs.files.is_file_record.Goals as goal

-- behind the account it has `.file.`, or hasn't
pub returns-then-end-bytes : goal.returns-then-end-bytes
returns-then-end-bytes c =
    let account = c.args.account.now in
    let name = c.args.name.now in
    let bytes : c.as_bytes-bytes.result.now ≡ name = c.as_bytes-bytes.ensures.value ∙ c.as_str.ensures.value in
    let size : (length account + 6) - length account ≡ 6 = omega arith in
    let slice : take ((length account + 6) - length account) (drop (length account) c.as_bytes-bytes.result.now) ≡ take 6 (drop (length account) name) =
    ap (λ n. take n (drop (length account) c.as_bytes-bytes.result.now)) size ∙ ap (λ (xs : Bytes). take 6 (drop (length account) xs)) bytes in
    let both = bytes_eq-Decides (take ((length account + 6) - length account) (drop (length account) c.as_bytes-bytes.result.now)) c.as_slice.result.now in (
      λ e. file_of_mark account c.requires.plain name c.as_str.ensures.name c.requires.own
          (sym slice ∙ both.0 (sym c.eq.ensures ∙ e) ∙ c.as_slice.ensures),
      λ is. c.eq.ensures ∙ both.1 (slice ∙ (mark_of_file account c.requires.plain name is).1 ∙ sym c.as_slice.ensures),
    )

-- a name that is shorter is no file's
pub returns-else-end-bytes : goal.returns-else-end-bytes
returns-else-end-bytes c =
    let account = c.args.account.now in
    let name = c.args.name.now in
    let short = c.if-end-bytes.false in (
      λ e. let long = leb-true (length account + 6) (length c.as_bytes-bytes.result.now) e in absurd (omega (arith, long, short)),
      λ is.
          let long = (mark_of_file account c.requires.plain name is).0 in
          let sizes = ap length (c.as_bytes-bytes.ensures.value ∙ c.as_str.ensures.value) in
          absurd (omega (arith, long, short, sizes)),
    )
