use Rattle.std.proofs.Common.{Err, refl, sym, subst}
use Rattle.record_names.specs.Names.{Bytes}
use Rattle.share_api.specs.Replies.{found_reply}
use Rattle.share_api.specs.Seen.{Makes, step_of}
use Rattle.share_api.specs.declared.step.Op.TheVariants.{Get}
use Rattle.stored_home.specs.declared.fault.StoreFault.{StoreFault}
use Rattle.home_edits.specs.Files.{ReadsFile, Shows, IsReadFileFault, file_in}
use Rattle.home_edits.proofs.CostLemmas.{costs_read}
use Rattle.home_edits.proofs.FileReads.{read_answered, read_told, told_only}
use Rattle.home_edits.proofs.files.get_file.Goals as goal

-- the share answered
pub returns-in-Ok-clause-reads : goal.returns-in-Ok-clause-reads
returns-in-Ok-clause-reads g c =
    read_answered (g.S.Share.seen c.args.share.now) (g.S.Share.seen c.get.new.self) c.args.account.now c.args.vault.now
    c.args.name.now
    c.file_record-named.ensures.are c.get.result
    (subst (λ (n : Bytes). Makes (g.S.Share.seen c.args.share.now) (g.S.Share.seen c.get.new.self)
    (step_of (g.S.Share.seen c.args.share.now) 0 (Get n) (found_reply c.get.result))) c.file_record-named.ensures.value
    c.get.ensures.made)
    c.opened.result c.in-Ok.found c.in-Ok.is
    (subst (λ (n : Bytes). Shows n c.opened.result (file_in c.args.vault.now c.args.account.now c.args.name.now
    c.in-Ok.found))
    c.file_record-named.ensures.value c.opened.ensures.value)

-- the share failed, or had no memory
pub returns-in-Err-clause-reads : goal.returns-in-Err-clause-reads
returns-in-Err-clause-reads g c =
    subst (λ (f : StoreFault). ReadsFile (g.S.Share.seen c.args.share.now) (g.S.Share.seen c.get.new.self)
    c.args.account.now
    c.args.vault.now c.args.name.now (Err f)) (sym c.told_fault.ensures.value)
    (read_told (g.S.Share.seen c.args.share.now) (g.S.Share.seen c.get.new.self) c.args.account.now c.args.vault.now
    c.args.name.now
    c.file_record-named.ensures.are c.get.result
    (subst (λ (n : Bytes). Makes (g.S.Share.seen c.args.share.now) (g.S.Share.seen c.get.new.self)
    (step_of (g.S.Share.seen c.args.share.now) 0 (Get n) (found_reply c.get.result))) c.file_record-named.ensures.value
    c.get.ensures.made)
    c.in-Err.fault c.in-Err.is c.in-Err.ensures.only)

pub returns-in-Err-clause-only : goal.returns-in-Err-clause-only
returns-in-Err-clause-only g c = subst IsReadFileFault (sym c.told_fault.ensures.value)
    (told_only c.in-Err.fault c.in-Err.ensures.only)

-- nothing is put
pub returns-in-Ok-clause-cost : goal.returns-in-Ok-clause-cost
returns-in-Ok-clause-cost g c = λ cost.
    costs_read (g.S.Share.seen c.args.share.now) (g.S.Share.seen c.get.new.self) c.args.account.now
    c.file_record-named.result cost _ c.get.ensures.made refl

pub returns-in-Err-clause-cost : goal.returns-in-Err-clause-cost
returns-in-Err-clause-cost g c = λ cost.
    costs_read (g.S.Share.seen c.args.share.now) (g.S.Share.seen c.get.new.self) c.args.account.now
    c.file_record-named.result cost _ c.get.ensures.made refl
