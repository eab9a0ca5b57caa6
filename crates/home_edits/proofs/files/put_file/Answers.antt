use Rattle.std.proofs.Common.{◌∷◌, [], ◌∙◌, IsOk, IsErr, ap, subst, sym, is_ok, is_err, refl}
use Rattle.record_names.specs.Names.{AreParts, File, file_name}
use Rattle.share_api.specs.Contents.{Bytes}
use Rattle.share_api.specs.declared.step.Write.TheVariants.{Put}
use Rattle.stored_home.specs.Loaded.{Filed}
use Rattle.stored_home.specs.Coherent.{IsCoherent}
use Rattle.home_edits.proofs.CoherentEdits.{filed_coherent}
use Rattle.home_edits.proofs.CostLemmas.{costs_tried, filed_suits}
use Rattle.home_edits.proofs.Edited.{err_not_ok, ok_not_fault}
use Rattle.home_edits.proofs.FileEdits.{file_edits}
use Rattle.home_edits.proofs.files.put_file.Goals as goal

-- the put failed
pub returns-in_err-put_one-clause-edits : goal.returns-in_err-put_one-clause-edits
returns-in_err-put_one-clause-edits g c = λ vault bytes is.
    let none = err_not_ok c.from_residual.result c.from_residual.ensures.0 in
    file_edits (g.S.Share.seen c.args.share.now) (g.S.Share.seen c.put_one.new.share) c.args.account.now
    c.args.stored.now c.args.stored.now _ _ (IsOk c.put_one.result) (IsErr c.put_one.result) vault bytes c.args.put
    c.file_record-name.result c.requires.plain c.requires.home is
    (subst (λ (n : Bytes). AreParts (File c.args.account.now n)) c.as_str.ensures.value c.file_record-name.ensures.are)
    (c.file_record-name.ensures.value ∙ ap (file_name c.args.account.now) c.as_str.ensures.value) (λ o. absurd (none o)) c.put_one.ensures.tried (λ o. absurd (none o))
    (λ _. ap is_err c.in_err-put_one.was)

-- the put was done
pub returns-clause-edits : goal.returns-clause-edits
returns-clause-edits g c = λ vault bytes is.
    file_edits (g.S.Share.seen c.args.share.now) (g.S.Share.seen c.put_one.new.share) c.args.account.now
    c.args.stored.now _ _ _ (IsOk c.put_one.result) (IsErr c.put_one.result) vault bytes c.args.put
    c.file_record-name.result c.requires.plain c.requires.home is
    (subst (λ (n : Bytes). AreParts (File c.args.account.now n)) c.as_str.ensures.value c.file_record-name.ensures.are)
    (c.file_record-name.ensures.value ∙ ap (file_name c.args.account.now) c.as_str.ensures.value) (λ _. refl)
    c.put_one.ensures.tried (λ _. ap is_ok c.in_ok-put_one.was) (λ f. absurd (ok_not_fault _ _ f))

-- it puts no factor's record
pub returns-in_err-put_one-clause-cost : goal.returns-in_err-put_one-clause-cost
returns-in_err-put_one-clause-cost g c = λ cost.
    costs_tried (g.S.Share.seen c.args.share.now) (g.S.Share.seen c.put_one.new.share) c.args.account.now cost
    (Put c.file_record-name.result c.args.put.sealed ∷ []) (IsOk c.put_one.result)
    (IsErr c.put_one.result) c.put_one.ensures.tried (
      filed_suits c.args.account.now c.file_record-name.result c.args.put.sealed c.as_str.result.now cost
          c.file_record-name.ensures.value,
      tt,
    )

pub returns-clause-cost : goal.returns-clause-cost
returns-clause-cost g c = λ cost.
    costs_tried (g.S.Share.seen c.args.share.now) (g.S.Share.seen c.put_one.new.share) c.args.account.now cost
    (Put c.file_record-name.result c.args.put.sealed ∷ []) (IsOk c.put_one.result)
    (IsErr c.put_one.result) c.put_one.ensures.tried (
      filed_suits c.args.account.now c.file_record-name.result c.args.put.sealed c.as_str.result.now cost
          c.file_record-name.ensures.value,
      tt,
    )

-- and the file is loaded
pub returns-clause-coherent : goal.returns-clause-coherent
returns-clause-coherent g c = λ made room was.
    subst (λ (f : Filed). IsCoherent c.args.account.now (record c.args.stored.now { files = f })) (sym made)
    (filed_coherent c.args.account.now c.args.stored.now was c.args.put.name
    (subst (λ (n : Bytes). AreParts (File c.args.account.now n)) c.as_str.ensures.value c.file_record-name.ensures.are)
    room)
