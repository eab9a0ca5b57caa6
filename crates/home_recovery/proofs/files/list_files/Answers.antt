use Rattle.std.proofs.Common.{◌≡◌, List, [], ◌∷◌, ◌++◌, take, sym, subst, ◌∙◌}
use Rattle.std.specs.Prelude.{IfSome}
use Rattle.record_names.specs.Names.{AreParts, File, file_name}
use Rattle.share_api.specs.Contents.{Bytes}
use Rattle.stored_home.specs.Loaded.{Filed}
use Rattle.stored_home.proofs.MapLemmas.{not_None}
use Rattle.home_recovery.specs.Parts.{AreFiles}
use Rattle.home_recovery.proofs.FileLemmas.{files_none, files_kept, files_added, split_take}
use Rattle.home_recovery.proofs.files.list_files.Goals as goal
use Rattle.home_recovery.proofs.files.list_files.Goals.{in-Some+in_ok-insert, in_default}

pub loop-name-init : goal.loop-name-init
loop-name-init c =
    subst (λ (m : Filed). AreFiles c.args.account.now [] m) (sym c.new-files.ensures) (files_none c.args.account.now c.requires)

-- one name more
pub loop-name-preserved : goal.loop-name-preserved
loop-name-preserved c =
    let account = c.args.account.now in
    let item = c.name-item.result in
    let before = take c.loop-name.name-index c.args.listed.now in
    let split = split_take c.args.listed.now c.loop-name.name-index item c.loop-name-test.true c.name-item.is in
    subst (λ (xs : List Bytes). AreFiles account xs c.match-branch-2.files) (sym split) (elim c.match-branch-2.branch [
      | in-Some+in_ok-insert w ↦
          let is = subst (λ o. IfSome o (λ (f : Bytes). AreParts (File account f) × (item ≡ file_name account f))) w.in-Some.is c.in_ok-file.ensures.is in
          subst (λ (m : Filed). AreFiles account (before ++ item ∷ []) m) (sym (w.files-is ∙ w.in_ok-insert.ensures.ok))
          (files_added account c.requires before c.loop-name.files item w.in-Some.file _ c.loop-name.invariant is.0 is.1)
      | in_default w ↦
          subst (λ (m : Filed). AreFiles account (before ++ item ∷ []) m) (sym w.files-is)
          (files_kept account c.requires before c.loop-name.files item c.loop-name.invariant
          (λ file are is. not_None file (sym (c.in_ok-file.ensures.found file are is) ∙ w.in_default.is)))
    ])
