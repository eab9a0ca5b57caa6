use Rattle.std.proofs.Common.{◌≡◌, ◌≤◌, List, ℕ, length, get_or, refl, subst, sym, ◌∙◌, ⊎_elim, arith}
use Rattle.std.specs.Prelude.{Contains}
use Rattle.std.proofs.lemmas.List.{take_all}
use Rattle.std.proofs.lemmas.Result.{on_ok_weaker}
use Rattle.board_model.specs.Disk.{Same}
use Rattle.board_model.proofs.Effects.{leaves_none, leaves_then, goes_same, goes_weaker, goes_then}
use Rattle.staged_file.specs.Staged.{Kept}
use Rattle.staged_file.proofs.Staging.{kept_same, kept_then, leaves_same, goes_on}
use Rattle.cabinet.proofs.EditLemmas.{kept_refl}
use Rattle.cabinet.proofs.OpeningLemmas.{one_more, none_in, ok_not_err}
use Rattle.board_model.specs.Files.{IsTemporary}
use Rattle.cabinet.specs.Opening.{LacksOnceSynced}
use Rattle.cabinet.proofs.opening.clear.Goals as goal

pub loop-file-init : goal.loop-file-init
loop-file-init g c =
    let a = g.B.Board.disk c.args.board.now in
    record {
      any_moment = leaves_none a Kept kept_refl (g.met.B.Board.only_now c.args.board.now);
      kept = goes_weaker a a Same Kept kept_same (goes_same a);
      gone = λ q h. absurd (none_in q h);
      faults = refl;
    }

-- one file more is gone, and those before stay so
pub loop-file-preserved : goal.loop-file-preserved
loop-file-preserved g c =
    let a = g.B.Board.disk c.args.board.now in
    let b = g.B.Board.disk c.loop-file.board in
    let n = g.B.Board.disk c.remove_temporary.new.board in
    let files = c.args.files.now in
    let k = c.loop-file.file-index in
    let item = c.as_str.result.now in
    let is : item ≡ get_or files k item = rw c.as_str.ensures.value c.file-item.is in
    record {
      any_moment = leaves_then a b n Kept Kept Kept (λ d i r. r) (λ d e i r left s. kept_then d e i r s) c.loop-file.invariant.any_moment c.remove_temporary.ensures.any_moment;
      kept = goes_then a b n Kept Kept Kept kept_then c.loop-file.invariant.kept c.remove_temporary.ensures.kept;
      gone = λ q h temporary. ⊎_elim (λ before. c.remove_temporary.ensures.stays q (c.loop-file.invariant.gone q before temporary)) (λ same. subst (λ (name : List ℕ). LacksOnceSynced n name) same (c.in_default.ensures.gone (subst IsTemporary (sym same) temporary))) (one_more files k item q c.loop-file-test.true is h);
      faults = c.remove_temporary.ensures.cause.kept (ok_not_err c.remove_temporary.result c.in_default.field-0 c.in_default.is) ∙ c.loop-file.invariant.faults;
    }

pub returns-in-Err-clause-any_moment : goal.returns-in-Err-clause-any_moment
returns-in-Err-clause-any_moment g c =
    leaves_then (g.B.Board.disk c.args.board.now) (g.B.Board.disk c.loop-file.board) (g.B.Board.disk c.remove_temporary.new.board) Kept Kept Kept (λ d i r. r) (λ d e i r left s. kept_then d e i r s)
    c.loop-file.invariant.any_moment c.remove_temporary.ensures.any_moment

pub returns-in-Err-clause-kept : goal.returns-in-Err-clause-kept
returns-in-Err-clause-kept g c =
    goes_then (g.B.Board.disk c.args.board.now) (g.B.Board.disk c.loop-file.board) (g.B.Board.disk c.remove_temporary.new.board) Kept Kept Kept kept_then c.loop-file.invariant.kept c.remove_temporary.ensures.kept

pub returns-clause-any_moment : goal.returns-clause-any_moment
returns-clause-any_moment g c =
    leaves_same Kept (g.B.Board.disk c.args.board.now) (g.B.Board.disk c.loop-file.board) (g.B.Board.disk c.sync_dir.new.self) c.loop-file.invariant.any_moment c.sync_dir.ensures.unchanged.crash

pub returns-clause-kept : goal.returns-clause-kept
returns-clause-kept g c =
    goes_on Kept (g.B.Board.disk c.args.board.now) (g.B.Board.disk c.loop-file.board) (g.B.Board.disk c.sync_dir.new.self) c.loop-file.invariant.kept c.sync_dir.ensures.unchanged.goes

-- the sync makes it last
pub returns-clause-gone : goal.returns-clause-gone
returns-clause-gone g c =
    let files = c.args.files.now in
    let end : length files ≤ c.loop-file.file-index = omega arith in
    on_ok_weaker c.sync_dir.result (λ stands q h temporary i left.
    c.loop-file.invariant.gone q (subst (λ (xs : List (List ℕ)). Contains xs q) (sym (take_all c.loop-file.file-index files end)) h) temporary i (stands i left)) c.sync_dir.ensures.stands
