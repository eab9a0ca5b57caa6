use Rattle.std.proofs.Common.{None, Some, sym, ap}
use Rattle.std.specs.Prelude.{option_map}
use Rattle.factor_files.specs.declared.factor.FactorRecord.{FactorRecord}
use Rattle.turn_rows.proofs.looks.look.Goals as goal
use Rattle.turn_rows.proofs.Rows.{look_given}

-- a factor is there
pub returns-in-Some-clause-given : goal.returns-in-Some-clause-given
returns-in-Some-clause-given c = λ share.
    look_given c.args.state.now c.requires.ready share c.salt-fresh.new.self c.args.label.now
    (Some c.in-Some.row.now.edition)
    (sym (ap (option_map (λ (row : FactorRecord). row.edition)) c.in-Some.ensures))

-- none is
pub returns-in-None-clause-given : goal.returns-in-None-clause-given
returns-in-None-clause-given c = λ share.
    look_given c.args.state.now c.requires.ready share c.salt-fresh.new.self c.args.label.now None
    (sym (ap (option_map (λ (row : FactorRecord). row.edition)) c.in-None.ensures))
