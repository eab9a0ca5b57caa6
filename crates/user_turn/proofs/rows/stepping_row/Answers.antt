use Rattle.std.proofs.Common.{arith}
use Rattle.account_machine.specs.declared.request.Turn.TheVariants.{Act}
use Rattle.turn_edits.specs.Stashes.{LacksPayload}
use Rattle.user_turn.proofs.Moving.{due_as, made_as, made_starved, made_edit, made_read, made_list}
use Rattle.user_turn.proofs.Resting.{rests_filed}
use Rattle.user_turn.proofs.rows.stepping_row.Goals as goal

-- a home is made
pub returns-in-Create-clause-made : goal.returns-in-Create-clause-made
returns-in-Create-clause-made g c =
    made_as c.in-Create.is
    (made_edit (g.S.Share.seen c.args.share.now) (g.S.Share.seen c.create.new.share) c.args.state.now
    c.create.new.state _ c.create.result ⊥ 0 0 (c.create.ensures.given _) (due_as c.args.state.now c.in-Create.is c.requires.due)
    (λ q. absurd q) (λ b. absurd b) c.create.ensures.cost (omega arith) c.create.ensures.draws
    c.create.ensures.caused)

-- a factor is added
pub returns-in-AddFactor-clause-made : goal.returns-in-AddFactor-clause-made
returns-in-AddFactor-clause-made g c = made_as c.in-AddFactor.is (c.add_row.ensures.made _ _)

-- a file is put; a fault leaves the file's record
pub returns-in-PutFile-clause-made : goal.returns-in-PutFile-clause-made
returns-in-PutFile-clause-made g c =
    made_as c.in-PutFile.is
    (made_edit (g.S.Share.seen c.args.share.now) (g.S.Share.seen c.put_file.new.share) c.args.state.now
    c.put_file.new.state _ c.put_file.result (LacksPayload c.args.state.now) 0 3 (c.put_file.ensures.given _) (due_as c.args.state.now c.in-PutFile.is c.requires.due)
    (λ q. absurd q) (λ b. b) c.put_file.ensures.cost (omega arith) c.put_file.ensures.draws
    c.put_file.ensures.caused)

pub returns-in-PutFile-clause-rests : goal.returns-in-PutFile-clause-rests
returns-in-PutFile-clause-rests g c =
    rests_filed c.args.state.now c.put_file.new.state c.put_file.result c.put_file.ensures.keeps c.put_file.ensures.sound
    c.in-PutFile.name c.put_file.ensures.ended

-- a file is read
pub returns-in-GetFile-clause-made : goal.returns-in-GetFile-clause-made
returns-in-GetFile-clause-made g c =
    made_as c.in-GetFile.is
    (made_read (g.S.Share.seen c.args.share.now) (g.S.Share.seen c.get_file.new.share) c.args.state.now
    c.get_file.new.state _ c.in-GetFile.name c.get_file.result (c.get_file.ensures.given _) (due_as c.args.state.now c.in-GetFile.is c.requires.due)
    c.get_file.ensures.cost c.get_file.ensures.generator c.get_file.ensures.caused)

-- the factors are listed
pub returns-in-ListFactors-clause-made : goal.returns-in-ListFactors-clause-made
returns-in-ListFactors-clause-made g c =
    made_as c.in-ListFactors.is
    (made_list (g.S.Share.seen c.args.share.now) (g.S.Share.seen c.list_factors.new.share) c.args.state.now
    c.list_factors.new.state _ c.list_factors.result _ (c.list_factors.ensures.given _) (due_as c.args.state.now c.in-ListFactors.is c.requires.due)
    c.list_factors.ensures.known c.list_factors.ensures.after c.list_factors.ensures.looks)

-- a row that isn't built
pub returns-in_default-clause-made : goal.returns-in_default-clause-made
returns-in_default-clause-made g c =
    made_starved (g.S.Share.seen c.args.share.now) c.args.state.now (Act c.args.request.now) c.requires.ready tt
    c.requires.due
