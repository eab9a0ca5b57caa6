use Rattle.account_machine.specs.declared.request.Turn.TheVariants.{Act}
use Rattle.user_turn.proofs.Moving.{made_starved}
use Rattle.user_turn.proofs.Resting.{rests_same}
use Rattle.user_turn.proofs.rows.stocked_row.Goals as goal

-- no call could be stocked
pub returns-in-Err : goal.returns-in-Err
returns-in-Err g c = record {
  given = record {
    start = g.S.Share.seen c.stock.new.self;
    stocked = c.stock.ensures.same;
    made = made_starved (g.S.Share.seen c.stock.new.self) c.args.state.now (Act c.args.request.now) c.requires.ready tt
        c.requires.due;
  };
  rests = rests_same c.args.state.now c.requires.ready c.requires.sound;
  goes = c.stock.ensures.goes;
}
