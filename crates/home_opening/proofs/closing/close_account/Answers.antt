-- Nobody has taken a turn of the account, so it has its first seat still.
use Rattle.home_opening.proofs.ClosingLemmas.{given_back}
use Rattle.home_opening.proofs.closing.close_account.Goals as goal

pub returns : goal.returns
returns g c =
    given_back _ _ _ _ _ _ _ c.args.account.lock.id c.args.account.seat c.unwrap.result c.into_seat.result
    c.close-account.ensures.stands c.requires.first c.close-account.ensures.entries c.close-account.ensures.callers
    c.unwrap.ensures c.into_seat.ensures.value
