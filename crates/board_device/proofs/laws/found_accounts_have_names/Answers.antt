use Rattle.board_device.proofs.NameLemmas.{found_named}
use Rattle.board_device.proofs.laws.found_accounts_have_names.Goals as goal
use Rattle.platform_core.specs.Held.{accounts_of, names_of}

pub returns : goal.returns
returns g c = λ board named platform opened all.
    found_named named (names_of platform) (accounts_of platform) opened.found.accounts_are
    (λ q held. (opened.found.read.only q held).0) all
