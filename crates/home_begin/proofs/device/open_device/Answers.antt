-- What the platform's opening says is said of its device.
use Rattle.std.proofs.Common.{◌≡◌, true, ap, ◌∙◌}
use Rattle.platform_core.specs.Held as held
use Rattle.request_turns.specs.Named.{are_apart}
use Rattle.home_begin.proofs.Apart.{found_apart}
use Rattle.home_begin.proofs.DeviceLemmas.{opens_device}
use Rattle.home_begin.proofs.device.open_device.Goals as goal

pub new-requires : goal.new-requires
new-requires g c =
    c.found_accounts_have_names.ensures c.args.board c.args.named.items c.in-Ok.platform c.in-Ok.ensures.opened
    c.requires.plain

pub returns-in-Ok-copied_names-clause-apart : goal.returns-in-Ok-copied_names-clause-apart
returns-in-Ok-copied_names-clause-apart g c =
    let platform = c.in-Ok.platform in
    ap are_apart (c.in-Ok-copied_names.ensures ∙ c.accounts.ensures.value)
    ∙ found_apart c.args.named.items (held.names_of platform) (held.accounts_of platform)
    c.in-Ok.ensures.opened.found.accounts_are

pub returns-in-Ok-copied_names-clause-opened : goal.returns-in-Ok-copied_names-clause-opened
returns-in-Ok-copied_names-clause-opened g c =
    let opened = c.in-Ok.ensures in
    opens_device g.B.Board.disk g.B.Board.faults c.args.board c.args.named.items c.in-Ok.platform c.new.result
    c.new.ensures.platform c.new.ensures.refused opened.opened opened.right opened.settled opened.shown
    opened.any_moment opened.kept opened.cause
