-- Each account's steps in the chain are those of its opening, which takes nothing.
use Rattle.board_device.specs.Device.{board_of}
use Rattle.user_accounts.specs.Parts.{part_images_since}
use Rattle.user_accounts.specs.Recovered.{parts_recover}
use Rattle.home_begin.proofs.Kept.{held_at, held_at_end}
use Rattle.home_begin.proofs.laws.refused_start_keeps_homes.Goals as goal

pub returns-clause-left : goal.returns-clause-left
returns-clause-left g c = λ device opening fault left stops account durable opened holds.
    let disk = g.B.Board.disk in
    let recovers = parts_recover disk device stops.last stops.chain opened stops.served.chain_stands
    (g.met.B.Board.synced_now (board_of stops.last)) (g.met.B.Board.is_image (board_of stops.last)) in
    held_at_end disk g.B.Board.faults device stops.shared opening stops.chain account durable (stops.openings account)
    holds (part_images_since disk device stops.last) _ (recovers.now_is account)

pub returns-clause-images : goal.returns-clause-images
returns-clause-images g c = λ device opening fault left stops account durable opened holds parts image.
    let disk = g.B.Board.disk in
    let recovers = parts_recover disk device stops.last stops.chain opened stops.served.chain_stands
    (g.met.B.Board.synced_now (board_of stops.last)) (g.met.B.Board.is_image (board_of stops.last)) in
    let at = recovers.image parts image in
    held_at disk g.B.Board.faults device stops.shared opening stops.chain account durable (stops.openings account)
    holds (part_images_since disk device stops.last) at.0 (parts account) at.1.within (at.1.each account)
