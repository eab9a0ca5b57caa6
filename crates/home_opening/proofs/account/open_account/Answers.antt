-- The account's share went on by the steps of the opening, which its seat knows.
use Rattle.std.proofs.Common.{rules, ◌≡◌, ℕ, List, Err, sym, ap, ◌∙◌, subst}
use Rattle.share_api.specs.declared.step.Step.{Step}
use Rattle.turn_lock.specs.Seats.{SeatView}
use Rattle.board_device.specs.Device.{seen_by}
use Rattle.home_opening.specs.Opened.{OpensAt}
use Rattle.home_opening.proofs.OpenedLemmas.{opens_at, opened_at, refused_at, seat_kept}
use Rattle.home_opening.proofs.account.open_account.Goals as goal

pub returns-in-Ok-lock_account-clause-opened : goal.returns-in-Ok-lock_account-clause-opened
returns-in-Ok-lock_account-clause-opened g c =
    let device = seen_by g.B.Board.faults c.args.shared.now.first.device in
    let shared = c.args.shared.now.id in
    let opening = c.args.opening.now in
    let own = c.into_seat-own.result in
    let opens = opens_at device shared opening c.args.seat c.new-own.result own c.new-share.result
    c.open_user-opened.new.share c.in-Ok.name c.open_user-opened.result c.requires.new c.new-own.ensures.value
    c.new-share.ensures.value c.into_seat-own.ensures.seat c.open_user-opened.ensures.opens in
    let named : c.in-Ok.name ≡ c.args.name.now = search rules in
    let kept = seat_kept device c.args.seat c.new-own.result own c.new-share.result c.open_user-opened.new.share
    c.new-own.ensures.value c.new-share.ensures.value c.open_user-opened.ensures.goes c.into_seat-own.ensures.seat in
    opened_at device shared opening c.args.seat c.args.name.now own c.in-Ok-opened.state _ c.requires.new kept
    c.requires.owner c.requires.begins.era_is
    (subst (OpensAt device shared opening c.args.seat.caller c.args.name.now own.seat.own) c.in-Ok-opened.is
    (subst (λ (n : List ℕ). OpensAt device shared opening c.args.seat.caller n own.seat.own c.open_user-opened.result)
    named opens))
    c.in-Ok-lock_account.ensures.seat c.in-Ok-lock_account.ensures.state c.in-Ok-lock_account.ensures.era
    c.in-Ok-lock_account.ensures.callers

pub returns-in-Err-opened-clause-refused : goal.returns-in-Err-opened-clause-refused
returns-in-Err-opened-clause-refused g c =
    let device = seen_by g.B.Board.faults c.args.shared.now.first.device in
    let shared = c.args.shared.now.id in
    let opening = c.args.opening.now in
    let own = c.into_seat-own.result in
    let opens = opens_at device shared opening c.args.seat c.new-own.result own c.new-share.result
    c.open_user-opened.new.share c.in-Ok.name c.open_user-opened.result c.requires.new c.new-own.ensures.value
    c.new-share.ensures.value c.into_seat-own.ensures.seat c.open_user-opened.ensures.opens in
    let named : c.in-Ok.name ≡ c.args.name.now = search rules in
    let given : own.seat ≡ c.into_seat.result = sym c.into_seat.ensures.value in
    let kept = seat_kept device c.args.seat c.new-own.result own c.new-share.result c.open_user-opened.new.share
    c.new-own.ensures.value c.new-share.ensures.value c.open_user-opened.ensures.goes c.into_seat-own.ensures.seat in
    refused_at device shared opening c.args.seat c.args.name.now c.in-Err-opened.fault c.told_fault.result
    c.into_seat.result c.requires.owner (ap (λ (s : SeatView Step). s.caller) (sym given ∙ kept))
    (subst (λ (s : SeatView Step). OpensAt device shared opening c.args.seat.caller c.args.name.now s.own
    (Err c.in-Err-opened.fault)) given
    (subst (OpensAt device shared opening c.args.seat.caller c.args.name.now own.seat.own) c.in-Err-opened.is
    (subst (λ (n : List ℕ). OpensAt device shared opening c.args.seat.caller n own.seat.own c.open_user-opened.result)
    named opens)))
    c.told_fault.ensures
