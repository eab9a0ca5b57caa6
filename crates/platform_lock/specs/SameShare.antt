-- Two laws of shares that stay the same.
use Rattle.std.proofs.Common.{refl, ap, ◌∙◌}
use Rattle.share_api.specs.declared.step.Step.{Step}
use Rattle.turn_lock.specs.Seats.{SeatView}
use Rattle.platform_lock.specs.Seats.{ShareView, IsSameShare}

-- a share is the same as itself
pub same_share_itself : (share : ShareView) → IsSameShare share share
same_share_itself share = (refl, λ seat is. (seat, is, refl))

-- what stays the same twice is the same
pub same_share_then : (one two three : ShareView) → IsSameShare one two → IsSameShare two three → IsSameShare one three
same_share_then one two three first next = (
  next.0 ∙ first.0,
  λ seat is.
      let mid = first.1 seat is in
      let end = next.1 mid.0 mid.1 in
      (end.0, end.1, end.2 ∙ ap (λ (s : SeatView Step). record s { own = end.0.own }) mid.2),
)
