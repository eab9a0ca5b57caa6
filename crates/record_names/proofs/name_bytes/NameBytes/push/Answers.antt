use Rattle.std.proofs.Common.{arith, ap, sym, ◌∙◌, ◌≡◌, ◌≤◌, ◌-◌, ◌+◌, length, take}
use Rattle.record_names.specs.Room.{used_again}
use Rattle.record_names.proofs.RoomLemmas.{zero_behind_more}
use Rattle.record_names.proofs.name_bytes.NameBytes.push.Goals as goal

-- what is behind the new bytes is zero
pub invariant_of-self : goal.invariant_of-self
invariant_of-self c =
    let room = c.self.inside.room in
    let used = c.self.inside.used in
    let n = length c.args.bytes.now in
    let k : used + n - used ≡ n = omega arith in
    let seen : length (take used room) ≡ length c.args.self.now = ap length c.self.view_is in
    let fits : used + n ≤ 166 = omega (arith, c.requires, seen, used_again room used c.self.invariant) in
    zero_behind_more room c.copy_from_slice.new.self used n (used + n - used) c.self.invariant fits k (ap length c.copy_from_slice.ensures.after ∙ sym k)
