use Rattle.std.proofs.Common.{◌≡◌, ◌<◌, ◌≤◌, length, drop, refl, sym, ◌∙◌, ap, arith}
use Rattle.std.proofs.lemmas.List.{take_all, length-drop}
use Rattle.pw_leaf.specs.Reading.{label_in, pairs_in, mac_of}
use Rattle.pw_types.specs.Schedule.{limit_of}
use Rattle.pw_leaf.proofs.ReadLemmas.{shape_fault-none, shaped-none}
use Rattle.pw_leaf.proofs.read.shown.Goals as goal

pub returns : goal.returns
returns c =
    let bytes = c.args.bytes.now in
    let schedule : c.in-Some-schedule_in.schedule ≡ pairs_in bytes = c.in-Some-schedule_in.ensures.found in
    let label : c.in-Some.label ≡ label_in bytes = c.in-Some.ensures.value ∙ c.u16_at.ensures in
    let within : label_in bytes < 16384 = rw (← c.u16_at.ensures) (let found = c.in-Some.ensures.found in found.0 refl) in
    let size : length (drop 264 bytes) ≡ 32 = length-drop 264 bytes ∙ omega arith in
    let mac : c.hash_at-mac.result ≡ mac_of bytes = c.hash_at-mac.ensures ∙ take_all 32 (drop 264 bytes) (omega arith) in
    let limit : c.u32_at-wrong.result ≤ limit_of (pairs_in bytes) = omega (arith, c.limit.ensures, ap limit_of schedule) in
    let right = shape_fault-none bytes within c.if-count-eq0.false c.if-count-gt-MOST_PAIRS.false (sym c.in-Some-schedule_in.ensures.tested)
    (rw (← c.u32_at-wrong.ensures) limit)
    (rw (← c.u32_at-wrong.ensures, ← c.u64_at.ensures) c.else-wrong-eq0.either)
    (rw (← c.u64_at-2.ensures) (let last = c.if-last-gt-LAST_MOMENT.false in omega arith))
    (rw (← c.u32_at-wrong.ensures, ← c.u64_at-2.ensures) c.if-last-gt0-2.either) in
    let wrong = c.u32_at-wrong.ensures in
    let boot = c.u64_at.ensures in
    let at = c.u64_at-2.ensures in
    shaped-none bytes _ right (λ i. record { label = label i; schedule = schedule i; wrong = wrong i; last = record { boot = boot i; at = at i }; mac = mac i })
