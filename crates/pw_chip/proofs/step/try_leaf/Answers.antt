use Rattle.std.proofs.Common.{◌≡◌, Ok, Err, refl, sym, ◌∙◌, ap}
use Rattle.pw_types.specs.Delay.{readiness}
use Rattle.pw_types.specs.declared.stamp.Stamp.{Stamp}
use Rattle.pw_types.specs.declared.delay.Readiness.TheVariants as delay
use Rattle.pw_types.proofs.DelayLemmas.{below_limit}
use Rattle.pw_chip.specs.declared.reply.Reply.TheVariants.{Delayed, Locked}
use Rattle.pw_chip.specs.Step.{opened, after_try}
use Rattle.pw_chip.specs.Held.{held}
use Rattle.pw_chip.proofs.StepLemmas.{try_step-refused, try_step-when}
use Rattle.pw_chip.proofs.step.try_leaf.Goals as goal

pub returns-in-Err : goal.returns-in-Err
returns-in-Err c =
    let w = c.args.words.now in
    let number = c.args.number in let aux = c.args.aux.now in let leaf = c.args.leaf.now in
    let o : opened w.keys w.log.newest.root number aux leaf ≡ Err c.in-Err.refusal =
    sym (λ i. opened (c.keys.ensures i) (c.root.ensures i) number aux leaf) ∙ c.in-Err.ensures.refusal in
    try_step-refused w number aux leaf c.args.les.now c.args.now c.in-Err.refusal o ∙ (λ i. (sym c.reply.ensures i, w))

-- a try that may come has tries left
pub tried-requires-clause-room : goal.tried-requires-clause-room
tried-requires-clause-room c =
    let read = c.in-Ok.opened.leaf in
    below_limit read.schedule read.wrong read.last (record { boot = c.era-era.result.boot; at = c.args.now }) c.era-era.result.at c.in-Ok.ensures.schedule
    (λ locked. cc (c.in-Ready.ensures ∙ locked))

pub returns-in-Locked : goal.returns-in-Locked
returns-in-Locked c =
    let w = c.args.words.now in
    let number = c.args.number in let aux = c.args.aux.now in let leaf = c.args.leaf.now in
    let read = c.in-Ok.opened.leaf in
    let o : opened w.keys w.log.newest.root number aux leaf ≡ Ok (held c.in-Ok.opened) =
    sym (λ i. opened (c.keys.ensures i) (c.root.ensures i) number aux leaf) ∙ c.in-Ok.ensures.found in
    let ready : readiness read.schedule read.wrong read.last (record { boot = w.boot; at = c.args.now }) w.start ≡ delay.Locked =
    sym (c.in-Locked.ensures ∙ ap (λ (e : Stamp). readiness read.schedule read.wrong read.last (record { boot = e.boot; at = c.args.now }) e.at) c.era-era.ensures.value) in
    try_step-when w number aux leaf c.args.les.now c.args.now (held c.in-Ok.opened) delay.Locked Locked o ready refl

pub returns-in-Delayed : goal.returns-in-Delayed
returns-in-Delayed c =
    let w = c.args.words.now in
    let number = c.args.number in let aux = c.args.aux.now in let leaf = c.args.leaf.now in
    let read = c.in-Ok.opened.leaf in
    let o : opened w.keys w.log.newest.root number aux leaf ≡ Ok (held c.in-Ok.opened) =
    sym (λ i. opened (c.keys.ensures i) (c.root.ensures i) number aux leaf) ∙ c.in-Ok.ensures.found in
    let ready : readiness read.schedule read.wrong read.last (record { boot = w.boot; at = c.args.now }) w.start ≡ delay.Delayed c.in-Delayed.until =
    sym (c.in-Delayed.ensures ∙ ap (λ (e : Stamp). readiness read.schedule read.wrong read.last (record { boot = e.boot; at = c.args.now }) e.at) c.era-era.ensures.value) in
    try_step-when w number aux leaf c.args.les.now c.args.now (held c.in-Ok.opened) (delay.Delayed c.in-Delayed.until) (Delayed c.in-Delayed.until) o ready refl

pub returns-in-Ready : goal.returns-in-Ready
returns-in-Ready c =
    let w = c.args.words.now in
    let number = c.args.number in let aux = c.args.aux.now in let leaf = c.args.leaf.now in
    let read = c.in-Ok.opened.leaf in
    let x = held c.in-Ok.opened in
    let stamp : Stamp = record { boot = w.boot; at = c.args.now } in
    let o : opened w.keys w.log.newest.root number aux leaf ≡ Ok x =
    sym (λ i. opened (c.keys.ensures i) (c.root.ensures i) number aux leaf) ∙ c.in-Ok.ensures.found in
    let ready : readiness read.schedule read.wrong read.last stamp w.start ≡ delay.Ready =
    sym (c.in-Ready.ensures ∙ ap (λ (e : Stamp). readiness read.schedule read.wrong read.last (record { boot = e.boot; at = c.args.now }) e.at) c.era-era.ensures.value) in
    let label = c.in-Ok.ensures.label in
    let after = c.tried.ensures.after ∙ ap (λ l. after_try w l aux x stamp c.tried.result) label.0 in
    try_step-when w number aux leaf c.args.les.now c.args.now x delay.Ready c.tried.result o ready c.tried.ensures.reply
    ∙ (λ i. (c.tried.result, sym after i))
