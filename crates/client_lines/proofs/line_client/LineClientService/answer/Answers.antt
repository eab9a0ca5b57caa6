-- One more line is answered.
use Rattle.std.proofs.Common.{◌≡◌, ◌≢◌, List, ◌++◌, Option, Some, Result, Ok, Err, refl, sym, ap, ◌∙◌, subst}
use Rattle.account_machine.specs.declared.request.Request.{Request}
use Rattle.client_lang.specs.declared.line.LineFault.{LineFault}
use Rattle.client_lang.specs.declared.line.LineFault.TheVariants as faults
use Rattle.client_lang.specs.Replies.{Replies, fault_text}
use Rattle.request_loop.specs.Exchange.{Exchange}
use Rattle.request_loop.specs.Lines.{line_seen}
use Rattle.client_output.specs.Grown.{Calls}
use Rattle.client_output.specs.Output.{asked_by}
use Rattle.client_output.proofs.Growing.{grew_call, grew_fault}
use Rattle.client_output.proofs.Telling.{told}
use Rattle.client_lines.specs.Seats.{seen_at, bare_at}
use Rattle.client_lines.proofs.Answering.{answered_more, ok_is_no_fault}
use Rattle.client_lines.proofs.line_client.LineClientService.answer.Goals as goal

-- A line without a request leaves the seat.
pub returns-in-Err-clause-answered : goal.returns-in-Err-clause-answered
returns-in-Err-clause-answered g c = λ start earlier before.
    let home = c.args.self.now.home.now in
    let pins = g.H.Home.pins home in
    let seat = c.args.self.now.seat in
    let fault = c.in-Err.fault in
    let line : Exchange = record {
      line = line_seen c.args.line;
      moment = c.args.moment;
      reply = c.fault_text.new.out.items;
    } in
    let asked : ◌≢◌ {A = Result Request LineFault} (Err fault) (Err faults.NoMemory) → Err fault ≡ asked_by pins line.line =
    λ other. sym c.in-Err.is
    ∙ c.asked.ensures.exact (λ starved. other (sym c.in-Err.is ∙ starved))
    ∙ ap (λ has. asked_by has line.line) c.has_pins.ensures.value in
    answered_more g.H.Home.pins g.H.Home.seen g.H.Home.bare start.home.now home start.seat seat seat earlier line
    before refl
    (grew_fault pins (seen_at (g.H.Home.seen home) seat) line fault asked
    (c.fault_text.ensures.text ∙ ap (λ (front : List _). front ++ fault_text fault) c.requires.empty))

-- A request makes its turns.
pub returns-in-Ok-clause-answered : goal.returns-in-Ok-clause-answered
returns-in-Ok-clause-answered g c = λ start earlier before.
    let home = c.args.self.now.home.now in
    let pins = g.H.Home.pins home in
    let seen = g.H.Home.seen home in
    let seat = c.args.self.now.seat in
    let new = c.call-seat.result.0 in
    let answer = c.call-seat.result.1 in
    let request = c.in-Ok.request in
    let line : Exchange = record {
      line = line_seen c.args.line;
      moment = c.args.moment;
      reply = c.reply_text.new.out.items;
    } in
    let was : Some c.unwrap-seat.result ≡ seat = sym c.unwrap-seat.ensures ∙ c.take.ensures.value in
    let asked : asked_by pins line.line ≡ Ok request =
    sym (ap (λ has. asked_by has line.line) c.has_pins.ensures.value)
    ∙ sym (c.asked.ensures.exact (λ starved. ok_is_no_fault request (sym c.in-Ok.is ∙ starved)))
    ∙ c.in-Ok.is in
    answered_more g.H.Home.pins g.H.Home.seen g.H.Home.bare start.home.now home start.seat seat (Some new) earlier line
    before
    (ap Some c.call-seat.ensures.bare ∙ ap (bare_at g.H.Home.bare) was)
    (grew_call pins (seen_at seen seat) (seen new) line request answer asked
    (told answer line.reply c.call-seat.ensures.named
    (subst (λ (front : List _). Replies answer front line.reply) c.requires.empty c.reply_text.ensures.text))
    (subst (λ (s : Option _). Calls (seen_at seen s) (seen new) request c.args.moment answer) was
    c.call-seat.ensures.calls))
