-- A turn at the number that a clock gave.
use Rattle.std.proofs.Common.{◌≡◌, ℕ, List, ◌<◌, ◌^◌, max, Option, None, Some, refl, sym, ap, subst}
use Rattle.account_machine.specs.declared.entry.Entry.{Entry}
use Rattle.account_machine.specs.declared.user.User.{User}
use Rattle.account_machine.specs.Step.{Step, Turned}
use Rattle.share_api.specs.Contents.{Contents}
use Rattle.share_api.specs.Seen.{ShareSeen}
use Rattle.stored_home.specs.Holds.{Keys}
use Rattle.user_state.specs.Fits.{Fits, StandsBy, is_lost}
use Rattle.user_state.specs.declared.state.Doubt.{Doubt}
use Rattle.user_state.specs.declared.state.Doubt.TheVariants.{Editions, File, Leaf}
use Rattle.user_state.specs.declared.state.UserState.{UserState}
use Rattle.pw_types.specs.declared.era.Era.{Era}
use Rattle.share_api.specs.declared.step.Step.{Step as DeviceStep}
use Rattle.user_turn.specs.Acts.{IsTurn, IsAct, entry_by}
use Rattle.user_turn.specs.Moves.{Moves}
use Rattle.user_turn.proofs.Turning.{turns_more}

abbrev timely : UserState → ℕ → UserState
timely state moment = record state { last = moment }

timely_by : (state : UserState) (contents : Contents) (user : User) (now then_ : ℕ) (doubt : Option Doubt)
    → StandsBy doubt state contents user → StandsBy doubt (timely state now) contents (record user { last = then_ })
timely_by state contents user now then_ None h = record { none = h.none; kept = h.kept; files = h.files }
timely_by state contents user now then_ (Some Editions) h =
    record { other = h.other; other_is = h.other_is; tells = h.tells }
timely_by state contents user now then_ (Some (File name bytes)) h =
    record { other = h.other; other_is = h.other_is; tells = h.tells }
timely_by state contents user now then_ (Some (Leaf label tree view)) h =
    record { other = h.other; other_is = h.other_is; tells = h.tells }

timely_fits : (state : UserState) (contents : Contents) (user : User) (keys : Keys) (given : ℕ)
    → Fits state contents user keys
    → Fits (timely state (max state.last given)) contents (record user { last = max user.last given }) keys
timely_fits state contents user keys given h = record {
  sessions = h.sessions;
  next_session = h.next_session;
  mounted = h.mounted;
  last = ap (λ n. max n given) h.last;
  stands = timely_by state contents user (max state.last given) (max user.last given) state.doubt h.stands;
  has_keys = record { proved = h.has_keys.proved; mount = h.has_keys.mount };
}

-- what was done at the moment that counts was done of the state before
moved_at : (era : Era) (before after : UserState) (entry : Entry) (steps : List DeviceStep)
    → entry.moment ≡ max before.last entry.given
    → Moves era (timely before (max before.last entry.given))
    (entry_by entry.caller entry.given (max before.last entry.given) entry.turn entry.told entry.answer entry.place)
    steps after
    → Moves era before entry steps after
moved_at era before after entry steps moment h =
    let m : Moves era (timely before (max before.last entry.given)) entry steps after =
    subst (λ (n : ℕ). Moves era (timely before (max before.last entry.given))
    (entry_by entry.caller entry.given n entry.turn entry.told entry.answer entry.place) steps after) (sym moment) h in
    record {
      account = m.account;
      cost = m.cost;
      costs = m.costs;
      draws = m.draws;
      token = λ ends token e. let t = m.token ends token e in
          record { number = t.number; tail = t.tail; drawn = t.drawn };
      fault = m.fault;
      row = λ no. let r = m.row no in record {
        stored = r.stored;
        same = r.same;
        ends = r.ends;
        damaged = r.damaged;
        refusal = r.refusal;
        refused = r.refused;
        quiet = r.quiet;
        unmoved = r.unmoved;
      };
      failed = λ e. let f = m.failed e in
          record { refused = f.refused; ends = f.ends; same = f.same; damaged = f.damaged };
    }

-- A turn at the greater of the account's last moment and the number that the clock gave is a step of the machine.
pub acted : (old new : ShareSeen) (before after : UserState) (entry : Entry) → entry.given < 2 ^ 40
    → entry.moment ≡ max before.last entry.given
    → IsTurn old new (record before { last = max before.last entry.given }) after entry.turn entry.told entry.answer
    → IsAct old new before after entry
acted old new before after entry below moment h = record {
  steps = h.steps;
  runs = h.runs;
  settled = h.settled;
  fault = h.fault;
  keeps = record { account = h.keeps.account; cost = h.keeps.cost; lost = h.keeps.lost };
  moves = moved_at old.era before after entry h.steps moment (h.moves entry.caller entry.given entry.place);
  right = λ seen contents user held keys p.
      let now : User = record user { last = max user.last entry.given } in
      let t = h.right seen contents (record user { last = max user.last entry.given }) held keys (record {
        among = p.among;
        clean = p.clean;
        fits = timely_fits before contents user keys entry.given p.fits;
        which = p.which;
        holds = p.holds;
      }) in
      let same : entry.moment ≡ max user.last entry.given =
      Rattle.std.proofs.Common.◌∙◌ moment (ap (λ n. max n entry.given) p.fits.last) in
      let more = turns_more old.era seen (is_lost before) before.account held
      (Turned old.era (record user { last = max user.last entry.given }) entry.told entry.turn entry.answer)
      (λ next. Step old.era user entry next) after h.steps (record user { last = max user.last entry.given }) contents
      (λ next turned. record {
        given = below;
        moment = same;
        turned = subst (λ n. Turned old.era (record user { last = n }) entry.told entry.turn entry.answer next)
            (sym same) turned;
      }) t in
      record {
        throughout = more.throughout;
        leads = λ end fold. let l = more.leads end fold in record {
          next = l.next;
          keys = l.keys;
          allowed = l.allowed;
          fits = l.fits;
          holds = l.holds;
          idle = λ e. record { durable = (l.idle e).durable; other = (l.idle e).other };
        };
      };
}
