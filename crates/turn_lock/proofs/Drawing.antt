-- A ticket is drawn: the rule is kept.
use Rattle.std.proofs.Common.{◌≡◌, ℕ, ◌+◌, ◌%◌, ◌^◌, ◌<◌, true, true≢false, List, [], ◌∷◌, length, get_or, set, sym, refl, ap, ◌∙◌, ⊎_elim, inl, inr, arith, Option}
use mathlib.Core.Option.{none, some}
use lib.ListN.{get_elem?}
use Rattle.atomic_table.specs.Table.{State, step, keeps, stepped, Allows}
use Rattle.turn_lock.specs.declared.table.Content.{Content}
use Rattle.turn_lock.specs.declared.table.SeatState.{SeatState}
use Rattle.turn_lock.specs.declared.table.Stage.TheVariants.{Idle, Waiting}
use Rattle.turn_lock.specs.Rule.{out, out_at, ticket, IsSeatOf, HoldsOf}
use Rattle.turn_lock.specs.Steps.{at_stage, Holder, DrewTicket}
use Rattle.turn_lock.proofs.Sums.{sum_by-set_at}
use Rattle.turn_lock.proofs.Stages.{idle_or_served, stage-drawn, ticket-lt-drawn, numbers-at_stage}
use Rattle.turn_lock.proofs.Changes.{each_stays, apart_stays, owners_stay, many_stays, away_stays}

module _ {T E : Type 0} (caller_of : E → ℕ) (means : T → List E → Type 0) (callers : ℕ) where
  abbrev TableState : Type 0
  TableState = State (Option (Content T E)) (SeatState E)

  abbrev Rule : TableState → Type 0
  Rule = HoldsOf caller_of means callers

  module _ (me : Holder T E) (live : me.0.live ≡ true) (idle : me.0.stage ≡ Idle)
      (id : ℕ) (s : TableState) (rule : Rule s) (at : get_elem? s.views id ≡ some me.0) where
    -- the seat with the next ticket
    abbrev waiting : SeatState E
    waiting = at_stage (Waiting rule.drawn) me.0

    abbrev after : TableState
    after = stepped s 0 ((get_or s.words 0 0 + 1) % 2 ^ 64) id me.1 waiting keeps

    knows_later : (seat : SeatState E)
        → IsSeatOf caller_of rule.entries rule.drawn seat
        → IsSeatOf caller_of rule.entries (rule.drawn + 1) seat
    knows_later seat known = (
      (λ alive. let was = known.0 alive in record {
        stage = stage-drawn rule.entries rule.drawn seat.stage was.stage;
        own = was.own;
        joined = was.joined;
        spare = was.spare;
      }),
      known.1,
    )

    waiting_knows : IsSeatOf caller_of rule.entries (rule.drawn + 1) waiting
    waiting_knows =
        let was = (rule.seats id me.0 at).0 live in
        let tickets = rule.tickets in (
          (λ _. record {
            stage = (omega arith, omega arith);
            own = was.own;
            joined = was.joined;
            spare = was.spare;
          }),
          λ spent. absurd (true≢false (sym live ∙ spent)),
        )

    drawn_rule : Rule after
    drawn_rule =
        let was_out : out me.0 ≡ 0 = ap out_at idle in
        let outs = sum_by-set_at out s.views id me.0 waiting at in
        let tickets = rule.tickets in
        let same = numbers-at_stage me.0.live (Waiting rule.drawn) me.0 in record {
          entries = rule.entries;
          drawn = rule.drawn + 1;
          few = rule.few;
          words_are =
              ap (λ (words : List ℕ). set words 0 ((get_or words 0 0 + 1) % 2 ^ 64)) rule.words_are
              ∙ ap (λ (word : ℕ). word ∷ length rule.entries % 2 ^ 64 ∷ []) (omega arith);
          tickets = omega arith;
          seats = each_stays s.views id me.0 waiting
              (IsSeatOf caller_of rule.entries (rule.drawn + 1)) waiting_knows
              (λ j seat _ there. knows_later seat (rule.seats j seat there));
          apart = apart_stays s.views id me.0 waiting rule.apart (λ j other _ there _ is_out same.
              let drawn : ticket other < rule.drawn = ticket-lt-drawn caller_of rule.entries
              rule.drawn other (rule.seats j other there) is_out in omega arith);
          slot = ⊎_elim inl (λ away. inr (away_stays s.views id me.0 waiting at rule.entries s.homes
              (λ served. absurd (idle_or_served rule.entries (sym idle ∙ served))) away)) rule.slot;
          owners = owners_stay s.views id me.0 waiting at callers same rule.owners;
          many = many_stays s.views id me.0 waiting at same ∙ rule.many;
          within = rule.within;
        }

  -- An idle seat may draw a ticket.
  pub draws : (slots id : ℕ) (me : Holder T E)
      → me.0.live ≡ true
      → me.0.stage ≡ Idle
      → Allows Rule slots id me 0 (λ n. (n + 1) % 2 ^ 64) (DrewTicket (step slots 0 1 0 none) me)
  draws slots id me live idle s rule _ at _ = (
    waiting me live idle id s rule at,
    keeps,
    tt,
    drawn_rule me live idle id s rule at,
    (rule.drawn, sym (ap (λ (words : List ℕ). get_or words 0 0) rule.words_are), refl),
  )
