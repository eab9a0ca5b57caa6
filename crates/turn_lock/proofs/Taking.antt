-- A waiting seat looks which ticket is served, and takes the value where it is its own.
use Rattle.std.proofs.Common.{◌≡◌, ℕ, ◌+◌, ◌%◌, ◌^◌, ◌<◌, ◌≤◌, true, true≢false, List, length, get_or, set, sym, refl, ap, ◌∙◌, subst, ⊎_elim, inr, arith, Option, Some}
use mathlib.Core.Logic.{dite}
use mathlib.Core.Option.{none, some, some-injective}
use native.Mathlib.Decide.{ℕ_discrete}
use lib.ListN.{get_elem?}
use lib.Seq.{set-get_or}
use Rattle.atomic_table.specs.Table.{State, step, keeps, takes, stepped, Allows}
use Rattle.atomic_table.proofs.Lists.{set_again, one_turn}
use Rattle.turn_lock.specs.declared.table.Content.{Content}
use Rattle.turn_lock.specs.declared.table.SeatState.{SeatState}
use Rattle.turn_lock.specs.declared.table.Stage.{Stage}
use Rattle.turn_lock.specs.declared.table.Stage.TheVariants.{Waiting, Serving}
use Rattle.std.specs.Prelude.{All, []}
use Rattle.std.proofs.lemmas.List.Elements.{All-from_recursion}
use Rattle.turn_lock.specs.Lists.{entries_of}
use Rattle.turn_lock.specs.Rule.{out, out_at, ticket, ticket_at, IsStageOf, IsSeatOf, IsLive, IsKnown, Homes, IsHome, IsAway, HoldsOf}
use Rattle.turn_lock.specs.Steps.{at_stage, Holder, LookedAtServing}
use Rattle.turn_lock.proofs.Sums.{sum_by-set_same}
use Rattle.turn_lock.proofs.Stages.{waiting_or_served, numbers-at_stage}
use Rattle.turn_lock.proofs.Changes.{get-set_here, each_stays, apart_stays, owners_stay, many_stays, drawn-lt}

module _ {T E : Type 0} (caller_of : E → ℕ) (means : T → List E → Type 0) (callers : ℕ) where
  abbrev TableState : Type 0
  TableState = State (Option (Content T E)) (SeatState E)

  abbrev Rule : TableState → Type 0
  Rule = HoldsOf caller_of means callers

  module _ (me : Holder T E) (number : ℕ) (live : me.0.live ≡ true)
      (waits : me.0.stage ≡ Waiting number)
      (id : ℕ) (s : TableState) (rule : Rule s) (at : get_elem? s.views id ≡ some me.0) where
    -- where its ticket is served, no seat has the value
    not_away : number ≡ length rule.entries
        → IsAway rule.entries s.homes s.views → IsHome means rule.entries s.homes
    not_away here away =
        let j : ℕ = away.1.0 in
        let other : SeatState E = away.1.1.0 in
        let there = away.1.1.1 in
        let served = away.1.1.2 in dite (ℕ_discrete j id)
        (λ same.
        let it : me.0 ≡ other = some-injective me.0 other
        (sym at ∙ (ap (get_elem? s.views) (sym same) ∙ there)) in
        absurd (waiting_or_served rule.entries number me.0.stage
        (ap (λ (seat : SeatState E). seat.stage) it ∙ served) waits))
        (λ apart.
        let other_out : out other ≡ 1 = ap out_at served in
        let mine_out : out me.0 ≡ 1 = ap out_at waits in
        absurd (rule.apart j id other me.0 apart there at (omega arith) (omega arith)
        (ap ticket_at served ∙ (sym here ∙ sym (ap ticket_at waits)))))

    finds : number ≡ length rule.entries → IsHome means rule.entries s.homes
    finds here = ⊎_elim (λ home. home) (not_away here) rule.slot

    -- the seat's ticket is no less than the one that is served, and was drawn
    spot : (length rule.entries ≤ number) × (number < rule.drawn)
    spot = subst (IsStageOf rule.entries rule.drawn) waits ((rule.seats id me.0 at).0 live).stage

    serving_word : get_or s.words 1 0 ≡ length rule.entries % 2 ^ 64
    serving_word = ap (λ (words : List ℕ). get_or words 1 0) rule.words_are

    -- one number modulo 2^64 is one ticket, since so few are out
    is_served : get_or s.words 1 0 ≡ number % 2 ^ 64 → length rule.entries ≡ number
    is_served found =
        let low = spot.0 in
        let high = spot.1 in
        let few = drawn-lt caller_of means callers s rule in
        one_turn (length rule.entries) number (2 ^ 64) low (omega arith) (sym serving_word ∙ found)

    module _ (here : length rule.entries ≡ number) where
      home : IsHome means rule.entries s.homes
      home = finds (sym here)

      abbrev content : Content T E
      content = home.0

      -- the seat with the value
      abbrev serving : SeatState E
      serving = at_stage (Serving content.chain) me.0

      serving_knows : IsSeatOf caller_of rule.entries rule.drawn serving
      serving_knows =
          let was = (rule.seats id me.0 at).0 live in
          let high = spot.1 in (
            (λ _. record {
              stage = (home.2, omega arith);
              own = was.own;
              joined = was.joined;
              spare = was.spare;
            }),
            λ spent. absurd (true≢false (sym live ∙ spent)),
          )

      -- what the seat knows of its numbers is their entries in the chain
      known_here : IsKnown caller_of content.chain me.0
      known_here =
          let was : IsLive caller_of rule.entries rule.drawn me.0 = (rule.seats id me.0 at).0 live in
          let entries = sym home.2 in record {
            own = subst (λ (log : List E). entries_of caller_of me.0.caller log ≡ me.0.own) entries was.own;
            joined = subst
                (λ (log : List E). All (λ one. entries_of caller_of one.0 log ≡ one.1) me.0.joined)
                entries (All-from_recursion _ me.0.joined was.joined);
            spare = subst
                (λ (log : List E). All (λ number. entries_of caller_of number log ≡ []) me.0.spare)
                entries (All-from_recursion _ me.0.spare was.spare);
          }

      taken_rule : Rule (stepped s 1 (get_or s.words 1 0) id me.1 serving (takes 0 (Some content)))
      taken_rule =
          let was_out : out me.0 ≡ 1 = ap out_at waits in
          let place : ticket me.0 ≡ number = ap ticket_at waits in
          let long : length content.chain ≡ length rule.entries = ap length home.2 in
          let same = numbers-at_stage me.0.live (Serving content.chain) me.0 in record {
            entries = rule.entries;
            drawn = rule.drawn;
            few = rule.few;
            words_are = set-get_or s.words 1 0 ∙ rule.words_are;
            tickets = ap (λ (outs : ℕ). length rule.entries + outs)
                (sum_by-set_same out s.views id me.0 serving at (sym was_out)) ∙ rule.tickets;
            seats = each_stays s.views id me.0 serving (IsSeatOf caller_of rule.entries rule.drawn)
                serving_knows (λ j seat _ there. rule.seats j seat there);
            apart = apart_stays s.views id me.0 serving rule.apart
                (λ j other apart there _ is_out same. rule.apart j id other me.0 apart there at
                is_out (omega arith) (omega arith));
            slot = inr (
              ap (λ (homes : Homes T E). set homes 0 none) home.1,
              (
                id,
                (
                  serving,
                  get-set_here s.views id me.0 serving at,
                  ap (λ (entries : List E). let stage : Stage E = Serving entries in stage) home.2,
                ),
              ),
            );
            owners = owners_stay s.views id me.0 serving at callers same rule.owners;
            many = many_stays s.views id me.0 serving at same ∙ rule.many;
            within = rule.within;
          }

    -- the table as it was, where the seat only looked
    unmoved : Rule (stepped s 1 (get_or s.words 1 0) id me.1 me.0 keeps)
    unmoved = subst Rule
        (λ i. record {
          words = sym (set-get_or s.words 1 0) i;
          homes = s.homes;
          views = sym (set_again s.views id me.0 at) i;
        }) rule

    -- it waits for one ticket alone
    one_ticket : (other : ℕ) → me.0.stage ≡ Waiting other → number % 2 ^ 64 ≡ other % 2 ^ 64
    one_ticket other is = ap (λ (n : ℕ). n % 2 ^ 64) (ap ticket_at (sym waits ∙ is))

  -- A waiting seat may look, and take the value where its ticket is served.
  pub looks : (holds : SeatState E → T → List E → Type 0)
      → ((seat : SeatState E) (value : T) (entries : List E) → means value entries
      → IsKnown caller_of entries seat → holds seat value entries)
      → (slots id : ℕ) (me : Holder T E) (number : ℕ)
      → me.0.live ≡ true
      → me.0.stage ≡ Waiting number
      → Allows Rule slots id me 1 (λ n. n) (LookedAtServing holds (step slots 1 0 0 none) me)
  looks holds so slots id me number live waits s rule _ at _ =
      dite (ℕ_discrete (get_or s.words 1 0) (number % 2 ^ 64))
      (λ found.
      let here = is_served me number live waits id s rule at found in
      let home = home me number live waits id s rule at here in
      let content : Content T E = home.0 in
      let stands = so me.0 content.value content.chain
      (subst (means content.value) (sym home.2) home.3)
      (known_here me number live waits id s rule at here) in (
        serving me number live waits id s rule at here,
        takes 0 (Some content),
        ap (λ (homes : Homes T E). get_elem? homes 0) home.1,
        taken_rule me number live waits id s rule at here,
        (λ other is. (
          (λ _. (content, refl, stands)),
          (λ missed. absurd (missed
              (found ∙ one_ticket me number live waits id s rule at other is))),
        )),
      ))
      (λ missed. (
        me.0,
        keeps,
        tt,
        unmoved me number live waits id s rule at,
        (λ other is. (
          (λ found. absurd (missed
              (found ∙ sym (one_ticket me number live waits id s rule at other is)))),
          (λ _. refl),
        )),
      ))
