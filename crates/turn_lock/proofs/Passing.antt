-- A served seat puts the value back with one entry more, and passes the turn on.
use Rattle.std.proofs.Common.{◌≡◌, ◌≢◌, ℕ, ◌+◌, ◌%◌, ◌^◌, ◌<◌, Bool, true, true≢false, List, [], ◌∷◌, ◌++◌, map, length, get_or, set, sym, refl, ap, ◌∙◌, subst, inl, arith, Option, Some, None, length-append}
use mathlib.Core.Logic.{dite}
use mathlib.Core.Option.{none, some, some-injective}
use native.Mathlib.Decide.{dec_le}
use lib.ListN.{get_elem?}
use Rattle.std.specs.List.{AllByRecursion}
use Rattle.atomic_table.specs.Table.{State, step, gives, put_back, rest, stepped, Allows}
use Rattle.atomic_table.proofs.Lists.{at_last}
use Rattle.turn_lock.specs.declared.table.Content.{Content}
use Rattle.turn_lock.specs.declared.table.SeatState.{SeatState}
use Rattle.turn_lock.specs.declared.table.Stage.TheVariants.{Serving}
use Rattle.turn_lock.specs.Lists.{count_of, entries_of}
use Rattle.turn_lock.specs.Rule.{out, out_at, ticket, ticket_at, before_at, numbers, numbers_if, IsStageOf, IsSeatOf, HoldsOf}
use Rattle.turn_lock.specs.Steps.{after_turn, Holder, PassedOn}
use Rattle.turn_lock.proofs.Sums.{sum_by-set_at, part-le-sum_by, parts-le-sum_by}
use Rattle.turn_lock.proofs.Counts.{count_of-append, count_of-head, absent_of, kept_without, numbers_kept_without, all-append}
use Rattle.turn_lock.proofs.Entries.{entries_of-own, entries_of-other}
use Rattle.turn_lock.proofs.Stages.{stage-passed, numbers-after_turn}
use Rattle.turn_lock.proofs.Changes.{each_stays, apart_stays, owners_stay, many_stays, count_in-le-one, one_slot}

last-injective : {A : Type 0} (xs : List A) (a b : A) → xs ++ a ∷ [] ≡ xs ++ b ∷ [] → a ≡ b
last-injective xs a b same = some-injective a b
    (sym (at_last xs a (length xs) refl)
    ∙ (ap (λ ys. get_elem? ys (length xs)) same ∙ at_last xs b (length xs) refl))

-- the chain in the slot that a seat has out
abbrev chain_or : {T E : Type 0} → List E → Option (Content T E) → List E
chain_or other None = other
chain_or other (Some content) = content.chain

abbrev chain_in : {T E : Type 0} → List (ℕ × Option (Content T E)) → List E
chain_in [] = []
chain_in (slot ∷ slots) = chain_or [] slot.1

-- the numbers of a seat but its own
abbrev other_numbers : {E : Type 0} → SeatState E → List ℕ
other_numbers seat = map (λ known. known.0) seat.joined ++ seat.spare

module _ {E : Type 0} (caller_of : E → ℕ) (entries : List E) (e : E) where
  -- the entries of the numbers in a list that lacks the entry's caller are those that they were
  joined_kept : (joined : List (ℕ × List (ℕ × E)))
      → count_of (caller_of e) (map (λ known. known.0) joined) ≡ 0
      → AllByRecursion (λ known. entries_of caller_of known.0 entries ≡ known.1) joined
      → AllByRecursion (λ known. entries_of caller_of known.0 (entries ++ e ∷ []) ≡ known.1) joined
  joined_kept joined absent = kept_without (λ known. known.0)
      (λ known. entries_of caller_of known.0 entries ≡ known.1)
      (λ known. entries_of caller_of known.0 (entries ++ e ∷ []) ≡ known.1) (caller_of e) joined
      (λ known other was.
      entries_of-other caller_of known.0 entries e (λ same. other (sym same)) ∙ was)
      absent

  spare_kept : (spare : List ℕ)
      → count_of (caller_of e) spare ≡ 0
      → AllByRecursion (λ number. entries_of caller_of number entries ≡ []) spare
      → AllByRecursion (λ number. entries_of caller_of number (entries ++ e ∷ []) ≡ []) spare
  spare_kept spare absent = numbers_kept_without
      (λ number. entries_of caller_of number entries ≡ [])
      (λ number. entries_of caller_of number (entries ++ e ∷ []) ≡ []) (caller_of e) spare
      (λ number other was.
      entries_of-other caller_of number entries e (λ same. other (sym same)) ∙ was)
      absent

  -- what another seat knows stays so
  others_know : (drawn : ℕ) (seat : SeatState E)
      → count_of (caller_of e) (numbers seat) ≡ 0
      → (0 < out seat → ticket seat ≢ length entries)
      → IsSeatOf caller_of entries drawn seat
      → IsSeatOf caller_of (entries ++ e ∷ []) drawn seat
  others_know drawn seat absent not_served known = (
    (λ alive.
        let was = known.0 alive in
        let lacks = absent_of (caller_of e) seat.caller (other_numbers seat)
        (subst (λ (live : Bool). count_of (caller_of e) (numbers_if live seat) ≡ 0) alive absent) in
        let parts = count_of-append (caller_of e) (map (λ known. known.0) seat.joined) seat.spare in
        let none = lacks.1 in record {
          stage = stage-passed entries drawn e seat.stage not_served was.stage;
          own = entries_of-other caller_of seat.caller entries e (λ same. lacks.0 (sym same))
              ∙ was.own;
          joined = joined_kept seat.joined (omega arith) was.joined;
          spare = spare_kept seat.spare (omega arith) was.spare;
        }),
    known.1,
  )

module _ {T E : Type 0} (caller_of : E → ℕ) (means : T → List E → Type 0) (callers : ℕ) where
  abbrev TableState : Type 0
  TableState = State (Option (Content T E)) (SeatState E)

  abbrev Rule : TableState → Type 0
  Rule = HoldsOf caller_of means callers

  -- a served seat that has put back the content, whose chain has one entry more
  pub record MayPass (me : Holder T E) (content : Content T E) (e : E) (before : List E)
      : Type 0 where
    pub live : me.0.live ≡ true
    pub serving : me.0.stage ≡ Serving before
    pub put : me.1 ≡ (0, Some content) ∷ []
    pub longer : content.chain ≡ before ++ e ∷ []
    pub own : caller_of e ≡ me.0.caller
    pub stands : means content.value content.chain

  module _ (me : Holder T E) (content : Content T E) (e : E) (before : List E)
      (may : MayPass me content e before)
      (id : ℕ) (s : TableState) (rule : Rule s) (at : get_elem? s.views id ≡ some me.0) where
    abbrev passed : SeatState E
    passed = after_turn e me.0

    abbrev entries : List E
    entries = rule.entries ++ e ∷ []

    -- the seat knows the entries, and that its ticket was drawn
    spot : (before ≡ rule.entries) × (length rule.entries < rule.drawn)
    spot = subst (IsStageOf rule.entries rule.drawn) may.serving
        ((rule.seats id me.0 at).0 may.live).stage

    known_entries : before_at me.0.stage ≡ rule.entries
    known_entries = ap before_at may.serving ∙ spot.0

    served_ticket : ticket me.0 ≡ length rule.entries
    served_ticket = ap ticket_at may.serving ∙ ap length spot.0

    -- the seat has the caller's number once, as its own
    own_once : count_of (caller_of e) (numbers me.0)
        ≡ 1 + count_of (caller_of e) (other_numbers me.0)
    own_once = subst
        (λ (z : ℕ × Bool). count_of z.0 (numbers_if z.1 me.0)
        ≡ 1 + count_of z.0 (other_numbers me.0))
        (λ i. (sym may.own i, sym may.live i))
        (count_of-head me.0.caller (other_numbers me.0))

    -- no other seat has it
    others_lack : (j : ℕ) (seat : SeatState E)
        → j ≢ id
        → get_elem? s.views j ≡ some seat
        → count_of (caller_of e) (numbers seat) ≡ 0
    others_lack j seat apart there =
        let once = own_once in
        let most = count_in-le-one caller_of means callers s rule (caller_of e) in
        let both = parts-le-sum_by (λ (seat : SeatState E). count_of (caller_of e) (numbers seat))
        s.views j id seat me.0 apart there at in omega arith

    -- no other seat is served
    others_wait : (j : ℕ) (seat : SeatState E)
        → j ≢ id
        → get_elem? s.views j ≡ some seat
        → 0 < out seat
        → ticket seat ≢ length rule.entries
    others_wait j seat apart there is_out same =
        let mine_out : out me.0 ≡ 1 = ap out_at may.serving in
        rule.apart j id seat me.0 apart there at is_out (omega arith) (same ∙ sym served_ticket)

    -- the caller's number is one of the lock's
    caller_within : caller_of e < callers
    caller_within =
        let once = own_once in
        let mine = part-le-sum_by (λ (seat : SeatState E). count_of (caller_of e) (numbers seat))
        s.views id me.0 at in
        dite (dec_le callers (caller_of e))
        (λ above. let none = (rule.owners (caller_of e)).1 above in absurd (omega arith))
        (λ below. omega arith)

    passed_knows : IsSeatOf caller_of entries rule.drawn passed
    passed_knows =
        let was = (rule.seats id me.0 at).0 may.live in
        let once = own_once in
        let most = count_in-le-one caller_of means callers s rule (caller_of e) in
        let mine = part-le-sum_by (λ (seat : SeatState E). count_of (caller_of e) (numbers seat))
        s.views id me.0 at in
        let parts = count_of-append (caller_of e)
        (map (λ known. known.0) me.0.joined) me.0.spare in (
          (λ _. record {
            stage = tt;
            own = entries_of-own caller_of me.0.caller rule.entries e may.own
                ∙ (ap (λ own. own ++ (length rule.entries, e) ∷ []) was.own
                ∙ ap (λ (log : List E). me.0.own ++ (length log, e) ∷ []) (sym known_entries));
            joined = joined_kept caller_of rule.entries e me.0.joined (omega arith) was.joined;
            spare = spare_kept caller_of rule.entries e me.0.spare (omega arith) was.spare;
          }),
          λ spent. absurd (true≢false (sym may.live ∙ spent)),
        )

    passed_rule : Rule (stepped s 1 ((get_or s.words 1 0 + 1) % 2 ^ 64) id me.1 passed gives)
    passed_rule =
        let was_out : out me.0 ≡ 1 = ap out_at may.serving in
        let outs = sum_by-set_at out s.views id me.0 passed at in
        let tickets = rule.tickets in
        let long = length-append rule.entries (e ∷ []) in
        let same = numbers-after_turn me.0.live e me.0 in
        let full : content.chain ≡ entries =
        may.longer ∙ ap (λ log. log ++ e ∷ []) spot.0 in record {
          entries = entries;
          drawn = rule.drawn;
          few = rule.few;
          words_are =
              ap (λ (words : List ℕ). set words 1 ((get_or words 1 0 + 1) % 2 ^ 64)) rule.words_are
              ∙ ap (λ (word : ℕ). rule.drawn % 2 ^ 64 ∷ word ∷ []) (omega arith);
          tickets = omega arith;
          seats = each_stays s.views id me.0 passed (IsSeatOf caller_of entries rule.drawn)
              passed_knows (λ j seat apart there. others_know caller_of rule.entries e rule.drawn seat
              (others_lack j seat apart there) (others_wait j seat apart there)
              (rule.seats j seat there));
          apart = apart_stays s.views id me.0 passed rule.apart
              (λ j other apart there is_out. absurd (omega arith));
          slot = inl (
            content,
            ap (put_back s.homes) may.put ∙ one_slot caller_of means callers s rule (Some content),
            full,
            subst (means content.value) full may.stands,
          );
          owners = owners_stay s.views id me.0 passed at callers same rule.owners;
          many = many_stays s.views id me.0 passed at same ∙ rule.many;
          within = all-append (λ entry. caller_of entry < callers) rule.entries (e ∷ [])
              rule.within (caller_within, tt);
        }

    -- the content and the entry are those that the seat has
    told : PassedOn (step 1 1 1 0 none) me (get_or s.words 1 0) (passed, rest me.1)
    told other entry put longer =
        let one_chain : content.chain ≡ other.chain = ap chain_in (sym may.put ∙ put) in
        let one_entry : e ≡ entry = last-injective before e entry
        (sym may.longer ∙ (one_chain ∙ (longer
        ∙ ap (λ (log : List E). log ++ entry ∷ []) (ap before_at may.serving)))) in (
          ap (λ (words : List ℕ). get_or words 1 0) rule.words_are
              ∙ ap (λ (log : List E). length log % 2 ^ 64) (sym known_entries),
          (λ i. (after_turn (one_entry i) me.0, ap rest put i)),
        )

  -- A served seat that has put the value back may pass the turn on.
  pub passes : (slots id : ℕ) (me : Holder T E) (content : Content T E) (e : E) (before : List E)
      → MayPass me content e before
      → Allows Rule slots id me 1 (λ n. (n + 1) % 2 ^ 64) (PassedOn (step slots 1 1 0 none) me)
  passes slots id me content e before may s rule _ at _ = (
    after_turn e me.0,
    gives,
    tt,
    passed_rule me content e before may id s rule at,
    told me content e before may id s rule at,
  )
