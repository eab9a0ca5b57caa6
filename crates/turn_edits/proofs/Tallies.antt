-- Next editions and editions by label tell durable parts from each other.
use Rattle.std.proofs.Common.{◌≡◌, ◌≢◌, ℕ, ◌+◌, Option, None, Some, Bool, true, cond, refl, sym, ap, ◌∙◌, subst, inr, true≢false, arith}
use Rattle.std.specs.Prelude.{◌⊎◌, IsSome, option_map}
use Rattle.std.specs.Ordering.{nat_cmp}
use Rattle.std.specs.Cmp.Lexicographic.{slice_cmp, nat_list_cmp_total}
use Rattle.std.specs.FinMap.{FinMap, get, remove, empty, same_map, slice_cmp-IsAntisymmetric, nat_cmp-IsAntisymmetric}
use Rattle.name_map.specs.Mapped.{map_values}
use Rattle.name_map.proofs.MappedLemmas.{get-map_values}
use Rattle.account_machine.specs.declared.factor.Factor.{Factor}
use Rattle.account_machine.specs.declared.user.Durable.{Durable}
use Rattle.account_machine.specs.User.{no_home, new_home}
use Rattle.share_api.specs.Contents.{Bytes, Contents, settled}
use Rattle.stash_format.specs.declared.block.Block.{Block}
use Rattle.stash_format.specs.declared.contents.Contents.{Contents as Stash}
use Rattle.stored_home.specs.Holds.{Keys, IsBlockOf, HoldsStash, HoldsUnder}
use Rattle.stored_home.specs.Loaded.{IsKept}
use Rattle.stored_home.specs.Matching.{Matches}
use Rattle.stored_home.specs.declared.stored.Stored.{Stored}
use Rattle.stored_home.proofs.FrameLemmas.{same_stash}
use Rattle.stored_home.proofs.MapLemmas.{not_None, taken_at}
use Rattle.user_state.specs.Fits.{Tally, tally_of, tally_in}

-- two durable parts are one, or have different tallies
abbrev pub AreToldApart : Durable → Durable → Type 0
AreToldApart one two = (one ≡ two) ⊎ (tally_of one ≢ tally_of two)

same_edition : (R : Block → Factor → Type 0) (x : Option Block) (f : Option Factor)
    → ((b : Block) (g : Factor) → R b g → b.edition ≡ g.edition) → Matches R x f
    → option_map (λ (b : Block). b.edition) x ≡ option_map (λ (g : Factor). g.edition) f
same_edition R None None e h = refl
same_edition R None (Some g) e h = absurd h
same_edition R (Some b) None e h = absurd h
same_edition R (Some b) (Some g) e h = ap (λ (n : ℕ). Some n) (e b g h)

-- what is held has the stash's tally
tally_by : (lost : Bool) (contents : Contents) (account : Bytes) (durable : Durable) (keys : Keys) (o : Option Stash)
    → HoldsStash lost contents account durable keys o → tally_in o ≡ tally_of durable
tally_by lost contents account durable keys None h = sym (ap tally_of h)
tally_by lost contents account durable keys (Some stash) h =
    (λ i. Some (
      h.next i,
      same_map nat_list_cmp_total (slice_cmp-IsAntisymmetric nat_cmp-IsAntisymmetric)
          (map_values (λ (b : Block). b.edition) stash.blocks)
          (map_values (λ (g : Factor). g.edition) durable.factors)
          (λ label. get-map_values (λ (b : Block). b.edition) stash.blocks label
          ∙ same_edition (IsBlockOf lost contents.records contents.leaves account keys.main h.resets label)
          (get stash.blocks label) (get durable.factors label) (λ b g r. r.edition) (h.blocks label)
          ∙ sym (get-map_values (λ (g : Factor). g.edition) durable.factors label)) i,
    ))
    ∙ sym (ap (λ (b : Bool). cond b
    (Some (durable.next, map_values (λ (g : Factor). g.edition) durable.factors)) None) h.made)

pub held_tally : (lost : Bool) (contents : Contents) (account : Bytes) (durable : Durable) (keys : Keys)
    (stored : Stored) → HoldsUnder lost contents account durable keys → IsKept lost contents account stored
    → tally_in stored.stash ≡ tally_of durable
held_tally lost contents account durable keys stored holds kept =
    tally_by lost (settled contents) account durable keys stored.stash
    (subst (HoldsStash lost (settled contents) account durable keys)
    (same_stash contents.records account holds.stash stored.stash holds.there kept.is_loaded.stash) holds.holds)

-- a home is told from none
pub home_told : AreToldApart no_home new_home
home_told = inr (λ e. not_None (1, map_values (λ (g : Factor). g.edition) empty) (sym e))

next_in : ℕ → Tally → ℕ
next_in n None = n
next_in n (Some t) = t.0

made_tally : (durable : Durable) → durable.made ≡ true
    → tally_of durable ≡ Some (durable.next, map_values (λ (g : Factor). g.edition) durable.factors)
made_tally durable made =
    ap (λ (b : Bool). cond b (Some (durable.next, map_values (λ (g : Factor). g.edition) durable.factors)) None) made

-- a later next edition tells
pub edition_told : (one two : Durable) → one.made ≡ true → two.made ≡ true → two.next ≡ one.next + 1
    → AreToldApart one two
unfolding next_in
edition_told one two made made_two next = inr (λ e.
    let k : one.next ≡ two.next =
    ap (next_in one.next) (sym (made_tally one made) ∙ e ∙ made_tally two made_two) in
    omega (arith, k, next))

factors_in : FinMap (slice_cmp nat_cmp) ℕ → Tally → FinMap (slice_cmp nat_cmp) ℕ
factors_in m None = m
factors_in m (Some t) = t.1

edition_there : (o : Option Factor) → IsSome o → option_map (λ (g : Factor). g.edition) o ≡ None → ⊥
edition_there None some e = true≢false (sym some)
edition_there (Some g) some e = not_None g.edition e

-- and so does a factor that is gone
pub removal_told : (durable : Durable) (label : Bytes) → durable.made ≡ true → IsSome (get durable.factors label)
    → AreToldApart durable (record durable { factors = remove durable.factors label })
unfolding factors_in
removal_told durable label made some = inr (λ e.
    let editions = λ (m : FinMap (slice_cmp nat_cmp) Factor). map_values (λ (g : Factor). g.edition) m in
    let k : map_values (λ (g : Factor). g.edition) durable.factors
    ≡ map_values (λ (g : Factor). g.edition) (remove durable.factors label) =
    ap (factors_in empty) (sym (made_tally durable made) ∙ e
    ∙ made_tally (record durable { factors = remove durable.factors label }) made) in
    edition_there (get durable.factors label) some
    (sym (get-map_values (λ (g : Factor). g.edition) durable.factors label)
    ∙ ap (λ (m : FinMap (slice_cmp nat_cmp) ℕ). get m label) k
    ∙ get-map_values (λ (g : Factor). g.edition) (remove durable.factors label) label
    ∙ ap (option_map (λ (g : Factor). g.edition)) (taken_at durable.factors label)))
