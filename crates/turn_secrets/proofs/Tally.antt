-- The loaded stash of a settled state shows the user's editions.
use Rattle.std.proofs.Common.{◌≡◌, Option, None, Some, Bool, refl, sym, ap, ◌∙◌}
use Rattle.std.specs.Prelude.{option_map, if◌then◌else◌}
use Rattle.std.specs.Cmp.Lexicographic.{nat_list_cmp_total}
use Rattle.std.specs.FinMap.{get, same_map, slice_cmp-IsAntisymmetric, nat_cmp-IsAntisymmetric}
use Rattle.name_map.specs.Mapped.{map_values}
use Rattle.name_map.proofs.MappedLemmas.{get-map_values}
use Rattle.account_machine.specs.declared.factor.Factor.{Factor}
use Rattle.account_machine.specs.declared.user.Durable.{Durable}
use Rattle.share_api.specs.Contents.{Bytes, Contents}
use Rattle.stash_format.specs.declared.block.Block.{Block}
use Rattle.stash_format.specs.declared.contents.Contents.{Contents as Stash}
use Rattle.stored_home.specs.Holds.{Keys, IsBlockOf, HoldsBy}
use Rattle.stored_home.specs.Matching.{Matches}
use Rattle.user_state.specs.Fits.{tally_in, tally_of}

module _ (lost : Bool) (contents : Contents) (account : Bytes) (durable : Durable) (keys : Keys) (stash : Stash)
    (h : HoldsBy lost contents account durable keys stash) where
  edition_same : (label : Bytes) (block : Option Block) (factor : Option Factor)
      → Matches (IsBlockOf lost contents.records contents.leaves account keys.main h.resets label) block factor
      → option_map (λ (b : Block). b.edition) block ≡ option_map (λ (f : Factor). f.edition) factor
  edition_same label None None m = refl
  edition_same label None (Some f) m = absurd m
  edition_same label (Some b) None m = absurd m
  edition_same label (Some b) (Some f) m = ap Some m.edition

  editions_same : map_values (λ (b : Block). b.edition) stash.blocks
      ≡ map_values (λ (f : Factor). f.edition) durable.factors
  editions_same =
      same_map nat_list_cmp_total (slice_cmp-IsAntisymmetric nat_cmp-IsAntisymmetric)
      (map_values (λ (b : Block). b.edition) stash.blocks) (map_values (λ (f : Factor). f.edition) durable.factors)
      (λ label. get-map_values (λ (b : Block). b.edition) stash.blocks label
      ∙ edition_same label (get stash.blocks label) (get durable.factors label) (h.blocks label)
      ∙ sym (get-map_values (λ (f : Factor). f.edition) durable.factors label))

  -- the next edition and the editions by label are those of the durable part
  pub same_tally : tally_in (Some stash) ≡ tally_of durable
  same_tally =
      (λ i. Some (h.next i, editions_same i))
      ∙ ap (λ (made : Bool). if made then Some
      (durable.next, map_values (λ (f : Factor). f.edition) durable.factors) else None) (sym h.made)
