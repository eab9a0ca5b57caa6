-- The lines of the loaded factors are those of the user's.
use Rattle.std.proofs.Common.{◌≡◌, ℕ, List, [], ◌∷◌, map, Bool, true, false, Option, None, Some, refl, sym, ap, ◌∙◌, subst}
use Rattle.std.specs.Prelude.{option_map, if◌then◌else◌}
use Rattle.std.specs.Ordering.{nat_cmp}
use Rattle.std.specs.Cmp.Lexicographic.{slice_cmp, nat_list_cmp_total}
use Rattle.std.specs.FinMap.{FinMap, get, entries, same_map, slice_cmp-IsAntisymmetric, nat_cmp-IsAntisymmetric}
use Rattle.name_map.specs.Mapped.{map_values}
use Rattle.name_map.proofs.MappedLemmas.{entries-map_values, get-map_values}
use Rattle.account_machine.specs.declared.answer.FactorLine.{FactorLine}
use Rattle.account_machine.specs.declared.factor.Factor.{Factor}
use Rattle.account_machine.specs.declared.factor.Kind.{Kind}
use Rattle.account_machine.specs.declared.factor.Kind.TheVariants.{Password, Pin}
use Rattle.account_machine.specs.declared.user.Durable.{Durable}
use Rattle.account_machine.specs.Effect.{line_of, line_without_count}
use Rattle.account_machine.specs.Outline.{is_pin_kind}
use Rattle.factor_files.specs.declared.factor.FactorRecord.{FactorRecord}
use Rattle.share_api.specs.Contents.{Bytes, Contents, Leaves}
use Rattle.share_api.specs.declared.leaf.Leaf.{Leaf}
use Rattle.stash_format.specs.declared.block.Block.{Block}
use Rattle.stash_format.specs.declared.contents.Contents.{Contents as Stash}
use Rattle.stash_format.specs.Resets.{Resets}
use Rattle.stored_home.specs.Holds.{Keys, IsBlockOf, OpensBy, HoldsBy, record_at}
use Rattle.stored_home.specs.Loaded.{Rows, IsRowOf}
use Rattle.stored_home.specs.Matching.{Matches}
use Rattle.stored_home.proofs.MapLemmas.{from_some}
use Rattle.turn_secrets.specs.Listing.{leaf_count, count_in, line_in}

-- what a line has beside its label
abbrev Told : Type 0
Told = Kind × Option ℕ

-- the line of what is told
abbrev line_told : Bytes × Told → FactorLine
line_told row = record { label = row.0; kind = row.1.0; wrong = row.1.1 }

-- lines by rows are lines by what is told of them
lines_by : {V : Type 0} (told : V → Told) (rows : List (Bytes × V))
    → map line_told (map (λ (row : Bytes × V). (row.0, told row.1)) rows)
    ≡ map (λ (row : Bytes × V). line_told (row.0, told row.1)) rows
lines_by told [] = refl
lines_by told (row ∷ rows) = ap (λ more. line_told (row.0, told row.1) ∷ more) (lines_by told rows)

-- maps that tell the same have the same lines
same_lines : {V W : Type 0} (f : V → Told) (g : W → Told) (m : FinMap (slice_cmp nat_cmp) V)
    (n : FinMap (slice_cmp nat_cmp) W)
    → ((label : Bytes) → option_map f (get m label) ≡ option_map g (get n label))
    → map (λ (row : Bytes × V). line_told (row.0, f row.1)) (entries m)
    ≡ map (λ (row : Bytes × W). line_told (row.0, g row.1)) (entries n)
same_lines f g m n same =
    let one : map_values f m ≡ map_values g n =
    same_map nat_list_cmp_total (slice_cmp-IsAntisymmetric nat_cmp-IsAntisymmetric) (map_values f m) (map_values g n)
    (λ label. get-map_values f m label ∙ same label ∙ sym (get-map_values g n label)) in
    sym (lines_by f (entries m))
    ∙ ap (map line_told) (sym (entries-map_values f m))
    ∙ ap (λ (x : FinMap (slice_cmp nat_cmp) Told). map line_told (entries x)) one
    ∙ ap (map line_told) (entries-map_values g n)
    ∙ lines_by g (entries n)

-- ---- what is told of a factor

-- of a record beside leaves, of a factor, and of a factor without its count
abbrev told_of_row : Bool → Leaves → FactorRecord → Told
told_of_row lost leaves row = (row.kind, count_in row.kind lost leaves row.leaf)

abbrev told_of : Factor → Told
told_of factor = (factor.kind, if is_pin_kind factor.kind then Some factor.wrong else None)

abbrev told_without : Factor → Told
told_without factor = (factor.kind, None)

-- without a tree there are no counts
no_count : (kind : Kind) (leaves : Leaves) (tree : Option ℕ) → count_in kind true leaves tree ≡ None
no_count Password leaves tree = refl
no_count Pin leaves tree = refl

module _ (contents : Contents) (account : Bytes) (durable : Durable) (keys : Keys) (stash : Stash) where
  -- a PIN's leaf has its count
  count_held : (resets : Resets) (label : Bytes) (block : Block) (row : FactorRecord) (factor : Factor) (kind : Kind)
      → OpensBy false kind contents.leaves resets account keys.main label block row factor
      → count_in kind false contents.leaves row.leaf ≡ (if is_pin_kind kind then Some factor.wrong else None)
  count_held resets label block row factor Password opens = refl
  count_held resets label block row factor Pin opens =
      ap (leaf_count contents.leaves) opens.names
      ∙ ap (option_map (λ (leaf : Leaf). leaf.wrong)) opens.found
      ∙ ap Some opens.own.wrong

  module _ (lost : Bool) (h : HoldsBy lost contents account durable keys stash) where
    abbrev IsBlock : Bytes → Block → Factor → Type 0
    IsBlock label block factor =
        IsBlockOf lost contents.records contents.leaves account keys.main h.resets label block factor

    -- the record that is loaded is the factor's
    row_of : (label : Bytes) (block : Block) (row : FactorRecord) (factor : Factor)
        → (is : IsBlock label block factor) → IsRowOf contents.records account label block row → is.row ≡ row
    row_of label block row factor is read =
        from_some is.row row
        (sym is.read ∙ ap (record_at contents.records account label) (sym is.edition)
        ∙ read.read)

    told_lost : lost ≡ true → (label : Bytes) (block : Option Block) (row : Option FactorRecord) (factor : Option
        Factor)
        → Matches (IsBlock label) block factor → Matches (IsRowOf contents.records account label) block row
        → option_map (told_of_row lost contents.leaves) row ≡ option_map told_without factor
    told_lost is_lost label None None None m k = refl
    told_lost is_lost label None None (Some f) m k = absurd m
    told_lost is_lost label None (Some r) f m k = absurd k
    told_lost is_lost label (Some b) None f m k = absurd k
    told_lost is_lost label (Some b) (Some r) None m k = absurd m
    told_lost is_lost label (Some b) (Some r) (Some f) m k =
        let kind : r.kind ≡ f.kind = ap (λ (x : FactorRecord). x.kind) (sym (row_of label b r f m k)) ∙ m.kind_is in
        (λ i. Some (kind i, count_in r.kind (is_lost i) contents.leaves r.leaf))
        ∙ (λ i. Some (f.kind, no_count r.kind contents.leaves r.leaf i))

    told_held : lost ≡ false → (label : Bytes) (block : Option Block) (row : Option FactorRecord) (factor : Option
        Factor)
        → Matches (IsBlock label) block factor → Matches (IsRowOf contents.records account label) block row
        → option_map (told_of_row lost contents.leaves) row ≡ option_map told_of factor
    told_held whole label None None None m k = refl
    told_held whole label None None (Some f) m k = absurd m
    told_held whole label None (Some r) f m k = absurd k
    told_held whole label (Some b) None f m k = absurd k
    told_held whole label (Some b) (Some r) None m k = absurd m
    told_held whole label (Some b) (Some r) (Some f) m k =
        let same : m.row ≡ r = row_of label b r f m k in
        let kind : r.kind ≡ f.kind = ap (λ (x : FactorRecord). x.kind) (sym same) ∙ m.kind_is in
        let opens : OpensBy false f.kind contents.leaves h.resets account keys.main label b m.row f =
        subst (λ l. OpensBy l f.kind contents.leaves h.resets account keys.main label b m.row f) whole m.opens in
        (λ i. Some (kind i, count_in (kind i) (whole i) contents.leaves (sym same i).leaf))
        ∙ ap (λ n. Some (f.kind, n)) (count_held h.resets label b m.row f f.kind opens)

    module _ (rows : Rows) (are : (label : Bytes)
        → Matches (IsRowOf contents.records account label) (get stash.blocks label) (get rows label)) where
      -- the lines with counts
      pub lines_held : lost ≡ false → map (line_in lost contents.leaves) (entries rows)
          ≡ map line_of (entries durable.factors)
      lines_held whole = same_lines (told_of_row lost contents.leaves) told_of rows durable.factors
          (λ label. told_held whole label (get stash.blocks label) (get rows label) (get durable.factors label)
          (h.blocks label) (are label))

      -- and without
      pub lines_lost : lost ≡ true → map (line_in lost contents.leaves) (entries rows)
          ≡ map line_without_count (entries durable.factors)
      lines_lost is_lost = same_lines (told_of_row lost contents.leaves) told_without rows durable.factors
          (λ label. told_lost is_lost label (get stash.blocks label) (get rows label) (get durable.factors label)
          (h.blocks label) (are label))
