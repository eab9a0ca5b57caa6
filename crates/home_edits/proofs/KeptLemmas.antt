-- What stays of a loaded state where records stay.
use Rattle.std.proofs.Common.{◌≡◌, Option, None, Some, Bool, refl, sym, ap, ◌∙◌, subst, ⊎_elim}
use Rattle.std.specs.Prelude.{IsSome, IsSomeAnd, option_and_then}
use Rattle.std.specs.Ordering.{nat_cmp}
use Rattle.std.specs.Cmp.Lexicographic.{slice_cmp}
use Rattle.std.specs.FinMap.{FinMap, get, insert}
use Rattle.account_machine.specs.declared.user.Durable.{Durable}
use Rattle.account_machine.specs.User.{no_home}
use Rattle.record_names.specs.Names.{stash_name, factor_name}
use Rattle.share_api.specs.Contents.{Bytes, Contents, Records, settled}
use Rattle.stash_format.specs.declared.block.Block.{Block}
use Rattle.stash_format.specs.declared.contents.Contents.{Contents as Stash}
use Rattle.stash_format.specs.Record.{stash_at}
use Rattle.factor_files.specs.declared.factor.FactorRecord.{FactorRecord}
use Rattle.factor_files.specs.Record.{factor_at}
use Rattle.stored_home.specs.Matching.{Matches}
use Rattle.stored_home.specs.Holds.{Keys, HoldsBy, HasStash, HoldsStash, HoldsUnder}
use Rattle.stored_home.specs.Loaded.{IsRowOf}
use Rattle.stored_home.proofs.MapLemmas.{same_or_apart, put_at, put_other, not_None, matches_weaker}
use Rattle.stored_home.proofs.FrameLemmas.{same_stash}

-- what matches nothing isn't there
pub none_matched : {A B : Type 0} (R : A → B → Type 0) (y : Option B) → Matches R None y → y ≡ None
none_matched R None m = refl
none_matched R (Some y) m = absurd m

-- the stash of a home with factors
pub home_stash : (x : Option Stash) → IsSomeAnd x (λ stash. IsSome stash.payload)
    → (stash : Stash) × (x ≡ Some stash) × IsSome stash.payload
home_stash None h = absurd h
home_stash (Some stash) h = (stash, refl, h)

-- the stash's record stays
pub stash_stays : (old new : Records) (account : Bytes) (x : Option Stash)
    → get new (stash_name account) ≡ get old (stash_name account) → HasStash old account x → HasStash new account x
stash_stays old new account None same there = same ∙ there
stash_stays old new account (Some stash) same there = ap (option_and_then stash_at) same ∙ there

-- a factor's record stays a block's
pub row_stays : (old new : Records) (account label : Bytes) (block : Block) (row : FactorRecord)
    → get new (factor_name account label block.edition) ≡ get old (factor_name account label block.edition)
    → IsRowOf old account label block row → IsRowOf new account label block row
row_stays old new account label block row same h = record {
  label_is = h.label_is;
  edition_is = h.edition_is;
  read = ap (option_and_then factor_at) same ∙ h.read;
}

-- and so do those of all blocks
pub rows_stay : (old new : Records) (account label : Bytes) (x : Option Block) (y : Option FactorRecord)
    → ((block : Block) (row : FactorRecord) → x ≡ Some block → y ≡ Some row
    → get new (factor_name account label block.edition) ≡ get old (factor_name account label block.edition))
    → Matches (IsRowOf old account label) x y → Matches (IsRowOf new account label) x y
rows_stay old new account label x y same m = matches_weaker (IsRowOf old account label) (IsRowOf new account label) x y
    (λ block row p q h. row_stays old new account label block row (same block row p q) h) m

module _ (lost : Bool) (contents : Contents) (account : Bytes) (keys : Keys) (durable : Durable) where
  -- where there is no stash, no home is held
  pub bare_is : HoldsUnder lost contents account durable keys → HasStash contents.records account None → durable ≡
      no_home
  bare_is h none = by h.stash h.holds (same_stash contents.records account h.stash None h.there none)
    where
      by : (x : Option Stash) → HoldsStash lost (settled contents) account durable keys x → x ≡ None → durable ≡ no_home
      by None holds e = holds
      by (Some stash) holds e = absurd (not_None stash e)

  -- what is held is held beside the stash that is there
  pub held_by : (stash : Stash) → HoldsUnder lost contents account durable keys → HasStash contents.records account
      (Some stash)
      → HoldsBy lost (settled contents) account durable keys stash
  held_by stash h there = subst (HoldsStash lost (settled contents) account durable keys)
      (same_stash contents.records account h.stash (Some stash) h.there there) h.holds

module _ {X : Type 0} (m : FinMap (slice_cmp nat_cmp) X) (name : Bytes) (x : X) where
  -- what is there stays there where a value is put
  pub put_keeps : (q : Bytes) → IsSome (get m q) → IsSome (get (insert m name x) q)
  put_keeps q there = ⊎_elim
      (λ e. subst (λ (n : Bytes). IsSome (get (insert m name x) n)) (sym e) (put_there))
      (λ away. subst IsSome (sym (put_other m name x q away)) there) (same_or_apart q name)
    where
      put_there : IsSome (get (insert m name x) name)
      put_there = subst IsSome (sym (put_at m name x)) refl

  -- and the value is there
  pub put_is_there : IsSome (get (insert m name x) name)
  put_is_there = subst IsSome (sym (put_at m name x)) refl
