-- A block has the tag of a password's wrap key exactly where the password is the factor's.
use Rattle.std.proofs.Common.{◌≡◌, List, Bool, Option, None, Some, refl, sym, ap, ◌∙◌, subst, inl, inr}
use Rattle.std.specs.Prelude.{Contains}
use Rattle.std.specs.FinMap.{get}
use Rattle.account_machine.specs.declared.factor.Factor.{Factor}
use Rattle.account_machine.specs.declared.factor.Kind.{Kind}
use Rattle.account_machine.specs.declared.user.Durable.{Durable}
use Rattle.factor_files.specs.declared.factor.FactorRecord.{FactorRecord}
use Rattle.share_api.specs.Contents.{Bytes, Contents, settled}
use Rattle.stash_format.specs.Forms.{block_extra}
use Rattle.stash_format.specs.declared.block.Block.{Block}
use Rattle.stash_format.specs.declared.contents.Contents.{Contents as Stash}
use Rattle.stored_home.specs.Clean.{DeriveInput, TagInput, IsDeriveInput, IsTagInput, IsClean, IsTurnSecret}
use Rattle.stored_home.specs.Holds.{Keys, IsBlockOf, OpensBy, OpensBySecret}
use Rattle.stored_home.proofs.MapLemmas.{matched, from_some}
use Rattle.turn_secrets.specs.Opening.{wrap_key, HasTag, GivesMain, HoldsPassword, OnlyPasswordLaw, RightPasswordLaw}

-- a factor's secret is one of the turn's
known : (durable : Durable) (other : Option Durable) (given : Option Bytes) (label : Bytes) (factor : Factor)
    → get durable.factors label ≡ Some factor → IsTurnSecret durable other given factor.secret
known durable None given label factor at = inl (record { label = label; factor = factor; there = at; is = refl })
known durable (Some other) given label factor at =
    inl (record { label = label; factor = factor; there = at; is = refl })

-- and so is the one that it brings
asked : (durable : Durable) (other : Option Durable) (secret : Bytes) → IsTurnSecret durable other (Some secret) secret
asked durable None secret = inr refl
asked durable (Some other) secret = inr (inr refl)

module _ (lost : Bool) (contents : Contents) (account : Bytes) (durable : Durable) (keys : Keys) (stash : Stash)
    (label : Bytes) (block : Block) (factor : Factor) (row : FactorRecord)
    (h : HoldsPassword lost contents account durable keys stash label block factor row) where
  -- the factor's own secret opens the block to the main key
  pub right_main : GivesMain (wrap_key factor.secret row) account label block keys.main
  right_main =
      let of_block : IsBlockOf lost contents.records (settled contents).leaves account keys.main h.holds.resets label
      block factor =
      matched (IsBlockOf lost contents.records (settled contents).leaves account keys.main h.holds.resets label)
      (get stash.blocks label) (get durable.factors label) block factor h.block_is h.factor_is (h.holds.blocks label) in
      let same : of_block.row ≡ row = from_some of_block.row row (sym of_block.read ∙ h.row_is) in
      let by : OpensBySecret account keys.main label block of_block.row factor =
      subst (λ (k : Kind). OpensBy lost k (settled contents).leaves h.holds.resets account keys.main label block
      of_block.row factor) h.is_password of_block.opens in
      subst (λ (r : FactorRecord). GivesMain (wrap_key factor.secret r) account label block keys.main) same by.opens

  -- what the block opens to under it is the main key
  pub main_is : (main : Bytes) → GivesMain (wrap_key factor.secret row) account label block main → main ≡ keys.main
  main_is main opens = sym opens.text ∙ right_main.text

  module _ (seen : List Contents) (other : Option Durable) (secret : Bytes) (among : Contains seen contents)
      (clean : IsClean (IsTurnSecret durable other (Some secret)) (Contains seen) account) where
    -- a derivation with the record's salt and cost is recorded
    derivation : (from : Bytes) → IsTurnSecret durable other (Some secret) from
        → IsDeriveInput (IsTurnSecret durable other (Some secret)) (Contains seen) account
        (record { secret = from; salt = row.salt; cost = row.cost })
    derivation from is_one = record {
      is_secret = is_one;
      image = contents;
      is_image = among;
      label = label;
      edition = factor.edition;
      row = row;
      read = h.row_is;
      salt_is = refl;
      cost_is = refl;
    }

    -- and so is the block's tag under its wrap key
    tag : (from : Bytes) → IsTurnSecret durable other (Some secret) from
        → IsTagInput (IsTurnSecret durable other (Some secret)) (Contains seen) account
        (record { key = wrap_key from row; iv = block.iv; extra = block_extra account label block; text = block.text })
    tag from is_one = record {
      wrap = inl (record { secret = from; salt = row.salt; cost = row.cost }, derivation from is_one, refl);
      image = contents;
      is_image = among;
      stash = stash;
      there = h.there;
      label = label;
      block = block;
      found = h.block_is;
      iv_is = refl;
      extra_is = refl;
      text_is = refl;
    }

    -- a secret whose wrap key gives the block's tag is the factor's
    pub only_password : HasTag (wrap_key secret row) account label block → secret ≡ factor.secret
    only_password fits =
        let one : IsTurnSecret durable other (Some secret) secret = asked durable other secret in
        let two : IsTurnSecret durable other (Some secret) factor.secret =
        known durable other (Some secret) label factor h.factor_is in
        ap (λ (x : DeriveInput). x.secret)
        (clean.derive_clean _ _ (derivation secret one) (derivation factor.secret two)
        (ap (λ (x : TagInput). x.key)
        (clean.tag_clean _ _ (tag secret one) (tag factor.secret two) (fits ∙ sym right_main.tag))))

  -- and the factor's secret gives it
  pub right_tag : (secret : Bytes) → secret ≡ factor.secret → HasTag (wrap_key secret row) account label block
  right_tag secret e = subst (λ (s : Bytes). HasTag (wrap_key s row) account label block) (sym e) right_main.tag

pub only_password_law : OnlyPasswordLaw
only_password_law lost seen contents account durable other keys stash label secret block factor row among clean h = (
  only_password lost contents account durable keys stash label block factor row h seen other secret among clean,
  right_tag lost contents account durable keys stash label block factor row h secret,
)

pub right_password_law : RightPasswordLaw
right_password_law lost contents account durable keys stash label block factor row h =
    right_main lost contents account durable keys stash label block factor row h
