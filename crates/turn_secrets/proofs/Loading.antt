-- What is loaded of a label's password, and what the contents hold of it.
use Rattle.std.proofs.Common.{◌≡◌, Option, None, Some, refl, sym, ap, ◌∙◌, subst}
use Rattle.std.specs.FinMap.{get}
use Rattle.account_machine.specs.declared.factor.Factor.{Factor}
use Rattle.account_machine.specs.declared.factor.Kind.TheVariants.{Password}
use Rattle.account_machine.specs.declared.user.User.{User}
use Rattle.factor_files.specs.declared.factor.FactorRecord.{FactorRecord}
use Rattle.share_api.specs.Contents.{Bytes, Contents, settled}
use Rattle.stash_format.specs.declared.block.Block.{Block}
use Rattle.stash_format.specs.declared.contents.Contents.{Contents as Stash}
use Rattle.stored_home.specs.Coherent.{FitsBlock}
use Rattle.stored_home.specs.Holds.{Keys, HasStash, HoldsBy, HoldsUnder, record_at}
use Rattle.stored_home.specs.Loaded.{block_in}
use Rattle.stored_home.specs.Matching.{Matches}
use Rattle.stored_home.specs.declared.stored.Stored.{Stored}
use Rattle.stored_home.proofs.MapLemmas.{matched_right, from_some, not_None}
use Rattle.home_edits.proofs.Edited.{there_some, there_gives}
use Rattle.home_edits.proofs.KeptLemmas.{held_by}
use Rattle.home_edits.proofs.LoadedFactors.{IsOfFactor, loaded_factor}
use Rattle.user_state.specs.Fits.{Fits, is_lost}
use Rattle.user_state.specs.declared.state.UserState.{UserState}
use Rattle.turn_rows.specs.Due.{IsReady}
use Rattle.turn_rows.proofs.Quiet.{settled_now}
use Rattle.turn_secrets.specs.Checked.{HaveRows, IsPasswordAt, LoadsPassword}
use Rattle.turn_secrets.specs.Opening.{HoldsPassword}

-- the stash that has a block
pub stash_of : (x : Option Stash) (label : Bytes) (block : Block) → block_in x label ≡ Some block
    → (stash : Stash) × (x ≡ Some stash) × (get stash.blocks label ≡ Some block)
stash_of None label block e = absurd (not_None block (sym e))
stash_of (Some stash) label block e = (stash, refl, e)

-- what is loaded of a password whose stash and record are these
abbrev pub loads_by : (stored : Stored) (label : Bytes) → HaveRows stored → IsPasswordAt stored label
    → (stash : Stash) → stored.stash ≡ Some stash → (row : FactorRecord) → get stored.factors label ≡ Some row
    → LoadsPassword stored label
loads_by stored label rows password stash is row at =
    let block = matched_right (FitsBlock label) (block_in (Some stash) label) (get stored.factors label) row at
    (subst (λ x. Matches (FitsBlock label) (block_in x label) (get stored.factors label)) is (rows label)) in
    record {
      stash = stash;
      stash_is = is;
      row = row;
      row_is = at;
      is_password = there_gives (λ (r : FactorRecord). r.kind ≡ Password) (get stored.factors label) row at password;
      block = block.0;
      block_is = block.1;
      fits = block.2;
    }

-- a password that is loaded has its block and its record
pub loads_password : (stored : Stored) (label : Bytes) → HaveRows stored → IsPasswordAt stored label
    → LoadsPassword stored label
loads_password stored label rows password =
    let row = there_some (λ (r : FactorRecord). r.kind ≡ Password) (get stored.factors label) password in
    let block = matched_right (FitsBlock label) (block_in stored.stash label) (get stored.factors label) row.0 row.1
    (rows label) in
    let stash = stash_of stored.stash label block.0 block.1 in
    loads_by stored label rows password stash.0 stash.1 row.0 row.1

module _ (before : UserState) (ready : IsReady before) (label : Bytes) (loads : LoadsPassword before.stored label)
    (contents : Contents) (user : User) (keys : Keys) (fits : Fits before contents user keys)
    (holds : HoldsUnder (is_lost before) contents before.account user.durable keys) where
  -- the home is held beside the loaded stash
  pub held_stash : HoldsBy (is_lost before) (settled contents) before.account user.durable keys loads.stash
  held_stash = held_by (is_lost before) contents before.account keys user.durable loads.stash holds
      (subst (HasStash contents.records before.account) loads.stash_is
      (settled_now before ready contents user keys fits).kept.is_loaded.stash)

  -- the contents hold the password that is loaded
  pub held_password : (factor : Factor)
      × HoldsPassword (is_lost before) contents before.account user.durable keys loads.stash label loads.block factor
      loads.row
  held_password =
      let s = settled_now before ready contents user keys fits in
      let of : IsOfFactor (is_lost before) contents before.account keys user.durable loads.stash held_stash label
      loads.row =
      loaded_factor (is_lost before) contents before.account before.stored keys user.durable loads.stash held_stash
      label
      loads.row s.kept loads.stash_is loads.row_is in
      let read : record_at contents.records before.account label of.factor.edition ≡ Some loads.row =
      ap (record_at contents.records before.account label) (sym of.sealed.edition) ∙ of.its.read in
      let same : of.sealed.row ≡ loads.row = from_some of.sealed.row loads.row (sym of.sealed.read ∙ read) in (
        of.factor,
        record {
          there = subst (HasStash contents.records before.account) loads.stash_is s.kept.is_loaded.stash;
          holds = held_stash;
          block_is = loads.block_is;
          factor_is = of.held;
          is_password = sym of.sealed.kind_is ∙ ap (λ (r : FactorRecord). r.kind) same ∙ loads.is_password;
          row_is = read;
        },
      )
