-- A leaf that a factor's record named is named no more once the factor has another one or is gone.
use Rattle.std.proofs.Common.{◌≡◌, ◌≢◌, ℕ, Some, Bool, sym, ap, ◌∙◌, subst, ⊎_elim, arith}
use Rattle.std.specs.Prelude.{option_and_then}
use Rattle.std.specs.FinMap.{get}
use Rattle.account_machine.specs.declared.factor.Factor.{Factor}
use Rattle.account_machine.specs.declared.user.Durable.{Durable}
use Rattle.factor_files.specs.declared.factor.FactorRecord.{FactorRecord}
use Rattle.factor_files.specs.Record.{factor_at}
use Rattle.share_api.specs.Contents.{Bytes, Contents, Records, settled}
use Rattle.stash_format.specs.declared.contents.Contents.{Contents as Stash}
use Rattle.stored_home.specs.Holds.{Keys, Factors, record_at, NamesLeaf, HoldsBy}
use Rattle.stored_home.specs.Unnamed.{NamesNot}
use Rattle.stored_home.proofs.MapLemmas.{same_or_apart}
use Rattle.stored_home.proofs.FrameLemmas.{factor_is_sound}
use Rattle.home_edits.proofs.FactorKept.{SameOthers}

module _ (lost : Bool) (account : Bytes) (keys : Keys) (contents : Contents) (durable : Durable) (stash : Stash)
    (label : Bytes) (old : Factor) (row : FactorRecord) (tree : ℕ)
    (h : HoldsBy lost (settled contents) account durable keys stash)
    (at : get durable.factors label ≡ Some old)
    (read : record_at contents.records account label old.edition ≡ Some row)
    (names : row.leaf ≡ Some tree) where
  -- other factors' records are as they were
  other_same : (new : Records) → SameOthers account label contents.records new → (q : Bytes) (f : Factor) → q ≢ label
      → get durable.factors q ≡ Some f → record_at new account q f.edition ≡ record_at contents.records account q f.edition
  other_same new others q f away there =
      let sound = factor_is_sound lost account keys.main h.resets contents.records (settled contents).leaves stash.next q
      (get stash.blocks q) (get durable.factors q) f (h.sound.blocks q) (h.blocks q) there in
      let below = sound.1 in
      let within = h.sound.within in
      ap (option_and_then factor_at) (others.rows q f.edition sound.0 (omega (arith, below, within)) away)

  -- the leaf is named by no factor where the others are as they were and the label's own names it no more
  pub leaf_unnamed : (new : Records) (factors : Factors) → SameOthers account label contents.records new
      → ((q : Bytes) → q ≢ label → get factors q ≡ get durable.factors q)
      → (NamesLeaf new account factors label tree → ⊥) → NamesNot new account factors tree
  leaf_unnamed new factors others same own q n = ⊎_elim
      (λ e. own (subst (λ (l : Bytes). NamesLeaf new account factors l tree) e n))
      (λ away.
      let was = sym (same q away) ∙ n.there in
      away (h.apart q label tree
      (record {
        factor = n.factor;
        row = n.row;
        there = was;
        read = sym (other_same new others q n.factor away was) ∙ n.read;
        names = n.names;
      })
      (record { factor = old; row = row; there = at; read = read; names = names })))
      (same_or_apart q label)
