-- A vault file's record tells whether its put was done.
use Rattle.std.proofs.Common.{◌≡◌, ◌≢◌, Bool, Option, None, Some, Result, Ok, Err, refl, sym, ap, ◌∙◌, subst, ◌⊎◌, inl, inr, ⊎_elim}
use Rattle.std.specs.Prelude.{IfSome, IsSome}
use Rattle.std.specs.Ordering.{nat_cmp}
use Rattle.std.specs.Cmp.Lexicographic.{slice_cmp}
use Rattle.std.specs.FinMap.{get, get-empty}
use Rattle.account_machine.specs.declared.factor.Factor.{Factor}
use Rattle.account_machine.specs.declared.user.Durable.{Durable}
use Rattle.record_names.specs.Names.{AreParts, File, file_name}
use Rattle.sealed_text.specs.declared.sealed.Sealed.{Sealed}
use Rattle.share_api.specs.Contents.{Bytes, Contents, settled}
use Rattle.stash_format.specs.Blocks.{Blocks}
use Rattle.stash_format.specs.declared.block.Block.{Block}
use Rattle.stash_format.specs.declared.contents.Contents.{Contents as Stash}
use Rattle.stored_home.specs.Bounds.{HasBounds}
use Rattle.stored_home.specs.Changes.{durable_with_file}
use Rattle.stored_home.specs.Holds.{Keys, HoldsUnder, HoldsBy, HoldsStash, IsBlockOf, IsFileOf}
use Rattle.stored_home.specs.Matching.{Matches}
use Rattle.stored_home.proofs.MapLemmas.{same_or_apart, put_same, not_None}
use Rattle.user_state.specs.Fits.{TellsFile}

module _ (lost : Bool) (end : Contents) (account : Bytes) (durable : Durable) (keys : Keys) (bounds : HasBounds durable)
  where
    -- a home with a factor has a payload
    has_payload : (stash : Stash) → HoldsBy lost (settled end) account durable keys stash → (payload : Option Sealed)
        → stash.payload ≡ payload → IsSome stash.payload
    has_payload stash held (Some sealed) is = subst IsSome (sym is) refl
    has_payload stash held None is =
        absurd (unmatched (IsBlockOf lost (settled end).records (settled end).leaves account keys.main held.resets bounds.label)
        (get stash.blocks bounds.label) gone (held.blocks bounds.label))
      where
        gone : get stash.blocks bounds.label ≡ None
        gone = ap (λ (m : Blocks). get m bounds.label) (held.bare is).0 ∙ get-empty (slice_cmp nat_cmp) bounds.label

        unmatched : (R : Block → Factor → Type 0) (block : Option Block) → block ≡ None
            → Matches R block (get durable.factors bounds.label) → ⊥
        unmatched R block none m =
            let k : Matches R None (Some bounds.factor) =
            subst (λ x. Matches R x (Some bounds.factor)) none (subst (Matches R block) bounds.there m) in k

    files_held : (stash : Option Stash) → HoldsStash lost (settled end) account durable keys stash → (name : Bytes)
        → AreParts (File account name)
        → Matches (IsFileOf keys.vault account name) (get end.records (file_name account name)) (get durable.files name)
    files_held None is name are = absurd (not_None bounds.factor (sym bounds.there
        ∙ ap (λ (d : Durable). get d.factors bounds.label) is ∙ get-empty (slice_cmp nat_cmp) bounds.label))
    files_held (Some stash) held name are = (held.files (has_payload stash held stash.payload refl)).bytes name are

    -- the file's record is one of its bytes
    file_held : HoldsUnder lost end account durable keys → (name : Bytes) → AreParts (File account name)
        → Matches (IsFileOf keys.vault account name) (get end.records (file_name account name)) (get durable.files name)
    file_held held name are = files_held held.stash held.holds name are

module _ (lost : Bool) (end : Contents) (account name sealed plain vault : Bytes) (durable : Durable) (keys : Keys)
    (are : AreParts (File account name)) (opens : IsFileOf vault account name sealed plain)
    (same_key : keys.vault ≡ vault) (bounds : HasBounds durable)
    (not_put : get end.records (file_name account name) ≢ Some sealed → HoldsUnder lost end account durable keys) where
  abbrev Apart : Option Bytes → Type 0
  Apart found = (durable ≡ durable_with_file durable name plain)
      ⊎ IfSome found (λ bytes. IsFileOf vault account name bytes plain → bytes ≡ sealed)

  -- another record is the one of the bytes before
  other_record : (found : Bytes) (file : Option Bytes) → get durable.files name ≡ file
      → Matches (IsFileOf vault account name) (Some found) file → Apart (Some found)
  other_record found None is m = absurd m
  other_record found (Some before) is m = ⊎_elim
      (λ same. inl (sym (ap (λ files. record durable { files = files })
      (put_same durable.files name plain (is ∙ ap Some same)))))
      (λ away. inr (λ fits. absurd (away (one_ok before plain (sym m ∙ fits)))))
      (same_or_apart before plain)
    where
      one_ok : {E : Type 0} (a b : Bytes) → ◌≡◌ {A = Result Bytes E} (Ok a) (Ok b) → a ≡ b
      one_ok {E} a b e = ap (λ (r : Result Bytes E). elim r as (λ _. Bytes) [ Ok x ↦ x | Err x ↦ a ]) e

  apart : (found : Option Bytes) → get end.records (file_name account name) ≡ found → Apart found
  apart None is = inr tt
  apart (Some found) is = ⊎_elim
      (λ same. inr (λ fits. same))
      (λ away. other_record found (get durable.files name) refl
      (subst (λ x. Matches (IsFileOf vault account name) x (get durable.files name)) is
      (subst (λ key. Matches (IsFileOf key account name) (get end.records (file_name account name))
      (get durable.files name)) same_key
      (file_held lost end account durable keys bounds
      (not_put (λ e. away (Rattle.stored_home.proofs.MapLemmas.from_some found sealed (sym is ∙ e)))) name are))))
      (same_or_apart found sealed)

  pub file_tells : TellsFile vault account name sealed end durable (durable_with_file durable name plain)
  file_tells = record {
    plain = plain;
    named = are;
    opens = opens;
    other_is = refl;
    apart = apart (get end.records (file_name account name)) refl;
  }
