-- What a block opens to under a secret's wrap key.
use Rattle.std.proofs.Common.{◌≡◌, Bool, true, false, None, Some, Result, Ok, Err, refl, sym, ap, ◌∙◌, bytes_eq}
use Rattle.std.proofs.lemmas.Slice.Eq.{bytes_eq-Decides}
use Rattle.std.specs.Prelude.{if◌then◌else◌}
use Rattle.gcm_seal.specs.Gcm.{decrypted, tag_of}
use Rattle.home_edits.proofs.PasswordEdits.{wrap_is}
use Rattle.home_recovery.proofs.CallLemmas.{no_err}
use Rattle.scrypt_kdf.specs.Derive.{derive}
use Rattle.sealed_text.specs.declared.sealed.Sealed.{Sealed}
use Rattle.sealed_text.specs.OpeningSealed.{Opens, opened}
use Rattle.secret_stash.specs.Keys.{main_or_fault, opened_found, opened_block}
use Rattle.secret_stash.specs.declared.fault.StashFault.{StashFault}
use Rattle.secret_stash.specs.declared.fault.StashFault.TheVariants.{BadTag}
use Rattle.share_api.specs.Contents.{Bytes}
use Rattle.stash_format.specs.Forms.{block_extra, main_of}
use Rattle.stored_home.specs.declared.stored.Stored.{Stored}
use Rattle.turn_secrets.specs.Checked.{LoadsPassword, IsChecked, IsOpened}
use Rattle.turn_secrets.specs.Opening.{wrap_key}
use Rattle.turn_secrets.specs.declared.check.Checked.{Checked}
use Rattle.turn_secrets.specs.declared.check.Checked.TheVariants.{Right, Wrong, Starved}

-- equal Oks have equal values
pub from_ok : {A E : Type 0} (a b : A) → ◌≡◌ {A = Result A E} (Ok a) (Ok b) → a ≡ b
from_ok {A} a b e = ap (λ r. elim r as (λ _. A) [ Ok x ↦ x | Err f ↦ a ]) e

module _ (wrap extra : Bytes) (sealed : Sealed) where
  -- whether the tag is the key's
  abbrev fits : Bool
  fits = bytes_eq sealed.tag (tag_of 8 14 wrap sealed.iv extra sealed.text)

  abbrev plain : Bytes
  plain = decrypted 8 14 wrap sealed.iv sealed.text

  -- what opens has the tag, and this text
  pub opens_ok : (main : Bytes) → main_or_fault (opened wrap extra sealed) ≡ Ok main → Opens wrap extra sealed main
  opens_ok main e = by fits refl e
    where
      by : (b : Bool) → fits ≡ b → main_or_fault (if b then Some plain else None) ≡ Ok main
          → Opens wrap extra sealed main
      by true same e = record {
        tag = sym ((bytes_eq-Decides sealed.tag (tag_of 8 14 wrap sealed.iv extra sealed.text)).0 same);
        text = from_ok plain main e;
      }
      by false same e = absurd (no_err {A = Bytes} {E = StashFault} main BadTag (sym e))

  -- what doesn't has another tag
  pub opens_err : main_or_fault (opened wrap extra sealed) ≡ Err BadTag
      → tag_of 8 14 wrap sealed.iv extra sealed.text ≡ sealed.tag → ⊥
  opens_err e tag =
      no_err {A = Bytes} {E = StashFault} plain BadTag
      (ap (λ (b : Bool). main_or_fault (if b then Some plain else None))
      (sym ((bytes_eq-Decides sealed.tag (tag_of 8 14 wrap sealed.iv extra sealed.text)).1 (sym tag))) ∙ e)

-- what the block is under the key, it is under the secret
pub checked_by : (stored : Stored) (label secret key : Bytes) → (loads : LoadsPassword stored label)
    → key ≡ derive secret loads.row.salt loads.row.cost → (r : Checked) → IsOpened loads.stash label key r
    → IsChecked stored label secret r
checked_by stored label secret key loads key_is (Right same main) o =
    record {
      loads = loads;
      key_is = o.0 ∙ key_is;
      gives = opens_ok (wrap_key secret loads.row) (block_extra loads.stash.account label loads.block)
          (main_of loads.block) main
          (ap (λ b. opened_found (wrap_key secret loads.row) loads.stash.account label b) (sym loads.block_is)
          ∙ ap (λ (w : Bytes). opened_block loads.stash label w)
          (sym (wrap_is key secret loads.row.salt loads.row.cost key_is)) ∙ o.1);
    }
checked_by stored label secret key loads key_is Wrong o =
    record {
      loads = loads;
      differs = opens_err (wrap_key secret loads.row) (block_extra loads.stash.account label loads.block)
          (main_of loads.block)
          (ap (λ b. opened_found (wrap_key secret loads.row) loads.stash.account label b) (sym loads.block_is)
          ∙ ap (λ (w : Bytes). opened_block loads.stash label w)
          (sym (wrap_is key secret loads.row.salt loads.row.cost key_is)) ∙ o);
    }
checked_by stored label secret key loads key_is Starved o = tt
