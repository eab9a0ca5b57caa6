-- A payload that opens to the vault key is the home's.
use Rattle.std.proofs.Common.{◌≡◌, None, Some, Option, Ok, Bool, true, false, cond, refl, sym}
use Rattle.std.specs.Prelude.{bytes_eq}
use Rattle.std.proofs.lemmas.Slice.Eq.{bytes_eq-Decides}
use Rattle.gcm_seal.specs.Gcm.{decrypted, tag_of}
use Rattle.sealed_text.specs.OpeningSealed.{opened, Opens}
use Rattle.sealed_text.specs.declared.sealed.Sealed.{Sealed}
use Rattle.secret_stash.specs.Keys.{payload_extra, payload_or_fault, opened_sealed}
use Rattle.share_api.specs.Contents.{Bytes}
use Rattle.stash_format.specs.Payloads.{payload_read}
use Rattle.stash_format.specs.Resets.{Resets}
use Rattle.stored_home.specs.Holds.{Keys, HoldsPayload}
use Rattle.stored_home.proofs.MapLemmas.{from_some}
use Rattle.pin_edits.proofs.PinReset.{read_there}

-- a text that opening gives is one that the sealed text opens to
opens_to : (key extra : Bytes) (sealed : Sealed) (text : Bytes) → opened key extra sealed ≡ Some text
    → Opens key extra sealed text
opens_to key extra sealed text e = by (bytes_eq sealed.tag (tag_of 8 14 key sealed.iv extra sealed.text))
    (bytes_eq-Decides sealed.tag (tag_of 8 14 key sealed.iv extra sealed.text)).0 e
  where
    by : (b : Bool) → (b ≡ true → sealed.tag ≡ tag_of 8 14 key sealed.iv extra sealed.text)
        → cond b (Some (decrypted 8 14 key sealed.iv sealed.text)) None ≡ Some text → Opens key extra sealed text
    by true fits h = record {
      tag = sym (fits refl);
      text = from_some (decrypted 8 14 key sealed.iv sealed.text) text h;
    }
    by false fits h = absurd (cc h)

pub payload_held : (account : Bytes) (keys : Keys) (sealed : Sealed) (resets : Resets)
    → opened_sealed keys.main account sealed ≡ Ok (record { vault = keys.vault; resets = resets })
    → HoldsPayload account keys resets (Some sealed)
payload_held account keys sealed resets e = by (opened keys.main (payload_extra account) sealed) refl e
  where
    by : (o : Option Bytes) → opened keys.main (payload_extra account) sealed ≡ o
        → payload_or_fault o ≡ Ok (record { vault = keys.vault; resets = resets })
        → HoldsPayload account keys resets (Some sealed)
    by None is h = absurd (cc h)
    by (Some text) is h = record {
      text = text;
      opens = opens_to keys.main (payload_extra account) sealed text is;
      read = read_there (payload_read text) (record { vault = keys.vault; resets = resets }) h;
    }
