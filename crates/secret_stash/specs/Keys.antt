-- What a stash opens to.
use Rattle.std.specs.Prelude.{ℕ, List, ◌++◌, codes, drop, Option, Some, None, Result, Ok, Err}
use Rattle.std.specs.FinMap.{get}
use Rattle.hmac_sha.specs.Hmac.{hmac}
use Rattle.gcm_seal.specs.Gcm.{encrypted, tag_of}
use Rattle.sealed_text.specs.declared.sealed.Sealed.{Sealed}
use Rattle.sealed_text.specs.OpeningSealed.{opened}
use Rattle.stash_format.specs.declared.block.Block.{Block}
use Rattle.stash_format.specs.declared.block.Form.TheVariants.{Bound}
use Rattle.stash_format.specs.declared.contents.Contents.{Contents}
use Rattle.stash_format.specs.declared.payload.Payload.{Payload}
use Rattle.stash_format.specs.Forms.{extra_by, block_extra, main_of}
use Rattle.stash_format.specs.Payloads.{payload_read}
use Rattle.ct_bytes.specs.Reading.{or_fault}
use Rattle.secret_stash.specs.declared.fault.StashFault.{StashFault}
use Rattle.secret_stash.specs.declared.fault.StashFault.TheVariants.{NoBlock, BadTag}
use Rattle.secret_stash.specs.Faults.{told_record}

abbrev pub main_or_fault : Option (List ℕ) → Result (List ℕ) StashFault
main_or_fault None = Err BadTag
main_or_fault (Some main) = Ok main

-- the main key that a block of an account's label gives under a wrap key
abbrev pub opened_main : List ℕ → List ℕ → List ℕ → Block → Result (List ℕ) StashFault
opened_main wrap account label block = main_or_fault (opened wrap (block_extra account label block) (main_of block))

abbrev pub opened_found : List ℕ → List ℕ → List ℕ → Option Block → Result (List ℕ) StashFault
opened_found wrap account label None = Err NoBlock
opened_found wrap account label (Some block) = opened_main wrap account label block

-- the main key that a stash gives for a label under a wrap key
abbrev pub opened_block : Contents → List ℕ → List ℕ → Result (List ℕ) StashFault
opened_block stash label wrap = opened_found wrap stash.account label (get stash.blocks label)

-- a new block: the main key under a wrap key, bound to account, label and edition
abbrev pub new_block : List ℕ → List ℕ → ℕ → List ℕ → List ℕ → List ℕ → Block
new_block account label edition wrap main iv =
    record {
      edition = edition;
      form = Bound;
      iv = iv;
      text = encrypted 8 14 wrap iv main;
      tag = tag_of 8 14 wrap iv (extra_by Bound account label edition) (encrypted 8 14 wrap iv main);
    }

-- the associated data of an account's payload
abbrev pub payload_extra : List ℕ → List ℕ
payload_extra account = codes "stash" ++ account

abbrev pub payload_or_fault : Option (List ℕ) → Result Payload StashFault
payload_or_fault None = Err BadTag
payload_or_fault (Some plain) = or_fault told_record (payload_read plain)

-- what the sealed payload of an account gives under a main key
abbrev pub opened_sealed : List ℕ → List ℕ → Sealed → Result Payload StashFault
opened_sealed main account sealed = payload_or_fault (opened main (payload_extra account) sealed)

abbrev pub opened_payload_of : List ℕ → List ℕ → Option Sealed → Result Payload StashFault
opened_payload_of main account None = Err BadTag
opened_payload_of main account (Some sealed) = opened_sealed main account sealed

-- what a stash's payload gives under a main key
abbrev pub opened_payload : Contents → List ℕ → Result Payload StashFault
opened_payload stash main = opened_payload_of main stash.account stash.payload

-- the wrap key of a PIN, from its leaf's high-entropy secret and the 64 derived bytes
abbrev pub pin_wrap : List ℕ → List ℕ → List ℕ
pin_wrap high derived = hmac high (codes "pin wrap" ++ drop 32 derived)
