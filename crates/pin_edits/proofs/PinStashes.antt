-- The stash with a new PIN.
use Rattle.std.proofs.Common.{◌≡◌, Ok, sym, ap, ◌∙◌, subst}
use Rattle.std.specs.Prelude.{◌≤◌}
use Rattle.std.specs.FinMap.{insert}
use Rattle.secret_stash.specs.Edits.{live_resets, with_payload, sealed_payload}
use Rattle.secret_stash.specs.Keys.{opened_payload}
use Rattle.share_api.specs.Contents.{Bytes}
use Rattle.stash_format.specs.Sizes.{payload_size, most_payload}
use Rattle.stash_format.specs.declared.contents.Contents.{Contents as Stash}
use Rattle.stash_format.specs.declared.payload.Payload.{Payload}
use Rattle.stored_home.specs.Changes.{stash_with}
use Rattle.pin_edits.specs.Pins.{pin_block, with_reset, AddsReset, IsPinStash}
use Rattle.pin_edits.specs.declared.pin_stash.NewPin.{NewPin}

-- the block is put, and the payload sealed after it
pub pin_stash_is : (stash : Stash) (label : Bytes) (pin : NewPin) (main iv later : Bytes) (mid new : Stash)
    (payload : Payload)
    → AddsReset stash main label pin.reset payload
    → mid ≡ stash_with stash stash.payload label (pin_block stash label pin main iv)
    → new ≡ with_payload mid main payload later
    → opened_payload new main ≡ Ok (record { vault = payload.vault; resets = live_resets mid.blocks payload.resets })
    → payload_size new ≤ most_payload
    → IsPinStash stash label pin main iv new
pin_stash_is stash label pin main iv later mid new payload adds mid_is new_is opens short =
    let with = stash_with stash stash.payload label (pin_block stash label pin main iv) in
    let whole : new ≡ with_payload with main payload later =
    new_is ∙ ap (λ (s : Stash). with_payload s main payload later) mid_is in
    let held : opened_payload new main ≡ Ok (record {
      vault = adds.old.vault;
      resets = live_resets (insert stash.blocks label (pin_block stash label pin main iv))
          (with_reset adds.old.resets label stash.next pin.reset);
    }) = opens ∙ (λ i. Ok (record {
      vault = adds.vault i;
      resets = live_resets (ap (λ (s : Stash). s.blocks) mid_is i) (adds.resets i);
    })) in
    record {
      old = adds.old;
      opened = adds.opened;
      payload = sealed_payload with main payload later;
      made_is = whole;
      opens = subst (λ (s : Stash). opened_payload s main ≡ Ok (record {
        vault = adds.old.vault;
        resets = live_resets (insert stash.blocks label (pin_block stash label pin main iv))
            (with_reset adds.old.resets label stash.next pin.reset);
      })) whole held;
      short = subst (λ (s : Stash). payload_size s ≤ most_payload) whole short;
    }

-- the payload of such a stash is no longer than the grammar's
pub pin_stash_short : (stash : Stash) (label : Bytes) (pin : NewPin) (main iv : Bytes) (made : Stash)
    → IsPinStash stash label pin main iv made → payload_size made ≤ most_payload
pin_stash_short stash label pin main iv made is =
    subst (λ (s : Stash). payload_size s ≤ most_payload) (sym is.made_is) is.short
