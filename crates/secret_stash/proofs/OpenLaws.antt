-- What blocks open to after a change, and what their associated data tells.
use Rattle.std.proofs.Common.{◌≡◌, ℕ, ◌<◌, ◌^◌, true, false, cond, List, [], ◌∷◌, ◌++◌, Some, None, Ok, Err, refl, sym, ap, ◌∙◌, append_assoc, drop}
use Rattle.std.specs.Prelude.{IsTrue}
use Rattle.std.specs.Int.{w64, to_be_bytes, from_be_bytes}
use Rattle.std.specs.Ordering.{eq_by_cmp, is_eq}
use Rattle.std.specs.Cmp.{tied_itself}
use Rattle.std.specs.Cmp.Lexicographic.{nat_list_cmp_total}
use Rattle.std.specs.FinMap.{get, get-insert, get-remove}
use Rattle.std.proofs.lemmas.Bool.{and_parts, false_from_ne_true}
use Rattle.std.proofs.lemmas.Nat.{from_be_bytes-to_be_bytes_8}
use Rattle.gcm_seal.proofs.GcmLemmas.{decrypted-encrypted}
use Rattle.home_names.specs.Names.{is_account_name}
use Rattle.home_names.specs.Names.{is_factor_label}
use Rattle.record_fields.proofs.ZeroByte.{split_at_zero}
use Rattle.sealed_text.proofs.OpeningLemmas.{opened_by_tag}
use Rattle.stash_format.specs.declared.block.Block.{Block}
use Rattle.stash_format.specs.declared.block.Form.TheVariants.{Bound}
use Rattle.stash_format.specs.declared.contents.Contents.{Contents}
use Rattle.stash_format.specs.Forms.{extra_by}
use Rattle.stash_format.proofs.Rising.{order}
use Rattle.stash_format.proofs.Rows.{same_label}
use Rattle.secret_stash.specs.Keys.{opened_block, opened_found, main_or_fault, new_block}
use Rattle.secret_stash.specs.Edits.{with_block, without_block}
use Rattle.secret_stash.specs.declared.fault.StashFault.TheVariants.{NoBlock}

ties_itself : (label : List ℕ) → eq_by_cmp order label label ≡ true
ties_itself label = ap is_eq (tied_itself nat_list_cmp_total label)

apart : (other label : List ℕ) → (other ≡ label → ⊥) → eq_by_cmp order other label ≡ false
apart other label differ = false_from_ne_true (eq_by_cmp order other label) (λ tie. differ (same_label other label tie))

pub added-opens : (stash : Contents) (label wrap main iv : List ℕ) (edition : ℕ)
    → opened_block (with_block stash label (new_block stash.account label edition wrap main iv)) label wrap ≡ Ok main
added-opens stash label wrap main iv edition =
    let block = new_block stash.account label edition wrap main iv in
    ap (opened_found wrap stash.account label) (get-insert nat_list_cmp_total stash.blocks label block label
    ∙ ap (λ b. cond b (Some block) (get stash.blocks label)) (ties_itself label))
    ∙ ap main_or_fault (opened_by_tag wrap iv (extra_by Bound stash.account label edition) block.text block.tag main refl (sym (decrypted-encrypted 8 14 wrap iv main)))

pub added-others : (stash : Contents) (label other wrap : List ℕ) (block : Block) → (other ≡ label → ⊥)
    → opened_block (with_block stash label block) other wrap ≡ opened_block stash other wrap
added-others stash label other wrap block differ =
    ap (opened_found wrap stash.account other) (get-insert nat_list_cmp_total stash.blocks label block other
    ∙ ap (λ b. cond b (Some block) (get stash.blocks other)) (apart other label differ))

pub dropped-gone : (stash : Contents) (label wrap : List ℕ) → opened_block (without_block stash label) label wrap ≡ Err NoBlock
dropped-gone stash label wrap =
    ap (opened_found wrap stash.account label) (get-remove nat_list_cmp_total stash.blocks label label
    ∙ ap (λ b. cond b None (get stash.blocks label)) (ties_itself label))

pub dropped-others : (stash : Contents) (label other wrap : List ℕ) → (other ≡ label → ⊥)
    → opened_block (without_block stash label) other wrap ≡ opened_block stash other wrap
dropped-others stash label other wrap differ =
    ap (opened_found wrap stash.account other) (get-remove nat_list_cmp_total stash.blocks label other
    ∙ ap (λ b. cond b None (get stash.blocks other)) (apart other label differ))

regrouped : (account label rest : List ℕ) → (((account ++ 0 ∷ []) ++ label) ++ 0 ∷ []) ++ rest ≡ (account ++ 0 ∷ []) ++ ((label ++ 0 ∷ []) ++ rest)
regrouped account label rest = simp append_assoc

same_edition : (edition later : ℕ) → edition < 2 ^ 64 → later < 2 ^ 64 → to_be_bytes w64 edition ≡ to_be_bytes w64 later → edition ≡ later
same_edition edition later first second same =
    sym (from_be_bytes-to_be_bytes_8 edition first) ∙ ap (from_be_bytes w64) same ∙ from_be_bytes-to_be_bytes_8 later second

pub data_of_one : (account other label another : List ℕ) (edition later : ℕ) → IsTrue (is_account_name account) → IsTrue (is_account_name other)
    → IsTrue (is_factor_label label) → IsTrue (is_factor_label another) → edition < 2 ^ 64 → later < 2 ^ 64
    → extra_by Bound account label edition ≡ extra_by Bound other another later → (account ≡ other) × (label ≡ another) × (edition ≡ later)
data_of_one account other label another edition later a b d e first second same =
    let tail : (((account ++ 0 ∷ []) ++ label) ++ 0 ∷ []) ++ to_be_bytes w64 edition ≡ (((other ++ 0 ∷ []) ++ another) ++ 0 ∷ []) ++ to_be_bytes w64 later =
    ap (λ (bytes : List ℕ). drop 5 bytes) same in
    let accounts = split_at_zero account other ((label ++ 0 ∷ []) ++ to_be_bytes w64 edition) ((another ++ 0 ∷ []) ++ to_be_bytes w64 later)
    (and_parts _ _ a).1 (and_parts _ _ b).1 (sym (regrouped account label (to_be_bytes w64 edition)) ∙ tail ∙ regrouped other another (to_be_bytes w64 later)) in
    let labels = split_at_zero label another (to_be_bytes w64 edition) (to_be_bytes w64 later) (and_parts _ _ d).1 (and_parts _ _ e).1 accounts.1 in
    (accounts.0, labels.0, same_edition edition later first second labels.1)
