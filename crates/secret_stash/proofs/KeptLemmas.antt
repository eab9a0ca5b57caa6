-- What is kept by the changes of a stash.
use Rattle.std.proofs.Common.{◌≡◌, ℕ, ◌+◌, ◌-◌, ◌<◌, ◌≤◌, true, false, cond, List, Some, None, Result, Ok, Err, refl, sym, ap, subst, ◌∙◌, arith}
use Rattle.std.specs.Prelude.{IsTrue, OnOk, OnErr, is_some}
use Rattle.std.specs.Cmp.Lexicographic.{nat_list_cmp_total}
use Rattle.std.specs.FinMap.{insert, remove, get, len, contains_key, len-insert, len-remove}
use Rattle.ct_bytes.specs.declared.memory.NoMemory.{NoMemory}
use Rattle.home_names.specs.Names.{is_account_name}
use Rattle.home_names.specs.Names.{is_factor_label}
use Rattle.stash_format.specs.declared.block.Block.{Block}
use Rattle.stash_format.specs.declared.contents.Contents.{Contents}
use Rattle.stash_format.specs.Blocks.{Blocks}
use Rattle.stash_format.specs.Kept.{IsStash}
use Rattle.stash_format.proofs.Rows.{MayStand, Everywhere-insert, Everywhere-remove, HasRows_empty, few_empty}
use Rattle.secret_stash.specs.Edits.{new_stash, with_block, without_block}

pub kept_new : (account : List ℕ) → IsTrue (is_account_name account) → IsStash (new_stash account)
kept_new account plain = record { account = plain; next = omega arith; text = tt; rows = HasRows_empty 1; few = few_empty }

-- there is room for a label that has no block yet
few_more : (blocks : Blocks) (label : List ℕ) (block : Block) → len blocks ≤ 32 → (get blocks label ≡ None → len blocks < 32) → len (insert blocks label block) ≤ 32
few_more blocks label block few room =
    rw (len-insert nat_list_cmp_total blocks label block)
    (elim (get blocks label) as (λ o. (o ≡ None → len blocks < 32) → cond (is_some o) (len blocks) (len blocks + 1) ≤ 32) [
      | None ↦ λ room. let below = room refl in omega (arith, below)
      | Some other ↦ λ _. few
    ] room)

pub kept_with : (stash : Contents) (label : List ℕ) (block : Block) → IsStash stash → IsTrue (is_factor_label label) → block.edition < stash.next
    → (get stash.blocks label ≡ None → len stash.blocks < 32) → IsStash (with_block stash label block)
kept_with stash label block kept plain below room =
    record {
      account = kept.account;
      next = kept.next;
      text = kept.text;
      rows = Everywhere-insert (MayStand stash.next) stash.blocks label block kept.rows (plain, below);
      few = few_more stash.blocks label block kept.few room;
    }

-- whether the block was put or not
pub kept_after : (result : Result (Unit {0}) NoMemory) (old new : Contents) (label : List ℕ) (block : Block) → OnOk result (new ≡ with_block old label block) → OnErr result (new ≡ old)
    → IsStash old → IsTrue (is_factor_label label) → block.edition < old.next → (get old.blocks label ≡ None → len old.blocks < 32) → IsStash new
kept_after (Ok done) old new label block ok err kept plain below room = subst IsStash (sym ok) (kept_with old label block kept plain below room)
kept_after (Err fault) old new label block ok err kept plain below room = subst IsStash (sym err) kept

fewer : (blocks : Blocks) (label : List ℕ) → len blocks ≤ 32 → len (remove blocks label) ≤ 32
fewer blocks label few =
    rw (len-remove nat_list_cmp_total blocks label)
    (elim (contains_key blocks label) as (λ b. cond b (len blocks - 1) (len blocks) ≤ 32) [ true ↦ omega arith | false ↦ few ])

pub kept_without : (stash : Contents) (label : List ℕ) → IsStash stash → IsStash (without_block stash label)
kept_without stash label kept =
    record {
      account = kept.account;
      next = kept.next;
      text = kept.text;
      rows = Everywhere-remove (MayStand stash.next) stash.blocks label kept.rows;
      few = fewer stash.blocks label kept.few;
    }

-- the same, as the call has it: the value that was opened, and the copy of the label
pub kept_added : (result : Result (Unit {0}) NoMemory) (old seen new : Contents) (name label : List ℕ) (block : Block) (edition : ℕ) → old ≡ seen → name ≡ label → block.edition ≡ edition
    → OnOk result (new ≡ with_block old name block) → OnErr result (new ≡ old) → IsStash old → IsTrue (is_factor_label label) → edition < seen.next
    → (get seen.blocks label ≡ None → len seen.blocks < 32) → IsStash new
kept_added result old seen new name label block edition same named is ok err kept plain below room =
    let here : IsTrue (is_factor_label name) = subst (λ (l : List ℕ). IsTrue (is_factor_label l)) (sym named) plain in
    let small : block.edition < old.next = omega (arith, is, below, ap (λ (s : Contents). s.next) same) in
    let space : get old.blocks name ≡ None → len old.blocks < 32 =
    λ none. subst (λ (s : Contents). len s.blocks < 32) (sym same) (room (ap (λ (s : Contents). get s.blocks label) (sym same) ∙ ap (get old.blocks) (sym named) ∙ none)) in
    kept_after result old new name block ok err kept here small space
