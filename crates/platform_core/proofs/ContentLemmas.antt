-- The names of an account's records, and what its contents have.
use Rattle.std.proofs.Common.{◌≡◌, ℕ, List, [], ◌∷◌, length, map, Option, None, Some, refl, sym, ap, ◌∙◌, subst, arith}
use Rattle.std.specs.Prelude.{IsSome, option_map, take}
use Rattle.std.specs.Ordering.{nat_cmp}
use Rattle.std.specs.FinMap.{get, keys, empty, entries, len-entries, len-empty}
use Rattle.share_api.specs.declared.leaf.Leaf.{Leaf}
use Rattle.board_model.specs.Disk.{Image}
use Rattle.staged_file.specs.Staged.{Kept}
use Rattle.share_api.specs.Contents.{Bytes, Contents}
use Rattle.platform_core.specs.Records.{AreContents, AreNames}
use Rattle.platform_core.proofs.KeyLemmas.{names_are_keys}
use Rattle.platform_core.proofs.RecordLemmas.{plain_of}

some_cut : (o : Option Bytes) → IsSome o → IsSome (option_map (take 49182) o)
some_cut None is = is
some_cut (Some x) is = refl

cut_some : (o : Option Bytes) → IsSome (option_map (take 49182) o) → IsSome o
cut_some None is = is
cut_some (Some x) is = refl

-- the names of what is there are the keys of what an alike image has
pub contents_keys : (now d : Image) (account : Bytes) (c : Contents) (names : List Bytes) → Kept now d
    → AreContents d account c → AreNames account now names → names ≡ keys c.records
contents_keys now d account c names k a n =
    names_are_keys c.records names n.rising n.once
    (λ q some.
    let mine = a.only q some in
    n.every q mine (subst IsSome (k.others q (plain_of account q mine))
    (cut_some (get d.files q) (subst IsSome (a.records q mine) some))))
    (λ q listed.
    let was = n.only q listed in
    subst IsSome (sym (a.records q was.0)) (some_cut (get d.files q) (subst IsSome
    (sym (k.others q (plain_of account q was.0))) was.1)))

nil_of : {A : Type 0} (xs : List A) → length xs ≡ 0 → xs ≡ []
nil_of [] e = refl
nil_of (x ∷ xs) e = absurd (omega (arith, e))

-- there are no leaves
pub keys_empty : keys {X = Leaf} {R = nat_cmp} empty ≡ []
keys_empty = ap (map (λ (e : ℕ × Leaf). e.0)) (nil_of (entries empty) (sym (len-entries empty)
    ∙ len-empty nat_cmp Leaf))
