-- Looks at records, one after the other.
use Rattle.std.proofs.Common.{◌≡◌, ⊎_elim, ℕ, ◌+◌, ◌<◌, ◌≤◌, List, [], length, get_or, Option}
use Rattle.std.proofs.Common.{None, Some, Bool, true, false, refl, sym, ap, ◌∙◌, subst, true≢false, arith, Result, Ok}
use Rattle.std.proofs.Common.{Err}
use Rattle.std.specs.Prelude.{Contains, IsPermutation, IsSorted, bytes_eq, option_map, take, is_some, IfOk}
use Rattle.std.specs.List.{IsDistinct}
use Rattle.std.specs.Ordering.{nat_cmp}
use Rattle.std.specs.Cmp.Lexicographic.{slice_cmp}
use Rattle.std.specs.FinMap.{get}
use Rattle.std.proofs.lemmas.List.{get_or_default}
use Rattle.std.proofs.lemmas.List.Sorted.{Contains-permutation, IsPermutation-sym}
use Rattle.std.proofs.lemmas.Map.Keys.{IsDistinct-IsPermutation}
use Rattle.std.proofs.lemmas.Slice.Eq.{bytes_eq-Decides}
use Rattle.board_model.specs.Disk.{Image, Disk, Same, Unchanged}
use Rattle.board_model.proofs.Effects.{goes_then, unchanged_none}
use Rattle.staged_file.proofs.Staging.{leaves_same}
use Rattle.cabinet.specs.Named.{IsThere}
use Rattle.share_api.specs.Contents.{Bytes}
use Rattle.platform_core.specs.Records.{IsRecordOf, AreNames, account_at}
use Rattle.platform_core.specs.Picks.{Picked}
use Rattle.platform_core.specs.Unsure.{Memory, NamesKnown, is_unsure}
use Rattle.platform_core.specs.Standing.{Looked}
use Rattle.platform_core.proofs.PickLemmas.{fewer_same, fewer_then}
use Rattle.platform_core.proofs.RecordLemmas.{distinct_at}

pub looked_none : (a : Disk) (memory : Memory) → ((i : Image) → a.left_since a.ticks i → a.may_leave i)
    → Looked a a memory memory
looked_none a memory only = record {
  unchanged = unchanged_none a only;
  known = λ now told known. known;
  fewer =
      fewer_same memory.names memory.names refl;
}

pub unchanged_then : (a b c : Disk) → Unchanged a b → Unchanged b c → Unchanged a c
unchanged_then a b c f g = record {
  now = g.now ∙ f.now;
  goes = goes_then a b c Same Same Same (λ d e i same more. more ∙ same) f.goes g.goes;
  crash = leaves_same Same a b c f.crash g.crash;
}

pub looked_then : (a b c : Disk) (before mid after : Memory) → Looked a b before mid → Looked b c mid after
    → Looked a c before after
looked_then a b c before mid after f g = record {
  unchanged = unchanged_then a b c f.unchanged g.unchanged;
  known = λ now told known. g.known now (f.unchanged.now ∙ told) (f.known now told known);
  fewer = fewer_then before.names mid.names after.names f.fewer g.fewer;
}

-- a name that is held and sure has a record
pub sure_there : (now : Image) (memory : Memory) (name : Bytes) → is_unsure memory.unsure name ≡ false
    → NamesKnown now memory → Contains memory.names name → IsThere now name
sure_there now memory name sure known held =
    ⊎_elim (λ there. there) (λ doubt. absurd (true≢false (sym (known.covered name doubt) ∙ sure)))
    (known.named.only name held).1

-- what was found is there, and what wasn't isn't
pub found_there : (now : Image) (name : Bytes) (found : Option Bytes) → found ≡ option_map (take 49182)
    (get now.files name) → is_some found ≡ is_some (get now.files name)
found_there now name found is = ap is_some is ∙ cut (get now.files name)
  where
    cut : (o : Option Bytes) → is_some (option_map (take 49182) o) ≡ is_some o
    cut None = refl
    cut (Some x) = refl

-- the names that are left to be looked at stay held
pub left_held : (own old new : List Bytes) (k : ℕ) (name : Bytes) → IsDistinct bytes_eq own → k < length own
    → name ≡ get_or own k name
    → ((q : Bytes) → (q ≡ name → ⊥) → Contains old q → Contains new q)
    → ((j : ℕ) → k ≤ j → j < length own → Contains old (account_at own j))
    → (j : ℕ) → k + 1 ≤ j → j < length own → Contains new (account_at own j)
left_held own old new k name once lt is keeps held j later inside =
    keeps (account_at own j)
    (λ same. distinct_at own once k j (omega arith) inside (get_or_default own k [] name lt ∙ sym is ∙ sym same))
    (held j (omega arith) inside)

-- the account's names that are there, in order
pub names_listed : (account : Bytes) (now : Image) (memory : Memory) (own there listed : List Bytes)
    → NamesKnown now memory → Picked (IsRecordOf account) memory.names own
    → Picked (IsThere now) own there → IsPermutation there listed → IsSorted (slice_cmp nat_cmp) listed
    → AreNames account now listed
names_listed account now memory own there listed known mine found moved rising = record {
  every = λ q is yes. Contains-permutation there listed q moved (found.every q yes
      (mine.every q is (known.named.every q is.named yes)));
  only = λ q h. let was = found.only q (Contains-permutation listed there q
      (IsPermutation-sym there listed moved) h) in ((mine.only q was.1).0, was.0);
  once = IsDistinct-IsPermutation bytes_eq turned there listed moved (found.once (mine.once known.named.once));
  rising = rising;
}
  where
    by : (x y : Bytes) (b c : Bool) → bytes_eq x y ≡ b → bytes_eq y x ≡ c → b ≡ c
    by x y true true e f = refl
    by x y false false e f = refl
    by x y true false e f = absurd (true≢false (sym ((bytes_eq-Decides y x).1 (sym ((bytes_eq-Decides x y).0 e))) ∙ f))
    by x y false true e f = absurd (true≢false (sym ((bytes_eq-Decides x y).1 (sym ((bytes_eq-Decides y x).0 f))) ∙ e))

    turned : (x y : Bytes) → bytes_eq x y ≡ bytes_eq y x
    turned x y = by x y (bytes_eq x y) (bytes_eq y x) refl refl

pub held_at : (own names : List Bytes) (j : ℕ) → j < length own → ((q : Bytes) → Contains own q → Contains names q)
    → Contains names (account_at own j)
held_at own names j inside all = all (account_at own j) (j, inside, get_or_default own j (account_at own j) [] inside)

same_image : (x y : Image) → ◌≡◌ {A = Option Image} (Some x) (Some y) → x ≡ y
same_image x y e = cc

-- what is known goes on through looks
pub known_then : (a b : Disk) (before after : Memory) → Looked a b before after → (now next : Image) → a.now ≡ Some now
    → b.now ≡ Some next → NamesKnown now before → NamesKnown next after
known_then a b before after l now next told more known =
    subst (λ (m : Image). NamesKnown m after) (same_image now next (sym (l.unchanged.now ∙ told) ∙ more))
    (l.known now told known)

pub if_both : {A F : Type 0} (r : Result A F) (P Q R : A → Type 0) → ((x : A) → P x → Q x → R x) → IfOk r P → IfOk r Q
    → IfOk r R
if_both (Ok x) P Q R to p q = to x p q
if_both (Err e) P Q R to p q = tt

-- the names that are listed, as they were found
pub listed_all : (account given : Bytes) (now : Image) (memory : Memory) (names own shown there listed : List Bytes)
    → given ≡ account → names ≡ memory.names → shown ≡ own → NamesKnown now memory
    → Picked (IsRecordOf given) names own
    → (IsDistinct bytes_eq shown → ((q : Bytes) → Contains shown q → Contains memory.names q)
    → Picked (IsThere now) shown there)
    → IsPermutation there listed → IsSorted (slice_cmp nat_cmp) listed → AreNames account now listed
listed_all account given now memory names own shown there listed is held same known mine found moved rising =
    let picked : Picked (IsRecordOf account) memory.names own = subst (λ (a : Bytes). Picked
    (IsRecordOf a) memory.names own) is (subst (λ (xs : List Bytes). Picked (IsRecordOf given) xs own) held mine) in
    let seen : Picked (IsThere now) own there = subst (λ (xs : List Bytes). Picked (IsThere now) xs there) same
    (found (subst (IsDistinct bytes_eq) (sym same) (picked.once known.named.once))
    (λ q h. (picked.only q (subst (λ (xs : List Bytes). Contains xs q) same h)).1)) in
    names_listed account now memory own there listed known picked seen moved rising
