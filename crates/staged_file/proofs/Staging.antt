-- Files that aren't temporary, through several calls.
use Rattle.std.proofs.Common.{ℕ, List, sym, ap, ◌∙◌, subst}
use Rattle.std.specs.FinMap.{get}
use Rattle.board_model.specs.Files.{IsTemporary}
use Rattle.board_model.specs.Disk.{Image, Disk, Effect, Same, SameBut, Follows, Leaves, Goes}
use Rattle.board_model.proofs.Effects.{leaves_then, goes_then}
use Rattle.staged_file.specs.Staged.{Kept}

pub kept_same : (d i : Image) → Same d i → Kept d i
kept_same d i e = record {
  words = ap (λ (x : Image). x.words) e;
  others = λ q plain. ap (λ (x : Image). get x.files q) e;
}

pub kept_then : (d e i : Image) → Kept d e → Kept e i → Kept d i
kept_then d e i f g = record {
  words = g.words ∙ f.words;
  others = λ q plain. g.others q plain ∙ f.others q plain;
}

-- a temporary file doesn't count
pub but_kept : (temp : List ℕ) → IsTemporary temp → (d i : Image) → SameBut temp d i → Kept d i
but_kept temp is d i h = record {
  words = h.words;
  others = λ q plain. h.others q (λ e. plain (subst IsTemporary (sym e) is));
}

pub then_same : (R : Effect) (d e i : Image) → R d e → Same e i → R d i
then_same R d e i r s = subst (R d) (sym s) r

-- one call more that changes nothing
pub leaves_same : (R : Effect) (a b c : Disk) → Leaves a b R → Leaves b c Same → Leaves a c R
leaves_same R a b c f g =
    leaves_then a b c R Same R (λ d i r. r) (λ d e i r left s. then_same R d e i r s) f g

pub goes_on : (R : Effect) (a b c : Disk) → Goes a b R → Goes b c Same → Goes a c R
goes_on R a b c f g = goes_then a b c R Same R (then_same R) f g

-- what each image once the directory is synced has, each image has after its sync
pub durable_by : (R : Effect) (a d e : Disk)
    → ((i : Image) → a.once_synced i → a.may_leave i) → Goes a d R
    → ((i : Image) → e.may_leave i → d.once_synced i) → Follows R a.may_leave e.may_leave
durable_by R a d e law f stands i left =
    let from = f.synced i (stands i left) in (from.0, law from.0 from.1, from.2)
