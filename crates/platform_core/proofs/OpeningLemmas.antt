-- What an opening finds and leaves.
use Rattle.std.proofs.Common.{◌≡◌, ℕ, ◌<◌, map, List, [], ◌∷◌, ◌++◌, Option, None, Some}
use Rattle.std.proofs.Common.{true, false, cond, refl, sym, ap, ◌∙◌, subst, true≢false}
use Rattle.std.specs.Prelude.{IsSome, IfSome}
use Rattle.std.specs.FinMap.{get, keys}
use Rattle.board_model.specs.Disk.{Image, Disk, Leaves, Goes, Unchanged}
use Rattle.staged_file.specs.Staged.{Kept}
use Rattle.staged_file.proofs.Staging.{leaves_same, goes_on}
use Rattle.cabinet.specs.Edits.{Agrees, IsSettled}
use Rattle.cabinet.specs.Names.{is_held, with_name, with_names}
use Rattle.cabinet.specs.Opening.{Opened, accounts_found}
use Rattle.cabinet.specs.declared.fault.CabinetFault.{CabinetFault}
use Rattle.cabinet.specs.declared.fault.CabinetFault.TheVariants as causes
use Rattle.cabinet.specs.OpenFaults as faults
use Rattle.cabinet.specs.Named.{AreNamed, HasNames}
use Rattle.cabinet.proofs.OpeningLemmas.{leaves_listed, goes_listed, none_in}
use Rattle.cabinet.proofs.NamedLemmas.{contains-held, distinct_none, distinct_push}
use Rattle.record_names.specs.Names.{account_of}
use Rattle.share_api.specs.Contents.{Bytes}
use Rattle.platform_core.specs.Records.{AreDistinct}
use Rattle.platform_core.specs.Standing.{IsTold, IsRight}
use Rattle.platform_core.specs.declared.unsure.Unsure.TheVariants.{Nothing}
use Rattle.platform_core.specs.Opening.{AreTooMany}
use Rattle.platform_core.proofs.BoardLemmas.{told_on, agrees_goes, agrees_same, of_told}

-- ---- accounts stand once

distinct_with : (xs : List Bytes) (y : Bytes) → AreDistinct xs → AreDistinct (with_name xs y)
distinct_with xs y d = elim (is_held xs y) as (λ b. is_held xs y ≡ b → AreDistinct (cond b xs (xs ++ y ∷ [])))
    [ true ↦ λ e. d | false ↦ λ e. distinct_push xs y d (λ h. true≢false (sym (contains-held xs y h) ∙ e)) ] refl

distinct_names : (xs ys : List Bytes) → AreDistinct xs → AreDistinct (with_names xs ys)
distinct_names xs [] d = d
distinct_names xs (y ∷ ys) d = distinct_names (with_name xs y) ys (distinct_with xs y d)

pub distinct_found : (accounts named names : List Bytes) → accounts ≡ accounts_found named names → AreDistinct accounts
distinct_found accounts named names is =
    subst AreDistinct (sym is) (distinct_names (with_names [] named) (map account_of names)
    (distinct_names [] named distinct_none))

-- ---- a listing, then the cabinet's opening, then a sync

module _ (a m n b : Disk) (first : Unchanged a m) (last : Unchanged n b) where
  pub opened_on : (named : List Bytes) (most : ℕ) (names accounts : List Bytes) → Opened m n named most names accounts
      → Opened a b named most names accounts
  opened_on named most names accounts o = record {
    files = o.files;
    listed = subst (λ (x : Option Image). IfSome x (λ now. o.files ≡ keys now.files)) first.now o.listed;
    found = o.found;
    gone = λ q there temporary i left. let from = last.crash.here i left in ap (λ (x : Image). get x.files q) from.2
        ∙ o.gone q there temporary from.0 from.1;
  }

  pub leaves_all : Leaves m n Kept → Leaves a b Kept
  leaves_all l = leaves_same Kept a n b (leaves_listed a m n first.crash l) last.crash

  pub goes_all : Goes m n Kept → Goes a b Kept
  goes_all g = goes_on Kept a n b (goes_listed a m n first.goes g) last.goes

told_some : (o : Option Image) → IsSome o → (now : Image) × (o ≡ Some now)
told_some None is = absurd (true≢false (sym is))
told_some (Some now) is = (now, refl)

pub opened_right : (a m n b : Disk) (names : List Bytes) → Unchanged a m → Goes m n Kept → Unchanged n b
    → (Agrees n → IsSettled b) → HasNames [] n names
    → IsTold a → Agrees a → IsRight b (record { names = names; unsure = Nothing }) false
opened_right a m n b names first g last settled named told agrees =
    let now = told_some a.now told in
    let next = told_on Kept m.now n.now now.0 (first.now ∙ now.1) g.now in
    let right = agrees_goes [] m n g (agrees_same a m first.now first.goes.synced agrees) in
    record {
      now = next.0;
      told = last.now ∙ next.1;
      agrees = agrees_same n b last.now last.goes.synced right;
      settled = λ e. settled right;
      named = record {
        doubtful = [];
        named = of_told (λ (now : Image). AreNamed [] now names) n.now next.0 named
            next.1;
        covered = λ q held. absurd (none_in q held);
      };
    }

-- there are too many accounts
pub many_accounts : (a m : Disk) (named : List Bytes) (most accounts : ℕ) (fault : CabinetFault) → m.now ≡ a.now
    → faults.IsOpenFault m named most fault
    → (64 < accounts) × ((names : ℕ) × (fault ≡ causes.TooMany accounts names)) → AreTooMany a named accounts
many_accounts a m named most accounts fault same is many =
    let h = subst (faults.IsOpenFault m named most) many.1.1 is in record {
      files = h.0;
      names = h.2.read_names;
      listed = subst (λ (x : Option Image). IfSome x (λ now. h.0 ≡ keys now.files)) same h.1;
      read = h.2.read;
      accounts_are = h.2.accounts_are;
      many = many.0;
    }
