-- Names that are known, before and after a call.
use Rattle.std.proofs.Common.{◌≡◌, ◌≢◌, ⊎_elim, List, [], ◌∷◌, Option, Some, true, false, cond, refl}
use Rattle.std.proofs.Common.{sym, ap, ◌∙◌, subst, true≢false}
use Rattle.std.specs.Prelude.{IfSome, bytes_eq}
use Rattle.std.proofs.lemmas.Slice.Eq.{bytes_eq-Decides}
use Rattle.std.proofs.lemmas.List.Elements.{Contains-append_cases}
use Rattle.board_model.specs.Disk.{Image, Disk}
use Rattle.cabinet.specs.Names.{without_name}
use Rattle.cabinet.specs.Named.{AreNamed, KeepsNames}
use Rattle.cabinet.proofs.NamedLemmas.{without_only}
use Rattle.cabinet.proofs.OpeningLemmas.{only_one}
use Rattle.share_api.specs.Contents.{Bytes}
use Rattle.platform_core.specs.declared.unsure.Unsure.{Unsure}
use Rattle.platform_core.specs.declared.unsure.Unsure.TheVariants.{Nothing, Name, Anything}
use Rattle.platform_core.specs.Unsure.{is_unsure, unsure_with, unsure_without, Memory, NamesKnown}
use Rattle.platform_core.proofs.BoardLemmas.{of_told}

with_itself : (u : Unsure) (name : Bytes) → is_unsure (unsure_with u name) name ≡ true
with_itself Nothing name = (bytes_eq-Decides name name).1 refl
with_itself (Name held) name = elim (bytes_eq held name) as (λ b. bytes_eq held name ≡ b
    → is_unsure (cond b (Name held) Anything) name ≡ true) [ true ↦ λ e. e | false ↦ λ e. refl ] refl
with_itself Anything name = refl

with_before : (u : Unsure) (name q : Bytes) → is_unsure u q ≡ true → is_unsure (unsure_with u name) q ≡ true
with_before Nothing name q e = absurd (true≢false (sym e))
with_before (Name held) name q e = elim (bytes_eq held name) as (λ b. is_unsure (cond b (Name held) Anything) q ≡ true)
    [ true ↦ e | false ↦ refl ]
with_before Anything name q e = refl

without_other : (u : Unsure) (name q : Bytes) → q ≢ name → is_unsure u q ≡ true
    → is_unsure (unsure_without u name) q ≡ true
without_other Nothing name q apart e = e
without_other (Name held) name q apart e =
    elim (bytes_eq held name) as (λ b. bytes_eq held name ≡ b → is_unsure (cond b Nothing (Name held)) q ≡ true) [
      | true ↦ λ t. absurd (apart (sym ((bytes_eq-Decides held q).0 e) ∙ (bytes_eq-Decides held name).0 t))
      | false ↦ λ t. e
    ] refl
without_other Anything name q apart e = refl

-- a call after which no more names are doubtful than these
module _ (a b : Disk) (before : Memory) (names : List Bytes) (u : Unsure) (name : Bytes) (now then : Image)
    (told : a.now ≡ Some now) (after_told : b.now ≡ Some then) (known : NamesKnown now before) where
  kept_to : (doubt : List Bytes → List Bytes) → KeepsNames doubt a before.names b names
      → AreNamed (doubt known.doubtful) then names
  kept_to doubt keeps =
      of_told (λ (m : Image). AreNamed (doubt known.doubtful) m names) b.now then
      (keeps known.doubtful (subst (λ (o : Option Image). IfSome o (λ m. AreNamed known.doubtful m before.names))
      (sym told) known.named)) after_told

  -- the record was looked at, or changed
  pub known_without : u ≡ unsure_without before.unsure name → KeepsNames
      (λ doubt. without_name doubt name) a before.names b names → NamesKnown then (record { names = names; unsure = u })
  known_without is keeps = record {
    doubtful = without_name known.doubtful name;
    named = kept_to (λ doubt. without_name doubt name) keeps;
    covered = λ q h. let was = without_only known.doubtful name q h in ap (λ (v : Unsure). is_unsure v q) is
        ∙ without_other before.unsure name q was.1 (known.covered q was.0);
  }

  -- its change failed
  pub known_with : u ≡ unsure_with before.unsure name → KeepsNames (λ doubt. name ∷ doubt) a before.names b names
      → NamesKnown then (record { names = names; unsure = u })
  known_with is keeps = record {
    doubtful = name ∷ known.doubtful;
    named = kept_to (λ doubt. name ∷ doubt) keeps;
    covered = λ q h. ap (λ (v : Unsure). is_unsure v q) is
        ∙ ⊎_elim (λ one. subst (λ (n : Bytes). is_unsure (unsure_with before.unsure name) n ≡ true)
        (only_one name q one) (with_itself before.unsure name))
        (λ rest. with_before before.unsure name q (known.covered q rest))
        (Contains-append_cases (name ∷ []) known.doubtful q h);
  }

  -- nothing was done
  pub known_same : u ≡ before.unsure → KeepsNames (λ doubt. doubt) a before.names b names
      → NamesKnown then (record { names = names; unsure = u })
  known_same is keeps = record {
    doubtful = known.doubtful;
    named = kept_to (λ doubt. doubt) keeps;
    covered = λ q h. ap (λ (v : Unsure). is_unsure v q) is ∙ known.covered q h;
  }
