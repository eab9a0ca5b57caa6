-- Answers to steps on records.
use Rattle.std.proofs.Common.{◌≡◌, ℕ, List, [], ◌∷◌, refl, sym, subst, None, Err}
use Rattle.std.proofs.Common.{append-nil}
use Rattle.std.specs.Prelude.{IsPermutation, IsSorted}
use Rattle.std.proofs.lemmas.List.Sorted.{IsPermutation-refl}
use Rattle.std.specs.Ordering.{nat_cmp}
use Rattle.std.specs.Cmp.Lexicographic.{slice_cmp}
use Rattle.share_api.specs.Contents.{Bytes}
use Rattle.share_api.specs.Replies.{AreListed}
use Rattle.share_api.specs.declared.fault.ShareFault.TheVariants as faults
use Rattle.share_api.specs.declared.step.Write.TheVariants.{Put, Remove, RemoveLeaf}
use Rattle.share_api.specs.declared.step.Op.{Op}
use Rattle.share_api.specs.declared.step.Op.TheVariants.{Names, Get, Do, InsertLeaf, TryLeaf, ResetLeaf, LookLeaf}
use Rattle.share_api.specs.declared.step.Reply.TheVariants as replies
use Rattle.platform_core.specs.Asked.{IsReplyTo}
use Rattle.platform_lock.specs.Answers.{IsAnswerTo}

-- a reply with names is one to Names alone
pub names_only : (op : Op) (listing : List Bytes × List ℕ) → IsReplyTo op (replies.Listed listing)
    → (op ≡ Names) × IsSorted (slice_cmp nat_cmp) listing.0 × (listing.1 ≡ [])
names_only Names listing is = (refl, is.0, is.1)
names_only (Get name) listing is = absurd is
names_only (Do write) listing is = absurd is
names_only (InsertLeaf leaf) listing is = absurd is
names_only (TryLeaf label les) listing is = absurd is
names_only (ResetLeaf label secret) listing is = absurd is
names_only (LookLeaf label) listing is = absurd is

-- without labels names in rising order are listed as themselves
pub listed_alone : (names listed : List Bytes) (labels : List ℕ) → IsSorted (slice_cmp nat_cmp) names → labels ≡ []
    → listed ≡ names → AreListed names labels listed
listed_alone names listed labels rising none same =
    subst (λ (xs : List Bytes). AreListed names labels xs) (sym same)
    (subst (λ (ns : List ℕ). AreListed names ns names) (sym none) (record {
      account = 109 ∷ [];
      plain = refl;
      all = subst (λ (xs : List Bytes). IsPermutation xs names) (sym (append-nil names)) (IsPermutation-refl names);
      sorted = rising;
    }))

-- a step that failed
pub failed_answer : (op : Op) → IsAnswerTo None op (Err faults.Failed) replies.Failed
failed_answer Names = record { told = refl; kind = tt; fault = tt; loss = tt }
failed_answer (Get name) = record { told = refl; kind = tt; fault = tt; loss = tt }
failed_answer (Do (Put name bytes)) = record { told = refl; kind = tt; fault = refl; loss = tt }
failed_answer (Do (Remove name)) = record { told = refl; kind = tt; fault = refl; loss = tt }
failed_answer (Do (RemoveLeaf label)) = record { told = refl; kind = tt; fault = tt; loss = λ host chip e. cc }
failed_answer (InsertLeaf leaf) = record { told = refl; kind = tt; fault = tt; loss = λ host chip e. cc }
failed_answer (TryLeaf label les) = record { told = refl; kind = tt; fault = tt; loss = λ host chip e. cc }
failed_answer (ResetLeaf label secret) = record { told = refl; kind = tt; fault = tt; loss = λ host chip e. cc }
failed_answer (LookLeaf label) = record { told = refl; kind = tt; fault = tt; loss = λ host chip e. cc }
