-- Reads and removals make no record.
use Rattle.std.proofs.Common.{◌≡◌, List, [], ◌∷◌, Some, Bool, sym, ap, ◌∙◌, ⊎_elim}
use Rattle.std.specs.FinMap.{get, remove}
use Rattle.pw_types.specs.declared.era.Era.{Era}
use Rattle.share_api.specs.Contents.{Bytes, Contents, settled}
use Rattle.share_api.specs.Folds.{Fold}
use Rattle.share_api.specs.Steps.{Does, Leads, done}
use Rattle.share_api.specs.declared.step.Op.{Op}
use Rattle.share_api.specs.declared.step.Op.TheVariants.{Names, Get, Do, InsertLeaf, TryLeaf, ResetLeaf, LookLeaf}
use Rattle.share_api.specs.declared.step.Reply.{Reply}
use Rattle.share_api.specs.declared.step.Reply.TheVariants.{Done, Found, Listed, Labelled, Tried, Fits, Viewed, TreeLost, Damaged, Failed, NoMemory}
use Rattle.share_api.specs.declared.step.Step.{Step}
use Rattle.share_api.specs.declared.step.Write.{Write}
use Rattle.share_api.specs.declared.step.Write.TheVariants.{Put, Remove, RemoveLeaf}
use Rattle.stored_home.specs.declared.stored.Stored.{Stored}
use Rattle.stored_home.proofs.MapLemmas.{same_or_apart, taken_at, taken_other, not_None}
use Rattle.home_recovery.specs.Reading.{AreReads}
use Rattle.home_recovery.specs.Recovers.{IsTidying, AreTidying, RemovesUnnamed}
use Rattle.home_recovery.proofs.ReadLemmas.{read_leads}

-- each record of the one is one of the other
abbrev pub HasFewer : Contents → Contents → Type 0
HasFewer old new = (name bytes : Bytes) → get new.records name ≡ Some bytes → get old.records name ≡ Some bytes

fewer_same : (old new : Contents) → new ≡ old → HasFewer old new
fewer_same old new e name bytes there = sym (ap (λ (c : Contents). get c.records name) e) ∙ there

fewer_done : (lost : Bool) (account : Bytes) (stored : Stored) (write : Write) (old : Contents) → RemovesUnnamed lost account stored write
    → HasFewer old (done write old)
fewer_done lost account stored (Put other bytes) old is name found there = absurd is
fewer_done lost account stored (RemoveLeaf tree) old is name found there = there
fewer_done lost account stored (Remove other) old is name found there = ⊎_elim
    (λ same. absurd (not_None found (sym there ∙ ap (get (remove old.records other)) same ∙ taken_at old.records other)))
    (λ apart. sym (taken_other old.records other name apart) ∙ there)
    (same_or_apart name other)

fewer_write : (era : Era) (lost : Bool) (account : Bytes) (stored : Stored) (moment : _) (write : Write) (reply : Reply) (old new : Contents)
    → RemovesUnnamed lost account stored write → Leads era moment (Do write) reply old new → HasFewer old new
fewer_write era lost account stored moment write reply old new is l = by reply l
  where
    wrote : new ≡ done write old → HasFewer old new
    wrote e name bytes there =
        fewer_done lost account stored write old is name bytes (sym (ap (λ (c : Contents). get c.records name) e) ∙ there)

    by : (reply : Reply) → Leads era moment (Do write) reply old new → HasFewer old new
    by Failed k = ⊎_elim (fewer_same old new) wrote k
    by NoMemory k = fewer_same old new k
    by TreeLost k = fewer_same old new k
    by Damaged k = fewer_same old new k
    by Done k = wrote k.1
    by (Found b) k = wrote k.1
    by (Listed b) k = wrote k.1
    by (Labelled b) k = wrote k.1
    by (Tried b) k = wrote k.1
    by (Fits b) k = wrote k.1
    by (Viewed b) k = wrote k.1

fewer_op : (era : Era) (lost : Bool) (account : Bytes) (stored : Stored) (moment : _) (op : Op) (reply : Reply) (old new : Contents)
    → IsTidying lost account stored op → Leads era moment op reply old new → HasFewer old new
fewer_op era lost account stored moment Names reply old new is l = fewer_same old new (read_leads era moment Names reply old new tt l)
fewer_op era lost account stored moment (Get name) reply old new is l = fewer_same old new (read_leads era moment (Get name) reply old new tt l)
fewer_op era lost account stored moment (LookLeaf label) reply old new is l =
    fewer_same old new (read_leads era moment (LookLeaf label) reply old new tt l)
fewer_op era lost account stored moment (Do write) reply old new is l = fewer_write era lost account stored moment write reply old new is l
fewer_op era lost account stored moment (InsertLeaf leaf) reply old new is l = absurd is
fewer_op era lost account stored moment (TryLeaf label les) reply old new is l = absurd is
fewer_op era lost account stored moment (ResetLeaf label secret) reply old new is l = absurd is

-- what removals of unnamed records leave was there
pub fewer_tidying : (era : Era) (lost : Bool) (account : Bytes) (stored : Stored) (steps : List Step) (old new : Contents)
    → AreTidying lost account stored steps → Fold (Does era) old steps new → HasFewer old new
fewer_tidying era lost account stored [] old new is f = fewer_same old new f
fewer_tidying era lost account stored (step ∷ steps) old new is f = λ name bytes there.
    fewer_op era lost account stored step.moment step.op step.reply (settled old) f.0 is.0 f.1 name bytes
    (fewer_tidying era lost account stored steps f.0 new is.1 f.2 name bytes there)

-- and so what reads leave
pub fewer_reads : (era : Era) (steps : List Step) (old new : Contents) → AreReads steps → Fold (Does era) old steps new → HasFewer old new
fewer_reads era [] old new is f = fewer_same old new f
fewer_reads era (step ∷ steps) old new is f = λ name bytes there.
    fewer_same (settled old) f.0 (read_leads era step.moment step.op step.reply (settled old) f.0 is.0 f.1) name bytes
    (fewer_reads era steps f.0 new is.1 f.2 name bytes there)
