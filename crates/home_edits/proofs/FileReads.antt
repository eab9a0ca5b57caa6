-- A vault file is read by one step that changes nothing.
use Rattle.std.proofs.Common.{◌≡◌, [], ◌∷◌, Option, None, Some, Result, Ok, Err, refl, sym, ap, ◌∙◌, subst, inl}
use Rattle.std.specs.Prelude.{is_some}
use Rattle.std.specs.Result.{result_ok}
use Rattle.std.specs.FinMap.{get}
use Rattle.account_machine.specs.declared.user.Durable.{Durable}
use Rattle.pw_types.specs.declared.era.Era.{Era}
use Rattle.record_names.specs.Names.{AreParts, File, file_name}
use Rattle.share_api.specs.Contents.{Bytes, Contents, settled}
use Rattle.share_api.specs.Conditions.{IsReadFault}
use Rattle.share_api.specs.Folds.{Fold, Throughout}
use Rattle.share_api.specs.Replies.{found_reply, fault_reply}
use Rattle.share_api.specs.Seen.{ShareSeen, Makes, step_of}
use Rattle.share_api.specs.Steps.{Does, Leads}
use Rattle.share_api.specs.declared.fault.ShareFault.{ShareFault}
use Rattle.share_api.specs.declared.fault.ShareFault.TheVariants as shares
use Rattle.share_api.specs.declared.step.Step.{Step}
use Rattle.share_api.specs.declared.step.Op.TheVariants.{Get}
use Rattle.share_api.specs.declared.step.Reply.{Reply}
use Rattle.share_api.specs.declared.step.Reply.TheVariants.{Found}
use Rattle.share_api.proofs.RunLaws.{runs_one}
use Rattle.vault_crypt.specs.declared.fault.VaultFault.{VaultFault}
use Rattle.stored_home.specs.Matching.{Matches}
use Rattle.stored_home.specs.Holds.{Keys, IsFileOf, HasStash, HoldsUnder}
use Rattle.stored_home.specs.Loaded.{IsKept, HasFactors}
use Rattle.stored_home.specs.declared.stored.Stored.{Stored}
use Rattle.stored_home.specs.declared.fault.StoreFault.{StoreFault}
use Rattle.stored_home.specs.declared.fault.StoreFault.TheVariants as faults
use Rattle.stored_home.proofs.FrameLemmas.{held_settled}
use Rattle.share_api.proofs.StepLaws.{settled_same}
use Rattle.home_edits.specs.Edits.{told_fault}
use Rattle.home_edits.specs.Files.{ReadsFile, Shows, IsReadFileFault, file_in, file_of}
use Rattle.home_edits.proofs.KeptLemmas.{home_stash, held_by}

-- a read of a record changes nothing
read_leaves : (era : Era) (name : Bytes) (result : Result (Option Bytes) ShareFault) (old new : Contents)
    → Leads era 0 (Get name) (found_reply result) old new → new ≡ old
read_leaves era name (Ok found) old new l = l.1
read_leaves era name (Err shares.Failed) old new l = l
read_leaves era name (Err (shares.TreeLost host chip)) old new l = l
read_leaves era name (Err (shares.Damaged leaf)) old new l = l
read_leaves era name (Err shares.NoMemory) old new l = l

-- what is found is what is there
found_is : (one two : Option Bytes) → ◌≡◌ {A = Reply} (Found one) (Found two) → one ≡ two
found_is one two e = cc

-- a share's fault of reading is one of reading a file
pub told_only : (fault : ShareFault) → IsReadFault fault → IsReadFileFault (told_fault fault)
told_only shares.Failed may = tt
told_only (shares.TreeLost host chip) may = may
told_only (shares.Damaged leaf) may = tt
told_only shares.NoMemory may = tt

-- a file that is read is held
read_is_held : (vault account name : Bytes) (x y : Option Bytes) (bytes : Bytes)
    → Matches (IsFileOf vault account name) x y → file_in vault account name x ≡ Some bytes → y ≡ Some bytes
read_is_held vault account name None None bytes m e = e
read_is_held vault account name None (Some plain) bytes m e = absurd m
read_is_held vault account name (Some sealed) None bytes m e = absurd m
read_is_held vault account name (Some sealed) (Some plain) bytes m e =
    sym (ap (λ (r : Result Bytes VaultFault). result_ok r) m) ∙ e

module _ (old new : ShareSeen) (account vault name : Bytes)
    (are : AreParts (File account name)) (answer : Result (Option Bytes) ShareFault)
    (makes : Makes old new (step_of old 0 (Get (file_name account name)) (found_reply answer))) where
  abbrev step : Step
  step = step_of old 0 (Get (file_name account name)) (found_reply answer)

  stays : (contents : Contents) (durable : Durable) (keys : Keys) → HoldsUnder (is_some old.lost) contents account
      durable keys
      → Throughout (Does old.era) (λ c. HoldsUnder (is_some old.lost) c account durable keys) contents (step ∷ [])
  stays contents durable keys h = (
    h,
    λ mid does. subst (λ c. HoldsUnder (is_some old.lost) c account durable keys)
        (sym (read_leaves old.era (file_name account name) answer (settled contents) mid does))
        (held_settled (is_some old.lost) account keys contents durable h),
  )

  same_after : (contents end : Contents) → contents.doubt ≡ None → Fold (Does old.era) contents (step ∷ []) end
      → end ≡ contents
  same_after contents end clear fold =
      fold.2 ∙ read_leaves old.era (file_name account name) answer (settled contents) fold.0 fold.1
      ∙ settled_same contents clear

  -- the file's bytes, which the home holds
  held_bytes : (bytes : Bytes) (contents : Contents) (durable : Durable) (keys : Keys) (stored : Stored) → HasFactors
      stored
      → HoldsUnder (is_some old.lost) contents account durable keys
      → IsKept (is_some old.lost) contents account stored → keys.vault ≡ vault
      → file_of vault account name contents ≡ Some bytes → get durable.files name ≡ Some bytes
  held_bytes bytes contents durable keys stored home h kept same shown =
      let found = home_stash stored.stash home in
      let there : HasStash contents.records account (Some found.0) =
      subst (HasStash contents.records account) found.1 kept.is_loaded.stash in
      let held = held_by (is_some old.lost) contents account keys durable found.0 h there in
      read_is_held vault account name (get contents.records (file_name account name)) (get durable.files name) bytes
      (subst (λ (v : Bytes). Matches (IsFileOf v account name) (get contents.records (file_name account name))
      (get durable.files name))
      same ((held.files found.2).bytes name are)) shown

  -- a read that was answered by a fault
  pub read_failed : (result : Result Bytes StoreFault) (fault : ShareFault) → answer ≡ Err fault
      → ((bytes : Bytes) → result ≡ Ok bytes → ⊥)
      → ((named : Bytes) → result ≡ Err (faults.Damaged named) → ⊥)
      → (result ≡ Err faults.Failed → fault ≡ shares.Failed)
      → ReadsFile old new account vault name result
  read_failed result fault is none sound failed = record {
    steps = step ∷ [];
    runs = runs_one old new step makes;
    fails = λ e. inl (ap (λ (a : Result (Option Bytes) ShareFault). found_reply a) is ∙ ap fault_reply (failed e));
    found = λ bytes e. absurd (none bytes e);
    held = λ bytes e. absurd (none bytes e);
    damaged = λ named e. absurd (sound named e);
    same = same_after;
    kept = stays;
  }

  -- told as the share told it
  pub read_told : (fault : ShareFault) → answer ≡ Err fault → IsReadFault fault
      → ReadsFile old new account vault name (Err (told_fault fault))
  read_told shares.Failed is may = read_failed (Err faults.Failed) shares.Failed is (λ bytes e. cc) (λ named e. cc)
      (λ e. refl)
  read_told (shares.TreeLost host chip) is may = absurd may
  read_told (shares.Damaged leaf) is may = absurd may
  read_told shares.NoMemory is may = read_failed (Err faults.NoMemory) shares.NoMemory is (λ bytes e. cc)
      (λ named e. cc) (λ e. cc)

  -- a read that was answered by what is there
  pub read_answered : (result : Result Bytes StoreFault) (found : Option Bytes) → answer ≡ Ok found
      → Shows (file_name account name) result (file_in vault account name found)
      → ReadsFile old new account vault name result
  read_answered result found is shows = record {
    steps = step ∷ [];
    runs = runs_one old new step makes;
    fails = λ e. absurd (subst (λ r. Shows (file_name account name) r (file_in vault account name found)) e shows);
    found = λ bytes e contents end fold. there contents end fold
        ∙ subst (λ r. Shows (file_name account name) r (file_in vault account name found)) e shows;
    held = λ bytes e contents end durable keys stored home h kept same fold. held_bytes bytes contents durable keys
        stored home h kept same
        (there contents end fold ∙ subst (λ r. Shows (file_name account name) r (file_in vault account name found)) e
        shows);
    damaged = λ named e.
        let told = subst (λ r. Shows (file_name account name) r (file_in vault account name found)) e shows in
        (told.0, λ contents end fold. there contents end fold ∙ told.1);
    same = same_after;
    kept = stays;
  }
    where
      there : (contents end : Contents) → Fold (Does old.era) contents (step ∷ []) end
          → file_of vault account name contents ≡ file_in vault account name found
      there contents end fold =
          let l : Leads old.era 0 (Get (file_name account name)) (Found found) (settled contents) fold.0 =
          subst (λ (a : Result (Option Bytes) ShareFault). Leads old.era 0 (Get (file_name account name))
          (found_reply a) (settled contents) fold.0)
          is fold.1 in
          ap (file_in vault account name) (sym (found_is found (get contents.records (file_name account name)) l.0))
