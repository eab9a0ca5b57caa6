-- Turns with an edit of a PIN, whichever way it ended.
use Rattle.std.proofs.Common.{◌≡◌, true, Option, None, Some, Result, Ok, Err, IsOk, OnErr, refl, sym, ap, subst, is_some}
use Rattle.std.specs.Prelude.{IsErrOf, IfErr, IsSome}
use Rattle.account_machine.specs.declared.answer.Answer.{Answer}
use Rattle.account_machine.specs.declared.answer.Answer.TheVariants as answers
use Rattle.account_machine.specs.declared.request.Turn.{Turn}
use Rattle.account_machine.specs.declared.user.Durable.{Durable}
use Rattle.account_machine.specs.declared.user.User.{User}
use Rattle.account_machine.specs.Row.{turn_names_tree}
use Rattle.account_machine.specs.Step.{MayFail, loses}
use Rattle.home_edits.specs.Edits.{Edits}
use Rattle.pin_edits.specs.Faults.{IsPinFault, TellsLost}
use Rattle.share_api.specs.Contents.{Bytes, Contents}
use Rattle.share_api.specs.Seen.{ShareSeen}
use Rattle.stored_home.specs.Coherent.{AreFiles}
use Rattle.stored_home.specs.Holds.{Keys, HoldsUnder}
use Rattle.stored_home.specs.declared.fault.StoreFault.{StoreFault}
use Rattle.stored_home.specs.declared.fault.StoreFault.TheVariants as faults
use Rattle.stored_home.specs.declared.stored.LostTree.{LostTree}
use Rattle.stored_home.specs.declared.stored.Stored.{Stored}
use Rattle.user_state.specs.Fits.{Fits, is_lost}
use Rattle.user_state.specs.Outlines.{outline_in}
use Rattle.user_state.specs.Turns.{IsGiven}
use Rattle.user_state.specs.declared.state.Doubt.{Doubt}
use Rattle.user_state.specs.declared.state.Doubt.TheVariants.{Editions}
use Rattle.user_state.specs.declared.state.UserState.{UserState}
use Rattle.user_state.proofs.OutlineLemmas.{same_outline}
use Rattle.turn_rows.specs.Due.{IsReady, IsDue}
use Rattle.turn_rows.proofs.Quiet.{quiet_given, as_user}
use Rattle.turn_edits.specs.Endings.{doubt_of, IsEnded}
use Rattle.turn_edits.proofs.EditGiven.{OwesTold, editions_given}
use Rattle.turn_edits.proofs.EndingLemmas.{made_failed, none_failed}
use Rattle.turn_pins.specs.Endings.{pin_answer, TellsTree, IsPinCaused}

-- a lost tree is no storage fault
lost_calm : (host chip : Bytes) → ◌≡◌ {A = Answer} (answers.TreeLost host chip) answers.StorageFault → ⊥
lost_calm host chip e = cc e

-- a turn that names the tree, where that is lost: nothing changes
pub lost_given : (before : UserState) (ready : IsReady before) (turn : Turn) → IsDue before turn
    → turn_names_tree (outline_in before) turn ≡ true → (host chip : Bytes) (share : ShareSeen)
    → IsGiven share share before before turn (answers.TreeLost host chip)
lost_given before ready turn due named host chip share =
    quiet_given share before before turn (answers.TreeLost host chip) (lost_calm host chip)
    (record { account = refl; cost = refl; lost = refl })
    (λ seen contents user keys p.
    let same = same_outline before contents user keys ready.plain p.fits ready.settled p.holds in
    record {
      next = user;
      given = loses (record {
        named = subst (λ o. turn_names_tree o turn ≡ true) same named;
        none = as_user before ready contents user keys turn None p.fits p.holds due;
        host = host;
        chip = chip;
        answer_is = refl;
        after_is = refl;
      });
      fits = p.fits;
      durable = refl;
      other = refl;
    })

-- ---- an edit that reads nothing, of which editions tell whether it was done

module _ (old new : ShareSeen) (before : UserState) (ready : IsReady before)
    (lost : is_some old.lost ≡ is_lost before) (turn : Turn) (may : MayFail turn) (due : IsDue before turn)
    (named : turn_names_tree (outline_in before) turn ≡ true)
    (Asks : Contents → Keys → Durable → Durable → Type 0) (after : Stored) where
  abbrev pub edited : Result (Unit {0}) StoreFault → UserState
  edited r = record before { stored = after; doubt = doubt_of Editions before.doubt r }

  pub pin_edited : (r : Result (Unit {0}) StoreFault)
      (edits : Edits old new before.account before.stored after (IsOk r) (IsErrOf r faults.Failed) Asks)
      → IfErr r IsPinFault → (IsErrOf r faults.NoMemory → new ≡ old) → OnErr r (after ≡ before.stored)
      → TellsLost before.stored.lost r → (IsSome before.stored.lost → new ≡ old)
      → after.lost ≡ before.stored.lost → AreFiles before.account after
      → ((contents : Contents) (user : User) (keys : Keys) → Fits before contents user keys
      → HoldsUnder (is_lost before) contents before.account user.durable keys
      → OwesTold old.era turn Asks contents user keys)
      → IsGiven old new before (edited r) turn (pin_answer r)
  pin_edited (Ok u) edits only calm err tells still kept files owes =
      editions_given old new before ready lost turn may Asks before.generator after (Ok u) edits tt calm err kept files
      owes
  pin_edited (Err faults.Failed) edits only calm err tells still kept files owes =
      editions_given old new before ready lost turn may Asks before.generator after (Err faults.Failed) edits tt calm
      err kept files owes
  pin_edited (Err (faults.Damaged name)) edits only calm err tells still kept files owes = absurd only
  pin_edited (Err faults.NoMemory) edits only calm err tells still kept files owes =
      editions_given old new before ready lost turn may Asks before.generator after (Err faults.NoMemory) edits tt calm
      err kept files owes
  pin_edited (Err (faults.TreeLost host chip)) edits only calm err tells still kept files owes =
      subst (λ (t : ShareSeen × Stored). IsGiven old t.0 before (record before { stored = t.1 }) turn
      (answers.TreeLost host chip))
      (λ i. (sym (still (lost_there before.stored.lost tells)) i, sym err i))
      (lost_given before ready turn due named host chip old)
    where
      lost_there : (o : Option LostTree) → TellsLost {A = Unit {0}} o (Err (faults.TreeLost host chip)) → IsSome o
      lost_there None tells = absurd (tells host chip refl)
      lost_there (Some tree) tells = refl

-- the account is unsettled exactly after a storage fault
pub pin_ended : (Tells : Doubt → Type 0) (before : UserState) (after : Stored) (r : Result (Unit {0}) StoreFault)
    → Tells Editions → before.doubt ≡ None → IfErr r IsPinFault → OnErr r (after ≡ before.stored)
    → IsEnded Tells before (record before { stored = after; doubt = doubt_of Editions before.doubt r }) (pin_answer r)
pin_ended Tells before after (Ok u) tells none only err = record {
  fault = λ e. let z : ◌≡◌ {A = Answer} answers.Ok answers.StorageFault = e in absurd (cc z);
  loaded = λ e. let z : ◌≡◌ {A = Answer} answers.Ok answers.StorageFault = e in absurd (cc z);
  settled = λ _. none;
}
pin_ended Tells before after (Err faults.Failed) tells none only err = record {
  fault = λ _. tells;
  loaded = λ _. err;
  settled = λ apart. absurd (apart refl);
}
pin_ended Tells before after (Err (faults.Damaged name)) tells none only err = absurd only
pin_ended Tells before after (Err faults.NoMemory) tells none only err = record {
  fault = λ e. let z : ◌≡◌ {A = Answer} answers.NoMemory answers.StorageFault = e in absurd (cc z);
  loaded = λ e. let z : ◌≡◌ {A = Answer} answers.NoMemory answers.StorageFault = e in absurd (cc z);
  settled = λ _. none;
}
pin_ended Tells before after (Err (faults.TreeLost host chip)) tells none only err = record {
  fault = λ e. absurd (lost_calm host chip e);
  loaded = λ e. absurd (lost_calm host chip e);
  settled = λ _. none;
}

-- what an edit tells of the tree is answered
tree_answered : (lost : Option LostTree) (r : Result (Unit {0}) StoreFault) → TellsLost lost r
    → TellsTree lost (pin_answer r)
tree_answered None (Ok u) tells = λ host chip e. let z : ◌≡◌ {A = Answer} answers.Ok (answers.TreeLost host chip) = e
    in absurd (cc z)
tree_answered None (Err faults.Failed) tells = λ host chip e. let z : ◌≡◌ {A = Answer} answers.StorageFault
    (answers.TreeLost host chip) = e in absurd (cc z)
tree_answered None (Err (faults.Damaged name)) tells = λ host chip e. let z : ◌≡◌ {A = Answer} answers.NoMemory
    (answers.TreeLost host chip) = e in absurd (cc z)
tree_answered None (Err faults.NoMemory) tells = λ host chip e. let z : ◌≡◌ {A = Answer} answers.NoMemory
    (answers.TreeLost host chip) = e in absurd (cc z)
tree_answered None (Err (faults.TreeLost host chip)) tells = absurd (tells host chip refl)
tree_answered (Some tree) r tells = ap pin_answer tells

-- why it was answered so
pub pin_caused : (old new : ShareSeen) (account : Bytes) (stored after : Stored)
    (Asks : Contents → Keys → Durable → Durable → Type 0) (r : Result (Unit {0}) StoreFault)
    → Edits old new account stored after (IsOk r) (IsErrOf r faults.Failed) Asks → IfErr r IsPinFault
    → (IsErrOf r faults.NoMemory → new ≡ old) → TellsLost stored.lost r → (IsSome stored.lost → new ≡ old)
    → IsPinCaused old new stored.lost (new ≡ old) (λ name. ⊥) (pin_answer r)
pin_caused old new account stored after Asks (Ok u) edits only calm tells still = record {
  fault = λ e. let z : ◌≡◌ {A = Answer} answers.Ok answers.StorageFault = e in absurd (cc z);
  done = λ _. none_failed old new edits.steps edits.runs (edits.done refl);
  memory = λ e. let z : ◌≡◌ {A = Answer} answers.Ok answers.NoMemory = e in absurd (cc z);
  damaged = λ name e. let z : ◌≡◌ {A = Answer} answers.Ok (answers.Damaged name) = e in absurd (cc z);
  tree = tree_answered stored.lost (Ok u) tells;
  still = still;
}
pin_caused old new account stored after Asks (Err faults.Failed) edits only calm tells still = record {
  fault = λ _. made_failed old new edits.steps edits.runs (edits.fails refl);
  done = λ e. let z : ◌≡◌ {A = Answer} answers.StorageFault answers.Ok = e in absurd (cc z);
  memory = λ e. let z : ◌≡◌ {A = Answer} answers.StorageFault answers.NoMemory = e in absurd (cc z);
  damaged = λ name e. let z : ◌≡◌ {A = Answer} answers.StorageFault (answers.Damaged name) = e in absurd (cc z);
  tree = tree_answered stored.lost (Err faults.Failed) tells;
  still = still;
}
pin_caused old new account stored after Asks (Err (faults.Damaged name)) edits only calm tells still = absurd only
pin_caused old new account stored after Asks (Err faults.NoMemory) edits only calm tells still = record {
  fault = λ e. let z : ◌≡◌ {A = Answer} answers.NoMemory answers.StorageFault = e in absurd (cc z);
  done = λ e. let z : ◌≡◌ {A = Answer} answers.NoMemory answers.Ok = e in absurd (cc z);
  memory = λ _. calm refl;
  damaged = λ name e. let z : ◌≡◌ {A = Answer} answers.NoMemory (answers.Damaged name) = e in absurd (cc z);
  tree = tree_answered stored.lost (Err faults.NoMemory) tells;
  still = still;
}
pin_caused old new account stored after Asks (Err (faults.TreeLost host chip)) edits only calm tells still = record {
  fault = λ e. absurd (lost_calm host chip e);
  done = λ e. let z : ◌≡◌ {A = Answer} (answers.TreeLost host chip) answers.Ok = e in absurd (cc z);
  memory = λ e. let z : ◌≡◌ {A = Answer} (answers.TreeLost host chip) answers.NoMemory = e in absurd (cc z);
  damaged = λ name e. let z : ◌≡◌ {A = Answer} (answers.TreeLost host chip) (answers.Damaged name) = e in
      absurd (cc z);
  tree = tree_answered stored.lost (Err (faults.TreeLost host chip)) tells;
  still = still;
}
