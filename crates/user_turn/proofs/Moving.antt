-- What each row did.
use Rattle.std.proofs.Common.{◌≡◌, ◌+◌, ◌≤◌, ℕ, List, Bool, true, false, Option, None, Some, refl, sym, ap, ◌∙◌, subst, ◌⊎◌, inl, inr, ⊎_elim, arith}
use Rattle.std.specs.Prelude.{IfSome, IsSomeAnd, option_map}
use Rattle.std.specs.List.{AllByRecursion}
use Rattle.account_machine.specs.Answers.{answer_of, refused_in}
use Rattle.account_machine.specs.Row.{first_refusal, turn_refusals}
use Rattle.account_machine.specs.declared.answer.Answer.{Answer}
use Rattle.account_machine.specs.declared.answer.Answer.TheVariants as answers
use Rattle.account_machine.specs.declared.answer.Refused.{Refused}
use Rattle.account_machine.specs.declared.request.Request.{Request}
use Rattle.account_machine.specs.declared.request.Request.TheVariants.{StartSession, ExtendSession, Authenticate, ListFactors, Mount, GetFile}
use Rattle.account_machine.specs.declared.request.Turn.{Turn}
use Rattle.account_machine.specs.declared.request.Turn.TheVariants.{Look, Act}
use Rattle.account_machine.specs.declared.session.Intent.{Intent}
use Rattle.account_machine.specs.declared.session.Token.{Token}
use Rattle.account_machine.specs.Step.{MayFail}
use Rattle.home_edits.specs.Costs.{HasCost, PutsCost}
use Rattle.home_edits.specs.Files.{file_of}
use Rattle.home_edits.proofs.CostLemmas.{costs_none}
use Rattle.random_values.specs.Stretches.{Place, moved, stretch}
use Rattle.share_api.specs.Contents.{Bytes}
use Rattle.share_api.specs.Folds.{Fold}
use Rattle.share_api.specs.Seen.{ShareSeen}
use Rattle.share_api.specs.Steps.{Does}
use Rattle.share_api.specs.declared.step.Step.{Step}
use Rattle.stored_home.proofs.MapLemmas.{not_None, from_some}
use Rattle.user_state.specs.Outlines.{outline_in}
use Rattle.user_state.specs.Turns.{IsGiven}
use Rattle.user_state.specs.declared.state.UserState.{UserState}
use Rattle.turn_rows.specs.Due.{IsReady, IsDue}
use Rattle.turn_rows.specs.Ends.{ends_of}
use Rattle.turn_rows.proofs.Quiet.{starved_given}
use Rattle.turn_edits.specs.Endings.{Draws, IsCaused}
use Rattle.turn_edits.specs.Reads.{IsReadCaused}
use Rattle.turn_edits.specs.Stashes.{LacksPayload}
use Rattle.turn_edits.proofs.Drawing.{draws_none, draws_then, draws_wider}
use Rattle.turn_secrets.specs.Binding.{drawn_by}
use Rattle.turn_secrets.specs.Listing.{Looks, TellsList, IsListAnswer, after_list}
use Rattle.turn_secrets.specs.Mounts.{Mounts, MountAnswers}
use Rattle.turn_secrets.specs.Mounts.{IsDamaged as ShutsStash}
use Rattle.turn_secrets.specs.Passwords.{Answers, unbound_at}
use Rattle.user_turn.specs.Acts.{IsMade}
use Rattle.user_turn.specs.Moves.{AsksNone, IsBroken, IsDamage, IsNewToken, end_in}
use Rattle.user_turn.proofs.MovingParts.{IsPlain, plain_at, costs_run, reads_cost, reads_again, runs_same, made_due, made_plain, made_refused}
use Rattle.user_turn.proofs.Resting.{listed_so}
use Rattle.user_turn.proofs.Telling.{mounts_so, tried_so}

-- ---- what is drawn

-- nothing
pub draws_same : (before after : UserState) → after.generator ≡ before.generator
    → Draws 0 26 before.generator after.generator
draws_same before after same =
    subst (λ (g : Place). Draws 0 26 before.generator g) (sym same) (draws_none before.generator 26)

-- so many words
pub draws_words : (words : ℕ) → 1 ≤ words → words ≤ 26 → (before after : UserState)
    → after.generator ≡ moved before.generator words → Draws 0 26 before.generator after.generator
draws_words words some few before after is =
    draws_wider (0 + words) (0 + words) 0 26 before.generator after.generator (omega arith) (omega (arith, few))
    (draws_then 0 0 before.generator before.generator after.generator words some (draws_none before.generator 0) is)

-- an IV, where a block is sealed anew
draws_by : (before after : UserState) (unbound : Bool) → after.generator ≡ drawn_by unbound before.generator
    → Draws 0 26 before.generator after.generator
draws_by before after true is = draws_words 3 (omega arith) (omega arith) before after is
draws_by before after false is = draws_same before after is

-- ---- answers

-- an answer that is another one is no damage
no_damage : (answer other : Answer) (P : Bytes → Type 0) → answer ≡ other
    → ((name : Bytes) → other ≡ answers.Damaged name → ⊥) → (name : Bytes) → answer ≡ answers.Damaged name → P name
no_damage answer other P is none name e = absurd (none name (sym is ∙ e))

-- want of memory, a fault and a plain `Ok` are no damage
memory_undamaged : (name : Bytes) → ◌≡◌ {A = Answer} answers.NoMemory (answers.Damaged name) → ⊥
memory_undamaged name e = cc e

fault_undamaged : (name : Bytes) → ◌≡◌ {A = Answer} answers.StorageFault (answers.Damaged name) → ⊥
fault_undamaged name e = cc e

pub ok_undamaged : (name : Bytes) → ◌≡◌ {A = Answer} answers.Ok (answers.Damaged name) → ⊥
ok_undamaged name e = cc e

-- ---- rows

-- the same of a request that is another's name
pub due_as : (state : UserState) {request other : Request} → request ≡ other → IsDue state (Act request)
    → IsDue state (Act other)
due_as state e due = subst (λ (r : Request). IsDue state (Act r)) e due

pub made_as : {old new : ShareSeen} {before after : UserState} {request other : Request} {answer : Answer}
    → request ≡ other → IsMade old new before after (Act other) answer
    → IsMade old new before after (Act request) answer
made_as {old} {new} {before} {after} {request} {other} {answer} e made =
    subst (λ (r : Request). IsMade old new before after (Act r) answer) (sym e) made

-- a row that makes no step, draws nothing and tells no damage
pub made_still : (share : ShareSeen) (before after : UserState) (turn : Turn) (answer other : Answer)
    → IsGiven share share before after turn answer → IsDue before turn → answer ≡ other → IsPlain other
    → ((name : Bytes) → other ≡ answers.Damaged name → ⊥) → Draws 0 26 before.generator after.generator
    → IsMade share share before after turn answer
made_still share before after turn answer other given due is plain none draws =
    made_plain share share before after turn answer given due (plain_at answer other is plain)
    (costs_run share share given.steps before.account before.cost given.runs
    (costs_none share before.account before.cost))
    draws (no_damage answer other (IsDamage share.era before turn given.steps) is none) (λ _. refl)

-- want of memory
pub made_starved : (share : ShareSeen) (before : UserState) (turn : Turn) → IsReady before → MayFail turn
    → IsDue before turn → IsMade share share before before turn answers.NoMemory
made_starved share before turn ready may due =
    made_still share before before turn answers.NoMemory answers.NoMemory (starved_given before ready turn may share)
    due refl (refl, refl) memory_undamaged (draws_same before before refl)

-- an edit
pub made_edit : (old new : ShareSeen) (before after : UserState) (request : Request) (answer : Answer)
    (Broken : Type 0) (least most : ℕ) → IsGiven old new before after (Act request) answer
    → IsDue before (Act request) → (AsksNone (Act request) → ⊥) → (Broken → IsBroken before request)
    → PutsCost old new before.account before.cost → most ≤ 26
    → Draws least most before.generator after.generator → IsCaused old new before.account Broken answer
    → IsMade old new before after (Act request) answer
made_edit old new before after request answer Broken least most given due asks broken puts few draws caused =
    made_plain old new before after (Act request) answer given due
    (⊎_elim (λ e. plain_at answer answers.Ok e (refl, refl))
    (⊎_elim (λ e. plain_at answer answers.StorageFault e (refl, refl))
    (⊎_elim (λ e. plain_at answer answers.NoMemory e (refl, refl))
    (λ d. plain_at answer (answers.Damaged d.0) d.1 (refl, refl)))) caused.known)
    (costs_run old new given.steps before.account before.cost given.runs puts)
    (draws_wider least most 0 26 before.generator after.generator (omega arith) few draws)
    (λ name e. let d = caused.damaged name e in inl (d.0, broken d.1))
    (λ q. absurd (asks q))

-- a file is read
pub made_read : (old new : ShareSeen) (before after : UserState) (account file : Bytes) (answer : Answer)
    → IsGiven old new before after (Act (GetFile account file)) answer → IsDue before (Act (GetFile account file))
    → PutsCost old new before.account before.cost → after.generator ≡ before.generator
    → IsReadCaused old new before.account file before.vault (LacksPayload before) answer
    → IsMade old new before after (Act (GetFile account file)) answer
made_read old new before after account file answer given due puts same caused =
    made_plain old new before after (Act (GetFile account file)) answer given due
    (⊎_elim (λ d. plain_at answer (answers.OkBytes d.0) d.1 (refl, refl))
    (⊎_elim (λ e. plain_at answer answers.StorageFault e (refl, refl))
    (⊎_elim (λ e. plain_at answer answers.NoMemory e (refl, refl))
    (λ d. plain_at answer (answers.Damaged d.0) d.1 (refl, refl)))) caused.known)
    (costs_run old new given.steps before.account before.cost given.runs puts)
    (draws_same before after same)
    (λ name e. ⊎_elim (λ d. inl d) (λ u. inr (λ start end fold clear. (
      u.name_is,
      subst (λ (o : Option Bytes). IsSomeAnd o (λ key. file_of key before.account file end ≡ None)) (sym u.vault_is)
          (u.shown given.runs.own given.runs.own_is start end
          (subst (λ (steps : List Step). Fold (Does old.era) start steps end) (sym given.runs.steps_are) fold)),
    ))) (caused.damaged name e))
    (λ q. absurd q)

-- the factors are listed
pub made_list : (old new : ShareSeen) (before after : UserState) (account : Bytes) (answer : Answer) (most : ℕ)
    → IsGiven old new before after (Act (ListFactors account)) answer → IsDue before (Act (ListFactors account))
    → IsListAnswer answer → after ≡ after_list answer before
    → Looks old new (answer ≡ answers.StorageFault) most (TellsList before answer)
    → IsMade old new before after (Act (ListFactors account)) answer
made_list old new before after account answer most given due known is looks =
    let same : looks.steps ≡ given.steps = runs_same old new looks.steps given.steps looks.runs given.runs in
    made_plain old new before after (Act (ListFactors account)) answer given due
    (⊎_elim (λ d. plain_at answer (answers.OkFactors d.0) d.1 (refl, refl))
    (⊎_elim (λ e. plain_at answer answers.StorageFault e (refl, refl))
    (⊎_elim (λ e. plain_at answer answers.NoMemory e (refl, refl))
    (λ d. plain_at answer (answers.Damaged d.0) d.1 (refl, refl)))) known)
    (subst (AllByRecursion (HasCost before.account before.cost)) same
    (reads_cost before.account before.cost looks.steps looks.reads))
    (draws_same before after (⊎_elim
    (λ e. ap (λ (s : UserState). s.generator) (is ∙ e)) (λ e. ap (λ (s : UserState). s.generator) (is ∙ e))
    (listed_so answer before)))
    (λ name e. inr (λ start end fold clear. subst (λ (a : Answer). TellsList before a end) e
    (looks.tells end clear (reads_again old.era start end looks.steps looks.reads
    (subst (λ (steps : List Step). Fold (Does old.era) start steps end) (sym same) fold) clear))))
    (λ q. absurd q)

-- the vault is opened
pub made_mount : (share : ShareSeen) (before after : UserState) (account : Bytes) (token : Token) (answer : Answer)
    → IsGiven share share before after (Act (Mount account token)) answer → IsDue before (Act (Mount account token))
    → MountAnswers token before after answer → IsMade share share before after (Act (Mount account token)) answer
made_mount share before after account token answer given due h =
    made_plain share share before after (Act (Mount account token)) answer given due
    (⊎_elim (λ m. plain_at answer answers.Ok m.0 (refl, refl))
    (⊎_elim (λ m. plain_at answer (answers.Damaged m.0) m.1 (refl, refl))
    (λ m. plain_at answer answers.NoMemory m.0 (refl, refl))) so)
    (costs_run share share given.steps before.account before.cost given.runs
    (costs_none share before.account before.cost))
    (draws_same before after (⊎_elim (λ m. ap (λ (s : UserState). s.generator) m.1.same)
    (⊎_elim (λ m. ap (λ (s : UserState). s.generator) m.2.same) (λ m. ap (λ (s : UserState). s.generator) m.1)) so))
    (λ name e. ⊎_elim
    (λ m. no_damage answer answers.Ok (IsDamage share.era before (Act (Mount account token)) given.steps) m.0
    ok_undamaged name e)
    (⊎_elim
    (λ m. let d : ShutsStash token name before after = damage_at m.0 name (sym m.1 ∙ e) m.2 in
    inl (d.name_is, record { main = d.main; stash = d.stash; has = d.has; none = d.none }))
    (λ m. no_damage answer answers.NoMemory (IsDamage share.era before (Act (Mount account token)) given.steps) m.0
    memory_undamaged name e)) so)
    (λ _. refl)
  where
    so : ((answer ≡ answers.Ok) × Mounts token before after)
        ⊎ ((name : Bytes) × (answer ≡ answers.Damaged name) × ShutsStash token name before after)
        ⊎ ((answer ≡ answers.NoMemory) × (after ≡ before))
    so = mounts_so token before after answer h

    damage_at : (one two : Bytes) → ◌≡◌ {A = Answer} (answers.Damaged one) (answers.Damaged two)
        → ShutsStash token one before after → ShutsStash token two before after
    damage_at one two e d = let same : one ≡ two = cc in
        subst (λ (n : Bytes). ShutsStash token n before after) same d

-- a password is tried
module _ (old new : ShareSeen) (before after : UserState) (account label secret : Bytes) (token : Token)
    (answer : Answer) (given : IsGiven old new before after (Act (Authenticate account token label secret)) answer)
    (due : IsDue before (Act (Authenticate account token label secret)))
    (puts : PutsCost old new before.account before.cost) where
  abbrev turn : Turn
  turn = Act (Authenticate account token label secret)

  tried_costs : AllByRecursion (HasCost before.account before.cost) given.steps
  tried_costs = costs_run old new given.steps before.account before.cost given.runs puts

  tried_plain : (other : Answer) → answer ≡ other → IsPlain other
      → ((name : Bytes) → other ≡ answers.Damaged name → ⊥) → Draws 0 26 before.generator after.generator
      → IsMade old new before after turn answer
  tried_plain other is plain_is none draws =
      made_plain old new before after turn answer given due (plain_at answer other is plain_is) tried_costs draws
      (no_damage answer other (IsDamage old.era before turn given.steps) is none) (λ q. absurd q)

  pub made_tried : Answers old new token label secret before after answer → IsMade old new before after turn answer
  made_tried h = ⊎_elim
      (λ p. made_due old new before after turn answer given due (ap refused_in p.1) tried_costs
      (draws_by before after (unbound_at before label) (ap (λ (s : UserState). s.generator) p.2.same))
      (λ ends tok e. absurd (let z : ◌≡◌ {A = Answer} (answers.OkPassword p.0) (answers.OkSession ends tok) =
      sym p.1 ∙ e in cc z))
      (subst (λ (a : Answer). IfSome (end_in a) (λ ends. ends_of (outline_in before) turn before.last ≡ Some ends))
      (sym p.1) p.2.end)
      (no_damage answer (answers.OkPassword p.0) (IsDamage old.era before turn given.steps) p.1 (λ name e. cc e))
      (λ q. absurd q))
      (⊎_elim
      (λ w. tried_plain answers.Wrong w.0 (refl, refl) (λ name e. cc e) (draws_same before after
      (ap (λ (s : UserState). s.generator) w.1.same)))
      (⊎_elim
      (λ f. tried_plain answers.StorageFault f.0 (refl, refl) fault_undamaged
      (draws_words 3 (omega arith) (omega arith) before after (ap (λ (s : UserState). s.generator) f.1.same)))
      (λ m. tried_plain answers.NoMemory m.0 (refl, refl) memory_undamaged (⊎_elim
      (λ e. draws_same before after (ap (λ (s : UserState). s.generator) e))
      (λ e. draws_words 3 (omega arith) (omega arith) before after (ap (λ (s : UserState). s.generator) e))
      m.1.same))))
      (tried_so old new token label secret before after answer h)

-- the token of a new session
abbrev next_token : UserState → Token
next_token before = record {
  number = before.sessions.next;
  tail = stretch before.generator.key before.generator.position 4;
}

-- a session is started
pub made_start : (share : ShareSeen) (before after : UserState) (account : Bytes) (intent : Intent) (answer : Answer)
    → IsGiven share share before after (Act (StartSession account intent)) answer
    → IsDue before (Act (StartSession account intent))
    → answer ≡ answers.OkSession (before.last + 300) (next_token before)
    → after.generator ≡ moved before.generator 4
    → IsMade share share before after (Act (StartSession account intent)) answer
made_start share before after account intent answer given due is drawn =
    made_due share share before after (Act (StartSession account intent)) answer given due
    (ap refused_in is)
    (costs_run share share given.steps before.account before.cost given.runs
    (costs_none share before.account before.cost))
    (draws_words 4 (omega arith) (omega arith) before after drawn)
    (λ ends token e. token_is ends token (sym is ∙ e))
    (subst (λ (a : Answer). IfSome (end_in a)
    (λ ends. ends_of (outline_in before) (Act (StartSession account intent)) before.last ≡ Some ends)) (sym is) refl)
    (λ name e. absurd (damage_none name (sym is ∙ e)))
    (λ _. refl)
  where
    damage_none : (name : Bytes)
        → ◌≡◌ {A = Answer} (answers.OkSession (before.last + 300) (next_token before)) (answers.Damaged name) → ⊥
    damage_none name e = cc e

    token_is : (ends : ℕ) (token : Token)
        → ◌≡◌ {A = Answer} (answers.OkSession (before.last + 300) (next_token before)) (answers.OkSession ends token)
        → IsNewToken before token after
    token_is ends token e = let same : next_token before ≡ token = cc in record {
      number = ap (λ (t : Token). t.number) (sym same);
      tail = ap (λ (t : Token). t.tail) (sym same);
      drawn = drawn;
    }

-- a session's end is moved
pub made_extend : (share : ShareSeen) (before after : UserState) (account : Bytes) (token : Token) (seconds : ℕ)
    (answer : Answer) → IsGiven share share before after (Act (ExtendSession account token seconds)) answer
    → IsDue before (Act (ExtendSession account token seconds))
    → option_map answers.OkEnds (ends_of (outline_in before) (Act (ExtendSession account token seconds)) before.last)
    ≡ Some answer
    → after.generator ≡ before.generator
    → IsMade share share before after (Act (ExtendSession account token seconds)) answer
made_extend share before after account token seconds answer given due is same =
    let m = moved_to (ends_of (outline_in before) (Act (ExtendSession account token seconds)) before.last) is in
    made_due share share before after (Act (ExtendSession account token seconds)) answer given due
    (ap refused_in m.2)
    (costs_run share share given.steps before.account before.cost given.runs
    (costs_none share before.account before.cost))
    (draws_same before after same)
    (λ ends tok e. absurd (let z : ◌≡◌ {A = Answer} (answers.OkEnds m.0) (answers.OkSession ends tok) =
    sym m.2 ∙ e in cc z))
    (subst (λ (a : Answer). IfSome (end_in a)
    (λ ends. ends_of (outline_in before) (Act (ExtendSession account token seconds)) before.last ≡ Some ends))
    (sym m.2) m.1)
    (no_damage answer (answers.OkEnds m.0) (IsDamage share.era before (Act (ExtendSession account token seconds))
    given.steps) m.2 (λ name e. cc e))
    (λ _. refl)
  where
    moved_to : (o : Option ℕ) → option_map answers.OkEnds o ≡ Some answer
        → (ends : ℕ) × (o ≡ Some ends) × (answer ≡ answers.OkEnds ends)
    moved_to None e = absurd (not_None answer (sym e))
    moved_to (Some ends) e = (ends, refl, sym (from_some (answers.OkEnds ends) answer e))

-- the names of files are listed
pub made_listed : (share : ShareSeen) (before : UserState) (turn : Turn) (answer : Answer) (names : List Bytes)
    → IsGiven share share before before turn answer → IsDue before turn
    → (answer ≡ answers.OkFiles names) ⊎ (answer ≡ answers.NoMemory)
    → IsMade share share before before turn answer
made_listed share before turn answer names given due is = ⊎_elim
    (λ e. made_still share before before turn answer (answers.OkFiles names) given due e (refl, refl) (λ name k. cc k)
    (draws_same before before refl))
    (λ e. made_still share before before turn answer answers.NoMemory given due e (refl, refl) memory_undamaged
    (draws_same before before refl)) is

-- a look
pub made_look : (share : ShareSeen) (before after : UserState) (label : Bytes) (edition : Option ℕ)
    → IsGiven share share before after (Look label) (answers.Seen edition) → IsDue before (Look label)
    → after.generator ≡ moved before.generator 4
    → IsMade share share before after (Look label) (answers.Seen edition)
made_look share before after label edition given due drawn =
    made_still share before after (Look label) (answers.Seen edition) (answers.Seen edition) given due refl (refl, refl)
    (λ name e. cc e) (draws_words 4 (omega arith) (omega arith) before after drawn)

-- a refusal, which is the first of the table's that applies
pub made_refusal : (share : ShareSeen) (before : UserState) (turn : Turn) (answer : Answer)
    → IsGiven share share before before turn answer
    → Some answer ≡ option_map answer_of (first_refusal (turn_refusals (outline_in before) turn before.last))
    → IsMade share share before before turn answer
made_refusal share before turn answer given is =
    by (first_refusal (turn_refusals (outline_in before) turn before.last)) refl is
  where
    by : (o : Option Refused) → first_refusal (turn_refusals (outline_in before) turn before.last) ≡ o
        → Some answer ≡ option_map answer_of o → IsMade share share before before turn answer
    by None first e = absurd (not_None answer e)
    by (Some r) first e = made_refused share share before before turn answer given r first
        (sym (from_some (answer_of r) answer (sym e))) refl refl (draws_same before before refl)
