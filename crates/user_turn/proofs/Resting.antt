-- What a row leaves of a state beside the records: its last moment, and a doubt that can be told.
use Rattle.std.proofs.Common.{◌≡◌, ◌≢◌, Bool, true, false, Option, None, Some, refl, sym, ap, ◌∙◌, subst, ◌⊎◌, inl, inr, ⊎_elim, true≢false}
use Rattle.std.specs.Prelude.{IsSomeAnd}
use Rattle.account_machine.specs.declared.answer.Answer.{Answer}
use Rattle.account_machine.specs.declared.answer.Answer.TheVariants as answers
use Rattle.account_machine.specs.declared.session.Token.{Token}
use Rattle.record_names.specs.Names.{AreParts, File as OfFile}
use Rattle.share_api.specs.Contents.{Bytes}
use Rattle.share_api.specs.Seen.{ShareSeen}
use Rattle.user_state.specs.Sound.{IsSound, IsTellable}
use Rattle.user_state.specs.declared.state.Doubt.{Doubt}
use Rattle.user_state.specs.declared.state.Doubt.TheVariants.{Editions, File, Leaf}
use Rattle.user_state.specs.declared.state.UserState.{UserState}
use Rattle.turn_edits.specs.Endings.{KeepsState, IsEnded, IsEditions, IsFile}
use Rattle.turn_rows.specs.Due.{IsReady}
use Rattle.turn_secrets.specs.Listing.{after_list}
use Rattle.turn_secrets.specs.Passwords.{Answers}
use Rattle.user_turn.specs.Acts.{RestsOn}

-- without a doubt there is nothing to tell
pub told_none : (state : UserState) → state.doubt ≡ None → IsTellable state.doubt state
told_none state none = subst (λ (d : Option Doubt). IsTellable d state) (sym none) tt

told_editions : (state : UserState) → state.doubt ≡ Some Editions → IsTellable state.doubt state
told_editions state is = subst (λ (d : Option Doubt). IsTellable d state) (sym is) tt

-- a row that leaves all
pub rests_same : (state : UserState) → IsReady state → IsSound state → RestsOn state state
rests_same state ready sound = record { last = refl; sound = sound; tellable = told_none state ready.settled }

-- a row that leaves the last moment and no doubt
pub rests_settled : (before after : UserState) → IsSound after → after.last ≡ before.last → after.doubt ≡ None
    → RestsOn before after
rests_settled before after sound last none =
    record { last = last; sound = sound; tellable = told_none after none }

-- ---- which answers are a storage fault

abbrev is_fault : Answer → Bool
is_fault answers.Ok = false
is_fault (answers.OkEnds ends) = false
is_fault (answers.OkPassword ends) = false
is_fault (answers.OkSession ends token) = false
is_fault (answers.OkFactors lines) = false
is_fault (answers.OkFiles names) = false
is_fault (answers.OkBytes bytes) = false
is_fault answers.PinCleared = false
is_fault answers.PinsClear = false
is_fault (answers.Seen edition) = false
is_fault answers.Exists = false
is_fault answers.NoHome = false
is_fault answers.SessionsSpent = false
is_fault answers.UnknownSession = false
is_fault answers.Expired = false
is_fault answers.WrongIntent = false
is_fault answers.NotAuthorised = false
is_fault answers.UnknownFactor = false
is_fault answers.FactorExists = false
is_fault answers.PasswordFirst = false
is_fault answers.LastPassword = false
is_fault answers.TooManyFactors = false
is_fault answers.BadSecret = false
is_fault answers.EditionsSpent = false
is_fault answers.AlreadyMounted = false
is_fault answers.NotMounted = false
is_fault answers.UnknownFile = false
is_fault answers.TooManyFiles = false
is_fault answers.TooLarge = false
is_fault answers.UnknownAccount = false
is_fault answers.Wrong = false
is_fault answers.Locked = false
is_fault (answers.Delayed seconds) = false
is_fault (answers.TreeLost host chip) = false
is_fault (answers.Damaged name) = false
is_fault answers.StorageFault = true
is_fault answers.NoMemory = false

is_the_fault : (answer : Answer) → is_fault answer ≡ true → answer ≡ answers.StorageFault
is_the_fault answers.Ok e = absurd (true≢false (sym e))
is_the_fault (answers.OkEnds ends) e = absurd (true≢false (sym e))
is_the_fault (answers.OkPassword ends) e = absurd (true≢false (sym e))
is_the_fault (answers.OkSession ends token) e = absurd (true≢false (sym e))
is_the_fault (answers.OkFactors lines) e = absurd (true≢false (sym e))
is_the_fault (answers.OkFiles names) e = absurd (true≢false (sym e))
is_the_fault (answers.OkBytes bytes) e = absurd (true≢false (sym e))
is_the_fault answers.PinCleared e = absurd (true≢false (sym e))
is_the_fault answers.PinsClear e = absurd (true≢false (sym e))
is_the_fault (answers.Seen edition) e = absurd (true≢false (sym e))
is_the_fault answers.Exists e = absurd (true≢false (sym e))
is_the_fault answers.NoHome e = absurd (true≢false (sym e))
is_the_fault answers.SessionsSpent e = absurd (true≢false (sym e))
is_the_fault answers.UnknownSession e = absurd (true≢false (sym e))
is_the_fault answers.Expired e = absurd (true≢false (sym e))
is_the_fault answers.WrongIntent e = absurd (true≢false (sym e))
is_the_fault answers.NotAuthorised e = absurd (true≢false (sym e))
is_the_fault answers.UnknownFactor e = absurd (true≢false (sym e))
is_the_fault answers.FactorExists e = absurd (true≢false (sym e))
is_the_fault answers.PasswordFirst e = absurd (true≢false (sym e))
is_the_fault answers.LastPassword e = absurd (true≢false (sym e))
is_the_fault answers.TooManyFactors e = absurd (true≢false (sym e))
is_the_fault answers.BadSecret e = absurd (true≢false (sym e))
is_the_fault answers.EditionsSpent e = absurd (true≢false (sym e))
is_the_fault answers.AlreadyMounted e = absurd (true≢false (sym e))
is_the_fault answers.NotMounted e = absurd (true≢false (sym e))
is_the_fault answers.UnknownFile e = absurd (true≢false (sym e))
is_the_fault answers.TooManyFiles e = absurd (true≢false (sym e))
is_the_fault answers.TooLarge e = absurd (true≢false (sym e))
is_the_fault answers.UnknownAccount e = absurd (true≢false (sym e))
is_the_fault answers.Wrong e = absurd (true≢false (sym e))
is_the_fault answers.Locked e = absurd (true≢false (sym e))
is_the_fault (answers.Delayed seconds) e = absurd (true≢false (sym e))
is_the_fault (answers.TreeLost host chip) e = absurd (true≢false (sym e))
is_the_fault (answers.Damaged name) e = absurd (true≢false (sym e))
is_the_fault answers.StorageFault e = refl
is_the_fault answers.NoMemory e = absurd (true≢false (sym e))

pub fault_or_not : (answer : Answer) → (answer ≡ answers.StorageFault) ⊎ (answer ≢ answers.StorageFault)
fault_or_not answer = by (is_fault answer) refl
  where
    by : (b : Bool) → is_fault answer ≡ b → (answer ≡ answers.StorageFault) ⊎ (answer ≢ answers.StorageFault)
    by true e = inl (is_the_fault answer e)
    by false e = inr (λ same. true≢false (sym (ap is_fault same) ∙ e))

-- ---- after an edit

module _ (before after : UserState) (answer : Answer) (keeps : KeepsState before after) (sound : IsSound after) where
  -- of factors or of the home
  editions_told : (doubt : Option Doubt) → after.doubt ≡ doubt → IsSomeAnd doubt IsEditions → IsTellable doubt after
  editions_told None is h = absurd h
  editions_told (Some Editions) is h = tt
  editions_told (Some (File name bytes)) is h = absurd h
  editions_told (Some (Leaf label tree view)) is h = absurd h

  pub rests_edited : IsEnded IsEditions before after answer → RestsOn before after
  rests_edited ended = record {
    last = keeps.last;
    sound = sound;
    tellable = ⊎_elim
        (λ e. editions_told after.doubt refl (ended.fault e))
        (λ no. told_none after (ended.settled no))
        (fault_or_not answer);
  }

  -- of a vault file
  module _ (name : Bytes) where
    file_told : (doubt : Option Doubt) → IsSomeAnd doubt (IsFile before.account name) → IsTellable doubt after
    file_told None h = absurd h
    file_told (Some Editions) h = absurd h
    file_told (Some (File named bytes)) h = subst (λ (a : Bytes). AreParts (OfFile a named)) (sym keeps.account) h.1
    file_told (Some (Leaf label tree view)) h = absurd h

    pub rests_filed : IsEnded (IsFile before.account name) before after answer → RestsOn before after
    rests_filed ended = record {
      last = keeps.last;
      sound = sound;
      tellable = ⊎_elim
          (λ e. file_told after.doubt (ended.fault e))
          (λ no. told_none after (ended.settled no))
          (fault_or_not answer);
    }

-- ---- after a list of the factors

pub listed_so : (answer : Answer) (before : UserState)
    → (after_list answer before ≡ record before { doubt = Some Editions }) ⊎ (after_list answer before ≡ before)
listed_so answers.Ok before = inr refl
listed_so (answers.OkEnds ends) before = inr refl
listed_so (answers.OkPassword ends) before = inr refl
listed_so (answers.OkSession ends token) before = inr refl
listed_so (answers.OkFactors lines) before = inr refl
listed_so (answers.OkFiles names) before = inr refl
listed_so (answers.OkBytes bytes) before = inr refl
listed_so answers.PinCleared before = inr refl
listed_so answers.PinsClear before = inr refl
listed_so (answers.Seen edition) before = inr refl
listed_so answers.Exists before = inr refl
listed_so answers.NoHome before = inr refl
listed_so answers.SessionsSpent before = inr refl
listed_so answers.UnknownSession before = inr refl
listed_so answers.Expired before = inr refl
listed_so answers.WrongIntent before = inr refl
listed_so answers.NotAuthorised before = inr refl
listed_so answers.UnknownFactor before = inr refl
listed_so answers.FactorExists before = inr refl
listed_so answers.PasswordFirst before = inr refl
listed_so answers.LastPassword before = inr refl
listed_so answers.TooManyFactors before = inr refl
listed_so answers.BadSecret before = inr refl
listed_so answers.EditionsSpent before = inr refl
listed_so answers.AlreadyMounted before = inr refl
listed_so answers.NotMounted before = inr refl
listed_so answers.UnknownFile before = inr refl
listed_so answers.TooManyFiles before = inr refl
listed_so answers.TooLarge before = inr refl
listed_so answers.UnknownAccount before = inr refl
listed_so answers.Wrong before = inr refl
listed_so answers.Locked before = inr refl
listed_so (answers.Delayed seconds) before = inr refl
listed_so (answers.TreeLost host chip) before = inr refl
listed_so (answers.Damaged name) before = inr refl
listed_so answers.StorageFault before = inl refl
listed_so answers.NoMemory before = inr refl

pub rests_listed : (before after : UserState) (answer : Answer) → IsReady before → IsSound after
    → after ≡ after_list answer before → RestsOn before after
rests_listed before after answer ready sound is = ⊎_elim
    (λ e. record {
      last = ap (λ (s : UserState). s.last) (is ∙ e);
      sound = sound;
      tellable = told_editions after (ap (λ (s : UserState). s.doubt) (is ∙ e));
    })
    (λ e. rests_settled before after sound (ap (λ (s : UserState). s.last) (is ∙ e))
    (ap (λ (s : UserState). s.doubt) (is ∙ e) ∙ ready.settled))
    (listed_so answer before)

-- ---- after a try of a password

module _ (old new : ShareSeen) (token : Token) (label secret : Bytes) (before after : UserState)
    (ready : IsReady before) (sound : IsSound after) where
  pub rests_tried : (answer : Answer) → Answers old new token label secret before after answer → RestsOn before after
  rests_tried answers.Ok h = absurd h
  rests_tried (answers.OkEnds ends) h = absurd h
  rests_tried (answers.OkPassword ends) h = rests_settled before after sound (ap (λ (s : UserState). s.last) h.same)
      (ap (λ (s : UserState). s.doubt) h.same ∙ ready.settled)
  rests_tried (answers.OkSession ends token) h = absurd h
  rests_tried (answers.OkFactors lines) h = absurd h
  rests_tried (answers.OkFiles names) h = absurd h
  rests_tried (answers.OkBytes bytes) h = absurd h
  rests_tried answers.PinCleared h = absurd h
  rests_tried answers.PinsClear h = absurd h
  rests_tried (answers.Seen edition) h = absurd h
  rests_tried answers.Exists h = absurd h
  rests_tried answers.NoHome h = absurd h
  rests_tried answers.SessionsSpent h = absurd h
  rests_tried answers.UnknownSession h = absurd h
  rests_tried answers.Expired h = absurd h
  rests_tried answers.WrongIntent h = absurd h
  rests_tried answers.NotAuthorised h = absurd h
  rests_tried answers.UnknownFactor h = absurd h
  rests_tried answers.FactorExists h = absurd h
  rests_tried answers.PasswordFirst h = absurd h
  rests_tried answers.LastPassword h = absurd h
  rests_tried answers.TooManyFactors h = absurd h
  rests_tried answers.BadSecret h = absurd h
  rests_tried answers.EditionsSpent h = absurd h
  rests_tried answers.AlreadyMounted h = absurd h
  rests_tried answers.NotMounted h = absurd h
  rests_tried answers.UnknownFile h = absurd h
  rests_tried answers.TooManyFiles h = absurd h
  rests_tried answers.TooLarge h = absurd h
  rests_tried answers.UnknownAccount h = absurd h
  rests_tried answers.Wrong h = rests_settled before after sound (ap (λ (s : UserState). s.last) h.same)
      (ap (λ (s : UserState). s.doubt) h.same ∙ ready.settled)
  rests_tried answers.Locked h = absurd h
  rests_tried (answers.Delayed seconds) h = absurd h
  rests_tried (answers.TreeLost host chip) h = absurd h
  rests_tried (answers.Damaged name) h = absurd h
  rests_tried answers.StorageFault h = record {
    last = ap (λ (s : UserState). s.last) h.same;
    sound = sound;
    tellable = told_editions after (ap (λ (s : UserState). s.doubt) h.same);
  }
  rests_tried answers.NoMemory h = ⊎_elim
      (λ e. rests_settled before after sound (ap (λ (s : UserState). s.last) e)
      (ap (λ (s : UserState). s.doubt) e ∙ ready.settled))
      (λ e. rests_settled before after sound (ap (λ (s : UserState). s.last) e)
      (ap (λ (s : UserState). s.doubt) e ∙ ready.settled))
      h.same
