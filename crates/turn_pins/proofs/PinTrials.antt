-- A PIN is tried.
use Rattle.std.proofs.Common.{◌≡◌, ◌≢◌, ℕ, ◌+◌, ◌-◌, ◌<◌, List, [], length, take, Bool, true, false, not, Option, None, Some, refl, sym, ap, ◌∙◌, subst, ◌⊎◌, inl, inr, ⊎_elim, is_some, option_map, bytes_eq, true≢false, arith}
use Rattle.std.proofs.lemmas.Slice.Eq.{bytes_eq-Decides}
use Rattle.std.specs.Prelude.{IfSome, Contains, slice_get, option_and_then, if◌then◌else◌}
use Rattle.std.specs.FinMap.{get}
use Rattle.name_map.proofs.MappedLemmas.{get-map_values}
use Rattle.account_machine.specs.Effect.{gives, cleared, missed, set_factor, proved, proved_end, pin_tried, readiness_now, tried, authenticated, right_pin}
use Rattle.account_machine.specs.Outline.{session_at, is_pin_kind}
use Rattle.account_machine.specs.Row.{turn_refusals, turn_names_tree, is_pin_mark}
use Rattle.account_machine.specs.Sessions.{place_of, changed}
use Rattle.account_machine.specs.Step.{Row}
use Rattle.account_machine.specs.declared.answer.Answer.{Answer}
use Rattle.account_machine.specs.declared.answer.Answer.TheVariants as answers
use Rattle.account_machine.specs.declared.factor.Factor.{Factor}
use Rattle.account_machine.specs.declared.factor.Kind.TheVariants.{Pin}
use Rattle.account_machine.specs.declared.request.Request.TheVariants.{Authenticate}
use Rattle.account_machine.specs.declared.request.Turn.{Turn}
use Rattle.account_machine.specs.declared.request.Turn.TheVariants.{Act}
use Rattle.account_machine.specs.declared.session.Session.{Session}
use Rattle.account_machine.specs.declared.session.Token.{Token}
use Rattle.account_machine.specs.declared.user.Durable.{Durable}
use Rattle.account_machine.specs.declared.user.User.{User}
use Rattle.auth_session.specs.Table.{sessions_in}
use Rattle.auth_session.specs.declared.table.Kept.{Kept}
use Rattle.factor_files.specs.declared.factor.FactorRecord.{FactorRecord}
use Rattle.home_edits.proofs.PasswordEdits.{wrap_is}
use Rattle.pin_edits.specs.Tries.{EditsByTry, TriesPin, AnswersPin, durable_tried, is_low, low_of, told_try}
use Rattle.pin_edits.specs.Tries as tries
use Rattle.pw_types.specs.declared.delay.Readiness.{Readiness}
use Rattle.pw_types.specs.declared.delay.Readiness.TheVariants as readinesses
use Rattle.pw_types.specs.declared.era.Era.{Era}
use Rattle.scrypt_kdf.specs.Derive.{derive, derive_32}
use Rattle.sealed_text.specs.OpeningSealed.{Opens, opened}
use Rattle.sealed_text.proofs.OpeningLemmas.{opened_by_tag}
use Rattle.share_api.specs.Contents.{Bytes, Contents}
use Rattle.share_api.specs.declared.leaf.LeafView.{LeafView}
use Rattle.share_api.specs.declared.leaf.TryAnswer.{TryAnswer}
use Rattle.share_api.specs.declared.leaf.TryAnswer.TheVariants.{Right, Wrong, Delayed, Locked}
use Rattle.stash_format.specs.Forms.{main_of}
use Rattle.stash_format.specs.declared.block.Block.{Block}
use Rattle.stash_format.specs.declared.contents.Contents.{Contents as Stash}
use Rattle.stored_home.specs.Clean.{DeriveInput, IsDeriveInput, IsClean, IsTurnSecret}
use Rattle.stored_home.specs.Holds.{Keys, HoldsUnder, record_at}
use Rattle.stored_home.proofs.MapLemmas.{either, put_at}
use Rattle.user_state.specs.Fits.{Fits, is_lost, view_of}
use Rattle.user_state.specs.Outlines.{mark_in, outline_in}
use Rattle.user_state.specs.Sound.{IsSound}
use Rattle.user_state.specs.declared.state.UserState.{UserState}
use Rattle.turn_rows.specs.Due.{IsReady, IsDue}
use Rattle.turn_rows.proofs.Quiet.{row_by, as_user}
use Rattle.turn_edits.proofs.Factors.{is_made}
use Rattle.turn_edits.proofs.Held.{stash_by}
use Rattle.turn_edits.proofs.Tests.{test_at}
use Rattle.turn_secrets.proofs.Tried.{kept_at, session_there}
use Rattle.turn_pins.specs.Pins.{IsPinAt}
use Rattle.turn_pins.proofs.LoadedPins.{cleared_apart, its_pin}

not_not : (b : Bool) → not b ≡ false → b ≡ true
not_not true e = refl
not_not false e = absurd (true≢false e)

-- ---- what the table gives, by whether the try may come and whether the secret is right

abbrev pub answer_try : Readiness → Bool → User → Session → Answer
answer_try readinesses.Ready true user session = answers.OkEnds (proved_end user.last session)
answer_try readinesses.Ready false user session = answers.Wrong
answer_try (readinesses.Delayed until) right user session = answers.Delayed (until - user.last)
answer_try readinesses.Locked right user session = answers.Locked

-- the label's factor after it
abbrev pub later_try : Readiness → Bool → Era → ℕ → Factor → Factor
later_try readinesses.Ready true era moment factor = cleared factor
later_try readinesses.Ready false era moment factor = missed (record { boot = era.boot; at = moment }) factor
later_try (readinesses.Delayed until) right era moment factor = factor
later_try readinesses.Locked right era moment factor = factor

-- and the user
abbrev pub after_try : Readiness → Bool → Era → User → Token → Bytes → Factor → User
after_try readinesses.Ready true era user token label factor =
    record (set_factor user label (cleared factor)) { sessions = changed token (proved user.last) user.sessions }
after_try readinesses.Ready false era user token label factor =
    set_factor user label (missed (record { boot = era.boot; at = user.last }) factor)
after_try (readinesses.Delayed until) right era user token label factor = user
after_try readinesses.Locked right era user token label factor = user

-- what stays of the user
pub record Rests (before after : User) : Type 0 where
  pub other : after.other ≡ before.other
  pub next_session : after.next_session ≡ before.next_session
  pub mounted : after.mounted ≡ before.mounted
  pub last : after.last ≡ before.last

module _ (era : Era) (user : User) (token : Token) (label : Bytes) (factor : Factor) where
  pub rests : (r : Readiness) (b : Bool) → Rests user (after_try r b era user token label factor)
  rests readinesses.Ready true = record { other = refl; next_session = refl; mounted = refl; last = refl }
  rests readinesses.Ready false = record { other = refl; next_session = refl; mounted = refl; last = refl }
  rests (readinesses.Delayed until) b = record { other = refl; next_session = refl; mounted = refl; last = refl }
  rests readinesses.Locked b = record { other = refl; next_session = refl; mounted = refl; last = refl }

  pub durable_is : (r : Readiness) (b : Bool) → (after_try r b era user token label factor).durable
      ≡ durable_tried r b era user.last user.durable label factor
  durable_is readinesses.Ready true = refl
  durable_is readinesses.Ready false = refl
  durable_is (readinesses.Delayed until) b = refl
  durable_is readinesses.Locked b = refl

  module _ (session : Session) (secret : Bytes) where
    compared : (b : Bool) → (if b then right_pin user token label session factor
        else gives answers.Wrong (set_factor user label (missed (record { boot = era.boot; at = user.last }) factor)))
        ≡ gives (answer_try readinesses.Ready b user session)
        (after_try readinesses.Ready b era user token label factor)
    compared true = refl
    compared false = refl

    -- the row gives that
    tried_out : (r : Readiness) → pin_tried r era user token label secret session factor
        ≡ gives (answer_try r (bytes_eq secret factor.secret) user session)
        (after_try r (bytes_eq secret factor.secret) era user token label factor)
    tried_out readinesses.Ready = compared (bytes_eq secret factor.secret)
    tried_out (readinesses.Delayed until) = refl
    tried_out readinesses.Locked = refl

    pub try_effect : session_at user.sessions token ≡ Some session → get user.durable.factors label ≡ Some factor
        → factor.kind ≡ Pin
        → authenticated era user token label secret
        ≡ gives (answer_try (readiness_now era user.last factor) (bytes_eq secret factor.secret) user session)
        (after_try (readiness_now era user.last factor) (bytes_eq secret factor.secret) era user token label factor)
    try_effect session_is factor_is pin =
        ap (option_and_then (λ (s : Session). option_and_then (λ (f : Factor). tried f.kind era user token label secret
        s f) (get user.durable.factors label))) session_is
        ∙ ap (option_and_then (λ (f : Factor). tried f.kind era user token label secret session f)) factor_is
        ∙ ap (λ k. tried k era user token label secret session factor) pin
        ∙ tried_out (readiness_now era user.last factor)

  -- the label's factor is the later one, of the same edition, and it shows something else or is the same
  module _ (there : get user.durable.factors label ≡ Some factor) where
    pub later_there : (r : Readiness) (b : Bool) → get (after_try r b era user token label factor).durable.factors label
        ≡ Some (later_try r b era user.last factor)
    later_there readinesses.Ready true = put_at user.durable.factors label (cleared factor)
    later_there readinesses.Ready false = put_at user.durable.factors label
        (missed (record { boot = era.boot; at = user.last }) factor)
    later_there (readinesses.Delayed until) b = there
    later_there readinesses.Locked b = there

    pub later_kind : (r : Readiness) (b : Bool) → (later_try r b era user.last factor).kind ≡ factor.kind
    later_kind readinesses.Ready true = refl
    later_kind readinesses.Ready false = refl
    later_kind (readinesses.Delayed until) b = refl
    later_kind readinesses.Locked b = refl

    pub later_edition : (r : Readiness) (b : Bool) → (later_try r b era user.last factor).edition ≡ factor.edition
    later_edition readinesses.Ready true = refl
    later_edition readinesses.Ready false = refl
    later_edition (readinesses.Delayed until) b = refl
    later_edition readinesses.Locked b = refl

    pub later_apart : (r : Readiness) (b : Bool)
        → (user.durable ≡ (after_try r b era user token label factor).durable)
        ⊎ (view_of (later_try r b era user.last factor) ≢ view_of factor)
    later_apart readinesses.Ready true = cleared_apart user.durable label factor there
    later_apart readinesses.Ready false = inr (λ e.
        let more : factor.wrong + 1 ≡ factor.wrong = ap (λ (v : LeafView). v.wrong) e in omega (arith, more))
    later_apart (readinesses.Delayed until) b = inl refl
    later_apart readinesses.Locked b = inl refl

-- ---- what the leaf's answer says of both

pub right_means : (r : Readiness) (b : Bool) (high other : Bytes)
    → ◌≡◌ {A = TryAnswer} (Right high) (tries.answer_of r b other)
    → (r ≡ readinesses.Ready) × (b ≡ true) × (high ≡ other)
right_means readinesses.Ready true high other e = let same : high ≡ other = cc in (refl, refl, same)
right_means readinesses.Ready false high other e = absurd (cc e)
right_means (readinesses.Delayed until) b high other e = absurd (cc e)
right_means readinesses.Locked b high other e = absurd (cc e)

pub wrong_means : (r : Readiness) (b : Bool) (other : Bytes)
    → ◌≡◌ {A = TryAnswer} Wrong (tries.answer_of r b other) → (r ≡ readinesses.Ready) × (b ≡ false)
wrong_means readinesses.Ready true other e = absurd (cc e)
wrong_means readinesses.Ready false other e = (refl, refl)
wrong_means (readinesses.Delayed until) b other e = absurd (cc e)
wrong_means readinesses.Locked b other e = absurd (cc e)

pub delayed_means : (r : Readiness) (b : Bool) (until : ℕ) (other : Bytes)
    → ◌≡◌ {A = TryAnswer} (Delayed until) (tries.answer_of r b other) → r ≡ readinesses.Delayed until
delayed_means readinesses.Ready true until other e = absurd (cc e)
delayed_means readinesses.Ready false until other e = absurd (cc e)
delayed_means (readinesses.Delayed later) b until other e = let same : until ≡ later = cc in
    ap (λ (n : ℕ). readinesses.Delayed n) (sym same)
delayed_means readinesses.Locked b until other e = absurd (cc e)

pub locked_means : (r : Readiness) (b : Bool) (other : Bytes)
    → ◌≡◌ {A = TryAnswer} Locked (tries.answer_of r b other) → r ≡ readinesses.Locked
locked_means readinesses.Ready true other e = absurd (cc e)
locked_means readinesses.Ready false other e = absurd (cc e)
locked_means (readinesses.Delayed until) b other e = absurd (cc e)
locked_means readinesses.Locked b other e = refl

-- ---- secrets of a turn

known_secret : (durable : Durable) (other : Option Durable) (given : Option Bytes) (label : Bytes) (factor : Factor)
    → get durable.factors label ≡ Some factor → IsTurnSecret durable other given factor.secret
known_secret durable None given label factor at =
    inl (record { label = label; factor = factor; there = at; is = refl })
known_secret durable (Some other) given label factor at =
    inl (record { label = label; factor = factor; there = at; is = refl })

asked_secret : (durable : Durable) (other : Option Durable) (secret : Bytes)
    → IsTurnSecret durable other (Some secret) secret
asked_secret durable None secret = inr refl
asked_secret durable (Some other) secret = inr (inr refl)

module _ (seen : List Contents) (contents : Contents) (account : Bytes) (durable : Durable) (other : Option Durable)
    (label secret : Bytes) (row : FactorRecord) (factor : Factor)
    (there : get durable.factors label ≡ Some factor)
    (read : record_at contents.records account label factor.edition ≡ Some row) (among : Contains seen contents)
    (clean : IsClean (IsTurnSecret durable other (Some secret)) (Contains seen) account) (key : Bytes)
    (key_is : key ≡ derive secret row.salt row.cost) where
  derivation : (from : Bytes) → IsTurnSecret durable other (Some secret) from
      → IsDeriveInput (IsTurnSecret durable other (Some secret)) (Contains seen) account
      (record { secret = from; salt = row.salt; cost = row.cost })
  derivation from is_one = record {
    is_secret = is_one;
    image = contents;
    is_image = among;
    label = label;
    edition = factor.edition;
    row = row;
    read = read;
    salt_is = refl;
    cost_is = refl;
  }

  -- what is derived is the leaf's exactly where the secret is the factor's
  same_low : take 32 key ≡ low_of row factor → secret ≡ factor.secret
  same_low e = ap (λ (x : DeriveInput). x.secret)
      (clean.derive_clean _ _ (derivation secret (asked_secret durable other secret))
      (derivation factor.secret (known_secret durable other (Some secret) label factor there))
      (sym (wrap_is key secret row.salt row.cost key_is) ∙ e))

  pub low_is : is_low key row factor ≡ bytes_eq secret factor.secret
  low_is = ⊎_elim
      (λ same. (bytes_eq-Decides (take 32 key) (low_of row factor)).1
      (wrap_is key secret row.salt row.cost key_is
      ∙ ap (λ (s : Bytes). derive_32 s row.salt row.cost) ((bytes_eq-Decides secret factor.secret).0 same)) ∙ sym same)
      (λ differs. ⊎_elim
      (λ low. absurd (true≢false (sym ((bytes_eq-Decides secret factor.secret).1
      (same_low ((bytes_eq-Decides (take 32 key) (low_of row factor)).0 low))) ∙ differs)))
      (λ low. low ∙ sym differs) (either (is_low key row factor)))
      (either (bytes_eq secret factor.secret))

-- ---- the block

-- a text that opens is opened to it
pub opens_to : (wrap extra main : Bytes) (block : Block) → Opens wrap extra (main_of block) main
    → opened wrap extra (main_of block) ≡ Some main
opens_to wrap extra main block o =
    opened_by_tag wrap block.iv extra block.text block.tag main (sym o.tag) (sym o.text)

-- ---- the turn that is due

module _ (before : UserState) (ready : IsReady before) (sound : IsSound before) (account : Bytes) (token : Token)
    (label secret : Bytes) (due : IsDue before (Act (Authenticate account token label secret)))
    (pin : IsPinAt before.stored label) where
  abbrev turn : Turn
  turn = Act (Authenticate account token label secret)

  pub try_stash : (stash : Stash) × (before.stored.stash ≡ Some stash)
  try_stash = stash_by before.stored.stash
      (not_not (is_some before.stored.stash) (test_at (turn_refusals (outline_in before) turn before.last) due 0))

  made : (row : FactorRecord) × (get before.stored.factors label ≡ Some row)
  made = is_made mark_in before.stored.factors label
      (test_at (turn_refusals (outline_in before) turn before.last) due 3)

  pub try_row : (row : FactorRecord) × (get before.stored.factors label ≡ Some row) × (row.kind ≡ Pin)
  try_row = (made.0, made.1, subst (λ o. IfSome o (λ (r : FactorRecord). r.kind ≡ Pin)) made.1 pin)

  -- the turn names the tree
  pub try_named : turn_names_tree (outline_in before) turn ≡ true
  try_named = ap is_pin_mark (get-map_values mark_in before.stored.factors label
      ∙ ap (option_map mark_in) try_row.1) ∙ ap is_pin_kind try_row.2

  module _ (row : FactorRecord) (at : get before.stored.factors label ≡ Some row) (tree : ℕ)
      (names : row.leaf ≡ Some tree) (whole : before.stored.lost ≡ None) (place : ℕ)
      (place_is : place ≡ place_of token (sessions_in before.sessions.kept))
      (inside : place < length before.sessions.kept) where
    pub its_session : (k : Kept) × (slice_get before.sessions.kept place ≡ Some k)
    its_session = kept_at before.sessions.kept place inside

    module _ (contents : Contents) (user : User) (keys : Keys) (fits : Fits before contents user keys)
        (holds : HoldsUnder (is_lost before) contents before.account user.durable keys) where
      abbrev pub its : Factor
      its = (its_pin before ready whole label row at tree names contents user keys fits holds).pin.of.factor

      pub its_there : get user.durable.factors label ≡ Some its
      its_there = (its_pin before ready whole label row at tree names contents user keys fits holds).pin.of.held

      user_session : session_at user.sessions token ≡ Some its_session.0.session
      user_session = subst (λ l. session_at l token ≡ Some its_session.0.session) fits.sessions
          (session_there before.sessions.kept token place its_session.0 place_is its_session.1)

      -- the table's row, by the delay rule and the comparison
      pub try_given : (era : Era) (r : Readiness) (b : Bool) → readiness_now era user.last its ≡ r
          → bytes_eq secret its.secret ≡ b
          → Row era user turn (answer_try r b user its_session.0.session) (after_try r b era user token label its)
      try_given era r b r_is b_is =
          row_by era user turn [] (answer_try r b user its_session.0.session)
          (after_try r b era user token label its)
          (as_user before ready contents user keys turn None fits holds due)
          (try_effect era user token label its its_session.0.session secret user_session its_there
          (its_pin before ready whole label row at tree names contents user keys fits holds).pin.is_pin
          ∙ (λ i. gives (answer_try (r_is i) (b_is i) user its_session.0.session)
          (after_try (r_is i) (b_is i) era user token label its)))
