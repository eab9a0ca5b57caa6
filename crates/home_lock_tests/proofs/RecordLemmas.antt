-- A turn that does nothing.
use Rattle.std.proofs.Common.{inl, ℕ, List, [], refl, sym, append-nil, arith}
use Rattle.home_image.specs.Book.{Turns}
use Rattle.home_image.specs.Settled.{IsStateOf}
use Rattle.pw_types.specs.declared.era.Era.{Era}
use Rattle.share_api.specs.Contents.{Contents}
use Rattle.share_api.specs.Seen.{ShareSeen}
use Rattle.home_locks.specs.Meanings.{meaning_of}
use Rattle.home_locks.specs.Turns.{ActStands, made_of}
use Rattle.home_lock_tests.specs.Records.{record_rules}

nothing_done : (era : Era) (client turn place state user : ℕ) (seen : List Contents) (contents : Contents)
    → Turns (meaning_of (record_rules era)) seen (IsStateOf (meaning_of (record_rules era)) state)
    (made_of client turn place []) contents user
nothing_done era client turn place state user seen contents = record {
  throughout = inl (inl tt);
  leads = λ new fold. (
    user,
    record { allowed = refl; holds = inl tt; idle = λ none. record { durable = refl; other = refl } },
    record { fits = tt; holds = inl tt },
  );
}

pub nothing_stands : (state turn : ℕ) (share : ShareSeen)
    → ActStands (record_rules share.era) state state turn share share
nothing_stands state turn share = record {
  own = [];
  steps = record {
    own_is = sym (append-nil share.own);
    place = refl;
    cause = record { later = omega arith; rose = absurd; kept = λ none. refl };
  };
  moved = (refl, refl);
  right = λ client place seen contents user among clean is.
      nothing_done share.era client turn place state user seen contents;
}
