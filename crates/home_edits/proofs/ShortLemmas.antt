-- A loaded stash stays short.
use Rattle.std.proofs.Common.{◌≡◌, Result, Ok, Err, OnOk, sym, subst}
use Rattle.std.specs.Prelude.{◌≤◌, OnErr}
use Rattle.stash_format.specs.Sizes.{payload_size, most_payload}
use Rattle.stash_format.specs.declared.contents.Contents.{Contents as Stash}
use Rattle.stored_home.specs.Sizes.{IsShort}
use Rattle.stored_home.specs.declared.fault.StoreFault.{StoreFault}
use Rattle.stored_home.specs.declared.stored.Stored.{Stored}

-- whichever way an edit ended
pub short_stays : {A : Type 0} (r : Result A StoreFault) (old new later : Stored) → OnOk r (new ≡ later)
    → OnErr r (new ≡ old)
    → IsShort later → IsShort old → IsShort new
short_stays (Ok x) old new later ok err short h = subst IsShort (sym ok) short
short_stays (Err x) old new later ok err short h = subst IsShort (sym err) h

-- a stash as long as a short one is short
pub short_as : (stash made : Stash) → made ≡ stash → payload_size stash ≤ most_payload
    → payload_size made ≤ most_payload
short_as stash made is short = subst (λ (s : Stash). payload_size s ≤ most_payload) (sym is) short
