-- What a share in memory shows of itself, and what its calls do.
use Rattle.std.specs.Prelude.{◌≡◌, None}
use Rattle.std.proofs.Common.{◌∙◌}
use Rattle.share_api.specs.Contents.{Contents}
use Rattle.share_api.specs.Seen.{ShareSeen}
use Rattle.mem_share.specs.Era.{mem_era}
use Rattle.mem_share.specs.Held.{contents_of}
use Rattle.mem_share.specs.declared.calls.CallList.{CallList}
use Rattle.mem_share.specs.declared.share.MemShare.{MemShare}

abbrev pub seen_of : MemShare → ShareSeen
seen_of share = record {
  account = share.account;
  owner = None;
  own = share.log.steps.items;
  place = share.log.place;
  faults = share.log.faults;
  era = mem_era;
  spare = share.log.spare;
  lost = share.lost;
}

-- what it holds
abbrev pub contents_in : MemShare → Contents
contents_in share = contents_of share.held

-- its calls so far, and those that are to fail
abbrev pub calls_in : MemShare → CallList
calls_in share = share.calls

-- the share is of the same account
abbrev pub IsSameAccount : MemShare → MemShare → Type 0
IsSameAccount one two = two.account ≡ one.account

pub same_on : (one two three : MemShare) → IsSameAccount one two → IsSameAccount two three → IsSameAccount one three
same_on one two three h k = k ∙ h
