-- A changed count changes no other byte before the MAC, and the record is one again.
use Rattle.std.proofs.Common.{◌≡◌, ℕ, ◌<◌, ◌^◌, Ok, List, ◌++◌, take, drop, take-add, drop-drop, append_assoc, refl, sym, ◌∙◌, ap, arith}
use Rattle.std.specs.Int.{w32, w64, to_be_bytes}
use Rattle.hmac_sha.specs.Hmac.{hmac}
use Rattle.pw_types.specs.Schedule.{limit_of}
use Rattle.pw_types.specs.declared.stamp.Stamp.{Stamp}
use Rattle.pw_leaf.specs.declared.keys.ChipKeys.{ChipKeys}
use Rattle.pw_leaf.specs.Contents.{Contents, IsContents, bumped, cleared}
use Rattle.pw_leaf.specs.LeafBytes.{open_part, secret_part, leaf_text, leaf_mac, leaf_bytes}
use Rattle.pw_leaf.specs.Reading.{check_at}
use Rattle.pw_leaf.specs.Changes.{tries_bytes, recounted_text, recounted}
use Rattle.pw_leaf.proofs.RecordLemmas.{check_at-leaf_bytes}
use Rattle.pw_leaf.proofs.AcceptedLemmas.{AreBytes, front_part, IsWritten, IsWritten-accepted}

-- contents with these wrong tries
abbrev pub with_tries : ℕ → Stamp → Contents → Contents
with_tries wrong last x = record x { wrong = wrong; last = last }

regrouped : (front wrong boot at iv secrets : List ℕ) → front ++ wrong ++ boot ++ at ++ iv ++ secrets ≡ front ++ (wrong ++ boot ++ at) ++ (iv ++ secrets)
regrouped front wrong boot at iv secrets = simp append_assoc

text_recounted : (keys : ChipKeys) (bytes : List ℕ) (x : Contents) (wrong : ℕ) (last : Stamp) → IsWritten keys bytes x → leaf_text keys (with_tries wrong last x) ≡ recounted_text bytes wrong last
unfolding leaf_text open_part secret_part
text_recounted keys bytes x wrong last is =
    let secrets : take 96 (drop 16 (drop 152 bytes)) ≡ secret_part keys x = ap (take 96) (drop-drop 16 152 bytes) ∙ is.secrets in
    let behind : take 112 (drop 152 bytes) ≡ x.iv ++ secret_part keys x = take-add 16 96 (drop 152 bytes) ∙ (λ i. is.iv i ++ secrets i) in
    regrouped (front_part x) (to_be_bytes w32 wrong) (to_be_bytes w64 last.boot) (to_be_bytes w64 last.at) x.iv (secret_part keys x)
    ∙ (λ i. sym is.front i ++ tries_bytes wrong last ++ sym behind i)

-- the record of an accepted one with other wrong tries
pub leaf_bytes-with_tries : (keys : ChipKeys) (bytes : List ℕ) (x : Contents) (wrong : ℕ) (last : Stamp) → AreBytes bytes → check_at keys bytes ≡ Ok x
    → leaf_bytes keys (with_tries wrong last x) ≡ recounted keys bytes wrong last
unfolding leaf_bytes leaf_mac
leaf_bytes-with_tries keys bytes x wrong last fit ok =
    let text = text_recounted keys bytes x wrong last (IsWritten-accepted keys bytes x fit ok) in
    λ i. text i ++ hmac keys.mac (text i)

-- ---- a changed record is one

-- a wrong try more, of a leaf that has tries left
pub IsContents-bumped : (x : Contents) (now : Stamp) → IsContents x → x.wrong < limit_of x.schedule → now.boot < 2 ^ 64 → now.at < 2 ^ 40 → IsContents (bumped now x)
IsContents-bumped x now h room boot moment =
    record {
      label = h.label;
      schedule = h.schedule;
      wrong = omega (arith, room);
      boot = boot;
      moment = moment;
      fresh = λ none. absurd (omega arith);
      les = h.les;
      hes = h.hes;
      reset = h.reset;
      iv = h.iv;
    }

-- no wrong try
pub IsContents-cleared : (x : Contents) → IsContents x → IsContents (cleared x)
IsContents-cleared x h =
    record {
      label = h.label;
      schedule = h.schedule;
      wrong = omega arith;
      boot = omega arith;
      moment = omega arith;
      fresh = λ none. (refl, refl);
      les = h.les;
      hes = h.hes;
      reset = h.reset;
      iv = h.iv;
    }

pub check_at-bumped : (keys : ChipKeys) (x : Contents) (now : Stamp) → IsContents x → x.wrong < limit_of x.schedule → now.boot < 2 ^ 64 → now.at < 2 ^ 40
    → check_at keys (leaf_bytes keys (bumped now x)) ≡ Ok (bumped now x)
check_at-bumped keys x now h room boot moment = check_at-leaf_bytes keys (bumped now x) (IsContents-bumped x now h room boot moment)

pub check_at-cleared : (keys : ChipKeys) (x : Contents) → IsContents x → check_at keys (leaf_bytes keys (cleared x)) ≡ Ok (cleared x)
check_at-cleared keys x h = check_at-leaf_bytes keys (cleared x) (IsContents-cleared x h)
