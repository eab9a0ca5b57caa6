-- The replies that answers of a share stand for.
use Rattle.std.specs.Prelude.{◌≡◌, ℕ, List, ◌++◌, map, Bool, Option, Result, Ok, Err, IsTrue}
use Rattle.std.specs.Ordering.{nat_cmp}
use Rattle.std.specs.Cmp.Lexicographic.{slice_cmp}
use Rattle.std.specs.Prelude.{IsPermutation, IsSorted, Vec}
use Rattle.record_names.specs.Names.{is_account_name, leaf_name}
use Rattle.share_api.specs.Contents.{Bytes}
use Rattle.share_api.specs.declared.leaf.TryAnswer.{TryAnswer}
use Rattle.share_api.specs.declared.leaf.LeafView.{LeafView}
use Rattle.share_api.specs.declared.fault.ShareFault.{ShareFault}
use Rattle.share_api.specs.declared.fault.ShareFault.TheVariants as faults
use Rattle.share_api.specs.declared.step.Reply.{Reply}
use Rattle.share_api.specs.declared.step.Reply.TheVariants.{Done, Found, Listed, Labelled, Tried, Fits, Viewed, TreeLost, Damaged, Failed, NoMemory}

abbrev pub fault_reply : ShareFault → Reply
fault_reply faults.Failed = Failed
fault_reply (faults.TreeLost host chip) = TreeLost
fault_reply (faults.Damaged name) = Damaged
fault_reply faults.NoMemory = NoMemory

abbrev pub done_reply : Result Unit ShareFault → Reply
done_reply (Ok nothing) = Done
done_reply (Err fault) = fault_reply fault

abbrev pub found_reply : Result (Option Bytes) ShareFault → Reply
found_reply (Ok found) = Found found
found_reply (Err fault) = fault_reply fault

abbrev pub label_reply : Result ℕ ShareFault → Reply
label_reply (Ok label) = Labelled label
label_reply (Err fault) = fault_reply fault

abbrev pub try_reply : Result TryAnswer ShareFault → Reply
try_reply (Ok answer) = Tried answer
try_reply (Err fault) = fault_reply fault

abbrev pub fits_reply : Result Bool ShareFault → Reply
fits_reply (Ok fits) = Fits fits
fits_reply (Err fault) = fault_reply fault

abbrev pub view_reply : Result (Option LeafView) ShareFault → Reply
view_reply (Ok view) = Viewed view
view_reply (Err fault) = fault_reply fault

-- The names are those of the records, with a leaf name for each label, in rising order of bytes.
pub record AreListed (names : List Bytes) (labels : List ℕ) (listed : List Bytes) : Type 0 where
  pub account : Bytes
  pub plain : IsTrue (is_account_name account)
  pub all : IsPermutation (names ++ map (leaf_name account) labels) listed
  pub sorted : IsSorted (slice_cmp nat_cmp) listed

module _ {Z : Type 0} where
  -- the reply that an answer with names stands for
  abbrev pub IsNamesReply : Result (Vec Bytes Z) ShareFault → Reply → Type 0
  IsNamesReply (Err fault) reply = reply ≡ fault_reply fault
  IsNamesReply (Ok listed) reply = (names : List Bytes) × (labels : List ℕ) × AreListed names labels listed.items × (reply ≡ Listed (names, labels))
