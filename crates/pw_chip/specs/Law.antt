-- The recorded inputs, and the chip law.
use Rattle.std.specs.Prelude.{◌≡◌, ℕ, ◌<◌, ◌^◌, ◌⊎◌, Option, Some, None, List, [], ◌∷◌, length}
use Rattle.hmac_sha.specs.Hmac.{hmac}
use Rattle.pw_path.specs.Tree.{root, aux_of, no_hash}
use Rattle.pw_path.specs.Path.{root_of, OnPath, OnTree, IsAux, HasNoCollision}
use Rattle.pw_types.specs.Schedule.{IsSchedule}
use Rattle.pw_leaf.specs.declared.keys.ChipKeys.{ChipKeys}
use Rattle.pw_leaf.specs.Contents.{Contents, new_contents}
use Rattle.pw_leaf.specs.LeafBytes.{leaf_bytes, leaf_text, leaf_mac}
use Rattle.pw_leaf.specs.Reading.{mac_of, text_of}
use Rattle.pw_chip.specs.declared.reply.Reply.{Reply}
use Rattle.pw_chip.specs.declared.reply.Reply.TheVariants.{Done, Inserted, Replayed, RootUnknown}
use Rattle.pw_chip.specs.State.{ChipState, booted}
use Rattle.pw_chip.specs.Calls.{CallData, ResetTree, Insert, Remove, Try, Reset, GetLog, Replay}
use Rattle.pw_chip.specs.declared.open.Refusal.{Refusal}
use Rattle.pw_chip.specs.Step.{refused, tried, reset_at, redone_by, step}
use Rattle.pw_chip.specs.Ledger.{with_leaf, Event, Boots, Calls, Ledger, noted_call, noted_boot}

-- ---- the tree of a ledger

abbrev pub value_of : ChipKeys → Option Contents → List ℕ
value_of keys None = no_hash
value_of keys (Some x) = leaf_mac keys x

-- the leaf values that the ledger's leaves have
abbrev pub values : ChipKeys → (ℕ → Option Contents) → ℕ → List ℕ
values keys leaves i = value_of keys (leaves i)

-- ---- recorded inputs

-- what is hashed on the path that a call presents, where that path gives the root that it has to give
unfoldable pub OnPresented : ChipState → CallData → List ℕ → Type 0
OnPresented w ResetTree a = ⊥
OnPresented w (Insert label aux mac les hes reset schedule iv) a = (root_of label mac aux ≡ w.log.newest.root) × OnPath 0 label mac aux a
OnPresented w (Remove label aux mac) a = (root_of label mac aux ≡ w.log.newest.root) × OnPath 0 label mac aux a
OnPresented w (Try label aux leaf les) a = (root_of label (mac_of leaf) aux ≡ w.log.newest.root) × OnPath 0 label (mac_of leaf) aux a
OnPresented w (Reset label aux leaf reset) a = (root_of label (mac_of leaf) aux ≡ w.log.newest.root) × OnPath 0 label (mac_of leaf) aux a
OnPresented w (GetLog host) a = ⊥
OnPresented w (Replay label aux leaf) a = (root_of label (mac_of leaf) aux ≡ w.log.older.root) × OnPath 0 label (mac_of leaf) aux a

-- what the MAC of a presented leaf is over, where its path gives that root
unfoldable pub InPresented : ChipState → CallData → List ℕ → Type 0
InPresented w (Try label aux leaf les) a = (root_of label (mac_of leaf) aux ≡ w.log.newest.root) × ((length leaf ≡ 296) × (a ≡ text_of leaf))
InPresented w (Reset label aux leaf reset) a = (root_of label (mac_of leaf) aux ≡ w.log.newest.root) × ((length leaf ≡ 296) × (a ≡ text_of leaf))
InPresented w (Replay label aux leaf) a = (root_of label (mac_of leaf) aux ≡ w.log.older.root) × ((length leaf ≡ 296) × (a ≡ text_of leaf))
InPresented w _ a = ⊥

-- what the MACs of the ledger's leaves are over
unfoldable pub InLeaves : ChipKeys → (ℕ → Option Contents) → List ℕ → Type 0
InLeaves keys leaves a = (label : ℕ) × ((x : Contents) × ((leaves label ≡ Some x) × (a ≡ leaf_text keys x)))

-- the words and the ledger after an event
abbrev pub words_after : ChipState → Event → ChipState
words_after w (Boots moment) = booted w moment
words_after w (Calls call now) = (step w call now).1

abbrev pub ledger_after : ChipState → Ledger → Event → Ledger
ledger_after w ledger (Boots moment) = noted_boot ledger moment
ledger_after w ledger (Calls call now) = noted_call ledger call now (step w call now).0

abbrev pub OnEvent : ChipState → Event → List ℕ → Type 0
OnEvent w (Boots moment) a = ⊥
OnEvent w (Calls call now) a = OnPresented w call a

abbrev pub InEvent : ChipState → Event → List ℕ → Type 0
InEvent w (Boots moment) a = ⊥
InEvent w (Calls call now) a = InPresented w call a

-- the inputs of SHA-256 from here on: the nodes of the ledger's tree now and after each event, and of each presented path
unfoldable pub Hashed : ChipState → Ledger → List Event → List ℕ → Type 0
Hashed w ledger [] a = OnTree (values w.keys ledger.leaves) a
Hashed w ledger (event ∷ events) a =
    OnTree (values w.keys ledger.leaves) a ⊎ (OnEvent w event a ⊎ Hashed (words_after w event) (ledger_after w ledger event) events a)

-- the inputs of the MAC from here on
unfoldable pub Signed : ChipState → Ledger → List Event → List ℕ → Type 0
Signed w ledger [] a = InLeaves w.keys ledger.leaves a
Signed w ledger (event ∷ events) a =
    InLeaves w.keys ledger.leaves a ⊎ (InEvent w event a ⊎ Signed (words_after w event) (ledger_after w ledger event) events a)

-- under one key no two of these have one MAC, and none has 32 zero bytes
pub record HasNoMacCollision (key : List ℕ) (M : List ℕ → Type 0) : Type 0 where
  pub apart : (a b : List ℕ) → M a → M b → hmac key a ≡ hmac key b → a ≡ b
  pub used : (a : List ℕ) → M a → hmac key a ≡ no_hash → ⊥

pub record IsClean (w : ChipState) (ledger : Ledger) (events : List Event) : Type 0 where
  pub hashes : HasNoCollision (Hashed w ledger events)
  pub macs : HasNoMacCollision w.keys.mac (Signed w ledger events)

-- ---- what the host can present: bytes of the types' lengths, and moments

unfoldable pub IsCall : CallData → Type 0
IsCall ResetTree = Unit {0}
IsCall (Insert label aux mac les hes reset schedule iv) =
    IsAux aux × (length mac ≡ 32) × (length les ≡ 32) × (length hes ≡ 32) × (length reset ≡ 32) × IsSchedule schedule × (length iv ≡ 16)
IsCall (Remove label aux mac) = IsAux aux × (length mac ≡ 32)
IsCall (Try label aux leaf les) = IsAux aux
IsCall (Reset label aux leaf reset) = IsAux aux
IsCall (GetLog host) = Unit {0}
IsCall (Replay label aux leaf) = IsAux aux

abbrev pub IsEvent : Event → Type 0
IsEvent (Boots moment) = moment < 2 ^ 40
IsEvent (Calls call now) = (now < 2 ^ 40) × IsCall call

unfoldable pub AreEvents : List Event → Type 0
AreEvents [] = Unit {0}
AreEvents (event ∷ events) = IsEvent event × AreEvents events

-- ---- the law

-- a call with a leaf is refused by label, leaf or path
pub data IsRefused : Reply → Type 0 where
  by : (refusal : Refusal) → IsRefused (refused refusal)

-- the record is that of the ledger's leaf at the label, byte for byte, its path is the true one, and the reply is this one of that leaf
pub record IsOfLeaf (keys : ChipKeys) (leaves : ℕ → Option Contents) (label : ℕ) (aux : List (List (List ℕ))) (leaf : List ℕ) (answer_to : Contents → Reply) (reply : Reply) : Type 0 where
  pub contents : Contents
  pub stands : leaves label ≡ Some contents
  pub bytes : leaf ≡ leaf_bytes keys contents
  pub path : aux ≡ aux_of (values keys leaves) label
  pub answer : reply ≡ answer_to contents

-- the record is that of the leaf before the newest entry, byte for byte: with it in the ledger's place the tree has the older root. Its
-- path is the true one, of that tree and of the ledger's, and the reply is the ledger's leaf, which the entry made of it.
pub record IsOfOlderLeaf (w : ChipState) (leaves : ℕ → Option Contents) (label : ℕ) (aux : List (List (List ℕ))) (leaf : List ℕ) (reply : Reply) : Type 0 where
  pub before : Contents
  pub bytes : leaf ≡ leaf_bytes w.keys before
  pub root : w.log.older.root ≡ root (values w.keys (with_leaf leaves label (Some before)))
  pub older_path : aux ≡ aux_of (values w.keys (with_leaf leaves label (Some before))) label
  pub path : aux ≡ aux_of (values w.keys leaves) label
  pub stands : leaves label ≡ Some (redone_by w.log.newest.verdict w.log.newest.stamp before)
  pub answer : reply ≡ Replayed (leaf_bytes w.keys (redone_by w.log.newest.verdict w.log.newest.stamp before))

-- the label is unused, the path is its true one, and the record is that of the new leaf
pub record IsOfNewLeaf (keys : ChipKeys) (leaves : ℕ → Option Contents) (label : ℕ) (aux : List (List (List ℕ))) (x : Contents) (leaf : List ℕ) : Type 0 where
  pub unused : leaves label ≡ None
  pub path : aux ≡ aux_of (values keys leaves) label
  pub bytes : leaf ≡ leaf_bytes keys x

-- the label is used, the MAC is its leaf's, and the path is its true one
pub record IsOfUsed (keys : ChipKeys) (leaves : ℕ → Option Contents) (label : ℕ) (aux : List (List (List ℕ))) (mac : List ℕ) : Type 0 where
  pub contents : Contents
  pub stands : leaves label ≡ Some contents
  pub value : mac ≡ leaf_mac keys contents
  pub path : aux ≡ aux_of (values keys leaves) label

-- what the reply to a call says of the ledger before it
unfoldable pub IsLawful : ChipState → Ledger → CallData → ℕ → Reply → Type 0
IsLawful w ledger (Try label aux leaf les) now reply =
    IsRefused reply ⊎ IsOfLeaf w.keys ledger.leaves label aux leaf (λ x. tried w.keys x les (record { boot = ledger.boot; at = now }) ledger.start) reply
IsLawful w ledger (Reset label aux leaf reset) now reply =
    IsRefused reply ⊎ IsOfLeaf w.keys ledger.leaves label aux leaf (λ x. reset_at w.keys x reset) reply
IsLawful w ledger (Replay label aux leaf) now reply =
    (IsRefused reply ⊎ (reply ≡ RootUnknown)) ⊎ IsOfOlderLeaf w ledger.leaves label aux leaf reply
IsLawful w ledger (Insert label aux mac les hes reset schedule iv) now (Inserted leaf) =
    IsOfNewLeaf w.keys ledger.leaves label aux (new_contents label les hes reset schedule iv) leaf
IsLawful w ledger (Remove label aux mac) now Done = IsOfUsed w.keys ledger.leaves label aux mac
IsLawful w ledger _ now _ = Unit {0}

abbrev pub IsLawfulEvent : ChipState → Ledger → Event → Type 0
IsLawfulEvent w ledger (Boots moment) = Unit {0}
IsLawfulEvent w ledger (Calls call now) = IsLawful w ledger call now (step w call now).0

-- each reply is the ledger's, and the root is that of the ledger's tree, now and after each event
unfoldable pub Law : ChipState → Ledger → List Event → Type 0
Law w ledger [] = w.log.newest.root ≡ root (values w.keys ledger.leaves)
Law w ledger (event ∷ events) =
    (w.log.newest.root ≡ root (values w.keys ledger.leaves)) × (IsLawfulEvent w ledger event × Law (words_after w event) (ledger_after w ledger event) events)
