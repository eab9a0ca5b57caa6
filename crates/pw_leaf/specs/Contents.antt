-- What a leaf record holds.
use Rattle.std.specs.Prelude.{◌≡◌, ℕ, ◌+◌, ◌<◌, ◌≤◌, ◌^◌, List, length}
use Rattle.pw_types.specs.Schedule.{IsSchedule, limit_of}
use Rattle.pw_types.specs.declared.stamp.Stamp.{Stamp}
use Rattle.pw_leaf.specs.declared.leaf.Leaf.{Leaf}

-- a leaf without its MAC, and the counter block under which its secrets are hidden
pub record Contents : Type 0 where
  pub label : ℕ
  pub schedule : List (ℕ × ℕ)
  pub wrong : ℕ
  pub last : Stamp
  pub les : List ℕ
  pub hes : List ℕ
  pub reset : List ℕ
  pub iv : List ℕ

-- contents that a record can hold
pub record IsContents (x : Contents) : Type 0 where
  pub label : x.label < 16384
  pub schedule : IsSchedule x.schedule
  pub wrong : x.wrong ≤ limit_of x.schedule
  pub boot : x.last.boot < 2 ^ 64
  pub moment : x.last.at < 2 ^ 40
  pub fresh : x.wrong ≡ 0 → (x.last.boot ≡ 0) × (x.last.at ≡ 0)
  pub les : length x.les ≡ 32
  pub hes : length x.hes ≡ 32
  pub reset : length x.reset ≡ 32
  pub iv : length x.iv ≡ 16

-- the stamp of no wrong try
abbrev pub no_stamp : Stamp
no_stamp = record { boot = 0; at = 0 }

-- a new leaf's contents
abbrev pub new_contents : ℕ → List ℕ → List ℕ → List ℕ → List (ℕ × ℕ) → List ℕ → Contents
new_contents label les hes reset schedule iv =
    record { label = label; schedule = schedule; wrong = 0; last = no_stamp; les = les; hes = hes; reset = reset; iv = iv }

-- one more wrong try
abbrev pub bumped : Stamp → Contents → Contents
bumped now x = record x { wrong = x.wrong + 1; last = now }

-- no wrong try
abbrev pub cleared : Contents → Contents
cleared x = record x { wrong = 0; last = no_stamp }

-- the contents of a leaf whose secrets are hidden under this block
abbrev pub contents_of : Leaf → List ℕ → Contents
contents_of leaf iv =
    record { label = leaf.label; schedule = leaf.schedule; wrong = leaf.wrong; last = leaf.last; les = leaf.les; hes = leaf.hes; reset = leaf.reset; iv = iv }

-- the leaf of these contents and a MAC
abbrev pub leaf_of : Contents → List ℕ → Leaf
leaf_of x mac =
    record { label = x.label; schedule = x.schedule; wrong = x.wrong; last = x.last; les = x.les; hes = x.hes; reset = x.reset; mac = mac }
