-- What a desk has to hand out, and what a call of it leaves.
use Rattle.std.specs.Prelude.{◌≡◌, ◌↔◌, ℕ, ◌+◌, List, ◌++◌, length, Option}
use Rattle.run_desk.specs.declared.desk.Client.{Client}

-- What a desk has: the number for the moment of opening, the entropy where it is told, the boards that it
-- may hand out by their directory, the clients that it may hand out, in order, and its count of faults.
pub record DeskSeen (B S K C : Type 0) : Type 1 where
  pub moment : ℕ
  pub entropy : Option (List ℕ)
  pub board : List ℕ → B → Type 0
  pub clients : List (Client S K C) → Type 0
  pub faults : ℕ

module _ {B S K C : Type 0} (before after : DeskSeen B S K C) where
  -- the moment and the entropy stay
  pub record KeepsNumbers : Type 0 where
    pub moment : after.moment ≡ before.moment
    pub entropy : after.entropy ≡ before.entropy

  -- it has the same boards still to hand out, and no others
  abbrev pub KeepsBoard : Type 0
  KeepsBoard = (dir : List ℕ) (board : B) → before.board dir board ↔ after.board dir board

  -- It handed out these clients, in order, and has those behind them still to hand out, and no others.
  abbrev pub HandsOut : List (Client S K C) → Type 0
  HandsOut handed = (rest : List (Client S K C)) → before.clients (handed ++ rest) ↔ after.clients rest

  -- The clients from the first number on, before the next one, were opened: they were handed out in this
  -- order, and stand behind those that there were.
  pub record OpensClients (first next : ℕ) (old new : List (Client S K C)) : Type 0 where
    pub handed : List (Client S K C)
    pub count : next ≡ first + length handed
    pub in_order : HandsOut handed
    pub added : new ≡ old ++ handed
