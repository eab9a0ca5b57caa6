-- From what stands to what the books need.
use Rattle.std.proofs.Common.{◌≡◌, ℕ, ◌≤◌, ◌<◌, ◌^◌, List, ◌++◌, take, length, subst}
use Rattle.board_model.specs.Disk.{Image, Disk}
use Rattle.home_image.specs.Parts.{Meaning}
use Rattle.home_image.specs.Chain.{steps_of}
use Rattle.home_image.specs.Settled.{BookStands, Opens, IsAtPlace, owned}
use Rattle.home_image.proofs.SettledLemmas.{at-left}
use Rattle.image_path.specs.Showing.{ByAccount}
use Rattle.image_path.specs.Paths.{shown_since, Stands, StandsSince, IsLedIn, IsLeftAt, Recovers, AreBooksClean}
use Rattle.image_path.proofs.PathLemmas.{led-of}

module _ {C S D U E X : Type 0} (m : Meaning C S D U E X) (shows : Image → ByAccount C → Type 0)
    (since : ℕ) (first : ByAccount C) (disk : Disk) (chain : List S) where
  -- what images since the start show
  abbrev Seen : ByAccount C → Type 0
  Seen = shown_since shows disk since

  -- an image has parts that are at some n: also where it may show several
  pub left-at : (tick ended : ℕ)
      → StandsSince m.account m.does shows since first tick ended disk chain
      → (i : Image) → disk.left_since tick i
      → (parts : ByAccount C) × shows i parts × (n : ℕ) × (ended ≤ n) × IsLeftAt m n first Seen chain parts
  left-at tick ended stands i left =
      let h = stands.image i left in (
        h.0,
        h.1,
        h.2,
        h.3,
        record {
          within = h.4;
          each = λ account. led-of m Seen account (take h.2 chain) (first account) (h.0 account) (h.5 account);
        },
      )

  -- what an image now shows of each account, its whole list of steps leads to
  pub now-led : Stands m.account m.does shows since first disk chain
      → (i : Image) → disk.may_leave i
      → (parts : ByAccount C) × shows i parts
      × ((account : ℕ) → IsLedIn m Seen chain account (first account) (parts account))
  now-led stands i left =
      let h = stands.image i left in
      (h.0, h.1, λ account. led-of m Seen account chain (first account) (h.0 account) (h.2 account))

  -- where an image shows one family of parts alone
  pub recovers : ((i : Image) (f g : ByAccount C) → shows i f → shows i g → f ≡ g)
      → Stands m.account m.does shows since first disk chain
      → StandsSince m.account m.does shows since first since 0 disk chain
      → (now : Image) → disk.may_leave now
      → (parts : ByAccount C) → shows now parts
      → Recovers m first parts Seen chain
  recovers one stands all now left parts is = record {
    image = λ f h.
        let at = left-at since 0 all h.0 h.1 in
        (at.2, subst (λ (g : ByAccount C). IsLeftAt m at.2 first Seen chain g) (one h.0 at.0 f at.1 h.2) at.4);
    now_is =
        let at = now-led stands now left in
        subst (λ (g : ByAccount C). (account : ℕ) → IsLedIn m Seen chain account (first account) (g account))
        (one now at.0 parts at.1 is) at.2;
  }

  -- Each image since the tick is at one place of all books, and that is no earlier than the steps that
  -- had ended by the tick.
  pub images-at-one-place : (tick ended accounts : ℕ) (early own : ℕ → List (ℕ × S)) (before after : ℕ → X)
      (user : ℕ → U) (book : ℕ → List E)
      → StandsSince m.account m.does shows since first tick ended disk chain
      → ((account : ℕ) → account < accounts
      → BookStands m (before account) (after account) (own account) (book account))
      → ((account : ℕ) → account < accounts → owned m account chain ≡ early account ++ own account)
      → ((account : ℕ) → account < accounts
      → Opens m (before account) (steps_of (early account)) (first account) (user account))
      → AreBooksClean m shows since disk accounts user book
      → length chain < 2 ^ 64
      → (i : Image) → disk.left_since tick i
      → (parts : ByAccount C) × shows i parts × (n : ℕ) × (ended ≤ n) × (n ≤ length chain)
      × IsAtPlace m n accounts user book parts
  images-at-one-place tick ended accounts early own before after user book stands books parts opens clean fits i left =
      let at = left-at tick ended stands i left in (
        at.0,
        at.1,
        at.2,
        at.3,
        at.4.within,
        at-left m at.2 accounts chain early own before after first at.0 (λ account. (at.4.each account).seen)
            user book books parts opens
            (λ account le. clean account le (at.4.each account).seen (at.4.each account).parts)
            fits (record { within = at.4.within; each = λ account le. (at.4.each account).led }),
      )
