-- Inputs of fewer secrets don't coincide where those of more don't.
use Rattle.std.proofs.Common.{◌≡◌, Option, None, Some, sym, subst, ◌⊎◌, inl, inr, ⊎_elim}
use Rattle.account_machine.specs.declared.user.Durable.{Durable}
use Rattle.account_machine.specs.declared.user.User.{User}
use Rattle.share_api.specs.Contents.{Bytes, Contents}
use Rattle.stored_home.specs.Clean.{IsClean, IsTurnSecret, IsSecretOf, DeriveInput, MacInput, TagInput, IsDeriveInput, IsMacInput, IsTagInput, IsWrapKey}
use Rattle.stored_home.proofs.MapLemmas.{not_None, from_some}
use Rattle.user_turn.specs.Acts.{IsOneOf}

module _ (All Some_of : Bytes → Type 0) (I : Contents → Type 0) (account : Bytes) (more : (s : Bytes) → Some_of s → All s) where
  derive_part : (x : DeriveInput) → IsDeriveInput Some_of I account x → IsDeriveInput All I account x
  derive_part x h = record {
    is_secret = more x.secret h.is_secret;
    image = h.image;
    is_image = h.is_image;
    label = h.label;
    edition = h.edition;
    row = h.row;
    read = h.read;
    salt_is = h.salt_is;
    cost_is = h.cost_is;
  }

  mac_part : (x : MacInput) → IsMacInput Some_of I account x → IsMacInput All I account x
  mac_part x h = record {
    from = h.from;
    derived = derive_part h.from h.derived;
    image = h.image;
    is_image = h.is_image;
    tree = h.tree;
    leaf = h.leaf;
    found = h.found;
    key_is = h.key_is;
    text_is = h.text_is;
  }

  wrap_part : (key : Bytes) → IsWrapKey Some_of I account key → IsWrapKey All I account key
  wrap_part key = ⊎_elim (λ w. inl (w.0, derive_part w.0 w.1, w.2)) (λ w. inr (w.0, mac_part w.0 w.1, w.2))

  tag_part : (x : TagInput) → IsTagInput Some_of I account x → IsTagInput All I account x
  tag_part x h = record {
    wrap = wrap_part x.key h.wrap;
    image = h.image;
    is_image = h.is_image;
    stash = h.stash;
    there = h.there;
    label = h.label;
    block = h.block;
    found = h.found;
    iv_is = h.iv_is;
    extra_is = h.extra_is;
    text_is = h.text_is;
  }

  pub clean_part : IsClean All I account → IsClean Some_of I account
  clean_part h = record {
    derive_clean = λ x y p q. h.derive_clean x y (derive_part x p) (derive_part y q);
    mac_clean = λ x y p q. h.mac_clean x y (mac_part x p) (mac_part y q);
    tag_clean = λ x y p q. h.tag_clean x y (tag_part x p) (tag_part y q);
  }

-- The secrets of a turn that begins with one of a user's possible durable parts are secrets of the user's turn.
pub part_secret : (user : User) (held : Durable) (given : Option Bytes) → IsOneOf user held → (s : Bytes)
    → IsTurnSecret held None given s → IsTurnSecret user.durable user.other given s
part_secret user held given which s h =
    ⊎_elim
    (λ k. known user.other (⊎_elim (λ e. inl (subst (λ d. IsSecretOf d s) e k)) (λ e. inr (held, e, k)) which))
    (λ e. asked user.other e)
    h
  where
    known : (o : Option Durable)
        → IsSecretOf user.durable s ⊎ ((d : Durable) × (o ≡ Some d) × IsSecretOf d s)
        → IsTurnSecret user.durable o given s
    known None k = ⊎_elim inl (λ w. absurd (not_None w.0 (sym w.1))) k
    known (Some other) k =
        ⊎_elim inl (λ w. inr (inl (subst (λ d. IsSecretOf d s) (sym (from_some other w.0 w.1)) w.2))) k

    asked : (o : Option Durable) → given ≡ Some s → IsTurnSecret user.durable o given s
    asked None e = inr e
    asked (Some other) e = inr (inr e)
