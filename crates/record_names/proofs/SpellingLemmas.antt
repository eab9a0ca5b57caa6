-- A name that is spelled part by part.
use Rattle.std.proofs.Common.{◌≡◌, ℕ, [], ◌∷◌, ◌++◌, ap, ◌∙◌, codes, append_assoc}
use Rattle.std.specs.Fmt.{decimal}
use Rattle.hex.specs.Hex.{encode_lower}
use Rattle.record_names.specs.Names.{Bytes, five_digits, stash_name, factor_name, leaf_name, file_name, stash_end, factor_end, leaf_end, file_end}

-- two ends after a front
ends : (front one two b0 b1 b2 : Bytes) → b0 ≡ front → b1 ≡ b0 ++ one → b2 ≡ b1 ++ two → b2 ≡ front ++ (one ++ two)
ends front one two b0 b1 b2 e f g =
    g ∙ ap (λ (b : Bytes). b ++ two) (f ∙ ap (λ (b : Bytes). b ++ one) e) ∙ append_assoc front one two

front_of : (account b0 b1 : Bytes) → b0 ≡ [] → b1 ≡ b0 ++ account → b1 ≡ account
front_of account b0 b1 e f = f ∙ ap (λ (b : Bytes). b ++ account) e

pub stash_spelled : (account b0 b1 b2 : Bytes) → b0 ≡ [] → b1 ≡ b0 ++ account → b2 ≡ b1 ++ codes ".stash" → b2 ≡ stash_name account
unfolding stash_end
stash_spelled account b0 b1 b2 e f g = g ∙ ap (λ (b : Bytes). b ++ codes ".stash") (front_of account b0 b1 e f)

pub leaf_spelled : (account : Bytes) (label : ℕ) (b0 b1 b2 b3 : Bytes) → b0 ≡ [] → b1 ≡ b0 ++ account → b2 ≡ b1 ++ codes ".leaf." → b3 ≡ b2 ++ five_digits label
    → b3 ≡ leaf_name account label
unfolding leaf_end
leaf_spelled account label b0 b1 b2 b3 e f g h =
    ends account (codes ".leaf.") (five_digits label) b1 b2 b3 (front_of account b0 b1 e f) g h

pub file_spelled : (account name b0 b1 b2 b3 : Bytes) → b0 ≡ [] → b1 ≡ b0 ++ account → b2 ≡ b1 ++ codes ".file." → b3 ≡ b2 ++ encode_lower name
    → b3 ≡ file_name account name
unfolding file_end
file_spelled account name b0 b1 b2 b3 e f g h =
    ends account (codes ".file.") (encode_lower name) b1 b2 b3 (front_of account b0 b1 e f) g h

pub factor_spelled : (account label : Bytes) (edition : ℕ) (b0 b1 b2 b3 b4 b5 : Bytes) → b0 ≡ [] → b1 ≡ b0 ++ account → b2 ≡ b1 ++ codes ".fac." → b3 ≡ b2 ++ label
    → b4 ≡ b3 ++ codes "." → b5 ≡ b4 ++ decimal edition → b5 ≡ factor_name account label edition
unfolding factor_end
factor_spelled account label edition b0 b1 b2 b3 b4 b5 e f g h k m =
    m
    ∙ ap (λ (b : Bytes). b ++ decimal edition) (k ∙ ap (λ (b : Bytes). b ++ codes ".") (ends account (codes ".fac.") label b1 b2 b3 (front_of account b0 b1 e f) g h))
    ∙ append_assoc (account ++ (codes ".fac." ++ label)) (codes ".") (decimal edition)
    ∙ append_assoc account (codes ".fac." ++ label) (46 ∷ decimal edition)
    ∙ ap (λ (b : Bytes). account ++ b) (append_assoc (codes ".fac.") label (46 ∷ decimal edition))
