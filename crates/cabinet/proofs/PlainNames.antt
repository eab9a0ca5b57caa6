-- The name of a record isn't a temporary file's.
use Rattle.std.proofs.Common.{◌≡◌, ℕ, List, [], ◌∷◌, ◌++◌, Bool, true, false, ◌&&◌, IsTrue, codes, nat_eq, subst, ◌∙◌, arith}
use Rattle.std.proofs.lemmas.Bool.Decides.{nat_tests}
use Rattle.std.specs.List.{list_all, starts_with}
use Rattle.board_model.specs.Files.{IsTemporary}
use Rattle.record_names.specs.Names.{Bytes, is_name_byte, IsRecordName, owner_of, tail_of}
use Rattle.record_names.proofs.NameLemmas.{name_parts, bytes-owner}

both : (a b : Bool) → (a && b) ≡ true → (a ≡ true) × (b ≡ true)
both true b e = (Rattle.std.proofs.Common.refl, e)
both false b e = cc

hyphen : (byte : ℕ) → is_name_byte byte ≡ true → nat_eq 45 byte ≡ true → ⊥
hyphen byte is e = grind (arith, nat_tests)

-- an account's bytes and a full stop don't begin as a temporary file's name
plain : (owner rest : Bytes) → list_all is_name_byte owner ≡ true → starts_with nat_eq (owner ++ 46 ∷ rest) (codes "tmp-") ≡ true → ⊥
plain [] rest names starts = cc starts
plain (a ∷ []) rest names starts = let e = both (nat_eq 116 a) false starts in cc e.1
plain (a ∷ b ∷ []) rest names starts = let e = both (nat_eq 109 b) false (both (nat_eq 116 a) (nat_eq 109 b && false) starts).1 in cc e.1
plain (a ∷ b ∷ c ∷ []) rest names starts =
    let later = both (nat_eq 109 b) (nat_eq 112 c && false) (both (nat_eq 116 a) (nat_eq 109 b && (nat_eq 112 c && false)) starts).1 in
    let e = both (nat_eq 112 c) false later.1 in
    cc e.1
plain (a ∷ b ∷ c ∷ d ∷ owner) rest names starts =
    let second = both (nat_eq 109 b) (nat_eq 112 c && (nat_eq 45 d && true)) (both (nat_eq 116 a) (nat_eq 109 b && (nat_eq 112 c && (nat_eq 45 d && true))) starts).1 in
    let third = both (nat_eq 112 c) (nat_eq 45 d && true) second.1 in
    let fourth = both (nat_eq 45 d) true third.1 in
    let one = both (is_name_byte a) (list_all is_name_byte (b ∷ c ∷ d ∷ owner)) names in
    let two = both (is_name_byte b) (list_all is_name_byte (c ∷ d ∷ owner)) one.1 in
    let three = both (is_name_byte c) (list_all is_name_byte (d ∷ owner)) two.1 in
    let four = both (is_name_byte d) (list_all is_name_byte owner) three.1 in
    hyphen d four.0 fourth.0

pub plain_name : (name : Bytes) → IsRecordName name → ¬ IsTemporary name
plain_name name is temporary =
    plain (owner_of is.parts) (tail_of is.parts) (bytes-owner is.parts is.are)
    (subst (λ (n : Bytes). starts_with nat_eq n (codes "tmp-") ≡ true) (name_parts name is.parts is.spelled) temporary)
