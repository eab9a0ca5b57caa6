use Rattle.std.proofs.Common.{◌≡◌, [], ◌∷◌, ◌++◌}
use Rattle.std.proofs.lemmas.Bool.{and_parts}
use Rattle.record_fields.proofs.ZeroByte.{split_at_zero}
use Rattle.vault_crypt.proofs.laws.data_of_one_file.Goals as goal

-- the first zero byte behind the word ends the account
pub returns : goal.returns
returns c = λ account other name another plain also e.
    let tail : (account ++ 0 ∷ []) ++ name ≡ (other ++ 0 ∷ []) ++ another = cc in
    split_at_zero account other name another (and_parts _ _ plain).1 (and_parts _ _ also).1 tail
