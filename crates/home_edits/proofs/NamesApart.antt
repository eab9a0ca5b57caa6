-- Names of records of different kinds differ, whatever labels and editions they have.
use Rattle.std.proofs.Common.{◌≡◌, ◌≢◌, ℕ, ◌++◌, length, drop, get_or, refl, sym, ap, ◌∙◌, arith}
use Rattle.std.proofs.lemmas.List.{drop_at}
use Rattle.record_names.specs.Names.{Bytes, stash_end, factor_end, file_end, stash_name, factor_name, file_name}

-- what stands behind equal fronts is equal
same_end : (account one two : Bytes) → account ++ one ≡ account ++ two → one ≡ two
same_end account one two same =
    sym (drop_at account one (length account) refl) ∙ ap (drop (length account)) same ∙ drop_at account two
    (length account) refl

pub stash_apart_factor : (account label : Bytes) (edition : ℕ) → stash_name account ≢ factor_name account label edition
unfolding stash_end factor_end
stash_apart_factor account label edition same =
    let e : ◌≡◌ {A = ℕ} 115 102 = ap (λ (xs : Bytes). get_or xs 1 0) (same_end account stash_end
    (factor_end label edition) same) in
    omega (arith, e)

pub stash_apart_file : (account name : Bytes) → stash_name account ≢ file_name account name
unfolding stash_end file_end
stash_apart_file account name same =
    let e : ◌≡◌ {A = ℕ} 115 102 = ap (λ (xs : Bytes). get_or xs 1 0) (same_end account stash_end (file_end name) same)
    in
    omega (arith, e)

pub factor_apart_file : (account label : Bytes) (edition : ℕ) (name : Bytes) → factor_name account label edition ≢
    file_name account name
unfolding factor_end file_end
factor_apart_file account label edition name same =
    let e : ◌≡◌ {A = ℕ} 97 105 = ap (λ (xs : Bytes). get_or xs 2 0) (same_end account (factor_end label edition)
    (file_end name) same) in
    omega (arith, e)
