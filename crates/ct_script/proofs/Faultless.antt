-- The configuration of a generated cluster is made of its parts, and nothing is wrong with them.
use Rattle.std.proofs.Common.{◌≡◌, ◌∙◌, ◌≤◌, ℕ, zero, suc, List, [], ◌∷◌, None, Ok, refl, sym, ap, arith}
use Rattle.std.proofs.lemmas.List.{nil_from_length}
use Rattle.std.proofs.lemmas.List.Sorted.{IsPermutation-refl, length_permutation}
use Rattle.std.specs.List.Sorted.{IsStrictlySortedBy}
use Rattle.ct_values.specs.Config.{Configures, config_fault, lock_db}
use Rattle.ct_script.specs.Generated.{each_kind, generated_config}
use Rattle.ct_values.specs.declared.config.Config.{Config}
use Rattle.ct_values.specs.declared.config.DbDecl.{DbDecl}

faultless_so : (nodes : ℕ) → 1 ≤ nodes → nodes ≤ 8 → config_fault nodes each_kind [] ≡ None
faultless_so zero some few = absurd (omega (arith, some))
faultless_so (suc zero) some few = refl
faultless_so (suc (suc zero)) some few = refl
faultless_so (suc (suc (suc zero))) some few = refl
faultless_so (suc (suc (suc (suc zero)))) some few = refl
faultless_so (suc (suc (suc (suc (suc zero))))) some few = refl
faultless_so (suc (suc (suc (suc (suc (suc zero)))))) some few = refl
faultless_so (suc (suc (suc (suc (suc (suc (suc zero))))))) some few = refl
faultless_so (suc (suc (suc (suc (suc (suc (suc (suc zero)))))))) some few = refl
faultless_so (suc (suc (suc (suc (suc (suc (suc (suc (suc n))))))))) some few = absurd (omega (arith, few))

-- nothing is wrong with its databases
pub faultless : (nodes : ℕ) (dbs : List DbDecl) → 1 ≤ nodes → nodes ≤ 8 → dbs ≡ each_kind → config_fault nodes dbs [] ≡ None
faultless nodes dbs some few e = ap (λ (l : List DbDecl). config_fault nodes l []) e ∙ faultless_so nodes some few

-- they make its configuration
pub made : (c : Config) (nodes : ℕ) (dbs : List DbDecl) → dbs ≡ each_kind → Configures (Ok c) nodes dbs [] → c ≡ generated_config nodes
made c nodes dbs e h =
    let none : c.addresses ≡ [] = nil_from_length c.addresses (length_permutation [] c.addresses h.3) in
    (λ i. record { nodes = h.1 i; dbs = (h.2 ∙ ap (λ (l : List DbDecl). lock_db ∷ l) e) i; addresses = none i })

-- it is made of them
pub makes : (nodes : ℕ) → 1 ≤ nodes → nodes ≤ 8 → Configures (Ok (generated_config nodes)) nodes each_kind []
unfolding IsStrictlySortedBy
makes nodes some few = (faultless_so nodes some few, refl, refl, IsPermutation-refl [], tt)
