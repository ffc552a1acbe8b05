-- Plans whose nodes do nothing but ask are sound.
use Rattle.std.proofs.Common.{◌≡◌, ◌∙◌, ℕ, zero, suc, ◌≤◌, nat_le, true, false, List, [], ◌∷◌, length, refl, sym, subst}
use Rattle.std.proofs.lemmas.Bool.{and_from, and_parts, leb-true}
use Rattle.std.specs.Prelude.{Ok, slice_get}
use Rattle.std.specs.List.{list_all, list_any}
use Rattle.ct_values.specs.declared.address.Address.{Address}
use Rattle.ct_script.specs.declared.plan.Plan.{Plan}
use Rattle.ct_script.specs.declared.plan.PlanItem.{PlanItem}
use Rattle.ct_script.specs.declared.plan.PlanItem.TheVariants.{Call, Round}
use Rattle.ct_values.specs.Config.{Configures}
use Rattle.ct_values.specs.declared.config.Config.{Config}
use Rattle.ct_values.specs.declared.config.DbDecl.{DbDecl}
use Rattle.ct_script.specs.Sound.{IsSound, has_round, is_round, may_be_told, or_no_items, script_of}
use Rattle.ct_cases_troupes.specs.Plain.{asks_only, is_asked}

-- such scripts
record Asks (c : Config) (n : ℕ) (script : List PlanItem) : Type 0 where
  short : length script ≤ 4096
  told : list_all (may_be_told c n) script ≡ true
  none : has_round script ≡ false

asked_told : (c : Config) (n : ℕ) (script : List PlanItem) → list_all is_asked script ≡ true → (list_all (may_be_told c n) script ≡ true) × (list_any is_round script ≡ false)
unfolding is_asked may_be_told is_round
asked_told c n [] h = (refl, refl)
asked_told c n (Call o ∷ is) h = let p = and_parts (is_asked (Call o)) (list_all is_asked is) h in let more = asked_told c n is p.1 in (and_from _ _ p.0 more.0, more.1)
asked_told c n (Round members ∷ is) h = absurd (cc)

asks_of : (c : Config) (n : ℕ) (script : List PlanItem) → asks_only script ≡ true → Asks c n script
unfolding asks_only has_round
asks_of c n script h =
    let p = and_parts (nat_le (length script) 4096) (list_all is_asked script) h in
    let t = asked_told c n script p.1 in
    record { short = leb-true (length script) 4096 p.0; told = t.0; none = t.1 }

asks_nothing : asks_only [] ≡ true
unfolding asks_only
asks_nothing = refl

asks_at : (c : Config) (n k : ℕ) (scripts : List (List PlanItem)) → list_all asks_only scripts ≡ true → Asks c n (or_no_items (slice_get scripts k))
unfolding or_no_items
asks_at c n k [] h = asks_of c n [] asks_nothing
asks_at c n zero (s ∷ ss) h = asks_of c n s (and_parts (asks_only s) (list_all asks_only ss) h).0
asks_at c n (suc k) (s ∷ ss) h = asks_at c n k ss (and_parts (asks_only s) (list_all asks_only ss) h).1

asks_script : (p : Plan) (n : ℕ) → list_all asks_only p.scripts ≡ true → Asks p.config n (script_of p n)
unfolding script_of
asks_script p n h = asks_at p.config n n p.scripts h

sound_by : (p : Plan) (dbs : List DbDecl) (addresses : List Address) → Configures (Ok p.config) p.config.nodes dbs addresses → length p.scripts ≡ p.config.nodes → list_all asks_only p.scripts ≡ true → IsSound p
sound_by p dbs addresses config count h = record {
  config = (dbs, addresses, config);
  scripts = count;
  short = λ n. (asks_script p n h).short;
  told = λ n. (asks_script p n h).told;
  one_leader = λ m n a b. absurd (let e = (asks_script p m h).none in cc);
}

pub asks_sound : (c : Config) (scripts kept : List (List PlanItem)) (n : ℕ) (dbs : List DbDecl) (addresses : List Address) → Configures (Ok c) n dbs addresses → length scripts ≡ n → list_all asks_only scripts ≡ true → kept ≡ scripts →
    IsSound (record { config = c; scripts = kept; net = false })
asks_sound c scripts kept n dbs addresses config count h is =
    subst (λ (ss : List (List PlanItem)). IsSound (record { config = c; scripts = ss; net = false })) (sym is)
    (sound_by (record { config = c; scripts = scripts; net = false }) dbs addresses (subst (λ (k : ℕ). Configures (Ok c) k dbs addresses) (sym config.1) config) (count ∙ sym config.1) h)
