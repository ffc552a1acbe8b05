-- Rules with one more at the end.
use Rattle.std.proofs.Common.{arith, ◌≡◌, ℕ, nat_eq, false, List, [], ◌∷◌, ◌++◌, None, IsTrue, Some, Option, is_some, refl, Result, Ok, Err}
use Rattle.std.proofs.lemmas.List.{map-append}
use Rattle.ct_call.specs.Rules.{Rule, Rules, rule_of, is_known, are_distinct}
use Rattle.ct_call.specs.Named.{id_of, named, rule_in}
use Rattle.ct_call.specs.Table.{Pushes, with_rule}
use Rattle.ct_call.specs.declared.entry.Entry.{Entry}
use Rattle.ct_call.specs.declared.fault.AddFault.{AddFault}
use Rattle.ct_call.specs.declared.fault.AddFault.TheVariants as add

-- another number is as unknown as before
pub other_with : (n id : ℕ) (rule : Rule) (rs : Rules) → nat_eq id n ≡ false → is_known n rs ≡ false → is_known n (rs ++ (id, rule) ∷ []) ≡ false
other_with n id rule [] e u = grind (arith, e, u)
other_with n id rule ((m, r) ∷ rs) e u = grind (arith, e, u, other_with n id rule rs e)

-- the numbers stay distinct where the new one is unknown
pub distinct_with : (id : ℕ) (rule : Rule) (rs : Rules) → IsTrue (are_distinct rs) → rule_of id rs ≡ None → IsTrue (are_distinct (rs ++ (id, rule) ∷ []))
distinct_with id rule [] d u = grind (arith, d, u)
distinct_with id rule ((m, r) ∷ rs) d u = grind (arith, d, u, other_with m id rule rs, distinct_with id rule rs)

-- what is not there has no rule
pub none_known : (r : Option Rule) → is_some r ≡ false → r ≡ None
none_known None n = refl
none_known (Some x) n = absurd (cc)

-- the numbers stay distinct, whatever a push of a new one answers
pub distinct_pushed : (r : Result (Unit {0}) AddFault) (id : ℕ) (rule : Rule) (old new : Rules) → Pushes r id rule old new → IsTrue (are_distinct old) → is_known id old ≡ false → IsTrue (are_distinct new)
distinct_pushed (Ok u) id rule old new p d n = rw p (distinct_with id rule old d (none_known (rule_of id old) n))
distinct_pushed (Err (add.Repeated m)) id rule old new p d n = absurd p
distinct_pushed (Err add.NoMemory) id rule old new p d n = rw p d

-- what is named with one more thing
pub named_push : {a b c : _} (es : List (Entry a b c)) (e : Entry a b c) → named (es ++ e ∷ []) ≡ with_rule (id_of e) (rule_in e) (named es)
named_push es e = map-append (λ e. (id_of e, rule_in e)) es (e ∷ [])

pub new_rule : (id : ℕ) (rule : Rule) (rs : Rules) → rule_of id rs ≡ None → rule_of id (with_rule id rule rs) ≡ Some rule
new_rule id rule [] u = grind (arith, u)
new_rule id rule ((m, r) ∷ rs) u = grind (arith, u, new_rule id rule rs)

pub rule_kept : (n id : ℕ) (rule kept : Rule) (rs : Rules) → rule_of n rs ≡ Some kept → rule_of n (with_rule id rule rs) ≡ Some kept
rule_kept n id rule kept [] u = absurd (cc)
rule_kept n id rule kept ((m, r) ∷ rs) u = grind (arith, u, rule_kept n id rule kept rs)
