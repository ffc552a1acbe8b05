-- The RSNs that an installation makes.
use Rattle.std.proofs.Common.{◌≡◌, ◌∙◌, ℕ, ◌+◌, ◌^◌, Bool, true, false, cond, ◌&&◌, ◌||◌, List, [], ◌∷◌, refl}
use Rattle.std.specs.Prelude.{nat_le}
use Rattle.std.specs.List.{list_any}
use Rattle.ct_values.specs.declared.address.Address.{Address}
use Rattle.ct_frame.specs.declared.frame.TableRow.{TableRow}
use Rattle.ct_rules_node.specs.Rounds.{makes_rows, releases}
use Rattle.ct_rules_node.specs.Turn.{Turn, does, makes, notes}
use Rattle.ct_node_plan_installs.specs.Filled.{is_last, is_mine}

or_false : (b : Bool) → b ≡ (b || false)
or_false true = refl
or_false false = refl

or_after : (a x y : Bool) → ((a || x) || y) ≡ (a || (x || y))
or_after true x y = refl
or_after false x y = refl

-- an installation makes the RSNs of all rows, and changes nothing else
pub rows_made : (me : ℕ) (members : List ℕ) (rows : List TableRow) (t : Turn) → makes_rows me members rows t ≡ record t { spent = t.spent || list_any (is_last me members) rows }
unfolding makes_rows makes
rows_made me members [] t = (λ i. record t { spent = or_false t.spent i })
rows_made me members (row ∷ rows) t =
    by (is_mine me members row) (rows_made me members rows (record t { spent = t.spent || nat_le (2 ^ 62) (row.rsn + 1) })) (rows_made me members rows t)
  where
    any : Bool
    any = list_any (is_last me members) rows

    by : (b : Bool) → makes_rows me members rows (record t { spent = t.spent || nat_le (2 ^ 62) (row.rsn + 1) }) ≡ record t { spent = (t.spent || nat_le (2 ^ 62) (row.rsn + 1)) || any } → makes_rows me members rows t ≡ record t { spent = t.spent || any } →
        makes_rows me members rows (cond b (record t { spent = t.spent || nat_le (2 ^ 62) (row.rsn + 1) }) t) ≡ record t { spent = t.spent || ((b && nat_le (2 ^ 62) (row.rsn + 1)) || any) }
    by true p q = p ∙ (λ i. record t { spent = or_after t.spent (nat_le (2 ^ 62) (row.rsn + 1)) any i })
    by false p q = q

-- a release reaches no number
pub releases_spent : (xs : List Address) (t : Turn) → (releases xs t).spent ≡ t.spent
unfolding releases notes does
releases_spent [] t = refl
releases_spent (a ∷ xs) t = releases_spent xs _
