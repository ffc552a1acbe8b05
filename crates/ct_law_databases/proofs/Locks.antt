-- In a cluster that lives, a record is locked exactly where its node owns it; so of locks holds what the law of persistent databases asks,
-- but for those that are gone.
use Rattle.std.proofs.Common.{◌≡◌, ◌≢◌, ℕ, true, false, List, Option, None, Some, refl, sym, ap, ◌∙◌, subst, inl, inr, ⊎_elim}
use Rattle.std.specs.Prelude.{nat_lt, is_some}
use Rattle.std.proofs.lemmas.Bool.{cases_Bool}
use Rattle.ct_values.specs.declared.config.Config.{Config}
use Rattle.ct_call.specs.Rules.{Rules}
use Rattle.ct_rules_node.specs.Node.{is_among, is_persistent, kind_at, name_of, state_at}
use Rattle.ct_rules_node.specs.Clients.{is_locked}
use Rattle.ct_rules_cluster.specs.Cluster.{Cluster, node_at}
use Rattle.ct_register.specs.Lines.{Lines}
use Rattle.ct_law_record.proofs.Law as record_law
use Rattle.ct_law_record.proofs.Worlds.{WorldInv}
use Rattle.ct_law_generation.specs.Shown.{scene}
use Rattle.ct_law_run.proofs.Ages.{era_of}
use Rattle.ct_law_run.proofs.Lives.{Lives}
use Rattle.ct_law_run.proofs.Lined.{at_line}
use Rattle.ct_law_databases.proofs.Ordered.{IsOrdered}

module _ (c : Config) (rules : Rules) (w : Cluster) (r : Lines) (h : Lives c rules w r) where
  -- the law of one record holds of each world of a line
  pub world_of : (g db : ℕ) (key : List ℕ) → r.born g ≡ true → WorldInv (scene c (era_of r h.ages g) rules db key) (h.ages.worlds g db key) (r.records g db key) (h.ages.ghosts g db key)
  world_of g db key born = (h.lines.line g born).world db key

  pub born_line : (n : ℕ) → r.line n ≢ 0 → r.born (r.line n) ≡ true
  born_line n ne = (let s = h.formed.order.stays n ne in ap r.born s ∙ h.formed.order.real n (λ z. ne (s ∙ z)))

  -- where it is locked its node owns it in its line
  pub lock_owned : (n db : ℕ) (key : List ℕ) → is_locked db key (node_at n w) ≡ true → (r.line n ≢ 0) × ((r.records (r.line n) db key).owner ≡ Some n)
  unfolding is_locked
  lock_owned n db key locked =
      let ne : r.line n ≢ 0 = (λ z. absurd (let e = sym (ap is_some ((at_line c rules w r h n db key).none z).1) ∙ locked in cc)) in
      (ne, ((record_law.stands _ _ _ _ (world_of (r.line n) db key (born_line n ne))).locks n).0 (sym (ap is_some ((at_line c rules w r h n db key).some ne).1) ∙ locked))

  -- and where it owns it, it is locked there
  pub owned_locked : (n db : ℕ) (key : List ℕ) → r.line n ≢ 0 → (r.records (r.line n) db key).owner ≡ Some n → is_locked db key (node_at n w) ≡ true
  unfolding is_locked
  owned_locked n db key ne owns = ap is_some ((at_line c rules w r h n db key).some ne).1 ∙ ((record_law.stands _ _ _ _ (world_of (r.line n) db key (born_line n ne))).locks n).1 owns

  -- who owns a record of a line is in that line, and a member
  pub owner_in : (g db n : ℕ) (key : List ℕ) → (r.records g db key).owner ≡ Some n → (r.line n ≡ g) × (r.line n ≢ 0) × (nat_lt n c.nodes ≡ true) × (is_among n (r.members g) ≡ true)
  owner_in g db n key owns = (
    line,
    ne,
    there,
    subst (λ (l : ℕ). is_among n (r.members l) ≡ true) line ((h.nodes n there).named ne).2,
  )
    where
      line : r.line n ≡ g
      line = h.formed.owners g db key n owns

      ne : r.line n ≢ 0
      ne z = absurd (let e : None ≡ Some n = sym (h.lines.unowned g db key (ap r.born (sym line ∙ z) ∙ h.lines.none)) ∙ owns in cc)

      there : nat_lt n c.nodes ≡ true
      there = ⊎_elim (λ (e : nat_lt n c.nodes ≡ true). e) (λ (e : nat_lt n c.nodes ≡ false). absurd (ne (h.outside n e))) (cases_Bool (nat_lt n c.nodes))

  -- no record of a persistent database is locked
  pub none_locked : IsOrdered c r → (n db : ℕ) (key : List ℕ) → is_persistent (kind_at c db) ≡ true → is_locked db key (node_at n w) ≡ false
  none_locked o n db key kind = ⊎_elim
      (λ (e : is_locked db key (node_at n w) ≡ true). absurd (let f : None ≡ Some n = sym (o.plain (r.line n) db kind key) ∙ (lock_owned n db key e).1 in cc))
      (λ (e : is_locked db key (node_at n w) ≡ false). e)
      (cases_Bool (is_locked db key (node_at n w)))
