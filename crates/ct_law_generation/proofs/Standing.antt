-- Where the world of each record stands for its register, the cluster stands for the registers of its line.
use Rattle.std.proofs.Common.{◌≡◌, ℕ, ◌≤◌, true, List, sym, ap, ◌∙◌, arith}
use Rattle.std.specs.Prelude.{◌≢◌, is_some}
use Rattle.ct_frame.specs.declared.header.RecCopy.{RecCopy}
use Rattle.ct_rules.specs.declared.state.RecState.{RecState}
use Rattle.ct_rules_node.specs.Node.{state_at}
use Rattle.ct_rules_cluster.specs.Cluster.{Cluster, is_up, node_at}
use Rattle.ct_register.specs.Register.{Register, reading}
use Rattle.ct_register.specs.Lines.{Lines}
use Rattle.ct_register.specs.Stands.{RecordsStand, HasCopy}
use Rattle.ct_law_record.specs.World.{World, View, Stands}
use Rattle.ct_law_record.specs.World as law
use Rattle.ct_law_generation.specs.Shown.{Shows}

-- all nodes that run are in line g, and there is nothing of what is no node
pub record OneLine (g : ℕ) (w : Cluster) (line : ℕ → ℕ) : Type 0 where
  pub up : (n : ℕ) → is_up n w ≡ true → line n ≡ g
  pub has : (n : ℕ) (db : ℕ) (key : List ℕ) (c : RecCopy) → HasCopy w n db key c → line n ≡ g

pub record EachStands (g : ℕ) (w : Cluster) (worlds : ℕ → List ℕ → World) (t : ℕ → List ℕ → Register) : Type 0 where
  pub shown : (db : ℕ) (key : List ℕ) → Shows g db key w (worlds db key)
  pub stand : (db : ℕ) (key : List ℕ) → Stands (worlds db key) (t db key)

one_not_zero : (g l : ℕ) → 1 ≤ g → l ≡ g → l ≢ 0
one_not_zero g l real e zero = absurd (omega arith)

state_shown : (g : ℕ) (w : Cluster) (v : World) (n db : ℕ) (key : List ℕ) → Shows g db key w v → (v.nodes n).state ≡ state_at db key (node_at n w)
state_shown g w v n db key h = ap (λ (x : View). x.state) (h.nodes n)

copy_shown : (g : ℕ) (w : Cluster) (v : World) (n db : ℕ) (key : List ℕ) (c : RecCopy) → Shows g db key w v → HasCopy w n db key c → law.HasCopy v n c
copy_shown g w v n db key c h has = ap (λ (s : RecState). s.copy) (state_shown g w v n db key h) ∙ has

register_is : (g : ℕ) (r : Lines) (t : ℕ → List ℕ → Register) (n db : ℕ) (key : List ℕ) → ((db : ℕ) (key : List ℕ) → r.records g db key ≡ t db key) → r.line n ≡ g → r.records (r.line n) db key ≡ t db key
register_is g r t n db key same e = ap (λ (l : ℕ). r.records l db key) e ∙ same db key

pub records_stand : (g : ℕ) (w : Cluster) (r : Lines) (worlds : ℕ → List ℕ → World) (t : ℕ → List ℕ → Register) → 1 ≤ g → OneLine g w r.line →
    ((db : ℕ) (key : List ℕ) → r.records g db key ≡ t db key) → EachStands g w worlds t → RecordsStand w r
records_stand g w r worlds t real one same each = record {
  locks = λ n db key up. (let e = one.up n up in let x = each.stand db key in let is = state_shown g w (worlds db key) n db key (each.shown db key) in let q = register_is g r t n db key same e in (
    (λ locked. (one_not_zero g (r.line n) real e, ap (λ (y : Register). y.owner) q ∙ (x.locks n).0 (ap (λ (s : RecState). is_some s.locked) is ∙ locked))),
    (λ owns. sym (ap (λ (s : RecState). is_some s.locked) is) ∙ (x.locks n).1 (sym (ap (λ (y : Register). y.owner) q) ∙ owns.1)),
  ));
  masters = λ n db key c has own. (let e = one.has n db key c has in let q = register_is g r t n db key same e in (
    one_not_zero g (r.line n) real e,
    (each.stand db key).newest n c (copy_shown g w (worlds db key) n db key c (each.shown db key) has) own ∙ sym (ap (λ (y : Register). reading y.versions) q),
  ));
  one_master = λ n m db key c d up line has own has_d own_d.
      (each.stand db key).only m n d c (copy_shown g w (worlds db key) m db key d (each.shown db key) has_d) own_d (copy_shown g w (worlds db key) n db key c (each.shown db key) has) own;
  readers = λ n db key c has flags. (let e = one.has n db key c has in let q = register_is g r t n db key same e in
      let x = (each.stand db key).readers n c (copy_shown g w (worlds db key) n db key c (each.shown db key) has) flags in (
        one_not_zero g (r.line n) real e,
        x.0 ∙ sym (ap (λ (y : Register). reading y.versions) q),
        ap (λ (y : Register). y.owner) q ∙ x.1,
      ));
}
