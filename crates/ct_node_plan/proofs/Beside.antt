-- A step that leaves the databases as they are is the same without them.
use Rattle.std.proofs.Common.{◌≡◌, ◌∙◌, ℕ, Bool, true, false, List, [], ◌∷◌, refl, ap, sym, subst}
use Rattle.ct_frame.specs.declared.event.Note.{Note}
use Rattle.ct_frame.specs.declared.frame.Msg.{Msg}
use Rattle.ct_rules_node.specs.Node.{Database, Node, Lead}
use Rattle.ct_rules_node.specs.Turn.{Turn, begins, does, notes, posts, posts_all, with_lead}
use Rattle.ct_node_plan.specs.Changes.{IsPlanned, changed_by}
use Rattle.ct_node_plan.specs.declared.change.Planned.{Planned}
use Rattle.ct_node_plan.specs.declared.change.Change.TheVariants as change

-- a turn of the node with these databases
abbrev pub with_dbs : List Database → Turn → Turn
with_dbs ds t = record t { node = record t.node { dbs = ds } }

pub posts_beside : (ds : List Database) (g me : ℕ) (ns : List ℕ) (m : Msg) (t : Turn) → posts_all g me ns m (with_dbs ds t) ≡ with_dbs ds (posts_all g me ns m t)
unfolding posts_all posts does
posts_beside ds g me [] m t = refl
posts_beside ds g me (n ∷ ns) m t = posts_beside ds g me ns m (posts g me n m t)

pub posts_spent : (g me : ℕ) (ns : List ℕ) (m : Msg) (t : Turn) → (posts_all g me ns m t).spent ≡ t.spent
unfolding posts_all posts does
posts_spent g me [] m t = refl
posts_spent g me (n ∷ ns) m t = posts_spent g me ns m (posts g me n m t)

pub notes_beside : (ds : List Database) (x : Note) (t : Turn) → notes x (with_dbs ds t) ≡ with_dbs ds (notes x t)
unfolding notes does
notes_beside ds x t = refl

-- the plan of a step that was made without the databases
pub planned_beside : (u t : Turn) (n : Node) → u.spent ≡ false → with_dbs n.dbs u ≡ t → IsPlanned (record { change = change.Beside u.node; outs = u.outs }) t n
unfolding changed_by
planned_beside u t n whole e = record {
  whole = ap (λ (x : Turn). x.spent) (sym e) ∙ whole;
  node = ap (λ (x : Turn). x.node) e;
  outs = ap (λ (x : Turn). x.outs) e;
  can = tt;
}

-- the plan of a step that leads this and then sends
pub posted_plan : (n : Node) (l : Lead) (g me : ℕ) (ns : List ℕ) (x : Msg) (m : Node) (u v : Turn) (p : Planned) → m ≡ record n { dbs = []; lead = l } → u ≡ begins m → v ≡ posts_all g me ns x u →
    p ≡ record { change = change.Beside v.node; outs = v.outs } → IsPlanned p (posts_all g me ns x (with_lead l (begins n))) n
unfolding with_lead
posted_plan n l g me ns x m u v p a b c d =
    let t = begins (record n { dbs = []; lead = l }) in
    subst (λ (q : Planned). IsPlanned q (posts_all g me ns x (with_lead l (begins n))) n) (sym d)
    (planned_beside v (posts_all g me ns x (with_lead l (begins n))) n (ap (λ (w : Turn). w.spent) c ∙ posts_spent g me ns x u ∙ ap (λ (w : Turn). w.spent) b)
    (ap (with_dbs n.dbs) (c ∙ ap (posts_all g me ns x) (b ∙ ap (λ (k : Node). begins k) a)) ∙ sym (posts_beside n.dbs g me ns x t)))

-- the plan of one that notes something in between
pub noted_plan : (n : Node) (l : Lead) (g me : ℕ) (ns : List ℕ) (x : Msg) (y : Note) (m : Node) (u w v : Turn) (p : Planned) → m ≡ record n { dbs = []; lead = l } → u ≡ begins m → w ≡ notes y u → v ≡ posts_all g me ns x w →
    p ≡ record { change = change.Beside v.node; outs = v.outs } → IsPlanned p (posts_all g me ns x (notes y (with_lead l (begins n)))) n
unfolding with_lead notes does
noted_plan n l g me ns x y m u w v p a b e c d =
    let t = begins (record n { dbs = []; lead = l }) in
    subst (λ (q : Planned). IsPlanned q (posts_all g me ns x (notes y (with_lead l (begins n)))) n) (sym d)
    (planned_beside v (posts_all g me ns x (notes y (with_lead l (begins n)))) n (ap (λ (z : Turn). z.spent) c ∙ posts_spent g me ns x w ∙ ap (λ (z : Turn). z.spent) e ∙ ap (λ (z : Turn). z.spent) b)
    (ap (with_dbs n.dbs) (c ∙ ap (posts_all g me ns x) (e ∙ ap (notes y) (b ∙ ap (λ (k : Node). begins k) a))) ∙ sym (posts_beside n.dbs g me ns x (notes y t))))
