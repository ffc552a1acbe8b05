-- One deleted record more is left.
use Rattle.std.proofs.Common.{◌≡◌, ◌∙◌, ℕ, ◌<◌, ◌^◌, true, false, List, [], ◌∷◌, ◌++◌, length, Result, refl, ap, sym, subst}
use Rattle.std.specs.Prelude.{map}
use Rattle.ct_values.specs.Words.{others}
use Rattle.ct_values.specs.declared.config.Config.{Config}
use Rattle.ct_node_plan.specs.Changes.{AreDeleted, all_left, left_at}
use Rattle.ct_node_plan.specs.declared.change.Left.{Left}
use Rattle.ct_rules.specs.Moves.{vacuum}
use Rattle.ct_rules.specs.Parts.{Moving}
use Rattle.ct_rules.specs.State.{rsn_of}
use Rattle.ct_rules.specs.declared.event.Place.{Place}
use Rattle.ct_rules.specs.declared.state.RecState.{RecState}
use Rattle.ct_rules_node.specs.Node.{Node, db_at, state_at}
use Rattle.ct_rules_node.specs.Records.{acted, at_record, out_of, place_of, put_back, view}
use Rattle.ct_rules_node.specs.Turn.{Turn}
use Rattle.ct_node_plan.specs.Handed.{Goes}
use Rattle.ct_node_plan.specs.Handed.{CoreFault}
use Rattle.ct_node_plan_records.specs.Keys.{is_deleted_at, vacuum_key}
use Rattle.ct_node_plan_records.specs.Walked.{IsMiddle, node_so_far, so_far}
use Rattle.ct_node_plan_records.specs.declared.walk.Walk.{Walk}
use Rattle.ct_node_plan_records.proofs.Left.{deleted_more, floor_left, generation_left, left_more, length_left, members_left}

-- what the rule leaves of a record
abbrev pub left_of : List ℕ → Moving → Left
left_of key o = record { key = key; state = o.state; next = o.next; floor = o.floor }

left_as_put : (db : ℕ) (key : List ℕ) (o : Moving) (n : Node) → left_at db (left_of key o) n ≡ put_back db key o n
unfolding put_back
left_as_put db key o n = refl

pub takes : (me db : ℕ) (key : List ℕ) (o : Moving) (n : Node) (w v : Walk) → o.spent ≡ false → v.left ≡ w.left ++ left_of key o ∷ [] → v.outs ≡ w.outs ++ map (out_of n.generation me db key) o.acts →
    so_far db n v ≡ acted me db key o (so_far db n w)
unfolding acted
takes me db key o n w v s e f =
    let node = ap (λ (xs : List Left). all_left db xs n) e ∙ left_more db w.left (left_of key o) n ∙ left_as_put db key o (node_so_far db n w) in
    let done = f ∙ ap (λ (g : ℕ). w.outs ++ map (out_of g me db key) o.acts) (sym (generation_left db w.left n)) in
    λ i. record { node = node i; outs = done i; spent = sym s i }

pub takes_middle : (db : ℕ) (key : List ℕ) (o : Moving) (n : Node) (w v : Walk) → db < length n.dbs → IsMiddle db n w → is_deleted_at db (node_so_far db n w) key ≡ true → v.next ≡ o.next → v.floor ≡ o.floor → v.left ≡ w.left ++ left_of key o ∷ [] → IsMiddle db n v
unfolding put_back
takes_middle db key o n w v l m d e f h =
    let more = ap (λ (xs : List Left). all_left db xs n) h ∙ left_more db w.left (left_of key o) n in
    let there : db < length (node_so_far db n w).dbs = subst (λ (k : ℕ). db < k) (sym (length_left db w.left n)) l in
    record {
      next = e ∙ sym (ap (λ (u : Node). u.next) more);
      floor = f ∙ sym (ap (λ (u : Node). (db_at db u).floor) more ∙ floor_left db (left_of key o) (node_so_far db n w) there);
      deleted = subst (λ (xs : List Left). AreDeleted db xs n) (sym h) (deleted_more db w.left (left_of key o) n m.deleted d);
    }

-- what the rule of a record sees is below the limit where the record is
pub view_in_limit : (db : ℕ) (key : List ℕ) (n m : Node) (o : Moving) → o ≡ view db key m → state_at db key m ≡ state_at db key n → rsn_of (state_at db key n).copy < 2 ^ 62 → rsn_of o.state.copy < 2 ^ 62
unfolding view
view_in_limit db key n m o e s l = subst (λ (x : RecState). rsn_of x.copy < 2 ^ 62) (sym (ap (λ (p : Moving). p.state) e ∙ s)) l

-- a vacuum of a deleted record is what its rule leaves
pub key_taken : (c : Config) (me db : ℕ) (key : List ℕ) (n : Node) (w : Walk) (at : Place) (asked : List ℕ) (o p : Moving) (r : Result (Unit {0}) CoreFault) (u : Turn) → at ≡ place_of c me db key (node_so_far db n w) → asked ≡ others me n.members →
    o ≡ view db key (node_so_far db n w) → p ≡ vacuum at asked o → Goes r (acted me db key p (so_far db n w)) u → Goes r (vacuum_key c me db key (so_far db n w)) u
unfolding vacuum_key at_record
key_taken c me db key n w at asked o p r u a b d e g =
    let m = node_so_far db n w in
    let b' : asked ≡ others me m.members = b ∙ ap (others me) (sym (members_left db w.left n)) in
    let p' : p ≡ vacuum (place_of c me db key m) (others me m.members) (view db key m) = e ∙ (λ i. vacuum (a i) (b' i) (d i)) in
    subst (λ (q : Moving). Goes r (acted me db key q (so_far db n w)) u) p' g
