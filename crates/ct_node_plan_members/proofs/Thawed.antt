-- Calls that want their records anew, one after the other.
use Rattle.std.proofs.Common.{◌≡◌, ◌∙◌, ℕ, ◌<◌, ◌^◌, Bool, true, false, cond, ◌&&◌, ◌||◌, List, [], ◌∷◌, length, Result, refl, sym, ap, subst}
use Rattle.std.specs.List.{AllByRecursion}
use Rattle.std.specs.Prelude.{nat_eq}
use Rattle.std.proofs.lemmas.List.{length-set}
use Rattle.ct_call.specs.Rules.{Rules}
use Rattle.ct_frame.specs.declared.event.Note.TheVariants as note
use Rattle.ct_values.specs.declared.config.Config.{Config}
use Rattle.ct_node_plan.specs.Changes.{IsPlanned, Plans}
use Rattle.ct_node_plan.specs.declared.change.Planned.{Planned}
use Rattle.ct_node_view.proofs.There.{pending_there}
use Rattle.ct_lead.specs.Member.{is_installed}
use Rattle.ct_rules_node.specs.Node.{Node, Phase, Idle, Serving, Installed, Freezing, Frozen, with_db}
use Rattle.ct_rules_node.specs.Records.{acted, at_record, place_of, put_back, view}
use Rattle.ct_rules_node.specs.Rounds.{Called, on_thaw, pending_calls, thaws, want_again, want_all}
use Rattle.ct_rules_node.specs.Turn.{Turn, begins, does, notes, with_phase}
use Rattle.ct_node_plan.specs.Handed.{CoreFault}
use Rattle.ct_node_plan_members.proofs.Counting.{again_low}

second_false : (a b : Bool) → (a || b) ≡ false → b ≡ false
second_false true b e = absurd (cc)
second_false false b e = e

-- as many databases
pub again_dbs : (c : Config) (rules : Rules) (me db : ℕ) (key : List ℕ) (t u : Turn) → u ≡ at_record c me db key (want_again rules) t → length u.node.dbs ≡ length t.node.dbs
unfolding at_record acted put_back with_db
again_dbs c rules me db key t u e = ap (λ (v : Turn). length v.node.dbs) e ∙ length-set t.node.dbs db _

-- the next request number stays below 2^62, or the step is spent
pub again_next : (c : Config) (rules : Rules) (me db : ℕ) (key : List ℕ) (t u : Turn) → u ≡ at_record c me db key (want_again rules) t → t.node.next < 2 ^ 62 → u.spent ≡ false → u.node.next < 2 ^ 62
unfolding at_record acted put_back view
again_next c rules me db key t u e l s =
    let o = want_again rules (place_of c me db key t.node) (view db key t.node) in
    let low : o.next < 2 ^ 62 = again_low rules (place_of c me db key t.node) (view db key t.node) l (second_false t.spent o.spent (sym (ap (λ (v : Turn). v.spent) e) ∙ s)) in
    subst (λ (n : ℕ). n < 2 ^ 62) (sym (ap (λ (v : Turn). v.node.next) e)) low

-- a step that is spent stays so
pub stays_spent : (c : Config) (rules : Rules) (me : ℕ) (xs : List Called) (t : Turn) → t.spent ≡ true → (want_all c rules me xs t).spent ≡ true
unfolding want_all at_record acted
stays_spent c rules me [] t s = s
stays_spent c rules me (x ∷ xs) t s = stays_spent c rules me xs (at_record c me x.db x.key (want_again rules) t) (ap (λ (b : Bool). b || (want_again rules (place_of c me x.db x.key t.node) (view x.db x.key t.node)).spent) s)

-- ---- the Thaw itself

-- one that is not followed
dropped : (c : Config) (rules : Rules) (me g : ℕ) (t : Turn) (x : Phase) → (is_installed x && nat_eq t.node.generation g) ≡ false → on_thaw c rules me g t x ≡ t
unfolding on_thaw
dropped c rules me g t Idle d = refl
dropped c rules me g t Serving d = refl
dropped c rules me g t (Freezing h leader) d = refl
dropped c rules me g t (Frozen h) d = refl
dropped c rules me g t Installed d = ap (λ (b : Bool). cond b (thaws c rules me g t) t) d

pub thaw_dropped : (c : Config) (rules : Rules) (me g : ℕ) (n : Node) (p : Planned) → IsPlanned p (begins n) n → (is_installed n.phase && nat_eq n.generation g) ≡ false → IsPlanned p (on_thaw c rules me g (begins n) n.phase) n
thaw_dropped c rules me g n p h e = subst (λ (t : Turn). IsPlanned p t n) (sym (dropped c rules me g (begins n) n.phase e)) h

-- one that is followed
followed : (c : Config) (rules : Rules) (me g : ℕ) (t : Turn) (x : Phase) → (is_installed x && nat_eq t.node.generation g) ≡ true → on_thaw c rules me g t x ≡ thaws c rules me g t
unfolding on_thaw
followed c rules me g t Idle d = absurd (cc)
followed c rules me g t Serving d = absurd (cc)
followed c rules me g t (Freezing h leader) d = absurd (cc)
followed c rules me g t (Frozen h) d = absurd (cc)
followed c rules me g t Installed d = ap (λ (b : Bool). cond b (thaws c rules me g t) t) d

pub thaw_followed : (c : Config) (rules : Rules) (me g : ℕ) (n : Node) (r : Result Planned CoreFault) → (is_installed n.phase && nat_eq n.generation g) ≡ true → Plans r (thaws c rules me g (begins n)) n → Plans r (on_thaw c rules me g (begins n) n.phase) n
thaw_followed c rules me g n r e h = subst (λ (t : Turn). Plans r t n) (sym (followed c rules me g (begins n) n.phase e)) h

-- what a node that serves again has of before
pub served_node : (g : ℕ) (n : Node) (t : Turn) → t ≡ notes (note.Thawed g) (with_phase Serving (begins n)) → (length t.node.dbs ≡ length n.dbs) × (t.node.next ≡ n.next)
unfolding notes does with_phase
served_node g n t e = (ap (λ (u : Turn). length u.node.dbs) e, ap (λ (u : Turn). u.node.next) e)

pub planned_thaw : (c : Config) (rules : Rules) (me g : ℕ) (n : Node) (t u : Turn) (p : Planned) → (is_installed n.phase && nat_eq n.generation g) ≡ true → t ≡ notes (note.Thawed g) (with_phase Serving (begins n)) →
    u ≡ want_all c rules me (pending_calls n) t → IsPlanned p u n → IsPlanned p (on_thaw c rules me g (begins n) n.phase) n
unfolding thaws
planned_thaw c rules me g n t u p s e f i =
    subst (λ (v : Turn). IsPlanned p v n) (f ∙ ap (want_all c rules me (pending_calls n)) e ∙ sym (followed c rules me g (begins n) n.phase s)) i

-- the calls that wait are of databases that are there
pub all_there : (n : Node) (calls : List Called) (count : ℕ) → calls ≡ pending_calls n → count ≡ length n.dbs → AllByRecursion (λ (x : Called). x.db < count) calls
all_there n calls count e l =
    subst (λ (k : ℕ). AllByRecursion (λ (x : Called). x.db < k) calls) (sym l) (subst (λ (xs : List Called). AllByRecursion (λ (x : Called). x.db < length n.dbs) xs) (sym e) (pending_there n))
