-- Whatever a node does, the request of each call that waits there was drawn: so a birth may begin with them all.
use Rattle.std.proofs.Common.{◌≡◌, ◌≢◌, ℕ, ◌<◌, true, false, List, Some, None, ⊎_elim, refl, sym, ap, ◌∙◌, arith}
use Rattle.std.specs.Prelude.{nat_lt}
use Rattle.std.proofs.lemmas.Bool.{cases_eq, cases_Bool}
use Rattle.ct_values.specs.declared.config.Config.{Config}
use Rattle.ct_call.specs.Rules.{Rules}
use Rattle.ct_rules.specs.declared.state.RecState.{RecState}
use Rattle.ct_rules.specs.declared.state.Wish.{Wish}
use Rattle.ct_rules_node.specs.Node.{Node, Phase, Idle, Serving, Installed, Freezing, Frozen, db_at, state_at, or_nothing, or_untouched, untouched}
use Rattle.ct_rules_node.specs.Rounds.{frozen_state}
use Rattle.ct_rules_cluster.specs.Cluster.{Cluster, absent, node_at}
use Rattle.ct_register.specs.Register.{Register}
use Rattle.ct_register.specs.Lines.{Lines}
use Rattle.ct_law_record.specs.World.{Scene, World, View, AreDrawn}
use Rattle.ct_law_record.proofs.Invariant.{Ghost}
use Rattle.ct_law_record.proofs.SeenNode.{wish_of}
use Rattle.ct_law_record.proofs.Worlds.{WorldInv}
use Rattle.ct_law_generation.specs.Shown.{view}
use Rattle.ct_law_generation.proofs.Pending.{Callers}
use Rattle.ct_law_run.proofs.Ages.{Ages, Rests}
use Rattle.ct_law_run.proofs.Lives.{Lives, PhaseSays}
use Rattle.ct_law_run.proofs.Lined.{beyond}
use Rattle.ct_law_run.proofs.Apart.{state_none, empty_out}

-- the request of a call that waits in a world was drawn there
world_drawn : (s : Scene) (w : World) (r : Register) (g : Ghost) (n : ℕ) (x : Wish) → WorldInv s w r g → (w.nodes n).state.wish ≡ Some x → x.request < (w.nodes n).next
unfolding wish_of
world_drawn s w r g n x h e = (h.nodes n).wish (record { request = x.request; op = record { real = x.op; readonly = s.readonly } }) (ap (wish_of s.readonly) e)

-- who is in a line has the wish that its world has, and draws from the same number
record Wished_as (v : View) (db : ℕ) (key : List ℕ) (x : Node) : Type 0 where
  wish : (state_at db key x).wish ≡ v.state.wish
  next : x.next ≡ v.next

rested : (db : ℕ) (key : List ℕ) (v : View) (x : Node) → Rests db key v x → Wished_as v db key x
unfolding frozen_state
rested db key v x h = record { wish = ap (λ (y : RecState). y.wish) h.state; next = h.next }

viewed : (db : ℕ) (key : List ℕ) (v : View) (x : Node) → v ≡ view db key x → Wished_as v db key x
viewed db key v x e = record { wish = ap (λ (y : View). y.state.wish) (sym e); next = ap (λ (y : View). y.next) (sym e) }

wished_in : (c : Config) (rules : Rules) (who : Callers) (w : Cluster) (r : Lines) (a : Ages) (n db : ℕ) (key : List ℕ) (x : Node) (p : Phase) → PhaseSays c rules who w r a n x p → r.line n ≢ 0 → Wished_as ((a.worlds (r.line n) db key).nodes n) db key x
unfolding PhaseSays
wished_in c rules who w r a n db key x Idle h ne = absurd (ne h.0)
wished_in c rules who w r a n db key x (Freezing g l) h ne = rested db key _ x (h.5 ne db key)
wished_in c rules who w r a n db key x (Frozen g) h ne = rested db key _ x (h.4 ne db key)
wished_in c rules who w r a n db key x Serving h ne = viewed db key _ x (h.2 db key)
wished_in c rules who w r a n db key x Installed h ne = viewed db key _ x (h.2 db key)

absent_next : absent.next ≡ 1
unfolding absent
absent_next = refl

absent_wish : (db : ℕ) (key : List ℕ) → (state_at db key absent).wish ≡ None
unfolding absent state_at db_at or_untouched or_nothing untouched
absent_wish db key = refl

module _ (c : Config) (rules : Rules) (w : Cluster) (r : Lines) (h : Lives c rules w r) where
  asked_here : (n db : ℕ) (key : List ℕ) (x : Wish) → nat_lt n c.nodes ≡ true → (state_at db key (node_at n w)).wish ≡ Some x → x.request < (node_at n w).next
  asked_here n db key x there e =
      let own = h.nodes n there in
      ⊎_elim
      (λ (out : r.line n ≡ 0). absurd (let none : (state_at db key (node_at n w)).wish ≡ None = ap (λ (s : RecState). s.wish) (state_none db key (node_at n w) (empty_out c rules h.who w r h.ages n (node_at n w) (node_at n w).phase own.phase out db)) in
      let f : None ≡ Some x = sym none ∙ e in cc))
      (λ (ne : r.line n ≢ 0).
      let k = wished_in c rules h.who w r h.ages n db key (node_at n w) (node_at n w).phase own.phase ne in
      let l = world_drawn _ (h.ages.worlds (r.line n) db key) _ _ n x ((h.lines.line (r.line n) (own.named ne).0).world db key) (sym k.wish ∙ e) in
      let m = k.next in omega arith)
      (cases_eq (r.line n) 0)

  pub all_drawn : (db : ℕ) (key : List ℕ) → AreDrawn (λ n. (node_at n w).next) (λ n. (state_at db key (node_at n w)).wish)
  all_drawn db key = record {
    some = λ n. ⊎_elim
        (λ (there : nat_lt n c.nodes ≡ true). ((h.nodes n there).formed db key).form.counters.from_one)
        (λ (out : nat_lt n c.nodes ≡ false). (let e = ap (λ (x : Node). x.next) (beyond c rules w r h n out) in let f = absent_next in omega arith))
        (cases_Bool (nat_lt n c.nodes));
    above = λ n x e. ⊎_elim
        (λ (there : nat_lt n c.nodes ≡ true). asked_here n db key x there e)
        (λ (out : nat_lt n c.nodes ≡ false). absurd (let f : None ≡ Some x = sym (ap (λ (y : Node). (state_at db key y).wish) (beyond c rules w r h n out) ∙ absent_wish db key) ∙ e in cc))
        (cases_Bool (nat_lt n c.nodes));
  }
