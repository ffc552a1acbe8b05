-- Where a lock ends as its node freezes under a commit, or as its owner stops, the record is lost; and in one step no lock goes from one
-- node to another.
use Rattle.std.proofs.Common.{◌≡◌, ◌≢◌, ℕ, zero, suc, ◌+◌, ◌≤◌, Bool, true, false, cond, List, [], ◌∷◌, Option, None, Some, refl, sym, ap, ◌∙◌, subst, arith, inl, inr, ⊎_elim}
use Rattle.std.specs.Prelude.{◌⊎◌, nat_lt, is_some, slice_get, ◌&&◌, ◌||◌}
use Rattle.std.proofs.lemmas.Bool.{and_from, cases_eq, cases_Bool}
use Rattle.ct_values.specs.declared.config.Config.{Config}
use Rattle.ct_frame.specs.declared.header.RecCopy.{RecCopy}
use Rattle.ct_call.specs.Rules.{Rules}
use Rattle.ct_rules.specs.State.{is_mastered}
use Rattle.ct_rules.specs.declared.state.RecState.{RecState}
use Rattle.ct_rules_node.specs.Node.{Node, Phase, Idle, Serving, Installed, Freezing, Frozen, Database, Committing, untouched, or_untouched, is_present, state_at, db_at, name_of, restarted}
use Rattle.ct_rules_node.specs.Clients.{is_locked}
use Rattle.ct_rules_node.specs.Rounds.{frozen_state}
use Rattle.ct_rules_cluster.specs.Cluster.{Cluster, absent, node_at}
use Rattle.ct_register.specs.Lines.{Lines}
use Rattle.ct_law_record.proofs.Law as record_law
use Rattle.ct_law_generation.specs.Shown.{is_it}
use Rattle.ct_law_generation.proofs.Weave.{it_is_itself}
use Rattle.ct_law_run.proofs.Ages.{Ages}
use Rattle.ct_law_run.proofs.Lives.{Lives, PhaseSays}
use Rattle.ct_law_run.proofs.Later.{Rest, Keeps}
use Rattle.ct_law_run.proofs.Lined.{at_line, beyond}
use Rattle.ct_law_run.proofs.Ends.{is_ended, unlock}
use Rattle.ct_law_run.proofs.Froze.{Froze}
use Rattle.ct_law_databases.proofs.Locks.{world_of, born_line, lock_owned, owned_locked, owner_in}
use Rattle.ct_law_databases.proofs.Later.{GoesLater}
use Rattle.ct_law_databases.proofs.JoinTurns.{Froze_under, Step_does}
use Rattle.ct_law_databases.proofs.Lost.{IsLost, Lost, locked_mine, lost_unowned}

-- ---- what a Freeze leaves

either_copy : (b : Bool) (s : RecState) → (cond b (unlock (frozen_state s)) (frozen_state s)).copy ≡ s.copy
unfolding frozen_state
either_copy true s = refl
either_copy false s = refl

pub first_or : (a b : Bool) → a ≡ true → (a || b) ≡ true
first_or a b e = ap (λ (t : Bool). t || b) e

pub second_or : (a b : Bool) → b ≡ true → (a || b) ≡ true
second_or true b e = refl
second_or false b e = e

-- the lock of a commit that waits is one that ends
ended_here : (c : Config) (i : ℕ) (ds : List Database) (k : ℕ) (z : Committing) → (or_untouched (slice_get ds k)).commit ≡ Some z → is_ended c i ds 0 (name_of c (i + k)) ≡ true
unfolding or_untouched untouched
ended_here c i [] k z e = absurd (cc)
ended_here c i (d ∷ ds) zero z e = first_or _ _ (and_from (is_some d.commit) (is_it 0 (name_of c (i + 0)) 0 (name_of c i)) (ap is_some e)
    (subst (λ (j : ℕ). is_it 0 (name_of c j) 0 (name_of c i) ≡ true) (let l : i ≡ i + 0 = omega arith in l) (it_is_itself 0 (name_of c i))))
ended_here c i (d ∷ ds) (suc k) z e = second_or _ _ (subst (λ (j : ℕ). is_ended c (i + 1) ds 0 (name_of c j) ≡ true) (let l : (i + 1) + k ≡ i + suc k = omega arith in l) (ended_here c (i + 1) ds k z e))

hit_free : (b : Bool) (s : RecState) → b ≡ true → is_some (cond b (unlock (frozen_state s)) (frozen_state s)).locked ≡ false
unfolding frozen_state
hit_free true s e = refl
hit_free false s e = absurd (cc)

-- it is not present
froze_absent : (c : Config) (g h : ℕ) (x y : Node) → Froze c g h x y → is_present y.phase ≡ false
unfolding is_present
froze_absent c g h x y f = ⊎_elim
    (λ (e : y.phase ≡ Freezing g h). ap is_present e)
    (λ (p : (y.phase ≡ Frozen g) × ((db : ℕ) (key : List ℕ) → (state_at db key y).locked ≡ None)). ap is_present p.0) f.phase

restarted_absent : (c : Config) (x : Node) → is_present (restarted c x).phase ≡ false
unfolding restarted is_present
restarted_absent c x = refl

restarted_none : (c : Config) (x : Node) → (restarted c x).generation ≡ 0
unfolding restarted
restarted_none c x = refl

-- no commit waits at a node that is not there
none_waits : (db : ℕ) (z : Committing) → (db_at db absent).commit ≡ Some z → ⊥
unfolding absent db_at or_untouched untouched
none_waits db z e = absurd (cc)

no_lock : (o : Option ℕ) → (is_some o ≡ true → ⊥) → o ≡ None
no_lock None f = refl
no_lock (Some m) f = absurd (f refl)

module _ (c : Config) (rules : Rules) (w v : Cluster) (r s : Lines) (h : Lives c rules w r) (k : Lives c rules v s) (later : GoesLater r s) (rest : (n : ℕ) → Rest r h.ages s k.ages n (node_at n v).phase) where
  -- a node of the configuration that has locked a record
  locked_there : (n db : ℕ) (key : List ℕ) → is_locked db key (node_at n w) ≡ true → nat_lt n c.nodes ≡ true
  locked_there n db key locked = (owner_in c rules w r h (r.line n) db n key (lock_owned c rules w r h n db key locked).1).2

  -- who had locked the record, is not present any more, and does not own it, has it for ever
  lost_by : (n : ℕ) (key : List ℕ) → is_locked 0 key (node_at n w) ≡ true → is_present (node_at n v).phase ≡ false → is_mastered n ((k.ages.worlds (r.line n) 0 key).nodes n).state.copy ≡ true → (s.records (r.line n) 0 key).owner ≢ Some n →
      Lost c v s k.ages (r.line n) key
  lost_by n key locked absent mine unowned =
      let o = lock_owned c rules w r h n 0 key locked in
      let born = later.born (r.line n) (born_line c rules w r h n o.0) in
      let stays : r.line n ≡ r.pline n = h.formed.order.stays n o.0 in (
        n,
        record {
          there = locked_there n 0 key locked;
          born = born;
          past = (let u = later.rises n in omega arith);
          away = λ e. absurd (cc);
          mine = mine;
          free = no_lock ((k.ages.worlds (r.line n) 0 key).nodes n).state.locked (λ e. unowned (((record_law.stands _ _ _ _ (world_of c rules v s k (r.line n) 0 key born)).locks n).0 e));
        },
      )

  -- ---- a Freeze under a commit

  module _ (m : ℕ) (key : List ℕ) (f : Froze_under c (node_at m w) (node_at m v) key) where
    there : nat_lt m c.nodes ≡ true
    there = ⊎_elim
        (λ (e : nat_lt m c.nodes ≡ true). e)
        (λ (e : nat_lt m c.nodes ≡ false). absurd (none_waits f.db f.commit (subst (λ (x : Node). (db_at f.db x).commit ≡ Some f.commit) (beyond c rules w r h m e) f.waits)))
        (cases_Bool (nat_lt m c.nodes))

    locked : is_locked 0 key (node_at m w) ≡ true
    unfolding is_locked
    locked = subst (λ (q : List ℕ). is_some (state_at 0 q (node_at m w)).locked ≡ true) (sym f.named) ((h.nodes m there).commits f.db f.commit f.waits)

    owned : (r.line m ≢ 0) × ((r.records (r.line m) 0 key).owner ≡ Some m)
    owned = lock_owned c rules w r h m 0 key locked

    line_same : s.line m ≡ r.line m
    line_same = sym (k.nodes m there).line ∙ f.froze.generation ∙ (h.nodes m there).line

    -- its copy is as it was
    copy_real : (state_at 0 key (node_at m v)).copy ≡ (state_at 0 key (node_at m w)).copy
    copy_real = ap (λ (x : RecState). x.copy) (f.froze.state 0 key) ∙ either_copy (is_ended c 0 (node_at m w).dbs 0 key) (state_at 0 key (node_at m w))

    mine : is_mastered m ((k.ages.worlds (r.line m) 0 key).nodes m).state.copy ≡ true
    mine = subst (λ (l : ℕ). is_mastered m ((k.ages.worlds l 0 key).nodes m).state.copy ≡ true) line_same
        (subst (λ (o : Option RecCopy). is_mastered m o ≡ true) ((at_line c rules v s k m 0 key).some (λ z. owned.0 (sym line_same ∙ z))).0
        (subst (λ (o : Option RecCopy). is_mastered m o ≡ true) (sym copy_real) (locked_mine c rules w r h m 0 key there locked)))

    -- and it has not locked the record any more
    free : is_locked 0 key (node_at m v) ≡ false
    unfolding is_locked db_at
    free = ap (λ (x : RecState). is_some x.locked) (f.froze.state 0 key) ∙ hit_free (is_ended c 0 (node_at m w).dbs 0 key) (state_at 0 key (node_at m w))
        (subst (λ (q : List ℕ). is_ended c 0 (node_at m w).dbs 0 q ≡ true) (sym f.named)
        (subst (λ (j : ℕ). is_ended c 0 (node_at m w).dbs 0 (name_of c j) ≡ true) (let l : 0 + f.db ≡ f.db = omega arith in l) (ended_here c 0 (node_at m w).dbs f.db f.commit f.waits)))

    -- so that is lost
    pub froze_lost : Lost c v s k.ages (r.line m) key
    froze_lost = lost_by m key locked (froze_absent c f.g f.h (node_at m w) (node_at m v) f.froze) mine
        (λ o. absurd (let e = owned_locked c rules v s k m 0 key (λ z. owned.0 (sym line_same ∙ z)) (subst (λ (l : ℕ). (s.records l 0 key).owner ≡ Some m) (sym line_same) o) in let g = free in cc))

  -- ---- a stop

  pub stop_lost : (m : ℕ) (key : List ℕ) → node_at m v ≡ restarted c (node_at m w) → (r.records (r.line m) 0 key).owner ≡ Some m → Lost c v s k.ages (r.line m) key
  stop_lost m key stopped own =
      let o = owner_in c rules w r h (r.line m) 0 m key own in
      let locked : is_locked 0 key (node_at m w) ≡ true = owned_locked c rules w r h m 0 key o.1 own in
      let out : s.line m ≡ 0 = sym (k.nodes m o.2).line ∙ ap (λ (x : Node). x.generation) stopped ∙ restarted_none c (node_at m w) in
      let apart : s.line m ≢ r.line m = λ e. o.1 (sym e ∙ out) in
      let kept = rest m (r.line m) 0 key (born_line c rules w r h m o.1) (inr (inl apart)) in
      lost_by m key locked (ap (λ (x : Node). is_present x.phase) stopped ∙ restarted_absent c (node_at m w))
      (subst (λ (y : Option RecCopy). is_mastered m y ≡ true) (sym kept.copy) (subst (λ (y : Option RecCopy). is_mastered m y ≡ true) ((at_line c rules w r h m 0 key).some o.1).0 (locked_mine c rules w r h m 0 key o.2 locked)))
      (λ e. apart (owner_in c rules v s k (r.line m) 0 m key e).0)

-- ---- no lock goes from one node to another

-- a lock of a node that did nothing is still its own
same_owner : (c : Config) (rules : Rules) (w v : Cluster) (r s : Lines) (h : Lives c rules w r) (k : Lives c rules v s) (n g : ℕ) (key : List ℕ) → node_at n v ≡ node_at n w → (r.records g 0 key).owner ≡ Some n → (s.records g 0 key).owner ≡ Some n
same_owner c rules w v r s h k n g key same own =
    let o = owner_in c rules w r h g 0 n key own in
    let locked = owned_locked c rules w r h n 0 key o.1 (subst (λ (l : ℕ). (r.records l 0 key).owner ≡ Some n) (sym o.0) own) in
    let after = lock_owned c rules v s k n 0 key (subst (λ (x : Node). is_locked 0 key x ≡ true) (sym same) locked) in
    let line : s.line n ≡ g = sym (k.nodes n o.2).line ∙ ap (λ (x : Node). x.generation) same ∙ (h.nodes n o.2).line ∙ o.0 in
    subst (λ (l : ℕ). (s.records l 0 key).owner ≡ Some n) line after.1

some_same : (n m : ℕ) (o : Option ℕ) → o ≡ Some n → o ≡ Some m → m ≡ n
some_same n m o a b = (let e : Some n ≡ Some m = sym a ∙ b in let k : n ≡ m = cc in sym k)

pub owner_once : (c : Config) (rules : Rules) (w v : Cluster) (r s : Lines) (h : Lives c rules w r) (k : Lives c rules v s) (actor : ℕ) → ((j : ℕ) → j ≢ actor → node_at j v ≡ node_at j w) →
    (g n m : ℕ) (key : List ℕ) → (r.records g 0 key).owner ≡ Some n → (s.records g 0 key).owner ≡ Some m → m ≡ n
owner_once c rules w v r s h k actor others g n m key before after = ⊎_elim
    (λ (is : n ≡ actor). ⊎_elim
    (λ (same : m ≡ n). same)
    (λ (ne : m ≢ n). some_same n m (r.records g 0 key).owner before (same_owner c rules v w s r k h m g key (sym (others m (λ e. ne (e ∙ sym is)))) after))
    (cases_eq m n))
    (λ (ne : n ≢ actor). some_same n m (s.records g 0 key).owner (same_owner c rules w v r s h k n g key (others n ne) before) after)
    (cases_eq n actor)
