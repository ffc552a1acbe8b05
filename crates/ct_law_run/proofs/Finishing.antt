-- A store, an unlock and a read at a node that freezes, each as a whole turn.
use Rattle.std.proofs.Common.{◌≡◌, ◌≢◌, ℕ, ◌+◌, ◌<◌, Bool, true, false, cond, ◌||◌, List, [], ◌∷◌, ◌++◌, length, Option, None, Some, inl, inr, ⊎_elim, refl, sym, ap, ◌∙◌, subst, arith}
use Rattle.std.proofs.lemmas.Bool.{cases_eq, eq-eqb, or_right}
use Rattle.ct_values.specs.Client.{db_of}
use Rattle.ct_values.specs.declared.client.ClientOp.TheVariants as op
use Rattle.ct_values.specs.declared.config.Config.{Config}
use Rattle.ct_frame.specs.declared.event.Event.TheVariants as event
use Rattle.ct_frame.specs.declared.event.Out.{Out}
use Rattle.ct_frame.specs.declared.event.Out.TheVariants as out
use Rattle.ct_frame.specs.declared.frame.Msg.TheVariants as msg
use Rattle.ct_call.specs.Rules.{Rules}
use Rattle.ct_rules.specs.declared.state.RecState.{RecState}
use Rattle.ct_rules_node.specs.Node.{Node, Phase, Freezing, Frozen, Database, is_among, is_persistent, has_records, kind_at, db_at, state_at}
use Rattle.ct_law_rules_node.specs.NodeLaws.{NodeAscends}
use Rattle.ct_rules_node.specs.Rounds.{frozen_state}
use Rattle.ct_rules_node.specs.Turn.{Turn, begins}
use Rattle.ct_rules_node.specs.Steps.{happens}
use Rattle.ct_rules_cluster.specs.Cluster.{Cluster, node_at, pending}
use Rattle.ct_register.specs.Lines.{Lines}
use Rattle.ct_register.specs.Legal.{AcceptsLabels}
use Rattle.ct_promise.specs.Promises.{IsConfig}
use Rattle.ct_promise.specs.Generation.{record_labels}
use Rattle.ct_law_generation.specs.Shown.{scene, view}
use Rattle.ct_law_generation.proofs.Forming.{Is_formed}
use Rattle.ct_law_run.proofs.Ages.{Ages, era_of, Rests}
use Rattle.ct_law_run.proofs.Lives.{Lives, NodeLives, PhaseSays}
use Rattle.ct_law_run.proofs.Faces.{Turned}
use Rattle.ct_law_run.proofs.Froze.{ack}
use Rattle.ct_law_run.proofs.Stood.{frozen_formed}
use Rattle.ct_law_run.proofs.Ends.{same_set}
use Rattle.std.specs.Prelude.{◌⊎◌, nat_eq, nat_lt, is_some}
use Rattle.ct_frame.specs.declared.header.RecCopy.{RecCopy}
use Rattle.ct_promise.specs.Generation.{speaks_of_records}
use Rattle.ct_rules_node.specs.Turn.{does, posts}
use Rattle.std.specs.Prelude.{not}
use Rattle.ct_values.specs.declared.client.Answer.{Answer}
use Rattle.ct_values.specs.declared.client.Answer.TheVariants as answer
use Rattle.ct_values.specs.declared.client.ClientOp.{ClientOp}
use Rattle.ct_register.specs.Legal.{AtRecord, AcceptsAnswer}
use Rattle.ct_register.specs.Legal as legal
use Rattle.ct_rules_cluster.specs.Labels.{Answered}
use Rattle.ct_law_generation.proofs.Calling.{own_pending}
use Rattle.ct_store.specs.Map.{look}
use Rattle.ct_rules_node.specs.Node.{or_nothing}
use Rattle.ct_rules.specs.State.{rsn_of}
use Rattle.std.specs.Prelude.{is_none}
use Rattle.std.proofs.lemmas.List.{length-set}
use Rattle.ct_values.specs.declared.config.DbKind.{DbKind}
use Rattle.ct_values.specs.declared.config.DbKind.TheVariants.{Volatile, ReadOnly, Persistent}
use Rattle.ct_rules.specs.State.{value_of, with_value, is_mastered}
use Rattle.ct_rules.specs.Parts.{Moving, performs, reply, keeps, want}
use Rattle.ct_rules.specs.Moves.{store, release}
use Rattle.ct_rules.specs.declared.event.Act.TheVariants as act
use Rattle.ct_rules.specs.declared.event.MoveEvent.TheVariants as move_event
use Rattle.ct_rules_node.specs.Clients.{refusal, client, serves, unlocks, frozen_if_unlocked, any_locked, is_locked}
use Rattle.ct_rules_node.specs.Records as recs
use Rattle.ct_rules_node.specs.Records.{out_of, put_back, acted, at_record}
use Rattle.ct_rules_node.specs.Node.{with_db}
use Rattle.ct_law_rules_node.specs.NodeLaws.{unless_blank, left_by}
use Rattle.ct_rules_node.specs.Turn.{makes, with_phase}
use Rattle.ct_law_rules_node.proofs.AtRecord.{moves_at}
use Rattle.ct_law_rules_node.proofs.Rounds.{sees_locks}
use Rattle.ct_law_record.specs.World.{Stores, Releases, Wants}
use Rattle.ct_law_generation.proofs.Amid.{other_state}
use Rattle.ct_law_generation.proofs.Forming.{formed_moves, formed_blank}
use Rattle.ct_law_generation.proofs.Delivering.{has_place}
use Rattle.ct_law_generation.proofs.Configured.{all_small}
use Rattle.ct_law_generation.proofs.Served.{client_serves, serves_store, serves_read}
use Rattle.ct_law_run.proofs.Resting.{frozen_twice, locked_read}
use Rattle.ct_law_run.proofs.Holding.{stores_so, releases_so, reads_so}
use Rattle.ct_law_run.proofs.Held.{Held_node, Held_turn, held_turned}

-- ---- the node

-- the step at the record that answers the call and leaves this state
abbrev left : Node → ℕ → RecState → ℕ → Answer → Moving
left x db st call a = record { state = st; next = x.next; floor = (db_at db x).floor; acts = act.Answer call a ∷ []; spent = false }

abbrev so_left : ℕ → ℕ → List ℕ → RecState → Answer → Node → ℕ → Turn
so_left n db key st a x call = acted n db key (left x db st call a) (makes call (begins x))

held_at : (c : Config) (n : ℕ) (x : Node) (db : ℕ) (key : List ℕ) (st : RecState) (g l call : ℕ) (a : Answer) → NodeAscends x → db < length x.dbs → or_nothing (unless_blank st) ≡ st → x.phase ≡ Freezing g l → Held_node x (so_left n db key st a x call).node db key st g l
unfolding acted put_back with_db db_at at_record makes
held_at c n x db key st g l call a order there blank freezing =
    let m = moves_at c n db key (λ _ _. left x db st call a) (makes call (begins x)) order in
    record {
      size = length-set x.dbs db _;
      order = m.order;
      generation = refl;
      members = refl;
      pbase = refl;
      next = refl;
      promise = refl;
      lead = refl;
      phase = inl freezing;
      own = m.seen there ∙ blank;
      other = λ d k f. other_state c n db d key k (λ _ _. left x db st call a) (makes call (begins x)) order f;
      floor = λ d. same_set (λ (z : Database). z.floor) x.dbs db d _ refl;
      commit = λ d. same_set (λ (z : Database). z.commit) x.dbs db d _ refl;
    }

left_outs : (n db : ℕ) (key : List ℕ) (st : RecState) (a : Answer) (x : Node) (call : ℕ) → (so_left n db key st a x call).outs ≡ out.Answer call a ∷ []
unfolding acted makes out_of
left_outs n db key st a x call = refl

-- ---- small words

plain_kind : (k : Option DbKind) → has_records k ≡ true → is_persistent k ≡ false
unfolding has_records is_persistent
plain_kind None e = absurd (cc)
plain_kind (Some Volatile) e = refl
plain_kind (Some ReadOnly) e = refl
plain_kind (Some Persistent) e = absurd (cc)

spoken : (c : Config) (n : ℕ) (asked : ClientOp) (a : Answer) → has_records (kind_at c (db_of asked)) ≡ true → record_labels c (Answered n asked a ∷ []) ≡ Answered n asked a ∷ []
unfolding speaks_of_records
spoken c n asked a kind = ap (λ (b : Bool). cond (not b) (Answered n asked a ∷ []) []) (plain_kind (kind_at c (db_of asked)) kind)

same_rsn : (v : List ℕ) (o : Option RecCopy) → rsn_of (with_value v o) ≡ rsn_of o
unfolding with_value rsn_of
same_rsn v None = refl
same_rsn v (Some k) = refl

-- ---- what is known of the record

module _ (c : Config) (rules : Rules) (w : Cluster) (r : Lines) (h : Lives c rules w r) (n g l db : ℕ) (key : List ℕ) (config : IsConfig c) (there : nat_lt n c.nodes ≡ true) (freezing : (node_at n w).phase ≡ Freezing g l)
    (kind : has_records (kind_at c db) ≡ true) (locked : is_some (state_at db key (node_at n w)).locked ≡ true) where
  abbrev x : Node
  x = node_at n w

  abbrev a : Ages
  a = h.ages

  own : NodeLives c rules h.who w r a n x
  own = h.nodes n there

  says : PhaseSays c rules h.who w r a n x (Freezing g l)
  says = subst (λ (p : Phase). PhaseSays c rules h.who w r a n x p) freezing own.phase

  lined : r.line n ≢ 0
  unfolding PhaseSays state_at or_nothing
  lined z = absurd (let none : (db_at db x).records ≡ [] = says.4 z db in let f : is_some (or_nothing (look key [])).locked ≡ true = sym (ap (λ m. is_some (or_nothing (look key m)).locked) none) ∙ locked in cc)

  rested : Rests db key ((a.worlds (r.line n) db key).nodes n) x
  unfolding PhaseSays
  rested = says.5 lined db key

  abbrev there_state : RecState
  there_state = ((a.worlds (r.line n) db key).nodes n).state

  world_locked : is_some there_state.locked ≡ true
  unfolding frozen_state
  world_locked = sym (ap (λ (s : RecState). is_some s.locked) rested.state) ∙ locked

  has_db : db < length x.dbs
  has_db = (let p = has_place c db kind in let s = own.size in omega arith)

  joined : (a.worlds (r.line n) db key).joined n ≡ true
  joined = (h.lines.line (r.line n) (own.named lined).0).joined db key n ∙ ⊎_elim
      (λ (i : r.line n ≡ 1). ap (λ (b : Bool). b || r.installed (r.line n) n) (eq-eqb (r.line n) 1 i))
      (λ (no : r.line n ≢ 1). or_right (nat_eq (r.line n) 1) (r.installed (r.line n) n) (own.done (let z = lined in omega arith)))
      (cases_eq (r.line n) 1)

  member : is_among n (r.members (r.line n)) ≡ true
  member = (own.named lined).2

  -- ---- a store

  abbrev stored : List ℕ → RecState → RecState
  stored v s = record s { copy = with_value v s.copy }

  stored_formed : (v : List ℕ) → Is_formed (scene c (era_of r a (r.line n)) rules db key) n (record (view db key x) { state = stored v (state_at db key x) })
  unfolding store reply keeps performs
  stored_formed v = formed_moves (scene c (era_of r a (r.line n)) rules db key) n (view db key x) (move_event.Store 0 v) (all_small c config db (has_place c db kind)) (own.formed db key) locked refl refl

  pub store_held : (v : List ℕ) → Held_turn c rules w r a n g l db key (Stores n w.calls v) (stored v there_state) (stored v (state_at db key x)) (op.Store db key v) answer.Stored (so_left n db key (stored v (state_at db key x)) answer.Stored x w.calls)
  unfolding frozen_state
  store_held v = record {
    freezing = freezing;
    locked = locked;
    node = held_at c n x db key (stored v (state_at db key x)) g l w.calls answer.Stored own.known.order has_db (formed_blank (scene c (era_of r a (r.line n)) rules db key) n (record (view db key x) { state = stored v (state_at db key x) }) (stored_formed v)) freezing;
    rests = ap (stored v) rested.state;
    wish = refl;
    formed = stored_formed v;
    so = stores_so (scene c (era_of r a (r.line n)) rules db key) (a.worlds (r.line n) db key) n w.calls v member joined world_locked;
    rsn = same_rsn v there_state.copy;
    more = [];
    outs = left_outs n db key (stored v (state_at db key x)) answer.Stored x w.calls;
    acks = inl refl;
    kind = kind;
    speaks = spoken c n (op.Store db key v) answer.Stored kind;
    sort = λ s k. k;
  }

  store_is : (v : List ℕ) → refusal c rules x (op.Store db key v) ≡ None → client c rules n w.calls (op.Store db key v) (begins x) ≡ so_left n db key (stored v (state_at db key x)) answer.Stored x w.calls
  unfolding at_record acted makes store reply keeps performs recs.view
  store_is v free = client_serves c rules n w.calls (op.Store db key v) x free ∙ serves_store c rules n w.calls db key v (makes w.calls (begins x))

  pub store_turned : (v : List ℕ) → refusal c rules x (op.Store db key v) ≡ None →
      Turned c rules h.who w r h.ages n (own_pending n w.calls (op.Store db key v) ∷ pending w) (happens c rules n (begins x) (event.Client w.calls (op.Store db key v)))
  unfolding happens
  store_turned v free = subst (λ (u : Turn). Turned c rules h.who w r h.ages n (own_pending n w.calls (op.Store db key v) ∷ pending w) u) (sym (store_is v free))
      (held_turned c rules w r h n g l db key (Stores n w.calls v) (stored v there_state) (stored v (state_at db key x)) (op.Store db key v) answer.Stored (so_left n db key (stored v (state_at db key x)) answer.Stored x w.calls) there (store_held v))

  -- ---- an unlock

  abbrev freed : RecState
  freed = record (state_at db key x) { locked = None }

  still_frozen : frozen_state (state_at db key x) ≡ state_at db key x
  still_frozen = ap frozen_state rested.state ∙ frozen_twice there_state ∙ sym rested.state

  freed_formed : Is_formed (scene c (era_of r a (r.line n)) rules db key) n (record (view db key x) { state = freed })
  freed_formed = subst (λ (s : RecState). Is_formed (scene c (era_of r a (r.line n)) rules db key) n (record (view db key x) { state = record s { locked = None } })) still_frozen
      (frozen_formed (scene c (era_of r a (r.line n)) rules db key) n (view db key x) true (own.formed db key))

  abbrev u1 : Turn
  u1 = so_left n db key freed answer.Unlocked x w.calls

  node1 : Held_node x u1.node db key freed g l
  node1 = held_at c n x db key freed g l w.calls answer.Unlocked own.known.order has_db (formed_blank (scene c (era_of r a (r.line n)) rules db key) n (record (view db key x) { state = freed }) freed_formed) freezing

  node2 : ((d : ℕ) (k : List ℕ) → (state_at d k u1.node).locked ≡ None) → Held_node x (record u1.node { phase = Frozen g }) db key freed g l
  unfolding state_at db_at
  node2 none = record {
    size = node1.size;
    order = node1.order;
    generation = node1.generation;
    members = node1.members;
    pbase = node1.pbase;
    next = node1.next;
    promise = node1.promise;
    lead = node1.lead;
    phase = inr (refl, none);
    own = node1.own;
    other = node1.other;
    floor = node1.floor;
    commit = node1.commit;
  }

  no_lock : (o : Option ℕ) → is_some o ≡ false → o ≡ None
  no_lock None e = refl
  no_lock (Some m) e = absurd (cc)

  unlocked1 : any_locked u1.node.dbs ≡ false → (d : ℕ) (k : List ℕ) → (state_at d k u1.node).locked ≡ None
  unfolding is_locked
  unlocked1 e d k = no_lock (state_at d k u1.node).locked ((sees_locks u1.node node1.order).all e d k)

  unlock_of : (u : Turn) (more : List Out) → Held_node x u.node db key freed g l → u.outs ≡ out.Answer w.calls answer.Unlocked ∷ more → (more ≡ []) ⊎ (more ≡ ack n g l ∷ []) →
      Held_turn c rules w r a n g l db key (Releases n w.calls) (record there_state { locked = None }) freed (op.Unlock db key) answer.Unlocked u
  unfolding frozen_state
  unlock_of u more node outs acks = record {
    freezing = freezing;
    locked = locked;
    node = node;
    rests = ap (λ (s : RecState). record s { locked = None }) rested.state;
    wish = refl;
    formed = freed_formed;
    so = releases_so (scene c (era_of r a (r.line n)) rules db key) (a.worlds (r.line n) db key) n w.calls member joined world_locked;
    rsn = refl;
    more = more;
    outs = outs;
    acks = acks;
    kind = kind;
    speaks = spoken c n (op.Unlock db key) answer.Unlocked kind;
    sort = λ s k. k;
  }

  unlock_pick : (b : Bool) → any_locked u1.node.dbs ≡ b → Held_turn c rules w r a n g l db key (Releases n w.calls) (record there_state { locked = None }) freed (op.Unlock db key) answer.Unlocked (cond b u1 (posts g n l msg.FreezeAck (with_phase (Frozen g) u1)))
  unfolding posts does with_phase
  unlock_pick true e = unlock_of u1 [] node1 (left_outs n db key freed answer.Unlocked x w.calls) (inl refl)
  unlock_pick false e = unlock_of (posts g n l msg.FreezeAck (with_phase (Frozen g) u1)) (ack n g l ∷ []) (node2 (unlocked1 e)) (ap (λ (o : List Out). o ++ ack n g l ∷ []) (left_outs n db key freed answer.Unlocked x w.calls)) (inr refl)

  pub unlock_held : Held_turn c rules w r a n g l db key (Releases n w.calls) (record there_state { locked = None }) freed (op.Unlock db key) answer.Unlocked (frozen_if_unlocked n g l u1)
  unfolding frozen_if_unlocked
  unlock_held = unlock_pick (any_locked u1.node.dbs) refl

  unlock_is : refusal c rules x (op.Unlock db key) ≡ None → client c rules n w.calls (op.Unlock db key) (begins x) ≡ frozen_if_unlocked n g l u1
  unfolding at_record acted makes release reply keeps performs recs.view unlocks serves
  unlock_is free = client_serves c rules n w.calls (op.Unlock db key) x free ∙ ap (unlocks c n w.calls db key (makes w.calls (begins x))) freezing

  pub unlock_turned : refusal c rules x (op.Unlock db key) ≡ None →
      Turned c rules h.who w r h.ages n (own_pending n w.calls (op.Unlock db key) ∷ pending w) (happens c rules n (begins x) (event.Client w.calls (op.Unlock db key)))
  unfolding happens
  unlock_turned free = subst (λ (u : Turn). Turned c rules h.who w r h.ages n (own_pending n w.calls (op.Unlock db key) ∷ pending w) u) (sym (unlock_is free))
      (held_turned c rules w r h n g l db key (Releases n w.calls) (record there_state { locked = None }) freed (op.Unlock db key) answer.Unlocked (frozen_if_unlocked n g l u1) there unlock_held)

  -- ---- a read

  some_not_none : (o : Option ℕ) → is_some o ≡ true → is_none o ≡ false
  some_not_none None e = absurd (cc)
  some_not_none (Some m) e = refl

  mine : is_mastered n (state_at db key x).copy ≡ true
  mine = (own.formed db key).form.shape.lock_held (some_not_none (state_at db key x).locked locked)

  unwished : is_none (state_at db key x).wish ≡ true
  unwished = (own.formed db key).form.shape.lock_unwished (some_not_none (state_at db key x).locked locked)

  copy_same : (state_at db key x).copy ≡ there_state.copy
  unfolding frozen_state
  copy_same = ap (λ (s : RecState). s.copy) rested.state

  wish_same : (state_at db key x).wish ≡ there_state.wish
  unfolding frozen_state
  wish_same = ap (λ (s : RecState). s.wish) rested.state

  abbrev value : Answer
  value = answer.Read (value_of there_state.copy)

  pub read_held : Held_turn c rules w r a n g l db key (Wants n w.calls (op.Read db key)) there_state (state_at db key x) (op.Read db key) value (so_left n db key (state_at db key x) value x w.calls)
  read_held = record {
    freezing = freezing;
    locked = locked;
    node = held_at c n x db key (state_at db key x) g l w.calls value own.known.order has_db (formed_blank (scene c (era_of r a (r.line n)) rules db key) n (view db key x) (own.formed db key)) freezing;
    rests = rested.state;
    wish = refl;
    formed = own.formed db key;
    so = reads_so (scene c (era_of r a (r.line n)) rules db key) (a.worlds (r.line n) db key) n w.calls member joined (some_not_none there_state.locked world_locked) (ap is_none (sym wish_same) ∙ unwished) (ap (is_mastered n) (sym copy_same) ∙ mine);
    rsn = refl;
    more = [];
    outs = left_outs n db key (state_at db key x) value x w.calls;
    acks = inl refl;
    kind = kind;
    speaks = spoken c n (op.Read db key) value kind;
    sort = λ s k. inl k;
  }

  read_left : left_by c n db key (λ at o. want at rules w.calls (op.Read db key) o) (makes w.calls (begins x)) ≡ left x db (state_at db key x) w.calls value
  unfolding makes reply keeps performs recs.view recs.place_of
  read_left = locked_read (recs.place_of c n db key x) rules w.calls db key (recs.view db key x) (some_not_none (state_at db key x).locked locked) mine
      ∙ ap (λ (o : Option RecCopy). left x db (state_at db key x) w.calls (answer.Read (value_of o))) copy_same

  read_is : refusal c rules x (op.Read db key) ≡ None → client c rules n w.calls (op.Read db key) (begins x) ≡ so_left n db key (state_at db key x) value x w.calls
  unfolding at_record
  read_is free = client_serves c rules n w.calls (op.Read db key) x free ∙ serves_read c rules n w.calls db key (makes w.calls (begins x)) (plain_kind (kind_at c db) kind)
      ∙ ap (λ (o : Moving). acted n db key o (makes w.calls (begins x))) read_left

  pub read_turned : refusal c rules x (op.Read db key) ≡ None →
      Turned c rules h.who w r h.ages n (own_pending n w.calls (op.Read db key) ∷ pending w) (happens c rules n (begins x) (event.Client w.calls (op.Read db key)))
  unfolding happens
  read_turned free = subst (λ (u : Turn). Turned c rules h.who w r h.ages n (own_pending n w.calls (op.Read db key) ∷ pending w) u) (sym (read_is free))
      (held_turned c rules w r h n g l db key (Wants n w.calls (op.Read db key)) there_state (state_at db key x) (op.Read db key) value (so_left n db key (state_at db key x) value x w.calls) there read_held)
