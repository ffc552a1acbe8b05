-- A client's call at a node that is not present: it is refused, or under its lock it is finished while the node freezes.
use Rattle.std.proofs.Common.{◌≡◌, ℕ, Bool, true, false, cond, ◌&&◌, ◌||◌, List, [], ◌∷◌, Option, None, Some, inl, ⊎_elim, refl, sym, ap, ◌∙◌, subst}
use Rattle.std.specs.Prelude.{nat_lt, not}
use Rattle.std.proofs.lemmas.Bool.{and_parts, cases_Bool}
use Rattle.ct_values.specs.Words.{or_empty}
use Rattle.ct_values.specs.Client.{is_read, db_of, key_of}
use Rattle.ct_values.specs.declared.client.Answer.{Answer}
use Rattle.ct_values.specs.declared.client.Answer.TheVariants as answer
use Rattle.ct_values.specs.declared.client.ClientOp.{ClientOp}
use Rattle.ct_values.specs.declared.client.ClientOp.TheVariants as op
use Rattle.ct_values.specs.declared.client.Why.{Why}
use Rattle.ct_values.specs.declared.client.Why.TheVariants as why
use Rattle.ct_values.specs.declared.config.Config.{Config}
use Rattle.ct_frame.specs.declared.event.Event.TheVariants as event
use Rattle.ct_call.specs.Rules.{Rules}
use Rattle.ct_rules_node.specs.Clients as clients
use Rattle.ct_rules_node.specs.Clients.{client, serves, refusal, not_serving, may_finish, reads, is_under_lock, is_locked}
use Rattle.ct_rules_node.specs.Databases.{read_pair}
use Rattle.ct_rules_node.specs.Node.{Node, Phase, Idle, Serving, Installed, Freezing, Frozen, is_present, is_serving, is_freezing, is_persistent, kind_at, db_at}
use Rattle.ct_rules_node.specs.Refusals.{refused_if}
use Rattle.ct_rules_node.specs.Steps.{happens}
use Rattle.ct_rules_node.specs.Turn.{Turn, begins, makes, answers, does}
use Rattle.ct_law_rules_node.proofs.Refusals.{first_none}
use Rattle.ct_store.specs.Map.{look}
use Rattle.ct_rules_cluster.specs.Cluster.{Cluster, node_at, pending}
use Rattle.ct_rules_cluster.specs.Labels.{Label, Answered}
use Rattle.ct_rules_cluster.specs.Steps.{frames_of}
use Rattle.ct_rules_cluster.specs.declared.step.PendingCall.{PendingCall}
use Rattle.ct_register.specs.Lines.{Lines}
use Rattle.ct_promise.specs.Generation.{record_labels, speaks_of_records}
use Rattle.ct_promise.specs.Promises.{IsConfig}
use Rattle.ct_law_generation.proofs.Calling.{own_pending}
use Rattle.ct_law_generation.proofs.Admitted.{admits}
use Rattle.ct_law_generation.proofs.Served.{client_serves, call_kind, has_database}
use Rattle.ct_law_run.proofs.Lives.{Lives}
use Rattle.ct_law_run.proofs.Faces.{Turned}
use Rattle.ct_law_run.proofs.HandedServing.{refusal_turned, store_turned, unlock_turned, read_turned, outs_labels}
use Rattle.ct_law_run.proofs.HandedInstalls.{wordless_turned}

-- ---- which calls are served

pub not_there : (p : Phase) → is_present p ≡ false → is_serving p ≡ false
unfolding is_present is_serving
not_there Serving e = absurd (cc)
not_there Idle e = refl
not_there Installed e = refl
not_there (Freezing g l) e = refl
not_there (Frozen g) e = refl

may : (s f : Bool) → s ≡ false → refused_if (not s && not f) why.NotServing ≡ None → f ≡ true
unfolding refused_if
may false true e k = refl
may false false e k = absurd (cc)
may true f e k = absurd (cc)

-- one that is not refused may finish
finishes : (c : Config) (rules : Rules) (x : Node) (o : ClientOp) → is_present x.phase ≡ false → refusal c rules x o ≡ None → may_finish x o ≡ true
unfolding refusal not_serving
finishes c rules x o absent e = (let db = first_none _ _ e in let kind = first_none _ _ db.1 in let serving = first_none _ _ kind.1 in may (is_serving x.phase) (may_finish x o) (not_there x.phase absent) serving.0)

freezes_for : (p : Phase) → is_freezing p ≡ true → (g : ℕ) × (l : ℕ) × (p ≡ Freezing g l)
unfolding is_freezing
freezes_for (Freezing g l) e = (g, l, refl)
freezes_for _ e = absurd (cc)

-- what it is that may finish
record Finishes (x : Node) (o : ClientOp) : Type 0 where
  generation : ℕ
  leader : ℕ
  freezing : x.phase ≡ Freezing generation leader
  sort : (is_under_lock o || is_read o) ≡ true
  locked : is_locked (db_of o) (key_of o) x ≡ true

finishing : (x : Node) (o : ClientOp) → may_finish x o ≡ true → Finishes x o
unfolding may_finish
finishing x o e =
    let p = and_parts _ _ e in
    let q = and_parts _ _ p.0 in
    let f = freezes_for x.phase q.0 in
    record { generation = f.0; leader = f.1; freezing = f.2; sort = q.1; locked = p.1 }

-- a read of a persistent database is that of a pair
reads_pair : (c : Config) (rules : Rules) (n call db : ℕ) (key : List ℕ) (t : Turn) → is_persistent (kind_at c db) ≡ true → serves c rules n call t (op.Read db key) ≡ read_pair call db key t
unfolding serves reads
reads_pair c rules n call db key t kind = taken (is_persistent (kind_at c db)) _ _ kind
  where
    taken : (b : Bool) (p q : Turn) → b ≡ true → cond b p q ≡ p
    taken true p q e = refl
    taken false p q e = absurd (cc)

-- ---- each call

module _ (c : Config) (rules : Rules) (w : Cluster) (r : Lines) (h : Lives c rules w r) (n : ℕ) (config : IsConfig c) (there : nat_lt n c.nodes ≡ true) where
  abbrev x : Node
  x = node_at n w

  abbrev Asked : ClientOp → Turn → Type 0
  Asked o u = Turned c rules h.who w r h.ages n (own_pending n w.calls o ∷ pending w) u

  -- a read of a persistent database is answered at once, and nothing is told of records by it
  pair_turned : (db : ℕ) (key : List ℕ) → is_persistent (kind_at c db) ≡ true → Asked (op.Read db key) (read_pair w.calls db key (makes w.calls (begins x)))
  unfolding read_pair answers does makes frames_of speaks_of_records
  pair_turned db key kind =
      let value : Answer = answer.Read (or_empty (look key (db_at db x).store.pairs)) in
      let pend : List PendingCall = own_pending n w.calls (op.Read db key) ∷ pending w in
      let u : Turn = read_pair w.calls db key (makes w.calls (begins x)) in
      wordless_turned c rules h.who w r h.ages n pend u h.lines (record {
        untold = ap (λ (l : List Label). record_labels c l) (outs_labels n 0 0 w.calls (op.Read db key) value (pending w) u.outs [] refl (inl refl))
            ∙ ap (λ (b : Bool). cond (not b) (Answered n (op.Read db key) value ∷ []) []) kind;
        wordless = tt;
        says = tt;
        replies = λ k ne. tt;
        own = tt;
        mine = h.nodes n there;
      })

  -- none but a read, a store and an unlock may finish
  served : (o : ClientOp) → refusal c rules x o ≡ None → Finishes x o → Asked o (happens c rules n (begins x) (event.Client w.calls o))
  unfolding is_under_lock is_read is_locked clients.is_commit happens
  served (op.Store db key v) free k = store_turned c rules w r h n k.generation k.leader db key config there k.freezing (has_database c x (op.Store db key v) (admits c rules x (op.Store db key v) free) refl refl) k.locked v free
  served (op.Unlock db key) free k = unlock_turned c rules w r h n k.generation k.leader db key config there k.freezing (has_database c x (op.Unlock db key) (admits c rules x (op.Unlock db key) free) refl refl) k.locked free
  served (op.Read db key) free k = ⊎_elim
      (λ (kind : is_persistent (kind_at c db) ≡ true). subst (λ (u : Turn). Asked (op.Read db key) u) (sym (client_serves c rules n w.calls (op.Read db key) x free
      ∙ reads_pair c rules n w.calls db key (makes w.calls (begins x)) kind)) (pair_turned db key kind))
      (λ (kind : is_persistent (kind_at c db) ≡ false). read_turned c rules w r h n k.generation k.leader db key config there k.freezing (call_kind c x (op.Read db key) (admits c rules x (op.Read db key) free) kind) k.locked free)
      (cases_Bool (is_persistent (kind_at c db)))
  served (op.Lock db key) free k = absurd (let e = k.sort in cc)
  served (op.Write db key v) free k = absurd (let e = k.sort in cc)
  served (op.Apply db key function arg) free k = absurd (let e = k.sort in cc)
  served (op.Commit db writes) free k = absurd (let e = k.sort in cc)

  pub call_turned : (o : ClientOp) → is_present x.phase ≡ false → Asked o (happens c rules n (begins x) (event.Client w.calls o))
  unfolding happens
  call_turned o absent = either (refusal c rules x o) refl
    where
      either : (reason : Option Why) → refusal c rules x o ≡ reason → Asked o (client c rules n w.calls o (begins x))
      either (Some reason) e = refusal_turned c rules w r h n o reason there e
      either None e = served o e (finishing x o (finishes c rules x o absent e))
