-- Every client's call at a node that is present.
use Rattle.std.proofs.Common.{◌≡◌, ℕ, true, false, ◌∷◌, Option, Some, None, ⊎_elim, refl, sym, ◌∙◌}
use Rattle.std.specs.Prelude.{nat_lt}
use Rattle.std.proofs.lemmas.Bool.{cases_Bool}
use Rattle.ct_values.specs.Client.{is_read, db_of}
use Rattle.ct_values.specs.declared.client.ClientOp.{ClientOp}
use Rattle.ct_values.specs.declared.client.ClientOp.TheVariants as op
use Rattle.ct_values.specs.declared.client.Why.{Why}
use Rattle.ct_values.specs.declared.config.Config.{Config}
use Rattle.ct_frame.specs.declared.event.Event.TheVariants as event
use Rattle.ct_call.specs.Rules.{Rules}
use Rattle.ct_rules_node.specs.Node.{is_present, is_persistent, kind_at}
use Rattle.ct_rules_node.specs.Turn.{begins}
use Rattle.ct_rules_node.specs.Clients.{client, refusal, is_commit}
use Rattle.ct_rules_node.specs.Steps.{happens}
use Rattle.ct_rules_cluster.specs.Cluster.{Cluster, node_at, pending}
use Rattle.ct_register.specs.Lines.{Lines}
use Rattle.ct_promise.specs.Promises.{IsConfig}
use Rattle.ct_law_generation.proofs.Calling.{own_pending}
use Rattle.ct_law_generation.proofs.Admitted.{admits}
use Rattle.ct_law_generation.proofs.Served.{record_kind}
use Rattle.ct_law_run.proofs.Lives.{Lives}
use Rattle.ct_law_run.proofs.Faces.{Turned}
use Rattle.ct_law_run.proofs.Declining.{refusal_turned}
use Rattle.ct_law_run.proofs.Calling.{call_turned}
use Rattle.ct_law_run.proofs.Asides.{commit_turned, read_turned}

-- the turn of a call that the node makes
abbrev pub Call_turned : (c : Config) (rules : Rules) (w : Cluster) (r : Lines) → Lives c rules w r → ℕ → ClientOp → Type 0
Call_turned c rules w r h n o = Turned c rules h.who w r h.ages n (own_pending n w.calls o ∷ pending w) (happens c rules n (begins (node_at n w)) (event.Client w.calls o))

-- only a commit and a read are of a persistent database
absurd_kind : (c : Config) (rules : Rules) (w : Cluster) (n : ℕ) (o : ClientOp) → refusal c rules (node_at n w) o ≡ None → is_persistent (kind_at c (db_of o)) ≡ true → is_commit o ≡ false → is_read o ≡ false → ⊥
absurd_kind c rules w n o free kind a b = absurd (let e = sym kind ∙ record_kind c (node_at n w) o (admits c rules (node_at n w) o free) a b in cc)

persistent_turned : (c : Config) (rules : Rules) (w : Cluster) (r : Lines) (h : Lives c rules w r) (n : ℕ) (o : ClientOp) → nat_lt n c.nodes ≡ true → is_present (node_at n w).phase ≡ true → h.who w.calls ≡ (n, o) → refusal c rules (node_at n w) o ≡ None →
    is_persistent (kind_at c (db_of o)) ≡ true → Call_turned c rules w r h n o
unfolding is_commit is_read
persistent_turned c rules w r h n (op.Commit db writes) there present own free kind = commit_turned c rules w r h n db writes there present own free
persistent_turned c rules w r h n (op.Read db key) there present own free kind = read_turned c rules w r h n db key there present kind free
persistent_turned c rules w r h n (op.Lock db key) there present own free kind = absurd (absurd_kind c rules w n (op.Lock db key) free kind refl refl)
persistent_turned c rules w r h n (op.Write db key v) there present own free kind = absurd (absurd_kind c rules w n (op.Write db key v) free kind refl refl)
persistent_turned c rules w r h n (op.Apply db key f arg) there present own free kind = absurd (absurd_kind c rules w n (op.Apply db key f arg) free kind refl refl)
persistent_turned c rules w r h n (op.Store db key v) there present own free kind = absurd (absurd_kind c rules w n (op.Store db key v) free kind refl refl)
persistent_turned c rules w r h n (op.Unlock db key) there present own free kind = absurd (absurd_kind c rules w n (op.Unlock db key) free kind refl refl)

-- a client's call, refused or not
pub client_turned : (c : Config) (rules : Rules) (w : Cluster) (r : Lines) (h : Lives c rules w r) (n : ℕ) (o : ClientOp) → IsConfig c → nat_lt n c.nodes ≡ true → is_present (node_at n w).phase ≡ true → h.who w.calls ≡ (n, o) →
    (client c rules n w.calls o (begins (node_at n w))).spent ≡ false → Call_turned c rules w r h n o
client_turned c rules w r h n o config there present own whole = either (refusal c rules (node_at n w) o) refl
  where
    either : (why : Option Why) → refusal c rules (node_at n w) o ≡ why → Call_turned c rules w r h n o
    either (Some reason) why = refusal_turned c rules w r h n o reason there why
    either None free = ⊎_elim
        (λ (kind : is_persistent (kind_at c (db_of o)) ≡ true). persistent_turned c rules w r h n o there present own free kind)
        (λ (kind : is_persistent (kind_at c (db_of o)) ≡ false). call_turned c rules w r h n o config there present own free whole kind)
        (cases_Bool (is_persistent (kind_at c (db_of o))))
