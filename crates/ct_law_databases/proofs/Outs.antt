-- What a node sends to several nodes, and a database in its place.
use Rattle.std.proofs.Common.{◌≡◌, ◌≢◌, ℕ, zero, suc, ◌<◌, true, List, [], ◌∷◌, ◌++◌, length, append-nil, append_assoc, refl, sym, ap, ◌∙◌, arith}
use Rattle.std.specs.Prelude.{slice_get}
use Rattle.std.specs.List.{AllByRecursion}
use Rattle.ct_values.specs.declared.config.Config.{Config}
use Rattle.ct_values.specs.declared.config.DbDecl.{DbDecl}
use Rattle.ct_frame.specs.declared.event.Out.{Out}
use Rattle.ct_frame.specs.declared.event.Out.TheVariants as out
use Rattle.ct_frame.specs.declared.frame.Msg.{Msg}
use Rattle.ct_law_rules_node.proofs.AtRecord.{at_set, at_other}
use Rattle.ct_rules_node.specs.Node.{Node, Database, db_at, with_db, kind_in, kind_at, is_persistent}
use Rattle.ct_rules_node.specs.Turn.{Turn, does, posts, posts_all}
use Rattle.ct_rules_cluster.specs.Labels.{Label}
use Rattle.ct_rules_cluster.specs.Traces.{sent_label}
use Rattle.ct_rules_cluster.specs.declared.step.PendingCall.{PendingCall}
use Rattle.ct_law_generation.specs.Shown.{labels_of}
use Rattle.ct_law_databases.proofs.Quiet.{labels_more}

-- ---- messages

pub posted : (g me : ℕ) (ns : List ℕ) (m : Msg) (t : Turn) → (posts_all g me ns m t).node ≡ t.node
unfolding posts_all posts does
posted g me [] m t = refl
posted g me (n ∷ ns) m t = posted g me ns m (posts g me n m t)

-- what is done after all else
pub posted_outs : (P : Out → Type 0) (g me : ℕ) (ns : List ℕ) (m : Msg) (t : Turn) → ((k : ℕ) → P (out.Send (record { generation = g; sender = me; receiver = k; msg = m }))) → (more : List Out) × ((posts_all g me ns m t).outs ≡ t.outs ++ more) × AllByRecursion P more
unfolding posts_all posts does
posted_outs P g me [] m t h = ([], sym (append-nil t.outs), tt)
posted_outs P g me (n ∷ ns) m t h =
    let rest = posted_outs P g me ns m (posts g me n m t) h in
    (out.Send (record { generation = g; sender = me; receiver = n; msg = m }) ∷ rest.0, rest.1 ∙ append_assoc t.outs (out.Send (record { generation = g; sender = me; receiver = n; msg = m }) ∷ []) rest.0, (h n, rest.2))

-- messages that tell nothing by being sent
pub posted_labels : (n : ℕ) (calls : List PendingCall) (g me : ℕ) (ns : List ℕ) (m : Msg) (t : Turn) → sent_label me g m ≡ [] → labels_of n calls (posts_all g me ns m t).outs ≡ labels_of n calls t.outs
unfolding posts_all posts does labels_of
posted_labels n calls g me [] m t e = refl
posted_labels n calls g me (k ∷ ks) m t e = posted_labels n calls g me ks m (posts g me k m t) e ∙ labels_more n calls t.outs _ ∙ ap (λ (l : List Label). labels_of n calls t.outs ++ (l ++ [])) e ∙ append-nil (labels_of n calls t.outs)

-- ---- a database in its place

pub db_here : (db : ℕ) (d : Database) (x : Node) → db < length x.dbs → db_at db (with_db db d x) ≡ d
unfolding db_at with_db
db_here db d x l = at_set x.dbs db d l

pub db_there : (db i : ℕ) (d : Database) (x : Node) → i ≢ db → db_at i (with_db db d x) ≡ db_at i x
unfolding db_at with_db
db_there db i d x ne = at_other x.dbs db i d ne

kind_below : (ds : List DbDecl) (db : ℕ) → is_persistent (kind_in (slice_get ds db)) ≡ true → db < length ds
unfolding is_persistent kind_in
kind_below [] db e = absurd (cc)
kind_below (d ∷ ds) zero e = omega arith
kind_below (d ∷ ds) (suc db) e = (let l = kind_below ds db e in omega arith)

-- a persistent database is one of those of the configuration
pub is_below : (config : Config) (db : ℕ) → is_persistent (kind_at config db) ≡ true → db < length config.dbs
unfolding kind_at
is_below config db e = kind_below config.dbs db e
