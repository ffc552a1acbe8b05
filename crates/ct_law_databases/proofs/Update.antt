-- An update of a commit comes to a node of its line: it has that commit then, or had it, or lacks one before it.
use Rattle.std.proofs.Common.{◌≡◌, ◌≢◌, ℕ, suc, ◌+◌, ◌≤◌, Bool, true, false, cond, List, [], length, Option, None, Some, refl, sym, ap, ◌∙◌, subst, arith, inl}
use Rattle.std.specs.Prelude.{nat_le, is_some}
use Rattle.std.specs.List.{AllByRecursion}
use Rattle.std.proofs.lemmas.Bool.{leb-true}
use Rattle.ct_values.specs.declared.client.Pair.{Pair}
use Rattle.ct_values.specs.declared.config.Config.{Config}
use Rattle.ct_frame.specs.declared.event.Out.{Out}
use Rattle.ct_frame.specs.declared.frame.Msg.TheVariants as msg
use Rattle.ct_persist.specs.Persisted.{Persisted, updated}
use Rattle.ct_rules_node.specs.Node.{Node, Committing, is_present, is_persistent, kind_at, db_at, with_db}
use Rattle.ct_rules_node.specs.Node as node
use Rattle.ct_rules_node.specs.Turn.{Turn, does, with_node, posts}
use Rattle.ct_rules_node.specs.Databases.{updates, acknowledges, on_pupdate}
use Rattle.ct_rules_cluster.specs.Labels.{Label}
use Rattle.ct_rules_cluster.specs.Traces.{sent_label}
use Rattle.ct_rules_cluster.specs.declared.step.PendingCall.{PendingCall}
use Rattle.ct_register.specs.Database.{Database}
use Rattle.ct_register.specs.Lines.{Lines}
use Rattle.ct_register.specs.Words.{at}
use Rattle.ct_law_generation.specs.Shown.{labels_of}
use Rattle.ct_law_registers.proofs.Parts.{Choice, goes_on, AllNeed}
use Rattle.ct_law_registers.proofs.Facts.{Has, bases, Stands, Holds, Waits, MayWait, after}
use Rattle.ct_law_registers.proofs.Stores.{Updates, grown_same, update_comes}
use Rattle.ct_law_databases.proofs.Changes.{Changes}
use Rattle.ct_law_databases.proofs.Law.{IsThere}
use Rattle.ct_law_databases.proofs.Kept.{Kept, OutStands, frame_list, frames_stand, waits_same, settles_same}
use Rattle.ct_law_databases.proofs.Databases.{rise_counted, rise_waits}
use Rattle.ct_law_databases.proofs.One.{with_has, has_here, has_there, has_others, changes_kept}
use Rattle.ct_law_databases.proofs.Outs.{db_here, db_there, is_below}

-- a node that is there, in a persistent database's line
pub record IsIn (config : Config) (nodes : ℕ → Node) (r : Lines) (n db : ℕ) : Type 0 where
  pub kind : is_persistent (kind_at config db) ≡ true
  pub present : is_present (nodes n).phase ≡ true
  pub there : IsThere config (bases r) n (nodes n)
  pub installed : r.line n ≡ r.pline n
  pub born : r.born (r.line n) ≡ true

-- its database is that of the line after the commits that it has
pub store_in : (config : Config) (nodes : ℕ → Node) (r : Lines) (has : Has) (n db : ℕ) → Holds config nodes (bases r) has → IsIn config nodes r n db → (db_at db (nodes n)).store ≡ after (has (r.line n) n db) (r.databases (r.line n) db)
store_in config nodes r has n db h b = h.stores n db b.kind (λ z. b.there.line (b.installed ∙ z)) ∙ subst (λ (g : ℕ). after (has g n db) (r.databases g db) ≡ after (has (r.line n) n db) (r.databases (r.line n) db)) b.installed refl

module _ (config : Config) (nodes : ℕ → Node) (r : Lines) (has : Has) (n from db seq : ℕ) (ws : List Pair) (sp : Bool) (calls : List PendingCall) (h : Holds config nodes (bases r) has) (b : IsIn config nodes r n db)
    (says : Stands config (bases r) has (r.line n) from (msg.PUpdate db seq ws)) where
  abbrev pub d : Database
  d = r.databases (r.line n) db

  abbrev begins : Turn
  begins = record { node = nodes n; outs = []; spent = sp }

  abbrev pub store : Persisted
  store = updated seq ws (db_at db (nodes n)).store

  abbrev updated_node : Node
  updated_node = with_db db (record (db_at db (nodes n)) { store = store }) (nodes n)

  updated_here : db_at db updated_node ≡ record (db_at db (nodes n)) { store = store }
  updated_here = db_here db _ (nodes n) (let l = is_below config db b.kind in let s = b.there.size in omega arith)

  pub comes : Updates seq d (has (r.line n) n db) store
  unfolding Stands
  comes =
      let k = update_comes says.1 (has (r.line n) n db) d ws says.3 ((h.counted (r.line n) db).within n) in
      subst (λ (q : ℕ). Updates q d (has (r.line n) n db) (updated q ws (db_at db (nodes n)).store)) (sym says.2)
      (subst (λ (p : Persisted). Updates (d.seq + suc says.1) d (has (r.line n) n db) (updated (d.seq + suc says.1) ws p)) (sym (store_in config nodes r has n db h b)) k)

  -- how many it has then
  abbrev pub more : Has
  more = with_has (r.line n) n db comes.0 has

  more_here : more (r.line n) n db ≡ comes.0
  more_here = has_here (r.line n) n db comes.0 has

  rises : has (r.line n) n db ≤ more (r.line n) n db
  rises = (let k = more_here in let l = comes.1 in omega arith)

  within : more (r.line n) n db ≤ length d.commits
  within = (let k = more_here in let l = comes.2 in omega arith)

  rest : (m : ℕ) → m ≢ n → more (r.line n) m db ≡ has (r.line n) m db
  rest = has_others (r.line n) n db comes.0 has

  still : (m : ℕ) (z : Committing) → Waits m (r.members (r.line n)) d (λ k. has (r.line n) k db) z → Waits m (r.members (r.line n)) d (λ k. more (r.line n) k db) z
  still m z w = rise_waits n m (r.members (r.line n)) d (λ k. has (r.line n) k db) (λ k. more (r.line n) k db) z rises within rest w

  own_waits : (o : Option Committing) → MayWait n (r.members (r.line n)) d (λ k. has (r.line n) k db) o → MayWait n (r.members (r.line n)) d (λ k. more (r.line n) k db) o
  unfolding MayWait
  own_waits None w = tt
  own_waits (Some z) w = still n z w

  update_changes : Changes config nodes (bases r) has more n db updated_node r.databases
  unfolding with_db
  update_changes = record {
    line = b.there.line;
    installed = b.installed;
    born = b.born;
    kind = b.kind;
    other = λ g i o. refl;
    other_has = has_there (r.line n) n db comes.0 has;
    same_has = rest;
    other_store = λ i ne. ap (λ (y : node.Database). y.store) (db_there db i _ (nodes n) ne);
    other_commit = λ i ne. ap (λ (y : node.Database). y.commit) (db_there db i _ (nodes n) ne);
    lead = refl;
    grown = grown_same d;
    rises = rises;
    counted = rise_counted n (r.members (r.line n)) d (λ k. has (r.line n) k db) (λ k. more (r.line n) k db) (h.counted (r.line n) db) rises within rest;
    store = ap (λ (y : node.Database). y.store) updated_here ∙ comes.3 ∙ ap (λ (k : ℕ). after k d) (sym more_here);
    waits = subst (λ (o : Option Committing). MayWait n (r.members (r.line n)) d (λ k. more (r.line n) k db) o) (sym (ap (λ (y : node.Database). y.commit) updated_here)) (own_waits _ (h.waits n db));
    committing = λ e. ap is_some (ap (λ (y : node.Database). y.commit) updated_here) ∙ h.committing n db b.there.line e;
    others = λ m ne e. e;
    still = λ m ne z w. still m z w;
  }

  module _ (x : Choice) where
    abbrev Kept_by : Turn → Type 0
    Kept_by u = Kept config x nodes (at n u.node nodes) r has more (labels_of n calls u.outs) (frame_list u.outs)

    -- whatever it sends that stands and tells nothing
    update_kept : (outs : List Out) → labels_of n calls outs ≡ [] → AllByRecursion (OutStands config (bases r) more) outs → (sq : Bool) → Kept_by (record { node = updated_node; outs = outs; spent = sq })
    unfolding AllNeed goes_on
    update_kept outs none stand sq = subst (λ (l : List Label). Kept config x nodes (at n updated_node nodes) r has more l (frame_list outs)) (sym none)
        (changes_kept config x nodes r has more n db updated_node r.databases [] (frame_list outs) h update_changes refl tt (frames_stand config (bases r) more outs stand) b.present
        (λ later ends. settles_same config nodes (at n updated_node nodes) (bases r) (bases r) later (r.line n) db refl (waits_same nodes r.line n updated_node (r.line n) db (ap (λ (y : node.Database). y.commit) updated_here)))
        (inl refl))

    ack_stands : seq ≤ (db_at db updated_node).store.seq → Stands config (bases r) more updated_node.generation n (msg.PAck db seq)
    unfolding Stands with_db
    ack_stands low =
        let e : (db_at db updated_node).store.seq ≡ d.seq + comes.0 = ap (λ (y : node.Database). y.store.seq) updated_here ∙ ap (λ (p : Persisted). p.seq) comes.3 in
        subst (λ (g : ℕ). (r.born g ≡ true) × (seq ≤ (r.databases g db).seq + more g n db)) (sym b.there.generation) (b.born, (let k = more_here in omega arith))

    acks_kept : (sq c : Bool) → nat_le seq (db_at db updated_node).store.seq ≡ c → Kept_by (cond c (posts updated_node.generation n from (msg.PAck db seq) (record { node = updated_node; outs = []; spent = sq })) (record { node = updated_node; outs = []; spent = sq }))
    unfolding posts does labels_of sent_label OutStands
    acks_kept sq true e = update_kept _ refl (ack_stands (leb-true seq (db_at db updated_node).store.seq e), tt) sq
    acks_kept sq false e = update_kept [] refl tt sq

    -- an update that comes
    pub pupdate_holds : Kept_by (on_pupdate n from db seq ws begins)
    unfolding on_pupdate acknowledges updates with_node
    pupdate_holds = acks_kept sp (nat_le seq (db_at db updated_node).store.seq) refl
