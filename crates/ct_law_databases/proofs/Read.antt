-- A read of a pair in a persistent database: its node has seen as many commits as it has.
use Rattle.std.proofs.Common.{◌≡◌, ◌≢◌, ℕ, ◌+◌, ◌≤◌, Bool, true, List, [], ◌∷◌, ◌++◌, length, refl, sym, ap, ◌∙◌, subst, arith, inl, ⊎_elim, Option}
use Rattle.std.specs.Prelude.{◌⊎◌}
use Rattle.std.proofs.lemmas.Bool.{cases_eq}
use Rattle.ct_values.specs.Words.{or_empty}
use Rattle.ct_values.specs.declared.client.Answer.{Answer}
use Rattle.ct_values.specs.declared.client.Answer.TheVariants as answer
use Rattle.ct_values.specs.declared.client.ClientOp.TheVariants as op
use Rattle.ct_values.specs.declared.config.Config.{Config}
use Rattle.ct_persist.specs.Persisted.{Persisted}
use Rattle.ct_store.specs.Map.{look}
use Rattle.ct_rules_node.specs.Node.{Node, is_among, kind_at, db_at}
use Rattle.ct_rules_node.specs.Turn.{Turn, does, answers}
use Rattle.ct_rules_node.specs.Databases.{read_pair}
use Rattle.ct_rules_cluster.specs.Labels.{Label, Answered}
use Rattle.ct_rules_cluster.specs.Steps.{frames_of}
use Rattle.ct_rules_cluster.specs.declared.step.PendingCall.{PendingCall}
use Rattle.ct_register.proofs.Places.{at_same, at_other}
use Rattle.ct_register.specs.Database.{Database, value_after}
use Rattle.ct_register.specs.Lines.{Lines}
use Rattle.ct_register.specs.Words.{at}
use Rattle.ct_law_generation.specs.Shown.{labels_of}
use Rattle.ct_law_generation.specs.Waiting.{answered}
use Rattle.ct_law_registers.proofs.Parts.{Choice, goes, goes_on, answer_goes, database_goes, DatabasesNeed, AllNeed}
use Rattle.ct_law_registers.proofs.Facts.{Has, Bases, bases, Settles, Holds, after}
use Rattle.ct_law_registers.proofs.Stores.{Grow}
use Rattle.ct_law_databases.proofs.Changes.{by_place}
use Rattle.ct_law_databases.proofs.Kept.{Kept, frame_list}
use Rattle.ct_law_databases.proofs.One.{is_kind, with_one, one_here, one_there}
use Rattle.ct_law_databases.proofs.Update.{IsIn, store_in}
use Rattle.ct_law_databases.proofs.Alike.{IsAlike, alike_same, alike_holds, alike_grows, alike_settles}

-- nodes are as they were
pub at_own : (n : ℕ) (nodes : ℕ → Node) → at n (nodes n) nodes ≡ nodes
at_own n nodes = λ i m. by m i
  where
    by : (m : ℕ) → at n (nodes n) nodes m ≡ nodes m
    by m = ⊎_elim (λ (e : m ≡ n). at_same n m (nodes n) nodes e ∙ ap nodes (sym e)) (λ (ne : m ≢ n). at_other n m (nodes n) nodes ne) (cases_eq m n)

module _ (config : Config) (x : Choice) (nodes : ℕ → Node) (r : Lines) (has : Has) (n db call : ℕ) (key : List ℕ) (sp : Bool) (calls : List PendingCall) (h : Holds config nodes (bases r) has) (b : IsIn config nodes r n db)
    (member : is_among n (r.members (r.line n)) ≡ true) (chosen : x.seen ≡ has (r.line n) n db) (mine : (a : Answer) → answered call a calls ≡ Answered n (op.Read db key) a ∷ []) where
  abbrev d : Database
  d = r.databases (r.line n) db

  abbrev begins : Turn
  begins = record { node = nodes n; outs = []; spent = sp }

  abbrev value : List ℕ
  value = or_empty (look key (db_at db (nodes n)).store.pairs)

  abbrev read : Database
  read = record d { seen = at n x.seen d.seen }

  abbrev dbs : ℕ → ℕ → Database
  dbs = with_one (r.line n) db read r.databases

  alike : (g i : ℕ) → IsAlike (r.databases g i) (dbs g i)
  alike = by_place (λ (g i : ℕ). IsAlike (r.databases g i) (dbs g i)) (r.line n) db
      (subst (IsAlike d) (sym (one_here (r.line n) db read r.databases)) (record { seq = refl; base = refl; from = refl; commits = refl; committer = refl; acked = refl }))
      (λ g i o. subst (IsAlike (r.databases g i)) (sym (one_there (r.line n) db read r.databases g i o)) (alike_same (r.databases g i)))

  seen : (g i m : ℕ) → (dbs g i).seen m ≤ has g m i
  seen g i m = by_place (λ (k j : ℕ). (dbs k j).seen m ≤ has k m j) (r.line n) db
      (subst (λ (q : Database). q.seen m ≤ has (r.line n) m db) (sym (one_here (r.line n) db read r.databases)) (⊎_elim
      (λ (e : m ≡ n). (let s = at_same n m x.seen d.seen e in let k : has (r.line n) m db ≡ has (r.line n) n db = ap (λ (j : ℕ). has (r.line n) j db) e in let c = chosen in omega arith))
      (λ (ne : m ≢ n). (let s = at_other n m x.seen d.seen ne in let w = (h.counted (r.line n) db).seen m in omega arith)) (cases_eq m n)))
      (λ k j o. subst (λ (q : Database). q.seen m ≤ has k m j) (sym (one_there (r.line n) db read r.databases k j o)) ((h.counted k j).seen m)) g i

  value_is : value ≡ value_after x.seen key d
  value_is = ap (λ (p : Persisted). or_empty (look key p.pairs)) (store_in config nodes r has n db h b ∙ ap (λ (j : ℕ). after j d) (sym chosen))

  abbrev ls : List Label
  ls = Answered n (op.Read db key) (answer.Read value) ∷ []

  read_needs : AllNeed (DatabasesNeed config x) config x r ls
  unfolding AllNeed DatabasesNeed
  read_needs =
      let c = h.counted (r.line n) db in
      let e = chosen in
      let a = c.acked n member in
      let s = c.seen n in
      let w = c.within n in
      ((λ kind. (b.there.line, is_kind (kind_at config db) b.kind, (omega arith, omega arith, omega arith, value_is))), tt)

  read_goes : bases (goes_on config x ls r) ≡ record (bases r) { databases = dbs }
  unfolding goes_on goes answer_goes database_goes
  read_goes = rw b.kind refl

  read_kept : Kept config x nodes nodes r has has ls []
  read_kept = record {
    needs = read_needs;
    holds = subst (λ (q : Bases). Holds config nodes q has) (sym read_goes) (alike_holds config nodes (bases r) has dbs alike seen h);
    grow = subst (λ (q : Bases). Grow (bases r) q has has) (sym read_goes) (alike_grows config nodes (bases r) has dbs alike);
    sent = λ f is. absurd is;
    still = λ g m i away. refl;
    settling = λ later ends g i kind. subst (λ (q : Bases). Settles config nodes (bases r) later g i → Settles config nodes q later g i) (sym read_goes) (alike_settles config nodes (bases r) has dbs alike later g i);
    commits = λ g i kind. inl (ap (λ (q : Bases). length (q.databases g i).commits) read_goes ∙ ap length (alike g i).commits);
    heirs = λ l g i k kind e. inl (l, sym (ap (λ (q : Bases). (q.databases l i).from g) read_goes ∙ ap (λ (f : ℕ → Option ℕ). f g) (alike l i).from) ∙ e);
  }

  -- a read that is answered
  pub read_pair_holds : (let u = read_pair call db key begins in Kept config x nodes (at n u.node nodes) r has has (labels_of n calls u.outs) (frame_list u.outs))
  unfolding read_pair answers does labels_of frames_of
  read_pair_holds = subst (λ (f : ℕ → Node). Kept config x nodes f r has has (answered call (answer.Read value) calls ++ []) []) (sym (at_own n nodes))
      (subst (λ (l : List Label). Kept config x nodes nodes r has has (l ++ []) []) (sym (mine (answer.Read value))) read_kept)
