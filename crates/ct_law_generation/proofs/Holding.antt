-- Where the world of each record holds with its register and marks, the cluster holds with those of the line.
use Rattle.std.proofs.Common.{◌≡◌, ◌≢◌, ℕ, ◌≤◌, Bool, true, false, List, [], length, Option, None, Some, refl, sym, ap, ◌∙◌, arith, subst, ⊎_elim}
use Rattle.std.specs.Prelude.{nat_le}
use Rattle.std.proofs.lemmas.Bool.{cases_eq, cond_both, leb-true, leb-false}
use Rattle.std.proofs.lemmas.List.{take_all}
use Rattle.ct_values.specs.declared.config.Config.{Config}
use Rattle.ct_frame.specs.declared.header.RecCopy.{RecCopy}
use Rattle.ct_call.specs.Rules.{Rules}
use Rattle.ct_rules.specs.declared.state.Entry.{Entry}
use Rattle.ct_rules_node.specs.Node.{state_at, master_of, is_among}
use Rattle.ct_rules_cluster.specs.Cluster.{Cluster, is_up, node_at}
use Rattle.ct_register.specs.Register.{Register, reading}
use Rattle.ct_register.specs.Lines.{Lines}
use Rattle.ct_register.specs.Marks.{value_at}
use Rattle.ct_register.specs.Stands.{HasCopy, RecordsStand}
use Rattle.ct_promise.specs.Marked.{LineMarks, HasEntry, MarksHoldIn}
use Rattle.ct_promise.specs.Kept.{StandsForSeen, KeepsSeen, HasParent, RecordsHold}
use Rattle.ct_law_record.specs.World.{Stands, NothingIsLost}
use Rattle.ct_law_record.specs.World as law
use Rattle.ct_law_record.specs.Marked as law_marked
use Rattle.ct_law_generation.specs.Shown.{Era, scene, project}
use Rattle.ct_law_generation.proofs.Standing.{OneLine, records_stand}

-- ---- what is asked of the cluster and of the line

-- the era's number is a line's, born with its members, in which every running node is, and every node with a copy; only a
-- location master has an entry
pub record Lined (era : Era) (w : Cluster) (r : Lines) : Type 0 where
  pub real : 1 ≤ era.number
  pub line : OneLine era.number w r.line
  pub entry : (n db : ℕ) (key : List ℕ) → n ≢ master_of era.members key → (state_at db key (node_at n w)).entry ≡ None
  pub born : r.born era.number ≡ true
  pub named : r.members era.number ≡ era.members
  pub knows : (n : ℕ) → is_up n w ≡ true → (node_at n w).members ≡ era.members

-- every world holds with its register and marks
abbrev pub EachHolds : Config → Era → Rules → Cluster → Lines → LineMarks → Type 0
EachHolds c era rules w r marks = (db : ℕ) (key : List ℕ) → law_marked.Holds (scene c era rules db key) (project era.number db key w) (r.records era.number db key) (marks db key)

-- ---- the cluster stands for the registers

stands : (era : Era) (w : Cluster) (r : Lines) → Lined era w r → ((db : ℕ) (key : List ℕ) → Stands (project era.number db key w) (r.records era.number db key)) → RecordsStand w r
stands era w r one each = records_stand era.number w r (λ db key. project era.number db key w) (λ db key. r.records era.number db key) one.real one.line (λ db key. refl) (record {
  shown = λ db key. record { nodes = λ n. refl; mail = refl };
  stand = each;
})

-- ---- the marks of the line

entry_there : {X : Type 0} (e : Option X) (x : X) → e ≡ None → e ≡ Some x → ⊥
entry_there e x none some = absurd (cc)

pub marks_hold : (c : Config) (era : Era) (rules : Rules) (w : Cluster) (r : Lines) (marks : LineMarks) → Lined era w r → EachHolds c era rules w r marks → MarksHoldIn era.number w r marks
marks_hold c era rules w r marks one each = record {
  marked = λ db key born. (each db key).marks.marked;
  copies = λ n db key d present has. (each db key).marks.copies n d has;
  entries = λ n db key e present has. (each db key).marks.entry e (there n db key e has);
  sites = λ n db key e present has. (each db key).marks.sites e (there n db key e has);
  alone = λ n db key e present has. mine n db key e has ∙ ap (λ (ms : List ℕ). master_of ms key) (sym one.named);
  empty = λ n db key present is none. (each db key).marks.empty (subst (λ (m : ℕ). (state_at db key (node_at m w)).entry ≡ None) (is ∙ ap (λ (ms : List ℕ). master_of ms key) one.named) none);
  found = λ db key x is present. (each db key).marks.found x is;
  away = λ db key x born is out. (each db key).marks.away x is (subst (λ (ms : List ℕ). is_among x.holder ms ≡ false) one.named out);
  named = λ n up present. (one.born, one.knows n up ∙ sym one.named);
}
  where
    mine : (n db : ℕ) (key : List ℕ) (e : Entry) → HasEntry w n db key e → n ≡ master_of era.members key
    mine n db key e has = ⊎_elim
        (λ (is : n ≡ master_of era.members key). is)
        (λ (ne : n ≢ master_of era.members key). absurd (entry_there (state_at db key (node_at n w)).entry e (one.entry n db key ne) has))
        (cases_eq n (master_of era.members key))

    there : (n db : ℕ) (key : List ℕ) (e : Entry) → HasEntry w n db key e → HasEntry w (master_of era.members key) db key e
    there n db key e has = subst (λ (m : ℕ). (state_at db key (node_at m w)).entry ≡ Some e) (mine n db key e has) has

-- ---- nothing that was seen is lost

-- no node has seen more versions of a record than there are
abbrev pub SeenWithin : Register → Type 0
SeenWithin t = (n : ℕ) → t.seen n ≤ length t.versions

stands_for_seen : (t : Register) (deleted : ℕ) (place : ℕ → ℕ) (n : ℕ) (c : Option RecCopy) → law.StandsFor t deleted place n c → StandsForSeen t deleted place n c
unfolding StandsForSeen
stands_for_seen t deleted place n None h = h
stands_for_seen t deleted place n (Some c) h = h

pub keeps_seen : (g db : ℕ) (key : List ℕ) (w : Cluster) (r : Lines) → NothingIsLost (project g db key w) (r.records g db key) → KeepsSeen g db key w r
keeps_seen g db key w r h = record {
  deleted = h.0;
  place = h.1;
  emptied = h.2;
  rises = h.3;
  within = h.4;
  stands = λ n line. stands_for_seen (r.records g db key) h.0 h.1 n (state_at db key (node_at n w)).copy (h.5 n);
}

-- ---- what a next generation can take over

-- there are no more versions to take than there are
some_place : (p : ℕ) (versions : List (List ℕ)) → value_at p versions ≡ [] → (q : ℕ) × (value_at q versions ≡ []) × (q ≤ length versions) × ((k : ℕ) → k ≤ p → k ≤ length versions → k ≤ q)
some_place p versions empty = cond_both (nat_le p (length versions)) true false (λ (_ : Bool). (q : ℕ) × (value_at q versions ≡ []) × (q ≤ length versions) × ((k : ℕ) → k ≤ p → k ≤ length versions → k ≤ q))
    (λ t. (p, empty, leb-true p (length versions) t, λ k a b. a))
    (λ f. (length versions, ap reading (take_all (length versions) versions (omega arith)) ∙ sym (ap reading (take_all p versions (let l = leb-false p (length versions) f in omega arith))) ∙ empty, omega arith, λ k a b. b))

pub has_parent : (g db : ℕ) (key : List ℕ) (w : Cluster) (r : Lines) → SeenWithin (r.records g db key) → NothingIsLost (project g db key w) (r.records g db key) → HasParent g db key w r
has_parent g db key w r within h = record {
  some = λ among line n c is has most. (
    h.1 c.header.rsn,
    (own n c has).0,
    record {
      within = h.4 c.header.rsn;
      seen = λ k t. each k (h.1 c.header.rsn) (own n c has).2 (λ d e. h.3 d.header.rsn c.header.rsn (most k d t e));
    },
  );
  none = λ among line none. (let p = some_place h.0 (r.records g db key).versions h.2 in (
    p.0,
    p.1,
    record {
      within = p.2;
      seen = λ k t. p.3 ((r.records g db key).seen k) (absent k (none k t)) (within k);
    },
  ));
}
  where
    own : (n : ℕ) (c : RecCopy) → HasCopy w n db key c → law.StandsFor (r.records g db key) h.0 h.1 n (Some c)
    own n c is = subst (λ (x : Option RecCopy). law.StandsFor (r.records g db key) h.0 h.1 n x) is (h.5 n)

    absent : (k : ℕ) → (state_at db key (node_at k w)).copy ≡ None → (r.records g db key).seen k ≤ h.0
    absent k is = subst (λ (x : Option RecCopy). law.StandsFor (r.records g db key) h.0 h.1 k x) is (h.5 k)

    each : (k p : ℕ) → h.0 ≤ p → ((d : RecCopy) → HasCopy w k db key d → h.1 d.header.rsn ≤ p) → (r.records g db key).seen k ≤ p
    each k p low up = go (state_at db key (node_at k w)).copy refl
      where
        go : (c : Option RecCopy) → (state_at db key (node_at k w)).copy ≡ c → (r.records g db key).seen k ≤ p
        go None e = (let a = absent k e in omega arith)
        go (Some d) e = (let a = (own k d e).1 in let b = up d e in omega arith)

-- ---- all of it

-- where every world holds with its register and marks, the cluster holds with those of the line
pub records_hold : (c : Config) (era : Era) (rules : Rules) (w : Cluster) (r : Lines) (marks : LineMarks) → Lined era w r → ((db : ℕ) (key : List ℕ) → SeenWithin (r.records era.number db key)) → EachHolds c era rules w r marks → RecordsHold era.number w r marks
records_hold c era rules w r marks one within each = record {
  stand = stands era w r one (λ db key. (each db key).stands);
  marked = marks_hold c era rules w r marks one each;
  kept = λ db key. keeps_seen era.number db key w r (each db key).kept;
  parents = λ db key. has_parent era.number db key w r (within db key) (each db key).kept;
}
