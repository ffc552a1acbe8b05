-- A cluster lives at the opening: the worlds of all records are at their opening, and nothing was sent.
use Rattle.std.proofs.Common.{◌≡◌, ℕ, zero, suc, ◌+◌, true, cond, List, [], ◌∷◌, Some, None, refl, sym, ap, ◌∙◌, subst, arith, eqb-true}
use Rattle.std.specs.Prelude.{nat_eq, nat_lt}
use Rattle.std.specs.List.{list_all}
use Rattle.ct_values.specs.declared.client.ClientOp.TheVariants as op
use Rattle.ct_values.specs.declared.config.Config.{Config}
use Rattle.ct_frame.specs.Fields.{is_node, ascends}
use Rattle.ct_call.specs.Rules.{Rules}
use Rattle.ct_rules.specs.State.{rsn_of}
use Rattle.ct_rules_node.specs.Node as node
use Rattle.ct_rules_node.specs.Node.{Node, Database, Committing, master_of, is_among}
use Rattle.ct_rules_cluster.specs.Cluster as cluster
use Rattle.ct_rules_cluster.specs.Cluster.{everyone, node_at, is_up}
use Rattle.ct_register.specs.Lines
use Rattle.ct_register.proofs.Formed.{legal_is_formed}
use Rattle.ct_register.proofs.Opened.{opened_below, opened_db}
use Rattle.ct_register.proofs.Small.{none_not_some}
use Rattle.ct_promise.specs.Promises.{IsConfig}
use Rattle.ct_promise.specs.Born.{has_pushed}
use Rattle.ct_promise.proofs.Opened.{everyone_is}
use Rattle.ct_law_record.specs.World as law
use Rattle.ct_law_record.proofs.Law.{bare_ghost, bare_holds}
use Rattle.ct_law_record.proofs.MarkedLaw.{bare_marks}
use Rattle.ct_law_generation.specs.Shown.{scene, view, mails}
use Rattle.ct_law_generation.proofs.Pending.{Callers}
use Rattle.ct_law_generation.proofs.Forming.{Is_formed}
use Rattle.ct_law_generation.proofs.Staying.{NodeStays}
use Rattle.ct_law_generation.proofs.Configured.{all_real}
use Rattle.ct_law_generation.proofs.Opening.{first_era, first_is_era, is_member, below_everyone, opened_world, opened_stays}
use Rattle.ct_law_run.proofs.Ages.{Ages, era_of, LineLives, LinesLive}
use Rattle.ct_law_run.proofs.Lives.{Lives, NodeLives, LeadSays, PhaseSays}
use Rattle.ct_law_run.proofs.Apart.{formed_as}
use Rattle.ct_law_run.proofs.Faces.{OpenedLives}

-- nothing is known of any call
no_callers : Callers
no_callers call = (0, op.Unlock 0 [])

module _ (c : Config) where
  abbrev r : Lines.Lines
  r = Lines.opening c

  abbrev pub opened_ages : Ages
  opened_ages = record { worlds = λ g db key. law.opening; ghosts = λ g db key. bare_ghost (master_of (r.members 1) key); tables = λ g. [] }

  in_line_one : (n : ℕ) → nat_lt n c.nodes ≡ true → r.line n ≡ 1
  in_line_one n lt = ap (λ b. cond b 1 0) lt

-- ---- its lines

first_line : (c : Config) (rules : Rules) → IsConfig c → LineLives c rules (cluster.opening c) (Lines.opening c) (opened_ages c) 1
unfolding cluster.opening mails rsn_of
first_line c rules is = record {
  real = subst (λ (ms : List ℕ). list_all is_node ms ≡ true) (sym (everyone_is c)) (all_real c is);
  ascend = subst (λ (ms : List ℕ). ascends nat_lt ms ≡ true) (sym (everyone_is c)) (first_is_era c (all_real c is)).ascend;
  there = subst (λ (ms : List ℕ). (n : ℕ) → is_among n ms ≡ true → nat_lt n c.nodes ≡ true) (sym (everyone_is c)) (below_everyone c);
  world = λ db key. bare_holds (scene c (era_of (Lines.opening c) (opened_ages c) 1) rules db key) (λ _. true) (λ _. 1) (λ _. None) (record { some = λ n. omega arith; above = λ n w e. absurd (cc) });
  mail = λ db key. refl;
  joined = λ db key n. refl;
  low = λ db key n e. omega arith;
  rows_low = refl;
  order = refl;
}

opened_lines : (c : Config) (rules : Rules) → IsConfig c → LinesLive c rules (cluster.opening c) (Lines.opening c) (opened_ages c)
unfolding cluster.opening mails
opened_lines c rules is = record {
  first = refl;
  none = refl;
  line = λ g b. subst (λ (j : ℕ). LineLives c rules (cluster.opening c) (Lines.opening c) (opened_ages c) j) (sym (eqb-true g 1 b)) (first_line c rules is);
  silent = λ g db key b. refl;
  uninstalled = λ g n b. refl;
  unowned = λ g db key b. refl;
}

-- ---- its nodes

uncommitted : (c : Config) (n db : ℕ) (k : Committing) → nat_lt n c.nodes ≡ true → (node.db_at db (node.opening c (everyone c))).commit ≡ Some k → ⊥
unfolding node.untouched
uncommitted c n db k lt e = none_not_some (ap (λ (d : Database). d.commit) (sym (opened_db c n db)) ∙ ap (λ (x : Node). (node.db_at db x).commit) (opened_below c n lt) ∙ e)

opened_node : (c : Config) (rules : Rules) (n : ℕ) → nat_lt n c.nodes ≡ true → NodeLives c rules no_callers (cluster.opening c) (Lines.opening c) (opened_ages c) n (node.opening c (everyone c))
unfolding node.opening node.is_present_in node.is_present has_pushed LeadSays PhaseSays cluster.opening
opened_node c rules n lt =
    let x : Node = node.opening c (everyone c) in
    let s : NodeStays c (first_era c) rules no_callers 0 n x = subst (λ (y : Node). NodeStays c (first_era c) rules no_callers 0 n y) (opened_below c n lt) ((opened_stays c rules no_callers).nodes n (is_member c n lt)) in
    let one : (Lines.opening c).line n ≡ 1 = in_line_one c n lt in
    let ms : everyone c ≡ (Lines.opening c).members ((Lines.opening c).line n) = sym (everyone_is c) ∙ ap (Lines.opening c).members (sym one) in
    let formed : (db : ℕ) (key : List ℕ) → Is_formed (scene c (era_of (Lines.opening c) (opened_ages c) ((Lines.opening c).line n)) rules db key) n (view db key x)
    = λ db key. formed_as c rules db n key (everyone c) _ (view db key x) ms (s.formed db key) in record {
      size = s.size;
      known = s.known;
      line = sym one;
      base = sym one;
      older = (let e : (Lines.opening c).pline n ≡ 1 = one in omega arith);
      given = omega arith;
      named = λ ne. (ap (λ g. nat_eq g 1) one, ms, subst (λ (l : List ℕ). is_among n l ≡ true) ms (is_member c n lt));
      done = λ two. absurd (omega arith);
      promises = λ g b among. (let e : g ≡ 1 = eqb-true g 1 b in omega arith);
      waits = s.waits;
      formed = formed;
      commits = λ db k e. absurd (uncommitted c n db k lt e);
      persist = λ db k e. absurd (uncommitted c n db k lt e);
      serving = λ db k e. absurd (uncommitted c n db k lt e);
      phase = (
        λ none. absurd (omega arith),
        record { present = ap (λ g. nat_eq 1 g) one; knows = ms; promise = sym one; lead = λ _. refl; size = s.size; known = record { order = s.known.order; dbs = s.known.dbs }; waits = s.waits; serves = λ e. refl; formed = formed },
        λ db key. ap (λ (w : law.World). w.nodes n) (opened_world c db key) ∙ ap (view db key) (opened_below c n lt),
        λ ne. absurd (ne one),
      );
      lead = tt;
      replies = tt;
    }

opened_cluster : (c : Config) (rules : Rules) → IsConfig c → Lives c rules (cluster.opening c) (Lines.opening c)
unfolding cluster.opening is_up node_at
opened_cluster c rules is = record {
  who = no_callers;
  ages = opened_ages c;
  formed = legal_is_formed c rules [] (Lines.opening c) refl;
  last = refl;
  holder = refl;
  size = (opened_stays c rules no_callers).size;
  up = λ n up. below_everyone c n ((opened_stays c rules no_callers).up n up);
  lines = opened_lines c rules is;
  nodes = λ n lt. subst (λ (x : Node). NodeLives c rules no_callers (cluster.opening c) (Lines.opening c) (opened_ages c) n x) (sym (opened_below c n lt)) (opened_node c rules n lt);
  outside = λ n out. ap (λ b. cond b 1 0) out;
  mail = tt;
  bare = λ g db. (refl, refl, λ n. refl);
}

pub opened_lives : OpenedLives
unfolding opened_cluster
opened_lives c rules is = (opened_cluster c rules is, λ i g db key. bare_marks (master_of ((Lines.opening c).members 1) key) i)
