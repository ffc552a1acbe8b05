-- What every step does to promises, senders and rounds, and where it tells that a lock ended: at a node that froze under a commit.
use Rattle.std.proofs.Common.{◌≡◌, ◌≢◌, ℕ, suc, ◌+◌, ◌<◌, ◌≤◌, Bool, true, false, cond, List, [], ◌∷◌, ◌++◌, length, map, Option, None, Some, refl, sym, ap, ◌∙◌, subst, arith, inl, inr, ⊎_elim, append-nil}
use Rattle.std.specs.Prelude.{◌⊎◌, nat_lt, slice_get, ◌||◌}
use Rattle.std.specs.List.{AllByRecursion, list_any}
use Rattle.std.proofs.lemmas.Bool.{cases_eq, ltb-true}
use Rattle.ct_lcp2.proofs.Choices.{all_append}
use Rattle.ct_values.specs.declared.config.Config.{Config}
use Rattle.ct_values.specs.declared.config.DbDecl.{DbDecl}
use Rattle.ct_frame.specs.declared.event.Event.{Event}
use Rattle.ct_frame.specs.declared.event.Event.TheVariants as event
use Rattle.ct_frame.specs.declared.event.Note.{Note}
use Rattle.ct_frame.specs.declared.event.Note.TheVariants as note
use Rattle.ct_frame.specs.declared.event.Out.{Out}
use Rattle.ct_frame.specs.declared.event.Out.TheVariants as out
use Rattle.ct_frame.specs.declared.frame.Frame.{Frame}
use Rattle.ct_call.specs.Rules.{Rules}
use Rattle.ct_merge.proofs.Among.{In, in_either}
use Rattle.ct_law_rules_node.specs.NodeLaws.{NodeAscends}
use Rattle.ct_rules_node.specs.Node.{Node, Database, Committing, or_untouched, db_at, name_of, restarted}
use Rattle.ct_rules_node.specs.Turn.{Turn, begins}
use Rattle.ct_rules_node.specs.Steps.{happens}
use Rattle.ct_rules_cluster.specs.Cluster.{Cluster, Sent, is_up, node_at}
use Rattle.ct_rules_cluster.specs.Labels.{Label, Noted, Stopped}
use Rattle.ct_rules_cluster.specs.Steps.{frames_of}
use Rattle.ct_rules_cluster.specs.declared.step.PendingCall.{PendingCall}
use Rattle.ct_promise.specs.Promises.{IsConfig}
use Rattle.ct_law_generation.specs.Shown.{labels_of}
use Rattle.ct_law_run.proofs.Ends.{ends_out, ends_outs}
use Rattle.ct_law_run.proofs.Froze.{Froze, ack, Freeze_turn, freeze_is}
use Rattle.ct_law_plain.proofs.Steady.{IsOwn, Steady}
use Rattle.ct_law_plain.proofs.Parts.{Pushes, Pushed, pushes_are}
use Rattle.ct_law_plain.proofs.SteadyEvents.{IsFollowed, happens_steady}
use Rattle.ct_law_acts.proofs.Steps.{is_note, frames_in, Took_turn, Only_stopped, Stood_still, Acts}
use Rattle.ct_law_acts.proofs.Counted.{is_round, one_round, none_one, one_after, aside_none, aside_out, in_two, noted_in, stopped_out, IsUsual, all_usual, usual_none, usual_sent, own_ended}

-- ---- one turn

-- a lock of this key ended at the node as it froze, since the commit of a database of that name waited there
pub record Froze_under (c : Config) (x y : Node) (key : List ℕ) : Type 0 where
  pub g : ℕ
  pub h : ℕ
  pub froze : Froze c g h x y
  pub db : ℕ
  pub commit : Committing
  pub waits : (db_at db x).commit ≡ Some commit
  pub named : key ≡ name_of c db

-- what a turn of node n does
pub record Turn_does (c : Config) (n : ℕ) (x : Node) (u : Turn) : Type 0 where
  pub promise : x.promise ≤ u.node.promise
  pub sent : (f : Frame) → In f (map (λ s. s.frame) (frames_of u.outs)) → f.sender ≡ n
  pub rounds : (pend : List PendingCall) → one_round (labels_of n pend u.outs) ≡ true
  pub ended : (key : List ℕ) → In (out.Note (note.Ended 0 key)) u.outs → Froze_under c x u.node key

steady_does : (c : Config) (n : ℕ) (x : Node) (u : Turn) → Steady n (begins x) u → Turn_does c n x u
steady_does c n x u s = record {
  promise = (let e = s.promise in omega arith);
  sent = λ f i. usual_sent n s.outs.0 (all_usual n s.outs.0 s.outs.2) f (subst (λ (l : List Out). In f (map (λ (t : Sent). t.frame) (frames_of l))) s.outs.1 i);
  rounds = λ pend. subst (λ (l : List Out). one_round (labels_of n pend l) ≡ true) (sym s.outs.1) (none_one _ (usual_none n n pend s.outs.0 (all_usual n s.outs.0 s.outs.2)));
  ended = λ key i. absurd (own_ended n s.outs.0 0 key s.outs.2 (subst (In (out.Note (note.Ended 0 key))) s.outs.1 i));
}

pushed_does : (c : Config) (n : ℕ) (x : Node) (u : Turn) → Pushed n (begins x) u → Turn_does c n x u
unfolding labels_of frames_of one_round is_round
pushed_does c n x u s =
    let g = s.outs.0 in let members = s.outs.1 in let p = s.outs.2 in let q = s.outs.3 in let more = s.outs.4 in
    record {
      promise = (let e = s.promise in omega arith);
      sent = λ f i. usual_sent n more (all_usual n more s.outs.6) f (subst (λ (l : List Out). In f (map (λ (t : Sent). t.frame) (frames_of l))) s.outs.5 i);
      rounds = λ pend. subst (λ (l : List Out). one_round (labels_of n pend l) ≡ true) (sym s.outs.5) (ap (λ (b : Bool). cond b false true) (usual_none n n pend more (all_usual n more s.outs.6)));
      ended = λ key i. absurd (no_end more s.outs.6 key (subst (In (out.Note (note.Ended 0 key))) s.outs.5 i));
    }
  where
    no_end : {g p q : ℕ} {members : List ℕ} (more : List Out) → AllByRecursion (IsOwn n) more → (key : List ℕ) → In (out.Note (note.Ended 0 key)) (out.Note (note.Round g members p q) ∷ more) → ⊥
    no_end more own key (inl e) = absurd (cc)
    no_end more own key (inr i) = own_ended n more 0 key own i

-- ---- a Freeze

ends_in : (c : Config) (i : ℕ) (ds : List Database) (key : List ℕ) → In (out.Note (note.Ended 0 key)) (ends_outs c i ds) → (k : ℕ) × (z : Committing) × ((or_untouched (slice_get ds k)).commit ≡ Some z) × (key ≡ name_of c (i + k))
unfolding or_untouched
ends_in c i [] key j = absurd j
ends_in c i (d ∷ ds) key j = by d.commit refl j (ends_in c (i + 1) ds key)
  where
    later : ((k : ℕ) × (z : Committing) × ((or_untouched (slice_get ds k)).commit ≡ Some z) × (key ≡ name_of c ((i + 1) + k))) → (k : ℕ) × (z : Committing) × ((or_untouched (slice_get (d ∷ ds) k)).commit ≡ Some z) × (key ≡ name_of c (i + k))
    later h = (suc h.0, h.1, h.2, h.3 ∙ ap (name_of c) (let e : (i + 1) + h.0 ≡ i + suc h.0 = omega arith in e))

    by : (o : Option Committing) → d.commit ≡ o → In (out.Note (note.Ended 0 key)) (ends_out c i o ++ ends_outs c (i + 1) ds) → (In (out.Note (note.Ended 0 key)) (ends_outs c (i + 1) ds) → (k : ℕ) × (z : Committing) × ((or_untouched (slice_get ds k)).commit ≡ Some z) × (key ≡ name_of c ((i + 1) + k))) →
        (k : ℕ) × (z : Committing) × ((or_untouched (slice_get (d ∷ ds) k)).commit ≡ Some z) × (key ≡ name_of c (i + k))
    by None e j rest = later (rest j)
    by (Some z) e (inl f) rest = absurd (cc)
    by (Some z) e (inr (inl f)) rest = (0, z, e, (let k : name_of c i ≡ key = cc in sym k ∙ ap (name_of c) (let l : i ≡ i + 0 = omega arith in l)))
    by (Some z) e (inr (inr j)) rest = later (rest j)

-- what a node does that froze is usual
acks_usual : (n g h : ℕ) (more : List Out) → (more ≡ []) ⊎ (more ≡ ack n g h ∷ []) → AllByRecursion (IsUsual n) more
unfolding IsUsual
acks_usual n g h more (inl e) = subst (AllByRecursion (IsUsual n)) (sym e) tt
acks_usual n g h more (inr e) = subst (AllByRecursion (IsUsual n)) (sym e) (refl, tt)

ends_usual : (c : Config) (n i : ℕ) (ds : List Database) → AllByRecursion (IsUsual n) (ends_outs c i ds)
unfolding IsUsual
ends_usual c n i [] = tt
ends_usual c n i (d ∷ ds) = all_append (IsUsual n) (ends_out c i d.commit) (ends_outs c (i + 1) ds) (one d.commit) (ends_usual c n (i + 1) ds)
  where
    one : (o : Option Committing) → AllByRecursion (IsUsual n) (ends_out c i o)
    one None = tt
    one (Some z) = (tt, (tt, tt))

ack_ended : (n g h : ℕ) (key : List ℕ) (more : List Out) → (more ≡ []) ⊎ (more ≡ ack n g h ∷ []) → In (out.Note (note.Ended 0 key)) more → ⊥
ack_ended n g h key more (inl e) i = subst (In (out.Note (note.Ended 0 key))) e i
ack_ended n g h key more (inr e) i = by (subst (In (out.Note (note.Ended 0 key))) e i)
  where
    by : In (out.Note (note.Ended 0 key)) (ack n g h ∷ []) → ⊥
    by (inl f) = absurd (cc)
    by (inr j) = j

freeze_does : (c : Config) (n g h : ℕ) (x : Node) (u : Turn) → x.promise < g → Freeze_turn c n g h x u → Turn_does c n x u
unfolding db_at
freeze_does c n g h x u newer t =
    let all : AllByRecursion (IsUsual n) u.outs = subst (AllByRecursion (IsUsual n)) (sym t.outs) (all_append (IsUsual n) (ends_outs c 0 x.dbs) t.more (ends_usual c n 0 x.dbs) (acks_usual n g h t.more t.acks)) in
    record {
      promise = (let e = t.node.promise in omega arith);
      sent = usual_sent n u.outs all;
      rounds = λ pend. none_one _ (usual_none n n pend u.outs all);
      ended = λ key i. ⊎_elim
          (λ (j : In (out.Note (note.Ended 0 key)) (ends_outs c 0 x.dbs)). (let k = ends_in c 0 x.dbs key j in
          record { g = g; h = h; froze = t.node; db = k.0; commit = k.1; waits = k.2; named = k.3 ∙ ap (name_of c) (let z : 0 + k.0 ≡ k.0 = omega arith in z) }))
          (λ (j : In (out.Note (note.Ended 0 key)) t.more). absurd (ack_ended n g h key t.more t.acks j))
          (in_either (ends_outs c 0 x.dbs) t.more (out.Note (note.Ended 0 key)) (subst (In (out.Note (note.Ended 0 key))) t.outs i));
    }

-- whatever comes to a node in order
pub turn_does : (c : Config) (rules : Rules) (n : ℕ) (x : Node) (e : Event) → NodeAscends x → 0 < length x.dbs → Turn_does c n x (happens c rules n (begins x) e)
turn_does c rules n x e order some = by (happens_steady c rules n (begins x) e)
  where
    by : Steady n (begins x) (happens c rules n (begins x) e) ⊎ ((f : Frame) × (e ≡ event.Arrive f) × IsFollowed c (begins x) f) ⊎ Pushes n (begins x) (happens c rules n (begins x) e) → Turn_does c n x (happens c rules n (begins x) e)
    by (inl s) = steady_does c n x _ s
    by (inr (inl k)) = subst (λ (y : Event). Turn_does c n x (happens c rules n (begins x) y)) (sym k.1)
        (freeze_does c n k.0.generation k.0.sender x _ (ltb-true x.promise k.0.generation k.2.newer) (freeze_is c rules n x k.0 k.2.members order some k.2.freeze k.2.sound k.2.newer))
    by (inr (inr p)) = subst (λ (u : Turn). Turn_does c n x u) (sym p.3) (pushed_does c n x _ (pushes_are n p.0 p.1 p.2 (begins x)))

-- ---- every step

-- what a step of the cluster does
pub record Step_does (c : Config) (w v : Cluster) (ls : List Label) : Type 0 where
  pub actor : ℕ
  pub others : (k : ℕ) → k ≢ actor → node_at k v ≡ node_at k w
  pub promise : (node_at actor w).promise ≤ (node_at actor v).promise
  pub sent : (f : Frame) → In f (frames_in v) → In f (frames_in w) ⊎ (is_up f.sender w ≡ true)
  pub rounds : one_round ls ≡ true
  pub ended : (m : ℕ) (key : List ℕ) → In (Noted m (note.Ended 0 key)) ls → Froze_under c (node_at m w) (node_at m v) key
  pub stops : (m : ℕ) → In (Stopped m) ls → node_at m v ≡ restarted c (node_at m w)

took_does : (c : Config) (rules : Rules) (w v : Cluster) (ls : List Label) (t : Took_turn c rules w v ls) → NodeAscends (node_at t.node w) → 0 < length (node_at t.node w).dbs → Step_does c w v ls
unfolding is_note
took_does c rules w v ls t order some =
    let n = t.node in
    let x : Node = node_at n w in
    let u : Turn = happens c rules n (begins x) t.event in
    let d : Turn_does c n x u = turn_does c rules n x t.event order some in
    record {
      actor = n;
      others = t.others;
      promise = subst (λ (y : Node). x.promise ≤ y.promise) (sym t.here) d.promise;
      sent = λ f i. ⊎_elim
          (λ (j : In f (frames_in w)). inl j)
          (λ (j : In f (map (λ s. s.frame) (frames_of u.outs))). inr (subst (λ (k : ℕ). is_up k w ≡ true) (sym (d.sent f j)) t.up))
          (in_either (frames_in w) (map (λ s. s.frame) (frames_of u.outs)) f (subst (In f) t.frames i));
      rounds = subst (λ (l : List Label). one_round l ≡ true) (sym t.labels) (one_after t.first (labels_of n t.pend u.outs) (aside_none t.first t.aside) (d.rounds t.pend));
      ended = λ m key i. ⊎_elim
          (λ (j : In (Noted m (note.Ended 0 key)) t.first). absurd (aside_out t.first (Noted m (note.Ended 0 key)) refl t.aside j))
          (λ (j : In (Noted m (note.Ended 0 key)) (labels_of n t.pend u.outs)). (let k = noted_in n t.pend u.outs m (note.Ended 0 key) j in
          subst (λ (l : ℕ). Froze_under c (node_at l w) (node_at l v) key) (sym k.0) (subst (λ (y : Node). Froze_under c x y key) (sym t.here) (d.ended key k.1))))
          (in_two t.first (labels_of n t.pend u.outs) (Noted m (note.Ended 0 key)) (subst (In (Noted m (note.Ended 0 key))) t.labels i));
      stops = λ m i. ⊎_elim
          (λ (j : In (Stopped m) t.first). absurd (aside_out t.first (Stopped m) refl t.aside j))
          (λ (j : In (Stopped m) (labels_of n t.pend u.outs)). absurd (stopped_out n t.pend u.outs m j))
          (in_two t.first (labels_of n t.pend u.outs) (Stopped m) (subst (In (Stopped m)) t.labels i));
    }

stopped_does : (c : Config) (w v : Cluster) (ls : List Label) → Only_stopped c w v ls → Step_does c w v ls
unfolding one_round is_round restarted
stopped_does c w v ls t = record {
  actor = t.node;
  others = t.others;
  promise = subst (λ (y : Node). (node_at t.node w).promise ≤ y.promise) (sym t.here) (omega arith);
  sent = λ f i. inl (subst (In f) t.frames i);
  rounds = subst (λ (l : List Label). one_round l ≡ true) (sym t.labels) refl;
  ended = λ m key i. absurd (no_end m key (subst (In (Noted m (note.Ended 0 key))) t.labels i));
  stops = λ m i. (let e = is_it m (subst (In (Stopped m)) t.labels i) in subst (λ (k : ℕ). node_at k v ≡ restarted c (node_at k w)) e t.here);
}
  where
    no_end : (m : ℕ) (key : List ℕ) → In (Noted m (note.Ended 0 key)) (Stopped t.node ∷ []) → ⊥
    no_end m key (inl e) = absurd (cc)
    no_end m key (inr j) = j

    is_it : (m : ℕ) → In (Stopped m) (Stopped t.node ∷ []) → t.node ≡ m
    is_it m (inl e) = cc
    is_it m (inr j) = absurd j

still_does : (c : Config) (w v : Cluster) (ls : List Label) → Stood_still w v ls → Step_does c w v ls
unfolding is_note
still_does c w v ls t = record {
  actor = 0;
  others = λ k ne. t.nodes k;
  promise = subst (λ (y : Node). (node_at 0 w).promise ≤ y.promise) (sym (t.nodes 0)) (omega arith);
  sent = λ f i. inl (subst (In f) t.frames i);
  rounds = none_one ls (aside_none ls t.aside);
  ended = λ m key i. absurd (aside_out ls (Noted m (note.Ended 0 key)) refl t.aside i);
  stops = λ m i. absurd (aside_out ls (Stopped m) refl t.aside i);
}

-- whatever step is taken, where all nodes that run are in order
pub acts_do : (c : Config) (rules : Rules) (w v : Cluster) (ls : List Label) → ((n : ℕ) → is_up n w ≡ true → NodeAscends (node_at n w) × (0 < length (node_at n w).dbs)) → Acts c rules w v ls → Step_does c w v ls
acts_do c rules w v ls order (inl t) = took_does c rules w v ls t (order t.node t.up).0 (order t.node t.up).1
acts_do c rules w v ls order (inr (inl t)) = stopped_does c w v ls t
acts_do c rules w v ls order (inr (inr t)) = still_does c w v ls t
