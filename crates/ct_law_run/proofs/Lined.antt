-- A cluster that lives stands for its registers, and the marks of all lines hold in it.
use Rattle.std.proofs.Common.{◌≡◌, ◌≢◌, ℕ, zero, suc, ◌≤◌, true, false, List, [], ◌∷◌, length, Some, None, ⊎_elim, inl, inr, refl, sym, ap, ◌∙◌, subst, arith, eqb-true}
use Rattle.std.specs.Prelude.{nat_eq, nat_lt, slice_get, is_some}
use Rattle.std.proofs.lemmas.Bool.{cases_eq, and_parts, ltb-false, cases_Bool}
use Rattle.ct_values.specs.declared.config.Config.{Config}
use Rattle.ct_frame.specs.declared.header.RecCopy.{RecCopy}
use Rattle.ct_call.specs.Rules.{Rules}
use Rattle.ct_rules.specs.State.{nothing_kept}
use Rattle.ct_rules.specs.declared.state.Entry.{Entry}
use Rattle.ct_rules.specs.declared.state.RecState.{RecState}
use Rattle.ct_rules_node.specs.Node.{Node, Phase, Idle, Serving, Installed, Freezing, Frozen, db_at, state_at, or_nothing, or_untouched, untouched, is_present, is_present_in, is_serving, is_among, master_of}
use Rattle.ct_rules_node.specs.Rounds.{frozen_state}
use Rattle.ct_store.specs.Map.{look}
use Rattle.ct_rules_cluster.specs.Cluster.{Cluster, absent, or_absent, node_at}
use Rattle.ct_register.specs.Lines.{Lines}
use Rattle.ct_register.specs.Stands.{RecordsStand}
use Rattle.ct_promise.specs.Marked.{HasEntry, MarksHoldIn}
use Rattle.ct_law_record.specs.Marked as law_marked
use Rattle.ct_law_record.specs.World.{View}
use Rattle.ct_law_record.proofs.Worlds.{WorldInv}
use Rattle.ct_law_record.proofs.Law
use Rattle.ct_law_record.proofs.MarkedRun
use Rattle.ct_law_generation.specs.Shown.{scene, view}
use Rattle.ct_law_generation.proofs.Pending.{Callers}
use Rattle.ct_law_run.specs.Records.{GenerationsStand}
use Rattle.ct_law_run.proofs.Ages.{Ages, era_of, Rests}
use Rattle.ct_law_run.proofs.Lives.{Lives, PhaseSays}
use Rattle.ct_law_run.proofs.Faces.{marks_in_all, EntriesAtHome, LivesStand}

-- what a node has of a record: nothing where it is in no line, and else the copy and the lock that the world of its line has
pub record At_line (r : Lines) (a : Ages) (n db : ℕ) (key : List ℕ) (s : RecState) : Type 0 where
  pub none : r.line n ≡ 0 → (s.copy ≡ None) × (s.locked ≡ None)
  pub some : r.line n ≢ 0 → (s.copy ≡ ((a.worlds (r.line n) db key).nodes n).state.copy) × (s.locked ≡ ((a.worlds (r.line n) db key).nodes n).state.locked)

emptied : (db : ℕ) (key : List ℕ) (x : Node) → (db_at db x).records ≡ [] → state_at db key x ≡ nothing_kept
unfolding state_at or_nothing
emptied db key x e = ap (λ m. or_nothing (look key m)) e

nothing_there : (db : ℕ) (key : List ℕ) (x : Node) → (db_at db x).records ≡ [] → ((state_at db key x).copy ≡ None) × ((state_at db key x).locked ≡ None)
nothing_there db key x e = (let s = emptied db key x e in (ap (λ (y : RecState). y.copy) s, ap (λ (y : RecState). y.locked) s))

rested : (db : ℕ) (key : List ℕ) (v : View) (x : Node) → Rests db key v x → ((state_at db key x).copy ≡ v.state.copy) × ((state_at db key x).locked ≡ v.state.locked)
unfolding frozen_state
rested db key v x h = (ap (λ (y : RecState). y.copy) h.state, ap (λ (y : RecState). y.locked) h.state)

viewed : (db : ℕ) (key : List ℕ) (v : View) (x : Node) → v ≡ view db key x → ((state_at db key x).copy ≡ v.state.copy) × ((state_at db key x).locked ≡ v.state.locked)
viewed db key v x e = (ap (λ (y : View). y.state.copy) (sym e), ap (λ (y : View). y.state.locked) (sym e))

phase_at : (c : Config) (rules : Rules) (who : Callers) (w : Cluster) (r : Lines) (a : Ages) (n db : ℕ) (key : List ℕ) (x : Node) (p : Phase) → PhaseSays c rules who w r a n x p → At_line r a n db key (state_at db key x)
unfolding PhaseSays
phase_at c rules who w r a n db key x Idle h = record { none = λ _. nothing_there db key x (h.1 db); some = λ ne. absurd (ne h.0) }
phase_at c rules who w r a n db key x (Freezing g l) h = record { none = λ z. nothing_there db key x (h.4 z db); some = λ ne. rested db key _ x (h.5 ne db key) }
phase_at c rules who w r a n db key x (Frozen g) h = record { none = λ z. nothing_there db key x (h.3 z db); some = λ ne. rested db key _ x (h.4 ne db key) }
phase_at c rules who w r a n db key x Serving h = record { none = λ z. absurd (h.0 z); some = λ ne. viewed db key _ x (h.2 db key) }
phase_at c rules who w r a n db key x Installed h = record { none = λ z. absurd (h.0 z); some = λ ne. viewed db key _ x (h.2 db key) }

past_all : (ns : List Node) (n : ℕ) → length ns ≤ n → or_absent (slice_get ns n) ≡ absent
unfolding or_absent
past_all [] n l = refl
past_all (y ∷ ys) zero l = absurd (omega arith)
past_all (y ∷ ys) (suc n) l = past_all ys n (omega arith)

absent_nothing : (db : ℕ) (key : List ℕ) → ((state_at db key absent).copy ≡ None) × ((state_at db key absent).locked ≡ None)
unfolding absent state_at db_at or_untouched or_nothing untouched
absent_nothing db key = (refl, refl)

module _ (c : Config) (rules : Rules) (w : Cluster) (r : Lines) (h : Lives c rules w r) where
  -- who is no node of the configuration is absent
  pub beyond : (n : ℕ) → nat_lt n c.nodes ≡ false → node_at n w ≡ absent
  unfolding node_at
  beyond n e = past_all w.nodes n (let l = ltb-false n c.nodes e in let s = h.size in omega arith)

  pub at_line : (n db : ℕ) (key : List ℕ) → At_line r h.ages n db key (state_at db key (node_at n w))
  at_line n db key = ⊎_elim
      (λ (e : nat_lt n c.nodes ≡ true). phase_at c rules h.who w r h.ages n db key (node_at n w) (node_at n w).phase (h.nodes n e).phase)
      (λ (e : nat_lt n c.nodes ≡ false). record {
        none = λ _. subst (λ (x : Node). ((state_at db key x).copy ≡ None) × ((state_at db key x).locked ≡ None)) (sym (beyond n e)) (absent_nothing db key);
        some = λ ne. absurd (ne (h.outside n e));
      })
      (cases_Bool (nat_lt n c.nodes))

  born_line : (n : ℕ) → r.line n ≢ 0 → r.born (r.line n) ≡ true
  born_line n ne = (let s = h.formed.order.stays n ne in ap r.born s ∙ h.formed.order.real n (λ z. ne (s ∙ z)))

  inv : (n db : ℕ) (key : List ℕ) → r.line n ≢ 0 → WorldInv (scene c (era_of r h.ages (r.line n)) rules db key) (h.ages.worlds (r.line n) db key) (r.records (r.line n) db key) (h.ages.ghosts (r.line n) db key)
  inv n db key ne = (h.lines.line (r.line n) (born_line n ne)).world db key

  in_line : (n db : ℕ) (key : List ℕ) (d : RecCopy) → (state_at db key (node_at n w)).copy ≡ Some d → r.line n ≢ 0
  in_line n db key d has z = absurd (let e = sym ((at_line n db key).none z).0 ∙ has in cc)

  there : (n db : ℕ) (key : List ℕ) (d : RecCopy) → (state_at db key (node_at n w)).copy ≡ Some d → ((h.ages.worlds (r.line n) db key).nodes n).state.copy ≡ Some d
  there n db key d has = sym ((at_line n db key).some (in_line n db key d has)).0 ∙ has

  pub stands : RecordsStand w r
  stands = record {
    locks = λ n db key up. (
      (λ locked. (let ne : r.line n ≢ 0 = (λ z. absurd (let e = sym (ap is_some ((at_line n db key).none z).1) ∙ locked in cc)) in
          (ne, ((Law.stands _ _ _ _ (inv n db key ne)).locks n).0 (sym (ap is_some ((at_line n db key).some ne).1) ∙ locked)))),
      (λ owns. ap is_some ((at_line n db key).some owns.0).1 ∙ ((Law.stands _ _ _ _ (inv n db key owns.0)).locks n).1 owns.1),
    );
    masters = λ n db key d has own. (let ne = in_line n db key d has in (ne, (Law.stands _ _ _ _ (inv n db key ne)).newest n d (there n db key d has) own));
    one_master = λ n m db key d e up line has own has_e own_e. (let ne = in_line n db key d has in
        (Law.stands _ _ _ _ (inv n db key ne)).only m n e d (subst (λ (g : ℕ). ((h.ages.worlds g db key).nodes m).state.copy ≡ Some e) line (there m db key e has_e)) own_e (there n db key d has) own);
    readers = λ n db key d has flags. (let ne = in_line n db key d has in let k = (Law.stands _ _ _ _ (inv n db key ne)).readers n d (there n db key d has) flags in (ne, k.0, k.1));
  }

  -- who is present in a generation is in its line, and its world has all that the node has
  Present_at : ℕ → ℕ → Type 0
  Present_at g n = (r.line n ≡ g) × (r.line n ≢ 0) × (nat_lt n c.nodes ≡ true) × ((db : ℕ) (key : List ℕ) → (h.ages.worlds (r.line n) db key).nodes n ≡ view db key (node_at n w))

  phase_present : (n : ℕ) (x : Node) (p : Phase) → is_present p ≡ true → PhaseSays c rules h.who w r h.ages n x p → (r.line n ≢ 0) × ((db : ℕ) (key : List ℕ) → (h.ages.worlds (r.line n) db key).nodes n ≡ view db key x)
  unfolding PhaseSays is_present
  phase_present n x Idle e k = absurd (cc)
  phase_present n x (Freezing g l) e k = absurd (cc)
  phase_present n x (Frozen g) e k = absurd (cc)
  phase_present n x Serving e k = (k.0, k.2)
  phase_present n x Installed e k = (k.0, k.2)

  absent_idle : (g : ℕ) → is_present_in g absent ≡ true → ⊥
  unfolding is_present_in absent is_present
  absent_idle g e = absurd (cc)

  present_at : (g n : ℕ) → is_present_in g (node_at n w) ≡ true → Present_at g n
  unfolding is_present_in Present_at
  present_at g n e = ⊎_elim
      (λ (i : nat_lt n c.nodes ≡ true). (let p = and_parts (is_present (node_at n w).phase) (nat_eq (node_at n w).generation g) e in
      let k = phase_present n (node_at n w) (node_at n w).phase p.0 (h.nodes n i).phase in
      (sym (h.nodes n i).line ∙ eqb-true (node_at n w).generation g p.1, k.0, i, k.1)))
      (λ (o : nat_lt n c.nodes ≡ false). absurd (absent_idle g (subst (λ (x : Node). is_present_in g x ≡ true) (beyond n o) e)))
      (cases_Bool (nat_lt n c.nodes))

  -- the law of the world of a record, in a line in which a node is present
  marks_at : (g n db : ℕ) (key : List ℕ) → Present_at g n → law_marked.MarksHold (scene c (era_of r h.ages g) rules db key) (h.ages.worlds g db key) (r.records g db key) (marks_in_all h.ages g db key)
  unfolding Present_at
  marks_at g n db key k = MarkedRun.marks_hold _ _ _ _ ((h.lines.line g (subst (λ (j : ℕ). r.born j ≡ true) k.0 (born_line n k.1))).world db key)

  -- the world's view of a node that is present is what the node has
  viewed_at : (g n db : ℕ) (key : List ℕ) → Present_at g n → (h.ages.worlds g db key).nodes n ≡ view db key (node_at n w)
  unfolding Present_at
  viewed_at g n db key k = subst (λ (j : ℕ). (h.ages.worlds j db key).nodes n ≡ view db key (node_at n w)) k.0 (k.3 db key)

  -- a node's entry is that of the record's location master
  own_entry : EntriesAtHome w → (g n db : ℕ) (key : List ℕ) (e : Entry) → Present_at g n → HasEntry w n db key e → n ≡ master_of (r.members g) key
  unfolding Present_at
  own_entry home g n db key e k has =
      let ms = ((h.nodes n k.2).named k.1).1 ∙ ap r.members k.0 in
      ⊎_elim (λ (i : n ≡ master_of (node_at n w).members key). i ∙ ap (λ (l : List ℕ). master_of l key) ms)
      (λ (ne : n ≢ master_of (node_at n w).members key). absurd (let f = sym (home n db key ne) ∙ has in cc)) (cases_eq n (master_of (node_at n w).members key))

  entry_in : EntriesAtHome w → (g n db : ℕ) (key : List ℕ) (e : Entry) → Present_at g n → HasEntry w n db key e → ((h.ages.worlds g db key).nodes (master_of (r.members g) key)).state.entry ≡ Some e
  entry_in home g n db key e k has = subst (λ (j : ℕ). ((h.ages.worlds g db key).nodes j).state.entry ≡ Some e) (own_entry home g n db key e k has) (ap (λ (v : View). v.state.entry) (viewed_at g n db key k) ∙ has)

  marks_in : EntriesAtHome w → (g : ℕ) → MarksHoldIn g w r (marks_in_all h.ages g)
  unfolding Present_at
  marks_in home g = record {
    marked = λ db key born. (MarkedRun.marks_hold _ _ _ _ ((h.lines.line g born).world db key)).marked;
    copies = λ n db key d present has. (let k = present_at g n present in (marks_at g n db key k).copies n d
        (subst (λ (j : ℕ). ((h.ages.worlds j db key).nodes n).state.copy ≡ Some d) k.0 (there n db key d has)));
    entries = λ n db key e present has. (let k = present_at g n present in (marks_at g n db key k).entry e (entry_in home g n db key e k has));
    sites = λ n db key e present has. (let k = present_at g n present in (marks_at g n db key k).sites e (entry_in home g n db key e k has));
    alone = λ n db key e present has. own_entry home g n db key e (present_at g n present) has;
    empty = λ n db key present is none. (let k = present_at g n present in (marks_at g n db key k).empty
        (subst (λ (j : ℕ). ((h.ages.worlds g db key).nodes j).state.entry ≡ None) is (ap (λ (v : View). v.state.entry) (viewed_at g n db key k) ∙ none)));
    found = λ db key x is present. (let k = present_at g x.holder present in ⊎_elim
        (λ (up : (marks_in_all h.ages g db key).low ≤ x.least). inl up)
        (λ f. inr (f.0, sym (ap (λ (v : View). v.state.copy) (viewed_at g x.holder db key k)) ∙ f.1, f.2))
        ((marks_at g x.holder db key k).found x is));
    away = λ db key x born is out. (MarkedRun.marks_hold _ _ _ _ ((h.lines.line g born).world db key)).away x is out;
    named = λ n up present. (let k = present_at g n present in
        (subst (λ (j : ℕ). r.born j ≡ true) k.0 (born_line n k.1), ((h.nodes n k.2).named k.1).1 ∙ ap r.members k.0));
  }

pub lives_stand : LivesStand
lives_stand c rules w r h home = (stands c rules w r h, marks_in c rules w r h home)

-- who serves has all of its line installed, or is in line 1
all_installed : (c : Config) (rules : Rules) (who : Callers) (w : Cluster) (r : Lines) (a : Ages) (n m : ℕ) (x : Node) (p : Phase) → is_serving p ≡ true → PhaseSays c rules who w r a n x p → r.line n ≢ 1 → is_among m (r.members (r.line n)) ≡ true → r.installed (r.line n) m ≡ true
unfolding PhaseSays is_serving
all_installed c rules who w r a n m x Serving e k ne among = k.3 ne m among
all_installed c rules who w r a n m x _ e k ne among = absurd (cc)

-- a running node is in the generation that is its line, and serves there once all have installed it
pub generations_stand : (c : Config) (rules : Rules) (w : Cluster) (r : Lines) → Lives c rules w r → GenerationsStand w r
generations_stand c rules w r h = record {
  generations = λ n up. (h.nodes n (h.up n up)).line;
  thawed = λ n m up serves ne among. all_installed c rules h.who w r h.ages n m (node_at n w) (node_at n w).phase serves (h.nodes n (h.up n up)).phase ne among;
}
