-- All lines live on when one is born.
use Rattle.std.proofs.Common.{◌≡◌, ◌≢◌, ℕ, ◌<◌, ◌^◌, Bool, true, false, ◌||◌, List, Option, ⊎_elim, refl, sym, ap, ◌∙◌, subst, arith}
use Rattle.std.specs.Prelude.{nat_eq, nat_lt}
use Rattle.std.specs.List.{list_all}
use Rattle.std.proofs.lemmas.Bool.{cases_eq, ne_eqb}
use Rattle.ct_values.specs.declared.config.Config.{Config}
use Rattle.ct_frame.specs.Fields.{is_node, ascends, row_before}
use Rattle.ct_frame.specs.declared.frame.TableRow.{TableRow}
use Rattle.ct_call.specs.Rules.{Rules}
use Rattle.ct_merge.specs.Rule.{row_at}
use Rattle.ct_rules.specs.State.{rsn_of}
use Rattle.ct_rules.specs.declared.state.Wish.{Wish}
use Rattle.ct_rules_node.specs.Node.{is_among, master_of, state_at}
use Rattle.ct_rules_cluster.specs.Cluster.{Cluster, node_at}
use Rattle.ct_register.specs.Register.{Register, newborn, reading}
use Rattle.ct_register.specs.Births.{birth_list, born_of}
use Rattle.ct_register.specs.Lines.{Lines}
use Rattle.ct_register.specs.Words.{at}
use Rattle.ct_register.proofs.Places.{at_same, at_other}
use Rattle.ct_law_record.specs.World.{World, AreDrawn}
use Rattle.ct_law_record.proofs.Invariant.{Ghost}
use Rattle.ct_law_record.proofs.Worlds.{WorldInv}
use Rattle.ct_law_generation.specs.Shown.{Era, scene, mails}
use Rattle.ct_law_run.proofs.Ages.{Ages, era_of, LineLives, LinesLive}
use Rattle.ct_law_run.proofs.Newborn.{begun_world, begun_ghost, begun_holds}
use Rattle.ct_law_run.proofs.Lives.{IsTicket}
use Rattle.ct_law_run.proofs.Faces.{Heir}

-- a line lives on where nothing of it changes
pub record Same_line (w v : Cluster) (r s : Lines) (a b : Ages) (g : ℕ) : Type 0 where
  pub members : s.members g ≡ r.members g
  pub installed : s.installed g ≡ r.installed g
  pub records : s.records g ≡ r.records g
  pub worlds : b.worlds g ≡ a.worlds g
  pub ghosts : b.ghosts g ≡ a.ghosts g
  pub tables : b.tables g ≡ a.tables g
  pub mail : (db : ℕ) (key : List ℕ) → mails g db key v.sent ≡ mails g db key w.sent

abbrev era_with : ℕ → List ℕ → (ℕ → List ℕ → World) → Era
era_with g members start = record { number = g; members = members; thawed = false; alone = false; start = start }

pub same_lives : (c : Config) (rules : Rules) (w v : Cluster) (r s : Lines) (a b : Ages) (g : ℕ) → Same_line w v r s a b g → LineLives c rules w r a g → LineLives c rules v s b g
same_lives c rules w v r s a b g e h = record {
  real = subst (λ (ms : List ℕ). list_all is_node ms ≡ true) (sym e.members) h.real;
  ascend = subst (λ (ms : List ℕ). ascends nat_lt ms ≡ true) (sym e.members) h.ascend;
  there = subst (λ (ms : List ℕ). (n : ℕ) → is_among n ms ≡ true → nat_lt n c.nodes ≡ true) (sym e.members) h.there;
  world = λ db key. subst (λ (ms : List ℕ). WorldInv (scene c (era_with g ms (b.worlds g)) rules db key) (b.worlds g db key) (s.records g db key) (b.ghosts g db key)) (sym e.members)
      (subst (λ (rs : ℕ → List ℕ → Register). WorldInv (scene c (era_with g (r.members g) (b.worlds g)) rules db key) (b.worlds g db key) (rs db key) (b.ghosts g db key)) (sym e.records)
      (subst (λ (gs : ℕ → List ℕ → Ghost). WorldInv (scene c (era_with g (r.members g) (b.worlds g)) rules db key) (b.worlds g db key) (r.records g db key) (gs db key)) (sym e.ghosts)
      (subst (λ (ws : ℕ → List ℕ → World). WorldInv (scene c (era_with g (r.members g) ws) rules db key) (ws db key) (r.records g db key) (a.ghosts g db key)) (sym e.worlds) (h.world db key))));
  mail = λ db key. ap (λ (ws : ℕ → List ℕ → World). (ws db key).mail) e.worlds ∙ h.mail db key ∙ sym (e.mail db key);
  joined = λ db key n. ap (λ (ws : ℕ → List ℕ → World). (ws db key).joined n) e.worlds ∙ h.joined db key n ∙ ap (λ (f : ℕ → Bool). nat_eq g 1 || f n) (sym e.installed);
  low = subst (λ (ws : ℕ → List ℕ → World). (db : ℕ) (key : List ℕ) (n : ℕ) → (ws db key).joined n ≡ true → rsn_of ((ws db key).nodes n).state.copy < 2 ^ 62) (sym e.worlds) h.low;
  rows_low = subst (λ (t : List TableRow). list_all (λ row. nat_lt row.rsn (2 ^ 62)) t ≡ true) (sym e.tables) h.rows_low;
  order = subst (λ (t : List TableRow). ascends row_before t ≡ true) (sym e.tables) h.order;
}

-- ---- the birth

-- the numbers and the calls that wait at the birth
abbrev numbers : Cluster → ℕ → ℕ
numbers w n = (node_at n w).next

abbrev wishes : Cluster → ℕ → List ℕ → ℕ → Option Wish
wishes w db key n = (state_at db key (node_at n w)).wish

-- the worlds of the new line beside all others
abbrev pub begotten : Config → Rules → Cluster → Lines → Ages → ℕ → List TableRow → (ℕ → List ℕ → List (List ℕ)) → Ages
begotten c rules w r a g table births = record {
  worlds = at g (λ db key. begun_world (scene c (era_of r a g) rules db key) (row_at db key table) (numbers w) (wishes w db key)) a.worlds;
  ghosts = at g (λ db key. begun_ghost (scene c (era_of r a g) rules db key) (row_at db key table) (births db key)) a.ghosts;
  tables = at g table a.tables;
}

-- every other line is as it was
pub others_same : (c : Config) (rules : Rules) (w v : Cluster) (r : Lines) (a : Ages) (g p q m : ℕ) (table : List TableRow) (counts : ℕ → List ℕ → ℕ) (kept : ℕ → ℕ) → m ≢ g →
    ((db : ℕ) (key : List ℕ) → mails m db key v.sent ≡ mails m db key w.sent) →
    Same_line w v r (born_of g p counts q kept r) a (begotten c rules w r a g table (birth_list r p counts)) m
others_same c rules w v r a g p q m table counts kept ne same = record {
  members = refl;
  installed = refl;
  records = at_other g m _ r.records ne;
  worlds = at_other g m _ a.worlds ne;
  ghosts = at_other g m _ a.ghosts ne;
  tables = at_other g m _ a.tables ne;
  mail = same;
}

-- what a birth is made of: the ticket, heirs of each record, nodes whose calls are drawn, and rows in order and low
pub record Is_begotten (c : Config) (w v : Cluster) (r : Lines) (n g : ℕ) (members : List ℕ) (p : ℕ) (counts : ℕ → List ℕ → ℕ) (table : List TableRow) : Type 0 where
  pub ticket : IsTicket c r g n members
  pub home : (key : List ℕ) → is_among (master_of members key) members ≡ true  -- master_in of ct_law_generation
  pub unborn : r.born g ≡ false
  pub heirs : (db : ℕ) (key : List ℕ) → (h : Heir r p members db key (row_at db key table)) × (h.count ≡ counts db key)
  pub drawn : (db : ℕ) (key : List ℕ) → AreDrawn (numbers w) (wishes w db key)
  pub same : (m db : ℕ) (key : List ℕ) → mails m db key v.sent ≡ mails m db key w.sent
  pub rows_low : list_all (λ row. nat_lt row.rsn (2 ^ 62)) table ≡ true
  pub order : ascends row_before table ≡ true

module _ (c : Config) (rules : Rules) (w v : Cluster) (r : Lines) (a : Ages) (n g : ℕ) (members : List ℕ) (p q : ℕ) (counts : ℕ → List ℕ → ℕ) (kept : ℕ → ℕ) (table : List TableRow)
    (live : LinesLive c rules w r a) (is : Is_begotten c w v r n g members p counts table) where
  abbrev s : Lines
  s = born_of g p counts q kept r

  abbrev b : Ages
  b = begotten c rules w r a g table (birth_list r p counts)

  counted : (db : ℕ) (key : List ℕ) → birth_list r p (λ d j. (is.heirs db key).0.count) db key ≡ birth_list r p counts db key
  unfolding birth_list
  counted db key = ap (λ (k : ℕ). birth_list r p (λ d j. k) db key) (is.heirs db key).1

  newborn_world : (db : ℕ) (key : List ℕ) → WorldInv (scene c (era_of r a g) rules db key) (begun_world (scene c (era_of r a g) rules db key) (row_at db key table) (numbers w) (wishes w db key)) (newborn (birth_list r p counts db key))
      (begun_ghost (scene c (era_of r a g) rules db key) (row_at db key table) (birth_list r p counts db key))
  newborn_world db key =
      let h = (is.heirs db key).0 in
      let named = is.ticket.named in
      begun_holds (scene c (era_of r a g) rules db key) (row_at db key table) (birth_list r p counts db key) (numbers w) (wishes w db key)
      (subst (λ (ms : List ℕ). list_all is_node ms ≡ true) (sym named) is.ticket.real)
      (subst (λ (ms : List ℕ). is_among (master_of ms key) ms ≡ true) (sym named) (is.home key))
      (λ x e. (let m = h.mastered x e in (m.0, m.1, subst (λ (ms : List ℕ). is_among m.0 ms ≡ true) (sym named) m.2)))
      (λ e. sym (counted db key) ∙ h.none e)
      (λ x e. h.value x e ∙ ap reading (counted db key))
      (is.drawn db key)

  not_first : nat_eq g 1 ≡ false
  not_first = ne_eqb g 1 (λ e. (let l = is.ticket.later in absurd (omega arith)))

  new_lives : LineLives c rules v s b g
  new_lives = record {
    real = subst (λ (ms : List ℕ). list_all is_node ms ≡ true) (sym is.ticket.named) is.ticket.real;
    ascend = subst (λ (ms : List ℕ). ascends nat_lt ms ≡ true) (sym is.ticket.named) is.ticket.ascend;
    there = subst (λ (ms : List ℕ). (m : ℕ) → is_among m ms ≡ true → nat_lt m c.nodes ≡ true) (sym is.ticket.named) is.ticket.there;
    world = λ db key. subst (λ (ws : ℕ → List ℕ → World). WorldInv (scene c (era_of r a g) rules db key) (ws db key) (s.records g db key) (b.ghosts g db key)) (sym (at_same g g _ a.worlds refl))
        (subst (λ (rs : ℕ → List ℕ → Register). WorldInv (scene c (era_of r a g) rules db key) (begun_world (scene c (era_of r a g) rules db key) (row_at db key table) (numbers w) (wishes w db key)) (rs db key) (b.ghosts g db key)) (sym (at_same g g _ r.records refl))
        (subst (λ (gs : ℕ → List ℕ → Ghost). WorldInv (scene c (era_of r a g) rules db key) (begun_world (scene c (era_of r a g) rules db key) (row_at db key table) (numbers w) (wishes w db key)) (newborn (birth_list r p counts db key)) (gs db key)) (sym (at_same g g _ a.ghosts refl)) (newborn_world db key)));
    mail = λ db key. ap (λ (ws : ℕ → List ℕ → World). (ws db key).mail) (at_same g g _ a.worlds refl) ∙ sym (is.same g db key ∙ live.silent g db key is.unborn);
    joined = λ db key m. ap (λ (ws : ℕ → List ℕ → World). (ws db key).joined m) (at_same g g _ a.worlds refl) ∙ sym ((λ i. not_first i || r.installed g m) ∙ live.uninstalled g m is.unborn);
    low = subst (λ (ws : ℕ → List ℕ → World). (db : ℕ) (key : List ℕ) (m : ℕ) → (ws db key).joined m ≡ true → rsn_of ((ws db key).nodes m).state.copy < 2 ^ 62) (sym (at_same g g _ a.worlds refl)) (λ db key m e. absurd (cc));
    rows_low = subst (λ (t : List TableRow). list_all (λ row. nat_lt row.rsn (2 ^ 62)) t ≡ true) (sym (at_same g g _ a.tables refl)) is.rows_low;
    order = subst (λ (t : List TableRow). ascends row_before t ≡ true) (sym (at_same g g _ a.tables refl)) is.order;
  }

  unborn_other : (m : ℕ) → s.born m ≡ false → (m ≢ g) × (r.born m ≡ false)
  unborn_other m e = ⊎_elim
      (λ (k : m ≡ g). absurd (let f = sym (at_same g m true r.born k) ∙ e in cc))
      (λ (ne : m ≢ g). (ne, sym (at_other g m true r.born ne) ∙ e))
      (cases_eq m g)

  -- all lines live on
  pub begotten_live : LinesLive c rules v s b
  begotten_live = record {
    first = ⊎_elim (λ (k : 1 ≡ g). at_same g 1 true r.born k) (λ (ne : 1 ≢ g). at_other g 1 true r.born ne ∙ live.first) (cases_eq 1 g);
    none = at_other g 0 true r.born (λ k. (let l = is.ticket.later in absurd (omega arith))) ∙ live.none;
    line = λ m e. ⊎_elim
        (λ (k : m ≡ g). subst (λ (j : ℕ). LineLives c rules v s b j) (sym k) new_lives)
        (λ (ne : m ≢ g). same_lives c rules w v r s a b m (others_same c rules w v r a g p q m table counts kept ne (is.same m)) (live.line m (sym (at_other g m true r.born ne) ∙ e)))
        (cases_eq m g);
    silent = λ m db key e. is.same m db key ∙ live.silent m db key (unborn_other m e).1;
    uninstalled = λ m k e. live.uninstalled m k (unborn_other m e).1;
    unowned = λ m db key e. (let u = unborn_other m e in ap (λ (rs : ℕ → List ℕ → Register). (rs db key).owner) (at_other g m _ r.records u.0) ∙ live.unowned m db key u.1);
  }
