-- A node's databases and the states of its records, under other numbers of calls.
use Rattle.std.proofs.Common.{◌≡◌, ℕ, zero, suc, Bool, true, false, cond, ◌||◌, List, [], ◌∷◌, ◌++◌, map, Option, Some, None, refl, sym, ap, ◌∙◌}
use Rattle.std.proofs.lemmas.List.{map-append, map-set}
use Rattle.std.specs.Prelude.{is_some, slice_get}
use Rattle.std.specs.declared.cmp.Ordering.TheVariants.{Less, Equal, Greater}
use Rattle.std.specs.Ordering.{is_eq, match_ordering}
use Rattle.ct_values.specs.Key.{key_cmp}
use Rattle.ct_frame.specs.declared.event.Out.{Out}
use Rattle.ct_values.specs.declared.config.Config.{Config}
use Rattle.ct_store.specs.Map.{Pairs, look, write, erase}
use Rattle.ct_rules.specs.State.{is_blank}
use Rattle.ct_rules.specs.Parts.{Moving}
use Rattle.ct_rules.specs.declared.event.Act.{Act}
use Rattle.ct_rules.specs.declared.event.Act.TheVariants as act
use Rattle.ct_rules.specs.declared.event.Place.{Place}
use Rattle.ct_rules.specs.declared.state.RecState.{RecState}
use Rattle.ct_rules_node.specs.Node.{Node, Database, untouched, or_untouched, or_nothing, db_at, with_db, state_at}
use Rattle.ct_rules_node.specs.Turn.{Turn}
use Rattle.ct_rules_node.specs.Records.{kept, with_state, out_of, place_of, view, put_back, acted, at_record}
use Rattle.ct_journal.specs.Schedules.{out_under}
use Rattle.ct_law_journal_numbers.specs.Renumbered.{lock_under, wish_under, state_under, records_under, commit_under, database_under, node_under, turn_under}
use Rattle.ct_law_journal_numbers.proofs.Parts.{act_under, moving_under, blank_under}

module _ (number : ℕ → ℕ) where
  -- ---- a database in its place

  pub place_in_under : (ds : List Database) (i : ℕ) → or_untouched (slice_get (map (database_under number) ds) i) ≡ database_under number (or_untouched (slice_get ds i))
  unfolding or_untouched untouched database_under records_under commit_under
  place_in_under [] i = refl
  place_in_under (d ∷ ds) zero = refl
  place_in_under (d ∷ ds) (suc i) = place_in_under ds i

  pub db_at_under : (db : ℕ) (n : Node) → db_at db (node_under number n) ≡ database_under number (db_at db n)
  unfolding db_at node_under
  db_at_under db n = place_in_under n.dbs db

  pub with_db_under : (db : ℕ) (d : Database) (n : Node) → with_db db (database_under number d) (node_under number n) ≡ node_under number (with_db db d n)
  unfolding with_db node_under
  with_db_under db d n = ap (λ (ds : List Database). record n { dbs = ds }) (sym (map-set (database_under number) n.dbs db d))

  -- ---- the states of records

  pub look_under : (key : List ℕ) (m : Pairs RecState) → or_nothing (look key (records_under number m)) ≡ state_under number (or_nothing (look key m))
  unfolding or_nothing records_under state_under lock_under wish_under
  look_under key [] = refl
  look_under key (e ∷ m) =
      elim (is_eq (key_cmp key e.0)) as (λ b. or_nothing (cond b (Some (state_under number e.1)) (look key (records_under number m))) ≡ state_under number (or_nothing (cond b (Some e.1) (look key m)))) [
        | true ↦ refl
        | false ↦ look_under key m
      ]

  pub write_under : (key : List ℕ) (s : RecState) (m : Pairs RecState) → write key (state_under number s) (records_under number m) ≡ records_under number (write key s m)
  unfolding records_under
  write_under key s [] = refl
  write_under key s (e ∷ m) =
      elim (key_cmp key e.0) as (λ o. match_ordering o ((key, state_under number s) ∷ (e.0, state_under number e.1) ∷ records_under number m) ((e.0, state_under number s) ∷ records_under number m) ((e.0, state_under number e.1) ∷ write key (state_under number s) (records_under number m))
      ≡ records_under number (match_ordering o ((key, s) ∷ e ∷ m) ((e.0, s) ∷ m) (e ∷ write key s m))) [
        | Less ↦ refl
        | Equal ↦ refl
        | Greater ↦ ap (λ (l : Pairs RecState). (e.0, state_under number e.1) ∷ l) (write_under key s m)
      ]

  erase_under : (key : List ℕ) (m : Pairs RecState) → erase key (records_under number m) ≡ records_under number (erase key m)
  unfolding records_under
  erase_under key [] = refl
  erase_under key (e ∷ m) =
      elim (is_eq (key_cmp key e.0)) as (λ b. cond b (records_under number m) ((e.0, state_under number e.1) ∷ erase key (records_under number m)) ≡ records_under number (cond b m (e ∷ erase key m))) [
        | true ↦ refl
        | false ↦ ap (λ (l : Pairs RecState). (e.0, state_under number e.1) ∷ l) (erase_under key m)
      ]

  kept_under : (key : List ℕ) (s : RecState) (m : Pairs RecState) → kept key (state_under number s) (records_under number m) ≡ records_under number (kept key s m)
  unfolding kept
  kept_under key s m = ap (λ (b : Bool). cond b (erase key (records_under number m)) (write key (state_under number s) (records_under number m))) (blank_under number s) ∙ by (is_blank s)
    where
      by : (b : Bool) → cond b (erase key (records_under number m)) (write key (state_under number s) (records_under number m)) ≡ records_under number (cond b (erase key m) (write key s m))
      by true = erase_under key m
      by false = write_under key s m

  pub state_at_under : (db : ℕ) (key : List ℕ) (n : Node) → state_at db key (node_under number n) ≡ state_under number (state_at db key n)
  unfolding state_at database_under
  state_at_under db key n = ap (λ (d : Database). or_nothing (look key d.records)) (db_at_under db n) ∙ look_under key (db_at db n).records

  pub with_state_under : (db : ℕ) (key : List ℕ) (s : RecState) (n : Node) → with_state db key (state_under number s) (node_under number n) ≡ node_under number (with_state db key s n)
  unfolding with_state database_under
  with_state_under db key s n =
      ap (λ (d : Database). with_db db (record d { records = kept key (state_under number s) d.records }) (node_under number n)) (db_at_under db n)
      ∙ ap (λ (m : Pairs RecState). with_db db (record (database_under number (db_at db n)) { records = m }) (node_under number n)) (kept_under key s (db_at db n).records)
      ∙ with_db_under db (record (db_at db n) { records = kept key s (db_at db n).records }) n

  -- ---- a step at one record

  put_back_under : (db : ℕ) (key : List ℕ) (o : Moving) (n : Node) → put_back db key (moving_under number o) (node_under number n) ≡ node_under number (put_back db key o n)
  unfolding put_back moving_under node_under database_under
  put_back_under db key o n =
      ap (λ (d : Database). record (node_under number n) { dbs = (with_db db (record d { records = kept key (state_under number o.state) d.records; floor = o.floor }) (node_under number n)).dbs; next = o.next }) (db_at_under db n)
      ∙ ap (λ (m : Pairs RecState). record (node_under number n) { dbs = (with_db db (record (database_under number (db_at db n)) { records = m; floor = o.floor }) (node_under number n)).dbs; next = o.next }) (kept_under key o.state (db_at db n).records)
      ∙ ap (λ (x : Node). record (node_under number n) { dbs = x.dbs; next = o.next }) (with_db_under db (record (db_at db n) { records = kept key o.state (db_at db n).records; floor = o.floor }) n)

  out_of_under : (g me db : ℕ) (key : List ℕ) (a : Act) → out_of g me db key (act_under number a) ≡ out_under number (out_of g me db key a)
  unfolding out_of act_under out_under
  out_of_under g me db key (act.Send receiver m) = refl
  out_of_under g me db key (act.Answer call a) = refl
  out_of_under g me db key (act.Finished floor) = refl

  outs_of_under : (g me db : ℕ) (key : List ℕ) (acts : List Act) → map (out_of g me db key) (map (act_under number) acts) ≡ map (out_under number) (map (out_of g me db key) acts)
  outs_of_under g me db key [] = refl
  outs_of_under g me db key (a ∷ acts) = λ i. out_of_under g me db key a i ∷ outs_of_under g me db key acts i

  acted_under : (me db : ℕ) (key : List ℕ) (o : Moving) (t : Turn) → acted me db key (moving_under number o) (turn_under number t) ≡ turn_under number (acted me db key o t)
  unfolding acted moving_under turn_under node_under
  acted_under me db key o t =
      let outs : map (out_under number) t.outs ++ map (out_of t.node.generation me db key) (map (act_under number) o.acts) ≡ map (out_under number) (t.outs ++ map (out_of t.node.generation me db key) o.acts) =
      ap (λ (xs : List Out). map (out_under number) t.outs ++ xs) (outs_of_under t.node.generation me db key o.acts) ∙ sym (map-append (out_under number) t.outs (map (out_of t.node.generation me db key) o.acts)) in
      λ i. record { node = put_back_under db key o t.node i; outs = outs i; spent = t.spent || o.spent }

  view_under : (db : ℕ) (key : List ℕ) (n : Node) → view db key (node_under number n) ≡ moving_under number (view db key n)
  unfolding view moving_under node_under database_under
  view_under db key n = λ i. record { state = state_at_under db key n i; next = n.next; floor = (db_at_under db n i).floor; acts = []; spent = false }

  place_of_under : (c : Config) (me db : ℕ) (key : List ℕ) (n : Node) → place_of c me db key (node_under number n) ≡ place_of c me db key n
  unfolding place_of node_under database_under
  place_of_under c me db key n = ap (λ (d : Database). record (place_of c me db key n) { floor = d.floor }) (db_at_under db n)

  -- a part of the rules of a record that does the same under other numbers of calls does so at the node
  pub at_record_under : (c : Config) (me db : ℕ) (key : List ℕ) (part' part : Place → Moving → Moving) (t : Turn) → ((at : Place) (o : Moving) → part' at (moving_under number o) ≡ moving_under number (part at o))
      → at_record c me db key part' (turn_under number t) ≡ turn_under number (at_record c me db key part t)
  unfolding at_record turn_under
  at_record_under c me db key part' part t h =
      let moves : part' (place_of c me db key (node_under number t.node)) (view db key (node_under number t.node)) ≡ moving_under number (part (place_of c me db key t.node) (view db key t.node)) =
      (λ i. part' (place_of_under c me db key t.node i) (view_under db key t.node i)) ∙ h (place_of c me db key t.node) (view db key t.node) in
      ap (λ (o : Moving). acted me db key o (turn_under number t)) moves ∙ acted_under me db key (part (place_of c me db key t.node) (view db key t.node)) t

  -- ---- locks

  pub lock_some : (l : Option ℕ) → is_some (lock_under number l) ≡ is_some l
  unfolding lock_under
  lock_some None = refl
  lock_some (Some call) = refl
