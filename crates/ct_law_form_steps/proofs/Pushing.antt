-- An installation leaves a node in form, and so does a round that is completed.
use Rattle.std.proofs.Common.{◌≡◌, ℕ, zero, suc, ◌+◌, ◌<◌, ◌≤◌, ◌^◌, Bool, true, false, cond, ◌&&◌, ◌||◌, List, [], ◌∷◌, length, map, Option, Some, None, refl, sym, ◌∙◌, ap, subst, arith}
use Rattle.std.proofs.lemmas.Bool.{and_from, and_parts, cond_both, ltb-false, ltb-true, or_left, or_right}
use Rattle.std.proofs.lemmas.List.Folds.{list_all-append}
use Rattle.std.specs.Prelude.{nat_eq, nat_lt, slice_get}
use Rattle.std.specs.List.{AllByRecursion, find, list_all}
use Rattle.ct_values.specs.Address.{same_address}
use Rattle.ct_values.specs.declared.address.Address.{Address}
use Rattle.ct_values.specs.declared.config.Config.{Config}
use Rattle.ct_frame.specs.Fields.{are_assigned, are_nodes, are_ptables, are_rows, ascends, is_assigned, is_below_limit, is_db, is_from_one, is_kept, is_member, is_message, is_node, is_ptable, is_row, is_some_node, pair_before, ptable_before, row_before}
use Rattle.ct_frame.specs.declared.event.Note.TheVariants as note
use Rattle.ct_frame.specs.declared.event.Out.{Out}
use Rattle.ct_frame.specs.declared.frame.Assigned.{Assigned}
use Rattle.ct_frame.specs.declared.frame.Msg.{Msg}
use Rattle.ct_frame.specs.declared.frame.Msg.TheVariants as msg
use Rattle.ct_frame.specs.declared.frame.PTable.{PTable}
use Rattle.ct_frame.specs.declared.frame.TableRow.{TableRow}
use Rattle.ct_frame.specs.declared.round.PushBody.{PushBody}
use Rattle.ct_tracking.specs.Tracked.{untracked}
use Rattle.ct_merge.specs.Held.{is_row_at}
use Rattle.ct_merge.specs.Rule.{row_at}
use Rattle.ct_persist.specs.Persisted.{Persisted, replaced}
use Rattle.ct_persist.proofs.Orders.{keyed_kept}
use Rattle.ct_store.specs.Map.{Ascends, look}
use Rattle.ct_law_rules_node.specs.Named.{NamesOnly, holders_of, vacuumed_by}
use Rattle.ct_law_rules.specs.Form.{HasCounters, least_of, revoked_rsn, sent_for, vacuumed_rsn, wished_as, wishes_record}
use Rattle.ct_rules.specs.State.{is_quiet, nothing_kept, rsn_of}
use Rattle.ct_rules.specs.declared.event.Place.{Place}
use Rattle.ct_rules.specs.declared.state.RecState.{RecState}
use Rattle.ct_rules.specs.declared.state.Wish.{Wish}
use Rattle.ct_rules_node.specs.Admission.{nodes_in, some_of}
use Rattle.ct_law_rules_node.specs.NodeLaws.{NodeAscends, changed_at, installed_at}
use Rattle.ct_rules_node.specs.Node.{Database, Installed, Lead, Nothing, Freezes, Pulls, Installs, Completed, Node, Phase, Frozen, Freezing, Idle, Serving, assigned_all, db_at, holder_in, is_among, is_frozen_in, is_present_in, is_readonly, kind_at, master_of, or_nothing, or_untouched, state_at, untouched}
use Rattle.ct_rules_node.specs.Records.{place_of}
use Rattle.ct_rules_node.specs.Rounds.{all_installed, bared, completed, copy_from, entry_from, frozen_state, installed_db, installed_dbs, installed_node, installed_state, installs, is_own, makes_rows, on_push, on_pushack, or_nobody, push_of, releases, row_master, store_from}
use Rattle.ct_rules_node.specs.Turn.{Turn, does, makes, notes, posts, with_node}
use Rattle.ct_law_rules_node.proofs.AtRecord.{at_ascends, blank_is_nothing}
use Rattle.ct_law_rules_node.proofs.BesideRecords.{installed_order, installed_length}
use Rattle.ct_law_rules_node.proofs.Installed.{installs_at, same_key}
use Rattle.ct_law_rules_node.proofs.Rounds.{installs_dbs}
use Rattle.ct_law_form.specs.Form.{IsFormed}
use Rattle.ct_law_form.specs.Whole.{AreAtRest, AreUnlocked, RoundInForm, PlacementInForm, StoreInForm, TakeoverInForm, LeadInForm, CommitInForm, NodeInForm, PhaseInForm, RunInForm, TurnInForm, is_node_of, is_sound_out}
use Rattle.ct_law_form.proofs.Lists.{among_all}
use Rattle.ct_law_form.proofs.Turns.{made, notes_in_form, posts_all_in_form, posts_in_form, with_lead_in_form}
use Rattle.ct_law_form.proofs.Whole.{filter_ascends, nothing_formed, nothing_named, unwritten_store}
use Rattle.ct_law_form_steps.proofs.Leading.{led_as, led_others, same_round}

-- ---- what a push tells, in its parts

record IsPush (members : List ℕ) (table : List TableRow) (ptables : List PTable) (assigned : List Assigned) : Type 0 where
  members_are : are_nodes members ≡ true
  rows : list_all (is_row (is_member members)) table ≡ true
  rows_ascend : ascends row_before table ≡ true
  ptables_are : list_all is_ptable ptables ≡ true
  assigned_are : are_assigned assigned ≡ true

pushed : (n : ℕ) (members : List ℕ) (table : List TableRow) (ptables : List PTable) (assigned : List Assigned) → is_message n (msg.Push members table ptables assigned) ≡ true → IsPush members table ptables assigned
pushed n members table ptables assigned e =
    let a = and_parts (are_nodes members && are_rows (is_member members) table && are_ptables ptables) (are_assigned assigned) e in
    let b = and_parts (are_nodes members && are_rows (is_member members) table) (are_ptables ptables) a.0 in
    let d = and_parts (are_nodes members) (are_rows (is_member members) table) b.0 in
    let rows = and_parts (list_all (is_row (is_member members)) table) (ascends row_before table) d.1 in
    let ptables = and_parts (list_all is_ptable ptables) (ascends ptable_before ptables) b.1 in
    record { members_are = d.0; rows = rows.0; rows_ascend = rows.1; ptables_are = ptables.0; assigned_are = a.1 }

ascending_members : (members : List ℕ) → are_nodes members ≡ true → ascends nat_lt members ≡ true
ascending_members members e = (and_parts _ (ascends nat_lt members) e).1

-- ---- the rows

-- a row that may be installed: its data master is a member, and its next RSN, where it is made, is below 2^62
record IsRowAt (me : ℕ) (members : List ℕ) (row : TableRow) : Type 0 where
  rsn_limit : row.rsn < 2 ^ 62
  master_is : is_among (row_master row) members ≡ true
  next_limit : (nat_eq me (row_master row) || nat_eq me (master_of members row.key)) ≡ true → row.rsn + 1 < 2 ^ 62

row_made : (me : ℕ) (members : List ℕ) (row : TableRow) (t : Turn) → (cond (nat_eq me (row_master row) || nat_eq me (master_of members row.key)) (makes (row.rsn + 1) t) t).spent ≡ false →
    (t.spent ≡ false) × ((nat_eq me (row_master row) || nat_eq me (master_of members row.key)) ≡ true → row.rsn + 1 < 2 ^ 62)
row_made me members row t e = by (nat_eq me (row_master row) || nat_eq me (master_of members row.key)) e
  where
    by : (b : Bool) → (cond b (makes (row.rsn + 1) t) t).spent ≡ false → (t.spent ≡ false) × (b ≡ true → row.rsn + 1 < 2 ^ 62)
    by true e = (let m = made (row.rsn + 1) t e in (m.0, λ _. m.1))
    by false e = (e, λ f. absurd (cc))

master_named : (members : List ℕ) (m : Option ℕ) → is_member members m ≡ true → is_among (or_nobody m) members ≡ true
unfolding or_nobody is_among
master_named members None e = absurd (cc)
master_named members (Some m) e = e

has_master : (members : List ℕ) (row : TableRow) → is_row (is_member members) row ≡ true → (row.rsn < 2 ^ 62) × (is_among (row_master row) members ≡ true)
unfolding row_master
has_master members row e =
    let p = and_parts (is_db row.db && is_below_limit row.rsn) (is_member members row.master) e in
    let q = and_parts (is_db row.db) (is_below_limit row.rsn) p.0 in
    (ltb-true row.rsn (2 ^ 62) q.1, master_named members row.master p.1)

-- each row of a push whose numbers were made
rows_made : (me : ℕ) (members : List ℕ) (rows : List TableRow) (t : Turn) → (makes_rows me members rows t).spent ≡ false → list_all (is_row (is_member members)) rows ≡ true → (t.spent ≡ false) × AllByRecursion (IsRowAt me members) rows
unfolding makes_rows
rows_made me members [] t e all = (e, tt)
rows_made me members (row ∷ rows) t e all =
    let a = and_parts (is_row (is_member members) row) (list_all (is_row (is_member members)) rows) all in
    let rest = rows_made me members rows _ e a.1 in
    let here = row_made me members row t rest.0 in
    let m = has_master members row a.0 in
    (here.0, (record { rsn_limit = m.0; master_is = m.1; next_limit = here.1 }, rest.1))

-- the row at a place is one of them
found_all : (P : TableRow → Type 0) (test : TableRow → Bool) (rows : List TableRow) (row : TableRow) → find test rows ≡ Some row → AllByRecursion P rows → (test row ≡ true) × P row
found_all P test [] row e all = absurd (cc)
found_all P test (x ∷ xs) row e all = by (test x) refl (λ r. found_all P test xs row r all.1) e
  where
    by : (b : Bool) → test x ≡ b → (find test xs ≡ Some row → (test row ≡ true) × P row) → cond b (Some x) (find test xs) ≡ Some row → (test row ≡ true) × P row
    by true t more e = (let same : x ≡ row = cc in (subst (λ (y : TableRow). test y ≡ true) same t, subst P same all.0))
    by false t more e = more e

-- ---- a record

-- what is left of a record at rest, without a lock, is its wish
left_alone : (s : RecState) → frozen_state s ≡ s → s.locked ≡ None → bared s ≡ record nothing_kept { wish = s.wish }
unfolding bared frozen_state
left_alone s e l = sym (ap bared e) ∙ (λ i. record nothing_kept { wish = s.wish; locked = l i })

left_or : (o : Option RecState) → (bared (or_nothing o)).tracking ≡ untracked → or_nothing (changed_at bared o) ≡ bared (or_nothing o)
unfolding changed_at bared or_nothing
left_or None e = refl
left_or (Some s) e = blank_is_nothing (bared s) e

-- a state with a wish alone
abbrev only_wish : Option Wish → RecState
only_wish w = record nothing_kept { wish = w }

only_wish_formed : (at : Place) (next : ℕ) (w : Option Wish) → HasCounters next at.floor → wishes_record w ≡ true → wished_as w < 2 ^ 62 → IsFormed at next (only_wish w)
unfolding sent_for least_of revoked_rsn vacuumed_rsn is_quiet rsn_of
only_wish_formed at next w counters wants low = record {
  form = record {
    shape = record {
      sent_on = λ e. absurd (e refl);
      queue_entry = λ e. absurd (cc);
      lock_held = λ e. absurd (cc);
      revocation_held = λ e. absurd (cc);
      lock_quiet = λ e. refl;
      revocation_tracked = λ e. absurd (cc);
      lock_unwished = λ e. absurd (cc);
      vacuum_home = λ e. absurd (cc);
      vacuum_queue = λ e. absurd (cc);
      vacuum_unlocked = λ e. absurd (cc);
      vacuum_unwished = λ e. absurd (cc);
      vacuum_quiet = λ e. absurd (cc);
      wish_wants = wants;
      queue_asked = refl;
      waiting_recalled = refl;
    };
    numbers = record { copy_limit = omega arith; least_limit = omega arith; request_limit = omega arith; revocation_limit = omega arith; vacuum_limit = omega arith; wish_limit = low };
    counters = counters;
  };
  tracks = record { tracked_held = λ e. absurd (cc); vacuum_untracked = λ e. absurd (cc) };
  waits = refl;
}

copy_low : (me : ℕ) (row : TableRow) (l : ℕ) → row.rsn < 2 ^ 62 → ((nat_eq me (row_master row) || nat_eq me l) ≡ true → row.rsn + 1 < 2 ^ 62) → rsn_of (Some (copy_from me row (row_master row))) < 2 ^ 62
unfolding copy_from rsn_of
copy_low me row l low next = by (nat_eq me (row_master row)) (λ e. next (or_left _ _ e))
  where
    by : (b : Bool) → (b ≡ true → row.rsn + 1 < 2 ^ 62) → cond b (row.rsn + 1) row.rsn < 2 ^ 62
    by true n = n refl
    by false n = low

entry_low : (me l : ℕ) (row : TableRow) → ((nat_eq me (row_master row) || nat_eq me l) ≡ true → row.rsn + 1 < 2 ^ 62) → (least_of (entry_from me l row) < 2 ^ 62) × (sent_for (entry_from me l row) ≡ 0)
unfolding entry_from least_of sent_for
entry_low me l row next = by (nat_eq me l) (λ e. next (or_right _ _ e))
  where
    by : (b : Bool) → (b ≡ true → row.rsn + 1 < 2 ^ 62) → (least_of (cond b (Some (record { holder = row_master row; least = row.rsn + 1; request = 0; value = row.value })) None) < 2 ^ 62) × (sent_for (cond b (Some (record { holder = row_master row; least = row.rsn + 1; request = 0; value = row.value })) None) ≡ 0)
    by true n = (n refl, refl)
    by false n = (omega arith, refl)

row_formed : (at : Place) (next : ℕ) (row : TableRow) (w : Option Wish) → HasCounters next at.floor → wishes_record w ≡ true → wished_as w < 2 ^ 62 → row.rsn < 2 ^ 62 → ((nat_eq at.me (row_master row) || nat_eq at.me at.lmaster) ≡ true → row.rsn + 1 < 2 ^ 62) →
    IsFormed at next (installed_state at.me at.lmaster row (only_wish w))
unfolding installed_state revoked_rsn vacuumed_rsn is_quiet
row_formed at next row w counters wants low rsn more =
    let e = entry_low at.me at.lmaster row more in
    record {
      form = record {
        shape = record {
          sent_on = λ n. absurd (n e.1);
          queue_entry = λ e. absurd (cc);
          lock_held = λ e. absurd (cc);
          revocation_held = λ e. absurd (cc);
          lock_quiet = λ e. refl;
          revocation_tracked = λ e. absurd (cc);
          lock_unwished = λ e. absurd (cc);
          vacuum_home = λ e. absurd (cc);
          vacuum_queue = λ e. absurd (cc);
          vacuum_unlocked = λ e. absurd (cc);
          vacuum_unwished = λ e. absurd (cc);
          vacuum_quiet = λ e. absurd (cc);
          wish_wants = wants;
          queue_asked = refl;
          waiting_recalled = refl;
        };
        numbers = record { copy_limit = copy_low at.me row at.lmaster rsn more; least_limit = e.0; request_limit = (let z = e.1 in omega arith); revocation_limit = omega arith; vacuum_limit = omega arith; wish_limit = low };
        counters = counters;
      };
      tracks = record { tracked_held = λ e. absurd (cc); vacuum_untracked = λ e. absurd (cc) };
      waits = refl;
    }

entry_named : (is : ℕ → Bool) (me l : ℕ) (row : TableRow) → is (row_master row) ≡ true → list_all is (holders_of (entry_from me l row)) ≡ true
unfolding entry_from holders_of
entry_named is me l row e = by (nat_eq me l)
  where
    by : (b : Bool) → list_all is (holders_of (cond b (Some (record { holder = row_master row; least = row.rsn + 1; request = 0; value = row.value })) None)) ≡ true
    by true = and_from _ _ e refl
    by false = refl

row_named : (is : ℕ → Bool) (me l : ℕ) (row : TableRow) (w : Option Wish) → is (row_master row) ≡ true → NamesOnly is (installed_state me l row (only_wish w))
unfolding installed_state vacuumed_by
row_named is me l row w e = record { holder_is = entry_named is me l row e; queue_are = refl; waiting_are = refl; tracked_are = refl; missing_are = refl; vacuumed_are = refl }

-- a record after the installation: what it is made of
record IsInstalledOf (c : Config) (at : Place) (next : ℕ) (s : RecState) : Type 0 where
  formed : IsFormed at next s
  named : NamesOnly (is_node_of c) s

either_installed : (c : Config) (at : Place) (next : ℕ) (o : Option RecState) (r : Option TableRow) (w : Option Wish) → or_nothing (changed_at bared o) ≡ only_wish w → HasCounters next at.floor → wishes_record w ≡ true → wished_as w < 2 ^ 62 →
    ((row : TableRow) → r ≡ Some row → (row.rsn < 2 ^ 62) × (is_node_of c (row_master row) ≡ true) × ((nat_eq at.me (row_master row) || nat_eq at.me at.lmaster) ≡ true → row.rsn + 1 < 2 ^ 62)) →
    IsInstalledOf c at next (or_nothing (installed_at at.me at.lmaster (changed_at bared o) r))
unfolding installed_at or_nothing
either_installed c at next o None w left counters wants low rows =
    subst (λ (s : RecState). IsInstalledOf c at next s) (sym left) (record { formed = only_wish_formed at next w counters wants low; named = nothing_named (is_node_of c) })
either_installed c at next o (Some row) w left counters wants low rows =
    let r = rows row refl in
    subst (λ (s : RecState). IsInstalledOf c at next (installed_state at.me at.lmaster row s)) (sym left) (record { formed = row_formed at next row w counters wants low r.0 r.2; named = row_named (is_node_of c) at.me at.lmaster row w r.1 })

-- ---- the persistent databases

replaced_is : (x : PTable) → is_ptable x ≡ true → StoreInForm (replaced x)
replaced_is x e =
    let a = and_parts (is_db x.db && is_below_limit x.seq && list_all is_kept x.pairs) (ascends pair_before x.pairs) e in
    let b = and_parts (is_db x.db && is_below_limit x.seq) (list_all is_kept x.pairs) a.0 in
    let d = and_parts (is_db x.db) (is_below_limit x.seq) b.0 in
    record { pairs_kept = keyed_kept x.pairs a.1 b.1; seq_limit = ltb-true x.seq (2 ^ 62) d.1 }

store_is : (db : ℕ) (ptables : List PTable) (p : Persisted) → list_all is_ptable ptables ≡ true → StoreInForm p → StoreInForm (store_from db ptables p)
unfolding store_from
store_is db [] p all h = h
store_is db (x ∷ xs) p all h =
    let a = and_parts (is_ptable x) (list_all is_ptable xs) all in
    cond_both (nat_eq x.db db) (replaced x) (store_from db xs p) StoreInForm (λ _. replaced_is x a.0) (λ _. store_is db xs p a.1 h)

-- ---- the node

past : (dbs : List Database) (i : ℕ) → length dbs ≤ i → or_untouched (slice_get dbs i) ≡ untouched
unfolding or_untouched
past [] i l = refl
past (d ∷ ds) zero l = absurd (omega arith)
past (d ∷ ds) (suc i) l = past ds i (omega arith)

past_installed : (c : Config) (me h g : ℕ) (members : List ℕ) (table : List TableRow) (ptables : List PTable) (assigned : List Assigned) (n : Node) (db : ℕ) → length n.dbs ≤ db → db_at db (installed_node c me h g members table ptables assigned n) ≡ untouched
unfolding db_at installed_node
past_installed c me h g members table ptables assigned n db l = (let e = installed_length me 0 members table ptables n.dbs in past (installed_dbs me 0 members table ptables n.dbs) db (omega arith))

-- what holds of each database that was installed, and of one of which nothing is kept, holds of each
each_installed : (P : ℕ → Database → Type 0) (c : Config) (me h g : ℕ) (members : List ℕ) (table : List TableRow) (ptables : List PTable) (assigned : List Assigned) (n : Node) →
    ((db : ℕ) → P db (installed_db me db members table ptables (db_at db n))) → ((db : ℕ) → P db untouched) → (db : ℕ) → P db (db_at db (installed_node c me h g members table ptables assigned n))
each_installed P c me h g members table ptables assigned n here none db = cond_both (nat_lt db (length n.dbs)) true false (λ (_ : Bool). P db (db_at db (installed_node c me h g members table ptables assigned n)))
    (λ t. subst (P db) (sym (installs_dbs c me h g members table ptables assigned n db (ltb-true _ _ t))) (here db))
    (λ f. subst (P db) (sym (past_installed c me h g members table ptables assigned n db (ltb-false _ _ f))) (none db))

-- where a record stands once these are the members
abbrev place_in : Config → ℕ → List ℕ → ℕ → List ℕ → ℕ → Place
place_in c me members db key floor = record { me = me; lmaster = master_of members key; db = db; key = key; floor = floor; readonly = is_readonly (kind_at c db) }

-- all records of a database are in form, and name nodes of the configuration
unfoldable AreInstalled : Config → ℕ → List ℕ → ℕ → ℕ → Database → Type 0
AreInstalled c me members next db d = (key : List ℕ) → IsInstalledOf c (place_in c me members db key d.floor) next (or_nothing (look key d.records))

from_one_parts : (g : ℕ) → is_from_one g ≡ true → (1 ≤ g) × (g < 2 ^ 62)
from_one_parts g e = (let p = and_parts (nat_lt 0 g) (nat_lt g (2 ^ 62)) e in (ltb-true 0 g p.0, ltb-true g (2 ^ 62) p.1))

at_base : (db : ℕ) (n : Node) → NodeAscends n → Ascends (db_at db n).records
unfolding db_at
at_base db n h = at_ascends n.dbs db h

counted : (next : ℕ) → 1 ≤ next → next < 2 ^ 62 → HasCounters next 0
counted next one low = record { from_one = one; next_limit = low; floor_limit = omega arith }

base_installed : (c : Config) (me db : ℕ) (members : List ℕ) (table : List TableRow) (ptables : List PTable) (n : Node) → NodeInForm c me n → AreAtRest n → AreUnlocked n → ascends row_before table ≡ true → AllByRecursion (IsRowAt me members) table → list_all (is_node_of c) members ≡ true →
    AreInstalled c me members n.next db (installed_db me db members table ptables (db_at db n))
unfolding AreInstalled installed_db state_at
base_installed c me db members table ptables n h rest free up made are key =
    let o = look key (db_at db n).records in
    let s = or_nothing o in
    let left = left_alone s (rest db key) (free db key) in
    let f = (h.formed db key).form in
    let seen = (installs_at me db members table (db_at db n).records up (at_base db n h.order)).seen key in
    subst (λ (x : Option RecState). IsInstalledOf c (place_in c me members db key 0) n.next (or_nothing x)) (sym seen)
    (either_installed c (place_in c me members db key 0) n.next o (row_at db key table) s.wish (left_or o (ap (λ (x : RecState). x.tracking) left) ∙ left) (counted n.next f.counters.from_one f.counters.next_limit) f.shape.wish_wants f.numbers.wish_limit
    (λ row is. (let r = found_all (IsRowAt me members) (is_row_at db key) table row is made in
    (r.1.rsn_limit, among_all (is_node_of c) (row_master row) members are r.1.master_is, subst (λ (k : List ℕ). (nat_eq me (row_master row) || nat_eq me (master_of members k)) ≡ true → row.rsn + 1 < 2 ^ 62) (sym (same_key db key row r.0)) r.1.next_limit))))

none_installed : (c : Config) (me db next : ℕ) (members : List ℕ) → 1 ≤ next → next < 2 ^ 62 → AreInstalled c me members next db untouched
unfolding AreInstalled untouched or_nothing
none_installed c me db next members one low key = record { formed = nothing_formed (place_in c me members db key 0) next (counted next one low); named = nothing_named (is_node_of c) }

installed_in_form : (c : Config) (me h g : ℕ) (members : List ℕ) (table : List TableRow) (ptables : List PTable) (assigned : List Assigned) (n : Node) → NodeInForm c me n → AreAtRest n → AreUnlocked n → IsPush members table ptables assigned → is_from_one g ≡ true → list_all (is_node_of c) members ≡ true → AllByRecursion (IsRowAt me members) table →
    NodeInForm c me (installed_node c me h g members table ptables assigned n)
unfolding installed_node place_of state_at AreInstalled PhaseInForm installed_db untouched CommitInForm
installed_in_form c me h g members table ptables assigned n f rest free p one are made =
    let counters = (f.formed 0 []).form.counters in
    let all : (db : ℕ) → AreInstalled c me members n.next db (db_at db (installed_node c me h g members table ptables assigned n)) =
    each_installed (AreInstalled c me members n.next) c me h g members table ptables assigned n (λ db. base_installed c me db members table ptables n f rest free p.rows_ascend made are) (λ db. none_installed c me db n.next members counters.from_one counters.next_limit) in
    let g_is = from_one_parts g one in
    record {
      limits = f.limits;
      own = f.own;
      dbs = installed_length me 0 members table ptables n.dbs ∙ f.dbs;
      order = installed_order me 0 members table ptables n.dbs f.order;
      formed = λ db key. (all db key).formed;
      named = λ db key. (all db key).named;
      stores = each_installed (λ (db : ℕ) (d : Database). StoreInForm d.store) c me h g members table ptables assigned n (λ db. store_is db ptables (db_at db n).store p.ptables_are (f.stores db)) (λ db. unwritten_store);
      commits = each_installed (λ (db : ℕ) (d : Database). CommitInForm c d.commit) c me h g members table ptables assigned n (λ db. f.commits db) (λ db. tt);
      generation_limit = g_is.1;
      members_ascend = ascending_members members p.members_are;
      members_are = are;
      pbase_limit = g_is.1;
      phase = g_is.0;
      held = filter_ascends (is_own me assigned) n.held f.held;
      lead = f.lead;
    }

-- ---- Push

pub releases_in_form : (c : Config) (me : ℕ) (as' : List Address) (t : Turn) → TurnInForm c me t → TurnInForm c me (releases as' t)
unfolding releases
releases_in_form c me [] t h = h
releases_in_form c me (a ∷ as') t h = releases_in_form c me as' (notes (note.Released a) t) (notes_in_form c me (note.Released a) t h)

releases_spent : (as' : List Address) (t : Turn) → (releases as' t).spent ≡ t.spent
unfolding releases notes does
releases_spent [] t = refl
releases_spent (a ∷ as') t = releases_spent as' (notes (note.Released a) t)

made_rows_outs : (c : Config) (me : ℕ) (members : List ℕ) (rows : List TableRow) (t : Turn) → (makes_rows me members rows t).outs ≡ t.outs
unfolding makes_rows makes
made_rows_outs c me members [] t = refl
made_rows_outs c me members (row ∷ rows) t = made_rows_outs c me members rows _ ∙ by (nat_eq me (row_master row) || nat_eq me (master_of members row.key))
  where
    by : (b : Bool) → (cond b (makes (row.rsn + 1) t) t).outs ≡ t.outs
    by true = refl
    by false = refl

installs_spent : (c : Config) (me h g : ℕ) (members : List ℕ) (table : List TableRow) (ptables : List PTable) (assigned : List Assigned) (t : Turn) → (installs c me h g members table ptables assigned t).spent ≡ (makes_rows me members table t).spent
unfolding installs notes does with_node
installs_spent c me h g members table ptables assigned t = releases_spent _ _

installs_in_form : (c : Config) (me h g : ℕ) (members : List ℕ) (table : List TableRow) (ptables : List PTable) (assigned : List Assigned) (t : Turn) → TurnInForm c me t → AreAtRest t.node → AreUnlocked t.node → IsPush members table ptables assigned → is_from_one g ≡ true → list_all (is_node_of c) members ≡ true →
    (installs c me h g members table ptables assigned t).spent ≡ false → TurnInForm c me (installs c me h g members table ptables assigned t)
unfolding installs with_node
installs_in_form c me h g members table ptables assigned t f rest free p one are unspent =
    let made = (rows_made me members table t (sym (installs_spent c me h g members table ptables assigned t) ∙ unspent) p.rows).1 in
    releases_in_form c me _ _ (notes_in_form c me (note.Installed g) _ (record {
      node = installed_in_form c me h g members table ptables assigned t.node f.node rest free p one are made;
      outs = subst (λ (xs : List Out). list_all (is_sound_out c me) xs ≡ true) (sym (made_rows_outs c me members table t)) f.outs;
    }))

frozen_says : (c : Config) (g : ℕ) (n : Node) (p : Phase) → is_frozen_in g p ≡ true → PhaseInForm c n p → AreAtRest n × AreUnlocked n
unfolding is_frozen_in PhaseInForm
frozen_says c g n (Frozen j) e h = h
frozen_says c g n Idle e h = absurd (cc)
frozen_says c g n Serving e h = absurd (cc)
frozen_says c g n Installed e h = absurd (cc)
frozen_says c g n (Freezing j l) e h = absurd (cc)

posts_spent : (g me n : ℕ) (m : Msg) (t : Turn) → (posts g me n m t).spent ≡ t.spent
unfolding posts does
posts_spent g me n m t = refl

pub push_in_form : (c : Config) (me h g : ℕ) (members : List ℕ) (table : List TableRow) (ptables : List PTable) (assigned : List Assigned) (t : Turn) → is_from_one g ≡ true → is_node_of c h ≡ true → list_all (is_node_of c) members ≡ true → is_message h (msg.Push members table ptables assigned) ≡ true → TurnInForm c me t →
    (on_push c me h g members table ptables assigned t).spent ≡ false → TurnInForm c me (on_push c me h g members table ptables assigned t)
unfolding on_push
push_in_form c me h g members table ptables assigned t one from are sound f unspent =
    let p = pushed h members table ptables assigned sound in
    cond_both (is_frozen_in g t.node.phase) _ _ (λ (u : Turn). u.spent ≡ false → TurnInForm c me u)
    (λ z e. (let says = frozen_says c g t.node t.node.phase z f.node.phase in
    posts_in_form c me g h msg.PushAck _ one from refl (installs_in_form c me h g members table ptables assigned t f says.0 says.1 p one are (sym (posts_spent g me h msg.PushAck (installs c me h g members table ptables assigned t)) ∙ e))))
    (λ _. cond_both (is_present_in g t.node) _ _ (λ (u : Turn). u.spent ≡ false → TurnInForm c me u) (λ _ e. posts_in_form c me g h msg.PushAck t one from refl f) (λ _ e. f)) unspent

-- ---- PushAck

known_addresses : (as' : List Address) (xs : List Assigned) → map (λ x. x.address) (assigned_all as' xs) ≡ as'
unfolding assigned_all
known_addresses [] xs = refl
known_addresses (a ∷ as') xs = ap (λ (l : List Address). a ∷ l) (known_addresses as' xs)

some_is : (o : Option ℕ) → is_some_node o ≡ true → list_all is_node (some_of o) ≡ true
unfolding some_of
some_is None e = absurd (cc)
some_is (Some n) e = and_from _ _ e refl

holder_is_node : (a : Address) (xs : List Assigned) → list_all is_assigned xs ≡ true → list_all is_node (some_of (holder_in a xs)) ≡ true
unfolding holder_in some_of
holder_is_node a [] all = refl
holder_is_node a (x ∷ xs) all =
    let p = and_parts (is_assigned x) (list_all is_assigned xs) all in
    cond_both (same_address a x.address) x.node (holder_in a xs) (λ (o : Option ℕ). list_all is_node (some_of o) ≡ true) (λ _. some_is x.node p.0) (λ _. holder_is_node a xs p.1)

known_nodes : (as' : List Address) (xs : List Assigned) → list_all is_assigned xs ≡ true → list_all is_node (nodes_in (assigned_all as' xs)) ≡ true
unfolding assigned_all nodes_in
known_nodes [] xs all = refl
known_nodes (a ∷ as') xs all = list_all-append is_node (some_of (holder_in a xs)) (nodes_in (assigned_all as' xs)) ∙ and_from _ _ (holder_is_node a xs all) (known_nodes as' xs all)

pub known_placement : (c : Config) (xs : List Assigned) → are_assigned xs ≡ true → PlacementInForm c (assigned_all c.addresses xs)
known_placement c xs e = record { addresses_are = known_addresses c.addresses xs; nodes_are = known_nodes c.addresses xs (and_parts (list_all is_assigned xs) _ e).0 }

completed_says : (c : Config) (me : ℕ) (members : List ℕ) (b : PushBody) → is_message me (push_of b) ≡ true → TakeoverInForm c members (completed c b)
unfolding completed push_of RunInForm
completed_says c me members b sound = record { made = known_placement c b.assigned (pushed me b.members b.table b.ptables b.assigned sound).assigned_are; number_limit = omega arith; last = tt }

all_installed_in_form : (c : Config) (me g : ℕ) (members : List ℕ) (b : PushBody) (t : Turn) (ns : List ℕ) → RoundInForm c me g members ns → is_message me (push_of b) ≡ true → TurnInForm c me t → TurnInForm c me (all_installed c me g members b t ns)
unfolding all_installed LeadInForm
all_installed_in_form c me g members b t [] l sound h =
    posts_all_in_form c me g members msg.Thaw _ l.number l.configured refl (with_lead_in_form c me (Completed g members (completed c b)) t (l, completed_says c me members b sound) h)
all_installed_in_form c me g members b t (n ∷ ns) l sound h = with_lead_in_form c me (Installs g members (n ∷ ns) b) t (l, sound) h

pub pushack_in_form : (c : Config) (me n g : ℕ) (t : Turn) (l : Lead) → LeadInForm c me l → TurnInForm c me t → TurnInForm c me (on_pushack c me n g t l)
unfolding on_pushack LeadInForm
pushack_in_form c me n g t (Installs j members missing b) l h = cond_both (nat_eq j g && is_among n missing) _ _ (TurnInForm c me)
    (λ e. all_installed_in_form c me g members b t _ (led_others c me g n members missing (led_as c me j g members missing (same_round j g _ e).0 l.0)) l.1 h) (λ _. h)
pushack_in_form c me n g t Nothing l h = h
pushack_in_form c me n g t (Freezes j members missing) l h = h
pushack_in_form c me n g t (Pulls j members missing x) l h = h
pushack_in_form c me n g t (Completed j members x) l h = h
