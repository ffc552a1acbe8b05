-- What a frozen node has of a record once it has installed a Push is what the worlds of the new line began with.
use Rattle.std.proofs.Common.{◌≡◌, ℕ, ◌<◌, true, cond, List, length, Option, Some, None, refl, sym, ap, ◌∙◌}
use Rattle.ct_values.specs.declared.config.Config.{Config}
use Rattle.ct_frame.specs.Fields.{ascends, row_before}
use Rattle.ct_frame.specs.declared.frame.Assigned.{Assigned}
use Rattle.ct_frame.specs.declared.frame.PTable.{PTable}
use Rattle.ct_frame.specs.declared.frame.TableRow.{TableRow}
use Rattle.ct_call.specs.Rules.{Rules}
use Rattle.ct_tracking.specs.Tracked.{untracked}
use Rattle.ct_merge.specs.Rule.{row_at}
use Rattle.ct_store.specs.Map.{Ascends, look}
use Rattle.ct_rules.specs.State.{nothing_kept}
use Rattle.ct_rules.specs.declared.state.RecState.{RecState}
use Rattle.ct_rules.specs.declared.state.Wish.{Wish}
use Rattle.ct_rules_node.specs.Node.{Node, Database, db_at, state_at, or_nothing, master_of, is_among}
use Rattle.ct_law_rules_node.specs.NodeLaws.{NodeAscends, changed_at, installed_at}
use Rattle.ct_rules_node.specs.Rounds.{bared, frozen_state, installed_state, installed_db, installed_node}
use Rattle.ct_law_rules_node.proofs.AtRecord.{at_ascends, blank_is_nothing}
use Rattle.ct_law_rules_node.proofs.Installed.{installs_at}
use Rattle.ct_law_rules_node.proofs.Rounds.{installs_dbs}
use Rattle.ct_law_record.specs.World.{Scene, View, born_state}
use Rattle.ct_law_generation.specs.Shown.{Era, scene, view}
use Rattle.ct_law_run.proofs.Ages.{begun_state, begun_view}

-- what is left of a frozen record without a lock is its wish
pub left_of_frozen : (s : RecState) → (frozen_state s).locked ≡ None → bared (frozen_state s) ≡ record nothing_kept { wish = s.wish }
unfolding bared frozen_state
left_of_frozen s e = λ i. record nothing_kept { wish = s.wish; locked = e i }

left_or : (o : Option RecState) → (bared (or_nothing o)).tracking ≡ untracked → or_nothing (changed_at bared o) ≡ bared (or_nothing o)
unfolding changed_at bared or_nothing
left_or None e = refl
left_or (Some s) e = blank_is_nothing (bared s) e

begun_or : (s : Scene) (n : ℕ) (o : Option RecState) (row : Option TableRow) → is_among n s.members ≡ true → bared (or_nothing o) ≡ record nothing_kept { wish = (or_nothing o).wish } →
    or_nothing (installed_at n s.lmaster (changed_at bared o) row) ≡ begun_state s row n (or_nothing o).wish
unfolding installed_at begun_state or_nothing born_state
begun_or s n o None among left = left_or o (ap (λ (x : RecState). x.tracking) left) ∙ left
begun_or s n o (Some row) among left = ap (installed_state n s.lmaster row) (left_or o (ap (λ (x : RecState). x.tracking) left) ∙ left) ∙ sym (ap (λ b. cond b (installed_state n s.lmaster row (record nothing_kept { wish = (or_nothing o).wish })) (record nothing_kept { wish = (or_nothing o).wish })) among)

-- so each record is as its world began
pub begun_is_view : (c : Config) (era : Era) (rules : Rules) (n h g : ℕ) (table : List TableRow) (ptables : List PTable) (assigned : List Assigned) (x : Node) (db : ℕ) (key : List ℕ) →
    db < length x.dbs → Ascends (db_at db x).records → ascends row_before table ≡ true → is_among n era.members ≡ true → bared (state_at db key x) ≡ record nothing_kept { wish = (state_at db key x).wish } →
    view db key (installed_node c n h g era.members table ptables assigned x) ≡ begun_view (scene c era rules db key) (row_at db key table) n (state_at db key x).wish x.next
unfolding state_at installed_db installed_node
begun_is_view c era rules n h g table ptables assigned x db key there order rows among left =
    let dbs = installs_dbs c n h g era.members table ptables assigned x db there in
    let state : state_at db key (installed_node c n h g era.members table ptables assigned x) ≡ begun_state (scene c era rules db key) (row_at db key table) n (state_at db key x).wish
    = ap (λ (d : Database). or_nothing (look key d.records)) dbs ∙ ap or_nothing ((installs_at n db era.members table (db_at db x).records rows order).seen key) ∙ begun_or (scene c era rules db key) n (look key (db_at db x).records) (row_at db key table) among left in
    let floor : (db_at db (installed_node c n h g era.members table ptables assigned x)).floor ≡ 0 = ap (λ (d : Database). d.floor) dbs in
    λ i. record { state = state i; next = x.next; floor = floor i }
