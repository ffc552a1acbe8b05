-- What a push tells, and what is planned of it.
use Rattle.std.proofs.Common.{◌≡◌, ◌≢◌, ◌∙◌, ℕ, ◌<◌, ◌^◌, Bool, true, false, cond, not, ◌&&◌, List, [], ◌∷◌, Option, sym, ap, subst}
use Rattle.std.proofs.lemmas.Bool.{and_parts, ltb-true}
use Rattle.std.specs.Prelude.{nat_lt}
use Rattle.std.specs.List.{AllByRecursion, filter, list_all, list_any}
use Rattle.ct_values.specs.declared.address.Address.{Address}
use Rattle.ct_frame.specs.Fields.{are_assigned, are_nodes, are_ptables, are_rows, ascends, assigned_before, is_assigned, is_below_limit, is_db, is_member, is_message, is_node, is_one_to_sixteen, is_ptable, is_row, ptable_before, row_before}
use Rattle.ct_frame.specs.declared.event.Note.TheVariants as note
use Rattle.ct_frame.specs.declared.frame.Assigned.{Assigned}
use Rattle.ct_frame.specs.declared.frame.Msg.TheVariants as msg
use Rattle.ct_frame.specs.declared.frame.PTable.{PTable}
use Rattle.ct_frame.specs.declared.frame.TableRow.{TableRow}
use Rattle.ct_values.specs.declared.config.Config.{Config}
use Rattle.ct_node_state.proofs.Ascending.{ascending}
use Rattle.ct_node_plan.specs.Changes.{IsPlanned}
use Rattle.ct_node_plan.specs.declared.change.Planned.{Planned}
use Rattle.ct_rules_node.specs.Node.{Node, is_frozen_in, is_present_in}
use Rattle.ct_rules_node.specs.Rounds.{installed_node, installs, is_own, makes_rows, on_push, releases}
use Rattle.ct_rules_node.specs.Takeovers.{has_address, share}
use Rattle.ct_rules_node.specs.Turn.{Turn, begins, does, notes, posts, with_node}
use Rattle.ct_lead.specs.Held.{Holding, after_install, left_out}
use Rattle.ct_lead.proofs.Places.{share_is_own}
use Rattle.ct_node_plan_installs.proofs.Made.{releases_spent, rows_made}
use Rattle.ct_node_plan_installs.specs.Filled.{IsPush, is_last}

-- ---- the parts of the message

some_of : (members : List ℕ) → is_one_to_sixteen members ≡ true → members ≢ []
some_of [] e = λ h. cc
some_of (m ∷ ms) e = λ h. cc

below_all : (may : Option ℕ → Bool) (rows : List TableRow) → list_all (is_row may) rows ≡ true → AllByRecursion (λ (row : TableRow). row.rsn < 2 ^ 62) rows
below_all may [] e = tt
below_all may (row ∷ rows) e =
    let p = and_parts (is_row may row) (list_all (is_row may) rows) e in
    let q = and_parts (is_db row.db && is_below_limit row.rsn) (may row.master) p.0 in
    let r = and_parts (is_db row.db) (is_below_limit row.rsn) q.0 in
    (ltb-true row.rsn (2 ^ 62) r.1, below_all may rows p.1)

pub push_in_parts : (n : ℕ) (members : List ℕ) (table : List TableRow) (ptables : List PTable) (assigned : List Assigned) → is_message n (msg.Push members table ptables assigned) ≡ true → IsPush members table ptables assigned
push_in_parts n members table ptables assigned e =
    let a = and_parts (are_nodes members && are_rows (is_member members) table && are_ptables ptables) (are_assigned assigned) e in
    let b = and_parts (are_nodes members && are_rows (is_member members) table) (are_ptables ptables) a.0 in
    let d = and_parts (are_nodes members) (are_rows (is_member members) table) b.0 in
    let nodes = and_parts (is_one_to_sixteen members && list_all is_node members) (ascends nat_lt members) d.0 in
    let some = and_parts (is_one_to_sixteen members) (list_all is_node members) nodes.0 in
    record {
      ascending = ascending members nodes.1;
      some = some_of members some.0;
      rows = below_all (is_member members) table (and_parts (list_all (is_row (is_member members)) table) (ascends row_before table) d.1).0;
      tables = (and_parts (list_all is_ptable ptables) (ascends ptable_before ptables) b.1).0;
      order = (and_parts (list_all is_assigned assigned) (ascends assigned_before assigned) a.1).1;
    }

-- ---- the addresses

kept_own : (me : ℕ) (assigned : List Assigned) (held : List Address) → ascends assigned_before assigned ≡ true → filter (has_address (share me assigned)) held ≡ filter (is_own me assigned) held
kept_own me assigned held up = (λ i. filter (λ a. share_is_own me assigned a up i) held)

left_own : (me : ℕ) (assigned : List Assigned) (held : List Address) → ascends assigned_before assigned ≡ true → left_out (share me assigned) held ≡ filter (λ a. not (is_own me assigned a)) held
left_own me assigned held up = (λ i. filter (λ a. not (share_is_own me assigned a up i)) held)

-- ---- the installation

-- where no number reaches 2^62, the node is changed and notes it
pub installs_so : (c : Config) (me h g : ℕ) (members : List ℕ) (table : List TableRow) (ptables : List PTable) (assigned : List Assigned) (holder : Holding) (given_up : List Address) (n m : Node) (v w : Turn) →
    list_any (is_last me members) table ≡ false → ascends assigned_before assigned ≡ true → holder ≡ after_install (share me assigned) (record { held = n.held; last_run = n.last_run }) → given_up ≡ left_out (share me assigned) n.held →
    m ≡ record (installed_node c me h g members table ptables assigned n) { held = holder.held; last_run = holder.last_run } → v ≡ notes (note.Installed g) (begins m) → w ≡ releases given_up v →
    w ≡ installs c me h g members table ptables assigned (begins n)
unfolding installs with_node installed_node
installs_so c me h g members table ptables assigned holder given_up n m v w below up o l e x y =
    y ∙ (λ i. releases (left i) (x i)) ∙ (λ i. releases (filter (λ a. not (is_own me assigned a)) n.held) (notes (note.Installed g) (record (sym made i) { node = node i })))
  where
    made : makes_rows me members table (begins n) ≡ begins n
    made = rows_made me members table (begins n) ∙ (λ i. record (begins n) { spent = below i })

    left : given_up ≡ filter (λ a. not (is_own me assigned a)) n.held
    left = l ∙ left_own me assigned n.held up

    node : m ≡ installed_node c me h g members table ptables assigned n
    node = e ∙ (λ i. record (installed_node c me h g members table ptables assigned n) { held = (o i).held; last_run = (o i).last_run }) ∙ (λ i. record (installed_node c me h g members table ptables assigned n) { held = kept_own me assigned n.held up i })

-- ---- what is planned

push_followed : (c : Config) (me h g : ℕ) (members : List ℕ) (table : List TableRow) (ptables : List PTable) (assigned : List Assigned) (t : Turn) → is_frozen_in g t.node.phase ≡ true →
    on_push c me h g members table ptables assigned t ≡ posts g me h msg.PushAck (installs c me h g members table ptables assigned t)
unfolding on_push
push_followed c me h g members table ptables assigned t f =
    ap (λ (b : Bool). cond b (posts g me h msg.PushAck (installs c me h g members table ptables assigned t)) (cond (is_present_in g t.node) (posts g me h msg.PushAck t) t)) f

pub planned_push : (c : Config) (me h g : ℕ) (members : List ℕ) (table : List TableRow) (ptables : List PTable) (assigned : List Assigned) (n : Node) (t u : Turn) (p : Planned) → is_frozen_in g n.phase ≡ true →
    t ≡ installs c me h g members table ptables assigned (begins n) → u ≡ posts g me h msg.PushAck t → IsPlanned p u n → IsPlanned p (on_push c me h g members table ptables assigned (begins n)) n
planned_push c me h g members table ptables assigned n t u p f e k i =
    subst (λ (v : Turn). IsPlanned p v n) (k ∙ ap (posts g me h msg.PushAck) e ∙ sym (push_followed c me h g members table ptables assigned (begins n) f)) i

pub push_spent : (c : Config) (me h g : ℕ) (members : List ℕ) (table : List TableRow) (ptables : List PTable) (assigned : List Assigned) (n : Node) → is_frozen_in g n.phase ≡ true → list_any (is_last me members) table ≡ true →
    (on_push c me h g members table ptables assigned (begins n)).spent ≡ true
unfolding installs notes posts does with_node
push_spent c me h g members table ptables assigned n f s =
    ap (λ (t : Turn). t.spent) (push_followed c me h g members table ptables assigned (begins n) f)
    ∙ releases_spent (filter (λ a. not (is_own me assigned a)) n.held) (notes (note.Installed g) (with_node (installed_node c me h g members table ptables assigned n) (makes_rows me members table (begins n))))
    ∙ ap (λ (t : Turn). t.spent) (rows_made me members table (begins n))
    ∙ s
