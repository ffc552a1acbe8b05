-- The worked journals, by computing with all words of the rules open.
use Rattle.std.proofs.Common.{◌≡◌, ◌≢◌, ◌∙◌, ap, sym, Bool, cond, ℕ, zero, suc, ◌+◌, true, List, [], ◌∷◌, Some, length, arith, refl}
use Rattle.std.proofs.lemmas.Bool.{and_parts, ltb-true, ne_eqb}
use Rattle.std.specs.List.{list_all}
use Rattle.std.specs.Prelude.{nat_lt}
use Rattle.std.specs.Prelude.{codes}
use Rattle.ct_frame.specs.Fields.{ascends}
use Rattle.ct_frame.specs.declared.event.Event.{Event}
use Rattle.ct_frame.specs.declared.event.Event.TheVariants as event
use Rattle.ct_frame.specs.declared.event.Out.TheVariants as out
use Rattle.ct_values.specs.declared.client.Answer.TheVariants as answer
use Rattle.ct_values.specs.declared.client.ClientOp.TheVariants as op
use Rattle.ct_values.specs.Words.{is_this_node, or_empty}
use Rattle.ct_values.specs.Client.{is_read, wants_record}
use Rattle.ct_rules.specs.State.{rank, rsn_of, value_of, is_mastered, is_given, is_for_reading, with_value, with_flags, risen, given, is_quiet, is_free, is_read_kind, same_kind, kind_of, is_wished}
use Rattle.ct_rules.specs.Parts.{performs, send, send_all, reply, keeps, reaches, open_of, opened, end_vacuum, applies, satisfy, revoke, give, read_here, delegate, grant, yield_record, drain, drained, satisfy_own, raise, end_revocation, next_of, next, keep, call_for, wait_for_copies, want_of, opened_at_home, want}
use Rattle.ct_rules.specs.Messages.{is_misplaced, pass_again, is_request, enqueue, on_call_of, called, on_call, same_recall, wait, handle, recalled, on_recall, hand_on, on_give_of, on_give, satisfy_wish, becomes, accept, refuse, on_pass, on_refuse_of, on_refuse, read_granted, on_grant, on_done_of, on_done, called_in, acknowledge, renew, on_revoke_of, on_revoke, acknowledged, on_revokeack, stored_copy, deleted_copy, on_vstore, on_vdelete, greater, finish, on_vstored_of, on_vstored, on_vdeleted_of, on_vdeleted}
use Rattle.ct_rules.specs.Moves.{store, release, unlock, is_vacuumed, phase_message, begin_vacuum, vacuum_at_home, vacuum, call_again_of, call_again, revoke_again_of, revoke_again, at_home, from_home, arrive}
use Rattle.ct_rules_node.specs.Admission.{record_in, some_of, masters_in, nodes_in, named_in, members_in, table_in, ptables_in, addresses_in, is_current, persistent_from, is_listed, are_all, is_sound}
use Rattle.ct_rules_node.specs.Refusals.{refused_if, first_of}
use Rattle.ct_rules_node.specs.Clients.{is_commit, is_unlock, wants_change, is_under_lock, is_locked, no_such_db, wrong_kind, may_finish, not_serving, pending_of, call_pending, is_committing, is_name_of_commit, commit_pending, already_locked, not_locked, no_such_call, full, refusal, any_locked_in, any_locked, frozen_if_unlocked, unlocks, reads as clients_reads, serves, serves_or, client}
use Rattle.ct_rules_node.specs.Databases.{updates, with_commit, awaits_others, commits_at, commit, acknowledges, on_pupdate, on_pack_of, on_pack, read_pair}
use Rattle.ct_rules_node.specs.Coming.{is_allowed_op, is_after_commit, is_after_pending, may_come}
use Rattle.ct_rules_node.specs.Node.{Node, is_serving, is_present, is_freezing, is_frozen_in, is_present_in, is_among, or_zero, master_of, untouched, or_untouched, db_at, with_db, or_nothing, state_at, kind_in, kind_at, is_readonly, is_persistent, has_records, name_in, name_of, holder_in, assigned_all, untouched_all, opening, restarted_db, restarted}
use Rattle.ct_rules_node.specs.Records.{kept, with_state, out_of, place_of, view, put_back, acted, at_record}
use Rattle.ct_rules_node.specs.Retries.{call_all, revoke_all, revoke_in, update_again, update_in, retry_records, retry_run, retry_lead, retry}
use Rattle.ct_rules_node.specs.Numbered.{ranked, by_number}
use Rattle.ct_rules_node.specs.Rounds.{begin_round, frozen_state, changed, frozen_db, lead_from, ends_lock, ends_commit, ends_commits, freezes, on_freeze, all_frozen, on_freezeack, own_or_none, row_of, with_row, rows_of, table_of, ptables_of, on_pull, or_leader, mastered, body_of, push_of, pushes, all_pulled, on_pullreply, copy_from, or_nobody, row_master, entry_from, bared, installed_state, install_row, install_rows, store_from, installed_db, installed_dbs, is_own, releases, installed_node, makes_rows, installs, on_push, completed, all_installed, on_pushack, called_of, calls_of, calls_in, pending_calls, want_again_of, want_again, want_all, thaws, on_thaw}
use Rattle.ct_rules_node.specs.Steps.{on_record_of, if_persistent, if_sound, if_taken_over, arrives, vacuum_all, vacuums, happens}
use Rattle.ct_rules_node.specs.Takeovers.{share, assigned_in, send_releases, runs, begin_takeover, has_address, on_release, all_released, released_by, on_releaseack, held_with, takes, on_take}
use Rattle.ct_rules_node.specs.Turn.{begins, does, with_node, with_lead, with_phase, makes as turn_makes, answers, notes, posts, posts_all}
use Rattle.ct_rules_cluster.specs.Cluster.{numbers, everyone, opening as cluster_opening, is_true, is_up, absent, or_absent, node_at, sent_at, is_waiting_fate, is_waiting, is_delivered_fate, is_delivered, able_from, wished, wished_in, committing, pending_in, pending_at, pending_from, pending}
use Rattle.ct_rules_cluster.specs.Faults.{no_such_node, no_such_nodes, node_down, node_up, no_such_db as faults_no_such_db, wrong_kind as faults_wrong_kind, not_serving as faults_not_serving, leads, not_leader, not_member, lock_held, not_holder, not_waiting, not_delivered, fault_of, is_allowed}
use Rattle.ct_rules_cluster.specs.Steps.{frames_of, lines_of, with_node as steps_with_node, put, is_counted, if_counted, fed_of, fed, done, with_fate, deliver, drop as steps_drop, repeat, without_holder, gone, stop, recover, steps, steps_or, applied}
use Rattle.ct_rules_cluster.specs.Traces.{asked_in, closed, opened as traces_opened, closed_by, closed_by_all, answer_label, sent_label, members_of, label_of, line_labels, is_refusal, is_refused, begun_by, own_labels, labels, idle, taken, ran_one, after, ran}
use Rattle.ct_journal.specs.Order.{frames_in, frames_to, sent_to, is_from, arrived_from, numbers_of_calls, first_front, or_no_entries, entries_of, taken_of, past_of, next_entry, MayStand, ticket_after, front_after, Stand, count_sent, is_arrival, count_arrived, all_entries, AreInOrder}
use Rattle.ct_journal.specs.Runs.{IsRun, RunsTo}
use Rattle.ct_journal.specs.Schedules.{IsSchedule, IsRenumbered, Noted, arrival_of, given_by, outs_in, noted_of, keeps_all_up, cluster_in, after_step, with_made, none_made, made_by, made_at, why_under, answer_under, out_under, event_under, entry_under, is_call, has_call}
use Rattle.ct_journal.specs.Worked.{TwoWrites, asks, first_journal, gives, noted, pair_config, pair_steps, passes, recalls, second_journal, two_journals}

-- ---- runs

-- the node after a step that is not refused
unfoldable pub turned : ℕ → Event → Node → Node
turned me e n = (happens pair_config [] me (begins n) e).node

first_runs : (end : Node) × RunsTo pair_config [] first_journal end
unfolding next_of rank rsn_of value_of is_mastered is_given is_for_reading with_value with_flags risen given is_quiet is_free is_read is_read_kind same_kind kind_of is_wished performs send send_all reply keeps reaches open_of opened end_vacuum applies satisfy revoke give read_here delegate grant yield_record drain drained satisfy_own raise end_revocation next keep call_for wait_for_copies want_of opened_at_home want is_misplaced pass_again is_request enqueue on_call_of called on_call same_recall wait handle recalled on_recall hand_on on_give_of on_give satisfy_wish becomes accept refuse on_pass on_refuse_of on_refuse read_granted on_grant on_done_of on_done called_in acknowledge renew on_revoke_of on_revoke acknowledged on_revokeack stored_copy deleted_copy on_vstore on_vdelete greater finish on_vstored_of on_vstored on_vdeleted_of on_vdeleted store release unlock is_vacuumed phase_message begin_vacuum vacuum_at_home vacuum call_again_of call_again revoke_again_of revoke_again at_home from_home arrive record_in some_of masters_in nodes_in named_in members_in table_in ptables_in addresses_in is_current persistent_from is_listed are_all is_sound is_commit is_unlock wants_change wants_record is_under_lock refused_if is_locked no_such_db wrong_kind may_finish not_serving pending_of call_pending is_committing is_name_of_commit commit_pending already_locked not_locked no_such_call full first_of refusal any_locked_in any_locked frozen_if_unlocked unlocks clients_reads serves serves_or client updates with_commit awaits_others commits_at commit acknowledges on_pupdate on_pack_of on_pack or_empty read_pair is_allowed_op is_after_commit is_after_pending may_come is_serving is_present is_freezing is_frozen_in is_present_in is_among or_zero master_of untouched or_untouched db_at with_db or_nothing state_at kind_in kind_at is_readonly is_persistent has_records name_in name_of holder_in assigned_all untouched_all opening restarted_db restarted kept with_state out_of place_of view put_back acted at_record call_all revoke_all revoke_in update_again update_in retry_records retry_run retry_lead retry begin_round frozen_state changed frozen_db lead_from ends_lock ends_commit ends_commits freezes on_freeze all_frozen on_freezeack own_or_none row_of with_row rows_of table_of ptables_of on_pull or_leader mastered body_of push_of pushes all_pulled on_pullreply copy_from or_nobody row_master entry_from bared installed_state install_row install_rows store_from installed_db installed_dbs is_this_node is_own releases installed_node makes_rows installs on_push completed all_installed on_pushack called_of calls_of calls_in ranked by_number pending_calls want_again_of want_again want_all thaws on_thaw on_record_of if_persistent if_sound if_taken_over arrives vacuum_all vacuums happens share assigned_in send_releases runs begin_takeover has_address on_release all_released released_by on_releaseack held_with takes on_take does with_node with_lead with_phase turn_makes answers notes posts posts_all numbers everyone cluster_opening is_true is_up absent or_absent node_at sent_at is_waiting_fate is_waiting is_delivered_fate is_delivered able_from wished wished_in committing pending_in pending_at pending_from pending no_such_node no_such_nodes node_down node_up faults_no_such_db faults_wrong_kind faults_not_serving leads not_leader not_member lock_held not_holder not_waiting not_delivered fault_of is_allowed frames_of lines_of steps_with_node put is_counted if_counted fed_of fed done with_fate deliver steps_drop repeat without_holder gone stop recover steps steps_or applied asked_in closed traces_opened closed_by closed_by_all answer_label sent_label members_of label_of line_labels is_refusal is_refused begun_by own_labels labels idle taken ran_one after ran IsRun turned
first_runs =
    let n1 : Node = turned 0 (event.Client 1 (op.Write 1 (codes "b") (codes "x"))) (opening pair_config (everyone pair_config)) in
    let n2 : Node = turned 0 (event.Arrive asks) n1 in
    let n3 : Node = turned 0 (event.Arrive recalls) n2 in
    let n4 : Node = turned 0 (event.Arrive gives) n3 in
    (n4, (n1, record { coming = refl; steps = refl }, (n2, record { coming = refl; steps = refl }, (n3, record { coming = refl; steps = refl }, (n4, record { coming = refl; steps = refl }, refl)))))

second_runs : (end : Node) × RunsTo pair_config [] second_journal end
unfolding next_of rank rsn_of value_of is_mastered is_given is_for_reading with_value with_flags risen given is_quiet is_free is_read is_read_kind same_kind kind_of is_wished performs send send_all reply keeps reaches open_of opened end_vacuum applies satisfy revoke give read_here delegate grant yield_record drain drained satisfy_own raise end_revocation next keep call_for wait_for_copies want_of opened_at_home want is_misplaced pass_again is_request enqueue on_call_of called on_call same_recall wait handle recalled on_recall hand_on on_give_of on_give satisfy_wish becomes accept refuse on_pass on_refuse_of on_refuse read_granted on_grant on_done_of on_done called_in acknowledge renew on_revoke_of on_revoke acknowledged on_revokeack stored_copy deleted_copy on_vstore on_vdelete greater finish on_vstored_of on_vstored on_vdeleted_of on_vdeleted store release unlock is_vacuumed phase_message begin_vacuum vacuum_at_home vacuum call_again_of call_again revoke_again_of revoke_again at_home from_home arrive record_in some_of masters_in nodes_in named_in members_in table_in ptables_in addresses_in is_current persistent_from is_listed are_all is_sound is_commit is_unlock wants_change wants_record is_under_lock refused_if is_locked no_such_db wrong_kind may_finish not_serving pending_of call_pending is_committing is_name_of_commit commit_pending already_locked not_locked no_such_call full first_of refusal any_locked_in any_locked frozen_if_unlocked unlocks clients_reads serves serves_or client updates with_commit awaits_others commits_at commit acknowledges on_pupdate on_pack_of on_pack or_empty read_pair is_allowed_op is_after_commit is_after_pending may_come is_serving is_present is_freezing is_frozen_in is_present_in is_among or_zero master_of untouched or_untouched db_at with_db or_nothing state_at kind_in kind_at is_readonly is_persistent has_records name_in name_of holder_in assigned_all untouched_all opening restarted_db restarted kept with_state out_of place_of view put_back acted at_record call_all revoke_all revoke_in update_again update_in retry_records retry_run retry_lead retry begin_round frozen_state changed frozen_db lead_from ends_lock ends_commit ends_commits freezes on_freeze all_frozen on_freezeack own_or_none row_of with_row rows_of table_of ptables_of on_pull or_leader mastered body_of push_of pushes all_pulled on_pullreply copy_from or_nobody row_master entry_from bared installed_state install_row install_rows store_from installed_db installed_dbs is_this_node is_own releases installed_node makes_rows installs on_push completed all_installed on_pushack called_of calls_of calls_in ranked by_number pending_calls want_again_of want_again want_all thaws on_thaw on_record_of if_persistent if_sound if_taken_over arrives vacuum_all vacuums happens share assigned_in send_releases runs begin_takeover has_address on_release all_released released_by on_releaseack held_with takes on_take does with_node with_lead with_phase turn_makes answers notes posts posts_all numbers everyone cluster_opening is_true is_up absent or_absent node_at sent_at is_waiting_fate is_waiting is_delivered_fate is_delivered able_from wished wished_in committing pending_in pending_at pending_from pending no_such_node no_such_nodes node_down node_up faults_no_such_db faults_wrong_kind faults_not_serving leads not_leader not_member lock_held not_holder not_waiting not_delivered fault_of is_allowed frames_of lines_of steps_with_node put is_counted if_counted fed_of fed done with_fate deliver steps_drop repeat without_holder gone stop recover steps steps_or applied asked_in closed traces_opened closed_by closed_by_all answer_label sent_label members_of label_of line_labels is_refusal is_refused begun_by own_labels labels idle taken ran_one after ran IsRun turned
second_runs =
    let n1 : Node = turned 1 (event.Client 1 (op.Write 1 (codes "b") (codes "y"))) (opening pair_config (everyone pair_config)) in
    let n2 : Node = turned 1 (event.Arrive passes) n1 in
    (n2, (n1, record { coming = refl; steps = refl }, (n2, record { coming = refl; steps = refl }, refl)))

-- ---- in order

in_order : AreInOrder two_journals
unfolding frames_in frames_to sent_to is_from arrived_from numbers_of_calls first_front or_no_entries entries_of taken_of past_of next_entry MayStand ticket_after front_after Stand count_sent is_arrival count_arrived all_entries arrival_of given_by outs_in noted_of keeps_all_up cluster_in after_step with_made none_made made_by made_at why_under answer_under out_under event_under entry_under is_call has_call is_among or_zero
in_order = record {
  order = 0 ∷ 1 ∷ 0 ∷ 0 ∷ 0 ∷ 1 ∷ [];
  end = record { taken = 4 ∷ 2 ∷ []; ticket = 1 };
  stand = (_, refl, tt, (_, refl, tt, (_, refl, refl, (_, refl, refl, (_, refl, refl, (_, refl, refl, refl))))));
  whole = whole;
  calls = calls;
  few = omega arith;
}
  where
    whole : (n : ℕ) → taken_of (record { taken = 4 ∷ 2 ∷ []; ticket = 1 }) n ≡ length (entries_of two_journals n)
    whole zero = refl
    whole (suc zero) = refl
    whole (suc (suc n)) = refl

    calls : (n : ℕ) → ascends nat_lt (numbers_of_calls (entries_of two_journals n)) ≡ true
    calls zero = refl
    calls (suc zero) = refl
    calls (suc (suc n)) = refl

-- ---- a schedule

-- the entries, in the order of the steps
all_made : List Noted
all_made =
    record { node = 0; entry = noted (event.Client 1 (op.Write 1 (codes "b") (codes "x"))) (out.Answer 1 answer.Written) } ∷
    record { node = 1; entry = noted (event.Client 2 (op.Write 1 (codes "b") (codes "y"))) (out.Send asks) } ∷
    record { node = 0; entry = noted (event.Arrive asks) (out.Send recalls) } ∷
    record { node = 0; entry = noted (event.Arrive recalls) (out.Send gives) } ∷
    record { node = 0; entry = noted (event.Arrive gives) (out.Send passes) } ∷
    record { node = 1; entry = noted (event.Arrive passes) (out.Answer 2 answer.Written) } ∷
    []

taken_all : made_by pair_config [] (Some (cluster_opening pair_config)) pair_steps ≡ Some all_made
unfolding next_of rank rsn_of value_of is_mastered is_given is_for_reading with_value with_flags risen given is_quiet is_free is_read is_read_kind same_kind kind_of is_wished performs send send_all reply keeps reaches open_of opened end_vacuum applies satisfy revoke give read_here delegate grant yield_record drain drained satisfy_own raise end_revocation next keep call_for wait_for_copies want_of opened_at_home want is_misplaced pass_again is_request enqueue on_call_of called on_call same_recall wait handle recalled on_recall hand_on on_give_of on_give satisfy_wish becomes accept refuse on_pass on_refuse_of on_refuse read_granted on_grant on_done_of on_done called_in acknowledge renew on_revoke_of on_revoke acknowledged on_revokeack stored_copy deleted_copy on_vstore on_vdelete greater finish on_vstored_of on_vstored on_vdeleted_of on_vdeleted store release unlock is_vacuumed phase_message begin_vacuum vacuum_at_home vacuum call_again_of call_again revoke_again_of revoke_again at_home from_home arrive record_in some_of masters_in nodes_in named_in members_in table_in ptables_in addresses_in is_current persistent_from is_listed are_all is_sound is_commit is_unlock wants_change wants_record is_under_lock refused_if is_locked no_such_db wrong_kind may_finish not_serving pending_of call_pending is_committing is_name_of_commit commit_pending already_locked not_locked no_such_call full first_of refusal any_locked_in any_locked frozen_if_unlocked unlocks clients_reads serves serves_or client updates with_commit awaits_others commits_at commit acknowledges on_pupdate on_pack_of on_pack or_empty read_pair is_allowed_op is_after_commit is_after_pending may_come is_serving is_present is_freezing is_frozen_in is_present_in is_among or_zero master_of untouched or_untouched db_at with_db or_nothing state_at kind_in kind_at is_readonly is_persistent has_records name_in name_of holder_in assigned_all untouched_all opening restarted_db restarted kept with_state out_of place_of view put_back acted at_record call_all revoke_all revoke_in update_again update_in retry_records retry_run retry_lead retry begin_round frozen_state changed frozen_db lead_from ends_lock ends_commit ends_commits freezes on_freeze all_frozen on_freezeack own_or_none row_of with_row rows_of table_of ptables_of on_pull or_leader mastered body_of push_of pushes all_pulled on_pullreply copy_from or_nobody row_master entry_from bared installed_state install_row install_rows store_from installed_db installed_dbs is_this_node is_own releases installed_node makes_rows installs on_push completed all_installed on_pushack called_of calls_of calls_in ranked by_number pending_calls want_again_of want_again want_all thaws on_thaw on_record_of if_persistent if_sound if_taken_over arrives vacuum_all vacuums happens share assigned_in send_releases runs begin_takeover has_address on_release all_released released_by on_releaseack held_with takes on_take does with_node with_lead with_phase turn_makes answers notes posts posts_all numbers everyone cluster_opening is_true is_up absent or_absent node_at sent_at is_waiting_fate is_waiting is_delivered_fate is_delivered able_from wished wished_in committing pending_in pending_at pending_from pending no_such_node no_such_nodes node_down node_up faults_no_such_db faults_wrong_kind faults_not_serving leads not_leader not_member lock_held not_holder not_waiting not_delivered fault_of is_allowed frames_of lines_of steps_with_node put is_counted if_counted fed_of fed done with_fate deliver steps_drop repeat without_holder gone stop recover steps steps_or applied asked_in closed traces_opened closed_by closed_by_all answer_label sent_label members_of label_of line_labels is_refusal is_refused begun_by own_labels labels idle taken ran_one after ran IsRun frames_in frames_to sent_to is_from arrived_from numbers_of_calls first_front or_no_entries entries_of taken_of past_of next_entry MayStand ticket_after front_after Stand count_sent is_arrival count_arrived all_entries arrival_of given_by outs_in noted_of keeps_all_up cluster_in after_step with_made none_made made_by made_at why_under answer_under out_under event_under entry_under is_call has_call all_made
taken_all = refl

pub not_made : (n : ℕ) (x : Noted) (xs : List Noted) → x.node ≢ n → made_at n (x ∷ xs) ≡ made_at n xs
unfolding made_at
not_made n x xs ne = ap (λ (b : Bool). cond b (x.entry ∷ made_at n xs) (made_at n xs)) (ne_eqb x.node n ne)

-- nodes 0 and 1 make no entry of another node
unmade : (n : ℕ) (xs : List Noted) → list_all (λ x. nat_lt x.node 2) xs ≡ true → made_at (suc (suc n)) xs ≡ []
unfolding made_at
unmade n [] h = refl
unmade n (x ∷ xs) h =
    let p = and_parts (nat_lt x.node 2) (list_all (λ (y : Noted). nat_lt y.node 2) xs) h in
    not_made (suc (suc n)) x xs (λ e. absurd (let l = ltb-true x.node 2 p.0 in omega (arith, l, e))) ∙ unmade n xs p.1

none_made_at : (n : ℕ) → made_at (suc (suc n)) all_made ≡ []
unfolding all_made
none_made_at n = unmade n all_made refl

scheduled : IsSchedule pair_config [] two_journals pair_steps
unfolding frames_in frames_to sent_to is_from arrived_from numbers_of_calls first_front or_no_entries entries_of taken_of past_of next_entry MayStand ticket_after front_after Stand count_sent is_arrival count_arrived all_entries arrival_of given_by outs_in noted_of keeps_all_up cluster_in after_step with_made none_made made_by made_at why_under answer_under out_under event_under entry_under is_call has_call is_among or_zero all_made
scheduled = record { made = all_made; takes = taken_all; journals = journals }
  where
    journals : (n : ℕ) → IsRenumbered (entries_of two_journals n) (made_at n all_made)
    journals zero = record { number = λ k. k; rises = λ a b x y l. l; same = refl }
    journals (suc zero) = record { number = λ k. k + 1; rises = λ a b x y l. (omega (arith, l)); same = refl }
    journals (suc (suc n)) = record { number = λ k. k; rises = λ a b x y l. l; same = sym (none_made_at n) }

pub two_writes : TwoWrites
two_writes = (first_runs, second_runs, in_order, scheduled)
