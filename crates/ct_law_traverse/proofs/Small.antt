-- The small list of moves, worked out by computing, with all words of the rules open.
use Rattle.std.proofs.Common.{refl}
use Rattle.ct_values.specs.Words.{is_this_node, or_empty}
use Rattle.ct_values.specs.Client.{db_of, is_read, key_of, wants_record}
use Rattle.ct_rules.specs.State.{rank, rsn_of, value_of, is_mastered, is_given, is_for_reading, with_value, with_flags, risen, given, is_quiet, is_free, is_read_kind, same_kind, kind_of, is_wished}
use Rattle.ct_rules.specs.Parts.{performs, send, send_all, reply, keeps, reaches, open_of, opened, end_vacuum, applies, satisfy, revoke, give, read_here, delegate, grant, yield_record, drain, drained, satisfy_own, raise, end_revocation, next_of, next, keep, call_for, wait_for_copies, want_of, opened_at_home, want}
use Rattle.ct_rules.specs.Messages.{is_misplaced, pass_again, is_request, enqueue, on_call_of, called, on_call, same_recall, wait, handle, recalled, on_recall, hand_on, on_give_of, on_give, satisfy_wish, becomes, accept, refuse, on_pass, on_refuse_of, on_refuse, read_granted, on_grant, on_done_of, on_done, called_in, acknowledge, renew, on_revoke_of, on_revoke, acknowledged, on_revokeack, stored_copy, deleted_copy, on_vstore, on_vdelete, greater, finish, on_vstored_of, on_vstored, on_vdeleted_of, on_vdeleted}
use Rattle.ct_rules.specs.Moves.{store, release, unlock, is_vacuumed, phase_message, begin_vacuum, vacuum_at_home, vacuum, call_again_of, call_again, revoke_again_of, revoke_again, at_home, from_home, arrive}
use Rattle.ct_rules_node.specs.Admission.{record_in, some_of, masters_in, nodes_in, named_in, members_in, table_in, ptables_in, addresses_in, is_current, persistent_from, is_listed, are_all, is_sound}
use Rattle.ct_rules_node.specs.Refusals.{refused_if, first_of}
use Rattle.ct_rules_node.specs.Clients.{is_commit, is_unlock, wants_change, is_under_lock, is_locked, no_such_db, wrong_kind, may_finish, not_serving, pending_of, call_pending, is_committing, is_name_of_commit, commit_pending, already_locked, not_locked, no_such_call, full, refusal, any_locked_in, any_locked, frozen_if_unlocked, unlocks, reads as clients_reads, serves, serves_or, client}
use Rattle.ct_rules_node.specs.Databases.{updates, with_commit, awaits_others, commits_at, commit, acknowledges, on_pupdate, on_pack_of, on_pack, read_pair}
use Rattle.ct_rules_node.specs.Node.{is_serving, is_present, is_freezing, is_frozen_in, is_present_in, is_among, or_zero, master_of, untouched, or_untouched, db_at, with_db, or_nothing, state_at, kind_in, kind_at, is_readonly, is_persistent, has_records, name_in, name_of, holder_in, assigned_all, untouched_all, opening, restarted_db, restarted}
use Rattle.ct_rules_node.specs.Records.{kept, with_state, out_of, place_of, view, put_back, acted, at_record}
use Rattle.ct_rules_node.specs.Retries.{call_all, revoke_all, revoke_in, update_again, update_in, retry_records, retry_run, retry_lead, retry}
use Rattle.ct_rules_node.specs.Numbered.{ranked, by_number}
use Rattle.ct_rules_node.specs.Rounds.{begin_round, frozen_state, changed, frozen_db, lead_from, ends_lock, ends_commit, ends_commits, freezes, on_freeze, all_frozen, on_freezeack, own_or_none, row_of, with_row, rows_of, table_of, ptables_of, on_pull, or_leader, mastered, body_of, push_of, pushes, all_pulled, on_pullreply, copy_from, or_nobody, row_master, entry_from, bared, installed_state, install_row, install_rows, store_from, installed_db, installed_dbs, is_own, releases, installed_node, makes_rows, installs, on_push, completed, all_installed, on_pushack, called_of, calls_of, calls_in, pending_calls, want_again_of, want_again, want_all, thaws, on_thaw}
use Rattle.ct_rules_node.specs.Steps.{on_record_of, if_persistent, if_sound, if_taken_over, arrives, vacuum_all, vacuums, happens}
use Rattle.ct_rules_node.specs.Takeovers.{share, assigned_in, send_releases, runs, begin_takeover, has_address, on_release, all_released, released_by, on_releaseack, held_with, takes, on_take}
use Rattle.ct_rules_node.specs.Turn.{does, with_node, with_lead, with_phase, makes as turn_makes, answers, notes, posts, posts_all}
use Rattle.ct_rules_cluster.specs.Cluster.{numbers, everyone, opening as cluster_opening, is_true, is_up, absent, or_absent, node_at, sent_at, is_waiting_fate, is_waiting, is_delivered_fate, is_delivered, able_from, wished, wished_in, committing, pending_in, pending_at, pending_from, pending}
use Rattle.ct_rules_cluster.specs.Faults.{no_such_node, no_such_nodes, node_down, node_up, no_such_db as faults_no_such_db, wrong_kind as faults_wrong_kind, not_serving as faults_not_serving, leads, not_leader, not_member, lock_held, not_holder, not_waiting, not_delivered, fault_of, is_allowed}
use Rattle.ct_rules_node.specs.Coming.{is_allowed_op}
use Rattle.ct_rules_cluster.specs.Steps.{frames_of, lines_of, with_node as steps_with_node, put, is_counted, if_counted, fed_of, fed, done, with_fate, deliver, drop, repeat, without_holder, gone, stop, recover, steps, steps_or, applied}
use Rattle.ct_rules_cluster.specs.Traces.{asked_in, closed, opened as traces_opened, closed_by, closed_by_all, answer_label, sent_label, members_of, label_of, line_labels, is_refusal, is_refused, begun_by, own_labels, labels, idle, taken, ran_one, after, ran}
use Rattle.ct_persist.specs.Persisted.{written}
use Rattle.ct_persist.specs.Updates.{contents, updated_all, commits, each_next}
use Rattle.ct_lcp2.specs.Best.{best_from}
use Rattle.ct_lcp2.specs.Distance.{agreed, sum_to, imbalance}
use Rattle.ct_lcp2.specs.Placing.{held, repeated, moves_away, places_at, places, homeless, failbacks_of, failbacks, sources, total, placement}
use Rattle.ct_promise.proofs.Born.{is_config}
use Rattle.ct_traverse_parts.specs.Best.{gathered, shown}
use Rattle.ct_traverse_parts.specs.Moves.{walked_by, stepped_by, moves_ran}
use Rattle.ct_traverse_parts.specs.Posts.{numbered as post_numbered, is_waiting as post_waits, is_delivered as post_delivered}
use Rattle.ct_traverse_parts.specs.Walk.{is_there, begin_fault, questions, question_lines, begun_or, place_from, without_member, passed, counted, gave, is_taken, gave_at, given as rows_given, delivered, carried_of, end_lines}
use Rattle.ct_law_traverse.specs.Small.{AnswerIsThere}

pub answer_is_there : AnswerIsThere
unfolding rank rsn_of value_of is_mastered is_given is_for_reading with_value with_flags risen given is_quiet is_free is_read is_read_kind same_kind kind_of is_wished performs send send_all reply keeps reaches open_of opened end_vacuum applies satisfy revoke give read_here delegate grant yield_record drain drained satisfy_own raise end_revocation next_of next keep call_for wait_for_copies want_of opened_at_home want is_misplaced pass_again is_request enqueue on_call_of called on_call same_recall wait handle recalled on_recall hand_on on_give_of on_give satisfy_wish becomes accept refuse on_pass on_refuse_of on_refuse read_granted on_grant on_done_of on_done called_in acknowledge renew on_revoke_of on_revoke acknowledged on_revokeack stored_copy deleted_copy on_vstore on_vdelete greater finish on_vstored_of on_vstored on_vdeleted_of on_vdeleted store release unlock is_vacuumed phase_message begin_vacuum vacuum_at_home vacuum call_again_of call_again revoke_again_of revoke_again at_home from_home arrive record_in some_of masters_in nodes_in named_in members_in table_in ptables_in addresses_in is_current persistent_from is_listed are_all is_sound is_commit is_unlock wants_change wants_record is_under_lock refused_if is_locked no_such_db wrong_kind may_finish not_serving pending_of call_pending is_committing is_name_of_commit commit_pending already_locked not_locked no_such_call full first_of refusal any_locked_in any_locked frozen_if_unlocked unlocks clients_reads serves serves_or client updates with_commit awaits_others commits_at commit acknowledges on_pupdate on_pack_of on_pack or_empty read_pair is_serving is_present is_freezing is_frozen_in is_present_in is_among or_zero master_of untouched or_untouched db_at with_db or_nothing state_at kind_in kind_at is_readonly is_persistent has_records name_in name_of holder_in assigned_all untouched_all opening restarted_db restarted kept with_state out_of place_of view put_back acted at_record call_all revoke_all revoke_in update_again update_in retry_records retry_run retry_lead retry begin_round frozen_state changed frozen_db lead_from ends_lock ends_commit ends_commits freezes on_freeze all_frozen on_freezeack own_or_none row_of with_row rows_of table_of ptables_of on_pull or_leader mastered body_of push_of pushes all_pulled on_pullreply copy_from or_nobody row_master entry_from bared installed_state install_row install_rows store_from installed_db installed_dbs is_this_node is_own releases installed_node makes_rows installs on_push completed all_installed on_pushack called_of calls_of calls_in ranked by_number pending_calls want_again_of want_again want_all thaws on_thaw on_record_of if_persistent if_sound if_taken_over arrives vacuum_all vacuums happens share assigned_in send_releases runs begin_takeover has_address on_release all_released released_by on_releaseack held_with takes on_take does with_node with_lead with_phase turn_makes answers notes posts posts_all numbers everyone cluster_opening is_true is_up absent or_absent node_at sent_at is_waiting_fate is_waiting is_delivered_fate is_delivered able_from wished wished_in committing pending_in pending_at pending_from pending no_such_node no_such_nodes node_down node_up faults_no_such_db faults_wrong_kind faults_not_serving leads not_leader not_member lock_held not_holder not_waiting not_delivered fault_of is_allowed_op is_allowed frames_of lines_of steps_with_node put is_counted if_counted fed_of fed done with_fate deliver drop repeat without_holder gone stop recover steps steps_or applied asked_in closed traces_opened closed_by closed_by_all answer_label sent_label members_of label_of line_labels is_refusal is_refused begun_by own_labels labels idle taken ran_one after ran written contents updated_all commits each_next best_from agreed sum_to imbalance held repeated moves_away places_at places homeless failbacks_of failbacks sources total placement gathered shown walked_by stepped_by moves_ran post_numbered post_waits post_delivered is_there begin_fault questions question_lines begun_or place_from without_member passed counted gave is_taken gave_at rows_given delivered carried_of end_lines
answer_is_there = (is_config, refl)
