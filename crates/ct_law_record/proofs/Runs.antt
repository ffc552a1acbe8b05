-- Two schedules, computed: the definitions are not empty words. Node 0 is the location master, node 1 the other member.
use Rattle.std.proofs.Common.{◌≡◌, ℕ, Bool, true, false, List, [], ◌∷◌, None, refl}
use Rattle.ct_values.specs.Client.{is_read, wants_record}
use Rattle.ct_values.specs.declared.client.Answer.TheVariants as answer
use Rattle.ct_values.specs.declared.client.ClientOp.{ClientOp}
use Rattle.ct_values.specs.declared.client.ClientOp.TheVariants as op
use Rattle.ct_rules.specs.State
use Rattle.ct_rules.specs.Parts
use Rattle.ct_rules.specs.Messages
use Rattle.ct_rules.specs.Moves
use Rattle.ct_rules_node.specs.Node.{is_among}
use Rattle.ct_law_record.specs.Labels.{Told, Vacuumed}
use Rattle.ct_law_record.specs.World
use Rattle.ct_law_record.specs.Calls
use Rattle.ct_law_record.specs.World.{Scene, Event, Wants, Stores, Unlocks, Comes, Vacuums, opening}

-- a record, without functions
abbrev scene : Bool → Scene
scene readonly = record { db = 1; key = 97 ∷ []; lmaster = 0; readonly = readonly; members = 0 ∷ 1 ∷ []; rules = [] }

abbrev write : ℕ → ClientOp
write v = op.Write 1 (97 ∷ []) (v ∷ [])

abbrev lock : ClientOp
lock = op.Lock 1 (97 ∷ [])

abbrev read : ClientOp
read = op.Read 1 (97 ∷ [])

-- node 0 writes; node 1 locks the record, stores the empty value and unlocks it; then it is vacuumed, while the messages of the
-- vacuum come twice
abbrev moves_and_goes : List Event
moves_and_goes = Wants 0 1 (write 5) ∷ Wants 1 2 lock ∷ Comes 0 ∷ Comes 1 ∷ Comes 2 ∷ Comes 3 ∷ Stores 1 3 [] ∷ Unlocks 1 4 ∷ Vacuums 1 ∷ Comes 4 ∷ Vacuums 0 ∷ Comes 5 ∷ Comes 6 ∷ Comes 7 ∷ Comes 8 ∷ Comes 5 ∷ Comes 7 ∷ Wants 0 5 read ∷ []

one_moves : (Calls.ran (scene false) opening (λ n call. None) moves_and_goes).labels ≡
    Told 0 (write 5) answer.Written ∷ Told 1 lock (answer.Locked (5 ∷ [])) ∷ Told 1 (op.Store 1 (97 ∷ []) []) answer.Stored ∷ Told 1 (op.Unlock 1 (97 ∷ [])) answer.Unlocked ∷ Vacuumed 0 ∷ Told 0 read (answer.Read []) ∷ []
unfolding State.rank State.rsn_of State.value_of State.is_mastered State.is_given State.is_for_reading State.with_value State.with_flags State.risen State.given State.is_quiet State.is_free is_read State.is_read_kind State.same_kind State.kind_of State.is_wished Parts.performs Parts.send Parts.send_all Parts.reply Parts.keeps Parts.reaches Parts.open_of Parts.opened Parts.end_vacuum Parts.applies Parts.satisfy Parts.revoke Parts.give Parts.read_here Parts.delegate Parts.grant Parts.yield_record Parts.drain Parts.drained Parts.satisfy_own Parts.raise Parts.end_revocation Parts.next_of Parts.next Parts.keep Parts.call_for Parts.wait_for_copies Parts.want_of Parts.opened_at_home Parts.want Messages.is_misplaced Messages.pass_again Messages.is_request Messages.enqueue Messages.on_call_of Messages.called Messages.on_call Messages.same_recall Messages.wait Messages.handle Messages.recalled Messages.on_recall Messages.hand_on Messages.on_give_of Messages.on_give Messages.satisfy_wish Messages.becomes Messages.accept Messages.refuse Messages.on_pass Messages.on_refuse_of Messages.on_refuse Messages.read_granted Messages.on_grant Messages.on_done_of Messages.on_done Messages.called_in Messages.acknowledge Messages.renew Messages.on_revoke_of Messages.on_revoke Messages.acknowledged Messages.on_revokeack Messages.stored_copy Messages.deleted_copy Messages.on_vstore Messages.on_vdelete Messages.greater Messages.finish Messages.on_vstored_of Messages.on_vstored Messages.on_vdeleted_of Messages.on_vdeleted Moves.store Moves.release Moves.unlock Moves.is_vacuumed Moves.phase_message Moves.begin_vacuum Moves.vacuum_at_home Moves.vacuum Moves.call_again_of Moves.call_again Moves.revoke_again_of Moves.revoke_again Moves.at_home Moves.from_home Moves.arrive World.may_want World.answers World.call_of World.sends World.sent Calls.with_call Calls.closed_by Calls.closed_by_all Calls.told_by wants_record is_among
one_moves = refl

-- node 0 writes; node 1 reads, and has a copy for reading; node 0 writes again, which waits for the copy; node 1 reads again
abbrev reads_and_waits : List Event
reads_and_waits = Wants 0 1 (write 5) ∷ Wants 1 2 read ∷ Comes 0 ∷ Comes 1 ∷ Comes 2 ∷ Comes 3 ∷ Wants 1 3 read ∷ Wants 0 4 (write 6) ∷ Comes 4 ∷ Comes 2 ∷ Comes 5 ∷ Wants 1 5 read ∷ Comes 6 ∷ Comes 7 ∷ Comes 8 ∷ []

one_reads : (Calls.ran (scene true) opening (λ n call. None) reads_and_waits).labels ≡
    Told 0 (write 5) answer.Written ∷ Told 1 read (answer.Read (5 ∷ [])) ∷ Told 1 read (answer.Read (5 ∷ [])) ∷ Told 0 (write 6) answer.Written ∷ Told 1 read (answer.Read (6 ∷ [])) ∷ []
unfolding State.rank State.rsn_of State.value_of State.is_mastered State.is_given State.is_for_reading State.with_value State.with_flags State.risen State.given State.is_quiet State.is_free is_read State.is_read_kind State.same_kind State.kind_of State.is_wished Parts.performs Parts.send Parts.send_all Parts.reply Parts.keeps Parts.reaches Parts.open_of Parts.opened Parts.end_vacuum Parts.applies Parts.satisfy Parts.revoke Parts.give Parts.read_here Parts.delegate Parts.grant Parts.yield_record Parts.drain Parts.drained Parts.satisfy_own Parts.raise Parts.end_revocation Parts.next_of Parts.next Parts.keep Parts.call_for Parts.wait_for_copies Parts.want_of Parts.opened_at_home Parts.want Messages.is_misplaced Messages.pass_again Messages.is_request Messages.enqueue Messages.on_call_of Messages.called Messages.on_call Messages.same_recall Messages.wait Messages.handle Messages.recalled Messages.on_recall Messages.hand_on Messages.on_give_of Messages.on_give Messages.satisfy_wish Messages.becomes Messages.accept Messages.refuse Messages.on_pass Messages.on_refuse_of Messages.on_refuse Messages.read_granted Messages.on_grant Messages.on_done_of Messages.on_done Messages.called_in Messages.acknowledge Messages.renew Messages.on_revoke_of Messages.on_revoke Messages.acknowledged Messages.on_revokeack Messages.stored_copy Messages.deleted_copy Messages.on_vstore Messages.on_vdelete Messages.greater Messages.finish Messages.on_vstored_of Messages.on_vstored Messages.on_vdeleted_of Messages.on_vdeleted Moves.store Moves.release Moves.unlock Moves.is_vacuumed Moves.phase_message Moves.begin_vacuum Moves.vacuum_at_home Moves.vacuum Moves.call_again_of Moves.call_again Moves.revoke_again_of Moves.revoke_again Moves.at_home Moves.from_home Moves.arrive World.may_want World.answers World.call_of World.sends World.sent Calls.with_call Calls.closed_by Calls.closed_by_all Calls.told_by wants_record is_among
one_reads = refl
