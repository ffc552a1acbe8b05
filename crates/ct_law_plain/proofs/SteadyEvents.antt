-- Every event: it is steady, or a Freeze that is followed, or the last reply of a round.
use Rattle.std.proofs.Common.{◌≡◌, ℕ, Bool, true, false, cond, List, [], ◌∷◌, Option, Some, None, refl, sym, ap, ◌∙◌, subst, inl, inr}
use Rattle.std.specs.Prelude.{◌⊎◌, nat_lt}
use Rattle.ct_values.specs.Words.{others}
use Rattle.ct_values.specs.declared.client.Answer.TheVariants as answer
use Rattle.ct_values.specs.declared.client.ClientOp.{ClientOp}
use Rattle.ct_values.specs.declared.client.ClientOp.TheVariants as op
use Rattle.ct_values.specs.declared.client.Why.{Why}
use Rattle.ct_values.specs.declared.config.Config.{Config}
use Rattle.ct_frame.specs.declared.event.Event.{Event}
use Rattle.ct_frame.specs.declared.event.Event.TheVariants as event
use Rattle.ct_frame.specs.declared.event.Note.TheVariants as note
use Rattle.ct_frame.specs.declared.frame.Frame.{Frame}
use Rattle.ct_frame.specs.declared.frame.Msg.{Msg}
use Rattle.ct_frame.specs.declared.frame.Msg.TheVariants as msg
use Rattle.ct_call.specs.Rules.{Rules}
use Rattle.ct_rules.specs.Parts.{want}
use Rattle.ct_rules_node.specs.Node.{Phase, Serving, Installed, Freezing, Frozen, is_present, is_persistent, kind_at, is_frozen_in}
use Rattle.ct_rules_node.specs.Turn.{Turn, with_phase, makes, posts}
use Rattle.ct_rules_node.specs.Records.{at_record, acted, put_back}
use Rattle.ct_rules_node.specs.Databases.{read_pair}
use Rattle.ct_rules_node.specs.Clients.{any_locked, frozen_if_unlocked, unlocks, reads, serves, serves_or, client, refusal}
use Rattle.ct_rules_node.specs.Rounds.{pending_calls, freezes, ends_commits, on_freeze, thaws, on_thaw}
use Rattle.ct_rules_node.specs.Retries.{retry_records, retry}
use Rattle.ct_rules_node.specs.Steps.{on_record_of, if_persistent, if_sound, if_taken_over, arrives, vacuums, happens}
use Rattle.ct_rules_node.specs.Admission.{record_in, is_sound}
use Rattle.ct_law_generation.proofs.Speaking.{want_told, store_told, release_told, unlock_told, arrive_told}
use Rattle.ct_law_plain.proofs.Plainly.{at_record_plain}
use Rattle.ct_law_plain.proofs.Events.{want_all_plain, resends_plain, vacuums_plain}
use Rattle.ct_law_plain.proofs.Steady.{IsOwn, Steady, steady_same, steady_after, either_steady, steady_still, makes_steady, answers_steady, notes_steady, posts_steady, plain_steady}
use Rattle.ct_law_plain.proofs.Parts.{commit_steady, on_pupdate_steady, on_pack_steady, begin_round_steady, on_freezeack_steady, on_pull_steady, Pushes, either_push, on_pullreply_either, on_push_steady, on_pushack_steady, begin_takeover_steady, on_release_steady, on_releaseack_steady, on_take_steady, update_in_steady, retry_lead_steady}

-- ---- clients

wants_steady : (c : Config) (rules : Rules) (me call db : ℕ) (key : List ℕ) (asked : ClientOp) (t : Turn) → Steady me t (at_record c me db key (λ at o. want at rules call asked o) t)
wants_steady c rules me call db key asked t = plain_steady (at_record_plain c me db key _ t (λ at o h. want_told at rules call asked o h))

reads_steady : (c : Config) (rules : Rules) (me call db : ℕ) (key : List ℕ) (t : Turn) → Steady me t (reads c rules me call db key t)
unfolding reads read_pair
reads_steady c rules me call db key t = either_steady _ (answers_steady me call _ t) (wants_steady c rules me call db key (op.Read db key) t)

-- a node that freezes and is frozen then was not present
frozen_steady : (me g leader : ℕ) (t : Turn) → is_present t.node.phase ≡ false → Steady me t (frozen_if_unlocked me g leader t)
unfolding frozen_if_unlocked with_phase
frozen_steady me g leader t absent = either_steady (any_locked t.node.dbs) steady_same (steady_after
    (record { promise = refl; present = λ h. absurd (cc); outs = (let s : Steady me t t = steady_same in s.outs) })
    (posts_steady me g leader msg.FreezeAck (with_phase (Frozen g) t)))

unlocks_steady : (c : Config) (me call db : ℕ) (key : List ℕ) (t : Turn) (p : Phase) → t.node.phase ≡ p → Steady me t (unlocks c me call db key t p)
unfolding unlocks is_present
unlocks_steady c me call db key t (Freezing g leader) is =
    let s = at_record_plain c me db key _ t (λ at o h. release_told at call o h) in
    steady_after (plain_steady s) (frozen_steady me g leader _ (ap is_present (s.phase ∙ is)))
unlocks_steady c me call db key t _ is = plain_steady (at_record_plain c me db key _ t (λ at o h. unlock_told at call o h))

serves_steady : (c : Config) (rules : Rules) (me call : ℕ) (t : Turn) (asked : ClientOp) → Steady me t (serves c rules me call t asked)
unfolding serves
serves_steady c rules me call t (op.Read db key) = reads_steady c rules me call db key t
serves_steady c rules me call t (op.Store db key v) = plain_steady (at_record_plain c me db key _ t (λ at o h. store_told at call v o h))
serves_steady c rules me call t (op.Unlock db key) = unlocks_steady c me call db key t t.node.phase refl
serves_steady c rules me call t (op.Commit db writes) = commit_steady me call db writes t
serves_steady c rules me call t (op.Lock db key) = wants_steady c rules me call db key (op.Lock db key) t
serves_steady c rules me call t (op.Write db key v) = wants_steady c rules me call db key (op.Write db key v) t
serves_steady c rules me call t (op.Apply db key f arg) = wants_steady c rules me call db key (op.Apply db key f arg) t

serves_or_steady : (c : Config) (rules : Rules) (me call : ℕ) (asked : ClientOp) (t : Turn) (w : Option Why) → Steady me t (serves_or c rules me call asked t w)
unfolding serves_or
serves_or_steady c rules me call asked t (Some w) = answers_steady me call _ t
serves_or_steady c rules me call asked t None = serves_steady c rules me call t asked

client_steady : (c : Config) (rules : Rules) (me call : ℕ) (asked : ClientOp) (t : Turn) → Steady me t (client c rules me call asked t)
unfolding client
client_steady c rules me call asked t = steady_after (makes_steady me call t) (serves_or_steady c rules me call asked (makes call t) (refusal c rules t.node asked))

-- ---- Thaw, Retry and the messages of records

serving_steady : (me : ℕ) (t : Turn) → Steady me t (with_phase Serving t)
unfolding with_phase is_present
serving_steady me t = (let s : Steady me t t = steady_same in record { promise = refl; present = λ _. refl; outs = s.outs })

on_thaw_steady : (c : Config) (rules : Rules) (me g : ℕ) (t : Turn) (p : Phase) → Steady me t (on_thaw c rules me g t p)
unfolding on_thaw thaws IsOwn
on_thaw_steady c rules me g t Installed = either_steady _ (steady_after (serving_steady me t) (steady_after (notes_steady me (note.Thawed g) (with_phase Serving t) tt) (plain_steady (want_all_plain c rules me (pending_calls t.node) _)))) steady_same
on_thaw_steady c rules me g t _ = steady_same

retry_steady : (c : Config) (me : ℕ) (t : Turn) → Steady me t (retry c me t)
unfolding retry retry_records
retry_steady c me t = steady_after
    (either_steady (is_present t.node.phase) (steady_after (plain_steady (resends_plain c me (pending_calls t.node) t.node.dbs t)) (update_in_steady me 0 t.node.dbs _)) steady_same)
    (retry_lead_steady me (retry_records c me t) (retry_records c me t).node.lead)

on_record_of_steady : (c : Config) (rules : Rules) (me : ℕ) (f : Frame) (t : Turn) (r : Option (ℕ × List ℕ)) → Steady me t (on_record_of c rules me f t r)
unfolding on_record_of
on_record_of_steady c rules me f t None = steady_same
on_record_of_steady c rules me f t (Some r) = either_steady _ (plain_steady (at_record_plain c me r.0 r.1 _ t (λ at o h. arrive_told at rules f.sender f.msg o h))) steady_same

-- ---- every event

-- a Freeze that is sound and above the promise
pub record IsFollowed (c : Config) (t : Turn) (f : Frame) : Type 0 where
  pub members : List ℕ
  pub freeze : f.msg ≡ msg.Freeze members
  pub sound : is_sound c f ≡ true
  pub newer : nat_lt t.node.promise f.generation ≡ true

-- it is steady, or such a Freeze comes, or the last reply of a round
abbrev pub Goes_steady : Config → Rules → ℕ → Turn → Event → Type 0
Goes_steady c rules me t e = Steady me t (happens c rules me t e) ⊎ ((f : Frame) × (e ≡ event.Arrive f) × IsFollowed c t f) ⊎ Pushes me t (happens c rules me t e)

freeze_either : (c : Config) (me : ℕ) (f : Frame) (t : Turn) (members : List ℕ) → f.msg ≡ msg.Freeze members → Steady me t (if_sound c f (on_freeze c me f.sender f.generation t) t) ⊎ IsFollowed c t f
unfolding if_sound on_freeze
freeze_either c me f t members is = by (frozen_if_unlocked me f.generation f.sender (ends_commits c 0 t.node.dbs (freezes f.generation f.sender t))) (is_sound c f) (nat_lt t.node.promise f.generation) (is_frozen_in f.generation t.node.phase) refl refl
  where
    by : (u : Turn) (a b d : Bool) → is_sound c f ≡ a → nat_lt t.node.promise f.generation ≡ b → Steady me t (cond a (cond b u (cond d (posts f.generation me f.sender msg.FreezeAck t) t)) t) ⊎ IsFollowed c t f
    by u false b d s n = inl steady_same
    by u true true d s n = inr (record { members = members; freeze = is; sound = s; newer = n })
    by u true false true s n = inl (posts_steady me f.generation f.sender msg.FreezeAck t)
    by u true false false s n = inl steady_same

freeze_or : (c : Config) (me : ℕ) (f : Frame) (t u : Turn) → Steady me t u ⊎ IsFollowed c t f → Steady me t u ⊎ IsFollowed c t f ⊎ Pushes me t u
freeze_or c me f t u (inl s) = inl s
freeze_or c me f t u (inr k) = inr (inl k)

push_or : (c : Config) (me : ℕ) (f : Frame) (t u : Turn) → Steady me t u ⊎ Pushes me t u → Steady me t u ⊎ IsFollowed c t f ⊎ Pushes me t u
push_or c me f t u (inl s) = inl s
push_or c me f t u (inr k) = inr (inr k)

arrives_steady : (c : Config) (rules : Rules) (me : ℕ) (f : Frame) (t : Turn) (m : Msg) → f.msg ≡ m → Steady me t (arrives c rules me f t m) ⊎ IsFollowed c t f ⊎ Pushes me t (arrives c rules me f t m)
unfolding arrives if_persistent if_taken_over if_sound
arrives_steady c rules me f t (msg.PUpdate db seq writes) is = inl (either_steady _ (on_pupdate_steady me f.sender db seq writes t) steady_same)
arrives_steady c rules me f t (msg.PAck db seq) is = inl (either_steady _ (on_pack_steady me f.sender db seq t) steady_same)
arrives_steady c rules me f t (msg.Freeze members) is = freeze_or c me f t _ (freeze_either c me f t members is)
arrives_steady c rules me f t msg.FreezeAck is = inl (either_steady _ (on_freezeack_steady me f.sender f.generation t t.node.lead) steady_same)
arrives_steady c rules me f t msg.Pull is = inl (either_steady _ (on_pull_steady c me f.sender f.generation t) steady_same)
arrives_steady c rules me f t (msg.PullReply vbase pbase table ptables addresses) is = push_or c me f t _ (either_push me t _ _ (on_pullreply_either me f.generation _ t t.node.lead))
arrives_steady c rules me f t (msg.Push members table ptables assigned) is = inl (either_steady _ (on_push_steady c me f.sender f.generation members table ptables assigned t) steady_same)
arrives_steady c rules me f t msg.PushAck is = inl (either_steady _ (on_pushack_steady c me f.sender f.generation t t.node.lead) steady_same)
arrives_steady c rules me f t msg.Thaw is = inl (either_steady _ (on_thaw_steady c rules me f.generation t t.node.phase) steady_same)
arrives_steady c rules me f t (msg.Release number keep) is = inl (either_steady _ (on_release_steady me f.sender number keep t) steady_same)
arrives_steady c rules me f t (msg.ReleaseAck number) is = inl (either_steady _ (on_releaseack_steady me f.sender f.generation number t t.node.lead) steady_same)
arrives_steady c rules me f t (msg.Take number assigned) is = inl (either_steady _ (on_take_steady c me number assigned t) steady_same)
arrives_steady c rules me f t m is = inl (on_record_of_steady c rules me f t (record_in m))

-- whatever comes
pub happens_steady : (c : Config) (rules : Rules) (me : ℕ) (t : Turn) (e : Event) → Goes_steady c rules me t e
unfolding happens
happens_steady c rules me t (event.Client call asked) = inl (client_steady c rules me call asked t)
happens_steady c rules me t (event.Arrive f) = by (arrives_steady c rules me f t f.msg refl)
  where
    by : Steady me t (arrives c rules me f t f.msg) ⊎ IsFollowed c t f ⊎ Pushes me t (arrives c rules me f t f.msg) → Steady me t (arrives c rules me f t f.msg) ⊎ ((g : Frame) × (event.Arrive f ≡ event.Arrive g) × IsFollowed c t g) ⊎ Pushes me t (arrives c rules me f t f.msg)
    by (inl s) = inl s
    by (inr (inl k)) = inr (inl (f, refl, k))
    by (inr (inr p)) = inr (inr p)
happens_steady c rules me t event.Retry = inl (retry_steady c me t)
happens_steady c rules me t (event.Vacuum db) = inl (plain_steady (vacuums_plain c me db t))
happens_steady c rules me t (event.BeginRound ticket members) = inl (begin_round_steady me ticket members t)
happens_steady c rules me t (event.BeginTakeover able) = inl (begin_takeover_steady me able t t.node.lead)
