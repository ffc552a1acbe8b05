-- Steps of records: messages of them, calls on them, what is sent again, a thaw and a vacuum.
use Rattle.std.proofs.Common.{◌≡◌, ℕ, suc, ◌+◌, Bool, true, false, cond, List, [], ◌∷◌, Option, None, Some, refl, sym, ap, ◌∙◌, subst, arith}
use Rattle.std.specs.Prelude.{slice_get}
use Rattle.ct_lcp2.proofs.Choices.{all_append}
use Rattle.ct_values.specs.Client.{db_of, key_of, is_read}
use Rattle.ct_values.specs.declared.client.ClientOp.{ClientOp}
use Rattle.ct_values.specs.declared.client.ClientOp.TheVariants as op
use Rattle.ct_values.specs.declared.client.Pair.{Pair}
use Rattle.ct_values.specs.declared.config.Config.{Config}
use Rattle.ct_frame.specs.declared.event.Note.TheVariants as note
use Rattle.ct_frame.specs.declared.event.Out.TheVariants as out
use Rattle.ct_frame.specs.declared.frame.Frame.{Frame}
use Rattle.ct_frame.specs.declared.frame.Msg.TheVariants as msg
use Rattle.ct_call.specs.Rules.{Rules}
use Rattle.ct_rules.specs.Parts.{want}
use Rattle.ct_rules_node.specs.Node.{Node, Phase, Serving, Installed, Freezing, Frozen, Database, Committing, is_serving, is_present, is_persistent, kind_at, or_untouched, db_at}
use Rattle.ct_rules_node.specs.Turn.{Turn, does, with_phase, notes}
use Rattle.ct_rules_node.specs.Records.{at_record}
use Rattle.ct_rules_node.specs.Clients.{is_commit, any_locked, frozen_if_unlocked, unlocks, reads, serves}
use Rattle.ct_rules_node.specs.Rounds.{pending_calls, thaws, on_thaw}
use Rattle.ct_rules_node.specs.Databases.{read_pair}
use Rattle.ct_rules_node.specs.Retries.{call_all, revoke_in, update_again, update_in, retry_records, retry}
use Rattle.ct_rules_node.specs.Steps.{on_record_of, vacuum_all, vacuums}
use Rattle.ct_law_generation.proofs.Speaking.{want_told, store_told, release_told, unlock_told, arrive_told}
use Rattle.ct_law_generation.proofs.Pending.{Callers}
use Rattle.ct_law_plain.proofs.Plainly.{SamePlain, at_record_plain}
use Rattle.ct_law_plain.proofs.Events.{want_all_plain, resends_plain, vacuums_plain}
use Rattle.ct_law_acts.proofs.Asked.{IsAsked, AllAsked, want_all_asked, call_all_asked, revoke_in_asked, vacuum_all_asked, at_record_asked, wants_asked, stores_asked, releases_asked, unlocks_asked}
use Rattle.ct_law_acts.proofs.Telling.{arrive_tells}
use Rattle.ct_law_acts.proofs.Known.{Commits}
use Rattle.ct_law_acts.proofs.Whole.{call_all_calls}
use Rattle.ct_law_registers.proofs.Facts.{Has, Bases, Stands, LeadStands}
use Rattle.ct_law_databases.proofs.Kept.{Calm, calm_same, calm_after, either_calm}
use Rattle.ct_law_databases.proofs.Outs.{posted}
use Rattle.ct_law_databases.proofs.Quiet.{IsQuietNote}
use Rattle.ct_law_databases.proofs.Parts.{Answerable, AllAnswerable, IsCallOn, call_on, plain_calm, sends_calm, send_calm, note_calm, phase_calm}
use Rattle.ct_law_databases.proofs.Rounds.{retry_lead_calm}

module _ (config : Config) (rules : Rules) (who : Callers) (calls : ℕ) (b : Bases) (has : Has) (n : ℕ) where
  abbrev IsCalmTo : Turn → Turn → Type 0
  IsCalmTo t u = Calm config who b has n t u

  -- answers so far are to calls that are known
  abbrev Asked : Turn → Type 0
  Asked t = AllAsked (IsCallOn config who b) t.outs

  abbrev Known_at : Turn → Type 0
  Known_at t = AllAnswerable config who b calls n t.node

  abbrev P : ℕ → List ℕ → ℕ → ClientOp → Type 0
  P = Answerable config who b calls n

  abbrev Q : ℕ → ℕ → List Pair → Type 0
  Q = Commits who calls n

  of_call : (db : ℕ) (key : List ℕ) (call : ℕ) (asked : ClientOp) → P db key call asked → IsCallOn config who b call asked
  of_call db key call asked w = call_on config who b calls n db key call asked w

  -- ---- messages, vacuums and thaws

  pub record_calm : (f : Frame) (t : Turn) (r : Option (ℕ × List ℕ)) → Known_at t → Asked t → IsCalmTo t (on_record_of config rules n f t r)
  unfolding on_record_of
  record_calm f t None known asked = calm_same
  record_calm f t (Some k) known asked = either_calm _
      (plain_calm config who b has n t _ (at_record_plain config n k.0 k.1 _ t (λ at o h. arrive_told at rules f.sender f.msg o h))
      (at_record_asked P Q (IsCallOn config who b) of_call config n k.0 k.1 _ t (λ at o v l. arrive_tells (P k.0 k.1) at rules f.sender f.msg o v l) known asked)) calm_same

  pub vacuums_calm : (db : ℕ) (t : Turn) → Known_at t → Asked t → IsCalmTo t (vacuums config n db t)
  unfolding vacuums
  vacuums_calm db t known asked = plain_calm config who b has n t _ (vacuums_plain config n db t) (by (is_serving t.node.phase))
    where
      by : (c : Bool) → AllAsked (IsCallOn config who b) (cond c (vacuum_all config n db (db_at db t.node).records t) t).outs
      by true = vacuum_all_asked P Q (IsCallOn config who b) of_call config n db (db_at db t.node).records t known asked
      by false = asked

  thaws_calm : (g : ℕ) (t : Turn) → Known_at t → Asked t → IsCalmTo t (thaws config rules n g t)
  unfolding thaws notes does with_phase IsAsked IsQuietNote
  thaws_calm g t known asked =
      let v : Turn = notes (note.Thawed g) (with_phase Serving t) in
      let first : Asked v = all_append (IsAsked (IsCallOn config who b)) t.outs (out.Note (note.Thawed g) ∷ []) asked (tt, tt) in
      calm_after (phase_calm config who b has n Serving t) (calm_after (note_calm config who b has n (note.Thawed g) (with_phase Serving t) tt)
      (plain_calm config who b has n v _ (want_all_plain config rules n (pending_calls t.node) v) (want_all_asked P Q (IsCallOn config who b) of_call config rules n (pending_calls t.node) v known first)))

  pub on_thaw_calm : (g : ℕ) (t : Turn) (p : Phase) → Known_at t → Asked t → IsCalmTo t (on_thaw config rules n g t p)
  unfolding on_thaw
  on_thaw_calm g t Installed known asked = either_calm _ (thaws_calm g t known asked) calm_same
  on_thaw_calm g t _ known asked = calm_same

  -- ---- what is sent again

  -- the commits that wait in these databases: their updates stand
  abbrev pub UpdatesStand : ℕ → ℕ → List Database → Type 0
  UpdatesStand g i ds = (k : ℕ) (z : Committing) → (or_untouched (slice_get ds k)).commit ≡ Some z → Stands config b has g n (msg.PUpdate (i + k) z.pending.seq z.writes)

  update_again_calm : (g db : ℕ) (t : Turn) (o : Option Committing) → t.node.generation ≡ g → ((z : Committing) → o ≡ Some z → Stands config b has g n (msg.PUpdate db z.pending.seq z.writes)) → IsCalmTo t (update_again n db t o)
  unfolding update_again
  update_again_calm g db t None is stands = calm_same
  update_again_calm g db t (Some z) is stands = sends_calm config who b has n t.node.generation z.pending.missing (msg.PUpdate db z.pending.seq z.writes) t (subst (λ (k : ℕ). Stands config b has k n (msg.PUpdate db z.pending.seq z.writes)) (sym is) (stands z refl))

  same_generation : (db : ℕ) (t : Turn) (o : Option Committing) → (update_again n db t o).node.generation ≡ t.node.generation
  unfolding update_again
  same_generation db t None = refl
  same_generation db t (Some z) = ap (λ (y : Node). y.generation) (posted t.node.generation n z.pending.missing (msg.PUpdate db z.pending.seq z.writes) t)

  update_in_calm : (g i : ℕ) (ds : List Database) (t : Turn) → t.node.generation ≡ g → UpdatesStand g i ds → IsCalmTo t (update_in n i ds t)
  unfolding update_in or_untouched
  update_in_calm g i [] t is stands = calm_same
  update_in_calm g i (d ∷ ds) t is stands = calm_after (update_again_calm g i t d.commit is (λ z e. subst (λ (j : ℕ). Stands config b has g n (msg.PUpdate j z.pending.seq z.writes)) (let f : i + 0 ≡ i = omega arith in f) (stands 0 z e)))
      (update_in_calm g (i + 1) ds (update_again n i t d.commit) (same_generation i t d.commit ∙ is) (λ k z e. subst (λ (j : ℕ). Stands config b has g n (msg.PUpdate j z.pending.seq z.writes)) (let f : i + suc k ≡ (i + 1) + k = omega arith in f) (stands (suc k) z e)))

  records_again : (t : Turn) → Known_at t → Asked t → (is_present t.node.phase ≡ true → UpdatesStand t.node.generation 0 t.node.dbs) → IsCalmTo t (retry_records config n t)
  unfolding retry_records
  records_again t known asked stands = by (is_present t.node.phase) refl
    where
      first : Asked (call_all config n (pending_calls t.node) t)
      first = call_all_asked P Q (IsCallOn config who b) of_call config n (pending_calls t.node) t known asked

      calls_then : AllAnswerable config who b calls n (call_all config n (pending_calls t.node) t).node
      calls_then = call_all_calls P Q config n (pending_calls t.node) t known

      plain : SamePlain n t (revoke_in config n 0 t.node.dbs (call_all config n (pending_calls t.node) t))
      plain = resends_plain config n (pending_calls t.node) t.node.dbs t

      by : (c : Bool) → is_present t.node.phase ≡ c → IsCalmTo t (cond c (update_in n 0 t.node.dbs (revoke_in config n 0 t.node.dbs (call_all config n (pending_calls t.node) t))) t)
      by true e = calm_after (plain_calm config who b has n t _ plain (revoke_in_asked P Q (IsCallOn config who b) of_call config n 0 t.node.dbs _ calls_then first))
          (update_in_calm t.node.generation 0 t.node.dbs _ plain.generation (stands e))
      by false e = calm_same

  pub retry_calm : (t : Turn) → Known_at t → Asked t → LeadStands config b has n t.node.lead → (is_present t.node.phase ≡ true → UpdatesStand t.node.generation 0 t.node.dbs) → IsCalmTo t (retry config n t)
  unfolding retry
  retry_calm t known asked leads stands =
      let first = records_again t known asked stands in
      calm_after first (retry_lead_calm config who b has n (retry_records config n t) (retry_records config n t).node.lead (first.lead leads))

  -- ---- clients

  wants_calm : (call db : ℕ) (key : List ℕ) (asked : ClientOp) (t : Turn) → P db key call asked → Known_at t → Asked t → IsCalmTo t (at_record config n db key (λ at o. want at rules call asked o) t)
  wants_calm call db key asked t own known before = plain_calm config who b has n t _ (at_record_plain config n db key _ t (λ at o h. want_told at rules call asked o h)) (wants_asked P Q (IsCallOn config who b) of_call config rules n call db key asked t own known before)

  frozen_calm : (g leader : ℕ) (t : Turn) → IsCalmTo t (frozen_if_unlocked n g leader t)
  unfolding frozen_if_unlocked Stands
  frozen_calm g leader t = either_calm (any_locked t.node.dbs) calm_same (calm_after (phase_calm config who b has n (Frozen g) t) (send_calm config who b has n g leader msg.FreezeAck _ tt))

  unlocks_calm : (call db : ℕ) (key : List ℕ) (asked : ClientOp) (t : Turn) (p : Phase) → P db key call asked → Known_at t → Asked t → IsCalmTo t (unlocks config n call db key t p)
  unfolding unlocks
  unlocks_calm call db key asked t (Freezing g leader) own known before =
      calm_after (plain_calm config who b has n t _ (at_record_plain config n db key _ t (λ at o h. release_told at call o h)) (releases_asked P Q (IsCallOn config who b) of_call config n call db key asked t own known before)) (frozen_calm g leader _)
  unlocks_calm call db key asked t _ own known before = plain_calm config who b has n t _ (at_record_plain config n db key _ t (λ at o h. unlock_told at call o h)) (unlocks_asked P Q (IsCallOn config who b) of_call config n call db key asked t own known before)

  -- a call that is no commit, nor a read of a persistent database
  pub serves_calm : (call : ℕ) (asked : ClientOp) (t : Turn) → is_commit asked ≡ false → (is_read asked ≡ true → is_persistent (kind_at config (db_of asked)) ≡ false) → P (db_of asked) (key_of asked) call asked → Known_at t → Asked t → IsCalmTo t (serves config rules n call t asked)
  unfolding serves reads is_commit is_read
  serves_calm call (op.Commit db writes) t plain pair own known before = absurd (cc)
  serves_calm call (op.Read db key) t plain pair own known before = subst (λ (c : Bool). IsCalmTo t (cond c (read_pair call db key t) (at_record config n db key (λ at o. want at rules call (op.Read db key) o) t))) (sym (pair refl)) (wants_calm call db key (op.Read db key) t own known before)
  serves_calm call (op.Store db key v) t plain pair own known before = plain_calm config who b has n t _ (at_record_plain config n db key _ t (λ at o h. store_told at call v o h)) (stores_asked P Q (IsCallOn config who b) of_call config n call db key v (op.Store db key v) t own known before)
  serves_calm call (op.Unlock db key) t plain pair own known before = unlocks_calm call db key (op.Unlock db key) t t.node.phase own known before
  serves_calm call (op.Lock db key) t plain pair own known before = wants_calm call db key (op.Lock db key) t own known before
  serves_calm call (op.Write db key v) t plain pair own known before = wants_calm call db key (op.Write db key v) t own known before
  serves_calm call (op.Apply db key f arg) t plain pair own known before = wants_calm call db key (op.Apply db key f arg) t own known before
