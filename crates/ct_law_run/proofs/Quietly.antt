-- What a present node does beside its records: commits, reads of pairs, and addresses. Its round and what it leads stay.
use Rattle.std.proofs.Common.{◌≡◌, ℕ, ◌+◌, not, List, [], ◌∷◌, Option, Some, None, refl, sym, ◌∙◌, subst}
use Rattle.std.specs.Prelude.{nat_lt, nat_le, nat_eq}
use Rattle.std.specs.List.{AllByRecursion, filter}
use Rattle.std.proofs.lemmas.Bool.{cond_both}
use Rattle.ct_values.specs.Words.{others}
use Rattle.ct_values.specs.declared.address.Address.{Address}
use Rattle.ct_values.specs.declared.client.Answer.{Answer}
use Rattle.ct_values.specs.declared.client.Answer.TheVariants as answer
use Rattle.ct_values.specs.declared.client.Pair.{Pair}
use Rattle.ct_values.specs.declared.config.Config.{Config}
use Rattle.ct_frame.specs.declared.event.Note.{Note}
use Rattle.ct_frame.specs.declared.event.Note.TheVariants as note
use Rattle.ct_frame.specs.declared.event.Out.{Out}
use Rattle.ct_frame.specs.declared.event.Out.TheVariants as out
use Rattle.ct_frame.specs.declared.frame.Assigned.{Assigned}
use Rattle.ct_frame.specs.declared.frame.Msg.{Msg}
use Rattle.ct_frame.specs.declared.frame.Msg.TheVariants as msg
use Rattle.ct_lcp2.proofs.Choices.{all_append}
use Rattle.ct_persist.specs.Commits.{completes, applied_by}
use Rattle.ct_rules_node.specs.Node.{Database, Committing, db_at, with_db}
use Rattle.ct_rules_node.specs.Turn.{Turn, does, with_node, makes, answers, notes, posts, posts_all}
use Rattle.ct_rules_node.specs.Admission.{record_in}
use Rattle.ct_rules_node.specs.Databases.{updates, with_commit, awaits_others, commits_at, commit, acknowledges, on_pupdate, on_pack_of, on_pack, read_pair}
use Rattle.ct_rules_node.specs.Rounds.{releases}
use Rattle.ct_rules_node.specs.Takeovers.{has_address, held_with, share, on_release, takes, on_take}
use Rattle.ct_rules_cluster.specs.Cluster.{Cluster, Sent}
use Rattle.ct_rules_cluster.specs.Steps.{frames_of}
use Rattle.ct_register.specs.Lines.{Lines}
use Rattle.ct_law_generation.proofs.Hearing.{frames_more}
use Rattle.ct_law_run.proofs.Ages.{Ages}
use Rattle.ct_law_run.proofs.Lives.{RoundSays, ReplySays}
use Rattle.ct_law_run.proofs.Rounding.{Says_round}

-- From one middle of a turn to another the node's base, phase and lead stay, and each message that is sent is of no record and says
-- what is so.
pub record Quietly (c : Config) (w : Cluster) (r : Lines) (a : Ages) (n : ℕ) (t u : Turn) : Type 0 where
  pub pbase : u.node.pbase ≡ t.node.pbase
  pub phase : u.node.phase ≡ t.node.phase
  pub lead : u.node.lead ≡ t.node.lead
  pub frames : AllByRecursion (λ s. Says_round c w r a n s.frame) (frames_of t.outs) → AllByRecursion (λ s. Says_round c w r a n s.frame) (frames_of u.outs)

module _ (c : Config) (w : Cluster) (r : Lines) (a : Ages) (n : ℕ) where
  abbrev Quiet : Turn → Turn → Type 0
  Quiet t u = Quietly c w r a n t u

  pub quiet_none : (t : Turn) → Quiet t t
  quiet_none t = record { pbase = refl; phase = refl; lead = refl; frames = λ h. h }

  pub quiet_then : (t u v : Turn) → Quiet t u → Quiet u v → Quiet t v
  quiet_then t u v p q = record { pbase = q.pbase ∙ p.pbase; phase = q.phase ∙ p.phase; lead = q.lead ∙ p.lead; frames = λ h. q.frames (p.frames h) }

  quiet_does : (x : Out) (t : Turn) → AllByRecursion (λ s. Says_round c w r a n s.frame) (frames_of (x ∷ [])) → Quiet t (does x t)
  unfolding does
  quiet_does x t k = record {
    pbase = refl;
    phase = refl;
    lead = refl;
    frames = λ h. subst (λ (l : List Sent). AllByRecursion (λ s. Says_round c w r a n s.frame) l) (sym (frames_more t.outs (x ∷ []))) (all_append (λ s. Says_round c w r a n s.frame) (frames_of t.outs) (frames_of (x ∷ [])) h k);
  }

  quiet_answers : (call : ℕ) (x : Answer) (t : Turn) → Quiet t (answers call x t)
  unfolding answers frames_of
  quiet_answers call x t = quiet_does (out.Answer call x) t tt

  quiet_notes : (x : Note) (t : Turn) → Quiet t (notes x t)
  unfolding notes frames_of
  quiet_notes x t = quiet_does (out.Note x) t tt

  pub quiet_makes : (number : ℕ) (t : Turn) → Quiet t (makes number t)
  unfolding makes
  quiet_makes number t = record { pbase = refl; phase = refl; lead = refl; frames = λ h. h }

  quiet_db : (db : ℕ) (d : Database) (t : Turn) → Quiet t (with_node (with_db db d t.node) t)
  unfolding with_node with_db
  quiet_db db d t = record { pbase = refl; phase = refl; lead = refl; frames = λ h. h }

  quiet_places : (placement : List Assigned) (held : List Address) (run : ℕ) (t : Turn) → Quiet t (with_node (record t.node { placement = placement; held = held; last_run = run }) t)
  unfolding with_node
  quiet_places placement held run t = record { pbase = refl; phase = refl; lead = refl; frames = λ h. h }

  -- a message that says nothing of records nor of rounds
  abbrev Mute : Msg → Type 0
  Mute m = (g k : ℕ) → Says_round c w r a n (record { generation = g; sender = n; receiver = k; msg = m })

  quiet_posts : (g k : ℕ) (m : Msg) (t : Turn) → Mute m → Quiet t (posts g n k m t)
  unfolding posts frames_of
  quiet_posts g k m t h = quiet_does (out.Send (record { generation = g; sender = n; receiver = k; msg = m })) t (h g k, tt)

  quiet_posts_all : (g : ℕ) (ks : List ℕ) (m : Msg) (t : Turn) → Mute m → Quiet t (posts_all g n ks m t)
  unfolding posts_all
  quiet_posts_all g [] m t h = quiet_none t
  quiet_posts_all g (k ∷ ks) m t h = quiet_then t (posts g n k m t) (posts_all g n ks m (posts g n k m t)) (quiet_posts g k m t h) (quiet_posts_all g ks m (posts g n k m t) h)

  pupdate_mute : (db seq : ℕ) (writes : List Pair) → Mute (msg.PUpdate db seq writes)
  unfolding RoundSays ReplySays record_in
  pupdate_mute db seq writes g k = record { sender = refl; round = tt; none = refl; reply = tt }

  pack_mute : (db seq : ℕ) → Mute (msg.PAck db seq)
  unfolding RoundSays ReplySays record_in
  pack_mute db seq g k = record { sender = refl; round = tt; none = refl; reply = tt }

  ack_mute : (number : ℕ) → Mute (msg.ReleaseAck number)
  unfolding RoundSays ReplySays record_in
  ack_mute number g k = record { sender = refl; round = tt; none = refl; reply = tt }

  -- ---- commits

  quiet_updates : (db seq : ℕ) (writes : List Pair) (t : Turn) → Quiet t (updates db seq writes t)
  unfolding updates
  quiet_updates db seq writes t = quiet_db db _ t

  quiet_with : (db : ℕ) (x : Option Committing) (t : Turn) → Quiet t (with_commit db x t)
  unfolding with_commit
  quiet_with db x t = quiet_db db _ t

  quiet_awaits : (call db seq : ℕ) (writes : List Pair) (ns : List ℕ) (t : Turn) → Quiet t (awaits_others n call db seq writes ns t)
  unfolding awaits_others
  quiet_awaits call db seq writes [] t = quiet_answers call (answer.Committed seq) t
  quiet_awaits call db seq writes (m ∷ ms) t = quiet_then t _ _ (quiet_with db _ t) (quiet_posts_all t.node.generation (m ∷ ms) (msg.PUpdate db seq writes) _ (pupdate_mute db seq writes))

  pub quiet_commit : (call db : ℕ) (writes : List Pair) (t : Turn) → Quiet t (commit n call db writes t)
  unfolding commit commits_at
  quiet_commit call db writes t =
      let seq = (db_at db t.node).store.seq + 1 in
      quiet_then t (makes seq t) _ (quiet_makes seq t) (quiet_then (makes seq t) (updates db seq writes (makes seq t)) _ (quiet_updates db seq writes (makes seq t)) (quiet_awaits call db seq writes (others n t.node.members) (updates db seq writes (makes seq t))))

  pub quiet_read : (call db : ℕ) (key : List ℕ) (t : Turn) → Quiet t (read_pair call db key t)
  unfolding read_pair
  quiet_read call db key t = quiet_answers call _ t

  pub quiet_pupdate : (sender db seq : ℕ) (writes : List Pair) (t : Turn) → Quiet t (on_pupdate n sender db seq writes t)
  unfolding on_pupdate acknowledges
  quiet_pupdate sender db seq writes t =
      let u = updates db seq writes t in
      quiet_then t u _ (quiet_updates db seq writes t)
      (cond_both (nat_le seq (db_at db u.node).store.seq) (posts u.node.generation n sender (msg.PAck db seq) u) u (λ (v : Turn). Quiet u v) (λ _. quiet_posts u.node.generation sender (msg.PAck db seq) u (pack_mute db seq)) (λ _. quiet_none u))

  quiet_pack_of : (sender db seq : ℕ) (t : Turn) (x : Option Committing) → Quiet t (on_pack_of sender db seq t x)
  unfolding on_pack_of
  quiet_pack_of sender db seq t None = quiet_none t
  quiet_pack_of sender db seq t (Some x) = cond_both (completes sender seq x.pending) (answers x.call (answer.Committed seq) (with_commit db None t)) (with_commit db (Some (record x { pending = applied_by sender seq x.pending })) t) (λ (v : Turn). Quiet t v)
      (λ _. quiet_then t (with_commit db None t) _ (quiet_with db None t) (quiet_answers x.call (answer.Committed seq) (with_commit db None t))) (λ _. quiet_with db _ t)

  pub quiet_pack : (sender db seq : ℕ) (t : Turn) → Quiet t (on_pack sender db seq t)
  unfolding on_pack
  quiet_pack sender db seq t = quiet_pack_of sender db seq t (db_at db t.node).commit

  -- ---- addresses

  quiet_releases : (xs : List Address) (t : Turn) → Quiet t (releases xs t)
  unfolding releases
  quiet_releases [] t = quiet_none t
  quiet_releases (x ∷ xs) t = quiet_then t (notes (note.Released x) t) _ (quiet_notes (note.Released x) t) (quiet_releases xs (notes (note.Released x) t))

  pub quiet_release : (h number : ℕ) (keep : List Address) (t : Turn) → Quiet t (on_release n h number keep t)
  unfolding on_release
  quiet_release h number keep t =
      let u = with_node (record t.node { last_run = number; held = filter (has_address keep) t.node.held }) t in
      let v = releases (filter (λ a. not (has_address keep a)) t.node.held) u in
      cond_both (nat_lt number t.node.last_run) t (posts t.node.generation n h (msg.ReleaseAck number) v) (λ (x : Turn). Quiet t x) (λ _. quiet_none t)
      (λ _. quiet_then t v _ (quiet_then t u v (quiet_places t.node.placement (filter (has_address keep) t.node.held) number t) (quiet_releases (filter (λ a. not (has_address keep a)) t.node.held) u)) (quiet_posts t.node.generation h (msg.ReleaseAck number) v (ack_mute number)))

  quiet_takes : (xs : List Address) (t : Turn) → Quiet t (takes xs t)
  unfolding takes
  quiet_takes [] t = quiet_none t
  quiet_takes (x ∷ xs) t =
      let u = with_node (record t.node { held = held_with x t.node.held }) t in
      quiet_then t (notes (note.Took x) u) _ (quiet_then t u _ (quiet_places t.node.placement (held_with x t.node.held) t.node.last_run t) (quiet_notes (note.Took x) u)) (quiet_takes xs (notes (note.Took x) u))

  pub quiet_take : (number : ℕ) (assigned : List Assigned) (t : Turn) → Quiet t (on_take c n number assigned t)
  unfolding on_take
  quiet_take number assigned t = cond_both (nat_eq number t.node.last_run) (takes _ (with_node (record t.node { placement = _ }) t)) t (λ (x : Turn). Quiet t x)
      (λ _. quiet_then t _ _ (quiet_places _ t.node.held t.node.last_run t) (quiet_takes (filter (λ a. not (has_address t.node.held a)) (share n assigned)) _)) (λ _. quiet_none t)
