-- What leaders and members do in a round, but for a freeze that is followed, an installation and the birth of a line; and the
-- steps of takeover runs.
use Rattle.std.proofs.Common.{◌≡◌, ◌≢◌, ℕ, ◌+◌, ◌<◌, Bool, true, false, cond, ◌&&◌, List, [], ◌∷◌, length, Some, refl, sym, subst, arith}
use Rattle.std.specs.Prelude.{slice_get, nat_eq, nat_lt}
use Rattle.std.proofs.lemmas.Bool.{and_parts, eqb-true}
use Rattle.ct_values.specs.Words.{others}
use Rattle.ct_values.specs.declared.address.Address.{Address}
use Rattle.ct_values.specs.declared.config.Config.{Config}
use Rattle.ct_frame.specs.declared.event.Note.TheVariants as note
use Rattle.ct_frame.specs.declared.frame.Assigned.{Assigned}
use Rattle.ct_frame.specs.declared.frame.Msg.TheVariants as msg
use Rattle.ct_frame.specs.declared.round.Pull.{Pull}
use Rattle.ct_frame.specs.declared.round.PushBody.{PushBody}
use Rattle.ct_frame.specs.Fields.{ascends, ptable_before}
use Rattle.ct_merge.specs.Rule.{ptable_at, is_ptable_at}
use Rattle.ct_merge.specs.Gathered.{nothing}
use Rattle.ct_persist.specs.Persisted.{Persisted, listed}
use Rattle.ct_rules_node.specs.Node.{Node, Lead, Nothing, Freezes, Pulls, Installs, Completed, Takeover, Run, NoRun, Releasing, Taking, is_among, is_frozen_in, is_present_in, is_persistent, kind_at, or_untouched, db_at, assigned_all}
use Rattle.ct_rules_node.specs.Turn.{Turn, posts}
use Rattle.ct_rules_node.specs.Rounds.{begin_round, all_frozen, on_freezeack, ptables_of, table_of, on_pull, all_installed, on_pushack, completed, releases, push_of}
use Rattle.ct_rules_node.specs.Takeovers.{send_releases, runs, begin_takeover, on_release, all_released, released_by, on_releaseack, takes, held_with, on_take, share, assigned_in}
use Rattle.ct_rules_node.specs.Retries.{retry_run, retry_lead}
use Rattle.ct_law_generation.proofs.Pending.{Callers}
use Rattle.ct_law_registers.proofs.Facts.{Has, Bases, IsTold, Stands, LeadStands, Holds, table_after}
use Rattle.ct_law_registers.proofs.Pulls.{pulled, only_table, tables_ascend}
use Rattle.ct_law_databases.proofs.Law.{IsFrozen}
use Rattle.ct_law_databases.proofs.Kept.{Calm, calm_same, calm_after, either_calm}
use Rattle.ct_law_databases.proofs.Outs.{is_below}
use Rattle.ct_law_databases.proofs.Quiet.{IsQuietNote}
use Rattle.ct_law_databases.proofs.Parts.{sends_calm, send_calm, note_calm, makes_calm, lead_calm, node_calm}

-- ---- a pull is told of every database

pub pull_stands : (config : Config) (nodes : ℕ → Node) (b : Bases) (has : Has) (n g : ℕ) (vbase : ℕ) (held : List Address) → Holds config nodes b has → ((m : ℕ) → b.pline m ≢ 0 → b.born (b.pline m) ≡ true) → IsFrozen config b g n (nodes n) →
    Stands config b has g n (msg.PullReply vbase (nodes n).pbase (table_of n 0 (nodes n).dbs) (ptables_of config 0 (nodes n).dbs) held)
unfolding Stands db_at
pull_stands config nodes b has n g vbase held h real frozen = subst (λ (q : ℕ). (b.born q ≡ true) × (ascends ptable_before (ptables_of config 0 (nodes n).dbs) ≡ true) × ((db : ℕ) → is_persistent (kind_at config db) ≡ true → IsTold (table_after db (has q n db) (b.databases q db)) (ptables_of config 0 (nodes n).dbs))) (sym frozen.base)
    (real n frozen.based, tables_ascend config 0 (nodes n).dbs, told)
  where
    told : (db : ℕ) → is_persistent (kind_at config db) ≡ true → IsTold (table_after db (has (b.pline n) n db) (b.databases (b.pline n) db)) (ptables_of config 0 (nodes n).dbs)
    told db kind =
        let at_zero : 0 + db ≡ db = omega arith in
        let below : db < length (nodes n).dbs = (let l = is_below config db kind in let s = frozen.size in omega arith) in
        let found = pulled config 0 db (nodes n).dbs below (subst (λ (j : ℕ). is_persistent (kind_at config j) ≡ true) (sym at_zero) kind) in
        subst (λ (p : Persisted). IsTold (record { db = db; seq = p.seq; pairs = listed p.pairs }) (ptables_of config 0 (nodes n).dbs)) (h.stores n db kind frozen.based) (record {
          found = subst (λ (j : ℕ). ptable_at j (ptables_of config 0 (nodes n).dbs) ≡ Some (record { db = j; seq = (or_untouched (slice_get (nodes n).dbs db)).store.seq; pairs = listed (or_untouched (slice_get (nodes n).dbs db)).store.pairs })) at_zero found;
          only = λ y is here. subst (λ (j : ℕ). is_ptable_at j y ≡ true → y ≡ record { db = j; seq = (or_untouched (slice_get (nodes n).dbs db)).store.seq; pairs = listed (or_untouched (slice_get (nodes n).dbs db)).store.pairs }) at_zero (only_table config 0 db (nodes n).dbs y is) here;
        })

module _ (config : Config) (who : Callers) (b : Bases) (has : Has) (me : ℕ) where
  abbrev IsCalmTo : Turn → Turn → Type 0
  IsCalmTo t u = Calm config who b has me t u

  -- ---- rounds

  pub begin_round_calm : (g : ℕ) (members : List ℕ) (t : Turn) → IsCalmTo t (begin_round me g members t)
  unfolding begin_round LeadStands Stands
  begin_round_calm g members t = either_calm (nat_lt t.node.promise g)
      (calm_after (makes_calm config who b has me g t) (calm_after (lead_calm config who b has me (Freezes g members members) _ (λ h. tt)) (sends_calm config who b has me g members (msg.Freeze members) _ tt))) calm_same

  all_frozen_calm : (g : ℕ) (members : List ℕ) (t : Turn) (missing : List ℕ) → IsCalmTo t (all_frozen me g members t missing)
  unfolding all_frozen LeadStands Stands
  all_frozen_calm g members t [] = calm_after (lead_calm config who b has me (Pulls g members members nothing) t (λ h. tt)) (sends_calm config who b has me g members msg.Pull _ tt)
  all_frozen_calm g members t (m ∷ ms) = lead_calm config who b has me (Freezes g members (m ∷ ms)) t (λ h. tt)

  pub on_freezeack_calm : (n g : ℕ) (t : Turn) (l : Lead) → IsCalmTo t (on_freezeack me n g t l)
  unfolding on_freezeack
  on_freezeack_calm n g t (Freezes h members missing) = either_calm _ (all_frozen_calm g members t (others n missing)) calm_same
  on_freezeack_calm n g t _ = calm_same

  pub on_pull_calm : (h g : ℕ) (t : Turn) → (is_frozen_in g t.node.phase ≡ true → Stands config b has g me (msg.PullReply t.node.generation t.node.pbase (table_of me 0 t.node.dbs) (ptables_of config 0 t.node.dbs) t.node.held)) → IsCalmTo t (on_pull config me h g t)
  unfolding on_pull
  on_pull_calm h g t stands = by (is_frozen_in g t.node.phase) refl
    where
      by : (c : Bool) → is_frozen_in g t.node.phase ≡ c → IsCalmTo t (cond c (posts g me h (msg.PullReply t.node.generation t.node.pbase (table_of me 0 t.node.dbs) (ptables_of config 0 t.node.dbs) t.node.held) t) t)
      by true e = send_calm config who b has me g h _ t (stands e)
      by false e = calm_same

  all_installed_calm : (g h : ℕ) (members ms : List ℕ) (body : PushBody) (t : Turn) (missing : List ℕ) → h ≡ g → t.node.lead ≡ Installs h members ms body → IsCalmTo t (all_installed config me g members body t missing)
  unfolding all_installed LeadStands Stands
  all_installed_calm g h members ms body t [] same is = calm_after (lead_calm config who b has me (Completed g members (completed config body)) t (λ k. tt)) (sends_calm config who b has me g members msg.Thaw _ tt)
  all_installed_calm g h members ms body t (m ∷ rest) same is = lead_calm config who b has me (Installs g members (m ∷ rest) body) t (λ k. subst (λ (j : ℕ). Stands config b has j me (push_of body)) same (subst (LeadStands config b has me) is k))

  pub on_pushack_calm : (n g : ℕ) (t : Turn) (l : Lead) → t.node.lead ≡ l → IsCalmTo t (on_pushack config me n g t l)
  unfolding on_pushack
  on_pushack_calm n g t (Installs h members missing body) is = by (nat_eq h g && is_among n missing) refl
    where
      by : (c : Bool) → (nat_eq h g && is_among n missing) ≡ c → IsCalmTo t (cond c (all_installed config me g members body t (others n missing)) t)
      by true e = all_installed_calm g h members missing body t (others n missing) (eqb-true h g (and_parts (nat_eq h g) (is_among n missing) e).0) is
      by false e = calm_same
  on_pushack_calm n g t _ is = calm_same

  -- ---- takeover runs

  send_releases_calm : (g number : ℕ) (placement : List Assigned) (ns : List ℕ) (t : Turn) → IsCalmTo t (send_releases me g number placement ns t)
  unfolding send_releases Stands
  send_releases_calm g number placement [] t = calm_same
  send_releases_calm g number placement (n ∷ ns) t = calm_after (send_calm config who b has me g n (msg.Release number (share n placement)) t tt) (send_releases_calm g number placement ns _)

  pub begin_takeover_calm : (able : List ℕ) (t : Turn) (l : Lead) → IsCalmTo t (begin_takeover me able t l)
  unfolding begin_takeover runs LeadStands
  begin_takeover_calm able t (Completed g members x) = either_calm _
      (calm_after (lead_calm config who b has me _ t (λ h. tt)) (calm_after (makes_calm config who b has me (x.number + 1) _) (send_releases_calm g (x.number + 1) _ members _))) calm_same
  begin_takeover_calm able t _ = calm_same

  releases_calm : (xs : List Address) (t : Turn) → IsCalmTo t (releases xs t)
  unfolding releases IsQuietNote
  releases_calm [] t = calm_same
  releases_calm (a ∷ rest) t = calm_after (note_calm config who b has me (note.Released a) t tt) (releases_calm rest _)

  pub on_release_calm : (h number : ℕ) (keep : List Address) (t : Turn) → IsCalmTo t (on_release me h number keep t)
  unfolding on_release Stands
  on_release_calm h number keep t = either_calm (nat_lt number t.node.last_run) calm_same
      (calm_after (node_calm config who b has me _ t refl refl) (calm_after (releases_calm _ _) (send_calm config who b has me t.node.generation h (msg.ReleaseAck number) _ tt)))

  all_released_calm : (g : ℕ) (members : List ℕ) (x : Takeover) (placement : List Assigned) (t : Turn) (missing : List ℕ) → IsCalmTo t (all_released me g members x placement t missing)
  unfolding all_released LeadStands Stands
  all_released_calm g members x placement t [] = calm_after (lead_calm config who b has me _ t (λ h. tt)) (sends_calm config who b has me g members (msg.Take x.number (assigned_in placement)) _ tt)
  all_released_calm g members x placement t (m ∷ ms) = lead_calm config who b has me _ t (λ h. tt)

  released_by_calm : (n g : ℕ) (members : List ℕ) (x : Takeover) (t : Turn) (run : Run) → IsCalmTo t (released_by me n g members x t run)
  unfolding released_by
  released_by_calm n g members x t (Releasing placement missing) = either_calm _ (all_released_calm g members x placement t (others n missing)) calm_same
  released_by_calm n g members x t _ = calm_same

  pub on_releaseack_calm : (n g number : ℕ) (t : Turn) (l : Lead) → IsCalmTo t (on_releaseack me n g number t l)
  unfolding on_releaseack
  on_releaseack_calm n g number t (Completed h members x) = either_calm _ (released_by_calm n g members x t x.run) calm_same
  on_releaseack_calm n g number t _ = calm_same

  takes_calm : (xs : List Address) (t : Turn) → IsCalmTo t (takes xs t)
  unfolding takes IsQuietNote
  takes_calm [] t = calm_same
  takes_calm (a ∷ rest) t = calm_after (node_calm config who b has me (record t.node { held = held_with a t.node.held }) t refl refl) (calm_after (note_calm config who b has me (note.Took a) _ tt) (takes_calm rest _))

  pub on_take_calm : (number : ℕ) (assigned : List Assigned) (t : Turn) → IsCalmTo t (on_take config me number assigned t)
  unfolding on_take
  on_take_calm number assigned t = either_calm _ (calm_after (node_calm config who b has me (record t.node { placement = assigned_all config.addresses assigned }) t refl refl) (takes_calm _ _)) calm_same

  -- ---- what is sent again

  retry_run_calm : (g : ℕ) (members : List ℕ) (x : Takeover) (t : Turn) (run : Run) → IsCalmTo t (retry_run me g members x t run)
  unfolding retry_run Stands
  retry_run_calm g members x t NoRun = calm_same
  retry_run_calm g members x t (Releasing placement missing) = send_releases_calm g x.number placement missing t
  retry_run_calm g members x t (Taking placement) = sends_calm config who b has me g members (msg.Take x.number (assigned_in placement)) t tt

  pub retry_lead_calm : (t : Turn) (l : Lead) → LeadStands config b has me l → IsCalmTo t (retry_lead me t l)
  unfolding retry_lead LeadStands Stands
  retry_lead_calm t Nothing stands = calm_same
  retry_lead_calm t (Freezes g members missing) stands = sends_calm config who b has me g missing (msg.Freeze members) t tt
  retry_lead_calm t (Pulls g members missing x) stands = sends_calm config who b has me g missing msg.Pull t tt
  retry_lead_calm t (Installs g members missing body) stands = sends_calm config who b has me g missing (push_of body) t stands
  retry_lead_calm t (Completed g members x) stands = either_calm (is_present_in g t.node)
      (calm_after (sends_calm config who b has me g members msg.Thaw t tt) (retry_run_calm g members x _ x.run)) (sends_calm config who b has me g members msg.Thaw t tt)
