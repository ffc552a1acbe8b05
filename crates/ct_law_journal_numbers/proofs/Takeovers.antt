-- What a node does in a takeover run, under other numbers of calls.
use Rattle.std.proofs.Common.{◌≡◌, ℕ, ◌+◌, ◌&&◌, List, [], ◌∷◌, refl, ap, ◌∙◌}
use Rattle.std.specs.Prelude.{nat_eq, nat_lt, not}
use Rattle.std.specs.List.{filter}
use Rattle.ct_values.specs.Words.{others}
use Rattle.ct_values.specs.declared.address.Address.{Address}
use Rattle.ct_values.specs.declared.config.Config.{Config}
use Rattle.ct_frame.specs.declared.event.Note.TheVariants as note
use Rattle.ct_frame.specs.declared.frame.Assigned.{Assigned}
use Rattle.ct_frame.specs.declared.frame.Msg.TheVariants as msg
use Rattle.ct_lcp2.specs.Placing.{placed}
use Rattle.ct_rules_node.specs.Node.{Lead, Nothing, Freezes, Pulls, Installs, Completed, Takeover, Run, NoRun, Releasing, Taking, is_present_in, is_serving, is_among, assigned_all}
use Rattle.ct_rules_node.specs.Turn.{Turn, with_node, with_lead, makes, notes, posts, posts_all}
use Rattle.ct_rules_node.specs.Rounds.{releases, push_of}
use Rattle.ct_rules_node.specs.Takeovers.{share, assigned_in, send_releases, runs, begin_takeover, has_address, on_release, all_released, released_by, on_releaseack, held_with, takes, on_take}
use Rattle.ct_rules_node.specs.Retries.{retry_run, retry_lead}
use Rattle.ct_law_journal_numbers.specs.Renumbered.{node_under, turn_under}
use Rattle.ct_law_journal_numbers.proofs.Turns.{either_turn, turn_unchanged, notes_under, posts_under, posts_all_under}
use Rattle.ct_law_journal_numbers.proofs.Rounds.{releases_under}

module _ (number : ℕ → ℕ) where
  -- ---- BeginTakeover

  send_releases_under : (me g run : ℕ) (placement : List Assigned) (ns : List ℕ) (t : Turn) → send_releases me g run placement ns (turn_under number t) ≡ turn_under number (send_releases me g run placement ns t)
  unfolding send_releases
  send_releases_under me g run placement [] t = refl
  send_releases_under me g run placement (n ∷ ns) t =
      let m = msg.Release run (share n placement) in
      ap (send_releases me g run placement ns) (posts_under number g me n m t) ∙ send_releases_under me g run placement ns (posts g me n m t)

  runs_under : (me g : ℕ) (members : List ℕ) (x : Takeover) (run : ℕ) (placement : List Assigned) (t : Turn) → runs me g members x run placement (turn_under number t) ≡ turn_under number (runs me g members x run placement t)
  unfolding runs makes with_lead turn_under node_under
  runs_under me g members x run placement t = send_releases_under me g run placement members (makes run (with_lead (Completed g members (record x { number = run; run = Releasing placement members })) t))

  pub begin_takeover_under : (me : ℕ) (able : List ℕ) (t : Turn) (l : Lead) → begin_takeover me able (turn_under number t) l ≡ turn_under number (begin_takeover me able t l)
  unfolding begin_takeover turn_under node_under
  begin_takeover_under me able t (Completed g members x) = either_turn number (is_serving t.node.phase && nat_eq t.node.generation g) _ _ refl
      (runs_under me g members x (x.number + 1) (placed (filter (λ n. is_among n members) able) x.made) t)
      (turn_unchanged number t)
  begin_takeover_under me able t _ = refl

  -- ---- Release and ReleaseAck

  pub on_release_under : (me h run : ℕ) (keep : List Address) (t : Turn) → on_release me h run keep (turn_under number t) ≡ turn_under number (on_release me h run keep t)
  unfolding on_release with_node turn_under node_under
  on_release_under me h run keep t =
      let mid : Turn = with_node (record t.node { last_run = run; held = filter (has_address keep) t.node.held }) t in
      let given_up : List Address = filter (λ a. not (has_address keep a)) t.node.held in
      either_turn number (nat_lt run t.node.last_run) _ _ refl (turn_unchanged number t)
      (ap (posts t.node.generation me h (msg.ReleaseAck run)) (releases_under number given_up mid) ∙ posts_under number t.node.generation me h (msg.ReleaseAck run) (releases given_up mid))

  all_released_under : (me g : ℕ) (members : List ℕ) (x : Takeover) (placement : List Assigned) (t : Turn) (ms : List ℕ) → all_released me g members x placement (turn_under number t) ms ≡ turn_under number (all_released me g members x placement t ms)
  unfolding all_released with_lead turn_under node_under
  all_released_under me g members x placement t [] = posts_all_under number g me members (msg.Take x.number (assigned_in placement)) (with_lead (Completed g members (record x { made = placement; run = Taking placement })) t)
  all_released_under me g members x placement t (m ∷ ms) = refl

  released_by_under : (me n g : ℕ) (members : List ℕ) (x : Takeover) (t : Turn) (run : Run) → released_by me n g members x (turn_under number t) run ≡ turn_under number (released_by me n g members x t run)
  unfolding released_by
  released_by_under me n g members x t (Releasing placement missing) = either_turn number (is_among n missing) _ _ refl (all_released_under me g members x placement t (others n missing)) (turn_unchanged number t)
  released_by_under me n g members x t _ = refl

  pub on_releaseack_under : (me n g run : ℕ) (t : Turn) (l : Lead) → on_releaseack me n g run (turn_under number t) l ≡ turn_under number (on_releaseack me n g run t l)
  unfolding on_releaseack
  on_releaseack_under me n g run t (Completed h members x) = either_turn number (nat_eq h g && nat_eq x.number run) _ _ refl (released_by_under me n g members x t x.run) (turn_unchanged number t)
  on_releaseack_under me n g run t _ = refl

  -- ---- Take

  takes_under : (xs : List Address) (t : Turn) → takes xs (turn_under number t) ≡ turn_under number (takes xs t)
  unfolding takes with_node turn_under node_under
  takes_under [] t = refl
  takes_under (a ∷ rest) t =
      let mid : Turn = with_node (record t.node { held = held_with a t.node.held }) t in
      ap (takes rest) (notes_under number (note.Took a) mid) ∙ takes_under rest (notes (note.Took a) mid)

  pub on_take_under : (c : Config) (me run : ℕ) (assigned : List Assigned) (t : Turn) → on_take c me run assigned (turn_under number t) ≡ turn_under number (on_take c me run assigned t)
  unfolding on_take with_node turn_under node_under
  on_take_under c me run assigned t = either_turn number (nat_eq run t.node.last_run) _ _ refl
      (takes_under (filter (λ a. not (has_address t.node.held a)) (share me assigned)) (with_node (record t.node { placement = assigned_all c.addresses assigned }) t))
      (turn_unchanged number t)

  -- ---- Retry of the round and of the run

  retry_run_under : (me g : ℕ) (members : List ℕ) (x : Takeover) (t : Turn) (run : Run) → retry_run me g members x (turn_under number t) run ≡ turn_under number (retry_run me g members x t run)
  unfolding retry_run
  retry_run_under me g members x t NoRun = refl
  retry_run_under me g members x t (Releasing placement missing) = send_releases_under me g x.number placement missing t
  retry_run_under me g members x t (Taking placement) = posts_all_under number g me members (msg.Take x.number (assigned_in placement)) t

  is_present_under : (g : ℕ) (t : Turn) → is_present_in g (turn_under number t).node ≡ is_present_in g t.node
  unfolding is_present_in turn_under node_under
  is_present_under g t = refl

  pub retry_lead_under : (me : ℕ) (t : Turn) (l : Lead) → retry_lead me (turn_under number t) l ≡ turn_under number (retry_lead me t l)
  unfolding retry_lead
  retry_lead_under me t Nothing = refl
  retry_lead_under me t (Freezes g members missing) = posts_all_under number g me missing (msg.Freeze members) t
  retry_lead_under me t (Pulls g members missing x) = posts_all_under number g me missing msg.Pull t
  retry_lead_under me t (Installs g members missing b) = posts_all_under number g me missing (push_of b) t
  retry_lead_under me t (Completed g members x) =
      let thaws = posts_all_under number g me members msg.Thaw t in
      either_turn number (is_present_in g t.node) _ _ (is_present_under g t)
      (ap (λ (u : Turn). retry_run me g members x u x.run) thaws ∙ retry_run_under me g members x (posts_all g me members msg.Thaw t) x.run)
      thaws
