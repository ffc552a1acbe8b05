-- Commits and updates of persistent databases leave a node in form.
use Rattle.std.proofs.Common.{◌≡◌, ℕ, suc, ◌+◌, ◌<◌, ◌≤◌, ◌^◌, Bool, true, false, List, [], ◌∷◌, length, Option, Some, None, refl, sym, ◌∙◌, ap, subst, arith}
use Rattle.std.proofs.lemmas.Bool.{and_from, cond_both}
use Rattle.std.specs.Prelude.{nat_eq, nat_le, slice_get}
use Rattle.std.specs.List.{AllByRecursion, list_all}
use Rattle.ct_values.specs.Words.{others}
use Rattle.ct_values.specs.declared.client.Pair.{Pair}
use Rattle.ct_values.specs.declared.config.Config.{Config}
use Rattle.ct_frame.specs.Fields.{is_db, is_from_one, is_message, is_one_to_sixteen}
use Rattle.ct_frame.specs.declared.frame.Msg.{Msg}
use Rattle.ct_frame.specs.declared.frame.Msg.TheVariants as msg
use Rattle.ct_persist.specs.Commits.{Pending, applied_by, completes}
use Rattle.ct_persist.specs.Persisted.{Persisted, answer, answered}
use Rattle.ct_persist.specs.declared.store.Updated.{Updated}
use Rattle.ct_persist.specs.declared.store.Updated.TheVariants.{Done, Had, Gap}
use Rattle.ct_persist.proofs.Looks.{written_kept}
use Rattle.ct_law_rules_node.proofs.Events.{others_all}
use Rattle.ct_rules_node.specs.Node.{Node, Committing, Database, db_at, is_present, or_untouched, with_db}
use Rattle.ct_rules_node.specs.Databases.{acknowledges, awaits_others, commit, commits_at, on_pack, on_pack_of, on_pupdate, read_pair, updates, with_commit}
use Rattle.ct_rules_node.specs.Retries.{update_again, update_in}
use Rattle.ct_rules_node.specs.Turn.{Turn, answers, does, makes, posts, posts_all, with_node}
use Rattle.ct_law_form.specs.Whole.{StoreInForm, CommitInForm, NodeInForm, TurnInForm, is_node_of}
use Rattle.ct_law_form.proofs.Putting.{present_generation}
use Rattle.ct_law_form.proofs.Turns.{answers_in_form, made, makes_in_form, posts_all_in_form, posts_in_form, with_base_in_form}

-- ---- the update

answered_is : (a : Updated) (seq : ℕ) (ws : List Pair) (p : Persisted) → seq < 2 ^ 62 → StoreInForm p → StoreInForm (answered a seq ws p)
answered_is Done seq ws p l h = record { pairs_kept = written_kept ws p.pairs h.pairs_kept; seq_limit = l }
answered_is Had seq ws p l h = h
answered_is Gap seq ws p l h = h

pub updates_in_form : (c : Config) (me db seq : ℕ) (ws : List Pair) (t : Turn) → seq < 2 ^ 62 → TurnInForm c me t → TurnInForm c me (updates db seq ws t)
unfolding updates
updates_in_form c me db seq ws t l h = with_base_in_form c me db _ (db_at db t.node).commit t (answered_is (answer seq ws (db_at db t.node).store) seq ws (db_at db t.node).store l (h.node.stores db)) (h.node.commits db) h

pub with_commit_in_form : (c : Config) (me db : ℕ) (x : Option Committing) (t : Turn) → CommitInForm c x → TurnInForm c me t → TurnInForm c me (with_commit db x t)
unfolding with_commit
with_commit_in_form c me db x t may h = with_base_in_form c me db (db_at db t.node).store x t (h.node.stores db) may h

-- ---- the commit

pupdate_sound : (me db seq : ℕ) (ws : List Pair) → is_db db ≡ true → is_from_one seq ≡ true → is_one_to_sixteen ws ≡ true → is_message me (msg.PUpdate db seq ws) ≡ true
pupdate_sound me db seq ws d s w = and_from _ _ (and_from _ _ d s) w

awaits_in_form : (c : Config) (me call db seq : ℕ) (ws : List Pair) (ns : List ℕ) (t : Turn) → is_from_one t.node.generation ≡ true → is_db db ≡ true → is_from_one seq ≡ true → is_one_to_sixteen ws ≡ true → list_all (is_node_of c) ns ≡ true → TurnInForm c me t →
    TurnInForm c me (awaits_others me call db seq ws ns t)
unfolding awaits_others CommitInForm
awaits_in_form c me call db seq ws [] t one d s w all h = answers_in_form c me call _ t h
awaits_in_form c me call db seq ws (n ∷ ns) t one d s w all h =
    posts_all_in_form c me t.node.generation (n ∷ ns) (msg.PUpdate db seq ws) _ one all (pupdate_sound me db seq ws d s w)
    (with_commit_in_form c me db _ t (record { writes_few = w; seq_from_one = s; missing_are = all }) h)

pub posts_all_spent : (g me : ℕ) (ns : List ℕ) (m : Msg) (t : Turn) → (posts_all g me ns m t).spent ≡ t.spent
unfolding posts_all posts does
posts_all_spent g me [] m t = refl
posts_all_spent g me (n ∷ ns) m t = posts_all_spent g me ns m (posts g me n m t)

awaits_spent : (me call db seq : ℕ) (ws : List Pair) (ns : List ℕ) (t : Turn) → (awaits_others me call db seq ws ns t).spent ≡ t.spent
unfolding awaits_others answers does with_commit with_node
awaits_spent me call db seq ws [] t = refl
awaits_spent me call db seq ws (n ∷ ns) t = posts_all_spent t.node.generation me (n ∷ ns) (msg.PUpdate db seq ws) _

updates_spent : (db seq : ℕ) (ws : List Pair) (t : Turn) → (updates db seq ws t).spent ≡ t.spent
unfolding updates with_node
updates_spent db seq ws t = refl

above_zero : (n : ℕ) → n + 1 < 2 ^ 62 → is_from_one (n + 1) ≡ true
above_zero n l = grind arith

commits_in_form : (c : Config) (me call db seq : ℕ) (ws : List Pair) (t : Turn) → TurnInForm c me t → is_present t.node.phase ≡ true → is_db db ≡ true → is_from_one seq ≡ true → seq < 2 ^ 62 → is_one_to_sixteen ws ≡ true → TurnInForm c me (commits_at me call db seq ws t)
unfolding commits_at makes updates with_node with_db
commits_in_form c me call db seq ws t h present d s l w =
    awaits_in_form c me call db seq ws _ (updates db seq ws (makes seq t)) (present_generation c me t.node h.node present) d s w (others_all (is_node_of c) me t.node.members h.node.members_are)
    (updates_in_form c me db seq ws (makes seq t) l (makes_in_form c me seq t h))

pub commit_in_form : (c : Config) (me call db : ℕ) (ws : List Pair) (t : Turn) → TurnInForm c me t → is_present t.node.phase ≡ true → is_db db ≡ true → is_one_to_sixteen ws ≡ true → (commit me call db ws t).spent ≡ false → TurnInForm c me (commit me call db ws t)
unfolding commit commits_at
commit_in_form c me call db ws t h present d w unspent =
    let seq = (db_at db t.node).store.seq + 1 in
    let l = (made seq t (sym (awaits_spent me call db seq ws _ (updates db seq ws (makes seq t)) ∙ updates_spent db seq ws (makes seq t)) ∙ unspent)).1 in
    commits_in_form c me call db seq ws t h present d (above_zero (db_at db t.node).store.seq l) l w

pub pair_in_form : (c : Config) (me call db : ℕ) (key : List ℕ) (t : Turn) → TurnInForm c me t → TurnInForm c me (read_pair call db key t)
unfolding read_pair
pair_in_form c me call db key t h = answers_in_form c me call _ t h

-- ---- PUpdate and PAck

seq_of : (seq : ℕ) → is_from_one seq ≡ true → seq < 2 ^ 62
seq_of seq e = grind arith

acknowledges_in_form : (c : Config) (me n db seq : ℕ) (t : Turn) → TurnInForm c me t → is_from_one t.node.generation ≡ true → is_node_of c n ≡ true → is_db db ≡ true → is_from_one seq ≡ true → TurnInForm c me (acknowledges me n db seq t)
unfolding acknowledges
acknowledges_in_form c me n db seq t h one from d s =
    cond_both (nat_le seq (db_at db t.node).store.seq) _ _ (TurnInForm c me) (λ _. posts_in_form c me t.node.generation n (msg.PAck db seq) t one from (and_from _ _ d s) h) (λ _. h)

updates_generation : (db seq : ℕ) (ws : List Pair) (t : Turn) → (updates db seq ws t).node.generation ≡ t.node.generation
unfolding updates with_node with_db
updates_generation db seq ws t = refl

pub pupdate_in_form : (c : Config) (me n db seq : ℕ) (ws : List Pair) (t : Turn) → TurnInForm c me t → is_present t.node.phase ≡ true → is_node_of c n ≡ true → is_db db ≡ true → is_from_one seq ≡ true → TurnInForm c me (on_pupdate me n db seq ws t)
unfolding on_pupdate
pupdate_in_form c me n db seq ws t h present from d s =
    acknowledges_in_form c me n db seq (updates db seq ws t) (updates_in_form c me db seq ws t (seq_of seq s) h) (ap is_from_one (updates_generation db seq ws t) ∙ present_generation c me t.node h.node present) from d s

applied_are : (is : ℕ → Bool) (n seq : ℕ) (p : Pending) → list_all is p.missing ≡ true → (list_all is (applied_by n seq p).missing ≡ true) × ((applied_by n seq p).seq ≡ p.seq)
applied_are is n seq p all = cond_both (nat_eq p.seq seq) (record p { missing = others n p.missing }) p (λ (q : Pending). (list_all is q.missing ≡ true) × (q.seq ≡ p.seq)) (λ _. (others_all is n p.missing all, refl)) (λ _. (all, refl))

pack_of_in_form : (c : Config) (me n db seq : ℕ) (t : Turn) (x : Option Committing) → CommitInForm c x → TurnInForm c me t → TurnInForm c me (on_pack_of n db seq t x)
unfolding on_pack_of CommitInForm
pack_of_in_form c me n db seq t None may h = h
pack_of_in_form c me n db seq t (Some x) may h =
    let k = applied_are (is_node_of c) n seq x.pending may.missing_are in
    cond_both (completes n seq x.pending) _ _ (TurnInForm c me)
    (λ _. answers_in_form c me x.call _ _ (with_commit_in_form c me db None t tt h))
    (λ _. with_commit_in_form c me db _ t (record { writes_few = may.writes_few; seq_from_one = subst (λ (s : ℕ). is_from_one s ≡ true) (sym k.1) may.seq_from_one; missing_are = k.0 }) h)

pub pack_in_form : (c : Config) (me n db seq : ℕ) (t : Turn) → TurnInForm c me t → TurnInForm c me (on_pack n db seq t)
unfolding on_pack
pack_in_form c me n db seq t h = pack_of_in_form c me n db seq t _ (h.node.commits db) h

-- ---- sending again

update_again_in_form : (c : Config) (me db : ℕ) (t : Turn) (x : Option Committing) → TurnInForm c me t → is_present t.node.phase ≡ true → is_db db ≡ true → CommitInForm c x → TurnInForm c me (update_again me db t x)
unfolding update_again CommitInForm
update_again_in_form c me db t None h present d may = h
update_again_in_form c me db t (Some x) h present d may =
    posts_all_in_form c me t.node.generation x.pending.missing (msg.PUpdate db x.pending.seq x.writes) t (present_generation c me t.node h.node present) may.missing_are (pupdate_sound me db x.pending.seq x.writes d may.seq_from_one may.writes_few) h

posts_all_node : (g me : ℕ) (ns : List ℕ) (m : Msg) (t : Turn) → (posts_all g me ns m t).node ≡ t.node
unfolding posts_all posts does
posts_all_node g me [] m t = refl
posts_all_node g me (n ∷ ns) m t = posts_all_node g me ns m (posts g me n m t)

update_again_node : (me db : ℕ) (t : Turn) (x : Option Committing) → (update_again me db t x).node ≡ t.node
unfolding update_again
update_again_node me db t None = refl
update_again_node me db t (Some x) = posts_all_node t.node.generation me x.pending.missing (msg.PUpdate db x.pending.seq x.writes) t

update_again_spent : (me db : ℕ) (t : Turn) (x : Option Committing) → (update_again me db t x).spent ≡ t.spent
unfolding update_again
update_again_spent me db t None = refl
update_again_spent me db t (Some x) = posts_all_spent t.node.generation me x.pending.missing (msg.PUpdate db x.pending.seq x.writes) t

pub update_in_spent : (me i : ℕ) (ds : List Database) (t : Turn) → (update_in me i ds t).spent ≡ t.spent
unfolding update_in
update_in_spent me i [] t = refl
update_in_spent me i (d ∷ ds) t = update_in_spent me (i + 1) ds (update_again me i t d.commit) ∙ update_again_spent me i t d.commit

db_is : (db : ℕ) → db < 16 → is_db db ≡ true
db_is db l = grind arith

pub update_in_in_form : (c : Config) (me i : ℕ) (ds : List Database) (t : Turn) → TurnInForm c me t → is_present t.node.phase ≡ true → i + length ds ≤ 16 → AllByRecursion (λ d. CommitInForm c d.commit) ds → TurnInForm c me (update_in me i ds t)
unfolding update_in
update_in_in_form c me i [] t h present l all = h
update_in_in_form c me i (d ∷ ds) t h present l all =
    update_in_in_form c me (i + 1) ds (update_again me i t d.commit) (update_again_in_form c me i t d.commit h present (db_is i (omega arith)) all.0)
    (ap (λ (n : Node). is_present n.phase) (update_again_node me i t d.commit) ∙ present) (omega arith) all.1

-- what holds at each place holds of each
pub all_of : (P : Database → Type 0) (ds : List Database) → ((i : ℕ) → P (or_untouched (slice_get ds i))) → AllByRecursion P ds
unfolding or_untouched
all_of P [] h = tt
all_of P (d ∷ ds) h = (h 0, all_of P ds (λ i. h (suc i)))

pub commits_of : (c : Config) (me : ℕ) (n : Node) → NodeInForm c me n → AllByRecursion (λ d. CommitInForm c d.commit) n.dbs
unfolding db_at
commits_of c me n h = all_of (λ (d : Database). CommitInForm c d.commit) n.dbs h.commits
