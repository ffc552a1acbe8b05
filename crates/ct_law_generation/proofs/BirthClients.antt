-- A client's call comes to a node: it is open until it is answered, and waits until then.
use Rattle.std.proofs.Common.{◌≡◌, ℕ, zero, suc, ◌<◌, Bool, true, false, cond, ◌||◌, List, [], ◌∷◌, length, Option, Some, None, refl, sym, ap, ◌∙◌, subst, arith}
use Rattle.std.specs.Prelude.{is_none, is_some, slice_get}
use Rattle.std.proofs.lemmas.Bool.{cond_both, or_parts}
use Rattle.std.proofs.lemmas.List.{length-set}
use Rattle.ct_values.specs.Words.{others}
use Rattle.ct_values.specs.Client.{db_of, is_read, key_of, wants_record}
use Rattle.ct_values.specs.declared.client.Answer.{Answer}
use Rattle.ct_values.specs.declared.client.ClientOp.{ClientOp}
use Rattle.ct_values.specs.declared.client.ClientOp.TheVariants as op
use Rattle.ct_values.specs.declared.client.Pair.{Pair}
use Rattle.ct_values.specs.declared.client.Why.{Why}
use Rattle.ct_values.specs.declared.config.Config.{Config}
use Rattle.ct_values.specs.declared.config.DbDecl.{DbDecl}
use Rattle.ct_frame.specs.declared.event.Out.{Out}
use Rattle.ct_call.specs.Rules.{Rules}
use Rattle.ct_persist.specs.Commits.{commit_begun}
use Rattle.ct_rules.specs.Parts.{want}
use Rattle.ct_rules.specs.Moves.{store, release, unlock}
use Rattle.ct_rules.specs.declared.state.Wish.{Wish}
use Rattle.ct_rules_node.specs.Node as node
use Rattle.ct_rules_node.specs.Node.{Node, Committing, Phase, Idle, Serving, Installed, Freezing, Frozen, state_at, db_at, kind_at, kind_in, is_persistent}
use Rattle.ct_rules_node.specs.Turn.{Turn, makes, answers, with_node}
use Rattle.ct_rules_node.specs.Records.{at_record, place_of, view}
use Rattle.ct_rules_node.specs.Clients.{is_commit, refusal, no_such_db, call_pending, pending_of, commit_pending, wants_change, is_unlock, is_committing, unlocks, reads, serves, serves_or, client}
use Rattle.ct_rules_node.specs.Databases.{updates, with_commit, awaits_others, commits_at, commit, read_pair}
use Rattle.ct_law_rules_node.proofs.Refusals.{first_none, not_refused}
use Rattle.ct_law_wishes.proofs.Wishing.{Wishful, want_wish, store_wish, release_wish, unlock_wish}
use Rattle.ct_law_record.proofs.Even.{answers_in, want_even, store_even, release_even, unlock_even, number_of}
use Rattle.ct_law_generation.proofs.Opened.{Opened, answered_by, AllOpen, without_all}
use Rattle.ct_law_generation.proofs.Accounts.{Wished, Stands, Account, with_call, own_call, answers_kept, commit_waits, with_committing}
use Rattle.ct_law_generation.proofs.Records.{call_kept, even_start, wish_more, number_none}
use Rattle.ct_law_generation.proofs.Turns.{updates_stands, updates_commit, posts_all_kept, frozen_kept}

-- a call that comes to the node in the middle of its step: nothing was done yet, and the call is new
pub record Comes (who : Opened) (c : Config) (n call : ℕ) (t : Turn) : Type 0 where
  pub nothing : t.outs ≡ []
  pub fresh : who call ≡ None
  pub size : length t.node.dbs ≡ length c.dbs
  pub stands : Stands n who t.node

-- ---- what is not refused

kind_there : (ds : List DbDecl) (db : ℕ) → is_none (kind_in (slice_get ds db)) ≡ false → db < length ds
unfolding kind_in
kind_there [] db e = absurd (cc)
kind_there (d ∷ ds) zero e = omega arith
kind_there (d ∷ ds) (suc k) e = (let l = kind_there ds k e in omega arith)

has_kind : (c : Config) (o : ClientOp) → no_such_db c o ≡ None → db_of o < length c.dbs
unfolding no_such_db kind_at
has_kind c o e = kind_there c.dbs (db_of o) (not_refused _ _ e)

pub none_pending : (w : Option Wish) → pending_of w ≡ None → w ≡ None
unfolding pending_of
none_pending None e = refl
none_pending (Some w) e = absurd (cc)

none_waits : (n : Node) (o : ClientOp) → wants_record o ≡ true → call_pending n o ≡ None → (state_at (db_of o) (key_of o) n).wish ≡ None
unfolding call_pending
none_waits n o wants e = none_pending (state_at (db_of o) (key_of o) n).wish (subst (λ (b : Bool). cond b (pending_of (state_at (db_of o) (key_of o) n).wish) None ≡ None) wants e)

none_some : (x : Option Committing) → is_some x ≡ false → x ≡ None
none_some None e = refl
none_some (Some x) e = absurd (cc)

none_commits : (c : Config) (n : Node) (db : ℕ) (ws : List Pair) → commit_pending c n (op.Commit db ws) ≡ None → (db_at db n).commit ≡ None
unfolding commit_pending is_commit is_committing is_unlock
none_commits c n db ws e = none_some (db_at db n).commit (or_parts (is_some (db_at db n).commit) _ (not_refused _ _ e)).0

-- ---- each call

want_kept : (who : Opened) (c : Config) (rules : Rules) (n call : ℕ) (o : ClientOp) (t : Turn) → Comes who c n call t → wants_record o ≡ true → is_commit o ≡ false → db_of o < length c.dbs → (state_at (db_of o) (key_of o) t.node).wish ≡ None →
    Account (with_call call (n, o) who) n (at_record c n (db_of o) (key_of o) (λ at m. want at rules call o m) t)
unfolding view place_of Wished answers_in Wishful
want_kept who c rules n call o t h wants no_commit has none =
    let w = (state_at (db_of o) (key_of o) t.node).wish in
    call_kept who n c (db_of o) (key_of o) (λ at m. want at rules call o m) t call o h.nothing h.fresh no_commit refl refl (subst (λ (l : ℕ). db_of o < l) (sym h.size) has) h.stands
    (want_even (call ∷ number_of w) (place_of c n (db_of o) (key_of o) t.node) rules call o (view (db_of o) (key_of o) t.node) none wants (ap (λ (l : List ℕ). call ∷ l) (sym (number_none w none))))
    (want_wish (Wished n (with_call call (n, o) who) (db_of o) (key_of o)) (place_of c n (db_of o) (key_of o) t.node) rules call o (view (db_of o) (key_of o) t.node) (own_call call (n, o) who, refl, refl, wants)
    (wish_more n call o who (db_of o) (key_of o) w h.fresh (h.stands.wishes (db_of o) (key_of o))))

store_kept : (who : Opened) (c : Config) (n call db : ℕ) (key v : List ℕ) (t : Turn) → Comes who c n call t → db < length c.dbs → Account (with_call call (n, op.Store db key v) who) n (at_record c n db key (λ at m. store call v m) t)
unfolding view is_commit
store_kept who c n call db key v t h has =
    let w = (state_at db key t.node).wish in
    call_kept who n c db key (λ at m. store call v m) t call (op.Store db key v) h.nothing h.fresh refl refl refl (subst (λ (l : ℕ). db < l) (sym h.size) has) h.stands
    (store_even (number_of w) call v (view db key t.node) refl (even_start n who db key w (h.stands.wishes db key)))
    (store_wish (Wished n (with_call call (n, op.Store db key v) who) db key) call v (view db key t.node) (wish_more n call (op.Store db key v) who db key w h.fresh (h.stands.wishes db key)))

release_kept : (who : Opened) (c : Config) (n call db : ℕ) (key : List ℕ) (t : Turn) → Comes who c n call t → db < length c.dbs → Account (with_call call (n, op.Unlock db key) who) n (at_record c n db key (λ at m. release call m) t)
unfolding view is_commit
release_kept who c n call db key t h has =
    let w = (state_at db key t.node).wish in
    call_kept who n c db key (λ at m. release call m) t call (op.Unlock db key) h.nothing h.fresh refl refl refl (subst (λ (l : ℕ). db < l) (sym h.size) has) h.stands
    (release_even (number_of w) call (view db key t.node) refl (even_start n who db key w (h.stands.wishes db key)))
    (release_wish (Wished n (with_call call (n, op.Unlock db key) who) db key) call (view db key t.node) (wish_more n call (op.Unlock db key) who db key w h.fresh (h.stands.wishes db key)))

unlock_kept : (who : Opened) (c : Config) (n call db : ℕ) (key : List ℕ) (t : Turn) → Comes who c n call t → db < length c.dbs → Account (with_call call (n, op.Unlock db key) who) n (at_record c n db key (λ at m. unlock at call m) t)
unfolding view place_of is_commit
unlock_kept who c n call db key t h has =
    let w = (state_at db key t.node).wish in
    call_kept who n c db key (λ at m. unlock at call m) t call (op.Unlock db key) h.nothing h.fresh refl refl refl (subst (λ (l : ℕ). db < l) (sym h.size) has) h.stands
    (unlock_even (number_of w) (place_of c n db key t.node) call (view db key t.node) refl (even_start n who db key w (h.stands.wishes db key)))
    (unlock_wish (Wished n (with_call call (n, op.Unlock db key) who) db key) (place_of c n db key t.node) call (view db key t.node) (wish_more n call (op.Unlock db key) who db key w h.fresh (h.stands.wishes db key)))

unlocks_kept : (who : Opened) (c : Config) (n call db : ℕ) (key : List ℕ) (t : Turn) (p : Phase) → Comes who c n call t → db < length c.dbs → Account (with_call call (n, op.Unlock db key) who) n (unlocks c n call db key t p)
unfolding unlocks
unlocks_kept who c n call db key t (Freezing g l) h has = frozen_kept n g l (release_kept who c n call db key t h has)
unlocks_kept who c n call db key t Idle h has = unlock_kept who c n call db key t h has
unlocks_kept who c n call db key t Serving h has = unlock_kept who c n call db key t h has
unlocks_kept who c n call db key t Installed h has = unlock_kept who c n call db key t h has
unlocks_kept who c n call db key t (Frozen g) h has = unlock_kept who c n call db key t h has

answer_kept : (who : Opened) (c : Config) (n call : ℕ) (o : ClientOp) (a : Answer) (t : Turn) → Comes who c n call t → Account (with_call call (n, o) who) n (answers call a t)
answer_kept who c n call o a t h = answers_kept who n call o a t h.nothing h.fresh h.stands

waits_kept : (who : Opened) (c : Config) (n call db : ℕ) (x : Committing) (t : Turn) → Comes who c n call t → db < length c.dbs → (db_at db t.node).commit ≡ None → x.call ≡ call → Account (with_call call (n, op.Commit db x.writes) who) n (with_commit db (Some x) t)
unfolding with_commit with_node answered_by AllOpen without_all
waits_kept who c n call db x t h has none mine = subst (λ (l : List Out). Account (with_call call (n, op.Commit db x.writes) who) n (record t { node = with_committing db (Some x) t.node; outs = l })) (sym h.nothing)
    (record { asked = tt; stands = commit_waits n db call who t.node x (subst (λ (l : ℕ). db < l) (sym h.size) has) none mine h.fresh h.stands })

updates_come : (who : Opened) (c : Config) (n call db seq : ℕ) (ws : List Pair) (t : Turn) → Comes who c n call t → Comes who c n call (updates db seq ws (makes seq t))
unfolding updates makes with_node node.with_db
updates_come who c n call db seq ws t h = record { nothing = h.nothing; fresh = h.fresh; size = length-set _ _ _ ∙ h.size; stands = updates_stands n who db seq ws t.node h.stands }

awaits_kept : (who : Opened) (c : Config) (n call db seq : ℕ) (ws : List Pair) (ns : List ℕ) (t : Turn) → Comes who c n call t → db < length c.dbs → (db_at db t.node).commit ≡ None → Account (with_call call (n, op.Commit db ws) who) n (awaits_others n call db seq ws ns t)
unfolding awaits_others with_commit
awaits_kept who c n call db seq ws [] t h has none = answer_kept who c n call (op.Commit db ws) _ t h
awaits_kept who c n call db seq ws (m ∷ ms) t h has none = posts_all_kept _ _ _ _ _ (waits_kept who c n call db (record { call = call; writes = ws; pending = commit_begun seq (m ∷ ms) }) t h has none refl)

commit_kept : (who : Opened) (c : Config) (n call db : ℕ) (ws : List Pair) (t : Turn) → Comes who c n call t → db < length c.dbs → (db_at db t.node).commit ≡ None → Account (with_call call (n, op.Commit db ws) who) n (commit n call db ws t)
unfolding commit commits_at
commit_kept who c n call db ws t h has none = awaits_kept who c n call db _ ws (others n t.node.members) _ (updates_come who c n call db _ ws t h) has (updates_commit db _ ws t ∙ none)

serves_kept : (who : Opened) (c : Config) (rules : Rules) (n call : ℕ) (t : Turn) (o : ClientOp) → Comes who c n call t → db_of o < length c.dbs → call_pending t.node o ≡ None → commit_pending c t.node o ≡ None → Account (with_call call (n, o) who) n (serves c rules n call t o)
unfolding serves reads read_pair wants_record is_commit
serves_kept who c rules n call t (op.Read db key) h has free commits = cond_both (is_persistent (kind_at c db)) (read_pair call db key t) (at_record c n db key (λ at o. want at rules call (op.Read db key) o) t) (λ (u : Turn). Account (with_call call (n, op.Read db key) who) n u)
    (λ _. answer_kept who c n call (op.Read db key) _ t h) (λ _. want_kept who c rules n call (op.Read db key) t h refl refl has (none_waits t.node (op.Read db key) refl free))
serves_kept who c rules n call t (op.Store db key v) h has free commits = store_kept who c n call db key v t h has
serves_kept who c rules n call t (op.Unlock db key) h has free commits = unlocks_kept who c n call db key t t.node.phase h has
serves_kept who c rules n call t (op.Commit db ws) h has free commits = commit_kept who c n call db ws t h has (none_commits c t.node db ws commits)
serves_kept who c rules n call t (op.Lock db key) h has free commits = want_kept who c rules n call (op.Lock db key) t h refl refl has (none_waits t.node (op.Lock db key) refl free)
serves_kept who c rules n call t (op.Write db key v) h has free commits = want_kept who c rules n call (op.Write db key v) t h refl refl has (none_waits t.node (op.Write db key v) refl free)
serves_kept who c rules n call t (op.Apply db key f arg) h has free commits = want_kept who c rules n call (op.Apply db key f arg) t h refl refl has (none_waits t.node (op.Apply db key f arg) refl free)

-- the refusals that matter to calls
free_of : (c : Config) (rules : Rules) (n : Node) (o : ClientOp) → refusal c rules n o ≡ None → (no_such_db c o ≡ None) × (call_pending n o ≡ None) × (commit_pending c n o ≡ None)
unfolding refusal
free_of c rules n o e =
    let db = first_none _ _ e in let kind = first_none _ _ db.1 in let serving = first_none _ _ kind.1 in let wish = first_none _ _ serving.1 in
    (db.0, wish.0, (first_none _ _ wish.1).0)

serves_or_kept : (who : Opened) (c : Config) (rules : Rules) (n call : ℕ) (o : ClientOp) (t : Turn) (w : Option Why) → refusal c rules t.node o ≡ w → Comes who c n call t → Account (with_call call (n, o) who) n (serves_or c rules n call o t w)
unfolding serves_or
serves_or_kept who c rules n call o t (Some w) is h = answer_kept who c n call o _ t h
serves_or_kept who c rules n call o t None is h = (let f = free_of c rules t.node o is in serves_kept who c rules n call t o h (has_kind c o f.0) f.1 f.2)

-- a client's call
pub client_kept : (who : Opened) (c : Config) (rules : Rules) (n call : ℕ) (o : ClientOp) (t : Turn) → Comes who c n call t → Account (with_call call (n, o) who) n (client c rules n call o t)
unfolding client makes
client_kept who c rules n call o t h = serves_or_kept who c rules n call o (makes call t) (refusal c rules t.node o) refl (record { nothing = h.nothing; fresh = h.fresh; size = h.size; stands = h.stands })
