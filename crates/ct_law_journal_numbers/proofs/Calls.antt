-- The calls that wait at a node, by number, where new numbers rise as the old ones do; and what is done for each of them.
use Rattle.std.proofs.Common.{◌≡◌, ℕ, ◌+◌, ◌≤◌, Bool, true, false, cond, ◌&&◌, List, [], ◌∷◌, ◌++◌, map, Option, Some, None, refl, sym, ap, ◌∙◌, subst, arith}
use Rattle.std.proofs.lemmas.Bool.{and_parts, le-ltb, lt-ltb, ltb-true, ltb-false}
use Rattle.std.proofs.lemmas.List.{map-append}
use Rattle.std.specs.Prelude.{nat_eq, nat_lt}
use Rattle.std.specs.List.{AllByRecursion, list_all}
use Rattle.ct_values.specs.declared.config.Config.{Config}
use Rattle.ct_frame.specs.declared.event.Note.TheVariants as note
use Rattle.ct_frame.specs.declared.frame.Msg.TheVariants as msg
use Rattle.ct_call.specs.Rules.{Rules}
use Rattle.ct_store.specs.Map.{Pairs}
use Rattle.ct_lcp2.proofs.Choices.{all_append}
use Rattle.ct_rules.specs.Moves.{call_again, revoke_again}
use Rattle.ct_rules.specs.Parts.{Moving, keeps}
use Rattle.ct_rules.specs.declared.event.Place.{Place}
use Rattle.ct_rules.specs.declared.state.RecState.{RecState}
use Rattle.ct_rules.specs.declared.state.Wish.{Wish}
use Rattle.ct_rules_node.specs.Node.{Node, Phase, Idle, Serving, Installed, Freezing, Frozen, Database, Committing, is_present}
use Rattle.ct_rules_node.specs.Numbered.{by_number, ranked}
use Rattle.ct_rules_node.specs.Turn.{Turn, notes, with_phase}
use Rattle.ct_rules_node.specs.Records.{at_record}
use Rattle.ct_rules_node.specs.Retries.{call_all, revoke_all, revoke_in, update_again, update_in, retry_records, retry_lead, retry}
use Rattle.ct_rules_node.specs.Rounds.{Called, called_of, calls_of, calls_in, pending_calls, want_again_of, want_again, want_all, thaws, on_thaw}
use Rattle.ct_law_rules_node.proofs.Numbered.{numbered_all}
use Rattle.ct_law_journal_numbers.specs.Laws.{RisesOn}
use Rattle.ct_law_journal_numbers.specs.Renumbered.{wish_under, state_under, records_under, commit_under, database_under, node_under, turn_under, locks_only, wishes_only, records_only, commits_only, holds_only}
use Rattle.ct_law_journal_numbers.proofs.Messages.{call_again_under, revoke_again_under}
use Rattle.ct_law_journal_numbers.proofs.Nodes.{at_record_under}
use Rattle.ct_law_journal_numbers.proofs.Parts.{moving_under, want_under}
use Rattle.ct_law_journal_numbers.proofs.Takeovers.{retry_lead_under}
use Rattle.ct_law_journal_numbers.proofs.Turns.{either_turn, turn_unchanged, notes_under, posts_all_under}

-- ---- numbers that rise compare as the old ones do

not_less : (among : ℕ → Bool) (number : ℕ → ℕ) → RisesOn among number → (a b : ℕ) → among a ≡ true → among b ≡ true → b ≤ a → number b ≤ number a
not_less among number rises a b p q le = by (nat_lt b a) refl
  where
    by : (x : Bool) → nat_lt b a ≡ x → number b ≤ number a
    by true e = (let l = rises b a q p (ltb-true b a e) in omega arith)
    by false e = (let same : a ≡ b = (let m = ltb-false b a e in omega arith) in subst (λ (k : ℕ). number b ≤ number k) (sym same) (omega arith))

pub same_order : (among : ℕ → Bool) (number : ℕ → ℕ) → RisesOn among number → (a b : ℕ) → among a ≡ true → among b ≡ true → nat_lt (number a) (number b) ≡ nat_lt a b
same_order among number rises a b p q = by (nat_lt a b) refl
  where
    by : (x : Bool) → nat_lt a b ≡ x → nat_lt (number a) (number b) ≡ x
    by true e = lt-ltb (number a) (number b) (rises a b p q (ltb-true a b e))
    by false e = le-ltb (number a) (number b) (not_less among number rises a b p q (ltb-false a b e))

module _ (number : ℕ → ℕ) where
  -- ---- the calls that wait

  -- a call that waits, under another number
  unfoldable pub waiting_under : Called → Called
  waiting_under x = record x { call = number x.call }

  called_of_under : (db : ℕ) (key : List ℕ) (w : Option Wish) → called_of db key (wish_under number w) ≡ map waiting_under (called_of db key w)
  unfolding called_of wish_under waiting_under
  called_of_under db key None = refl
  called_of_under db key (Some w) = refl

  calls_of_under : (db : ℕ) (m : Pairs RecState) → calls_of db (records_under number m) ≡ map waiting_under (calls_of db m)
  unfolding calls_of records_under state_under
  calls_of_under db [] = refl
  calls_of_under db (e ∷ m) = (λ i. called_of_under db e.0 e.1.wish i ++ calls_of_under db m i) ∙ sym (map-append waiting_under (called_of db e.0 e.1.wish) (calls_of db m))

  calls_in_under : (i : ℕ) (ds : List Database) → calls_in i (map (database_under number) ds) ≡ map waiting_under (calls_in i ds)
  unfolding calls_in database_under
  calls_in_under i [] = refl
  calls_in_under i (d ∷ ds) = (λ j. calls_of_under i d.records j ++ calls_in_under (i + 1) ds j) ∙ sym (map-append waiting_under (calls_of i d.records) (calls_in (i + 1) ds))

  -- by number they stand in the same order
  ranked_under : (among : ℕ → Bool) → RisesOn among number → (x : Called) (ys : List Called) → among x.call ≡ true → AllByRecursion (λ y. among y.call ≡ true) ys
      → ranked (λ y. y.call) (waiting_under x) (map waiting_under ys) ≡ map waiting_under (ranked (λ y. y.call) x ys)
  unfolding ranked waiting_under
  ranked_under among rises x [] p h = refl
  ranked_under among rises x (y ∷ ys) p h =
      ap (λ (b : Bool). cond b (waiting_under y ∷ ranked (λ z. z.call) (waiting_under x) (map waiting_under ys)) (waiting_under x ∷ waiting_under y ∷ map waiting_under ys)) (same_order among number rises y.call x.call h.0 p)
      ∙ by (ranked_under among rises x ys p h.1) (nat_lt y.call x.call)
    where
      by : ranked (λ z. z.call) (waiting_under x) (map waiting_under ys) ≡ map waiting_under (ranked (λ z. z.call) x ys) → (b : Bool) → cond b (waiting_under y ∷ ranked (λ z. z.call) (waiting_under x) (map waiting_under ys)) (waiting_under x ∷ waiting_under y ∷ map waiting_under ys) ≡ map waiting_under (cond b (y ∷ ranked (λ z. z.call) x ys) (x ∷ y ∷ ys))
      by rest true = ap (λ (l : List Called). waiting_under y ∷ l) rest
      by rest false = refl

  numbered_under : (among : ℕ → Bool) → RisesOn among number → (xs : List Called) → AllByRecursion (λ y. among y.call ≡ true) xs → by_number (λ y. y.call) (map waiting_under xs) ≡ map waiting_under (by_number (λ y. y.call) xs)
  unfolding by_number
  numbered_under among rises [] h = refl
  numbered_under among rises (x ∷ xs) h =
      ap (ranked (λ y. y.call) (waiting_under x)) (numbered_under among rises xs h.1)
      ∙ ranked_under among rises x (by_number (λ y. y.call) xs) h.0 (numbered_all (λ y. y.call) (λ y. among y.call ≡ true) xs h.1)

  -- ---- they are among those that the node holds

  called_among : (among : ℕ → Bool) (db : ℕ) (key : List ℕ) (w : Option Wish) → wishes_only among w ≡ true → AllByRecursion (λ y. among y.call ≡ true) (called_of db key w)
  unfolding called_of wishes_only
  called_among among db key None e = tt
  called_among among db key (Some w) e = (e, tt)

  calls_among : (among : ℕ → Bool) (db : ℕ) (m : Pairs RecState) → records_only among m ≡ true → AllByRecursion (λ y. among y.call ≡ true) (calls_of db m)
  unfolding calls_of records_only
  calls_among among db [] e = tt
  calls_among among db (x ∷ m) e =
      let both = and_parts (locks_only among x.1.locked && wishes_only among x.1.wish) (records_only among m) e in
      let own = and_parts (locks_only among x.1.locked) (wishes_only among x.1.wish) both.0 in
      all_append (λ y. among y.call ≡ true) (called_of db x.0 x.1.wish) (calls_of db m) (called_among among db x.0 x.1.wish own.1) (calls_among among db m both.1)

  pub all_among : (among : ℕ → Bool) (i : ℕ) (ds : List Database) → list_all (λ d. records_only among d.records && commits_only among d.commit) ds ≡ true → AllByRecursion (λ y. among y.call ≡ true) (calls_in i ds)
  unfolding calls_in
  all_among among i [] e = tt
  all_among among i (d ∷ ds) e =
      let both = and_parts (records_only among d.records && commits_only among d.commit) (list_all (λ x. records_only among x.records && commits_only among x.commit) ds) e in
      let own = and_parts (records_only among d.records) (commits_only among d.commit) both.0 in
      all_append (λ y. among y.call ≡ true) (calls_of i d.records) (calls_in (i + 1) ds) (calls_among among i d.records own.0) (all_among among (i + 1) ds both.1)

  -- the calls that wait at a node stand in the same order
  unfoldable pub IsInOrder : Node → Type 0
  IsInOrder n = pending_calls (node_under number n) ≡ map waiting_under (pending_calls n)

  pub in_order : (among : ℕ → Bool) → RisesOn among number → (n : Node) → holds_only among n ≡ true → IsInOrder n
  unfolding IsInOrder pending_calls node_under holds_only
  in_order among rises n e = ap (by_number (λ y. y.call)) (calls_in_under 0 n.dbs) ∙ numbered_under among rises (calls_in 0 n.dbs) (all_among among 0 n.dbs e)

  -- ---- Thaw

  want_again_of_under : (at : Place) (rules : Rules) (o : Moving) (w : Option Wish) → want_again_of at rules (moving_under number o) (wish_under number w) ≡ moving_under number (want_again_of at rules o w)
  unfolding want_again_of keeps moving_under state_under wish_under
  want_again_of_under at rules o None = refl
  want_again_of_under at rules o (Some w) = want_under number at rules w.call w.op (keeps (record o.state { wish = None }) o)

  want_again_under : (rules : Rules) (at : Place) (o : Moving) → want_again rules at (moving_under number o) ≡ moving_under number (want_again rules at o)
  unfolding want_again moving_under state_under
  want_again_under rules at o = want_again_of_under at rules o o.state.wish

  want_all_under : (c : Config) (rules : Rules) (me : ℕ) (xs : List Called) (t : Turn) → want_all c rules me (map waiting_under xs) (turn_under number t) ≡ turn_under number (want_all c rules me xs t)
  unfolding want_all waiting_under
  want_all_under c rules me [] t = refl
  want_all_under c rules me (x ∷ xs) t =
      ap (want_all c rules me (map waiting_under xs)) (at_record_under number c me x.db x.key (want_again rules) (want_again rules) t (want_again_under rules))
      ∙ want_all_under c rules me xs (at_record c me x.db x.key (want_again rules) t)

  thaws_under : (c : Config) (rules : Rules) (me g : ℕ) (t : Turn) → IsInOrder t.node → thaws c rules me g (turn_under number t) ≡ turn_under number (thaws c rules me g t)
  unfolding thaws with_phase turn_under node_under IsInOrder
  thaws_under c rules me g t order =
      (λ i. want_all c rules me (order i) (notes_under number (note.Thawed g) (with_phase Serving t) i))
      ∙ want_all_under c rules me (pending_calls t.node) (notes (note.Thawed g) (with_phase Serving t))

  pub on_thaw_under : (c : Config) (rules : Rules) (me g : ℕ) (t : Turn) (p : Phase) → IsInOrder t.node → on_thaw c rules me g (turn_under number t) p ≡ turn_under number (on_thaw c rules me g t p)
  unfolding on_thaw turn_under node_under
  on_thaw_under c rules me g t Installed order = either_turn number (nat_eq t.node.generation g) _ _ refl (thaws_under c rules me g t order) (turn_unchanged number t)
  on_thaw_under c rules me g t Idle order = refl
  on_thaw_under c rules me g t Serving order = refl
  on_thaw_under c rules me g t (Freezing h leader) order = refl
  on_thaw_under c rules me g t (Frozen h) order = refl

  -- ---- Retry

  call_all_under : (c : Config) (me : ℕ) (xs : List Called) (t : Turn) → call_all c me (map waiting_under xs) (turn_under number t) ≡ turn_under number (call_all c me xs t)
  unfolding call_all waiting_under
  call_all_under c me [] t = refl
  call_all_under c me (x ∷ xs) t = ap (call_all c me (map waiting_under xs)) (at_record_under number c me x.db x.key call_again call_again t (call_again_under number)) ∙ call_all_under c me xs (at_record c me x.db x.key call_again t)

  revoke_all_under : (c : Config) (me db : ℕ) (m : Pairs RecState) (t : Turn) → revoke_all c me db (records_under number m) (turn_under number t) ≡ turn_under number (revoke_all c me db m t)
  unfolding revoke_all records_under
  revoke_all_under c me db [] t = refl
  revoke_all_under c me db (e ∷ m) t = ap (revoke_all c me db (records_under number m)) (at_record_under number c me db e.0 revoke_again revoke_again t (revoke_again_under number)) ∙ revoke_all_under c me db m (at_record c me db e.0 revoke_again t)

  revoke_in_under : (c : Config) (me i : ℕ) (ds : List Database) (t : Turn) → revoke_in c me i (map (database_under number) ds) (turn_under number t) ≡ turn_under number (revoke_in c me i ds t)
  unfolding revoke_in database_under
  revoke_in_under c me i [] t = refl
  revoke_in_under c me i (d ∷ ds) t = ap (revoke_in c me (i + 1) (map (database_under number) ds)) (revoke_all_under c me i d.records t) ∙ revoke_in_under c me (i + 1) ds (revoke_all c me i d.records t)

  update_again_under : (me db : ℕ) (t : Turn) (x : Option Committing) → update_again me db (turn_under number t) (commit_under number x) ≡ turn_under number (update_again me db t x)
  unfolding update_again commit_under turn_under node_under
  update_again_under me db t None = refl
  update_again_under me db t (Some x) = posts_all_under number t.node.generation me x.pending.missing (msg.PUpdate db x.pending.seq x.writes) t

  update_in_under : (me i : ℕ) (ds : List Database) (t : Turn) → update_in me i (map (database_under number) ds) (turn_under number t) ≡ turn_under number (update_in me i ds t)
  unfolding update_in database_under
  update_in_under me i [] t = refl
  update_in_under me i (d ∷ ds) t = ap (update_in me (i + 1) (map (database_under number) ds)) (update_again_under me i t d.commit) ∙ update_in_under me (i + 1) ds (update_again me i t d.commit)

  retry_records_under : (c : Config) (me : ℕ) (t : Turn) → IsInOrder t.node → retry_records c me (turn_under number t) ≡ turn_under number (retry_records c me t)
  unfolding retry_records turn_under node_under IsInOrder
  retry_records_under c me t order =
      let ds : List Database = map (database_under number) t.node.dbs in
      let calls : Turn = call_all c me (pending_calls t.node) t in
      let revokes : Turn = revoke_in c me 0 t.node.dbs calls in
      either_turn number (is_present t.node.phase) _ _ refl
      ((λ i. update_in me 0 ds (revoke_in c me 0 ds (call_all c me (order i) (turn_under number t))))
      ∙ ap (λ (u : Turn). update_in me 0 ds (revoke_in c me 0 ds u)) (call_all_under c me (pending_calls t.node) t)
      ∙ ap (update_in me 0 ds) (revoke_in_under c me 0 t.node.dbs calls)
      ∙ update_in_under me 0 t.node.dbs revokes)
      (turn_unchanged number t)

  retries_lead : (me : ℕ) (t : Turn) → retry_lead me (turn_under number t) (turn_under number t).node.lead ≡ turn_under number (retry_lead me t t.node.lead)
  unfolding turn_under node_under
  retries_lead me t = retry_lead_under number me t t.node.lead

  pub retry_under : (c : Config) (me : ℕ) (t : Turn) → IsInOrder t.node → retry c me (turn_under number t) ≡ turn_under number (retry c me t)
  unfolding retry
  retry_under c me t order = ap (λ (u : Turn). retry_lead me u u.node.lead) (retry_records_under c me t order) ∙ retries_lead me (retry_records c me t)
