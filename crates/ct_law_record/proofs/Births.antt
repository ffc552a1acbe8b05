-- The law of one record in a generation that begins with a row for it.
use Rattle.std.proofs.Common.{◌&&◌, not, ◌≡◌, ◌≢◌, ℕ, ◌+◌, Bool, true, false, Option, Some, None, List, [], refl, sym, ap, ◌∙◌, arith, ◌<◌, ◌≤◌, subst, eq-eqb, take, nat_eq, cond, leb, length, le_refl, eqb-true, inl}
use Rattle.ct_frame.specs.Header.{nobody, plain}
use Rattle.ct_rules.specs.State.{a_copy, nothing_kept}
use Rattle.ct_rules.specs.declared.state.Wish.{Wish}
use Rattle.ct_law_record.proofs.Rule
use Rattle.ct_law_record.proofs.Rule.{Copy}
use Rattle.ct_law_record.proofs.SeenNode.{copy_of, frames_of, kind_at, node_of}
use Rattle.ct_law_record.proofs.Invariant.{Past, Marking, Sent, Ghost, Asked, Waits, Emptied, readers_of, is_revoking, Facts, MasterFacts, NodeInv}
use Rattle.std.specs.List.{list_all}
use Rattle.ct_frame.specs.Fields.{is_node}
use Rattle.ct_register.specs.Register.{reading, newborn}
use Rattle.ct_law_record.specs.World.{Scene, AreDrawn, waiting_call, opening, bare, born_state, born, SeesAtMost}
use Rattle.ct_law_record.specs.Calls.{log_of, AreWanting, OpensAsOneRegister, BeginsAsOneRegister, IsBornAsOneRegister}
use Rattle.ct_law_record.proofs.Logged.{AllWant}
use Rattle.ct_law_record.proofs.LoggedRun.{leads_on}
use Rattle.ct_law_record.proofs.Nodes.{past_top, past_none}
use Rattle.ct_law_record.proofs.Worlds.{WorldInv, member_real}
use Rattle.ct_law_record.proofs.Law.{drawn_low, bare_ghost, bare_holds}
use Rattle.ct_rules_node.specs.Rounds.{installed_state, copy_from, row_master, or_nobody, entry_from}
use Rattle.ct_rules_node.specs.Node.{is_among}
use Rattle.ct_frame.specs.declared.frame.TableRow.{TableRow}
use Rattle.std.proofs.lemmas.Bool.{and_parts, cond_both, ne_eqb, le-leb, lt-leb, eqb-false}
use Rattle.std.proofs.lemmas.List.{take_all}
use Rattle.ct_rules.specs.declared.state.RecState.{RecState}

-- the places: the whole list from the row's RSN on, and nothing below it
abbrev pub born_place : ℕ → ℕ → ℕ → ℕ
born_place rsn count a = cond (leb (rsn + 1) a) count 0

abbrev pub born_ghost : TableRow → ℕ → List (List ℕ) → (ℕ → ℕ) → Ghost
born_ghost row master versions seen = record {
  entry = record { holder = master; least = row.rsn + 1; request = 0; value = row.value };
  queue = [];
  frames = [];
  register = record (newborn versions) { seen = seen };
  readers = [];
  revoking = false;
  top = row.rsn + 2;
  place = born_place row.rsn (length versions);
  vacuum = None;
  base = row.rsn;
  joint = row.rsn + 1;
  mark = born_place row.rsn (length versions);
}

whole_born : (rsn a : ℕ) (versions : List (List ℕ)) → rsn + 1 ≤ a → reading versions ≡ reading (take (born_place rsn (length versions) a) versions)
whole_born rsn a versions le = rw (le-leb (rsn + 1) a le) (ap reading (sym (take_all (length versions) versions (le_refl (length versions)))))

none_born : (rsn : ℕ) (versions : List (List ℕ)) → [] ≡ reading (take (born_place rsn (length versions) 0) versions)
unfolding reading
none_born rsn versions = rw (lt-leb (rsn + 1) 0 (omega arith)) refl

-- what a node's copy is at the birth
record Bornly (inside : Bool) (rsn master : ℕ) (versions : List (List ℕ)) (count n : ℕ) (c : Option Copy) : Type 0 where
  here : Rule.is_here c ≡ true → (n ≡ master) × (Rule.rank c ≡ rsn + 2)
  holds : n ≡ master → (Rule.rank c ≡ rsn + 2) × (Rule.value_of c ≡ reading versions) × (Rule.is_here c ≡ true)
  other : n ≢ master → Rule.rank c ≤ rsn + 1
  under : Rule.rank c ≤ rsn + 2
  unread : Rule.is_reading c ≡ false
  even : Rule.is_odd c ≡ false
  value : Rule.value_of c ≡ reading (take (born_place rsn (length versions) (Rule.rank c)) versions)
  seen : count ≤ born_place rsn (length versions) (Rule.rank c)
  full : inside ≡ true → (length versions ≤ born_place rsn (length versions) (Rule.rank c)) × (1 ≤ length versions → 1 ≤ Rule.rank c)
  marked : Past (rsn + 1) c

born_master : (rsn master count : ℕ) (versions : List (List ℕ)) (value : List ℕ) → value ≡ reading versions → count ≤ length versions → Bornly true rsn master versions count master (Some (record { rsn = rsn + 1; kind = Rule.Here; value = value }))
unfolding Rule.is_here Rule.is_kind_here Rule.is_reading Rule.is_kind_reading Rule.is_odd Rule.is_kind_odd Rule.rank Rule.value_of
born_master rsn master count versions value is few = record {
  here = λ _. (refl, omega arith);
  holds = λ _. (omega arith, is, refl);
  other = λ ne. absurd (ne refl);
  under = omega arith;
  unread = refl;
  even = refl;
  value = is ∙ whole_born rsn (rsn + 1 + 1) versions (omega arith);
  seen = rw (le-leb (rsn + 1) (rsn + 1 + 1) (omega arith)) few;
  full = λ _. (rw (le-leb (rsn + 1) (rsn + 1 + 1) (omega arith)) (omega arith), λ _. omega arith);
  marked = past_top (rsn + 1) _ (omega arith);
}

born_other : (rsn master count n : ℕ) (versions : List (List ℕ)) (value : List ℕ) → n ≢ master → value ≡ reading versions → count ≤ length versions → Bornly true rsn master versions count n (Some (record { rsn = rsn; kind = Rule.Stale; value = value }))
unfolding Rule.is_here Rule.is_kind_here Rule.is_reading Rule.is_kind_reading Rule.is_odd Rule.is_kind_odd Rule.rank Rule.value_of
born_other rsn master count n versions value ne is few = record {
  here = λ a. absurd (cc);
  holds = λ a. absurd (ne a);
  other = λ _. omega arith;
  under = omega arith;
  unread = refl;
  even = refl;
  value = is ∙ whole_born rsn (rsn + 1) versions (omega arith);
  seen = rw (le-leb (rsn + 1) (rsn + 1) (omega arith)) few;
  full = λ _. (rw (le-leb (rsn + 1) (rsn + 1) (omega arith)) (omega arith), λ _. omega arith);
  marked = past_top (rsn + 1) _ (omega arith);
}

born_outside : (rsn master n : ℕ) (versions : List (List ℕ)) (count : ℕ) → n ≢ master → count ≤ 0 → Bornly false rsn master versions count n None
unfolding Rule.is_here Rule.is_reading Rule.is_odd Rule.rank Rule.value_of
born_outside rsn master n versions count ne few = record {
  here = λ a. absurd (cc);
  holds = λ a. absurd (ne a);
  other = λ _. omega arith;
  under = omega arith;
  unread = refl;
  even = refl;
  value = none_born rsn versions;
  seen = omega arith;
  full = λ e. absurd (cc);
  marked = past_none (rsn + 1) None refl;
}

-- the copy that a row makes at a member
copy_born : (n master rsn : ℕ) (value : List ℕ) → master ≢ nobody → copy_of n (Some (a_copy (cond (nat_eq n master) (rsn + 1) rsn) master plain value)) ≡ cond (nat_eq n master) (Some (record { rsn = rsn + 1; kind = Rule.Here; value = value })) (Some (record { rsn = rsn; kind = Rule.Stale; value = value }))
unfolding copy_of kind_at
copy_born n master rsn value real = grind (arith, eq-eqb, ne_eqb, eqb-true)

born_member : (rsn master count n : ℕ) (versions : List (List ℕ)) (value : List ℕ) → master ≢ nobody → value ≡ reading versions → count ≤ length versions → Bornly true rsn master versions count n (copy_of n (Some (a_copy (cond (nat_eq n master) (rsn + 1) rsn) master plain value)))
born_member rsn master count n versions value real is few = subst (λ (c : Option Copy). Bornly true rsn master versions count n c) (sym (copy_born n master rsn value real))
    (cond_both (nat_eq n master) _ _ (λ (c : Option Copy). Bornly true rsn master versions count n c)
    (λ t. subst (λ (x : ℕ). Bornly true rsn master versions count x (Some (record { rsn = rsn + 1; kind = Rule.Here; value = value }))) (sym (eqb-true n master t)) (born_master rsn master count versions value is few))
    (λ f. born_other rsn master count n versions value (eqb-false n master f) is few))

facts_born : (inside joined : Bool) (row : TableRow) (master : ℕ) (versions : List (List ℕ)) (seen : ℕ → ℕ) (n number : ℕ) (c : Option Copy) (w : Option Rule.Wish) → row.value ≡ reading versions → 1 ≤ number → ((v : Rule.Wish) → w ≡ Some v → v.request < number) →
    Bornly inside row.rsn master versions (seen n) n c → Facts (born_ghost row master versions seen) n c w number false [] [] None (inside && not joined)
unfolding Asked Sent Waits readers_of is_revoking
facts_born inside joined row master versions seen n number c w is some low b = record {
  under = b.under;
  even = b.even;
  here = λ a. (let k = b.here a in let e = k.1 in (k.0, omega arith));
  holds = λ a _. (let k = b.holds a in (k.0, k.1));
  passing = λ a l. absurd (let k = (b.holds a).0 in omega arith);
  locked = λ a. absurd (cc);
  owner = λ a. absurd (cc);
  unwished = λ a. absurd (cc);
  wish = low;
  own = λ v a e nz z k. absurd (nz z);
  request = λ _ a. absurd (a refl);
  next = some;
  reader = λ a. absurd (let u = b.unread in cc);
  mirror = λ a. (refl, refl);
  nobody = λ _ _. (refl, refl, refl);
  away = λ _. refl;
  quiet = λ _. refl;
  runs = λ v a. absurd (cc);
  other = λ a _ e. absurd (let k = b.other a in omega arith);
  value = b.value;
  seen = b.seen;
  unjoined = λ e. b.full (and_parts inside (not joined) e).0;
  vacuum = λ v e. absurd (cc);
  asked = λ a s. elim s [ ];
  waits = λ x s. elim s [ ];
  frames = λ f s. elim s [ ];
  marked = b.marked;
}

pub born_holds : (s : Scene) (row : TableRow) (joined : ℕ → Bool) (versions : List (List ℕ)) (seen : ℕ → ℕ) (number : ℕ → ℕ) (wish : ℕ → Option Wish) →
    list_all is_node s.members ≡ true → is_among s.lmaster s.members ≡ true → is_among (row_master row) s.members ≡ true → row.value ≡ reading versions → SeesAtMost s seen (length versions) → AreDrawn number wish →
    WorldInv s (born s row joined number wish) (record (newborn versions) { seen = seen }) (born_ghost row (row_master row) versions seen)
unfolding born_state installed_state copy_from entry_from frames_of Emptied Sent copy_of
born_holds s row joined versions seen number wish real lmaster member is sees drawn = record {
  frames = refl;
  register = refl;
  all = record { rises = rises; whole = λ a l. rw (le-leb (row.rsn + 1) a (omega arith)) refl; within = within; absent = sym (none_born row.rsn versions); vacuum = λ v e. absurd (cc); marks = marks };
  nodes = nodes;
  master = subst (λ (b : Bool). MasterFacts s.lmaster g.entry g.queue g.vacuum g.base g.top (cond b (inside s.lmaster) (beside s.lmaster)).entry (cond b (inside s.lmaster) (beside s.lmaster)).queue (copy_of s.lmaster (cond b (inside s.lmaster) (beside s.lmaster)).copy) (cond b (inside s.lmaster) (beside s.lmaster)).vacuum 0) (sym lmaster)
      (record { entry = inl (rw (eq-eqb s.lmaster s.lmaster refl) refl, omega arith); queue = refl; vacuum = refl });
  outside = λ n e. subst (λ (b : Bool). (cond b (inside n) (beside n)).copy ≡ None) (sym e) refl;
  senders = λ f h. elim h [ ];
}
  where
    m : ℕ
    m = row_master row

    g : Ghost
    g = born_ghost row (row_master row) versions seen

    inside : ℕ → RecState
    inside n = installed_state n s.lmaster row (record nothing_kept { wish = wish n })

    beside : ℕ → RecState
    beside n = record nothing_kept { wish = wish n }

    rises : (a b : ℕ) → a ≤ b → born_place row.rsn (length versions) a ≤ born_place row.rsn (length versions) b
    rises a b le = grind arith

    within : (a : ℕ) → born_place row.rsn (length versions) a ≤ length versions
    within a = grind arith

    marks : Marking row.rsn (row.rsn + 1) (row.rsn + 2) (row.rsn + 1) (born_place row.rsn (length versions)) (born_place row.rsn (length versions)) versions row.value
    marks = record {
      rises = rises;
      whole = λ a l. rw (le-leb (row.rsn + 1) a (omega arith)) refl;
      agrees = λ a l. refl;
      low = omega arith;
      near = omega arith;
      fits = λ l. omega arith;
      under = omega arith;
      first = omega arith;
      entry = is ∙ whole_born row.rsn (row.rsn + 1) versions (omega arith);
      none = λ l. absurd (omega arith);
    }

    nodes : (n : ℕ) → NodeInv g n (record (node_of n s.readonly (cond (is_among n s.members) (inside n) (beside n)) (number n) 0) { fresh = is_among n s.members && not (joined n) })
    nodes n = cond_both (is_among n s.members) (inside n) (beside n) (λ (x : RecState). NodeInv g n (record (node_of n s.readonly x (number n) 0) { fresh = is_among n s.members && not (joined n) }))
        (λ t. subst (λ (b : Bool). NodeInv g n (record (node_of n s.readonly (inside n) (number n) 0) { fresh = b && not (joined n) })) (sym t) (facts_born true (joined n) row (row_master row) versions seen n (number n) _ _ is (drawn.some n) (λ v e. drawn_low s.readonly number wish n drawn v e)
        (born_member row.rsn (row_master row) (seen n) n versions row.value (member_real (row_master row) s.members member real) is (subst (λ (b : Bool). seen n ≤ cond b (length versions) 0) t (sees n)))))
        (λ f. subst (λ (b : Bool). NodeInv g n (record (node_of n s.readonly (beside n) (number n) 0) { fresh = b && not (joined n) })) (sym f) (facts_born false (joined n) row (row_master row) versions seen n (number n) _ _ is (drawn.some n) (λ v e. drawn_low s.readonly number wish n drawn v e)
        (born_outside row.rsn (row_master row) n versions (seen n) (λ e. (let z : is_among n s.members ≡ true = subst (λ x. is_among x s.members ≡ true) (sym e) member in cc)) (subst (λ (b : Bool). seen n ≤ cond b (length versions) 0) f (sees n)))))

-- the calls that wait in the beginning want the record
pub born_want : (s : Scene) (row : TableRow) (joined : ℕ → Bool) (number : ℕ → ℕ) (wish : ℕ → Option Wish) → AreWanting wish → AllWant (born s row joined number wish)
unfolding born_state installed_state
born_want s row joined number wish wanting n x e = wanting n x (sym (kept_wish n) ∙ e)
  where
    kept_wish : (n : ℕ) → (born_state s row n (wish n)).wish ≡ wish n
    kept_wish n = cond_both (is_among n s.members) _ _ (λ (r : RecState). r.wish ≡ wish n) (λ _. refl) (λ _. refl)

pub proved_born : IsBornAsOneRegister
unfolding row_master or_nobody
proved_born s row master versions seen joined number wish events real lmaster named member is sees drawn wanting =
    let e : row_master row ≡ master = ap or_nobody named in
    let w = born s row joined number wish in
    leads_on s w (log_of w) _ (born_ghost row (row_master row) versions seen) events real (born_holds s row joined versions seen number wish real lmaster (subst (λ x. is_among x s.members ≡ true) (sym e) member) is sees drawn) (λ n call. refl) (born_want s row joined number wish wanting)

pub proved_bare : BeginsAsOneRegister
proved_bare s joined number wish events real drawn wanting = (let w = bare joined number wish in leads_on s w (log_of w) (newborn []) (bare_ghost s.lmaster) events real (bare_holds s joined number wish drawn) (λ n call. refl) wanting)

pub proved : OpensAsOneRegister
unfolding waiting_call
proved s events real = leads_on s opening (λ n call. None) (newborn []) (bare_ghost s.lmaster) events real (bare_holds s (λ _. true) (λ _. 1) (λ _. None) (record { some = λ n. omega arith; above = λ n w e. absurd (cc) })) (λ n call. refl) (λ n x e. absurd (cc))
