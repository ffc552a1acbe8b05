-- Every schedule keeps the invariant, so its trace is the register's.
use Rattle.std.proofs.Common.{length, Bool, ◌≡◌, ◌≢◌, ℕ, true, false, Option, Some, None, List, [], ◌∷◌, ◌++◌, refl, sym, ap, ◌∙◌, arith, append-nil, not, ◌&&◌, eqb-true, subst, inl, inr, eq-eqb, ◌⊎◌, ⊎_elim, slice_get, zero, suc}
use Rattle.std.proofs.lemmas.Bool.{cond_both, and_parts, ne_eqb, eqb-false}
use Rattle.std.specs.Prelude.{is_some, nat_eq}
use Rattle.ct_values.specs.Words.{others}
use Rattle.ct_values.specs.declared.client.ClientOp.{ClientOp}
use Rattle.ct_values.specs.declared.client.ClientOp.TheVariants as op
use Rattle.ct_frame.specs.Header.{nobody}
use Rattle.ct_call.specs.Rules.{Rules}
use Rattle.ct_rules.specs.Parts.{Moving}
use Rattle.ct_rules.specs.declared.event.Act.{Act}
use Rattle.ct_rules.specs.declared.event.Act.TheVariants as act
use Rattle.ct_law_record.specs.Labels.{Label, AcceptsAll}
use Rattle.ct_law_record.specs.World.{Mail, told, sent, own_call, waiting_call, may_want, View, starts, sends, Scene, World, Event, Wants, Stores, Unlocks, Releases, Comes, Vacuums, Resends, Thaws, Ends, Leaves, Joins, Rises, place, peers, Stepped, view_of, steps, joins, unlocked, put, comes, happens, trace, last}
use Rattle.ct_law_record.specs.Labels as label
use Rattle.ct_law_record.proofs.LocksEnd.{end_holds, leave_holds}
use Rattle.ct_law_record.proofs.Rule
use Rattle.ct_law_record.proofs.Rule.{Node, Frame}
use Rattle.ct_law_record.proofs.SeenNode.{copy_of, node_of, out_of, frame_of, frames_of, frames_append}
use Rattle.ct_rules.specs.Messages
use Rattle.ct_rules.specs.Moves
use Rattle.ct_rules_node.specs.Rounds
use Rattle.ct_rules_node.specs.Node.{is_among}
use Rattle.ct_register.specs.Register.{Register, joined_by}
use Rattle.ct_law_record.proofs.Nodes.{seeing, NodeInv-seeing}
use Rattle.ct_law_record.proofs.Small.{changed_other}
use Rattle.ct_law_record.proofs.Invariant.{Start, span_of, Goes, Sent, Ghost, NodeInv, Holds, Kept, MasterInv, GlobalInv}
use Rattle.ct_law_record.proofs.Vacuuming.{Apart}
use Rattle.ct_law_record.specs.Marked.{is_removed}
use Rattle.ct_law_record.proofs.Markings.{RunsOn, goes_stays, goes_joined, runs_then, runs_none}
use Rattle.std.specs.List.{list_all}
use Rattle.ct_frame.specs.Fields.{is_node}
use Rattle.ct_register.specs.Words.{at as changed_seen}
use Rattle.ct_law_record.proofs.Events.{arrive_holds, wants_holds, stores_holds, unlocks_holds, releases_holds, vacuums_holds, resends_holds, thaws_holds, rises_holds, none_none, none_unlocked, waiting_is, may_parts}
use Rattle.ct_law_record.proofs.WishedCalls.{own_self}

-- the nodes, as the law sees them
abbrev pub node_at : Scene → ℕ → Bool → View → Node
node_at s n joined v = record (node_of n s.readonly v.state v.next v.floor) { fresh = is_among n s.members && not joined }

abbrev pub nodes_at : Scene → World → ℕ → Node
nodes_at s w n = node_at s n (w.joined n) (w.nodes n)

pub record WorldInv (s : Scene) (w : World) (r : Register) (g : Ghost) : Type 0 where
  pub frames : g.frames ≡ frames_of w.mail
  pub register : g.register ≡ r
  pub all : GlobalInv (peers s s.lmaster) s.lmaster g
  pub nodes : (n : ℕ) → NodeInv g n (nodes_at s w n)
  pub master : MasterInv s.lmaster g (nodes_at s w s.lmaster)
  pub outside : (n : ℕ) → is_among n s.members ≡ false → (w.nodes n).state.copy ≡ None
  pub senders : (f : Frame) → Sent f (frames_of w.mail) → is_among f.from s.members ≡ true

pub accepts_append : (rules : Rules) (r s t : Register) (ls ks : List Label) → AcceptsAll rules r ls s → AcceptsAll rules s ks t → AcceptsAll rules r (ls ++ ks) t
accepts_append rules r s t [] ks h k = subst (λ x. AcceptsAll rules x ks t) h k
accepts_append rules r s t (l ∷ ls) ks h k = (h.0, h.1, accepts_append rules h.0 s t ls ks h.2 k)

-- who is a member is a node
member_node : (n : ℕ) (ms : List ℕ) → is_among n ms ≡ true → list_all is_node ms ≡ true → is_node n ≡ true
unfolding is_among
member_node n [] i a = absurd (cc)
member_node n (m ∷ ms) i a = grind (arith, eqb-true, member_node n ms)

pub member_real : (n : ℕ) (ms : List ℕ) → is_among n ms ≡ true → list_all is_node ms ≡ true → n ≢ nobody
member_real n ms i a e = (let k : is_node nobody ≡ true = subst (λ x. is_node x ≡ true) e (member_node n ms i a) in absurd (cc))

peers_not : (m : ℕ) (ns : List ℕ) → Rule.has_node m (others m ns) ≡ false
unfolding Rule.has_node
peers_not m [] = refl
peers_not m (n ∷ ns) = grind (arith, peers_not m ns)

peers_in : (n m : ℕ) (ns : List ℕ) → n ≢ m → Rule.has_node n (others m ns) ≡ false → is_among n ns ≡ false
unfolding Rule.has_node is_among
peers_in n m [] ne e = refl
peers_in n m (k ∷ ns) ne e = grind (arith, eq-eqb, ne_eqb, peers_in n m ns)

sent_split : (f : Frame) (xs ys : List Frame) → Sent f (xs ++ ys) → Sent f xs ⊎ Sent f ys
unfolding Sent
sent_split f [] ys h = inr h
sent_split f (x ∷ xs) ys (inl e) = inl (inl e)
sent_split f (x ∷ xs) ys (inr h) = ⊎_elim (λ (k : Sent f xs). inl (inr k)) (λ (k : Sent f ys). inr k) (sent_split f xs ys h)

-- a step sends in its node's own name
sent_from : (n : ℕ) (f : Frame) (as' : List Act) → Sent f (frames_of (sent n as')) → f.from ≡ n
unfolding Sent sent sends frames_of
sent_from n f [] h = elim h [ ]
sent_from n f (act.Send receiver m ∷ as') (inl e) = ap (λ (x : Frame). x.from) (sym e)
sent_from n f (act.Send receiver m ∷ as') (inr h) = sent_from n f as' h
sent_from n f (act.Answer call a ∷ as') h = sent_from n f as' h
sent_from n f (act.Finished floor ∷ as') h = sent_from n f as' h

pub sent_at : (k : ℕ) (ms : List Mail) (m : Mail) → slice_get ms k ≡ Some m → Sent (frame_of m) (frames_of ms)
unfolding Sent frames_of
sent_at k [] m e = absurd (cc)
sent_at zero (x ∷ xs) m e = inl (let j : x ≡ m = cc in ap frame_of j)
sent_at (suc k) (x ∷ xs) m e = inr (sent_at k xs m e)

-- what a step leads to
abbrev pub Leads : Scene → Register → Ghost → Stepped → Type 0
Leads s r g x = (t : Register) × (g' : Ghost) × AcceptsAll s.rules r x.labels t × WorldInv s x.world t g' × Goes (is_removed x.labels) (span_of g) (span_of g')

abbrev pub started : Register → Ghost → Start
started r g = record { register = r; span = span_of g }

-- where a step begins, and where it ends
abbrev pub Begun : Scene → World → Register → ℕ → (ℕ → Option ClientOp) → Ghost → Moving → Type 0
Begun s w r n asks g o = Holds s.rules (peers s s.lmaster) s.lmaster n (nodes_at s w) (frames_of w.mail) (started r g) g (out_of (place s n (w.nodes n)) asks o)

abbrev Ended : Scene → World → Register → ℕ → (ℕ → Option ClientOp) → Ghost → Moving → Type 0
Ended s w r n asks g o = Kept s.rules (peers s s.lmaster) s.lmaster n (nodes_at s w) (frames_of w.mail) (started r g) (out_of (place s n (w.nodes n)) asks o)

not_fresh : (b j : Bool) → j ≡ true → (b && not j) ≡ false
not_fresh b true e = grind arith
not_fresh b false e = absurd (cc)

pub begin_holds : (s : Scene) (w : World) (r : Register) (n : ℕ) (asks : ℕ → Option ClientOp) (g : Ghost) → w.joined n ≡ true → WorldInv s w r g → Begun s w r n asks g (starts (w.nodes n))
unfolding sent told frames_of
begin_holds s w r n asks g joined h = record {
  sent = h.frames ∙ sym (append-nil (frames_of w.mail));
  told = h.register;
  went = goes_stays (span_of g);
  good = record {
    all = h.all;
    joined = refl;
    mine = subst (λ (b : Bool). NodeInv g n (record (nodes_at s w n) { fresh = b })) (not_fresh (is_among n s.members) (w.joined n) joined) (h.nodes n);
    others = λ k _. h.nodes k;
    master = λ e. subst (λ x. MasterInv s.lmaster g (nodes_at s w x)) (sym e) h.master;
    master_other = λ _. h.master;
  };
}

-- at its beginning a step told nothing
unremoved : (s : Scene) (w : World) (n : ℕ) (asks : ℕ → Option ClientOp) → is_removed (out_of (place s n (w.nodes n)) asks (starts (w.nodes n))).labels ≡ false
unfolding told is_removed
unremoved s w n asks = refl

steps_holds : (s : Scene) (w : World) (r : Register) (n : ℕ) (may : Bool) (labels : List Label) (v : View) (more : List Mail) (g : Ghost) → WorldInv s w r g → ((f : Frame) → Sent f (frames_of more) → f.from ≡ n) →
    (is_among n s.members ≡ true → w.joined n ≡ true → may ≡ true → Kept s.rules (peers s s.lmaster) s.lmaster n (nodes_at s w) (frames_of w.mail) (started r g) (record { node = node_of n s.readonly v.state v.next v.floor; frames = frames_of more; labels = labels })) → Leads s r g (steps s w n may labels v more)
steps_holds s w r n may labels v more g₀ before named k = cond_both (is_among n s.members && w.joined n && may) _ _ (Leads s r g₀)
    (λ t. (let p = and_parts (is_among n s.members && w.joined n) may t in let q = and_parts (is_among n s.members) (w.joined n) p.0 in let member = q.0 in let g = (k member q.1 p.1).0 in let h = (k member q.1 p.1).1 in (
      g.register,
      g,
      h.told,
      record {
        frames = h.sent ∙ sym (frames_append w.mail more);
        register = refl;
        all = h.good.all;
        nodes = λ j. cond_both (nat_eq j n) v (w.nodes j) (λ (x : View). NodeInv g j (node_at s j (w.joined j) x))
            (λ t'. subst (λ x. NodeInv g x (node_at s x (w.joined x) v)) (sym (eqb-true j n t')) (subst (λ (b : Bool). NodeInv g n (record (node_at s n (w.joined n) v) { fresh = b })) (sym (not_fresh (is_among n s.members) (w.joined n) q.1)) h.good.mine))
            (λ f. h.good.others j (eqb-false j n f));
        master = cond_both (nat_eq s.lmaster n) v (w.nodes s.lmaster) (λ (x : View). MasterInv s.lmaster g (node_at s s.lmaster (w.joined s.lmaster) x))
            (λ t'. (let e = eqb-true s.lmaster n t' in subst (λ x. MasterInv s.lmaster g (node_at s x (w.joined x) v)) (sym e) (h.good.master (sym e))))
            (λ f. h.good.master_other (λ e. eqb-false s.lmaster n f (sym e)));
        outside = λ j e. cond_both (nat_eq j n) v (w.nodes j) (λ (x : View). x.state.copy ≡ None)
            (λ t'. absurd (let z : is_among n s.members ≡ false = subst (λ x. is_among x s.members ≡ false) (eqb-true j n t') e in cc))
            (λ f. before.outside j e);
        senders = λ f h'. ⊎_elim
            (λ (x : Sent f (frames_of w.mail)). before.senders f x)
            (λ (x : Sent f (frames_of more)). subst (λ y. is_among y s.members ≡ true) (sym (named f x)) member)
            (sent_split f (frames_of w.mail) (frames_of more) (subst (λ l. Sent f l) (frames_append w.mail more) h'));
      },
      h.went,
    )))
    (λ _. (r, g₀, refl, before, goes_stays (span_of g₀)))

put_holds : (s : Scene) (w : World) (r : Register) (n : ℕ) (asks : ℕ → Option ClientOp) (g : Ghost) (o : Moving) → WorldInv s w r g → (is_among n s.members ≡ true → w.joined n ≡ true → Ended s w r n asks g o) → Leads s r g (put s w n asks o)
put_holds s w r n asks g o before k = steps_holds s w r n (not o.spent) (told n asks o.acts) (view_of o) (sent n o.acts) g before (λ f x. sent_from n f o.acts x) (λ member joined _. k member joined)

no_mail : (n : ℕ) (f : Frame) → Sent f (frames_of []) → f.from ≡ n
unfolding Sent frames_of
no_mail n f h = elim h [ ]

ends_world : (s : Scene) (w : World) (r : Register) (n : ℕ) (g : Ghost) → w.joined n ≡ true → is_some (w.nodes n).state.locked ≡ true → WorldInv s w r g → Kept s.rules (peers s s.lmaster) s.lmaster n (nodes_at s w) (frames_of w.mail) (started r g) (record { node = node_of n s.readonly (unlocked (w.nodes n)).state (unlocked (w.nodes n)).next (unlocked (w.nodes n)).floor; frames = frames_of []; labels = label.Ended n ∷ [] })
unfolding Rule.tell Rule.with_node sent told
ends_world s w r n g joined locked h = end_holds s.rules (peers s s.lmaster) s.lmaster n (nodes_at s w) (frames_of w.mail) (started r g) g (out_of (place s n (w.nodes n)) (λ _. None) (starts (w.nodes n))) locked (begin_holds s w r n (λ _. None) g joined h)

leaves_world : (s : Scene) (w : World) (r : Register) (n : ℕ) (g : Ghost) → w.joined n ≡ true → WorldInv s w r g → Kept s.rules (peers s s.lmaster) s.lmaster n (nodes_at s w) (frames_of w.mail) (started r g) (record { node = node_of n s.readonly (unlocked (w.nodes n)).state (unlocked (w.nodes n)).next (unlocked (w.nodes n)).floor; frames = frames_of []; labels = label.Left n ∷ [] })
unfolding Rule.tell Rule.with_node sent told
leaves_world s w r n g joined h = leave_holds s.rules (peers s s.lmaster) s.lmaster n (nodes_at s w) (frames_of w.mail) (started r g) g (out_of (place s n (w.nodes n)) (λ _. None) (starts (w.nodes n))) (begin_holds s w r n (λ _. None) g joined h)

apart : (s : Scene) (w : World) (r : Register) (n : ℕ) (g : Ghost) → WorldInv s w r g → n ≡ s.lmaster → Apart s.rules (peers s s.lmaster) s.lmaster n (nodes_at s w) (frames_of w.mail) (started r g)
unfolding copy_of
apart s w r n g h is k ne e = ap (copy_of k) (h.outside k (peers_in k s.lmaster s.members (λ z. ne (z ∙ sym is)) e))

joined_of : (g : Ghost) (n : ℕ) (node : Node) → NodeInv g n node → NodeInv g n (record node { fresh = false })
joined_of g n node h = grind arith

changed_same : (n count : ℕ) (f : ℕ → ℕ) → changed_seen n count f n ≡ count
unfolding changed_seen
changed_same n count f = rw (eq-eqb n n refl) refl

-- a node joins: it has seen what the generation began with
says_seen : (g : Ghost) (seen : ℕ → ℕ) (n : ℕ) (node : Node) → node.fresh ≡ true → seen n ≡ length g.register.birth → NodeInv g n node → NodeInv (seeing seen g) n (record node { fresh = false })
says_seen g seen n node fresh is h = joined_of (seeing seen g) n node (NodeInv-seeing g n node seen (let k = (h.unjoined fresh).0 in omega arith) h)

joins_holds : (s : Scene) (w : World) (r : Register) (n : ℕ) (g : Ghost) → WorldInv s w r g → Leads s r g (joins s w n)
joins_holds s w r n g h = cond_both (is_among n s.members && not (w.joined n)) _ _ (Leads s r g)
    (λ t. (
      (seeing seen g).register,
      seeing seen g,
      ((seeing seen g).register, ap (joined_by n) h.register, refl),
      record {
        frames = h.frames;
        register = refl;
        all = h.all;
        nodes = λ j. cond_both (nat_eq j n) true (w.joined j) (λ (b : Bool). NodeInv (seeing seen g) j (node_at s j b (w.nodes j)))
            (λ t'. (let e = eqb-true j n t' in subst (λ x. NodeInv (seeing seen g) x (node_at s x true (w.nodes x))) (sym e) (joins_now t)))
            (λ f. NodeInv-seeing g j (nodes_at s w j) seen (let k = (h.nodes j).seen in let c = changed_other n j (length g.register.birth) g.register.seen (eqb-false j n f) in omega arith) (h.nodes j));
        master = record { entry = h.master.entry; queue = h.master.queue; vacuum = h.master.vacuum };
        outside = h.outside;
        senders = h.senders;
      },
      goes_joined n (span_of g),
    ))
    (λ _. (r, g, refl, h, goes_stays (span_of g)))
  where
    seen : ℕ → ℕ
    seen = changed_seen n (length g.register.birth) g.register.seen

    joins_now : (is_among n s.members && not (w.joined n)) ≡ true → NodeInv (seeing seen g) n (node_at s n true (w.nodes n))
    joins_now t = subst (λ (b : Bool). NodeInv (seeing seen g) n (record (nodes_at s w n) { fresh = b })) (sym (not_fresh (is_among n s.members) true refl)) (says_seen g seen n (nodes_at s w n) t (changed_same n (length g.register.birth) g.register.seen) (h.nodes n))

comes_holds : (s : Scene) (w : World) (r : Register) (g : Ghost) (found : Option Mail) → list_all is_node s.members ≡ true → ((m : Mail) → found ≡ Some m → Sent (frame_of m) (frames_of w.mail)) → WorldInv s w r g → Leads s r g (comes s w found)
comes_holds s w r g None real there h = (r, g, refl, h, goes_stays (span_of g))
comes_holds s w r g (Some m) real there h =
    let f = there m refl in
    let f' : Sent (frame_of m) g.frames = subst (λ l. Sent (frame_of m) l) (sym h.frames) f in
    let n = m.receiver in
    let asks = waiting_call (w.nodes m.receiver).state.wish in
    put_holds s w r m.receiver asks g _ h (λ member joined. arrive_holds (place s m.receiver (w.nodes m.receiver)) asks (member_real m.receiver s.members member real) s.rules (peers s s.lmaster) (nodes_at s w) (frames_of w.mail) (started r g) m.sender m.msg g (starts (w.nodes m.receiver))
    (member_real m.sender s.members (h.senders (frame_of m) f) real) (λ v e. waiting_is (w.nodes m.receiver).state.wish v e) (λ e. apart s w r m.receiver g h e) f'
    ((h.nodes m.receiver).frames (frame_of m) f', (λ k ne. (h.nodes k).frames (frame_of m) f')) (unremoved s w n asks) (begin_holds s w r m.receiver asks g joined h))

pub step_holds : (s : Scene) (w : World) (r : Register) (g : Ghost) (e : Event) → list_all is_node s.members ≡ true → WorldInv s w r g → Leads s r g (happens s w e)
unfolding Rounds.want_again
step_holds s w r g (Wants n call asked) real h = cond_both (may_want (w.nodes n).state asked) _ _ (Leads s r g)
    (λ t. (let p = may_parts (w.nodes n).state asked t in put_holds s w r n (own_call call asked) g _ h (λ member joined. wants_holds (place s n (w.nodes n)) (own_call call asked) (member_real n s.members member real) s.rules (peers s s.lmaster) (nodes_at s w) (frames_of w.mail) (started r g) call asked g (starts (w.nodes n))
    (own_self call asked) (none_none _ p.0) (λ e. none_unlocked _ (p.1 e)) (unremoved s w n (own_call call asked)) (begin_holds s w r n (own_call call asked) g joined h))))
    (λ _. (r, g, refl, h, goes_stays (span_of g)))
step_holds s w r g (Stores n call v) real h = cond_both (is_some (w.nodes n).state.locked) _ _ (Leads s r g)
    (λ t. (let asks = own_call call (op.Store s.db s.key v) in put_holds s w r n asks g _ h (λ member joined. stores_holds (place s n (w.nodes n)) asks (member_real n s.members member real) s.rules (peers s s.lmaster) (nodes_at s w) (frames_of w.mail) (started r g) call v g (starts (w.nodes n)) (own_self call (op.Store s.db s.key v)) t (begin_holds s w r n asks g joined h))))
    (λ _. (r, g, refl, h, goes_stays (span_of g)))
step_holds s w r g (Unlocks n call) real h = cond_both (is_some (w.nodes n).state.locked) _ _ (Leads s r g)
    (λ t. (let asks = own_call call (op.Unlock s.db s.key) in put_holds s w r n asks g _ h (λ member joined. unlocks_holds (place s n (w.nodes n)) asks (member_real n s.members member real) s.rules (peers s s.lmaster) (nodes_at s w) (frames_of w.mail) (started r g) call g (starts (w.nodes n)) (own_self call (op.Unlock s.db s.key)) t (begin_holds s w r n asks g joined h))))
    (λ _. (r, g, refl, h, goes_stays (span_of g)))
step_holds s w r g (Releases n call) real h = cond_both (is_some (w.nodes n).state.locked) _ _ (Leads s r g)
    (λ t. (let asks = own_call call (op.Unlock s.db s.key) in put_holds s w r n asks g _ h (λ member joined. releases_holds (place s n (w.nodes n)) asks (member_real n s.members member real) s.rules (peers s s.lmaster) (nodes_at s w) (frames_of w.mail) (started r g) call g (starts (w.nodes n)) (own_self call (op.Unlock s.db s.key)) t (begin_holds s w r n asks g joined h))))
    (λ _. (r, g, refl, h, goes_stays (span_of g)))
step_holds s w r g (Comes which) real h = comes_holds s w r g (slice_get w.mail which) real (λ m e. sent_at which w.mail m e) h
step_holds s w r g (Vacuums n) real h = (let asks = waiting_call (w.nodes n).state.wish in put_holds s w r n asks g _ h (λ member joined. vacuums_holds (place s n (w.nodes n)) asks (member_real n s.members member real) s.rules (peers s s.lmaster) (nodes_at s w) (frames_of w.mail) (started r g) (peers s n) g (starts (w.nodes n))
    (peers_not s.lmaster s.members) (λ e. ap (peers s) e) (λ e. apart s w r n g h e) (begin_holds s w r n asks g joined h)))
step_holds s w r g (Resends n) real h = (let asks = waiting_call (w.nodes n).state.wish in put_holds s w r n asks g _ h (λ member joined. resends_holds (place s n (w.nodes n)) asks (member_real n s.members member real) s.rules (peers s s.lmaster) (nodes_at s w) (frames_of w.mail) (started r g) g (starts (w.nodes n)) (begin_holds s w r n asks g joined h)))
step_holds s w r g (Thaws n) real h = (let asks = waiting_call (w.nodes n).state.wish in put_holds s w r n asks g _ h (λ member joined. thaws_holds (place s n (w.nodes n)) asks (member_real n s.members member real) s.rules (peers s s.lmaster) (nodes_at s w) (frames_of w.mail) (started r g) g (starts (w.nodes n)) (w.nodes n).state.wish refl (λ v e. waiting_is (w.nodes n).state.wish v e) (unremoved s w n asks) (begin_holds s w r n asks g joined h)))
step_holds s w r g (Ends n) real h = steps_holds s w r n (is_some (w.nodes n).state.locked) _ (unlocked (w.nodes n)) [] g h (λ f x. no_mail n f x) (λ _ joined locked. ends_world s w r n g joined locked h)
step_holds s w r g (Leaves n) real h = steps_holds s w r n true _ (unlocked (w.nodes n)) [] g h (λ f x. no_mail n f x) (λ _ joined _. leaves_world s w r n g joined h)
step_holds s w r g (Joins n) real h = joins_holds s w r n g h
step_holds s w r g (Rises n next floor) real h = (let asks = waiting_call (w.nodes n).state.wish in put_holds s w r n asks g (Moves.begins (w.nodes n).state (Messages.greater (w.nodes n).next next) (Messages.greater (w.nodes n).floor floor)) h (λ member joined. rises_holds (place s n (w.nodes n)) asks (member_real n s.members member real) s.rules (peers s s.lmaster) (nodes_at s w) (frames_of w.mail) (started r g) next floor g (starts (w.nodes n)) (begin_holds s w r n asks g joined h)))

pub run_holds : (s : Scene) (events : List Event) (w : World) (r : Register) (g : Ghost) → list_all is_node s.members ≡ true → WorldInv s w r g → (t : Register) × (g' : Ghost) × AcceptsAll s.rules r (trace s w events) t × WorldInv s (last s w events) t g' × RunsOn (is_removed (trace s w events)) (span_of g) (span_of g')
run_holds s [] w r g real h = (r, g, refl, h, runs_none (span_of g))
run_holds s (e ∷ es) w r g real h =
    let x = step_holds s w r g e real h in
    let k = run_holds s es (happens s w e).world x.0 x.1 real x.3 in
    (k.0, k.1, accepts_append s.rules r x.0 k.0 (happens s w e).labels (trace s (happens s w e).world es) x.2 k.2, k.3, runs_then (happens s w e).labels (trace s (happens s w e).world es) (span_of g) (span_of x.1) (span_of k.1) x.4 k.4)
