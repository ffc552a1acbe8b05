-- What a leader gathers may be pushed, and is pushed so that it keeps the rules of its fields.
use Rattle.std.proofs.Common.{◌≡◌, ℕ, Bool, true, false, cond, ◌&&◌, ◌==◌, List, [], ◌∷◌, map, Option, Some, None, refl, sym, ◌∙◌, ap, subst}
use Rattle.std.proofs.lemmas.Bool.{and_from, and_parts, cond_both, eqb-true}
use Rattle.std.specs.Prelude.{nat_eq, nat_lt}
use Rattle.std.specs.List.{list_all}
use Rattle.std.specs.List.Sorted.{IsStrictlySortedBy}
use Rattle.std.specs.Ordering.{match_ordering, nat_cmp}
use Rattle.std.specs.Cmp.{nat_cmp_total}
use Rattle.std.specs.declared.cmp.Ordering.{Ordering}
use Rattle.std.specs.declared.cmp.Ordering.TheVariants.{Less, Equal, Greater}
use Rattle.ct_values.specs.declared.address.Address.{Address}
use Rattle.ct_values.specs.declared.config.Config.{Config}
use Rattle.ct_frame.specs.Fields.{are_addresses, are_assigned, are_nodes, are_ptables, are_rows, ascends, assigned_before, is_assigned, is_below_limit, is_db, is_member, is_message, is_node, is_own_or_none, is_ptable, is_row, ptable_before, row_before}
use Rattle.ct_frame.specs.declared.event.Note.TheVariants as note
use Rattle.ct_frame.specs.declared.frame.Msg.TheVariants as msg
use Rattle.ct_frame.specs.declared.frame.PTable.{PTable}
use Rattle.ct_frame.specs.declared.frame.TableRow.{TableRow}
use Rattle.ct_frame.specs.declared.round.Pull.{Pull}
use Rattle.ct_merge.specs.Gathered.{Gathered, assigned_to, finished, gathered, joined}
use Rattle.ct_merge.specs.Held.{address_order, address_rank, addresses_of, held_addresses, held_rows, is_in_order, ptable_order, ptable_rank, ptables_of, row_order, row_rank, rows_of}
use Rattle.ct_merge.specs.Orders.{address_order_total, ptable_order_total, row_order_total}
use Rattle.ct_merge.specs.Placing.{all_inserted, better, inserted}
use Rattle.ct_merge.specs.declared.held.HeldAddress.{HeldAddress}
use Rattle.ct_merge.specs.declared.held.HeldPTable.{HeldPTable}
use Rattle.ct_merge.specs.declared.held.HeldRow.{HeldRow}
use Rattle.ct_merge.proofs.Ordered.{assigned_is, chained, joined_ascends, ptable_is, ptables_ascend, row_is, rows_ascend}
use Rattle.ct_merge.proofs.Places.{all_inserted_ascends, better_is, inserted_ascends}
use Rattle.ct_rules_node.specs.Node.{Lead, Nothing, Freezes, Pulls, Installs, Completed, is_among}
use Rattle.ct_rules_node.specs.Rounds.{all_pulled, body_of, mastered, on_pullreply, or_leader, push_of, pushes}
use Rattle.ct_rules_node.specs.Turn.{Turn}
use Rattle.ct_law_form.specs.Whole.{RoundInForm, LeadInForm, GatheredInForm, TurnInForm, is_held_by_node, is_held_ptable, is_member_or_none, is_row_of}
use Rattle.ct_law_form.proofs.Lists.{among_all}
use Rattle.ct_law_form.proofs.Turns.{notes_in_form, posts_all_in_form, with_lead_in_form}
use Rattle.ct_law_form_steps.proofs.Leading.{led_all, led_as, led_others, same_round}

-- ---- one more pull

module _ {X : Type 0} (order rank : X → X → Ordering) (p : X → Bool) where
  if_all : (b : Bool) (xs ys : List X) → list_all p xs ≡ true → list_all p ys ≡ true → list_all p (cond b xs ys) ≡ true
  if_all true xs ys h k = h
  if_all false xs ys h k = k

  inserted_all : (x : X) (ys : List X) → p x ≡ true → list_all p ys ≡ true → list_all p (inserted order rank x ys) ≡ true
  inserted_all x [] e all = and_from _ _ e refl
  inserted_all x (y ∷ ys) e all =
      let a = and_parts (p y) (list_all p ys) all in
      elim (order x y) as (λ r. list_all p (match_ordering r (x ∷ y ∷ ys) (better rank x y ∷ ys) (y ∷ inserted order rank x ys)) ≡ true) [
        | Less ↦ and_from _ _ e all
        | Equal ↦ and_from _ _ (better_is rank (λ (z : X). p z ≡ true) x y e a.0) a.1
        | Greater ↦ and_from _ _ a.0 (inserted_all x ys e a.1)
      ]

  all_inserted_all : (xs ys : List X) → list_all p xs ≡ true → list_all p ys ≡ true → list_all p (all_inserted order rank xs ys) ≡ true
  all_inserted_all [] ys e all = all
  all_inserted_all (x ∷ xs) ys e all = (let a = and_parts (p x) (list_all p xs) e in all_inserted_all xs (inserted order rank x ys) a.1 (inserted_all x ys a.0 all))

  joined_all : (base : ℕ) (items : List X) (new : ℕ) (more : List X) → list_all p items ≡ true → list_all p more ≡ true → list_all p (joined order rank base items new more) ≡ true
  joined_all base items new more h k = if_all (nat_lt base new) more _ k (if_all (nat_lt new base) items _ h (all_inserted_all more items k h))

mapped_all : {X Y : Type 0} (f : X → Y) (p : X → Bool) (q : Y → Bool) → ((x : X) → p x ≡ true → q (f x) ≡ true) → (xs : List X) → list_all p xs ≡ true → list_all q (map f xs) ≡ true
mapped_all f p q h [] all = refl
mapped_all f p q h (x ∷ xs) all = (let a = and_parts (p x) (list_all p xs) all in and_from _ _ (h x a.0) (mapped_all f p q h xs a.1))

-- what a member tells, in its parts
record IsTold (pull : Pull) : Type 0 where
  rows : list_all (is_row (is_own_or_none pull.node)) pull.table ≡ true
  ptables : list_all is_ptable pull.ptables ≡ true
  in_order : is_in_order pull ≡ true

told : (pull : Pull) → is_message pull.node (msg.PullReply pull.vbase pull.pbase pull.table pull.ptables pull.addresses) ≡ true → IsTold pull
told pull e =
    let a = and_parts (is_below_limit pull.vbase && is_below_limit pull.pbase && are_rows (is_own_or_none pull.node) pull.table && are_ptables pull.ptables) (are_addresses pull.addresses) e in
    let b = and_parts (is_below_limit pull.vbase && is_below_limit pull.pbase && are_rows (is_own_or_none pull.node) pull.table) (are_ptables pull.ptables) a.0 in
    let d = and_parts (is_below_limit pull.vbase && is_below_limit pull.pbase) (are_rows (is_own_or_none pull.node) pull.table) b.0 in
    let rows = and_parts (list_all (is_row (is_own_or_none pull.node)) pull.table) (ascends row_before pull.table) d.1 in
    let ptables = and_parts (list_all is_ptable pull.ptables) (ascends ptable_before pull.ptables) b.1 in
    record { rows = rows.0; ptables = ptables.0; in_order = and_from _ _ (and_from _ _ rows.1 ptables.1) a.1 }

own_member : (members : List ℕ) (n : ℕ) (m : Option ℕ) → is_among n members ≡ true → is_own_or_none n m ≡ true → is_member_or_none members m ≡ true
unfolding is_member_or_none
own_member members n None among e = refl
own_member members n (Some m) among e = subst (λ (x : ℕ). is_among x members ≡ true) (sym (eqb-true m n e)) among

row_told : (members : List ℕ) (n : ℕ) (row : TableRow) → is_among n members ≡ true → is_row (is_own_or_none n) row ≡ true → is_row_of members (record { node = n; row = row }) ≡ true
unfolding is_row_of
row_told members n row among e =
    let p = and_parts (is_db row.db && is_below_limit row.rsn) (is_own_or_none n row.master) e in and_from _ _ p.0 (own_member members n row.master among p.1)

rows_told : (members : List ℕ) (pull : Pull) → is_among pull.node members ≡ true → list_all (is_row (is_own_or_none pull.node)) pull.table ≡ true → list_all (is_row_of members) (rows_of pull) ≡ true
rows_told members pull among all =
    let k = mapped_all (λ (row : TableRow). record { node = pull.node; row = row }) (is_row (is_own_or_none pull.node)) (is_row_of members) (λ row e. row_told members pull.node row among e) pull.table all in
    if_rows (pull.vbase == 0) k
  where
    if_rows : (b : Bool) → list_all (is_row_of members) (held_rows pull.node pull.table) ≡ true → list_all (is_row_of members) (cond b [] (held_rows pull.node pull.table)) ≡ true
    if_rows true k = refl
    if_rows false k = k

ptables_told : (pull : Pull) → list_all is_ptable pull.ptables ≡ true → list_all is_held_ptable (ptables_of pull) ≡ true
unfolding is_held_ptable
ptables_told pull all = mapped_all (λ (t : PTable). record { node = pull.node; ptable = t }) is_ptable is_held_ptable (λ t e. e) pull.ptables all

addresses_told : (n : ℕ) (as' : List Address) → is_node n ≡ true → list_all is_held_by_node (held_addresses n as') ≡ true
unfolding is_held_by_node
addresses_told n [] e = refl
addresses_told n (a ∷ as') e = and_from _ _ e (addresses_told n as' e)

gathered_in_form : (members : List ℕ) (pull : Pull) (x : Gathered) → list_all is_node members ≡ true → is_among pull.node members ≡ true → is_message pull.node (msg.PullReply pull.vbase pull.pbase pull.table pull.ptables pull.addresses) ≡ true → GatheredInForm members x → GatheredInForm members (gathered pull x)
gathered_in_form members pull x nodes among e h =
    let t = told pull e in
    record {
      in_order = (
        inserted_ascends nat_cmp nat_cmp nat_cmp_total pull.node x.nodes h.in_order.0,
        joined_ascends row_order row_rank row_order_total x.vbase x.rows pull.vbase (rows_of pull) h.in_order.1 (rows_ascend pull t.in_order),
        joined_ascends ptable_order ptable_rank ptable_order_total x.pbase x.ptables pull.pbase (ptables_of pull) h.in_order.2 (ptables_ascend pull t.in_order),
        all_inserted_ascends address_order address_rank address_order_total (addresses_of pull) x.addresses h.in_order.3,
      );
      rows_are = joined_all row_order row_rank (is_row_of members) x.vbase x.rows pull.vbase (rows_of pull) h.rows_are (rows_told members pull among t.rows);
      ptables_are = joined_all ptable_order ptable_rank is_held_ptable x.pbase x.ptables pull.pbase (ptables_of pull) h.ptables_are (ptables_told pull t.ptables);
      addresses_are = all_inserted_all address_order address_rank is_held_by_node (addresses_of pull) x.addresses (addresses_told pull.node pull.addresses (among_all is_node pull.node members nodes among)) h.addresses_are;
    }

-- ---- what is pushed

master_is : (me : ℕ) (members : List ℕ) (m : Option ℕ) → is_among me members ≡ true → is_member_or_none members m ≡ true → is_member members (or_leader me m) ≡ true
unfolding or_leader is_member_or_none is_among
master_is me members None own e = own
master_is me members (Some m) own e = e

row_pushed : (me : ℕ) (members : List ℕ) (h : HeldRow) → is_among me members ≡ true → is_row_of members h ≡ true → is_row (is_member members) (mastered me h.row) ≡ true
unfolding is_row_of mastered
row_pushed me members h own e = (let p = and_parts (is_db h.row.db && is_below_limit h.row.rsn) (is_member_or_none members h.row.master) e in and_from _ _ p.0 (master_is me members h.row.master own p.1))

twice : {X Y Z : Type 0} (f : Y → Z) (g : X → Y) (xs : List X) → map f (map g xs) ≡ map (λ x. f (g x)) xs
twice f g [] = refl
twice f g (x ∷ xs) = ap (λ l. f (g x) ∷ l) (twice f g xs)

mastered_before : (me : ℕ) (a b : HeldRow) → row_before (mastered me a.row) (mastered me b.row) ≡ row_before a.row b.row
unfolding mastered
mastered_before me a b = refl

rows_pushed : (me : ℕ) (members : List ℕ) (rows : List HeldRow) → is_among me members ≡ true → list_all (is_row_of members) rows ≡ true → IsStrictlySortedBy row_order rows → are_rows (is_member members) (map (mastered me) (map (λ h. h.row) rows)) ≡ true
rows_pushed me members rows own all up =
    subst (λ (l : List TableRow). are_rows (is_member members) l ≡ true) (sym (twice (mastered me) (λ (h : HeldRow). h.row) rows))
    (and_from (list_all (is_row (is_member members)) (map (λ h. mastered me h.row) rows)) _ (mapped_all (λ (h : HeldRow). mastered me h.row) (is_row_of members) (is_row (is_member members)) (λ h e. row_pushed me members h own e) rows all)
    (chained row_order row_before (λ (h : HeldRow). mastered me h.row) (λ a b. mastered_before me a b ∙ row_is a b) rows up))

ptables_pushed : (ts : List HeldPTable) → list_all is_held_ptable ts ≡ true → IsStrictlySortedBy ptable_order ts → are_ptables (map (λ h. h.ptable) ts) ≡ true
unfolding is_held_ptable
ptables_pushed ts all up = and_from (list_all is_ptable (map (λ h. h.ptable) ts)) _ (mapped_all (λ (h : HeldPTable). h.ptable) is_held_ptable is_ptable (λ h e. e) ts all) (chained ptable_order ptable_before (λ (h : HeldPTable). h.ptable) ptable_is ts up)

assigned_pushed : (hs : List HeldAddress) → list_all is_held_by_node hs ≡ true → IsStrictlySortedBy address_order hs → are_assigned (map assigned_to hs) ≡ true
unfolding is_held_by_node
assigned_pushed hs all up = and_from (list_all is_assigned (map assigned_to hs)) _ (mapped_all assigned_to is_held_by_node is_assigned (λ h e. e) hs all) (chained address_order assigned_before assigned_to assigned_is hs up)

push_sound : (c : Config) (me g : ℕ) (members missing : List ℕ) (x : Gathered) → RoundInForm c me g members missing → GatheredInForm members x → is_message me (push_of (body_of me members (finished x))) ≡ true
unfolding push_of body_of
push_sound c me g members missing x l h =
    and_from _ _ (and_from _ _ (and_from _ _ l.members_are (rows_pushed me members x.rows l.own h.rows_are h.in_order.1)) (ptables_pushed x.ptables h.ptables_are h.in_order.2)) (assigned_pushed x.addresses h.addresses_are h.in_order.3)

-- ---- the replies

all_pulled_in_form : (c : Config) (me g : ℕ) (members : List ℕ) (x : Gathered) (t : Turn) (ns : List ℕ) → RoundInForm c me g members ns → GatheredInForm members x → TurnInForm c me t → TurnInForm c me (all_pulled me g members x t ns)
unfolding all_pulled pushes LeadInForm
all_pulled_in_form c me g members x t [] l p h =
    let b = body_of me members (finished x) in let sound = push_sound c me g members [] x l p in
    posts_all_in_form c me g members (push_of b) _ l.number l.configured sound
    (notes_in_form c me (note.Round g members b.vparent b.pparent) _ (with_lead_in_form c me (Installs g members members b) t (led_all c me g members [] l, sound) h))
all_pulled_in_form c me g members x t (n ∷ ns) l p h = with_lead_in_form c me (Pulls g members (n ∷ ns) x) t (l, p) h

pub nodes_of : (members : List ℕ) → are_nodes members ≡ true → list_all is_node members ≡ true
nodes_of members e = (and_parts _ (list_all is_node members) (and_parts _ (ascends nat_lt members) e).0).1

pub pullreply_in_form : (c : Config) (me g : ℕ) (pull : Pull) (t : Turn) (l : Lead) → is_message pull.node (msg.PullReply pull.vbase pull.pbase pull.table pull.ptables pull.addresses) ≡ true → LeadInForm c me l → TurnInForm c me t → TurnInForm c me (on_pullreply me g pull t l)
unfolding on_pullreply LeadInForm
pullreply_in_form c me g pull t (Pulls j members missing x) sound l h = cond_both (nat_eq j g && is_among pull.node missing) _ _ (TurnInForm c me)
    (λ e. (let s = same_round j g _ e in let led = led_as c me j g members missing s.0 l.0 in
    let among = among_all (λ m. is_among m members) pull.node missing led.missing_are s.1 in
    all_pulled_in_form c me g members (gathered pull x) t _ (led_others c me g pull.node members missing led) (gathered_in_form members pull x (nodes_of members led.members_are) among sound l.1) h)) (λ _. h)
pullreply_in_form c me g pull t Nothing sound l h = h
pullreply_in_form c me g pull t (Freezes j members missing) sound l h = h
pullreply_in_form c me g pull t (Installs j members missing b) sound l h = h
pullreply_in_form c me g pull t (Completed j members x) sound l h = h
