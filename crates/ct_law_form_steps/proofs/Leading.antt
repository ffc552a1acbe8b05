-- What a node leads stays in form: the begin of a round, and the acknowledgements of members.
use Rattle.std.proofs.Common.{◌≡◌, ℕ, ◌<◌, ◌^◌, Bool, true, false, ◌&&◌, List, [], ◌∷◌, refl, sym, ◌∙◌, subst, arith}
use Rattle.std.proofs.lemmas.Bool.{and_parts, cond_both, eqb-true, ltb-true}
use Rattle.std.specs.Prelude.{nat_eq, nat_lt}
use Rattle.std.specs.List.{list_all}
use Rattle.ct_values.specs.Words.{others}
use Rattle.ct_values.specs.declared.config.Config.{Config}
use Rattle.ct_frame.specs.Fields.{ascends, is_from_one}
use Rattle.ct_frame.specs.declared.frame.Msg.TheVariants as msg
use Rattle.ct_merge.specs.Gathered.{nothing}
use Rattle.ct_merge.proofs.Ordered.{no_items}
use Rattle.ct_rules_node.specs.Node.{Lead, Nothing, Freezes, Pulls, Installs, Completed, is_among}
use Rattle.ct_rules_node.specs.Rounds.{all_frozen, begin_round, on_freezeack}
use Rattle.ct_rules_node.specs.Turn.{Turn, makes, posts_all, with_lead}
use Rattle.ct_law_rules_node.proofs.Events.{others_all}
use Rattle.ct_law_form.specs.Whole.{RoundInForm, LeadInForm, GatheredInForm, TurnInForm, is_node_of}
use Rattle.ct_law_form.proofs.Lists.{each_among, members_are_nodes, self_among}
use Rattle.ct_law_form.proofs.Putting.{from_one_is}
use Rattle.ct_law_form.proofs.Turns.{made, makes_in_form, posts_all_in_form, with_lead_in_form}
use Rattle.ct_law_form.proofs.Commits.{posts_all_spent}

-- ---- rounds that are led

-- those of the members that are missing are nodes of the configuration
pub missing_configured : (c : Config) (me g : ℕ) (members missing : List ℕ) → RoundInForm c me g members missing → list_all (is_node_of c) missing ≡ true
missing_configured c me g members missing h = each_among (is_node_of c) missing members h.configured h.missing_are

-- with other nodes missing
pub led_with : (c : Config) (me g : ℕ) (members missing others : List ℕ) → RoundInForm c me g members missing → list_all (λ m. is_among m members) others ≡ true → RoundInForm c me g members others
led_with c me g members missing others h all = record { number = h.number; members_are = h.members_are; configured = h.configured; own = h.own; missing_are = all }

-- once more all members
pub led_all : (c : Config) (me g : ℕ) (members missing : List ℕ) → RoundInForm c me g members missing → RoundInForm c me g members members
led_all c me g members missing h = led_with c me g members missing members h (self_among members)

-- the round of the same number
pub led_as : (c : Config) (me j g : ℕ) (members missing : List ℕ) → nat_eq j g ≡ true → RoundInForm c me j members missing → RoundInForm c me g members missing
led_as c me j g members missing e h = subst (λ (n : ℕ). RoundInForm c me n members missing) (eqb-true j g e) h

-- all but one are missing still
pub led_others : (c : Config) (me g n : ℕ) (members missing : List ℕ) → RoundInForm c me g members missing → RoundInForm c me g members (others n missing)
led_others c me g n members missing h = led_with c me g members missing (others n missing) h (others_all (λ m. is_among m members) n missing h.missing_are)

pub same_round : (j g : ℕ) (b : Bool) → (nat_eq j g && b) ≡ true → (nat_eq j g ≡ true) × (b ≡ true)
same_round j g b e = and_parts (nat_eq j g) b e

-- ---- the begin of a round

above : (p g : ℕ) → nat_lt p g ≡ true → g < 2 ^ 62 → is_from_one g ≡ true
above p g t l = (let k = ltb-true p g t in from_one_is g (omega arith) l)

begun_spent : (g me : ℕ) (ns members : List ℕ) (l : Lead) (n : ℕ) (t : Turn) → (posts_all g me ns (msg.Freeze members) (with_lead l (makes n t))).spent ≡ (makes n t).spent
unfolding with_lead
begun_spent g me ns members l n t = posts_all_spent g me ns (msg.Freeze members) _

pub begin_in_form : (c : Config) (me g : ℕ) (members : List ℕ) (t : Turn) → ascends nat_lt members ≡ true → list_all (is_node_of c) members ≡ true → is_among me members ≡ true → TurnInForm c me t → (begin_round me g members t).spent ≡ false → TurnInForm c me (begin_round me g members t)
unfolding begin_round LeadInForm
begin_in_form c me g members t up all own h unspent = cond_both (nat_lt t.node.promise g) _ _ (λ (u : Turn). u.spent ≡ false → TurnInForm c me u)
    (λ p e. (let l = (made g t (sym (begun_spent g me members members (Freezes g members members) g t) ∙ e)).1 in
    let nodes = members_are_nodes c me members h.node.limits up all own in
    posts_all_in_form c me g members (msg.Freeze members) _ (above t.node.promise g p l) all nodes
    (with_lead_in_form c me (Freezes g members members) _ (record { number = above t.node.promise g p l; members_are = nodes; configured = all; own = own; missing_are = self_among members }) (makes_in_form c me g t h))))
    (λ _ e. h) unspent

-- ---- FreezeAck

nothing_pushed : (members : List ℕ) → GatheredInForm members nothing
nothing_pushed members = record { in_order = (no_items _, no_items _, no_items _, no_items _); rows_are = refl; ptables_are = refl; addresses_are = refl }

all_frozen_in_form : (c : Config) (me g : ℕ) (members : List ℕ) (t : Turn) (ns : List ℕ) → RoundInForm c me g members ns → TurnInForm c me t → TurnInForm c me (all_frozen me g members t ns)
unfolding all_frozen LeadInForm
all_frozen_in_form c me g members t [] l h =
    posts_all_in_form c me g members msg.Pull _ l.number l.configured refl (with_lead_in_form c me (Pulls g members members nothing) t (led_all c me g members [] l, nothing_pushed members) h)
all_frozen_in_form c me g members t (n ∷ ns) l h = with_lead_in_form c me (Freezes g members (n ∷ ns)) t l h

pub freezeack_in_form : (c : Config) (me n g : ℕ) (t : Turn) (l : Lead) → LeadInForm c me l → TurnInForm c me t → TurnInForm c me (on_freezeack me n g t l)
unfolding on_freezeack LeadInForm
freezeack_in_form c me n g t (Freezes j members missing) l h = cond_both (nat_eq j g && is_among n missing) _ _ (TurnInForm c me)
    (λ e. all_frozen_in_form c me g members t _ (led_others c me g n members missing (led_as c me j g members missing (same_round j g _ e).0 l)) h) (λ _. h)
freezeack_in_form c me n g t Nothing l h = h
freezeack_in_form c me n g t (Pulls j members missing x) l h = h
freezeack_in_form c me n g t (Installs j members missing b) l h = h
freezeack_in_form c me n g t (Completed j members x) l h = h
