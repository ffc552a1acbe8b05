-- What the form of a node gives to the parts of its rule.
use Rattle.std.proofs.Common.{◌≡◌, ◌≢◌, ◌∙◌, ℕ, ◌<◌, ◌≤◌, ◌^◌, List, [], sym, ap, arith, length}
use Rattle.std.proofs.lemmas.Bool.{ltb-true}
use Rattle.std.proofs.lemmas.List.{length-map}
use Rattle.std.specs.List.Sorted.{IsStrictlySortedBy}
use Rattle.ct_values.specs.declared.address.Address.{Address}
use Rattle.ct_values.specs.declared.config.Config.{Config}
use Rattle.ct_frame.specs.Header.{nobody}
use Rattle.ct_frame.specs.declared.frame.Assigned.{Assigned}
use Rattle.ct_lcp2.specs.Placing.{Ascend}
use Rattle.ct_lead.specs.Runs.{led_takeover}
use Rattle.ct_rules.specs.State.{rsn_of}
use Rattle.ct_law_rules_node.specs.NodeLaws.{NodeAscends}
use Rattle.ct_rules_node.specs.Node.{Completed, Freezes, Installs, Lead, Node, Nothing, Pulls, state_at}
use Rattle.ct_law_form.specs.Whole.{HasLimits, LeadInForm, NodeInForm, PlacementInForm, is_node_of}
use Rattle.ct_law_form_steps.proofs.Takeovers.{placement_ascends}

-- ---- databases and records

pub has_dbs : (c : Config) (me : ℕ) (n : Node) → NodeInForm c me n → length n.dbs ≡ length c.dbs
has_dbs c me n h = h.dbs

pub few_dbs : (c : Config) (me : ℕ) (n : Node) → NodeInForm c me n → length n.dbs < 2 ^ 32
few_dbs c me n h = let e = h.dbs in let l = h.limits.dbs in omega arith

pub in_order : (c : Config) (me : ℕ) (n : Node) → NodeInForm c me n → NodeAscends n
in_order c me n h = h.order

pub next_limit : (c : Config) (me : ℕ) (n : Node) → NodeInForm c me n → n.next < 2 ^ 62
next_limit c me n h = (h.formed 0 []).form.counters.next_limit

pub rsn_limits : (c : Config) (me : ℕ) (n : Node) → NodeInForm c me n → (db : ℕ) (key : List ℕ) → rsn_of (state_at db key n).copy < 2 ^ 62
rsn_limits c me n h db key = (h.formed db key).form.numbers.copy_limit

pub somebody : (c : Config) (me : ℕ) (n : Node) → NodeInForm c me n → me ≢ nobody
unfolding is_node_of
somebody c me n h e = let l = ltb-true me c.nodes h.own in let m = h.limits.nodes in absurd (omega arith)

-- ---- what is led

placement_few : (c : Config) (xs : List Assigned) → HasLimits c → PlacementInForm c xs → length xs ≤ 256
placement_few c xs l p =
    let e : length xs ≡ length c.addresses = sym (length-map xs (λ x. x.address)) ∙ ap (λ (as' : List Address). length as') p.addresses_are in
    let f = l.few_addresses in omega arith

led_ascends : (c : Config) (me : ℕ) (l : Lead) → HasLimits c → LeadInForm c me l → Ascend (led_takeover l).made
unfolding LeadInForm IsStrictlySortedBy
led_ascends c me Nothing h f = tt
led_ascends c me (Freezes g members missing) h f = tt
led_ascends c me (Pulls g members missing x) h f = tt
led_ascends c me (Installs g members missing b) h f = tt
led_ascends c me (Completed g members x) h f = placement_ascends c x.made h.addresses f.1.made

led_few : (c : Config) (me : ℕ) (l : Lead) → HasLimits c → LeadInForm c me l → length (led_takeover l).made ≤ 256
unfolding LeadInForm
led_few c me Nothing h f = omega arith
led_few c me (Freezes g members missing) h f = omega arith
led_few c me (Pulls g members missing x) h f = omega arith
led_few c me (Installs g members missing b) h f = omega arith
led_few c me (Completed g members x) h f = placement_few c x.made h f.1.made

pub made_ascends : (c : Config) (me : ℕ) (n : Node) → NodeInForm c me n → Ascend (led_takeover n.lead).made
made_ascends c me n h = led_ascends c me n.lead h.limits h.lead

pub made_few : (c : Config) (me : ℕ) (n : Node) → NodeInForm c me n → length (led_takeover n.lead).made ≤ 256
made_few c me n h = led_few c me n.lead h.limits h.lead
