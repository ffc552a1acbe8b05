-- At the opening nothing is marked, and no call waits.
use Rattle.std.proofs.Common.{◌≡◌, ℕ, zero, suc, ◌+◌, List, [], ◌∷◌, ◌++◌, refl, sym, ap, ◌∙◌, subst, eqb-true}
use Rattle.std.specs.Prelude.{replicate, Some, true, nat_eq}
use Rattle.std.specs.List.{AllByRecursion, range_with_len}
use Rattle.ct_values.specs.declared.config.Config.{Config}
use Rattle.ct_values.specs.declared.config.DbDecl.{DbDecl}
use Rattle.ct_rules.specs.declared.state.Entry.{Entry}
use Rattle.ct_rules.specs.declared.state.RecState.{RecState}
use Rattle.ct_rules_node.specs.Node as node
use Rattle.ct_rules_node.specs.Node.{Node, untouched, untouched_all}
use Rattle.ct_rules_node.specs.Numbered.{by_number}
use Rattle.ct_rules_cluster.specs.Cluster.{everyone, numbers, opening, is_up, node_at, wished_in, committing, pending_in, pending_from, pending}
use Rattle.ct_rules_cluster.specs.Traces.{asked_in}
use Rattle.ct_rules_cluster.specs.declared.step.PendingCall.{PendingCall}
use Rattle.ct_register.specs.Lines
use Rattle.ct_register.specs.Marks
use Rattle.ct_register.proofs.Opened.{opened_state, no_copy, opened_below, opened_up}
use Rattle.ct_register.proofs.Places.{at_same}
use Rattle.ct_register.proofs.Small.{none_not_some}
use Rattle.ct_promise.specs.Laws.{OpeningIsMarked}
use Rattle.ct_promise.specs.Marked.{HasEntry}
use Rattle.ct_promise.specs.Promises.{CallsStand}

-- line 1 has all nodes as members
range_numbers : (i k : ℕ) → range_with_len i k ≡ numbers i k
unfolding numbers
range_numbers i zero = refl
range_numbers i (suc k) = ap (λ (ns : List ℕ). i ∷ ns) (range_numbers (i + 1) k)

pub everyone_is : (c : Config) → (Lines.opening c).members 1 ≡ everyone c
unfolding everyone
everyone_is c = at_same 1 1 (range_with_len 0 c.nodes) _ refl ∙ range_numbers 0 c.nodes

-- it is the one in which they are present
opened_in : (c : Config) (g : ℕ) (members : List ℕ) → node.is_present_in g (node.opening c members) ≡ true → g ≡ 1
unfolding node.is_present_in node.is_present node.opening
opened_in c g members e = sym (eqb-true 1 g e)

opened_members : (c : Config) (members : List ℕ) → (node.opening c members).members ≡ members
unfolding node.opening
opened_members c members = refl

opened_named : (c : Config) (g n : ℕ) → is_up n (opening c) ≡ true → node.is_present_in g (node_at n (opening c)) ≡ true → ((Lines.opening c).born g ≡ true) × ((node_at n (opening c)).members ≡ (Lines.opening c).members g)
opened_named c g n up present =
    let x = opened_below c n (opened_up c n up) in
    let one = opened_in c g (everyone c) (subst (λ (y : Node). node.is_present_in g y ≡ true) x present) in
    (ap (λ k. nat_eq k 1) one, ap (λ (y : Node). y.members) x ∙ opened_members c (everyone c) ∙ sym (everyone_is c) ∙ ap (Lines.opening c).members (sym one))

no_entry : (c : Config) (n db : ℕ) (key : List ℕ) (e : Entry) → HasEntry (opening c) n db key e → ⊥
no_entry c n db key e has = none_not_some (sym (ap (λ (s : RecState). s.entry) (opened_state c n db key)) ∙ has)

pub opening_is_marked : OpeningIsMarked
unfolding Marks.Rises Marks.EndsAt Marks.AreBelow Marks.IsSiteOf
opening_is_marked config g = record {
  marked = λ db key born. record { rise = tt; ends = refl; below = tt; sited = refl };
  copies = λ n db key c present has. absurd (no_copy config n db key c has);
  entries = λ n db key e present has. absurd (no_entry config n db key e has);
  sites = λ n db key e present has. absurd (no_entry config n db key e has);
  alone = λ n db key e present has. absurd (no_entry config n db key e has);
  empty = λ n db key present is none. refl;
  found = λ db key x is present. absurd (none_not_some is);
  away = λ db key x born is out. absurd (none_not_some is);
  named = λ n up present. opened_named config g n up present;
}

-- ---- calls

untouched_waits : (n i : ℕ) (xs : List DbDecl) → pending_in n i (untouched_all xs) ≡ []
unfolding pending_in untouched_all untouched wished_in committing
untouched_waits n i [] = refl
untouched_waits n i (x ∷ xs) = untouched_waits n (i + 1) xs

all_wait : (x : Node) → ((n : ℕ) → pending_in n 0 x.dbs ≡ []) → (i k : ℕ) → pending_from i (replicate k x) ≡ []
unfolding pending_from
all_wait x none i zero = refl
all_wait x none i (suc k) = ap (λ (l : List PendingCall). l ++ pending_from (i + 1) (replicate k x)) (none i) ∙ all_wait x none (i + 1) k

none_waits : (c : Config) → pending (opening c) ≡ []
unfolding pending opening node.opening by_number
none_waits c = ap (by_number (λ (x : PendingCall). x.call)) (all_wait (node.opening c (everyone c)) (λ n. untouched_waits n 0 c.dbs) 0 c.nodes)

-- at the opening no call waits, and none is open
pub opening_calls : (c : Config) → CallsStand (opening c) []
unfolding asked_in
opening_calls c = record { waiting = subst (λ (xs : List PendingCall). AllByRecursion (λ x. asked_in x.call [] ≡ Some (x.node, x.op)) xs) (sym (none_waits c)) tt; kept = λ call n asked e. absurd (none_not_some e) }
