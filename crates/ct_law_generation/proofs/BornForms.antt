-- Where a generation began with rows, what each member has of a record is in form.
use Rattle.std.proofs.Common.{◌≡◌, ℕ, ◌+◌, ◌<◌, ◌≤◌, ◌^◌, true, List, [], Option, Some, None, refl, sym, arith, subst}
use Rattle.std.specs.Prelude.{nat_eq}
use Rattle.std.proofs.lemmas.Bool.{cond_both}
use Rattle.ct_values.specs.declared.config.Config.{Config}
use Rattle.ct_frame.specs.declared.frame.TableRow.{TableRow}
use Rattle.ct_frame.specs.declared.header.RecCopy.{RecCopy}
use Rattle.ct_call.specs.Rules.{Rules}
use Rattle.ct_law_rules.specs.Form.{HasCounters, IsInForm, least_of, sent_for, wished_as, wishes_record, revoked_rsn, vacuumed_rsn}
use Rattle.ct_rules.specs.State.{nothing_kept, rsn_of, is_quiet}
use Rattle.ct_rules.specs.declared.event.Place.{Place}
use Rattle.ct_rules.specs.declared.state.Entry.{Entry}
use Rattle.ct_rules.specs.declared.state.RecState.{RecState}
use Rattle.ct_rules.specs.declared.state.Wish.{Wish}
use Rattle.ct_rules_node.specs.Node.{db_at, is_among, has_records, kind_at}
use Rattle.ct_rules_node.specs.Rounds.{copy_from, entry_from, row_master, installed_state}
use Rattle.ct_rules_cluster.specs.Cluster.{Cluster, node_at}
use Rattle.ct_promise.specs.Born.{Rows, IsLow, IsBornNode, IsBornWith, WishIsSound, born_state}
use Rattle.ct_law_record.specs.World.{Scene, View, place}
use Rattle.ct_law_generation.specs.Shown.{Era, scene, view}
use Rattle.ct_law_generation.proofs.Forming.{Is_formed}
use Rattle.ct_law_generation.proofs.BornWorlds.{numbers_in, wishes_in, by_test, seen_as, state_none, member_view}

-- ---- a state that an installation made

wish_wanting : (db : ℕ) (key : List ℕ) (next : ℕ) (o : Option Wish) → WishIsSound db key next o → wishes_record o ≡ true
unfolding WishIsSound wishes_record
wish_wanting db key next None h = refl
wish_wanting db key next (Some x) h = h.wanting

wish_low : (db : ℕ) (key : List ℕ) (next : ℕ) (o : Option Wish) → WishIsSound db key next o → next < 2 ^ 62 → wished_as o < 2 ^ 62
unfolding WishIsSound wished_as
wish_low db key next None h low = omega arith
wish_low db key next (Some x) h low = (let l = h.drawn in omega arith)

-- what a node keeps of a record where it has this copy and entry, and perhaps a call
abbrev kept_with : Option RecCopy → Option Entry → Option Wish → RecState
kept_with copy entry wish = record nothing_kept { copy = copy; entry = entry; wish = wish }

with_form : (at : Place) (next : ℕ) (copy : Option RecCopy) (entry : Option Entry) (wish : Option Wish) → sent_for entry ≡ 0 → wishes_record wish ≡ true → rsn_of copy < 2 ^ 62 → least_of entry < 2 ^ 62 → wished_as wish < 2 ^ 62 → HasCounters next at.floor →
    IsInForm at next (kept_with copy entry wish)
unfolding is_quiet revoked_rsn vacuumed_rsn
with_form at next copy entry wish unsent wants rsn least low counters = record {
  shape = record {
    sent_on = λ ne. absurd (ne unsent);
    queue_entry = λ e. absurd (cc);
    lock_held = λ e. absurd (cc);
    revocation_held = λ e. absurd (cc);
    lock_quiet = λ e. absurd (cc);
    revocation_tracked = λ e. absurd (cc);
    lock_unwished = λ e. absurd (cc);
    vacuum_home = λ e. absurd (cc);
    vacuum_queue = λ e. absurd (cc);
    vacuum_unlocked = λ e. absurd (cc);
    vacuum_unwished = λ e. absurd (cc);
    vacuum_quiet = λ e. absurd (cc);
    wish_wants = wants;
    queue_asked = refl;
    waiting_recalled = refl;
  };
  numbers = record {
    copy_limit = rsn;
    least_limit = least;
    request_limit = subst (λ (a : ℕ). a < 2 ^ 62) (sym unsent) (omega arith);
    revocation_limit = omega arith;
    vacuum_limit = omega arith;
    wish_limit = low;
  };
  counters = counters;
}

pub with_formed : (s : Scene) (n next : ℕ) (copy : Option RecCopy) (entry : Option Entry) (wish : Option Wish) → 1 ≤ next → next < 2 ^ 62 → sent_for entry ≡ 0 → wishes_record wish ≡ true → rsn_of copy < 2 ^ 62 → least_of entry < 2 ^ 62 → wished_as wish < 2 ^ 62 →
    Is_formed s n (record { state = kept_with copy entry wish; next = next; floor = 0 })
with_formed s n next copy entry wish some few unsent wants rsn least low = record {
  form = with_form (place s n (record { state = kept_with copy entry wish; next = next; floor = 0 })) next copy entry wish unsent wants rsn least low (record { from_one = some; next_limit = few; floor_limit = omega arith });
  tracks = record { tracked_held = λ e. absurd (cc); vacuum_untracked = λ e. refl };
  waits = refl;
}

copy_low : (n : ℕ) (x : TableRow) (m : ℕ) → x.rsn + 1 < 2 ^ 62 → rsn_of (Some (copy_from n x m)) < 2 ^ 62
unfolding rsn_of copy_from
copy_low n x m l = cond_both (nat_eq n m) (x.rsn + 1) x.rsn (λ a. a < 2 ^ 62) (λ _. l) (λ _. omega arith)

entry_low : (n l : ℕ) (x : TableRow) → x.rsn + 1 < 2 ^ 62 → (sent_for (entry_from n l x) ≡ 0) × (least_of (entry_from n l x) < 2 ^ 62)
unfolding entry_from sent_for least_of
entry_low n l x low = cond_both (nat_eq n l) _ None (λ (e : Option Entry). (sent_for e ≡ 0) × (least_of e < 2 ^ 62)) (λ _. (refl, low)) (λ _. (refl, omega arith))

none_low : 0 < 2 ^ 62
none_low = omega arith

-- no copy and no entry, and perhaps a call
pub bare_formed : (s : Scene) (n next : ℕ) (wish : Option Wish) → 1 ≤ next → next < 2 ^ 62 → wishes_record wish ≡ true → wished_as wish < 2 ^ 62 → Is_formed s n (record { state = kept_with None None wish; next = next; floor = 0 })
unfolding sent_for rsn_of least_of
bare_formed s n next wish some few wants low = with_formed s n next None None wish some few refl wants none_low none_low low

-- nothing
empty_formed : (s : Scene) (n next : ℕ) → 1 ≤ next → next < 2 ^ 62 → Is_formed s n (record { state = nothing_kept; next = next; floor = 0 })
unfolding wishes_record wished_as
empty_formed s n next some few = bare_formed s n next None some few refl none_low

-- what an installation makes of a row, or of none, where a call may wait
born_formed : (s : Scene) (n next : ℕ) (o : Option TableRow) (wish : Option Wish) → IsLow o → WishIsSound s.db s.key next wish → 1 ≤ next → next < 2 ^ 62 →
    Is_formed s n (record { state = born_state n s.lmaster o wish; next = next; floor = 0 })
unfolding IsLow born_state installed_state
born_formed s n next None wish low h some few = bare_formed s n next wish some few (wish_wanting s.db s.key next wish h) (wish_low s.db s.key next wish h few)
born_formed s n next (Some x) wish low h some few =
    let e = entry_low n s.lmaster x low in
    with_formed s n next (Some (copy_from n x (row_master x))) (entry_from n s.lmaster x) wish some few e.0 (wish_wanting s.db s.key next wish h) (copy_low n x (row_master x) low) e.1 (wish_low s.db s.key next wish h few)

-- ---- the members

pub member_formed : (config : Config) (era : Era) (rules : Rules) (row : Rows) (w : Cluster) → IsBornWith config era.number era.members row w → (n : ℕ) → is_among n era.members ≡ true → (db : ℕ) (key : List ℕ) →
    Is_formed (scene config era rules db key) n (view db key (node_at n w))
member_formed config era rules row w h n t db key = by_test (has_records (kind_at config db))
    (λ of. subst (λ (v : View). Is_formed (scene config era rules db key) n v) (sym (member_view config era.number era.members row w h db key n t of))
    (born_formed (scene config era rules db key) n (numbers_in w n) (row db key) (wishes_in db key w n) (h.low db key) (b.wishes db key of) b.drawn b.limit))
    (λ none. subst (λ (v : View). Is_formed (scene config era rules db key) n v) (sym (empty_of n (b.others db none) (b.floors db)))
    (empty_formed (scene config era rules db key) n (numbers_in w n) b.drawn b.limit))
  where
    b : IsBornNode config era.number era.members row n (node_at n w)
    b = h.born n t

    empty_of : (k : ℕ) → (db_at db (node_at k w)).records ≡ [] → (db_at db (node_at k w)).floor ≡ 0 → view db key (node_at k w) ≡ record { state = nothing_kept; next = numbers_in w k; floor = 0 }
    empty_of k e f = seen_as db key (node_at k w) nothing_kept (state_none db key (node_at k w) e) f
