-- A small cluster that began with a row.
use Rattle.std.proofs.Common.{◌≡◌, ℕ, zero, suc, ◌+◌, ◌<◌, ◌≤◌, ◌^◌, Bool, true, false, List, [], ◌∷◌, length, refl, sym, subst, ap, arith}
use Rattle.std.specs.List.{list_all}
use Rattle.std.specs.Prelude.{if◌then◌else◌, ◌&&◌, ◌||◌, bytes_eq, nat_le, nat_lt, is_none, slice_get, Option, None, Some}
use Rattle.std.proofs.lemmas.Bool.{and_parts}
use Rattle.std.proofs.lemmas.Slice.Eq.{bytes_eq-Decides}
use Rattle.std.proofs.lemmas.Map.Text.{is_eq-slice_cmp}
use Rattle.std.specs.List.Sorted.{IsStrictlySortedBy}
use Rattle.std.proofs.lemmas.List.Sorted.{IsPermutation-refl}
use Rattle.ct_values.specs.Key.{key_cmp}
use Rattle.ct_values.specs.Client.{wants_record}
use Rattle.ct_values.specs.declared.config.DbKind.TheVariants.{Volatile}
use Rattle.ct_frame.specs.declared.frame.TableRow.{TableRow}
use Rattle.ct_store.specs.Map.{look, Ascends}
use Rattle.ct_law_rules.specs.Form
use Rattle.ct_rules.specs.declared.state.RecState.{RecState}
use Rattle.ct_rules_node.specs.Admission.{record_in}
use Rattle.ct_rules_node.specs.Node as node
use Rattle.ct_rules_node.specs.Node.{is_among, has_records, kind_at, kind_in}
use Rattle.ct_rules_node.specs.Rounds as rounds
use Rattle.ct_rules_node.specs.Numbered
use Rattle.ct_rules_cluster.specs.Cluster as cluster
use Rattle.ct_rules_cluster.specs.Cluster.{Sent}
use Rattle.ct_register.specs.Register
use Rattle.ct_register.specs.Words
use Rattle.ct_register.proofs.Places.{of_two}
use Rattle.ct_register.proofs.Small.{none_not_some}
use Rattle.ct_promise.specs.Promises.{IsConfig}
use Rattle.ct_promise.specs.Born
use Rattle.ct_promise.specs.Born.{IsBornNode, IsBornWith, BornRegisters}
use Rattle.ct_promise.specs.Small
use Rattle.ct_promise.proofs.Nodes
use Rattle.ct_promise.specs.Small.{config, both, a, the_row, begun_with, registers}

-- one pair, or none
look_one : (key : List ℕ) (s : RecState) → look key ((a, s) ∷ []) ≡ (if bytes_eq key a then Some s else None)
look_one key s = ap (λ (b : Bool). if b then Some s else None) (is_eq-slice_cmp key a)

by_test : (P : Option RecState → Option TableRow → List ℕ → Type 0) (s : RecState) (key : List ℕ) (b : Bool) → bytes_eq key a ≡ b →
    P (Some s) (Some the_row) a → P None None key → P (if b then Some s else None) (if b then Some the_row else None) key
by_test P s key true e row_there none_there = subst (λ k. P (Some s) (Some the_row) k) (sym ((bytes_eq-Decides key a).0 e)) row_there
by_test P s key false e row_there none_there = none_there

-- what holds of the row's key, and of every other one, holds of all
of_row : (P : Option RecState → Option TableRow → List ℕ → Type 0) (s : RecState) (key : List ℕ) → P (Some s) (Some the_row) a → P None None key → P (look key ((a, s) ∷ [])) (begun_with 1 key) key
unfolding Small.begun_with
of_row P s key row_there none_there = subst (λ o. P o (begun_with 1 key) key) (sym (look_one key s)) (by_test P s key (bytes_eq key a) refl row_there none_there)

-- what is asked of the state of a key, beside the row of it
Sound : ℕ → ℕ → ℕ → Option RecState → Option TableRow → List ℕ → Type 0
Sound n db next o row key =
    (node.or_nothing o ≡ Born.born_state n (node.master_of both key) row (node.or_nothing o).wish) × Born.WishIsSound db key next (node.or_nothing o).wish

of_none : (n db next : ℕ) (key : List ℕ) → Sound n db next None None key
unfolding Sound node.or_nothing Born.born_state Born.WishIsSound
of_none n db next key = (refl, tt)

one_drawn : 1 < 2
one_drawn = omega arith

at_zero : (key : List ℕ) → Sound 0 1 2 (look key (node.db_at 1 (Nodes.installed 0 (Nodes.frozen Nodes.waits 2))).records) (begun_with 1 key) key
unfolding Sound node.or_nothing Born.born_state Born.WishIsSound node.db_at node.or_untouched node.untouched node.opening node.master_of node.or_zero rounds.installed_node rounds.installed_dbs rounds.installed_db rounds.install_rows rounds.install_row rounds.changed rounds.bared rounds.installed_state rounds.copy_from rounds.entry_from rounds.row_master rounds.or_nobody wants_record
at_zero key = of_row (Sound 0 1 2) _ key (refl, record { wanting = refl; of_db = refl; of_key = refl; drawn = one_drawn }) (of_none 0 1 2 key)

at_one : (key : List ℕ) → Sound 1 1 1 (look key (node.db_at 1 (Nodes.installed 1 (Nodes.frozen [] 1))).records) (begun_with 1 key) key
unfolding Sound node.or_nothing Born.born_state Born.WishIsSound node.db_at node.or_untouched node.untouched node.opening node.master_of node.or_zero rounds.installed_node rounds.installed_dbs rounds.installed_db rounds.install_rows rounds.install_row rounds.changed rounds.bared rounds.installed_state rounds.copy_from rounds.entry_from rounds.row_master rounds.or_nobody
at_one key = of_row (Sound 1 1 1) _ key (refl, tt) (of_none 1 1 1 key)

records_of : (n db next : ℕ) (key : List ℕ) (o : Option RecState) → Sound n db next o (begun_with db key) key → node.or_nothing o ≡ Born.born_state n (node.master_of both key) (begun_with db key) (node.or_nothing o).wish
unfolding Sound
records_of n db next key o s = s.0

wishes_of : (n db next : ℕ) (key : List ℕ) (o : Option RecState) → Sound n db next o (begun_with db key) key → Born.WishIsSound db key next (node.or_nothing o).wish
unfolding Sound
wishes_of n db next key o s = s.1

-- the states of all keys in all databases, of node 0 and of node 1
sound_zero : (db : ℕ) (key : List ℕ) → Sound 0 db 2 (look key (node.db_at db (Nodes.installed 0 (Nodes.frozen Nodes.waits 2))).records) (begun_with db key) key
unfolding Small.begun_with node.db_at node.or_untouched node.untouched rounds.installed_node rounds.installed_dbs rounds.installed_db rounds.install_rows rounds.changed
sound_zero zero key = of_none 0 0 2 key
sound_zero (suc zero) key = at_zero key
sound_zero (suc (suc db)) key = of_none 0 (suc (suc db)) 2 key

sound_one : (db : ℕ) (key : List ℕ) → Sound 1 db 1 (look key (node.db_at db (Nodes.installed 1 (Nodes.frozen [] 1))).records) (begun_with db key) key
unfolding Small.begun_with node.db_at node.or_untouched node.untouched rounds.installed_node rounds.installed_dbs rounds.installed_db rounds.install_rows rounds.changed
sound_one zero key = of_none 1 0 1 key
sound_one (suc zero) key = at_one key
sound_one (suc (suc db)) key = of_none 1 (suc (suc db)) 1 key

-- a database that is none of records is not there
others_of : (P : ℕ → Type 0) → ((db : ℕ) → P (suc (suc db))) → (db : ℕ) → has_records (kind_at config db) ≡ false → P db
unfolding has_records kind_at kind_in
others_of P far zero e = absurd (cc)
others_of P far (suc zero) e = absurd (cc)
others_of P far (suc (suc db)) e = far db

by_db : (P : ℕ → Type 0) → P 0 → P 1 → ((db : ℕ) → P (suc (suc db))) → (db : ℕ) → P db
by_db P zeroth first far zero = zeroth
by_db P zeroth first far (suc zero) = first
by_db P zeroth first far (suc (suc db)) = far db

some_drawn : (n : ℕ) → 1 ≤ n + 1
some_drawn n = omega arith

few_drawn : (n : ℕ) → n ≤ 2 → n < 2 ^ 62
few_drawn n le = omega arith

no_keys : IsStrictlySortedBy key_cmp []
unfolding IsStrictlySortedBy
no_keys = tt

one_key : (k : List ℕ) → IsStrictlySortedBy key_cmp (k ∷ [])
unfolding IsStrictlySortedBy
one_key k = (tt, tt)

born_zero : IsBornNode config 2 both begun_with 0 Nodes.zeroth
unfolding node.is_present_in node.is_present node.untouched node.opening node.db_at node.or_untouched node.state_at rounds.installed_node rounds.installed_dbs rounds.installed_db rounds.install_rows rounds.install_row rounds.changed rounds.bared rounds.installed_state Born.has_pushed
born_zero = record {
  present = refl;
  knows = refl;
  promise = refl;
  lead = refl;
  drawn = some_drawn 1;
  limit = few_drawn 2 (omega arith);
  dbs = refl;
  floors = by_db (λ db. (node.db_at db (Nodes.installed 0 (Nodes.frozen Nodes.waits 2))).floor ≡ 0) refl refl (λ db. refl);
  maps = by_db (λ db. Ascends (node.db_at db (Nodes.installed 0 (Nodes.frozen Nodes.waits 2))).records) no_keys (one_key a) (λ db. no_keys);
  records = λ db key of. records_of 0 db 2 key _ (sound_zero db key);
  wishes = λ db key of. wishes_of 0 db 2 key _ (sound_zero db key);
  others = others_of (λ db. (node.db_at db (Nodes.installed 0 (Nodes.frozen Nodes.waits 2))).records ≡ []) (λ db. refl);
}

born_one : IsBornNode config 2 both begun_with 1 Nodes.first
unfolding node.is_present_in node.is_present node.untouched node.opening node.db_at node.or_untouched node.state_at rounds.installed_node rounds.installed_dbs rounds.installed_db rounds.install_rows rounds.install_row rounds.changed rounds.bared rounds.installed_state Born.has_pushed
born_one = record {
  present = refl;
  knows = refl;
  promise = refl;
  lead = refl;
  drawn = some_drawn 0;
  limit = few_drawn 1 (omega arith);
  dbs = refl;
  floors = by_db (λ db. (node.db_at db (Nodes.installed 1 (Nodes.frozen [] 1))).floor ≡ 0) refl refl (λ db. refl);
  maps = by_db (λ db. Ascends (node.db_at db (Nodes.installed 1 (Nodes.frozen [] 1))).records) no_keys (one_key a) (λ db. no_keys);
  records = λ db key of. records_of 1 db 1 key _ (sound_one db key);
  wishes = λ db key of. wishes_of 1 db 1 key _ (sound_one db key);
  others = others_of (λ db. (node.db_at db (Nodes.installed 1 (Nodes.frozen [] 1))).records ≡ []) (λ db. refl);
}

pub is_config : IsConfig config
unfolding IsStrictlySortedBy
is_config = (record { name = 116 ∷ []; kind = Volatile } ∷ [], [], (refl, refl, refl, IsPermutation-refl [], tt))

-- a number that is none of both is 2 or more
far_off : (P : ℕ → Type 0) → ((n : ℕ) → P (suc (suc n))) → (n : ℕ) → is_among n both ≡ false → P n
unfolding is_among
far_off P far zero e = absurd (cc)
far_off P far (suc zero) e = absurd (cc)
far_off P far (suc (suc n)) e = far n

of_test : (b : Bool) → Born.IsMastered both (if b then Some the_row else None)
unfolding Born.IsMastered rounds.row_master rounds.or_nobody is_among
of_test true = refl
of_test false = tt

birth_of : (b : Bool) → Born.IsBirthOf (if b then Some the_row else None) (Small.versions_of (if b then Some the_row else None))
unfolding Born.IsBirthOf Small.versions_of Register.reading
birth_of true = refl
birth_of false = refl

mastered : (db : ℕ) (key : List ℕ) → Born.IsMastered both (begun_with db key)
unfolding Small.begun_with Born.IsMastered
mastered zero key = tt
mastered (suc zero) key = of_test (bytes_eq key a)
mastered (suc (suc db)) key = tt

low_test : (b : Bool) → Born.IsLow (if b then Some the_row else None)
unfolding Born.IsLow
low_test true = few_drawn 1 (omega arith)
low_test false = tt

all_low : (db : ℕ) (key : List ℕ) → Born.IsLow (begun_with db key)
unfolding Small.begun_with Born.IsLow
all_low zero key = tt
all_low (suc zero) key = low_test (bytes_eq key a)
all_low (suc (suc db)) key = tt

-- is the message of an older generation, or of generation 2 and none that speaks of a record?
unfoldable pub is_silent : Sent → Bool
is_silent s = nat_le s.frame.generation 2 && (nat_lt s.frame.generation 2 || is_none (record_in s.frame.msg))

same_one : (x s : Sent) → Some x ≡ Some s → x ≡ s
same_one x s e = cc

silent_at : (sent : List Sent) (k : ℕ) (s : Sent) → list_all is_silent sent ≡ true → slice_get sent k ≡ Some s → is_silent s ≡ true
silent_at [] k s all e = absurd (none_not_some e)
silent_at (x ∷ sent) zero s all e = subst (λ y. is_silent y ≡ true) (same_one x s e) (and_parts _ _ all).0
silent_at (x ∷ sent) (suc k) s all e = silent_at sent k s (and_parts _ _ all).1 e

silent_of : (sent : List Sent) (k : ℕ) (s : Sent) → list_all is_silent sent ≡ true → cluster.sent_at k (Nodes.with_sent sent) ≡ Some s → is_silent s ≡ true
unfolding cluster.sent_at
silent_of sent zero s all e = absurd (none_not_some e)
silent_of sent (suc k) s all e = silent_at sent k s all e

up_to_two : (n : ℕ) → nat_le n 2 ≡ true → n ≤ 2
up_to_two n e = grind arith

of_none_there : {X : Type 0} (n : ℕ) (o : Option X) → n ≡ 2 → (nat_lt n 2 || is_none o) ≡ true → o ≡ None
of_none_there n None is e = refl
of_none_there n (Some x) is e = absurd (let f : (nat_lt 2 2 || false) ≡ true = subst (λ k. (nat_lt k 2 || false) ≡ true) is e in cc)

not_newer : (s : Sent) → is_silent s ≡ true → s.frame.generation ≤ 2
unfolding is_silent
not_newer s e = up_to_two _ (and_parts _ _ e).0

not_of_record : (s : Sent) → is_silent s ≡ true → s.frame.generation ≡ 2 → record_in s.frame.msg ≡ None
unfolding is_silent
not_of_record s e g = of_none_there _ _ g (and_parts _ _ e).1

births : (db : ℕ) (key : List ℕ) → Born.IsBirthOf (begun_with db key) (Small.versions_of (begun_with db key))
unfolding Small.begun_with Born.IsBirthOf Small.versions_of Register.reading
births zero key = refl
births (suc zero) key = birth_of (bytes_eq key a)
births (suc (suc db)) key = refl

pub is_born : (sent : List Sent) → list_all is_silent sent ≡ true → IsBornWith config 2 both begun_with (Nodes.with_sent sent)
unfolding cluster.is_up cluster.is_true cluster.node_at cluster.or_absent cluster.absent node.db_at node.or_untouched node.untouched is_among cluster.pending cluster.pending_from cluster.pending_in cluster.wished_in cluster.wished cluster.committing Numbered.by_number Numbered.ranked node.opening rounds.installed_node rounds.installed_dbs rounds.installed_db rounds.install_rows rounds.install_row rounds.changed rounds.bared rounds.installed_state node.or_nothing
is_born sent all = record {
  real = some_drawn 1;
  size = refl;
  ascend = refl;
  there = of_two (λ n. nat_lt n 2 ≡ true) refl refl;
  up = of_two (λ n. cluster.is_up n (Nodes.with_sent sent) ≡ true) refl refl;
  born = of_two (λ n. IsBornNode config 2 both begun_with n (cluster.node_at n (Nodes.with_sent sent))) born_zero born_one;
  mastered = mastered;
  low = all_low;
  down = far_off (λ n. cluster.is_up n (Nodes.with_sent sent) ≡ false) (λ n. refl);
  left = far_off (λ n. Born.HasLeft config n (cluster.node_at n (Nodes.with_sent sent))) (λ n. record { dbs = λ l. absurd (omega arith); records = λ db. refl; floors = λ db. refl; commits = λ db. refl; drawn = some_drawn 0 });
  numbered = refl;
  given = refl;
  newest = λ k s e. not_newer s (silent_of sent k s all e);
  silent = λ k s e g. not_of_record s (silent_of sent k s all e) g;
}

pub have_registers : (sent : List Sent) → BornRegisters config (Nodes.with_sent sent) 2 both begun_with registers
unfolding Words.at is_among Small.begun_with Small.versions_of
have_registers sent = record {
  born = refl;
  named = refl;
  inside = of_two (λ n. registers.line n ≡ 2) refl refl;
  outside = λ n out. ap (λ (b : Bool). if b then 2 else 0) out;
  installed = of_two (λ n. registers.installed 2 n ≡ true) refl refl;
  holder = refl;
  births = λ db key of. births db key;
  none = λ db key of. others_of (λ db. Small.versions_of (begun_with db key) ≡ []) (λ db. refl) db of;
  newborn = λ db key. refl;
  unowned = λ db key. refl;
  seen = λ n db key among. ap (λ (b : Bool). if b then length (Small.versions_of (begun_with db key)) else 0) among;
  unseen = λ n db key out. ap (λ (b : Bool). if b then length (Small.versions_of (begun_with db key)) else 0) out;
}
