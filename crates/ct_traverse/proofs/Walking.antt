-- What calls make of the messages.
use Rattle.std.proofs.Common.{◌≡◌, ℕ, zero, suc, ◌-◌, length, Bool, true, false, not, cond, List, [], ◌∷◌, ◌++◌, Option, Some, None, refl, sym, ap, ◌∙◌, subst}
use Rattle.std.specs.Prelude.{Ok, Err, is_none, nat_eq, nat_lt, slice_get, slice_set, take}
use Rattle.std.specs.List.{remove}
use Rattle.std.proofs.lemmas.Bool.{and_parts, cond_both}
use Rattle.ct_mail.specs.declared.sent.Fate.TheVariants.{Dropped}
use Rattle.ct_traverse_parts.specs.Posts.{before_waiting, is_waiting, numbered, ended_as, waits}
use Rattle.ct_frame.specs.declared.frame.TableRow.{TableRow}
use Rattle.ct_rules_node.specs.Node.{is_present_in, is_serving, kind_at}
use Rattle.ct_rules_cluster.specs.Cluster.{is_up, node_at, World}
use Rattle.ct_traverse_parts.specs.Walk.{Walk, begin_fault, is_taken, is_there, lost, lost_of, questions, told}
use Rattle.ct_traverse_parts.specs.declared.line.Pass.{Pass}
use Rattle.ct_traverse_parts.specs.declared.line.TFault.TheVariants as fault
use Rattle.ct_traverse_parts.specs.declared.post.Post.{Post}
use Rattle.ct_traverse_parts.specs.declared.traverse.Traverse.{Traverse}

-- questions wait
pub questions_wait : (pass : Pass) (n g k db : ℕ) (members : List ℕ) → before_waiting (questions pass n g k db members) ≡ 0
unfolding questions before_waiting
questions_wait pass n g k db [] = refl
questions_wait pass n g k db (m ∷ members) = refl

-- where no message of this number waits, none is dropped
pub not_lost : (k : ℕ) (walk : Walk) → is_waiting (numbered k walk.posts) ≡ false → lost k walk ≡ Err (fault.NoSuchMessage k)
unfolding lost_of is_waiting
not_lost k walk = by (numbered k walk.posts)
  where
    by : (o : Option Post) → is_waiting o ≡ false → lost_of k o walk ≡ Err (fault.NoSuchMessage k)
    by None e = refl
    by (Some p) e = ap (λ b. cond b (told [] (record walk { posts = ended_as k p Dropped walk.posts })) (Err (fault.NoSuchMessage k))) e

-- and one that waits is
pub lost_so : (k : ℕ) (walk : Walk) (after : List Post) → is_waiting (numbered k walk.posts) ≡ true → ((p : Post) → numbered k walk.posts ≡ Some p → after ≡ ended_as k p Dropped walk.posts) →
    lost k walk ≡ Ok (record { walk = record walk { posts = after }; lines = [] })
unfolding lost_of is_waiting
lost_so k walk after = by (numbered k walk.posts)
  where
    by : (o : Option Post) → is_waiting o ≡ true → ((p : Post) → o ≡ Some p → after ≡ ended_as k p Dropped walk.posts) → lost_of k o walk ≡ Ok (record { walk = record walk { posts = after }; lines = [] })
    by None e h = absurd (cc)
    by (Some p) e h = ap (λ b. cond b (told [] (record walk { posts = ended_as k p Dropped walk.posts })) (Err (fault.NoSuchMessage k))) e ∙ ap (λ (l : List Post). told [] (record walk { posts = l })) (sym (h p refl))

pub lost_view : (k : ℕ) (walk : Walk) (begun : ℕ) (running : List Traverse) (posts after : List Post) (b : Bool) → record { begun = begun; running = running; posts = posts } ≡ walk → b ≡ is_waiting (numbered k posts) → b ≡ true →
    ((p : Post) → numbered k posts ≡ Some p → after ≡ ended_as k p Dropped posts) → lost k walk ≡ Ok (record { walk = record { begun = begun; running = running; posts = after }; lines = [] })
lost_view k walk begun running posts after true is waits ends h =
    subst (λ (w : Walk). lost k w ≡ Ok (record { walk = record { begun = begun; running = running; posts = after }; lines = [] })) is (lost_so k (record { begun = begun; running = running; posts = posts }) after (sym waits) h)
lost_view k walk begun running posts after false is waits ends h = absurd (cc)

-- one message that waits
pub one_waits : (p : Post) → waits p.fate ≡ true → before_waiting (p ∷ []) ≡ 0
unfolding before_waiting
one_waits p e = rw e refl

-- where nothing hinders a traverse, its node runs
pub up_begins : (n db : ℕ) (w : World) → begin_fault n db w ≡ None → is_up n w.cluster ≡ true
unfolding begin_fault
up_begins n db w e = by (not (nat_lt n w.config.nodes)) (is_up n w.cluster) e
  where
    by : (b u : Bool) → cond b (Some (fault.NoSuchNode n)) (cond (not u) (Some (fault.NodeDown n)) (cond (is_none (kind_at w.config db)) (Some (fault.NoSuchDb db)) (cond (not (is_serving (node_at n w.cluster).phase)) (Some (fault.NotServing n)) None))) ≡ None → u ≡ true
    by true u e = absurd (cc)
    by false true e = refl
    by false false e = absurd (cc)

-- ---- rows come

-- a place that has an item already
pub set_same : {X : Type 0} (xs : List X) (i : ℕ) (x : X) → slice_get xs i ≡ Some x → slice_set xs i x ≡ xs
set_same [] i x e = refl
set_same (y ∷ ys) zero x e = ap (λ (z : _). z ∷ ys) (let s : y ≡ x = cc in sym s)
set_same (y ∷ ys) (suc i) x e = ap (λ (l : List _). y ∷ l) (set_same ys i x e)

-- an item that goes may change before
pub remove_set : {X : Type 0} (xs : List X) (i : ℕ) (x : X) → remove (slice_set xs i x) i ≡ remove xs i
remove_set [] i x = refl
remove_set (y ∷ ys) zero x = refl
remove_set (y ∷ ys) (suc i) x = ap (λ (l : List _). y ∷ l) (remove_set ys i x)

-- what was put behind is cut off
pub cut_off : {X : Type 0} (xs ys : List X) → take (length xs) (xs ++ ys) ≡ xs
cut_off [] ys = refl
cut_off (x ∷ xs) ys = ap (λ (l : List _). x ∷ l) (cut_off xs ys)

-- a message keeps its number where more are sent
pub numbered_more : (k : ℕ) (xs more : List Post) (p : Post) → numbered k xs ≡ Some p → numbered k (xs ++ more) ≡ Some p
unfolding numbered
numbered_more k xs more p = cond_both (nat_eq k 0) None (slice_get xs (k - 1)) (λ (o : Option Post). o ≡ Some p → cond (nat_eq k 0) None (slice_get (xs ++ more) (k - 1)) ≡ Some p)
    (λ t e. absurd (cc)) (λ f e. rw f (get_more xs (k - 1) e))
  where
    get_more : (xs : List Post) (i : ℕ) → slice_get xs i ≡ Some p → slice_get (xs ++ more) i ≡ Some p
    get_more [] i e = absurd (cc)
    get_more (x ∷ xs) zero e = e
    get_more (x ∷ xs) (suc i) e = get_more xs i e

-- who takes a question runs
pub taken_up : (p : Post) (w : World) (walk : Walk) → p.rows ≡ None → is_taken p p.rows w walk ≡ true → is_up p.receiver w.cluster ≡ true
unfolding is_taken is_there
taken_up p w walk none t = (and_parts (is_up p.receiver w.cluster) (is_present_in p.generation (node_at p.receiver w.cluster)) (subst (λ (o : Option (List TableRow)). is_taken p o w walk ≡ true) none t)).0
