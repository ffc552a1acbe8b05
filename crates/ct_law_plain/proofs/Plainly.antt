-- What a rule of records leaves as it was: the round, what the node leads, the addresses, and the contents and the commit of
-- each database. It sends messages of records alone, answers calls, and notes what was vacuumed.
use Rattle.std.proofs.Common.{◌≡◌, ℕ, zero, suc, Bool, true, false, cond, List, [], ◌∷◌, ◌++◌, length, map, set, append_assoc, append-nil, Some, refl, sym, ap, ◌∙◌, subst}
use Rattle.std.specs.Prelude.{slice_get}
use Rattle.std.specs.List.{AllByRecursion}
use Rattle.std.proofs.lemmas.List.{length-set}
use Rattle.ct_values.specs.declared.config.Config.{Config}
use Rattle.ct_frame.specs.declared.event.Note.TheVariants as note
use Rattle.ct_frame.specs.declared.event.Out.{Out}
use Rattle.ct_frame.specs.declared.event.Out.TheVariants as out
use Rattle.ct_lcp2.proofs.Choices.{all_append}
use Rattle.ct_rules.specs.Parts.{Moving}
use Rattle.ct_rules.specs.declared.event.Act.{Act}
use Rattle.ct_rules.specs.declared.event.Act.TheVariants as act
use Rattle.ct_rules.specs.declared.event.Place.{Place}
use Rattle.ct_rules_node.specs.Node.{Database, or_untouched, db_at, with_db}
use Rattle.ct_rules_node.specs.Turn.{Turn}
use Rattle.ct_rules_node.specs.Records.{out_of, place_of, view, put_back, acted, at_record}
use Rattle.ct_rules_node.specs.Admission.{record_in}
use Rattle.ct_law_generation.proofs.Speaking.{About, Told}

-- a message of a record, of node me in generation g; an answer; or the note that a record was vacuumed
unfoldable pub IsOfRecord : ℕ → ℕ → Out → Type 0
IsOfRecord g me (out.Send f) = (f.generation ≡ g) × (f.sender ≡ me) × ((r : ℕ × List ℕ) × (record_in f.msg ≡ Some r))
IsOfRecord g me (out.Answer call a) = Unit {0}
IsOfRecord g me (out.Note (note.Vacuumed db key)) = Unit {0}
IsOfRecord g me (out.Note n) = ⊥

-- all of these are
abbrev pub AllOfRecords : ℕ → ℕ → List Out → Type 0
AllOfRecords g me xs = AllByRecursion (IsOfRecord g me) xs

-- from one middle of a step of node me to another nothing changes but records, floors and the next request number
pub record SamePlain (me : ℕ) (t u : Turn) : Type 0 where
  pub promise : u.node.promise ≡ t.node.promise
  pub pbase : u.node.pbase ≡ t.node.pbase
  pub phase : u.node.phase ≡ t.node.phase
  pub generation : u.node.generation ≡ t.node.generation
  pub members : u.node.members ≡ t.node.members
  pub leader : u.node.leader ≡ t.node.leader
  pub placement : u.node.placement ≡ t.node.placement
  pub held : u.node.held ≡ t.node.held
  pub last_run : u.node.last_run ≡ t.node.last_run
  pub lead : u.node.lead ≡ t.node.lead
  pub count : length u.node.dbs ≡ length t.node.dbs
  pub stores : (db : ℕ) → (db_at db u.node).store ≡ (db_at db t.node).store
  pub commits : (db : ℕ) → (db_at db u.node).commit ≡ (db_at db t.node).commit
  pub outs : (more : List Out) × (u.outs ≡ t.outs ++ more) × AllOfRecords t.node.generation me more

-- ---- nothing, one after the other, and one of two

pub plain_same : {me : ℕ} {t : Turn} → SamePlain me t t
plain_same {me} {t} = record {
  promise = refl;
  pbase = refl;
  phase = refl;
  generation = refl;
  members = refl;
  leader = refl;
  placement = refl;
  held = refl;
  last_run = refl;
  lead = refl;
  count = refl;
  stores = λ db. refl;
  commits = λ db. refl;
  outs = ([], sym (append-nil t.outs), tt);
}

outs_after : (me g h : ℕ) (xs ys zs : List Out) → h ≡ g → ((more : List Out) × (ys ≡ xs ++ more) × AllOfRecords g me more) → ((more : List Out) × (zs ≡ ys ++ more) × AllOfRecords h me more) →
    (more : List Out) × (zs ≡ xs ++ more) × AllOfRecords g me more
outs_after me g h xs ys zs e a b = (
  a.0 ++ b.0,
  b.1 ∙ ap (λ (l : List Out). l ++ b.0) a.1 ∙ append_assoc xs a.0 b.0,
  all_append (IsOfRecord g me) a.0 b.0 a.2 (subst (λ (k : ℕ). AllOfRecords k me b.0) e b.2),
)

pub plain_after : {me : ℕ} {t u v : Turn} → SamePlain me t u → SamePlain me u v → SamePlain me t v
plain_after {me} {t} {u} {v} a b = record {
  promise = b.promise ∙ a.promise;
  pbase = b.pbase ∙ a.pbase;
  phase = b.phase ∙ a.phase;
  generation = b.generation ∙ a.generation;
  members = b.members ∙ a.members;
  leader = b.leader ∙ a.leader;
  placement = b.placement ∙ a.placement;
  held = b.held ∙ a.held;
  last_run = b.last_run ∙ a.last_run;
  lead = b.lead ∙ a.lead;
  count = b.count ∙ a.count;
  stores = λ db. b.stores db ∙ a.stores db;
  commits = λ db. b.commits db ∙ a.commits db;
  outs = outs_after me t.node.generation u.node.generation t.outs u.outs v.outs a.generation a.outs b.outs;
}

pub either_plain : {me : ℕ} {t u v : Turn} (b : Bool) → SamePlain me t u → SamePlain me t v → SamePlain me t (cond b u v)
either_plain true a b = a
either_plain false a b = b

-- ---- a step at one record

-- what is put in the place of a database and is like it in this is so in every place
pub like_set : {Y : Type 0} (f : Database → Y) (ds : List Database) (i : ℕ) (d : Database) → f d ≡ f (or_untouched (slice_get ds i)) → (k : ℕ) → f (or_untouched (slice_get (set ds i d) k)) ≡ f (or_untouched (slice_get ds k))
unfolding or_untouched
like_set {Y} f [] i d e k = refl
like_set {Y} f (x ∷ xs) zero d e zero = e
like_set {Y} f (x ∷ xs) zero d e (suc k) = refl
like_set {Y} f (x ∷ xs) (suc i) d e zero = refl
like_set {Y} f (x ∷ xs) (suc i) d e (suc k) = like_set f xs i d e k

-- what a rule does about its record
all_out : (at : Place) (g n : ℕ) (xs : List Act) → Told at xs → AllOfRecords g n (map (out_of g n at.db at.key) xs)
unfolding Told About out_of IsOfRecord
all_out at g n [] h = tt
all_out at g n (act.Send receiver m ∷ xs) h = ((refl, refl, ((at.db, at.key), h.0)), all_out at g n xs h.1)
all_out at g n (act.Answer call a ∷ xs) h = (tt, all_out at g n xs h.1)
all_out at g n (act.Finished floor ∷ xs) h = (tt, all_out at g n xs h.1)

-- a part of the rule of a record that sends messages of it alone
abbrev pub Speaks : (Place → Moving → Moving) → Type 0
Speaks part = (at : Place) (o : Moving) → Told at o.acts → Told at (part at o).acts

pub at_record_plain : (c : Config) (me db : ℕ) (key : List ℕ) (part : Place → Moving → Moving) (t : Turn) → Speaks part → SamePlain me t (at_record c me db key part t)
unfolding at_record acted put_back with_db db_at view place_of Told
at_record_plain c me db key part t speaks =
    let at = place_of c me db key t.node in
    let o = part at (view db key t.node) in
    record {
      promise = refl;
      pbase = refl;
      phase = refl;
      generation = refl;
      members = refl;
      leader = refl;
      placement = refl;
      held = refl;
      last_run = refl;
      lead = refl;
      count = length-set t.node.dbs db _;
      stores = like_set (λ (d : Database). d.store) t.node.dbs db _ refl;
      commits = like_set (λ (d : Database). d.commit) t.node.dbs db _ refl;
      outs = (map (out_of t.node.generation me db key) o.acts, refl, all_out at t.node.generation me o.acts (speaks at (view db key t.node) tt));
    }
