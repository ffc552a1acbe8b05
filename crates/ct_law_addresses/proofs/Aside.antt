-- Labels that speak of no address: they need nothing of any placing, and leave all of them as they were. And parts of a step
-- that tell such labels alone, and leave what the node holds and follows.
use Rattle.std.proofs.Common.{◌≡◌, ℕ, Bool, true, false, cond, List, [], ◌∷◌, ◌++◌, append-nil, append_assoc, Some, refl, sym, ap, ◌∙◌, subst}
use Rattle.std.specs.Prelude.{nat_eq}
use Rattle.std.specs.List.{AllByRecursion}
use Rattle.std.proofs.lemmas.Bool.{cond_both}
use Rattle.ct_lcp2.proofs.Choices.{all_append}
use Rattle.ct_values.specs.Client.{db_of}
use Rattle.ct_values.specs.declared.client.Answer.{Answer}
use Rattle.ct_values.specs.declared.client.Answer.TheVariants as answer
use Rattle.ct_values.specs.declared.client.ClientOp.{ClientOp}
use Rattle.ct_values.specs.declared.client.Why.TheVariants as why
use Rattle.ct_values.specs.declared.client.Pair.{Pair}
use Rattle.ct_values.specs.declared.config.Config.{Config}
use Rattle.ct_frame.specs.declared.event.Note.{Note}
use Rattle.ct_frame.specs.declared.event.Note.TheVariants as note
use Rattle.ct_frame.specs.declared.event.Out.{Out}
use Rattle.ct_frame.specs.declared.event.Out.TheVariants as out
use Rattle.ct_frame.specs.declared.frame.Msg.{Msg}
use Rattle.ct_frame.specs.declared.frame.Msg.TheVariants as msg
use Rattle.ct_rules_node.specs.Node.{is_persistent, kind_at}
use Rattle.ct_rules_node.specs.Turn.{Turn, does, posts, posts_all}
use Rattle.ct_rules_node.specs.Admission.{record_in}
use Rattle.ct_rules_cluster.specs.Labels.{Label, Answered, Begun, Noted, Yielded, Started}
use Rattle.ct_rules_cluster.specs.Traces.{sent_label}
use Rattle.ct_rules_cluster.specs.declared.step.PendingCall.{PendingCall}
use Rattle.ct_register.specs.Lines.{Lines}
use Rattle.ct_law_generation.specs.Shown.{labels_of}
use Rattle.ct_law_generation.specs.Waiting.{answered}
use Rattle.ct_law_plain.proofs.Plainly.{IsOfRecord, AllOfRecords, SamePlain}
use Rattle.ct_law_registers.proofs.Parts.{Choice, goes, goes_on, answer_goes, note_goes, PlacesNeed, AllNeed}
use Rattle.ct_law_addresses.proofs.Facts.{spots}

-- ---- labels

-- whatever is chosen, wherever the registers are
unfoldable pub IsAside : Config → Label → Type 0
IsAside config label = (x : Choice) (r : Lines) → PlacesNeed config r label × (spots (goes config x label r) ≡ spots r)

answer_aside_goes : (config : Config) (x : Choice) (r : Lines) (n : ℕ) (asked : ClientOp) (a : Answer) → spots (answer_goes config x n asked a r) ≡ spots r
unfolding answer_goes
answer_aside_goes config x r n asked (answer.Refused (why.TooLong m)) = refl
answer_aside_goes config x r n asked (answer.Refused w) = refl
answer_aside_goes config x r n asked a = cond_both (is_persistent (kind_at config (db_of asked))) _ _ (λ (s : Lines). spots s ≡ spots r) (λ _. refl) (λ _. refl)

pub answer_aside : (config : Config) (n : ℕ) (asked : ClientOp) (a : Answer) → IsAside config (Answered n asked a)
unfolding IsAside goes PlacesNeed
answer_aside config n asked a x r = (tt, answer_aside_goes config x r n asked a)

pub begun_aside : (config : Config) (n db : ℕ) (writes : List Pair) → IsAside config (Begun n db writes)
unfolding IsAside goes PlacesNeed
begun_aside config n db writes x r = (tt, refl)

pub yielded_aside : (config : Config) (n : ℕ) → IsAside config (Yielded n)
unfolding IsAside goes PlacesNeed
yielded_aside config n x r = (tt, refl)

pub started_aside : (config : Config) (n : ℕ) → IsAside config (Started n)
unfolding IsAside goes PlacesNeed
started_aside config n x r = (tt, refl)

-- a note that is neither of an address nor of a line that begins
unfoldable pub IsAsideNote : Note → Type 0
IsAsideNote (note.Vacuumed db key) = Unit {0}
IsAsideNote (note.Ended db key) = Unit {0}
IsAsideNote (note.Thawed g) = Unit {0}
IsAsideNote noted = ⊥

pub note_aside : (config : Config) (n : ℕ) (noted : Note) → IsAsideNote noted → IsAside config (Noted n noted)
unfolding IsAside IsAsideNote goes note_goes PlacesNeed
note_aside config n (note.Vacuumed db key) h x r = (tt, refl)
note_aside config n (note.Ended db key) h x r = (tt, refl)
note_aside config n (note.Thawed g) h x r = (tt, refl)
note_aside config n (note.Round g members p q) h x r = absurd h
note_aside config n (note.Installed g) h x r = absurd h
note_aside config n (note.Released a) h x r = absurd h
note_aside config n (note.Took a) h x r = absurd h

-- all of these are
pub all_aside : (config : Config) (x : Choice) (ls : List Label) (r : Lines) → AllByRecursion (IsAside config) ls → AllNeed (PlacesNeed config) config x r ls × (spots (goes_on config x ls r) ≡ spots r)
unfolding AllNeed goes_on IsAside
all_aside config x [] r h = (tt, refl)
all_aside config x (label ∷ labels) r h = (let a = h.0 x r in let b = all_aside config x labels (goes config x label r) h.1 in ((a.0, b.0), b.1 ∙ a.1))

-- ---- one list of labels after another

pub goes_more : (config : Config) (x : Choice) (ls ms : List Label) (r : Lines) → goes_on config x (ls ++ ms) r ≡ goes_on config x ms (goes_on config x ls r)
unfolding goes_on
goes_more config x [] ms r = refl
goes_more config x (label ∷ ls) ms r = goes_more config x ls ms (goes config x label r)

pub need_more : (config : Config) (x : Choice) (ls ms : List Label) (r : Lines) → AllNeed (PlacesNeed config) config x r ls → AllNeed (PlacesNeed config) config x (goes_on config x ls r) ms → AllNeed (PlacesNeed config) config x r (ls ++ ms)
unfolding AllNeed goes_on
need_more config x [] ms r h k = k
need_more config x (label ∷ ls) ms r h k = (h.0, need_more config x ls ms (goes config x label r) h.1 k)

-- ---- what a node does

-- a message that is neither of a run nor a push
unfoldable pub IsAsideMsg : Msg → Type 0
IsAsideMsg (msg.Release number keep) = ⊥
IsAsideMsg (msg.ReleaseAck number) = ⊥
IsAsideMsg (msg.Take number assigned) = ⊥
IsAsideMsg (msg.Push members table ptables assigned) = ⊥
IsAsideMsg m = Unit {0}

unfoldable pub IsAsideOut : Out → Type 0
IsAsideOut (out.Send f) = IsAsideMsg f.msg
IsAsideOut (out.Answer call a) = Unit {0}
IsAsideOut (out.Note noted) = IsAsideNote noted

abbrev pub AllAside : List Out → Type 0
AllAside xs = AllByRecursion IsAsideOut xs

answers_aside : (config : Config) (call : ℕ) (a : Answer) (calls : List PendingCall) → AllByRecursion (IsAside config) (answered call a calls)
unfolding answered
answers_aside config call a [] = tt
answers_aside config call a (x ∷ xs) = either (nat_eq x.call call) (answers_aside config call a xs)
  where
    either : (b : Bool) → AllByRecursion (IsAside config) (answered call a xs) → AllByRecursion (IsAside config) (cond b (Answered x.node x.op a ∷ []) (answered call a xs))
    either true h = (answer_aside config x.node x.op a, tt)
    either false h = h

pub sent_none : (n g : ℕ) (m : Msg) → IsAsideMsg m → sent_label n g m ≡ []
unfolding sent_label IsAsideMsg
sent_none n g (msg.Push members table ptables assigned) h = absurd h
sent_none n g (msg.Take number assigned) h = absurd h
sent_none n g _ h = refl

pub labels_aside : (config : Config) (n : ℕ) (calls : List PendingCall) (xs : List Out) → AllAside xs → AllByRecursion (IsAside config) (labels_of n calls xs)
unfolding labels_of IsAsideOut
labels_aside config n calls [] h = tt
labels_aside config n calls (out.Send f ∷ xs) h = subst (λ (l : List Label). AllByRecursion (IsAside config) (l ++ labels_of n calls xs)) (sym (sent_none f.sender f.generation f.msg h.0)) (labels_aside config n calls xs h.1)
labels_aside config n calls (out.Answer call a ∷ xs) h = all_append (IsAside config) (answered call a calls) (labels_of n calls xs) (answers_aside config call a calls) (labels_aside config n calls xs h.1)
labels_aside config n calls (out.Note noted ∷ xs) h = (note_aside config n noted h.0, labels_aside config n calls xs h.1)

-- ---- parts of a step

-- from one middle of a step to another the node holds, follows and leads the same, and does nothing of addresses
pub record Aside (t u : Turn) : Type 0 where
  pub held : u.node.held ≡ t.node.held
  pub last_run : u.node.last_run ≡ t.node.last_run
  pub lead : u.node.lead ≡ t.node.lead
  pub outs : (more : List Out) × (u.outs ≡ t.outs ++ more) × AllAside more

pub aside_same : {t : Turn} → Aside t t
aside_same {t} = record { held = refl; last_run = refl; lead = refl; outs = ([], sym (append-nil t.outs), tt) }

-- the node is another, which holds, follows and leads the same
pub aside_node : (t u : Turn) → u.node.held ≡ t.node.held → u.node.last_run ≡ t.node.last_run → u.node.lead ≡ t.node.lead → u.outs ≡ t.outs → Aside t u
aside_node t u held run lead outs = record { held = held; last_run = run; lead = lead; outs = ([], outs ∙ sym (append-nil t.outs), tt) }

pub aside_after : {t u v : Turn} → Aside t u → Aside u v → Aside t v
aside_after {t} {u} {v} a b = record {
  held = b.held ∙ a.held;
  last_run = b.last_run ∙ a.last_run;
  lead = b.lead ∙ a.lead;
  outs = (a.outs.0 ++ b.outs.0, b.outs.1 ∙ ap (λ (l : List Out). l ++ b.outs.0) a.outs.1 ∙ append_assoc t.outs a.outs.0 b.outs.0, all_append IsAsideOut a.outs.0 b.outs.0 a.outs.2 b.outs.2);
}

pub either_aside : {t u v : Turn} (b : Bool) → Aside t u → Aside t v → Aside t (cond b u v)
either_aside true a b = a
either_aside false a b = b

pub does_aside : (o : Out) (t : Turn) → IsAsideOut o → Aside t (does o t)
unfolding does
does_aside o t h = record { held = refl; last_run = refl; lead = refl; outs = (o ∷ [], refl, (h, tt)) }

pub posts_aside : (g me n : ℕ) (m : Msg) (t : Turn) → IsAsideMsg m → Aside t (posts g me n m t)
unfolding posts IsAsideOut
posts_aside g me n m t h = does_aside _ t h

pub posts_all_aside : (g me : ℕ) (ns : List ℕ) (m : Msg) (t : Turn) → IsAsideMsg m → Aside t (posts_all g me ns m t)
unfolding posts_all
posts_all_aside g me [] m t h = aside_same
posts_all_aside g me (n ∷ ns) m t h = aside_after (posts_aside g me n m t h) (posts_all_aside g me ns m (posts g me n m t) h)

record_aside : (m : Msg) (r : ℕ × List ℕ) → record_in m ≡ Some r → IsAsideMsg m
unfolding record_in IsAsideMsg
record_aside (msg.Release number keep) r e = absurd (cc)
record_aside (msg.ReleaseAck number) r e = absurd (cc)
record_aside (msg.Take number assigned) r e = absurd (cc)
record_aside (msg.Push members table ptables assigned) r e = absurd (cc)
record_aside _ r e = tt

records_aside : (g me : ℕ) (xs : List Out) → AllOfRecords g me xs → AllAside xs
unfolding IsOfRecord IsAsideOut IsAsideNote
records_aside g me [] h = tt
records_aside g me (out.Send f ∷ xs) h = (record_aside f.msg h.0.2.0 h.0.2.1, records_aside g me xs h.1)
records_aside g me (out.Answer call a ∷ xs) h = (tt, records_aside g me xs h.1)
records_aside g me (out.Note (note.Vacuumed db key) ∷ xs) h = (tt, records_aside g me xs h.1)
records_aside g me (out.Note _ ∷ xs) h = absurd h.0

-- what is plain is aside
pub plain_aside : {me : ℕ} {t u : Turn} → SamePlain me t u → Aside t u
plain_aside {me} {t} {u} p = record { held = p.held; last_run = p.last_run; lead = p.lead; outs = (p.outs.0, p.outs.1, records_aside t.node.generation me p.outs.0 p.outs.2) }
