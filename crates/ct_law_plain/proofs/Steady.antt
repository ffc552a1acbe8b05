-- What a step of a node leaves as it was, unless it follows a Freeze or ends a round: its promise stays, who was present still is, no
-- lock ends, no round is noted, and all that is sent is sent by the node.
use Rattle.std.proofs.Common.{◌≡◌, ℕ, Bool, true, false, cond, List, [], ◌∷◌, ◌++◌, append_assoc, append-nil, refl, sym, ap, ◌∙◌, subst}
use Rattle.std.specs.List.{AllByRecursion}
use Rattle.ct_lcp2.proofs.Choices.{all_append}
use Rattle.ct_values.specs.declared.client.Answer.{Answer}
use Rattle.ct_frame.specs.declared.event.Note.{Note}
use Rattle.ct_frame.specs.declared.event.Note.TheVariants as note
use Rattle.ct_frame.specs.declared.event.Out.{Out}
use Rattle.ct_frame.specs.declared.event.Out.TheVariants as out
use Rattle.ct_frame.specs.declared.frame.Msg.{Msg}
use Rattle.ct_rules_node.specs.Node.{Node, Phase, Lead, is_present}
use Rattle.ct_rules_node.specs.Turn.{Turn, does, with_node, with_lead, makes, answers, notes, posts, posts_all}
use Rattle.ct_law_plain.proofs.Plainly.{IsOfRecord, SamePlain}

-- a message that is the node's own, an answer, or a note of anything but of a lock that ended and of a round
unfoldable pub IsOwn : ℕ → Out → Type 0
IsOwn me (out.Send f) = f.sender ≡ me
IsOwn me (out.Answer call a) = Unit {0}
IsOwn me (out.Note (note.Ended db key)) = ⊥
IsOwn me (out.Note (note.Round g members p q)) = ⊥
IsOwn me (out.Note n) = Unit {0}

-- from one middle of a step of node me to another
pub record Steady (me : ℕ) (t u : Turn) : Type 0 where
  pub promise : u.node.promise ≡ t.node.promise
  pub present : is_present t.node.phase ≡ true → is_present u.node.phase ≡ true
  pub outs : (more : List Out) × (u.outs ≡ t.outs ++ more) × AllByRecursion (IsOwn me) more

-- ---- nothing, one after the other, and one of two

pub steady_same : {me : ℕ} {t : Turn} → Steady me t t
steady_same {me} {t} = record { promise = refl; present = λ h. h; outs = ([], sym (append-nil t.outs), tt) }

pub steady_after : {me : ℕ} {t u v : Turn} → Steady me t u → Steady me u v → Steady me t v
steady_after {me} {t} {u} {v} a b = record {
  promise = b.promise ∙ a.promise;
  present = λ h. b.present (a.present h);
  outs = (
    a.outs.0 ++ b.outs.0,
    b.outs.1 ∙ ap (λ (l : List Out). l ++ b.outs.0) a.outs.1 ∙ append_assoc t.outs a.outs.0 b.outs.0,
    all_append (IsOwn me) a.outs.0 b.outs.0 a.outs.2 b.outs.2,
  );
}

pub either_steady : {me : ℕ} {t u v : Turn} (b : Bool) → Steady me t u → Steady me t v → Steady me t (cond b u v)
either_steady true a b = a
either_steady false a b = b

-- ---- what a node does and becomes

-- nothing is done, and promise and phase stay
pub steady_still : (me : ℕ) (t u : Turn) → u.node.promise ≡ t.node.promise → u.node.phase ≡ t.node.phase → u.outs ≡ t.outs → Steady me t u
steady_still me t u p q o = record { promise = p; present = λ h. subst (λ (x : Phase). is_present x ≡ true) (sym q) h; outs = ([], o ∙ sym (append-nil t.outs), tt) }

pub does_steady : (me : ℕ) (x : Out) (t : Turn) → IsOwn me x → Steady me t (does x t)
unfolding does
does_steady me x t own = record { promise = refl; present = λ h. h; outs = (x ∷ [], refl, (own, tt)) }

pub makes_steady : (me number : ℕ) (t : Turn) → Steady me t (makes number t)
unfolding makes
makes_steady me number t = steady_still me t _ refl refl refl

pub leads_steady : (me : ℕ) (l : Lead) (t : Turn) → Steady me t (with_lead l t)
unfolding with_lead
leads_steady me l t = steady_still me t _ refl refl refl

pub node_steady : (me : ℕ) (x : Node) (t : Turn) → x.promise ≡ t.node.promise → x.phase ≡ t.node.phase → Steady me t (with_node x t)
unfolding with_node
node_steady me x t p q = steady_still me t _ p q refl

pub answers_steady : (me call : ℕ) (a : Answer) (t : Turn) → Steady me t (answers call a t)
unfolding answers IsOwn
answers_steady me call a t = does_steady me (out.Answer call a) t tt

pub notes_steady : (me : ℕ) (n : Note) (t : Turn) → IsOwn me (out.Note n) → Steady me t (notes n t)
unfolding notes
notes_steady me n t own = does_steady me (out.Note n) t own

pub posts_steady : (me g receiver : ℕ) (m : Msg) (t : Turn) → Steady me t (posts g me receiver m t)
unfolding posts IsOwn
posts_steady me g receiver m t = does_steady me (out.Send (record { generation = g; sender = me; receiver = receiver; msg = m })) t refl

pub posts_all_steady : (me g : ℕ) (ns : List ℕ) (m : Msg) (t : Turn) → Steady me t (posts_all g me ns m t)
unfolding posts_all
posts_all_steady me g [] m t = steady_same
posts_all_steady me g (n ∷ ns) m t = steady_after (posts_steady me g n m t) (posts_all_steady me g ns m (posts g me n m t))

-- ---- records

record_own : (g me : ℕ) (x : Out) → IsOfRecord g me x → IsOwn me x
unfolding IsOfRecord IsOwn
record_own g me (out.Send f) h = h.1
record_own g me (out.Answer call a) h = tt
record_own g me (out.Note (note.Vacuumed db key)) h = tt
record_own g me (out.Note n) h = absurd h

records_own : (g me : ℕ) (xs : List Out) → AllByRecursion (IsOfRecord g me) xs → AllByRecursion (IsOwn me) xs
records_own g me [] h = tt
records_own g me (x ∷ xs) h = (record_own g me x h.0, records_own g me xs h.1)

-- what a rule of records does is so
pub plain_steady : {me : ℕ} {t u : Turn} → SamePlain me t u → Steady me t u
plain_steady {me} {t} {u} s = record {
  promise = s.promise;
  present = λ h. subst (λ (x : Phase). is_present x ≡ true) (sym s.phase) h;
  outs = (s.outs.0, s.outs.1, records_own t.node.generation me s.outs.0 s.outs.2);
}
