-- The parts of steps that leave persistent databases as they are.
use Rattle.std.proofs.Common.{true, false, ◌≡◌, ℕ, ◌+◌, List, [], ◌∷◌, ◌++◌, append-nil, Some, refl, sym, ap, ◌∙◌, subst}
use Rattle.std.specs.List.{AllByRecursion}
use Rattle.ct_values.specs.declared.client.Answer.{Answer}
use Rattle.ct_values.specs.declared.client.Answer.TheVariants as answer
use Rattle.ct_values.specs.declared.client.ClientOp.{ClientOp}
use Rattle.ct_values.specs.declared.client.ClientOp.TheVariants as op
use Rattle.ct_values.specs.declared.client.Why.{Why}
use Rattle.ct_values.specs.declared.client.Why.TheVariants as why
use Rattle.ct_values.specs.declared.config.Config.{Config}
use Rattle.ct_frame.specs.declared.event.Note.{Note}
use Rattle.ct_frame.specs.declared.event.Note.TheVariants as note
use Rattle.ct_frame.specs.declared.event.Out.{Out}
use Rattle.ct_frame.specs.declared.event.Out.TheVariants as out
use Rattle.ct_frame.specs.declared.frame.Msg.{Msg}
use Rattle.ct_frame.specs.declared.frame.Msg.TheVariants as msg
use Rattle.ct_rules_node.specs.Node.{Node, Database, Lead, has_records, kind_at, db_at}
use Rattle.ct_rules_node.specs.Turn.{Turn, does, with_node, with_lead, with_phase, makes, answers, notes, posts, posts_all}
use Rattle.ct_rules_node.specs.Node.{Phase}
use Rattle.ct_rules_node.specs.Admission.{record_in}
use Rattle.ct_rules_node.specs.Clients.{is_commit, is_unlock}
use Rattle.ct_law_generation.proofs.Pending.{Callers, Known}
use Rattle.ct_law_generation.specs.Shown.{is_telling}
use Rattle.ct_law_plain.proofs.Plainly.{SamePlain, IsOfRecord, AllOfRecords}
use Rattle.ct_law_acts.proofs.Asked.{IsAsked, AllAsked}
use Rattle.ct_law_acts.proofs.Known.{Waits, Commits, NodeCalls}
use Rattle.ct_law_acts.proofs.Waiting.{EachCall, each_of}
use Rattle.ct_law_registers.proofs.Facts.{Has, Bases, Stands, LeadStands}
use Rattle.ct_law_databases.proofs.Changes.{SameStores}
use Rattle.ct_law_databases.proofs.Kept.{Calm, IsCalm}
use Rattle.ct_law_databases.proofs.Outs.{posted, posted_outs}
use Rattle.ct_law_databases.proofs.Quiet.{OfRecord, LeavesLock, RefusedSo, IsQuietNote, IsQuietAnswer, plain_refused, plain_refusal}

-- ---- records

-- what is known of a call that a rule of records answers: a call that waits, or an unlock that gives up no commit's lock
unfoldable pub Answerable : Config → Callers → Bases → ℕ → ℕ → ℕ → List ℕ → ℕ → ClientOp → Type 0
Answerable config who b calls n db key call asked = Known who calls n db key call asked × (has_records (kind_at config db) ≡ true) × (is_commit asked ≡ false) × LeavesLock config b n asked

unfoldable pub IsCallOn : Config → Callers → Bases → ℕ → ClientOp → Type 0
IsCallOn config who b call asked = ((who call).1 ≡ asked) × OfRecord config asked × LeavesLock config b (who call).0 asked

pub call_on : (config : Config) (who : Callers) (b : Bases) (calls n db : ℕ) (key : List ℕ) (call : ℕ) (asked : ClientOp) → Answerable config who b calls n db key call asked → IsCallOn config who b call asked
unfolding Answerable Known IsCallOn
call_on config who b calls n db key call asked w = (
  ap (λ (p : ℕ × ClientOp). p.1) w.0.0,
  record { kind = ap (λ (d : ℕ). has_records (kind_at config d)) w.0.2 ∙ w.1; plain = w.2 },
  subst (λ (m : ℕ). LeavesLock config b m asked) (sym (ap (λ (p : ℕ × ClientOp). p.0) w.0.0)) w.3,
)

pub waits_answerable : (config : Config) (who : Callers) (b : Bases) (calls n db : ℕ) (key : List ℕ) (call : ℕ) (asked : ClientOp) → Waits config who calls n db key call asked → Answerable config who b calls n db key call asked
unfolding Waits Answerable is_unlock LeavesLock
waits_answerable config who b calls n db key call (op.Unlock d k) w = absurd (let e = w.3 in cc)
waits_answerable config who b calls n db key call asked w = (w.0, w.1, w.2, tt)

-- all calls that wait at the node are such
abbrev pub AllAnswerable : Config → Callers → Bases → ℕ → ℕ → Node → Type 0
AllAnswerable config who b calls n x = EachCall (Answerable config who b calls n) (Commits who calls n) 0 x.dbs

pub all_answerable : (config : Config) (who : Callers) (b : Bases) (calls n : ℕ) (x : Node) → NodeCalls config who calls n x → AllAnswerable config who b calls n x
all_answerable config who b calls n x h = each_of (Waits config who calls n) (Answerable config who b calls n) (Commits who calls n) (waits_answerable config who b calls n) 0 x.dbs h

record_stands : (config : Config) (b : Bases) (has : Has) (g n : ℕ) (m : Msg) (r : ℕ × List ℕ) → record_in m ≡ Some r → Stands config b has g n m
unfolding record_in Stands
record_stands config b has g n (msg.PUpdate db seq writes) r e = absurd (cc)
record_stands config b has g n (msg.PAck db seq) r e = absurd (cc)
record_stands config b has g n (msg.PullReply vbase pbase table ptables addresses) r e = absurd (cc)
record_stands config b has g n (msg.Push members table ptables assigned) r e = absurd (cc)
record_stands config b has g n _ r e = tt

quiet_answer : (config : Config) (who : Callers) (b : Bases) (call : ℕ) (a : Answer) (asked : ClientOp) → IsCallOn config who b call asked → IsQuietAnswer config who b call a
unfolding IsCallOn IsQuietAnswer
quiet_answer config who b call (answer.Refused (why.TooLong m)) asked k = subst (λ (o : ClientOp). OfRecord config o × LeavesLock config b (who call).0 o) (sym k.0) (k.1, k.2)
quiet_answer config who b call (answer.Refused w) asked k = subst (λ (o : ClientOp). RefusedSo config b (who call).0 o w) (sym k.0) (plain_refused config b (who call).0 asked w k.1.plain)
quiet_answer config who b call a asked k = subst (λ (o : ClientOp). OfRecord config o × LeavesLock config b (who call).0 o) (sym k.0) (k.1, k.2)

one_calm : (config : Config) (who : Callers) (b : Bases) (has : Has) (g n : ℕ) (o : Out) → IsOfRecord g n o → IsAsked (IsCallOn config who b) o → IsCalm config who b has o
unfolding IsOfRecord IsAsked IsCalm IsQuietNote
one_calm config who b has g n (out.Send f) h k = record_stands config b has f.generation f.sender f.msg h.2.0 h.2.1
one_calm config who b has g n (out.Answer call a) h k = quiet_answer config who b call a k.0 k.1
one_calm config who b has g n (out.Note (note.Vacuumed db key)) h k = tt
one_calm config who b has g n (out.Note (note.Ended db key)) h k = absurd h
one_calm config who b has g n (out.Note (note.Round l members p q)) h k = absurd h
one_calm config who b has g n (out.Note (note.Installed l)) h k = absurd h
one_calm config who b has g n (out.Note (note.Thawed l)) h k = tt
one_calm config who b has g n (out.Note (note.Released a)) h k = tt
one_calm config who b has g n (out.Note (note.Took a)) h k = tt

all_calm : (config : Config) (who : Callers) (b : Bases) (has : Has) (g n : ℕ) (xs : List Out) → AllOfRecords g n xs → AllAsked (IsCallOn config who b) xs → AllByRecursion (IsCalm config who b has) xs
all_calm config who b has g n [] h k = tt
all_calm config who b has g n (o ∷ xs) h k = (one_calm config who b has g n o h.0 k.0, all_calm config who b has g n xs h.1 k.1)

last_part : (P : Out → Type 0) (xs ys : List Out) → AllByRecursion P (xs ++ ys) → AllByRecursion P ys
last_part P [] ys h = h
last_part P (x ∷ xs) ys h = last_part P xs ys h.1

-- a step of records, whose answers are to calls that are known
pub plain_calm : (config : Config) (who : Callers) (b : Bases) (has : Has) (n : ℕ) (t u : Turn) → SamePlain n t u → AllAsked (IsCallOn config who b) u.outs → Calm config who b has n t u
plain_calm config who b has n t u s asked = record {
  same = record { stores = s.stores; commits = s.commits };
  lead = λ h. subst (LeadStands config b has n) (sym s.lead) h;
  outs = (s.outs.0, s.outs.1, all_calm config who b has t.node.generation n s.outs.0 s.outs.2 (last_part (IsAsked (IsCallOn config who b)) t.outs s.outs.0 (subst (AllAsked (IsCallOn config who b)) s.outs.1 asked)));
}

-- ---- parts of other steps

module _ (config : Config) (who : Callers) (b : Bases) (has : Has) (me : ℕ) where
  pub sends_calm : (g : ℕ) (ns : List ℕ) (m : Msg) (t : Turn) → Stands config b has g me m → Calm config who b has me t (posts_all g me ns m t)
  unfolding IsCalm
  sends_calm g ns m t stands =
      let k = posted g me ns m t in
      record {
        same = subst (SameStores t.node) (sym k) (record { stores = λ db. refl; commits = λ db. refl });
        lead = λ h. subst (λ (y : Node). LeadStands config b has me y.lead) (sym k) h;
        outs = posted_outs (IsCalm config who b has) g me ns m t (λ i. stands);
      }

  pub send_calm : (g receiver : ℕ) (m : Msg) (t : Turn) → Stands config b has g me m → Calm config who b has me t (posts g me receiver m t)
  unfolding posts does IsCalm
  send_calm g receiver m t stands = record { same = record { stores = λ db. refl; commits = λ db. refl }; lead = λ h. h; outs = (_, refl, (stands, tt)) }

  pub note_calm : (noted : Note) (t : Turn) → IsQuietNote noted → Calm config who b has me t (notes noted t)
  unfolding notes does IsCalm
  note_calm noted t quiet = record { same = record { stores = λ db. refl; commits = λ db. refl }; lead = λ h. h; outs = (_, refl, (quiet, tt)) }

  pub refuse_calm : (call : ℕ) (w : Why) (t : Turn) → is_telling (answer.Refused w) ≡ false → RefusedSo config b (who call).0 (who call).1 w → Calm config who b has me t (answers call (answer.Refused w) t)
  unfolding answers does IsCalm
  refuse_calm call w t plain so = record { same = record { stores = λ db. refl; commits = λ db. refl }; lead = λ h. h; outs = (_, refl, (plain_refusal config who b call w plain so, tt)) }

  pub makes_calm : (number : ℕ) (t : Turn) → Calm config who b has me t (makes number t)
  unfolding makes
  makes_calm number t = record { same = record { stores = λ db. refl; commits = λ db. refl }; lead = λ h. h; outs = ([], sym (append-nil t.outs), tt) }

  pub lead_calm : (l : Lead) (t : Turn) → (LeadStands config b has me t.node.lead → LeadStands config b has me l) → Calm config who b has me t (with_lead l t)
  unfolding with_lead db_at
  lead_calm l t stands = record { same = record { stores = λ db. refl; commits = λ db. refl }; lead = stands; outs = ([], sym (append-nil t.outs), tt) }

  pub phase_calm : (p : Phase) (t : Turn) → Calm config who b has me t (with_phase p t)
  unfolding with_phase db_at
  phase_calm p t = record { same = record { stores = λ db. refl; commits = λ db. refl }; lead = λ h. h; outs = ([], sym (append-nil t.outs), tt) }

  -- another node with the same databases, that leads the same
  pub node_calm : (y : Node) (t : Turn) → y.dbs ≡ t.node.dbs → y.lead ≡ t.node.lead → Calm config who b has me t (with_node y t)
  unfolding with_node db_at
  node_calm y t dbs lead = record {
    same = (let e : (db : ℕ) → db_at db y ≡ db_at db t.node = λ db. ap (λ (ds : List Database). db_at db (record t.node { dbs = ds })) dbs in record { stores = λ db. ap (λ (d : Database). d.store) (e db); commits = λ db. ap (λ (d : Database). d.commit) (e db) });
    lead = λ h. subst (LeadStands config b has me) (sym lead) h;
    outs = ([], sym (append-nil t.outs), tt);
  }
