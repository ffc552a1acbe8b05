-- What a step at one record tells of that record and of others.
use Rattle.std.proofs.Common.{◌≡◌, ℕ, ◌+◌, Bool, true, false, List, [], ◌∷◌, ◌++◌, map, Some, refl, ap, ◌∙◌, subst}
use Rattle.std.specs.Prelude.{nat_eq, ◌&&◌}
use Rattle.std.proofs.lemmas.Bool.{and_from, eq-eqb, and_right}
use Rattle.ct_values.specs.declared.client.Answer.{Answer}
use Rattle.ct_values.specs.declared.client.Answer.TheVariants as answer
use Rattle.ct_values.specs.declared.client.ClientOp.{ClientOp}
use Rattle.ct_values.specs.declared.client.ClientOp.TheVariants as op
use Rattle.ct_values.specs.declared.client.Why.TheVariants as why
use Rattle.ct_frame.specs.declared.event.Out.{Out}
use Rattle.ct_frame.specs.declared.event.Out.TheVariants as out
use Rattle.ct_frame.specs.declared.frame.Frame.{Frame}
use Rattle.ct_call.specs.Rules.{Rules}
use Rattle.ct_rules.specs.declared.event.Act.{Act}
use Rattle.ct_rules.specs.declared.event.Act.TheVariants as act
use Rattle.ct_rules.specs.declared.event.Place.{Place}
use Rattle.ct_rules_node.specs.Records.{out_of}
use Rattle.ct_rules_node.specs.Admission.{record_in}
use Rattle.ct_rules_cluster.specs.Cluster.{Sent, Waiting}
use Rattle.ct_rules_cluster.specs.Labels.{Label, Noted}
use Rattle.ct_rules_cluster.specs.Steps.{frames_of, lines_of}
use Rattle.ct_rules_cluster.specs.Traces.{sent_label}
use Rattle.ct_law_generation.specs.Waiting.{answered, told_line, told_lines}
use Rattle.ct_rules_cluster.specs.declared.step.PendingCall.{PendingCall}
use Rattle.ct_rules_cluster.specs.declared.step.Step.{Step}
use Rattle.ct_register.specs.Register.{Register, Accepts}
use Rattle.ct_law_record.specs.Labels.{AcceptsAll}
use Rattle.ct_law_record.specs.Labels as law
use Rattle.ct_law_record.specs.World.{Mail, sent, sends}
use Rattle.ct_law_generation.specs.Shown.{is_it, mail_of, mails, is_telling, told_of, told_by, told_by_all, heard, AllAsked, labels_of}
use Rattle.ct_law_generation.proofs.Weave.{it_is_itself}
use Rattle.ct_law_generation.proofs.Speaking.{About, Told}

-- ---- what a register accepts

silent_same : (rules : Rules) (n : ℕ) (asked : ClientOp) (a : Answer) (r s : Register) → is_telling a ≡ false → Accepts rules n asked a r s → s ≡ r
unfolding is_telling
silent_same rules n asked (answer.Refused (why.TooLong m)) r s e h = absurd (cc)
silent_same rules n (op.Lock db key) (answer.Refused w) r s e h = h
silent_same rules n (op.Read db key) (answer.Refused w) r s e h = h
silent_same rules n (op.Write db key v) (answer.Refused w) r s e h = h
silent_same rules n (op.Apply db key f arg) (answer.Refused w) r s e h = h
silent_same rules n (op.Store db key v) (answer.Refused w) r s e h = h
silent_same rules n (op.Unlock db key) (answer.Refused w) r s e h = h
silent_same rules n (op.Commit db writes) (answer.Refused w) r s e h = h
silent_same rules n asked _ r s e h = absurd (cc)

heard_one : (rules : Rules) (n : ℕ) (asked : ClientOp) (a : Answer) (b : Bool) (xs : List law.Label) (r mid t : Register) → is_telling a ≡ b →
    Accepts rules n asked a r mid → AcceptsAll rules mid xs t → AcceptsAll rules r (told_of b (law.Told n asked a) ++ xs) t
unfolding told_of
heard_one rules n asked a true xs r mid t e h k = (mid, h, k)
heard_one rules n asked a false xs r mid t e h k = subst (λ (q : Register). AcceptsAll rules q xs t) (silent_same rules n asked a r mid e h) k

-- where all labels are accepted, what is heard of them is
pub accepts_heard : (rules : Rules) (xs : List law.Label) (r t : Register) → AcceptsAll rules r xs t → AcceptsAll rules r (heard xs) t
unfolding heard
accepts_heard rules [] r t h = h
accepts_heard rules (law.Told n asked a ∷ xs) r t h = heard_one rules n asked a (is_telling a) (heard xs) r h.0 t refl h.1 (accepts_heard rules xs h.0 t h.2)
accepts_heard rules (law.Unasked n a ∷ xs) r t h = absurd (h.1)
accepts_heard rules (law.Vacuumed n ∷ xs) r t h = (h.0, h.1, accepts_heard rules xs h.0 t h.2)
accepts_heard rules (law.Ended n ∷ xs) r t h = (h.0, h.1, accepts_heard rules xs h.0 t h.2)
accepts_heard rules (law.Left n ∷ xs) r t h = (h.0, h.1, accepts_heard rules xs h.0 t h.2)
accepts_heard rules (law.Joined n ∷ xs) r t h = (h.0, h.1, accepts_heard rules xs h.0 t h.2)

-- where all labels are accepted, all answers were asked for
pub accepts_asked : (rules : Rules) (xs : List law.Label) (r t : Register) → AcceptsAll rules r xs t → AllAsked xs
unfolding AllAsked
accepts_asked rules [] r t h = tt
accepts_asked rules (law.Told n asked a ∷ xs) r t h = accepts_asked rules xs h.0 t h.2
accepts_asked rules (law.Unasked n a ∷ xs) r t h = absurd (h.1)
accepts_asked rules (law.Vacuumed n ∷ xs) r t h = accepts_asked rules xs h.0 t h.2
accepts_asked rules (law.Ended n ∷ xs) r t h = accepts_asked rules xs h.0 t h.2
accepts_asked rules (law.Left n ∷ xs) r t h = accepts_asked rules xs h.0 t h.2
accepts_asked rules (law.Joined n ∷ xs) r t h = accepts_asked rules xs h.0 t h.2

-- ---- one list after another

told_more : (b : Bool) (x : law.Label) (ys zs : List law.Label) → told_of b x ++ (ys ++ zs) ≡ (told_of b x ++ ys) ++ zs
unfolding told_of
told_more true x ys zs = refl
told_more false x ys zs = refl

pub heard_more : (xs ys : List law.Label) → heard (xs ++ ys) ≡ heard xs ++ heard ys
unfolding heard
heard_more [] ys = refl
heard_more (law.Told n asked a ∷ xs) ys = ap (λ (l : List law.Label). told_of (is_telling a) (law.Told n asked a) ++ l) (heard_more xs ys) ∙ told_more (is_telling a) (law.Told n asked a) (heard xs) (heard ys)
heard_more (law.Unasked n a ∷ xs) ys = ap (λ (l : List law.Label). law.Unasked n a ∷ l) (heard_more xs ys)
heard_more (law.Vacuumed n ∷ xs) ys = ap (λ (l : List law.Label). law.Vacuumed n ∷ l) (heard_more xs ys)
heard_more (law.Ended n ∷ xs) ys = ap (λ (l : List law.Label). law.Ended n ∷ l) (heard_more xs ys)
heard_more (law.Left n ∷ xs) ys = ap (λ (l : List law.Label). law.Left n ∷ l) (heard_more xs ys)
heard_more (law.Joined n ∷ xs) ys = ap (λ (l : List law.Label). law.Joined n ∷ l) (heard_more xs ys)

pub asked_left : (xs ys : List law.Label) → AllAsked (xs ++ ys) → AllAsked xs
unfolding AllAsked
asked_left [] ys h = tt
asked_left (law.Told n asked a ∷ xs) ys h = asked_left xs ys h
asked_left (law.Unasked n a ∷ xs) ys h = absurd h
asked_left (law.Vacuumed n ∷ xs) ys h = asked_left xs ys h
asked_left (law.Ended n ∷ xs) ys h = asked_left xs ys h
asked_left (law.Left n ∷ xs) ys h = asked_left xs ys h
asked_left (law.Joined n ∷ xs) ys h = asked_left xs ys h

pub asked_right : (xs ys : List law.Label) → AllAsked (xs ++ ys) → AllAsked ys
unfolding AllAsked
asked_right [] ys h = h
asked_right (law.Told n asked a ∷ xs) ys h = asked_right xs ys h
asked_right (law.Unasked n a ∷ xs) ys h = absurd h
asked_right (law.Vacuumed n ∷ xs) ys h = asked_right xs ys h
asked_right (law.Ended n ∷ xs) ys h = asked_right xs ys h
asked_right (law.Left n ∷ xs) ys h = asked_right xs ys h
asked_right (law.Joined n ∷ xs) ys h = asked_right xs ys h

pub frames_more : (xs ys : List Out) → frames_of (xs ++ ys) ≡ frames_of xs ++ frames_of ys
unfolding frames_of
frames_more [] ys = refl
frames_more (out.Send f ∷ xs) ys = ap (λ (l : List Sent). record { frame = f; fate = Waiting } ∷ l) (frames_more xs ys)
frames_more (out.Answer call a ∷ xs) ys = frames_more xs ys
frames_more (out.Note x ∷ xs) ys = frames_more xs ys

pub list_more : {X : Type 0} (xs ys zs : List X) → xs ++ (ys ++ zs) ≡ (xs ++ ys) ++ zs
list_more [] ys zs = refl
list_more (x ∷ xs) ys zs = ap (λ (l : List _). x ∷ l) (list_more xs ys zs)

pub mails_more : (g : ℕ) (db : ℕ) (key : List ℕ) (xs ys : List Sent) → mails g db key (xs ++ ys) ≡ mails g db key xs ++ mails g db key ys
unfolding mails
mails_more g db key [] ys = refl
mails_more g db key (x ∷ xs) ys = ap (λ (l : List Mail). mail_of g db key x.frame (record_in x.frame.msg) ++ l) (mails_more g db key xs ys) ∙ list_more _ (mails g db key xs) (mails g db key ys)

pub told_by_more : (db : ℕ) (key : List ℕ) (xs ys : List Label) → told_by_all db key (xs ++ ys) ≡ told_by_all db key xs ++ told_by_all db key ys
unfolding told_by_all
told_by_more db key [] ys = refl
told_by_more db key (x ∷ xs) ys = ap (λ (l : List law.Label). told_by db key x ++ l) (told_by_more db key xs ys) ∙ list_more (told_by db key x) _ _

pub labels_more : (n : ℕ) (calls : List PendingCall) (xs ys : List Out) → labels_of n calls (xs ++ ys) ≡ labels_of n calls xs ++ labels_of n calls ys
unfolding labels_of
labels_more n calls [] ys = refl
labels_more n calls (out.Send f ∷ xs) ys = ap (λ (l : List Label). sent_label f.sender f.generation f.msg ++ l) (labels_more n calls xs ys) ∙ list_more (sent_label f.sender f.generation f.msg) _ _
labels_more n calls (out.Answer call a ∷ xs) ys = ap (λ (l : List Label). answered call a calls ++ l) (labels_more n calls xs ys) ∙ list_more (answered call a calls) _ _
labels_more n calls (out.Note x ∷ xs) ys = ap (λ (l : List Label). Noted n x ∷ l) (labels_more n calls xs ys)

-- the labels of the lines that a node's step prints are those of what the node does
pub labels_are : (s : Step) (n k : ℕ) (calls : List PendingCall) (xs : List Out) → told_lines s calls (lines_of n k xs) ≡ labels_of n calls xs
unfolding told_lines lines_of told_line labels_of
labels_are s n k calls [] = refl
labels_are s n k calls (out.Send f ∷ xs) = ap (λ (l : List Label). sent_label f.sender f.generation f.msg ++ l) (labels_are s n (k + 1) calls xs)
labels_are s n k calls (out.Answer call a ∷ xs) = ap (λ (l : List Label). answered call a calls ++ l) (labels_are s n k calls xs)
labels_are s n k calls (out.Note x ∷ xs) = ap (λ (l : List Label). Noted n x ∷ l) (labels_are s n k calls xs)

-- ---- what is sent

-- the message, or none
abbrev if_mail : Bool → Frame → List Mail
if_mail true f = record { sender = f.sender; receiver = f.receiver; msg = f.msg } ∷ []
if_mail false f = []

one_mail : (g : ℕ) (b : Bool) (db db0 : ℕ) (key key0 : List ℕ) (f : Frame) → (nat_eq f.generation g && is_it db key db0 key0) ≡ b → record_in f.msg ≡ Some (db0, key0) → mail_of g db key f (record_in f.msg) ≡ if_mail b f
unfolding mail_of
one_mail g true db db0 key key0 f e r = rw r (rw e refl)
one_mail g false db db0 key key0 f e r = rw r (rw e refl)

-- what a step at a record sends is the mail of that record
pub mails_same : (at : Place) (g me : ℕ) (xs : List Act) → Told at xs → mails g at.db at.key (frames_of (map (out_of g me at.db at.key) xs)) ≡ sent me xs
unfolding mails frames_of out_of Told About sent sends
mails_same at g me [] h = refl
mails_same at g me (act.Send receiver m ∷ xs) h =
    ap (λ (l : List Mail). l ++ mails g at.db at.key (frames_of (map (out_of g me at.db at.key) xs))) (one_mail g true at.db at.db at.key at.key (record { generation = g; sender = me; receiver = receiver; msg = m }) (and_from (nat_eq g g) _ (eq-eqb g g refl) (it_is_itself at.db at.key)) h.0)
    ∙ ap (λ (l : List Mail). record { sender = me; receiver = receiver; msg = m } ∷ l) (mails_same at g me xs h.1)
mails_same at g me (act.Answer call a ∷ xs) h = mails_same at g me xs h.1
mails_same at g me (act.Finished floor ∷ xs) h = mails_same at g me xs h.1

-- and is no mail of another
pub mails_other : (h : ℕ) (at : Place) (db : ℕ) (key : List ℕ) (g me : ℕ) (xs : List Act) → is_it db key at.db at.key ≡ false → Told at xs → mails h db key (frames_of (map (out_of g me at.db at.key) xs)) ≡ []
unfolding mails frames_of out_of Told About
mails_other h at db key g me [] e t = refl
mails_other h at db key g me (act.Send receiver m ∷ xs) e t =
    ap (λ (l : List Mail). l ++ mails h db key (frames_of (map (out_of g me at.db at.key) xs))) (one_mail h false db at.db key at.key (record { generation = g; sender = me; receiver = receiver; msg = m }) (and_right (nat_eq g h) _ e) t.0)
    ∙ mails_other h at db key g me xs e t.1
mails_other h at db key g me (act.Answer call a ∷ xs) e t = mails_other h at db key g me xs e t.1
mails_other h at db key g me (act.Finished floor ∷ xs) e t = mails_other h at db key g me xs e t.1
