-- What a step at one record tells of that record is what its world tells, and it tells nothing of another.
use Rattle.std.proofs.Common.{◌≡◌, ℕ, Bool, true, false, List, [], ◌∷◌, ◌++◌, map, Option, Some, None, refl, sym, ap, ◌∙◌, subst}
use Rattle.std.specs.Prelude.{◌&&◌}
use Rattle.std.proofs.lemmas.Bool.{and_right}
use Rattle.ct_values.specs.Client.{db_of, key_of}
use Rattle.ct_values.specs.declared.client.Answer.{Answer}
use Rattle.ct_values.specs.declared.client.ClientOp.{ClientOp}
use Rattle.ct_frame.specs.declared.event.Note.TheVariants as note
use Rattle.ct_frame.specs.declared.frame.Msg.{Msg}
use Rattle.ct_frame.specs.declared.frame.Msg.TheVariants as msg
use Rattle.ct_rules.specs.declared.event.Act.{Act}
use Rattle.ct_rules.specs.declared.event.Act.TheVariants as act
use Rattle.ct_rules_node.specs.Records.{out_of}
use Rattle.ct_rules_cluster.specs.Labels.{Label, Noted}
use Rattle.ct_rules_cluster.specs.Traces.{sent_label}
use Rattle.ct_law_generation.specs.Waiting.{answered}
use Rattle.ct_rules_cluster.specs.declared.step.PendingCall.{PendingCall}
use Rattle.ct_law_record.specs.Labels as law
use Rattle.ct_law_record.specs.World.{told, answers, call_of}
use Rattle.ct_law_generation.specs.Shown.{is_it, is_telling, told_of, told_by, told_by_all, heard, AllAsked, labels_of, Finds}
use Rattle.ct_law_generation.proofs.Weave.{it_is_itself}
use Rattle.ct_law_generation.proofs.Hearing.{asked_right}

pub sent_quiet : (db : ℕ) (key : List ℕ) (n g : ℕ) (m : Msg) (rest : List Label) → told_by_all db key (sent_label n g m ++ rest) ≡ told_by_all db key rest
unfolding sent_label told_by_all told_by
sent_quiet db key n g (msg.Push members table ptables assigned) rest = refl
sent_quiet db key n g (msg.Take number assigned) rest = refl
sent_quiet db key n g _ rest = refl

send_answers : (n : ℕ) (x : Option ClientOp) (receiver : ℕ) (m : Msg) → answers n x (act.Send receiver m) ≡ []
unfolding answers
send_answers n None receiver m = refl
send_answers n (Some asked) receiver m = refl

finished_answers : (n : ℕ) (x : Option ClientOp) (floor : ℕ) → answers n x (act.Finished floor) ≡ law.Vacuumed n ∷ []
unfolding answers
finished_answers n None floor = refl
finished_answers n (Some asked) floor = refl

telling_same : (a b : Bool) → b ≡ true → (a && b) ≡ a
telling_same true b e = e
telling_same false b e = refl

told_none : (x : law.Label) (rest : List law.Label) → told_of false x ++ rest ≡ rest
unfolding told_of
told_none x rest = refl

finished_same : (db : ℕ) (key : List ℕ) (n : ℕ) → is_it db key db key ≡ true → (rest : List Label) → told_by_all db key (Noted n (note.Vacuumed db key) ∷ rest) ≡ law.Vacuumed n ∷ told_by_all db key rest
unfolding told_by_all told_by told_of
finished_same db key n e rest = rw e refl

finished_other : (db db0 : ℕ) (key key0 : List ℕ) (n : ℕ) → is_it db key db0 key0 ≡ false → (rest : List Label) → told_by_all db key (Noted n (note.Vacuumed db0 key0) ∷ rest) ≡ told_by_all db key rest
unfolding told_by_all told_by told_of
finished_other db db0 key key0 n e rest = rw e refl

-- ---- of the same record

answer_same : (db : ℕ) (key : List ℕ) (n call : ℕ) (a : Answer) (calls : List PendingCall) (asks : ℕ → Option ClientOp) (rest : List Label) (more : List law.Label) (x : Option ClientOp) → asks call ≡ x →
    Finds db key n calls asks → AllAsked (answers n x (act.Answer call a) ++ more) → told_by_all db key rest ≡ heard more →
    told_by_all db key (answered call a calls ++ rest) ≡ heard (answers n x (act.Answer call a) ++ more)
unfolding answers AllAsked told_by_all told_by heard
answer_same db key n call a calls asks rest more None e f h same = absurd h
answer_same db key n call a calls asks rest more (Some asked) e f h same =
    let p = f.about call asked e in
    let it : is_it db key (db_of asked) (key_of asked) ≡ true = subst (λ (d : ℕ). is_it db key d (key_of asked) ≡ true) (sym p.0) (subst (λ (k : List ℕ). is_it db key db k ≡ true) (sym p.1) (it_is_itself db key)) in
    ap (λ (l : List Label). told_by_all db key (l ++ rest)) (f.found call asked e a)
    ∙ ap (λ (b : Bool). told_of b (law.Told n asked a) ++ told_by_all db key rest) (telling_same (is_telling a) _ it)
    ∙ ap (λ (l : List law.Label). told_of (is_telling a) (law.Told n asked a) ++ l) same

pub hear_same : (db : ℕ) (key : List ℕ) (g n : ℕ) (calls : List PendingCall) (asks : ℕ → Option ClientOp) (xs : List Act) → Finds db key n calls asks → AllAsked (told n asks xs) →
    told_by_all db key (labels_of n calls (map (out_of g n db key) xs)) ≡ heard (told n asks xs)
unfolding told labels_of out_of call_of told_by_all heard
hear_same db key g n calls asks [] f h = refl
hear_same db key g n calls asks (act.Send receiver m ∷ xs) f h =
    sent_quiet db key n g m _ ∙ hear_same db key g n calls asks xs f (asked_right (answers n (asks 0) (act.Send receiver m)) _ h)
    ∙ ap (λ (l : List law.Label). heard (l ++ told n asks xs)) (sym (send_answers n (asks 0) receiver m))
hear_same db key g n calls asks (act.Answer call a ∷ xs) f h =
    answer_same db key n call a calls asks _ (told n asks xs) (asks call) refl f h (hear_same db key g n calls asks xs f (asked_right (answers n (asks call) (act.Answer call a)) _ h))
hear_same db key g n calls asks (act.Finished floor ∷ xs) f h =
    finished_same db key n (it_is_itself db key) _ ∙ ap (λ (l : List law.Label). law.Vacuumed n ∷ l) (hear_same db key g n calls asks xs f (asked_right (answers n (asks 0) (act.Finished floor)) _ h))
    ∙ ap (λ (l : List law.Label). heard (l ++ told n asks xs)) (sym (finished_answers n (asks 0) floor))

-- ---- of another record

answer_other : (db db0 : ℕ) (key key0 : List ℕ) (n call : ℕ) (a : Answer) (calls : List PendingCall) (asks : ℕ → Option ClientOp) (rest : List Label) (more : List law.Label) (x : Option ClientOp) → asks call ≡ x →
    is_it db key db0 key0 ≡ false → Finds db0 key0 n calls asks → AllAsked (answers n x (act.Answer call a) ++ more) → told_by_all db key rest ≡ [] →
    told_by_all db key (answered call a calls ++ rest) ≡ []
unfolding answers AllAsked told_by_all told_by
answer_other db db0 key key0 n call a calls asks rest more None e apart f h same = absurd h
answer_other db db0 key key0 n call a calls asks rest more (Some asked) e apart f h same =
    let p = f.about call asked e in
    let it : is_it db key (db_of asked) (key_of asked) ≡ false = subst (λ (d : ℕ). is_it db key d (key_of asked) ≡ false) (sym p.0) (subst (λ (k : List ℕ). is_it db key db0 k ≡ false) (sym p.1) apart) in
    ap (λ (l : List Label). told_by_all db key (l ++ rest)) (f.found call asked e a)
    ∙ ap (λ (b : Bool). told_of b (law.Told n asked a) ++ told_by_all db key rest) (and_right (is_telling a) _ it)
    ∙ told_none (law.Told n asked a) (told_by_all db key rest) ∙ same

pub hear_other : (db db0 : ℕ) (key key0 : List ℕ) (g n : ℕ) (calls : List PendingCall) (asks : ℕ → Option ClientOp) (xs : List Act) → is_it db key db0 key0 ≡ false →
    Finds db0 key0 n calls asks → AllAsked (told n asks xs) → told_by_all db key (labels_of n calls (map (out_of g n db0 key0) xs)) ≡ []
unfolding told labels_of out_of call_of told_by_all
hear_other db db0 key key0 g n calls asks [] apart f h = refl
hear_other db db0 key key0 g n calls asks (act.Send receiver m ∷ xs) apart f h =
    sent_quiet db key n g m _ ∙ hear_other db db0 key key0 g n calls asks xs apart f (asked_right (answers n (asks 0) (act.Send receiver m)) _ h)
hear_other db db0 key key0 g n calls asks (act.Answer call a ∷ xs) apart f h =
    answer_other db db0 key key0 n call a calls asks _ (told n asks xs) (asks call) refl apart f h (hear_other db db0 key key0 g n calls asks xs apart f (asked_right (answers n (asks call) (act.Answer call a)) _ h))
hear_other db db0 key key0 g n calls asks (act.Finished floor ∷ xs) apart f h =
    finished_other db db0 key key0 n apart _ ∙ hear_other db db0 key key0 g n calls asks xs apart f (asked_right (answers n (asks 0) (act.Finished floor)) _ h)
