-- What a node tells of a Thaw is of records of the line, and where all members have installed it, the cluster goes on.
use Rattle.std.proofs.Common.{◌≡◌, ℕ, List, [], ◌∷◌, map, Option, Some, None, refl, sym, ap, subst, true, false, inl, ⊎_elim, ◌∙◌, ◌++◌}
use Rattle.std.specs.List.{AllByRecursion}
use Rattle.std.proofs.lemmas.Bool.{cases_Bool}
use Rattle.ct_values.specs.declared.config.Config.{Config}
use Rattle.ct_frame.specs.declared.event.Note.TheVariants as note
use Rattle.ct_frame.specs.declared.event.Out.TheVariants as out
use Rattle.ct_call.specs.Rules.{Rules}
use Rattle.ct_rules.specs.Parts.{Moving}
use Rattle.ct_rules.specs.declared.state.Wish.{Wish}
use Rattle.ct_rules_node.specs.Node.{Installed, state_at, db_at, Node, Serving}
use Rattle.ct_rules_node.specs.Turn.{Turn, notes, does, with_phase, begins}
use Rattle.ct_rules_node.specs.Records as node
use Rattle.ct_rules_node.specs.Records.{out_of, acted, at_record, place_of}
use Rattle.ct_rules_node.specs.Rounds.{Called, want_again, want_again_of, want_all, thaws, pending_calls}
use Rattle.ct_law_rules_node.specs.NodeLaws.{left_by}
use Rattle.ct_rules_cluster.specs.Labels.{Noted, Label}
use Rattle.ct_rules_cluster.specs.declared.step.PendingCall.{PendingCall}
use Rattle.ct_register.specs.Lines.{Lines}
use Rattle.ct_law_record.specs.World.{World, waiting_call}
use Rattle.ct_law_generation.specs.Shown.{Era, labels_of, IsOfLine, AllInstalled, Finds, project, scene}
use Rattle.ct_law_generation.proofs.Pending.{Callers}
use Rattle.ct_law_generation.proofs.Following.{Goes_on, known_wish, Asks, asks_here, finds_waiting}
use Rattle.ct_law_generation.proofs.Lining.{Is_fit, kept_fit, labels_kept}
use Rattle.ct_law_generation.proofs.Staying.{NodeStays, AllWishes, Of_records}
use Rattle.ct_law_generation.proofs.Vacuumed.{Found, goes_more, finds_waited}
use Rattle.ct_law_generation.proofs.Thawed.{Thaws_from, Thaws_at, again_fair, again_goes, again_wishes, wants_before, thaws_at, thawing, thawing_goes, thaws_go}
use Rattle.ct_law_generation.proofs.Assembled.{Starts, Starts_at, starts_at, Tells, Run_goes, pending_tells}
use Rattle.ct_promise.specs.Generation.{speaks_of_records, is_note_of_records, record_labels}
use Rattle.ct_law_generation.proofs.Retried.{AllInside}
use Rattle.ct_law_generation.proofs.Kept.{tells_more}
use Rattle.ct_law_generation.proofs.Resending.{pending_inside}
use Rattle.ct_rules_cluster.specs.Steps.{Stepped, put}
use Rattle.ct_rules_cluster.specs.Cluster.{Cluster, pending, is_up, node_at}
use Rattle.ct_frame.specs.declared.frame.Frame.{Frame}
use Rattle.ct_rules_cluster.specs.declared.step.Step.{Step}
use Rattle.ct_rules_node.specs.Steps.{arrives}
use Rattle.ct_rules_cluster.specs.Traces as traces
use Rattle.ct_law_generation.specs.Waiting.{answerable, told_step}
use Rattle.ct_frame.specs.declared.frame.Msg.TheVariants as msg
use Rattle.ct_rules_cluster.specs.Traces.{own_labels}
use Rattle.ct_law_generation.proofs.Delivering.{begun}
use Rattle.ct_law_generation.proofs.Coming.{Cluster_goes, put_goes, goes_nowhere}
use Rattle.ct_law_generation.proofs.Clusters.{all_known}
use Rattle.ct_rules_node.specs.Admission.{is_sound}
use Rattle.ct_law_generation.proofs.Rounding.{arrives_thaw}

-- ---- at one record

-- what the call tells that wants its record anew, where one waits
again_kept : (c : Config) (era : Era) (rules : Rules) (reg : Lines) (who : Callers) (calls n db : ℕ) (key : List ℕ) (pend : List PendingCall) (w : World) (t : Turn) → Starts_at c era rules reg n → NodeStays c era rules who calls n t.node → Thaws_at c era rules n db key pend w t →
    AllByRecursion (Is_fit c era.number reg) (labels_of n pend (map (out_of t.node.generation n db key) (left_by c n db key (want_again rules) t).acts))
unfolding want_again want_again_of node.view place_of labels_of
again_kept c era rules reg who calls n db key pend w t is h k = either (state_at db key t.node).wish refl
  where
    either : (o : Option Wish) → (state_at db key t.node).wish ≡ o → AllByRecursion (Is_fit c era.number reg) (labels_of n pend (map (out_of t.node.generation n db key) (left_by c n db key (want_again rules) t).acts))
    either None e =
        subst (λ (o : Moving). AllByRecursion (Is_fit c era.number reg) (labels_of n pend (map (out_of t.node.generation n db key) o.acts)))
        (sym (ap (λ (o : Option Wish). want_again_of (place_of c n db key t.node) rules (node.view db key t.node) o) e)) tt
    either (Some x) e =
        let f = again_fair c era rules who calls n db key pend w t is.era_is is.member h k in
        kept_fit c era.number reg _ (labels_kept c era.number reg (place_of c n db key t.node) t.node.generation n pend (waiting_call (state_at db key t.node).wish) (left_by c n db key (want_again rules) t).acts
        is.line (known_wish (Of_records c db key) (state_at db key t.node).wish x e (h.waits db key)) f.sends f.finds f.asked)

again_tells : (c : Config) (era : Era) (rules : Rules) (reg : Lines) (who : Callers) (calls n db : ℕ) (key : List ℕ) (pend : List PendingCall) (w : World) (t : Turn) → Starts_at c era rules reg n → NodeStays c era rules who calls n t.node → Thaws_at c era rules n db key pend w t →
    Tells c era reg n pend t → Tells c era reg n pend (at_record c n db key (want_again rules) t)
unfolding at_record acted
again_tells c era rules reg who calls n db key pend w t is h k before =
    tells_more c era reg n pend t.outs (map (out_of t.node.generation n db key) (left_by c n db key (want_again rules) t).acts) before (again_kept c era rules reg who calls n db key pend w t is h k)

-- ---- one call after the other

wants_tell : (c : Config) (era : Era) (rules : Rules) (reg : Lines) (who : Callers) (calls n : ℕ) (xs : List Called) (pend : List PendingCall) (ws : ℕ → List ℕ → World) (t0 t : Turn) → Starts_at c era rules reg n → Thaws_from c era rules n ws t0 → AllInside c xs → AllWishes (Found n pend) t.node →
    Goes_on c era rules who calls n pend ws t0 t → Tells c era reg n pend t → (want_all c rules n xs t).spent ≡ false → Tells c era reg n pend (want_all c rules n xs t)
unfolding want_all
wants_tell c era rules reg who calls n [] pend ws t0 t is from inside all g before spent = before
wants_tell c era rules reg who calls n (x ∷ xs) pend ws t0 t is from inside all g before spent =
    let u = at_record c n x.db x.key (want_again rules) t in
    let k = thaws_at c era rules who calls n x pend ws t0 t from inside.0 all g (wants_before c rules n xs u spent) in
    wants_tell c era rules reg who calls n xs pend ws t0 u is from inside.1 (again_wishes (Found n pend) c rules n x.db x.key t g.0.known.order k.there all)
    (goes_more c era rules who calls n pend ws t0 t u g (again_goes c era rules who calls n x.db x.key pend ws t from.real from.member g.0 k))
    (again_tells c era rules reg who calls n x.db x.key pend (ws x.db x.key) t is g.0 k before) spent

-- ---- the whole Thaw

-- its note is of the line
note_fits : (c : Config) (era : Era) (rules : Rules) (reg : Lines) (n : ℕ) → Starts_at c era rules reg n → AllInstalled era.number reg → Is_fit c era.number reg (Noted n (note.Thawed era.number))
unfolding Is_fit IsOfLine speaks_of_records is_note_of_records
note_fits c era rules reg n is installed = inl (record { own = (refl, is.line, installed); speaks = refl })

-- the note, and then what is of records of the line
pub thaws_tell : (c : Config) (era : Era) (rules : Rules) (reg : Lines) (who : Callers) (calls n : ℕ) (pend : List PendingCall) (ws : ℕ → List ℕ → World) (t : Turn) → Starts_at c era rules reg n → AllInstalled era.number reg → Thaws_from c era rules n ws t → NodeStays c era rules who calls n t.node →
    ((db : ℕ) (key : List ℕ) → Finds db key n pend (waiting_call (state_at db key t.node).wish)) → Tells c era reg n pend t → (thaws c rules n era.number t).spent ≡ false → Tells c era reg n pend (thaws c rules n era.number t)
unfolding thaws notes does with_phase state_at db_at labels_of
thaws_tell c era rules reg who calls n pend ws t is installed from h finds before spent =
    wants_tell c era rules reg who calls n (pending_calls t.node) pend ws t (thawing era.number t) is from (pending_inside c t.node h.size) (λ db key. finds_waited db key n pend (state_at db key t.node).wish (finds db key))
    (thawing_goes c era rules who calls n era.number pend ws t h)
    (tells_more c era reg n pend t.outs (out.Note (note.Thawed era.number) ∷ []) before (note_fits c era rules reg n is installed, tt)) spent

-- ---- a Thaw comes to a node

-- the node and every record's world go on, and what is told fits
abbrev Follows_thaw : Config → Era → Rules → Lines → Callers → Cluster → ℕ → Turn → Type 0
Follows_thaw c era rules reg who w n u = Goes_on c era rules who w.calls n (pending w) (λ db key. project era.number db key w) (begins (node_at n w)) u × Tells c era reg n (pending w) u

-- where the node has installed the generation, all members have
installed_all : (c : Config) (era : Era) (rules : Rules) (reg : Lines) (who : Callers) (calls n : ℕ) (x : Node) → Starts c era rules reg → NodeStays c era rules who calls n x → x.phase ≡ Installed → AllInstalled era.number reg
installed_all c era rules reg who calls n x is h phase = ⊎_elim
    (λ (warm : era.thawed ≡ true). absurd (let e : Installed ≡ Serving = sym phase ∙ h.serves warm in cc))
    (λ (cold : era.thawed ≡ false). is.ready cold)
    (cases_Bool era.thawed)

thaw_follows : (c : Config) (era : Era) (rules : Rules) (reg : Lines) (ls : List Label) (w : Cluster) (n : ℕ) (f : Frame) → Starts c era rules reg → (h : Run_goes c era rules reg ls w) → is_up n w ≡ true → (arrives c rules n f (begins (node_at n w)) msg.Thaw).spent ≡ false →
    Follows_thaw c era rules reg h.who w n (arrives c rules n f (begins (node_at n w)) msg.Thaw)
unfolding labels_of
thaw_follows c era rules reg ls w n f is h up spent =
    let t = begins (node_at n w) in
    let ws : ℕ → List ℕ → World = λ db key. project era.number db key w in
    let inside = h.goes.0.up n up in
    let stays = h.goes.0.nodes n inside in
    let from : Thaws_from c era rules n ws t = record {
      real = is.era_is;
      member = inside;
      small = is.small;
      reached = λ db key. subst (λ (v : World). Asks (scene c era rules db key) v) (begun era.number db key n w) (asks_here c era rules w ls h.goes.1 is.era_is h.goes.2 db key);
    } in
    let finds = λ (db : ℕ) (key : List ℕ). finds_waiting h.who w.calls n db key w (all_known c era rules h.who w h.goes.0) in ⊎_elim
    (λ (none : arrives c rules n f t msg.Thaw ≡ t). subst (λ (u : Turn). Follows_thaw c era rules reg h.who w n u) (sym none) (goes_nowhere c era rules h.who w.calls n (pending w) ws t stays, tt))
    (λ (k : (t.node.phase ≡ Installed) × (f.generation ≡ era.number) × (is_sound c f ≡ true) × (arrives c rules n f t msg.Thaw ≡ thaws c rules n era.number t)).
    let whole = sym (ap (λ (u : Turn). u.spent) k.3) ∙ spent in
    subst (λ (u : Turn). Follows_thaw c era rules reg h.who w n u) (sym k.3) (
      thaws_go c era rules h.who w.calls n era.number (pending w) ws t from stays finds whole,
      thaws_tell c era rules reg h.who w.calls n (pending w) ws t (starts_at c era rules reg n is inside) (installed_all c era rules reg h.who w.calls n t.node is stays k.0) from stays finds tt whole,
    ))
    (arrives_thaw c rules n era.number f t stays.present)

-- so the run goes on
pub thaw_taken : (c : Config) (era : Era) (rules : Rules) (reg : Lines) (ls : List Label) (w v : Cluster) (s : Step) (n : ℕ) (f : Frame) (x : Stepped) → Starts c era rules reg → Run_goes c era rules reg ls v → is_up n v ≡ true → (arrives c rules n f (begins (node_at n v)) msg.Thaw).spent ≡ false →
    answerable w s ≡ pending v → record_labels c (own_labels w s x.lines) ≡ [] → x ≡ put n (arrives c rules n f (begins (node_at n v)) msg.Thaw) [] v → Run_goes c era rules reg (ls ++ record_labels c (told_step w s x.lines)) x.cluster
thaw_taken c era rules reg ls w v s n f x is h up spent calls none taken =
    let u = arrives c rules n f (begins (node_at n v)) msg.Thaw in
    let g = thaw_follows c era rules reg ls v n f is h up spent in
    pending_tells c era rules reg ls w v s n u x h g.1 calls none taken
    (subst (λ (y : Stepped). Cluster_goes c era rules h.who y.cluster (ls ++ labels_of n (pending v) u.outs)) (sym taken) (put_goes c era rules h.who v n u ls h.goes.1 (h.goes.0.up n up) h.goes.0 h.goes.2 g.0))
