-- How the command ends.
use Rattle.std.proofs.Common.{◌≡◌, ◌∙◌, ℕ, ◌≤◌, List, [], ◌++◌, length, Option, Result, Ok, Err, refl, sym, ap, subst, append_assoc, inl, inr, arith}
use Rattle.std.specs.Io.KnownBytes.{Appends}
use Rattle.std.specs.Prelude.{OnErr, OnOk}
use Rattle.std.proofs.KnownBytes.{Appends-nil, Appends-trans}
use Rattle.ct_outside.specs.Causes.{AppendsPart}
use Rattle.ct_outside.specs.declared.fault.SinkFault.{SinkFault}
use Rattle.ct_outside.specs.declared.fault.SinkFault.TheVariants as sink
use Rattle.ct_call.specs.Rules.{Rules}
use Rattle.ct_script.specs.declared.plan.Plan.{Plan}
use Rattle.ct_journal.specs.declared.journal.Journal.{Journal}
use Rattle.ct_script.specs.Scripts.{cluster_plan}
use Rattle.ct_chain.proofs.Cutting.{length_cut}
use Rattle.ct_troupe_run.specs.declared.running.End.{End}
use Rattle.ct_troupe_run.specs.declared.running.End.TheVariants as end
use Rattle.ct_troupe_run.specs.Chains.{HasCutRange, RunsColumns, WritesChains, chains_summary, chains_text, plans_of}
use Rattle.ct_troupe_run.specs.Columns.{AreColumns, Column, WritesColumns, all_counts, columns_text}
use Rattle.ct_troupe_run.specs.declared.chains.CutWanted.{CutWanted}
use Rattle.ct_troupe_run.specs.declared.columns.Counts.{Counts}

-- ---- the writes

-- a front of the columns' texts is a front of the whole
pub columns_failed : (rules : Rules) (x : CutWanted) (ps : List Plan) (told : ℕ → List Journal) (f : SinkFault) (before now : Option (List ℕ)) → WritesColumns rules ps told (Err f) before now → WritesChains rules x ps told (Err f) before now
columns_failed rules x ps told f before now w =
    let line = chains_summary x (all_counts w.0) in
    (w.0, w.1, (w.2.0, w.2.1 ++ line, ap (λ (t : List ℕ). t ++ line) w.2.2 ∙ append_assoc w.2.0 w.2.1 line, w.2.3))

-- the columns' texts were written, and a front of the line
pub summary_failed : (rules : Rules) (x : CutWanted) (ps : List Plan) (told : ℕ → List Journal) (counts : Counts) (f : SinkFault) (line : List ℕ) (before between now : Option (List ℕ)) → WritesColumns rules ps told (Ok counts) before between
    → line ≡ chains_summary x counts → AppendsPart between now line → WritesChains rules x ps told (Err f) before now
summary_failed rules x ps told counts f line before between now w is (front, back, parts, wrote) =
    let text = columns_text 0 w.0 in
    let same : chains_summary x (all_counts w.0) ≡ front ++ back = ap (chains_summary x) (sym w.2) ∙ sym is ∙ parts in
    (w.0, w.1, (text ++ front, back, ap (λ (t : List ℕ). text ++ t) same ∙ sym (append_assoc text front back), Appends-trans before between now text front w.3 wrote))

-- only the columns' texts were written
pub columns_alone : (rules : Rules) (x : CutWanted) (ps : List Plan) (told : ℕ → List Journal) (counts : Counts) (f : SinkFault) (before now : Option (List ℕ)) → WritesColumns rules ps told (Ok counts) before now → WritesChains rules x ps told (Err f) before now
columns_alone rules x ps told counts f before now w = (w.0, w.1, (columns_text 0 w.0, chains_summary x (all_counts w.0), refl, w.3))

-- all was written
pub all_written : (rules : Rules) (x : CutWanted) (ps : List Plan) (told : ℕ → List Journal) (counts : Counts) (line : List ℕ) (before between now : Option (List ℕ)) → WritesColumns rules ps told (Ok counts) before between
    → line ≡ chains_summary x counts → Appends between now line → WritesChains rules x ps told (Ok tt) before now
all_written rules x ps told counts line before between now w is wrote =
    (w.0, w.1, Appends-trans before between now (columns_text 0 w.0) (chains_summary x (all_counts w.0)) w.3 (subst (λ (t : List ℕ). Appends between now t) (is ∙ ap (chains_summary x) w.2) wrote))

-- the columns' texts were written, and the line, or a front of it
pub line_ends : (rules : Rules) (x : CutWanted) (ps : List Plan) (told : ℕ → List Journal) (counts : Counts) (r : Result (Unit {0}) SinkFault) (line : List ℕ) (before between now : Option (List ℕ)) → WritesColumns rules ps told (Ok counts) before between
    → line ≡ chains_summary x counts → OnOk r (Appends between now line) → OnErr r (AppendsPart between now line) → WritesChains rules x ps told r before now
line_ends rules x ps told counts (Ok u) line before between now w is ok err = all_written rules x ps told counts line before between now w is ok
line_ends rules x ps told counts (Err f) line before between now w is ok err = summary_failed rules x ps told counts f line before between now w is err

-- ---- the end

pub few_plans : (x : CutWanted) (ps : List Plan) → HasCutRange x → ps ≡ plans_of x → length ps ≤ 8
few_plans x ps h is =
    let e : length ps ≡ x.chains = ap (λ (l : List Plan). length l) is ∙ length_cut (cluster_plan x.nodes x.calls x.seed) x.chains in
    let l = h.few_chains in omega (arith, e, l)

pub unwritten : (rules : Rules) (x : CutWanted) (told : ℕ → List Journal) (now : Option (List ℕ)) → RunsColumns rules x end.NoMemory told now now
unwritten rules x told now = inl refl

-- what an end of the writes says
abbrev pub end_of : Result (Unit {0}) SinkFault → End
end_of (Ok u) = end.Done
end_of (Err sink.Failed) = end.WriteFault
end_of (Err sink.NoMemory) = end.NoMemory

written_of : (rules : Rules) (x : CutWanted) (told : ℕ → List Journal) (r : Result (Unit {0}) SinkFault) (before now : Option (List ℕ)) → WritesChains rules x (plans_of x) told r before now → RunsColumns rules x (end_of r) told before now
written_of rules x told (Ok u) before now w = w
written_of rules x told (Err sink.Failed) before now w = w
written_of rules x told (Err sink.NoMemory) before now w = inr w

pub written : (rules : Rules) (x : CutWanted) (ps : List Plan) (told : ℕ → List Journal) (r : Result (Unit {0}) SinkFault) (before now : Option (List ℕ)) → ps ≡ plans_of x → WritesChains rules x ps told r before now → RunsColumns rules x (end_of r) told before now
written rules x ps told r before now is w = written_of rules x told r before now (subst (λ (qs : List Plan). WritesChains rules x qs told r before now) is w)
