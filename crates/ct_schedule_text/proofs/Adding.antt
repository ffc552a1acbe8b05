-- What is told first, and then what follows it.
use Rattle.std.proofs.Common.{◌≡◌, ◌∙◌, ◌+◌, ◌<◌, ◌≤◌, ◌++◌, ℕ, suc, true, List, [], ◌∷◌, length, drop, get_or, Option, None, Some, refl, sym, ap, ap₂, append_assoc, append-nil, add-one, drop-cons}
use Rattle.std.proofs.lemmas.Grind.{flat_map-append}
use Rattle.std.proofs.lemmas.List.{drop_all}
use Rattle.std.proofs.lemmas.Option.{same_Some}
use Rattle.std.specs.List.{flat_map}
use Rattle.ct_rules_cluster.specs.declared.step.Line.{Line}
use Rattle.ct_frame.specs.declared.event.Out.{Out}
use Rattle.ct_journal.specs.Order.{next_entry}
use Rattle.ct_journal.specs.declared.journal.Journal.{Journal}
use Rattle.ct_values.specs.declared.config.Config.{Config}
use Rattle.ct_text.specs.Line.{line_text}
use Rattle.ct_schedule_text.specs.Telling.{AddsLines, AreLines, Telling, ToldLines, lines_then, first_telling, told_from, told_if_next, told_out, told_outs, lines_before}

-- how far lines are told, and their text
pub record Text : Type 0 where
  pub telling : Telling
  pub text : List ℕ

-- this text, and then the lines of what is told
abbrev pub text_after : Config → List ℕ → Option ToldLines → Option Text
text_after c text None = None
text_after c text (Some u) = Some (record { telling = u.telling; text = text ++ flat_map (line_text c) u.lines })

-- a call that tells adds just these lines
pub adds_text : (c : Config) (o : Option ToldLines) (t : Telling) (before now : List ℕ) → AddsLines c true o t before now → text_after c before o ≡ Some (record { telling = t; text = now })
adds_text c None t before now h = absurd h
adds_text c (Some u) t before now h = ap₂ (λ (s : Telling) (l : List ℕ). Some (record { telling = s; text = l })) (sym h.0) (sym h.1)

pub text_adds : (c : Config) (o : Option ToldLines) (t : Telling) (before now : List ℕ) → text_after c before o ≡ Some (record { telling = t; text = now }) → AddsLines c true o t before now
text_adds c None t before now e = absurd (cc)
text_adds c (Some u) t before now e = let s = same_Some _ _ e in (sym (ap (λ (x : Text). x.telling) s), sym (ap (λ (x : Text). x.text) s))

-- some lines are told, and the others later
told_later : (c : Config) (before : List ℕ) (ls : List Line) (o : Option ToldLines) → text_after c (before ++ flat_map (line_text c) ls) o ≡ text_after c before (lines_before ls o)
unfolding lines_before
told_later c before ls None = refl
told_later c before ls (Some u) =
    ap (λ (l : List ℕ). Some (record { telling = u.telling; text = l }))
    (append_assoc before (flat_map (line_text c) ls) (flat_map (line_text c) u.lines) ∙ ap (λ (l : List ℕ). before ++ l) (sym (flat_map-append (line_text c) ls u.lines)))

pub adds_then : (c : Config) (o : Option ToldLines) (go : Telling → Option ToldLines) (t : Telling) (before now : List ℕ) → AddsLines c true o t before now → text_after c now (go t) ≡ text_after c before (lines_then o go)
unfolding lines_then
adds_then c None go t before now h = absurd h
adds_then c (Some u) go t before now h = ap₂ (λ (s : Telling) (l : List ℕ). text_after c l (go s)) h.0 h.1 ∙ told_later c before u.lines (go u.telling)

-- one call that tells, and then another
pub adds_both : (c : Config) (o : Option ToldLines) (go : Telling → Option ToldLines) (s t : Telling) (before amid now : List ℕ) → AddsLines c true o s before amid → AddsLines c true (go s) t amid now → AddsLines c true (lines_then o go) t before now
adds_both c o go s t before amid now first second = text_adds c (lines_then o go) t before now (sym (adds_then c o go s before amid first) ∙ adds_text c (go s) t amid now second)

-- ---- what a node does

pub outs_more : (c : Config) (node : ℕ) (os : List Out) (i : ℕ) (o : Out) (s t : Telling) (before now : List ℕ) (whole : Option Text) → i < length os → o ≡ get_or os i o
    → AddsLines c true (told_out node o s) t before now → text_after c before (told_outs node (drop i os) s) ≡ whole → text_after c now (told_outs node (drop (i + 1) os) t) ≡ whole
unfolding told_outs
outs_more c node os i o s t before now whole l is more left =
    ap (λ (j : ℕ). text_after c now (told_outs node (drop j os) t)) (add-one i)
    ∙ adds_then c (told_out node o s) (told_outs node (drop (suc i) os)) t before now more
    ∙ ap (λ (os : List Out). text_after c before (told_outs node os s)) (ap (λ (u : Out). u ∷ drop (suc i) os) is ∙ sym (drop-cons os i o l))
    ∙ left

pub outs_end : (c : Config) (node : ℕ) (os : List Out) (i : ℕ) (s t : Telling) (before now : List ℕ) → length os ≤ i → text_after c now (told_outs node (drop i os) t) ≡ text_after c before (told_outs node os s) → AddsLines c true (told_outs node os s) t before now
unfolding told_outs
outs_end c node os i s t before now l left =
    text_adds c (told_outs node os s) t before now
    (sym left ∙ ap (λ (xs : List Out). text_after c now (told_outs node xs t)) (drop_all i os l) ∙ ap (λ (x : List ℕ). Some (record { telling = t; text = x })) (append-nil now))

-- ---- the lines of journals

pub from_more : (c : Config) (js : List Journal) (ns : List ℕ) (i d : ℕ) (s t : Telling) (before now : List ℕ) (whole : Option Text) → i < length ns
    → AddsLines c true (told_if_next (get_or ns i d) (next_entry js s.front (get_or ns i d)) s) t before now → text_after c before (told_from js (drop i ns) s) ≡ whole → text_after c now (told_from js (drop (i + 1) ns) t) ≡ whole
unfolding told_from
from_more c js ns i d s t before now whole l more left =
    let n = get_or ns i d in
    ap (λ (j : ℕ). text_after c now (told_from js (drop j ns) t)) (add-one i)
    ∙ adds_then c (told_if_next n (next_entry js s.front n) s) (told_from js (drop (suc i) ns)) t before now more
    ∙ ap (λ (xs : List ℕ). text_after c before (told_from js xs s)) (sym (drop-cons ns i d l))
    ∙ left

pub from_end : (c : Config) (js : List Journal) (ns : List ℕ) (i : ℕ) (s t : Telling) (before now : List ℕ) → length ns ≤ i → text_after c now (told_from js (drop i ns) t) ≡ text_after c before (told_from js ns s) → AddsLines c true (told_from js ns s) t before now
unfolding told_from
from_end c js ns i s t before now l left =
    text_adds c (told_from js ns s) t before now
    (sym left ∙ ap (λ (xs : List ℕ). text_after c now (told_from js xs t)) (drop_all i ns l) ∙ ap (λ (x : List ℕ). Some (record { telling = t; text = x })) (append-nil now))

-- ---- all lines

pub are_lines : (c : Config) (js : List Journal) (order : List ℕ) (s t : Telling) (before text : List ℕ) (sent : ℕ) → s ≡ first_telling js → before ≡ [] → AddsLines c true (told_from js order s) t before text → t.calls ≡ [] → sent ≡ t.sent → AreLines c js order text sent
are_lines c js order s t before text sent first none h closed count = go (told_from js order s) (ap (told_from js order) (sym first)) h
  where
    go : (o : Option ToldLines) → told_from js order (first_telling js) ≡ o → AddsLines c true o t before text → AreLines c js order text sent
    go None is a = absurd a
    go (Some u) is a = record {
      told = u;
      are_told = is;
      none_open = ap (λ (x : Telling). x.calls) (sym a.0) ∙ closed;
      text_is = a.1 ∙ ap (λ (l : List ℕ). l ++ flat_map (line_text c) u.lines) none;
      sent_is = count ∙ ap (λ (x : Telling). x.sent) a.0;
    }
