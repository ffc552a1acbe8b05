-- The text of a line has no line feed.
use Rattle.std.proofs.Common.{◌≡◌, ◌≢◌, ℕ, ◌+◌, ◌≤◌, ◌^◌, inl, inr, Bool, true, false, cond, eqb, List, [], ◌∷◌, map, codes, Option, Some, None, refl, ap, sym, ◌∙◌, arith}
use Rattle.std.proofs.lemmas.Bool.{and_parts, cond_both, false≢true, ne_eqb, false_from_ne_true}
use Rattle.std.proofs.lemmas.List.Elements.{All-nil, All-cons, All-weaker}
use Rattle.std.proofs.NetLemmas.Alphabet.{IsDigitOrDot, IsHexOrColon, All-ipv4_text, All-hex_groups_text}
use Rattle.std.specs.Fmt.{decimal}
use Rattle.std.specs.Int.{w128, to_be_bytes}
use Rattle.std.specs.List.{list_all}
use Rattle.ct_values.specs.declared.address.Address.{Address}
use Rattle.ct_values.specs.declared.address.Address.TheVariants.{V4, V6}
use Rattle.ct_values.specs.Address.{octets, groups, address_text}
use Rattle.ct_values.specs.Name.{is_allowed, is_letter, is_name_byte, bad_from}
use Rattle.ct_spelling.specs.Spelling.{AreBytes, IsWordByte, spelling}
use Rattle.ct_values.specs.declared.client.Pair.{Pair}
use Rattle.ct_values.specs.declared.config.DbKind.{DbKind}
use Rattle.ct_values.specs.declared.config.DbKind.TheVariants.{Volatile, ReadOnly, Persistent}
use Rattle.ct_spelling.proofs.Spellings.{spelling_word_bytes}
use Rattle.ct_values.proofs.Addresses.{bytes_small, groups_small, below}
use Rattle.ct_rules_cluster.specs.declared.step.Step.{Step}
use Rattle.ct_rules_cluster.specs.declared.step.Step.TheVariants as step
use Rattle.ct_lines.specs.Spelled.{IsChange, IsCommand, IsCount, IsInRange, IsMessage, IsOp, IsTraverse, IsPair, IsSmall, ArePairs, AreMembers, command_words, kind_text, members_text, op_text, op_words, pair_text, spelled_line, spelled_words, step_words, traverse_words}
use Rattle.ct_lines.specs.declared.line.Command.{Command}
use Rattle.ct_lines.specs.declared.line.Command.TheVariants as command
use Rattle.ct_lines.specs.declared.line.ConfigLine.TheVariants as config
use Rattle.ct_lines.specs.declared.line.NamedOp.{NamedOp}
use Rattle.ct_lines.specs.declared.line.NamedOp.TheVariants as op
use Rattle.ct_lines.specs.declared.line.ScenarioLine.{ScenarioLine}
use Rattle.ct_lines.specs.declared.line.ScenarioLine.TheVariants.{Config, Change, ByName, Settle, Traverse, Ctdb}
use Rattle.ct_lines.specs.declared.line.ShowCommand.TheVariants as shows
use Rattle.ct_lines.specs.declared.line.StepCommand.TheVariants as steps
use Rattle.ct_lines.specs.declared.line.TraverseLine.{TraverseLine}
use Rattle.ct_lines.specs.declared.line.TraverseLine.TheVariants as traverse
use Rattle.ct_lines.proofs.Texts.{IsFree, AreFree, join_free, map_free, decimal_free}

-- ---- words

abbrev is_no_feed : ℕ → Bool
is_no_feed b = cond (eqb b 10) false true

no_feed : (b : ℕ) → is_no_feed b ≡ true → eqb b 10 ≡ false
no_feed b h = false_from_ne_true (eqb b 10) (λ e. false≢true (sym (ap (λ (t : Bool). cond t false true) e) ∙ h))

-- a word that is written out
written : (w : List ℕ) → list_all is_no_feed w ≡ true → IsFree 10 w
written [] h = All-nil (λ b. eqb b 10 ≡ false)
written (b ∷ bs) h =
    let p = and_parts (is_no_feed b) (list_all is_no_feed bs) h in
    All-cons (λ x. eqb x 10 ≡ false) b bs (no_feed b p.0) (written bs p.1)

number : (n : ℕ) → IsSmall n → IsFree 10 (decimal n)
number n h = decimal_free 10 n (omega arith) (omega arith)

spelled : (bytes : List ℕ) → AreBytes bytes → IsFree 10 (spelling bytes)
spelled bytes h = All-weaker IsWordByte (λ b. eqb b 10 ≡ false) (λ b d. ne_eqb b 10 (λ e. let low : 33 ≤ b = d.0 in omega arith)) (spelling bytes) (spelling_word_bytes bytes h)

allowed_no_feed : (i b : ℕ) → is_allowed i b ≡ true → eqb b 10 ≡ false
allowed_no_feed i b h =
    ne_eqb b 10 (λ e.
    let no : is_allowed i 10 ≡ false = cond_both (eqb i 0) (is_letter 10) (is_name_byte 10) (λ (t : Bool). t ≡ false) (λ _. refl) (λ _. refl) in
    false≢true (sym no ∙ ap (is_allowed i) (sym e) ∙ h))

allowed_first : (t : Bool) (o : Option ℕ) (i : ℕ) → cond t o (Some i) ≡ None → (t ≡ true) × (o ≡ None)
allowed_first true o i h = (refl, h)
allowed_first false o i h = cc

named : (i : ℕ) (bs : List ℕ) → bad_from i bs ≡ None → IsFree 10 bs
named i [] h = All-nil (λ b. eqb b 10 ≡ false)
named i (b ∷ bs) h =
    let p = allowed_first (is_allowed i b) (bad_from (i + 1) bs) i h in
    All-cons (λ x. eqb x 10 ≡ false) b bs (allowed_no_feed i b p.0) (named (i + 1) bs p.1)

feedless_v4 : (b : ℕ) → IsDigitOrDot b → b ≢ 10
feedless_v4 b (inl p) e = let low : 48 ≤ b = p.0 in omega arith
feedless_v4 b (inr p) e = omega arith

feedless_v6 : (b : ℕ) → IsHexOrColon b → b ≢ 10
feedless_v6 b (inl p) e = let low : 48 ≤ b = p.0 in omega arith
feedless_v6 b (inr p) e = let low : 97 ≤ b = p.0 in omega arith

address : (a : Address) → IsFree 10 (address_text a)
unfolding octets groups
address (V4 n) =
    All-weaker IsDigitOrDot (λ b. eqb b 10 ≡ false) (λ b d. ne_eqb b 10 (feedless_v4 b d)) (address_text (V4 n))
    (All-ipv4_text (octets n) (below (2 ^ 8) (octets n) (omega arith) (bytes_small 4 n)))
address (V6 n) =
    All-weaker IsHexOrColon (λ b. eqb b 10 ≡ false) (λ b d. ne_eqb b 10 (feedless_v6 b d)) (address_text (V6 n))
    (All-hex_groups_text (groups n) (below (2 ^ 16) (groups n) (omega arith) (groups_small (to_be_bytes w128 n) (bytes_small 16 n))))

kind : (k : DbKind) → IsFree 10 (kind_text k)
kind Volatile = written (codes "volatile") refl
kind ReadOnly = written (codes "readonly") refl
kind Persistent = written (codes "persistent") refl

pair : (p : Pair) → IsPair p → IsFree 10 (pair_text p)
pair p h = join_free 10 61 (spelling p.key ∷ spelling p.value ∷ []) refl (spelled p.key h.0.2, (spelled p.value h.1.1, tt))

pairs : (ps : List Pair) → ArePairs ps → AreFree 10 (map pair_text ps)
pairs ps h = map_free 10 IsPair pair_text pair ps h.2

members : (ns : List ℕ) → AreMembers ns → IsFree 10 (members_text ns)
members ns h = join_free 10 44 (map decimal ns) refl (map_free 10 IsSmall decimal number ns h.2)

-- ---- lines

op_word : (asked : NamedOp) → IsFree 10 (op_text asked)
op_word (op.Lock key) = written (codes "lock") refl
op_word (op.Read key) = written (codes "read") refl
op_word (op.Unlock key) = written (codes "unlock") refl
op_word (op.Store key value) = written (codes "store") refl
op_word (op.Apply key function arg) = written (codes "apply") refl
op_word (op.Commit ps) = written (codes "commit") refl
op_word op.Vacuum = written (codes "vacuum") refl

op_rest : (asked : NamedOp) → IsOp asked → AreFree 10 (op_words asked)
op_rest (op.Lock key) h = (spelled key h.2, tt)
op_rest (op.Read key) h = (spelled key h.2, tt)
op_rest (op.Unlock key) h = (spelled key h.2, tt)
op_rest (op.Store key value) h = (spelled key h.0.2, (spelled value h.1.1, tt))
op_rest (op.Apply key function arg) h = (spelled key h.0.2, (number function h.1, (spelled arg h.2.1, tt)))
op_rest (op.Commit ps) h = pairs ps h
op_rest op.Vacuum h = tt

command_free : (asked : Command) → IsCommand asked → AreFree 10 (command_words asked)
command_free (command.Shows shows.Pnn) h = (written (codes "pnn") refl, tt)
command_free (command.Shows shows.ListNodes) h = (written (codes "listnodes") refl, tt)
command_free (command.Shows shows.Status) h = (written (codes "status") refl, tt)
command_free (command.Shows shows.Ip) h = (written (codes "ip") refl, tt)
command_free (command.Shows shows.GetDbMap) h = (written (codes "getdbmap") refl, tt)
command_free (command.Shows (shows.CatTdb db)) h = (written (codes "cattdb") refl, (named 0 db h.2, tt))
command_free (command.Shows (shows.GetDbSeqNum db)) h = (written (codes "getdbseqnum") refl, (named 0 db h.2, tt))
command_free (command.Steps steps.Disable) h = (written (codes "disable") refl, tt)
command_free (command.Steps steps.Enable) h = (written (codes "enable") refl, tt)
command_free (command.Steps (steps.ReadKey db key)) h = (written (codes "readkey") refl, (named 0 db h.0.2, (spelled key h.1.2, tt)))
command_free (command.Steps (steps.WriteKey db key value)) h =
    (written (codes "writekey") refl, (named 0 db h.0.2, (spelled key h.1.2, (spelled value h.2.1, tt))))
command_free (command.Steps (steps.DeleteKey db key)) h = (written (codes "deletekey") refl, (named 0 db h.0.2, (spelled key h.1.2, tt)))
command_free (command.Steps (steps.PTrans db writes)) h = (written (codes "ptrans") refl, (named 0 db h.0.2, pairs writes h.1))
command_free (command.Steps steps.Recover) h = (written (codes "recover") refl, tt)
command_free (command.CatDb db) h = (written (codes "catdb") refl, (named 0 db h.2, tt))

message : (k : ℕ) → IsMessage k → IsFree 10 (decimal k)
message k h = decimal_free 10 k (omega arith) h.1

change_free : (change : Step) → IsChange change → AreFree 10 (step_words change)
change_free (step.Client node asked) h = absurd h
change_free (step.Deliver k) h = (written (codes "deliver") refl, (message k h, tt))
change_free (step.Drop k) h = (written (codes "drop") refl, (message k h, tt))
change_free (step.Repeat k) h = (written (codes "repeat") refl, (message k h, tt))
change_free (step.Retry n) h = (written (codes "retry") refl, (number n h, tt))
change_free (step.Vacuum node db) h = absurd h
change_free (step.Recover node ns) h = (written (codes "recover") refl, (number node h.0, (members ns h.1, tt)))
change_free (step.Yield n) h = (written (codes "yield") refl, (number n h, tt))
change_free (step.Stop n) h = (written (codes "stop") refl, (number n h, tt))
change_free (step.Start n) h = (written (codes "start") refl, (number n h, tt))
change_free (step.Takeover n) h = (written (codes "takeover") refl, (number n h, tt))
change_free (step.Able node able) h = absurd h

counted : (count : ℕ) → IsCount count → IsFree 10 (decimal count)
counted count h = let high : count ≤ 100000 = h.1 in number count (omega arith)

traverse_free : (said : TraverseLine) → IsTraverse said → AreFree 10 (traverse_words said)
traverse_free (traverse.Walk count) h = (written (codes "walk") refl, (counted count h, tt))
traverse_free (traverse.Carry k) h = (written (codes "carry") refl, (message k h, tt))
traverse_free (traverse.Lose k) h = (written (codes "lose") refl, (message k h, tt))
traverse_free (traverse.Again k) h = (written (codes "again") refl, (message k h, tt))

words_free : (line : ScenarioLine) → IsInRange line → AreFree 10 (spelled_words line)
words_free (Config (config.Nodes n)) h = let high : n ≤ 16 = h.1 in (written (codes "nodes") refl, (number n (omega arith), tt))
words_free (Config (config.Db db)) h = (written (codes "db") refl, (named 0 db.name h.2, (kind db.kind, tt)))
words_free (Config (config.Address a)) h = (written (codes "address") refl, (address a, tt))
words_free (Change change) h = change_free change h
words_free (ByName node db asked) h = (op_word asked, (number node h.0, (named 0 db h.1.2, op_rest asked h.2)))
words_free (Settle count) h = (written (codes "settle") refl, (counted count h, tt))
words_free (Traverse said) h = traverse_free said h
words_free (Ctdb node asked) h = (written (codes "ctdb") refl, (number node h.0, command_free asked h.1))

pub line_free : (line : ScenarioLine) → IsInRange line → IsFree 10 (spelled_line line)
line_free line h = join_free 10 32 (spelled_words line) refl (words_free line h)
