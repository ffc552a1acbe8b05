-- The words of a line are read as it.
use Rattle.std.proofs.Common.{◌≡◌, ℕ, ◌<◌, ◌≤◌, List, [], ◌∷◌, codes, map, Option, Some, None, refl, ap, ◌∙◌, arith}
use Rattle.std.specs.Fmt.{decimal}
use Rattle.std.specs.List.{join_with_byte}
use Rattle.std.specs.Prelude.{option_map}
use Rattle.ct_values.specs.Address.{address_text}
use Rattle.ct_spelling.specs.Number.{number_of}
use Rattle.ct_spelling.specs.Spelling.{spelling}
use Rattle.ct_rules_cluster.specs.declared.step.Step.{Step}
use Rattle.ct_rules_cluster.specs.declared.step.Step.TheVariants as step
use Rattle.ct_values.specs.declared.client.Pair.{Pair}
use Rattle.ct_values.specs.declared.config.DbKind.{DbKind}
use Rattle.ct_values.specs.declared.config.DbKind.TheVariants.{Volatile, ReadOnly, Persistent}
use Rattle.ct_lines.specs.declared.line.ScenarioLine.{ScenarioLine}
use Rattle.ct_lines.specs.declared.line.ScenarioLine.TheVariants.{Config, Change, ByName, Settle, Traverse, Ctdb}
use Rattle.ct_lines.specs.declared.line.ConfigLine.{ConfigLine}
use Rattle.ct_lines.specs.declared.line.ConfigLine.TheVariants as config
use Rattle.ct_lines.specs.declared.line.NamedOp.{NamedOp}
use Rattle.ct_lines.specs.declared.line.NamedOp.TheVariants as op
use Rattle.ct_lines.specs.declared.line.Command.{Command}
use Rattle.ct_lines.specs.declared.line.Command.TheVariants as command
use Rattle.ct_lines.specs.declared.line.ShowCommand.TheVariants as shows
use Rattle.ct_lines.specs.declared.line.StepCommand.TheVariants as steps
use Rattle.ct_lines.specs.declared.line.TraverseLine.{TraverseLine}
use Rattle.ct_lines.specs.declared.line.TraverseLine.TheVariants as traverse
use Rattle.ct_lines.specs.Words.{within, number_word, message_word, name_word, key_word, value_word, kind_word, pairs_of}
use Rattle.ct_lines.specs.Grammar.{db_line, call_line, recover_line, key_op, value_op, apply_op, db_command, key_command, value_command, writes_command, command_of, ctdb_line, form, words_of}
use Rattle.ct_lines.specs.Spelled.{kind_text, pair_text, members_text, config_words, step_words, op_text, op_words, command_words, traverse_words, spelled_words, spelled_line, IsSmall, IsMessage, IsCount, IsName, IsConfig, IsChange, IsOp, IsCommand, IsTraverse, IsInRange}
use Rattle.ct_lines.proofs.Lists.{pairs_back, pairs_free, members_back, members_free}
use Rattle.ct_lines.proofs.Said.{count_back, small_back, message_back, address_back, key_word_back, value_word_back, name_word_back, kind_word_back}
use Rattle.ct_lines.proofs.Texts.{IsFree, AreFree, split_join, written_free, decimal_free, spelling_free, name_free, address_free}

config_back : (what : ConfigLine) → IsConfig what → form (config_words what) ≡ Some (Config what)
config_back (config.Nodes n) h = let high : n ≤ 16 = h.1 in ap (option_map (λ m. Config (config.Nodes m))) (count_back 1 17 n (omega arith) h.0 (omega arith))
config_back (config.Db db) h =
    ap (λ o. db_line o (kind_word (kind_text db.kind))) (name_word_back db.name h) ∙ ap (db_line (Some db.name)) (kind_word_back db.kind)
config_back (config.Address a) h = ap (option_map (λ x. Config (config.Address x))) (address_back a h)

message_step_back : (f : ℕ → Step) (k : ℕ) → IsMessage k → option_map Change (option_map f (message_word (decimal k))) ≡ Some (Change (f k))
message_step_back f k h = ap (λ o. option_map Change (option_map f o)) (message_back k h)

node_step_back : (f : ℕ → Step) (n : ℕ) → IsSmall n → option_map Change (option_map f (number_word (decimal n))) ≡ Some (Change (f n))
node_step_back f n h = ap (λ o. option_map Change (option_map f o)) (small_back n h)

recover_back : (o : Option ℕ) (r : Option (List ℕ)) (node : ℕ) (ns : List ℕ) → o ≡ Some node → r ≡ Some ns → recover_line o r ≡ Some (Change (step.Recover node ns))
recover_back o r node ns e f = ap (λ x. recover_line x r) e ∙ ap (recover_line (Some node)) f

change_back : (change : Step) → IsChange change → form (step_words change) ≡ Some (Change change)
change_back (step.Client node asked) h = absurd h
change_back (step.Deliver k) h = message_step_back step.Deliver k h
change_back (step.Drop k) h = message_step_back step.Drop k h
change_back (step.Repeat k) h = message_step_back step.Repeat k h
change_back (step.Retry n) h = node_step_back step.Retry n h
change_back (step.Vacuum node db) h = absurd h
change_back (step.Recover node ns) h = recover_back _ _ node ns (small_back node h.0) (members_back ns h.1)
change_back (step.Yield n) h = node_step_back step.Yield n h
change_back (step.Stop n) h = node_step_back step.Stop n h
change_back (step.Start n) h = node_step_back step.Start n h
change_back (step.Takeover n) h = node_step_back step.Takeover n h
change_back (step.Able node able) h = absurd h

call_back : (o : Option ℕ) (r : Option (List ℕ)) (q : Option NamedOp) (node : ℕ) (db : List ℕ) (asked : NamedOp) → o ≡ Some node → r ≡ Some db → q ≡ Some asked → call_line o r q ≡ Some (ByName node db asked)
call_back o r q node db asked e f g = ap (λ x. call_line x r q) e ∙ ap (λ x. call_line (Some node) x q) f ∙ ap (call_line (Some node) (Some db)) g

by_name_back : (node : ℕ) (db : List ℕ) (asked : NamedOp) → IsSmall node → IsName db → IsOp asked → form (spelled_words (ByName node db asked)) ≡ Some (ByName node db asked)
by_name_back node db (op.Lock key) n d h = call_back _ _ _ node db (op.Lock key) (small_back node n) (name_word_back db d) (ap (key_op (codes "lock")) (key_word_back key h))
by_name_back node db (op.Read key) n d h = call_back _ _ _ node db (op.Read key) (small_back node n) (name_word_back db d) (ap (key_op (codes "read")) (key_word_back key h))
by_name_back node db (op.Unlock key) n d h =
    call_back _ _ _ node db (op.Unlock key) (small_back node n) (name_word_back db d) (ap (key_op (codes "unlock")) (key_word_back key h))
by_name_back node db (op.Store key value) n d h =
    call_back _ _ _ node db (op.Store key value) (small_back node n) (name_word_back db d)
    (ap (λ o. value_op (codes "store") o (value_word (spelling value))) (key_word_back key h.0) ∙ ap (value_op (codes "store") (Some key)) (value_word_back value h.1))
by_name_back node db (op.Apply key function arg) n d h =
    call_back _ _ _ node db (op.Apply key function arg) (small_back node n) (name_word_back db d)
    (ap (λ o. apply_op (codes "apply") o (number_word (decimal function)) (value_word (spelling arg))) (key_word_back key h.0)
    ∙ ap (λ o. apply_op (codes "apply") (Some key) o (value_word (spelling arg))) (small_back function h.1)
    ∙ ap (apply_op (codes "apply") (Some key) (Some function)) (value_word_back arg h.2))
by_name_back node db (op.Commit pairs) n d h =
    call_back _ _ _ node db (op.Commit pairs) (small_back node n) (name_word_back db d) (ap (option_map op.Commit) (pairs_back pairs h))
by_name_back node db op.Vacuum n d h = call_back _ _ _ node db op.Vacuum (small_back node n) (name_word_back db d) refl

command_back : (asked : Command) → IsCommand asked → command_of (command_words asked) ≡ Some asked
command_back (command.Shows shows.Pnn) h = refl
command_back (command.Shows shows.ListNodes) h = refl
command_back (command.Shows shows.Status) h = refl
command_back (command.Shows shows.Ip) h = refl
command_back (command.Shows shows.GetDbMap) h = refl
command_back (command.Shows (shows.CatTdb db)) h = ap (db_command (codes "cattdb")) (name_word_back db h)
command_back (command.Shows (shows.GetDbSeqNum db)) h = ap (db_command (codes "getdbseqnum")) (name_word_back db h)
command_back (command.Steps steps.Disable) h = refl
command_back (command.Steps steps.Enable) h = refl
command_back (command.Steps (steps.ReadKey db key)) h =
    ap (λ o. key_command (codes "readkey") o (key_word (spelling key))) (name_word_back db h.0) ∙ ap (key_command (codes "readkey") (Some db)) (key_word_back key h.1)
command_back (command.Steps (steps.WriteKey db key value)) h =
    ap (λ o. value_command (codes "writekey") o (key_word (spelling key)) (value_word (spelling value))) (name_word_back db h.0)
    ∙ ap (λ o. value_command (codes "writekey") (Some db) o (value_word (spelling value))) (key_word_back key h.1)
    ∙ ap (value_command (codes "writekey") (Some db) (Some key)) (value_word_back value h.2)
command_back (command.Steps (steps.DeleteKey db key)) h =
    ap (λ o. key_command (codes "deletekey") o (key_word (spelling key))) (name_word_back db h.0) ∙ ap (key_command (codes "deletekey") (Some db)) (key_word_back key h.1)
command_back (command.Steps (steps.PTrans db writes)) h =
    ap (λ o. writes_command o (pairs_of (map pair_text writes))) (name_word_back db h.0) ∙ ap (writes_command (Some db)) (pairs_back writes h.1)
command_back (command.Steps steps.Recover) h = refl
command_back (command.CatDb db) h = ap (db_command (codes "catdb")) (name_word_back db h)

count_of_back : (f : ℕ → ScenarioLine) (count : ℕ) → IsCount count → option_map f (within 1 100001 (number_of (decimal count))) ≡ Some (f count)
count_of_back f count h = let high : count ≤ 100000 = h.1 in ap (option_map f) (count_back 1 100001 count (omega arith) h.0 (omega arith))

message_of_back : (f : ℕ → ScenarioLine) (k : ℕ) → IsMessage k → option_map f (message_word (decimal k)) ≡ Some (f k)
message_of_back f k h = ap (option_map f) (message_back k h)

traverse_back : (said : TraverseLine) → IsTraverse said → form (traverse_words said) ≡ Some (Traverse said)
traverse_back (traverse.Walk count) h = count_of_back (λ n. Traverse (traverse.Walk n)) count h
traverse_back (traverse.Carry k) h = message_of_back (λ n. Traverse (traverse.Carry n)) k h
traverse_back (traverse.Lose k) h = message_of_back (λ n. Traverse (traverse.Lose n)) k h
traverse_back (traverse.Again k) h = message_of_back (λ n. Traverse (traverse.Again n)) k h

ctdb_back : (node : ℕ) (asked : Command) (o : Option ℕ) (r : Option Command) → o ≡ Some node → r ≡ Some asked → ctdb_line o r ≡ Some (Ctdb node asked)
ctdb_back node asked o r e f = ap (λ x. ctdb_line x r) e ∙ ap (ctdb_line (Some node)) f

pub form_back : (item : ScenarioLine) → IsInRange item → form (spelled_words item) ≡ Some item
form_back (Config what) h = config_back what h
form_back (Change change) h = change_back change h
form_back (ByName node db asked) h = by_name_back node db asked h.0 h.1 h.2
form_back (Settle count) h = count_of_back Settle count h
form_back (Traverse said) h = traverse_back said h
form_back (Ctdb node asked) h = ctdb_back node asked _ _ (small_back node h.0) (command_back asked h.1)

-- ---- no word of a line has a space

small_word : (n : ℕ) → IsSmall n → IsFree 32 (decimal n)
small_word n h = decimal_free 32 n (omega arith) (omega arith)

kind_free : (kind : DbKind) → IsFree 32 (kind_text kind)
kind_free Volatile = written_free (codes "volatile") refl
kind_free ReadOnly = written_free (codes "readonly") refl
kind_free Persistent = written_free (codes "persistent") refl

op_free : (asked : NamedOp) → IsFree 32 (op_text asked)
op_free (op.Lock key) = written_free (codes "lock") refl
op_free (op.Read key) = written_free (codes "read") refl
op_free (op.Unlock key) = written_free (codes "unlock") refl
op_free (op.Store key value) = written_free (codes "store") refl
op_free (op.Apply key function arg) = written_free (codes "apply") refl
op_free (op.Commit pairs) = written_free (codes "commit") refl
op_free op.Vacuum = written_free (codes "vacuum") refl

op_words_free : (asked : NamedOp) → IsOp asked → AreFree 32 (op_words asked)
op_words_free (op.Lock key) h = (spelling_free key h.2, tt)
op_words_free (op.Read key) h = (spelling_free key h.2, tt)
op_words_free (op.Unlock key) h = (spelling_free key h.2, tt)
op_words_free (op.Store key value) h = (spelling_free key h.0.2, (spelling_free value h.1.1, tt))
op_words_free (op.Apply key function arg) h = (spelling_free key h.0.2, (small_word function h.1, (spelling_free arg h.2.1, tt)))
op_words_free (op.Commit pairs) h = pairs_free pairs h
op_words_free op.Vacuum h = tt

command_free : (asked : Command) → IsCommand asked → AreFree 32 (command_words asked)
command_free (command.Shows shows.Pnn) h = (written_free (codes "pnn") refl, tt)
command_free (command.Shows shows.ListNodes) h = (written_free (codes "listnodes") refl, tt)
command_free (command.Shows shows.Status) h = (written_free (codes "status") refl, tt)
command_free (command.Shows shows.Ip) h = (written_free (codes "ip") refl, tt)
command_free (command.Shows shows.GetDbMap) h = (written_free (codes "getdbmap") refl, tt)
command_free (command.Shows (shows.CatTdb db)) h = (written_free (codes "cattdb") refl, (name_free 0 db h.2, tt))
command_free (command.Shows (shows.GetDbSeqNum db)) h = (written_free (codes "getdbseqnum") refl, (name_free 0 db h.2, tt))
command_free (command.Steps steps.Disable) h = (written_free (codes "disable") refl, tt)
command_free (command.Steps steps.Enable) h = (written_free (codes "enable") refl, tt)
command_free (command.Steps (steps.ReadKey db key)) h = (written_free (codes "readkey") refl, (name_free 0 db h.0.2, (spelling_free key h.1.2, tt)))
command_free (command.Steps (steps.WriteKey db key value)) h =
    (written_free (codes "writekey") refl, (name_free 0 db h.0.2, (spelling_free key h.1.2, (spelling_free value h.2.1, tt))))
command_free (command.Steps (steps.DeleteKey db key)) h = (written_free (codes "deletekey") refl, (name_free 0 db h.0.2, (spelling_free key h.1.2, tt)))
command_free (command.Steps (steps.PTrans db writes)) h = (written_free (codes "ptrans") refl, (name_free 0 db h.0.2, pairs_free writes h.1))
command_free (command.Steps steps.Recover) h = (written_free (codes "recover") refl, tt)
command_free (command.CatDb db) h = (written_free (codes "catdb") refl, (name_free 0 db h.2, tt))

message_split : (v : List ℕ) (k : ℕ) → IsFree 32 v → IsMessage k → words_of (join_with_byte 32 (v ∷ decimal k ∷ [])) ≡ v ∷ decimal k ∷ []
message_split v k h m = split_join 32 v (decimal k ∷ []) h (decimal_free 32 k (omega arith) m.1, tt)

node_split : (v : List ℕ) (n : ℕ) → IsFree 32 v → IsSmall n → words_of (join_with_byte 32 (v ∷ decimal n ∷ [])) ≡ v ∷ decimal n ∷ []
node_split v n h s = split_join 32 v (decimal n ∷ []) h (small_word n s, tt)

change_split : (change : Step) → IsChange change → words_of (spelled_line (Change change)) ≡ step_words change
change_split (step.Client node asked) h = absurd h
change_split (step.Deliver k) h = message_split (codes "deliver") k (written_free (codes "deliver") refl) h
change_split (step.Drop k) h = message_split (codes "drop") k (written_free (codes "drop") refl) h
change_split (step.Repeat k) h = message_split (codes "repeat") k (written_free (codes "repeat") refl) h
change_split (step.Retry n) h = node_split (codes "retry") n (written_free (codes "retry") refl) h
change_split (step.Vacuum node db) h = absurd h
change_split (step.Recover node ns) h =
    split_join 32 (codes "recover") (decimal node ∷ members_text ns ∷ []) (written_free (codes "recover") refl) (small_word node h.0, (members_free ns h.1, tt))
change_split (step.Yield n) h = node_split (codes "yield") n (written_free (codes "yield") refl) h
change_split (step.Stop n) h = node_split (codes "stop") n (written_free (codes "stop") refl) h
change_split (step.Start n) h = node_split (codes "start") n (written_free (codes "start") refl) h
change_split (step.Takeover n) h = node_split (codes "takeover") n (written_free (codes "takeover") refl) h
change_split (step.Able node able) h = absurd h

count_split : (v : List ℕ) (count : ℕ) → IsFree 32 v → IsCount count → words_of (join_with_byte 32 (v ∷ decimal count ∷ [])) ≡ v ∷ decimal count ∷ []
count_split v count f h = let high : count ≤ 100000 = h.1 in node_split v count f (omega arith)

traverse_split : (said : TraverseLine) → IsTraverse said → words_of (spelled_line (Traverse said)) ≡ traverse_words said
traverse_split (traverse.Walk count) h = count_split (codes "walk") count (written_free (codes "walk") refl) h
traverse_split (traverse.Carry k) h = message_split (codes "carry") k (written_free (codes "carry") refl) h
traverse_split (traverse.Lose k) h = message_split (codes "lose") k (written_free (codes "lose") refl) h
traverse_split (traverse.Again k) h = message_split (codes "again") k (written_free (codes "again") refl) h

pub words_of_spelled : (item : ScenarioLine) → IsInRange item → words_of (spelled_line item) ≡ spelled_words item
words_of_spelled (Config (config.Nodes n)) h = let high : n ≤ 16 = h.1 in node_split (codes "nodes") n (written_free (codes "nodes") refl) (omega arith)
words_of_spelled (Config (config.Db db)) h =
    split_join 32 (codes "db") (db.name ∷ kind_text db.kind ∷ []) (written_free (codes "db") refl) (name_free 0 db.name h.2, (kind_free db.kind, tt))
words_of_spelled (Config (config.Address a)) h = split_join 32 (codes "address") (address_text a ∷ []) (written_free (codes "address") refl) (address_free a, tt)
words_of_spelled (Change change) h = change_split change h
words_of_spelled (ByName node db asked) h =
    split_join 32 (op_text asked) (decimal node ∷ db ∷ op_words asked) (op_free asked) (small_word node h.0, (name_free 0 db h.1.2, op_words_free asked h.2))
words_of_spelled (Settle count) h = count_split (codes "settle") count (written_free (codes "settle") refl) h
words_of_spelled (Traverse said) h = traverse_split said h
words_of_spelled (Ctdb node asked) h =
    split_join 32 (codes "ctdb") (decimal node ∷ command_words asked) (written_free (codes "ctdb") refl) (small_word node h.0, command_free asked h.1)
