-- Words that are read as a line are the words of that line.
use Rattle.std.proofs.Common.{◌≡◌, ℕ, ◌<◌, ◌≤◌, List, [], ◌∷◌, codes, map, Option, Some, None, refl, ap, sym, ◌∙◌, subst, arith}
use Rattle.std.specs.Fmt.{decimal}
use Rattle.std.specs.Prelude.{option_map}
use Rattle.ct_spelling.specs.Number.{number_of}
use Rattle.ct_spelling.specs.Spelling.{spelling}
use Rattle.ct_rules_cluster.specs.declared.step.Step.{Step}
use Rattle.ct_rules_cluster.specs.declared.step.Step.TheVariants as step
use Rattle.ct_values.specs.declared.client.Pair.{Pair}
use Rattle.ct_values.specs.declared.config.DbKind.{DbKind}
use Rattle.ct_lines.specs.declared.line.ScenarioLine.{ScenarioLine}
use Rattle.ct_lines.specs.declared.line.ScenarioLine.TheVariants.{Config, Change, ByName, Settle, Traverse, Ctdb}
use Rattle.ct_lines.specs.declared.line.ConfigLine.TheVariants as config
use Rattle.ct_lines.specs.declared.line.NamedOp.{NamedOp}
use Rattle.ct_lines.specs.declared.line.NamedOp.TheVariants as op
use Rattle.ct_lines.specs.declared.line.Command.{Command}
use Rattle.ct_lines.specs.declared.line.Command.TheVariants as command
use Rattle.ct_lines.specs.declared.line.ShowCommand.TheVariants as shows
use Rattle.ct_lines.specs.declared.line.StepCommand.TheVariants as steps
use Rattle.ct_lines.specs.declared.line.TraverseLine.TheVariants as traverse
use Rattle.ct_lines.specs.Words.{within, number_word, message_word, address_word, key_word, value_word, name_word, kind_word, pairs_of, members_word}
use Rattle.ct_lines.specs.Grammar.{number_step, traverse_form, one_form, db_line, call_line, recover_line, two_form, key_op, value_op, apply_op, plain_form, commit_form, bare_command, db_command, key_command, value_command, writes_command, ptrans_form, plain_command, command_of, ctdb_line, form}
use Rattle.ct_lines.specs.Spelled.{kind_text, pair_text, members_text, step_words, op_text, op_words, command_words, spelled_words, IsSmall, IsMessage, IsCount, IsName, IsKey, IsValue, ArePairs, AreMembers, IsChange, IsOp, IsCommand, IsInRange}
use Rattle.ct_lines.proofs.Lists.{both, pairs_only, members_only}
use Rattle.ct_lines.proofs.Said.{choice, some_said, mapped, same_word, count_only, small_only, message_only, address_only, key_word_only, value_word_only, name_word_only, kind_word_only}

-- these words are the ones of this line, step, call or command
abbrev pub Says : List (List ℕ) → ScenarioLine → Type 0
Says ws item = IsInRange item × (ws ≡ spelled_words item)

abbrev SaysStep : List (List ℕ) → Step → Type 0
SaysStep ws s = IsChange s × (ws ≡ step_words s)

-- this word, and these after the database
abbrev SaysOp : List ℕ → List (List ℕ) → NamedOp → Type 0
SaysOp w ws asked = IsOp asked × (w ≡ op_text asked) × (ws ≡ op_words asked)

abbrev SaysCommand : List (List ℕ) → Command → Type 0
SaysCommand ws asked = IsCommand asked × (ws ≡ command_words asked)

-- ---- a word and one more

message_said : (f : ℕ → Step) (w a v : List ℕ) (s : Step) → ((k : ℕ) → IsMessage k → IsChange (f k)) → ((k : ℕ) → step_words (f k) ≡ v ∷ decimal k ∷ []) → w ≡ v → option_map f (message_word a) ≡ Some s → SaysStep (w ∷ a ∷ []) s
message_said f w a v s range shape e h =
    mapped f (SaysStep (w ∷ a ∷ [])) (message_word a) s h (λ k g. let p = message_only a k g in (range k p.0, both e (both p.1 refl) ∙ sym (shape k)))

node_said : (f : ℕ → Step) (w a v : List ℕ) (s : Step) → ((n : ℕ) → IsSmall n → IsChange (f n)) → ((n : ℕ) → step_words (f n) ≡ v ∷ decimal n ∷ []) → w ≡ v → option_map f (number_word a) ≡ Some s → SaysStep (w ∷ a ∷ []) s
node_said f w a v s range shape e h =
    mapped f (SaysStep (w ∷ a ∷ [])) (number_word a) s h (λ n g. let p = small_only a n g in (range n p.0, both e (both p.1 refl) ∙ sym (shape n)))

step_only : (w a : List ℕ) (s : Step) → number_step w a ≡ Some s → SaysStep (w ∷ a ∷ []) s
step_only w a s h =
    choice (SaysStep (w ∷ a ∷ []) s) w (codes "deliver") _ _ s h (message_said step.Deliver w a (codes "deliver") s (λ k r. r) (λ k. refl))
    (λ h1. choice (SaysStep (w ∷ a ∷ []) s) w (codes "drop") _ _ s h1 (message_said step.Drop w a (codes "drop") s (λ k r. r) (λ k. refl))
    (λ h2. choice (SaysStep (w ∷ a ∷ []) s) w (codes "repeat") _ _ s h2 (message_said step.Repeat w a (codes "repeat") s (λ k r. r) (λ k. refl))
    (λ h3. choice (SaysStep (w ∷ a ∷ []) s) w (codes "retry") _ _ s h3 (node_said step.Retry w a (codes "retry") s (λ n r. r) (λ n. refl))
    (λ h4. choice (SaysStep (w ∷ a ∷ []) s) w (codes "yield") _ _ s h4 (node_said step.Yield w a (codes "yield") s (λ n r. r) (λ n. refl))
    (λ h5. choice (SaysStep (w ∷ a ∷ []) s) w (codes "stop") _ _ s h5 (node_said step.Stop w a (codes "stop") s (λ n r. r) (λ n. refl))
    (λ h6. choice (SaysStep (w ∷ a ∷ []) s) w (codes "start") _ _ s h6 (node_said step.Start w a (codes "start") s (λ n r. r) (λ n. refl))
    (λ h7. choice (SaysStep (w ∷ a ∷ []) s) w (codes "takeover") _ _ s h7 (node_said step.Takeover w a (codes "takeover") s (λ n r. r) (λ n. refl))
    (λ h8. cc))))))))

nodes_said : (w a : List ℕ) (item : ScenarioLine) → w ≡ codes "nodes" → option_map (λ n. Config (config.Nodes n)) (within 1 17 (number_of a)) ≡ Some item → Says (w ∷ a ∷ []) item
nodes_said w a item e h =
    mapped (λ n. Config (config.Nodes n)) (Says (w ∷ a ∷ [])) (within 1 17 (number_of a)) item h
    (λ n g. let p = count_only a 1 17 n g in let low : 1 ≤ n = p.0 in let high : n < 17 = p.1 in ((omega arith, omega arith), both e (both p.2 refl)))

-- a line of a word and a count, and one of a word and a message
counted_said : (f : ℕ → ScenarioLine) (w a v : List ℕ) (item : ScenarioLine) → ((n : ℕ) → IsCount n → IsInRange (f n)) → ((n : ℕ) → spelled_words (f n) ≡ v ∷ decimal n ∷ []) → w ≡ v → option_map f (within 1 100001 (number_of a)) ≡ Some item → Says (w ∷ a ∷ []) item
counted_said f w a v item range shape e h =
    mapped f (Says (w ∷ a ∷ [])) (within 1 100001 (number_of a)) item h
    (λ n g. let p = count_only a 1 100001 n g in let low : 1 ≤ n = p.0 in let high : n < 100001 = p.1 in (range n (omega arith, omega arith), both e (both p.2 refl) ∙ sym (shape n)))

numbered_said : (f : ℕ → ScenarioLine) (w a v : List ℕ) (item : ScenarioLine) → ((k : ℕ) → IsMessage k → IsInRange (f k)) → ((k : ℕ) → spelled_words (f k) ≡ v ∷ decimal k ∷ []) → w ≡ v → option_map f (message_word a) ≡ Some item → Says (w ∷ a ∷ []) item
numbered_said f w a v item range shape e h =
    mapped f (Says (w ∷ a ∷ [])) (message_word a) item h (λ k g. let p = message_only a k g in (range k p.0, both e (both p.1 refl) ∙ sym (shape k)))

traverse_only : (w a : List ℕ) (item : ScenarioLine) → traverse_form w a ≡ Some item → Says (w ∷ a ∷ []) item
traverse_only w a item h =
    choice (Says (w ∷ a ∷ []) item) w (codes "walk") _ _ item h (counted_said (λ n. Traverse (traverse.Walk n)) w a (codes "walk") item (λ n r. r) (λ n. refl))
    (λ h1. choice (Says (w ∷ a ∷ []) item) w (codes "carry") _ _ item h1 (numbered_said (λ k. Traverse (traverse.Carry k)) w a (codes "carry") item (λ k r. r) (λ k. refl))
    (λ h2. choice (Says (w ∷ a ∷ []) item) w (codes "lose") _ _ item h2 (numbered_said (λ k. Traverse (traverse.Lose k)) w a (codes "lose") item (λ k r. r) (λ k. refl))
    (λ h3. choice (Says (w ∷ a ∷ []) item) w (codes "again") _ _ item h3 (numbered_said (λ k. Traverse (traverse.Again k)) w a (codes "again") item (λ k r. r) (λ k. refl))
    (λ h4. mapped Change (Says (w ∷ a ∷ [])) (number_step w a) item h4 (step_only w a)))))

address_said : (w a : List ℕ) (item : ScenarioLine) → w ≡ codes "address" → option_map (λ x. Config (config.Address x)) (address_word a) ≡ Some item → Says (w ∷ a ∷ []) item
address_said w a item e h =
    mapped (λ x. Config (config.Address x)) (Says (w ∷ a ∷ [])) (address_word a) item h (λ x g. let p = address_only a x g in (p.0, both e (both p.1 refl)))

one_only : (w a : List ℕ) (item : ScenarioLine) → one_form w a ≡ Some item → Says (w ∷ a ∷ []) item
one_only w a item h =
    choice (Says (w ∷ a ∷ []) item) w (codes "nodes") _ _ item h (nodes_said w a item)
    (λ h1. choice (Says (w ∷ a ∷ []) item) w (codes "address") _ _ item h1 (address_said w a item)
    (λ h2. choice (Says (w ∷ a ∷ []) item) w (codes "settle") _ _ item h2 (counted_said Settle w a (codes "settle") item (λ n r. r) (λ n. refl))
    (traverse_only w a item)))

-- ---- a word and two more

db_only : (a b : List ℕ) (o : Option (List ℕ)) (k : Option DbKind) (item : ScenarioLine) → db_line o k ≡ Some item
    → ((name : List ℕ) → o ≡ Some name → IsName name × (a ≡ name))
    → ((kind : DbKind) → k ≡ Some kind → b ≡ kind_text kind)
    → Says (codes "db" ∷ a ∷ b ∷ []) item
db_only a b None k item h one two = cc
db_only a b (Some name) None item h one two = cc
db_only a b (Some name) (Some kind) item h one two =
    let p = one name refl in
    some_said (Says (codes "db" ∷ a ∷ b ∷ [])) (Config (config.Db (record { name = name; kind = kind }))) item (p.0, both refl (both p.1 (both (two kind refl) refl))) h

call_only : (w n d : List ℕ) (ws : List (List ℕ)) (o : Option ℕ) (r : Option (List ℕ)) (q : Option NamedOp) (item : ScenarioLine) → call_line o r q ≡ Some item
    → ((node : ℕ) → o ≡ Some node → IsSmall node × (n ≡ decimal node))
    → ((db : List ℕ) → r ≡ Some db → IsName db × (d ≡ db))
    → ((asked : NamedOp) → q ≡ Some asked → SaysOp w ws asked)
    → Says (w ∷ n ∷ d ∷ ws) item
call_only w n d ws None r q item h one two three = cc
call_only w n d ws (Some node) None q item h one two three = cc
call_only w n d ws (Some node) (Some db) None item h one two three = cc
call_only w n d ws (Some node) (Some db) (Some asked) item h one two three =
    let a = one node refl in
    let b = two db refl in
    let c = three asked refl in
    some_said (Says (w ∷ n ∷ d ∷ ws)) (ByName node db asked) item ((a.0, b.0, c.0), both c.1 (both a.1 (both b.1 c.2))) h

recover_only : (a b : List ℕ) (o : Option ℕ) (r : Option (List ℕ)) (item : ScenarioLine) → recover_line o r ≡ Some item
    → ((node : ℕ) → o ≡ Some node → IsSmall node × (a ≡ decimal node))
    → ((ns : List ℕ) → r ≡ Some ns → AreMembers ns × (b ≡ members_text ns))
    → Says (codes "recover" ∷ a ∷ b ∷ []) item
recover_only a b None r item h one two = cc
recover_only a b (Some node) None item h one two = cc
recover_only a b (Some node) (Some ns) item h one two =
    let p = one node refl in
    let q = two ns refl in
    some_said (Says (codes "recover" ∷ a ∷ b ∷ [])) (Change (step.Recover node ns)) item ((p.0, q.0), both refl (both p.1 (both q.1 refl))) h

at_word : (w v : List ℕ) (ws : List (List ℕ)) (item : ScenarioLine) → w ≡ v → Says (v ∷ ws) item → Says (w ∷ ws) item
at_word w v ws item e h = subst (λ (x : List ℕ). Says (x ∷ ws) item) (sym e) h

vacuum_only : (w : List ℕ) (asked : NamedOp) → w ≡ codes "vacuum" → Some op.Vacuum ≡ Some asked → SaysOp w [] asked
vacuum_only w asked e h = some_said (SaysOp w []) op.Vacuum asked (tt, e, refl) h

two_only : (w a b : List ℕ) (item : ScenarioLine) → two_form w a b ≡ Some item → Says (w ∷ a ∷ b ∷ []) item
two_only w a b item h =
    choice (Says (w ∷ a ∷ b ∷ []) item) w (codes "db") _ _ item h
    (λ e g. at_word w (codes "db") (a ∷ b ∷ []) item e (db_only a b (name_word a) (kind_word b) item g (name_word_only a) (kind_word_only b)))
    (λ h1. choice (Says (w ∷ a ∷ b ∷ []) item) w (codes "vacuum") _ _ item h1
    (λ e g. call_only w a b [] (number_word a) (name_word b) (Some op.Vacuum) item g (small_only a) (name_word_only b) (λ asked k. vacuum_only w asked e k))
    (λ h2. choice (Says (w ∷ a ∷ b ∷ []) item) w (codes "recover") _ _ item h2
    (λ e g. at_word w (codes "recover") (a ∷ b ∷ []) item e (recover_only a b (number_word a) (members_word b) item g (small_only a) (members_only b)))
    (λ h3. cc)))

-- ---- calls

key_op_only : (w k : List ℕ) (o : Option (List ℕ)) (asked : NamedOp) → key_op w o ≡ Some asked → ((key : List ℕ) → o ≡ Some key → IsKey key × (k ≡ spelling key)) → SaysOp w (k ∷ []) asked
key_op_only w k None asked h one = cc
key_op_only w k (Some key) asked h one =
    let p = one key refl in
    choice (SaysOp w (k ∷ []) asked) w (codes "lock") _ _ asked h (λ e g. some_said (SaysOp w (k ∷ [])) (op.Lock key) asked (p.0, e, both p.1 refl) g)
    (λ h1. choice (SaysOp w (k ∷ []) asked) w (codes "read") _ _ asked h1 (λ e g. some_said (SaysOp w (k ∷ [])) (op.Read key) asked (p.0, e, both p.1 refl) g)
    (λ h2. choice (SaysOp w (k ∷ []) asked) w (codes "unlock") _ _ asked h2 (λ e g. some_said (SaysOp w (k ∷ [])) (op.Unlock key) asked (p.0, e, both p.1 refl) g)
    (λ h3. cc)))

value_op_only : (w k v : List ℕ) (o r : Option (List ℕ)) (asked : NamedOp) → value_op w o r ≡ Some asked
    → ((key : List ℕ) → o ≡ Some key → IsKey key × (k ≡ spelling key))
    → ((value : List ℕ) → r ≡ Some value → IsValue value × (v ≡ spelling value))
    → SaysOp w (k ∷ v ∷ []) asked
value_op_only w k v None r asked h one two = cc
value_op_only w k v (Some key) None asked h one two = cc
value_op_only w k v (Some key) (Some value) asked h one two =
    let p = one key refl in
    let q = two value refl in
    choice (SaysOp w (k ∷ v ∷ []) asked) w (codes "store") _ _ asked h
    (λ e g. some_said (SaysOp w (k ∷ v ∷ [])) (op.Store key value) asked ((p.0, q.0), e, both p.1 (both q.1 refl)) g) (λ h1. cc)

apply_op_only : (w k f v : List ℕ) (o : Option (List ℕ)) (r : Option ℕ) (t : Option (List ℕ)) (asked : NamedOp) → apply_op w o r t ≡ Some asked
    → ((key : List ℕ) → o ≡ Some key → IsKey key × (k ≡ spelling key))
    → ((n : ℕ) → r ≡ Some n → IsSmall n × (f ≡ decimal n))
    → ((value : List ℕ) → t ≡ Some value → IsValue value × (v ≡ spelling value))
    → SaysOp w (k ∷ f ∷ v ∷ []) asked
apply_op_only w k f v None r t asked h one two three = cc
apply_op_only w k f v (Some key) None t asked h one two three = cc
apply_op_only w k f v (Some key) (Some n) None asked h one two three = cc
apply_op_only w k f v (Some key) (Some n) (Some arg) asked h one two three =
    let p = one key refl in
    let q = two n refl in
    let s = three arg refl in
    choice (SaysOp w (k ∷ f ∷ v ∷ []) asked) w (codes "apply") _ _ asked h
    (λ e g. some_said (SaysOp w (k ∷ f ∷ v ∷ [])) (op.Apply key n arg) asked ((p.0, q.0, s.0), e, both p.1 (both q.1 (both s.1 refl))) g) (λ h1. cc)

plain_only : (w n : List ℕ) (ws : List (List ℕ)) (item : ScenarioLine) → plain_form w n ws ≡ Some item → Says (w ∷ n ∷ ws) item
plain_only w n [] item h = one_only w n item h
plain_only w n (b ∷ []) item h = two_only w n b item h
plain_only w n (d ∷ k ∷ []) item h =
    call_only w n d (k ∷ []) (number_word n) (name_word d) (key_op w (key_word k)) item h
    (small_only n) (name_word_only d) (λ asked e. key_op_only w k (key_word k) asked e (key_word_only k))
plain_only w n (d ∷ k ∷ v ∷ []) item h =
    call_only w n d (k ∷ v ∷ []) (number_word n) (name_word d) (value_op w (key_word k) (value_word v)) item h
    (small_only n) (name_word_only d) (λ asked e. value_op_only w k v (key_word k) (value_word v) asked e (key_word_only k) (value_word_only v))
plain_only w n (d ∷ k ∷ f ∷ x ∷ []) item h =
    call_only w n d (k ∷ f ∷ x ∷ []) (number_word n) (name_word d) (apply_op w (key_word k) (number_word f) (value_word x)) item h
    (small_only n) (name_word_only d)
    (λ asked e. apply_op_only w k f x (key_word k) (number_word f) (value_word x) asked e (key_word_only k) (small_only f) (value_word_only x))
plain_only w n (d ∷ k ∷ f ∷ x ∷ y ∷ more) item h = cc

commit_said : (ws : List (List ℕ)) (asked : NamedOp) → option_map op.Commit (pairs_of ws) ≡ Some asked → SaysOp (codes "commit") ws asked
commit_said ws asked h = mapped op.Commit (SaysOp (codes "commit") ws) (pairs_of ws) asked h (λ pairs g. let p = pairs_only ws pairs g in (p.0, refl, p.1))

commit_only : (n : List ℕ) (ws : List (List ℕ)) (item : ScenarioLine) → commit_form n ws ≡ Some item → Says (codes "commit" ∷ n ∷ ws) item
commit_only n [] item h = cc
commit_only n (d ∷ ps) item h =
    call_only (codes "commit") n d ps (number_word n) (name_word d) (option_map op.Commit (pairs_of ps)) item h (small_only n) (name_word_only d) (commit_said ps)

-- ---- commands

bare_said : (m : Command) (v c : List ℕ) (asked : Command) → IsCommand m → command_words m ≡ v ∷ [] → c ≡ v → Some m ≡ Some asked → SaysCommand (c ∷ []) asked
bare_said m v c asked range shape e h = some_said (SaysCommand (c ∷ [])) m asked (range, both e refl ∙ sym shape) h

bare_only : (c : List ℕ) (asked : Command) → bare_command c ≡ Some asked → SaysCommand (c ∷ []) asked
bare_only c asked h =
    choice (SaysCommand (c ∷ []) asked) c (codes "pnn") _ _ asked h (bare_said (command.Shows shows.Pnn) (codes "pnn") c asked tt refl)
    (λ h1. choice (SaysCommand (c ∷ []) asked) c (codes "listnodes") _ _ asked h1 (bare_said (command.Shows shows.ListNodes) (codes "listnodes") c asked tt refl)
    (λ h2. choice (SaysCommand (c ∷ []) asked) c (codes "status") _ _ asked h2 (bare_said (command.Shows shows.Status) (codes "status") c asked tt refl)
    (λ h3. choice (SaysCommand (c ∷ []) asked) c (codes "ip") _ _ asked h3 (bare_said (command.Shows shows.Ip) (codes "ip") c asked tt refl)
    (λ h4. choice (SaysCommand (c ∷ []) asked) c (codes "getdbmap") _ _ asked h4 (bare_said (command.Shows shows.GetDbMap) (codes "getdbmap") c asked tt refl)
    (λ h5. choice (SaysCommand (c ∷ []) asked) c (codes "disable") _ _ asked h5 (bare_said (command.Steps steps.Disable) (codes "disable") c asked tt refl)
    (λ h6. choice (SaysCommand (c ∷ []) asked) c (codes "enable") _ _ asked h6 (bare_said (command.Steps steps.Enable) (codes "enable") c asked tt refl)
    (λ h7. choice (SaysCommand (c ∷ []) asked) c (codes "recover") _ _ asked h7 (bare_said (command.Steps steps.Recover) (codes "recover") c asked tt refl)
    (λ h8. cc))))))))

db_command_only : (c d : List ℕ) (o : Option (List ℕ)) (asked : Command) → db_command c o ≡ Some asked → ((db : List ℕ) → o ≡ Some db → IsName db × (d ≡ db)) → SaysCommand (c ∷ d ∷ []) asked
db_command_only c d None asked h one = cc
db_command_only c d (Some db) asked h one =
    let p = one db refl in
    choice (SaysCommand (c ∷ d ∷ []) asked) c (codes "cattdb") _ _ asked h (λ e g. some_said (SaysCommand (c ∷ d ∷ [])) (command.Shows (shows.CatTdb db)) asked (p.0, both e (both p.1 refl)) g)
    (λ h1. choice (SaysCommand (c ∷ d ∷ []) asked) c (codes "getdbseqnum") _ _ asked h1
    (λ e g. some_said (SaysCommand (c ∷ d ∷ [])) (command.Shows (shows.GetDbSeqNum db)) asked (p.0, both e (both p.1 refl)) g)
    (λ h2. choice (SaysCommand (c ∷ d ∷ []) asked) c (codes "catdb") _ _ asked h2
    (λ e g. some_said (SaysCommand (c ∷ d ∷ [])) (command.CatDb db) asked (p.0, both e (both p.1 refl)) g) (λ h3. cc)))

key_command_only : (c d k : List ℕ) (o r : Option (List ℕ)) (asked : Command) → key_command c o r ≡ Some asked
    → ((db : List ℕ) → o ≡ Some db → IsName db × (d ≡ db))
    → ((key : List ℕ) → r ≡ Some key → IsKey key × (k ≡ spelling key))
    → SaysCommand (c ∷ d ∷ k ∷ []) asked
key_command_only c d k None r asked h one two = cc
key_command_only c d k (Some db) None asked h one two = cc
key_command_only c d k (Some db) (Some key) asked h one two =
    let p = one db refl in
    let q = two key refl in
    choice (SaysCommand (c ∷ d ∷ k ∷ []) asked) c (codes "readkey") _ _ asked h
    (λ e g. some_said (SaysCommand (c ∷ d ∷ k ∷ [])) (command.Steps (steps.ReadKey db key)) asked ((p.0, q.0), both e (both p.1 (both q.1 refl))) g)
    (λ h1. choice (SaysCommand (c ∷ d ∷ k ∷ []) asked) c (codes "deletekey") _ _ asked h1
    (λ e g. some_said (SaysCommand (c ∷ d ∷ k ∷ [])) (command.Steps (steps.DeleteKey db key)) asked ((p.0, q.0), both e (both p.1 (both q.1 refl))) g) (λ h2. cc))

value_command_only : (c d k v : List ℕ) (o r t : Option (List ℕ)) (asked : Command) → value_command c o r t ≡ Some asked
    → ((db : List ℕ) → o ≡ Some db → IsName db × (d ≡ db))
    → ((key : List ℕ) → r ≡ Some key → IsKey key × (k ≡ spelling key))
    → ((value : List ℕ) → t ≡ Some value → IsValue value × (v ≡ spelling value))
    → SaysCommand (c ∷ d ∷ k ∷ v ∷ []) asked
value_command_only c d k v None r t asked h one two three = cc
value_command_only c d k v (Some db) None t asked h one two three = cc
value_command_only c d k v (Some db) (Some key) None asked h one two three = cc
value_command_only c d k v (Some db) (Some key) (Some value) asked h one two three =
    let p = one db refl in
    let q = two key refl in
    let s = three value refl in
    choice (SaysCommand (c ∷ d ∷ k ∷ v ∷ []) asked) c (codes "writekey") _ _ asked h
    (λ e g. some_said (SaysCommand (c ∷ d ∷ k ∷ v ∷ [])) (command.Steps (steps.WriteKey db key value)) asked ((p.0, q.0, s.0), both e (both p.1 (both q.1 (both s.1 refl)))) g) (λ h1. cc)

writes_only : (d : List ℕ) (ws : List (List ℕ)) (o : Option (List ℕ)) (r : Option (List Pair)) (asked : Command) → writes_command o r ≡ Some asked
    → ((db : List ℕ) → o ≡ Some db → IsName db × (d ≡ db))
    → ((pairs : List Pair) → r ≡ Some pairs → ArePairs pairs × (ws ≡ map pair_text pairs))
    → SaysCommand (codes "ptrans" ∷ d ∷ ws) asked
writes_only d ws None r asked h one two = cc
writes_only d ws (Some db) None asked h one two = cc
writes_only d ws (Some db) (Some pairs) asked h one two =
    let p = one db refl in
    let q = two pairs refl in
    some_said (SaysCommand (codes "ptrans" ∷ d ∷ ws)) (command.Steps (steps.PTrans db pairs)) asked ((p.0, q.0), both refl (both p.1 q.1)) h

ptrans_only : (ws : List (List ℕ)) (asked : Command) → ptrans_form ws ≡ Some asked → SaysCommand (codes "ptrans" ∷ ws) asked
ptrans_only [] asked h = cc
ptrans_only (d ∷ ps) asked h = writes_only d ps (name_word d) (pairs_of ps) asked h (name_word_only d) (pairs_only ps)

plain_command_only : (c : List ℕ) (ws : List (List ℕ)) (asked : Command) → plain_command c ws ≡ Some asked → SaysCommand (c ∷ ws) asked
plain_command_only c [] asked h = bare_only c asked h
plain_command_only c (d ∷ []) asked h = db_command_only c d (name_word d) asked h (name_word_only d)
plain_command_only c (d ∷ k ∷ []) asked h = key_command_only c d k (name_word d) (key_word k) asked h (name_word_only d) (key_word_only k)
plain_command_only c (d ∷ k ∷ v ∷ []) asked h =
    value_command_only c d k v (name_word d) (key_word k) (value_word v) asked h (name_word_only d) (key_word_only k) (value_word_only v)
plain_command_only c (d ∷ k ∷ v ∷ x ∷ more) asked h = cc

command_only : (ws : List (List ℕ)) (asked : Command) → command_of ws ≡ Some asked → SaysCommand ws asked
command_only [] asked h = cc
command_only (c ∷ ws) asked h =
    choice (SaysCommand (c ∷ ws) asked) c (codes "ptrans") (ptrans_form ws) (plain_command c ws) asked h
    (λ e g. subst (λ (x : List ℕ). SaysCommand (x ∷ ws) asked) (sym e) (ptrans_only ws asked g))
    (plain_command_only c ws asked)

ctdb_only : (n : List ℕ) (ws : List (List ℕ)) (o : Option ℕ) (r : Option Command) (item : ScenarioLine) → ctdb_line o r ≡ Some item
    → ((node : ℕ) → o ≡ Some node → IsSmall node × (n ≡ decimal node))
    → ((asked : Command) → r ≡ Some asked → SaysCommand ws asked)
    → Says (codes "ctdb" ∷ n ∷ ws) item
ctdb_only n ws None r item h one two = cc
ctdb_only n ws (Some node) None item h one two = cc
ctdb_only n ws (Some node) (Some asked) item h one two =
    let p = one node refl in
    let q = two asked refl in
    some_said (Says (codes "ctdb" ∷ n ∷ ws)) (Ctdb node asked) item ((p.0, q.0), both refl (both p.1 q.1)) h

-- ---- lines

pub form_only : (ws : List (List ℕ)) (item : ScenarioLine) → form ws ≡ Some item → Says ws item
form_only [] item h = cc
form_only (w ∷ []) item h = cc
form_only (w ∷ n ∷ ws) item h =
    choice (Says (w ∷ n ∷ ws) item) w (codes "commit") (commit_form n ws) _ item h
    (λ e g. at_word w (codes "commit") (n ∷ ws) item e (commit_only n ws item g))
    (λ h1. choice (Says (w ∷ n ∷ ws) item) w (codes "ctdb") (ctdb_line (number_word n) (command_of ws)) (plain_form w n ws) item h1
    (λ e g. at_word w (codes "ctdb") (n ∷ ws) item e (ctdb_only n ws (number_word n) (command_of ws) item g (small_only n) (command_only ws)))
    (plain_only w n ws item))
