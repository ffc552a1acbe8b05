-- What a line of a run says: whom it speaks of, and a short label.
use Rattle.std.specs.Prelude.{ℕ, ◌&&◌, ◌||◌, ◌==◌, nat_le, nat_lt, Bool, if◌then◌else◌, List, [], ◌++◌, codes, slice_get, Option, None, Some}
use Rattle.std.specs.List.{list_all, list_any, slice_split}
use Rattle.std.specs.Str.{bytes_eq}
use Rattle.ct_spelling.specs.Number.{number_of}
use Rattle.ct_picture.specs.declared.row.Look.{Look}
use Rattle.ct_picture.specs.declared.row.Look.TheVariants as look
use Rattle.ct_picture.specs.declared.row.Row.{Row}
use Rattle.ct_picture.specs.declared.row.RowKind.{RowKind}
use Rattle.ct_picture.specs.declared.row.RowKind.TheVariants as kind

-- a byte that is printed, or a space
abbrev pub is_printed : ℕ → Bool
is_printed b = nat_le 32 b && nat_le b 126

-- the words of a line, with one space between them
abbrev pub words_of : List ℕ → List (List ℕ)
words_of line = slice_split (λ b. b == 32) line

abbrev pub or_empty : Option (List ℕ) → List ℕ
or_empty None = []
or_empty (Some word) = word

-- the word at a place from 0, empty where there is none
abbrev pub word_at : List (List ℕ) → ℕ → List ℕ
word_at words i = or_empty (slice_get words i)

-- a number below 2^64
abbrev pub number_at : List (List ℕ) → ℕ → Option ℕ
number_at words i = number_of (word_at words i)

abbrev pub if_node : Option ℕ → Option ℕ
if_node None = None
if_node (Some n) = if nat_lt n 16 then Some n else None

-- a node, of sixteen at most
abbrev pub node_at : List (List ℕ) → ℕ → Option ℕ
node_at words i = if_node (number_at words i)

-- messages of one record, between its location master and nodes that hold it or want it
unfoldable pub is_of_record : List ℕ → Bool
is_of_record w =
    bytes_eq w (codes "call") || bytes_eq w (codes "recall") || bytes_eq w (codes "give") || bytes_eq w (codes "pass") || bytes_eq w (codes "grant")
    || bytes_eq w (codes "refuse") || bytes_eq w (codes "done")

-- messages of a revocation and of a vacuum
unfoldable pub is_of_copies : List ℕ → Bool
is_of_copies w =
    bytes_eq w (codes "revoke") || bytes_eq w (codes "revokeack") || bytes_eq w (codes "vstore") || bytes_eq w (codes "vstored")
    || bytes_eq w (codes "vdelete") || bytes_eq w (codes "vdeleted")

-- messages of a round of recovery
unfoldable pub is_of_round : List ℕ → Bool
is_of_round w =
    bytes_eq w (codes "freeze") || bytes_eq w (codes "freezeack") || bytes_eq w (codes "pull") || bytes_eq w (codes "pullreply")
    || bytes_eq w (codes "push") || bytes_eq w (codes "pushack") || bytes_eq w (codes "thaw")

-- messages of a commit
unfoldable pub is_of_commit : List ℕ → Bool
is_of_commit w = bytes_eq w (codes "pupdate") || bytes_eq w (codes "pack")

-- messages of a takeover of addresses
unfoldable pub is_of_addresses : List ℕ → Bool
is_of_addresses w = bytes_eq w (codes "release") || bytes_eq w (codes "releaseack") || bytes_eq w (codes "take")

-- messages of a walk through a database
unfoldable pub is_of_traverse : List ℕ → Bool
is_of_traverse w = bytes_eq w (codes "ask") || bytes_eq w (codes "rows")

-- words that a line of a message begins with
unfoldable pub is_message : List ℕ → Bool
is_message w = bytes_eq w (codes "frame") || bytes_eq w (codes "tframe")

-- how a message of this name looks, if there is one
abbrev pub look_of : List ℕ → Option Look
look_of w =
    if is_of_record w
    then Some look.Record
    else if is_of_copies w
    then Some look.Copies
    else if is_of_round w
    then Some look.Round
    else if is_of_commit w
    then Some look.Commit
    else if is_of_addresses w
    then Some look.Addresses
    else if is_of_traverse w
    then Some look.Traverse
    else None

-- words that tell of the node that the next word names
unfoldable pub is_at_first : List ℕ → Bool
is_at_first w =
    bytes_eq w (codes "vacuumed") || bytes_eq w (codes "ended") || bytes_eq w (codes "thawed") || bytes_eq w (codes "released")
    || bytes_eq w (codes "took") || bytes_eq w (codes "yielded")

-- words that tell of the node that the word after the next names
unfoldable pub is_at_second : List ℕ → Bool
is_at_second w = bytes_eq w (codes "ticket") || bytes_eq w (codes "pending") || bytes_eq w (codes "pending-traverse")

-- words that tell of no node, and have a number behind them
unfoldable pub is_beside : List ℕ → Bool
is_beside w =
    bytes_eq w (codes "answer") || bytes_eq w (codes "lost") || bytes_eq w (codes "round") || bytes_eq w (codes "tlost")
    || bytes_eq w (codes "traverse")

-- words that a line of counts begins with
unfoldable pub is_count : List ℕ → Bool
is_count w = bytes_eq w (codes "cluster") || bytes_eq w (codes "loopback") || bytes_eq w (codes "chains")

-- a colon, a dot or an equals sign
abbrev pub has_sign : List ℕ → Bool
has_sign w = list_any (λ b. (b == 58) || (b == 46) || (b == 61)) w

-- what a command prints begins with one of these words, or with one that has a colon, a dot or an equals sign
unfoldable pub is_shown : List ℕ → Bool
is_shown w =
    bytes_eq w (codes "node") || bytes_eq w (codes "Public") || bytes_eq w (codes "Dumped") || bytes_eq w (codes "Number")
    || bytes_eq w (codes "Recovery") || bytes_eq w (codes "Sequence") || has_sign w

abbrev pub sent : Option ℕ → Option ℕ → Option ℕ → Option ℕ → Option Look → Option RowKind
sent (Some number) (Some sender) (Some receiver) (Some generation) (Some l) = Some (kind.Sent number sender receiver l)
sent (Some number) (Some sender) (Some receiver) (Some generation) None = None
sent (Some number) (Some sender) (Some receiver) None l = None
sent (Some number) (Some sender) None generation l = None
sent (Some number) None receiver generation l = None
sent None sender receiver generation l = None

abbrev pub at_node : Option ℕ → Option RowKind
at_node None = None
at_node (Some n) = Some (kind.At n)

abbrev pub installed : Option ℕ → Option ℕ → Option RowKind
installed None generation = None
installed (Some n) None = None
installed (Some n) (Some generation) = Some (kind.Installed n generation)

abbrev pub stopped : Option ℕ → Option RowKind
stopped None = None
stopped (Some n) = Some (kind.Stopped n)

abbrev pub started : Option ℕ → Option RowKind
started None = None
started (Some n) = Some (kind.Started n)

-- a kind, where there is a number
abbrev pub where_number : Option ℕ → RowKind → Option RowKind
where_number None k = None
where_number (Some n) k = Some k

-- what a line of these words is, if it is one of a run
unfoldable pub kind_of : List (List ℕ) → Option RowKind
kind_of ws =
    let w = word_at ws 0 in
    if is_message w
    then sent (number_at ws 1) (node_at ws 2) (node_at ws 3) (number_at ws 4) (look_of (word_at ws 5))
    else if is_at_first w
    then at_node (node_at ws 1)
    else if is_at_second w
    then at_node (node_at ws 2)
    else if bytes_eq w (codes "installed")
    then installed (node_at ws 1) (number_at ws 2)
    else if bytes_eq w (codes "stopped")
    then stopped (node_at ws 1)
    else if bytes_eq w (codes "started")
    then started (node_at ws 1)
    else if is_beside w
    then where_number (number_at ws 1) kind.Beside
    else if bytes_eq w (codes "column")
    then where_number (number_at ws 1) kind.Column
    else if is_count w
    then where_number (number_at ws 1) kind.Across
    else if is_shown w
    then Some kind.Beside
    else None

-- the number of a message, its name, and what it is of
abbrev pub sent_label : List (List ℕ) → List ℕ
sent_label ws = word_at ws 1 ++ codes " " ++ word_at ws 5 ++ codes " " ++ word_at ws 6 ++ codes " " ++ word_at ws 7

-- a message is told by some of its words, all else by the whole line
abbrev pub label_of : RowKind → List ℕ → List ℕ
label_of (kind.Sent number sender receiver l) line = sent_label (words_of line)
label_of (kind.At n) line = line
label_of (kind.Installed n generation) line = line
label_of (kind.Stopped n) line = line
label_of (kind.Started n) line = line
label_of kind.Beside line = line
label_of kind.Column line = line
label_of kind.Across line = line

abbrev pub row_with : Option RowKind → List ℕ → Option Row
row_with None line = None
row_with (Some k) line = Some (record { line = line; label = label_of k line; kind = k })

-- what a line without its line feed says: of printed bytes alone, and a line of a run
unfoldable pub row_of : List ℕ → Option Row
row_of line = if list_all is_printed line then row_with (kind_of (words_of line)) line else None
