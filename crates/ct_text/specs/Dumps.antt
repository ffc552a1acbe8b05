-- The records of one database, as they are shown.
use Rattle.std.specs.Prelude.{ℕ, List, ◌++◌, length, codes}
use Rattle.std.specs.Fmt.{decimal}
use Rattle.std.specs.List.{flat_map}
use Rattle.ct_spelling.specs.Spelling.{spelling}
use Rattle.ct_values.specs.declared.client.Pair.{Pair}
use Rattle.ct_frame.specs.declared.header.RecCopy.{RecCopy}

-- a copy of a record with its header
abbrev pub copy_line : List ℕ × RecCopy → List ℕ
copy_line e = codes "key=" ++ spelling e.0 ++ codes " dmaster=" ++ decimal e.1.header.dmaster ++ codes " rsn=" ++ decimal e.1.header.rsn ++ codes " flags=" ++ decimal e.1.header.flags ++ codes " data=" ++ spelling e.1.value ++ codes "\n"

-- a pair of a persistent database
abbrev pub pair_line : Pair → List ℕ
pair_line p = codes "key=" ++ spelling p.key ++ codes " data=" ++ spelling p.value ++ codes "\n"

abbrev pub dumped_text : ℕ → List ℕ
dumped_text count = codes "Dumped " ++ decimal count ++ codes " records\n"

-- copies, and how many they are
unfoldable pub copies_text : List (List ℕ × RecCopy) → List ℕ
copies_text copies = flat_map copy_line copies ++ dumped_text (length copies)

-- pairs, and how many they are
unfoldable pub pairs_text : List Pair → List ℕ
pairs_text pairs = flat_map pair_line pairs ++ dumped_text (length pairs)
