-- The text of an answer.
use Rattle.std.specs.Prelude.{ℕ, List, ◌++◌, codes}
use Rattle.std.specs.Fmt.{decimal}
use Rattle.ct_spelling.specs.Spelling.{spelling}
use Rattle.ct_values.specs.declared.client.Answer.{Answer}
use Rattle.ct_values.specs.declared.client.Answer.TheVariants as answer
use Rattle.ct_values.specs.declared.client.Why.{Why}
use Rattle.ct_values.specs.declared.client.Why.TheVariants as why
use Rattle.ct_text.specs.Words.{items_text}

-- why a call is refused
abbrev pub why_text : Why → List ℕ
why_text why.NoSuchDb = codes "no-such-db"
why_text why.WrongKind = codes "wrong-kind"
why_text why.NotServing = codes "not-serving"
why_text (why.CallPending call) = codes "call-pending " ++ decimal call
why_text why.CommitPending = codes "commit-pending"
why_text why.AlreadyLocked = codes "already-locked"
why_text why.NotLocked = codes "not-locked"
why_text why.NoSuchCall = codes "no-such-call"
why_text why.Full = codes "full"
why_text (why.TooLong length) = codes "too-long " ++ decimal length

abbrev pub answer_text : Answer → List ℕ
answer_text (answer.Locked value) = codes "locked " ++ spelling value
answer_text (answer.Read value) = codes "read " ++ spelling value
answer_text answer.Written = codes "written"
answer_text (answer.Applied value) = codes "applied " ++ spelling value
answer_text answer.Stored = codes "stored"
answer_text answer.Unlocked = codes "unlocked"
answer_text (answer.Committed seq) = codes "committed " ++ decimal seq
answer_text (answer.Unsure seq missing) = codes "unsure " ++ decimal seq ++ codes " " ++ items_text decimal missing
answer_text (answer.Refused cause) = codes "refused " ++ why_text cause
