use Rattle.std.proofs.Common.{◌≡◌, drop}
use Rattle.ct_rules.specs.Parts.{send_all}
use Rattle.ct_record_parts.proofs.draft.Draft.send_all.Given as goal

-- what is sent so far and to the rest is what is sent to all
abbrev pub invariant-loop-node : goal.invariant-loop-node
invariant-loop-node l = send_all (drop l.node-index l.nodes) l.msg l.self ≡ send_all l.nodes l.msg l.initial.self
