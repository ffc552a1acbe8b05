-- The records of the worked steps: where they are looked at, and what is kept of them.
use Rattle.std.specs.Prelude.{ℕ, true, false, List, [], ◌∷◌, Option, None, Some, replicate}
use Rattle.ct_values.specs.declared.client.ClientOp.TheVariants as op
use Rattle.ct_frame.specs.Header.{being_revoked, delegated, for_reading, nobody, plain}
use Rattle.ct_frame.specs.declared.frame.CallKind.TheVariants as kind
use Rattle.ct_frame.specs.declared.frame.Msg.{Msg}
use Rattle.ct_call.specs.Rules as it
use Rattle.ct_tracking.specs.Tracked.{untracked}
use Rattle.ct_tracking.specs.declared.vacuum.VacuumPhase.TheVariants.{Storing, Deleting}
use Rattle.ct_rules.specs.State.{nothing_kept, a_copy}
use Rattle.ct_rules.specs.Parts.{Moving}
use Rattle.ct_rules.specs.Moves.{moved}
use Rattle.ct_rules.specs.declared.event.Act.{Act}
use Rattle.ct_rules.specs.declared.event.MoveEvent.{MoveEvent}
use Rattle.ct_rules.specs.declared.event.MoveEvent.TheVariants as event
use Rattle.ct_rules.specs.declared.event.Place.{Place}
use Rattle.ct_rules.specs.declared.state.RecState.{RecState}

-- keys and values
abbrev pub a : List ℕ
a = 97 ∷ []

abbrev pub b : List ℕ
b = 98 ∷ []

abbrev pub x : List ℕ
x = 120 ∷ []

abbrev pub y : List ℕ
y = 121 ∷ []

-- the record `b` of a volatile database, at one of two nodes; its location master is node 0
abbrev pub b_at : ℕ → Place
b_at me = record { me = me; lmaster = 0; db = 1; key = b; floor = 0; readonly = false }

-- the record `a` of a volatile database, at one of three nodes; its location master is node 1
abbrev pub a_at : ℕ → ℕ → Place
a_at me floor = record { me = me; lmaster = 1; db = 1; key = a; floor = floor; readonly = false }

-- the record `a` of a database with read-only copies, at one of three nodes; its location master is node 1
abbrev pub r_at : ℕ → Place
r_at me = record { me = me; lmaster = 1; db = 1; key = a; floor = 0; readonly = true }

-- a step at a node whose next request has number 3
abbrev pub happens : Place → MoveEvent → RecState → Option Moving
happens at e s = moved at [] e s 3

abbrev pub comes : Place → ℕ → Msg → RecState → Option Moving
comes at sender m s = happens at (event.Arrive sender m) s

-- what it leaves, where it draws no request number and does not finish a vacuum
abbrev pub leaves : Place → RecState → List Act → Option Moving
leaves at s acts = Some (record { state = s; next = 3; floor = at.floor; acts = acts; spent = false })

-- what it leaves, where it draws a request number
abbrev pub leaves_asked : Place → RecState → List Act → Option Moving
leaves_asked at s acts = Some (record { state = s; next = 4; floor = at.floor; acts = acts; spent = false })

-- ---- the record moves to node 1

-- at the location master: it has the record, and request 1 of node 1 waits
abbrev pub asked : RecState
asked = record nothing_kept {
  copy = Some (a_copy 0 0 plain []);
  entry = Some (record { holder = 0; least = 0; request = 0; value = [] });
  queue = record { node = 1; request = 1; kind = kind.Lock } ∷ [];
}

-- it gave the record, and the gift has not come yet
abbrev pub gave : RecState
gave = record asked { copy = Some (a_copy 0 nobody plain []) }

-- it passed the record on to node 1
abbrev pub passed : RecState
passed = record gave { entry = Some (record { holder = 1; least = 1; request = 1; value = [] }); queue = [] }

-- at node 1: a lock is wished for under request 1
abbrev pub wishing : RecState
wishing = record nothing_kept { wish = Some (record { call = 7; request = 1; op = op.Lock 1 b }) }

-- and then the node has the record, and has it locked
abbrev pub locked : RecState
locked = record nothing_kept { copy = Some (a_copy 1 1 plain []); locked = Some 7 }

-- ---- the record comes back

-- at node 0, which gave the record under RSN 1
abbrev pub given_up : RecState
given_up = record nothing_kept { copy = Some (a_copy 1 nobody plain x) }

-- at the location master: the record was passed to node 0 for its request 1, under RSN 2
abbrev pub passed_back : RecState
passed_back = record nothing_kept {
  copy = Some (a_copy 0 nobody plain []);
  entry = Some (record { holder = 0; least = 3; request = 1; value = x });
}

-- and then it was refused, and stays
abbrev pub stayed : RecState
stayed = record nothing_kept {
  copy = Some (a_copy 4 1 plain x);
  entry = Some (record { holder = 1; least = 4; request = 0; value = x });
}

-- at the location master: the record was passed to node 0 for its request 1, under RSN 0
abbrev pub passed_on : RecState
passed_on = record nothing_kept {
  copy = Some (a_copy 0 nobody plain []);
  entry = Some (record { holder = 0; least = 1; request = 1; value = [] });
}

-- ---- copies for reading

-- at the location master: reads of the nodes 0 and 2 wait
abbrev pub reads_wait : RecState
reads_wait = record nothing_kept {
  copy = Some (a_copy 0 1 delegated x);
  entry = Some (record { holder = 1; least = 0; request = 0; value = [] });
  queue = record { node = 0; request = 1; kind = kind.Read } ∷ record { node = 2; request = 1; kind = kind.Read } ∷ [];
  tracking = record { tracked = 0 ∷ []; revoking = None };
}

-- the read of node 2 alone waits
abbrev pub one_read_waits : RecState
one_read_waits = record reads_wait { queue = record { node = 2; request = 1; kind = kind.Read } ∷ [] }

-- at the holder, which is the location master: nodes 0 and 2 have copies for reading
abbrev pub delegating : RecState
delegating = record nothing_kept {
  copy = Some (a_copy 0 1 delegated x);
  entry = Some (record { holder = 1; least = 0; request = 0; value = [] });
  tracking = record { tracked = 0 ∷ 2 ∷ []; revoking = None };
}

-- a call of the node's own waits until both have acknowledged that their copies are called in
abbrev pub revoking : RecState
revoking = record delegating {
  copy = Some (a_copy 0 1 being_revoked x);
  tracking = record { tracked = 0 ∷ 2 ∷ []; revoking = Some (record { rsn = 0; missing = 0 ∷ 2 ∷ [] }) };
  wish = Some (record { call = 6; request = 0; op = op.Lock 1 a });
}

-- a recall of another node waits in place of the call
abbrev pub recalled : RecState
recalled = record revoking { wish = None; waiting = record { least = 0; node = 2; request = 4; kind = kind.Lock } ∷ [] }

-- node 2 alone is missing
abbrev pub revoking_one : RecState
revoking_one = record revoking { tracking = record { tracked = 0 ∷ 2 ∷ []; revoking = Some (record { rsn = 0; missing = 2 ∷ [] }) } }

-- and the call has the lock
abbrev pub revoked : RecState
revoked = record delegating { copy = Some (a_copy 1 1 plain x); tracking = untracked; locked = Some 6 }

-- a write waits in place of a lock, and a recall waits behind it
abbrev pub revoking_for_write : RecState
revoking_for_write = record revoking_one {
  wish = Some (record { call = 6; request = 0; op = op.Write 1 a y });
  waiting = record { least = 0; node = 2; request = 4; kind = kind.Lock } ∷ [];
}

-- at node 0: a read is wished for under this request
abbrev pub reading : ℕ → RecState
reading request = record nothing_kept { wish = Some (record { call = 5; request = request; op = op.Read 1 a }) }

-- the copy that it was granted
abbrev pub read_only : RecState
read_only = record nothing_kept { copy = Some (a_copy 0 1 for_reading x) }

-- ---- a vacuum

-- at the location master: the record is deleted, and free
abbrev pub deleted : RecState
deleted = record nothing_kept {
  copy = Some (a_copy 2 1 plain []);
  entry = Some (record { holder = 1; least = 2; request = 0; value = [] });
}

-- the nodes 0 and 2 store the deleted record, and these of them have not said so
abbrev pub storing : List ℕ → RecState
storing missing = record deleted {
  copy = Some (a_copy 3 1 plain []);
  vacuum = Some (record { phase = Storing; rsn = 2; missing = missing; others = 0 ∷ 2 ∷ [] });
}

-- they remove it, and these of them have not said so
abbrev pub deleting : List ℕ → RecState
deleting missing = record (storing []) { vacuum = Some (record { phase = Deleting; rsn = 2; missing = missing; others = 0 ∷ 2 ∷ [] }) }

-- at node 0: an old copy, and the deleted record
abbrev pub old_copy : RecState
old_copy = record nothing_kept { copy = Some (a_copy 1 nobody plain []) }

abbrev pub stored_copy : RecState
stored_copy = record nothing_kept { copy = Some (a_copy 2 1 plain []) }

-- the record is made anew, under the RSN 4, and locked
abbrev pub made_anew : RecState
made_anew = record nothing_kept {
  copy = Some (a_copy 4 1 plain []);
  entry = Some (record { holder = 1; least = 4; request = 0; value = [] });
  locked = Some 5;
}

-- ---- a function whose answer is too long

-- function 1 answers the old value and the argument behind it
abbrev pub appending : it.Rules
appending = (1, it.Join it.Old it.Arg) ∷ []

-- a holder whose value has 1,024 bytes
abbrev pub full : RecState
full = record nothing_kept {
  copy = Some (a_copy 0 1 plain (replicate 1024 0));
  entry = Some (record { holder = 1; least = 0; request = 0; value = [] });
}
