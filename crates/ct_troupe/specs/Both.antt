-- Which of two troupes played.
use Rattle.std.specs.Prelude.{◌≡◌, Bool, true, false, if◌then◌else◌, List, []}
use Rattle.ct_troupe.specs.declared.both.Last.{Last}
use Rattle.ct_troupe.specs.declared.both.Last.TheVariants.{Loopback, Nobody, Threads}

-- who plays a plan, by whether its nodes are to talk over sockets
abbrev pub player_of : Bool → Last
player_of net = if net then Loopback else Threads

-- the journals of whoever played last, and none before
abbrev pub journals_by : {A : Type 0} → Last → List A → List A → List A
journals_by Nobody threads loopback = []
journals_by Threads threads loopback = threads
journals_by Loopback threads loopback = loopback

-- who does not play stays as it was
abbrev pub StaysAside : {T L : Type 0} → Bool → T → T → L → L → Type 0
StaysAside true threads news loopback newl = news ≡ threads
StaysAside false threads news loopback newl = newl ≡ loopback
