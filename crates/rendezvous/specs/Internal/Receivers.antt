-- A step in its parts, and the receivers of the allowed steps, as sets: what a sender may send, which changes with the sender alone, and who can
-- take it by the states.
use Rattle.std.specs.Prelude.{◌≡◌, Bool, true, false, not, cond, ◌&&◌, ◌||◌, List, ℕ, ◌≤◌, ◌<◌, length, get_or, set, eqb, Option, Some, None}
use Rattle.std.specs.Int.Bits.{bit_and}
use Rattle.bitset.specs.Set.{member, without, bit_if, put}
use Rattle.bitset.specs.Internal.Selected.{set_of}
use Rattle.aggregate.specs.declared.Config.{Config}
use Rattle.aggregate.specs.declared.Aggregate.{Aggregate}
use Rattle.aggregate.specs.Aggregate.{root_of, bounded, clipped}
use Rattle.station.specs.declared.Station.{Station}
use Rattle.station.specs.Events.{asleep, active, finished, may_report, may_answer}
use Rattle.station.specs.Form as form
use Rattle.stations.specs.Words.{config_in}
use Rattle.schedule.specs.declared.Step.{Step}
use Rattle.schedule.specs.declared.rows.Sizes.{Sizes}
use Rattle.schedule.specs.Rows.{row_at}
use Rattle.schedule.specs.Internal.Rows.{sizes_of, Others, HoldRows}
use Rattle.rendezvous.specs.declared.listing.States.{States}
use Rattle.rendezvous.specs.declared.listing.Sends.{Sends}
use Rattle.rendezvous.specs.Net.{Net, station, told, settled, told_well, well_formed}
use Rattle.rendezvous.specs.Figure.{wake, pass, answer, finishes, starts, wakes, hears, gathers}
use Rattle.rendezvous.specs.Telling.{tell, known, may_tell, hears_total}

-- what a step makes of its sender, to station i
unfoldable pub sent_by : ℕ → ℕ → Station → Station
sent_by kind i s = cond (eqb kind wake || eqb kind pass) (starts i s) (cond (eqb kind tell) s (finishes s))

-- and of its receiver r, from station j, which was s; a report is its one station's, twice
unfoldable pub received_by : Config → ℕ → ℕ → Station → Station → Station
received_by t kind j s r =
    cond (eqb kind wake) (wakes j r)
    (cond (eqb kind pass) (hears r) (cond (eqb kind answer) (gathers t s r) (cond (eqb kind tell) (hears_total r) (finishes r))))

-- and of what is kept
abbrev pub kept_by : Net → Step → List Aggregate
kept_by net step =
    cond (eqb step.kind tell) (set net.kept step.receiver (clipped net.config (known net step.sender))) net.kept

-- the net with two stations replaced, and with what is kept after the step
abbrev pub with_made : Net → Step → Station → Station → Net
with_made net step s r =
    record {
      config = net.config;
      stations = set (set net.stations step.sender s) step.receiver r;
      carrying = net.carrying;
      kept = kept_by net step;
    }

-- the net after the step
abbrev pub made_of : Net → Step → Net
made_of net step =
    let s = station net step.sender in
    with_made net step (sent_by step.kind step.receiver s) (received_by net.config step.kind step.sender s (station net step.receiver))

-- what decides on the form after a step, of its receiver: told, it waits for nothing; else what it has gathered is bounded
abbrev pub keeps_form : Config → ℕ → Station → Bool
keeps_form t kind r = cond (eqb kind tell) (eqb r.waits 0) (bounded t r.held)

-- the form of a place, of its station and of what that keeps
abbrev pub place_formed : ℕ → Config → ℕ → Station → Aggregate → Bool
place_formed carrying t i s v =
    cond (eqb carrying 1) (form.well_formed t i (settled s) && (told_well t i s && bounded t v)) (form.well_formed t i s)

-- the condition of a tell, over whether the desk has reported, and its two stations
abbrev pub may_tell_of : Config → ℕ → ℕ → Bool → Station → Station → Bool
may_tell_of t j i reported s r =
    reported && cond (eqb j (root_of t)) reported (eqb s.state told) && eqb r.state finished && not (eqb i (root_of t)) && eqb r.parent j

-- what code has read of the words of a net in form: what it was opened with
pub record Read (words : List ℕ) (t : Config) : Type 0 where
  pub config : t ≡ config_in words
  pub few : t.k ≤ 64
  pub root : root_of t < 64

-- no station may tell i
pub record Untold (net : Net) (i : ℕ) : Type 0 where
  pub nobody : (s : ℕ) → s < net.config.k → may_tell net s i ≡ false

-- station p may tell i, and no other
pub record ToldBy (net : Net) (i p : ℕ) : Type 0 where
  pub low : p < net.config.k
  pub only : (s : ℕ) → s < net.config.k → may_tell net s i ≡ eqb s p

-- the station that may tell i, if one may
abbrev pub Teller : Net → ℕ → Option ℕ → Type 0
Teller net i None = Untold net i
Teller net i (Some p) = ToldBy net i p

-- the rows of the tells to receivers below n, beside those of the other kinds
pub record AreTells (net : Net) (n : ℕ) (tells : List ℕ) : Type 0 where
  pub sized : length tells ≡ 260
  pub row : (s : ℕ) → s < net.config.k → row_at tells tell s ≡ set_of n (λ i. may_tell net s i)

-- the stations in a state
unfoldable pub in_state : Net → ℕ → ℕ
in_state net state = set_of net.config.k (λ i. eqb (station net i).state state)

-- who may take a start, asleep or active, and who an answer
abbrev pub states_of : Net → States
states_of net = record { asleep = in_state net asleep; active = in_state net active }

-- the same, where station i has come to a state
abbrev pub restated : ℕ → ℕ → States → States
restated i state states = record { asleep = put i (eqb state asleep) states.asleep; active = put i (eqb state active) states.active }

-- to whom j, as the station s, may send a start
unfoldable pub startable : ℕ → Station → ℕ
startable j s = cond (eqb s.state active) (without j s.unstarted) 0

-- the parent of j, as the station s, if j may answer it
unfoldable pub answerable : Config → ℕ → Station → ℕ
answerable t j s = bit_if (may_answer t j s && not (eqb j s.parent)) s.parent

-- what j may send as the station s, in whichever state the receivers are
abbrev pub sends_of : Config → ℕ → Station → Sends
sends_of t j s = record { starts = startable j s; home = answerable t j s; report = bit_if (may_report t j s) j }

-- what station j of the net may send
abbrev pub sent_in : Net → ℕ → Sends
sent_in net j = sends_of net.config j (station net j)

-- what is kept of station j
abbrev pub kept_at : List Sends → ℕ → Sends
kept_at kept j = get_or kept j (record { starts = 0; home = 0; report = 0 })

-- what is kept of a net, where station j has become s: what it may send, and the states
abbrev pub Renewed : Config → ℕ → Station → List Sends → States → List Sends → States → Type 0
Renewed t j s kept states kept' states' = (kept' ≡ set kept j (sends_of t j s)) × (states' ≡ restated j s.state states)

-- what the stations below n of the net may send is kept
pub record AreSends (net : Net) (n : ℕ) (kept : List Sends) : Type 0 where
  pub sized : length kept ≡ 64
  pub word : (j : ℕ) → j < n → kept_at kept j ≡ sent_in net j

-- what a pass over all stations finds of a net in form: who is in which state, and what each may send
pub record Found (net : Net) (states : States) (kept : List Sends) : Type 0 where
  pub form : well_formed net ≡ true
  pub states_are : states ≡ states_of net
  pub sends_are : AreSends net net.config.k kept

-- and whether the net is in form
abbrev pub Surveyed : Net → Option States → List Sends → Type 0
Surveyed net None kept = well_formed net ≡ false
Surveyed net (Some states) kept = Found net states kept

-- the receivers of a step of a kind: those to whom it may be sent and whose state lets them take it
unfoldable pub takers_in : ℕ → Sends → States → ℕ
takers_in kind x states =
    cond (eqb kind wake) (bit_and x.starts states.asleep)
    (cond (eqb kind pass) (bit_and x.starts states.active)
    (cond (eqb kind answer) (bit_and x.home states.active)
    x.report))

-- the rows of what stations in these states can take, where `sent` gives what each may send, and their sizes
pub record HoldTakers (k : ℕ) (states : States) (sent : ℕ → Sends) (rows : List ℕ) (z : Sizes) : Type 0 where
  pub sized : length rows ≡ 256
  pub row : (kind s : ℕ) → 1 ≤ kind → kind ≤ 4 → s < k → row_at rows kind s ≡ takers_in kind (sent s) states
  pub sizes : z ≡ sizes_of rows k

-- states that are the same but for the two stations of the step
pub record Agree (step : Step) (old states : States) : Type 0 where
  pub asleep_as : (i : ℕ) → Others step i → member i states.asleep ≡ member i old.asleep
  pub active_as : (i : ℕ) → Others step i → member i states.active ≡ member i old.active

-- rows where those of some senders are of what stations in these states can take, and their sizes
pub record HoldSome (those : ℕ → Type 0) (k : ℕ) (states : States) (sent : ℕ → Sends) (rows : List ℕ) (z : Sizes) : Type 0 where
  pub hold : HoldRows those k (λ kind s. takers_in kind (sent s) states) rows z
