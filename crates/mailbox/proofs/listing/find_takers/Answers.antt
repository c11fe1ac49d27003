-- `mailbox::listing::find_takers` meets its contract. Invariant: both sets of the stations below i. Assumes nothing.
use mathlib.Core.Path.{◌≡◌, refl, ◌∙◌, ap, ap₂}
use Prim.Native.Nat.{ℕ, ◌+◌, ◌<◌, ◌^◌}
use native.Mathlib.Omega.{arith}
use Rattle.bitset.specs.Set.{bit_if}
use Rattle.bitset.specs.Internal.Selected.{set_of}
use Rattle.bitset.proofs.Selected.{set_next}
use Rattle.station.specs.declared.Station.{Station}
use Rattle.stations.specs.Stations.{station_at}
use Rattle.stations.specs.Words.{stations_in}
use Rattle.stations.proofs.Words.{station_read_lem}
use Rattle.mailbox.specs.Internal.Receivers.{takes_start, takes_answer, takers_of}
use Rattle.mailbox.proofs.listing.find_takers.Goals as goal
use Rattle.mailbox.proofs.listing.find_takers.Goals.{After-bit_if-starts, After-bit_if-answers}

-- what it adds for station i, which a turn reads: its bit, where it takes a message
starts-next : (c : After-bit_if-starts)
    → let l = c.loop-i in
    (l.starts + c.bit_if-starts.result ≡ set_of (l.i + 1) (λ x. takes_start (station_at (stations_in c.args.line.now) x)))
    × (l.starts + c.bit_if-starts.result < 2 ^ 64)
starts-next c =
    let i = c.loop-i.i in
    let low : i < 64 = omega (arith, c.requires) in
    set_next _ i low c.loop-i.invariant.0
    (rw c.takes_start.ensures at c.bit_if-starts.ensures
    ∙ ap (λ (s : Station). bit_if (takes_start s) i) (c.load-s.ensures ∙ station_read_lem c.args.line.now i low))

answers_next : (c : After-bit_if-answers)
    → let l = c.loop-i in
    (l.answers + c.bit_if-answers.result ≡ set_of (l.i + 1) (λ x. takes_answer (station_at (stations_in c.args.line.now) x)))
    × (l.answers + c.bit_if-answers.result < 2 ^ 64)
answers_next c =
    let i = c.loop-i.i in
    let low : i < 64 = omega (arith, c.requires) in
    set_next _ i low c.loop-i.invariant.1
    (rw c.takes_answer.ensures at c.bit_if-answers.ensures
    ∙ ap (λ (s : Station). bit_if (takes_answer s) i) (c.load-s.ensures ∙ station_read_lem c.args.line.now i low))

pub loop-i-init : goal.loop-i-init
unfolding set_of
loop-i-init c = (refl, refl)

pub overflow_add-starts : goal.overflow_add-starts
overflow_add-starts c = omega (arith, (starts-next (goal.at.overflow_add-starts c).After-bit_if-starts).1)

pub overflow_add-answers : goal.overflow_add-answers
overflow_add-answers c = omega (arith, (answers_next (goal.at.overflow_add-answers c).After-bit_if-answers).1)

pub loop-i-preserved : goal.loop-i-preserved
loop-i-preserved c =
    let at = goal.at.loop-i-preserved c in ((starts-next at.After-bit_if-starts).0, (answers_next at.After-bit_if-answers).0)

pub returns : goal.returns
unfolding takers_of
returns c =
    let all : c.loop-i.i ≡ c.args.k = omega arith in
    let inv = rw all at c.loop-i.invariant in
    ap₂ (λ (starts answers : ℕ). record { starts = starts; answers = answers }) inv.0 inv.1
