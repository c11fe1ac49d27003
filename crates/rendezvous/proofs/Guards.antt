-- Each condition of Figure 2 by the guards of Definition 3.1: the same tests in another order. Assumes nothing.
use mathlib.Core.Path.{◌≡◌, refl, ap}
use mathlib.Core.Bool.{Bool, true, false, not, ◌&&◌, and-true, and-false, and_comm}
use Prim.Native.Nat.{ℕ}
use lib.Dec.{eqb}
use Rattle.aggregate.specs.declared.Config.{Config}
use Rattle.aggregate.specs.Aggregate.{root_of}
use Rattle.bitset.specs.Set.{member}
use Rattle.station.specs.declared.Station.{Station}
use Rattle.station.specs.Events.{asleep, active, may_send_start, ready, may_answer}
use Rattle.rendezvous.specs.Figure.{wake, pass, answer, report, may_step}

start_order : (state in-set active apart : Bool) → (state && in-set && active && apart) ≡ (state && (active && in-set && apart))
start_order true m a n = ap (λ (b : Bool). b && n) (and_comm m a)
start_order false m a n = refl

answer_order : (set waits active state other apart parent : Bool)
    → (set && waits && active && state && other && apart && parent) ≡ (state && (other && (active && set && waits) && apart && parent))
answer_order true true true true o n p = simp and-true
answer_order true true true false o n p = refl
answer_order true true false s o n p = simp and-false
answer_order true false a s o n p = simp and-false
answer_order false w a s o n p = simp and-false

report_order : (set waits active : Bool) → (set && waits && active) ≡ (active && set && waits)
report_order set waits true = and-true (set && waits)
report_order set waits false = and-false (set && waits)

module _ (t : Config) (j i : ℕ) (s r : Station) where
  pub wake-guard : may_step t wake j i s r ≡ (eqb r.state asleep && (may_send_start i s && not (eqb i j)))
  unfolding may_step may_send_start
  wake-guard = start_order (eqb r.state 0) (member i s.unstarted) (eqb s.state 1) (not (eqb i j))

  pub pass-guard : may_step t pass j i s r ≡ (eqb r.state active && (may_send_start i s && not (eqb i j)))
  unfolding may_step may_send_start
  pass-guard = start_order (eqb r.state 1) (member i s.unstarted) (eqb s.state 1) (not (eqb i j))

  pub answer-guard : may_step t answer j i s r ≡ (eqb r.state active && (may_answer t j s && not (eqb j i) && eqb s.parent i))
  unfolding may_step may_answer ready
  answer-guard =
      answer_order (eqb s.unstarted 0) (eqb s.waits 0) (eqb s.state 1) (eqb r.state 1) (not (eqb j (root_of t))) (not (eqb j i)) (eqb s.parent i)

  pub report-guard : may_step t report j i s r ≡ ready s
  unfolding may_step ready
  report-guard = report_order (eqb s.unstarted 0) (eqb s.waits 0) (eqb s.state 1)
