-- What a kind of net brings (document 01, "Stations that meet", "Stations with mail", "Causes and numbers"). Everything else of this
-- crate is written once over it.
use Rattle.std.specs.Prelude.{ℕ, Bool, not, ◌&&◌, ◌||◌, ◌==◌, nat_le, nat_lt}
use Rattle.schedule.specs.declared.Step.{Step}

-- what a kind of net brings: its kinds of step, and its own form, conditions and effects
pub record Rules (Net : Type 0) : Type 0 where
  -- the kinds of step in a net are 1 to `kinds`, and `reports` is the report's
  pub kinds : Net → ℕ
  pub reports : ℕ
  -- k, and the station that reports (document 01: the desk)
  pub stations : Net → ℕ
  pub root : Net → ℕ
  -- in form: no number 11
  pub well_formed : Net → Bool
  -- the condition that the kind's table gives for a step in range: no number 13
  pub guard : Net → Step → Bool
  -- the net after a step
  pub apply : Net → Step → Net

-- "Number 12: kind not 1 to 4 (mail: 1 or 2), a station number not below k .., a report not at 0 and 0" (Causes and numbers); "the desk takes
-- the place of station 0, also in a report's 0 and 0" (document 02, request 5); in nets with carrying back "kinds go to 5" (request 8)
abbrev pub step_in_range : ℕ → ℕ → ℕ → ℕ → Step → Bool
step_in_range kinds reports k root s =
    nat_le 1 s.kind && nat_le s.kind kinds && nat_lt s.sender k && nat_lt s.receiver k
    && (not (s.kind == reports) || s.sender == root && s.receiver == root)

module _ {Net : Type 0} (R : Rules Net) where
  -- no number 12
  unfoldable pub in_range : Net → Step → Bool
  in_range net s = step_in_range (R.kinds net) R.reports (R.stations net) (R.root net) s

  -- the steps allowed: a report is one only at the root and the root (Stations that meet, the table)
  unfoldable pub allowed : Net → Step → Bool
  allowed net s = in_range net s && R.guard net s
