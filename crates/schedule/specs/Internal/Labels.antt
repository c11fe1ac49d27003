-- The wave's step that a step of a net is.
use Rattle.std.specs.Prelude.{cond, ◌==◌}
use Rattle.wave.specs.Internal.Wave as wave
use Rattle.schedule.specs.declared.Step.{Step}
use Rattle.schedule.specs.Rules.{Rules}

module _ {Net : Type 0} (R : Rules Net) where
  -- "Every step made but a report is one message, carried by the link of its two stations from sender to receiver"
  abbrev pub label_of : Step → wave.Step
  label_of s = cond (s.kind == R.reports) wave.report (wave.message s.sender s.receiver)
