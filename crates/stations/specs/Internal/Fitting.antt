-- What the types of an aggregate and of a station that code holds say of their fields: they come back from the words that they are stored in.
use Rattle.std.specs.Prelude.{◌≡◌, ◌^◌, ◌<◌, length}
use Rattle.finite.specs.Numbers.{bytes}
use Rattle.aggregate.specs.declared.Aggregate.{Aggregate}
use Rattle.aggregate.specs.Aggregate.{missing_word}
use Rattle.station.specs.declared.Station.{Station}

pub record FitsHeld (v : Aggregate) : Type 0 where
  pub sums_long : length v.sums ≡ 8
  pub missing_again : bytes 8 (missing_word v) ≡ v.missing

pub record Fits (s : Station) : Type 0 where
  pub held_fits : FitsHeld s.held
  pub parent_byte : s.parent < 2 ^ 8
  pub waits_byte : s.waits < 2 ^ 8
  pub state_byte : s.state < 2 ^ 8
