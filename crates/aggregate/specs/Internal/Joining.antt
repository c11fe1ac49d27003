-- The cells of an aggregate, as a function of the class, neutral past c: what the theorem on the order of the links joins (proofs/Joining).
use Rattle.std.specs.Prelude.{cond, ℕ, ltb}
use Rattle.aggregate.specs.declared.Config.{Config}
use Rattle.aggregate.specs.declared.Cell.{Cell}
use Rattle.aggregate.specs.declared.Aggregate.{Aggregate}
use Rattle.aggregate.specs.Aggregate.{used, cell, empty_cell}

-- the classes in use
unfoldable pub cells : Config → Aggregate → ℕ → Cell
cells t a i = cond (ltb i (used t)) (cell a i) (empty_cell t.way)
