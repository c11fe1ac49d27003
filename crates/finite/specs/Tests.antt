-- Tests in their order, as document 01's "Causes and numbers" has them.
use Rattle.std.specs.Prelude.{Bool, cond}

-- a test and what stands after it: the refusal, unless the test holds
abbrev pub unless : {A : Type 0} → Bool → A → A → A
unless test refusal rest = cond test rest refusal
