-- What a run does to a reader and a writer that tell their bytes.
use Rattle.std.specs.Prelude.{List, ℕ, ◌≤◌, take, Option, Result, Ok, Err, IfSome, MatchResult}
use Rattle.std.specs.Io.KnownBytes.{Keeps, Appends}
use Rattle.program.specs.declared.streams.ServeError.{ServeError}
use Rattle.program.specs.declared.streams.ServeError.TheVariants.{Unread, Unwritten}
use Rattle.program.specs.Output.{output_of}
use Rattle.program.specs.Running.{input_room}

-- a writer that held `old` and holds `new` took a beginning of these bytes
abbrev pub Begins : Option (List ℕ) → Option (List ℕ) → List ℕ → Type 0
Begins old new bytes = (n : ℕ) × Appends old new (take n bytes)

-- it took all of them, or a write failed after a beginning of them
abbrev pub Writes : {A E : Type 0} → Option (List ℕ) → Option (List ℕ) → List ℕ → Result A E → Type 0
Writes old new bytes r = MatchResult r (λ _. Appends old new bytes) (λ _. Begins old new bytes)

-- so many bytes were read before a run failed; of a read that failed none are told
abbrev pub count_read : ServeError → ℕ
count_read (Unread e) = 0
count_read (Unwritten n e) = n

-- a run that failed left the writer as it was where a read failed, and gave it a beginning of the output where a write failed
abbrev pub Fails : Option (List ℕ) → Option (List ℕ) → Option (List ℕ) → ServeError → Type 0
Fails input old new (Unread e) = Keeps old new
Fails input old new (Unwritten n e) = IfSome input (λ s. Begins old new (output_of s))

-- a run on a reader with these bytes left, and a writer that held `old` and holds `new`: the output for all of them is written, or it failed
abbrev pub Serves : Option (List ℕ) → Option (List ℕ) → Option (List ℕ) → Result ℕ ServeError → Type 0
Serves input old new (Ok n) = (n ≤ input_room) × IfSome input (λ s. Appends old new (output_of s))
Serves input old new (Err why) = (count_read why ≤ input_room) × Fails input old new why
