-- What a sheet says (document 02, request 7): "The totals printed are the desk's. For a net reached by allowed steps from the fresh net of that
-- map, the lines above add up to them." It is read from the bytes in the buffer. The theorem is `sheets` (proofs/Adding).
use Rattle.std.specs.Prelude.{◌≡◌, Bool, cond, List, [], ◌∷◌, ℕ, ◌+◌, ◌*◌, ◌-◌, ◌<◌, eqb, leb, length, get_or, take, drop, Ok}
use Prim.Native.Char.{code}
use Rattle.finite.specs.Sum.{sum, indicator}
use Rattle.finite.specs.Below.{all_below}
use Rattle.aggregate.specs.declared.Aggregate.{Aggregate}
use Rattle.aggregate.specs.Ways.{summing}
use Rattle.aggregate.specs.Aggregate.{cell}
use Rattle.linemap.specs.declared.Map.{Map}
use Rattle.linemap.specs.Maps.{count_at}
use Rattle.linemap.specs.RoundTrip.{Fits}
use Rattle.rendezvous.specs.Net.{Net}
use Rattle.demand.specs.Kinds.{meeting, carrying, left, reports}
use Rattle.demand.specs.Demand.{OnEveryMap}
use Rattle.sheet.specs.Layout.{column, count_column, sheet_of}
use Rattle.sheet.specs.Sheet.{sheet_numbers, desk_of, sheet_length, sheet_on}

-- line n, counted from 0: "exactly 40 bytes and a line feed"
abbrev pub line_at : List ℕ → ℕ → List ℕ
line_at bytes n = take 41 (drop (41 * n) bytes)

-- w columns of a line, after its first `at`
abbrev pub columns_at : ℕ → ℕ → List ℕ → List ℕ
columns_at at w line = take w (drop at line)

-- the number that columns show after those that showed v: digits count, blanks and hyphens say nothing
unfoldable pub shown_from : ℕ → List ℕ → ℕ
shown_from v [] = v
shown_from v (b ∷ l) = shown_from (cond (leb (code "0") b) (10 * v + (b - code "0")) v) l

-- the number that columns show
abbrev pub shown : List ℕ → ℕ
shown columns = shown_from 0 columns

-- "ten hyphens"
abbrev pub is_hyphens : List ℕ → Bool
is_hyphens columns = all_below 10 (λ i. eqb (get_or columns i 0) (code "-"))

module _ (m : Map) (bytes : List ℕ) (j : ℕ) where
  -- the ten columns of the count in the line of station i and class j, after "station (2), blank, class from 1 (1), blank"
  abbrev pub count_in : ℕ → List ℕ
  count_in i = columns_at 5 10 (line_at bytes (1 + (m.classes * i + j)))

  -- the last line of class j
  abbrev pub last_line : List ℕ
  last_line = line_at bytes (1 + (m.classes * m.k + j))

  -- "the lines above add up to them"
  pub record AddsUp : Type 0 where
    -- the counts shown are together the total shown, after "letter T, two blanks, class (1), blank"
    pub counts : sum m.k (λ i. shown (count_in i)) ≡ shown (columns_at 5 12 last_line)
    -- and the counts that show hyphens are as many as the missing number shown, after "total (12), blank"
    pub missing : sum m.k (λ i. indicator (is_hyphens (count_in i))) ≡ shown (columns_at 18 2 last_line)

-- every number takes the columns given to it, and no more: nothing is cut, and nothing is moved
pub record Columns (m : Map) (held : Aggregate) : Type 0 where
  pub lot : length (column 15 m.lot) ≡ 15
  pub station : (i : ℕ) → i < m.k → length (column 2 i) ≡ 2
  pub class : (j : ℕ) → j < m.classes → length (column 1 (j + 1)) ≡ 1
  pub count : (i j : ℕ) → i < m.k → j < m.classes → length (count_column (count_at m i j)) ≡ 10
  pub total : (j : ℕ) → j < m.classes → length (column 12 (cell held j).sum) ≡ 12
  pub missing : (j : ℕ) → j < m.classes → length (column 2 (cell held j).missing) ≡ 2

-- nothing is refused
abbrev pub LaidOut : Map → Net → List ℕ → Type 0
LaidOut m net buffer = (sheet_on m net buffer).numbers ≡ sheet_numbers (Ok (sheet_length m))

-- after the report, what stands in the buffer adds up
abbrev pub Sound : Map → ℕ → Net → Type 0
Sound m reports net =
    reports ≡ 1 → (buffer : List ℕ) → LaidOut m net buffer → (j : ℕ) → j < m.classes → AddsUp m (sheet_on m net buffer).buffer j

-- what holds of every sheet that is laid out
pub record Sheets : Type 0 where
  pub columns : (m : Map) → Fits m → (net : Net) (buffer : List ℕ) → LaidOut m net buffer → Columns m (desk_of net).held
  -- the length answered is the sheet's
  pub long : (m : Map) → Fits m → (net : Net) (buffer : List ℕ) → LaidOut m net buffer → length (sheet_of m (desk_of net).held) ≡ sheet_length m
  -- "For a net reached by allowed steps from the fresh net of that map", opened without carrying back or for it; for a net that joins counts
  -- another way there is no sheet
  pub adds_up : OnEveryMap (λ m calls. Sound m (reports (meeting summing) m calls) (left (meeting summing) m calls))
  pub adds_up_carrying : OnEveryMap (λ m calls. Sound m (reports (carrying summing) m calls) (left (carrying summing) m calls))
