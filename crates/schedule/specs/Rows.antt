-- The list of allowed steps by rows: for each sender and kind, the set of the receivers. What the code of every kind of net searches.
use Rattle.std.specs.Prelude.{ℕ, zero, suc, ◌+◌, ◌-◌, ◌*◌, ◌%◌, ◌^◌, Bool, cond, List, [], ◌∷◌, map, length, ◌==◌, nat_lt, slice_index, slice_set, Option, None, Result, Ok, Err}
use mathlib.Core.List.{flat_map}
use Rattle.std.specs.Result.{result_ok}
use Rattle.bitset.specs.Set.{member, size}
use Rattle.schedule.specs.declared.Step.{Step}
use Rattle.schedule.specs.declared.rows.Sizes.{Sizes}
use Rattle.schedule.specs.declared.rows.Four.{Four}
use Rattle.schedule.specs.Listing.{range, select, step}

-- Parts of the list of all steps, by kind, then sender, then receiver, rising: each is taken from where a scan stands, what it has still to
-- look at. The steps of a kind and a sender, to receivers from r on and below w.
unfoldable pub steps_from : ℕ → ℕ → ℕ → ℕ → List Step
steps_from w kind s r = map (step kind s) (range r w)

-- the steps of a kind, of senders from s on and below k
unfoldable pub steps_of_kind : ℕ → ℕ → ℕ → ℕ → List Step
steps_of_kind w k kind s = flat_map (λ (s : ℕ). steps_from w kind s 0) (range s k)

-- entry n of a list, counted from 0, or how many entries are still to pass where the list is too short
unfoldable pub entry : List Step → ℕ → Result Step ℕ
entry [] n = Err n
entry (s ∷ l) zero = Ok s
entry (s ∷ l) (suc n) = entry l n

-- the row of a kind, counted from 1, and a sender: four rows a sender
abbrev pub row_at : List ℕ → ℕ → ℕ → ℕ
row_at rows kind s = slice_index rows (4 * s + kind - 1)

-- a step that the rows list
unfoldable pub in_rows : List ℕ → Step → Bool
in_rows rows s = member s.receiver (row_at rows s.kind s.sender)

-- entry n of the steps of a kind that the rows list
abbrev pub entry_of_kind : List ℕ → ℕ → ℕ → ℕ → Result Step ℕ
entry_of_kind rows k kind n = entry (select (in_rows rows) (steps_of_kind 64 k kind 0)) n

-- how many steps of a kind the rows list
unfoldable pub size_of : List ℕ → ℕ → ℕ → ℕ
size_of rows k kind = length (select (in_rows rows) (steps_of_kind 64 k kind 0))

-- the sizes of no rows
abbrev pub none : Sizes
none = record { first = 0; second = 0; third = 0; fourth = 0 }

-- the sizes with the rows of one more sender: in 32 bits, which no rows of 64 senders use up
unfoldable pub added : Sizes → ℕ → ℕ → ℕ → ℕ → Sizes
added z a b c d =
    let more : ℕ → ℕ → ℕ = λ n row. (n + size row) % 2 ^ 32 in
    record { first = more z.first a; second = more z.second b; third = more z.third c; fourth = more z.fourth d }

-- the sizes without the rows of one sender
unfoldable pub removed : Sizes → ℕ → ℕ → ℕ → ℕ → Sizes
removed z a b c d =
    let less : ℕ → ℕ → ℕ = λ n row. (n + (2 ^ 32 - size row)) % 2 ^ 32 in
    record { first = less z.first a; second = less z.second b; third = less z.third c; fourth = less z.fourth d }

-- the sizes without the rows of sender j
abbrev pub sizes_without : ℕ → List ℕ → Sizes → Sizes
sizes_without j rows z = removed z (row_at rows 1 j) (row_at rows 2 j) (row_at rows 3 j) (row_at rows 4 j)

-- the rows, with the four of sender n stored
abbrev pub four_set : List ℕ → ℕ → ℕ → ℕ → ℕ → ℕ → List ℕ
four_set rows n a b c d = slice_set (slice_set (slice_set (slice_set rows (4 * n) a) (4 * n + 1) b) (4 * n + 2) c) (4 * n + 3) d

-- the same, of the record of the four
abbrev pub with_four : List ℕ → ℕ → Four → List ℕ
with_four rows n f = four_set rows n f.first f.second f.third f.fourth

-- the sizes with the four of sender n stored where it had none; past 64 senders none are
abbrev pub sizes_stored : Sizes → ℕ → Four → Sizes
sizes_stored z n f = cond (nat_lt n 64) (added z f.first f.second f.third f.fourth) z

-- and stored anew, where the rows had others
abbrev pub sizes_replaced : List ℕ → Sizes → ℕ → Four → Sizes
sizes_replaced rows z n f = cond (nat_lt n 64) (added (sizes_without n rows z) f.first f.second f.third f.fourth) z

-- all steps
unfoldable pub total_of : Sizes → ℕ
total_of z = (((z.first + z.second) % 2 ^ 32 + z.third) % 2 ^ 32 + z.fourth) % 2 ^ 32

-- entry n of all steps, searched by sizes: a kind that ends before it is passed by its size
unfoldable pub entry_by_size : List ℕ → Sizes → ℕ → ℕ → Result Step ℕ
entry_by_size rows z k n =
    cond (nat_lt n z.first) (entry_of_kind rows k 1 n)
    (cond (nat_lt (n - z.first) z.second) (entry_of_kind rows k 2 (n - z.first))
    (cond (nat_lt (n - z.first - z.second) z.third) (entry_of_kind rows k 3 (n - z.first - z.second))
    (entry_of_kind rows k 4 (n - z.first - z.second - z.third))))

-- the step that was found, if any was
abbrev pub step_found : Result Step ℕ → Option Step
step_found found = result_ok found

-- what a draw picks, searched by sizes: of any rows and sizes, and of those of a net's allowed steps what `picked` says (proofs/Sized)
unfoldable pub picked_by_size : List ℕ → Sizes → ℕ → ℕ → Option Step
picked_by_size rows z k d = cond (total_of z == 0) None (step_found (entry_by_size rows z k (d % total_of z)))

-- A fifth kind has rows of its own, in a list beside them: entry n of all steps, where those of the fifth kind go after the others
unfoldable pub entry_beside : List ℕ → Sizes → List ℕ → ℕ → ℕ → Result Step ℕ
entry_beside rows z more k n = cond (nat_lt n (total_of z)) (entry_by_size rows z k n) (entry_of_kind more k 5 (n - total_of z))

-- what a draw picks of them
unfoldable pub picked_beside : List ℕ → Sizes → List ℕ → ℕ → ℕ → Option Step
picked_beside rows z more k d =
    let c = (total_of z + size_of more k 5) % 2 ^ 32 in
    cond (c == 0) None (step_found (entry_beside rows z more k (d % c)))
