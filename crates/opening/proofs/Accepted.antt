-- A map that an input opens is accepted: no rule of the opening refused, and reading gives no other. Assumes nothing.
use mathlib.Core.Path.{◌≡◌, refl, sym, ap, ◌∙◌}
use mathlib.Core.Bool.{Bool, true, false}
use mathlib.Core.List.{List, [], ◌∷◌}
use Prim.Native.Nat.{ℕ, ◌*◌, ◌%◌}
use lib.Dec.{leb, ltb, eqb}
use lib.ListN.{length}
use Rattle.finite.proofs.Cases.{clash, by_bool}
use Rattle.topology.specs.declared.Fault.TheVariants.{Classes, Stations, Desk}
use Rattle.topology.specs.Answer.{accepted, is_accepted}
use Rattle.finite.specs.Tests.{unless}
use Rattle.bitset.specs.Set.{is_station_count}
use Rattle.linemap.specs.declared.Map.{Map}
use Rattle.linemap.specs.declared.ReadFault.{ReadFault}
use Rattle.linemap.specs.declared.ReadFault.TheVariants.{Short, Distance, Rows, CheckWord, Unfit}
use Rattle.linemap.specs.Maps.{acceptance}
use Rattle.linemap.specs.Words.{sum_words}
use Rattle.linemap.specs.Stored.{trailer_length, stored_length, word_count}
use Rattle.linemap.specs.Reading.{ReadOutcome, read_refused, read_as, is_row_length, map_at, judged, reading}
use Rattle.linemap.specs.Reading.{stations_in, desk_in, row_length_in, classes_in, distance_in, lot_in, start_in}
use Rattle.linemap.proofs.Answers.{read_fault_refuses}
use Rattle.linemap.proofs.Accepted.{read-accepted}
use Rattle.opening.specs.declared.OpenFault.TheVariants.{TooLong, Odd}
use Rattle.opening.specs.Opening.{open_fault_numbers, open_refused, most_bytes, bytes_before, input_opening}

-- an outcome that no number refuses is that of an accepted map
abbrev Sound : ReadOutcome → Type 0
Sound o = is_accepted o.numbers ≡ true → o ≡ read_as o.map

sound-unless : (b : Bool) (fault : ReadFault) (rest : ReadOutcome) → Sound rest → Sound (unless b (read_refused fault) rest)
sound-unless true fault rest sound e = sound e
sound-unless false fault rest sound e = clash e (read_fault_refuses fault)

sound-judged : (m : Map) → Sound (judged m)
sound-judged m = by_bool (is_accepted (acceptance m)) (λ y. rw y (λ e. refl)) (λ n. rw n (λ e. clash e n))

reading-sound : (s : List ℕ) → Sound (reading s)
unfolding reading
reading-sound s =
    sound-unless (leb trailer_length (length s)) Short _
    (sound-unless (is_row_length (row_length_in s)) (Unfit Classes) _
    (sound-unless (is_station_count (stations_in s)) (Unfit Stations) _
    (sound-unless (ltb (desk_in s) (stations_in s)) (Unfit Desk) _
    (sound-unless (eqb (distance_in s) (row_length_in s * stations_in s)) Distance _
    (sound-unless (leb (stored_length (classes_in s) (stations_in s)) (length s)) Rows _
    (sound-unless (eqb (sum_words s (start_in s) (word_count (classes_in s) (stations_in s))) 0) CheckWord _
    (sound-judged (map_at s (classes_in s) (stations_in s) (desk_in s) (lot_in s) (start_in s)))))))))

-- an opening that refuses nothing passed each test
passed : (b : Bool) (numbers : List ℕ) (rest o : ReadOutcome) → (b ≡ false → is_accepted numbers ≡ false) → is_accepted o.numbers ≡ true
    → unless b (open_refused numbers) rest ≡ o → (b ≡ true) × (rest ≡ o)
passed true numbers rest o refuses accepts e = (refl, e)
passed false numbers rest o refuses accepts e =
    clash accepts (sym (ap (λ (x : ReadOutcome). is_accepted x.numbers) e) ∙ refuses refl)

pub opened-accepted : (s : List ℕ) (draws : ℕ) (m : Map) → input_opening s ≡ record { numbers = 0 ∷ draws ∷ []; map = m }
    → acceptance m ≡ accepted
unfolding input_opening
opened-accepted s draws m e =
    let few = passed (leb (length s) most_bytes) (open_fault_numbers TooLong) _ _ (λ _. refl) refl e in
    let read = passed (is_accepted (reading s).numbers) (reading s).numbers _ _ (λ e. e) refl few.1 in
    let even = passed (eqb (bytes_before s (reading s).map % 2) 0) (open_fault_numbers Odd) _ _ (λ _. refl) refl read.1 in
    let same : (reading s).map ≡ m = ap (λ (o : ReadOutcome). o.map) even.1 in
    ap acceptance (sym same) ∙ read-accepted s (reading s).map (reading-sound s read.0)
