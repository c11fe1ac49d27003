-- The values of the answers fit 32 bits: a station is at most 64, a stored map at most 2,576 bytes long, and a sheet 21,361. Assumes nothing.
use mathlib.Core.Path.{◌≡◌, refl}
use mathlib.Core.Bool.{Bool, true, false}
use mathlib.Core.List.{List}
use Prim.Native.Nat.{ℕ, ◌≤◌, ◌<◌, zero-le}
use native.Mathlib.Nat.{mul_comm, mul-le-mul_right}
use native.Mathlib.Omega.{arith}
use lib.Dec.{leb, ltb}
use lib.ListN.{length}
use borrow.Author.Tests.{leb-false}
use Rattle.aggregate.specs.Ways.{summing}
use Rattle.aggregate.specs.Aggregate.{is_class_count}
use Rattle.aggregate.proofs.Laws.{class_count}
use Rattle.topology.specs.Answer.{is_accepted}
use Rattle.finite.specs.Tests.{unless}
use Rattle.topology.specs.Acceptance.{fault_numbers, lowest, over_all, verdict_of}
use Rattle.bitset.specs.Set.{is_station_count}
use Rattle.topology.specs.declared.Fault.{Fault}
use Rattle.topology.specs.declared.Fault.TheVariants.{Classes, Stations, Desk, Beyond, Itself, OneWay, Apart}
use Rattle.linemap.specs.declared.Map.{Map}
use Rattle.linemap.specs.Writing.{is_storable, writing}
use Rattle.linemap.specs.Maps.{config_of, acceptance}
use Rattle.linemap.specs.Stored.{row_length, length_of}
use Rattle.linemap.proofs.Accepted.{map_classes, map_web}
use Rattle.linemap.proofs.Rules.{few_stations}
use Rattle.rendezvous.specs.Net.{Net, well_formed}
use Rattle.sheet.specs.Sheet.{SheetOutcome, desk_of, agrees, is_reported, sheet_length, sheet_on}
use Rattle.capi.specs.Internal.Values.{value_of}

unless_small : {A : Type 0} (value : A → ℕ) (n : ℕ) (b : Bool) (x y : A) → (b ≡ false → value x ≤ n) → (b ≡ true → value y ≤ n)
    → value (unless b x y) ≤ n
unless_small value n true x y refused rest = rest refl
unless_small value n false x y refused rest = refused refl

over_all_small : (n k : ℕ) (offends : ℕ → Bool) (fault : ℕ → Fault) (rest : List ℕ) → ((i : ℕ) → value_of (fault_numbers (fault i)) ≡ i) → k ≤ n → value_of rest ≤ n
    → value_of (over_all k offends fault rest) ≤ n
over_all_small n k offends fault rest station small later =
    unless_small value_of n (leb k (lowest k offends)) (fault_numbers (fault (lowest k offends))) rest
    (λ some. omega (arith, leb-false k (lowest k offends) some, station (lowest k offends))) (λ none. later)

verdict_small : (root k : ℕ) (sets : List ℕ) → value_of (verdict_of root k sets) ≤ 64
unfolding verdict_of
verdict_small root k sets =
    unless_small value_of 64 (is_station_count k) (fault_numbers Stations) _ (λ many. zero-le) (λ few.
    let small = few_stations k few in
    unless_small value_of 64 (ltb root k) (fault_numbers Desk) _ (λ high. zero-le) (λ low.
    over_all_small 64 k _ Beyond _ (λ i. refl) small
    (over_all_small 64 k _ Itself _ (λ i. refl) small
    (over_all_small 64 k _ OneWay _ (λ i. refl) small
    (over_all_small 64 k _ Apart _ (λ i. refl) small zero-le)))))

acceptance_small : (m : Map) → value_of (acceptance m) ≤ 64
acceptance_small m =
    unless_small value_of 64 (is_class_count m.classes) (fault_numbers Classes) _ (λ refused. zero-le)
    (λ few. verdict_small m.desk m.k m.neighbours)

-- the longest of all: 64 rows of eight counts
length_most : (m : Map) → is_accepted (acceptance m) ≡ true → length_of m ≤ 2576
length_most m accepted =
    let short : row_length m.classes ≤ 40 = omega (arith, class_count m.classes (map_classes m accepted)) in
    omega (arith, mul-le-mul_right m.k short, (map_web m accepted).few_stations)

pub writing_small : (m : Map) (n : ℕ) → value_of (writing m n) < 4294967296
unfolding writing
writing_small m n =
    let small : value_of (writing m n) ≤ 2576 =
    unless_small value_of 2576 (is_accepted (acceptance m)) (acceptance m) _ (λ refused. omega (arith, acceptance_small m))
    (λ accepted. let need = length_most m accepted in
    unless_small value_of 2576 (is_storable m.lot) _ _ (λ long. zero-le)
    (λ small. unless_small value_of 2576 (leb (length_of m) n) _ _ (λ short. need) (λ fits. need))) in
    omega arith

-- the longest sheet has 521 lines
sheet_most : (m : Map) → is_accepted (acceptance m) ≡ true → sheet_length m ≤ 21361
sheet_most m accepted =
    let few = (class_count m.classes (map_classes m accepted)).1 in
    omega (arith, mul-le-mul_right m.k few, mul_comm m.k m.classes, (map_web m accepted).few_stations, few)

pub sheet_small : (m : Map) (net : Net) (l : List ℕ) → value_of (sheet_on m net l).numbers < 4294967296
unfolding sheet_on
sheet_small m net l =
    let value : SheetOutcome → ℕ = λ o. value_of o.numbers in
    let small : value_of (sheet_on m net l).numbers ≤ 21361 =
    unless_small value 21361 (is_accepted (acceptance m)) _ _ (λ refused. omega (arith, acceptance_small m))
    (λ accepted. let need = sheet_most m accepted in
    unless_small value 21361 (is_storable m.lot) _ _ (λ long. zero-le)
    (λ storable. unless_small value 21361 (well_formed net) _ _ (λ outside. zero-le)
    (λ formed. unless_small value 21361 (agrees (config_of summing m) net.config) _ _ (λ differs. zero-le)
    (λ same. unless_small value 21361 (is_reported m.classes (desk_of net)) _ _ (λ unreported. zero-le)
    (λ reported. unless_small value 21361 (leb (sheet_length m) (length l)) _ _ (λ short. need) (λ fits. need)))))) in
    omega (arith, small)
