-- A line map by value, and the rules on one that is handed over (document 01, "The line map"; document 02, requests 2, 5 and 10).
use Rattle.std.specs.Prelude.{ℕ, ◌+◌, ◌*◌, Bool, true, cond, List, slice_index}
use Rattle.finite.specs.Sum.{fold_to}
use Rattle.finite.specs.Tests.{unless}
use Rattle.finite.specs.Links.{links}
use Rattle.aggregate.specs.declared.Config.{Config}
use Rattle.aggregate.specs.declared.Cell.{Cell}
use Rattle.aggregate.specs.Aggregate.{is_class_count, cell_gathered, cell_joined, empty_cell}
use Rattle.topology.specs.declared.Fault.TheVariants.{Classes}
use Rattle.topology.specs.Acceptance.{fault_numbers, linked, verdict_of, links_of}
use Rattle.linemap.specs.declared.Map.{Map}

-- what a net on this map is opened with; "The wave takes its way of joining counts as a number" (document 02, request 10)
abbrev pub config_of : ℕ → Map → Config
config_of way m = record { k = m.k; classes = m.classes; desk = m.desk; way = way }

-- "A map handed over with c not 1 to 8 gets 2, before 3" (document 02, request 2): that number, or what comes after
abbrev pub classes_first : Map → List ℕ → List ℕ
classes_first m rest = unless (is_class_count m.classes) (fault_numbers Classes) rest

-- "a map handed over goes 3, 7 to 10" (Causes and numbers), after 2, with 19 after 3 (document 02, request 5): the number with its values
abbrev pub acceptance : Map → List ℕ
acceptance m = classes_first m (verdict_of m.desk m.k m.neighbours)

-- "A link is an unordered pair; m counts them": 0 and m, or the number of the refusal
abbrev pub links_in : Map → List ℕ
links_in m = classes_first m (links_of m.desk m.k m.neighbours)

-- m of document 01, as a number
abbrev pub link_count : Map → ℕ
link_count m = links m.k (linked m.k m.neighbours)

-- "A row may hold c counts, 1 to 8" (document 02, request 2): where the one of station i and class j stands
abbrev pub place : ℕ → ℕ → ℕ
place i j = 8 * i + j

-- the count of station i and class j
abbrev pub count_at : Map → ℕ → ℕ → ℕ
count_at m i j = slice_index m.counts (place i j)

-- "the sum over heads with a reading, together with how many had none" (document 02, request 1), of the stations that pass a test, in class j;
-- "they are joined its way" (request 10)
abbrev pub totals_of : ℕ → (ℕ → Bool) → Map → ℕ → Cell
totals_of way chosen m j =
    fold_to (cell_joined way) (empty_cell way) m.k (λ i. cond (chosen i) (cell_gathered way (count_at m i j)) (empty_cell way))

-- of all stations: "each class reports its own total" (document 02, request 2), "the joining of all the map's readings" (request 10)
abbrev pub totals : ℕ → Map → ℕ → Cell
totals way = totals_of way (λ i. true)
