-- What an opening comes to at the first rule that refuses, and where none does. Assumes nothing.
use mathlib.Core.Path.{◌≡◌, sym, subst}
use mathlib.Core.List.{List}
use Prim.Native.Nat.{ℕ, ◌-◌, ◌/◌, ◌%◌, ◌≤◌, ◌<◌}
use lib.ListN.{length}
use Rattle.std.specs.Prelude.{Ok, Err}
use borrow.Author.Tests.{le-leb, lt-leb, ne_eqb}
use Rattle.linemap.specs.declared.Map.{Map}
use Rattle.linemap.specs.declared.ReadFault.{ReadFault}
use Rattle.linemap.specs.Stored.{length_of}
use Rattle.linemap.specs.Reading.{read_refused, read_as, reading}
use Rattle.linemap.proofs.Answers.{read_fault_refuses}
use Rattle.linemap.proofs.Rules.{read_facts}
use Rattle.opening.specs.declared.OpenFault.TheVariants.{TooLong, Unread, Odd}
use Rattle.opening.specs.Opening.{open_outcome_of, most_bytes, input_opening}

module _ (s : List ℕ) where
  pub too_long : most_bytes < length s → open_outcome_of (Err TooLong) ≡ input_opening s
  unfolding input_opening
  too_long h = rw (lt-leb (length s) most_bytes h)

  -- the map ends the input
  pub map_fits : (m : Map) → read_as m ≡ reading s → length_of m ≤ length s
  map_fits m told = let facts = read_facts s m (sym told) in subst (λ (n : Map). length_of n ≤ length s) facts.is facts.fits

  module _ (few : length s ≤ most_bytes) where
    pub unread : (fault : ReadFault) → read_refused fault ≡ reading s → open_outcome_of (Err (Unread fault)) ≡ input_opening s
    unfolding input_opening
    unread fault told = rw (le-leb (length s) most_bytes few, ← told, read_fault_refuses fault)

    module _ (m : Map) (told : read_as m ≡ reading s) (need : ℕ) (stored : need ≡ length_of m) where
      pub odd : ((length s - need) % 2 ≡ 0 → ⊥) → open_outcome_of (Err Odd) ≡ input_opening s
      unfolding input_opening
      odd h = rw (le-leb (length s) most_bytes few, ← told, ← stored, ne_eqb ((length s - need) % 2) 0 h)

      pub opened : (length s - need) % 2 ≡ 0 → open_outcome_of (Ok (record { draws = (length s - need) / 2; map = m })) ≡ input_opening s
      unfolding input_opening
      opened h = rw (le-leb (length s) most_bytes few, ← told, ← stored, h)
