-- Writing and reading undo each other: the claims of specs/RoundTrip. Assumes nothing.
use Rattle.std.proofs.Common.{◌≡◌, ℕ, ◌-◌, ◌^◌, ◌<◌, ◌≤◌, List, ◌++◌, get_or, refl, ap, ◌∙◌, ap₂}
use Rattle.finite.specs.Numbers.{bytes}
use Rattle.linemap.specs.Words.{sum_words}
use Rattle.finite.specs.Below.{each}
use Rattle.topology.specs.Answer.{accepted, is_accepted}
use Rattle.linemap.specs.Maps.{count_at, acceptance}
use Rattle.linemap.specs.Stored.{row_length, length_of, word_count, count_bytes, row_bytes, trailer_bytes, body_of, stored_of, check_word}
use Rattle.linemap.specs.RoundTrip.{Equal, cleared_of, RoundTrips}
use Rattle.linemap.specs.Reading.{read_as, reading}
use Rattle.linemap.specs.Writing.{write_numbers, writing}
use Rattle.linemap.specs.declared.Map.{Map}
use Rattle.std.specs.Prelude.{Ok}
use Rattle.linemap.proofs.Each.{each_same, column-at, grid-at}
use Rattle.aggregate.proofs.Laws.{class_count}
use Rattle.linemap.proofs.Accepted.{map_classes}
use Rattle.linemap.proofs.Fits.{read_lot}
use Rattle.linemap.proofs.Rules.{read_facts, room_enough}
use Rattle.linemap.proofs.WriteRead.{written-reads}
use Rattle.linemap.proofs.ReadWrite.{read_writes}

cleared_equal : (m : Map) → acceptance m ≡ accepted → Equal (cleared_of m) m
cleared_equal m ok =
    let few = (class_count m.classes (map_classes m (ap is_accepted ok))).1 in
    record {
      k = refl;
      classes = refl;
      desk = refl;
      lot = refl;
      counts = λ i j h l. grid-at (count_at m) m.classes few m.k i j h l;
      neighbours = λ i h. column-at 64 (λ j. get_or m.neighbours j 0) m.k i h;
    }

equal_rows : (m n : Map) → Equal m n → (i : ℕ) → i < m.k
    → row_bytes m.classes m.counts m.neighbours i ≡ row_bytes n.classes n.counts n.neighbours i
unfolding row_bytes count_bytes
equal_rows m n e i h =
    ap₂ (λ (counts : List ℕ) (set : ℕ). counts ++ bytes 8 set)
    (each_same _ _ m.classes (λ j l. ap (bytes 4) (e.counts i j h l)) ∙ ap (each (λ j. bytes 4 (count_at n i j))) e.classes)
    (e.neighbours i h)

equal_bodies : (m n : Map) → Equal m n → body_of m ≡ body_of n
unfolding body_of
equal_bodies m n e =
    ap₂ (λ (rows trailer : List ℕ). rows ++ trailer)
    (each_same _ _ m.k (equal_rows m n e) ∙ ap (each (row_bytes n.classes n.counts n.neighbours)) e.k)
    (ap₂ (λ (c k : ℕ). trailer_bytes (row_length c) k m.desk m.lot) e.classes e.k
    ∙ ap₂ (trailer_bytes (row_length n.classes) n.k) e.desk e.lot)

equal_written : (m n : Map) → Equal m n → stored_of m ≡ stored_of n
unfolding stored_of
equal_written m n e =
    ap₂ (λ (body : List ℕ) (words : ℕ). body ++ bytes 4 (check_word (sum_words body 0 (words - 1))))
    (equal_bodies m n e) (ap₂ word_count e.classes e.k)

read_writable : (s : List ℕ) (m : Map) → ((i : ℕ) → get_or s i 0 < 2 ^ 8) → reading s ≡ read_as m → (n : ℕ) → length_of m ≤ n
    → writing m n ≡ write_numbers (Ok (length_of m))
read_writable s m byte e n room = room_enough m n (read_facts s m e).good (read_lot s m byte e) room

pub round_trips : RoundTrips
round_trips =
    record {
      written-reads = written-reads;
      cleared_equal = cleared_equal;
      equal_written = equal_written;
      read_writable = read_writable;
      read_writes = read_writes;
    }
