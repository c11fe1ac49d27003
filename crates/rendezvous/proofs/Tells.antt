-- The rows of the tells, found receiver by receiver: at most one station may tell each. With them the rows list what a net that carries back
-- allows. Assumes nothing.
use Rattle.std.specs.Prelude.{Option, Some, None}
use mathlib.Core.Path.{◌≡◌, sym, ◌∙◌, ap}
use mathlib.Core.Bool.{Bool, true, false, not, ◌||◌, and-false}
use mathlib.Core.List.{List}
use Prim.Native.Nat.{ℕ, ◌+◌, ◌*◌, ◌-◌, ◌^◌, ◌≤◌, ◌<◌}
use native.Mathlib.Nat.{add-zero}
use native.Mathlib.Omega.{arith}
use lib.ListN.{get_or, set, replicate, length-set, length-replicate, get_or-replicate}
use lib.Seq.{get_or-set_same, get_or-set_other}
use lib.Dec.{eqb, ltb, leb}
use borrow.Author.Tests.{lt-ltb, ne_eqb, not-true, leb-true}
use Rattle.finite.proofs.Cases.{by_bool, by_eq, by-sum, or_cases, eqb_self}
use Rattle.bitset.specs.Set.{bit_if}
use Rattle.bitset.specs.Internal.Selected.{set_of}
use Rattle.bitset.proofs.Selected.{set_next, set-none, set_ext}
use Rattle.schedule.specs.Rules.{in_range, allowed}
use Rattle.schedule.specs.Listing.{step}
use Rattle.schedule.specs.Rows.{row_at}
use Rattle.aggregate.specs.Aggregate.{root_of}
use Rattle.station.specs.declared.Station.{Station}
use Rattle.rendezvous.specs.Net.{Net, carries, net_in, station}
use Rattle.rendezvous.specs.Telling.{tell, is_reported, knows, may_tell}
use Rattle.rendezvous.specs.Rules.{rules}
use Rattle.rendezvous.specs.Internal.Receivers.{Untold, ToldBy, Teller, AreTells}

-- the place of a sender's row
place : (s : ℕ) → 4 * s + tell - 1 ≡ 4 * s + 4
place s = omega arith

-- no bit
no_bit : (n : ℕ) → 0 ≡ bit_if false n
unfolding bit_if
no_bit n = by_bool (ltb n 64) (λ t. rw t) (λ f. rw f)

module _ (net : Net) (few : net.config.k ≤ 64) where
  empty_row : (s : ℕ) → s < net.config.k → row_at (replicate 260 0) tell s ≡ 0
  empty_row s l = get_or-replicate {A = ℕ} 260 (4 * s + tell - 1) 0 0 (omega arith)

  pub tells_none : AreTells net 0 (replicate 260 0)
  unfolding set_of
  tells_none = record { sized = length-replicate {A = ℕ} 260 0; row = empty_row }

  -- before the report
  pub tells_early : is_reported net ≡ false → AreTells net net.config.k (replicate 260 0)
  unfolding may_tell
  tells_early e =
      record {
        sized = length-replicate {A = ℕ} 260 0;
        row = λ s l. empty_row s l ∙ sym (set-none net.config.k _ (λ i. rw e));
      }

  module _ {n : ℕ} {tells : List ℕ} (A : AreTells net n tells) (low : n < 64) where
    -- the row of a sender that does not tell it
    row_as : (s : ℕ) → s < net.config.k → may_tell net s n ≡ false → row_at tells tell s ≡ set_of (n + 1) (λ i. may_tell net s i)
    row_as s l untold =
        sym (add-zero (row_at tells tell s))
        ∙ (set_next (λ i. may_tell net s i) n low (A.row s l) (no_bit n ∙ ap (λ (b : Bool). bit_if b n) (sym untold))).0

    -- nobody tells it
    pub tells_skip : Untold net n → AreTells net (n + 1) tells
    tells_skip U = record { sized = A.sized; row = λ s l. row_as s l (U.nobody s l) }

    -- p does
    module _ {p : ℕ} (T : ToldBy net n p) {x : ℕ} (bit : x ≡ bit_if true n) where
      own_next : (get_or tells (4 * p + 4) 0 + x ≡ set_of (n + 1) (λ i. may_tell net p i)) × (get_or tells (4 * p + 4) 0 + x < 2 ^ 64)
      own_next =
          set_next (λ i. may_tell net p i) n low (ap (λ (i : ℕ). get_or tells i 0) (sym (place p)) ∙ A.row p T.low)
          (bit ∙ ap (λ (b : Bool). bit_if b n) (sym (T.only p T.low ∙ eqb_self p)))

      pub tells_fit : get_or tells (4 * p + 4) 0 + x < 2 ^ 64
      tells_fit = own_next.1

      pub tells-next : AreTells net (n + 1) (set tells (4 * p + 4) (get_or tells (4 * p + 4) 0 + x))
      tells-next =
          let v = get_or tells (4 * p + 4) 0 + x in
          record {
            sized = length-set tells (4 * p + 4) v ∙ A.sized;
            row = λ s l. by_eq s p
                (λ (e : s ≡ p). rw (e, place p) (get_or-set_same tells (4 * p + 4) v 0 (omega (arith, A.sized, T.low, few)) ∙ own_next.0))
                (λ o. get_or-set_other tells (4 * p + 4) (4 * s + tell - 1) v 0 (λ q. o (omega arith))
                ∙ row_as s l (T.only s l ∙ ne_eqb s p o));
          }

-- ---- who may tell a station, once the desk has reported
module _ (net : Net) (rep : is_reported net ≡ true) (i : ℕ) where
  abbrev root : ℕ
  root = root_of net.config

  abbrev r : Station
  r = station net i

  pub no_teller : (eqb i root || not (eqb r.state 2) || leb net.config.k r.parent) ≡ true → Untold net i
  unfolding may_tell
  no_teller h =
      record {
        nobody = λ s l.
            by-sum (or_cases (eqb i root || not (eqb r.state 2)) (leb net.config.k r.parent) h)
            (λ a. by-sum (or_cases (eqb i root) (not (eqb r.state 2)) a)
            (λ e. rw e (simp and-false))
            (λ e. rw (not-true (eqb r.state 2) e) (simp and-false)))
            (λ e. rw (ne_eqb r.parent s (λ q. omega (arith, leb-true net.config.k r.parent e, q))) (simp and-false));
      }

  module _ (other : eqb i root ≡ false) (done : eqb r.state 2 ≡ true) where
    pub is_teller : r.parent < net.config.k → knows net r.parent ≡ true → ToldBy net i r.parent
    unfolding may_tell
    is_teller low k =
        record {
          low = low;
          only = λ s l. by_eq s r.parent
              (λ (e : s ≡ r.parent). rw (e, eqb_self r.parent, k, rep, done, other))
              (λ o. rw (ne_eqb s r.parent o, ne_eqb r.parent s (λ q. o (sym q))) (simp and-false));
        }

    pub untold_teller : knows net r.parent ≡ false → Untold net i
    unfolding may_tell
    untold_teller k =
        record {
          nobody = λ s l. by_eq s r.parent
              (λ (e : s ≡ r.parent). rw (e, k) (simp and-false))
              (λ o. rw (ne_eqb r.parent s (λ q. o (sym q))) (simp and-false));
        }

-- what is kept says nothing of tells
pub teller_any : (words kept other : List ℕ) (i : ℕ) (p : Option ℕ) → Teller (net_in words kept) i p → Teller (net_in words other) i p
unfolding may_tell
teller_any words kept other i None T = record { nobody = T.nobody }
teller_any words kept other i (Some p) T = record { low = T.low; only = T.only }

pub tells_any : (words kept other : List ℕ) (n : ℕ) (tells : List ℕ) → AreTells (net_in words kept) n tells → AreTells (net_in words other) n tells
unfolding may_tell
tells_any words kept other n tells A = record { sized = A.sized; row = A.row }

-- the tells among the steps allowed
pub tells-allowed : (net : Net) → carries net ≡ true → (tells : List ℕ) → AreTells net net.config.k tells
    → (s : ℕ) → s < net.config.k → row_at tells tell s ≡ set_of net.config.k (λ i. allowed rules net (step tell s i))
unfolding allowed in_range
tells-allowed net b tells A s l =
    A.row s l ∙ set_ext net.config.k _ _ (λ i m. sym (rw (b, lt-ltb s net.config.k l, lt-ltb i net.config.k m)))
