-- What is kept of the stations: what is stored for one leaves that of the others, so station by station all are kept, and one that is written
-- anew is kept anew. Assumes nothing.
use mathlib.Core.Path.{◌≡◌, sym, ◌∙◌, ap}
use mathlib.Core.List.{List}
use Prim.Native.Nat.{ℕ, ◌+◌, ◌≤◌, ◌<◌}
use native.Mathlib.Omega.{arith}
use lib.ListN.{length, set, length-set}
use lib.Seq.{get_or-set_same, get_or-set_other}
use Rattle.finite.proofs.Cases.{by_eq}
use Rattle.station.specs.declared.Station.{Station}
use Rattle.rendezvous.specs.declared.listing.Sends.{Sends}
use Rattle.rendezvous.specs.Net.{Net, station, with_one}
use Rattle.rendezvous.specs.Internal.Receivers.{sends_of, sent_in, kept_at, AreSends}

-- station j is stored
module _ (kept : List Sends) (j : ℕ) (x : Sends) where
  pub stored_sized : length kept ≡ 64 → length (set kept j x) ≡ 64
  stored_sized sized = length-set kept j x ∙ sized

  stored_own : length kept ≡ 64 → j < 64 → kept_at (set kept j x) j ≡ x
  stored_own sized low = get_or-set_same kept j x _ (omega (arith, sized))

  pub stored_other : (i : ℕ) → (i ≡ j → ⊥) → kept_at (set kept j x) i ≡ kept_at kept i
  stored_other i n = get_or-set_other kept j i x _ n

pub kept_none : (net : Net) {kept : List Sends} → length kept ≡ 64 → AreSends net 0 kept
kept_none net e = record { sized = e; word = λ j l. absurd (let z : ⊥ = omega arith in z) }

-- one station more
pub kept_next : (net : Net) {n : ℕ} {kept : List Sends} {x : Sends} → AreSends net n kept → n < 64 → x ≡ sent_in net n → AreSends net (n + 1) (set kept n x)
kept_next net {n} {kept} {x} A low e =
    record {
      sized = stored_sized kept n x A.sized;
      word = λ j l. by_eq j n
          (λ (q : j ≡ n). rw q (stored_own kept n x A.sized low ∙ e))
          (λ q. stored_other kept n x j q ∙ A.word j (omega arith));
    }

-- station j of the net is written anew
pub kept_one : (net : Net) (j : ℕ) (s : Station) {k : ℕ} {kept : List Sends} → k ≤ 64 → j < k → station (with_one net j s) j ≡ s
    → ((i : ℕ) → (i ≡ j → ⊥) → station (with_one net j s) i ≡ station net i)
    → AreSends net k kept → AreSends (with_one net j s) k (set kept j (sends_of net.config j s))
kept_one net j s {k} {kept} few low own others A =
    let t = net.config in
    let x = sends_of t j s in
    record {
      sized = stored_sized kept j x A.sized;
      word = λ i l. by_eq i j
          (λ (q : i ≡ j). rw q (stored_own kept j x A.sized (omega arith) ∙ ap (sends_of t j) (sym own)))
          (λ q. stored_other kept j x i q ∙ A.word i l ∙ ap (sends_of t i) (sym (others i q)));
    }
