-- The flag in the first word: what is read of the words after it is written, and that with it they are pinned. Assumes nothing.
use mathlib.Core.Path.{◌≡◌, sym, ap, ap₂, ◌∙◌}
use mathlib.Core.List.{List, ◌∷◌}
use Prim.Native.Nat.{ℕ, ◌+◌, ◌*◌, ◌/◌, ◌%◌, ◌^◌, ◌<◌}
use native.Mathlib.Nat.{div-div-eq-div-mul, div-add-mod'}
use native.Mathlib.Omega.{arith}
use lib.Arith.{digits_div, digits_mod}
use lib.ListN.{length, get_or, set, drop}
use lib.Seq.{get_or-set_same, get_or-set_other}
use Rattle.finite.proofs.Below.{tabulate_ext}
use Rattle.aggregate.specs.declared.Config.{Config}
use Rattle.stations.specs.Words.{byte_of, config_in, first_word, stations_in, spare_in}
use Rattle.stations.proofs.Words.{station_alike}
use Rattle.stations.proofs.Pins.{words_pinned, kept_pinned}
use Rattle.rendezvous.specs.Net.{Net, carrying_in, beside_in, NetPinned}

module _ (words : List ℕ) (long : length words ≡ 705) (flag : ℕ) (byte : flag < 2 ^ 8) where
  abbrev w : ℕ
  w = get_or words 0 0

  abbrev high : ℕ
  high = w / 2 ^ 40 * 2 ^ 8 + flag

  abbrev v : ℕ
  v = high * 2 ^ 32 + w % 2 ^ 32

  abbrev pub flagged : List ℕ
  flagged = set words 0 v

  first : get_or flagged 0 0 ≡ v
  first = get_or-set_same words 0 v 0 (omega (arith, long))

  later : (i j : ℕ) → get_or flagged (first_word i + j) 0 ≡ get_or words (first_word i + j) 0
  later i j = get_or-set_other words 0 (first_word i + j) v 0 (λ e. omega arith)

  above : v / 2 ^ 32 ≡ high
  above = digits_div high (omega arith)

  pub flag_read : carrying_in flagged ≡ flag
  unfolding spare_in
  flag_read = ap (λ (x : ℕ). x / 2 ^ 32 % 2 ^ 8) first ∙ ap (λ (x : ℕ). x % 2 ^ 8) above ∙ digits_mod (w / 2 ^ 40) byte

  pub flag_stations : stations_in flagged ≡ stations_in words
  unfolding stations_in
  flag_stations = tabulate_ext 64 _ _ (λ i l. station_alike flagged words (first_word i) (λ j u. later i j))

  -- the bytes below stay
  below : v % 2 ^ 32 ≡ w % 2 ^ 32
  below = digits_mod high (omega arith)

  pub flag_config : config_in flagged ≡ config_in words
  unfolding config_in
  flag_config =
      let low : (x : ℕ) → Config = λ x. record { k = byte_of 0 x; classes = byte_of 1 x; desk = byte_of 2 x; way = byte_of 3 x } in
      let cut : (x : ℕ) → low x ≡ low (x % 2 ^ 32) = λ x. bytes_of (omega arith) (omega arith) (omega arith) (omega arith) in
      ap low first ∙ cut v ∙ ap low below ∙ sym (cut w)
    where
      bytes_of : {a b c d e f m n : ℕ} → a ≡ b → c ≡ d → e ≡ f → m ≡ n
          → ◌≡◌ {A = Config} (record { k = a; classes = c; desk = e; way = m }) (record { k = b; classes = d; desk = f; way = n })
      bytes_of p q r s = rw (p, q, r, s)

  pub flag_beside : beside_in flagged ≡ beside_in words
  unfolding spare_in
  flag_beside =
      ap₂ (λ (x : ℕ) (l : List ℕ). x ∷ l)
      (ap (λ (x : ℕ). x / 2 ^ 32 / 2 ^ 8) first
      ∙ ap (λ (x : ℕ). x / 2 ^ 8) above
      ∙ digits_div (w / 2 ^ 40) byte
      ∙ sym (div-div-eq-div-mul w (2 ^ 32) (2 ^ 8)))
      (tabulate_ext 64 _ _ (λ i l. ap (λ (x : ℕ). x / 2 ^ 24) (later i 10)))

-- ---- the net and what stands beside it pin the words
spare_pinned : (l m : List ℕ) → carrying_in l ≡ carrying_in m → beside_in l ≡ beside_in m → spare_in l ≡ spare_in m
unfolding spare_in
spare_pinned l m flag beside =
    ap₂ (λ (x : ℕ) (rest : List ℕ). x ∷ rest)
    (sym (parts l) ∙ ap₂ (λ (q r : ℕ). q * 2 ^ 8 + r) (ap (λ (x : List ℕ). get_or x 0 0) beside) flag ∙ parts m)
    (ap (λ (x : List ℕ). drop 1 x) beside)
  where
    parts : (x : List ℕ) → get_or x 0 0 / 2 ^ 32 / 2 ^ 8 * 2 ^ 8 + get_or x 0 0 / 2 ^ 32 % 2 ^ 8 ≡ get_or x 0 0 / 2 ^ 32
    parts x = div-add-mod' (get_or x 0 0 / 2 ^ 32) (2 ^ 8)

pub net_pinned : NetPinned
net_pinned =
    record {
      pinned = λ l m kept other long same kept-long other-long fits keeps net beside. (
        words_pinned.pinned l m long same fits (ap (λ (n : Net). n.config) net) (ap (λ (n : Net). n.stations) net)
            (spare_pinned l m (ap (λ (n : Net). n.carrying) net) beside),
        kept_pinned kept other kept-long other-long keeps (ap (λ (n : Net). n.kept) net),
      );
    }
