-- A step of a net whose steps are listed, as the code makes it: it changes two stations, one after the other, and what every station may send,
-- who is in which state, and the rows are known of the net after it. Assumes nothing.
use mathlib.Core.Path.{◌≡◌, sym, ◌∙◌, ap, ap₂, subst}
use mathlib.Core.Bool.{true}
use mathlib.Core.List.{List}
use Prim.Native.Nat.{ℕ, ◌^◌, ◌≤◌, ◌<◌}
use native.Mathlib.Nat.{lt_of_lt_of_le}
use native.Mathlib.Omega.{arith}
use lib.ListN.{length, get_or, set, length-set}
use lib.Seq.{set-set, get_or-set_same, get_or-set_other}
use lib.Dec.{eqb}
use lib.Pow.{pow_mono}
use borrow.Author.Tests.{eqb-true}
use Rattle.finite.proofs.Cases.{by_bool, by_eq}
use Rattle.finite.proofs.Lists.{set_own}
use Rattle.bitset.specs.Set.{put}
use Rattle.bitset.proofs.Selected.{set-lt}
use Rattle.bitset.proofs.Unions.{put-set}
use Rattle.aggregate.specs.declared.Config.{Config}
use Rattle.aggregate.specs.declared.Aggregate.{Aggregate}
use Rattle.aggregate.specs.Aggregate.{clipped}
use Rattle.station.specs.declared.Station.{Station}
use Rattle.station.specs.Events.{asleep, active}
use Rattle.stations.specs.Stations.{no_station}
use Rattle.stations.specs.Words.{config_in}
use Rattle.schedule.specs.declared.Step.{Step}
use Rattle.schedule.specs.declared.rows.Sizes.{Sizes}
use Rattle.schedule.specs.Rules.{allowed}
use Rattle.schedule.specs.Rows.{row_at}
use Rattle.schedule.specs.Internal.Rows.{Filled, Others}
use Rattle.schedule.proofs.Answers.{allowed_parts}
use Rattle.schedule.proofs.Listing.{range_bounds, Bounds}
use Rattle.rendezvous.specs.declared.listing.States.{States}
use Rattle.rendezvous.specs.declared.listing.Sends.{Sends}
use Rattle.rendezvous.specs.declared.kind.Listing.{Listing}
use Rattle.rendezvous.specs.Internal.Listings.{Lists}
use Rattle.rendezvous.specs.Net.{Net, net_in, station, well_formed, with_stations, with_one}
use Rattle.rendezvous.specs.Figure.{wake, pass, answer, assigned}
use Rattle.rendezvous.specs.Telling.{tell, is_tell, known, hears_total, told_by}
use Rattle.rendezvous.specs.Internal.Receivers.{in_state, states_of, restated, sends_of, kept_at, takers_in}
use Rattle.rendezvous.specs.Internal.Receivers.{Read, Agree, Renewed, AreSends, HoldTakers, HoldSome, sent_by, received_by, kept_by, with_made, made_of, keeps_form}
use Rattle.rendezvous.specs.Rules.{rules}
use Rattle.rendezvous.proofs.Laws.{k_most, root_most}
use Rattle.rendezvous.proofs.RowSets.{rows_filled}
use Rattle.rendezvous.proofs.Kept.{kept_one}
use Rattle.rendezvous.proofs.Following.{states_agree, kept_others}
use Rattle.rendezvous.proofs.Settled.{wave_of, reports_alone}
use Rattle.rendezvous.proofs.FormAfter.{next_formed}

-- rows of the k that the code has read
pub held-told : {t u : Config} {states : States} {sent : ℕ → Sends} {rows : List ℕ} {z : Sizes} → t ≡ u
    → HoldTakers t.k states sent rows z → HoldTakers u.k states sent rows z
held-told {states = states} {sent = sent} {rows = rows} {z = z} e h = subst (λ (v : Config). HoldTakers v.k states sent rows z) e h

-- what code reads of the words of a net in form
pub read : (words totals : List ℕ) → well_formed (net_in words totals) ≡ true → {t : Config} → t ≡ config_in words → Read words t
read words totals f e = record { config = e; few = rw e (k_most (net_in words totals) f); root = rw e (root_most (net_in words totals) f) }

-- what is known of a net while a run goes on
pub record Known (net : Net) (kept : List Sends) (states : States) : Type 0 where
  pub sends_are : AreSends net net.config.k kept
  pub states_are : states ≡ states_of net
  pub full : length net.stations ≡ 64

-- one station comes to be s
module _ (net : Net) (few : net.config.k ≤ 64) (full : length net.stations ≡ 64) (j : ℕ) (low : j < net.config.k) (s : Station) where
  own : station (with_one net j s) j ≡ s
  own = get_or-set_same net.stations j s no_station (omega (arith, full, low, few))

  other : (x : ℕ) → (x ≡ j → ⊥) → station (with_one net j s) x ≡ station net x
  other x n = get_or-set_other net.stations j x s no_station n

  in_state-one : (state : ℕ) → put j (eqb s.state state) (in_state net state) ≡ in_state (with_one net j s) state
  unfolding in_state
  in_state-one state =
      put-set net.config.k j (eqb s.state state) _ _ few low (ap (λ (x : Station). eqb x.state state) own)
      (λ i n. ap (λ (x : Station). eqb x.state state) (other i n))

  states_one : restated j s.state (states_of net) ≡ states_of (with_one net j s)
  states_one = ap₂ (λ (a b : ℕ). record { asleep = a; active = b }) (in_state-one asleep) (in_state-one active)

  known-one : {kept kept' : List Sends} {states states' : States} → Known net kept states → Renewed net.config j s kept states kept' states'
      → Known (with_one net j s) kept' states'
  known-one K r =
      record {
        sends_are = subst (AreSends (with_one net j s) net.config.k) (sym r.0) (kept_one net j s few low own other K.sends_are);
        states_are = r.1 ∙ ap (restated j s.state) K.states_are ∙ states_one;
        full = length-set net.stations j s ∙ full;
      }

-- what is kept says nothing of what stations may send
known_as : (net : Net) (totals : List Aggregate) {kept : List Sends} {states : States} → Known net kept states
    → Known (record { config = net.config; stations = net.stations; carrying = net.carrying; kept = totals }) kept states
unfolding in_state
known_as net totals K =
    record { sends_are = record { sized = K.sends_are.sized; word = K.sends_are.word }; states_are = K.states_are; full = K.full }

-- the two stations of an allowed step, written one after the other
pub made-is : (net : Net) (s : Step) → allowed rules net s ≡ true → made_of net s ≡ rules.apply net s
unfolding sent_by received_by assigned told_by
made-is net s a =
    let kind = s.kind in
    let j = s.sender in
    by_bool (is_tell s)
    (λ w.
    let e = eqb-true kind tell w in
    rw e (ap
    (λ (l : List Station).
    record { config = net.config; stations = set l s.receiver (hears_total (station net s.receiver)); carrying = net.carrying; kept = set net.kept s.receiver (clipped net.config (known net j)) })
    (set_own net.stations j no_station)))
    (λ n.
    by_bool (eqb kind wake) (λ w. rw (n, w))
    (λ w. by_bool (eqb kind pass) (λ p. rw (n, w, p))
    (λ p. by_bool (eqb kind answer) (λ q. rw (n, w, p, q))
    (λ q.
    let same : s.receiver ≡ j = sym (reports_alone (wave_of net s a n).range w p q) in
    rw (n, w, p, q, same) (ap (with_stations net) (set-set net.stations j _ _))))))

-- two entries that are replaced by what they are after it
set_anew : {A : Type 0} (l : List A) (i j : ℕ) (a b d : A) → i < length l → j < length l
    → let m = set (set l i a) j b in set (set l i (get_or m i d)) j (get_or m j d) ≡ m
set_anew {A = A} l i j a b d h k =
    let m = set (set l i a) j b in
    let at_j : get_or m j d ≡ b = get_or-set_same (set l i a) j b d (omega (arith, length-set l i a)) in
    by_eq i j
    (λ (e : i ≡ j).
    let at_i : get_or m i d ≡ b = ap (λ (x : ℕ). get_or m x d) e ∙ at_j in
    rw (at_i, at_j) (ap (λ (x : ℕ). set (set l i b) x b) (sym e) ∙ set-set l i b b ∙ sym (set-set l i a b) ∙ ap (λ (x : ℕ). set (set l i a) x b) e))
    (λ n.
    let at_i : get_or m i d ≡ a = get_or-set_other (set l i a) j i b d n ∙ get_or-set_same l i a d h in
    rw (at_i, at_j))

-- a net whose steps are listed, in form
module _ {here : Net} {l : Listing} (L : Lists here l) (formed : well_formed here ≡ true) where
  few : here.config.k ≤ 64
  few = k_most here formed

  pub filled : Filled rules here l.rows l.sizes
  filled = rows_filled here (kept_at l.kept) few L.sends_are.word L.states_are L.held

  small : (kind s : ℕ) → 1 ≤ kind → kind ≤ 4 → s < here.config.k → row_at l.rows kind s < 2 ^ 64
  small kind s h low m = rw (filled.are.row kind s h low m) (lt_of_lt_of_le (set-lt here.config.k _) (pow_mono few))

  -- t is what the code has read of the net, and s a step that is allowed
  module _ {t : Config} (told : t ≡ here.config) (s : Step) (may : allowed rules here s ≡ true) where
    bounds : Bounds rules here s
    bounds = range_bounds rules here s (allowed_parts rules here s may).0

    pub both_low : (s.sender < t.k) × (s.receiver < t.k)
    both_low = rw told (bounds.sender-low, bounds.receiver-low)

    sender-low : s.sender < 64
    sender-low = omega (arith, few, bounds.sender-low)

    receiver-low : s.receiver < 64
    receiver-low = omega (arith, few, bounds.receiver-low)

    -- the net after it, and its two stations as they are there
    module _ {next : Net} (M : next ≡ made_of here s) where
      abbrev sender : Station
      sender = station next s.sender

      abbrev receiver : Station
      receiver = station next s.receiver

      pub after : next ≡ rules.apply here s
      after = M ∙ made-is here s may

      next-is : next ≡ with_made here s sender receiver
      next-is =
          M
          ∙ ap (λ (l : List Station). record { config = here.config; stations = l; carrying = here.carrying; kept = kept_by here s })
          (sym (set_anew here.stations s.sender s.receiver _ _ no_station (omega (arith, L.full, sender-low)) (omega (arith, L.full, receiver-low))))
          ∙ ap (λ (n : Net). with_made here s (station n s.sender) (station n s.receiver)) (sym M)

      pub decides : well_formed next ≡ keeps_form t s.kind receiver
      decides = next_formed here s formed may after ∙ ap (λ (u : Config). keeps_form u s.kind receiver) (sym told)

      module _ {kept₁ kept₂ : List Sends} {states₁ states₂ : States} (x : Renewed t s.sender sender l.kept l.states kept₁ states₁)
          (y : Renewed t s.receiver receiver kept₁ states₁ kept₂ states₂) where
        pub agree : Agree s l.states states₂
        agree = states_agree s sender-low receiver-low t sender receiver l.kept l.states x y

        pub others_hold : HoldSome (Others s) t.k l.states (kept_at kept₂) l.rows l.sizes
        others_hold =
            let same = kept_others s sender-low receiver-low t sender receiver l.kept l.states x y in
            let hold : HoldSome (Others s) here.config.k l.states (kept_at kept₂) l.rows l.sizes = record {
              hold = record {
                sized = L.held.sized;
                small = small;
                row = λ kind i g low m o. L.held.row kind i g low m
                    ∙ ap (λ (w : Sends). takers_in kind w l.states) (sym (same i o));
                sizes = L.held.sizes;
              };
            } in
            subst (λ (u : Config). HoldSome (Others s) u.k l.states (kept_at kept₂) l.rows l.sizes) (sym told) hold

        pub lists_further : {rows₂ : List ℕ} {z₂ : Sizes} → HoldTakers t.k states₂ (kept_at kept₂) rows₂ z₂
            → Lists next (record { kept = kept₂; states = states₂; rows = rows₂; sizes = z₂ })
        lists_further H =
            let first-in : Renewed here.config s.sender sender l.kept l.states kept₁ states₁ =
            (x.0 ∙ ap (λ (u : Config). set l.kept s.sender (sends_of u s.sender sender)) told, x.1) in
            let then-in : Renewed here.config s.receiver receiver kept₁ states₁ kept₂ states₂ =
            (y.0 ∙ ap (λ (u : Config). set kept₁ s.receiver (sends_of u s.receiver receiver)) told, y.1) in
            let known : Known here l.kept l.states = record { sends_are = L.sends_are; states_are = L.states_are; full = L.full } in
            let middle = known-one here few L.full s.sender bounds.sender-low sender known first-in in
            let last = known-one (with_one here s.sender sender) few middle.full s.receiver bounds.receiver-low receiver middle then-in in
            let there = subst (λ (n : Net). Known n kept₂ states₂) (sym next-is) (known_as _ (kept_by here s) last) in
            record {
              sends_are = there.sends_are;
              states_are = there.states_are;
              full = there.full;
              held = held-told (told ∙ sym (ap (λ (n : Net). n.config) M)) H;
            }
