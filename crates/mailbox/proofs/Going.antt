-- A step of a net whose steps are listed, as the code makes it: who takes a message, and the rows with their sizes, are known of the net after it.
-- Assumes nothing.
use Rattle.std.specs.Prelude.{Option}
use mathlib.Core.Path.{◌≡◌, sym, ◌∙◌, ap, ap₂, subst}
use mathlib.Core.Bool.{Bool, true}
use mathlib.Core.List.{List}
use Prim.Native.Nat.{ℕ, ◌≤◌, ◌<◌}
use native.Mathlib.Omega.{arith}
use lib.ListN.{length, set, length-set}
use lib.Seq.{get_or-set_same, get_or-set_other}
use Rattle.bitset.specs.Set.{put}
use Rattle.bitset.specs.Internal.Selected.{set_of}
use Rattle.bitset.proofs.Unions.{put-set}
use Rattle.aggregate.specs.declared.Config.{Config}
use Rattle.aggregate.specs.Aggregate.{root_of, bounded}
use Rattle.station.specs.declared.Station.{Station}
use Rattle.stations.specs.Stations.{station_at, no_station}
use Rattle.schedule.specs.declared.Step.{Step}
use Rattle.schedule.specs.declared.rows.Sizes.{Sizes}
use Rattle.schedule.specs.Rules.{allowed}
use Rattle.schedule.specs.Rows.{picked_by_size}
use Rattle.schedule.specs.Internal.Rows.{Filled, Others}
use Rattle.schedule.specs.Listing.{listed}
use Rattle.schedule.specs.Draws.{picked}
use Rattle.schedule.proofs.Answers.{allowed_parts}
use Rattle.schedule.proofs.Listing.{range_bounds, Bounds}
use Rattle.schedule.proofs.Drawing.{of_list}
use Rattle.mailbox.specs.declared.listing.Takers.{Takers}
use Rattle.mailbox.specs.declared.kind.Listing.{Listing}
use Rattle.mailbox.specs.Internal.Listings.{Lists}
use Rattle.mailbox.specs.Net.{Net, station, well_formed}
use Rattle.mailbox.specs.Internal.Receivers.{takes_start, takes_answer, root_reports, takers_of, retaken, HoldReceivers, AnySender, boxes_made, Made}
use Rattle.mailbox.specs.Rules.{net_after, rules}
use Rattle.mailbox.proofs.Laws.{k_most, root-placed}
use Rattle.mailbox.proofs.RowSets.{filled}
use Rattle.mailbox.proofs.Following.{others_hold}
use Rattle.mailbox.proofs.FormAfter.{length-made, applied_is, next_formed}

-- who takes a message, where station j is written anew
retaken-is : (k : ℕ) → k ≤ 64 → (stations : List Station) → length stations ≡ 64 → (j : ℕ) → j < k → (s : Station)
    → retaken j s (takers_of k stations) ≡ takers_of k (set stations j s)
unfolding retaken takers_of
retaken-is k few stations full j low s =
    let anew : (test : Station → Bool) → put j (test s) (set_of k (λ i. test (station_at stations i))) ≡ set_of k (λ i. test (station_at (set stations j s) i)) =
    λ test. put-set k j (test s) _ _ few low
    (ap test (get_or-set_same stations j s no_station (omega (arith, full, low, few))))
    (λ i n. ap test (get_or-set_other stations j i s no_station n)) in
    ap₂ (λ (starts answers : ℕ). record { starts = starts; answers = answers }) (anew takes_start) (anew takes_answer)

-- rows of what the code has read of a net
pub held-told : (those : ℕ → Type 0) (t : Config) {u : Config} (takers : Takers) (reports : Bool) (stations : List Station) (boxes : List ℕ) {rows : List ℕ} {z : Sizes}
    → t ≡ u → reports ≡ root_reports t stations → HoldReceivers those t takers reports boxes rows z
    → HoldReceivers those u takers (root_reports u stations) boxes rows z
held-told those t takers reports stations boxes {rows} {z} e g H =
    subst (λ (v : Config). HoldReceivers those v takers (root_reports v stations) boxes rows z) e
    (subst (λ (b : Bool). HoldReceivers those t takers b boxes rows z) g H)

-- an allowed step, as the code makes it
pub made-is : (net : Net) (s : Step) {next : Station} {there : Net} → Made net s next there → there ≡ net_after net s
made-is net s M =
    let boxes = boxes_made net.config net.boxes s (station net s.receiver) in
    M.after_is
    ∙ ap (λ (x : Station). record { config = net.config; stations = set net.stations s.receiver x; boxes = boxes }) M.next-is
    ∙ sym (applied_is net s)

-- a net whose steps are listed, in form
module _ {here : Net} {l : Listing} (L : Lists here l) (formed : well_formed here ≡ true) where
  few : here.config.k ≤ 64
  few = k_most here formed

  fills : Filled rules here l.rows l.sizes
  fills = filled here few (rw L.known at L.holds)

  -- t is what the code has read of the net
  module _ {t : Config} (told : t ≡ here.config) where
    pub picks : (d : ℕ) {p : Option Step} → p ≡ picked_by_size l.rows l.sizes t.k d → p ≡ picked (listed rules here) d
    picks d e = of_list rules here fills (omega arith) d (e ∙ ap (λ (u : Config). picked_by_size l.rows l.sizes u.k d) told)

    pub few-told : t.k ≤ 64
    few-told = rw told few

    pub root-low : root_of t < 64
    root-low = rw told (root-placed here formed)

    -- s is a step that is allowed, next its receiver after it, and there the net
    module _ (s : Step) (may : allowed rules here s ≡ true) where
      bounds : Bounds rules here s
      bounds = range_bounds rules here s (allowed_parts rules here s may).0

      pub both_low : (s.sender < t.k) × (s.receiver < t.k)
      both_low = rw told (bounds.sender-low, bounds.receiver-low)

      module _ {next : Station} {there : Net} (M : Made here s next there) where
        abbrev placed : List Station
        placed = set here.stations s.receiver next

        abbrev boxes : List ℕ
        boxes = boxes_made here.config here.boxes s (station here s.receiver)

        same_config : there.config ≡ here.config
        same_config = ap (λ (n : Net). n.config) M.after_is

        same-boxes : there.boxes ≡ boxes
        same-boxes = ap (λ (n : Net). n.boxes) M.after_is

        same-stations : there.stations ≡ placed
        same-stations = ap (λ (n : Net). n.stations) M.after_is

        pub decides : well_formed there ≡ bounded t next.held
        decides =
            next_formed here s L.long formed may (made-is here s M)
            ∙ ap₂ (λ (u : Config) (x : Station). bounded u x.held) (same_config ∙ sym told)
            (ap (λ (l : List Station). station_at l s.receiver) same-stations
            ∙ get_or-set_same here.stations s.receiver next no_station (omega (arith, L.full, few, bounds.receiver-low)))

        module _ {reports : Bool} (g : reports ≡ root_reports t there.stations) where
          -- the rows as `follow` asks for them
          pub others-held : HoldReceivers (Others s) t l.takers reports there.boxes l.rows l.sizes
          others-held =
              let held = others_hold here.config l.takers here.stations here.boxes s (station here s.receiver) next few
              bounds.sender-low bounds.receiver-low L.holds in
              let read : root_reports here.config placed ≡ reports = ap₂ root_reports (sym told) (sym same-stations) ∙ sym g in
              subst (λ (m : List ℕ). HoldReceivers (Others s) t l.takers reports m l.rows l.sizes) (sym same-boxes)
              (subst (λ (u : Config). HoldReceivers (Others s) u l.takers reports boxes l.rows l.sizes) (sym told)
              (subst (λ (b : Bool). HoldReceivers (Others s) here.config l.takers b boxes l.rows l.sizes) read held))

          pub lists_further : {takers' : Takers} {rows' : List ℕ} {z' : Sizes} → takers' ≡ retaken s.receiver next l.takers
              → HoldReceivers AnySender t takers' reports there.boxes rows' z'
              → Lists there (record { takers = takers'; rows = rows'; sizes = z' })
          lists_further {takers' = takers'} w H =
              record {
                long = ap (λ (m : List ℕ). length m) same-boxes ∙ length-made here.config here.boxes s _ ∙ L.long;
                full = ap (λ (m : List Station). length m) same-stations ∙ length-set here.stations _ _ ∙ L.full;
                known =
                    w
                    ∙ ap (retaken s.receiver next) L.known
                    ∙ retaken-is here.config.k few here.stations L.full s.receiver bounds.receiver-low next
                    ∙ sym (ap (λ (n : Net). takers_of n.config.k n.stations) M.after_is);
                holds = held-told AnySender t takers' reports there.stations there.boxes (told ∙ sym same_config) g H;
              }
