-- `rendezvous::figure::make` meets its contract: the two stations are read, and stored after the step; so is what is kept. Assumes nothing.
use mathlib.Core.Path.{◌≡◌, ap, ◌∙◌}
use mathlib.Core.Bool.{cond}
use mathlib.Core.List.{List}
use Prim.Native.Nat.{ℕ, ◌%◌, ◌^◌}
use lib.Dec.{eqb}
use lib.ListN.{get_or, set}
use Rattle.aggregate.specs.declared.Config.{Config}
use Rattle.aggregate.specs.declared.Aggregate.{Aggregate}
use Rattle.aggregate.specs.Aggregate.{root_of, clipped}
use Rattle.station.specs.declared.Station.{Station}
use Rattle.stations.specs.Words.{stations_in}
use Rattle.stations.specs.Kept.{kept_in}
use Rattle.stations.proofs.Kept.{kept_read_lem}
use Rattle.rendezvous.specs.Net.{Net}
use Rattle.rendezvous.specs.Internal.Receivers.{sent_by, received_by}
use Rattle.rendezvous.proofs.figure.make.Goals as goal

-- what the code reads is what the words hold
same_received : {t u : Config} {s v r w : Station} (kind j : ℕ) → t ≡ u → s ≡ v → r ≡ w → received_by t kind j s r ≡ received_by u kind j v w
same_received kind j e f g = rw (e, f, g)

same_kept : (kind j i : ℕ) {t u : Config} {s v : Station} {a b : Aggregate} (l : List Aggregate) → t ≡ u → s ≡ v → a ≡ b
    → cond (eqb kind 5) (set l i (clipped t (cond (eqb j (root_of t)) s.held a))) l ≡ cond (eqb kind 5) (set l i (clipped u (cond (eqb j (root_of u)) v.held b))) l
same_kept kind j i l e f g = rw (e, f, g)

same-two : (m : List Station) {l : List Station} {i i' j j' : ℕ} {s s' r r' : Station} → l ≡ set m i s → i ≡ i' → j ≡ j' → s ≡ s' → r ≡ r'
    → set l j r ≡ set (set m i' s') j' r'
same-two m e f g h k = rw (e, f, g, h, k)

net_of_lem : {t u : Config} {k l : List Station} {c d : ℕ} {a b : List Aggregate} → t ≡ u → k ≡ l → c ≡ d → a ≡ b
    → ◌≡◌ {A = Net} (record { config = t; stations = k; carrying = c; kept = a }) (record { config = u; stations = l; carrying = d; kept = b })
net_of_lem e f g h = rw (e, f, g, h)

pub returns : goal.returns
returns c =
    let totals = c.args.totals.now in
    let step = c.args.step in
    let told = c.requires.config in
    -- the two stations are those of the step
    let sender = c.read-sender.ensures in
    let receiver = c.read-receiver.ensures in
    let from = c.place-from.ensures in
    let to = c.place-to.ensures in
    let one = c.store.ensures in
    let two = c.store-2.ensures in
    let s = c.send-s.ensures ∙ ap (sent_by step.kind step.receiver) sender in
    let r = c.receive-r.ensures ∙ same_received step.kind step.sender told sender receiver in record {
      made = net_of_lem (two.config ∙ one.config)
          (two.stations ∙ same-two (stations_in c.args.net.now) one.stations from to s r)
          (ap (λ (l : List ℕ). get_or l 0 0 % 2 ^ 8) (two.spare ∙ one.spare))
          (c.keep_total.ensures ∙ same_kept step.kind step.sender step.receiver (kept_in totals) told sender (kept_read_lem totals step.sender c.requires.places.0));
      spare = two.spare ∙ one.spare;
    }
