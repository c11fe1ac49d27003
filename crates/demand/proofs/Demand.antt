-- Demand 3 in its own words, once for every kind of net: what is counted among the steps made is the wave's, and a net is at rest just where
-- every single step is refused, so the clauses are those of the wave; the report is the desk's, since no step moves the root of a net. Assumes
-- nothing.
use mathlib.Core.Path.{◌≡◌, refl, sym, ap, ◌∙◌, subst}
use mathlib.Core.Bool.{true, not}
use mathlib.Core.List.{List, [], ◌++◌, map, append-nil}
use Prim.Native.Nat.{ℕ, ◌-◌, ◌<◌}
use native.Mathlib.Omega.{arith}
use lib.Dec.{eqb}
use lib.ListN.{length, get_or, length-map, length-append, get_or-append}
use borrow.Author.Tests.{eqb-true, eq-eqb, not-true}
use Rattle.finite.proofs.Cases.{by_bool}
use Rattle.aggregate.specs.declared.Cell.{Cell}
use Rattle.aggregate.specs.Aggregate.{root_of, cell}
use Rattle.aggregate.specs.Reported.{Reported}
use Rattle.aggregate.specs.Internal.Joining.{cells}
use Rattle.aggregate.proofs.Joining.{joining}
use Rattle.aggregate.proofs.Reported as words
use Rattle.wave.specs.Internal.Wave.{report}
use Rattle.wave.specs.Internal.Claim.{times, AtRest, WaveClaim}
use Rattle.topology.specs.Answer.{accepted}
use Rattle.topology.specs.Acceptance.{linked}
use Rattle.topology.proofs.Webs.{linked-back}
use Rattle.linemap.specs.declared.Map.{Map}
use Rattle.linemap.specs.Maps.{config_of, acceptance, place, count_at, totals}
use Rattle.linemap.specs.RoundTrip.{Fits}
use Rattle.schedule.specs.declared.Step.{Step}
use Rattle.schedule.specs.Listing.{select, how_many, step}
use Rattle.schedule.specs.Calls.{Call}
use Rattle.schedule.specs.Internal.Labels.{label_of}
use Rattle.schedule.proofs.Listing.{Allowed}
use Rattle.schedule.proofs.Parts.{select-all}
use Rattle.schedule.proofs.Resting.{accepted-allowed}
use Rattle.schedule.proofs.Made.{reports-at-root, calls_make}
use Rattle.rendezvous.specs.Net as rendezvous-net
use Rattle.rendezvous.proofs.Places.{config_after}
use Rattle.mailbox.specs.Net as mailbox-net
use Rattle.mailbox.specs.Delivery.{delivered, reported}
use Rattle.mailbox.specs.Rules.{delivery, net_after}
use Rattle.rendezvous.specs.Telling.{is_tell}
use Rattle.order.specs.Internal.Maps.{readings, Ordered}
use Rattle.order.proofs.Maps.{web_of, class_held, chosen-joined}
use Rattle.order.proofs.Back.{claim_rest}
use Rattle.order.proofs.RendezvousOrder.{rendezvous_order}
use Rattle.order.proofs.RendezvousBack.{rendezvous_carried}
use Rattle.order.proofs.MailboxOrder.{mailbox_order}
use Rattle.demand.specs.Kinds.{Kind, meeting, carrying, mailing, is_report, desk, desk_held, made, left, steps, reports}
use Rattle.demand.specs.Demand.{Holds, OnEveryMap, OnEveryWay, Demand}
use Rattle.demand.proofs.Counted.{reports-counted, messages-counted, last_is_report}

-- what a kind brings: its nets are order-free on every accepted map
abbrev pub Orderly : Kind → Type 0
Orderly K = Ordered K.rules K.way K.fresh (λ m net. (K.station net m.desk).held)

-- and besides: the fresh net of a map has the map's desk for its root, which no step moves
record Rooted (K : Kind) : Type 0 where
  opened : (m : Map) → K.rules.root (K.fresh m) ≡ desk m
  kept : (net : K.Net) (s : Step) → K.rules.root (K.rules.apply net s) ≡ K.rules.root net

meeting_rooted : (way : ℕ) → Rooted (meeting way)
unfolding rendezvous-net.fresh_net
meeting_rooted way = record { opened = λ m. refl; kept = λ net s. ap root_of (config_after net s) }

mailing_rooted : (way : ℕ) → Rooted (mailing way)
unfolding mailbox-net.fresh_net net_after delivered reported
mailing_rooted way =
    record { opened = λ m. refl; kept = λ net s. by_bool (eqb s.kind delivery) (λ e. rw e) (λ e. rw e) }

carrying_rooted : (way : ℕ) → Rooted (carrying way)
unfolding rendezvous-net.fresh_net
carrying_rooted way = record { opened = λ m. refl; kept = λ net s. ap root_of (config_after net s) }

-- every step of a kind's is allowed, or one that is counted
abbrev Moves : (K : Kind) → K.Net → Step → Type 0
Moves K net s = (K.counts s ≡ true) × Allowed K.rules net s

-- the clauses, from the wave's of the steps that are counted, which are the first of those made
module _ (K : Kind) (rooted : Rooted K) (m : Map) (fits : Fits m) (good : acceptance m ≡ accepted) (calls : List Call) (after : List Step)
    (first : made K m calls ≡ steps K m calls ++ after)
    (d : WaveClaim m.k (linked m.k m.neighbours) (joining K.way) (readings K.way m) (map (label_of K.rules) (steps K m calls))
    (AtRest (Moves K) (left K m calls)) (cells (config_of K.way m) (desk_held K m (left K m calls))))
    (formed : K.rules.well_formed (left K m calls) ≡ true)
    (number : times report (map (label_of K.rules) (steps K m calls)) ≡ 1 → (j : ℕ) → j < m.classes → cell (desk_held K m (left K m calls)) j ≡ totals K.way m j) where
  holds_of : Holds K m calls
  holds_of =
      let counted = steps K m calls in
      let same : length (map (label_of K.rules) counted) ≡ length counted = length-map counted (label_of K.rules) in
      let reported = reports-counted K counted in
      let carried = messages-counted K counted in
      let accepts = accepted-allowed K.rules (left K m calls) formed in
      let back = linked-back m.desk m.k m.neighbours (web_of m good) in
      record {
        reported_once = rw reported at d.one-report;
        carried_once = λ i j. rw (carried i j) at (d.one_message i j);
        by-links = λ i j apart. sym (carried i j) ∙ d.over-links i j apart;
        report-rest = (
          λ e s c q. d.report-rest.0 (reported ∙ e) s (c, sym (accepts s) ∙ eq-eqb _ 0 q),
          λ none. sym reported ∙ d.report-rest.1 (λ s c. none s c.0 (eqb-true _ 0 (accepts s ∙ c.1))),
        );
        report-full = (λ e. sym same ∙ d.report-full.0 (reported ∙ e), λ full. sym reported ∙ d.report-full.1 (same ∙ full));
        report_last = λ e.
            let last = d.report_last (reported ∙ e) in
            let is = last_is_report K counted last.0 last.1 in
            let n = length counted - 1 in
            let at : get_or (made K m calls) n (step 0 0 0) ≡ get_or counted n (step 0 0 0) =
            ap (λ (l : List Step). get_or l n (step 0 0 0)) first ∙ get_or-append counted after (step 0 0 0) n is.0 in
            let low : n < length (made K m calls) = omega (arith, is.0, ap length first, length-append counted after) in
            sym at
            ∙ reports-at-root K.rules rooted.kept (K.fresh m) (made K m calls) (step 0 0 0) (calls_make K.rules (K.fresh m) calls).runs n low
            (eqb-true _ _ (ap (is_report K) at ∙ is.1))
            ∙ ap (λ (x : ℕ). step K.rules.reports x x) (rooted.opened m);
        number-reported = λ e. number (reported ∙ e);
        in_words = λ e j l.
            subst (Reported K.way m.k (λ i. count_at m i j)) (sym (number (reported ∙ e) j l))
            (words.reported K.way m.k (λ i. count_at m i j) (λ i h. fits.counts (place i j)));
        each_way = λ e i j link. (
          sym (carried i j) ∙ d.each_way (reported ∙ e) i j link,
          sym (carried j i) ∙ d.each_way (reported ∙ e) j i (back i j link),
        );
      }

-- all steps of the kind count
abbrev pub Whole : Kind → Type 0
Whole K = (s : Step) → K.counts s ≡ true

-- so the reports among them are those of all that were made
pub reports-made : (K : Kind) → Whole K → (m : Map) (calls : List Call) → times report (map (label_of K.rules) (made K m calls)) ≡ reports K m calls
reports-made K whole m calls =
    reports-counted K (made K m calls) ∙ ap (how_many (is_report K)) (sym (select-all K.counts whole (made K m calls)))

holds : (K : Kind) → Orderly K → Rooted K → Whole K → OnEveryMap (Holds K)
holds K orderly rooted whole m fits good calls =
    let order = orderly m fits good in
    let net = left K m calls in
    let all = select-all K.counts whole (made K m calls) in
    let label = label_of K.rules in
    holds_of K rooted m fits good calls [] (sym (append-nil (steps K m calls) ∙ all))
    (subst (λ (l : List Step). WaveClaim m.k (linked m.k m.neighbours) (joining K.way) (readings K.way m) (map label l) (AtRest (Moves K) net) (cells (config_of K.way m) (desk_held K m net)))
    (sym all)
    (claim_rest m.k (linked m.k m.neighbours) (joining K.way) (readings K.way m) _ _ _ _ (λ r s a. r s a.1) (λ r s a. r s (whole s, a)) (order.order.demand calls)))
    (order.order.formed calls)
    (λ one. order.number calls (ap (λ (l : List Step). times report (map label l)) (sym all) ∙ one))

-- where tells do not count
carrying_holds : OnEveryWay (λ way. OnEveryMap (Holds (carrying way)))
carrying_holds way w m fits good calls =
    let K = carrying way in
    let back = (rendezvous_carried way w m fits good).back calls in
    let net = left K m calls in
    holds_of K (carrying_rooted way) m fits good calls (select is_tell (made K m calls)) back.tells_last
    (claim_rest m.k (linked m.k m.neighbours) (joining K.way) (readings K.way m) _ _ _ _
    (λ r s a. r s (not-true (is_tell s) a.0, a.1))
    (λ r s a. r s (ap not a.0, a.1))
    back.demand)
    ((rendezvous_carried way w m fits good).formed calls)
    (λ one j l. sym (class_held way m good (desk_held K m net) j l) ∙ ap (λ (f : ℕ → Cell). f j) (back.demand.total one) ∙ chosen-joined way m good (λ i. true) j l)

pub demand : Demand
demand =
    record {
      stations_that_meet = λ way w. holds (meeting way) (rendezvous_order way w) (meeting_rooted way) (λ s. refl);
      carrying-back = carrying_holds;
      stations_with_mail = λ way w. holds (mailing way) (mailbox_order way w) (mailing_rooted way) (λ s. refl);
    }
