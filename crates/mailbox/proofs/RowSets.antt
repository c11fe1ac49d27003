-- The receivers that the code finds for a kind and a sender are those of the steps allowed, member by member. Assumes nothing.
use mathlib.Core.Path.{◌≡◌, refl, sym, ◌∙◌, ap, ap₂}
use mathlib.Core.Bool.{Bool, true, false, not, ◌&&◌, ◌||◌, cond, and-false}
use mathlib.Core.List.{List}
use Prim.Native.Nat.{ℕ, ◌≤◌, ◌<◌, ◌^◌}
use native.Mathlib.Nat.{lt_of_le_of_lt, lt_of_lt_of_le}
use native.Mathlib.Omega.{arith}
use lib.Bits.{bit_and, and_le_r}
use lib.Dec.{eqb, ltb}
use lib.Pow.{pow_mono}
use borrow.Author.Tests.{ne_eqb, lt-ltb, ltb-true}
use Rattle.finite.proofs.Cases.{by_bool, by_eq}
use Rattle.bitset.specs.Set.{member, bit_if}
use Rattle.bitset.specs.Internal.Selected.{set_of}
use Rattle.bitset.proofs.Laws.{same_members, member-without, without-le}
use Rattle.bitset.proofs.Selected.{set-lt, set_has, member-and}
use Rattle.aggregate.specs.Aggregate.{root_of}
use Rattle.station.specs.declared.Station.{Station}
use Rattle.station.specs.Events.{asleep, active}
use Rattle.schedule.specs.Rules.{in_range, allowed}
use Rattle.schedule.specs.Listing.{step}
use Rattle.schedule.specs.declared.rows.Sizes.{Sizes}
use Rattle.schedule.specs.Internal.Rows.{Filled}
use Rattle.schedule.proofs.RowLists.{no_row, report-row}
use Rattle.mail.specs.declared.Message.TheVariants.{Start, Answer}
use Rattle.mail.specs.declared.Mailbox.TheVariants.{Empty, Full}
use Rattle.mail.specs.Mail.{starts_of, answers_of, box_at}
use Rattle.bitset.proofs.Unions.{member_union, union-lt}
use Rattle.mailbox.specs.Net.{Net, station}
use Rattle.mailbox.specs.declared.listing.Takers.{Takers}
use Rattle.mailbox.specs.Delivery.{takes_from, may_deliver, may_report}
use Rattle.mailbox.specs.Internal.Receivers.{takes_start, takes_answer, root_reports, takers_of, deliverable, receivers_of, HoldReceivers, AnySender}
use Rattle.mailbox.specs.Rules.{delivery, report, may_step, rules}

-- a delivery's tests: as its set has them, and as its guard
delivery_tests : (apart start answer below : Bool) (r : Station)
    → (apart && (start && (below && takes_start r) || answer && (below && takes_answer r)))
    ≡ (below && (apart && takes_from r (cond start (Full Start) (cond answer (Full Answer) Empty))))
delivery_tests false start answer false r = refl
delivery_tests false start answer true r = refl
delivery_tests true start answer false r = rw (and-false start, and-false answer)
delivery_tests true true true true r = by_bool (eqb r.state active) (λ t. rw t (ends (eqb r.state asleep))) (λ f. rw f (none (eqb r.state asleep)))
  where
    ends : (b : Bool) → ((b || true) || true) ≡ (b || true)
    ends true = refl
    ends false = refl

    none : (b : Bool) → ((b || false) || false) ≡ (b || false)
    none true = refl
    none false = refl
delivery_tests true true false true r = by_bool (takes_start r) (λ t. rw t) (λ f. rw f)
delivery_tests true false true true r = refl
delivery_tests true false false true r = refl

eqb_turn : (a b : ℕ) → eqb a b ≡ eqb b a
eqb_turn a b = by_eq a b (λ (e : a ≡ b). rw e) (λ n. ne_eqb a b n ∙ sym (ne_eqb b a (λ e. n (sym e))))

module _ (net : Net) (few : net.config.k ≤ 64) where
  abbrev k : ℕ
  k = net.config.k

  abbrev takers : Takers
  takers = takers_of k net.stations

  -- whether the root may report
  abbrev reports : Bool
  reports = root_reports net.config net.stations

  module _ (s : ℕ) (low : s < k) where
    abbrev starts : ℕ
    starts = starts_of net.boxes s

    abbrev answers : ℕ
    answers = answers_of net.boxes s

    deliverable_has : (i : ℕ) → member i (deliverable s starts answers takers) ≡ (ltb i k && may_deliver s i (station net i) (box_at net.boxes s i))
    unfolding deliverable takers_of box_at
    deliverable_has i =
        let taken : (set : ℕ) (test : Station → Bool) → member i (bit_and set (set_of k (λ x. test (station net x)))) ≡ (member i set && (ltb i k && test (station net i))) =
        λ set test. member-and i set (set_of k (λ x. test (station net x))) ∙ ap (λ (b : Bool). member i set && b) (set_has k (λ x. test (station net x)) i) in
        member-without i s _
        ∙ ap (λ (b : Bool). not (eqb i s) && b) (member_union i _ _ ∙ ap₂ ◌||◌ (taken starts takes_start) (taken answers takes_answer))
        ∙ rw (eqb_turn i s)
        (delivery_tests (not (eqb s i)) (member i starts) (member i answers) (ltb i k) (station net i))

    allowed-is : (i : ℕ) → i < k → allowed rules net (step delivery s i) ≡ may_deliver s i (station net i) (box_at net.boxes s i)
    unfolding allowed in_range may_step
    allowed-is i l = rw (lt-ltb s k low, lt-ltb i k l)

    both_lt : (a : ℕ) (p : ℕ → Bool) → bit_and a (set_of k p) < 2 ^ 64
    both_lt a p = lt_of_le_of_lt (and_le_r a (set_of k p)) (lt_of_lt_of_le (set-lt k p) (pow_mono few))

    deliverable-lt : deliverable s starts answers takers < 2 ^ 64
    unfolding deliverable takers_of
    deliverable-lt = lt_of_le_of_lt (without-le s _) (union-lt 64 _ _ (both_lt starts _) (both_lt answers _))

    deliveries_are : deliverable s starts answers takers ≡ set_of k (λ r. allowed rules net (step delivery s r))
    deliveries_are =
        same_members 64 _ _ deliverable-lt (lt_of_lt_of_le (set-lt k _) (pow_mono few))
        (λ i m.
        deliverable_has i
        ∙ by_bool (ltb i k)
        (λ t. rw t (sym (set_has k _ i ∙ rw t (allowed-is i (ltb-true i k t)))))
        (λ f. rw f (sym (set_has k _ i ∙ rw f))))

    report-is : bit_if (eqb s (root_of net.config) && reports) s ≡ set_of k (λ r. allowed rules net (step report s r))
    unfolding may_step
    report-is =
        by_eq s (root_of net.config)
        (λ (e : s ≡ root_of net.config). ap (λ (i : ℕ). bit_if (eqb s (root_of net.config) && may_report (station net i)) s) (sym e))
        (λ n. rw (ne_eqb s (root_of net.config) n))
        ∙ report-row rules net (omega arith) (omega arith) s low few (may_report (station net s)) refl

  -- the rows of both kinds, and no rows of others
  receivers_are : (kind s : ℕ) → 1 ≤ kind → s < k
      → receivers_of (root_of net.config) takers reports net.boxes kind s ≡ set_of k (λ r. allowed rules net (step kind s r))
  unfolding receivers_of
  receivers_are kind s h low =
      by_eq kind delivery
      (λ (e : kind ≡ delivery). rw e (deliveries_are s low))
      (λ n. by_eq kind report
      (λ (e : kind ≡ report). rw e (report-is s low))
      (λ m. rw (ne_eqb kind delivery n, ne_eqb kind report m) (no_row rules net kind s (omega (arith, n, m)))))

  -- the rows that the code fills are those of the steps allowed
  pub filled : {rows : List ℕ} {z : Sizes} → HoldReceivers AnySender net.config takers reports net.boxes rows z → Filled rules net rows z
  filled H =
      record {
        few = few;
        are = record { row = λ kind s h l m. H.row kind s h l m tt ∙ receivers_are kind s h m };
        sizes = H.sizes;
      }
