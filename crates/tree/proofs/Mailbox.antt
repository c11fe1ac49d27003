-- Stations with mail show the tree behind a total: an answer lies in the mailbox from its sender until it is delivered, and brings what
-- that one holds. Assumes nothing.
use mathlib.Core.Path.{◌≡◌, refl, sym, ap, ◌∙◌, subst}
use mathlib.Core.Bool.{true}
use Prim.Native.Nat.{ℕ, ◌<◌}
use native.Mathlib.Omega.{arith}
use lib.Dec.{eqb}
use borrow.Author.Tests.{eqb-true}
use Rattle.finite.proofs.Cases.{clash, by_bool, and_both}
use Rattle.aggregate.specs.declared.Config.{Config}
use Rattle.aggregate.specs.declared.Cell.{Cell}
use Rattle.aggregate.specs.Ways.{is_way}
use Rattle.aggregate.specs.Internal.Joining.{cells}
use Rattle.aggregate.proofs.Joining.{joining}
use Rattle.wave.specs.Internal.Graph.{Graph}
use Rattle.wave.specs.Internal.Wave.{State, message, answers, CanSend, Weak}
use Rattle.wave.proofs.Invariant.{Inv}
use Rattle.wave.specs.Internal.Tree.{total_through}
use Rattle.wave.proofs.TreeTheorem.{moment, answer_up}
use Rattle.topology.specs.Answer.{accepted}
use Rattle.linemap.specs.declared.Map.{Map}
use Rattle.linemap.specs.Maps.{config_of, acceptance}
use Rattle.linemap.specs.RoundTrip.{Fits}
use Rattle.schedule.specs.declared.Step.{Step}
use Rattle.schedule.specs.Listing.{step}
use Rattle.schedule.specs.Rules.{in_range, allowed}
use Rattle.schedule.specs.Internal.Labels.{label_of}
use Rattle.schedule.proofs.Listing.{Allowed, range_bounds}
use Rattle.mail.specs.declared.Message.TheVariants.{Start, Answer}
use Rattle.mail.specs.declared.Mailbox.{Mailbox}
use Rattle.mail.specs.declared.Mailbox.TheVariants.{Empty, Full}
use Rattle.mail.specs.Mail.{box_at, brought_at}
use Rattle.mailbox.specs.Net.{Net, station}
use Rattle.mailbox.specs.Rules.{delivery, rules}
use Rattle.mailbox.specs.Opening.{fresh_on}
use Rattle.order.specs.Internal.Maps.{readings}
use Rattle.order.proofs.Kind.{Ties}
use Rattle.order.proofs.Maps.{classes_of_lem, web_of}
use Rattle.order.proofs.Mailing.{answer, full, is_answer}
use Rattle.order.proofs.MailingRefines.{Mails, has_posted, box_of, full_send, send_start_lem, send_answer_lem, answer_value}
use Rattle.order.proofs.MailboxSteps.{to_box, view, Good}
use Rattle.order.proofs.Mailbox.{ties}
use Rattle.demand.specs.Kinds.{mailing, desk_held, made}
use Rattle.demand.proofs.Demand.{reports-made}
use Rattle.tree.specs.Tree.{holds_answer, mailing_answers, Posted}
use Rattle.tree.proofs.Kind.{label_is, message_step, awake_shown, graph, records, Shown}
use Rattle.tree.proofs.Kind.{refined, made-allowed, left_is, after_is, in_classes}

-- a mailbox that holds an answer shows it, and no other does
shown-answer : (b : Mailbox) (v : ℕ → Cell) → holds_answer b ≡ true → to_box b v ≡ answer v
shown-answer Empty v e = clash e refl
shown-answer (Full Start) v e = clash e refl
shown-answer (Full Answer) v e = refl

holds_shown : (b : Mailbox) (v : ℕ → Cell) → holds_answer b ≡ is_answer (to_box b v)
holds_shown Empty v = refl
holds_shown (Full Start) v = refl
holds_shown (Full Answer) v = refl

module _ (way : ℕ) (w : is_way way ≡ true) (m : Map) (fits : Fits m) (e : acceptance m ≡ accepted) where
  abbrev g : Graph
  g = graph way m e

  abbrev tied : Ties rules g (joining way) (readings way m) (fresh_on way m) (λ net. cells (config_of way m) (desk_held (mailing way) m net))
  tied = ties (config_of way m) m.counts m.neighbours (web_of m e) (classes_of_lem m e, w) fits.counts

  module _ (n : Net) (S : State (ℕ → Cell)) (G : Good (config_of way m) m.neighbours (web_of m e) n) (R : Mails g (view (config_of way m) n) S)
      (i j : ℕ) where
    -- what a waiting answer says of the wave
    pub waiting : i < m.k → j < m.k → holds_answer (box_at n.boxes i j) ≡ true
        → CanSend g S i j × (answers g S i j ≡ true) × (cells (config_of way m) (brought_at n.config n.boxes i j) ≡ S.value i)
    waiting hi hj h =
        let v = cells (config_of way m) (brought_at (config_of way m) n.boxes i j) in
        let box : box_of g S i j ≡ answer v = sym (R.boxes i j hi hj) ∙ shown-answer (box_at n.boxes i j) v h in
        let w = full_send g S i j (ap full box) in (
          w,
          by_bool (answers g S i j) (λ up. up) (λ f. clash (ap is_answer box) (ap is_answer (send_start_lem g S i j w f))),
          ap (λ (u : Config). cells (config_of way m) (brought_at u n.boxes i j)) G.config_is ∙ answer_value g S i j v box,
        )

    -- and what may be sent says of its mailbox
    holds_is : CanSend g S i j → holds_answer (box_at n.boxes i j) ≡ answers g S i j
    holds_is w =
        let l = g.within i j w.adjacent in
        holds_shown (box_at n.boxes i j) (cells (config_of way m) (brought_at (config_of way m) n.boxes i j))
        ∙ ap is_answer (R.boxes i j l.0 l.1)
        ∙ by_bool (answers g S i j)
        (λ up. ap is_answer (send_answer_lem g S i j w up) ∙ sym up)
        (λ f. ap is_answer (send_start_lem g S i j w f) ∙ sym f)

  -- a message is a delivery
  is-delivery : (n : Net) (s : Step) (i j : ℕ) → Allowed rules n s → label_of rules s ≡ message i j → s ≡ step delivery i j
  unfolding allowed
  is-delivery n s i j a l =
      let b = range_bounds rules n s (and_both (in_range rules n s) (rules.guard n s) a).0 in
      message_step rules s delivery i j l (omega (arith, b.kind_low, b.kind_high, (label_is rules s i j l).0))

  module _ (n : Net) (S : State (ℕ → Cell)) (s : Step) (i j : ℕ)
      (st : Good (config_of way m) m.neighbours (web_of m e) n × Mails g (view (config_of way m) n) S)
      (I : Inv g (joining way) (readings way m) S) (a : Allowed rules n s) (l : label_of rules s ≡ message i j) where
    may_send : CanSend g S i j
    may_send = subst (Weak g S) l (tied.sound n S s st I a)

    delivered-is : (mailing_answers way).is_answer n s ≡ answers g S i j
    delivered-is = ap ((mailing_answers way).is_answer n) (is-delivery n s i j a l) ∙ holds_is n S st.0 st.1 i j may_send

    brings : answers g S i j ≡ true → cells (config_of way m) ((mailing_answers way).brought n s) ≡ S.value i
    brings up =
        let b = g.within i j may_send.adjacent in
        ap (λ (x : Step). cells (config_of way m) ((mailing_answers way).brought n x)) (is-delivery n s i j a l)
        ∙ (waiting n S st.0 st.1 i j b.0 b.1 (holds_is n S st.0 st.1 i j may_send ∙ up)).2

  pub mailing-shown : Shown (mailing way) (mailing_answers way) m e
  mailing-shown =
      record {
        ties = tied;
        shows = record {
          awake_is = λ n S st x h up. awake_shown g S (has_posted g S) x (station n x).state (st.1.stations.states x h) up;
          parent_is = λ n S st x h. st.1.stations.parents x h;
          held-is = λ n S st x h. st.1.stations.sums x h;
          answer-is = delivered-is;
          brought_is = brings;
        };
        no_report = λ net s a.
            let b = and_both (eqb s.kind delivery) (holds_answer (box_at net.boxes s.sender s.receiver)) a in
            ap (λ (x : ℕ). eqb x 2) (eqb-true s.kind delivery b.0);
      }

-- an answer is posted by one that has heard all, and brings what that one holds in the end
pub posted : Posted
unfolding mailing-shown
posted way w m fits e calls one front back q i j hi hj box =
    let N = mailing way in
    let B = mailing-shown way w m fits e in
    let D = records N (mailing_answers way) (config_of way m) in
    let K = refined N (mailing_answers way) m e B in
    let runs = made-allowed N m calls in
    let steps = made N m calls in
    let there = after_is N m calls front back q in
    let t = moment (graph way m e) (joining way) (readings way m) K D B.shows steps runs front back q in
    let holds = subst (λ (net : Net). holds_answer (box_at net.boxes i j) ≡ true) there (ap holds_answer box) in
    let w = waiting way w m fits e _ t.before t.stood.0 t.stood.1 i j hi hj holds in
    let last = reports-made N (λ s. refl) m calls ∙ one in
    let u = answer_up (graph way m e) (joining way) (readings way m) K D B.shows steps runs last front back t i j w.0 w.1 in (
      ap (λ (net : Net). (N.station net i).parent) (left_is N m calls) ∙ u.0,
      in_classes N way refl m e calls _ i
          (ap (λ (net : Net). cells (config_of way m) (brought_at net.config net.boxes i j)) there ∙ w.2 ∙ u.1
          ∙ ap (λ (net : Net). total_through (joining way) m.k (D.parent net) (readings way m) i) (sym (left_is N m calls))),
    )
