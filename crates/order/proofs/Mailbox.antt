-- Stations with mail are tied to the wave: the fresh net stands for the fresh state, steps are those of `Mailing`, and every net reached is
-- in form, since a sum, held or posted, is a part of the total. Assumes nothing.
use mathlib.Core.Path.{◌≡◌, refl, ap, ◌∙◌, subst}
use mathlib.Core.Bool.{true, ◌||◌}
use mathlib.Core.List.{List}
use Prim.Native.Nat.{ℕ, ◌^◌, ◌<◌}
use native.Mathlib.Omega.{arith}
use lib.ListN.{get_or}
use lib.Dec.{eqb}
use borrow.Author.Tests.{lt-ltb, ne_eqb}
use Rattle.finite.proofs.Cases.{by_bool, by_eq, or_right, eqb_self}
use Rattle.finite.proofs.Below.{all_below_lem}
use Rattle.bitset.specs.Set.{member}
use Rattle.aggregate.specs.declared.Config.{Config}
use Rattle.aggregate.specs.declared.Cell.{Cell}
use Rattle.aggregate.specs.declared.Aggregate.{Aggregate}
use Rattle.aggregate.specs.Ways.{is_way}
use Rattle.aggregate.specs.Aggregate.{root_of, is_class_count, bounded}
use Rattle.aggregate.specs.Internal.Joining.{cells}
use Rattle.aggregate.proofs.Joining.{joining}
use Rattle.wave.specs.Internal.Wave.{State, next, Weak}
use Rattle.wave.proofs.Invariant.{Inv}
use Rattle.wave.specs.Internal.Wave as wave
use Rattle.topology.specs.Web.{Web}
use Rattle.mail.specs.declared.Message.TheVariants.{Start, Answer}
use Rattle.mail.specs.declared.Mailbox.{Mailbox}
use Rattle.mail.specs.declared.Mailbox.TheVariants.{Empty, Full}
use Rattle.mail.specs.Mail.{mailbox_bounded, box_at, brought_at}
use Rattle.mailbox.specs.Net.{Net, station, row_bounded, are_bounded, well_formed, fresh_net}
use Rattle.mailbox.specs.Rules.{rules}
use Rattle.mailbox.proofs.Starting.{fresh_shaped, fresh_box}
use Rattle.order.proofs.Kind.{Ties}
use Rattle.order.proofs.Stations.{view_of, line, Places, reading, fresh_view_lem, fresh-places, fresh_parents, stations_formed, part-bounded}
use Rattle.order.proofs.View.{Fresh}
use Rattle.order.proofs.Mailing.{answer, MailFresh, MailFormed}
use Rattle.order.proofs.MailingRefines.{Mails, mail_sound, mail_keeps, mail_live, mail_fresh, mail_formed}
use Rattle.order.proofs.MailboxSteps.{to_box, view, act, label-act, Good, may_of, does_of, good_of, can_of}

module _ (t : Config) (counts neighbours : List ℕ) (web : Web (root_of t) t.k neighbours) (c : (is_class_count t.classes ≡ true) × (is_way t.way ≡ true))
    (small : (i : ℕ) → get_or counts i 0 < 2 ^ 32) where
  abbrev opened : Net
  opened = fresh_net t counts neighbours

  opened_config : opened.config ≡ t
  unfolding fresh_net
  opened_config = refl

  -- its stations are fresh ones
  opened-places : Places t neighbours web opened.stations
  unfolding fresh_net
  opened-places = fresh-places t counts neighbours web

  opened_view : Fresh (line t neighbours web) (reading t counts) (view_of t opened.stations)
  unfolding fresh_net
  opened_view = fresh_view_lem t counts neighbours web

  opened_parents : (x : ℕ) → x < t.k → (station opened x).parent < t.k
  unfolding fresh_net
  opened_parents = fresh_parents t counts neighbours web

  root-low : root_of t < 64
  root-low = omega (arith, (line t neighbours web).root_in, web.few_stations)

  pub opens_good : Good t neighbours web opened
  opens_good =
      record {
        config_is = opened_config;
        places = opened-places;
        shaped = fresh_shaped t counts neighbours;
        parents = opened_parents;
      }

  pub opens : MailFresh (line t neighbours web) (reading t counts) (view t opened)
  opens =
      record {
        stations = opened_view;
        boxes = λ x y l m.
            ap (λ (b : Mailbox). to_box b (cells t (brought_at t opened.boxes x y))) (fresh_box t counts neighbours root-low x y (omega (arith, web.few_stations)) (omega (arith, web.few_stations)))
            ∙ by_eq x (root_of t)
            (λ q. by_bool (member y (get_or neighbours (root_of t) 0))
            (λ b. rw (q, eqb_self (root_of t), lt-ltb (root_of t) t.k (line t neighbours web).root_in, b))
            (λ b. rw (q, eqb_self (root_of t), lt-ltb (root_of t) t.k (line t neighbours web).root_in, b)))
            (λ q. rw (ne_eqb x (root_of t) q));
      }

  box_bounded : (b : Mailbox) (v : Aggregate) → (to_box b (cells t v) ≡ answer (cells t v) → bounded t v ≡ true) → mailbox_bounded t b v ≡ true
  box_bounded Empty v h = refl
  box_bounded (Full Start) v h = refl
  box_bounded (Full Answer) v h = h refl

  pub formed_of_lem : (n : Net) → Good t neighbours web n → MailFormed (line t neighbours web) (joining t.way) (reading t counts) (view t n) → well_formed n ≡ true
  unfolding well_formed are_bounded
  formed_of_lem n G F =
      rw (G.config_is, stations_formed t counts neighbours web c small n.stations G.places F.stations)
      (all_below_lem (row_bounded t n.boxes) t.k (λ x l.
      all_below_lem (λ r. eqb x r || mailbox_bounded t (box_at n.boxes x r) (brought_at t n.boxes x r)) t.k (λ y m.
      let v = brought_at t n.boxes x y in
      or_right (eqb x y) (mailbox_bounded t (box_at n.boxes x y) v)
      (box_bounded (box_at n.boxes x y) v (λ e. part-bounded t counts neighbours web c small v (F.posted x y (cells t v) l m e))))))

  -- a net that stands for a state of the wave is in form
  pub formed : (n : Net) (S : State (ℕ → Cell)) → Good t neighbours web n × Mails (line t neighbours web) (view t n) S
      → Inv (line t neighbours web) (joining t.way) (reading t counts) S → well_formed n ≡ true
  formed n S R I = formed_of_lem n R.0 (mail_formed (line t neighbours web) (joining t.way) (reading t counts) S I (view t n) R.1)

  abbrev pub ties : Ties rules (line t neighbours web) (joining t.way) (reading t counts) opened (λ n. cells t (station n (root_of t)).held)
  ties =
      record {
        Stands = λ n S. Good t neighbours web n × Mails (line t neighbours web) (view t n) S;
        opened_stands = (opens_good, mail_fresh (line t neighbours web) (reading t counts) (view t opened) opens);
        held-is = λ n S R. R.1.stations.sums (root_of t) (line t neighbours web).root_in;
        formed = formed;
        sound = λ n S m R I a.
            subst (Weak (line t neighbours web) S) (label-act m)
            (mail_sound (line t neighbours web) (joining t.way) (reading t counts) S I (view t n) R.1 (act m) (may_of t neighbours web n m R.0 a));
        keeps = λ n S m R I a. (
          good_of t neighbours web n m R.0 a,
          subst (λ (s : wave.Step). Mails (line t neighbours web) (view t (rules.apply n m)) (next (line t neighbours web) (joining t.way) S s)) (label-act m)
              (mail_keeps (line t neighbours web) (joining t.way) (reading t counts) S I (view t n) (view t (rules.apply n m)) R.1 (act m) (may_of t neighbours web n m R.0 a) (does_of t neighbours web n m R.0 a (formed n S R I))),
        );
        live = λ n S s R I st.
            let a = mail_live (line t neighbours web) (joining t.way) (reading t counts) S I (view t n) R.1 s st in
            can_of t neighbours web n R.0 a.0 a.1;
      }
