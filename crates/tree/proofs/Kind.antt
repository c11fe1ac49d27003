-- The tree behind a total, once for all kinds of net. A kind of net that refines the wave shows who is awake, parents, what is held, and which steps
-- are answers (`Shown`). Above it stands a kind of net whose counted steps are steps of the net below, and come first (`Above`): what they lead to
-- below has the same parents, and holds the same, so the tree is that of the net below. Where all steps are counted, a kind of net stands above itself
-- (`itself`). Assumes nothing.
use mathlib.Core.Path.{◌≡◌, refl, sym, ap, ap₂, ◌∙◌, subst, fun_ext}
use mathlib.Core.Bool.{Bool, true, false, not}
use mathlib.Core.List.{List, [], ◌∷◌, ◌++◌, map, append-nil, append_assoc}
use Prim.Native.Nat.{ℕ, suc, ◌<◌}
use native.Mathlib.Omega.{arith}
use lib.Dec.{eqb}
use lib.ListN.{length, get_or, length-append, get_or-append}
use borrow.Author.Tests.{eqb-false, ne_eqb}
use Rattle.finite.specs.Internal.Monoid.{CommMonoid}
use Rattle.finite.proofs.Cases.{clash, by_bool}
use Rattle.finite.proofs.Sums.{sum_ext}
use Rattle.aggregate.specs.declared.Config.{Config}
use Rattle.aggregate.specs.declared.Cell.{Cell}
use Rattle.aggregate.specs.declared.Aggregate.{Aggregate}
use Rattle.aggregate.specs.Aggregate.{cell}
use Rattle.aggregate.specs.Internal.Joining.{cells}
use Rattle.aggregate.proofs.Joining.{joining_cells, joining}
use Rattle.station.specs.Events.{asleep}
use Rattle.wave.specs.Internal.Graph.{Graph}
use Rattle.wave.specs.Internal.Wave.{State, message, report}
use Rattle.wave.specs.Internal.Wave as wave
use Rattle.wave.specs.Internal.Claim.{times, Runs, reached}
use Rattle.wave.specs.Internal.Tree.{total_through, TreeBehind, Records}
use Rattle.wave.proofs.Refinement.{Refinement}
use Rattle.wave.proofs.Lasting.{runs_then}
use Rattle.wave.proofs.TreeTheorem.{Shows, refinement_tree, refinement_up, refinement_parents}
use Rattle.topology.specs.Answer.{accepted}
use Rattle.linemap.specs.declared.Map.{Map}
use Rattle.linemap.specs.Maps.{config_of, acceptance, totals_of}
use Rattle.schedule.specs.declared.Step.{Step}
use Rattle.schedule.specs.Rules.{Rules}
use Rattle.schedule.specs.Listing.{select, how_many, step}
use Rattle.schedule.specs.Calls.{Call, single}
use Rattle.schedule.specs.Internal.Labels.{label_of}
use Rattle.schedule.proofs.Listing.{Allowed}
use Rattle.schedule.proofs.Parts.{select-all, select-append, select-passes}
use Rattle.schedule.proofs.Made.{Listed, Makes, calls_make, singles_make}
use Rattle.order.specs.Internal.Maps.{readings}
use Rattle.order.proofs.Kind.{Ties, nets, runs-allowed}
use Rattle.order.proofs.Local.{state_of}
use Rattle.order.proofs.Stations.{line}
use Rattle.order.proofs.Maps.{web_of, chosen-joined, class_held}
use Rattle.demand.specs.Kinds.{Kind, is_report, desk, desk_held, made, left, steps, reports}
use Rattle.demand.proofs.Counted.{reports-counted}
use Rattle.demand.proofs.Demand.{Whole}
use Rattle.tree.specs.Tree.{Answers, after, parent_of, leads_through, tree_totals, Behind}

-- what a wave's step is, its sender and its receiver
sender : wave.Step → ℕ
sender (message i j) = i
sender report = 0

receiver : wave.Step → ℕ
receiver (message i j) = j
receiver report = 0

carries : wave.Step → ℕ
carries (message i j) = 1
carries report = 0

-- a step with a message's label is that message
pub label_is : {Net : Type 0} (R : Rules Net) (s : Step) (i j : ℕ) → label_of R s ≡ message i j
    → (s.kind ≡ R.reports → ⊥) × (s.sender ≡ i) × (s.receiver ≡ j)
unfolding sender receiver carries
label_is R s i j e =
    by_bool (eqb s.kind R.reports)
    (λ q. let z : ◌≡◌ {A = ℕ} 0 1 = ap carries (rw q at e) in absurd (omega arith))
    (λ n.
    let m : message s.sender s.receiver ≡ message i j = rw n at e in
    (eqb-false s.kind R.reports n, ap sender m, ap receiver m))

-- so it is known by its kind
pub message_step : {Net : Type 0} (R : Rules Net) (s : Step) (kind i j : ℕ) → label_of R s ≡ message i j → s.kind ≡ kind → s ≡ step kind i j
message_step R s kind i j e q =
    let l = label_is R s i j e in
    ap (λ (x : ℕ). step x s.sender s.receiver) q ∙ ap₂ (step kind) l.1 l.2

-- whoever is not asleep is awake in the wave
pub awake_shown : {A : Type 0} (g : Graph) (S : State A) (sent : ℕ → Bool) (x state : ℕ) → state ≡ state_of g S sent x
    → not (eqb state asleep) ≡ true → S.awake x ≡ true
awake_shown g S sent x state e up =
    by_bool (S.awake x) (λ a. a) (λ a. clash up (ap (λ (n : ℕ). not (eqb n asleep)) e ∙ (rw a)))

-- the records of a kind of net, class by class
abbrev pub records : (K : Kind) → Answers K → Config → Records K.Net Step (ℕ → Cell)
records K A t =
    record {
      awake = λ net i. not (eqb (K.station net i).state asleep);
      parent = λ net i. (K.station net i).parent;
      held = λ net i. cells t (K.station net i).held;
      is_answer = A.is_answer;
      brought = λ net s. cells t (A.brought net s);
    }

-- the steps that calls make, in any kind of net
module _ (K : Kind) (m : Map) (calls : List Call) where
  makes : Makes K.rules (K.fresh m) (made K m calls) (left K m calls)
  makes = calls_make K.rules (K.fresh m) calls

  pub made-allowed : Runs (Allowed K.rules) K.rules.apply (K.fresh m) (made K m calls)
  made-allowed = runs-allowed K.rules (K.fresh m) (made K m calls) makes.runs

  -- the net that they lead to
  pub left_is : left K m calls ≡ reached K.rules.apply (K.fresh m) (made K m calls)
  left_is = makes.ends

  -- the first of them, one by one
  singles : (front ahead : List Step) → made K m calls ≡ front ++ ahead
      → (made K m (map single front) ≡ front) × (after K m front ≡ reached K.rules.apply (K.fresh m) front)
  singles front ahead q =
      singles_make K.rules (K.fresh m) front
      (runs_then (Listed K.rules) K.rules.apply (K.fresh m) front ahead
      (subst (Runs (Listed K.rules) K.rules.apply (K.fresh m)) q makes.runs)).0

  pub made_again : (front ahead : List Step) → made K m calls ≡ front ++ ahead → made K m (map single front) ≡ front
  made_again front ahead q = (singles front ahead q).0

  pub after_is : (front ahead : List Step) → made K m calls ≡ front ++ ahead → after K m front ≡ reached K.rules.apply (K.fresh m) front
  after_is front ahead q = (singles front ahead q).1

  pub after-all : after K m (made K m calls) ≡ left K m calls
  after-all = after_is (made K m calls) [] (sym (append-nil (made K m calls))) ∙ sym left_is

-- the front of what was selected is what is selected of it
select_front : (p : Step → Bool) (l front back : List Step) → select p l ≡ front ++ back → select p front ≡ front
unfolding select
select_front p l front back e =
    kept front (λ n h.
    ap p (sym (get_or-append front back (step 0 0 0) n h) ∙ ap (λ (x : List Step). get_or x n (step 0 0 0)) (sym e))
    ∙ select-passes p l n (step 0 0 0) (omega (arith, h, ap length e, length-append front back)))
  where
    kept : (l : List Step) → ((n : ℕ) → n < length l → p (get_or l n (step 0 0 0)) ≡ true) → select p l ≡ l
    kept [] h = refl
    kept (s ∷ l) h = rw (h 0 (omega arith)) (ap (λ (x : List Step). s ∷ x) (kept l (λ n k. h (suc n) (omega arith))))

-- one that is selected goes before the others
select-first : (p : Step → Bool) (s : Step) (l : List Step) → p s ≡ true → select p (s ∷ l) ≡ s ∷ select p l
unfolding select
select-first p s l e = rw e

-- the stations of an accepted map
abbrev pub graph : ℕ → (m : Map) → acceptance m ≡ accepted → Graph
graph way m e = line (config_of way m) m.neighbours (web_of m e)

-- how a kind of net joins, and what it joins on a map
abbrev joins : Kind → CommMonoid (ℕ → Cell)
joins K = joining K.way

abbrev read : Kind → Map → ℕ → ℕ → Cell
read K m = readings K.way m

-- ---- the kind of net below
module _ (K : Kind) (A : Answers K) (m : Map) (e : acceptance m ≡ accepted) where
  abbrev g : Graph
  g = graph K.way m e

  abbrev total : K.Net → ℕ → Cell
  total net = cells (config_of K.way m) (desk_held K m net)

  -- what it brings on a map: it is tied to the wave and shows its records, and no answer is a report
  pub record Shown : Type 1 where
    pub ties : Ties K.rules g (joins K) (read K m) (K.fresh m) total
    pub shows : Shows g (joins K) (read K m) (nets K.rules g (joins K) (read K m) (K.fresh m) total ties) (records K A (config_of K.way m))
    pub no_report : (net : K.Net) (s : Step) → A.is_answer net s ≡ true → is_report K s ≡ false

  abbrev pub refined : Shown → Refinement g (joins K) (read K m)
  refined B = nets K.rules g (joins K) (read K m) (K.fresh m) total B.ties

-- ---- and the one above: what its steps lead to below, of the first kind
pub record Above (K₀ : Kind) (A₀ : Answers K₀) (K : Kind) (A : Answers K) (m : Map) : Type 0 where
  pub plain : K.Net → K₀.Net
  -- the steps that are counted are steps of the net below, and come first
  pub walked : (made : List Step) → Runs (Allowed K.rules) K.rules.apply (K.fresh m) made
      → Runs (Allowed K₀.rules) K₀.rules.apply (K₀.fresh m) (select K.counts made)
      × (plain (reached K.rules.apply (K.fresh m) made) ≡ reached K₀.rules.apply (K₀.fresh m) (select K.counts made))
  pub first : (calls : List Call) → (after : List Step) × (made K m calls ≡ steps K m calls ++ after)
  pub same-reports : K.rules.reports ≡ K₀.rules.reports
  pub same_way : K.way ≡ K₀.way
  -- what is below has the records of what is above
  pub awake_is : (net : K.Net) (i : ℕ) → eqb (K₀.station (plain net) i).state asleep ≡ eqb (K.station net i).state asleep
  pub parent_is : (net : K.Net) (i : ℕ) → (K.station net i).parent ≡ (K₀.station (plain net) i).parent
  pub held-is : (net : K.Net) (i : ℕ) → (K.station net i).held ≡ (K₀.station (plain net) i).held
  -- and the same answers, which are counted
  pub answers-counted : (net : K.Net) (s : Step) → A.is_answer net s ≡ true → K.counts s ≡ true
  pub answer-is : (net : K.Net) (s : Step) → A.is_answer net s ≡ A₀.is_answer (plain net) s
  pub brought_is : (net : K.Net) (s : Step) → A.brought net s ≡ A₀.brought (plain net) s

pub itself : (K : Kind) (A : Answers K) (m : Map) → Whole K → Above K A K A m
itself K A m whole =
    record {
      plain = λ net. net;
      walked = λ made runs.
          let at : List Step → Type 0 = λ l.
          Runs (Allowed K.rules) K.rules.apply (K.fresh m) l
          × (reached K.rules.apply (K.fresh m) made ≡ reached K.rules.apply (K.fresh m) l) in
          subst at (sym (select-all K.counts whole made)) (runs, refl);
      first = λ calls. ([], sym (append-nil (steps K m calls) ∙ select-all K.counts whole (made K m calls)));
      same-reports = refl;
      same_way = refl;
      awake_is = λ net i. refl;
      parent_is = λ net i. refl;
      held-is = λ net i. refl;
      answers-counted = λ net s a. whole s;
      answer-is = λ net s. refl;
      brought_is = λ net s. refl;
    }

-- a total of the wave's, class by class
pub in_classes : (K : Kind) (way : ℕ) → K.way ≡ way → (m : Map) (e : acceptance m ≡ accepted) (calls : List Call) (a : Aggregate) (i : ℕ)
    → cells (config_of way m) a ≡ total_through (joining way) m.k (parent_of K m calls) (readings way m) i
    → (c : ℕ) → c < m.classes → cell a c ≡ tree_totals K m calls i c
in_classes K way same m e calls a i q c l =
    let through = leads_through K m calls i in
    sym (class_held way m e a c l) ∙ ap (λ (f : ℕ → Cell). f c) q ∙ chosen-joined way m e through c l ∙ ap (λ (w : ℕ). totals_of w through m c) (sym same)

module _ (K₀ : Kind) (A₀ : Answers K₀) (K : Kind) (A : Answers K) (m : Map) (e : acceptance m ≡ accepted) (B : Shown K₀ A₀ m e)
    (P : Above K₀ A₀ K A m) (calls : List Call) where
  abbrev t : Config
  t = config_of K₀.way m

  abbrev D : Records K₀.Net Step (ℕ → Cell)
  D = records K₀ A₀ t

  abbrev R : Refinement (g K₀ A₀ m e) (joins K₀) (read K₀ m)
  R = refined K₀ A₀ m e B

  abbrev counted : List Step → List Step
  counted l = select K.counts l

  abbrev below : List Step → K₀.Net
  below l = reached K₀.rules.apply (K₀.fresh m) l

  abbrev end : K₀.Net
  end = below (steps K m calls)

  runs : Runs (Allowed K₀.rules) K₀.rules.apply (K₀.fresh m) (steps K m calls)
  runs = (P.walked (made K m calls) (made-allowed K m calls)).0

  last_plain : P.plain (left K m calls) ≡ end
  last_plain = ap P.plain (left_is K m calls) ∙ (P.walked (made K m calls) (made-allowed K m calls)).1

  -- a net on the way
  front_plain : (front back : List Step) → made K m calls ≡ front ++ back → P.plain (after K m front) ≡ below (counted front)
  front_plain front back q =
      ap P.plain (after_is K m calls front back q)
      ∙ (P.walked front
      (runs_then (Allowed K.rules) K.rules.apply (K.fresh m) front back
      (subst (Runs (Allowed K.rules) K.rules.apply (K.fresh m)) q (made-allowed K m calls))).0).1

  parents : parent_of K m calls ≡ D.parent end
  parents = fun_ext (λ i. P.parent_is (left K m calls) i ∙ ap (λ (net : K₀.Net). (K₀.station net i).parent) last_plain)

  pub parents_stay : (front back : List Step) → made K m calls ≡ front ++ back → (i : ℕ) → i < m.k
      → ((K.station (after K m front) i).state ≡ asleep → ⊥)
      → parent_of K m calls i ≡ (K.station (after K m front) i).parent
  parents_stay front back q i l up =
      let net = after K m front in
      let there = front_plain front back q in
      let awake : D.awake (P.plain net) i ≡ true = ap not (P.awake_is net i ∙ ne_eqb (K.station net i).state asleep up) in
      ap (λ (f : ℕ → ℕ). f i) parents
      ∙ refinement_parents (g K₀ A₀ m e) (joins K₀) (read K₀ m) R D B.shows (steps K m calls) runs (counted front) (counted back)
      (ap counted q ∙ select-append K.counts front back) i l (subst (λ (n : K₀.Net). D.awake n i ≡ true) there awake)
      ∙ sym (P.parent_is net i ∙ ap (λ (n : K₀.Net). (K₀.station n i).parent) there)

  module _ (one : reports K m calls ≡ 1) where
    reported : times report (map (label_of K₀.rules) (steps K m calls)) ≡ 1
    reported =
        reports-counted K₀ (steps K m calls)
        ∙ ap (λ (n : ℕ). how_many (λ s. eqb s.kind n) (steps K m calls)) (sym P.same-reports)
        ∙ one

    -- a total of the wave's, by the parents of the net above
    by_parents : (i : ℕ) → total_through (joins K₀) m.k (D.parent end) (read K₀ m) i ≡ total_through (joins K₀) m.k (parent_of K m calls) (read K₀ m) i
    by_parents i = ap (λ (p : ℕ → ℕ). total_through (joins K₀) m.k p (read K₀ m) i) (sym parents)

    pub behind : Behind K m calls A
    behind =
        let wave-tree = refinement_tree (g K₀ A₀ m e) (joins K₀) (read K₀ m) R D B.shows (steps K m calls) runs reported in
        let up = refinement_up (g K₀ A₀ m e) (joins K₀) (read K₀ m) R D B.shows (steps K m calls) runs reported in
        let of : (ℕ → ℕ) → Type 0 = λ p. TreeBehind m.k (desk m) (g K₀ A₀ m e).adj (joins K₀) (read K₀ m) p (D.held end) in
        let tree : of (parent_of K m calls) = subst of (sym parents) wave-tree in
        record {
          neighbour = tree.neighbour;
          reaches = tree.reaches;
          stays = tree.stays;
          through = λ i j l. tree.through j i l;
          sent = λ front back s q answers.
              let net = after K m front in
              let there = front_plain front (s ∷ back) q in
              let is = subst (λ (n : K₀.Net). A₀.is_answer n s ≡ true) there (sym (P.answer-is net s) ∙ answers) in
              let label : label_of K₀.rules s ≡ message s.sender s.receiver = rw (B.no_report (below (counted front)) s is) in
              let split =
              ap counted q ∙ select-append K.counts front (s ∷ back)
              ∙ ap (λ (l : List Step). counted front ++ l) (select-first K.counts s back (P.answers-counted net s answers)) in
              let w = up.total_up (counted front) (counted back) s s.sender s.receiver split label is in (
                ap (λ (f : ℕ → ℕ). f s.sender) parents ∙ w.0,
                in_classes K K₀.way P.same_way m e calls (A.brought net s) s.sender
                    (ap (cells t) (P.brought_is net s) ∙ ap (λ (n : K₀.Net). D.brought n s) there ∙ w.1 ∙ by_parents s.sender),
              );
          each_sent = λ i l n.
              let w = up.each_up i l n in
              let rest = P.first calls in
              let split : made K m calls ≡ w.0 ++ (w.1 ∷ (w.2 ++ rest.0)) =
              rest.1 ∙ ap (λ (l : List Step). l ++ rest.0) w.3 ∙ append_assoc w.0 (w.1 ∷ w.2) rest.0 in
              let there = front_plain w.0 (w.1 ∷ (w.2 ++ rest.0)) split
              ∙ ap below (select_front K.counts (made K m calls) w.0 (w.1 ∷ w.2) w.3) in (
                w.0,
                w.1,
                w.2 ++ rest.0,
                split,
                P.answer-is (after K m w.0) w.1 ∙ ap (λ (net : K₀.Net). A₀.is_answer net w.1) there ∙ w.5,
                (label_is K₀.rules w.1 i _ w.4).1,
              );
          held = λ i c l.
              in_classes K K₀.way P.same_way m e calls (K.station (left K m calls) i).held i
              (ap (cells t) (P.held-is (left K m calls) i) ∙ ap (λ (net : K₀.Net). D.held net i) last_plain ∙ wave-tree.sums i l ∙ by_parents i) c;
          whole = λ c.
              let all : (j : ℕ) → j < m.k → leads_through K m calls (desk m) j ≡ true =
              λ j l. let w = tree.reaches j l in (tree.through j (desk m) l).1 (w.0, w.2) in
              sum_ext (joining_cells K.way) m.k _ _ (λ j l. rw (all j l));
        }
