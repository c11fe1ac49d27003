-- What a step leaves at each place of the net: it writes two places, from these two and what the net was opened with, so the others and that
-- stay, and no list of calls touches a place past k. Assumes nothing.
use mathlib.Core.Path.{◌≡◌, refl, sym, ◌∙◌, ap, ap₂, subst}
use mathlib.Core.Bool.{true, cond}
use mathlib.Core.Logic.{◌⊎◌, inl, inr}
use mathlib.Core.List.{List, [], ◌∷◌}
use Prim.Native.Nat.{ℕ, ◌≤◌, ◌<◌}
use native.Mathlib.Omega.{arith}
use lib.ListN.{length, set, length-set}
use lib.Seq.{get_or-set_same, get_or-set_other, set-set, set_comm}
use lib.Dec.{eqb}
use borrow.Author.Tests.{eqb-true, eq-eqb}
use Rattle.finite.proofs.Cases.{by_bool, by-sum, and_both}
use Rattle.finite.proofs.Lists.{set_own, set-two_either}
use Rattle.wave.specs.Internal.Claim.{Runs, reached}
use Rattle.aggregate.specs.declared.Config.{Config}
use Rattle.aggregate.specs.declared.Aggregate.{Aggregate}
use Rattle.aggregate.specs.Aggregate.{root_of, clipped, absent}
use Rattle.station.specs.declared.Station.{Station}
use Rattle.schedule.specs.declared.Step.{Step}
use Rattle.schedule.specs.Rules.{allowed}
use Rattle.schedule.specs.Calls.{Call, calls_made, calls_net}
use Rattle.schedule.proofs.Listing.{range_bounds, listed-allowed}
use Rattle.schedule.proofs.Made.{Listed, calls_make}
use Rattle.schedule.proofs.Answers.{allowed_parts}
use Rattle.stations.specs.Stations.{no_station}
use Rattle.rendezvous.specs.Net.{Net, station, kept_at, with_two}
use Rattle.rendezvous.specs.Figure.{wake, pass, answer, may_step, starts, wakes, hears, gathers, finishes, assigned}
use Rattle.rendezvous.specs.Telling.{is_tell, is_reported, known, hears_total, told_by}
use Rattle.rendezvous.specs.Rules.{apply, rules}
use Rattle.rendezvous.proofs.Guards.{wake-guard}
use Rattle.rendezvous.proofs.Settled.{wave_of, apply_wave, apply-tell, tell_parts}

-- two stations replaced
module _ (net : Net) (j i : ℕ) (s r : Station) where
  pub two-sender : j < length net.stations → (j ≡ i → ⊥) → station (with_two net j s i r) j ≡ s
  two-sender l apart = get_or-set_other (set net.stations j s) i j r no_station apart ∙ get_or-set_same net.stations j s no_station l

  pub two-receiver : i < length net.stations → station (with_two net j s i r) i ≡ r
  two-receiver l = get_or-set_same (set net.stations j s) i r no_station (simp length-set l)

-- what Figure 2 leaves at a place, of what the net was opened with, the sender and the receiver as they were
abbrev Left : Type 0
Left = Config → Station → Station → Station

-- what stands at a place that is one of two
abbrev of_two : {A P Q : Type 0} → P ⊎ Q → A → A → A
of_two (inl p) a b = a
of_two (inr q) a b = b

of_two_lem : {A : Type 0} (f : ℕ → A) {x j i : ℕ} (w : (x ≡ j) ⊎ (x ≡ i)) → f x ≡ of_two w (f j) (f i)
of_two_lem f (inl q) = ap f q
of_two_lem f (inr q) = ap f q

-- how far a step of kinds 1 to 4 reaches: it writes its sender and a second of its two places, and reads these two; who is finished stays so
record Assigns (kind j i : ℕ) : Type 0 where
  second : ℕ
  named : (second ≡ j) ⊎ (second ≡ i)
  sends : Left
  takes : Left
  effect : (net : Net)
      → assigned net kind j i
      ≡ with_two net j (sends net.config (station net j) (station net i)) second (takes net.config (station net j) (station net i))
  stays : (t : Config) (s r : Station) → may_step t kind j i s r ≡ true
      → (s.state ≡ 2 → (sends t s r).state ≡ 2) × ((of_two named s r).state ≡ 2 → (takes t s r).state ≡ 2)

-- the kinds: a wake is of a sleeper, and a report writes its sender alone
assigns : (kind j i : ℕ) → Assigns kind j i
unfolding assigned
assigns kind j i =
    by_bool (eqb kind wake)
    (λ w. record {
      second = i;
      named = inr refl;
      sends = λ t s r. starts i s;
      takes = λ t s r. wakes j r;
      effect = λ net. rw w;
      stays = λ t s r may.
          let guard = sym (wake-guard t j i s r) ∙ subst (λ (n : ℕ). may_step t n j i s r ≡ true) (eqb-true kind wake w) may in
          let sleeps = eqb-true r.state 0 (and_both (eqb r.state 0) _ guard).0 in
          (λ u. u, λ u. absurd (let z : ⊥ = omega (arith, sleeps, u) in z));
    })
    (λ w. by_bool (eqb kind pass)
    (λ p. record {
      second = i;
      named = inr refl;
      sends = λ t s r. starts i s;
      takes = λ t s r. hears r;
      effect = λ net. rw (w, p);
      stays = λ t s r may. (λ u. u, λ u. u);
    })
    (λ p. by_bool (eqb kind answer)
    (λ a. record {
      second = i;
      named = inr refl;
      sends = λ t s r. finishes s;
      takes = gathers;
      effect = λ net. rw (w, p, a);
      stays = λ t s r may. (λ u. refl, λ u. u);
    })
    (λ a. record {
      second = j;
      named = inl refl;
      sends = λ t s r. finishes s;
      takes = λ t s r. finishes s;
      effect = λ net. rw (w, p, a, set-set net.stations j);
      stays = λ t s r may. (λ u. refl, λ u. refl);
    })))

module _ (net : Net) (kind j i : ℕ) where
  pub config_kept : (assigned net kind j i).config ≡ net.config
  config_kept = ap (λ (n : Net). n.config) ((assigns kind j i).effect net)

  pub carrying_kept : (assigned net kind j i).carrying ≡ net.carrying
  carrying_kept = ap (λ (n : Net). n.carrying) ((assigns kind j i).effect net)

  pub kept_kept : (assigned net kind j i).kept ≡ net.kept
  kept_kept = ap (λ (n : Net). n.kept) ((assigns kind j i).effect net)

-- ---- all kinds, with what is kept
-- all that a net has at a place
pub record Place : Type 0 where
  pub station : Station
  pub kept : Aggregate

abbrev place_of : Station → Aggregate → Place
place_of s v = record { station = s; kept = v }

abbrev pub place : Net → ℕ → Place
place net x = place_of (station net x) (kept_at net x)

-- what no step changes
pub record Opened : Type 0 where
  pub config : Config
  pub carrying : ℕ

abbrev pub opened : Net → Opened
opened net = record { config = net.config; carrying = net.carrying }

-- the net with other stations and totals kept
abbrev with_lists : Net → List Station → List Aggregate → Net
with_lists net l v = record { config = net.config; stations = l; carrying = net.carrying; kept = v }

-- the net with a place replaced
abbrev pub put : Net → ℕ → Place → Net
put net x a = with_lists net (set net.stations x a.station) (set net.kept x a.kept)

pub put_comm : (net : Net) (x y : ℕ) (a b : Place) → (x ≡ y → ⊥) → put (put net x a) y b ≡ put (put net y b) x a
put_comm net x y a b n =
    ap₂ (with_lists net)
    (set_comm net.stations x y a.station b.station n) (set_comm net.kept x y a.kept b.kept n)

put_other : (net : Net) (x y : ℕ) (a : Place) → (y ≡ x → ⊥) → place (put net x a) y ≡ place net y
put_other net x y a n =
    ap₂ place_of (get_or-set_other net.stations x y a.station no_station n) (get_or-set_other net.kept x y a.kept absent n)

-- what a step leaves at a place, of what the net was opened with and its two places as they were
abbrev pub Leaves : Type 0
Leaves = Config → Place → Place → Place

-- how far a step reaches
pub record Reach (s : Step) : Type 0 where
  pub second : ℕ
  pub named : (second ≡ s.sender) ⊎ (second ≡ s.receiver)
  pub sends : Leaves
  pub takes : Leaves
  pub effect : (net : Net)
      → let a = place net s.sender in
      let b = place net s.receiver in
      apply net s ≡ put (put net s.sender (sends net.config a b)) second (takes net.config a b)

-- a tell writes its receiver alone, and reads what its sender knows; the others leave what is kept
pub reach : (s : Step) → Reach s
unfolding told_by
reach s =
    let j = s.sender in
    let i = s.receiver in
    by_bool (is_tell s)
    (λ w. record {
      second = i;
      named = inr refl;
      sends = λ t a b. a;
      takes = λ t a b. place_of (hears_total b.station) (clipped t (cond (eqb j (root_of t)) a.station.held a.kept));
      effect = λ net. apply-tell net s w
          ∙ ap₂ (λ (l : List Station) (v : List Aggregate). with_lists net (set l i (hears_total (station net i))) (set v i (clipped net.config (known net j))))
          (sym (set_own net.stations j no_station)) (sym (set_own net.kept j absent));
    })
    (λ w.
    let r = assigns s.kind j i in
    record {
      second = r.second;
      named = r.named;
      sends = λ t a b. place_of (r.sends t a.station b.station) a.kept;
      takes = λ t a b. place_of (r.takes t a.station b.station) (of_two r.named a.kept b.kept);
      effect = λ net.
          let same : net.kept ≡ set (set net.kept j (kept_at net j)) r.second (of_two r.named (kept_at net j) (kept_at net i)) =
          sym (set_own net.kept r.second absent)
          ∙ ap₂ (λ (v : List Aggregate) (a : Aggregate). set v r.second a) (sym (set_own net.kept j absent)) (of_two_lem (kept_at net) r.named) in
          let left : Left → Station = λ f. f net.config (station net j) (station net i) in
          apply_wave net s w
          ∙ r.effect net
          ∙ ap (with_lists net (with_two net j (left r.sends) r.second (left r.takes)).stations) same;
    })

module _ (net : Net) (s : Step) where
  pub opened_after : opened (apply net s) ≡ opened net
  opened_after = ap opened ((reach s).effect net)

  pub config_after : (apply net s).config ≡ net.config
  config_after = ap (λ (o : Opened). o.config) opened_after

  -- all places but the sender's and the receiver's are untouched
  pub place_after : (x : ℕ) → (x ≡ s.sender → ⊥) → (x ≡ s.receiver → ⊥) → place (apply net s) x ≡ place net x
  place_after x n m =
      let r = reach s in
      let a = place net s.sender in
      let b = place net s.receiver in
      let sent = r.sends net.config a b in
      ap (λ (n : Net). place n x) (r.effect net)
      ∙ put_other (put net s.sender sent) r.second x (r.takes net.config a b) (λ e. by-sum r.named (λ q. n (e ∙ q)) (λ q. m (e ∙ q)))
      ∙ put_other net s.sender x sent n

-- ---- no allowed step takes the report back: who is finished stays so under Figure 2, and a tell is not to the desk
finished_stays : (net : Net) (kind j i x : ℕ) → may_step net.config kind j i (station net j) (station net i) ≡ true
    → (station net x).state ≡ 2 → (station (assigned net kind j i) x).state ≡ 2
finished_stays net kind j i x may done =
    let r = assigns kind j i in
    let both = r.stays net.config (station net j) (station net i) may in
    let IsDone : Station → Type 0 = λ s. s.state ≡ 2 in
    ap (λ (n : Net). (station n x).state) (r.effect net)
    ∙ set-two_either (λ (y : ℕ) (s : Station). IsDone (station net y) → IsDone s) net.stations j r.second x _ _ no_station
    both.0 (λ q. both.1 (subst IsDone (of_two_lem (station net) r.named) q)) (λ q. q) done

pub reported-after : (net : Net) (s : Step) → allowed rules net s ≡ true → is_reported net ≡ true → is_reported (apply net s) ≡ true
unfolding told_by
reported-after net s a r =
    let root = root_of net.config in
    let done = eqb-true (station net root).state 2 r in
    let kept : (station (apply net s) root).state ≡ 2 =
    by_bool (is_tell s)
    (λ w.
    ap (λ (n : Net). (station n root).state) (apply-tell net s w)
    ∙ ap (λ (x : Station). x.state) (get_or-set_other net.stations s.receiver root _ no_station (λ e. (tell_parts net s a w).no_root (sym e)))
    ∙ done)
    (λ w.
    ap (λ (n : Net). (station n root).state) (apply_wave net s w)
    ∙ finished_stays net s.kind s.sender s.receiver root (wave_of net s a w).guarded done) in
    ap (λ (t : Config). eqb (station (apply net s) (root_of t)).state 2) (config_after net s) ∙ eq-eqb (station (apply net s) root).state 2 kept

steps_kept : (steps : List Step) (net : Net) (x : ℕ) → net.config.k ≤ x → Runs (Listed rules) rules.apply net steps
    → station (reached rules.apply net steps) x ≡ station net x
steps_kept [] net x past runs = refl
steps_kept (s ∷ l) net x past runs =
    let b = range_bounds rules net s (allowed_parts rules net s (listed-allowed rules net s runs.0.1)).0 in
    steps_kept l (rules.apply net s) x (rw (config_after net s) past) runs.1
    ∙ ap (λ (a : Place). a.station) (place_after net s x (λ e. omega (arith, b.sender-low)) (λ e. omega (arith, b.receiver-low)))

-- "Places past k are untouched" (document 01, Causes and numbers), by any list of steps, draws and runs
pub past_kept : (net : Net) (calls : List Call) (x : ℕ) → net.config.k ≤ x → station (calls_net rules net calls) x ≡ station net x
past_kept net calls x past =
    let made = calls_make rules net calls in
    ap (λ (n : Net). station n x) made.ends ∙ steps_kept (calls_made rules net calls) net x past made.runs

-- and no list of calls changes what the net was opened with
steps_config : (steps : List Step) (net : Net) → (reached rules.apply net steps).config ≡ net.config
steps_config [] net = refl
steps_config (s ∷ l) net = steps_config l (rules.apply net s) ∙ config_after net s

pub config_left : (net : Net) (calls : List Call) → (calls_net rules net calls).config ≡ net.config
config_left net calls = ap (λ (n : Net). n.config) (calls_make rules net calls).ends ∙ steps_config (calls_made rules net calls) net
