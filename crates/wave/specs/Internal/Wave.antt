-- Segall's wave on a graph (document 001, section 3), as both kinds of net of document 01 carry it out: which messages have been
-- carried, what one does to its receiver, and between which two guards it may be let through.
use Rattle.std.specs.Prelude.{◌≡◌, Bool, true, false, not, ◌&&◌, ◌||◌, cond, ℕ, eqb}
use Rattle.finite.specs.Internal.Monoid.{CommMonoid}
use Rattle.wave.specs.Internal.Graph.{Graph}

-- "Every step made but a report is one message, carried by the link of its two stations from sender to receiver" (Lists of calls)
pub data Step : Type 0 where
  message : ℕ → ℕ → Step
  report : Step

-- which messages have been carried, from and to; which stations are not asleep; parents; what each has gathered; the report
pub record State (A : Type 0) : Type 0 where
  pub carried : ℕ → ℕ → Bool
  pub awake : ℕ → Bool
  pub parent : ℕ → ℕ
  pub value : ℕ → A
  pub reported : Bool

-- a message to the sender's parent is its answer, any other is a start; the root answers nobody (One station)
abbrev pub answers : {A : Type 0} → Graph → State A → ℕ → ℕ → Bool
answers g S i j = not (eqb i g.root) && eqb (S.parent i) j

-- fresh: "sums are the counts, .. parents 0, .. the desk active, others asleep" (Stations that meet)
abbrev pub fresh : {A : Type 0} → Graph → (ℕ → A) → State A
fresh g counts =
    record { carried = λ i j. false; awake = λ i. eqb i g.root; parent = λ i. g.root; value = counts; reported = false }

-- what a step makes of a state. A start wakes a sleeping receiver, whose "parent becomes" the sender; an answer's sum "is added"
-- to the receiver's (One station); a report changes nothing else.
abbrev pub next : {A : Type 0} → Graph → CommMonoid A → State A → Step → State A
next g M S (message i j) =
    record {
      carried = λ a b. eqb a i && eqb b j || S.carried a b;
      awake = λ x. eqb x j || S.awake x;
      parent = λ x. cond (eqb x j && not (S.awake j)) i (S.parent x);
      value = λ x. cond (eqb x j && answers g S i j) (M.add (S.value j) (S.value i)) (S.value x);
      reported = S.reported;
    }
next g M S report =
    record { carried = S.carried; awake = S.awake; parent = S.parent; value = S.value; reported = true }

-- "waits zero": every neighbour's message to i has been carried
abbrev pub Heard : {A : Type 0} → Graph → State A → ℕ → Type 0
Heard g S i = (h : ℕ) → g.adj h i ≡ true → S.carried h i ≡ true

-- a message goes over a link that has not carried it, from a station that is awake; an answer once its sender waits for nothing
pub record CanSend {A : Type 0} (g : Graph) (S : State A) (i j : ℕ) : Type 0 where
  pub adjacent : g.adj i j ≡ true
  pub up : S.awake i ≡ true
  pub unsent : S.carried i j ≡ false
  pub heard : answers g S i j ≡ true → Heard g S i

-- one report, once the root waits for nothing
pub record CanReport {A : Type 0} (g : Graph) (S : State A) : Type 0 where
  pub unreported : S.reported ≡ false
  pub heard : Heard g S g.root

-- the weak guard: what every step that either kind of net allows meets; each asks more, stations with mail that the message is posted and
-- that its receiver is in a state to take it
abbrev pub Weak : {A : Type 0} → Graph → State A → Step → Type 0
Weak g S (message i j) = CanSend g S i j
Weak g S report = CanReport g S

-- the strong guard: what stations that meet ask besides, "set empty" before an answer or a report: every other message out is carried
abbrev pub Strong : {A : Type 0} → Graph → State A → Step → Type 0
Strong g S (message i j) =
    CanSend g S i j × (answers g S i j ≡ true → (h : ℕ) → (h ≡ j → ⊥) → g.adj i h ≡ true → S.carried i h ≡ true)
Strong g S report = CanReport g S × ((h : ℕ) → g.adj g.root h ≡ true → S.carried g.root h ≡ true)

-- any guard between the two
pub record Guard (A : Type 0) (g : Graph) : Type 1 where
  pub Allows : State A → Step → Type 0
  pub no_weaker : (S : State A) (s : Step) → Allows S s → Weak g S s
  pub no_stronger : (S : State A) (s : Step) → Strong g S s → Allows S s
