-- The tree behind a total (document 02, request 6), for everything that carries out the wave: what holds of the parents, and of what each
-- station sent up, after the report.
use Rattle.std.specs.Prelude.{◌≡◌, Bool, true, cond, List, ◌∷◌, ◌++◌, ◌↔◌, ℕ, ◌-◌, ◌<◌, ◌≤◌}
use Rattle.finite.specs.Hops.{hop, leads}
use Rattle.finite.specs.Internal.Monoid.{CommMonoid, sum_to}
use Rattle.wave.specs.Internal.Wave.{Step, message}
use Rattle.wave.specs.Internal.Claim.{reached}

-- the counts of the stations that pass a test, together
abbrev pub chosen : {A : Type 0} → CommMonoid A → ℕ → (ℕ → A) → (ℕ → Bool) → A
chosen M k counts p = sum_to M k (λ x. cond (p x) (counts x) M.unit)

-- of k stations, those from which at most k − 1 hops lead to i, itself among them
abbrev pub total_through : {A : Type 0} → CommMonoid A → ℕ → (ℕ → ℕ) → (ℕ → A) → ℕ → A
total_through M k parent counts i = chosen M k counts (λ j. leads parent (k - 1) j i)

-- On k stations with these links: what holds of the parents, and of what each station holds.
pub record TreeBehind {A : Type 0} (k root : ℕ) (adj : ℕ → ℕ → Bool) (M : CommMonoid A) (counts : ℕ → A) (parent : ℕ → ℕ)
    (held : ℕ → A) : Type 0 where
  -- "each station but the desk has a neighbour as parent"
  pub neighbour : (i : ℕ) → i < k → (i ≡ root → ⊥) → adj i (parent i) ≡ true
  -- "Following parents reaches the desk in at most k − 1 hops", and stays there
  pub reaches : (i : ℕ) → i < k → (h : ℕ) × (h ≤ k - 1) × (hop parent h i ≡ root)
  pub stays : parent root ≡ root
  -- so the stations whose parents lead through i are those from which any number of hops leads to it
  pub through : (j i : ℕ) → j < k → (leads parent (k - 1) j i ≡ true) ↔ ((h : ℕ) × (hop parent h j ≡ i))
  -- each station holds "the total of its own count and those of all stations whose parents lead through it"
  pub sums : (i : ℕ) → i < k → held i ≡ total_through M k parent counts i

-- "read the parent records": what a kind of net shows of its stations, and of its moves
pub record Records (Net Move A : Type 0) : Type 0 where
  pub awake : Net → ℕ → Bool
  pub parent : Net → ℕ → ℕ
  pub held : Net → ℕ → A
  -- whether this move, in this net, is an answer, and what it brings
  pub is_answer : Net → Move → Bool
  pub brought : Net → Move → A

module _ {A Net Move : Type 0} (D : Records Net Move A) (label : Move → Step) (make : Net → Move → Net) (opened : Net) (made : List Move) where
  -- What the stations sent up in the moves made from the opened net on, against the parents in the end.
  pub record SentUp (k root : ℕ) (M : CommMonoid A) (counts : ℕ → A) : Type 0 where
    -- "The sum a station sent up is the total of its own count and those of all stations whose parents lead through it", and went to its
    -- parent
    pub total_up : (front back : List Move) (m : Move) (i j : ℕ) → made ≡ front ++ (m ∷ back) → label m ≡ message i j
        → D.is_answer (reached make opened front) m ≡ true
        → let parent = D.parent (reached make opened made) in
        (parent i ≡ j) × (D.brought (reached make opened front) m ≡ total_through M k parent counts i)
    -- each station but the root sent one up
    pub each_up : (i : ℕ) → i < k → (i ≡ root → ⊥)
        → (front : List Move) × (m : Move) × (back : List Move) × (made ≡ front ++ (m ∷ back))
        × (label m ≡ message i (D.parent (reached make opened made) i)) × (D.is_answer (reached make opened front) m ≡ true)

  -- once a station is awake, its parent never changes
  abbrev pub ParentsStay : ℕ → Type 0
  ParentsStay k =
      (front back : List Move) → made ≡ front ++ back → (i : ℕ) → i < k → D.awake (reached make opened front) i ≡ true
      → D.parent (reached make opened made) i ≡ D.parent (reached make opened front) i
