-- A list of arguments in a walk: their locals are one entry of the context, allocated, filled, read for a call and freed by recursion
-- on the list. So one walk serves every number of arguments. Assumes `Logic`, as each rule of the kit's calculus does.
use mathlib.Core.Path.{◌≡◌, refl, sym, subst, ap}
use mathlib.Core.List.{List, [], ◌∷◌, ◌++◌}
use Prim.Native.Nat.{ℕ, zero, suc}
use seplogic.Ra.Ura.{Ura}
use base.Fraction.{full_share}
use mir.Syntax.{Ty, Local, local, value_local, Opd, copy, place, Step as PStep}
use mir.Val.{Val}
use base.Logic as logic
use base.Logic.{SProp, ent, wand, emp, id⊢, mono_r, all_e, apply∗}
use base.Fml.{Share, ftrue, fat, froom, fdies}
use prog.Wp.{Env, Spot, spot_of, walk}
use types.Logic.{Logic, sem}
use contract.Lifetimes.{Lfts}
use types.Kit.{Item, ‵, raw, ◌⊛◌, mean, ⋆, Goal, allocs, passes, frees, Go, Sq}
use types.Kit.{◌$◌, ◌∵◌, !, qed, move, split, split3, group, use1, use2, drop, frame, each, assume, done}
use types.Run.{Reads, Walks, Finds, Opds, stop, load, init, forget, alloc1, pass1, free1, no_more, and_then}
use types.Part.{Part, whole}
use denote.RattleType.{RattleType, Denots, Valss, flat, owns}
use denote.Laws.{Are, Ises, Spells, valss, Tellss}
use denote.Exit.{yes, left, see}
use denote.Signature.{Slot, plain, types_at}
use denote.Steps.{nothing}
use denote.Triple.End.{Fins, Outs, outs, lasts_of, all}
use denote.Triple.Walked.{Stays, has_of, AllGo, fits_of}
use Rattle.lent.proofs.Data.{Argument}

-- ---- a cell within one side of a pair of entries
module _ {M : Type 1} {𝓤 : Ura M} {𝓛 : Logic 𝓤} {i j : Item 𝓤}
    {q : Share} {τ : Ty} {b o : ℕ} {v : Val} {back : Val → Item 𝓤} where
  open 𝓛 use {H}

  pub on_left : Part Go 𝓛 i q τ b o v back → Part Go 𝓛 (i ⊛ j) q τ b o v (λ u. back u ⊛ j)
  on_left p = record {
    out = qed 𝓛 (i ∷ j ∷ []) ∵ use1 𝓛 (‵ (fat q τ b o v) ⊛ raw (logic.all 𝓤 Back)) p.out $ split ! $ frame ! $
        each ! (λ (u : Val). wand 𝓤 (H.at q τ b o u) (mean 𝓛 (back u ⊛ j)))
        (λ u. assume {P = mean 𝓛 (back u ⊛ j)} ! (‵ (fat q τ b o u)) $
        move ! (1 ∷ []) $ use1 𝓛 (raw (Back u)) (all_e 𝓤 Back u) $ move ! (1 ∷ 0 ∷ []) $
        use2 𝓛 (back u) (apply∗ 𝓤 (H.at q τ b o u) (mean 𝓛 (back u))) $ done !);
    same = ap (λ (k : Item 𝓤). k ⊛ j) p.same;
  }
    where
      Back : Val → SProp 𝓤
      Back u = wand 𝓤 (H.at q τ b o u) (mean 𝓛 (back u))

  pub on_right : Part Go 𝓛 j q τ b o v back → Part Go 𝓛 (i ⊛ j) q τ b o v (λ u. i ⊛ back u)
  on_right p = record {
    out = qed 𝓛 (i ∷ j ∷ []) ∵ move ! (1 ∷ []) $ use1 𝓛 (‵ (fat q τ b o v) ⊛ raw (logic.all 𝓤 Back)) p.out $ split ! $ frame ! $
        each ! (λ (u : Val). wand 𝓤 (H.at q τ b o u) (mean 𝓛 (i ⊛ back u)))
        (λ u. assume {P = mean 𝓛 (i ⊛ back u)} ! (‵ (fat q τ b o u)) $
        move ! (1 ∷ []) $ use1 𝓛 (raw (Back u)) (all_e 𝓤 Back u) $ move ! (1 ∷ 0 ∷ []) $
        use2 𝓛 (back u) (apply∗ 𝓤 (H.at q τ b o u) (mean 𝓛 (back u))) $ move ! (1 ∷ 0 ∷ []) $ done !);
    same = ap (λ (k : Item 𝓤). i ⊛ k) p.same;
  }
    where
      Back : Val → SProp 𝓤
      Back u = wand 𝓤 (H.at q τ b o u) (mean 𝓛 (back u))

-- that each cell within an entry can be read
abbrev pub Readable : {M : Type 1} {𝓤 : Ura M} → (𝓛 : Logic 𝓤) → List (Item 𝓤) → Item 𝓤 → Type 2
Readable {𝓤 = 𝓤} 𝓛 Γ i = (q : Share) (τ : Ty) (b o : ℕ) (v : Val) (back : Val → Item 𝓤) → Part Go 𝓛 i q τ b o v back → Reads Go 𝓛 Γ τ b o v

-- a place whose local stands at a spot
pub local_at : {M : Type 1} {𝓤 : Ura M} {𝓛 : Logic 𝓤} {Γ : List (Item 𝓤)} {E : Env 𝓤 𝓛.H}
    {i : ℕ} {st : List PStep} {sp sp' : Spot 𝓤 𝓛.H}
    → spot_of 𝓤 𝓛.H E i ≡ sp → Walks Go 𝓛 Γ E sp st sp' → Finds Go 𝓛 Γ E (place i st) sp'
local_at {𝓤 = 𝓤} {𝓛 = 𝓛} {Γ = Γ} {E = E} {st = st} e w =
    record { go = λ Kt h. subst (λ (s : Spot 𝓤 𝓛.H). ent 𝓤 (⋆ 𝓛 Γ) (walk 𝓤 𝓛.H E s st Kt)) (sym e) (w.go Kt h) }

module _ {m : ℕ} where
  -- ---- the parameters of the function by value, and of the lent one, which names the lifetimes otherwise
  abbrev pub values : List (Argument m) → List (Slot m)
  values [] = []
  values (N ∷ Ns) = plain N.row ∷ values Ns

  abbrev pub renamed : Argument m → Lfts (suc m) → RattleType
  renamed N κs = record {
    Denot = (N.row κs.1).Denot;
    mir = N.mir ∷ [];
    written = N.written;
    reaches = N.reaches;
    lives = (N.row κs.1).lives;
    own_val = (N.row κs.1).own_val;
    exit = (N.row κs.1).exit;
    coded = (N.row κs.1).coded;
    shr_at = (N.row κs.1).shr_at;
  }

  abbrev pub lents : List (Argument m) → List (Slot (suc m))
  lents [] = []
  lents (N ∷ Ns) = plain (renamed N) ∷ lents Ns

  -- the arguments' values
  abbrev pub Values : (Ns : List (Argument m)) → Lfts (suc m) → Type 0
  Values Ns κs = Denots (types_at (lents Ns) κs)

  -- what is handed on
  abbrev pub handed : (Ns : List (Argument m)) (κs : Lfts (suc m)) → Values Ns κs → Denots (types_at (values Ns) κs.1)
  handed [] κs a = tt
  handed (N ∷ Ns) κs a = (a.0, handed Ns κs a.1)

  -- ---- their machine values
  abbrev pub spells : (Ns : List (Argument m)) (κs : Lfts m) → Spells (types_at (values Ns) κs)
  spells [] κs = tt
  spells (N ∷ Ns) κs = ((λ y. N.val κs y ∷ []), spells Ns κs)

  abbrev pub lent_spells : (Ns : List (Argument m)) (κs : Lfts (suc m)) → Spells (types_at (lents Ns) κs)
  lent_spells [] κs = tt
  lent_spells (N ∷ Ns) κs = ((λ y. N.val κs.1 y ∷ []), lent_spells Ns κs)

  pub lent_tells : (Ns : List (Argument m)) (κs : Lfts (suc m))
      → Tellss (types_at (lents Ns) κs) (Ises (types_at (lents Ns) κs)) (lent_spells Ns κs)
  lent_tells [] κs = tt
  lent_tells (N ∷ Ns) κs = (N.tells κs.1, lent_tells Ns κs)

  abbrev pub lent_vals : (Ns : List (Argument m)) (κs : Lfts (suc m)) (a : Values Ns κs) → Valss (types_at (lents Ns) κs)
  lent_vals Ns κs a = valss (types_at (lents Ns) κs) (lent_spells Ns κs) a

  abbrev pub handed-vals : (Ns : List (Argument m)) (κs : Lfts (suc m)) (a : Values Ns κs) → Valss (types_at (values Ns) κs.1)
  handed-vals Ns κs a = valss (types_at (values Ns) κs.1) (spells Ns κs.1) (handed Ns κs a)

  handed-same : (Ns : List (Argument m)) (κs : Lfts (suc m)) (a : Values Ns κs)
      → flat (types_at (values Ns) κs.1) (handed-vals Ns κs a) ≡ flat (types_at (lents Ns) κs) (lent_vals Ns κs a)
  handed-same [] κs a = refl
  handed-same (N ∷ Ns) κs a = ap (λ (vs : List Val). N.val κs.1 a.0 ∷ vs) (handed-same Ns κs a.1)

  -- ---- at exit is had what the function by value says of them
  abbrev pub Lasts : (Ns : List (Argument m)) (κs : Lfts m) → Denots (types_at (values Ns) κs) → Type 0
  Lasts Ns κs = Fins κs (values Ns) (all yes (values Ns))

  abbrev pub told : (Ns : List (Argument m)) → Stays (lents Ns) (all yes (lents Ns))
  told [] = tt
  told (N ∷ Ns) = (record { fit = λ κs x f. Unit {0}; has = λ κs x f vs. left ((N.row κs.1).exit yes) x f }, told Ns)

  abbrev pub lasts : (Ns : List (Argument m)) (κs : Lfts (suc m)) (a : Values Ns κs) → Lasts Ns κs.1 (handed Ns κs a)
      → Fins κs (lents Ns) (all yes (lents Ns)) a
  lasts [] κs a ws = tt
  lasts (N ∷ Ns) κs a ws = (ws.0, lasts Ns κs a.1 ws.1)

  pub lasts_fit : (Ns : List (Argument m)) (κs : Lfts (suc m)) (a : Values Ns κs) (ws : Lasts Ns κs.1 (handed Ns κs a))
      → fits_of κs (lents Ns) (all yes (lents Ns)) (told Ns) a (lasts Ns κs a ws)
  lasts_fit [] κs a ws = tt
  lasts_fit (N ∷ Ns) κs a ws = (tt, lasts_fit Ns κs a.1 ws.1)

  -- the arguments as they are seen at exit
  abbrev pub Seens : (Ns : List (Argument m)) → Lfts m → Type 0
  Seens Ns κs = Outs κs (values Ns) (all yes (values Ns))

  abbrev pub sees : (Ns : List (Argument m)) (κs : Lfts m) (b : Denots (types_at (values Ns) κs)) → Lasts Ns κs b → Seens Ns κs
  sees Ns κs = outs κs (values Ns) (all yes (values Ns))

  abbrev pub seens : (Ns : List (Argument m)) (κs : Lfts (suc m)) → Outs κs (lents Ns) (all yes (lents Ns)) → Seens Ns κs.1
  seens [] κs e = tt
  seens (N ∷ Ns) κs e = (e.0, seens Ns κs e.1)

  pub same-seens : (Ns : List (Argument m)) (κs : Lfts (suc m)) (a : Values Ns κs) (ws : Lasts Ns κs.1 (handed Ns κs a))
      → sees Ns κs.1 (handed Ns κs a) ws ≡ seens Ns κs (outs κs (lents Ns) (all yes (lents Ns)) a (lasts Ns κs a ws))
  same-seens [] κs a ws = refl
  same-seens (N ∷ Ns) κs a ws = λ i. (see ((N.row κs.1).exit yes) a.0 ws.0, same-seens Ns κs a.1 ws.1 i)

  -- ---- their locals
  abbrev pub locals : List (Argument m) → List Local
  locals [] = []
  locals (N ∷ Ns) = local N.mir value_local ∷ locals Ns

  -- the place of the local j after them
  abbrev pub past : List (Argument m) → ℕ → ℕ
  past [] j = j
  past (N ∷ Ns) j = suc (past Ns j)

  -- the operands of the call, where f numbers the arguments' locals
  abbrev pub copies : (ℕ → ℕ) → List (Argument m) → List Opd
  copies f [] = []
  copies f (N ∷ Ns) = copy (place (f zero) []) ∷ copies (λ j. f (suc j)) Ns

  abbrev pub Blocks : List (Argument m) → Type 0
  Blocks [] = Unit {0}
  Blocks (N ∷ Ns) = ℕ × Blocks Ns

  abbrev pub frame_of : (Ns : List (Argument m)) → Blocks Ns → List (Ty × ℕ)
  frame_of [] bs = []
  frame_of (N ∷ Ns) bs = (N.mir, bs.0) ∷ frame_of Ns bs.1

module _ {m : ℕ} {M : Type 1} {𝓤 : Ura M} (𝓛 : Logic 𝓤) where
  open 𝓛 use {H}

  pub own_handed : (Ns : List (Argument m)) (κs : Lfts (suc m)) (a : Values Ns κs)
      → ent 𝓤 (sem 𝓛 (owns (types_at (lents Ns) κs) a (lent_vals Ns κs a)))
      (sem 𝓛 (owns (types_at (values Ns) κs.1) (handed Ns κs a) (handed-vals Ns κs a)))
  own_handed [] κs a = id⊢ 𝓤 (emp 𝓤)
  own_handed (N ∷ Ns) κs a = mono_r 𝓤 (sem 𝓛 ((N.row κs.1).own_val a.0 (N.val κs.1 a.0 ∷ []))) (own_handed Ns κs a.1)

  pub had_lasts : (Ns : List (Argument m)) (κs : Lfts (suc m)) (a : Values Ns κs) (ws : Lasts Ns κs.1 (handed Ns κs a))
      (vss : Valss (types_at (lents Ns) κs))
      → ent 𝓤 (sem 𝓛 (lasts_of κs.1 (values Ns) (all yes (values Ns)) (handed Ns κs a) ws))
      (sem 𝓛 (has_of κs (lents Ns) (all yes (lents Ns)) (told Ns) a (lasts Ns κs a ws) vss))
  had_lasts [] κs a ws vss = id⊢ 𝓤 (emp 𝓤)
  had_lasts (N ∷ Ns) κs a ws vss =
      mono_r 𝓤 (sem 𝓛 (left ((N.row κs.1).exit yes) a.0 ws.0)) (had_lasts Ns κs a.1 ws.1 vss.1)

  pub all_go : (Ns : List (Argument m)) → AllGo 𝓛 (suc m) (lents Ns) (all yes (lents Ns)) (told Ns)
  all_go [] = tt
  all_go (N ∷ Ns) = ((λ κs x f vs fits. 𝓛.laws.⇛_intro _), all_go Ns)

  -- ---- the entry of the context that has their locals: as room, and filled
  abbrev pub rooms : (Ns : List (Argument m)) → Blocks Ns → Item 𝓤
  rooms [] bs = ‵ ftrue
  rooms (N ∷ Ns) bs = ‵ (froom N.mir bs.0 zero) ⊛ ‵ (fdies N.mir bs.0) ⊛ rooms Ns bs.1

  abbrev pub cells : (Ns : List (Argument m)) → Blocks Ns → (κs : Lfts (suc m)) → Values Ns κs → Item 𝓤
  cells [] bs κs a = ‵ ftrue
  cells (N ∷ Ns) bs κs a =
      ‵ (fat full_share N.mir bs.0 zero (N.val κs.1 a.0)) ⊛ ‵ (fdies N.mir bs.0) ⊛ cells Ns bs.1 κs a.1

  pub allocated : (Ns : List (Argument m)) {ls : List Local} {Kt : Env 𝓤 H → Goal 𝓤 H} {Γ : List (Item 𝓤)}
      → ((bs : Blocks Ns) → Sq 𝓛 (rooms Ns bs ∷ Γ) (allocs ls (λ E. Kt (frame_of Ns bs ++ E)))) → Sq 𝓛 Γ (allocs (locals Ns ++ ls) Kt)
  allocated [] k = nothing ! $ k tt
  allocated (N ∷ Ns) k = alloc1 ! (λ b. allocated Ns (λ bs. move ! (1 ∷ 2 ∷ 0 ∷ []) $ group ! 3 $ k (b, bs)))

  pub passed : (Ns : List (Argument m)) (bs : Blocks Ns) (κs : Lfts (suc m)) (a : Values Ns κs)
      → Are (types_at (lents Ns) κs) (Ises (types_at (lents Ns) κs)) a (lent_vals Ns κs a) → {E : Env 𝓤 H} {g : Goal 𝓤 H} {Γ : List (Item 𝓤)}
      → Sq 𝓛 (cells Ns bs κs a ∷ Γ) (passes E [] g)
      → Sq 𝓛 (rooms Ns bs ∷ Γ) (passes (frame_of Ns bs ++ E) (flat (types_at (lents Ns) κs) (lent_vals Ns κs a)) g)
  passed [] bs κs a are s = s
  passed (N ∷ Ns) bs κs a are s =
      split3 ! $ pass1 ! (init ! 0 refl (N.typed 𝓛 κs.1 a.0 are.0)) $ move ! (2 ∷ []) $
      passed Ns bs.1 κs a.1 are.1 (move ! (1 ∷ 2 ∷ 0 ∷ []) $ group ! 3 $ s)

  pub freed : (Ns : List (Argument m)) (bs : Blocks Ns) (κs : Lfts (suc m)) (a : Values Ns κs)
      {E : Env 𝓤 H} {g : Goal 𝓤 H} {Γ : List (Item 𝓤)}
      → Sq 𝓛 Γ (frees E g) → Sq 𝓛 (cells Ns bs κs a ∷ Γ) (frees (frame_of Ns bs ++ E) g)
  freed [] bs κs a s = drop ! $ s
  freed (N ∷ Ns) bs κs a s = split3 ! $ forget ! 0 refl $ free1 ! $ freed Ns bs.1 κs a.1 s

  -- ---- the operands of the call are read out of that entry
  module _ {Γ : List (Item 𝓤)} {E : Env 𝓤 H} where
    pub operands : (Ns : List (Argument m)) (bs : Blocks Ns) (κs : Lfts (suc m)) (a : Values Ns κs) (F : Env 𝓤 H) (f : ℕ → ℕ)
        → ((j : ℕ) → spot_of 𝓤 H E (f j) ≡ spot_of 𝓤 H (frame_of Ns bs ++ F) j)
        → Readable 𝓛 Γ (cells Ns bs κs a)
        → Opds Go 𝓛 Γ E (copies f Ns) (flat (types_at (values Ns) κs.1) (handed-vals Ns κs a))
    operands [] bs κs a F f at reads = no_more !
    operands (N ∷ Ns) bs κs a F f at reads =
        and_then ! (load ! (local_at (at zero) (stop !)) (reads _ _ _ _ _ _ (on_left (whole !))))
        (operands Ns bs.1 κs a.1 F (λ j. f (suc j)) (λ j. at (suc j)) (λ q τ b o v back p. reads q τ b o v _ (on_right (on_right p))))

    -- the same where a lent function is called
    pub lent_operands : (Ns : List (Argument m)) (bs : Blocks Ns) (κs : Lfts (suc m)) (a : Values Ns κs) (F : Env 𝓤 H) (f : ℕ → ℕ)
        → ((j : ℕ) → spot_of 𝓤 H E (f j) ≡ spot_of 𝓤 H (frame_of Ns bs ++ F) j)
        → Readable 𝓛 Γ (cells Ns bs κs a)
        → Opds Go 𝓛 Γ E (copies f Ns) (flat (types_at (lents Ns) κs) (lent_vals Ns κs a))
    lent_operands Ns bs κs a F f at reads =
        subst (λ (vs : List Val). Opds Go 𝓛 Γ E (copies f Ns) vs) (handed-same Ns κs a) (operands Ns bs κs a F f at reads)

  pub spot_past : (Ns : List (Argument m)) (bs : Blocks Ns) (F : Env 𝓤 H) (j : ℕ)
      → spot_of 𝓤 H (frame_of Ns bs ++ F) (past Ns j) ≡ spot_of 𝓤 H F j
  spot_past [] bs F j = refl
  spot_past (N ∷ Ns) bs F j = spot_past Ns bs.1 F j
