-- One law for every lent record that is passed on: a function of the shape
--     let reply = LENT(s, x ..); ANSWER(reply)
-- promises what the two promises come to, that of a function which is lent the same record and that of a function by value of its reply.
-- The first call is given all that the function has, and its last value of the record is the function's own. Assumes nothing.
use mathlib.Core.Path.{◌≡◌, refl}
use mathlib.Core.List.{List, [], ◌∷◌, ◌++◌}
use Prim.Native.Nat.{ℕ, suc}
use seplogic.Ra.Ura.{Ura}
use mir.Syntax.{Callee, Fn, local, value_local, Body, named, erased, mut, ty_ref, place, deref, copy, assign, addr_of, call, seq, return}
use mir.Val.{Val, vptr}
use base.Logic.{SProp, ent, sep, ex, emp, via, fst∗, id⊢}
use base.Fml.{GName, Fml}
use prog.Wp.{Env, Calls, Loops, WpFn, Closed}
use prog.Model.{Model}
use prog.Routine.{Routine, Env as Routines}
use types.Logic.{Logic, sem}
use contract.Monad.{fact}
use contract.Lifetimes.{Lfts, Shares, toks}
use contract.Running.{Running, tables, tables_of}
use types.Kit.{‵, raw, ◌⊛◌, some, later, ◌$◌, ◌∵◌, !, qed, by, move, drop, use1, split, join, fjoin, pick, updating, now, show}
use types.Kit.{frame, await, done}
use types.Run.{look, init, forget, stop, hop, from, load, addr, and_then, no_more, assigns, land, returns, enter, alloc1, alloc0}
use types.Run.{params1, pass1, pass0, free1, free0}
use types.Part.{look_in}
use sound.WpLaws.{FmC, fm_of}
use denote.RattleType.{Denots, Valss, flat}
use denote.Laws.{Is, Are, Ises, shows}
use denote.Memory.{pointee}
use denote.Ref.{MutBor, mut_vals, mut_Tells}
use denote.Signature.{plain, types_at}
use denote.Steps.{said, peeks, heard, nothing}
use denote.Exit.{yes}
use denote.Triple.Entry.{on_entry}
use denote.Triple.Spec.{Meets, triple_of}
use denote.Triple.Statement.{Contract, Triple}
use denote.Triple.Call.{calls_at}
use denote.Triple.Table.{entered, cited}
use denote.Triple.Clauses.{Ended, Lasts, at_exit, lasts, Clauses, closing}
use denote.Triple.Walked.{says}
use Rattle.lent.proofs.Data.{Record, the_row, the_mir, Answer, Argument}
use Rattle.lent.proofs.Arguments.{values, lents, Values, handed, Seens, seens, lent_spells, lent_tells, lent_vals, locals, past, copies}
use Rattle.lent.proofs.Arguments.{allocated, passed, freed, lent_operands, local_at, spot_past}
use Rattle.lent.proofs.Contract.{Promise, Lent, in_place}

-- a lent function with its promise, a function of its reply with its own, and what the two come to
pub record Passing (m : ℕ) : Type 2 where
  pub lent : Record
  pub arguments : List (Argument m)
  pub reply : Answer
  pub answer : Answer
  pub replies : Promise lent reply arguments
  pub answers : reply.row.Denot → answer.row.Denot → Type 0
  pub promise : Promise lent answer arguments
  pub together : (κs : Lfts m) (a : Denots (types_at (values arguments) κs)) (e : Seens arguments κs) (before : lent.type.D)
      (r : reply.row.Denot) (after : lent.type.D) (y : answer.row.Denot)
      → replies κs a e before r after → answers r y → promise κs a e before y after

-- ---- the two functions that are called, and the one that calls them: signatures, contracts and code
module _ {m : ℕ} (P : Passing m) where
  abbrev S : Record
  S = P.lent

  abbrev Ns : List (Argument m)
  Ns = P.arguments

  abbrev First : Ended
  First = Lent S P.reply Ns

  abbrev Second : Ended
  Second = record {
    signature = record { lifetimes = 0; outlives = []; params = plain (λ κs. P.reply.row) ∷ []; result = plain (λ κs. P.answer.row) };
    kept = (yes, tt);
  }

  abbrev Whole : Ended
  Whole = Lent S P.answer Ns

  -- the places of the reply and of the reference passed on, which stand after the arguments
  abbrev replied : ℕ
  replied = suc (suc (past Ns 0))

  abbrev passed_on : ℕ
  passed_on = suc (suc (past Ns 1))

  abbrev statements : Callee → Callee → Body
  statements f g =
      seq (assign (place passed_on []) (addr_of (place 1 (deref (the_mir S) ∷ []))))
      (seq (call f (copy (place passed_on []) ∷ copies (λ j. suc (suc j)) Ns) (place replied []))
      (seq (call g (copy (place replied []) ∷ []) (place 0 [])) return))

  abbrev function : Callee → Callee → Fn
  function f g = record {
    lifetimes = suc m;
    outlives = [];
    ty_params = [];
    givens = 0;
    params = suc (past Ns 0);
    locals =
        local P.answer.mir value_local ∷ local (ty_ref (named 0) mut (pointee (the_row S).written)) value_local
        ∷ (locals Ns ++ (local P.reply.mir value_local ∷ local (ty_ref erased mut (pointee (the_row S).written)) value_local ∷ []));
    body = statements f g;
  }

  module _ {M : Type 1} (𝓤 : Ura M) where
    abbrev first : Clauses 𝓤 First
    first = in_place S P.reply Ns P.replies 𝓤

    abbrev second : Clauses 𝓤 Second
    second κs a = record { ghost = Unit {0}; requires = λ _. emp 𝓤; ensures = λ _ y end. fact 𝓤 (P.answers a.0 y) }

    abbrev whole : Clauses 𝓤 Whole
    whole = in_place S P.answer Ns P.promise 𝓤

module _ {M : Type 1} {𝓤 : Ura M} (𝓛 : Logic 𝓤) {m : ℕ} (P : Passing m) where
  -- the contracts that the proof cites, and its own
  abbrev F : Contract 𝓤
  F = triple_of 𝓛 (First P).signature (closing 𝓛 (First P) (first P 𝓤))

  abbrev G : Contract 𝓤
  G = triple_of 𝓛 (Second P).signature (closing 𝓛 (Second P) (second P 𝓤))

  abbrev T : Contract 𝓤
  T = triple_of 𝓛 (Whole P).signature (closing 𝓛 (Whole P) (whole P 𝓤))

-- ---- the walk, at the reference to h that lies at (b, o) and at the arguments a
module _ {M : Type 1} {𝓤 : Ura M} (𝓛 : Logic 𝓤) {m : ℕ} (P : Passing m)
    (κs : Lfts (suc m)) (qs : Shares (suc m)) (b o : ℕ) (γ : GName) (h : (S P).type.D) (a : Values (Ns P) κs) where
  open 𝓛 use {H}

  abbrev x : MutBor (S P).type.D × Values (Ns P) κs
  x = (record { ref_ptr = (b, o); ghost_name = γ; now = h }, a)

  abbrev at : List Val × Valss (types_at (lents (Ns P)) κs)
  at = (vptr b o ∷ [], lent_vals (Ns P) κs a)

  abbrev all_vals : List Val
  all_vals = vptr b o ∷ flat (types_at (lents (Ns P)) κs) (lent_vals (Ns P) κs a)

  -- what the function has, and what the first call takes of it: all
  abbrev Entry : SProp 𝓤
  Entry = on_entry 𝓛 (Whole P).signature κs qs x at

  abbrev to_f : (F 𝓛 P).Ghost
  to_f = ((κs, qs, tt, x, at), tt)

  goes_f : ent 𝓤 Entry ((F 𝓛 P).pre to_f)
  goes_f = qed 𝓛 (raw Entry ∷ []) ∵ frame ! $ nothing ! $ done !

  -- what it gives back: the tokens, and what the record and the arguments hold at last
  abbrev Tokens : SProp 𝓤
  Tokens = toks 𝓛 (suc m) κs qs

  abbrev Last-ones : Type 0
  Last-ones = Lasts (Whole P) κs x

  abbrev Leaves : Last-ones → Fml
  Leaves = lasts (Whole P) κs x

  abbrev Replies : P.reply.row.Denot → Last-ones → Type 0
  Replies r ws = P.replies κs.1 (handed (Ns P) κs a) (seens (Ns P) κs (at_exit (Whole P) κs x ws).1) h r ws.0

  abbrev Promises : P.answer.row.Denot → Last-ones → Type 0
  Promises y ws = P.promise κs.1 (handed (Ns P) κs a) (seens (Ns P) κs (at_exit (Whole P) κs x ws).1) h y ws.0

  abbrev Reply : P.reply.row.Denot → Val → Fml
  Reply r v = P.reply.row.own_val r (v ∷ [])

  abbrev Answers : P.answer.row.Denot → Val → Fml
  Answers y v = P.answer.row.own_val y (v ∷ [])

  -- the second call takes the reply
  abbrev to_g : P.reply.row.Denot → Val → (G 𝓛 P).Ghost
  to_g r v = ((tt, tt, tt, (r, tt), (v ∷ [], tt)), tt)

  goes_g : (r : P.reply.row.Denot) (v : Val) → ent 𝓤 (sem 𝓛 (Reply r v)) ((G 𝓛 P).pre (to_g r v))
  goes_g r v = qed 𝓛 (‵ (Reply r v) ∷ []) ∵ nothing ! $ move ! (1 ∷ 0 ∷ []) $ fjoin ! $ nothing ! $ join ! $ frame ! $ nothing ! $ done !

  exits : (y : P.answer.row.Denot) (v : Val) (ws : Last-ones) → Promises y ws
      → ent 𝓤 (sep 𝓤 (sem 𝓛 (Answers y v)) (sep 𝓤 Tokens (sem 𝓛 (Leaves ws)))) ((T 𝓛 P).post to_f v)
  exits y v ws known =
      qed 𝓛 (‵ (Answers y v) ∷ raw Tokens ∷ ‵ (Leaves ws) ∷ []) ∵ updating ! $ now ! $
      show ! (λ (y' : P.answer.row.Denot). sep 𝓤 (sep 𝓤 Tokens (sem 𝓛 (Answers y' v))) (ex 𝓤 (Said y'))) y $
      move ! (1 ∷ 0 ∷ []) $ join ! $ frame ! $ show ! (Said y) ws $ says ! known $ done !
    where
      Said : P.answer.row.Denot → Last-ones → SProp 𝓤
      Said y' ws' = sep 𝓤 (sem 𝓛 (Leaves ws')) (fact 𝓤 (Promises y' ws'))

  module _ (C : Calls 𝓤 H) (Λ : Loops 𝓤 H) (fm : FmC 𝓤 H 𝓛.laws C) (f g : Callee)
      (met-f : Triple 𝓤 (C f) (F 𝓛 P)) (met-g : Triple 𝓤 (C g) (G 𝓛 P))
      (are : Are (types_at (lents (Ns P)) κs) (Ises (types_at (lents (Ns P)) κs)) a (lent_vals (Ns P) κs a)) where
    walk : ent 𝓤 Entry (WpFn 𝓤 H C Λ (function P f g) all_vals ((T 𝓛 P).post to_f))
    walk =
        qed 𝓛 (raw Entry ∷ []) ∵
        enter ! C Λ (function P f g) all_vals _ $ alloc1 ! (λ l₀. alloc1 ! (λ l₁. allocated 𝓛 (Ns P) (λ bs. alloc1 ! (λ l₂. alloc1 ! (λ l₃.
        alloc0 ! $ params1 ! $ pass1 ! (init ! 5 refl (tt, tt)) $ move ! (4 ∷ []) $ passed 𝓛 (Ns P) bs κs a are (pass0 ! $
        let after : Env 𝓤 H = (P.reply.mir, l₂) ∷ (ty_ref erased mut (pointee (the_row (S P)).written), l₃) ∷ [] in
        let past-them : (j : ℕ) → _ = spot_past 𝓛 (Ns P) bs after in
        -- [the arguments; room for the reference passed on; …; for the reply; …; the reference; …; room for the answer; …; the entry]
        assigns ! (addr ! (from ! (hop ! (look ! 5 refl) (stop !)))) (local_at (past-them 1) (stop !)) (init ! 1 refl (tt, tt)) $
        move ! (9 ∷ []) $ use1 𝓛 (raw ((F 𝓛 P).pre to_f)) goes_f $
        calls_at ! fm (F 𝓛 P) met-f to_f
        (and_then ! (load ! (local_at (past-them 1) (stop !)) (look ! 2 refl))
        (lent_operands 𝓛 (Ns P) bs κs a after (λ j. suc (suc j)) (λ j. refl) (λ q τ c d v back p. look_in ! 1 p))) (λ v.
        use1 𝓛 (later (some (λ (r : P.reply.row.Denot). (raw Tokens ⊛ ‵ (Reply r v))
        ⊛ some (λ (ws : Last-ones). ‵ (Leaves ws) ⊛ raw (fact 𝓤 (Replies r ws)))))) (id⊢ 𝓤 _) $
        await ! tt $ pick ! (λ r. split ! $ move ! (1 ∷ []) $ pick ! (λ ws. split ! $ move ! (1 ∷ []) $
        heard ! (Replies r ws) (λ replied. move ! (1 ∷ []) $ split ! $ move ! (1 ∷ []) $
        peeks ! P.reply.row (Is P.reply.row) (shows 𝓛 P.reply.row) r (v ∷ []) (λ is.
        -- [what the reply owns; the tokens; what is left; the arguments; the reference passed on; …; room for the reply; …; the reference; …;
        -- room for the answer; …]
        land ! (local_at (past-them 0) (stop !)) (init ! 6 refl (P.reply.typed 𝓛 r v is)) $
        use1 𝓛 (raw ((G 𝓛 P).pre (to_g r v))) (goes_g r v) $
        calls_at ! fm (G 𝓛 P) met-g (to_g r v) (and_then ! (load ! (local_at (past-them 0) (stop !)) (look ! 6 refl)) (no_more !)) (λ u.
        use1 𝓛 (later (some (λ (y : P.answer.row.Denot). (raw (emp 𝓤) ⊛ ‵ (Answers y u))
        ⊛ some (λ (end : Lasts (Second P) tt (r, tt)). ‵ (lasts (Second P) tt (r, tt) end) ⊛ raw (fact 𝓤 (P.answers r y)))))) (id⊢ 𝓤 _) $
        await ! tt $ pick ! (λ y. split ! $ move ! (1 ∷ []) $ pick ! (λ end. split ! $ drop ! $
        heard ! (P.answers r y) (λ answered. split ! $ drop ! $
        peeks ! P.answer.row (Is P.answer.row) (shows 𝓛 P.answer.row) y (u ∷ []) (λ is_y.
        land ! (from ! (stop !)) (init ! 10 refl (P.answer.typed 𝓛 y u is_y)) $
        returns ! (look ! 10 refl) $ forget ! 4 refl $ forget ! 6 refl $ forget ! 8 refl $ forget ! 10 refl $
        move ! (10 ∷ 11 ∷ []) $ free1 ! $ move ! (8 ∷ 9 ∷ []) $ free1 ! $ move ! (3 ∷ []) $
        freed 𝓛 (Ns P) bs κs a (move ! (5 ∷ 6 ∷ []) $ free1 ! $ move ! (3 ∷ 4 ∷ []) $ free1 ! $ free0 ! $
        by ! (exits y u ws (P.together κs.1 (handed (Ns P) κs a) _ h r ws.0 y replied answered)))))))))))))))))))

module _ {M : Type 1} {𝓤 : Ura M} (𝓛 : Logic 𝓤) {m : ℕ} (P : Passing m) (f g : Callee) where
  open 𝓛 use {H}

  meets : (C : Calls 𝓤 H) (Λ : Loops 𝓤 H) → FmC 𝓤 H 𝓛.laws C → Triple 𝓤 (C f) (F 𝓛 P) → Triple 𝓤 (C g) (G 𝓛 P)
      → Triple 𝓤 (WpFn 𝓤 H C Λ (function P f g)) (T 𝓛 P)
  meets C Λ fm met-f met-g y =
      let κs : Lfts (suc m) = y.0.0 in
      let s : MutBor (S P).type.D = y.0.3.0 in
      via 𝓤 _ (fst∗ 𝓤 _ (emp 𝓤))
      (said 𝓛 (Whole P).signature κs y.0.1 (mut_vals, lent_spells (Ns P) κs)
      (mut_Tells (named 0) κs.0 (the_row (S P)), lent_tells (Ns P) κs) y.0.3
      (λ us. WpFn 𝓤 H C Λ (function P f g) (flat (types_at (Whole P).signature.params κs) us) ((T 𝓛 P).post y)) y.0.4
      (λ are. walk 𝓛 P κs y.0.1 s.ref_ptr.0 s.ref_ptr.1 s.ghost_name s.now y.0.3.1 C Λ fm f g met-f met-g are.1))

-- the law as a function's proof cites it: k is the function's key, and f and g are those of the two that it calls, in k's environment
module _ {M : Type 1} {𝓤 : Ura M} (𝓛 : Logic 𝓤) (𝓜 : Model 𝓤 𝓛.H) (𝓡 : Running 𝓤 𝓛.H 𝓜) {m : ℕ} (P : Passing m) where
  open 𝓛 use {H}

  pub passing_proved : (env : Routines) (k f g : Callee) (lent by_value : Routine)
      → Closed 𝓤 H (tables 𝓤 H 𝓜 𝓡 env).C (tables 𝓤 H 𝓜 𝓡 env).Λ k (function P f g)
      → env f ≡ lent
      → Meets 𝓛 (First P).signature (𝓡.run lent) (closing 𝓛 (First P) (first P 𝓤))
      → env g ≡ by_value
      → Meets 𝓛 (Second P).signature (𝓡.run by_value) (closing 𝓛 (Second P) (second P 𝓤))
      → Meets 𝓛 (Whole P).signature (𝓡.run (env k)) (closing 𝓛 (Whole P) (whole P 𝓤))
  unfolding tables_of
  passing_proved env k f g lent by_value unfolded calls-f met-f calls-g met-g =
      entered 𝓤 H (T 𝓛 P) (tables 𝓤 H 𝓜 𝓡 env).C (tables 𝓤 H 𝓜 𝓡 env).Λ k (function P f g) unfolded
      (meets 𝓛 P f g (tables 𝓤 H 𝓜 𝓡 env).C (tables 𝓤 H 𝓜 𝓡 env).Λ
      (fm_of 𝓤 H 𝓛.laws (tables_of 𝓤 H 𝓜 (tables 𝓤 H 𝓜 𝓡 env)))
      (cited 𝓤 H (F 𝓛 P) 𝓜 𝓡 env f lent calls-f met-f) (cited 𝓤 H (G 𝓛 P) 𝓜 𝓡 env g by_value calls-g met-g))
