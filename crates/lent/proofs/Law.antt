-- One law for every lent event: a function of the shape
--     let before = *s; let event = EVENT(before, x ..); *s = event.after; event.answer
-- over a function by value that promises something of what it is passed, of what that holds at exit, of the answer and of the record
-- after the event promises the same of the record that it leaves behind the reference.
-- The walk is by hand: the borrow is opened, the record copied out and passed on, the event's record copied out and stored over it, the
-- borrow closed.
-- Assumes nothing.
use mathlib.Core.Path.{◌≡◌, refl, subst, ap}
use mathlib.Core.List.{List, [], ◌∷◌, ◌++◌}
use Prim.Native.Nat.{ℕ, suc}
use seplogic.Ra.Ura.{Ura}
use base.Fraction.{full_share}
use mir.Syntax.{Callee, Fn, Local, local, value_local, Body, named, mut, ty_ref, place, deref, field, copy, assign, rv_opd, call, seq, return}
use mir.Val.{Val, vptr}
use base.Logic.{SProp, ent, sep, emp, via, fst∗, id⊢}
use base.Fml.{GName, Fml, fsep, fat, flft, fobs, fbor}
use prog.Wp.{Env, Calls, Loops, WpFn, Tables, Closed}
use prog.Model.{Model}
use prog.Routine.{Routine, Env as Routines}
use types.Logic.{Logic, sem}
use contract.Monad.{fact}
use contract.Lifetimes.{Lfts, Shares, toks}
use contract.Running.{Running, tables, tables_of}
use types.Kit.{‵, raw, ◌⊛◌, some, later, ◌$◌, ◌∵◌, !, qed, by, move, drop, use1, use3, split, join, pick, rewrite, fsplit, fsplit3}
use types.Kit.{fjoin, fjoin3, feq_i, suffices, frame, await, done}
use types.Run.{look, look_raw, init, store_raw, forget, stop, hop, fld, from, load, of_opd, and_then, assigns, land, returns, enter, alloc1, alloc0, params1, pass1, pass0, free1, free0}
use types.Part.{whole, sub, look_in}
use types.SemTy.{Body as Lies}
use sound.WpLaws.{FmC, fm_of, WpFn-mono}
use denote.RattleType.{Valss, flat, owns}
use denote.Laws.{Is, Are, Ises, shows}
use denote.Memory.{mem, pointee}
use denote.Ref.{MutBor, MutRef, mut_vals, mut_Tells}
use denote.Signature.{plain, types_at}
use denote.Steps.{only, opens, closes, owned, peeks, heard, nothing}
use denote.Struct.Steps.{spelt}
use denote.Struct.Laws as LL
use denote.Exit.{yes, Last, left}
use denote.Triple.End.{lasts_of, all}
use denote.Triple.Entry.{on_entry}
use denote.Triple.Spec.{Meets, triple_of}
use denote.Triple.Statement.{Contract, Triple}
use denote.Triple.Call.{calls_at}
use denote.Triple.Table.{entered, cited}
use denote.Triple.Clauses.{Ended, Clauses, closing}
use denote.Triple.Walked.{says, Stays, stay_ref, walk_of, has_of, Goes-ref, Walks, ends_at, walked, walk_Meets}
use Rattle.lent.proofs.Data.{Record, the_row, the_mir, the_val, Answer, Event, pair_mir, Argument}
use Rattle.lent.proofs.Arguments.{values, lents, Values, handed, Lasts, Seens, sees, same-seens, told, lasts, lasts_fit, had_lasts}
use Rattle.lent.proofs.Arguments.{all_go, lent_spells, lent_tells, lent_vals, handed-vals, own_handed, locals, past}
use Rattle.lent.proofs.Arguments.{allocated, passed, freed, copies, operands, local_at, spot_past}
use Rattle.lent.proofs.Contract as Contract
use Rattle.lent.proofs.Contract.{Promise}

-- a function by value of m lifetimes, with the types in it, and what it promises
pub record Lending (m : ℕ) : Type 2 where
  pub lent : Record
  pub answer : Answer
  pub event : Event lent answer
  pub arguments : List (Argument m)
  pub promise : Promise lent answer arguments

-- ---- the function by value and the lent one: signatures, contracts and code
module _ {m : ℕ} (L : Lending m) where
  abbrev S : Record
  S = L.lent

  abbrev Ns : List (Argument m)
  Ns = L.arguments

  abbrev Value : Ended
  Value = record {
    signature = record { lifetimes = m; outlives = []; params = plain (λ κs. the_row S) ∷ values Ns; result = plain (λ κs. L.event.row) };
    kept = (yes, all yes (values Ns));
  }

  abbrev Lent : Ended
  Lent = Contract.Lent S L.answer Ns

  -- the places of the record's copy, of the event and of the record on its way back, which stand after the arguments
  abbrev copied : ℕ
  copied = suc (suc (past Ns 0))

  abbrev happened : ℕ
  happened = suc (suc (past Ns 1))

  abbrev returning : ℕ
  returning = suc (suc (past Ns 2))

  abbrev after_them : List Local
  after_them =
      local (the_mir S) value_local ∷ local (pair_mir S L.answer L.event.name) value_local ∷ local (the_mir S) value_local ∷ []

  abbrev statements : Callee → Body
  statements g =
      seq (assign (place copied []) (rv_opd (copy (place 1 (deref (the_mir S) ∷ [])))))
      (seq (call g (copy (place copied []) ∷ copies (λ j. suc (suc j)) Ns) (place happened []))
      (seq (assign (place returning []) (rv_opd (copy (place happened (field 1 ∷ [])))))
      (seq (assign (place 1 (deref (the_mir S) ∷ [])) (rv_opd (copy (place returning []))))
      (seq (assign (place 0 []) (rv_opd (copy (place happened (field 0 ∷ []))))) return))))

  abbrev function : Callee → Fn
  function g = record {
    lifetimes = suc m;
    outlives = [];
    ty_params = [];
    givens = 0;
    params = suc (past Ns 0);
    locals = local L.answer.mir value_local ∷ local (ty_ref (named 0) mut (pointee (the_row S).written)) value_local ∷ (locals Ns ++ after_them);
    body = statements g;
  }

  abbrev stayed : Stays Lent.signature.params Lent.kept
  stayed = (stay_ref (0 ∷ []) tt (plain (λ _. the_row S)), told Ns)

  module _ {M : Type 1} (𝓤 : Ura M) where
    abbrev by_value : Clauses 𝓤 Value
    by_value κs a = record {
      ghost = Unit {0};
      requires = λ _. emp 𝓤;
      ensures = λ _ r end. fact 𝓤 (L.promise κs a.1 end.1 a.0 (L.event.answer r) (L.event.after r));
    }

    abbrev in_place : Clauses 𝓤 Lent
    in_place = Contract.in_place S L.answer Ns L.promise 𝓤

module _ {M : Type 1} {𝓤 : Ura M} (𝓛 : Logic 𝓤) {m : ℕ} (L : Lending m) where
  -- the contract that the proof cites
  abbrev G : Contract 𝓤
  G = triple_of 𝓛 (Value L).signature (closing 𝓛 (Value L) (by_value L 𝓤))

-- ---- the walk, at the reference to h that lies at (b, o) and at the arguments a
module _ {M : Type 1} {𝓤 : Ura M} (𝓛 : Logic 𝓤) {m : ℕ} (L : Lending m)
    (κs : Lfts (suc m)) (qs : Shares (suc m)) (b o : ℕ) (γ : GName) (h : (S L).type.D) (a : Values (Ns L) κs) where
  open 𝓛 use {H}

  abbrev R : Record
  R = L.lent

  abbrev x : MutBor R.type.D × Values (Ns L) κs
  x = (record { ref_ptr = (b, o); ghost_name = γ; now = h }, a)

  abbrev vals : Valss (types_at (lents (Ns L)) κs)
  vals = lent_vals (Ns L) κs a

  abbrev at : List Val × Valss (types_at (lents (Ns L)) κs)
  at = (vptr b o ∷ [], vals)

  abbrev all_vals : List Val
  all_vals = vptr b o ∷ flat (types_at (lents (Ns L)) κs) vals

  abbrev Post : Val → SProp 𝓤
  Post = (walk_of 𝓛 (Lent L) (stayed L) (in_place L 𝓤)).post ((κs, qs, tt, x, at), tt)

  -- what the borrow holds, what is known of the value behind it, and the tokens of the arguments' lifetimes
  abbrev Borrow : Fml
  Borrow = fbor κs.0 (Lies (mem (the_row R)) b o γ)

  abbrev Seen : R.type.D → Fml
  Seen d = fobs γ ((the_row R).coded.code d)

  abbrev Rest : SProp 𝓤
  Rest = toks 𝓛 m κs.1 qs.1

  -- what the callee left of its arguments, and what is known of the event r that it returned
  abbrev Last-ones : Type 0
  Last-ones = Lasts (Ns L) κs.1 (handed (Ns L) κs a)

  abbrev Leaves : Last-ones → Fml
  Leaves = lasts_of κs.1 (values (Ns L)) (all yes (values (Ns L))) (handed (Ns L) κs a)

  abbrev Known : Last-ones → L.event.row.Denot → Type 0
  Known ws r = L.promise κs.1 (handed (Ns L) κs a) (sees (Ns L) κs.1 (handed (Ns L) κs a) ws) h (L.event.answer r) (L.event.after r)

  exits : (ws : Last-ones) (r : L.event.row.Denot) (vs : List Val) → Is L.event.row r vs → Known ws r
      → ent 𝓤 (sep 𝓤 (sem 𝓛 (Seen (L.event.after r))) (sep 𝓤 (sem 𝓛 Borrow) (sep 𝓤 (𝓛.A.lft κs.0 qs.0)
      (sep 𝓤 Rest (sem 𝓛 (Leaves ws))))))
      (Post (L.answer.val (L.event.answer r)))
  exits ws r vs is known =
      let y : L.answer.row.Denot = L.event.answer r in
      qed 𝓛 (‵ (Seen (L.event.after r)) ∷ ‵ Borrow ∷ ‵ (flft κs.0 qs.0) ∷ raw Rest ∷ ‵ (Leaves ws) ∷ []) ∵
      suffices ! _ (ends_at 𝓛 (Lent L) (stayed L) (in_place L 𝓤) ((κs, qs, tt, x, at), tt) (L.answer.val y) y
      (L.event.after r, lasts (Ns L) κs a ws) (tt, lasts_fit (Ns L) κs a ws)) $
      says ! (subst (λ (e : Seens (Ns L) κs.1). L.promise κs.1 (handed (Ns L) κs a) e h y (L.event.after r)) (same-seens (Ns L) κs a ws) known) $
      move ! (2 ∷ 3 ∷ []) $ join ! $ frame ! $
      feq_i ! (List Val) (vptr b o ∷ []) (vptr b o ∷ []) refl $ fjoin3 ! $ move ! (1 ∷ []) $
      use1 𝓛 (‵ (has_of κs (lents (Ns L)) (all yes (lents (Ns L))) (told (Ns L)) a (lasts (Ns L) κs a ws) vals))
      (had_lasts 𝓛 (Ns L) κs a ws vals) $
      move ! (1 ∷ 0 ∷ []) $ fjoin ! $
      owned ! L.answer.row (Is L.answer.row) (L.answer.makes 𝓛) y _ (L.event.is_an_answer r vs is) $ move ! (1 ∷ 0 ∷ []) $ done !

  -- what the callee's triple binds outside, and what it asks
  abbrev to_g : (G 𝓛 L).Ghost
  to_g = ((κs.1, qs.1, tt, (h, handed (Ns L) κs a), (the_val R h ∷ [], handed-vals (Ns L) κs a)), tt)

  abbrev Own : R.type.D → Fml
  Own d = (the_row R).own_val d (the_val R d ∷ [])

  goes_g : ent 𝓤 (sep 𝓤 (sem 𝓛 (Own h)) (sep 𝓤 (sem 𝓛 (owns (types_at (lents (Ns L)) κs) a vals)) Rest)) ((G 𝓛 L).pre to_g)
  goes_g =
      qed 𝓛 (‵ (Own h) ∷ ‵ (owns (types_at (lents (Ns L)) κs) a vals) ∷ raw Rest ∷ []) ∵ move ! (1 ∷ []) $
      use1 𝓛 (‵ (owns (types_at (values (Ns L)) κs.1) (handed (Ns L) κs a) (handed-vals (Ns L) κs a))) (own_handed 𝓛 (Ns L) κs a) $
      move ! (1 ∷ 0 ∷ []) $ fjoin ! $ move ! (1 ∷ 0 ∷ []) $ join ! $ frame ! $ nothing ! $ done !

  module _ (C : Calls 𝓤 H) (Λ : Loops 𝓤 H) (fm : FmC 𝓤 H 𝓛.laws C) (g : Callee) (met : Triple 𝓤 (C g) (G 𝓛 L))
      (are : Are (types_at (lents (Ns L)) κs) (Ises (types_at (lents (Ns L)) κs)) a vals) where
    walk : ent 𝓤 (on_entry 𝓛 (Lent L).signature κs qs x at) (WpFn 𝓤 H C Λ (function L g) all_vals Post)
    walk =
        qed 𝓛 ((‵ (flft κs.0 qs.0) ⊛ raw Rest) ∷ ‵ (owns (MutRef (named 0) κs.0 (the_row R) ∷ types_at (lents (Ns L)) κs) x at) ∷ []) ∵
        split ! $ move ! (2 ∷ []) $ fsplit ! $ fsplit3 ! $ drop ! $ move ! (0 ∷ 1 ∷ 3 ∷ []) $
        -- [what is seen; the borrow; its token; what the arguments own; their tokens]
        enter ! C Λ (function L g) all_vals _ $ alloc1 ! (λ l₀. alloc1 ! (λ l₁. allocated 𝓛 (Ns L) (λ bs. alloc1 ! (λ l₂. alloc1 ! (λ l₃.
        alloc1 ! (λ l₄. alloc0 ! $ params1 ! $ pass1 ! (init ! 7 refl (tt, tt)) $ move ! (6 ∷ []) $ passed 𝓛 (Ns L) bs κs a are (pass0 ! $
        let after : Env 𝓤 H = (the_mir R, l₂) ∷ (pair_mir R L.answer L.event.name, l₃) ∷ (the_mir R, l₄) ∷ [] in
        let past-them : (j : ℕ) → _ = spot_past 𝓛 (Ns L) bs after in
        move ! (11 ∷ 12 ∷ 13 ∷ []) $ opens ! tt (the_row R) {h = h} b o (λ vs.
        spelt ! (the_row R) (Is (the_row R)) (shows 𝓛 (the_row R)) (LL.vals R.type R.laws)
        (LL.tells R.type R.laws) full_share h vs b o $
        move ! (1 ∷ []) $ peeks ! (the_row R) (Is (the_row R)) (shows 𝓛 (the_row R)) h (the_val R h ∷ []) (λ was. move ! (1 ∷ 0 ∷ []) $
        -- [the record's cell; what it owns; the open borrow; what is seen; auth; the arguments; room for the record on its way back; …;
        -- for the event; …; for the copy; …; the reference; …; room for the answer; …; what the arguments own; their tokens]
        assigns ! (of_opd ! (load ! (from ! (hop ! (look ! 12 refl) (stop !))) (look_raw ! 0 refl))) (local_at (past-them 0) (stop !))
        (init ! 10 refl ((LL.lawful R.type R.laws 𝓛).typed h _ was).0) $
        move ! (1 ∷ 16 ∷ 17 ∷ []) $ use3 𝓛 (raw ((G 𝓛 L).pre to_g)) goes_g $
        -- [what the callee asks; the record's cell; the open borrow; what is seen; auth; the arguments; room for the record on its way back; …;
        -- for the event; …; the copy; …; the reference; …; room for the answer; …]
        calls_at ! fm (G 𝓛 L) met to_g
        (and_then ! (load ! (local_at (past-them 0) (stop !)) (look ! 10 refl))
        (operands 𝓛 (Ns L) bs κs a after (λ j. suc (suc j)) (λ j. refl) (λ q τ c d v back p. look_in ! 5 p))) (λ v.
        use1 𝓛 (later (some (λ (r : L.event.row.Denot). (raw Rest ⊛ ‵ (L.event.row.own_val r (v ∷ [])))
        ⊛ some (λ (ws : Last ((the_row R).exit yes) h × Last-ones).
        ‵ (fsep (left ((the_row R).exit yes) h ws.0) (Leaves ws.1)) ⊛ raw (fact 𝓤 (Known ws.1 r)))))) (id⊢ 𝓤 _) $
        await ! tt $ pick ! (λ r. split ! $ move ! (1 ∷ []) $ pick ! (λ ws. split ! $ fsplit ! $ drop ! $ move ! (1 ∷ []) $
        heard ! (Known ws.1 r) (λ known. move ! (1 ∷ []) $ split ! $ move ! (1 ∷ []) $
        peeks ! L.event.row (Is L.event.row) (shows 𝓛 L.event.row) r (v ∷ []) (λ is.
        -- [what the event owns; the arguments' tokens; what is left of them; the record's cell; the open borrow; what is seen; auth;
        -- the arguments; room for the record on its way back; …; for the event; …; the copy; …; the reference; …; room for the answer; …]
        land ! (local_at (past-them 1) (stop !)) (init ! 10 refl (L.event.typed 𝓛 r v is)) $
        rewrite ! 10 (λ (u : Val). ‵ (fat full_share (pair_mir R L.answer L.event.name) l₃ 0 u)) (ap only (L.event.tells r (v ∷ []) is)) refl $
        assigns ! (of_opd ! (load ! (local_at (past-them 1) (fld ! refl (stop !))) (look_in ! 10 (sub ! 1 refl (whole !)))))
        (local_at (past-them 2) (stop !))
        (init ! 8 refl ((LL.lawful R.type R.laws 𝓛).typed (L.event.after r) _ (L.event.is-after r _ is)).0) $
        assigns ! (of_opd ! (load ! (local_at (past-them 2) (stop !)) (look ! 8 refl))) (from ! (hop ! (look ! 14 refl) (stop !)))
        (store_raw ! 3 refl ((LL.lawful R.type R.laws 𝓛).typed (L.event.after r) _ (L.event.is-after r _ is)).0) $
        assigns ! (of_opd ! (load ! (local_at (past-them 1) (fld ! refl (stop !))) (look_in ! 10 (sub ! 0 refl (whole !)))))
        (from ! (stop !))
        (init ! 16 refl (L.answer.typed 𝓛 (L.event.answer r) _ (L.event.is_an_answer r _ is))) $
        drop ! $ owned ! (the_row R) (Is (the_row R)) (LL.makes R.type R.plain 𝓛) (L.event.after r) _ (L.event.is-after r _ is) $
        move ! (3 ∷ 0 ∷ 4 ∷ 5 ∷ 6 ∷ []) $ closes ! tt (the_row R) (L.event.after r) (the_val R (L.event.after r) ∷ []) b o $
        -- [what is seen; the borrow; its token; the arguments' tokens; what is left of them; the arguments; the record on its way back; …;
        -- the event; …; the copy; …; the reference; …; the answer; …]
        returns ! (look ! 14 refl) $ forget ! 6 refl $ forget ! 8 refl $ forget ! 10 refl $ forget ! 12 refl $ forget ! 14 refl $
        move ! (14 ∷ 15 ∷ []) $ free1 ! $ move ! (12 ∷ 13 ∷ []) $ free1 ! $ move ! (5 ∷ []) $
        freed 𝓛 (Ns L) bs κs a (move ! (9 ∷ 10 ∷ []) $ free1 ! $ move ! (7 ∷ 8 ∷ []) $ free1 ! $ move ! (5 ∷ 6 ∷ []) $ free1 ! $ free0 ! $
        by ! (exits ws.1 r (v ∷ []) is known))))))))))))))))

module _ {M : Type 1} {𝓤 : Ura M} (𝓛 : Logic 𝓤) {m : ℕ} (L : Lending m) (g : Callee) where
  open 𝓛 use {H}

  walks : (C : Calls 𝓤 H) (Λ : Loops 𝓤 H) → FmC 𝓤 H 𝓛.laws C → Triple 𝓤 (C g) (G 𝓛 L)
      → Walks 𝓛 (Lent L) (stayed L) (WpFn 𝓤 H C Λ (function L g)) (in_place L 𝓤)
  walks C Λ fm met =
      walked 𝓛 (Lent L) (stayed L) (in_place L 𝓤) (WpFn 𝓤 H C Λ (function L g))
      (λ κs. (mut_vals, lent_spells (Ns L) κs)) (λ κs. (mut_Tells (named 0) κs.0 (the_row (S L)), lent_tells (Ns L) κs))
      (λ κs qs bounds a _ are. via 𝓤 _ (fst∗ 𝓤 _ (emp 𝓤))
      (walk 𝓛 L κs qs a.0.ref_ptr.0 a.0.ref_ptr.1 a.0.ghost_name a.0.now a.1 C Λ fm g met are.1))

  meets : (𝓣 : Tables 𝓤 H) → Triple 𝓤 (𝓣.C g) (G 𝓛 L)
      → Meets 𝓛 (Lent L).signature (WpFn 𝓤 H 𝓣.C 𝓣.Λ (function L g)) (closing 𝓛 (Lent L) (in_place L 𝓤))
  meets 𝓣 met =
      walk_Meets 𝓛 (Lent L) (stayed L) (Goes-ref 𝓛 (suc m) 0 tt (plain (λ _. the_row (S L))), all_go 𝓛 (Ns L)) (in_place L 𝓤)
      (WpFn 𝓤 H 𝓣.C 𝓣.Λ (function L g)) (WpFn-mono 𝓤 H 𝓛.laws 𝓣 (function L g)) (walks 𝓣.C 𝓣.Λ (fm_of 𝓤 H 𝓛.laws 𝓣) met)

-- the law as a function's proof cites it: f is the lent function's key and g that of the function by value, in f's environment γ
module _ {M : Type 1} {𝓤 : Ura M} (𝓛 : Logic 𝓤) (𝓜 : Model 𝓤 𝓛.H) (𝓡 : Running 𝓤 𝓛.H 𝓜) {m : ℕ} (L : Lending m) where
  open 𝓛 use {H}

  pub proved : (γ : Routines) (f g : Callee) (callee : Routine)
      → Closed 𝓤 H (tables 𝓤 H 𝓜 𝓡 γ).C (tables 𝓤 H 𝓜 𝓡 γ).Λ f (function L g)
      → γ g ≡ callee
      → Meets 𝓛 (Value L).signature (𝓡.run callee) (closing 𝓛 (Value L) (by_value L 𝓤))
      → Meets 𝓛 (Lent L).signature (𝓡.run (γ f)) (closing 𝓛 (Lent L) (in_place L 𝓤))
  unfolding tables_of
  proved γ f g callee unfolded calls met =
      entered 𝓤 H (triple_of 𝓛 (Lent L).signature (closing 𝓛 (Lent L) (in_place L 𝓤)))
      (tables 𝓤 H 𝓜 𝓡 γ).C (tables 𝓤 H 𝓜 𝓡 γ).Λ f (function L g) unfolded
      (meets 𝓛 L g (tables_of 𝓤 H 𝓜 (tables 𝓤 H 𝓜 𝓡 γ)) (cited 𝓤 H (G 𝓛 L) 𝓜 𝓡 γ g callee calls met))
