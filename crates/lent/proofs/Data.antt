-- What the law of a lent record asks of the types in it: the record, the answer, the event that holds both, and each further argument.
-- Every field is data or a law that the type's own module has; a number, a struct, an enum and a slice of numbers have them all. Assumes nothing.
use mathlib.Core.List.{List, [], ◌∷◌}
use Prim.Native.Nat.{ℕ, suc}
use seplogic.Ra.Ura.{Ura}
use lib.Dec.{T}
use lib.ListN.{length}
use mir.Syntax.{Sym, Ty, Width, Written, named, imm, ty_int, ty_ref, ty_struct, tnil, tcons}
use mir.Val.{Val, vint, vstruct, vnil, vcons, has_ty, WT}
use types.Logic.{Logic}
use contract.Lifetimes.{Lfts, Within, lft_at}
use denote.RattleType.{RattleType}
use denote.Laws.{Is, Tells, Makes}
use denote.Plain.{UInt, uint_Tells, uint_Makes, uint_Lawful}
use denote.Slice.{ShrSlice, slice_ty, slice_val, shr_slice_Tells, shr_slice_Lawful}
use denote.Struct.Declared.{Declared, fields, shape, row}
use denote.Struct.Struct.{Plains, layout}
use denote.Struct.Laws as LL
use denote.Enum.Enum.{Few, Plainss, layout as layout_of}
use denote.Enum.Declared as ED
use denote.Enum.Laws as EL

-- that a value is of a MIR type, as storing it asks
abbrev pub Of : Ty → Val → Type 0
Of τ v = T (has_ty τ v) × WT v

-- the record that is lent: a struct that owns only facts
pub record Record : Type 2 where
  pub type : Declared
  pub laws : LL.Laws type
  pub plain : Plains (fields type)

module _ (S : Record) where
  abbrev pub the_row : RattleType
  the_row = row S.type

  abbrev pub the_mir : Ty
  the_mir = layout (shape S.type)

  abbrev pub the_val : S.type.D → Val
  the_val = LL.val S.type S.laws

-- the answer: plain data that is one machine value
pub record Answer : Type 2 where
  pub row : RattleType
  pub mir : Ty
  pub val : row.Denot → Val
  pub typed : {M : Type 1} {𝓤 : Ura M} (𝓛 : Logic 𝓤) →
      (y : row.Denot) (v : Val) → Is row y (v ∷ []) → Of mir v
  pub makes : {M : Type 1} {𝓤 : Ura M} (𝓛 : Logic 𝓤) → Makes 𝓛 row (Is row)

abbrev pub number-answer : Width → Answer
number-answer w = record {
  row = UInt w;
  mir = ty_int w;
  val = vint w;
  typed = λ 𝓛 y v is. ((uint_Lawful 𝓛 w).typed y _ is).0;
  makes = λ 𝓛. uint_Makes 𝓛 w;
}

abbrev pub struct-answer : Record → Answer
struct-answer S = record {
  row = the_row S;
  mir = the_mir S;
  val = the_val S;
  typed = λ 𝓛 y v is. ((LL.lawful S.type S.laws 𝓛).typed y _ is).0;
  makes = λ 𝓛. LL.makes S.type S.plain 𝓛;
}

-- an enum that owns only facts, as an answer
abbrev pub enum-answer : (T : ED.Declared) → EL.Laws T → Few (ED.shape T) → Plainss (ED.variants T) → Answer
enum-answer T L few plain = record {
  row = ED.row T;
  mir = layout_of (ED.shape T);
  val = EL.val T L;
  typed = λ 𝓛 y v is. ((EL.lawful T L 𝓛 few).typed y _ is).0;
  makes = λ 𝓛. EL.makes T plain 𝓛;
}

-- what the function by value returns: a struct of the answer and of the record after the event
module _ (S : Record) (A : Answer) where
  abbrev pub pair_mir : Sym → Ty
  pair_mir ν = ty_struct ν (tcons A.mir (tcons (the_mir S) tnil))

  abbrev pub pair_val : A.row.Denot → S.type.D → Val
  pair_val y s = vstruct (vcons (A.val y) (vcons (the_val S s) vnil))

  pub record Event : Type 2 where
    pub row : RattleType
    pub name : Sym
    pub answer : row.Denot → A.row.Denot
    pub after : row.Denot → S.type.D
    pub tells : Tells row (Is row) (λ r. pair_val (answer r) (after r) ∷ [])
    pub typed : {M : Type 1} {𝓤 : Ura M} (𝓛 : Logic 𝓤) →
        (r : row.Denot) (v : Val) → Is row r (v ∷ []) → Of (pair_mir name) v
    pub is_an_answer : (r : row.Denot) (vs : List Val) → Is row r vs → Is A.row (answer r) (A.val (answer r) ∷ [])
    pub is-after : (r : row.Denot) (vs : List Val) → Is row r vs → Is (the_row S) (after r) (the_val S (after r) ∷ [])

-- an argument of the function by value, which has m lifetimes: one machine value.
-- `mir`, `written` and `reaches` are those of the lent function, whose first lifetime is the record's.
pub record Argument (m : ℕ) : Type 2 where
  pub row : Lfts m → RattleType
  pub mir : Ty
  pub written : Written
  pub reaches : List (Written × List Ty)
  pub val : (κs : Lfts m) → (row κs).Denot → Val
  pub tells : (κs : Lfts m) → Tells (row κs) (Is (row κs)) (λ y. val κs y ∷ [])
  pub typed : {M : Type 1} {𝓤 : Ura M} (𝓛 : Logic 𝓤) →
      (κs : Lfts m) (y : (row κs).Denot) → Is (row κs) y (val κs y ∷ []) → Of mir (val κs y)

module _ {m : ℕ} where
  abbrev pub number : Width → Argument m
  number w = record {
    row = λ κs. UInt w;
    mir = ty_int w;
    written = (UInt w).written;
    reaches = [];
    val = λ κs. vint w;
    tells = λ κs. uint_Tells w;
    typed = λ 𝓛 κs y is. ((uint_Lawful 𝓛 w).typed y _ is).0;
  }

  abbrev pub struct : Record → Argument m
  struct S = record {
    row = λ κs. the_row S;
    mir = the_mir S;
    written = (the_row S).written;
    reaches = (the_row S).reaches;
    val = λ κs. the_val S;
    tells = λ κs. LL.tells S.type S.laws;
    typed = λ 𝓛 κs y is. ((LL.lawful S.type S.laws 𝓛).typed y _ is).0;
  }

  -- a shared slice of numbers, at the lifetime j of the function by value
  abbrev pub numbers : (j : ℕ) → Within m j → Width → Argument m
  numbers j ok w = record {
    row = λ κs. ShrSlice (named j) (lft_at m j ok κs) (UInt w);
    mir = slice_ty (ty_ref (named (suc j)) imm (ty_int w));
    written = (ShrSlice (named (suc j)) [] (UInt w)).written;
    reaches = ((UInt w).written, (UInt w).mir) ∷ [];
    val = λ κs x. slice_val x.ref_ptr (length x.now);
    tells = λ κs. shr_slice_Tells (named j) (lft_at m j ok κs) (UInt w);
    typed = λ 𝓛 κs y is. ((shr_slice_Lawful 𝓛 (named (suc j)) (lft_at m j ok κs) (UInt w)).typed y _ is).0;
  }
