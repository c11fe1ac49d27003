-- The signature and the contract of a function that is lent a record and may have further arguments: what it promises of the arguments,
-- of the same at exit, of the record before, of its answer and of the record that it leaves. These are definitions: they assume nothing.
use mathlib.Core.List.{List, [], ◌∷◌}
use Prim.Native.Nat.{ℕ, suc}
use seplogic.Ra.Ura.{Ura}
use base.Logic.{emp}
use contract.Monad.{fact}
use contract.Lifetimes.{Lfts}
use denote.RattleType.{Denots}
use denote.Builtin.{RefMutOf}
use denote.Signature.{plain, types_at}
use denote.Exit.{yes}
use denote.Triple.End.{all}
use denote.Triple.Clauses.{Ended, Clauses}
use Rattle.lent.proofs.Data.{Record, the_row, Answer, Argument}
use Rattle.lent.proofs.Arguments.{values, lents, handed, Seens, seens}

module _ {m : ℕ} (S : Record) (A : Answer) (Ns : List (Argument m)) where
  abbrev pub Promise : Type 1
  Promise = (κs : Lfts m) → Denots (types_at (values Ns) κs) → Seens Ns κs → S.type.D → A.row.Denot → S.type.D → Type 0

  abbrev pub Lent : Ended
  Lent = record {
    signature = record {
      lifetimes = suc m;
      outlives = [];
      params = RefMutOf (0 ∷ []) tt (plain (λ κs. the_row S)) (λ κs. tt) ∷ lents Ns;
      result = plain (λ κs. A.row);
    };
    kept = (yes, all yes (lents Ns));
  }

  abbrev pub in_place : Promise → {M : Type 1} (𝓤 : Ura M) → Clauses 𝓤 Lent
  in_place promise 𝓤 κs a = record {
    ghost = Unit {0};
    requires = λ _. emp 𝓤;
    ensures = λ _ r end. fact 𝓤 (promise κs.1 (handed Ns κs a.1) (seens Ns κs end.1) a.0.now r end.0.now);
  }
