-- The exported functions on a lent record, as the laws of lent records ask for them: an event of a station by the lent function that it is
-- passed on to; a reading by the map, the answer, and the struct of both that the function by value returns. Assumes nothing.
use mathlib.Core.Path.{◌≡◌, ap, ◌∙◌}
use mathlib.Core.List.{List, [], ◌∷◌}
use Prim.Native.Nat.{ℕ}
use mir.Syntax.{w64}
use contract.Lifetimes.{Lfts}
use denote.RattleType.{Denots}
use denote.Signature.{types_at}
use denote.Struct.Declared.{row}
use denote.Struct.Laws as LL
use Rattle.lent.proofs.Data.{Record, Answer, number-answer, struct-answer, Argument}
use Rattle.lent.proofs.Arguments.{values}
use Rattle.lent.proofs.Law.{Lending}
use Rattle.lent.proofs.Passing.{Passing}
use Rattle.station.specs.declared.Process.{Process}
use Rattle.station.specs.Process.{EventOutcome, event_outcome_of, number_and_values}
use Rattle.station.proofs.Lent.{process, reply}
use Rattle.linemap.specs.contracts.Map as Map
use Rattle.linemap.proofs.Map.TheLaws as Map'
use Rattle.capi.specs.Answers.{packed, Called, called}
use Rattle.capi.specs.declared.process.Given.{Given}
use Rattle.capi.specs.Process.{event_call, giving_call}
use Rattle.capi.specs.Internal.Values.{reply_given}
use Rattle.capi.specs.contracts.process.Given as Gives
use Rattle.capi.proofs.process.Given.TheLaws as Gives'
use Rattle.capi.specs.contracts.map.Answered as OnMap
use Rattle.capi.proofs.map.Answered.TheLaws as OnMap'

abbrev number : Answer
number = number-answer w64

abbrev giving : Answer
giving = struct-answer (record { type = Gives.the_type; laws = Gives'.the_laws; plain = Gives'.the_plain })

-- a station's event with these arguments, passed on to the station's own lent function, and its reply put into a number
abbrev pub on_process : (Ns : List (Argument 0)) → ((κs : Lfts 0) → Denots (types_at (values Ns) κs) → Process → EventOutcome) → Passing 0
on_process Ns rule = record {
  lent = process;
  arguments = Ns;
  reply = reply;
  answer = number;
  replies = λ κs a e p r q. event_outcome_of r q ≡ rule κs a p;
  answers = λ r n. n ≡ packed ((number_and_values r).0 ∷ (number_and_values r).1);
  promise = λ κs a e p n q. called n q ≡ event_call (rule κs a p);
  together = λ κs a e p r q n replied answered. ap (λ (x : ℕ). called x q) answered ∙ ap event_call replied;
}

-- one that gives, its reply put into a number and what is given
abbrev pub on_giving : (Process → EventOutcome) → Passing 0
on_giving rule = record {
  lent = process;
  arguments = [];
  reply = reply;
  answer = giving;
  replies = λ κs a e p r q. event_outcome_of r q ≡ rule p;
  answers = λ r g. g ≡ reply_given r;
  promise = λ κs a e p g q. called g q ≡ giving_call (rule p);
  together = λ κs a e p r q g replied answered. ap (λ (x : Given). called x q) answered ∙ ap giving_call replied;
}

abbrev map : Record
map = record { type = Map.the_type; laws = Map'.the_laws; plain = Map'.the_plain }

-- a function with these arguments on a lent map, over one that returns a struct of the answer and the map after it, whose call comes to `rule`
abbrev pub on_map : {m : ℕ} (Ns : List (Argument m)) → ((κs : Lfts m) → Denots (types_at (values Ns) κs) → map.type.D → Called ℕ map.type.D)
    → Lending m
on_map Ns rule = record {
  lent = map;
  answer = number;
  event = record {
    row = row OnMap.the_type;
    name = (OnMap.the_type).name;
    answer = λ d. d.answer;
    after = λ d. d.map;
    tells = LL.tells OnMap.the_type OnMap'.the_laws;
    typed = λ 𝓛 d v is. ((LL.lawful OnMap.the_type OnMap'.the_laws 𝓛).typed d _ is).0;
    is_an_answer = λ d vs is. (LL.owed OnMap.the_type OnMap'.the_laws d vs is).0;
    is-after = λ d vs is. (LL.owed OnMap.the_type OnMap'.the_laws d vs is).1.0;
  };
  arguments = Ns;
  promise = λ κs a e x r y. called r y ≡ rule κs a x;
}
