-- The lent events of a process, as the law of a lent record asks for them: the process is lent, a reply is the answer, and an event
-- holds both. Assumes nothing.
use mathlib.Core.Path.{◌≡◌}
use mathlib.Core.List.{List}
use contract.Lifetimes.{Lfts}
use denote.RattleType.{RattleType, Denots}
use denote.Signature.{types_at}
use denote.Struct.Laws as LL
use Rattle.lent.proofs.Data.{Record, Answer, enum-answer, Event, Argument, struct}
use Rattle.lent.proofs.Arguments.{values}
use Rattle.lent.proofs.Law.{Lending}
use Rattle.std.specs.contracts.option.Option as O
use Rattle.std.proofs.option.Option.TheLaws as O'
use Rattle.std.specs.contracts.result.Result as R
use Rattle.std.proofs.result.Result.TheLaws as R'
use Rattle.refusal.specs.contracts.Refusal as Why
use Rattle.refusal.proofs.Refusal.TheLaws as Why'
use Rattle.aggregate.specs.contracts.Aggregate as Sum
use Rattle.aggregate.proofs.Aggregate.TheLaws as Sum'
use Rattle.station.specs.declared.Process.{Process}
use Rattle.station.specs.Process.{EventOutcome, event_outcome_of}
use Rattle.station.specs.contracts.Process as P
use Rattle.station.proofs.Process.TheLaws as P'
use Rattle.station.specs.contracts.Gives as G
use Rattle.station.proofs.Gives.TheLaws as G'
use Rattle.station.specs.contracts.Event as E
use Rattle.station.proofs.Event.TheLaws as E'

abbrev pub process : Record
process = record { type = P.the_type; laws = P'.the_laws; plain = P'.the_plain }

-- what is given, where something is
abbrev given : RattleType
given = O.the_row G.the_row

abbrev pub reply : Answer
reply =
    enum-answer (R.the_type given Why.the_row)
    (R'.the_laws given Why.the_row (O'.the_row_laws G.the_row G'.the_row_laws) Why'.the_row_laws
    (O'.the_told G.the_row G'.the_row_laws G'.the_told) Why'.the_told)
    tt (R'.the_plain given Why.the_row (O'.the_row_plain G.the_row G'.the_row_plain) Why'.the_row_plain)

abbrev event : Event process reply
event = record {
  row = E.the_row;
  name = (E.the_type).name;
  answer = λ r. r.reply;
  after = λ r. r.process;
  tells = LL.tells E.the_type E'.the_laws;
  typed = λ 𝓛 r v is. ((LL.lawful E.the_type E'.the_laws 𝓛).typed r _ is).0;
  is_an_answer = λ r vs is. (LL.owed E.the_type E'.the_laws r vs is).0;
  is-after = λ r vs is. (LL.owed E.the_type E'.the_laws r vs is).1.0;
}

-- what an answer brings, as an argument
abbrev pub aggregate : Argument 0
aggregate = struct (record { type = Sum.the_type; laws = Sum'.the_laws; plain = Sum'.the_plain })

-- an event with these arguments, by its rule
abbrev pub lending : (Ns : List (Argument 0)) → ((κs : Lfts 0) → Denots (types_at (values Ns) κs) → Process → EventOutcome) → Lending 0
lending Ns rule = record {
  lent = process;
  answer = reply;
  event = event;
  arguments = Ns;
  promise = λ κs a e p r q. event_outcome_of r q ≡ rule κs a p;
}
