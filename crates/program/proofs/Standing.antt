-- Where the loop over the draws stands: the lines before stand at the front of the buffer, and those left are those of the net reached. A
-- draw that makes a step gives the first of them; where no draw is left or one is refused, only the closing line is left. Assumes nothing.
use Rattle.std.specs.Prelude.{Result, Ok, Err}
use mathlib.Core.Path.{◌≡◌, refl, sym, ap, ◌∙◌}
use mathlib.Core.Bool.{false}
use mathlib.Core.List.{List, [], ◌∷◌, ◌++◌, flat_map}
use Prim.Native.Nat.{ℕ, suc, ◌+◌, ◌≤◌, ◌<◌}
use native.Mathlib.Nat.{zero-add}
use native.Mathlib.Numerals.{add-one}
use native.Mathlib.Omega.{arith}
use Rattle.std.specs.Prelude.{⊤, Result}
use lib.ListN.{length, get_or, take, drop, drop_of_length-le, length-drop, length-take}
use lib.Seq.{drop-cons, drop-drop, take_all, length-sets}
use Rattle.aggregate.specs.Ways.{summing}
use Rattle.finite.proofs.Below.{length-tabulate, get_d_tabulate}
use Rattle.refusal.specs.declared.Refusal.{Refusal}
use Rattle.linemap.specs.declared.Map.{Map}
use Rattle.linemap.specs.declared.FreshFault.{FreshFault}
use Rattle.linemap.specs.Reading.{ReadOutcome}
use Rattle.linemap.specs.Openings.{openable, opening_by, opening_of}
use Rattle.linemap.specs.Openings as opening
use Rattle.schedule.specs.declared.Step.{Step}
use Rattle.schedule.specs.Outcome.{step_outcome_of}
use Rattle.schedule.specs.Draws.{draw_on, run_made}
use Rattle.schedule.proofs.Made.{drawn_step, drawn_formed}
use Rattle.schedule.proofs.Answers.{answer-made, answer_refused, allowed_parts}
use Rattle.rendezvous.specs.Net.{Net}
use Rattle.rendezvous.specs.Rules.{rules}
use Rattle.rendezvous.specs.Opening as meet
use Rattle.rendezvous.proofs.Laws.{places}
use Rattle.text.specs.Text.{line_room, text_of}
use Rattle.finite.specs.Internal.Putting.{Put}
use Rattle.finite.proofs.Stores.{put_then}
use Rattle.opening.specs.declared.Opening.{Opening}
use Rattle.opening.specs.Opening.{input_opening, draw_at, draws_in}
use Rattle.text.specs.declared.Line.{Line}
use Rattle.program.specs.Output.{step_line, step_lines, closing_line, lot_lines, lines_of}
use Rattle.program.specs.Internal.Filling.{Opens, Roomy, StepsPut, Filled, bytes_of}
use Rattle.program.proofs.Lines.{bytes_le, bytes_next}

-- a step that a draw made has its sender in the net
pub sender-below : (net : Net) (d : ℕ) (answer : Result Step Refusal) (next : Net) {step : Step} → step_outcome_of answer next ≡ draw_on rules net d
    → answer ≡ Ok step → step.sender < 64
sender-below net d answer next {step} e q =
    let made = (answer-made next e q).0 in
    (places net (drawn_formed rules net d step made) step (allowed_parts rules net step (drawn_step rules net d step made).0).0).0

-- the lines of a net after n steps, by the draws that are left
unfoldable pub lines_left : Map → Net → ℕ → List ℕ → List Line
lines_left m net n ds = step_lines net (run_made rules net ds) ++ (closing_line m (n + length (run_made rules net ds)) ∷ [])

module _ (m : Map) (net : Net) (i : ℕ) (ds : List ℕ) where
  used_up : length ds ≤ i → lines_left m net i (drop i ds) ≡ closing_line m i ∷ []
  unfolding lines_left step_lines run_made
  used_up h = rw (drop_of_length-le ds h) (ap (λ (n : ℕ). closing_line m n ∷ []) (omega arith))

  module _ (h : i < length ds) where
    refused : (draw_on rules net (get_or ds i 0)).made ≡ [] → lines_left m net i (drop i ds) ≡ closing_line m i ∷ []
    unfolding lines_left step_lines run_made
    refused z = rw (drop-cons ds i 0 h, z) (ap (λ (n : ℕ). closing_line m n ∷ []) (omega arith))

    goes_on : (s : Step) → (draw_on rules net (get_or ds i 0)).made ≡ s ∷ []
        → lines_left m net i (drop i ds) ≡ step_line net s ∷ lines_left m (draw_on rules net (get_or ds i 0)).net (i + 1) (drop (i + 1) ds)
    unfolding lines_left step_lines run_made
    goes_on s z =
        let next : Net = (draw_on rules net (get_or ds i 0)).net in
        let rest : List Step = run_made rules next (drop (suc i) ds) in
        rw (drop-cons ds i 0 h, z, add-one i, ← (drawn_step rules net (get_or ds i 0) s z).1)
        (ap (λ (n : ℕ). step_line net s ∷ (step_lines next rest ++ (closing_line m n ∷ [])))
        {x = i + suc (length rest)}
        {y = suc i + length rest}
        (omega arith))

-- a line that is left has room after those before it, and is put there
module _ (s : List ℕ) {l l' : List ℕ} (i : ℕ) {end : ℕ} {line : Line} {after : List Line} (e : drop i (lines_of s) ≡ line ∷ after)
    (p : Put l 0 (bytes_of (take i (lines_of s))) l' end) where
  pub line_room_lem : Roomy s l → end + line_room ≤ length l'
  line_room_lem roomy =
      omega (
        arith,
        roomy.few,
        roomy.room,
        ap length e,
        length-drop i (lines_of s),
        length-take i (lines_of s),
        bytes_le (take i (lines_of s)),
        p.end,
        ap length p.bytes,
        length-sets l 0 (bytes_of (take i (lines_of s))),
      )

  pub next-put : {l'' : List ℕ} {end' : ℕ} → Put l' end (text_of line) l'' end' → Put l 0 (bytes_of (take (i + 1) (lines_of s))) l'' end'
  next-put q = rw (bytes_next i (lines_of s) e) (put_then p q)

-- where the loop stands, after `made` of its draws: l was the buffer, l' is it now, with lines up to `end`
pub record Stands (s : List ℕ) (draws : ℕ) (l : List ℕ) (l' : List ℕ) (net : Net) (made end : ℕ) : Type 0 where
  pub left : drop made (lines_of s) ≡ lines_left (input_opening s).map net made (drop made (draws_in s draws))
  pub put : Put l 0 (bytes_of (take made (lines_of s))) l' end

-- it starts from the fresh net
pub stands_first : {s l : List ℕ} {opened : Opening} {net : Net} (before : Net) (answer : Result ⊤ FreshFault) → Opens s opened
    → opening_of answer net ≡ meet.rendezvous_opening false summing opened.map before
    → Stands s opened.draws l l net 0 0
unfolding lines_of lot_lines lines_left openable opening_by flat_map
stands_first {s} {l} {opened} {net} before answer o e =
    let fresh : net ≡ meet.fresh_on false summing opened.map = ap (λ (x : opening.Opening Net). x.net) e ∙ rw o.good in
    record { left = rw (o.opens, fresh, zero-add); put = record { bytes = refl; end = refl } }

module _ {s l l' : List ℕ} {draws : ℕ} {net : Net} {made end : ℕ} (w : Stands s draws l l' net made end) where
  pub same_room : length l' ≡ length l
  same_room = ap length w.put.bytes ∙ length-sets l 0 (bytes_of (take made (lines_of s)))

  pub used_up_closes : draws ≤ made → StepsPut s l made end l'
  used_up_closes h =
      record {
        closing = w.left ∙ used_up (input_opening s).map net made (draws_in s draws) (omega (arith, length-tabulate (draw_at s) draws));
        put = w.put;
      }

  module _ (h : made < draws) {d : ℕ} (drawn : d ≡ draw_at s made) (answer : Result Step Refusal) (next : Net)
      (e : step_outcome_of answer next ≡ draw_on rules net d) where
    below : made < length (draws_in s draws)
    below = omega (arith, length-tabulate (draw_at s) draws)

    the_draw : d ≡ get_or (draws_in s draws) made 0
    the_draw = drawn ∙ sym (get_d_tabulate (draw_at s) draws made 0 h)

    pub refused_closes : {r : Refusal} → answer ≡ Err r → StepsPut s l made end l'
    refused_closes q =
        record {
          closing = w.left ∙ refused (input_opening s).map net made (draws_in s draws) below (rw (← the_draw) (answer_refused next e q));
          put = w.put;
        }

    module _ {step : Step} (q : answer ≡ Ok step) where
      made-step : ((draw_on rules net d).made ≡ step ∷ []) × ((draw_on rules net d).net ≡ next)
      made-step = answer-made next e q

      lines_on : drop made (lines_of s) ≡ step_line net step ∷ lines_left (input_opening s).map next (made + 1) (drop (made + 1) (draws_in s draws))
      lines_on =
          w.left
          ∙ goes_on (input_opening s).map net made (draws_in s draws) below step (rw (← the_draw) made-step.0)
          ∙ rw (← the_draw, made-step.1)

      -- there is room for its line
      pub step_room : Roomy s l → end + line_room ≤ length l'
      step_room roomy = line_room_lem s made lines_on w.put roomy

      pub stands_next : {l'' : List ℕ} {end' : ℕ} → Put l' end (text_of (step_line net step)) l'' end' → Stands s draws l l'' next (made + 1) end'
      stands_next p =
          record {
            left = sym (drop-drop 1 made (lines_of s)) ∙ ap (drop 1) lines_on;
            put = next-put s made lines_on w.put p;
          }

-- the closing line is the last
module _ {s l l' : List ℕ} {opened : Opening} {made end : ℕ} (o : Opens s opened) (w : StepsPut s l made end l') where
  pub closing_room : Roomy s l → end + line_room ≤ length l'
  closing_room = line_room_lem s made w.closing w.put

  pub closing_fills : Roomy s l → {l'' : List ℕ} {r : ℕ} → Put l' end (text_of (closing_line opened.map made)) l'' r → Filled s l l'' r
  closing_fills roomy p =
      let whole : take (made + 1) (lines_of s) ≡ lines_of s =
      take_all (made + 1) (lines_of s) (omega (arith, ap length w.closing, length-drop made (lines_of s))) in
      let last = ap (λ (x : ReadOutcome). closing_line x.map made ∷ []) o.opens in
      record {
        room = record { fits = omega (arith, roomy.few, roomy.room, bytes_le (lines_of s)) };
        put = rw whole at (next-put s made (w.closing ∙ last) w.put p);
      }
