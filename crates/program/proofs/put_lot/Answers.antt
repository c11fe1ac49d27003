-- `program::put_lot` meets its contract: the steps' lines, then the closing line, which is all that is left; a map that code holds fits its
-- fields, so that there is room for them. Assumes nothing.
use native.Mathlib.Omega.{arith}
use mir.Syntax.{w32, w64}
use Rattle.linemap.specs.RoundTrip.{Fits}
use Rattle.program.specs.Internal.Filling.{Roomy}
use Rattle.program.proofs.Fitting.{elements_fit}
use Rattle.program.proofs.Few.{few_lines}
use Rattle.program.proofs.Standing.{closing_room, closing_fills}
use Rattle.program.proofs.put_lot.Goals as goal
use Rattle.program.proofs.put_lot.Goals.{Start}

map_fits : (c : Start) → Fits c.args.opened.map
map_fits c =
    let fields = c.well_formed.1.0.1.1.1.0.1.1.1.1.1 in
    record {
      counts = elements_fit w32 c.args.opened.map.counts fields.1.0.0 fields.1.0.1.1;
      neighbours = elements_fit w64 c.args.opened.map.neighbours fields.1.1.0.0 fields.1.1.0.1.1;
    }

roomy : (c : Start) → Roomy c.args.input.now c.args.out.now
roomy c = record { few = few_lines c.requires.opens (map_fits c); room = c.requires.output_room_in_bounds }

pub put_steps-steps-requires-clause-roomy : goal.put_steps-steps-requires-clause-roomy
put_steps-steps-requires-clause-roomy c = roomy (goal.at.put_steps-steps-requires-clause-roomy c).Start

pub put_line_at-requires : goal.put_line_at-requires
put_line_at-requires c =
    omega (arith, closing_room c.requires.opens c.put_steps-steps.ensures (roomy (goal.at.put_line_at-requires c).Start))

pub returns : goal.returns
returns c =
    closing_fills c.requires.opens c.put_steps-steps.ensures (roomy (goal.at.returns c).Start)
    (rw c.closing_line.ensures at c.put_line_at.ensures)
