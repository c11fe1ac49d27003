-- `sheet::agrees` meets its contract: the fields are compared in turn. Assumes nothing.
use mathlib.Core.Path.{sym, ◌∙◌}
use mathlib.Core.Bool.{◌&&◌}
use lib.Dec.{eqb}
use Rattle.std.proofs.Math.Bool.{and_assoc}
use Rattle.sheet.specs.Sheet.{agrees}
use Rattle.sheet.proofs.agrees.Goals as goal

pub returns : goal.returns
unfolding agrees
returns c =
    let s = c.args.s in
    let t = c.args.t in
    let first = eqb s.k t.k && eqb s.classes t.classes in
    c.eq.ensures
    ∙ sym (and_assoc (eqb s.k t.k) (eqb s.classes t.classes) (eqb s.desk t.desk && eqb s.way t.way))
    ∙ sym (and_assoc first (eqb s.desk t.desk) (eqb s.way t.way))
