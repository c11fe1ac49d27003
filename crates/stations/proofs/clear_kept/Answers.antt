-- `stations::clear_kept` meets its contract: words of zeros keep nothing. Assumes nothing.
use Rattle.std.proofs.Common.{rules, ◌≡◌, ℕ, ap, ◌∙◌, length, replicate}
use Rattle.stations.specs.Kept.{kept_in}
use Rattle.stations.proofs.Kept.{kept-zeros}
use Rattle.stations.proofs.clear_kept.Goals as goal

pub returns : goal.returns
returns c =
    let long : length c.args.words.now ≡ 576 = search rules in
    ap kept_in (c.fill.ensures.after (λ y e. e) ∙ ap (λ (n : ℕ). replicate n 0) long) ∙ kept-zeros
