use Rattle.std.proofs.Common.{ℕ, List, ◌++◌, get_or, ap, ◌∙◌}
use Rattle.act1_base.specs.Words.{text_line}
use Rattle.act1_cover.specs.Tilings.{no_fork}
use Rattle.act1_cover.specs.Text.{fork_words}
use Rattle.act1_cover.proofs.RootCounts.{any_default}
use Rattle.act1_cover.proofs.TextGrows.{forks_more}
use Rattle.act1_cover.proofs.text.write_forks.Goals as goal

pub loop-number-preserved : goal.loop-number-preserved
loop-number-preserved c =
    let forks = c.args.forks.now in
    let i = c.loop-number.number in
    let f = get_or forks i no_fork in
    let low = c.loop-number-test.true in
    c.in_ok-write_fork.ensures ∙ ap (λ (ys : List ℕ). ys ++ text_line (fork_words i f)) c.loop-number.invariant ∙ forks_more c.args.text.now.items forks i f low (any_default forks i no_fork f low)
