use Rattle.std.proofs.Common.{ℕ, ◌≡◌, ◌≤◌}
use Rattle.act1_dd.specs.Inputs.{Inputs}
use Rattle.act1_dd.specs.Forks.{HasMoreForks}
use Rattle.act1_dd.specs.Diagram.{IsRef, Keeps, value_at}
use Rattle.act1_dd.specs.Limit.{first_rows}
use Rattle.act1_dd.specs.Steps.{AreSeen}
use Rattle.act1_dd.proofs.diagrams.Diagrams.from_cover.Given as goal

-- the diagram is that of the rows so far, and no fewer of them had too many forks
abbrev pub invariant-loop-done : goal.invariant-loop-done
invariant-loop-done l = record {
  keeps : Keeps l.initial.self l.self;
  is_ref : IsRef l.self l.all;
  value : (x : Inputs) → value_at l.self l.all x ≡ first_rows l.cover l.done x;
  few : (j : ℕ) → j ≤ l.done → ¬ HasMoreForks (first_rows l.cover j) l.limit;
  seen : AreSeen l.self l.seen.keys;
}
