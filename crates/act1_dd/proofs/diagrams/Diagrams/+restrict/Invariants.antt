use Rattle.act1_dd.specs.Diagram.{size_of}
use Rattle.act1_dd.proofs.diagrams.Diagrams.+restrict.Given as goal

abbrev pub decreases-restrict : goal.decreases-restrict
decreases-restrict l = size_of l.f
