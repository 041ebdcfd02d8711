use Rattle.std.proofs.Common.{◌+◌}
use Rattle.act1_dd.specs.Diagram.{size_of}
use Rattle.act1_dd.proofs.diagrams.Diagrams.+ite.Given as goal

abbrev pub decreases-ite : goal.decreases-ite
decreases-ite l = size_of l.f + size_of l.g + size_of l.h
