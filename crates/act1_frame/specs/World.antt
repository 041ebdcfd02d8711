-- What is seen of the outside: of files, of the print and of helpers.
use Rattle.act1_outside.specs.Outside.{Shelf, Paper, Bench}

pub record World : Type 0 where
  pub shelf : Shelf
  pub paper : Paper
  pub bench : Bench

abbrev pub world_of : Shelf → Paper → Bench → World
world_of shelf paper bench = record { shelf = shelf; paper = paper; bench = bench }
