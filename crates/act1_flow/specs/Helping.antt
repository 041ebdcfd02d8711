-- What the flow is told of helpers, and what is seen of them.
use Rattle.std.specs.Prelude.{ℕ, List}
use Rattle.act1_outside.specs.Outside.{Bench}

-- the program that is asked, and what is seen of the helpers before and after
pub record Helping : Type 0 where
  pub program : List ℕ
  pub before : Bench
  pub after : Bench

abbrev pub helping_of : List ℕ → Bench → Bench → Helping
helping_of program before after = record { program = program; before = before; after = after }
