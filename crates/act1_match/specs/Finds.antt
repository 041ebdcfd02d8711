-- What a search answers.
use Rattle.std.specs.Prelude.{Option, Some, None}

-- this has the property; or nothing has it
abbrev pub Finds : {X : Type 0} → Option X → (X → Type 0) → Type 0
Finds (Some x) P = P x
Finds {X} None P = (x : X) → ¬ P x
