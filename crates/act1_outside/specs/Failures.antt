-- How often calls of a name have failed.
use Rattle.std.specs.Prelude.{ℕ, List, count_by}
use Rattle.std.specs.Str.{bytes_eq}
use Rattle.act1_outside.specs.declared.failures.Failures.{Failures}

-- how often a name is in the list
abbrev pub times : List (List ℕ) → List ℕ → ℕ
times names name = count_by (λ n. bytes_eq name n) names

-- how often a call of the name failed
abbrev pub failures_of : Failures → List ℕ → ℕ
failures_of failures = times failures.names
