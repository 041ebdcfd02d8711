-- The calls of an object in memory: how many were made, and which are to fail.
use Rattle.std.specs.Prelude.{ℕ, nat_eq, Bool, [], ◌∷◌, ◌++◌}
use Rattle.std.specs.List.{list_any}
use Rattle.act1_outside.specs.Faults.{next_count}
use Rattle.act1_outside.specs.declared.calls.Calls.{Calls}

-- one call more was made
abbrev pub one_more : Calls → Calls
one_more calls = record calls { made = next_count calls.made }

-- whether the next call is to fail
abbrev pub next_fails : Calls → Bool
next_fails calls = list_any (λ call. nat_eq call (next_count calls.made)) calls.failing

-- the call of this number is to fail too
abbrev pub with_failing : ℕ → Calls → Calls
with_failing call calls = record calls { failing = calls.failing ++ call ∷ [] }
