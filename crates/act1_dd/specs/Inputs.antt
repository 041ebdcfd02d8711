-- The values of variables, and functions of them.
use Rattle.std.specs.Prelude.{ℕ, ◌+◌, zero, suc, Bool, false, slice_index_or, if◌then◌else◌, ◌==◌, nat_lt, List, [], ◌∷◌}

-- a value for each variable, by its number
abbrev pub Inputs : Type 0
Inputs = ℕ → Bool

-- a function of the variables
abbrev pub Function : Type 0
Function = Inputs → Bool

-- the values of the first variables, and 0 for the others
abbrev pub inputs_of : List Bool → Inputs
inputs_of values k = slice_index_or values k false

-- the inputs with another value for one variable
abbrev pub with_input : Inputs → ℕ → Bool → Inputs
with_input x v b k = if k == v then b else x k

-- the variables below v are fixed, and the others are free
abbrev pub fixed_below : ℕ → Inputs → Inputs → Inputs
fixed_below v fixed x k = if nat_lt k v then fixed k else x k

-- the values of n variables, from the variable v on
abbrev pub inputs_from : Inputs → ℕ → ℕ → List Bool
inputs_from x v zero = []
inputs_from x v (suc n) = x v ∷ inputs_from x (v + 1) n
