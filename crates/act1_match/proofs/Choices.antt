-- The list of what a pin may be connected to has each constant and variable once, in an order by which the first few are those of fewer variables.
use Rattle.std.proofs.Common.{◌≡◌, ℕ, zero, suc, ◌+◌, ◌<◌, ◌≤◌, List, [], ◌∷◌, take, get_or, All, Contains, refl, arith, length-take, get_or-take}
use Rattle.act1_match.specs.Choice.{IsChoice}
use Rattle.act1_match.specs.declared.choice.PinChoice.{PinChoice}
use Rattle.act1_match.specs.declared.choice.PinChoice.TheVariants.{Zero, One, Var}

-- the constants and six variables
abbrev pub all_choices : List PinChoice
all_choices = Zero ∷ One ∷ Var 0 ∷ Var 1 ∷ Var 2 ∷ Var 3 ∷ Var 4 ∷ Var 5 ∷ []

-- those of so many variables
abbrev pub choices_of : ℕ → List PinChoice
choices_of vars = take (vars + 2) all_choices

is_choice : (vars k : ℕ) (d : PinChoice) → k < vars + 2 → k < 8 → IsChoice vars (get_or all_choices k d)
is_choice vars zero d h lt = tt
is_choice vars (suc zero) d h lt = tt
is_choice vars (suc (suc zero)) d h lt = omega arith
is_choice vars (suc (suc (suc zero))) d h lt = omega arith
is_choice vars (suc (suc (suc (suc zero)))) d h lt = omega arith
is_choice vars (suc (suc (suc (suc (suc zero))))) d h lt = omega arith
is_choice vars (suc (suc (suc (suc (suc (suc zero)))))) d h lt = omega arith
is_choice vars (suc (suc (suc (suc (suc (suc (suc zero))))))) d h lt = omega arith
is_choice vars (suc (suc (suc (suc (suc (suc (suc (suc k)))))))) d h lt = absurd (omega arith)

-- each of them is one
pub are_choices : (vars : ℕ) → All (IsChoice vars) (choices_of vars)
are_choices vars k d lt =
    let long = length-take (vars + 2) all_choices in
    let within : k < vars + 2 = omega arith in
    let inside : k < 8 = omega arith in
    rw get_or-take (is_choice vars k d within inside)

-- the variable j stands behind the two constants
variable_place : (j : ℕ) (d : PinChoice) → j < 6 → get_or all_choices (j + 2) d ≡ Var j
variable_place zero d lt = refl
variable_place (suc zero) d lt = refl
variable_place (suc (suc zero)) d lt = refl
variable_place (suc (suc (suc zero))) d lt = refl
variable_place (suc (suc (suc (suc zero)))) d lt = refl
variable_place (suc (suc (suc (suc (suc zero))))) d lt = refl
variable_place (suc (suc (suc (suc (suc (suc j)))))) d lt = absurd (omega arith)

-- each one is of them
pub choice_listed : (vars : ℕ) → vars ≤ 6 → (x : PinChoice) → IsChoice vars x → Contains (choices_of vars) x
choice_listed vars most Zero h =
    let long = length-take (vars + 2) all_choices in
    let within : 0 < vars + 2 = omega arith in
    (0, omega arith, rw get_or-take refl)
choice_listed vars most One h =
    let long = length-take (vars + 2) all_choices in
    let within : 1 < vars + 2 = omega arith in
    (1, omega arith, rw get_or-take refl)
choice_listed vars most (Var j) h =
    let long = length-take (vars + 2) all_choices in
    let within : j + 2 < vars + 2 = omega arith in
    (j + 2, omega arith, rw get_or-take (variable_place j (Var j) (omega arith)))
