-- How many forks the reduced ordered diagram of a function has, in words of functions alone.
use Rattle.std.specs.Prelude.{ℕ, ◌≡◌, ◌≢◌, ◌<◌, true, false, List, length, All, AllPairs}
use Rattle.act1_dd.specs.Inputs.{Inputs, Function, with_input, fixed_below}

-- the same value at all inputs
abbrev pub IsSame : Function → Function → Type 0
IsSame f g = (x : Inputs) → f x ≡ g x

-- at some inputs the value of the variable matters
pub record DependsOn (f : Function) (v : ℕ) : Type 0 where
  pub inputs : Inputs
  pub matters : f (with_input inputs v false) ≢ f (with_input inputs v true)

-- g comes from f by fixing the inputs below some variable, on which it depends
pub record IsForkOf (f g : Function) : Type 0 where
  pub var : ℕ
  pub fixed : Inputs
  pub comes : (x : Inputs) → g x ≡ f (fixed_below var fixed x)
  pub depends : DependsOn g var

-- more than n different forks come from f
pub record HasMoreForks (f : Function) (n : ℕ) : Type 0 where
  pub forks : List Function
  pub more : n < length forks
  pub each : All (IsForkOf f) forks
  pub different : AllPairs (λ g h. ¬ IsSame g h) forks
