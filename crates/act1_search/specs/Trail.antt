-- The facts that a watch found, in their order, each with its reason.
use Rattle.std.specs.Prelude.{ℕ, ◌≡◌, ◌≢◌, ◌<◌, true, Option, Some, None, List, take, slice_get, Contains}
use Rattle.act1_channel.specs.declared.problem.Problem.{Problem}
use Rattle.act1_channel.specs.declared.problem.Choice.{Choice}
use Rattle.act1_channel.specs.declared.problem.Hint.{Hint}
use Rattle.act1_channel.specs.Clauses.{Fact, opposite, IsPart}
use Rattle.act1_channel.specs.declared.trail.Entry.{Entry}
use Rattle.act1_channel.specs.Found.{fact_of}
use Rattle.act1_search.specs.Closure.{IsUsed}

-- the fact was found
abbrev pub HasFound : List Entry → Fact → Type 0
HasFound trail f = (n : ℕ) × (e : Entry) × (slice_get trail n ≡ Some e) × (fact_of e ≡ f)

-- a fact was assumed, or is the one part of a clause of which all others are contradicted by the facts before
abbrev pub IsGrounded : Problem → List (List Choice) → List Choice → List Entry → Fact → Option Hint → Type 0
IsGrounded p steps chosen before f None = (f.truth ≡ true) × Contains chosen f.choice
IsGrounded p steps chosen before f (Some h) = IsUsed p steps h × IsPart p steps h f × ((g : Fact) → IsPart p steps h g → g ≢ f → HasFound before (opposite g))

-- each fact has its ground in those before it, no choice has two, and each choice assumed is there
pub record IsTrail (p : Problem) (steps : List (List Choice)) (chosen : List Choice) (trail : List Entry) : Type 0 where
  pub grounded : (n : ℕ) (e : Entry) → slice_get trail n ≡ Some e → IsGrounded p steps chosen (take n trail) (fact_of e) e.why
  pub distinct : (m n : ℕ) (d e : Entry) → m < n → slice_get trail m ≡ Some d → slice_get trail n ≡ Some e → d.choice ≢ e.choice
  pub assumed : (c : Choice) → Contains chosen c → (n : ℕ) × (e : Entry) × (slice_get trail n ≡ Some e) × (e.choice ≡ c) × (e.why ≡ None)
