-- The choices of a descent are those of an accepted step.
use Rattle.std.proofs.Common.{ℕ, suc, ◌≡◌, ◌<◌, List, [], ◌∷◌, Some, map, slice_get, refl, inl, arith}
use Rattle.std.proofs.lemmas.Option.{slice_get-get_or}
use Rattle.act1_base.specs.Rising.{Rises}
use Rattle.act1_channel.specs.declared.problem.Problem.{Problem}
use Rattle.act1_channel.specs.declared.problem.Choice.{Choice}
use Rattle.act1_channel.specs.declared.problem.Hint.{Hint}
use Rattle.act1_channel.specs.Acceptance.{LeadToConflict, IsAcceptedStep, IsBefore}
use Rattle.act1_channel.specs.Clauses.{taken}
use Rattle.act1_search.specs.Search.{Descends}
use Rattle.act1_search.proofs.Lighter.{connections_rise}

rises_of : (xs : List Choice) → ((i j : ℕ) (a b : Choice) → i < j → slice_get xs i ≡ Some a → slice_get xs j ≡ Some b → a.connection < b.connection) → Rises IsBefore xs
rises_of [] up = tt
rises_of (x ∷ []) up = tt
rises_of (x ∷ y ∷ xs) up = (inl (up 0 1 x y (omega arith) refl refl), rises_of (y ∷ xs) (λ i j a b low u v. up (suc i) (suc j) a b (omega arith) u v))

-- the choices of a descent are those of an accepted step, with hints that lead to a conflict
pub accepted_step : (p : Problem) (steps : List (List Choice)) (chosen : List Choice) (hints : List Hint) → Descends p steps chosen → LeadToConflict p steps (map taken chosen) hints → IsAcceptedStep p steps (record { choices = chosen; hints = hints })
accepted_step p steps chosen hints d lead = record {
  within = λ k x low. let own = d.decided k _ (slice_get-get_or chosen k x low) in (own.is_there, own.first_open.allowed.1);
  rise = rises_of chosen (λ i j a b low x y. connections_rise p steps chosen i j a b d low x y);
  shown = lead;
}
