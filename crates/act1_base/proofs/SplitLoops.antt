-- A loop over the pieces of a split goes over all of them.
use Rattle.std.proofs.Common.{◌≡◌, List, map, Bool, Option, None}
use Rattle.std.specs.Iterator.{Yields}
use Rattle.std.proofs.lemmas.Iterator.Consumers.{YieldsList-end}
use Rattle.std.proofs.lemmas.Iterator.Splits.{YieldsList-from_slice_split}
use Rattle.std.specs.Fn.{CalledAt}
use Rattle.std.specs.List.{slice_split}
use Rattle.std.specs.Slice.Iter as slice
use denote.Param.Members.{Mut}
use denote.Ref.{Bor}
use mathlib.Core.Bool.{false}

-- the pieces that were yielded until none was left are those of the split
pub all_pieces : {A F : Type 0} (s t u : _) (g : Mut F (Bor A × Unit {0}) Bool) (p : A → Bool) {f : F} (xs : List A) (pieces : List (Bor (List A))) (r : Option (Bor (List A)))
    → Yields (slice.split_steps g) s pieces t → r ≡ None → slice.split_steps g t r u
    → slice.split_rest s ≡ xs → slice.split_done s ≡ false → slice.split_callee s ≡ f → ((x : A) (b : Bool) (q : F) → CalledAt g f x b q → (q ≡ f) × (b ≡ p x))
    → map (λ (piece : Bor (List A)). piece.now) pieces ≡ slice_split p xs
all_pieces s t u g p xs pieces r yields none last rest done callee closure =
    (YieldsList-end (YieldsList-from_slice_split g p xs rest done callee closure) pieces _ yields r _ none last).0
