-- Counting what was found, and what is found of each problem.
use Rattle.std.proofs.Common.{ℕ, ◌≡◌, ◌<◌, ◌+◌, true, false, List, [], ◌∷◌, length, take, get_or, Option, Some, refl, sym, ap, subst, ◌∙◌}
use Rattle.std.specs.Prelude.{count_by, slice_get}
use Rattle.std.specs.Option.{is_some}
use Rattle.std.proofs.lemmas.List.Sums.{count_by_more_yes, count_by_more_no}
use Rattle.act1_base.proofs.ListGets.{some_is}
use Rattle.act1_outside.specs.Outside.{Bench}
use Rattle.act1_channel.specs.declared.problem.Problem.{Problem}
use Rattle.act1_search.specs.declared.verdict.Verdict.{Verdict}
use Rattle.act1_farm.specs.declared.course.Course.{Course}
use Rattle.act1_farm.specs.Usable.{Decides}
use Rattle.act1_farm.specs.Story.{asked_for}
use Rattle.act1_farm.specs.Course.{IsFound}
use Rattle.act1_farm.specs.Helping.{Helped}

pub one_more : {X : Type 0} (xs : List (Option X)) (i : ℕ) (d : Option X) → i < length xs → is_some (get_or xs i d) ≡ true → count_by is_some (take (i + 1) xs) ≡ count_by is_some (take i xs) + 1
one_more xs i d low e = count_by_more_yes is_some xs i d low e

pub none_more : {X : Type 0} (xs : List (Option X)) (i : ℕ) (d : Option X) → i < length xs → is_some (get_or xs i d) ≡ false → count_by is_some (take (i + 1) xs) ≡ count_by is_some (take i xs)
none_more xs i d low e = count_by_more_no is_some xs i d low e

pub all_of : {X : Type 0} (xs : List X) → take (length xs) xs ≡ xs
all_of [] = refl
all_of (x ∷ xs) = ap (λ z. x ∷ z) (all_of xs)

-- what was found decides
pub found_decides : (program : List ℕ) (problems : List Problem) (budget most : ℕ) (before after : Bench) (course : Course) → Helped program problems budget most before after course
    → (i : ℕ) (p : Problem) (w : Verdict) → slice_get (asked_for problems) i ≡ Some p → slice_get course.answers i ≡ Some (Some w) → Decides p w
found_decides program problems budget most before after course h i p w there is = by (h.found.kept i (Some w) is)
  where
    by : IsFound (asked_for problems) h.s i (Some w) → Decides p w
    by (q, bytes, at, answer, brings) = subst (λ (x : Problem). Decides x w) (some_is q p (sym at ∙ there)) brings.0
