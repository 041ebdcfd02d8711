-- The loop over the channels.
use Rattle.std.proofs.Common.{ℕ, suc, zero, ◌≡◌, ◌<◌, ◌≤◌, ◌+◌, Bool, true, false, List, [], ◌∷◌, length, Option, Some, None, refl, sym, ap, ◌∙◌, arith}
use Rattle.std.specs.Prelude.{slice_get, slice_index_or}
use Rattle.act1_base.proofs.ListGets.{get_within}
use Rattle.act1_channel.specs.declared.problem.Problem.{Problem}
use Rattle.act1_search.specs.declared.verdict.Verdict.{Verdict}
use Rattle.act1_farm.specs.Usable.{Decides}
use Rattle.act1_farm.specs.Story.{has_connections, asked_for}
use Rattle.act1_farm.specs.Deciding.{AreDecided, own_found}
use Rattle.act1_farm.proofs.ChannelVerdicts.{place_at}

-- what a list has at a place, or `None`
pub found_at : (found : List (Option Verdict)) (n : ℕ) (w : Verdict) → slice_index_or found n None ≡ Some w → slice_get found n ≡ Some (Some w)
found_at [] n w h = cc
found_at (o ∷ found) zero w h = ap (λ (x : Option Verdict). let r : Option (Option Verdict) = Some x in r) h
found_at (o ∷ found) (suc n) w h = found_at found n w h

same_at : (left found : List (Option Verdict)) (n : ℕ) → slice_get left n ≡ slice_get found n → slice_index_or left n None ≡ slice_index_or found n None
same_at [] [] n h = refl
same_at [] (o ∷ found) zero h = cc
same_at [] (o ∷ found) (suc n) h = same_at [] found n h
same_at (o ∷ left) [] zero h = cc
same_at (o ∷ left) [] (suc n) h = same_at left [] n h
same_at (o ∷ left) (q ∷ found) zero h = cc
same_at (o ∷ left) (q ∷ found) (suc n) h = same_at left found n h

pub chosen_true : (p : Problem) (found : List (Option Verdict)) (n : ℕ) → has_connections p ≡ true → own_found p found n ≡ slice_index_or found n None
chosen_true p found n e = rw e refl

pub chosen_false : (p : Problem) (found : List (Option Verdict)) (n : ℕ) → has_connections p ≡ false → own_found p found n ≡ None
chosen_false p found n e = rw e refl

pub no_found : (w : Verdict) → (let o : Option Verdict = None in o) ≡ Some w → ⊥
no_found w h = cc

-- what was found for a problem is there until it is taken out
pub same_own : (p : Problem) (left found : List (Option Verdict)) (n : ℕ) → slice_get left n ≡ slice_get found n → own_found p left n ≡ own_found p found n
same_own p left found n h = by (has_connections p) refl
  where
    by : (b : Bool) → has_connections p ≡ b → own_found p left n ≡ own_found p found n
    by true e = rw e (same_at left found n h)
    by false e = rw e refl

module _ (problems : List Problem) (budget : ℕ) (found left : List (Option Verdict)) (c number : ℕ) (verdicts : List Verdict) (d : AreDecided problems budget found c number verdicts)
    (p : Problem) (there : slice_get problems c ≡ Some p) where
  place_of_number : has_connections p ≡ true → slice_get (asked_for problems) number ≡ Some p
  place_of_number has = ap (λ (k : ℕ). slice_get (asked_for problems) k) d.number ∙ place_at problems c p there has

  pub within_left : length left ≡ length found → length found ≡ length (asked_for problems) → has_connections p ≡ true → number < length left
  within_left long each has = let l = get_within (asked_for problems) number p (place_of_number has) in omega arith

  pub own_decides : ((i : ℕ) (q : Problem) (w : Verdict) → slice_get (asked_for problems) i ≡ Some q → slice_get found i ≡ Some (Some w) → Decides q w) → (w : Verdict) → own_found p found number ≡ Some w → Decides p w
  own_decides decides w h = by (has_connections p) refl
    where
      by : (b : Bool) → has_connections p ≡ b → Decides p w
      by true e = decides number p w (place_of_number e) (found_at found number w (sym (chosen_true p found number e) ∙ h))
      by false e = absurd (no_found w (sym (chosen_false p found number e) ∙ h))

pub number_rises : (b : Bool) (old new : ℕ) → (b ≡ true → new ≡ old + 1) → (b ≡ false → new ≡ old) → old ≤ new
number_rises true old new one none = let e = one refl in omega arith
number_rises false old new one none = let e = none refl in omega arith
