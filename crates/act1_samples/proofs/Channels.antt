-- Worked examples of channels: segments, clashes and assignments.
use Rattle.std.proofs.Common.{ℕ, zero, suc, ◌≡◌, ◌<◌, true, List, [], ◌∷◌, Some, slice_get, refl, arith}
use Rattle.act1_channel.specs.declared.problem.Problem.{Problem}
use Rattle.act1_channel.specs.declared.problem.Connection.{Connection}
use Rattle.act1_channel.specs.Assignment.{choice_at, segments, Assigns, DoClash, IsAllowed, Overlaps}
use Rattle.act1_channel.specs.Ranges.{is_problem}
use Rattle.act1_channel.proofs.Breaks.{clash_is}

abbrev pub span : ℕ → ℕ → Connection
span left right = record { left = left; right = right }

pub cut_is_problem : is_problem 9 3 ((3 ∷ 6 ∷ []) ∷ []) (span 2 6 ∷ []) ≡ true
unfolding is_problem
cut_is_problem = refl

-- nine columns and one track, whose segments are the columns 0 to 2, 3 to 5 and 6 to 8
abbrev pub cut : Problem
cut = record { columns = 9; k = 3; tracks = (3 ∷ 6 ∷ []) ∷ []; connections = span 2 6 ∷ []; valid = cut_is_problem }

three_segments : segments cut 0 0 ≡ 3
three_segments = refl

-- column 4 is in the middle one
middle : Overlaps cut 0 0 1
middle = (4, omega arith, omega arith, refl)

cut_is_assigned : Assigns cut (0 ∷ [])
cut_is_assigned = record { each = refl; allowed = allowed; apart = apart }
  where
    allowed : (c t : ℕ) → slice_get (0 ∷ []) c ≡ Some t → IsAllowed cut (choice_at c t)
    allowed zero zero e = (omega arith, omega arith, omega arith)
    allowed zero (suc t) e = cc
    allowed (suc c) t e = cc

    apart : (c d t : ℕ) → c < d → slice_get (0 ∷ []) c ≡ Some t → slice_get (0 ∷ []) d ≡ Some t → DoClash cut c d t → ⊥
    apart c zero t less one other clash = absurd (omega arith)
    apart c (suc d) t less one other clash = cc

-- two segments are too few
short_is_problem : is_problem 9 2 ((3 ∷ 6 ∷ []) ∷ []) (span 2 6 ∷ []) ≡ true
unfolding is_problem
short_is_problem = refl

short_has_none : (tracks : List ℕ) → Assigns (record { columns = 9; k = 2; tracks = (3 ∷ 6 ∷ []) ∷ []; connections = span 2 6 ∷ []; valid = short_is_problem }) tracks → ⊥
short_has_none [] fits = let each = fits.each in omega arith
short_has_none (zero ∷ tracks) fits = let few = (fits.allowed 0 0 refl).2 in omega arith
short_has_none (suc t ∷ tracks) fits = let low = (fits.allowed 0 (suc t) refl).1 in omega arith

-- connections that have no column in common clash in one segment
apart_is_problem : is_problem 4 1 ([] ∷ (2 ∷ []) ∷ []) (span 0 1 ∷ span 2 3 ∷ []) ≡ true
unfolding is_problem
apart_is_problem = refl

abbrev apart : Problem
apart = record { columns = 4; k = 1; tracks = [] ∷ (2 ∷ []) ∷ []; connections = span 0 1 ∷ span 2 3 ∷ []; valid = apart_is_problem }

clash_without_break : DoClash apart 0 1 0
clash_without_break = (0, (0, omega arith, omega arith, refl), (2, omega arith, omega arith, refl))

-- .. and don't where a break parts them
no_clash_with_one : DoClash apart 0 1 1 → ⊥
no_clash_with_one clash = let meets = (clash_is apart 0 1 1).0 clash in let low = meets.1 in absurd (omega arith)
