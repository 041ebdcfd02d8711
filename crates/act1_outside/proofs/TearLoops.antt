-- Going over tears.
use Rattle.std.proofs.Common.{ℕ, suc, zero, ◌≡◌, ◌<◌, ◌≤◌, ◌+◌, nat_eq, if◌then◌else◌, List, [], ◌∷◌, length, drop, get_or, Option, Some, refl, sym, ap, ◌∙◌, arith, add-one}
use Rattle.act1_outside.specs.declared.tear.Tear.{Tear}
use Rattle.act1_outside.specs.Tears.{left_after}

drop_at : (tears : List Tear) (at : ℕ) (d : Tear) → at < length tears → drop at tears ≡ get_or tears at d ∷ drop (suc at) tears
drop_at [] at d low = absurd (omega arith)
drop_at (t ∷ tears) zero d low = refl
drop_at (t ∷ tears) (suc at) d low = drop_at tears at d (omega arith)

drop_end : (tears : List Tear) (at : ℕ) → length tears ≤ at → drop at tears ≡ []
drop_end [] zero low = refl
drop_end [] (suc at) low = refl
drop_end (t ∷ tears) zero low = absurd (omega arith)
drop_end (t ∷ tears) (suc at) low = drop_end tears at (omega arith)

-- one tear more
pub left_more : (so_far : Option ℕ) (call at : ℕ) (tears : List Tear) (d : Tear) → at < length tears
    → left_after (if nat_eq (get_or tears at d).call call then Some (get_or tears at d).left else so_far) call (drop (at + 1) tears) ≡ left_after so_far call (drop at tears)
left_more so_far call at tears d low = sym (ap (λ (l : List Tear). left_after so_far call l) (drop_at tears at d low) ∙ rw add-one refl)

-- and none
pub left_end : (so_far : Option ℕ) (call at : ℕ) (tears : List Tear) → length tears ≤ at → left_after so_far call (drop at tears) ≡ so_far
left_end so_far call at tears low = ap (λ (l : List Tear). left_after so_far call l) (drop_end tears at low)
