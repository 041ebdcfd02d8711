-- Open tickets: one more, and one less.
use Rattle.std.proofs.Common.{ℕ, suc, ◌≡◌, ◌<◌, ◌≤◌, true, false, nat_eq, List, [], ◌∷◌, ◌++◌, refl, ap, ◌∙◌, arith}
use Rattle.std.proofs.lemmas.Bool.Decides.{nat_tests}
use Rattle.std.specs.Prelude.{All}
use Rattle.act1_outside.specs.Outside.{without}
use Rattle.act1_farm.specs.Jobs.{Climb}

-- a ticket more
pub climb_more : (low : ℕ) (ts : List ℕ) (high later : ℕ) → Climb low ts high → high < later → Climb low (ts ++ high ∷ []) later
climb_more low [] high later c above = (c, omega arith)
climb_more low (t ∷ ts) high later c above = (c.0, climb_more (suc t) ts high later c.1 above)

pub climb_wider : (lower low : ℕ) (ts : List ℕ) (high : ℕ) → lower ≤ low → Climb low ts high → Climb lower ts high
climb_wider lower low [] high l c = omega arith
climb_wider lower low (t ∷ ts) high l c = let h = c.0 in (omega arith, c.1)

keep : (u t : ℕ) (us vs : List ℕ) → nat_eq u t ≡ false → without t us ≡ vs → without t (u ∷ us) ≡ u ∷ vs
keep u t us vs apart e = rw apart (ap (λ (r : List ℕ). u ∷ r) e)

-- a ticket isn't among later ones
pub without_later : (t low : ℕ) (ts : List ℕ) (high : ℕ) → t < low → Climb low ts high → without t ts ≡ ts
without_later t low [] high l c = refl
without_later t low (u ∷ ts) high l c = let h = c.0 in keep u t ts ts (grind (arith, nat_tests)) (without_later t (suc u) ts high (omega arith) c.1)

-- and not among older ones
pub without_older : (t low : ℕ) (ts : List ℕ) → low ≤ t → All (λ u. u < low) ts → without t ts ≡ ts
without_older t low [] l older = refl
without_older t low (u ∷ ts) l older = let h : u < low = older 0 0 (omega arith) in keep u t ts ts (grind (arith, nat_tests)) (without_older t low ts l (λ k d below. older (suc k) d (omega arith)))

drop_it : (t : ℕ) (ts : List ℕ) → without t (t ∷ ts) ≡ without t ts
drop_it t ts = let same : nat_eq t t ≡ true = grind (arith, nat_tests) in rw same refl

-- the oldest ticket goes
pub without_first : (t low : ℕ) (ts : List ℕ) (high : ℕ) → Climb low (t ∷ ts) high → without t (t ∷ ts) ≡ ts
without_first t low ts high c = drop_it t ts ∙ without_later t (suc t) ts high (omega arith) c.1

pub without_behind : (t low : ℕ) (olds ts : List ℕ) (high : ℕ) → All (λ u. u < low) olds → Climb low (t ∷ ts) high → without t (olds ++ t ∷ ts) ≡ olds ++ ts
without_behind t low [] ts high older c = without_first t low ts high c
without_behind t low (u ∷ olds) ts high older c =
    let h : u < low = older 0 0 (omega arith) in
    let l = c.0 in
    keep u t (olds ++ t ∷ ts) (olds ++ ts) (grind (arith, nat_tests)) (without_behind t low olds ts high (λ k d below. older (suc k) d (omega arith)) c)
