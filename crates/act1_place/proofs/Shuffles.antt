-- Steps of the shuffle of sites.
use Rattle.std.proofs.Common.{ℕ, zero, suc, ◌≡◌, ◌+◌, ◌-◌, ◌<◌, ◌≤◌, ◌%◌, List, refl, ap, ◌∙◌, arith}
use Rattle.std.specs.Prelude.{swap}
use Rattle.rand_pcg.specs.Lcg.{Lcg}
use Rattle.rand_pcg.specs.Pcg.{pcg32}
use Rattle.act1_place.specs.Start.{shuffled}

module _ {A : Type 0} where
  pub shuffled_step : (left : ℕ) (g : Lcg) (xs : List A) → 1 < left → shuffled (left - 1) (pcg32 g).1 (swap xs (left - 1) ((pcg32 g).0 % (left - 1 + 1))) ≡ shuffled left g xs
  unfolding shuffled
  shuffled_step zero g xs low = absurd (omega arith)
  shuffled_step (suc zero) g xs low = absurd (omega arith)
  shuffled_step (suc (suc i)) g xs low =
      let one : suc (suc i) - 1 ≡ suc i = omega arith in
      let two : suc i ≡ i + 1 = omega arith in
      let three : suc i + 1 ≡ i + 2 = omega arith in
      ap (λ (n : ℕ). shuffled n (pcg32 g).1 (swap xs n ((pcg32 g).0 % (n + 1)))) one
      ∙ ap (λ (n : ℕ). shuffled (suc i) (pcg32 g).1 (swap xs (suc i) ((pcg32 g).0 % n))) three
      ∙ ap (λ (n : ℕ). shuffled (suc i) (pcg32 g).1 (swap xs n ((pcg32 g).0 % (i + 2)))) two

  pub shuffled_done : (left : ℕ) (g : Lcg) (xs : List A) → left ≤ 1 → shuffled left g xs ≡ xs
  unfolding shuffled
  shuffled_done zero g xs low = refl
  shuffled_done (suc zero) g xs low = refl
  shuffled_done (suc (suc i)) g xs low = absurd (omega arith)

  pub shuffle_next : (left word : ℕ) (g h : Lcg) (xs ys : List A) → 1 < left → word ≡ (pcg32 g).0 → h ≡ (pcg32 g).1 → ys ≡ swap xs (left - 1) (word % (left - 1 + 1)) → shuffled (left - 1) h ys ≡ shuffled left g xs
  shuffle_next left word g h xs ys low w e y =
      ap (λ (zs : List A). shuffled (left - 1) h zs) (y ∙ ap (λ (n : ℕ). swap xs (left - 1) (n % (left - 1 + 1))) w)
      ∙ ap (λ (k : Lcg). shuffled (left - 1) k (swap xs (left - 1) ((pcg32 g).0 % (left - 1 + 1)))) e
      ∙ shuffled_step left g xs low
