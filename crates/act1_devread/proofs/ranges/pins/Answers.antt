use Rattle.std.proofs.Common.{◌≡◌, ◌≤◌, ◌<◌, ℕ, List, [], ◌∷◌, length, slice_index_or, nat_eq, refl, arith, rules}
use Rattle.act1_devread.specs.Range.{pins_of}
use Rattle.act1_devread.proofs.ranges.pins.Goals as goal

-- the pins of eight letters, one after the other
eight : (t : List ℕ) → 8 ≤ length t → length t < 9
    → nat_eq (slice_index_or t 0 0) 85 ∷ nat_eq (slice_index_or t 1 0) 85 ∷ nat_eq (slice_index_or t 2 0) 85 ∷ nat_eq (slice_index_or t 3 0) 85
    ∷ nat_eq (slice_index_or t 4 0) 85 ∷ nat_eq (slice_index_or t 5 0) 85 ∷ nat_eq (slice_index_or t 6 0) 85 ∷ nat_eq (slice_index_or t 7 0) 85 ∷ []
    ≡ pins_of t
eight (a ∷ b ∷ c ∷ d ∷ e ∷ f ∷ g ∷ h ∷ []) most least = refl
eight (a ∷ b ∷ c ∷ d ∷ e ∷ f ∷ g ∷ h ∷ i ∷ t) least most = absurd (omega arith)
eight [] least most = absurd (omega arith)
eight (a ∷ []) least most = absurd (omega arith)
eight (a ∷ b ∷ []) least most = absurd (omega arith)
eight (a ∷ b ∷ c ∷ []) least most = absurd (omega arith)
eight (a ∷ b ∷ c ∷ d ∷ []) least most = absurd (omega arith)
eight (a ∷ b ∷ c ∷ d ∷ e ∷ []) least most = absurd (omega arith)
eight (a ∷ b ∷ c ∷ d ∷ e ∷ f ∷ []) least most = absurd (omega arith)
eight (a ∷ b ∷ c ∷ d ∷ e ∷ f ∷ g ∷ []) least most = absurd (omega arith)

pub returns-in-len8 : goal.returns-in-len8
returns-in-len8 c = record {
  passes = search rules;
  given = eight c.args.text.now (omega arith) (omega arith);
  fails = search rules;
  named = search rules;
}
