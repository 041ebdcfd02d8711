-- The forms of lines.
use Rattle.std.proofs.Common.{ℕ, ◌≡◌, ◌≢◌, List, [], ◌∷◌, length, map, None, refl}
use Rattle.std.specs.Borrow.{Bor}
use Rattle.act1_fuses.specs.Forms.{form_of}

-- the bytes of the words
abbrev pub texts : List (Bor (List ℕ)) → List (List ℕ)
texts words = map (λ (word : Bor (List ℕ)). word.now) words

-- lines of other numbers of words are of no form
pub no_form : (ws : List (Bor (List ℕ))) → length ws ≢ 1 → length ws ≢ 2 → length ws ≢ 3 → length ws ≢ 5 → length ws ≢ 6 → length ws ≢ 7 → None ≡ form_of (texts ws)
no_form [] h1 h2 h3 h5 h6 h7 = refl
no_form (a ∷ []) h1 h2 h3 h5 h6 h7 = absurd (h1 refl)
no_form (a ∷ b ∷ []) h1 h2 h3 h5 h6 h7 = absurd (h2 refl)
no_form (a ∷ b ∷ c ∷ []) h1 h2 h3 h5 h6 h7 = absurd (h3 refl)
no_form (a ∷ b ∷ c ∷ d ∷ []) h1 h2 h3 h5 h6 h7 = refl
no_form (a ∷ b ∷ c ∷ d ∷ e ∷ []) h1 h2 h3 h5 h6 h7 = absurd (h5 refl)
no_form (a ∷ b ∷ c ∷ d ∷ e ∷ f ∷ []) h1 h2 h3 h5 h6 h7 = absurd (h6 refl)
no_form (a ∷ b ∷ c ∷ d ∷ e ∷ f ∷ g ∷ []) h1 h2 h3 h5 h6 h7 = absurd (h7 refl)
no_form (a ∷ b ∷ c ∷ d ∷ e ∷ f ∷ g ∷ h ∷ ws) h1 h2 h3 h5 h6 h7 = refl
