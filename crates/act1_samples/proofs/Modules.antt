-- Worked examples of the module and of covers.
use Rattle.std.proofs.Common.{◌≡◌, Bool, true, false, List, [], ◌∷◌, refl}
use Rattle.std.specs.Prelude.{slice_index_or, replicate}
use Rattle.act1_logic.specs.declared.cover.Mark.{Mark}
use Rattle.act1_logic.specs.declared.cover.Mark.TheVariants.{Zero, One, Dash}
use Rattle.act1_logic.specs.declared.cover.Row.{Row}
use Rattle.act1_logic.specs.Module.{module_of}
use Rattle.act1_logic.specs.Rows.{is_cover, literals_of, agrees}

abbrev pub at_pins : List Bool → Bool
at_pins pins = module_of (λ k. slice_index_or pins k false)

-- with both selects of the last multiplexer 0 the side A counts, and SA chooses
gives_a0 : (a0 a1 b0 b1 sb : Bool) → at_pins (a0 ∷ a1 ∷ false ∷ b0 ∷ b1 ∷ sb ∷ false ∷ false ∷ []) ≡ a0
gives_a0 a0 a1 b0 b1 sb = refl

gives_a1 : (a0 a1 b0 b1 sb : Bool) → at_pins (a0 ∷ a1 ∷ true ∷ b0 ∷ b1 ∷ sb ∷ false ∷ false ∷ []) ≡ a1
gives_a1 a0 a1 b0 b1 sb = refl

-- with either of them 1 the side B counts, and SB chooses
gives_b0 : (a0 a1 sa b0 b1 s1 : Bool) → at_pins (a0 ∷ a1 ∷ sa ∷ b0 ∷ b1 ∷ false ∷ true ∷ s1 ∷ []) ≡ b0
gives_b0 a0 a1 sa b0 b1 s1 = refl

gives_b1 : (a0 a1 sa b0 b1 s1 : Bool) → at_pins (a0 ∷ a1 ∷ sa ∷ b0 ∷ b1 ∷ true ∷ true ∷ s1 ∷ []) ≡ b1
gives_b1 a0 a1 sa b0 b1 s1 = refl

gives_b0_by_s1 : (a0 a1 sa b0 b1 : Bool) → at_pins (a0 ∷ a1 ∷ sa ∷ b0 ∷ b1 ∷ false ∷ false ∷ true ∷ []) ≡ b0
gives_b0_by_s1 a0 a1 sa b0 b1 = refl

gives_b1_by_s1 : (a0 a1 sa b0 b1 : Bool) → at_pins (a0 ∷ a1 ∷ sa ∷ b0 ∷ b1 ∷ true ∷ false ∷ true ∷ []) ≡ b1
gives_b1_by_s1 a0 a1 sa b0 b1 = refl

abbrev pub row : List Mark → Row
row marks = record { marks = marks }

no_rows_of_zeros : is_cover 2 false [] ≡ false
no_rows_of_zeros = refl

no_rows : is_cover 2 true [] ≡ true
no_rows = refl

short_row : is_cover 2 true (row (One ∷ []) ∷ []) ≡ false
short_row = refl

inputs_64 : is_cover 64 false (row (replicate 64 Dash) ∷ []) ≡ true
inputs_64 = refl

inputs_65 : is_cover 65 false (row (replicate 65 Dash) ∷ []) ≡ false
inputs_65 = refl

literals : literals_of (row (One ∷ Dash ∷ Zero ∷ []) ∷ row (Dash ∷ Dash ∷ One ∷ []) ∷ []) ≡ 3
literals = refl

dash_agrees : (x : Bool) → agrees (One ∷ Dash ∷ Zero ∷ []) (true ∷ x ∷ false ∷ []) ≡ true
dash_agrees x = refl

mark_differs : (x : Bool) → agrees (One ∷ Dash ∷ Zero ∷ []) (true ∷ x ∷ true ∷ []) ≡ false
mark_differs x = refl
