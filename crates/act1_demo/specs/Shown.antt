-- The lines that a netlist of one input shows from the state of zeros, in a run of sixteen cycles that is this project's own.
use Rattle.std.specs.Prelude.{ℕ, ◌≡◌, Bool, true, false, if◌then◌else◌, List, [], ◌∷◌, ◌++◌, length, map, replicate}
use Rattle.std.specs.List.{flat_map}
use Rattle.act1_blif.specs.declared.blif.Blif.{Blif}
use Rattle.act1_blif.specs.Run.{Shows}

-- what the input is in each cycle: 1 three times and then 0, four times over
abbrev pub demo_inputs : List Bool
demo_inputs = true ∷ true ∷ true ∷ false ∷ true ∷ true ∷ true ∷ false ∷ true ∷ true ∷ true ∷ false ∷ true ∷ true ∷ true ∷ false ∷ []

-- a vector for each
abbrev pub vectors_of : List Bool → List (List Bool)
vectors_of inputs = map (λ (input : Bool). input ∷ []) inputs

-- the sixteen vectors
abbrev pub demo_vectors : List (List Bool)
demo_vectors = vectors_of demo_inputs

-- the character of a bit, 0 or 1
abbrev pub digit : Bool → ℕ
digit bit = if bit then 49 else 48

-- the line of some outputs: a character each, and a line feed
abbrev pub shown_line : List Bool → List ℕ
shown_line outputs = map digit outputs ++ 10 ∷ []

-- the lines of all cycles
abbrev pub shown_text : List (List Bool) → List ℕ
shown_text shown = flat_map shown_line shown

-- the text has the lines that the netlist shows from the state of zeros, over these vectors
pub record AreLinesOver (net : Blif) (vectors : List (List Bool)) (text : List ℕ) : Type 0 where
  pub shown : List (List Bool)
  pub shows : Shows net (replicate (length net.latches) false) vectors shown
  pub text_is : text ≡ shown_text shown

-- over the sixteen
abbrev pub AreLinesOf : Blif → List ℕ → Type 0
AreLinesOf net text = AreLinesOver net demo_vectors text
