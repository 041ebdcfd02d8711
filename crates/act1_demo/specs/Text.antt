-- The text of a counter in Berkeley's BLIF. The counter is this project's own: an input enables it, its bits are outputs, and so is their parity.
use Rattle.std.specs.Prelude.{ℕ, ◌+◌, ◌-◌, ◌==◌, if◌then◌else◌, List, [], ◌∷◌, ◌++◌, map, codes}
use Rattle.std.specs.List.{flat_map, range_with_len}
use Rattle.std.specs.Fmt.{decimal}
use Rattle.act1_base.specs.Words.{text_of_lines}

-- the name of a bit's output: what the bit is
abbrev pub state_name : ℕ → List ℕ
state_name i = codes "q" ++ decimal i

-- the name of its input: what the bit will be
abbrev pub data_name : ℕ → List ℕ
data_name i = codes "d" ++ decimal i

-- the name of the signal that is 1 where the bit changes: the input for the first bit
abbrev pub carry_name : ℕ → List ℕ
carry_name i = if i == 0 then codes "en" else codes "c" ++ decimal i

-- the name of the parity of the bits before this one, which is not the first
abbrev pub parity_before : ℕ → List ℕ
parity_before i = if i == 1 then state_name 0 else codes "p" ++ decimal (i - 1)

-- the name of the parity of the bits up to this one, of n: the last one is an output
abbrev pub parity_after : ℕ → ℕ → List ℕ
parity_after n i = if i + 1 == n then codes "par" else codes "p" ++ decimal i

-- the line of the outputs: the bits, and their parity
abbrev pub output_words : ℕ → List (List ℕ)
output_words n = codes ".outputs" ∷ map state_name (range_with_len 0 n) ++ codes "par" ∷ []

-- the line of a bit's latch, which begins as 0
abbrev pub latch_words : ℕ → List (List ℕ)
latch_words i = codes ".latch" ∷ data_name i ∷ state_name i ∷ codes "re" ∷ codes "clk" ∷ codes "0" ∷ []

-- the line of a function of some signals
abbrev pub names_words : List (List ℕ) → List ℕ → List (List ℕ)
names_words inputs output = codes ".names" ∷ inputs ++ output ∷ []

-- a row: what the inputs are where the output is 1
abbrev pub row_words : List ℕ → List (List ℕ)
row_words marks = marks ∷ codes "1" ∷ []

-- the output is 1 where exactly one of two inputs is
abbrev pub differ_lines : List ℕ → List ℕ → List ℕ → List (List (List ℕ))
differ_lines first second output = names_words (first ∷ second ∷ []) output ∷ row_words (codes "10") ∷ row_words (codes "01") ∷ []

-- the output is 1 where both inputs are
abbrev pub both_lines : List ℕ → List ℕ → List ℕ → List (List (List ℕ))
both_lines first second output = names_words (first ∷ second ∷ []) output ∷ row_words (codes "11") ∷ []

-- the output is what the input is
abbrev pub copy_lines : List ℕ → List ℕ → List (List (List ℕ))
copy_lines input output = names_words (input ∷ []) output ∷ row_words (codes "1") ∷ []

-- the lines of a bit, of n: what it will be, and whether the next one changes, if there is one
abbrev pub bit_lines : ℕ → ℕ → List (List (List ℕ))
bit_lines n i =
    differ_lines (carry_name i) (state_name i) (data_name i)
    ++ (if i + 1 == n then [] else both_lines (carry_name i) (state_name i) (carry_name (i + 1)))

-- the lines of the parity up to a bit, of n
abbrev pub parity_step : ℕ → ℕ → List (List (List ℕ))
parity_step n i = differ_lines (parity_before i) (state_name i) (parity_after n i)

-- the lines of the parity of n bits, that of one bit being the bit itself
abbrev pub parity_lines : ℕ → List (List (List ℕ))
parity_lines n = if n == 1 then copy_lines (state_name 0) (codes "par") else flat_map (parity_step n) (range_with_len 1 (n - 1))

-- the words of each line
abbrev pub counter_lines : ℕ → List (List (List ℕ))
counter_lines n =
    (codes ".model" ∷ codes "counter" ∷ []) ∷ (codes ".inputs" ∷ codes "en" ∷ []) ∷ output_words n
    ∷ map latch_words (range_with_len 0 n) ++ flat_map (bit_lines n) (range_with_len 0 n) ++ parity_lines n ++ (codes ".end" ∷ []) ∷ []

-- the text of the counter of n bits
abbrev pub demo_text : ℕ → List ℕ
demo_text n = text_of_lines (counter_lines n)
