-- What the words of a line say, by their places.
use Rattle.std.specs.Prelude.{ℕ, List, [], ◌∷◌, ◌++◌, Option, Some, None, slice_get}
use Rattle.act1_base.specs.Capped.{at_most}
use Rattle.act1_table.specs.declared.forms.Given.{Given}
use Rattle.act1_table.specs.declared.forms.Given.TheVariants as given
use Rattle.act1_table.specs.declared.forms.LineGiven.{LineGiven}

abbrev pub first : List ℕ → ℕ
first [] = 0
first (n ∷ numbers) = n

abbrev pub others : List ℕ → List ℕ
others [] = []
others (n ∷ numbers) = numbers

abbrev pub numbers_said : Given → List ℕ
numbers_said (given.Name name) = []
numbers_said (given.Way way numbers) = numbers

abbrev pub way_said : Given → ℕ
way_said (given.Name name) = 0
way_said (given.Way way numbers) = way

abbrev pub name_said : Given → List ℕ
name_said (given.Name name) = name
name_said (given.Way way numbers) = []

abbrev pub given_or : Option Given → Given
given_or None = given.Way 0 []
given_or (Some word) = word

-- the numbers, the way and the name of the word at a place
abbrev pub numbers_at : List Given → ℕ → List ℕ
numbers_at words i = numbers_said (given_or (slice_get words i))

abbrev pub number_at : List Given → ℕ → ℕ
number_at words i = first (numbers_at words i)

abbrev pub way_at : List Given → ℕ → ℕ
way_at words i = way_said (given_or (slice_get words i))

abbrev pub name_at : List Given → ℕ → List ℕ
name_at words i = name_said (given_or (slice_get words i))

-- the first number of a word, or the most where it is greater
abbrev pub number_up_to : ℕ → Given → ℕ
number_up_to most word = at_most most (first (numbers_said word))

-- what a fixed word says, and a word that is a number
abbrev pub fixed : Given
fixed = given.Way 0 []

abbrev pub number : ℕ → Given
number n = given.Way 0 (n ∷ [])

-- the line with a word more
abbrev pub with_word : LineGiven → Given → LineGiven
with_word line word = record line { words = line.words ++ word ∷ [] }
