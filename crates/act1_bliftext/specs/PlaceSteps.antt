-- How a text is read line by line.
use Rattle.std.specs.Prelude.{ℕ, ◌≡◌, ◌⊎◌, ◌++◌, ◌+◌, List, [], ◌∷◌, length, map, sum_by, Option, Some, None, Result, Ok, Err}
use Rattle.std.specs.Borrow.{Bor}
use Rattle.act1_bliftext.specs.Lines.{Line, line_of, over, words_of, without_comment, before_backslash}
use Rattle.act1_bliftext.specs.Faults.{first_fault, fault_of}
use Rattle.act1_bliftext.specs.ReadingSteps.{IsRead, open_marks}
use Rattle.act1_bliftext.specs.declared.fault.BlifFault.{BlifFault}
use Rattle.act1_bliftext.specs.declared.fault.BlifKind.TheVariants as kind
use Rattle.act1_bliftext.specs.declared.place.Place.{Place}
use Rattle.act1_bliftext.specs.declared.reading.Reading.{Reading}

-- no line above has a fault
abbrev pub Faultless : List Line → Type 0
Faultless [] = Unit {0}
Faultless (line ∷ above) = (fault_of above line ≡ None) × Faultless above

-- the fault of a text, or want of memory
abbrev pub IsFault : Option BlifFault → BlifFault → Type 0
IsFault first fault = (fault.kind ≡ kind.Memory) ⊎ (first ≡ Some fault)

-- what further lines give
abbrev pub TakesLines : List Line → List Line → Result Reading BlifFault → Type 0
TakesLines above lines (Ok new) = (first_fault above lines ≡ None) × IsRead (over lines above) new
TakesLines above lines (Err fault) = IsFault (first_fault above lines) fault

-- the words of a line are added to a joined line, which ends with it or goes on
abbrev pub joined_words : Option (List ℕ) → ℕ → ℕ → List (List ℕ) → List (List ℕ) → (ℕ → List (List ℕ) → List Line) → List Line
joined_words None first next words more lines = line_of first (words ++ more) ++ lines next []
joined_words (Some front) first next words more lines = lines first (words ++ words_of front)

-- the lines with words that are still to come, where these words of a joined line have been read, and this is the number of the next line
abbrev pub ahead : List (List ℕ) → ℕ → ℕ → List (List ℕ) → List Line
ahead [] number first words = line_of first words
ahead (raw ∷ raws) number first words =
    joined_words (before_backslash (without_comment raw)) first (number + 1) words (words_of (without_comment raw)) (ahead raws (number + 1))

-- the bytes of words
abbrev pub bytes_of : List (Bor (List ℕ)) → List (List ℕ)
bytes_of words = map (λ (word : Bor (List ℕ)). word.now) words

-- the reading is that of lines above, none of which has a fault, and these lines with words are still to come, of all
pub record IsBefore (all to_come : List Line) (reading : Reading) : Type 0 where
  pub above : List Line
  pub read : IsRead above reading
  pub faultless : Faultless above
  pub faults : first_fault above to_come ≡ first_fault [] all
  pub lines : over to_come above ≡ over all []

-- the place is where these raw lines are still to come, of a text with these lines with words
abbrev pub IsPlace : List Line → List (List ℕ) → Place → Type 0
IsPlace all raws place = IsBefore all (ahead raws place.number place.first (bytes_of place.words.items)) place.reading

-- the joined line has ended, and these raw lines are still to come
abbrev pub IsEnd : List Line → List (List ℕ) → Place → Type 0
IsEnd all raws place = IsBefore all (line_of place.first (bytes_of place.words.items) ++ ahead raws place.number place.number []) place.reading

-- what a raw line gives
abbrev pub StepGives : List Line → List (List ℕ) → Result Place BlifFault → Type 0
StepGives all raws (Ok new) = IsPlace all raws new
StepGives all raws (Err fault) = IsFault (first_fault [] all) fault

-- the bytes that are kept as marks and words
abbrev pub kept_bytes : Place → ℕ
kept_bytes place = open_marks place.reading.open_names + sum_by length (bytes_of place.words.items)

-- the reading is that of a whole text without a fault
pub record IsWhole (reading : Reading) : Type 0 where
  pub above : List Line
  pub read : IsRead above reading
  pub faultless : Faultless above

-- what a whole text gives
abbrev pub AllGives : List Line → Result Reading BlifFault → Type 0
AllGives all (Ok new) = (first_fault [] all ≡ None) × IsRead (over all []) new
AllGives all (Err fault) = IsFault (first_fault [] all) fault
