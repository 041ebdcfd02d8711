-- The first faulty line of a text, in the words of the texts alone. What the texts of a format are is any property of bytes that some bytes have, each of which ends with a line feed; a line is what a line feed ends.
use Rattle.std.specs.Prelude.{ℕ, ◌≡◌, ◌≢◌, ◌+◌, ◌⊎◌, ◌↔◌, List, [], ◌∷◌, ◌++◌, length, Result, Ok, Err, IsOk}
use Rattle.std.specs.List.{flat_map, AllByRecursion}
use Rattle.act1_base.specs.declared.texts.Stop.{Stop}
use Rattle.act1_base.specs.declared.texts.Stop.TheVariants.{Fault, Memory}
use Rattle.act1_base.specs.declared.texts.TextFault.{TextFault}
use Rattle.act1_base.specs.Texts.{LineRules, reading}

-- no line feed stands in the bytes
abbrev pub IsOneLine : List ℕ → Type 0
IsOneLine [] = Unit {0}
IsOneLine (b ∷ bytes) = (b ≢ 10) × IsOneLine bytes

-- the lines one after the other, each with its line feed
abbrev pub ended : List (List ℕ) → List ℕ
ended lines = flat_map (λ line. line ++ 10 ∷ []) lines

-- some text begins with these bytes
abbrev pub Begins : (List ℕ → Type 0) → List ℕ → Type 0
Begins IsText front = (rest : List ℕ) × IsText (front ++ rest)

-- what stands behind these lines is faulty: a line with which they begin no text, or bytes that lack their line feed, or nothing, where no text ends there
abbrev pub IsFaultyBehind : (List ℕ → Type 0) → List (List ℕ) → List ℕ → Type 0
IsFaultyBehind IsText before rest =
    ((line : List ℕ) × (after : List ℕ) × (rest ≡ line ++ 10 ∷ after) × IsOneLine line × (Begins IsText (ended (before ++ line ∷ [])) → ⊥))
    ⊎ (((rest ≢ []) × IsOneLine rest)
    ⊎ ((rest ≡ []) × (IsText (ended before) → ⊥)))

-- The first faulty line of the bytes has this number, from 1: the lines before it begin a text, and it lacks its line feed, or the lines up to it begin no text; or it is the line after the last, where the text is cut.
pub record IsFirstFaultyLine (IsText : List ℕ → Type 0) (bytes : List ℕ) (number : ℕ) : Type 0 where
  pub before : List (List ℕ)
  pub rest : List ℕ
  pub parts : bytes ≡ ended before ++ rest
  pub lines : AllByRecursion IsOneLine before
  pub count : number ≡ length before + 1
  pub begins : Begins IsText (ended before)
  pub faulty : IsFaultyBehind IsText before rest

module _ {State Kind : Type 0} where
  -- the lines lead from the one state to the other
  abbrev pub Runs : LineRules State Kind → State → List (List ℕ) → State → Type 0
  Runs rules s [] t = s ≡ t
  Runs rules s (line ∷ lines) t = (next : State) × (rules.after s line ≡ Ok next) × Runs rules next lines t

  -- what the rules read to its end are the texts, and nothing else is
  abbrev pub ReadsTheTexts : LineRules State Kind → (List ℕ → Type 0) → Type 0
  ReadsTheTexts rules IsText = (bytes : List ℕ) → IsText bytes ↔ IsOk (reading rules bytes)

  -- some lines lead from the state to one in which a text may end
  pub record IsCompleted (rules : LineRules State Kind) (s : State) : Type 0 where
    pub more : List (List ℕ)
    pub last : State
    pub end : State
    pub lines : AllByRecursion IsOneLine more
    pub runs : Runs rules s more last
    pub ends : rules.end last ≡ Ok end

  -- lines that the rules take can be completed to a text
  abbrev pub CanBeCompleted : LineRules State Kind → Type 0
  CanBeCompleted rules = (lines : List (List ℕ)) (s : State) → Runs rules rules.start lines s → IsCompleted rules s

  -- the rules are those of the texts
  pub record IsFormatOf (rules : LineRules State Kind) (IsText : List ℕ → Type 0) : Type 0 where
    pub reads : ReadsTheTexts rules IsText
    pub completes : CanBeCompleted rules

  -- what is read is a text, and a fault names the first faulty line; want of memory alone is free
  abbrev pub IsReadAs : (List ℕ → Type 0) → List ℕ → Result State (Stop (TextFault Kind)) → Type 0
  IsReadAs IsText bytes (Ok state) = IsText bytes
  IsReadAs IsText bytes (Err (Fault fault)) = IsFirstFaultyLine IsText bytes fault.line
  IsReadAs IsText bytes (Err Memory) = Unit {0}
