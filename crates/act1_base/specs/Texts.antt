-- The reading of a text line by line, by the rules of any format.
use Rattle.std.specs.Prelude.{ℕ, ◌≡◌, ◌+◌, ◌==◌, List, [], ◌∷◌, Option, Some, None, Result, Ok, Err}
use Rattle.std.specs.List.{slice_split}
use Rattle.act1_base.specs.declared.texts.Stop.{Stop}
use Rattle.act1_base.specs.declared.texts.Stop.TheVariants.{Fault, Memory}
use Rattle.act1_base.specs.declared.texts.TextFault.{TextFault}

-- what a format says: the state before the first line; what a line does to a state, or what is wrong with it; what is wrong with a line that lacks its line feed; and whether a text may end in a state, or what is wrong with its end
pub record LineRules (State Kind : Type 0) : Type 0 where
  pub start : State
  pub after : State → List ℕ → Result State Kind
  pub unended : State → Kind
  pub end : State → Result State Kind

-- what a call answers, where want of memory alone is free
abbrev pub Gives : {X F : Type 0} → Result X (Stop F) → Result X F → Type 0
Gives (Ok x) wanted = wanted ≡ Ok x
Gives (Err (Fault fault)) wanted = wanted ≡ Err fault
Gives (Err Memory) wanted = Unit {0}

module _ {State Kind : Type 0} where
  -- whether a text may end in a state, or what is wrong with its end
  abbrev pub EndsBy : LineRules State Kind → State → Option Kind → Type 0
  EndsBy rules s None = rules.end s ≡ Ok s
  EndsBy rules s (Some k) = rules.end s ≡ Err k

  -- a fault with the number of its line
  abbrev pub numbered : ℕ → Result State Kind → Result State (TextFault Kind)
  numbered number (Ok s) = Ok s
  numbered number (Err k) = Err (record { line = number; kind = k })

  -- what stands behind the last line feed: nothing, where the text may end, or a line that lacks its own
  abbrev pub at_end : LineRules State Kind → State → List ℕ → Result State Kind
  at_end rules s [] = rules.end s
  at_end rules s (b ∷ bytes) = Err (rules.unended s)

  -- goes on with the state, or stays at the fault
  abbrev pub and_then : Result State (TextFault Kind) → (State → Result State (TextFault Kind)) → Result State (TextFault Kind)
  and_then (Ok s) next = next s
  and_then (Err fault) next = Err fault

  -- what the lines of a text do one after the other, as line feeds part them, from the line of this number on, and then what stands behind the last line feed
  abbrev pub read_parts : LineRules State Kind → State → ℕ → List (List ℕ) → Result State (TextFault Kind)
  read_parts rules s number [] = numbered number (at_end rules s [])
  read_parts rules s number (rest ∷ []) = numbered number (at_end rules s rest)
  read_parts rules s number (line ∷ next ∷ parts) = and_then (numbered number (rules.after s line)) (λ t. read_parts rules t (number + 1) (next ∷ parts))

  -- the state after the lines of a text, or its first faulty line
  abbrev pub reading : LineRules State Kind → List ℕ → Result State (TextFault Kind)
  reading rules bytes = read_parts rules rules.start 1 (slice_split (λ b. b == 10) bytes)
