-- Marks of modules, a bit each in words of 64, and what they say of a table of values.
use Rattle.std.specs.Prelude.{ℕ, ◌*◌, ◌/◌, ◌%◌, ◌≡◌, ◌<◌, ◌≤◌, ◌⊎◌, Bool, List, length}
use Rattle.std.specs.Int.{bit_at}
use Rattle.act1_engine.specs.declared.marks.Marks.{Marks}
use Rattle.act1_engine.specs.Slots.{entry}
use Rattle.act1_engine.specs.Turns.{gives, value}

-- a module's mark: 1, or 0 for none
abbrev pub mark : List ℕ → ℕ → ℕ
mark words m = bit_at (entry words (m / 64)) (m % 64)

-- the lowest 1 of a word of 64 bits
pub record IsLowestBit (word k : ℕ) : Type 0 where
  pub within : k < 64
  pub there : bit_at word k ≡ 1
  pub lowest : (i : ℕ) → i < k → bit_at word i ≡ 0

-- of the modules from here on this is the first with a mark
pub record IsFirstMarked (words : List ℕ) (from m : ℕ) : Type 0 where
  pub from_on : from ≤ m
  pub marked : mark words m ≡ 1
  pub first : (k : ℕ) → from ≤ k → k < m → mark words k ≡ 0

-- no module from here on and before the end has a mark
abbrev pub AreUnmarked : List ℕ → ℕ → ℕ → Type 0
AreUnmarked words from end = (k : ℕ) → from ≤ k → k < end → mark words k ≡ 0

-- in a round that has come as far as the module at, a marked module of n has its turn in this round, or in the next
pub record AreMarksAt (n at : ℕ) (marks : Marks) : Type 0 where
  pub room : n ≤ 64 * length marks.words.items
  pub end_within : marks.end ≤ n
  pub low_within : marks.low ≤ n
  pub high_within : marks.high ≤ n
  pub each : (k : ℕ) → mark marks.words.items k ≡ 1 → ((at ≤ k) × (k < marks.end)) ⊎ ((marks.low ≤ k) × (k < marks.high) × (k < at))

-- what marking some of n modules adds: no mark goes, and a round that has come as far as at goes on
pub record Adds (n at : ℕ) (old new : Marks) : Type 0 where
  pub long : length new.words.items ≡ length old.words.items
  pub keeps : (k : ℕ) → mark old.words.items k ≡ 1 → mark new.words.items k ≡ 1
  pub goes : AreMarksAt n at old → AreMarksAt n at new

-- the modules of all pins at a slot are marked
abbrev pub AreReadersMarked : List ℕ → ℕ → List ℕ → Type 0
AreReadersMarked slots at words = (pin : ℕ) → pin < length slots → entry slots pin ≡ at → mark words (pin / 8) ≡ 1

-- a module without a mark has the value that it gives
abbrev pub IsQuiet : List ℕ → List Bool → List ℕ → ℕ → Type 0
IsQuiet slots values words n = (m : ℕ) → m < n → mark words m ≡ 0 → gives slots values m ≡ value values m
