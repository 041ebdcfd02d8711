-- What a command finds under the names of its files.
use Rattle.std.specs.Prelude.{ℕ, ◌≡◌, ◌<◌, ◌≤◌, IsTrue, List, length, Some}
use Rattle.act1_outside.specs.Faults.{Rose}
use Rattle.act1_outside.specs.Outside.{Shelf, SameHeld}

-- a file that a command reads, and the most bytes that it reads of it
pub record Wanted : Type 0 where
  pub name : List ℕ
  pub most : ℕ

abbrev pub wanted_of : List ℕ → ℕ → Wanted
wanted_of name most = record { name = name; most = most }

-- the name holds these bytes, where the object tells its content
abbrev pub Holds : Shelf → List ℕ → List ℕ → Type 0
Holds shelf name bytes = IsTrue shelf.tells → shelf.held name ≡ Some bytes

-- these bytes were read under the name
pub record WasRead (before : Shelf) (wanted : Wanted) (bytes : List ℕ) : Type 0 where
  pub held : Holds before wanted.name bytes
  pub few : length bytes ≤ wanted.most

-- a read of the name failed
abbrev pub ReadFailed : Shelf → Shelf → List ℕ → Type 0
ReadFailed before after name = Rose (before.read_faults name) (after.read_faults name)

-- the name holds more bytes than are read, where the object tells its content
abbrev pub IsTooLong : Shelf → Wanted → Type 0
IsTooLong before wanted = IsTrue before.tells → (bytes : List ℕ) × (before.held wanted.name ≡ Some bytes) × (wanted.most < length bytes)

-- what was read under the name is the text of this
pub record Found {X : Type 0} (IsText : List ℕ → X → Type 0) (before : Shelf) (wanted : Wanted) (x : X) : Type 0 where
  pub bytes : List ℕ
  pub read : WasRead before wanted bytes
  pub text : IsText bytes x

-- the text is any bytes
abbrev pub AreBytes : List ℕ → List ℕ → Type 0
AreBytes bytes x = x ≡ bytes

-- files were read, and nothing else was done to them
pub record OnlyRead (before after : Shelf) : Type 0 where
  pub tells : after.tells ≡ before.tells
  pub held : SameHeld before after
  pub reads : (n : List ℕ) → before.read_faults n ≤ after.read_faults n
  pub writes : (n : List ℕ) → after.write_faults n ≡ before.write_faults n
  pub memory : after.unwritten ≡ before.unwritten
