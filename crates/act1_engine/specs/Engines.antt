-- An engine of a circuit: a table of values, and marks at all modules that may not have the value that they give.
use Rattle.std.specs.Prelude.{ℕ, ◌+◌, ◌≡◌, ◌<◌, Bool, true, false, List, length, take, slice_index_or}
use Rattle.act1_circuit.specs.declared.circuit.Circuit.{Circuit}
use Rattle.act1_circuit.specs.Range.{InRange}
use Rattle.act1_engine.specs.declared.engine.Engine.{Engine}
use Rattle.act1_engine.specs.declared.marks.Marks.{Marks}
use Rattle.act1_engine.specs.declared.wiring.Wiring.{Wiring}
use Rattle.act1_engine.specs.Slots.{slot_count, IsWiringOf}
use Rattle.act1_engine.specs.Turns.{value}
use Rattle.act1_engine.specs.Marking.{AreMarksAt, IsQuiet}

-- the bits of the modules
abbrev pub engine_bits : Engine → List Bool
engine_bits engine = take engine.modules engine.values.items

-- a value for each slot, with the constants at theirs
pub record HasConstants (c : Circuit) (values : List Bool) : Type 0 where
  pub all : length values ≡ slot_count c
  pub zero_is : value values (length c.modules + length c.inputs) ≡ false
  pub one_is : value values (length c.modules + length c.inputs + 1) ≡ true

-- between two waves a module without a mark has the value that it gives, and all marked modules have their turn in the next round
pub record IsReady (c : Circuit) (wiring : Wiring) (values : List Bool) (marks : Marks) : Type 0 where
  pub constants : HasConstants c values
  pub marked : AreMarksAt (length c.modules) (length c.modules) marks
  pub quiet : IsQuiet wiring.slots.items values marks.words.items (length c.modules)

-- the table has these inputs and this clock
pub record IsSet (c : Circuit) (clock : Bool) (x : List Bool) (values : List Bool) : Type 0 where
  pub inputs : (i : ℕ) → i < length c.inputs → value values (length c.modules + i) ≡ slice_index_or x i false
  pub clock_is : value values (length c.modules + length c.inputs + 2) ≡ clock

-- the engine is one of this circuit
pub record IsEngineOf (c : Circuit) (engine : Engine) : Type 0 where
  pub range : InRange c
  pub modules : engine.modules ≡ length c.modules
  pub wiring : IsWiringOf c engine.wiring
  pub ready : IsReady c engine.wiring engine.values.items engine.marks
