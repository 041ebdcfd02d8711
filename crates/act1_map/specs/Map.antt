-- What the circuit of a net is.
use Rattle.std.specs.Prelude.{ℕ, ◌≡◌, ◌<◌, ◌≤◌, length}
use Rattle.act1_blif.specs.declared.blif.Blif.{Blif}
use Rattle.act1_circuit.specs.declared.circuit.Circuit.{Circuit}
use Rattle.act1_circuit.specs.PairForm.{IsPairForm}
use Rattle.act1_net.specs.declared.net.Net.{Net}
use Rattle.act1_map.specs.Least.{IsLeast}
use Rattle.act1_map.specs.Meaning.{MeansNet}
use Rattle.act1_map.specs.Own.{HasOwnSources}
use Rattle.act1_map.specs.Read.{IsSource}

-- the least count of a netlist is at most so many
abbrev pub HasLeastWithin : Blif → ℕ → Type 0
HasLeastWithin b most = (k : ℕ) × IsLeast b k × (k ≤ most)

-- the circuit is mapped from the net
pub record IsMapOf (n : Net) (c : Circuit) : Type 0 where
  -- its clock enters nothing but pairs of a master and a slave
  pub form : IsPairForm c
  -- it has the net's clock, inputs and outputs, and means the net in every order of firing
  pub means : MeansNet c n
  -- it has at most the least count of modules
  pub few : (k : ℕ) → IsLeast n.blif k → length c.modules ≤ k
  -- each module is the source of some pin or output
  pub read : (m : ℕ) → m < length c.modules → ∥ IsSource c m ∥₁
  -- each latch has its start; outputs that are inputs or latches have these as their sources
  pub own : HasOwnSources c n
  pub starts : length c.starts ≡ length n.blif.latches
