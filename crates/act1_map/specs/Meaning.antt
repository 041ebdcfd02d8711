-- What it says that a circuit means a net: what it says of a netlist, but with the net's own names of outputs, and with outputs and next states by its terms.
use Rattle.std.specs.Prelude.{ℕ, ◌≡◌, ◌≢◌, Bool, List, length, map, All, AllPairs}
use Rattle.act1_blif.specs.declared.blif.Latch.{Latch}
use Rattle.act1_blif.specs.Graph.{signal_count}
use Rattle.act1_circuit.specs.declared.circuit.Circuit.{Circuit}
use Rattle.act1_circuit.specs.declared.circuit.Output.{Output}
use Rattle.act1_circuit.specs.declared.circuit.Start.{Start}
use Rattle.act1_circuit.specs.Firing.{IsWave, Waves, run, RestsAlong}
use Rattle.act1_circuit.specs.Range.{InRange}
use Rattle.act1_meaning.specs.Meaning.{IsCase, StartsLatch}
use Rattle.act1_net.specs.declared.net.Net.{Net}
use Rattle.act1_net.specs.Net as net
use Rattle.act1_net.specs.Net.{AreWithin}

-- inputs, outputs and clock have the same names in the same order, and each start is that of a latch of its own, at a module that no other start has
pub record PortsOfNet (c : Circuit) (n : Net) : Type 0 where
  pub clock : c.clock ≡ n.blif.clock
  pub inputs : c.inputs ≡ n.blif.inputs
  pub outputs : map (λ (o : Output). o.name) c.outputs ≡ n.names
  pub starts : All (λ (start : Start). (k : ℕ) × (latch : Latch) × StartsLatch n.blif start k latch) c.starts
  pub apart : AllPairs (λ (s t : Start). (s.name ≢ t.name) × (s.module ≢ t.module)) c.starts

-- the circuit means the net: in each run, whatever the order in which its modules fire, it shows what the net shows, and comes to rest after each wave
pub record MeansNet (c : Circuit) (n : Net) : Type 0 where
  pub in_range : InRange c
  pub ports : PortsOfNet c n
  pub shows : (q bits : List Bool) (xs : List (List Bool)) (ws : List Waves) → IsCase IsWave c n.blif q bits xs ws → net.Shows n q xs (run c bits xs ws)
  pub rests : (q bits : List Bool) (xs : List (List Bool)) (ws : List Waves) → IsCase IsWave c n.blif q bits xs ws → RestsAlong c bits xs ws

-- each output and each latch of the net has its term, of signals that are there
pub record IsNet (n : Net) : Type 0 where
  pub outputs : length n.outputs ≡ length n.names
  pub next : length n.next ≡ length n.blif.latches
  pub outputs_within : AreWithin (signal_count n.blif) n.outputs
  pub next_within : AreWithin (signal_count n.blif) n.next
