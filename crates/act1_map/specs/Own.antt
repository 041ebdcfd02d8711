-- Outputs that are inputs or latches, and the starts of latches.
use Rattle.std.specs.Prelude.{ℕ, ◌≡◌, ◌<◌, ◌+◌, length, Some, slice_get}
use Rattle.act1_blif.specs.declared.blif.Latch.{Latch}
use Rattle.act1_circuit.specs.declared.circuit.Circuit.{Circuit}
use Rattle.act1_circuit.specs.declared.circuit.Output.{Output}
use Rattle.act1_circuit.specs.declared.circuit.Start.{Start}
use Rattle.act1_circuit.specs.declared.circuit.Source.{Source}
use Rattle.act1_circuit.specs.declared.circuit.Source.TheVariants.{Input, Module}
use Rattle.act1_meaning.specs.Meaning.{StartsLatch}
use Rattle.act1_net.specs.declared.net.Net.{Net}
use Rattle.act1_net.specs.declared.net.NetTerm.TheVariants as net

-- the o-th output has this source
abbrev pub HasOutput : Circuit → ℕ → Source → Type 0
HasOutput c o source = (out : Output) × (slice_get c.outputs o ≡ Some out) × (out.source ≡ source)

-- the start of the j-th latch stands at the module s
pub record IsStartOf (c : Circuit) (n : Net) (s j : ℕ) : Type 0 where
  pub place : ℕ
  pub start : Start
  pub of : Latch
  pub there : slice_get c.starts place ≡ Some start
  pub here : start.module ≡ s
  pub starts : StartsLatch n.blif start j of

-- each latch has a start; an output that is an input has that input as its source, and one that is a latch has the module of the latch's start
pub record HasOwnSources (c : Circuit) (n : Net) : Type 0 where
  pub starts : (j : ℕ) → j < length n.blif.latches → (s : ℕ) × IsStartOf c n s j
  pub inputs : (o i : ℕ) → slice_get n.outputs o ≡ Some (net.Signal i) → i < length n.blif.inputs → HasOutput c o (Input i)
  pub latches : (o j : ℕ) → slice_get n.outputs o ≡ Some (net.Signal (length n.blif.inputs + j)) → j < length n.blif.latches → (s : ℕ) × HasOutput c o (Module s) × IsStartOf c n s j
