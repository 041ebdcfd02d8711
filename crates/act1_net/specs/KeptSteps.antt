-- What the terms and the marks of kept signals keep, from which the cleaned net is made.
use Rattle.std.specs.Prelude.{ℕ, ◌≡◌, ◌<◌, ◌≤◌, ◌+◌, ◌⊎◌, Bool, true, List, [], ◌∷◌, length, All, Some, None, Contains, slice_get}
use Rattle.act1_order.specs.Order.{IsOrder}
use Rattle.act1_blif.specs.declared.blif.Blif.{Blif}
use Rattle.act1_blif.specs.declared.blif.Latch.{Latch}
use Rattle.act1_blif.specs.declared.blif.Node.{Node}
use Rattle.act1_blif.specs.Graph.{first_node, reads_of, signal_count}
use Rattle.act1_net.specs.declared.net.NetTerm.{NetTerm}
use Rattle.act1_net.specs.declared.net.NetTerm.TheVariants as term
use Rattle.act1_net.specs.Gates.{gate_with, settled, term_of}
use Rattle.act1_net.specs.MarkSteps.{signals_left}
use Rattle.act1_net.specs.PassSteps.{ArePassed}

-- what is left of the node can be a node, where it is kept
pub record CanKeep (terms : List NetTerm) (marks : List Bool) (kept : Bool) (node : Node) : Type 0 where
  pub inputs : All (λ s. s < length terms) node.inputs
  pub width : node.cover.width ≡ length node.inputs
  pub lean : kept ≡ true → settled (gate_with terms node) ≡ None
  pub within : All (λ s. s < length marks) (gate_with terms node).inputs

-- each node can be kept
abbrev pub CanKeepAll : List NetTerm → List Bool → List Bool → List Node → Type 0
CanKeepAll terms marks kept nodes = (j : ℕ) (is_kept : Bool) (node : Node) → slice_get kept j ≡ Some is_kept → slice_get nodes j ≡ Some node → CanKeep terms marks is_kept node

-- a signal is an output, or what a kept latch takes, or is left of the inputs of a kept node
abbrev pub IsReadLeft : Blif → List NetTerm → List Bool → ℕ → Type 0
IsReadLeft b terms marks s =
    Contains (signals_left terms b.outputs) s
    ⊎ ((k : ℕ) × (latch : Latch) × (slice_get b.latches k ≡ Some latch) × (slice_get marks (length b.inputs + k) ≡ Some true) × Contains (signals_left terms (latch.input ∷ [])) s)
    ⊎ ((j : ℕ) × (node : Node) × (slice_get b.nodes j ≡ Some node) × (slice_get marks (first_node b + j) ≡ Some true) × Contains (signals_left terms node.inputs) s)

-- inputs are kept, and what is read; what is kept is its own term, and is an input or is read
pub record AreMarks (b : Blif) (terms : List NetTerm) (marks : List Bool) : Type 0 where
  pub all : length marks ≡ signal_count b
  pub inputs : (s : ℕ) → s < length b.inputs → slice_get marks s ≡ Some true
  pub outputs : (o s u : ℕ) → slice_get b.outputs o ≡ Some s → term_of terms s ≡ term.Signal u → slice_get marks u ≡ Some true
  pub latches : (k u : ℕ) (latch : Latch) → slice_get b.latches k ≡ Some latch → slice_get marks (length b.inputs + k) ≡ Some true → term_of terms latch.input ≡ term.Signal u → slice_get marks u ≡ Some true
  pub nodes : (j u : ℕ) (node : Node) → slice_get b.nodes j ≡ Some node → slice_get marks (first_node b + j) ≡ Some true → Contains (signals_left terms node.inputs) u → slice_get marks u ≡ Some true
  pub own : (s : ℕ) → slice_get marks s ≡ Some true → term_of terms s ≡ term.Signal s
  pub read : (s : ℕ) → slice_get marks s ≡ Some true → length b.inputs ≤ s → IsReadLeft b terms marks s

-- the terms and the marks are those that an order gives
pub record IsFit (b : Blif) (terms : List NetTerm) (marks : List Bool) : Type 0 where
  pub order : List ℕ
  pub is_order : IsOrder (reads_of b) order
  pub passed : ArePassed b order terms
  pub marked : AreMarks b terms marks
