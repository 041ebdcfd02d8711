-- What is known in the middle of finding a valuation.
use Rattle.std.specs.Prelude.{ℕ, ◌≡◌, ◌<◌, ◌+◌, Bool, List, ◌++◌, length, slice_get, Some}
use Rattle.act1_blif.specs.declared.blif.Blif.{Blif}
use Rattle.act1_blif.specs.declared.blif.Node.{Node}
use Rattle.act1_blif.specs.Graph.{first_node}
use Rattle.act1_blif.specs.Run.{node_value, signal}

-- the values of inputs and latches are given, and so are those of the nodes among the first signals of an order
pub record AreEvaluated (net : Blif) (q x : List Bool) (order : List ℕ) (done : ℕ) (values : List Bool) : Type 0 where
  pub all : length values ≡ first_node net + length net.nodes
  pub given : (s : ℕ) → s < first_node net → signal values s ≡ signal (x ++ q) s
  pub nodes : (k j : ℕ) (node : Node) → k < done → slice_get order k ≡ Some (first_node net + j) → slice_get net.nodes j ≡ Some node → signal values (first_node net + j) ≡ node_value values node
