-- The cleaned net by the marks of the latches and of the nodes.
use Rattle.std.specs.Prelude.{ℕ, ◌≡◌, Bool, true, List, ◌++◌, length, map, replicate}
use Rattle.act1_blif.specs.declared.blif.Blif.{Blif}
use Rattle.act1_net.specs.declared.net.Net.{Net}
use Rattle.act1_net.specs.declared.net.NetTerm.{NetTerm}
use Rattle.act1_net.specs.Net.{chosen}
use Rattle.act1_net.specs.Gates.{term_of}
use Rattle.act1_net.specs.BuildSteps.{gate_of, kept_latch, moved_left, moved_term, next_term}
use Rattle.act1_net.specs.KeptSteps.{AreMarks}
use Rattle.act1_net.specs.PassSteps.{AreMeant}

-- what of the net counts for what it shows
pub record IsCutNet (b : Blif) (terms : List NetTerm) (marks kept node_marks : List Bool) (net : Net) : Type 0 where
  pub split : marks ≡ replicate (length b.inputs) true ++ kept ++ node_marks
  pub kept_long : length kept ≡ length b.latches
  pub nodes_long : length node_marks ≡ length b.nodes
  pub meant : AreMeant b terms
  pub marked : AreMarks b terms marks
  pub inputs : net.blif.inputs ≡ b.inputs
  pub latches : net.blif.latches ≡ chosen kept (map kept_latch b.latches)
  pub gates : map gate_of net.blif.nodes ≡ chosen node_marks (map (moved_left terms marks) b.nodes)
  pub outputs : net.outputs ≡ map (moved_term marks) (map (term_of terms) b.outputs)
  pub next : net.next ≡ chosen kept (map (next_term terms marks) b.latches)
