-- What each netlist keeps, by its invariant.
use Rattle.std.proofs.Common.{ℕ, ◌≡◌, ◌<◌, ◌≤◌, true, arith}
use Rattle.std.specs.Prelude.{nat_lt, nat_le}
use Rattle.std.proofs.lemmas.Bool.Decides.{nat_tests}
use Rattle.act1_blif.specs.Graph.{signal_count}
use Rattle.act1_blif.specs.Laws.{EachIsWhole}
use Rattle.act1_blif.proofs.NetFacts.{both, few_signals, latch_is, model_is, names_are, node_inputs, node_is, node_width, output_is}
use Rattle.act1_blif.proofs.NetGraph.{length_reads, node_reads}

below : (s n : ℕ) → nat_lt s n ≡ true → s < n
below s n h = grind (arith, nat_tests)

at_most : (s n : ℕ) → nat_le s n ≡ true → s ≤ n
at_most s n h = grind (arith, nat_tests)

pub each_is_whole : EachIsWhole
each_is_whole net = record {
  few = few_signals net;
  model = model_is net;
  names = names_are net;
  inits = λ k latch is. at_most latch.init 3 (both (nat_lt latch.input (signal_count net)) (nat_le latch.init 3) (latch_is net k latch is)).1;
  outputs = λ k s is. below s (signal_count net) (output_is net k s is);
  latches = λ k latch is. below latch.input (signal_count net) (both (nat_lt latch.input (signal_count net)) (nat_le latch.init 3) (latch_is net k latch is)).0;
  nodes = λ j s node is c. node_inputs (signal_count net) node (node_is net j node is) s c;
  widths = λ j node is. node_width (signal_count net) node (node_is net j node is);
  reads = node_reads net;
  all = length_reads net;
}
