-- A valuation has the inputs first, then the latch outputs, and then what each node gives.
use Rattle.std.proofs.Common.{ℕ, ◌≡◌, ◌+◌, ◌++◌, length, map, ap, ◌∙◌, arith}
use Rattle.act1_blif.specs.Laws.{EachHasSignals}
use Rattle.act1_blif.specs.Run.{node_value, signal}
use Rattle.act1_blif.proofs.OneValuation.{at_node, back, front, long}

pub have_signals : EachHasSignals
have_signals net q x v fits =
    let given = fits.inputs in
    let state = fits.latches in
    let whole = long x q in
    let gives = map (node_value v) net.nodes in
    let value : (s : ℕ) → signal v s ≡ signal ((x ++ q) ++ gives) s = λ s. ap (λ u. signal u s) fits.values in
    record {
      inputs = λ i low. value i ∙ front (x ++ q) gives i (omega arith) ∙ front x q i (omega arith);
      latches = λ k low. value (length net.inputs + k) ∙ front (x ++ q) gives (length net.inputs + k) (omega arith) ∙ back x q (length net.inputs + k) k (omega arith);
      nodes = λ j node e. value (length net.inputs + length net.latches + j) ∙ back (x ++ q) gives (length net.inputs + length net.latches + j) j (omega arith) ∙ at_node (node_value v) net.nodes j node e;
    }
