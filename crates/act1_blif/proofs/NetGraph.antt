-- The graph of the signals of a netlist: a node reads its inputs, and no signal lies on a ring.
use Rattle.std.proofs.Common.{ℕ, suc, zero, ◌≡◌, ◌<◌, ◌+◌, List, [], ◌∷◌, ◌++◌, length, map, replicate, refl, arith, subst, Some}
use Rattle.std.specs.Prelude.{Contains, slice_get, slice_index_or}
use Rattle.std.proofs.Math.Logic.{∥∥₁_elim}
use Rattle.std.proofs.lemmas.List.{length-append, length-map, length-replicate}
use Rattle.act1_order.specs.Order.{Reads, AreReads, LeadsTo, OnRing}
use Rattle.act1_blif.specs.declared.blif.Blif.{Blif}
use Rattle.act1_blif.specs.declared.blif.Node.{Node}
use Rattle.act1_blif.specs.Rules.{HasLevels}
use Rattle.act1_blif.specs.Graph.{first_node, reads_of, signal_count}
use Rattle.act1_blif.proofs.NetFacts.{node_is, node_inputs}

-- a signal that reads one is a node's, and the node has that one as an input
pub record IsReader (nodes : List Node) (first s w : ℕ) : Type 0 where
  pub place : ℕ
  pub node : Node
  pub is : s ≡ first + place
  pub there : slice_get nodes place ≡ Some node
  pub input : Contains node.inputs w

nothing_in : (s w : ℕ) {R : Type 0} → Contains (let none : List (List ℕ) = [] in slice_index_or none s []) w → R
nothing_in zero w c = absurd (omega (arith, c.1))
nothing_in (suc s) w c = absurd (omega (arith, c.1))

reader_at : (n : ℕ) (nodes : List Node) (s w : ℕ) → Contains (slice_index_or (replicate n [] ++ map (λ (node : Node). node.inputs) nodes) s []) w → IsReader nodes n s w
reader_at zero [] s w c = nothing_in s w c
reader_at zero (node ∷ nodes) zero w c = record { place = 0; node = node; is = omega arith; there = refl; input = c }
reader_at zero (node ∷ nodes) (suc s) w c = let r = reader_at zero nodes s w c in record { place = suc r.place; node = r.node; is = (let e = r.is in omega arith); there = r.there; input = r.input }
reader_at (suc n) nodes zero w c = absurd (omega (arith, c.1))
reader_at (suc n) nodes (suc s) w c = let r = reader_at n nodes s w c in record { place = r.place; node = r.node; is = (let e = r.is in omega arith); there = r.there; input = r.input }

pub reader : (net : Blif) (s w : ℕ) → Reads (reads_of net) s w → IsReader net.nodes (first_node net) s w
reader net s w c = reader_at (first_node net) net.nodes s w c

pub length_reads : (net : Blif) → length (reads_of net) ≡ signal_count net
length_reads net =
    let none : List ℕ = [] in
    omega (arith, length-append (replicate (first_node net) none) (map (λ (node : Node). node.inputs) net.nodes), length-replicate (first_node net) none, length-map net.nodes (λ (node : Node). node.inputs))

pub are_reads : (net : Blif) → AreReads (reads_of net)
are_reads net = λ v w c.
    let r = reader net v w c in
    let low = node_inputs (signal_count net) r.node (node_is net r.place r.node r.there) w r.input in
    let long = length_reads net in
    omega arith

-- the reads of a node are its inputs
reads_at : (n : ℕ) (nodes : List Node) (j : ℕ) (node : Node) (s : ℕ) → s ≡ n + j → slice_get nodes j ≡ Some node → slice_index_or (replicate n [] ++ map (λ (node : Node). node.inputs) nodes) s [] ≡ node.inputs
reads_at zero [] j node s e is = cc
reads_at zero (m ∷ nodes) zero node zero e is = cc
reads_at zero (m ∷ nodes) zero node (suc s) e is = absurd (omega arith)
reads_at zero (m ∷ nodes) (suc j) node zero e is = absurd (omega arith)
reads_at zero (m ∷ nodes) (suc j) node (suc s) e is = reads_at zero nodes j node s (omega arith) is
reads_at (suc n) nodes j node zero e is = absurd (omega arith)
reads_at (suc n) nodes j node (suc s) e is = reads_at n nodes j node s (omega arith) is

pub node_reads : (net : Blif) (j : ℕ) (node : Node) → slice_get net.nodes j ≡ Some node → slice_index_or (reads_of net) (first_node net + j) [] ≡ node.inputs
node_reads net j node is = reads_at (first_node net) net.nodes j node (first_node net + j) refl is

module _ (net : Blif) (levels : HasLevels net.inputs net.latches net.nodes) where
  lower : (u i w j : ℕ) → u ≡ first_node net + i → w ≡ first_node net + j → Reads (reads_of net) u w → slice_index_or levels.levels j 0 < slice_index_or levels.levels i 0
  lower u i w j is_u is_w r =
      let read = reader net u w r in
      let e = read.is in
      let same : read.place ≡ i = omega arith in
      levels.above i j read.node (subst (λ (k : ℕ). slice_get net.nodes k ≡ Some read.node) same read.there) (subst (λ (t : ℕ). Contains read.node.inputs t) is_w read.input)

  -- what reads anything is a node
  first_read : (t : ℕ) (path : List ℕ) (w : ℕ) → LeadsTo (reads_of net) t path w → (k : ℕ) × (t ≡ first_node net + k)
  first_read t [] w r = let read = reader net t w r in (read.place, read.is)
  first_read t (u ∷ path) w r = let read = reader net t u r.0 in (read.place, read.is)

  -- along a path of nodes the levels fall
  falls : (u i : ℕ) (path : List ℕ) (w j : ℕ) → u ≡ first_node net + i → w ≡ first_node net + j → LeadsTo (reads_of net) u path w → slice_index_or levels.levels j 0 < slice_index_or levels.levels i 0
  falls u i [] w j is_u is_w r = lower u i w j is_u is_w r
  falls u i (t ∷ path) w j is_u is_w r =
      let k = first_read t path w r.1 in
      let low = lower u i t k.0 is_u k.1 r.0 in
      let rest = falls t k.0 path w j k.1 is_w r.1 in
      omega arith

  on_ring : (v : ℕ) → OnRing (reads_of net) v → ⊥
  on_ring v ring =
      let k = first_read v ring.path v ring.leads in
      let low = falls v k.0 ring.path v k.0 k.1 k.1 ring.leads in
      absurd (omega arith)

pub no_ring : (net : Blif) (v : ℕ) → OnRing (reads_of net) v → ⊥
no_ring net v ring = ∥∥₁_elim net.acyclic (λ a b. absurd a) (λ levels. on_ring net levels v ring)
