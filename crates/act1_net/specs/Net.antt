-- What a net means, and what the calls promise of theirs. Cleaning passes constants and copies on, joins nodes that are alike and drops what nothing reads.
use Rattle.std.specs.Prelude.{ℕ, suc, zero, ◌≡◌, ◌<◌, ◌≤◌, ◌+◌, ◌⊎◌, ◌↔◌, Bool, true, false, if◌then◌else◌, List, [], ◌∷◌, length, map, replicate, Some, Contains, slice_get}
use Rattle.std.specs.List.{list_any}
use Rattle.act1_logic.specs.declared.cover.Cover.{Cover}
use Rattle.act1_logic.specs.declared.cover.Mark.{Mark}
use Rattle.act1_logic.specs.declared.cover.Mark.TheVariants as mark
use Rattle.act1_logic.specs.declared.cover.Row.{Row}
use Rattle.act1_logic.specs.Rows.{is_literal}
use Rattle.act1_blif.specs.declared.blif.Blif.{Blif}
use Rattle.act1_blif.specs.declared.blif.Latch.{Latch}
use Rattle.act1_blif.specs.declared.blif.Node.{Node}
use Rattle.act1_blif.specs.Graph.{first_node, signal_count}
use Rattle.act1_blif.specs.Names.{signal_name}
use Rattle.act1_blif.specs.Need.{need}
use Rattle.act1_blif.specs.Run as blif
use Rattle.act1_blif.specs.Run.{Reading, ShowsBy, signal}
use Rattle.act1_net.specs.declared.net.Net.{Net}
use Rattle.act1_net.specs.declared.net.NetTerm.{NetTerm}
use Rattle.act1_net.specs.declared.net.NetTerm.TheVariants as term

-- the value of a term in a valuation
abbrev pub term_value : List Bool → NetTerm → Bool
term_value v term.Zero = false
term_value v term.One = true
term_value v (term.Signal s) = signal v s

-- outputs and next states as the terms of a net say
abbrev pub reading_of : Net → Reading
reading_of net = record { outputs = λ v. map (term_value v) net.outputs; next = λ v. map (term_value v) net.next }

-- what a net shows: what its netlist shows, with outputs and next states by its terms
abbrev pub Shows : Net → List Bool → List (List Bool) → List (List Bool) → Type 0
Shows net = ShowsBy net.blif (reading_of net)

-- the signals of these terms are among so many
abbrev pub AreWithin : ℕ → List NetTerm → Type 0
AreWithin n terms = (k s : ℕ) → slice_get terms k ≡ Some (term.Signal s) → s < n

-- of a list, what is marked
abbrev pub chosen : {X : Type 0} → List Bool → List X → List X
chosen [] xs = []
chosen (m ∷ marks) [] = []
chosen (true ∷ marks) (x ∷ xs) = x ∷ chosen marks xs
chosen (false ∷ marks) (x ∷ xs) = chosen marks xs

-- how many places below this one are marked, which is the place of what is marked among what is chosen
abbrev pub place_in : List Bool → ℕ → ℕ
place_in [] k = 0
place_in (m ∷ marks) zero = 0
place_in (true ∷ marks) (suc k) = suc (place_in marks k)
place_in (false ∷ marks) (suc k) = place_in marks k

-- a net that does what a netlist does, with these of its latches
pub record IsNetOf (b : Blif) (kept : List Bool) (net : Net) : Type 0 where
  -- each output and each latch has its term
  pub outputs : length net.outputs ≡ length net.names
  pub next : length net.next ≡ length net.blif.latches
  pub outputs_within : AreWithin (signal_count net.blif) net.outputs
  pub next_within : AreWithin (signal_count net.blif) net.next
  -- the clock, the inputs and the names of the outputs are the netlist's
  pub clock : net.blif.clock ≡ b.clock
  pub inputs : net.blif.inputs ≡ b.inputs
  pub names : net.names ≡ map (signal_name b) b.outputs
  -- the latches are the kept ones, with their names and inits
  pub each : length kept ≡ length b.latches
  pub latch_names : map (λ (latch : Latch). latch.name) net.blif.latches ≡ chosen kept (map (λ (latch : Latch). latch.name) b.latches)
  pub latch_inits : map (λ (latch : Latch). latch.init) net.blif.latches ≡ chosen kept (map (λ (latch : Latch). latch.init) b.latches)
  -- from each state cut to the kept latches it shows what the netlist shows
  pub shows : (q : List Bool) (xs shown : List (List Bool)) → length q ≡ length b.latches → Shows net (chosen kept q) xs shown ↔ blif.Shows b q xs shown

-- the netlist as it stands, whose outputs and latch inputs are those that it has
pub record IsPlainOf (b : Blif) (net : Net) : Type 0 where
  pub is_net : IsNetOf b (replicate (length b.latches) true) net
  pub blif : net.blif ≡ b
  pub outputs : net.outputs ≡ map term.Signal b.outputs
  pub next : net.next ≡ map (λ (latch : Latch). term.Signal latch.input) b.latches

-- the row asks something of an input
abbrev pub has_literal : Row → Bool
has_literal row = list_any is_literal row.marks

-- a row of one mark
abbrev pub row_of : Mark → Row
row_of m = record { marks = m ∷ [] }

-- the function is its one input
abbrev pub IsCopy : Cover → Type 0
IsCopy cover = ((cover.output ≡ true) × (cover.rows ≡ row_of mark.One ∷ [])) ⊎ ((cover.output ≡ false) × (cover.rows ≡ row_of mark.Zero ∷ []))

-- a function that has rows, each with a mark 0 or 1, and that isn't its one input
pub record IsLean (cover : Cover) : Type 0 where
  pub rows : 0 < length cover.rows
  pub literals : (i : ℕ) (row : Row) → slice_get cover.rows i ≡ Some row → has_literal row ≡ true
  pub own : IsCopy cover → ⊥

-- nodes with the same inputs and the same cover
pub record AreAlike (a c : Node) : Type 0 where
  pub inputs : a.inputs ≡ c.inputs
  pub output : a.cover.output ≡ c.cover.output
  pub rows : a.cover.rows ≡ c.cover.rows

-- a signal is an output, or what a latch takes, or an input of a node
abbrev pub IsRead : Net → ℕ → Type 0
IsRead net s =
    Contains net.outputs (term.Signal s) ⊎ Contains net.next (term.Signal s)
    ⊎ ((j : ℕ) × (node : Node) × (slice_get net.blif.nodes j ≡ Some node) × Contains node.inputs s)

-- a net that does what the netlist does, with these of its latches, and in which nothing is left to be cleaned
pub record IsCleanOf (b : Blif) (kept : List Bool) (net : Net) : Type 0 where
  pub is_net : IsNetOf b kept net
  pub no_larger : need net.blif ≤ need b
  pub read : (j : ℕ) → j < length net.blif.nodes → IsRead net (first_node net.blif + j)
  pub lean : (j : ℕ) (node : Node) → slice_get net.blif.nodes j ≡ Some node → IsLean node.cover
  pub apart : (i j : ℕ) (a c : Node) → slice_get net.blif.nodes i ≡ Some a → slice_get net.blif.nodes j ≡ Some c → AreAlike a c → i ≡ j
  -- an output that has the name of an input or of a kept latch is that signal
  pub own_inputs : (o i : ℕ) → slice_get b.outputs o ≡ Some i → i < length b.inputs → slice_get net.outputs o ≡ Some (term.Signal i)
  pub own_latches : (o k : ℕ) → slice_get b.outputs o ≡ Some (length b.inputs + k) → slice_get kept k ≡ Some true
      → slice_get net.outputs o ≡ Some (term.Signal (length b.inputs + place_in kept k))
