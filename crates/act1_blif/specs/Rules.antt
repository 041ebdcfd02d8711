-- What the parts of a netlist keep, apart from the struct that holds them.
use Rattle.std.specs.Prelude.{ℕ, ◌≡◌, ◌+◌, ◌<◌, Bool, ◌&&◌, ◌==◌, nat_le, nat_lt, List, ◌∷◌, ◌++◌, length, map, Option, Some, None, Contains, slice_get, slice_index_or}
use Rattle.std.specs.List.{list_all}
use Rattle.act1_base.specs.Names.{is_name, are_different, are_different_numbers}
use Rattle.act1_blif.specs.declared.blif.Latch.{Latch}
use Rattle.act1_blif.specs.declared.blif.Node.{Node}

-- the names of the signals in the order of their numbers: inputs, latches, nodes
abbrev pub names_of : List (List ℕ) → List Latch → List Node → List (List ℕ)
names_of inputs latches nodes = inputs ++ map (λ (latch : Latch). latch.name) latches ++ map (λ (node : Node). node.name) nodes

-- the names of the signals and, before them, of the clock
abbrev pub with_clock : Option (List ℕ) → List (List ℕ) → List (List ℕ)
with_clock None names = names
with_clock (Some clock) names = clock ∷ names

-- the names fit the rule for names, differ, and are no more than numbers of signals can tell apart
abbrev pub are_names : List (List ℕ) → Bool
are_names names = list_all is_name names && are_different names && nat_le (length names) 65535

-- the input is one of so many signals, and the init is one of the four
abbrev pub is_latch : ℕ → Latch → Bool
is_latch signals latch = nat_lt latch.input signals && nat_le latch.init 3

-- the inputs are among so many signals, and the cover has one input for each
abbrev pub is_node : ℕ → Node → Bool
is_node signals node = (node.cover.width == length node.inputs) && list_all (λ s. nat_lt s signals) node.inputs

-- a netlist but for the rings of its nodes
abbrev pub is_blif : List ℕ → Option (List ℕ) → List (List ℕ) → List Latch → List Node → List ℕ → Bool
is_blif model clock inputs latches nodes outputs =
    let signals = length inputs + length latches + length nodes in
    is_name model && are_names (with_clock clock (names_of inputs latches nodes))
    && list_all (is_latch signals) latches && list_all (is_node signals) nodes
    && (list_all (λ s. nat_lt s signals) outputs && are_different_numbers outputs)

-- no node depends on itself through nodes: each has a level, which is above those of the nodes that it reads
pub record HasLevels (inputs : List (List ℕ)) (latches : List Latch) (nodes : List Node) : Type 0 where
  pub levels : List ℕ
  pub above : (k j : ℕ) (node : Node) → slice_get nodes k ≡ Some node → Contains node.inputs (length inputs + length latches + j)
      → slice_index_or levels j 0 < slice_index_or levels k 0
