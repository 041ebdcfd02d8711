-- How the terms of the signals are found, one signal after the other, each after those that it reads.
use Rattle.std.specs.Prelude.{ℕ, ◌≡◌, ◌<◌, ◌≤◌, ◌+◌, ◌⊎◌, Bool, List, [], ◌∷◌, ◌++◌, length, Option, Some, None, MatchOption, slice_get, slice_set}
use Rattle.act1_order.specs.Order.{StandsBefore}
use Rattle.act1_blif.specs.declared.blif.Blif.{Blif}
use Rattle.act1_blif.specs.declared.blif.Node.{Node}
use Rattle.act1_blif.specs.Graph.{first_node, signal_count}
use Rattle.act1_blif.specs.Run.{Fits, signal}
use Rattle.act1_net.specs.declared.gate.Gate.{Gate}
use Rattle.act1_net.specs.declared.net.NetTerm.{NetTerm}
use Rattle.act1_net.specs.declared.net.NetTerm.TheVariants as term
use Rattle.act1_net.specs.Net.{term_value}
use Rattle.act1_net.specs.Gates.{gate_with, key_of, settled, term_of}
use Rattle.act1_net.specs.TableSteps.{Has, HasNone}

-- a kept node with the same function is found, or the signal is kept
abbrev pub IsJoined : List ℕ → ℕ → List (List ℕ × ℕ) → NetTerm → List (List ℕ × ℕ) → Type 0
IsJoined key s old t new =
    ((u : ℕ) × Has old key u × (t ≡ term.Signal u) × (new ≡ old))
    ⊎ (HasNone old key × (t ≡ term.Signal s) × (new ≡ old ++ (key, s) ∷ []))

-- the term of a signal with this function, and the table after it
abbrev pub IsTermOf : Gate → ℕ → List (List ℕ × ℕ) → NetTerm → List (List ℕ × ℕ) → Type 0
IsTermOf gate s old t new = MatchOption (settled gate) (IsJoined (key_of gate) s old t new) (λ u. (t ≡ u) × (new ≡ old))

-- a node's signal gets its term
pub record IsPassed (node : Node) (s : ℕ) (terms : List NetTerm) (table : List (List ℕ × ℕ)) (new_terms : List NetTerm) (new_table : List (List ℕ × ℕ)) : Type 0 where
  pub found : NetTerm
  pub is : IsTermOf (gate_with terms node) s table found new_table
  pub written : new_terms ≡ slice_set terms s found

-- in each valuation each signal has the value of its term
abbrev pub AreMeant : Blif → List NetTerm → Type 0
AreMeant b terms = (q x v : List Bool) → Fits b q x v → (s : ℕ) → signal v s ≡ term_value v (term_of terms s)

-- the node whose signal stands in the table under a key is kept, and is one of the first so many of the order
pub record IsTabled (b : Blif) (order : List ℕ) (p : ℕ) (terms : List NetTerm) (key : List ℕ) (s : ℕ) : Type 0 where
  pub place : ℕ
  pub number : ℕ
  pub node : Node
  pub before : place < p
  pub there : slice_get order place ≡ Some s
  pub signal_is : s ≡ first_node b + number
  pub node_is : slice_get b.nodes number ≡ Some node
  pub own : term_of terms s ≡ term.Signal s
  pub key_is : key ≡ key_of (gate_with terms node)

-- what is known where the first so many signals of the order have their terms
pub record ArePassing (b : Blif) (order : List ℕ) (p : ℕ) (terms : List NetTerm) (table : List (List ℕ × ℕ)) : Type 0 where
  pub all : length terms ≡ signal_count b
  pub meant : AreMeant b terms
  -- inputs, latches and the signals to come are themselves
  pub given : (s : ℕ) → s < first_node b → term_of terms s ≡ term.Signal s
  pub waiting : (k s : ℕ) → p ≤ k → slice_get order k ≡ Some s → term_of terms s ≡ term.Signal s
  -- the signal of a term is itself, and stands no later than the signal whose term it is
  pub kept : (s u : ℕ) → s < signal_count b → term_of terms s ≡ term.Signal u → term_of terms u ≡ term.Signal u
  pub early : (k s u : ℕ) → slice_get order k ≡ Some s → term_of terms s ≡ term.Signal u → StandsBefore order (k + 1) u
  -- a kept node is settled by nothing, and stands in the table
  pub lean : (k j : ℕ) (node : Node) → k < p → slice_get order k ≡ Some (first_node b + j) → slice_get b.nodes j ≡ Some node → term_of terms (first_node b + j) ≡ term.Signal (first_node b + j)
      → settled (gate_with terms node) ≡ None
  pub tabled : (k j : ℕ) (node : Node) → k < p → slice_get order k ≡ Some (first_node b + j) → slice_get b.nodes j ≡ Some node → term_of terms (first_node b + j) ≡ term.Signal (first_node b + j)
      → Has table (key_of (gate_with terms node)) (first_node b + j)
  pub entries : (key : List ℕ) (s : ℕ) → Has table key s → IsTabled b order p terms key s
  -- no key stands there twice
  pub once : (key : List ℕ) (s u : ℕ) → Has table key s → Has table key u → s ≡ u

-- the terms of all signals: what they mean, which signals they are of, and what is left of the kept nodes
pub record ArePassed (b : Blif) (order : List ℕ) (terms : List NetTerm) : Type 0 where
  pub all : length terms ≡ signal_count b
  pub meant : AreMeant b terms
  pub given : (s : ℕ) → s < first_node b → term_of terms s ≡ term.Signal s
  pub kept : (s u : ℕ) → s < signal_count b → term_of terms s ≡ term.Signal u → term_of terms u ≡ term.Signal u
  pub early : (k s u : ℕ) → slice_get order k ≡ Some s → term_of terms s ≡ term.Signal u → StandsBefore order (k + 1) u
  pub lean : (j : ℕ) (node : Node) → slice_get b.nodes j ≡ Some node → term_of terms (first_node b + j) ≡ term.Signal (first_node b + j) → settled (gate_with terms node) ≡ None
  pub apart : (i j : ℕ) (a c : Node) → slice_get b.nodes i ≡ Some a → slice_get b.nodes j ≡ Some c
      → term_of terms (first_node b + i) ≡ term.Signal (first_node b + i) → term_of terms (first_node b + j) ≡ term.Signal (first_node b + j)
      → gate_with terms a ≡ gate_with terms c → i ≡ j
