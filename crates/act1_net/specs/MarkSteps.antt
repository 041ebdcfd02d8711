-- Which signals are read where constants and copies are passed on, and their new numbers.
use Rattle.std.specs.Prelude.{ℕ, suc, zero, ◌≡◌, ◌<◌, Bool, true, false, List, [], ◌∷◌, ◌++◌, length, map, replicate, slice_index_or}
use Rattle.std.specs.List.{filter_map}
use Rattle.act1_blif.specs.declared.blif.Blif.{Blif}
use Rattle.act1_blif.specs.declared.blif.Latch.{Latch}
use Rattle.act1_blif.specs.declared.blif.Node.{Node}
use Rattle.act1_blif.specs.Graph.{signal_count}
use Rattle.act1_net.specs.declared.net.NetTerm.{NetTerm}
use Rattle.act1_net.specs.declared.net.NetTerm.TheVariants as term
use Rattle.act1_net.specs.Net.{place_in}
use Rattle.act1_net.specs.Gates.{signal_of, term_of}

-- the signals of the terms of some signals
abbrev pub signals_left : List NetTerm → List ℕ → List ℕ
signals_left terms ss = filter_map signal_of (map (term_of terms) ss)

-- what each signal reads: an input none, a latch what it takes, and a node what is left of its inputs
abbrev pub reads_left : Blif → List NetTerm → List (List ℕ)
reads_left b terms =
    replicate (length b.inputs) [] ++ map (λ (latch : Latch). signals_left terms (latch.input ∷ [])) b.latches
    ++ map (λ (node : Node). signals_left terms node.inputs) b.nodes

-- the numbers below n
abbrev pub upto : ℕ → List ℕ
upto zero = []
upto (suc n) = upto n ++ n ∷ []

-- what is read in any case, or kept: what the outputs are, and the inputs
abbrev pub roots_of : Blif → List NetTerm → List ℕ
roots_of b terms = signals_left terms b.outputs ++ upto (length b.inputs)

-- a term is a constant, or of one of so many signals
abbrev pub IsWithin : ℕ → NetTerm → Type 0
IsWithin n term.Zero = Unit {0}
IsWithin n term.One = Unit {0}
IsWithin n (term.Signal s) = s < n

-- the terms of signals are of signals
abbrev pub AreTermsWithin : ℕ → List NetTerm → Type 0
AreTermsWithin n terms = (s u : ℕ) → s < n → term_of terms s ≡ term.Signal u → u < n

-- how many signals a mark keeps
abbrev pub mark_count : Bool → ℕ
mark_count true = 1
mark_count false = 0

-- the new number of each signal, where the marked ones are kept
pub record ArePlaces (marks : List Bool) (numbers : List ℕ) : Type 0 where
  pub all : length numbers ≡ length marks
  pub each : (k : ℕ) → k < length marks → slice_index_or numbers k 0 ≡ place_in marks k
