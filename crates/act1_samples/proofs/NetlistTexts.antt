-- Worked examples of canonical texts.
use Rattle.std.proofs.Common.{ℕ, suc, zero, ◌≡◌, ◌<◌, ◌+◌, false, [], ◌∷◌, refl, arith, sym, subst, Some, None}
use Rattle.std.specs.Prelude.{codes, Contains, slice_get, slice_index_or}
use Rattle.std.specs.Fmt.{digits}
use Rattle.std.proofs.lemmas.List.Elements.{All-contains, All-from_recursion}
use Rattle.act1_logic.specs.declared.cover.Mark.TheVariants.{Zero, One, Dash}
use Rattle.act1_blif.specs.declared.blif.Blif.{Blif}
use Rattle.act1_blif.specs.declared.blif.Node.{Node}
use Rattle.act1_blif.specs.Text.{blif_text}
use Rattle.act1_samples.proofs.Netlists.{some, toggle, hold}

-- the canonical texts
pub toggle_text : blif_text toggle ≡ codes ".model top\n.inputs\n.outputs q\n.latch d q 0\n.names q d\n0 1\n.end\n"
unfolding digits
toggle_text = refl

pub hold_text : blif_text hold ≡ codes ".model top\n.inputs\n.outputs q\n.clock clk\n.latch q q re clk 2\n.end\n"
unfolding digits
hold_text = refl

abbrev pub rows_node : Node
rows_node = record { name = codes "y"; inputs = 0 ∷ 1 ∷ []; cover = record { width = 2; output = false; rows = record { marks = One ∷ One ∷ [] } ∷ record { marks = Zero ∷ Dash ∷ [] } ∷ []; valid = refl } }

abbrev pub ones_node : Node
ones_node = record { name = codes "w"; inputs = []; cover = record { width = 0; output = false; rows = record { marks = [] } ∷ record { marks = [] } ∷ []; valid = refl } }

below_two : (j : ℕ) → ¬ Contains (0 ∷ 1 ∷ []) (2 + j)
below_two j h = let e : 2 + j < 2 = All-contains (λ s. s < 2) (0 ∷ 1 ∷ []) (2 + j) (All-from_recursion (λ s. s < 2) (0 ∷ 1 ∷ []) (omega arith, (omega arith, tt))) h in absurd (omega arith)

none_above : (j : ℕ) → ¬ Contains [] (2 + j)
none_above j h = absurd (omega (arith, h.1))

pub rows_above : (k j : ℕ) (node : Node) → slice_get (rows_node ∷ ones_node ∷ []) k ≡ Some node → Contains node.inputs (2 + j) → slice_index_or [] j 0 < slice_index_or [] k 0
rows_above zero j node is h = absurd (below_two j (subst (λ (n : Node). Contains n.inputs (2 + j)) (sym (some rows_node node is)) h))
rows_above (suc zero) j node is h = absurd (none_above j (subst (λ (n : Node). Contains n.inputs (2 + j)) (sym (some ones_node node is)) h))
rows_above (suc (suc k)) j node is h = cc

abbrev pub rows_net : Blif
rows_net = record {
  model = codes "rows";
  clock = None;
  inputs = codes "a" ∷ codes "b" ∷ [];
  latches = [];
  nodes = rows_node ∷ ones_node ∷ [];
  outputs = 3 ∷ 2 ∷ [];
  valid = refl;
  acyclic = ∣ record { levels = []; above = rows_above } ∣₁;
}

-- rows stand as they were read, and those of a node without inputs are the output's word alone
pub rows_text : blif_text rows_net ≡ codes ".model rows\n.inputs a b\n.outputs w y\n.names a b y\n11 0\n0- 0\n.names w\n0\n0\n.end\n"
rows_text = refl
