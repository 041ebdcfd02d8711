-- Worked examples of netlists and of what they show.
use Rattle.std.proofs.Common.{ℕ, suc, zero, ◌≡◌, ◌<◌, ◌+◌, Bool, true, false, List, [], ◌∷◌, refl, arith, ap, sym, subst, Some, None}
use Rattle.std.specs.Prelude.{codes, Contains, slice_get, slice_index_or}
use Rattle.std.proofs.lemmas.List.Elements.{All-contains, All-from_recursion}
use Rattle.act1_logic.specs.declared.cover.Mark.TheVariants.{Zero, One, Dash}
use Rattle.act1_logic.specs.declared.cover.Cover.{Cover}
use Rattle.act1_logic.specs.Cover.{value_of}
use Rattle.act1_blif.specs.declared.blif.Blif.{Blif}
use Rattle.act1_blif.specs.declared.blif.Latch.{Latch}
use Rattle.act1_blif.specs.declared.blif.Node.{Node}
use Rattle.act1_blif.specs.Run.{Shows, MayBegin, AgreesWithInit}
use Rattle.act1_blif.specs.Rules.{HasLevels, is_blif}
use Rattle.act1_blif.specs.Need.{need}
use Rattle.act1_blif.specs.Names.{signal_names}

-- 1 where its one input is 0
abbrev pub not_cover : Cover
not_cover = record { width = 1; output = true; rows = record { marks = Zero ∷ [] } ∷ []; valid = refl }

-- 1 but where its two inputs are 1
abbrev pub nand_cover : Cover
nand_cover = record { width = 2; output = false; rows = record { marks = One ∷ One ∷ [] } ∷ []; valid = refl }

-- its first input
abbrev pub first_cover : Cover
first_cover = record { width = 2; output = true; rows = record { marks = One ∷ Dash ∷ [] } ∷ []; valid = refl }

abbrev pub zero_cover : Cover
zero_cover = record { width = 0; output = true; rows = []; valid = refl }

abbrev pub one_cover : Cover
one_cover = record { width = 0; output = true; rows = record { marks = [] } ∷ []; valid = refl }

not_values : (value_of not_cover (false ∷ []) ≡ true) × (value_of not_cover (true ∷ []) ≡ false)
not_values = (refl, refl)

nand_values : (value_of nand_cover (false ∷ false ∷ []) ≡ true) × (value_of nand_cover (false ∷ true ∷ []) ≡ true) × (value_of nand_cover (true ∷ false ∷ []) ≡ true) × (value_of nand_cover (true ∷ true ∷ []) ≡ false)
nand_values = (refl, refl, refl, refl)

first_values : (value_of first_cover (false ∷ true ∷ []) ≡ false) × (value_of first_cover (true ∷ false ∷ []) ≡ true)
first_values = (refl, refl)

constant_values : (value_of zero_cover [] ≡ false) × (value_of one_cover [] ≡ true)
constant_values = (refl, refl)

pub some : {X : Type 0} (x y : X) → Some x ≡ Some y → x ≡ y
some x y h = cc

only_zero : (j : ℕ) → ¬ Contains (0 ∷ []) (1 + j)
only_zero j h = let e : 1 + j ≡ 0 = All-contains (λ s. s ≡ 0) (0 ∷ []) (1 + j) (All-from_recursion (λ s. s ≡ 0) (0 ∷ []) (refl, tt)) h in absurd (omega arith)

abbrev pub toggle_latches : List Latch
toggle_latches = record { name = codes "q"; input = 1; init = 0 } ∷ []

abbrev pub toggle_node : Node
toggle_node = record { name = codes "d"; inputs = 0 ∷ []; cover = not_cover }

pub toggle_above : (k j : ℕ) (node : Node) → slice_get (toggle_node ∷ []) k ≡ Some node → Contains node.inputs (1 + j) → slice_index_or [] j 0 < slice_index_or [] k 0
toggle_above zero j node is h = absurd (only_zero j (subst (λ (n : Node). Contains n.inputs (1 + j)) (sym (some toggle_node node is)) h))
toggle_above (suc k) j node is h = cc

-- one latch, which takes the other value at each edge
abbrev pub toggle : Blif
toggle = record {
  model = codes "top";
  clock = None;
  inputs = [];
  latches = toggle_latches;
  nodes = toggle_node ∷ [];
  outputs = 0 ∷ [];
  valid = refl;
  acyclic = ∣ record { levels = []; above = toggle_above } ∣₁;
}

toggle_names : signal_names toggle ≡ codes "q" ∷ codes "d" ∷ []
toggle_names = refl

toggle_need : need toggle ≡ 3
toggle_need = refl

-- from 0 it shows 0, 1 and 0
toggle_shows : Shows toggle (false ∷ []) ([] ∷ [] ∷ [] ∷ []) ((false ∷ []) ∷ (true ∷ []) ∷ (false ∷ []) ∷ [])
toggle_shows = (
  false ∷ true ∷ [],
  record { inputs = refl; latches = refl; values = refl },
  refl,
  (
    true ∷ false ∷ [],
    record { inputs = refl; latches = refl; values = refl },
    refl,
    (false ∷ true ∷ [], record { inputs = refl; latches = refl; values = refl }, refl, tt),
  ),
)

toggle_starts : MayBegin toggle (false ∷ [])
toggle_starts = record { one_each = refl; agrees = agrees }
  where
    agrees : (k : ℕ) (latch : Latch) → slice_get toggle_latches k ≡ Some latch → AgreesWithInit latch.init (slice_index_or (false ∷ []) k false)
    agrees zero latch is = (λ e. refl, λ e. absurd (omega (arith, e, ap (λ (l : Latch). l.init) (some _ latch is))))
    agrees (suc k) latch is = cc

toggle_starts_not : ¬ MayBegin toggle (true ∷ [])
toggle_starts_not s = let e : true ≡ false = (s.agrees 0 _ refl).0 refl in cc

pub no_nodes : (k j : ℕ) (node : Node) → slice_get [] k ≡ Some node → Contains node.inputs (1 + j) → slice_index_or [] j 0 < slice_index_or [] k 0
no_nodes k j node is h = cc

-- a latch that holds itself, with a free start
abbrev pub hold : Blif
hold = record {
  model = codes "top";
  clock = Some (codes "clk");
  inputs = [];
  latches = record { name = codes "q"; input = 0; init = 2 } ∷ [];
  nodes = [];
  outputs = 0 ∷ [];
  valid = refl;
  acyclic = ∣ record { levels = []; above = no_nodes } ∣₁;
}

pub hold_starts : (bit : Bool) → MayBegin hold (bit ∷ [])
hold_starts bit = record { one_each = refl; agrees = agrees }
  where
    agrees : (k : ℕ) (latch : Latch) → slice_get hold.latches k ≡ Some latch → AgreesWithInit latch.init (slice_index_or (bit ∷ []) k false)
    agrees zero latch is = (λ e. absurd (omega (arith, e, ap (λ (l : Latch). l.init) (some _ latch is))), λ e. absurd (omega (arith, e, ap (λ (l : Latch). l.init) (some _ latch is))))
    agrees (suc k) latch is = cc

pub hold_shows : (bit : Bool) → Shows hold (bit ∷ []) ([] ∷ [] ∷ []) ((bit ∷ []) ∷ (bit ∷ []) ∷ [])
hold_shows bit = (bit ∷ [], record { inputs = refl; latches = refl; values = refl }, refl, (bit ∷ [], record { inputs = refl; latches = refl; values = refl }, refl, tt))

-- a node that reads itself has no levels
self_node : ¬ HasLevels [] [] (record { name = codes "a"; inputs = 0 ∷ []; cover = not_cover } ∷ [])
self_node h = let e = h.above 0 0 _ refl (0, omega arith, refl) in absurd (omega (arith, e))

-- nor have two nodes that read each other
two_nodes : ¬ HasLevels (codes "x" ∷ []) [] (record { name = codes "a"; inputs = 0 ∷ 2 ∷ []; cover = nand_cover } ∷ record { name = codes "b"; inputs = 1 ∷ []; cover = not_cover } ∷ [])
two_nodes h = let e = h.above 0 1 _ refl (1, omega arith, refl) in let f = h.above 1 0 _ refl (0, omega arith, refl) in absurd (omega (arith, e, f))

-- one rule broken, and the others kept
abbrev pub latch_of : ℕ → ℕ → Latch
latch_of s i = record { name = codes "q"; input = s; init = i }

latch_is_fine : is_blif (codes "top") None (codes "a" ∷ []) (latch_of 0 3 ∷ []) [] (1 ∷ 0 ∷ []) ≡ true
latch_is_fine = refl

init_of_four : is_blif (codes "top") None (codes "a" ∷ []) (latch_of 0 4 ∷ []) [] [] ≡ false
init_of_four = refl

latch_input_out : is_blif (codes "top") None (codes "a" ∷ []) (latch_of 2 3 ∷ []) [] [] ≡ false
latch_input_out = refl

output_out : is_blif (codes "top") None (codes "a" ∷ []) (latch_of 0 3 ∷ []) [] (2 ∷ []) ≡ false
output_out = refl

output_twice : is_blif (codes "top") None (codes "a" ∷ []) (latch_of 0 3 ∷ []) [] (0 ∷ 1 ∷ 0 ∷ []) ≡ false
output_twice = refl

clock_is_input : is_blif (codes "top") (Some (codes "a")) (codes "a" ∷ []) (latch_of 0 3 ∷ []) [] [] ≡ false
clock_is_input = refl

latch_is_input : is_blif (codes "top") None (codes "q" ∷ []) (latch_of 0 3 ∷ []) [] [] ≡ false
latch_is_input = refl

wrong_width : is_blif (codes "top") None (codes "a" ∷ []) [] (record { name = codes "y"; inputs = 0 ∷ []; cover = nand_cover } ∷ []) [] ≡ false
wrong_width = refl

same_input_twice : is_blif (codes "top") None (codes "a" ∷ []) [] (record { name = codes "y"; inputs = 0 ∷ 0 ∷ []; cover = nand_cover } ∷ []) [] ≡ true
same_input_twice = refl

no_model : is_blif [] None [] [] [] [] ≡ false
no_model = refl
