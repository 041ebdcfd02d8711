-- Circuits whose starts stand at no module, or two at one module, mean no netlist.
use Rattle.std.proofs.Common.{ℕ, suc, zero, ◌≡◌, ◌<◌, ◌+◌, Bool, true, false, List, [], ◌∷◌, length, refl, arith, Some, None}
use Rattle.std.specs.Prelude.{codes, Contains, slice_get, slice_index_or}
use Rattle.act1_blif.specs.declared.blif.Blif.{Blif}
use Rattle.act1_blif.specs.declared.blif.Latch.{Latch}
use Rattle.act1_blif.specs.declared.blif.Node.{Node}
use Rattle.act1_circuit.specs.declared.circuit.Circuit.{Circuit}
use Rattle.act1_circuit.specs.declared.circuit.Start.{Start}
use Rattle.act1_circuit.specs.declared.circuit.Source.TheVariants.{Zero, Module}
use Rattle.act1_circuit.specs.Firing.{Waves}
use Rattle.act1_blif.specs.Run.{MayBegin as Begins, AgreesWithInit}
use Rattle.act1_meaning.specs.Meaning.{Means, StartsLatch, IsCase}

pub no_nodes : (k j : ℕ) (node : Node) → slice_get [] k ≡ Some node → Contains node.inputs (1 + j) → slice_index_or [] j 0 < slice_index_or [] k 0
no_nodes k j node is h = cc

abbrev pub held : Latch
held = record { name = codes "q"; input = 0; init = 2 }

abbrev pub hold : Blif
hold = record {
  model = codes "top";
  clock = None;
  inputs = [];
  latches = held ∷ [];
  nodes = [];
  outputs = 0 ∷ [];
  valid = refl;
  acyclic = ∣ record { levels = []; above = no_nodes } ∣₁;
}

abbrev pub far : Start
far = record { «module» = 5; init = 2; name = codes "q" }

-- no modules at all, the output is constant 0, and the latch's start stands at a module that isn't there
abbrev pub zero_for_hold : Circuit
zero_for_hold = record { clock = None; inputs = []; modules = []; outputs = record { name = codes "q"; source = Zero } ∷ []; starts = far ∷ [] }

is_start : StartsLatch hold far 0 held
is_start = record { is = refl; name = refl; init = refl }

none : (q bits : List Bool) → length bits ≡ 0 → length q ≡ 1 → ¬ (slice_get bits 5 ≡ slice_get q 0)
none [] bits e f g = absurd (omega (arith, f))
none (b ∷ q) [] e f g = cc
none (b ∷ q) (a ∷ bits) e f g = absurd (omega (arith, e))

wrong_means_not : ¬ Means zero_for_hold hold
wrong_means_not m = absurd (omega (arith, m.in_range.starts 0 far (omega arith)))

-- two latches, each of which holds itself
abbrev pub held_p : Latch
held_p = record { name = codes "p"; input = 0; init = 2 }

abbrev pub held_q : Latch
held_q = record { name = codes "q"; input = 1; init = 2 }

pub no_nodes_of_two : (k j : ℕ) (node : Node) → slice_get [] k ≡ Some node → Contains node.inputs (2 + j) → slice_index_or [] j 0 < slice_index_or [] k 0
no_nodes_of_two k j node is h = cc

abbrev pub hold_two : Blif
hold_two = record {
  model = codes "top";
  clock = None;
  inputs = [];
  latches = held_p ∷ held_q ∷ [];
  nodes = [];
  outputs = 0 ∷ 1 ∷ [];
  valid = refl;
  acyclic = ∣ record { levels = []; above = no_nodes_of_two } ∣₁;
}

abbrev pub start_p : Start
start_p = record { «module» = 0; init = 2; name = codes "p" }

abbrev pub start_q : Start
start_q = record { «module» = 0; init = 2; name = codes "q" }

-- one module that holds its bit, for both latches
abbrev pub one_for_two : Circuit
one_for_two = record {
  clock = None;
  inputs = [];
  modules = (Module 0 ∷ Zero ∷ Zero ∷ Zero ∷ Zero ∷ Zero ∷ Zero ∷ Zero ∷ []) ∷ [];
  outputs = record { name = codes "p"; source = Module 0 } ∷ record { name = codes "q"; source = Module 0 } ∷ [];
  starts = start_p ∷ start_q ∷ [];
}

is_p : StartsLatch hold_two start_p 0 held_p
is_p = record { is = refl; name = refl; init = refl }

is_q : StartsLatch hold_two start_q 1 held_q
is_q = record { is = refl; name = refl; init = refl }

equal_bits : (a b : Bool) (bits : List Bool) → slice_get bits 0 ≡ slice_get (a ∷ b ∷ []) 0 → slice_get bits 0 ≡ slice_get (a ∷ b ∷ []) 1 → a ≡ b
equal_bits a b [] e f = cc
equal_bits a b (c ∷ bits) e f = cc

-- a case has equal bits for the two latches, so no case begins with 0 and 1
no_case : (IsOne : ℕ → List ℕ → Type 0) (bits : List Bool) (xs : List (List Bool)) (ws : List Waves) → ¬ IsCase IsOne one_for_two hold_two (false ∷ true ∷ []) bits xs ws
no_case IsOne bits xs ws k =
    let e : false ≡ true = equal_bits false true bits (k.agrees start_p 0 0 held_p refl is_p) (k.agrees start_q 1 1 held_q refl is_q) in cc

may_begin : Begins hold_two (false ∷ true ∷ [])
may_begin = record { one_each = refl; agrees = agrees }
  where
    agrees : (k : ℕ) (latch : Latch) → slice_get (held_p ∷ held_q ∷ []) k ≡ Some latch → AgreesWithInit latch.init (slice_index_or (false ∷ true ∷ []) k false)
    agrees zero latch is = let e : 2 ≡ latch.init = init_of held_p latch is in (λ f. absurd (omega arith), λ f. absurd (omega arith))
      where
        init_of : (x y : Latch) → Some x ≡ Some y → x.init ≡ y.init
        init_of x y h = cc
    agrees (suc zero) latch is = let e : 2 ≡ latch.init = init_of held_q latch is in (λ f. absurd (omega arith), λ f. absurd (omega arith))
      where
        init_of : (x y : Latch) → Some x ≡ Some y → x.init ≡ y.init
        init_of x y h = cc
    agrees (suc (suc k)) latch is = cc

one_for_two_not : ¬ Means one_for_two hold_two
one_for_two_not m = (m.ports.apart 0 1 start_p (omega arith) (omega arith)).1 refl
