-- An array, a text of vectors and a fill have at most one answer, since the array has.
use Rattle.std.proofs.Common.{ℕ, ◌≡◌, ◌≢◌, Bool, List, length, Some, Result, Ok, Err, refl, sym, ap, subst, ◌∙◌}
use Rattle.std.specs.Prelude.{slice_get}
use Rattle.act1_base.proofs.ListGets.{some_is}
use Rattle.act1_device.specs.declared.device.Device.{Device}
use Rattle.act1_circuit.specs.declared.circuit.Placed.{Placed}
use Rattle.act1_circuit.specs.declared.circuit.Spot.{Spot}
use Rattle.act1_fuses.specs.declared.fuses.FuseFile.{FuseFile}
use Rattle.act1_fuses.specs.Rules.{KeepsRules}
use Rattle.act1_array.specs.declared.fault.ArrayFault.{ArrayFault}
use Rattle.act1_array.specs.declared.fault.ArrayFault.TheVariants as array
use Rattle.act1_array.specs.Gives.{Gives}
use Rattle.act1_array.specs.Laws as arrays
use Rattle.act1_sim.specs.declared.fault.SimFault.{SimFault}
use Rattle.act1_sim.specs.declared.fault.SimFault.TheVariants.{Array, Vector, Unsettled, Memory}
use Rattle.act1_sim.specs.Cycles.{outputs, IsFirstUnrest, BeginsWith}
use Rattle.act1_sim.specs.Vectors.{AreVectorsOf, IsFirstNoVector, output_text}
use Rattle.act1_sim.specs.Simulation.{IsSetUp, Simulates, RefusesVector, DoesNotSettle, RefusesToSimulate}
use Rattle.act1_sim.proofs.OneStart.{one_start, one_list, all_or_first, one_line, rests_or_stops, one_stop}

abbrev array_refusal : ArrayFault → SimFault
array_refusal fault = Array fault

abbrev vector_refusal : ℕ → SimFault
vector_refusal line = Vector line

abbrev unsettled_refusal : ℕ → Spot → SimFault
unsettled_refusal cycle spot = Unsettled cycle spot

abbrev circuit : Placed → Result Placed ArrayFault
circuit p = Ok p

abbrev refused : ArrayFault → Result Placed ArrayFault
refused fault = Err fault

-- a circuit is no refusal, and equal answers have equal parts
not_short : (p : Placed) → circuit p ≢ refused array.Memory
not_short p e = cc

same_refusal : (a b : ArrayFault) → refused a ≡ refused b → a ≡ b
same_refusal a b e = cc

is_cause : (fault : ArrayFault) → fault ≢ array.Memory → refused fault ≢ refused array.Memory
is_cause fault cause e = cause (same_refusal fault array.Memory e)

same_placed : (p q : Placed) → circuit p ≡ circuit q → p ≡ q
same_placed p q e = cc

circuit_or_refused : (p : Placed) (fault : ArrayFault) → circuit p ≢ refused fault
circuit_or_refused p fault e = cc

module _ (one : arrays.OneAnswer) (dev : Device) (f : FuseFile) (bytes : List ℕ) (fill : Bool) (rules : KeepsRules dev f) where
  one_placed : (p q : Placed) → Gives dev f (Ok p) → Gives dev f (Ok q) → p ≡ q
  one_placed p q a b = same_placed p q (one dev f rules (Ok p) (Ok q) (not_short p) (not_short q) a b)

  -- where the array has a circuit, all that a simulation begins with is given
  module _ (p : Placed) (xs : List (List Bool)) (bits : List Bool) (set_up : IsSetUp dev f bytes fill p xs bits) where
    same_set_up : (q : Placed) (ys : List (List Bool)) (others : List Bool) → IsSetUp dev f bytes fill q ys others → (Holds : Placed → List (List Bool) → List Bool → Type 0) → Holds q ys others → Holds p xs bits
    same_set_up q ys others other Holds h =
        let same = one_placed q p other.array set_up.array in
        let vectors = subst (λ (r : Placed). AreVectorsOf (length r.circuit.inputs) bytes ys) same other.vectors in
        let begins = subst (λ (r : Placed). BeginsWith r.circuit fill others) same other.begins in
        subst (λ (b : List Bool). Holds p xs b) (one_start p.circuit.starts (length p.circuit.modules) fill others bits begins set_up.begins)
        (subst (λ (zs : List (List Bool)). Holds p zs others) (one_list (length p.circuit.inputs) bytes ys xs vectors set_up.vectors)
        (subst (λ (r : Placed). Holds r ys others) same h))

  -- the line of a refusal, by the width that the circuit has
  line_of : (p : Placed) (line : ℕ) → Gives dev f (Ok p) → RefusesVector dev f bytes line → IsFirstNoVector (length p.circuit.inputs) bytes line
  line_of p line given h = subst (λ (q : Placed). IsFirstNoVector (length q.circuit.inputs) bytes line) (one_placed h.placed p h.array given) h.first

  -- the cycle and the spot of a refusal, by the circuit, the vectors and the bits that are given
  stopped_at : (p : Placed) (xs : List (List Bool)) (bits : List Bool) → IsSetUp dev f bytes fill p xs bits → (cycle m : ℕ) (spot : Spot) (q : Placed) → DoesNotSettle dev f bytes fill cycle m q
      → slice_get q.spots m ≡ Some spot → IsFirstUnrest p.circuit bits xs cycle m × (slice_get p.spots m ≡ Some spot)
  stopped_at p xs bits set_up cycle m spot q h at =
      same_set_up p xs bits set_up q h.vectors h.bits h.set_up (λ r zs b. IsFirstUnrest r.circuit b zs cycle m × (slice_get r.spots m ≡ Some spot)) (h.first, at)

  -- two texts that are simulated are one
  pub one_text : (text other : List ℕ) → Simulates dev f bytes fill text → Simulates dev f bytes fill other → text ≡ other
  one_text text other a b =
      a.text_is ∙ sym (same_set_up a.placed a.vectors a.bits a.set_up b.placed b.vectors b.bits b.set_up (λ p xs bits. other ≡ output_text (outputs p.circuit bits xs)) b.text_is)

  -- an array with a circuit, and no refusal of the array
  no_fault : (fault : ArrayFault) (p : Placed) → (fault ≢ array.Memory) × Gives dev f (Err fault) → Gives dev f (Ok p) → ⊥
  no_fault fault p h given = circuit_or_refused p fault (one dev f rules (Ok p) (Err fault) (not_short p) (is_cause fault h.0) given h.1)

  -- what is simulated is not refused
  pub never_both : (text : List ℕ) (e : SimFault) → e ≢ Memory → Simulates dev f bytes fill text → RefusesToSimulate dev f bytes fill e → ⊥
  never_both text (Array fault) cause a b = no_fault fault a.placed b a.set_up.array
  never_both text (Vector line) cause a b =
      all_or_first (length a.placed.circuit.inputs) bytes a.vectors line a.set_up.vectors (line_of a.placed line a.set_up.array b)
  never_both text (Unsettled cycle spot) cause a (q, m, h, at) =
      rests_or_stops a.placed.circuit a.bits a.vectors cycle m a.rests (stopped_at a.placed a.vectors a.bits a.set_up cycle m spot q h at).0
  never_both text Memory cause a b = cause refl

  -- where a cycle is unsettled, each line is a vector
  no_line : (cycle m line : ℕ) (p : Placed) → RefusesVector dev f bytes line → DoesNotSettle dev f bytes fill cycle m p → ⊥
  no_line cycle m line p h stops =
      all_or_first (length p.circuit.inputs) bytes stops.vectors line stops.set_up.vectors (line_of p line stops.set_up.array h)

  one_spot : (p : Placed) (m n : ℕ) (spot next : Spot) → m ≡ n → slice_get p.spots m ≡ Some spot → slice_get p.spots n ≡ Some next → spot ≡ next
  one_spot p m n spot next same a b = some_is spot next (sym a ∙ ap (slice_get p.spots) same ∙ b)

  -- two refusals are one
  pub one_refusal : (e other : SimFault) → e ≢ Memory → other ≢ Memory → RefusesToSimulate dev f bytes fill e → RefusesToSimulate dev f bytes fill other → e ≡ other
  one_refusal (Array fault) (Array other) cause next a b = ap array_refusal (same_refusal fault other (one dev f rules (Err fault) (Err other) (is_cause fault a.0) (is_cause other b.0) a.1 b.1))
  one_refusal (Array fault) (Vector line) cause next a b = absurd (no_fault fault b.placed a b.array)
  one_refusal (Array fault) (Unsettled cycle spot) cause next a (q, n, h, at) = absurd (no_fault fault q a h.set_up.array)
  one_refusal (Vector line) (Array fault) cause next a b = absurd (no_fault fault a.placed b a.array)
  one_refusal (Vector line) (Vector other) cause next a b = ap vector_refusal (one_line (length a.placed.circuit.inputs) bytes line other a.first (line_of a.placed other a.array b))
  one_refusal (Vector line) (Unsettled cycle spot) cause next a (q, n, h, at) = absurd (no_line cycle n line q a h)
  one_refusal (Unsettled cycle spot) (Array fault) cause next (p, m, h, at) b = absurd (no_fault fault p b h.set_up.array)
  one_refusal (Unsettled cycle spot) (Vector line) cause next (p, m, h, at) b = absurd (no_line cycle m line p b h)
  one_refusal (Unsettled cycle spot) (Unsettled other more) cause next (p, m, h, at) (q, n, k, there) =
      let found = stopped_at p h.vectors h.bits h.set_up other n more q k there in
      let same = one_stop p.circuit h.bits h.vectors cycle other m n h.first found.0 in
      ap (λ (k : ℕ). unsettled_refusal k spot) same.0 ∙ ap (unsettled_refusal other) (one_spot p m n spot more same.1 at found.1)
  one_refusal Memory other cause next a b = absurd (cause refl)
  one_refusal e Memory cause next a b = absurd (next refl)
