-- In a circuit in pair form every wave leaves the same bits, and they rest.
use Rattle.std.proofs.Common.{ℕ, ◌≡◌, Bool, List, length, Option, Some, None, refl, ap, sym, ◌∙◌, subst}
use Rattle.std.specs.Prelude.{IfSome}
use Rattle.act1_order.specs.Laws.{AreLevels, LevelsWithoutRing}
use Rattle.act1_circuit.specs.declared.circuit.Circuit.{Circuit}
use Rattle.act1_circuit.specs.Firing.{fire_all, site_wave, IsAtRest, IsLeastUnrest, IsWave}
use Rattle.act1_circuit.specs.Laws.{AnyOrder}
use Rattle.act1_circuit.specs.PairForm.{IsPairForm, outside_reads}
use Rattle.act1_circuit.specs.Range.{InRange}
use Rattle.act1_circuit.proofs.OutsideGraph.{reads_within}
use Rattle.act1_circuit.proofs.PairLevels.{level_in, leveled}
use Rattle.act1_circuit.proofs.Settles.{final, wave_final, final_rests}
use Rattle.act1_circuit.proofs.SiteWaves.{is_wave}

-- the levels of the modules outside pairs
pub outside_levels : LevelsWithoutRing → (c : Circuit) → InRange c → IsPairForm c → (level : ℕ → ℕ) × AreLevels (outside_reads c) level
outside_levels levels c range form = levels (outside_reads c) (reads_within c range) form.rings

pub any_order : LevelsWithoutRing → AnyOrder
any_order levels c range form clock x bits long ms wave =
    let o = outside_levels levels c range form in
    let at = level_in c range form o.0 o.1 clock in
    let l = leveled c range form o.0 o.1 clock x in
    let last = final c clock x at bits l long in
    let here : fire_all c clock x bits ms ≡ last = wave_final c clock x at bits l long ms wave in
    let there : fire_all c clock x bits (site_wave (length c.modules)) ≡ last = wave_final c clock x at bits l long (site_wave (length c.modules)) (is_wave (length c.modules)) in
    (here ∙ sym there, subst (λ (b : List Bool). IsAtRest c clock x b) (sym here) (final_rests c clock x at bits l long))

-- what settling a circuit in pair form answers and leaves
pub settles : AnyOrder → (c : Circuit) (clock : Bool) (x start bits : List Bool) (result : Option ℕ) → length start ≡ length c.modules
    → bits ≡ fire_all c clock x start (site_wave (length start)) → IfSome result (IsLeastUnrest c clock x bits)
    → InRange c → IsPairForm c → (result ≡ None) × ((ms : List ℕ) → IsWave (length c.modules) ms → fire_all c clock x start ms ≡ bits)
settles any c clock x start bits result long is unrest range form = (by result unrest, λ ms wave. (any c range form clock x start long ms wave).0 ∙ sym here)
  where
    here : bits ≡ fire_all c clock x start (site_wave (length c.modules))
    here = is ∙ ap (λ (k : ℕ). fire_all c clock x start (site_wave k)) long

    rests : IsAtRest c clock x bits
    rests = subst (λ (b : List Bool). IsAtRest c clock x b) (sym here) (any c range form clock x start long (site_wave (length c.modules)) (is_wave (length c.modules))).1

    by : (r : Option ℕ) → IfSome r (IsLeastUnrest c clock x bits) → r ≡ None
    by None h = refl
    by (Some m) h = absurd (h.changes (rests m h.within))
