-- What a circuit means it means under another numbering of its modules.
use Rattle.std.proofs.Common.{ℕ, ◌≡◌, ◌≢◌, Bool, List, length, map, Some, sym, ap, subst, ◌∙◌, slice_get, All}
use Rattle.std.proofs.lemmas.List.{length-map}
use Rattle.std.proofs.lemmas.List.Elements.{All-contains, All-weaker}
use Rattle.act1_base.proofs.ListGets.{contains_at, place_of}
use Rattle.act1_blif.specs.declared.blif.Blif.{Blif}
use Rattle.act1_blif.specs.declared.blif.Latch.{Latch}
use Rattle.act1_blif.specs.Run.{Shows}
use Rattle.act1_circuit.specs.declared.circuit.Circuit.{Circuit}
use Rattle.act1_circuit.specs.declared.circuit.Start.{Start}
use Rattle.act1_circuit.specs.Firing.{IsWave, RestsAlong, Waves, run}
use Rattle.act1_circuit.specs.Range.{InRange}
use Rattle.act1_meaning.specs.Meaning.{AreVectors, IsCase, Means, Ports, StartsLatch}
use Rattle.act1_plan.specs.Order.{renumbered_start, site_number}
use Rattle.act1_planned.specs.Laws.{OrderKeepsMeaning, OrderKeepsRange}
use Rattle.act1_planned.proofs.Numbered.{IsNumbered, all_starts, in_range, numbered, other_modules, output_names_kept, pair_starts, start_low, start_on}
use Rattle.act1_planned.proofs.SameRuns.{AreBelow, BothAreWaves, SameBits, old_bits, renumbered, rests_same, run_same, same_bits, waves_back, waves_below}

module _ (number : ℕ → ℕ) (c d : Circuit) (b : Blif) (is : IsNumbered number c d) (means : Means c b) where
  abbrev range : InRange c
  range = means.in_range

  abbrev Starts : Start → Type 0
  Starts start = (k : ℕ) × (latch : Latch) × StartsLatch b start k latch

  abbrev Apart : Start → Start → Type 0
  Apart s t = (s.name ≢ t.name) × (s.module ≢ t.module)

  start_kept : (start : Start) → Starts start → Starts (renumbered_start number start)
  start_kept start (k, latch, h) = (k, latch, record { is = h.is; name = h.name; init = h.init })

  ports : Ports d b
  ports = record {
    clock = is.clock ∙ means.ports.clock;
    inputs = is.inputs ∙ means.ports.inputs;
    outputs = output_names_kept number c d range is ∙ means.ports.outputs;
    starts = all_starts number c d range is Starts (λ t h. start_kept t (All-contains Starts c.starts t means.ports.starts h));
    apart = pair_starts number c d range is Apart Apart (λ s t h. (λ e. h.0 (sym e), λ e. h.1 (sym e))) (λ s t low high h. (h.0, other_modules number c d range is s t low high h.1)) means.ports.apart;
  }

  -- a case of the one is a case of the other
  module _ (q bits : List Bool) (xs : List (List Bool)) (ws : List Waves) (k : IsCase IsWave d b q bits xs ws) where
    abbrev old : List Bool
    old = old_bits number c d range is bits

    same : SameBits number c d range is old bits
    same = same_bits number c d range is bits (k.one_each ∙ is.count)

    abbrev OfOther : Waves → Type 0
    OfOther w = IsWave (length d.modules) w.low × IsWave (length d.modules) w.high

    abbrev OfThis : Waves → Type 0
    OfThis = BothAreWaves number c d range is

    back : (vs : List Waves) × All OfThis vs × (map (renumbered number c d range is) vs ≡ ws)
    back = waves_back number c d range is ws (subst (λ (n : ℕ). All (λ (w : Waves). IsWave n w.low × IsWave n w.high) ws) is.count k.waves.each)

    below : All (AreBelow number c d range is) back.0
    below = All-weaker OfThis (AreBelow number c d range is) (waves_below number c d range is) back.0 back.1

    agrees : (start : Start) (j n : ℕ) (latch : Latch) → slice_get c.starts j ≡ Some start → StartsLatch b start n latch → slice_get old start.module ≡ slice_get q n
    agrees start j n latch e h =
        let inside = contains_at c.starts j start e in
        let place = place_of d.starts (renumbered_start number start) (start_on number c d range is start inside) in
        same.bits start.module (start_low number c d range is start inside)
        ∙ k.agrees (renumbered_start number start) place.0 n latch place.1 (record { is = h.is; name = h.name; init = h.init })

    case : IsCase IsWave c b q old xs back.0
    case = record {
      state = k.state;
      one_each = same.old_count;
      agrees = agrees;
      vectors = subst (λ (names : List (List ℕ)). AreVectors (length names) xs) is.inputs k.vectors;
      waves = record { count = sym (length-map back.0 (renumbered number c d range is)) ∙ ap length back.2 ∙ k.waves.count; each = back.1 };
    }

    shows : Shows b q xs (run d bits xs ws)
    shows =
        subst (λ (seen : List (List Bool)). Shows b q xs seen) (run_same number c d range is xs back.0 below old bits same ∙ ap (run d bits xs) back.2)
        (means.shows q old xs back.0 case)

    rests : RestsAlong d bits xs ws
    rests =
        subst (λ (us : List Waves). RestsAlong d bits xs us) back.2
        (rests_same number c d range is xs back.0 below old bits same (means.rests q old xs back.0 case))

  means_so : Means d b
  means_so = record { in_range = in_range number c d range is; ports = ports; shows = shows; rests = rests }

pub order_keeps_meaning : OrderKeepsMeaning
order_keeps_meaning c b spots p placed means = means_so (site_number spots) c p.circuit b (numbered c spots p placed) means

pub order_keeps_range : OrderKeepsRange
order_keeps_range c spots p placed range = in_range (site_number spots) c p.circuit range (numbered c spots p placed)
