-- What a circuit means in every order it means in site order.
use Rattle.std.proofs.Common.{ℕ, Bool, List, length, sym, subst}
use Rattle.std.proofs.lemmas.List.Elements.{All-weaker}
use Rattle.act1_blif.specs.declared.blif.Blif.{Blif}
use Rattle.act1_circuit.specs.declared.circuit.Circuit.{Circuit}
use Rattle.act1_circuit.specs.Firing.{IsWave, IsSiteWave, Waves}
use Rattle.act1_circuit.specs.Laws.{SiteOrderIsWave}
use Rattle.act1_meaning.specs.Meaning.{Means, MeansInOrder, IsCase}

is_wave : SiteOrderIsWave → (n : ℕ) (ms : List ℕ) → IsSiteWave n ms → IsWave n ms
is_wave site n ms e = subst (λ (xs : List ℕ). IsWave n xs) (sym e) (site n)

as_case : SiteOrderIsWave → (c : Circuit) (b : Blif) (q bits : List Bool) (xs : List (List Bool)) (ws : List Waves) → IsCase IsSiteWave c b q bits xs ws → IsCase IsWave c b q bits xs ws
as_case site c b q bits xs ws k = record {
  state = k.state;
  one_each = k.one_each;
  agrees = k.agrees;
  vectors = k.vectors;
  waves = record {
    count = k.waves.count;
    each = All-weaker (λ (w : Waves). IsSiteWave (length c.modules) w.low × IsSiteWave (length c.modules) w.high) (λ (w : Waves). IsWave (length c.modules) w.low × IsWave (length c.modules) w.high)
        (λ w h. (is_wave site (length c.modules) w.low h.0, is_wave site (length c.modules) w.high h.1)) ws k.waves.each;
  };
}

pub means_in_order : SiteOrderIsWave → (c : Circuit) (b : Blif) → Means c b → MeansInOrder c b
means_in_order site c b m = record {
  in_range = m.in_range;
  ports = m.ports;
  shows = λ q bits xs ws k. m.shows q bits xs ws (as_case site c b q bits xs ws k);
  rests = λ q bits xs ws k. m.rests q bits xs ws (as_case site c b q bits xs ws k);
}
