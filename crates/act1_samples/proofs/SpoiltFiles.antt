-- Antifuse files that break one rule.
use Rattle.std.proofs.Common.{ℕ, ◌≡◌, ◌<◌, ◌≤◌, true, false, List, [], ◌∷◌, refl, arith, inl, inr, Some}
use Rattle.std.specs.Prelude.{codes, ◌⊎◌}
use Rattle.act1_device.specs.declared.device.Track.TheVariants as track
use Rattle.act1_device.specs.declared.device.Line.TheVariants as line
use Rattle.act1_device.specs.declared.device.Site.TheVariants.{Along, Cross}
use Rattle.act1_fuses.specs.declared.fuses.Port.{Port}
use Rattle.act1_fuses.specs.declared.fuses.StartAt.{StartAt}
use Rattle.act1_fuses.specs.Rules.{KeepsRules}
use Rattle.act1_samples.proofs.Devices.{tiny}
use Rattle.act1_samples.proofs.AntifuseTexts.{nothing}

abbrev pub port : ℕ → List ℕ → Port
port p n = record { pad = p; name = n }

abbrev pub start : ℕ → ℕ → ℕ → List ℕ → StartAt
start r c i n = record { spot = record { row = r; column = c }; init = i; name = n }

other_device : ¬ KeepsRules tiny (record nothing { device = codes "small" })
other_device o = let e = o.device in cc

same_inputs : ¬ KeepsRules tiny (record nothing { ins = port 0 (codes "a") ∷ port 1 (codes "a") ∷ [] })
same_inputs o = o.inputs 0 1 [] (omega arith) (omega arith) refl

same_outputs : ¬ KeepsRules tiny (record nothing { outs = port 0 (codes "a") ∷ port 1 (codes "a") ∷ [] })
same_outputs o = o.outputs 0 1 [] (omega arith) (omega arith) refl

latch_like_input : ¬ KeepsRules tiny (record nothing { ins = port 0 (codes "a") ∷ []; starts = start 0 0 0 (codes "a") ∷ [] })
latch_like_input o = o.inputs 0 1 [] (omega arith) (omega arith) refl

same_latches : ¬ KeepsRules tiny (record nothing { starts = start 0 0 0 (codes "a") ∷ start 0 1 0 (codes "a") ∷ [] })
same_latches o = o.inputs 0 1 [] (omega arith) (omega arith) refl

clock_like_output : ¬ KeepsRules tiny (record nothing { clock = Some (codes "y"); outs = port 0 (codes "y") ∷ [] })
clock_like_output o = o.clock.1 0 [] (omega arith) refl

clock_like_latch : ¬ KeepsRules tiny (record nothing { clock = Some (codes "q"); starts = start 0 0 0 (codes "q") ∷ [] })
clock_like_latch o = o.clock.1 0 [] (omega arith) refl

bad_clock : ¬ KeepsRules tiny (record nothing { clock = Some (codes "a b") })
bad_clock o = let e : false ≡ true = o.clock.0 in cc

bad_name : ¬ KeepsRules tiny (record nothing { outs = port 0 (codes "a#") ∷ [] })
bad_name o = let e : false ≡ true = o.names 0 [] (omega arith) in cc

pad_twice : ¬ KeepsRules tiny (record nothing { ins = port 1 (codes "a") ∷ []; outs = port 1 (codes "a") ∷ [] })
pad_twice o = o.once 0 1 (port 0 []) (omega arith) (omega arith) refl

pad_too_high : ¬ KeepsRules tiny (record nothing { ins = port 4 (codes "a") ∷ [] })
pad_too_high o = let e : 4 < 4 = o.pads 0 (port 0 []) (omega arith) in absurd (omega arith)

start_too_far : ¬ KeepsRules tiny (record nothing { starts = start 0 2 0 (codes "a") ∷ [] })
start_too_far o = let e : 2 < 2 = (o.starts 0 (start 0 0 0 []) (omega arith)).column in absurd (omega arith)

init_too_high : ¬ KeepsRules tiny (record nothing { starts = start 0 0 4 (codes "a") ∷ [] })
init_too_high o = let e : 4 ≤ 3 = (o.starts 0 (start 0 0 0 []) (omega arith)).init in absurd (omega arith)

starts_at_one_spot : ¬ KeepsRules tiny (record nothing { starts = start 0 1 0 (codes "a") ∷ start 0 1 0 (codes "b") ∷ [] })
starts_at_one_spot o = by_case o.spots_rise.0
  where
    by_case : ¬ ((0 < 0) ⊎ (◌≡◌ {A = ℕ} 0 0 × (1 < 1)))
    by_case (inl h) = absurd (omega arith)
    by_case (inr h) = absurd (omega (arith, h.1))

sites_exchanged : ¬ KeepsRules tiny (record nothing { sites = Cross 0 track.Vcc (line.Pad 0) ∷ Cross 0 track.Gnd (line.Pad 1) ∷ [] })
sites_exchanged o = let e : false ≡ true = o.sites_rise.0 in cc

site_twice : ¬ KeepsRules tiny (record nothing { sites = Cross 0 track.Gnd (line.Pad 1) ∷ Cross 0 track.Gnd (line.Pad 1) ∷ [] })
site_twice o = let e : false ≡ true = o.sites_rise.0 in cc

no_site : ¬ KeepsRules tiny (record nothing { sites = Cross 1 track.Gnd (line.Pad 1) ∷ [] })
no_site o = let e : ◌≡◌ {A = ℕ} 1 0 = (o.sites 0 (Along 0 0 0) (omega arith)).0.1 in absurd (omega arith)
