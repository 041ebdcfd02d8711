-- Worked examples of arrays: an inverter on a small device, sound and with the circuit that it should have.
use Rattle.std.proofs.Common.{ℕ, suc, zero, ◌≡◌, ◌≢◌, ◌<◌, ◌+◌, ◌==◌, cond, List, [], ◌∷◌, ◌++◌, length, refl, arith, inl, inr, ap, sym, subst, ◌∙◌, Option, Some, None}
use Rattle.std.specs.Prelude.{codes, IsTrue, Contains, All, slice_get, slice_index_or}
use Rattle.std.proofs.lemmas.List.Elements.{All-contains, All-from_recursion}
use Rattle.act1_base.specs.Joined.{Linked, Leads, Joined}
use Rattle.act1_base.specs.Names.{is_name}
use Rattle.act1_device.specs.declared.device.Track.TheVariants as track
use Rattle.act1_device.specs.declared.device.Line.TheVariants as line
use Rattle.act1_device.specs.declared.device.Site.{Site}
use Rattle.act1_device.specs.declared.device.Site.TheVariants.{Cross}
use Rattle.act1_device.specs.declared.device.Wire.{Wire}
use Rattle.act1_device.specs.declared.device.Wire.TheVariants as wire
use Rattle.act1_device.specs.Sites.{IsSite}
use Rattle.act1_circuit.specs.declared.circuit.Output.{Output}
use Rattle.act1_circuit.specs.declared.circuit.Spot.{Spot}
use Rattle.act1_circuit.specs.declared.circuit.Source.{Source}
use Rattle.act1_circuit.specs.declared.circuit.Source.TheVariants.{Zero, One, Clock, Input, Module}
use Rattle.act1_circuit.specs.declared.circuit.Placed.{Placed}
use Rattle.act1_fuses.specs.declared.fuses.Port.{Port}
use Rattle.act1_fuses.specs.Wires as any
use Rattle.act1_fuses.specs.Wires.{links_of}
use Rattle.act1_fuses.specs.Array.{IsUsed, IsSource, IsFed, Sound, IsCircuitOf, Drives, pin_wire, pad_wire, out_wire}
use Rattle.act1_fuses.specs.Rules.{KeepsRules}
use Rattle.act1_samples.proofs.Devices.{tiny}
use Rattle.act1_samples.proofs.AntifuseTexts.{inverter}
use Rattle.act1_samples.proofs.Circuits.{inverter as inverter_circuit}

module _ {V : Type 0} (links : List (V × V)) (owner : V → ℕ) (kept : All (λ (l : V × V). owner l.0 ≡ owner l.1) links) where
  pub link_keeps : (a b : V) → Linked links a b → owner a ≡ owner b
  link_keeps a b (inl h) = All-contains (λ (l : V × V). owner l.0 ≡ owner l.1) links (a, b) kept h
  link_keeps a b (inr h) = sym (All-contains (λ (l : V × V). owner l.0 ≡ owner l.1) links (b, a) kept h)

  pub leads_keeps : (a : V) (path : List V) (b : V) → Leads links a path b → owner a ≡ owner b
  leads_keeps a [] b h = ap owner h
  leads_keeps a (c ∷ path) b h = link_keeps a c h.0 ∙ leads_keeps c path b h.1

  -- what each link keeps, each path keeps
  pub joined_keeps : (a b : V) → Joined links a b → owner a ≡ owner b
  joined_keeps a b h = leads_keeps a h.path b h.leads

-- the inverter's sites are sites of the device, and it keeps the rules
inverter_sites : All (IsSite tiny) inverter.sites
inverter_sites = All-from_recursion (IsSite tiny) inverter.sites (
  (((omega arith, omega arith), (omega arith, omega arith, omega arith)), omega arith),
  (
    ((omega arith, refl), omega arith),
    (
      (((omega arith, omega arith, omega arith), refl), tt),
      (
        (((omega arith, omega arith, omega arith), refl), tt),
        (
          (((omega arith, omega arith, omega arith), refl), tt),
          (
            (((omega arith, omega arith, omega arith), refl), tt),
            (
              (((omega arith, omega arith, omega arith), refl), omega arith),
              (
                ((omega arith, refl), omega arith),
                (
                  (((omega arith, omega arith, omega arith), refl), tt),
                  (
                    (((omega arith, omega arith, omega arith), refl), tt),
                    ((((omega arith, omega arith, omega arith), refl), tt), tt),
                  ),
                ),
              ),
            ),
          ),
        ),
      ),
    ),
  ),
)

pads_apart : (i j : ℕ) (d : Port) → i < j → j < 2 → (slice_index_or (inverter.ins ++ inverter.outs) i d).pad ≢ (slice_index_or (inverter.ins ++ inverter.outs) j d).pad
pads_apart zero zero d low in_range = absurd (omega arith)
pads_apart zero (suc zero) d low in_range = λ e. absurd (omega (arith, e))
pads_apart zero (suc (suc j)) d low in_range = absurd (omega arith)
pads_apart (suc i) zero d low in_range = absurd (omega arith)
pads_apart (suc i) (suc zero) d low in_range = absurd (omega arith)
pads_apart (suc i) (suc (suc j)) d low in_range = absurd (omega arith)

inverter_keeps_rules : KeepsRules tiny inverter
inverter_keeps_rules = record {
  device = refl;
  names = All-from_recursion (λ name. IsTrue (is_name name)) (codes "a" ∷ codes "y" ∷ []) (refl, (refl, tt));
  inputs = λ i j d low in_range. absurd (omega arith);
  outputs = λ i j d low in_range. absurd (omega arith);
  clock = tt;
  pads = All-from_recursion (λ (port : Port). port.pad < 4) (inverter.ins ++ inverter.outs) (omega arith, (omega arith, tt));
  once = pads_apart;
  starts = λ k d in_range. absurd (omega arith);
  spots_rise = tt;
  sites = inverter_sites;
  sites_rise = (refl, (refl, (refl, (refl, (refl, (refl, (refl, (refl, (refl, (refl, tt))))))))));
}

-- which source each wire has: ground, power, clock, the module or the input
abbrev pub inverter_owner : Wire → ℕ
inverter_owner wire.Gnd = 0
inverter_owner wire.Vcc = 1
inverter_owner wire.Clk = 2
inverter_owner (wire.Seg channel t index) = 3 + channel
inverter_owner (wire.Vertical (line.Pin row column pin)) = slice_index_or (1 ∷ 0 ∷ 0 ∷ 0 ∷ 0 ∷ 0 ∷ 4 ∷ 0 ∷ []) pin 0
inverter_owner (wire.Vertical (line.Out row column)) = 3
inverter_owner (wire.Vertical (line.Long column index)) = 5
inverter_owner (wire.Vertical (line.Pad pad)) = cond (pad == 0) 3 4

inverter_kept : All (λ (l : Wire × Wire). inverter_owner l.0 ≡ inverter_owner l.1) (links_of tiny inverter.sites)
inverter_kept = All-from_recursion (λ (l : Wire × Wire). inverter_owner l.0 ≡ inverter_owner l.1) (links_of tiny inverter.sites)
    (refl, (refl, (refl, (refl, (refl, (refl, (refl, (refl, (refl, (refl, (refl, tt)))))))))))

abbrev pub the_spot : Spot
the_spot = record { row = 0; column = 0 }

-- the sources by number
abbrev pub the_source : ℕ → Wire
the_source n = slice_index_or (wire.Gnd ∷ wire.Vcc ∷ wire.Clk ∷ out_wire the_spot ∷ pad_wire 2 ∷ []) n wire.Gnd

-- a site whose line is an output is at the one module
abbrev pub AtTheSpot : Site → Type 0
AtTheSpot (Cross channel t (line.Out row column)) = (row ≡ 0) × (column ≡ 0)
AtTheSpot s = Unit {0}

the_outputs : All AtTheSpot inverter.sites
the_outputs = All-from_recursion AtTheSpot inverter.sites ((refl, refl), (tt, (tt, (tt, (tt, (tt, (tt, (tt, (tt, (tt, (tt, tt)))))))))))

used_is_the_spot : (s : Spot) → IsUsed inverter.sites s → (s.row ≡ 0) × (s.column ≡ 0)
used_is_the_spot s h = All-contains AtTheSpot inverter.sites (Cross h.0 h.1 (line.Out s.row s.column)) the_outputs h.2

abbrev pub spot_at : ℕ → ℕ → Spot
spot_at row column = record { row = row; column = column }

spot_is : (s : Spot) → (s.row ≡ 0) × (s.column ≡ 0) → s ≡ the_spot
spot_is s h = subst (λ (r : ℕ). spot_at r s.column ≡ the_spot) (sym h.0) (subst (λ (c : ℕ). spot_at 0 c ≡ the_spot) (sym h.1) refl)

known_source : (w : Wire) → IsSource inverter w → w ≡ the_source (inverter_owner w)
known_source wire.Gnd h = refl
known_source wire.Vcc h = refl
known_source wire.Clk h = refl
known_source (wire.Seg channel t index) h = absurd h
known_source (wire.Vertical (line.Pin row column pin)) h = absurd h
known_source (wire.Vertical (line.Long column index)) h = absurd h
known_source (wire.Vertical (line.Out row column)) h = ap out_wire (spot_is (record { row = row; column = column }) (used_is_the_spot _ h))
known_source (wire.Vertical (line.Pad pad)) h =
    let two : pad ≡ 2 = All-contains (λ p. p ≡ 2) (2 ∷ []) pad (All-from_recursion (λ p. p ≡ 2) (2 ∷ []) (refl, tt)) h in
    subst (λ (p : ℕ). pad_wire p ≡ the_source (inverter_owner (pad_wire p))) (sym two) refl

-- wires that are joined
to_ground : (k pin : ℕ) → Contains (links_of tiny inverter.sites) (pin_wire the_spot pin, wire.Gnd) → any.Joined tiny inverter.sites wire.Gnd (pin_wire the_spot pin)
to_ground k pin h = record { path = pin_wire the_spot pin ∷ []; leads = (inr h, refl) }

to_power : any.Joined tiny inverter.sites wire.Vcc (pin_wire the_spot 0)
to_power = record { path = pin_wire the_spot 0 ∷ []; leads = (inr (5, omega arith, refl), refl) }

to_input : any.Joined tiny inverter.sites (pad_wire 2) (pin_wire the_spot 6)
to_input = record { path = wire.Seg 1 0 0 ∷ pin_wire the_spot 6 ∷ []; leads = (inl (7, omega arith, refl), (inr (6, omega arith, refl), refl)) }

to_output : any.Joined tiny inverter.sites (out_wire the_spot) (pad_wire 0)
to_output = record { path = wire.Seg 0 0 0 ∷ pad_wire 0 ∷ []; leads = (inl (0, omega arith, refl), (inr (1, omega arith, refl), refl)) }

abbrev pub inverter_placed : Placed
inverter_placed = record { circuit = inverter_circuit; spots = the_spot ∷ [] }

-- each pin of the module has the source that it should have
abbrev pub eight : List Source
eight = One ∷ Zero ∷ Zero ∷ Zero ∷ Zero ∷ Zero ∷ Input 0 ∷ Zero ∷ []

abbrev pub DrivesPin : Source → ℕ → Type 0
DrivesPin source k = Drives tiny inverter (the_spot ∷ []) source (pin_wire the_spot k)

by_source : (known source : Source) (k : ℕ) → Some known ≡ Some source → DrivesPin known k → DrivesPin source k
by_source known source k e h = subst (λ (s : Source). DrivesPin s k) (some_of known source e) h
  where
    some_of : (x y : Source) → Some x ≡ Some y → x ≡ y
    some_of x y e = cc

the_pins : (k : ℕ) (source : Source) → slice_get eight k ≡ Some source → DrivesPin source k
the_pins zero source is = by_source One source 0 is (wire.Vcc, refl, to_power)
the_pins (suc zero) source is = by_source Zero source 1 is (wire.Gnd, refl, to_ground 2 1 (2, omega arith, refl))
the_pins (suc (suc zero)) source is = by_source Zero source 2 is (wire.Gnd, refl, to_ground 3 2 (3, omega arith, refl))
the_pins (suc (suc (suc zero))) source is = by_source Zero source 3 is (wire.Gnd, refl, to_ground 4 3 (4, omega arith, refl))
the_pins (suc (suc (suc (suc zero)))) source is = by_source Zero source 4 is (wire.Gnd, refl, to_ground 8 4 (8, omega arith, refl))
the_pins (suc (suc (suc (suc (suc zero))))) source is = by_source Zero source 5 is (wire.Gnd, refl, to_ground 9 5 (9, omega arith, refl))
the_pins (suc (suc (suc (suc (suc (suc zero)))))) source is = by_source (Input 0) source 6 is (pad_wire 2, (record { pad = 2; name = codes "a" }, refl, refl), to_input)
the_pins (suc (suc (suc (suc (suc (suc (suc zero))))))) source is = by_source Zero source 7 is (wire.Gnd, refl, to_ground 10 7 (10, omega arith, refl))
the_pins (suc (suc (suc (suc (suc (suc (suc (suc k)))))))) source is = cc

the_modules : (m k : ℕ) (s : Spot) (sources : List Source) (source : Source) → slice_get (the_spot ∷ []) m ≡ Some s → slice_get (eight ∷ []) m ≡ Some sources → slice_get sources k ≡ Some source → Drives tiny inverter (the_spot ∷ []) source (pin_wire s k)
the_modules zero k s sources source at_spot at_module is =
    subst (λ (u : Spot). Drives tiny inverter (the_spot ∷ []) source (pin_wire u k)) (same the_spot s at_spot)
    (the_pins k source (ap (λ (xs : List Source). slice_get xs k) (alike eight sources at_module) ∙ is))
  where
    same : (x y : Spot) → Some x ≡ Some y → x ≡ y
    same x y e = cc

    alike : (x y : List Source) → Some x ≡ Some y → x ≡ y
    alike x y e = cc
the_modules (suc m) k s sources source at_spot at_module is = cc

abbrev pub out_port : Port
out_port = record { pad = 0; name = codes "y" }

abbrev pub output : Output
output = record { name = codes "y"; source = Module 0 }

the_outs : (k : ℕ) (port : Port) (o : Output) → slice_get (out_port ∷ []) k ≡ Some port → slice_get (output ∷ []) k ≡ Some o → Drives tiny inverter (the_spot ∷ []) o.source (pad_wire port.pad)
the_outs zero port o at_port at_output =
    subst (λ (p : Port). Drives tiny inverter (the_spot ∷ []) o.source (pad_wire p.pad)) (same out_port port at_port)
    (subst (λ (q : Output). Drives tiny inverter (the_spot ∷ []) q.source (pad_wire 0)) (alike output o at_output) (out_wire the_spot, (the_spot, refl, refl), to_output))
  where
    same : (x y : Port) → Some x ≡ Some y → x ≡ y
    same x y e = cc

    alike : (x y : Output) → Some x ≡ Some y → x ≡ y
    alike x y e = cc
the_outs (suc k) port o at_port at_output = cc

spot_is_used : IsUsed inverter.sites the_spot
spot_is_used = (0, track.Signal 0, (0, omega arith, refl))

-- the array has the circuit that it should have
inverter_is : IsCircuitOf inverter_placed tiny inverter
inverter_is = record {
  rise = tt;
  used = λ s. (λ u. (0, omega arith, sym (spot_is s (used_is_the_spot s u))), λ h. subst (λ (u : Spot). IsUsed inverter.sites u) (sym (All-contains (λ (u : Spot). u ≡ the_spot) (the_spot ∷ []) s (All-from_recursion (λ (u : Spot). u ≡ the_spot) (the_spot ∷ []) (refl, tt)) h)) spot_is_used);
  modules = refl;
  eight = All-from_recursion (λ (sources : List Source). length sources ≡ 8) (eight ∷ []) (refl, tt);
  pins = the_modules;
  outputs = the_outs;
  output_names = refl;
  clock = refl;
  inputs = refl;
  starts = refl;
}

pin_source : (pin : ℕ) → pin < 8 → (source : Source) × (slice_get eight pin ≡ Some source)
pin_source zero low = (_, refl)
pin_source (suc zero) low = (_, refl)
pin_source (suc (suc zero)) low = (_, refl)
pin_source (suc (suc (suc zero))) low = (_, refl)
pin_source (suc (suc (suc (suc zero)))) low = (_, refl)
pin_source (suc (suc (suc (suc (suc zero))))) low = (_, refl)
pin_source (suc (suc (suc (suc (suc (suc zero)))))) low = (_, refl)
pin_source (suc (suc (suc (suc (suc (suc (suc zero))))))) low = (_, refl)
pin_source (suc (suc (suc (suc (suc (suc (suc (suc k)))))))) low = absurd (omega arith)

-- what drives feeds
feeds : (source : Source) (w : Wire) → Drives tiny inverter (the_spot ∷ []) source w → IsFed tiny inverter w
feeds Zero w d = (wire.Gnd, tt, subst (λ (u : Wire). any.Joined tiny inverter.sites u w) d.1 d.2)
feeds One w d = (wire.Vcc, tt, subst (λ (u : Wire). any.Joined tiny inverter.sites u w) d.1 d.2)
feeds Clock w d = (wire.Clk, tt, subst (λ (u : Wire). any.Joined tiny inverter.sites u w) d.1 d.2)
feeds (Input i) w d = (pad_wire d.1.0.pad, input_of i d.1.0 d.1.1, subst (λ (u : Wire). any.Joined tiny inverter.sites u w) d.1.2 d.2)
  where
    input_of : (i : ℕ) (port : Port) → slice_get inverter.ins i ≡ Some port → Contains (2 ∷ []) port.pad
    input_of zero port e = (0, omega arith, ap (λ (o : Option Port). pad_of o) e)
      where
        pad_of : Option Port → ℕ
        pad_of None = 0
        pad_of (Some port) = port.pad
    input_of (suc i) port e = cc
feeds (Module m) w d = (out_wire d.1.0, module_at m d.1.0 d.1.1, subst (λ (u : Wire). any.Joined tiny inverter.sites u w) d.1.2 d.2)
  where
    same : (x y : Spot) → Some x ≡ Some y → x ≡ y
    same x y e = cc

    module_at : (m : ℕ) (s : Spot) → slice_get (the_spot ∷ []) m ≡ Some s → IsUsed inverter.sites s
    module_at zero s e = subst (λ (u : Spot). IsUsed inverter.sites u) (same the_spot s e) spot_is_used
    module_at (suc m) s e = cc

pin_is_fed : (s : Spot) (pin : ℕ) → IsUsed inverter.sites s → pin < 8 → IsFed tiny inverter (pin_wire s pin)
pin_is_fed s pin u low =
    let has = pin_source pin low in
    subst (λ (t : Spot). IsFed tiny inverter (pin_wire t pin)) (sym (spot_is s (used_is_the_spot s u))) (feeds has.0 (pin_wire the_spot pin) (the_pins pin has.0 has.1))

-- the array is sound
inverter_is_sound : Sound tiny inverter
inverter_is_sound = record {
  apart = λ a b from to joined. known_source a from ∙ ap the_source (joined_keeps (links_of tiny inverter.sites) inverter_owner inverter_kept a b joined) ∙ sym (known_source b to);
  pins = pin_is_fed;
  outputs = All-from_recursion (λ (port : Port). IsFed tiny inverter (pad_wire port.pad)) inverter.outs ((out_wire the_spot, spot_is_used, to_output), tt);
  starts = λ k d in_range. absurd (omega arith);
}
