-- Arrays that aren't sound, each for one reason.
use Rattle.std.proofs.Common.{ℕ, ◌≡◌, ◌≢◌, ◌<◌, List, [], ◌∷◌, refl, arith, inl, inr}
use Rattle.std.specs.Prelude.{codes, All}
use Rattle.std.proofs.lemmas.List.Elements.{All-from_recursion}
use Rattle.act1_base.specs.Joined.{Linked, Leads}
use Rattle.act1_device.specs.declared.device.Track.TheVariants as track
use Rattle.act1_device.specs.declared.device.Line.TheVariants as line
use Rattle.act1_device.specs.declared.device.Site.TheVariants.{Cross}
use Rattle.act1_device.specs.declared.device.Wire.{Wire}
use Rattle.act1_device.specs.declared.device.Wire.TheVariants as wire
use Rattle.act1_circuit.specs.declared.circuit.Spot.{Spot}
use Rattle.act1_fuses.specs.declared.fuses.FuseFile.{FuseFile}
use Rattle.act1_fuses.specs.declared.fuses.Port.{Port}
use Rattle.act1_fuses.specs.declared.fuses.StartAt.{StartAt}
use Rattle.act1_fuses.specs.Wires as any
use Rattle.act1_fuses.specs.Wires.{links_of}
use Rattle.act1_fuses.specs.Array.{IsUsed, IsSource, IsFed, pin_wire, pad_wire, out_wire}
use Rattle.act1_samples.proofs.Devices.{tiny}
use Rattle.act1_samples.proofs.AntifuseTexts.{nothing}
use Rattle.act1_samples.proofs.SoundArrays.{joined_keeps, the_spot, spot_at}

-- two modules whose outputs meet on one track
abbrev pub driven_twice : FuseFile
driven_twice = record nothing { sites = Cross 0 (track.Signal 0) (line.Out 0 0) ∷ Cross 0 (track.Signal 0) (line.Out 0 1) ∷ [] }

outputs_meet : any.Joined tiny driven_twice.sites (out_wire (spot_at 0 0)) (out_wire (spot_at 0 1))
outputs_meet = record { path = wire.Seg 0 0 0 ∷ out_wire (spot_at 0 1) ∷ []; leads = (inl (0, omega arith, refl), (inr (1, omega arith, refl), refl)) }

driven_twice_is_not_apart : ¬ ((a b : Wire) → IsSource driven_twice a → IsSource driven_twice b → any.Joined tiny driven_twice.sites a b → a ≡ b)
driven_twice_is_not_apart apart =
    let e : out_wire (spot_at 0 0) ≡ out_wire (spot_at 0 1) = apart _ _ (0, track.Signal 0, (0, omega arith, refl)) (0, track.Signal 0, (1, omega arith, refl)) outputs_meet in cc

-- one module, whose pins are joined to nothing
abbrev pub floating : FuseFile
floating = record nothing { sites = Cross 0 (track.Signal 0) (line.Out 0 0) ∷ [] }

abbrev pub floating_owner : Wire → ℕ
floating_owner wire.Gnd = 0
floating_owner wire.Vcc = 1
floating_owner wire.Clk = 2
floating_owner (wire.Seg channel t index) = 3
floating_owner (wire.Vertical (line.Pin row column pin)) = 4
floating_owner (wire.Vertical (line.Out row column)) = 3
floating_owner (wire.Vertical (line.Long column index)) = 5
floating_owner (wire.Vertical (line.Pad pad)) = 5

floating_kept : All (λ (l : Wire × Wire). floating_owner l.0 ≡ floating_owner l.1) (links_of tiny floating.sites)
floating_kept = All-from_recursion (λ (l : Wire × Wire). floating_owner l.0 ≡ floating_owner l.1) (links_of tiny floating.sites) (refl, tt)

source_is_no_pin : (w : Wire) → IsSource floating w → floating_owner w < 4
source_is_no_pin wire.Gnd h = omega arith
source_is_no_pin wire.Vcc h = omega arith
source_is_no_pin wire.Clk h = omega arith
source_is_no_pin (wire.Seg channel t index) h = omega arith
source_is_no_pin (wire.Vertical (line.Pin row column pin)) h = absurd h
source_is_no_pin (wire.Vertical (line.Out row column)) h = omega arith
source_is_no_pin (wire.Vertical (line.Long column index)) h = absurd h
source_is_no_pin (wire.Vertical (line.Pad pad)) h = absurd (omega (arith, h.1))

no_pin_is_fed : (s : Spot) (pin : ℕ) → ¬ IsFed tiny floating (pin_wire s pin)
no_pin_is_fed s pin fed =
    let e : floating_owner fed.0 ≡ 4 = joined_keeps (links_of tiny floating.sites) floating_owner floating_kept fed.0 (pin_wire s pin) fed.2 in
    let f : floating_owner fed.0 < 4 = source_is_no_pin fed.0 fed.1 in absurd (omega arith)

floating_has_open_pins : ¬ ((s : Spot) (pin : ℕ) → IsUsed floating.sites s → pin < 8 → IsFed tiny floating (pin_wire s pin))
floating_has_open_pins pins = no_pin_is_fed the_spot 0 (pins the_spot 0 (0, track.Signal 0, (0, omega arith, refl)) (omega arith))

-- an output that nothing drives
abbrev pub unfed : FuseFile
unfed = record nothing { outs = record { pad = 0; name = codes "y" } ∷ [] }

joined_by_nothing : (a b : Wire) → any.Joined tiny [] a b → a ≡ b
joined_by_nothing a b j = by_path a j.path b j.leads
  where
    by_path : (a : Wire) (path : List Wire) (b : Wire) → Leads [] a path b → a ≡ b
    by_path a [] b h = h
    by_path a (c ∷ path) b h = absurd (no_link a c h.0)
      where
        no_link : (a c : Wire) → ¬ Linked [] a c
        no_link a c (inl h) = absurd (omega (arith, h.1))
        no_link a c (inr h) = absurd (omega (arith, h.1))

no_pad_source : (w : Wire) → IsSource unfed w → w ≢ pad_wire 0
no_pad_source wire.Gnd h e = cc
no_pad_source wire.Vcc h e = cc
no_pad_source wire.Clk h e = cc
no_pad_source (wire.Seg channel t index) h e = absurd h
no_pad_source (wire.Vertical (line.Pin row column pin)) h e = absurd h
no_pad_source (wire.Vertical (line.Out row column)) h e = cc
no_pad_source (wire.Vertical (line.Long column index)) h e = absurd h
no_pad_source (wire.Vertical (line.Pad pad)) h e = absurd (omega (arith, h.1))

unfed_is_apart : (a b : Wire) → IsSource unfed a → IsSource unfed b → any.Joined tiny unfed.sites a b → a ≡ b
unfed_is_apart a b from to joined = joined_by_nothing a b joined

unfed_has_no_used : (s : Spot) → ¬ IsUsed unfed.sites s
unfed_has_no_used s h = absurd (omega (arith, h.2.1))

unfed_output : ¬ All (λ (port : Port). IsFed tiny unfed (pad_wire port.pad)) unfed.outs
unfed_output all = let fed : IsFed tiny unfed (pad_wire 0) = all 0 (record { pad = 0; name = codes "y" }) (omega arith) in no_pad_source fed.0 fed.1 (joined_by_nothing fed.0 (pad_wire 0) fed.2)

-- a start at a module that isn't used
abbrev pub start_unused : FuseFile
start_unused = record nothing { starts = record { spot = the_spot; init = 0; name = codes "q" } ∷ [] }

start_is_unused : ¬ All (λ (start : StartAt). IsUsed start_unused.sites start.spot) start_unused.starts
start_is_unused all = let used : IsUsed [] the_spot = all 0 (record { spot = the_spot; init = 0; name = codes "q" }) (omega arith) in absurd (omega (arith, used.2.1))
