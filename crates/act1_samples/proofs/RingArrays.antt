-- A ring on a small device: a module whose own output selects its other value.
use Rattle.std.proofs.Common.{◌≡◌, [], ◌∷◌, refl, arith, inl, inr}
use Rattle.std.specs.Prelude.{codes}
use Rattle.std.specs.Fmt.{digits}
use Rattle.act1_base.specs.Rising.{Rises}
use Rattle.act1_device.specs.declared.device.Track.TheVariants as track
use Rattle.act1_device.specs.declared.device.Line.TheVariants as line
use Rattle.act1_device.specs.declared.device.Site.TheVariants.{Cross}
use Rattle.act1_device.specs.declared.device.Wire.TheVariants as wire
use Rattle.act1_device.specs.Sites.{IsSite}
use Rattle.act1_device.specs.Order.{SiteIsBefore}
use Rattle.act1_circuit.specs.declared.circuit.Source.TheVariants.{Module}
use Rattle.act1_fuses.specs.declared.fuses.FuseFile.{FuseFile}
use Rattle.act1_fuses.specs.Array.{Drives, pin_wire, out_wire}
use Rattle.act1_fuses.specs.Text.{fuse_text}
use Rattle.act1_samples.proofs.Devices.{tiny}
use Rattle.act1_samples.proofs.AntifuseTexts.{inverter}
use Rattle.act1_samples.proofs.SoundArrays.{the_spot}

abbrev pub ring : FuseFile
ring = record inverter {
  ins = [];
  sites = Cross 0 (track.Signal 0) (line.Out 0 0) ∷ Cross 0 (track.Signal 0) (line.Pad 0)
      ∷ Cross 0 track.Gnd (line.Pin 0 0 1) ∷ Cross 0 track.Gnd (line.Pin 0 0 2) ∷ Cross 0 track.Gnd (line.Pin 0 0 3) ∷ Cross 0 track.Vcc (line.Pin 0 0 0)
      ∷ Cross 1 (track.Signal 0) (line.Pin 0 0 6) ∷ Cross 1 (track.Signal 0) (line.Out 0 0)
      ∷ Cross 1 track.Gnd (line.Pin 0 0 4) ∷ Cross 1 track.Gnd (line.Pin 0 0 5) ∷ Cross 1 track.Gnd (line.Pin 0 0 7) ∷ [];
}

ring_text : fuse_text ring ≡ codes "act1 fuses 1\ndevice tiny\nout 0 y\nfuse 0 0 out 0 0\nfuse 0 0 pad 0\nfuse 0 gnd pin 0 0 A1\nfuse 0 gnd pin 0 0 SA\nfuse 0 gnd pin 0 0 B0\nfuse 0 vcc pin 0 0 A0\nfuse 1 0 pin 0 0 S0\nfuse 1 0 out 0 0\nfuse 1 gnd pin 0 0 B1\nfuse 1 gnd pin 0 0 SB\nfuse 1 gnd pin 0 0 S1\nend\n"
unfolding digits
ring_text = refl

ring_rises : Rises SiteIsBefore ring.sites
ring_rises = (refl, (refl, (refl, (refl, (refl, (refl, (refl, (refl, (refl, (refl, tt))))))))))

-- the module's output reaches the channel above it too
ring_site : IsSite tiny (Cross 1 (track.Signal 0) (line.Out 0 0))
ring_site = (((omega arith, omega arith), (omega arith, omega arith, omega arith)), omega arith)

-- its select is joined to its own output
ring_select : Drives tiny ring (the_spot ∷ []) (Module 0) (pin_wire the_spot 6)
ring_select = (out_wire the_spot, (the_spot, refl, refl), record { path = wire.Seg 1 0 0 ∷ pin_wire the_spot 6 ∷ []; leads = (inl (7, omega arith, refl), (inr (6, omega arith, refl), refl)) })
