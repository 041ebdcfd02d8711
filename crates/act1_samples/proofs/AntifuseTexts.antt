-- Worked examples of antifuse files and their texts.
use Rattle.std.proofs.Common.{◌≡◌, [], ◌∷◌, refl}
use Rattle.std.specs.Prelude.{codes, Some, None}
use Rattle.std.specs.Fmt.{digits}
use Rattle.act1_device.specs.declared.device.Track.TheVariants as track
use Rattle.act1_device.specs.declared.device.Line.TheVariants as line
use Rattle.act1_device.specs.declared.device.Site.TheVariants.{Along, Cross}
use Rattle.act1_fuses.specs.declared.fuses.FuseFile.{FuseFile}
use Rattle.act1_fuses.specs.Text.{fuse_text}

-- two outputs that are constant
abbrev pub constants : FuseFile
constants = record {
  device = codes "tiny";
  clock = None;
  ins = [];
  outs = record { pad = 0; name = codes "y" } ∷ record { pad = 1; name = codes "z" } ∷ [];
  starts = [];
  sites = Cross 0 track.Gnd (line.Pad 1) ∷ Cross 0 track.Vcc (line.Pad 0) ∷ [];
}

constants_text : fuse_text constants ≡ codes "act1 fuses 1\ndevice tiny\nout 0 y\nout 1 z\nfuse 0 gnd pad 1\nfuse 0 vcc pad 0\nend\n"
unfolding digits
constants_text = refl

-- an inverter: the module in the first row and column with S0 = a, A0 = 1 and all other pins 0
abbrev pub inverter : FuseFile
inverter = record {
  device = codes "tiny";
  clock = None;
  ins = record { pad = 2; name = codes "a" } ∷ [];
  outs = record { pad = 0; name = codes "y" } ∷ [];
  starts = [];
  sites = Cross 0 (track.Signal 0) (line.Out 0 0) ∷ Cross 0 (track.Signal 0) (line.Pad 0)
      ∷ Cross 0 track.Gnd (line.Pin 0 0 1) ∷ Cross 0 track.Gnd (line.Pin 0 0 2) ∷ Cross 0 track.Gnd (line.Pin 0 0 3) ∷ Cross 0 track.Vcc (line.Pin 0 0 0)
      ∷ Cross 1 (track.Signal 0) (line.Pin 0 0 6) ∷ Cross 1 (track.Signal 0) (line.Pad 2)
      ∷ Cross 1 track.Gnd (line.Pin 0 0 4) ∷ Cross 1 track.Gnd (line.Pin 0 0 5) ∷ Cross 1 track.Gnd (line.Pin 0 0 7) ∷ [];
}

inverter_text : fuse_text inverter ≡ codes "act1 fuses 1\ndevice tiny\nin 2 a\nout 0 y\nfuse 0 0 out 0 0\nfuse 0 0 pad 0\nfuse 0 gnd pin 0 0 A1\nfuse 0 gnd pin 0 0 SA\nfuse 0 gnd pin 0 0 B0\nfuse 0 vcc pin 0 0 A0\nfuse 1 0 pin 0 0 S0\nfuse 1 0 pad 2\nfuse 1 gnd pin 0 0 B1\nfuse 1 gnd pin 0 0 SB\nfuse 1 gnd pin 0 0 S1\nend\n"
unfolding digits
inverter_text = refl

-- each kind of line
abbrev pub every_line : FuseFile
every_line = record {
  device = codes "d";
  clock = Some (codes "clk");
  ins = record { pad = 10; name = codes "a" } ∷ [];
  outs = [];
  starts = record { spot = record { row = 1; column = 23 }; init = 2; name = codes "q" } ∷ [];
  sites = Along 3 14 0 ∷ Cross 3 (track.Signal 14) (line.Long 5 2) ∷ Cross 3 track.Clk (line.Pin 2 61 7) ∷ [];
}

every_line_text : fuse_text every_line ≡ codes "act1 fuses 1\ndevice d\nclock clk\nin 10 a\nstart 1 23 2 q\nfuse 3 14 along 0\nfuse 3 14 long 5 2\nfuse 3 clk pin 2 61 S1\nend\n"
unfolding digits
every_line_text = refl

-- nothing
abbrev pub nothing : FuseFile
nothing = record { device = codes "tiny"; clock = None; ins = []; outs = []; starts = []; sites = [] }

nothing_text : fuse_text nothing ≡ codes "act1 fuses 1\ndevice tiny\nend\n"
unfolding digits
nothing_text = refl
