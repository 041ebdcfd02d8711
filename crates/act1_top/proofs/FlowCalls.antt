-- What is seen of the helpers after the command `flow`.
use Rattle.std.proofs.Common.{◌≡◌, ◌⊎◌, inl, inr, refl}
use Rattle.act1_outside.specs.Outside.{Bench, Shelf}
use Rattle.act1_device.specs.declared.device.Device.{Device}
use Rattle.act1_devread.specs.Text.{DeviceText}
use Rattle.act1_blif.specs.declared.blif.Blif.{Blif}
use Rattle.act1_blifread.specs.Text.{BlifText}
use Rattle.act1_flow.specs.Flow.{FlowCalls, WereAskedFor}
use Rattle.act1_frame.specs.Reading.{Found}
use Rattle.act1_words.specs.declared.command.FlowWords.{FlowWords}
use Rattle.act1_top.specs.Files.{file_of}
use Rattle.act1_top.specs.FlowCommand.{MayCall, WereCalled, helping_in, settings_of}

-- nothing was called
pub same_may_call : (words : FlowWords) (shelf : Shelf) (bench : Bench) → MayCall words shelf bench bench
same_may_call words shelf bench = record { calls = inl refl; none = λ e. refl }

-- what the flow of the device and the netlist that were read called
pub flow_may_call : (words : FlowWords) (shelf : Shelf) (before after : Bench) (dev : Device) (net : Blif) → Found DeviceText shelf (file_of words.device) dev → Found BlifText shelf (file_of words.blif) net
    → FlowCalls dev net (settings_of words) (helping_in words before after) → MayCall words shelf before after
flow_may_call words shelf before after dev net device netlist c = record { calls = by c.calls; none = c.none }
  where
    by : (after ≡ before) ⊎ WereAskedFor dev net (settings_of words) (helping_in words before after) → (after ≡ before) ⊎ WereCalled words shelf before after
    by (inl same) = inl same
    by (inr asked) = inr (record { dev = dev; net = net; device = device; netlist = netlist; asked = asked })
