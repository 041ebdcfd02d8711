-- Which wires the listed antifuses join. An antifuse is open until it is programmed, and then joins its two wires for good.
use Rattle.std.specs.Prelude.{List, map}
use Rattle.act1_base.specs.Joined as any
use Rattle.act1_device.specs.declared.device.Device.{Device}
use Rattle.act1_device.specs.declared.device.Site.{Site}
use Rattle.act1_device.specs.declared.device.Wire.{Wire}
use Rattle.act1_device.specs.Sites.{ends_of}

-- each listed site links its two ends
abbrev pub links_of : Device → List Site → List (Wire × Wire)
links_of dev sites = map {B = Wire × Wire} (ends_of dev) sites

-- a list of wires leads from the one to the other, of which all neighbours are the two ends of a listed site
abbrev pub Joined : Device → List Site → Wire → Wire → Type 0
Joined dev sites a b = any.Joined (links_of dev sites) a b
