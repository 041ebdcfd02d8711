-- The antifuses of a plan that is routed.
use Rattle.std.specs.Prelude.{ℕ, ◌≡◌, ◌<◌, ◌≤◌, ◌⊎◌, ◌↔◌, List, length, slice_get, Option, Some, None, Contains}
use Rattle.act1_base.specs.Rising.{Rises}
use Rattle.act1_device.specs.declared.device.Device.{Device}
use Rattle.act1_device.specs.declared.device.Track.{Track}
use Rattle.act1_device.specs.declared.device.Track.TheVariants as track
use Rattle.act1_device.specs.declared.device.Site.{Site}
use Rattle.act1_device.specs.declared.device.Site.TheVariants.{Along, Cross}
use Rattle.act1_device.specs.Order.{SiteIsBefore}
use Rattle.act1_device.specs.Sites.{segment_at}
use Rattle.act1_circuit.specs.declared.circuit.Source.{Source}
use Rattle.act1_circuit.specs.declared.circuit.Source.TheVariants.{Zero, One, Clock}
use Rattle.act1_channel.specs.declared.problem.Problem.{Problem}
use Rattle.act1_channel.specs.Assignment.{Assigns}
use Rattle.act1_plan.specs.declared.plan.Plan.{Plan}
use Rattle.act1_groute.specs.declared.wiring.Wiring.{Wiring}
use Rattle.act1_groute.specs.Nets.{Sink, sinks}
use Rattle.act1_groute.specs.Routes.{IsProblemOf}

-- the dedicated track of a constant or the clock
abbrev pub dedicated : Source → Option Track
dedicated Zero = Some track.Gnd
dedicated One = Some track.Vcc
dedicated Clock = Some track.Clk
dedicated net = None

-- a sink of a constant or the clock is joined to its dedicated track
pub record IsDedicated (dev : Device) (plan : Plan) (site : Site) : Type 0 where
  pub sink : Sink
  pub track : Track
  pub has : Contains (sinks dev plan) sink
  pub track_is : dedicated sink.source ≡ Some track
  pub is : site ≡ Cross sink.channel track sink.line

-- the site is one of this connection on this track: a crossing of one of its lines, or between two segments that its interval overlaps
abbrev pub IsOfConnection : Device → ℕ → Wiring → ℕ → Site → Type 0
IsOfConnection dev channel w t (Cross h (track.Signal s) l) = (h ≡ channel) × (s ≡ t) × Contains w.lines l
IsOfConnection dev channel w t (Along h s index) = (h ≡ channel) × (s ≡ t) × (segment_at dev channel t w.left ≤ index) × (index < segment_at dev channel t w.right)
IsOfConnection dev channel w t site = ⊥

-- the connection at a place of a channel, and its track
pub record IsAt (channels : List (List Wiring)) (tracks : List (List ℕ)) (channel place : ℕ) (w : Wiring) (t : ℕ) : Type 0 where
  pub wirings : List Wiring
  pub assigned : List ℕ
  pub at : slice_get channels channel ≡ Some wirings
  pub with_tracks : slice_get tracks channel ≡ Some assigned
  pub wiring : slice_get wirings place ≡ Some w
  pub track : slice_get assigned place ≡ Some t

-- the site is one of some connection on its track
pub record IsSignal (dev : Device) (channels : List (List Wiring)) (tracks : List (List ℕ)) (site : Site) : Type 0 where
  pub channel : ℕ
  pub place : ℕ
  pub wiring : Wiring
  pub track : ℕ
  pub at : IsAt channels tracks channel place wiring track
  pub is : IsOfConnection dev channel wiring track site

-- the sites are those of the constants, of the clock and of all connections on their tracks, in the order of sites
pub record Emitted (dev : Device) (plan : Plan) (channels : List (List Wiring)) (tracks : List (List ℕ)) (sites : List Site) : Type 0 where
  pub rise : Rises SiteIsBefore sites
  pub each : (site : Site) → Contains sites site ↔ (IsDedicated dev plan site ⊎ IsSignal dev channels tracks site)

-- the tracks assign the problem of a channel with these connections
pub record AssignsChannel (dev : Device) (k channel : ℕ) (ws : List Wiring) (assigned : List ℕ) : Type 0 where
  pub problem : Problem
  pub is : IsProblemOf dev k channel ws problem
  pub assigns : Assigns problem assigned

-- the tracks assign each channel's problem
pub record AreAssigned (dev : Device) (k : ℕ) (channels : List (List Wiring)) (tracks : List (List ℕ)) : Type 0 where
  pub count : length tracks ≡ length channels
  pub each : (h : ℕ) (ws : List Wiring) (assigned : List ℕ) → slice_get channels h ≡ Some ws → slice_get tracks h ≡ Some assigned → AssignsChannel dev k h ws assigned

-- there is one such list
abbrev pub EmittedIsOne : Type 0
EmittedIsOne = (dev : Device) (plan : Plan) (channels : List (List Wiring)) (tracks : List (List ℕ)) (one other : List Site) → Emitted dev plan channels tracks one → Emitted dev plan channels tracks other → one ≡ other
