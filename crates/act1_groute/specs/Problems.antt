-- What a call of the router answers, and that the problems of a plan's channels keep the ranges of channel problems.
use Rattle.std.specs.Prelude.{ℕ, ◌≡◌, ◌≤◌, true, List, map, slice_get, Some, Result, Ok, Err}
use Rattle.act1_device.specs.declared.device.Device.{Device}
use Rattle.act1_device.specs.Sites.{tracks_of}
use Rattle.act1_channel.specs.Ranges.{is_problem}
use Rattle.act1_plan.specs.declared.plan.Plan.{Plan}
use Rattle.act1_groute.specs.declared.wiring.Wiring.{Wiring}
use Rattle.act1_plan.specs.Legal.{Legal}
use Rattle.act1_groute.specs.declared.stop.RouteStop.{RouteStop}
use Rattle.act1_groute.specs.declared.stop.RouteStop.TheVariants as stop
use Rattle.act1_groute.specs.declared.wiring.Routes.{Routes}
use Rattle.act1_groute.specs.Routes.{routes, interval}

-- the routes of the plan, or the first net and channel for which the rule finds no wire; want of memory alone is free
abbrev pub AreRoutes : Device → Plan → Result Routes RouteStop → Type 0
AreRoutes dev plan (Ok r) = routes dev plan ≡ Ok r.channels
AreRoutes dev plan (Err (stop.Vertical net channel)) = routes dev plan ≡ Err (record { net = net; channel = channel })
AreRoutes dev plan (Err stop.Memory) = Unit {0}

-- the connections of channels are the routes of some plan that is legal for the device
pub record AreRoutesOf (dev : Device) (channels : List (List Wiring)) : Type 0 where
  pub plan : Plan
  pub legal : Legal dev plan
  pub is : routes dev plan ≡ Ok channels

-- the problems of channels keep their ranges, with any number of segments from 1 to 64 that a connection may occupy
abbrev pub ProblemsFit : Type 0
ProblemsFit = (dev : Device) (plan : Plan) (channels : List (List Wiring)) (h k : ℕ) (ws : List Wiring) → Legal dev plan → routes dev plan ≡ Ok channels → slice_get channels h ≡ Some ws → 1 ≤ k → k ≤ 64
    → is_problem dev.columns k (tracks_of dev h) (map interval ws) ≡ true
