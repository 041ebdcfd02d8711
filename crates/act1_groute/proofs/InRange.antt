-- All that a plan drives is in the array.
use Rattle.std.proofs.Common.{ℕ, ◌≡◌, ◌⊎◌, ◌+◌, ◌<◌, ◌≤◌, ◌&&◌, nat_le, Bool, true, false, cond, length, sym, subst, ◌∙◌, inl, inr, arith, get_or, Contains, All}
use Rattle.std.specs.List.{list_all}
use Rattle.std.proofs.lemmas.Bool.{and_parts, leb-true}
use Rattle.std.proofs.lemmas.List.Sums.{AllPass-from_list_all}
use Rattle.std.proofs.lemmas.Option.{slice_get-get_or}
use Rattle.act1_base.proofs.ListGets.{some_is, get_within}
use Rattle.act1_device.specs.declared.device.Device.{Device}
use Rattle.act1_device.specs.declared.device.PadPlace.{PadPlace}
use Rattle.act1_device.specs.Rules.{is_device, is_device_name, is_within, are_channels, are_in_order, is_long, is_place, are_apart}
use Rattle.act1_device.specs.Sites.{pin_channel, pad_at}
use Rattle.act1_circuit.specs.declared.circuit.Source.{Source}
use Rattle.act1_circuit.specs.declared.circuit.Source.TheVariants.{Zero, One, Clock, Input, Module}
use Rattle.act1_circuit.specs.declared.circuit.Spot.{Spot}
use Rattle.act1_plan.specs.declared.plan.Plan.{Plan}
use Rattle.act1_plan.specs.Legal.{Legal}
use Rattle.act1_groute.specs.Nets.{Sink, sinks, source_line, covers}
use Rattle.act1_groute.proofs.SinkFacts.{sink_is, IsPin, IsOut}
use Rattle.act1_groute.proofs.RouteFacts.{IsNet, covers_within}

-- pads are in the array
pub pad_channels : (dev : Device) → All (λ (place : PadPlace). place.channel ≤ dev.rows) dev.pads
unfolding is_device
pad_channels dev k d within =
    let sizes = is_device_name dev.name && is_within 1 32 dev.rows && is_within 2 64 dev.columns && nat_le dev.below 32 && nat_le dev.above 32 in
    let tracks = are_channels dev.rows dev.columns dev.tracks && are_in_order dev.tracks in
    let longs = nat_le (length dev.longs) 32 && list_all (is_long dev.rows) dev.longs in
    let pads = list_all (is_place dev.rows dev.columns) dev.pads in
    let place = get_or dev.pads k d in
    let both = and_parts (sizes && tracks && longs) (pads && are_apart dev.pads) dev.valid in
    let all = and_parts pads (are_apart dev.pads) both.1 in
    let here = AllPass-from_list_all (is_place dev.rows dev.columns) dev.pads all.0 k d within in
    leb-true place.channel dev.rows (and_parts (nat_le place.channel dev.rows) _ here).0

module _ (dev : Device) (plan : Plan) (legal : Legal dev plan) where
  pad_in_range : (pad : ℕ) → pad < length dev.pads → (pad_at dev pad).channel ≤ dev.rows
  pad_in_range pad low = pad_channels dev pad (record { channel = 0; column = 0 }) low

  pin_in_range : (row pin : ℕ) → row < dev.rows → pin_channel dev row pin ≤ dev.rows
  pin_in_range row pin low = from (get_or dev.pins pin false)
    where
      from : (b : Bool) → cond b (row + 1) row ≤ dev.rows
      from true = omega arith
      from false = omega arith

  -- each sink has a channel of the device
  pub sink_in_range : (sink : Sink) → Contains (sinks dev plan) sink → sink.channel ≤ dev.rows
  sink_in_range sink h = from (sink_is dev plan sink h)
    where
      from : IsPin dev plan sink ⊎ IsOut dev plan sink → sink.channel ≤ dev.rows
      from (inl p) =
          let within = get_within plan.placed.spots p.number p.spot p.spot_is in
          let on = legal.on_device p.number p.spot within in
          let spot : get_or plan.placed.spots p.number p.spot ≡ p.spot = some_is _ p.spot (sym (slice_get-get_or plan.placed.spots p.number p.spot within) ∙ p.spot_is) in
          let low : p.spot.row < dev.rows = subst (λ (s : Spot). s.row < dev.rows) spot on.0 in
          subst (λ (k : Sink). k.channel ≤ dev.rows) (sym p.is) (pin_in_range p.spot.row p.pin low)
      from (inr p) =
          let within = get_within plan.placed.circuit.outputs p.number p.output p.output_is in
          let low : length plan.placed.circuit.inputs + p.number < length dev.pads = omega (arith, legal.pads) in
          subst (λ (k : Sink). k.channel ≤ dev.rows) (sym p.is) (pad_in_range (length plan.placed.circuit.inputs + p.number) low)

  -- a net's source covers channels of the device alone
  pub source_in_range : (net : Source) (h : ℕ) → IsNet plan net → covers dev (source_line plan net) h ≡ true → h ≤ dev.rows
  source_in_range Zero h n c = absurd n
  source_in_range One h n c = absurd n
  source_in_range Clock h n c = absurd n
  source_in_range (Input i) h n c =
      let w = covers_within dev (source_line plan (Input i)) h c in
      let low : i < length dev.pads = omega (arith, legal.pads) in
      let most = pad_in_range i low in
      let high = w.1 in
      omega arith
  source_in_range (Module m) h n c =
      let w = covers_within dev (source_line plan (Module m)) h c in
      let high = w.1 in
      omega arith
