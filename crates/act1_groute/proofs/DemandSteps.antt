-- Steps of serving demands, one after the other.
use Rattle.std.proofs.Common.{ℕ, suc, ◌≡◌, ◌+◌, ◌-◌, ◌<◌, ◌≤◌, Bool, true, false, cond, List, [], ◌∷◌, ◌++◌, length, map, drop, get_or, refl, sym, ap, subst, ◌∙◌, arith, append_assoc}
use Rattle.std.specs.Prelude.{filter, flat_map, Result, Ok, Err}
use Rattle.std.specs.List.{list_any}
use Rattle.std.proofs.lemmas.Bool.Decides.{nat_tests}
use Rattle.std.proofs.lemmas.List.{drop_more, map_push, flat_map_more}
use Rattle.act1_device.specs.declared.device.Device.{Device}
use Rattle.act1_device.specs.Rules.{is_device}
use Rattle.act1_circuit.specs.declared.circuit.Source.{Source}
use Rattle.act1_plan.specs.declared.plan.Plan.{Plan}
use Rattle.act1_base.specs.Lists.{numbers}
use Rattle.act1_plan.proofs.OrderLoops.{numbers_more}
use Rattle.act1_groute.specs.declared.net.Net.{Net}
use Rattle.act1_groute.specs.declared.stop.RouteStop.{RouteStop}
use Rattle.act1_groute.specs.declared.stop.RouteStop.TheVariants as stop
use Rattle.act1_groute.specs.Nets.{Sink, is_same_source, sinks, is_needed}
use Rattle.act1_groute.specs.Routes.{Demand, LongWire, Take, take_for, and_on, take_all}
use Rattle.act1_groute.specs.RouteSteps.{IsWith, Leads, is_in, demand, demands_from, demands_of, demands_by, longs_of}
use Rattle.act1_groute.proofs.TakeSteps.{any_filter}

-- long wires, one more and one column more
pub longs_next : (before all more : List LongWire) (column n : ℕ) (w : LongWire) → all ≡ before ++ longs_of n column → w ≡ record { column = column; index = n } → more ≡ all ++ w ∷ [] → more ≡ before ++ longs_of (n + 1) column
longs_next before all more column n w e is grown =
    let f : ℕ → LongWire = λ index. let w : LongWire = record { column = column; index = index } in w in
    grown ∙ (λ i. e i ++ is i ∷ []) ∙ append_assoc before (longs_of n column) (f n ∷ [])
    ∙ ap (λ (ws : List LongWire). before ++ ws) (sym (ap (map f) (numbers_more n) ∙ map_push f (numbers 0 n) n))

pub columns_next : (count n : ℕ) (all more : List LongWire) → all ≡ flat_map (longs_of count) (numbers 0 n) → more ≡ all ++ longs_of count n → more ≡ flat_map (longs_of count) (numbers 0 (n + 1))
columns_next count n all more e grown =
    grown ∙ ap (λ (ws : List LongWire). ws ++ longs_of count n) e
    ∙ flat_map_more (longs_of count) [] (numbers 0 n) n ∙ ap (flat_map (longs_of count)) (sym (numbers_more n))

pub few_longs : (dev : Device) → length dev.longs ≤ 256
unfolding is_device
few_longs dev = let v = dev.valid in grind (arith, nat_tests)

-- where a part stops, the whole does
pub part_stops : {B : Type 0} (part wanted : Result (List Take) Demand) (after more : List Take) (e y : RouteStop) (all : Result B RouteStop) → Leads {A = B} part after (Err e) → all ≡ Err y → y ≡ e → ((d : Demand) → part ≡ Err d → wanted ≡ Err d)
    → Leads wanted more all
part_stops {B} part wanted after more e y all h is same on = subst (λ (r : Result B RouteStop). Leads {A = B} wanted more r) (sym (is ∙ ap (λ (z : RouteStop). Err z) same)) (from e h)
  where
    from : (e : RouteStop) → Leads {A = B} part after (Err e) → Leads {A = B} wanted more (Err e)
    from (stop.Vertical net channel) k = on (demand net channel) k
    from stop.Memory k = tt

module _ (dev : Device) (plan : Plan) where
  -- demands behind others
  pub take_behind : (ds es : List Demand) (t : List Take) → take_all dev plan t (ds ++ es) ≡ and_on (take_all dev plan t ds) (λ more. take_all dev plan more es)
  take_behind [] es t = refl
  take_behind (d ∷ ds) es t = from (λ more. take_behind ds es more) (take_for dev plan t d)
    where
      from : ((more : List Take) → take_all dev plan more (ds ++ es) ≡ and_on (take_all dev plan more ds) (λ m. take_all dev plan m es)) → (r : Result (List Take) Demand)
          → and_on r (λ more. take_all dev plan more (ds ++ es)) ≡ and_on (and_on r (λ more. take_all dev plan more ds)) (λ m. take_all dev plan m es)
      from rec (Ok more) = rec more
      from rec (Err d) = refl

  goes : (ds es : List Demand) (t more : List Take) (wanted : Result (List Take) Demand) → take_all dev plan t (ds ++ es) ≡ wanted → take_all dev plan t ds ≡ Ok more → take_all dev plan more es ≡ wanted
  goes ds es t more wanted h e = sym (ap (λ (r : Result (List Take) Demand). and_on r (λ m. take_all dev plan m es)) e) ∙ sym (take_behind ds es t) ∙ h

  stops : (ds es : List Demand) (t : List Take) (d : Demand) (wanted : Result (List Take) Demand) → take_all dev plan t (ds ++ es) ≡ wanted → take_all dev plan t ds ≡ Err d → wanted ≡ Err d
  stops ds es t d wanted h e = sym h ∙ take_behind ds es t ∙ ap (λ (r : Result (List Take) Demand). and_on r (λ m. take_all dev plan m es)) e

  -- one channel
  needs_is : (n : Net) (channel : ℕ) → IsWith dev plan n → list_any (is_in channel) n.sinks ≡ is_needed dev plan n.source channel
  needs_is n channel h = ap (list_any (is_in channel)) h ∙ any_filter (λ (s : Sink). is_same_source s.source n.source) (is_in channel) (sinks dev plan)

  one : (t : List Take) (net : Source) (channel : ℕ) (b : Bool) → is_needed dev plan net channel ≡ b → take_all dev plan t (demands_from dev plan net channel 1) ≡ cond b (take_for dev plan t (demand net channel)) (Ok t)
  one t net channel b e = ap (λ (b : Bool). take_all dev plan t (map (demand net) (cond b (channel ∷ []) []))) e ∙ from b
    where
      by : (r : Result (List Take) Demand) → and_on r (λ more. Ok more) ≡ r
      by (Ok more) = refl
      by (Err d) = refl

      from : (b : Bool) → take_all dev plan t (map (demand net) (cond b (channel ∷ []) [])) ≡ cond b (take_for dev plan t (demand net channel)) (Ok t)
      from true = by (take_for dev plan t (demand net channel))
      from false = refl

  pub needed_one : (t : List Take) (n : Net) (channel : ℕ) → IsWith dev plan n → list_any (is_in channel) n.sinks ≡ true → take_all dev plan t (demands_from dev plan n.source channel 1) ≡ take_for dev plan t (demand n.source channel)
  needed_one t n channel h e = one t n.source channel true (sym (needs_is n channel h) ∙ e)

  pub needed_none : (t : List Take) (n : Net) (channel : ℕ) → IsWith dev plan n → list_any (is_in channel) n.sinks ≡ false → take_all dev plan t (demands_from dev plan n.source channel 1) ≡ Ok t
  needed_none t n channel h e = one t n.source channel false (sym (needs_is n channel h) ∙ e)

  -- one channel more
  first_of : (net : Source) (channel count : ℕ) → demands_from dev plan net channel (suc count) ≡ demands_from dev plan net channel 1 ++ demands_from dev plan net (channel + 1) count
  first_of net channel count = from (is_needed dev plan net channel)
    where
      from : (b : Bool) → map (demand net) (cond b (channel ∷ filter (is_needed dev plan net) (numbers (channel + 1) count)) (filter (is_needed dev plan net) (numbers (channel + 1) count)))
          ≡ map (demand net) (cond b (channel ∷ []) []) ++ demands_from dev plan net (channel + 1) count
      from true = refl
      from false = refl

  split : (net : Source) (all channel : ℕ) → channel < all → demands_from dev plan net channel (all - channel) ≡ demands_from dev plan net channel 1 ++ demands_from dev plan net (channel + 1) (all - (channel + 1))
  split net all channel low =
      let count : all - channel ≡ suc (all - (channel + 1)) = omega arith in
      ap (demands_from dev plan net channel) count ∙ first_of net channel (all - (channel + 1))

  pub channel_next : (net : Source) (all channel : ℕ) (t more : List Take) (wanted : Result (List Take) Demand) → channel < all → take_all dev plan t (demands_from dev plan net channel (all - channel)) ≡ wanted
      → take_all dev plan t (demands_from dev plan net channel 1) ≡ Ok more → take_all dev plan more (demands_from dev plan net (channel + 1) (all - (channel + 1))) ≡ wanted
  channel_next net all channel t more wanted low h e =
      goes (demands_from dev plan net channel 1) (demands_from dev plan net (channel + 1) (all - (channel + 1))) t more wanted (sym (ap (take_all dev plan t) (split net all channel low)) ∙ h) e

  pub channel_stops : (net : Source) (all channel : ℕ) (t : List Take) (d : Demand) (wanted : Result (List Take) Demand) → channel < all → take_all dev plan t (demands_from dev plan net channel (all - channel)) ≡ wanted
      → take_all dev plan t (demands_from dev plan net channel 1) ≡ Err d → wanted ≡ Err d
  channel_stops net all channel t d wanted low h e =
      stops (demands_from dev plan net channel 1) (demands_from dev plan net (channel + 1) (all - (channel + 1))) t d wanted (sym (ap (take_all dev plan t) (split net all channel low)) ∙ h) e

  pub channels_end : (net : Source) (all channel : ℕ) (t : List Take) (wanted : Result (List Take) Demand) → all ≤ channel → take_all dev plan t (demands_from dev plan net channel (all - channel)) ≡ wanted → wanted ≡ Ok t
  channels_end net all channel t wanted done h = let none : all - channel ≡ 0 = omega arith in sym h ∙ ap (λ (n : ℕ). take_all dev plan t (demands_from dev plan net channel n)) none

  -- one net more
  pub net_next : (nets : List Net) (i : ℕ) (n : Net) (t more : List Take) (wanted : Result (List Take) Demand) → i < length nets → n ≡ get_or nets i n → take_all dev plan t (demands_by dev plan (drop i nets)) ≡ wanted
      → take_all dev plan t (demands_of dev plan n.source) ≡ Ok more → take_all dev plan more (demands_by dev plan (drop (i + 1) nets)) ≡ wanted
  net_next nets i n t more wanted low is h e =
      goes (demands_of dev plan n.source) (demands_by dev plan (drop (i + 1) nets)) t more wanted
      (sym (ap (λ (ns : List Net). take_all dev plan t (demands_by dev plan ns)) (drop_more nets i n low ∙ ap (λ (m : Net). m ∷ drop (i + 1) nets) (sym is))) ∙ h) e

  pub net_stops : (nets : List Net) (i : ℕ) (n : Net) (t : List Take) (d : Demand) (wanted : Result (List Take) Demand) → i < length nets → n ≡ get_or nets i n → take_all dev plan t (demands_by dev plan (drop i nets)) ≡ wanted
      → take_all dev plan t (demands_of dev plan n.source) ≡ Err d → wanted ≡ Err d
  net_stops nets i n t d wanted low is h e =
      stops (demands_of dev plan n.source) (demands_by dev plan (drop (i + 1) nets)) t d wanted
      (sym (ap (λ (ns : List Net). take_all dev plan t (demands_by dev plan ns)) (drop_more nets i n low ∙ ap (λ (m : Net). m ∷ drop (i + 1) nets) (sym is))) ∙ h) e

  pub net_at : (nets : List Net) (i : ℕ) (n : Net) → ((k : ℕ) (d : Net) → k < length nets → IsWith dev plan (get_or nets k d)) → i < length nets → n ≡ get_or nets i n → IsWith dev plan n
  net_at nets i n all low is = subst (IsWith dev plan) (sym is) (all i n low)
