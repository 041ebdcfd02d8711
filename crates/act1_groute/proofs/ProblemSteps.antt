-- The problem of a channel, by its parts.
use Rattle.std.proofs.Common.{ℕ, zero, suc, ◌≡◌, ◌+◌, ◌<◌, ◌≤◌, true, List, [], length, map, get_or, refl, sym, ap, ◌∙◌, arith}
use Rattle.std.specs.Prelude.{Result, Ok, Err}
use Rattle.std.proofs.lemmas.List.{length-map, get_or_default}
use Rattle.std.proofs.lemmas.Option.{slice_get-get_or}
use Rattle.act1_device.specs.declared.device.Device.{Device}
use Rattle.act1_device.specs.Sites.{tracks_of}
use Rattle.act1_channel.specs.declared.problem.Connection.{Connection}
use Rattle.act1_channel.specs.Ranges.{is_problem}
use Rattle.act1_base.specs.Lists.{numbers}
use Rattle.act1_groute.specs.declared.wiring.Wiring.{Wiring}
use Rattle.act1_groute.specs.Nets.{channels}
use Rattle.act1_groute.specs.Problems.{AreRoutesOf, ProblemsFit}
use Rattle.act1_groute.specs.Routes.{Demand, Take, demands, and_on, take_all, wirings, interval}

count_numbers : (first count : ℕ) → length (numbers first count) ≡ count
count_numbers first zero = refl
count_numbers first (suc count) = ap suc (count_numbers (first + 1) count)

module _ (dev : Device) (found : List (List Wiring)) where
  -- as many lists of connections as channels
  pub channels_count : AreRoutesOf dev found → length found ≡ dev.rows + 1
  channels_count r = from (take_all dev r.plan [] (demands dev r.plan)) r.is
    where
      ok_is : (x y : List (List Wiring)) → (let o : Result (List (List Wiring)) Demand = Ok x in o) ≡ Ok y → x ≡ y
      ok_is x y e = cc

      from : (o : Result (List Take) Demand) → and_on o (λ takes. Ok (map (wirings dev r.plan takes) (channels dev))) ≡ Ok found → length found ≡ dev.rows + 1
      from (Ok takes) e = sym (ap length (ok_is (map (wirings dev r.plan takes) (channels dev)) found e)) ∙ length-map (channels dev) (wirings dev r.plan takes) ∙ count_numbers 0 (dev.rows + 1)
      from (Err d) e = cc

  pub has_channel : (h : ℕ) → AreRoutesOf dev found → h ≤ dev.rows → h < length found
  has_channel h r low = let count = channels_count r in omega (arith, count)

  -- its parts are in their ranges
  pub is_problem_of : (h k : ℕ) (tracks : List (List ℕ)) (connections : List Connection) → ProblemsFit → AreRoutesOf dev found → h ≤ dev.rows → 1 ≤ k → k ≤ 64 → tracks ≡ tracks_of dev h → connections ≡ map interval (get_or found h [])
      → is_problem dev.columns k tracks connections ≡ true
  is_problem_of h k tracks connections fit r within low high t c =
      (λ i. is_problem dev.columns k (t i) (c i))
      ∙ fit dev r.plan found h k (get_or found h []) r.legal r.is (slice_get-get_or found h [] (has_channel h r within)) low high

  -- the connections that were read are the channel's
  pub connections_are : (h at : ℕ) (all : List (List Wiring)) (read ws : List Wiring) (connections : List Connection) → AreRoutesOf dev found → h ≤ dev.rows → at ≡ h → all ≡ found → read ≡ get_or all at read → ws ≡ read → connections ≡ map interval ws
      → connections ≡ map interval (get_or found h [])
  connections_are h at all read ws connections r low same whole is w e =
      e ∙ ap (map interval) (w ∙ is ∙ (λ i. get_or (whole i) (same i) read) ∙ get_or_default found h read [] (has_channel h r low))
