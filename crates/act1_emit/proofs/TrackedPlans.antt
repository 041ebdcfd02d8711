-- What a plan that has tracks leaves: its tracks are those of the device, and its sites in their order are emitted.
use Rattle.std.proofs.Common.{ℕ, ◌≡◌, ◌⊎◌, ◌<◌, ◌≤◌, List, [], ◌++◌, length, sym, ap, subst, ◌∙◌, inl, inr, arith, slice_get, get_or, Contains}
use Rattle.std.proofs.lemmas.Bool.{cases_lt}
use Rattle.std.proofs.lemmas.List.{length-map}
use Rattle.std.proofs.lemmas.Option.{slice_get-get_or}
use Rattle.act1_base.proofs.ListGets.{get_in}
use Rattle.act1_device.specs.declared.device.Device.{Device}
use Rattle.act1_device.specs.declared.device.Site.{Site}
use Rattle.act1_device.specs.Sites.{IsSite}
use Rattle.act1_device.proofs.Pads.{devices_are_small}
use Rattle.act1_fuses.specs.declared.fuses.FuseFile.{FuseFile}
use Rattle.act1_plan.specs.declared.plan.Plan.{Plan}
use Rattle.act1_groute.specs.declared.wiring.Wiring.{Wiring}
use Rattle.act1_groute.specs.Nets.{sinks}
use Rattle.act1_groute.specs.Routes.{interval}
use Rattle.act1_groute.specs.Emitted.{IsDedicated, IsSignal, AreAssigned, Emitted}
use Rattle.act1_groute.proofs.RouteFacts.{all_served}
use Rattle.act1_groute.proofs.WiringFacts.{wirings_at}
use Rattle.act1_emit.specs.File.{HasTracks, IsHeadOf, Realizes}
use Rattle.act1_emit.specs.SiteSteps.{all_rails, signal_sites, plan_sites, ArePutInOrder, HaveTrackEach}
use Rattle.act1_emit.proofs.Realized.{taken, realized}
use Rattle.act1_emit.proofs.KeptRules.{site_is}
use Rattle.act1_emit.proofs.PlanSites.{made_is, is_made}
use Rattle.act1_emit.proofs.SitePlaces.{IsSmallSite}
use Rattle.act1_emit.proofs.SitesInOrder.{ordered_rise, ordered_is, is_ordered}
use Rattle.act1_emit.proofs.SmallSites.{few_tracks, small_site}

module _ (dev : Device) (plan : Plan) (channels : List (List Wiring)) (tracks : List (List ℕ)) (has : HasTracks dev plan channels tracks) where
  -- there are few channels
  pub few_channels : length channels ≤ 255
  few_channels = from (cases_lt 255 (length channels))
    where
      from : (255 < length channels) ⊎ (length channels ≤ 255) → length channels ≤ 255
      from (inr h) = h
      from (inl h) =
          let t = taken dev plan channels has.routed in
          let ws = get_in channels 255 h in
          let low = (wirings_at dev plan t.0 255 ws.0 (ap (λ (c : List (List Wiring)). slice_get c 255) (sym t.2) ∙ ws.1)).0 in
          let small = devices_are_small dev in
          absurd (omega (arith, small.rows))

  -- each connection has a track of its channel
  pub have_tracks : HaveTrackEach dev channels tracks
  have_tracks channel ws ts e k =
      let fits = has.assigned.each channel ws ts e k in
      record {
        count = fits.assigns.each ∙ ap length fits.is.connections ∙ length-map ws interval;
        there = λ i d within. subst (λ (l : List (List ℕ)). get_or ts i d < length l) fits.is.tracks (fits.assigns.allowed i (get_or ts i d) (slice_get-get_or ts i d within)).1;
        few = few_tracks dev channel;
      }

  -- the plan's sites are sites of the device
  of_device : (site : Site) → IsDedicated dev plan site ⊎ IsSignal dev channels tracks site → IsSite dev site
  of_device site h =
      let t = taken dev plan channels has.routed in
      let all = all_served dev plan has.legal t.0 t.1 in
      let assigned = subst (λ (c : List (List Wiring)). AreAssigned dev plan.k c tracks) t.2 has.assigned in
      site_is dev plan has.legal t.0 all.routed tracks assigned site (subst (λ (c : List (List Wiring)). IsDedicated dev plan site ⊎ IsSignal dev c tracks site) t.2 h)

  -- in their order they are emitted
  pub emitted : (sites : List Site) → ArePutInOrder (plan_sites dev plan channels tracks) sites → Emitted dev plan channels tracks sites
  emitted sites put = record {
    rise = ordered_rise (plan_sites dev plan channels tracks) sites put small;
    each = λ s. (λ h. made_is dev plan channels tracks s (ordered_is (plan_sites dev plan channels tracks) sites put small s h), λ h. is_ordered (plan_sites dev plan channels tracks) sites put small s (is_made dev plan channels tracks s h));
  }
    where
      small : (s : Site) → Contains (plan_sites dev plan channels tracks) s → IsSmallSite s
      small s h = small_site dev s (of_device s (made_is dev plan channels tracks s h))

  -- the file with them is the plan's
  pub with_sites : (sites : List Site) (f : FuseFile) → Emitted dev plan channels tracks sites → IsHeadOf dev plan f × (f.sites ≡ sites) → Realizes dev plan channels tracks f
  with_sites sites f on h = realized dev plan channels tracks f has (record { head = h.0; sites = subst (Emitted dev plan channels tracks) (sym h.1) on })

-- the parts one after the other are the plan's sites
pub parts_are : (dev : Device) (plan : Plan) (channels chans : List (List Wiring)) (tracks : List (List ℕ)) (none rails all : List Site) → none ≡ [] → rails ≡ none ++ all_rails (sinks dev plan) → all ≡ rails ++ signal_sites dev 0 chans tracks → chans ≡ channels
    → all ≡ plan_sites dev plan channels tracks
parts_are dev plan channels chans tracks none rails all a b c d =
    c ∙ ap (λ (l : List Site). l ++ signal_sites dev 0 chans tracks) (b ∙ ap (λ (l : List Site). l ++ all_rails (sinks dev plan)) a) ∙ ap (λ (l : List (List Wiring)). all_rails (sinks dev plan) ++ signal_sites dev 0 l tracks) d
