-- The sites that the code makes are those that a plan with tracks has.
use Rattle.std.proofs.Common.{ℕ, zero, suc, ◌≡◌, ◌⊎◌, ◌+◌, ◌-◌, List, [], ◌∷◌, Option, Some, None, refl, sym, subst, inl, inr, arith, slice_get, Contains}
use Rattle.std.specs.Prelude.{option_to_list}
use Rattle.std.proofs.lemmas.List.Elements.{Contains-append_left, Contains-append_right, Contains-append_cases}
use Rattle.act1_base.proofs.ListGets.{some_is}
use Rattle.act1_device.specs.declared.device.Device.{Device}
use Rattle.act1_device.specs.declared.device.Track.{Track}
use Rattle.act1_device.specs.declared.device.Track.TheVariants as track
use Rattle.act1_device.specs.declared.device.Site.{Site}
use Rattle.act1_device.specs.declared.device.Site.TheVariants.{Along, Cross}
use Rattle.act1_device.specs.Sites.{segment_at}
use Rattle.act1_plan.specs.declared.plan.Plan.{Plan}
use Rattle.act1_base.specs.Lists.{numbers}
use Rattle.act1_groute.specs.declared.wiring.Wiring.{Wiring}
use Rattle.act1_groute.specs.declared.net.Sink.{Sink}
use Rattle.act1_groute.specs.Nets.{sinks}
use Rattle.act1_groute.specs.Emitted.{dedicated, IsDedicated, IsOfConnection, IsSignal}
use Rattle.act1_base.proofs.Elements.{here, first_or_later, not_in_none, in_map, mapped, in_flat, flattened, in_numbers, number_in}
use Rattle.act1_emit.specs.SiteSteps.{on_track, rail_sites, all_rails, line_sites, along_sites, connection_sites, channel_sites, signal_sites, plan_sites}

module _ (dev : Device) where
  rail_on : (sink : Sink) (o : Option Track) (site : Site) → Contains (option_to_list (on_track sink o)) site → (t : Track) × (o ≡ Some t) × (site ≡ Cross sink.channel t sink.line)
  rail_on sink None site h = not_in_none site h
  rail_on sink (Some t) site h = from (first_or_later site (Cross sink.channel t sink.line) [] h)
    where
      from : ((Cross sink.channel t sink.line) ≡ site) ⊎ Contains [] site → (u : Track) × ((let r : Option Track = Some t in r) ≡ Some u) × (site ≡ Cross sink.channel u sink.line)
      from (inl e) = (t, refl, sym e)
      from (inr k) = not_in_none site k

  rail_in : (sink : Sink) (o : Option Track) (t : Track) → o ≡ Some t → Contains (option_to_list (on_track sink o)) (Cross sink.channel t sink.line)
  rail_in sink o t e = subst (λ (o : Option Track). Contains (option_to_list (on_track sink o)) (Cross sink.channel t sink.line)) (sym e) (here (Cross sink.channel t sink.line) (Cross sink.channel t sink.line) [] refl)

  of_connection : (h t : ℕ) (w : Wiring) (site : Site) → Contains (connection_sites dev h w t) site → IsOfConnection dev h w t site
  of_connection h t w site k = from (Contains-append_cases (line_sites h t w.lines) (along_sites h t (segment_at dev h t w.left) (segment_at dev h t w.right)) site k)
    where
      from : Contains (line_sites h t w.lines) site ⊎ Contains (along_sites h t (segment_at dev h t w.left) (segment_at dev h t w.right)) site → IsOfConnection dev h w t site
      from (inl k) =
          let l = mapped (λ l. Cross h (track.Signal t) l) w.lines site k in
          let is : IsOfConnection dev h w t (Cross h (track.Signal t) l.0) = (refl, refl, l.1) in
          subst (IsOfConnection dev h w t) l.2 is
      from (inr k) =
          let first = segment_at dev h t w.left in
          let last = segment_at dev h t w.right in
          let i = mapped (λ index. Along h t index) (numbers first (last - first)) site k in
          let n = number_in first (last - first) i.0 i.1 in
          let low = n.0 in
          let high = n.1 in
          let is : IsOfConnection dev h w t (Along h t i.0) = (refl, refl, low, omega arith) in
          subst (IsOfConnection dev h w t) i.2 is

  in_connection : (h t : ℕ) (w : Wiring) (site : Site) → IsOfConnection dev h w t site → Contains (connection_sites dev h w t) site
  in_connection h t w (Cross c (track.Signal s) l) k =
      let listed = in_map (λ l. Cross h (track.Signal t) l) w.lines l k.2 in
      let there : Contains (line_sites h t w.lines) (Cross c (track.Signal s) l) =
      subst (λ (c : ℕ). Contains (line_sites h t w.lines) (Cross c (track.Signal s) l)) (sym k.0) (subst (λ (s : ℕ). Contains (line_sites h t w.lines) (Cross h (track.Signal s) l)) (sym k.1) listed) in
      Contains-append_left (line_sites h t w.lines) (along_sites h t (segment_at dev h t w.left) (segment_at dev h t w.right)) (Cross c (track.Signal s) l) there
  in_connection h t w (Cross c track.Gnd l) k = absurd k
  in_connection h t w (Cross c track.Vcc l) k = absurd k
  in_connection h t w (Cross c track.Clk l) k = absurd k
  in_connection h t w (Along c s index) k =
      let first = segment_at dev h t w.left in
      let last = segment_at dev h t w.right in
      let low = k.2 in
      let high = k.3 in
      let listed = in_map (λ index. Along h t index) (numbers first (last - first)) index (in_numbers first (last - first) index low (omega arith)) in
      let there : Contains (along_sites h t first last) (Along c s index) =
      subst (λ (c : ℕ). Contains (along_sites h t first last) (Along c s index)) (sym k.0) (subst (λ (s : ℕ). Contains (along_sites h t first last) (Along h s index)) (sym k.1) listed) in
      Contains-append_right (line_sites h t w.lines) (along_sites h t first last) (Along c s index) there

  -- a connection of a channel and its track
  record OfChannel (h : ℕ) (ws : List Wiring) (ts : List ℕ) (site : Site) : Type 0 where
    pub place : ℕ
    pub wiring : Wiring
    pub track : ℕ
    pub wiring_at : slice_get ws place ≡ Some wiring
    pub track_at : slice_get ts place ≡ Some track
    pub is : IsOfConnection dev h wiring track site

  of_channel : (h : ℕ) (ws : List Wiring) (ts : List ℕ) (site : Site) → Contains (channel_sites dev h ws ts) site → OfChannel h ws ts site
  of_channel h [] ts site k = not_in_none site k
  of_channel h (w ∷ ws) [] site k = not_in_none site k
  of_channel h (w ∷ ws) (t ∷ ts) site k = from (Contains-append_cases (connection_sites dev h w t) (channel_sites dev h ws ts) site k) (of_channel h ws ts site)
    where
      from : Contains (connection_sites dev h w t) site ⊎ Contains (channel_sites dev h ws ts) site → (Contains (channel_sites dev h ws ts) site → OfChannel h ws ts site) → OfChannel h (w ∷ ws) (t ∷ ts) site
      from (inl k) rec = record { place = 0; wiring = w; track = t; wiring_at = refl; track_at = refl; is = of_connection h t w site k }
      from (inr k) rec = let r = rec k in record { place = suc r.place; wiring = r.wiring; track = r.track; wiring_at = r.wiring_at; track_at = r.track_at; is = r.is }

  in_channel : (h place : ℕ) (ws : List Wiring) (ts : List ℕ) (w : Wiring) (t : ℕ) (site : Site) → slice_get ws place ≡ Some w → slice_get ts place ≡ Some t → IsOfConnection dev h w t site → Contains (channel_sites dev h ws ts) site
  in_channel h place [] ts w t site a b k = cc
  in_channel h place (v ∷ ws) [] w t site a b k = cc
  in_channel h zero (v ∷ ws) (s ∷ ts) w t site a b k =
      let one = subst (λ (v : Wiring). Contains (connection_sites dev h v t) site) (sym (some_is v w a)) (in_connection h t w site k) in
      Contains-append_left (connection_sites dev h v s) (channel_sites dev h ws ts) site (subst (λ (s : ℕ). Contains (connection_sites dev h v s) site) (sym (some_is s t b)) one)
  in_channel h (suc place) (v ∷ ws) (s ∷ ts) w t site a b k =
      Contains-append_right (connection_sites dev h v s) (channel_sites dev h ws ts) site (in_channel h place ws ts w t site a b k)

  -- a channel, so many from the first on, with its connections and their tracks
  record OfPlan (first : ℕ) (channels : List (List Wiring)) (tracks : List (List ℕ)) (site : Site) : Type 0 where
    pub place : ℕ
    pub wirings : List Wiring
    pub assigned : List ℕ
    pub at : slice_get channels place ≡ Some wirings
    pub with_tracks : slice_get tracks place ≡ Some assigned
    pub is : OfChannel (first + place) wirings assigned site

  of_signals : (first : ℕ) (channels : List (List Wiring)) (tracks : List (List ℕ)) (site : Site) → Contains (signal_sites dev first channels tracks) site → OfPlan first channels tracks site
  of_signals first [] tracks site k = not_in_none site k
  of_signals first (ws ∷ channels) [] site k = not_in_none site k
  of_signals first (ws ∷ channels) (ts ∷ tracks) site k = from (Contains-append_cases (channel_sites dev first ws ts) (signal_sites dev (first + 1) channels tracks) site k) (of_signals (first + 1) channels tracks site)
    where
      from : Contains (channel_sites dev first ws ts) site ⊎ Contains (signal_sites dev (first + 1) channels tracks) site → (Contains (signal_sites dev (first + 1) channels tracks) site → OfPlan (first + 1) channels tracks site)
          → OfPlan first (ws ∷ channels) (ts ∷ tracks) site
      from (inl k) rec =
          let number : first ≡ first + 0 = omega arith in
          record { place = 0; wirings = ws; assigned = ts; at = refl; with_tracks = refl; is = subst (λ (n : ℕ). OfChannel n ws ts site) number (of_channel first ws ts site k) }
      from (inr k) rec =
          let r = rec k in
          let number : first + 1 + r.place ≡ first + suc r.place = omega arith in
          record { place = suc r.place; wirings = r.wirings; assigned = r.assigned; at = r.at; with_tracks = r.with_tracks; is = subst (λ (n : ℕ). OfChannel n r.wirings r.assigned site) number r.is }

  in_signals : (first place : ℕ) (channels : List (List Wiring)) (tracks : List (List ℕ)) (ws : List Wiring) (ts : List ℕ) (site : Site) → slice_get channels place ≡ Some ws → slice_get tracks place ≡ Some ts
      → Contains (channel_sites dev (first + place) ws ts) site → Contains (signal_sites dev first channels tracks) site
  in_signals first place [] tracks ws ts site a b k = cc
  in_signals first place (vs ∷ channels) [] ws ts site a b k = cc
  in_signals first zero (vs ∷ channels) (ss ∷ tracks) ws ts site a b k =
      let number : first + 0 ≡ first = omega arith in
      let one = subst (λ (n : ℕ). Contains (channel_sites dev n ws ts) site) number k in
      let two = subst (λ (vs : List Wiring). Contains (channel_sites dev first vs ts) site) (sym (some_is vs ws a)) one in
      Contains-append_left (channel_sites dev first vs ss) (signal_sites dev (first + 1) channels tracks) site (subst (λ (ss : List ℕ). Contains (channel_sites dev first vs ss) site) (sym (some_is ss ts b)) two)
  in_signals first (suc place) (vs ∷ channels) (ss ∷ tracks) ws ts site a b k =
      let number : first + suc place ≡ first + 1 + place = omega arith in
      Contains-append_right (channel_sites dev first vs ss) (signal_sites dev (first + 1) channels tracks) site
      (in_signals (first + 1) place channels tracks ws ts site a b (subst (λ (n : ℕ). Contains (channel_sites dev n ws ts) site) number k))

  module _ (plan : Plan) (channels : List (List Wiring)) (tracks : List (List ℕ)) (site : Site) where
    -- each site that is made is one of the plan's
    pub made_is : Contains (plan_sites dev plan channels tracks) site → IsDedicated dev plan site ⊎ IsSignal dev channels tracks site
    made_is h = from (Contains-append_cases (all_rails (sinks dev plan)) (signal_sites dev 0 channels tracks) site h)
      where
        from : Contains (all_rails (sinks dev plan)) site ⊎ Contains (signal_sites dev 0 channels tracks) site → IsDedicated dev plan site ⊎ IsSignal dev channels tracks site
        from (inl k) =
            let of = flattened rail_sites (sinks dev plan) site k in
            let on = rail_on of.0 (dedicated of.0.source) site of.2 in
            inl (record { sink = of.0; track = on.0; has = of.1; track_is = on.1; is = on.2 })
        from (inr k) =
            let of = of_signals 0 channels tracks site k in
            let number : 0 + of.place ≡ of.place = omega arith in
            let is = subst (λ (n : ℕ). OfChannel n of.wirings of.assigned site) number of.is in
            inr (record {
              channel = of.place;
              place = is.place;
              wiring = is.wiring;
              track = is.track;
              at = record { wirings = of.wirings; assigned = of.assigned; at = of.at; with_tracks = of.with_tracks; wiring = is.wiring_at; track = is.track_at };
              is = is.is;
            })

    -- each site of the plan is made
    pub is_made : IsDedicated dev plan site ⊎ IsSignal dev channels tracks site → Contains (plan_sites dev plan channels tracks) site
    is_made (inl k) =
        let rail = rail_in k.sink (dedicated k.sink.source) k.track k.track_is in
        let listed = in_flat rail_sites (sinks dev plan) k.sink (Cross k.sink.channel k.track k.sink.line) k.has rail in
        Contains-append_left (all_rails (sinks dev plan)) (signal_sites dev 0 channels tracks) site (subst (Contains (all_rails (sinks dev plan))) (sym k.is) listed)
    is_made (inr k) =
        let number : k.channel ≡ 0 + k.channel = omega arith in
        let listed = in_channel k.channel k.place k.at.wirings k.at.assigned k.wiring k.track site k.at.wiring k.at.track k.is in
        Contains-append_right (all_rails (sinks dev plan)) (signal_sites dev 0 channels tracks) site
        (in_signals 0 k.channel channels tracks k.at.wirings k.at.assigned site k.at.at k.at.with_tracks (subst (λ (n : ℕ). Contains (channel_sites dev n k.at.wirings k.at.assigned) site) number listed))
