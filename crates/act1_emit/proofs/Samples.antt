-- A worked example: a plan that joins one pad to another, its routes, tracks and sites.
use Rattle.std.proofs.Common.{ℕ, zero, suc, ◌≡◌, ◌≢◌, ◌⊎◌, ◌<◌, ◌≤◌, true, false, List, [], ◌∷◌, length, refl, sym, ap, subst, ◌∙◌, inl, inr, arith, slice_get, Contains, All, IsTrue}
use Rattle.std.specs.Prelude.{codes, Some, None, Ok}
use Rattle.std.proofs.lemmas.List.Elements.{All-nil, All-from_recursion}
use Rattle.act1_base.specs.Names.{is_name}
use Rattle.act1_base.proofs.ListGets.{some_is, get_within}
use Rattle.act1_device.specs.declared.device.Device.{Device}
use Rattle.act1_device.specs.declared.device.Line.{Line}
use Rattle.act1_device.specs.declared.device.Line.TheVariants as line
use Rattle.act1_device.specs.declared.device.Track.TheVariants as track
use Rattle.act1_device.specs.declared.device.Site.{Site}
use Rattle.act1_device.specs.declared.device.Site.TheVariants.{Along, Cross}
use Rattle.act1_device.specs.Rules.{is_device}
use Rattle.act1_circuit.specs.declared.circuit.Output.{Output}
use Rattle.act1_circuit.specs.declared.circuit.Start.{Start}
use Rattle.act1_circuit.specs.declared.circuit.Source.{Source}
use Rattle.act1_circuit.specs.declared.circuit.Source.TheVariants.{Clock, Input}
use Rattle.act1_circuit.specs.declared.circuit.Spot.{Spot}
use Rattle.act1_circuit.specs.Range.{HasSource}
use Rattle.act1_channel.specs.declared.problem.Problem.{Problem}
use Rattle.act1_channel.specs.Ranges.{is_problem}
use Rattle.act1_channel.specs.Assignment.{Assigns, IsAllowed}
use Rattle.act1_fuses.specs.declared.fuses.FuseFile.{FuseFile}
use Rattle.act1_plan.specs.declared.plan.Plan.{Plan}
use Rattle.act1_groute.specs.declared.wiring.Wiring.{Wiring}
use Rattle.act1_plan.specs.Legal.{Legal}
use Rattle.act1_groute.specs.declared.net.Sink.{Sink}
use Rattle.act1_groute.specs.Routes.{routes}
use Rattle.act1_groute.specs.Emitted.{dedicated, IsDedicated, IsAt, IsOfConnection, IsSignal, AssignsChannel, AreAssigned}
use Rattle.act1_base.proofs.Elements.{here, later, first_or_later, not_in_none}
use Rattle.act1_emit.specs.File.{HasTracks, IsFileOf}

tiny_is_device : is_device (codes "tiny") 1 2 0 0 (([] ∷ []) ∷ []) [] ((record { channel = 0; column = 0 }) ∷ (record { channel = 0; column = 1 }) ∷ []) ≡ true
unfolding is_device
tiny_is_device = refl

-- one row of two modules, with one track a channel and two pads
abbrev tiny : Device
tiny = record {
  name = codes "tiny";
  rows = 1;
  columns = 2;
  pins = false ∷ false ∷ false ∷ false ∷ true ∷ true ∷ true ∷ true ∷ [];
  below = 0;
  above = 0;
  tracks = ([] ∷ []) ∷ [];
  longs = [];
  pads = (record { channel = 0; column = 0 }) ∷ (record { channel = 0; column = 1 }) ∷ [];
  valid = tiny_is_device;
}

abbrev pad_to_pad : Plan
pad_to_pad = record {
  device = codes "tiny";
  k = 3;
  placed = record { circuit = record { clock = None; inputs = codes "a" ∷ []; modules = []; outputs = (record { name = codes "a"; source = Input 0 }) ∷ []; starts = [] }; spots = [] };
}

abbrev the_wiring : Wiring
the_wiring = record { net = Input 0; left = 0; right = 1; lines = line.Pad 1 ∷ line.Pad 0 ∷ [] }

abbrev the_channels : List (List Wiring)
the_channels = (the_wiring ∷ []) ∷ [] ∷ []

abbrev the_tracks : List (List ℕ)
the_tracks = (0 ∷ []) ∷ [] ∷ []

is_routed : routes tiny pad_to_pad ≡ Ok the_channels
is_routed = refl

no_clock : Input 0 ≢ Clock
no_clock e = cc

is_legal : Legal tiny pad_to_pad
is_legal = record {
  device = refl;
  low = omega arith;
  high = omega arith;
  spots = refl;
  on_device = All-nil (λ (s : Spot). (s.row < 1) × (s.column < 2));
  rise = tt;
  range = record {
    pins = All-nil (λ (sources : List Source). (length sources ≡ 8) × All (HasSource pad_to_pad.placed.circuit) sources);
    outputs = All-from_recursion (λ (o : Output). HasSource pad_to_pad.placed.circuit o.source) pad_to_pad.placed.circuit.outputs (omega arith, tt);
    starts = All-nil (λ (start : Start). start.module < 0);
    few_inputs = omega arith;
    few_outputs = omega arith;
    few_modules = omega arith;
  };
  inits = All-nil (λ (s : Start). s.init ≤ 3);
  starts_rise = tt;
  outputs = All-from_recursion (λ (o : Output). o.source ≢ Clock) pad_to_pad.placed.circuit.outputs (no_clock, tt);
  names = record {
    each = All-from_recursion (λ name. IsTrue (is_name name)) (codes "a" ∷ codes "a" ∷ []) (refl, (refl, tt));
    inputs = λ i j d low within. absurd (omega arith);
    outputs = λ i j d low within. absurd (omega arith);
    clock = tt;
  };
  pads = omega arith;
}

one_fits : is_problem 2 3 ([] ∷ []) ((record { left = 0; right = 1 }) ∷ []) ≡ true
unfolding is_problem
one_fits = refl

none_fits : is_problem 2 3 ([] ∷ []) [] ≡ true
unfolding is_problem
none_fits = refl

abbrev first_problem : Problem
first_problem = record { columns = 2; k = 3; tracks = [] ∷ []; connections = (record { left = 0; right = 1 }) ∷ []; valid = one_fits }

abbrev second_problem : Problem
second_problem = record { columns = 2; k = 3; tracks = [] ∷ []; connections = []; valid = none_fits }

first_assigned : Assigns first_problem (0 ∷ [])
first_assigned = record { each = refl; allowed = allowed; apart = λ c d t less e h clash. let low = get_within (0 ∷ []) d t h in omega arith }
  where
    allowed : (c t : ℕ) → slice_get (0 ∷ []) c ≡ Some t → IsAllowed first_problem (record { connection = c; track = t })
    allowed zero t e = subst (λ (t : ℕ). IsAllowed first_problem (record { connection = 0; track = t })) (some_is 0 t e) (omega arith, omega arith, omega arith)
    allowed (suc c) t e = cc

second_assigned : Assigns second_problem []
second_assigned = record { each = refl; allowed = λ c t e. cc; apart = λ c d t less e h clash. let low = get_within [] d t h in omega arith }

are_assigned : AreAssigned tiny 3 the_channels the_tracks
are_assigned = record { count = refl; each = each }
  where
    each : (h : ℕ) (ws : List Wiring) (assigned : List ℕ) → slice_get the_channels h ≡ Some ws → slice_get the_tracks h ≡ Some assigned → AssignsChannel tiny 3 h ws assigned
    each zero ws assigned e k =
        subst (λ (ws : List Wiring). AssignsChannel tiny 3 0 ws assigned) (some_is (the_wiring ∷ []) ws e)
        (subst (λ (ts : List ℕ). AssignsChannel tiny 3 0 (the_wiring ∷ []) ts) (some_is (0 ∷ []) assigned k)
        (record { problem = first_problem; is = record { columns = refl; k_is = refl; tracks = refl; connections = refl }; assigns = first_assigned }))
    each (suc zero) ws assigned e k =
        subst (λ (ws : List Wiring). AssignsChannel tiny 3 1 ws assigned) (some_is [] ws e)
        (subst (λ (ts : List ℕ). AssignsChannel tiny 3 1 [] ts) (some_is [] assigned k)
        (record { problem = second_problem; is = record { columns = refl; k_is = refl; tracks = refl; connections = refl }; assigns = second_assigned }))
    each (suc (suc h)) ws assigned e k = cc

has_tracks : HasTracks tiny pad_to_pad the_channels the_tracks
has_tracks = record { legal = is_legal; drive = λ m low. absurd (omega arith); routed = is_routed; assigned = are_assigned }

abbrev crossing : ℕ → Site
crossing pad = Cross 0 (track.Signal 0) (line.Pad pad)

abbrev the_sites : List Site
the_sites = crossing 0 ∷ crossing 1 ∷ []

the_place : IsAt the_channels the_tracks 0 0 the_wiring 0
the_place = record { wirings = the_wiring ∷ []; assigned = 0 ∷ []; at = refl; with_tracks = refl; wiring = refl; track = refl }

signal : (pad : ℕ) → Contains the_wiring.lines (line.Pad pad) → IsSignal tiny the_channels the_tracks (crossing pad)
signal pad h = record { channel = 0; place = 0; wiring = the_wiring; track = 0; at = the_place; is = (refl, refl, h) }

listed_is : (site : Site) → Contains the_sites site → IsSignal tiny the_channels the_tracks site
listed_is site h = from (first_or_later site (crossing 0) (crossing 1 ∷ []) h)
  where
    second : (crossing 1 ≡ site) ⊎ Contains [] site → IsSignal tiny the_channels the_tracks site
    second (inl e) = subst (IsSignal tiny the_channels the_tracks) e (signal 1 (here (line.Pad 1) (line.Pad 1) (line.Pad 0 ∷ []) refl))
    second (inr k) = not_in_none site k

    from : (crossing 0 ≡ site) ⊎ Contains (crossing 1 ∷ []) site → IsSignal tiny the_channels the_tracks site
    from (inl e) = subst (IsSignal tiny the_channels the_tracks) e (signal 0 (later (line.Pad 0) (line.Pad 1) (line.Pad 0 ∷ []) (here (line.Pad 0) (line.Pad 0) [] refl)))
    from (inr k) = second (first_or_later site (crossing 1) [] k)

no_dedicated : {A : Type 0} (site : Site) → IsDedicated tiny pad_to_pad site → A
no_dedicated {A} site h = from (first_or_later h.sink (record { source = Input 0; line = line.Pad 1; channel = 0 }) [] h.has)
  where
    from : ((let s : Sink = record { source = Input 0; line = line.Pad 1; channel = 0 } in s) ≡ h.sink) ⊎ Contains [] h.sink → A
    from (inl e) = let none : None ≡ Some h.track = ap (λ (s : Sink). dedicated s.source) e ∙ h.track_is in cc
    from (inr k) = not_in_none h.sink k

-- there is one connection, on track 0 of channel 0
at_is : (channel place t : ℕ) (w : Wiring) → IsAt the_channels the_tracks channel place w t → (channel ≡ 0) × (w ≡ the_wiring) × (t ≡ 0)
at_is zero zero t w a =
    let ws = some_is (the_wiring ∷ []) a.wirings a.at in
    let ts = some_is (0 ∷ []) a.assigned a.with_tracks in
    (refl, sym (some_is the_wiring w (ap (λ (l : List Wiring). slice_get l 0) ws ∙ a.wiring)), sym (some_is 0 t (ap (λ (l : List ℕ). slice_get l 0) ts ∙ a.track)))
at_is zero (suc place) t w a =
    let ws = some_is (the_wiring ∷ []) a.wirings a.at in
    let none : None ≡ Some w = ap (λ (l : List Wiring). slice_get l (suc place)) ws ∙ a.wiring in
    cc
at_is (suc zero) place t w a =
    let ws = some_is [] a.wirings a.at in
    let none : None ≡ Some w = ap (λ (l : List Wiring). slice_get l place) ws ∙ a.wiring in
    cc
at_is (suc (suc channel)) place t w a = let e = a.at in cc

is_listed : (site : Site) → IsSignal tiny the_channels the_tracks site → Contains the_sites site
is_listed site h = let r = at_is h.channel h.place h.track h.wiring h.at in from site (subst (λ (w : Wiring). IsOfConnection tiny h.channel w h.track site) r.1 h.is) r.0 r.2
  where
    by_pad : (l : Line) → (line.Pad 1 ≡ l) ⊎ Contains (line.Pad 0 ∷ []) l → Contains the_sites (Cross 0 (track.Signal 0) l)
    by_pad l (inl e) = later (Cross 0 (track.Signal 0) l) (crossing 0) (crossing 1 ∷ []) (here (Cross 0 (track.Signal 0) l) (crossing 1) [] (ap (λ (l : Line). Cross 0 (track.Signal 0) l) e))
    by_pad l (inr k) = by_second (first_or_later l (line.Pad 0) [] k)
      where
        by_second : (line.Pad 0 ≡ l) ⊎ Contains [] l → Contains the_sites (Cross 0 (track.Signal 0) l)
        by_second (inl e) = here (Cross 0 (track.Signal 0) l) (crossing 0) (crossing 1 ∷ []) (ap (λ (l : Line). Cross 0 (track.Signal 0) l) e)
        by_second (inr k) = not_in_none l k

    from : (site : Site) → IsOfConnection tiny h.channel the_wiring h.track site → h.channel ≡ 0 → h.track ≡ 0 → Contains the_sites site
    from (Cross c (track.Signal s) l) k e t =
        subst (λ (c : ℕ). Contains the_sites (Cross c (track.Signal s) l)) (sym (k.0 ∙ e)) (subst (λ (s : ℕ). Contains the_sites (Cross 0 (track.Signal s) l)) (sym (k.1 ∙ t)) (by_pad l (first_or_later l (line.Pad 1) (line.Pad 0 ∷ []) k.2)))
    from (Cross c track.Gnd l) k e t = absurd k
    from (Cross c track.Vcc l) k e t = absurd k
    from (Cross c track.Clk l) k e t = absurd k
    from (Along c s index) k e t =
        let at_zero = subst (λ (t : ℕ). IsOfConnection tiny h.channel the_wiring t (Along c s index)) t k in
        let inside = subst (λ (c' : ℕ). IsOfConnection tiny c' the_wiring 0 (Along c s index)) e at_zero in
        let high = inside.3 in
        absurd (omega arith)

abbrev the_file : FuseFile
the_file = record { device = codes "tiny"; clock = None; ins = (record { pad = 0; name = codes "a" }) ∷ []; outs = (record { pad = 1; name = codes "a" }) ∷ []; starts = []; sites = the_sites }

is_file : IsFileOf tiny pad_to_pad the_channels the_tracks the_file
is_file = record {
  head = record { device = refl; clock = refl; ins = refl; outs = refl; starts = refl };
  sites = record { rise = (refl, tt); each = λ site. (λ h. inr (listed_is site h), λ h. from site h) };
}
  where
    from : (site : Site) → IsDedicated tiny pad_to_pad site ⊎ IsSignal tiny the_channels the_tracks site → Contains the_sites site
    from site (inl h) = no_dedicated site h
    from site (inr h) = is_listed site h
