-- From classes and their least sources to what is joined and fed.
use Rattle.std.proofs.Common.{ℕ, suc, zero, ◌≡◌, ◌≢◌, ◌<◌, ◌≤◌, ◌⊎◌, List, [], ◌∷◌, map, Option, Some, None, refl, sym, ap, subst, ◌∙◌, inl, inr, arith}
use Rattle.std.specs.Prelude.{Contains, slice_get, AllPairs}
use Rattle.std.proofs.lemmas.Bool.{cases_lt}
use Rattle.std.proofs.lemmas.Option.{get_or_from_slice_get}
use Rattle.act1_base.specs.Joined.{Leads, Joined}
use Rattle.act1_base.specs.Rising.{Rises}
use Rattle.act1_base.proofs.Paths.{joined_back}
use Rattle.act1_base.proofs.RisingLists as rising
use Rattle.act1_base.proofs.RisingLists.{pair_itself, pair_on}
use Rattle.act1_device.specs.declared.device.Device.{Device}
use Rattle.act1_device.specs.declared.device.Wire.{Wire}
use Rattle.act1_device.specs.declared.device.Wire.TheVariants as wire
use Rattle.act1_device.specs.declared.device.Line.TheVariants as line
use Rattle.act1_circuit.specs.declared.circuit.Source.{Source}
use Rattle.act1_circuit.specs.declared.circuit.Source.TheVariants.{Zero, One, Clock, Input, Module}
use Rattle.act1_circuit.specs.declared.circuit.Spot.{Spot}
use Rattle.act1_circuit.specs.Spots.{SpotIsBefore}
use Rattle.act1_fuses.specs.declared.fuses.FuseFile.{FuseFile}
use Rattle.act1_fuses.specs.declared.fuses.Port.{Port}
use Rattle.act1_fuses.specs.Wires.{links_of}
use Rattle.act1_fuses.specs.Array.{IsSource, IsFed, IsWireOf, Drives, out_wire, pad_wire}
use Rattle.act1_array.specs.declared.network.Network.{Network}
use Rattle.act1_array.specs.declared.owners.Pair.{Pair}
use Rattle.act1_array.specs.ClassSteps.{AreClasses, HasClass}
use Rattle.act1_array.specs.Gives.{AreJoined, source_place}
use Rattle.act1_array.specs.NetworkSteps.{Feeds, GivesPair, IsNetworkOf}
use Rattle.act1_array.specs.OwnerSteps.{GivesSource, IsLeastFrom, Meet, Shares}
use Rattle.act1_base.proofs.ListGets.{some_is, get_within, get_map, get_mapped, contains_at, place_of}
use Rattle.act1_array.proofs.ClassLemmas.{has_class}
use Rattle.act1_array.proofs.OwnerLemmas.{one_wire, one_source}

-- what is joined is one wire, or both wires are numbered
module _ {V : Type 0} (links : List (V × V)) (wires : List V) (classes : List ℕ) (h : AreClasses links wires classes) where
  begins : (a b : V) (path : List V) → Leads links a path b → (a ≡ b) ⊎ Contains wires a
  begins a b [] k = inl k
  begins a b (c ∷ path) (inl k, rest) = inr (h.ends a c k).0
  begins a b (c ∷ path) (inr k, rest) = inr (h.ends c a k).1

  pub joined_numbers : (a b : V) → Joined links a b → (a ≡ b) ⊎ (Contains wires a × Contains wires b)
  joined_numbers a b j = let k = joined_back links a b j in by (begins a b j.path j.leads) (begins b a k.path k.leads)
    where
      by : (a ≡ b) ⊎ Contains wires a → (b ≡ a) ⊎ Contains wires b → (a ≡ b) ⊎ (Contains wires a × Contains wires b)
      by (inl e) t = inl e
      by (inr p) (inl e) = inl (sym e)
      by (inr p) (inr q) = inr (p, q)

  -- numbered wires that are joined have one class
  pub joined_class : (a b : V) → Joined links a b → Contains wires a × Contains wires b → (class : ℕ) × HasClass wires classes a class × HasClass wires classes b class
  joined_class a b j in_wires =
      let p = has_class links wires classes h a in_wires.0 in
      let q = has_class links wires classes h b in_wires.1 in
      let same : q.0 ≡ p.0 = sym (h.apart a b p.0 q.0 p.1 q.1 j) in
      (p.0, p.1, subst (λ (d : ℕ). HasClass wires classes b d) same q.1)

never_itself : (s : Spot) → SpotIsBefore s s → ⊥
never_itself s = pair_itself s.row s.column

in_turn : (a b c : Spot) → SpotIsBefore a b → SpotIsBefore b c → SpotIsBefore a c
in_turn a b c = pair_on a.row a.column b.row b.column c.row c.column

-- a spot that stands later in a list that rises is after
pub after_first : (x : Spot) (xs : List Spot) → Rises SpotIsBefore (x ∷ xs) → (j : ℕ) (y : Spot) → slice_get xs j ≡ Some y → SpotIsBefore x y
after_first = rising.after_first SpotIsBefore never_itself in_turn

-- a spot stands at one place of a list that rises
pub same_place : (xs : List Spot) → Rises SpotIsBefore xs → (m n : ℕ) (s : Spot) → slice_get xs m ≡ Some s → slice_get xs n ≡ Some s → m ≡ n
same_place = rising.same_place SpotIsBefore never_itself in_turn

-- the spots of two places of a list that rises stand in the order of the places
pub places_rise : (xs : List Spot) → Rises SpotIsBefore xs → (m n : ℕ) (s t : Spot) → slice_get xs m ≡ Some s → slice_get xs n ≡ Some t → m < n → SpotIsBefore s t
places_rise = rising.places_rise SpotIsBefore never_itself in_turn

pub not_both : (s t : Spot) → SpotIsBefore s t → SpotIsBefore t s → ⊥
not_both s t h k = never_itself s (in_turn s t s h k)

pads_equal : (p q : ℕ) → pad_wire p ≡ pad_wire q → p ≡ q
pads_equal p q e = cc

abbrev spot_at : ℕ → ℕ → Spot
spot_at row column = record { row = row; column = column }

-- the spot of an output's wire
abbrev spot_of : Wire → Spot
spot_of (wire.Vertical (line.Out row column)) = spot_at row column
spot_of w = spot_at 0 0

spots_equal : (s t : Spot) → out_wire s ≡ out_wire t → s ≡ t
spots_equal s t e = ap spot_of e

module _ (f : FuseFile) (once : AllPairs (λ (a b : Port). a.pad ≢ b.pad) f.ins) where
  below : (i j : ℕ) (p q : Port) → slice_get f.ins i ≡ Some p → slice_get f.ins j ≡ Some q → p.pad ≡ q.pad → ¬ (i < j)
  below i j p q e h k low =
      once i j p low (get_within f.ins j q h) (ap (λ (x : Port). x.pad) (get_or_from_slice_get f.ins i p p e) ∙ k ∙ sym (ap (λ (x : Port). x.pad) (get_or_from_slice_get f.ins j q p h)))

  same_port : (i j : ℕ) (p q : Port) → slice_get f.ins i ≡ Some p → slice_get f.ins j ≡ Some q → p.pad ≡ q.pad → i ≡ j
  same_port i j p q e h k = let a = below i j p q e h k in let b = below j i q p h e (sym k) in omega arith

  module _ (spots : List Spot) (rise : Rises SpotIsBefore spots) where
    -- a wire is of one source
    pub same_source : (s t : Source) (w : Wire) → IsWireOf f spots s w → IsWireOf f spots t w → s ≡ t
    same_source Zero Zero w h k = refl
    same_source Zero One w h k = cc
    same_source Zero Clock w h k = cc
    same_source Zero (Input j) w h k = let e = k.2 in cc
    same_source Zero (Module n) w h k = let e = k.2 in cc
    same_source One Zero w h k = cc
    same_source One One w h k = refl
    same_source One Clock w h k = cc
    same_source One (Input j) w h k = let e = k.2 in cc
    same_source One (Module n) w h k = let e = k.2 in cc
    same_source Clock Zero w h k = cc
    same_source Clock One w h k = cc
    same_source Clock Clock w h k = refl
    same_source Clock (Input j) w h k = let e = k.2 in cc
    same_source Clock (Module n) w h k = let e = k.2 in cc
    same_source (Input i) Zero w h k = let e = h.2 in cc
    same_source (Input i) One w h k = let e = h.2 in cc
    same_source (Input i) Clock w h k = let e = h.2 in cc
    same_source (Input i) (Input j) w h k = ap Input (same_port i j h.0 k.0 h.1 k.1 (pads_equal h.0.pad k.0.pad (sym h.2 ∙ k.2)))
    same_source (Input i) (Module n) w h k = let e = h.2 in let g = k.2 in cc
    same_source (Module m) Zero w h k = let e = h.2 in cc
    same_source (Module m) One w h k = let e = h.2 in cc
    same_source (Module m) Clock w h k = let e = h.2 in cc
    same_source (Module m) (Input j) w h k = let e = h.2 in let g = k.2 in cc
    same_source (Module m) (Module n) w h k = ap Module (same_place spots rise m n h.0 h.1 (k.1 ∙ ap (λ (s : Spot). Some s) (sym (spots_equal h.0 k.0 (sym h.2 ∙ k.2)))))

module _ (dev : Device) (f : FuseFile) (n : Network) (h : IsNetworkOf dev f n) where
  port_in : (i : ℕ) (port : Port) → slice_get f.ins i ≡ Some port → Contains (map (λ (p : Port). p.pad) f.ins) port.pad
  port_in i port e = contains_at (map (λ (p : Port). p.pad) f.ins) i port.pad (get_map (λ (p : Port). p.pad) f.ins i port e)

  -- the wires of the sources, and the sources of these wires
  pub is_source : (s : Source) (w : Wire) → IsWireOf f n.spots s w → IsSource f w
  is_source Zero w k = subst (λ (u : Wire). IsSource f u) (sym k) tt
  is_source One w k = subst (λ (u : Wire). IsSource f u) (sym k) tt
  is_source Clock w k = subst (λ (u : Wire). IsSource f u) (sym k) tt
  is_source (Input i) w k = subst (λ (u : Wire). IsSource f u) (sym k.2) (port_in i k.0 k.1)
  is_source (Module m) w k = subst (λ (u : Wire). IsSource f u) (sym k.2) ((h.used.used k.0).1 (contains_at n.spots m k.0 k.1))

  pub named : (w : Wire) → IsSource f w → (s : Source) × IsWireOf f n.spots s w
  named wire.Gnd k = (Zero, refl)
  named wire.Vcc k = (One, refl)
  named wire.Clk k = (Clock, refl)
  named (wire.Seg channel t index) k = absurd k
  named (wire.Vertical (line.Pin row column pin)) k = absurd k
  named (wire.Vertical (line.Long column index)) k = absurd k
  named (wire.Vertical (line.Pad pad)) k =
      let i = place_of (map (λ (p : Port). p.pad) f.ins) pad k in
      let port = get_mapped (λ (p : Port). p.pad) f.ins i.0 pad i.1 in
      (Input i.0, (port.0, port.1, ap pad_wire (sym port.2)))
  named (wire.Vertical (line.Out row column)) k =
      let m = place_of n.spots (spot_at row column) ((h.used.used (spot_at row column)).0 k) in
      (Module m.0, (spot_at row column, m.1, refl))

  -- a source in the class of a wire drives it
  shares_drives : (s : Source) (w : Wire) → Shares f n.spots n.classes s w → Drives dev f n.spots s w
  shares_drives s w (class, k, has) = (k.0, k.1, h.classes.joined k.0 w class k.2 has)

  fed_shares : (w : Wire) → ¬ IsSource f w → IsFed dev f w → (s : Source) × Shares f n.spots n.classes s w
  fed_shares w other (from, is, j) = by (named from is) (joined_numbers (links_of dev f.sites) n.classes.wires.keys n.classes.classes.items h.classes from w j)
    where
      by : (s : Source) × IsWireOf f n.spots s from → (from ≡ w) ⊎ (Contains n.classes.wires.keys from × Contains n.classes.wires.keys w) → (s : Source) × Shares f n.spots n.classes s w
      by s (inl e) = absurd (other (subst (λ (u : Wire). IsSource f u) e is))
      by s (inr in_wires) =
          let c = joined_class (links_of dev f.sites) n.classes.wires.keys n.classes.classes.items h.classes from w j in_wires in
          (s.0, (c.0, (from, s.1, c.1), c.2))

  -- what the classes give is what feeds the wire
  pub feeds : (w : Wire) → ¬ IsSource f w → (r : Option Source) → GivesSource f n.spots n.classes w r → Feeds dev f n.spots w r
  feeds w other None g = λ fed. let s = fed_shares w other fed in g s.0 s.1
  feeds w other (Some s) g = shares_drives s w g

  -- joined sources of different wires meet in a class
  joined_meet : (s t : Source) (a b : Wire) → IsWireOf f n.spots s a → IsWireOf f n.spots t b → ¬ (a ≡ b) → Joined (links_of dev f.sites) a b → source_place f s < source_place f t → Meet f n.spots n.classes s t
  joined_meet s t a b is_a is_b different j order = by (joined_numbers (links_of dev f.sites) n.classes.wires.keys n.classes.classes.items h.classes a b j)
    where
      by : (a ≡ b) ⊎ (Contains n.classes.wires.keys a × Contains n.classes.wires.keys b) → Meet f n.spots n.classes s t
      by (inl e) = absurd (different e)
      by (inr in_wires) =
          let c = joined_class (links_of dev f.sites) n.classes.wires.keys n.classes.classes.items h.classes a b j in_wires in
          record { class = c.0; first = (a, is_a, c.1); second = (b, is_b, c.2); order = order }

  apart_by : (a b : Wire) → IsWireOf f n.spots Zero wire.Gnd → IsSource f a → IsSource f b → ((s t : Source) → ¬ Meet f n.spots n.classes s t) → Joined (links_of dev f.sites) a b → a ≡ b
  apart_by a b z is_a is_b none j = go (named a is_a) (named b is_b) (joined_numbers (links_of dev f.sites) n.classes.wires.keys n.classes.classes.items h.classes a b j)
    where
      go : (s : Source) × IsWireOf f n.spots s a → (t : Source) × IsWireOf f n.spots t b → (a ≡ b) ⊎ (Contains n.classes.wires.keys a × Contains n.classes.wires.keys b) → a ≡ b
      go s t (inl e) = e
      go s t (inr in_wires) =
          let c = joined_class (links_of dev f.sites) n.classes.wires.keys n.classes.classes.items h.classes a b j in_wires in
          by_order c (cases_lt (source_place f s.0) (source_place f t.0)) (cases_lt (source_place f t.0) (source_place f s.0))
        where
          by_order : ((class : ℕ) × HasClass n.classes.wires.keys n.classes.classes.items a class × HasClass n.classes.wires.keys n.classes.classes.items b class)
              → (source_place f s.0 < source_place f t.0) ⊎ (source_place f t.0 ≤ source_place f s.0) → (source_place f t.0 < source_place f s.0) ⊎ (source_place f s.0 ≤ source_place f t.0) → a ≡ b
          by_order c (inl low) u = absurd (none s.0 t.0 (record { class = c.0; first = (a, s.1, c.1); second = (b, t.1, c.2); order = low }))
          by_order c (inr p) (inl low) = absurd (none t.0 s.0 (record { class = c.0; first = (b, t.1, c.2); second = (a, s.1, c.1); order = low }))
          by_order c (inr p) (inr q) =
              let same : s.0 ≡ t.0 = one_source f n.spots s.0 t.0 a b s.1 t.1 (omega arith) in
              one_wire f n.spots t.0 a b (subst (λ (u : Source). IsWireOf f n.spots u a) same s.1) t.1

  module _ (once : AllPairs (λ (a b : Port). a.pad ≢ b.pad) f.ins) where
    meet_joined : (s t : Source) → Meet f n.spots n.classes s t → AreJoined dev f n.spots s t
    meet_joined s t m = record {
      from = m.first.0;
      to = m.second.0;
      from_is = m.first.1;
      to_is = m.second.1;
      different = λ e.
          let same = same_source f once n.spots h.used.rise s t m.second.0 (subst (λ (u : Wire). IsWireOf f n.spots s u) e m.first.1) m.second.1 in
          let place = ap (source_place f) same in
          let order = m.order in
          absurd (omega (arith, place, order));
      joined = h.classes.joined m.first.0 m.second.0 m.class m.first.2 m.second.2;
      order = m.order;
    }

    -- the least pair in one class is the least pair that is joined
    pub gives_pair : (p : Option Pair) → IsLeastFrom f n.spots n.classes 0 p → GivesPair dev f n.spots p
    gives_pair None k = λ a b is_a is_b j. apart_by a b refl is_a is_b (λ s t m. k s t (omega arith) m) j
    gives_pair (Some p) k =
        let j = meet_joined p.first p.second k.0 in (
          record { joined = j; least = λ s t l. k.1 s t (omega arith) (joined_meet s t l.from l.to l.from_is l.to_is l.different l.joined l.order) },
          λ apart. j.different (apart j.from j.to (is_source p.first j.from j.from_is) (is_source p.second j.to j.to_is) j.joined),
        )
