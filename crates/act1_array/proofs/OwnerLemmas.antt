-- The least source of each class, and the least pair of sources in one class, as one source more is looked at.
use Rattle.std.proofs.Common.{ℕ, ◌≡◌, ◌≢◌, ◌<◌, ◌≤◌, ◌⊎◌, ◌+◌, List, length, Option, Some, None, refl, sym, ap, subst, ◌∙◌, inl, inr, arith}
use Rattle.std.specs.Prelude.{Contains, slice_get, slice_set, slice_index_or}
use Rattle.std.proofs.lemmas.Bool.{cases_eq, cases_lt}
use Rattle.std.proofs.lemmas.Option.{slice_get-get_or}
use Rattle.act1_device.specs.declared.device.Wire.{Wire}
use Rattle.act1_circuit.specs.declared.circuit.Source.{Source}
use Rattle.act1_circuit.specs.declared.circuit.Source.TheVariants.{Zero, One, Clock, Input, Module}
use Rattle.act1_circuit.specs.declared.circuit.Spot.{Spot}
use Rattle.act1_fuses.specs.declared.fuses.FuseFile.{FuseFile}
use Rattle.act1_fuses.specs.declared.fuses.Port.{Port}
use Rattle.act1_fuses.specs.Array.{IsWireOf, out_wire, pad_wire}
use Rattle.act1_array.specs.declared.classes.Classes.{Classes}
use Rattle.act1_array.specs.declared.owners.Owners.{Owners}
use Rattle.act1_array.specs.declared.owners.Pair.{Pair}
use Rattle.act1_array.specs.ClassSteps.{HasClass, IsWhole}
use Rattle.act1_array.specs.Gives.{PairIsUpTo, source_place}
use Rattle.act1_array.specs.OwnerSteps.{AreOwners, GivesSource, IsIn, IsLeastFrom, Meet, pair_with}
use Rattle.act1_base.proofs.ListGets.{some_is, get_within, get_written, get_unwritten, contains_at}

-- a numbered wire has one class
pub one_class : (c : Classes) → IsWhole c → (w : Wire) (a b : ℕ) → HasClass c.wires.keys c.classes.items w a → HasClass c.wires.keys c.classes.items w b → a ≡ b
one_class c whole w a b h k =
    let same = whole.once h.0 k.0 w h.1 k.1 in
    some_is a b (sym h.2 ∙ ap (λ (i : ℕ). slice_get c.classes.items i) same ∙ k.2)

module _ (f : FuseFile) (spots : List Spot) where
  -- a source has one wire
  pub one_wire : (s : Source) (v w : Wire) → IsWireOf f spots s v → IsWireOf f spots s w → v ≡ w
  one_wire Zero v w h k = h ∙ sym k
  one_wire One v w h k = h ∙ sym k
  one_wire Clock v w h k = h ∙ sym k
  one_wire (Input i) v w h k = h.2 ∙ ap (λ (p : Port). pad_wire p.pad) (some_is h.0 k.0 (sym h.1 ∙ k.1)) ∙ sym k.2
  one_wire (Module m) v w h k = h.2 ∙ ap out_wire (some_is h.0 k.0 (sym h.1 ∙ k.1)) ∙ sym k.2

  -- a source of the array stands before the end
  pub place_low : (s : Source) (w : Wire) → IsWireOf f spots s w → source_place f s < 3 + length f.ins + length spots
  place_low Zero w h = omega arith
  place_low One w h = omega arith
  place_low Clock w h = omega arith
  place_low (Input i) w h = let low = get_within f.ins i h.0 h.1 in omega arith
  place_low (Module m) w h = let low = get_within spots m h.0 h.1 in omega arith

  input_low : (i : ℕ) (w : Wire) → IsWireOf f spots (Input i) w → i < length f.ins
  input_low i w h = get_within f.ins i h.0 h.1

  -- one source stands at a place
  pub one_source : (s t : Source) (v w : Wire) → IsWireOf f spots s v → IsWireOf f spots t w → source_place f s ≡ source_place f t → s ≡ t
  one_source Zero Zero v w h k e = refl
  one_source Zero One v w h k e = absurd (omega (arith, e))
  one_source Zero Clock v w h k e = absurd (omega (arith, e))
  one_source Zero (Input j) v w h k e = absurd (omega (arith, e))
  one_source Zero (Module n) v w h k e = absurd (omega (arith, e))
  one_source One Zero v w h k e = absurd (omega (arith, e))
  one_source One One v w h k e = refl
  one_source One Clock v w h k e = absurd (omega (arith, e))
  one_source One (Input j) v w h k e = absurd (omega (arith, e))
  one_source One (Module n) v w h k e = absurd (omega (arith, e))
  one_source Clock Zero v w h k e = absurd (omega (arith, e))
  one_source Clock One v w h k e = absurd (omega (arith, e))
  one_source Clock Clock v w h k e = refl
  one_source Clock (Input j) v w h k e = absurd (omega (arith, e))
  one_source Clock (Module n) v w h k e = absurd (omega (arith, e))
  one_source (Input i) Zero v w h k e = absurd (omega (arith, e))
  one_source (Input i) One v w h k e = absurd (omega (arith, e))
  one_source (Input i) Clock v w h k e = absurd (omega (arith, e))
  one_source (Input i) (Input j) v w h k e = ap Input (omega (arith, e))
  one_source (Input i) (Module n) v w h k e = let low = input_low i v h in absurd (omega (arith, e))
  one_source (Module m) Zero v w h k e = absurd (omega (arith, e))
  one_source (Module m) One v w h k e = absurd (omega (arith, e))
  one_source (Module m) Clock v w h k e = absurd (omega (arith, e))
  one_source (Module m) (Input j) v w h k e = let low = input_low j w k in absurd (omega (arith, e))
  one_source (Module m) (Module n) v w h k e = ap Module (omega (arith, e))

  module _ (c : Classes) (whole : IsWhole c) where
    one_class_of : (s : Source) (a b : ℕ) → IsIn f spots c a s → IsIn f spots c b s → a ≡ b
    one_class_of s a b h k =
        one_class c whole k.0 a b (subst (λ (v : Wire). HasClass c.wires.keys c.classes.items v a) (one_wire s h.0 k.0 h.1 k.1) h.2) k.2

    in_one_place : (s t : Source) (a b : ℕ) → IsIn f spots c a s → IsIn f spots c b t → source_place f s ≡ source_place f t → s ≡ t
    in_one_place s t a b h k e = one_source s t h.0 k.0 h.1 k.1 e

    -- before any source is looked at
    pub owners_start : (o : Owners) → ((class : ℕ) → slice_index_or o.owners.items class None ≡ None) → o.pair ≡ None → AreOwners f spots c (3 + length f.ins + length spots) o
    owners_start o none no_pair = record {
      owns = λ class s e. no_owner class s e;
      least = λ class s k past. let low = place_low s k.0 k.1 in absurd (omega arith);
      pair = subst (λ (p : Option Pair). IsLeastFrom f spots c (3 + length f.ins + length spots) p) (sym no_pair) (λ s t past m. let low = place_low s m.first.0 m.first.1 in omega arith);
    }
      where
        no_owner : (class : ℕ) (s : Source) → slice_get o.owners.items class ≡ Some (Some s) → IsIn f spots c class s × (3 + length f.ins + length spots ≤ source_place f s)
        no_owner class s e =
            let low = get_within o.owners.items class (Some s) e in
            let at : slice_get o.owners.items class ≡ Some (slice_index_or o.owners.items class None) = slice_get-get_or o.owners.items class None low in
            let n = none class in cc

    module _ (source : Source) (w : Wire) (is : IsWireOf f spots source w) (old : Owners) (h : AreOwners f spots c (source_place f source + 1) old) where
      abbrev at : ℕ
      at = source_place f source

      -- a source at the place or later is this one, or a later one
      split : (s : Source) (d : ℕ) → IsIn f spots c d s → at ≤ source_place f s → (s ≡ source) ⊎ (at + 1 ≤ source_place f s)
      split s d k low = by (cases_lt at (source_place f s))
        where
          by : (at < source_place f s) ⊎ (source_place f s ≤ at) → (s ≡ source) ⊎ (at + 1 ≤ source_place f s)
          by (inl p) = inr (omega arith)
          by (inr p) = inl (one_source s source k.0 w k.1 is (omega arith))

      module _ (alone : (d : ℕ) → ¬ IsIn f spots c d source) where
        never : (s : Source) (d : ℕ) → IsIn f spots c d s → at ≤ source_place f s → at + 1 ≤ source_place f s
        never s d k low = by (split s d k low)
          where
            by : (s ≡ source) ⊎ (at + 1 ≤ source_place f s) → at + 1 ≤ source_place f s
            by (inl e) = absurd (alone d (subst (λ (t : Source). IsIn f spots c d t) e k))
            by (inr p) = p

        pair_skipped : (p : Option Pair) → IsLeastFrom f spots c (at + 1) p → IsLeastFrom f spots c at p
        pair_skipped None k = λ s t low m. k s t (never s m.class m.first low) m
        pair_skipped (Some p) k = (k.0, λ s t low m. k.1 s t (never s m.class m.first low) m)

        -- a source in no class changes nothing
        pub owners_skip : AreOwners f spots c at old
        owners_skip = record {
          owns = λ class s e. let k = h.owns class s e in let low = k.1 in (k.0, omega arith);
          least = λ class s k low. h.least class s k (never s class k low);
          pair = pair_skipped old.pair h.pair;
        }

      module _ (class : ℕ) (has : HasClass c.wires.keys c.classes.items w class) (low_class : class < length old.owners.items) (new : Owners)
          (owners_are : new.owners.items ≡ slice_set old.owners.items class (Some source)) (pair_is : new.pair ≡ pair_with source (slice_index_or old.owners.items class None) old.pair) where
        here : IsIn f spots c class source
        here = (w, is, has)

        class_is : (s : Source) (d : ℕ) → IsIn f spots c d s → s ≡ source → d ≡ class
        class_is s d k e = one_class_of source d class (subst (λ (t : Source). IsIn f spots c d t) e k) here

        owned : slice_get new.owners.items class ≡ Some (Some source)
        owned = ap (λ (os : List (Option Source)). slice_get os class) owners_are ∙ get_written old.owners.items class (Some source) low_class

        others : (d : ℕ) → d ≢ class → slice_get new.owners.items d ≡ slice_get old.owners.items d
        others d apart = ap (λ (os : List (Option Source)). slice_get os d) owners_are ∙ get_unwritten old.owners.items class d (Some source) apart

        some_some : (s t : Source) → ◌≡◌ {A = Option (Option Source)} (Some (Some s)) (Some (Some t)) → s ≡ t
        some_some s t e = cc

        owns_now : (d : ℕ) (s : Source) → slice_get new.owners.items d ≡ Some (Some s) → (d ≡ class) ⊎ (d ≢ class) → IsIn f spots c d s × (at ≤ source_place f s)
        owns_now d s e (inl same) =
            let s_is : source ≡ s = some_some source s (sym owned ∙ ap (λ (k : ℕ). slice_get new.owners.items k) (sym same) ∙ e) in
            let high : at ≤ source_place f s = subst (λ (t : Source). at ≤ source_place f t) s_is (omega arith) in
            (subst (λ (k : ℕ). IsIn f spots c k s) (sym same) (subst (λ (t : Source). IsIn f spots c class t) s_is here), high)
        owns_now d s e (inr apart) = let k = h.owns d s (sym (others d apart) ∙ e) in let low = k.1 in (k.0, omega arith)

        abbrev First : ℕ → Source → Type 0
        First d s = (first : Source) × (slice_get new.owners.items d ≡ Some (Some first)) × (source_place f first ≤ source_place f s)

        least_here : (d : ℕ) (s : Source) → d ≡ class → at ≤ source_place f s → First d s
        least_here d s same low = (source, ap (λ (k : ℕ). slice_get new.owners.items k) same ∙ owned, low)

        least_now : (d : ℕ) (s : Source) → IsIn f spots c d s → at ≤ source_place f s → (s ≡ source) ⊎ (at + 1 ≤ source_place f s) → (d ≡ class) ⊎ (d ≢ class) → First d s
        least_now d s k low (inl e) t = least_here d s (class_is s d k e) low
        least_now d s k low (inr past) (inl same) = least_here d s same low
        least_now d s k low (inr past) (inr apart) = let r = h.least d s k past in (r.0, others d apart ∙ r.1, r.2)

        abbrev was : Option Source
        was = slice_index_or old.owners.items class None

        was_at : slice_get old.owners.items class ≡ Some was
        was_at = slice_get-get_or old.owners.items class None low_class

        some_none : (t : Source) → ¬ (◌≡◌ {A = Option (Option Source)} (Some None) (Some (Some t)))
        some_none t e = cc

        -- with no source in the class, this one meets none
        meets_none : was ≡ None → (t : Source) → ¬ Meet f spots c source t
        meets_none none t m =
            let same = class_is source m.class m.first refl in
            let order = m.order in
            let r = h.least class t (subst (λ (d : ℕ). IsIn f spots c d t) same m.second) (omega arith) in
            some_none r.0 (ap (λ (o : Option Source). let q : Option (Option Source) = Some o in q) (sym none) ∙ sym was_at ∙ r.1)

        past_none : was ≡ None → (s t : Source) → at ≤ source_place f s → Meet f spots c s t → at + 1 ≤ source_place f s
        past_none none s t low m = by (split s m.class m.first low)
          where
            by : (s ≡ source) ⊎ (at + 1 ≤ source_place f s) → at + 1 ≤ source_place f s
            by (inl e) = absurd (meets_none none t (subst (λ (u : Source). Meet f spots c u t) e m))
            by (inr p) = p

        pair_none : was ≡ None → (p : Option Pair) → IsLeastFrom f spots c (at + 1) p → IsLeastFrom f spots c at p
        pair_none none None k = λ s t low m. k s t (past_none none s t low m) m
        pair_none none (Some p) k = (k.0, λ s t low m. k.1 s t (past_none none s t low m) m)

        pair_here : (second : Source) → was ≡ Some second → IsLeastFrom f spots c at (Some (record { first = source; second = second }))
        pair_here second e =
            let r = h.owns class second (was_at ∙ ap (λ (o : Option Source). let q : Option (Option Source) = Some o in q) e) in
            let past = r.1 in
            (record { class = class; first = here; second = r.0; order = omega arith }, λ s t low m. by s t m (split s m.class m.first low))
          where
            by : (s t : Source) → Meet f spots c s t → (s ≡ source) ⊎ (at + 1 ≤ source_place f s) → PairIsUpTo f source second s t
            by s t m (inr past) = inl (omega arith)
            by s t m (inl same) =
                let order = m.order in
                let place : source_place f s ≡ at = ap (source_place f) same in
                let in_class : IsIn f spots c class t = subst (λ (d : ℕ). IsIn f spots c d t) (class_is s m.class m.first same) m.second in
                let r = h.least class t in_class (omega arith) in
                let is_second : second ≡ r.0 = some_some second r.0 (ap (λ (o : Option Source). let q : Option (Option Source) = Some o in q) (sym e) ∙ sym was_at ∙ r.1) in
                let up = r.2 in
                inr (sym place, subst (λ (u : Source). source_place f u ≤ source_place f t) (sym is_second) up)

        pair_now : (o : Option Source) → was ≡ o → IsLeastFrom f spots c at (pair_with source o old.pair)
        pair_now None e = pair_none e old.pair h.pair
        pair_now (Some second) e = pair_here second e

        -- the source of a class comes before the others
        pub owners_step : AreOwners f spots c at new
        owners_step = record {
          owns = λ d s e. owns_now d s e (cases_eq d class);
          least = λ d s k low. least_now d s k low (split s d k low) (cases_eq d class);
          pair = subst (λ (p : Option Pair). IsLeastFrom f spots c at p) (sym pair_is) (pair_now was refl);
        }

    -- a wire that has no number is in no class
    pub no_class : (source : Source) (w : Wire) → IsWireOf f spots source w → ¬ Contains c.wires.keys w → (d : ℕ) → ¬ IsIn f spots c d source
    no_class source w is out d k = out (subst (λ (v : Wire). Contains c.wires.keys v) (one_wire source k.0 w k.1 is) (contains_at c.wires.keys k.2.0 k.0 k.2.1))

    -- the least source of a class is that of its wires
    pub gives_owner : (o : Owners) → AreOwners f spots c 0 o → (w : Wire) (class : ℕ) → HasClass c.wires.keys c.classes.items w class → (r : Option Source) → slice_get o.owners.items class ≡ Some r → GivesSource f spots c w r
    gives_owner o h w class has (Some s) e = (class, (h.owns class s e).0, has)
    gives_owner o h w class has None e = λ s k. none s (h.least class s (subst (λ (d : ℕ). IsIn f spots c d s) (one_class c whole w k.0 class k.2 has) k.1) (omega arith))
      where
        none : (s : Source) → ((first : Source) × (slice_get o.owners.items class ≡ Some (Some first)) × (source_place f first ≤ source_place f s)) → ⊥
        none s r = let both : ◌≡◌ {A = Option (Option Source)} (Some None) (Some (Some r.0)) = sym e ∙ r.1 in cc

    pub gives_none : (w : Wire) → ¬ Contains c.wires.keys w → GivesSource f spots c w None
    gives_none w out = λ s k. out (contains_at c.wires.keys k.2.0 w k.2.1)

pub owners_from : (f : FuseFile) (spots : List Spot) (c : Classes) (o : Owners) (from to : ℕ) → from ≡ to → AreOwners f spots c from o → AreOwners f spots c to o
owners_from f spots c o from to e h = subst (λ (n : ℕ). AreOwners f spots c n o) e h
