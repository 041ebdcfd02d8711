-- Values that break no rule make a device.
use Rattle.std.proofs.Common.{◌≡◌, ℕ, ℤ, Bool, true, ◌&&◌, List, [], ◌∷◌, map, refl, None, nat_le, length}
use Rattle.std.specs.List.{list_all}
use Rattle.std.proofs.lemmas.Bool.{and_parts, and_from}
use Rattle.std.proofs.lemmas.List.{length-map}
use Rattle.act1_device.specs.Rules.{is_device, is_within, are_channels, are_in_order, are_apart, is_long, is_place}
use Rattle.act1_devread.specs.declared.values.Values.{Values}
use Rattle.act1_devread.specs.declared.values.Sizes.{Sizes}
use Rattle.act1_device.specs.declared.device.Long.{Long}
use Rattle.act1_device.specs.declared.device.PadPlace.{PadPlace}
use Rattle.act1_devread.specs.Range.{natural, naturals, is_natural, is_number, are_natural, are_longs, are_places, long_of, place_of}
use Rattle.act1_devread.specs.Rules.{first_fault, size_rules}
use Rattle.act1_devread.specs.ReadingSteps.{HasSizes}
use Rattle.act1_devread.proofs.FaultOrder.{first_holds}

-- where each element passes two tests, its image passes the second
all_of_map : {A B : Type 0} (p : A → Bool) (q : B → Bool) (f : A → B) (xs : List A) → list_all (λ x. p x && q (f x)) xs ≡ true → list_all q (map f xs) ≡ true
all_of_map p q f [] h = refl
all_of_map p q f (x ∷ xs) h =
    let parts = and_parts (p x && q (f x)) (list_all (λ y. p y && q (f y)) xs) h in
    and_from (q (f x)) (list_all q (map f xs)) (and_parts (p x) (q (f x)) parts.0).1 (all_of_map p q f xs parts.1)

-- the range of an integer is that of its number
number_within : (low high : ℕ) (z : ℤ) → is_number low high z ≡ true → is_within low high (natural z) ≡ true
unfolding is_number
number_within low high z h = (and_parts (is_natural z) (is_within low high (natural z)) h).1

at_most : (high : ℕ) (z : ℤ) → is_number 0 high z ≡ true → nat_le (natural z) high ≡ true
at_most high z h = (and_parts (nat_le 0 (natural z)) (nat_le (natural z) high) (number_within 0 high z h)).1

-- the rules of a device, one after the other
all_hold : {a b c d e f g h i j k : Bool} → a ≡ true → b ≡ true → c ≡ true → d ≡ true → e ≡ true → f ≡ true → g ≡ true → h ≡ true → i ≡ true → j ≡ true → k ≡ true
    → (a && b && c && d && e && (f && g) && (h && i) && (j && k)) ≡ true
all_hold a b c d e f g h i j k = rw (a, b, c, d, e, f, g, h, i, j, k)

-- values in range, whose tracks rise and whose pads are apart, make a device
pub device_of_values : (v : Values) (s : Sizes) (tracks : List (List (List ℕ))) (longs : List Long) (pads : List PadPlace)
    → first_fault (size_rules v) ≡ None → HasSizes v s → tracks ≡ naturals v.tracks → longs ≡ map long_of v.longs → pads ≡ map place_of v.pads
    → are_channels s.rows s.columns (naturals v.tracks) ≡ true → are_longs s.rows v.longs ≡ true → are_places s.rows s.columns v.pads ≡ true
    → are_in_order tracks ≡ true → are_apart pads ≡ true
    → is_device v.name s.rows s.columns s.below s.above tracks longs pads ≡ true
unfolding size_rules is_device
device_of_values v s tracks longs pads sizes has same_tracks same_longs same_pads channels are_long are_place order apart =
    let format = first_holds _ _ sizes in
    let name = first_holds _ _ format.1 in
    let rows = first_holds _ _ name.1 in
    let columns = first_holds _ _ rows.1 in
    let pins = first_holds _ _ columns.1 in
    let below = first_holds _ _ pins.1 in
    let above = first_holds _ _ below.1 in
    let long = and_parts (nat_le (length v.longs) 32) (list_all (λ p. are_natural p && is_long s.rows (long_of p)) v.longs) are_long in
    let few : nat_le (length longs) 32 ≡ true = rw (same_longs, length-map v.longs long_of) long.0 in
    let each_long : list_all (is_long s.rows) longs ≡ true = rw same_longs (all_of_map are_natural (is_long s.rows) long_of v.longs long.1) in
    let each_place : list_all (is_place s.rows s.columns) pads ≡ true =
    rw same_pads (all_of_map are_natural (is_place s.rows s.columns) place_of v.pads are_place) in
    all_hold name.0
    (rw has.rows (number_within 1 32 v.rows rows.0))
    (rw has.columns (number_within 2 64 v.columns columns.0))
    (rw has.below (at_most 32 v.below below.0))
    (rw has.above (at_most 32 v.above above.0))
    (rw same_tracks channels) order few each_long each_place apart
