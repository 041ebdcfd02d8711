-- How many rows, columns and pads a device has.
use Rattle.std.proofs.Common.{ℕ, ◌≡◌, ◌<◌, ◌≤◌, ◌+◌, ◌*◌, not, true, false, List, [], ◌∷◌, length, map, sym, ◌∙◌, arith}
use Rattle.std.specs.List.{list_all, list_any}
use Rattle.std.proofs.lemmas.Bool.{and_parts, or_parts, not-true, false≢true}
use Rattle.std.proofs.lemmas.Bool.Decides.{nat_tests}
use Rattle.std.proofs.lemmas.List.{length-map}
use Rattle.act1_base.proofs.Pigeonhole.{NotIn, Distinct, Below, pigeonhole}
use Rattle.act1_device.specs.declared.device.Device.{Device}
use Rattle.act1_device.specs.declared.device.PadPlace.{PadPlace}
use Rattle.act1_device.specs.Laws.{DevicesAreSmall}
use Rattle.act1_device.specs.Rules.{is_device, is_place, is_same_place, are_apart}
use Rattle.act1_device.proofs.Breaks.{few_breaks}

-- a device has at most 32 rows and 64 columns
sizes : (dev : Device) → (dev.rows ≤ 32) × (dev.columns ≤ 64)
unfolding is_device
sizes dev = let v = dev.valid in grind (arith, nat_tests)

-- a pad's place as a number
abbrev code : PadPlace → ℕ
code p = p.channel * 64 + p.column

place_bounds : (rows columns : ℕ) (p : PadPlace) → is_place rows columns p ≡ true → (p.channel ≤ rows) × (p.column < columns)
place_bounds rows columns p h = grind (arith, nat_tests)

same_code : (p q : PadPlace) → p.column < 64 → q.column < 64 → code p ≡ code q → is_same_place p q ≡ true
same_code p q low small e =
    let row : p.channel ≡ q.channel = omega arith in
    let column : p.column ≡ q.column = omega arith in
    grind (arith, nat_tests)

module _ (rows columns : ℕ) (few_rows : rows ≤ 32) (few_columns : columns ≤ 64) where
  code_not_in : (p : PadPlace) (ps : List PadPlace) → p.column < 64 → list_all (is_place rows columns) ps ≡ true → list_any (is_same_place p) ps ≡ false → NotIn (code p) (map code ps)
  code_not_in p [] low h a = tt
  code_not_in p (q ∷ ps) low h a =
      let parts = and_parts (is_place rows columns q) (list_all (is_place rows columns) ps) h in
      let none = or_parts (is_same_place p q) (list_any (is_same_place p) ps) a in
      let bounds = place_bounds rows columns q parts.0 in
      let small = bounds.1 in
      (λ e. false≢true (sym none.0 ∙ same_code p q low (omega arith) e), code_not_in p ps low parts.1 none.1)

  codes_distinct : (ps : List PadPlace) → list_all (is_place rows columns) ps ≡ true → are_apart ps ≡ true → Distinct (map code ps)
  codes_distinct [] h a = tt
  codes_distinct (p ∷ ps) h a =
      let parts = and_parts (is_place rows columns p) (list_all (is_place rows columns) ps) h in
      let apart = and_parts (not (list_any (is_same_place p) ps)) (are_apart ps) a in
      let bounds = place_bounds rows columns p parts.0 in
      let small = bounds.1 in
      (code_not_in p ps (omega arith) parts.1 (not-true (list_any (is_same_place p) ps) apart.0), codes_distinct ps parts.1 apart.1)

  codes_below : (ps : List PadPlace) → list_all (is_place rows columns) ps ≡ true → Below 2112 (map code ps)
  codes_below [] h = tt
  codes_below (p ∷ ps) h =
      let parts = and_parts (is_place rows columns p) (list_all (is_place rows columns) ps) h in
      let bounds = place_bounds rows columns p parts.0 in
      let low = bounds.0 in
      let small = bounds.1 in
      (omega arith, codes_below ps parts.1)

-- the pads of a device are inside its array, and no two of them are at one place
places : (dev : Device) → (list_all (is_place dev.rows dev.columns) dev.pads ≡ true) × (are_apart dev.pads ≡ true)
unfolding is_device
places dev = let v = dev.valid in grind (arith, nat_tests)

few_pads : (dev : Device) → length dev.pads ≤ 2112
few_pads dev =
    let s = sizes dev in
    let p = places dev in
    let few = pigeonhole 2112 (map code dev.pads) (codes_distinct dev.rows dev.columns s.0 s.1 dev.pads p.0 p.1) (codes_below dev.rows dev.columns s.0 s.1 dev.pads p.0) in
    omega (arith, length-map dev.pads code)

pub devices_are_small : DevicesAreSmall
devices_are_small dev = let s = sizes dev in record { rows = s.0; columns = s.1; breaks = few_breaks dev; pads = few_pads dev }
