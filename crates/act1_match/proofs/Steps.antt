-- The steps of the search: pins that fit are found part by part, and where a part has none, no pins fit.
use Rattle.std.proofs.Common.{◌≡◌, ℕ, ◌<◌, ◌^◌, Bool, ◌||◌, List, Contains, Option, None, bit_and, bit_or, ap, sym, subst, ◌∙◌}
use Rattle.std.specs.Int.{bit_not, w64}
use Rattle.std.proofs.lemmas.Nat.{or_lt}
use Rattle.act1_match.specs.Choice.{has_bit, value_at}
use Rattle.act1_match.specs.Finds.{Finds}
use Rattle.act1_match.specs.SearchSteps.{IsDataPin, IsMultiplexer, multiplexed, ArePins}
use Rattle.act1_match.specs.declared.choice.PinChoice.{PinChoice}
use Rattle.act1_match.specs.declared.pins.Multiplexer.{Multiplexer}
use Rattle.act1_match.specs.declared.pins.Pins.{Pins}
use Rattle.act1_match.proofs.Bits.{has_bit-or}
use Rattle.act1_match.proofs.Parts.{joined, low_part, high_part}

pub finds_none : {X : Type 0} (o : Option X) (P : X → Type 0) → o ≡ None → ((x : X) → ¬ P x) → Finds o P
finds_none o P e none = subst (λ o. Finds o P) (sym e) none

-- a multiplexer with a given select
module _ (table inputs ones : ℕ) (choices : List PinChoice) (select : PinChoice) (fits : ones < 2 ^ 64) (ones_are : (i : ℕ) → i < 64 → has_bit ones i ≡ value_at i select) where
  pub multiplexer_found : (low high : PinChoice) → Contains choices select → IsDataPin table (bit_and inputs (bit_not w64 ones)) choices low → IsDataPin table (bit_and inputs ones) choices high
      → IsMultiplexer table inputs choices (record { low = low; high = high; select = select })
  multiplexer_found low high listed l h = record {
    of = record { low = l.listed; high = h.listed; select = listed };
    agrees = joined table inputs ones (λ i. value_at i select) (λ i. value_at i low) (λ i. value_at i high) fits ones_are l.agrees h.agrees;
  }

  pub no_low : ((x : PinChoice) → ¬ IsDataPin table (bit_and inputs (bit_not w64 ones)) choices x) → (m : Multiplexer) → ¬ ((m.select ≡ select) × IsMultiplexer table inputs choices m)
  no_low none m h = none m.low (record {
    listed = h.1.of.low;
    agrees = low_part table inputs ones (λ i. value_at i m.select) (λ i. value_at i m.low) (λ i. value_at i m.high) fits (λ i lt. ones_are i lt ∙ ap (value_at i) (sym h.0)) h.1.agrees;
  })

  pub no_high : ((x : PinChoice) → ¬ IsDataPin table (bit_and inputs ones) choices x) → (m : Multiplexer) → ¬ ((m.select ≡ select) × IsMultiplexer table inputs choices m)
  no_high none m h = none m.high (record {
    listed = h.1.of.high;
    agrees = high_part table inputs ones (λ i. value_at i m.select) (λ i. value_at i m.low) (λ i. value_at i m.high) fits (λ i lt. ones_are i lt ∙ ap (value_at i) (sym h.0)) h.1.agrees;
  })

-- the inputs at which one of two selects is 1
either_is : (x y i : ℕ) (a b : Bool) → has_bit x i ≡ a → has_bit y i ≡ b → has_bit (bit_or x y) i ≡ (a || b)
either_is x y i a b p q = has_bit-or x y i ∙ cc

-- a module with given selects S0 and S1
module _ (table inputs x y : ℕ) (choices : List PinChoice) (s0 s1 : PinChoice) (x_fits : x < 2 ^ 64) (y_fits : y < 2 ^ 64)
    (x_is : (i : ℕ) → i < 64 → has_bit x i ≡ value_at i s0) (y_is : (i : ℕ) → i < 64 → has_bit y i ≡ value_at i s1) where
  pub pins_found : (a b : Multiplexer) → Contains choices s0 → Contains choices s1 → IsMultiplexer table (bit_and inputs (bit_not w64 (bit_or x y))) choices a → IsMultiplexer table (bit_and inputs (bit_or x y)) choices b
      → ArePins table inputs choices (record { a = a; b = b; s0 = s0; s1 = s1 })
  pins_found a b first second is_a is_b = record {
    a = is_a.of;
    b = is_b.of;
    s0 = first;
    s1 = second;
    agrees = joined table inputs (bit_or x y) (λ i. value_at i s0 || value_at i s1) (multiplexed a) (multiplexed b) (or_lt 64 x y x_fits y_fits)
        (λ i lt. either_is x y i (value_at i s0) (value_at i s1) (x_is i lt) (y_is i lt)) is_a.agrees is_b.agrees;
  }

  either_select : (p : Pins) → p.s0 ≡ s0 → p.s1 ≡ s1 → (i : ℕ) → i < 64 → has_bit (bit_or x y) i ≡ (value_at i p.s0 || value_at i p.s1)
  either_select p e f i lt = either_is x y i (value_at i p.s0) (value_at i p.s1) (x_is i lt ∙ ap (value_at i) (sym e)) (y_is i lt ∙ ap (value_at i) (sym f))

  pub no_a : ((m : Multiplexer) → ¬ IsMultiplexer table (bit_and inputs (bit_not w64 (bit_or x y))) choices m) → (p : Pins) → ¬ ((p.s0 ≡ s0) × (p.s1 ≡ s1) × ArePins table inputs choices p)
  no_a none p h = none p.a (record {
    of = h.2.a;
    agrees = low_part table inputs (bit_or x y) (λ i. value_at i p.s0 || value_at i p.s1) (multiplexed p.a) (multiplexed p.b) (or_lt 64 x y x_fits y_fits) (either_select p h.0 h.1) h.2.agrees;
  })

  pub no_b : ((m : Multiplexer) → ¬ IsMultiplexer table (bit_and inputs (bit_or x y)) choices m) → (p : Pins) → ¬ ((p.s0 ≡ s0) × (p.s1 ≡ s1) × ArePins table inputs choices p)
  no_b none p h = none p.b (record {
    of = h.2.b;
    agrees = high_part table inputs (bit_or x y) (λ i. value_at i p.s0 || value_at i p.s1) (multiplexed p.a) (multiplexed p.b) (or_lt 64 x y x_fits y_fits) (either_select p h.0 h.1) h.2.agrees;
  })
