-- Pins that agree with a table at all inputs of its variables make the module the table's function, and such pins agree.
use Rattle.std.proofs.Common.{◌≡◌, ℕ, ◌<◌, ◌≤◌, ◌^◌, true, nat_lt, nat_le, slice_index_or, List, Contains, refl, sym, ◌∙◌, arith}
use Rattle.std.proofs.lemmas.Bool.{agree_below_at, leb-true, ltb-true, lt-ltb}
use Rattle.std.proofs.lemmas.List.Elements.{All-contains, All-get_or, All-from_recursion}
use Rattle.act1_logic.specs.declared.table.Table.{Table}
use Rattle.act1_match.specs.Choice.{has_bit, IsChoice}
use Rattle.act1_match.specs.Matches.{Matches}
use Rattle.act1_match.specs.SearchSteps.{ArePins, pin_list}
use Rattle.act1_match.specs.declared.choice.PinChoice.{PinChoice}
use Rattle.act1_match.specs.declared.choice.PinChoice.TheVariants.{Zero}
use Rattle.act1_match.specs.declared.pins.Pins.{Pins}
use Rattle.act1_match.proofs.Choices.{choices_of, are_choices, choice_listed}

-- so many variables have at most 64 inputs
inputs_few : (vars : ℕ) → vars ≤ 6 → 2 ^ vars ≤ 64
inputs_few vars h = leb-true _ _ (agree_below_at (λ v. nat_le (2 ^ v) 64) (λ _. true) 7 vars refl (omega arith))

module _ (table : Table) (vars inputs : ℕ) (most : vars ≤ 6) (inputs_are : (i : ℕ) → i < 64 → has_bit inputs i ≡ nat_lt i (2 ^ vars)) where
  pub pins_match : (p : Pins) → ArePins table.0 inputs (choices_of vars) p → Matches table vars (pin_list p)
  pins_match p h =
      let is = λ (x : PinChoice) (listed : Contains (choices_of vars) x). All-contains (IsChoice vars) (choices_of vars) x (are_choices vars) listed in
      record {
        eight = refl;
        choices = All-from_recursion (IsChoice vars) (pin_list p)
            (is _ h.a.low, (is _ h.a.high, (is _ h.a.select, (is _ h.b.low, (is _ h.b.high, (is _ h.b.select, (is _ h.s0, (is _ h.s1, tt))))))));
        same = λ i below.
            let few = inputs_few vars most in
            let inside : i < 64 = omega arith in
            h.agrees.same i inside (inputs_are i inside ∙ lt-ltb i (2 ^ vars) below);
      }

  -- the pins of a list of eight
  abbrev pins_in : List PinChoice → Pins
  pins_in pins = let at : ℕ → PinChoice = λ k. slice_index_or pins k Zero in
      record { a = record { low = at 0; high = at 1; select = at 2 }; b = record { low = at 3; high = at 4; select = at 5 }; s0 = at 6; s1 = at 7 }

  pub no_match : ((p : Pins) → ¬ ArePins table.0 inputs (choices_of vars) p) → (pins : List PinChoice) → ¬ Matches table vars pins
  no_match none pins h =
      let eight = h.eight in
      let at = λ (k : ℕ) (lt : k < 8). choice_listed vars most (slice_index_or pins k Zero) (All-get_or (IsChoice vars) pins k Zero (omega arith) h.choices) in
      none (pins_in pins) (record {
        a = record { low = at 0 (omega arith); high = at 1 (omega arith); select = at 2 (omega arith) };
        b = record { low = at 3 (omega arith); high = at 4 (omega arith); select = at 5 (omega arith) };
        s0 = at 6 (omega arith);
        s1 = at 7 (omega arith);
        agrees = record { same = λ i inside on. h.same i (ltb-true i (2 ^ vars) (sym (inputs_are i inside) ∙ on)) };
      })
