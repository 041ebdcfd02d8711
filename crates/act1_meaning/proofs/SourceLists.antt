-- The different sources of a list, and their values.
use Rattle.std.proofs.Common.{ℕ, zero, suc, ◌≡◌, ◌⊎◌, ◌==◌, Bool, true, false, not, cond, List, [], ◌∷◌, map, refl, sym, ap, ◌∙◌, inl, inr, arith}
use Rattle.std.specs.Prelude.{filter, if◌then◌else◌, slice_index_or}
use Rattle.std.specs.List.{AllByRecursion}
use Rattle.std.proofs.lemmas.Bool.{false≢true}
use Rattle.std.proofs.lemmas.Bool.Decides.{nat_tests}
use Rattle.act1_logic.specs.Module.{module_of}
use Rattle.act1_blif.specs.Run.{signal, signals}
use Rattle.act1_circuit.specs.declared.circuit.Source.{Source}
use Rattle.act1_circuit.specs.declared.circuit.Source.TheVariants.{Zero, One, Clock, Input, Module}
use Rattle.act1_circuit.specs.Firing.{source_value}
use Rattle.act1_meaning.specs.Extracted.{is_same, is_constant, different, lookup, value_in, module_in}

-- sources that are found the same are the same
same_number : (m n : ℕ) → (m == n) ≡ true → m ≡ n
same_number m n e = grind (arith, nat_tests)

number_same : (m n : ℕ) → m ≡ n → (m == n) ≡ true
number_same m n e = grind (arith, nat_tests)

pub same_is : (s t : Source) → is_same s t ≡ true → s ≡ t
same_is Zero Zero e = refl
same_is One One e = refl
same_is Clock Clock e = refl
same_is (Input i) (Input j) e = ap Input (same_number i j e)
same_is (Module i) (Module j) e = ap Module (same_number i j e)
same_is Zero One e = absurd (false≢true e)
same_is Zero Clock e = absurd (false≢true e)
same_is Zero (Input i) e = absurd (false≢true e)
same_is Zero (Module i) e = absurd (false≢true e)
same_is One Zero e = absurd (false≢true e)
same_is One Clock e = absurd (false≢true e)
same_is One (Input i) e = absurd (false≢true e)
same_is One (Module i) e = absurd (false≢true e)
same_is Clock Zero e = absurd (false≢true e)
same_is Clock One e = absurd (false≢true e)
same_is Clock (Input i) e = absurd (false≢true e)
same_is Clock (Module i) e = absurd (false≢true e)
same_is (Input i) Zero e = absurd (false≢true e)
same_is (Input i) One e = absurd (false≢true e)
same_is (Input i) Clock e = absurd (false≢true e)
same_is (Input i) (Module j) e = absurd (false≢true e)
same_is (Module i) Zero e = absurd (false≢true e)
same_is (Module i) One e = absurd (false≢true e)
same_is (Module i) Clock e = absurd (false≢true e)
same_is (Module i) (Input j) e = absurd (false≢true e)

itself : (s : Source) → is_same s s ≡ true
itself Zero = refl
itself One = refl
itself Clock = refl
itself (Input i) = number_same i i refl
itself (Module i) = number_same i i refl

-- s is one of ss
abbrev In : Source → List Source → Type 0
In s [] = ⊥
In s (t ∷ ss) = (t ≡ s) ⊎ In s ss

in_filter : (p : Source → Bool) (ss : List Source) (s : Source) → p s ≡ true → In s ss → In s (filter p ss)
in_filter p [] s e h = absurd h
in_filter p (t ∷ ss) s e h = by (p t) refl h (in_filter p ss s e)
  where
    by : (b : Bool) → p t ≡ b → In s (t ∷ ss) → (In s ss → In s (filter p ss)) → In s (cond b (t ∷ filter p ss) (filter p ss))
    by true f (inl is) r = inl is
    by true f (inr h) r = inr (r h)
    by false f (inl is) r = absurd (false≢true (sym f ∙ ap p is ∙ e))
    by false f (inr h) r = r h

-- each source of a list that is no constant is one of the different ones
in_different : (ss : List Source) (s : Source) → is_constant s ≡ false → In s ss → In s (different ss)
in_different [] s none h = absurd h
in_different (t ∷ ss) s none h = by (is_constant t) refl h (in_different ss s none)
  where
    turned : (b : Bool) → b ≡ false → not b ≡ true
    turned true e = absurd (false≢true (sym e))
    turned false e = refl

    later : (b : Bool) → is_same t s ≡ b → In s (different ss) → In s (t ∷ filter (λ u. not (is_same t u)) (different ss))
    later true e h = inl (same_is t s e)
    later false e h = inr (in_filter (λ u. not (is_same t u)) (different ss) s (turned (is_same t s) e) h)

    by : (b : Bool) → is_constant t ≡ b → In s (t ∷ ss) → (In s ss → In s (different ss)) → In s (if b then different ss else t ∷ filter (λ u. not (is_same t u)) (different ss))
    by true e (inl is) r = absurd (false≢true (sym none ∙ ap is_constant (sym is) ∙ e))
    by true e (inr h) r = r h
    by false e (inl is) r = inl is
    by false e (inr h) r = later (is_same t s) refl (r h)

all_filter : (P : Source → Type 0) (p : Source → Bool) (ss : List Source) → AllByRecursion P ss → AllByRecursion P (filter p ss)
all_filter P p [] h = tt
all_filter P p (t ∷ ss) h = by (p t) (all_filter P p ss h.1)
  where
    by : (b : Bool) → AllByRecursion P (filter p ss) → AllByRecursion P (cond b (t ∷ filter p ss) (filter p ss))
    by true r = (h.0, r)
    by false r = r

-- and the different ones are of the list, and no constants
pub all_different : (P : Source → Type 0) (ss : List Source) → AllByRecursion (λ s. is_constant s ≡ false → P s) ss → AllByRecursion P (different ss)
all_different P [] h = tt
all_different P (t ∷ ss) h = by (is_constant t) refl (all_different P ss h.1)
  where
    by : (b : Bool) → is_constant t ≡ b → AllByRecursion P (different ss) → AllByRecursion P (if b then different ss else t ∷ filter (λ u. not (is_same t u)) (different ss))
    by true e r = r
    by false e r = (h.0 e, all_filter P (λ u. not (is_same t u)) (different ss) r)

found : (val : Source → Bool) (ss : List Source) (s : Source) → In s ss → lookup ss (map val ss) s ≡ val s
found val [] s h = absurd h
found val (t ∷ ss) s h = by (is_same t s) refl h (found val ss s)
  where
    by : (b : Bool) → is_same t s ≡ b → In s (t ∷ ss) → (In s ss → lookup ss (map val ss) s ≡ val s) → (if b then val t else lookup ss (map val ss) s) ≡ val s
    by true e h r = ap val (same_is t s e)
    by false e (inl is) r = absurd (false≢true (sym e ∙ ap (is_same t) (sym is) ∙ itself t))
    by false e (inr h) r = r h

at_pin : (ss : List Source) (pin : ℕ) → is_constant (slice_index_or ss pin Zero) ≡ false → In (slice_index_or ss pin Zero) ss
at_pin [] pin e = absurd (false≢true (sym e))
at_pin (s ∷ ss) zero e = inl refl
at_pin (s ∷ ss) (suc pin) e = inr (at_pin ss pin e)

pub each_pin : (P : Source → Type 0) (ss : List Source) → ((pin : ℕ) → P (slice_index_or ss pin Zero)) → AllByRecursion P ss
each_pin P [] h = tt
each_pin P (s ∷ ss) h = (h 0, each_pin P ss (λ pin. h (suc pin)))

-- the values of the different sources give the value of each pin
pin_value : (clock : Bool) (x bits : List Bool) (pins : List Source) (s : Source) → (is_constant s ≡ false → In s pins) → value_in (different pins) (map (source_value clock x bits) (different pins)) s ≡ source_value clock x bits s
pin_value clock x bits pins Zero h = refl
pin_value clock x bits pins One h = refl
pin_value clock x bits pins Clock h = found (source_value clock x bits) (different pins) Clock (in_different pins Clock refl (h refl))
pin_value clock x bits pins (Input i) h = found (source_value clock x bits) (different pins) (Input i) (in_different pins (Input i) refl (h refl))
pin_value clock x bits pins (Module m) h = found (source_value clock x bits) (different pins) (Module m) (in_different pins (Module m) refl (h refl))

pub module_value : (clock : Bool) (x bits : List Bool) (pins : List Source) → module_in pins (map (source_value clock x bits) (different pins)) ≡ module_of (λ pin. source_value clock x bits (slice_index_or pins pin Zero))
module_value clock x bits pins = λ i. module_of (λ pin. pin_value clock x bits pins (slice_index_or pins pin Zero) (at_pin pins pin) i)

pub mapped_same : (f : Source → ℕ) (v : List Bool) (g : Source → Bool) (ss : List Source) → AllByRecursion (λ s. signal v (f s) ≡ g s) ss → signals v (map f ss) ≡ map g ss
mapped_same f v g [] h = refl
mapped_same f v g (s ∷ ss) h = rw (h.0, mapped_same f v g ss h.1) refl
