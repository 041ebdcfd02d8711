-- Choices and restrictions, from those of the parts.
use Rattle.std.proofs.Common.{ℕ, ◌≡◌, ◌≢◌, ◌<◌, ◌≤◌, ◌+◌, ◌⊎◌, Bool, true, false, List, length, sym, ap, ◌∙◌, inl, inr, arith}
use Rattle.std.proofs.lemmas.Bool.{cases_eq, cases_lt}
use Rattle.std.specs.Prelude.{if◌then◌else◌, slice_get, Some}
use Rattle.act1_dd.specs.declared.refs.Ref.{Ref}
use Rattle.act1_dd.specs.declared.refs.Ref.TheVariants.{Zero, One, Node}
use Rattle.act1_dd.specs.declared.refs.Branch.{Branch}
use Rattle.act1_dd.specs.declared.refs.Choice.{Choice}
use Rattle.act1_dd.specs.Inputs.{Inputs, with_input, inputs_of}
use Rattle.act1_dd.specs.Forks.{DependsOn}
use Rattle.act1_dd.specs.Diagram.{value_at, IsRef, IsFrom, IsReduced, IsChoice, IsForkInto, IsVariable, IsWithin, Keeps}
use Rattle.act1_dd.specs.Steps.{AreRefs, IsPart, IsSide, IsNext}
use Rattle.act1_dd.proofs.Values.{two_values, value_zero, value_one}
use Rattle.act1_dd.proofs.Canonical.{with_same, with_other, agree_from, apart, from_values, fork_depends, part_refs, value_low, value_high}

pub if_one : (b : Bool) (s t : Bool) → b ≡ true → s ≡ (if b then s else t)
if_one b s t e = sym (ap (λ (c : Bool). if c then s else t) e)

pub if_zero : (b : Bool) (s t : Bool) → b ≡ false → t ≡ (if b then s else t)
if_zero b s t e = sym (ap (λ (c : Bool). if c then s else t) e)

-- the choices that need no fork
pub plain_no : (forks : List Branch) (f g h : Ref) → f ≡ Zero → IsChoice forks f g h h
plain_no forks f g h is x = if_zero (value_at forks f x) (value_at forks g x) (value_at forks h x) (ap (λ (r : Ref). value_at forks r x) is ∙ value_zero x forks)

pub plain_yes : (forks : List Branch) (f g h : Ref) → f ≡ One → IsChoice forks f g h g
plain_yes forks f g h is x = if_one (value_at forks f x) (value_at forks g x) (value_at forks h x) (ap (λ (r : Ref). value_at forks r x) is ∙ value_one x forks)

pub plain_test : (forks : List Branch) (f g h : Ref) → g ≡ One → h ≡ Zero → IsChoice forks f g h f
plain_test forks f g h g_is h_is x = by (value_at forks f x) (value_at forks g x) (value_at forks h x) (ap (λ (r : Ref). value_at forks r x) g_is ∙ value_one x forks) (ap (λ (r : Ref). value_at forks r x) h_is ∙ value_zero x forks)
  where
    by : (a b c : Bool) → b ≡ true → c ≡ false → a ≡ (if a then b else c)
    by true b c e f = sym e
    by false b c e f = sym f

pub of_variable : (forks : List Branch) (v : ℕ) (r : Ref) → IsForkInto forks v Zero One r → IsVariable forks v r
of_variable forks v r h x = h x ∙ by (x v) (value_at forks One x) (value_at forks Zero x) (value_one x forks) (value_zero x forks)
  where
    by : (a b c : Bool) → b ≡ true → c ≡ false → (if a then b else c) ≡ a
    by true b c e f = e
    by false b c e f = f

-- inputs that agree still do with the same value for one variable
pub agree_with : (P : ℕ → Type 0) (v : ℕ) (c : Bool) (x y : Inputs) → ((j : ℕ) → P j → x j ≡ y j) → (j : ℕ) → P j → with_input x v c j ≡ with_input y v c j
agree_with P v c x y same j here = by (cases_eq j v)
  where
    by : (j ≡ v) ⊎ (j ≢ v) → with_input x v c j ≡ with_input y v c j
    by (inl e) = ap (with_input x v c) e ∙ with_same x v c ∙ sym (with_same y v c) ∙ sym (ap (with_input y v c) e)
    by (inr ne) = with_other x v c j ne ∙ same j here ∙ sym (with_other y v c j ne)

-- the parts of a fork at inputs
module _ (forks : List Branch) (h : IsReduced forks) (k : ℕ) (b : Branch) (at : slice_get forks k ≡ Some b) where
  pub variable_within : (n : ℕ) → IsWithin forks (Node k) n → b.var < n
  variable_within n within = by (fork_depends forks h k b at) (cases_lt b.var n)
    where
      by : DependsOn (value_at forks (Node k)) b.var → (b.var < n) ⊎ (n ≤ b.var) → b.var < n
      by d (inl low) = low
      by d (inr high) =
          absurd (d.matters (within (with_input d.inputs b.var false) (with_input d.inputs b.var true)
          (λ j low. with_other d.inputs b.var false j (λ e. omega arith) ∙ sym (with_other d.inputs b.var true j (λ e. omega arith)))))

  pub low_within : (n : ℕ) → IsWithin forks (Node k) n → IsWithin forks b.low n
  low_within n within x y same =
      let refs = part_refs forks h k b at in
      let rise = h.rise k b at in
      sym (apart forks h b.low b.var false x refs.0 rise.0) ∙ sym (value_low forks h k b (with_input x b.var false) at (with_same x b.var false))
      ∙ within (with_input x b.var false) (with_input y b.var false) (agree_with (λ j. j < n) b.var false x y same)
      ∙ value_low forks h k b (with_input y b.var false) at (with_same y b.var false) ∙ apart forks h b.low b.var false y refs.0 rise.0

  pub high_within : (n : ℕ) → IsWithin forks (Node k) n → IsWithin forks b.high n
  high_within n within x y same =
      let refs = part_refs forks h k b at in
      let rise = h.rise k b at in
      sym (apart forks h b.high b.var true x refs.1 rise.1) ∙ sym (value_high forks h k b (with_input x b.var true) at (with_same x b.var true))
      ∙ within (with_input x b.var true) (with_input y b.var true) (agree_with (λ j. j < n) b.var true x y same)
      ∙ value_high forks h k b (with_input y b.var true) at (with_same y b.var true) ∙ apart forks h b.high b.var true y refs.1 rise.1

  pub next_low : (values : List Bool) → IsWithin forks (Node k) (length values) → inputs_of values b.var ≡ false → IsNext forks k values b.low
  next_low values within e = record {
    ref = (part_refs forks h k b at).0;
    smaller = (h.older k b at).0;
    within = low_within (length values) within;
    value = value_low forks h k b (inputs_of values) at e;
  }

  pub next_high : (values : List Bool) → IsWithin forks (Node k) (length values) → inputs_of values b.var ≡ true → IsNext forks k values b.high
  next_high values within e = record {
    ref = (part_refs forks h k b at).1;
    smaller = (h.older k b at).1;
    within = high_within (length values) within;
    value = value_high forks h k b (inputs_of values) at e;
  }

-- a choice where its first variable has a value
module _ (old new : List Branch) (h : IsReduced old) (k : Keeps old new) (v : ℕ) (side : Bool) (c part : Choice) (refs : AreRefs old c) (s : IsSide old v side c part) (r : Ref) (choice : IsChoice new part.test part.yes part.no r) where
  abbrev pub HasSide : Type 0
  HasSide = (x : Inputs) → x v ≡ side → value_at new r x ≡ (if value_at new c.test x then value_at new c.yes x else value_at new c.no x)

  same_part : (f g : Ref) → IsRef old f → IsPart old v side f g → (x : Inputs) → x v ≡ side → value_at new g x ≡ value_at new f x
  same_part f g ref p x e = k.values g p.ref x ∙ sym (p.value x e) ∙ sym (k.values f ref x)

  pub side_value : HasSide
  side_value x e = choice x ∙ (λ i. if same_part c.test part.test refs.0 s.test x e i then same_part c.yes part.yes refs.1 s.yes x e i else same_part c.no part.no refs.2 s.no x e i)

  still : (f g : Ref) → IsPart old v side f g → (j : ℕ) → j < v + 1 → (x : Inputs) → value_at new g (with_input x j false) ≡ value_at new g (with_input x j true)
  still f g p j low x =
      k.values g p.ref (with_input x j false)
      ∙ agree_from old h g (v + 1) (with_input x j false) (with_input x j true) p.ref p.later (λ i high. with_other x j false i (λ e. omega arith) ∙ sym (with_other x j true i (λ e. omega arith)))
      ∙ sym (k.values g p.ref (with_input x j true))

  pub side_later : IsReduced new → IsRef new r → IsFrom new (v + 1) r
  side_later reduced ref =
      from_values new reduced (v + 1) r ref (λ j low d.
      let x = d.inputs in
      d.matters (choice (with_input x j false)
      ∙ (λ i. if still c.test part.test s.test j low x i then still c.yes part.yes s.yes j low x i else still c.no part.no s.no j low x i)
      ∙ sym (choice (with_input x j true))))

-- a fork of the two sides of a choice is the choice
pub choice_of_sides : (old new : List Branch) → Keeps old new → (v : ℕ) (c : Choice) (low high r : Ref) → AreRefs old c → IsRef old low → IsRef old high
    → ((x : Inputs) → x v ≡ false → value_at old low x ≡ (if value_at old c.test x then value_at old c.yes x else value_at old c.no x))
    → ((x : Inputs) → x v ≡ true → value_at old high x ≡ (if value_at old c.test x then value_at old c.yes x else value_at old c.no x))
    → IsForkInto new v low high r → IsChoice new c.test c.yes c.no r
choice_of_sides old new k v c low high r refs low_ref high_ref low_value high_value into x = into x ∙ by (two_values (x v)) ∙ sym kept
  where
    kept : (if value_at new c.test x then value_at new c.yes x else value_at new c.no x) ≡ (if value_at old c.test x then value_at old c.yes x else value_at old c.no x)
    kept = λ i. if k.values c.test refs.0 x i then k.values c.yes refs.1 x i else k.values c.no refs.2 x i

    by : (x v ≡ true) ⊎ (x v ≡ false) → (if x v then value_at new high x else value_at new low x) ≡ (if value_at old c.test x then value_at old c.yes x else value_at old c.no x)
    by (inl e) = sym (if_one (x v) (value_at new high x) (value_at new low x) e) ∙ k.values high high_ref x ∙ high_value x e
    by (inr e) = sym (if_zero (x v) (value_at new high x) (value_at new low x) e) ∙ k.values low low_ref x ∙ low_value x e
