-- A word: what is written is read again, and nothing else is read.
use Rattle.std.proofs.Common.{ℕ, suc, zero, ◌≡◌, ◌+◌, Bool, true, false, ◌&&◌, cond, IsTrue, List, [], ◌∷◌, Option, Some, None, refl, sym, ap, subst, ◌∙◌, arith}
use Rattle.std.specs.List.{list_all}
use Rattle.act1_base.specs.Names.{is_name}
use Rattle.act1_table.specs.Table.{Part}
use Rattle.act1_table.specs.Table.{Field}
use Rattle.act1_table.specs.Table as field
use Rattle.act1_table.specs.declared.forms.Given.{Given}
use Rattle.act1_table.specs.declared.forms.Given.TheVariants as given
use Rattle.act1_table.specs.Exact.{IsExactWay, IsExactWord}
use Rattle.act1_table.specs.Forms.{spell_parts, FitWay, spell_way, Fits, spell}
use Rattle.act1_table.specs.Reads.{or_else, as_way, read_parts, read_ways, read_word}
use Rattle.act1_table.specs.Clear.{are_clear_parts, are_apart, is_apart_from, are_clear_ways, is_clear_field, are_fields_apart}
use Rattle.act1_table.proofs.NumberLaws.{both, some_is}
use Rattle.act1_table.proofs.PartLaws.{parts_read, parts_are, parts_apart}

-- what clear ways keep
pub record ClearWays (way : List Part) (ways : List (List Part)) : Type 0 where
  pub first : IsTrue (are_clear_parts way)
  pub apart : IsTrue (is_apart_from way ways)
  pub rest : IsTrue (are_clear_ways ways)

pub clear_ways : (way : List Part) (ways : List (List Part)) → IsTrue (are_clear_ways (way ∷ ways)) → ClearWays way ways
clear_ways way ways h =
    let outer = both (are_clear_parts way && is_apart_from way ways) (are_clear_ways ways) h in
    let inner = both (are_clear_parts way) (is_apart_from way ways) outer.0 in
    record { first = inner.0; apart = inner.1; rest = outer.1 }

-- a word of one of the ways isn't read as parts that are apart from them
ways_apart : (parts : List Part) (ns : List ℕ) (ways : List (List Part)) (k : ℕ) (ms : List ℕ) → IsTrue (are_clear_ways ways) → IsTrue (is_apart_from parts ways) → FitWay ways k ms → read_parts [] parts (spell_way ways k ms) ≡ Some ns → ⊥
ways_apart parts ns [] k ms d h fit e = absurd fit
ways_apart parts ns (way ∷ ways) zero ms d h fit e =
    parts_apart [] parts way ns ms (clear_ways way ways d).first (both (are_apart parts way) (is_apart_from parts ways) h).0 fit e
ways_apart parts ns (way ∷ ways) (suc k) ms d h fit e =
    ways_apart parts ns ways k ms (clear_ways way ways d).rest (both (are_apart parts way) (is_apart_from parts ways) h).1 fit e

-- nor as one of a list of such parts
one_apart : (j : ℕ) (found : Option (List ℕ)) (other : Option Given) (g : Given) → ((ns : List ℕ) → found ≡ Some ns → ⊥) → (other ≡ Some g → ⊥) → or_else (as_way j found) other ≡ Some g → ⊥
one_apart j None other g here there e = there e
one_apart j (Some ns) other g here there e = here ns refl

lists_apart : (j : ℕ) (ways others : List (List Part)) (k : ℕ) (ms : List ℕ) (g : Given) → IsTrue (are_clear_ways others) → IsTrue (list_all (λ (way : List Part). is_apart_from way others) ways) → FitWay others k ms → read_ways j ways (spell_way others k ms) ≡ Some g → ⊥
lists_apart j [] others k ms g d h fit e = cc
lists_apart j (way ∷ ways) others k ms g d h fit e =
    let p = both (is_apart_from way others) (list_all (λ (w : List Part). is_apart_from w others) ways) h in
    let word = spell_way others k ms in
    one_apart j (read_parts [] way word) (read_ways (j + 1) ways word) g (λ ns. ways_apart way ns others k ms d p.0 fit) (lists_apart (j + 1) ways others k ms g d p.1 fit) e

-- a word of a field isn't read as one of a field that is apart
pub fields_apart : (f g : Field) (a b : Given) → IsTrue (is_clear_field g) → IsTrue (are_fields_apart f g) → Fits g b → read_word f (spell g b) ≡ Some a → ⊥
fields_apart field.Name g a b d h fit e = cc
fields_apart (field.OneOf ways) field.Name a b d h fit e = cc
fields_apart (field.OneOf ways) (field.OneOf others) a (given.Name name) d h fit e = absurd fit
fields_apart (field.OneOf ways) (field.OneOf others) a (given.Way k ms) d h fit e = lists_apart 0 ways others k ms a d h fit e

-- a written way is read again

not_first : (j : ℕ) (way : List Part) (ways : List (List Part)) (k : ℕ) (ns : List ℕ) (found : Option (List ℕ)) → ClearWays way ways → FitWay ways k ns → read_parts [] way (spell_way ways k ns) ≡ found
    → (other : Option Given) → or_else (as_way j found) other ≡ other
not_first j way ways k ns None c fit e other = refl
not_first j way ways k ns (Some ms) c fit e other =
    absurd (ways_apart way ms ways k ns c.rest c.apart fit e)

pub ways_read : (j : ℕ) (ways : List (List Part)) (k : ℕ) (ns : List ℕ) → IsTrue (are_clear_ways ways) → FitWay ways k ns → read_ways j ways (spell_way ways k ns) ≡ Some (given.Way (j + k) ns)
ways_read j [] k ns c fit = absurd fit
ways_read j (way ∷ ways) zero ns c fit =
    let same : j ≡ j + zero = omega arith in
    ap (λ (found : Option (List ℕ)). or_else (as_way j found) (read_ways (j + 1) ways (spell_parts way ns))) (parts_read [] way ns (clear_ways way ways c).first fit)
    ∙ ap (λ (i : ℕ). Some (given.Way i ns)) same
ways_read j (way ∷ ways) (suc k) ns c fit =
    let clear = clear_ways way ways c in
    let same : j + 1 + k ≡ j + suc k = omega arith in
    not_first j way ways k ns (read_parts [] way (spell_way ways k ns)) clear fit refl (read_ways (j + 1) ways (spell_way ways k ns))
    ∙ ways_read (j + 1) ways k ns clear.rest fit
    ∙ ap (λ (i : ℕ). Some (given.Way i ns)) same

-- what a word says that was read as one of the ways, of which the first has the number j
record IsWay (j : ℕ) (ways : List (List Part)) (word : List ℕ) (g : Given) : Type 0 where
  way : ℕ
  numbers : List ℕ
  said : g ≡ given.Way (j + way) numbers
  fit : FitWay ways way numbers
  is : IsExactWay ways way numbers → word ≡ spell_way ways way numbers

by_first : (j : ℕ) (way : List Part) (ways : List (List Part)) (word : List ℕ) (g : Given) (found : Option (List ℕ)) → IsTrue (are_clear_parts way) → read_parts [] way word ≡ found
    → (read_ways (j + 1) ways word ≡ Some g → IsWay (j + 1) ways word g) → or_else (as_way j found) (read_ways (j + 1) ways word) ≡ Some g → IsWay j (way ∷ ways) word g
by_first j way ways word g None c e rest h =
    let r = rest h in
    let same : j + 1 + r.way ≡ j + suc r.way = omega arith in
    record { way = suc r.way; numbers = r.numbers; said = r.said ∙ ap (λ (i : ℕ). given.Way i r.numbers) same; fit = r.fit; is = r.is }
by_first j way ways word g (Some ns) c e rest h =
    let r = parts_are [] way word ns c e in
    let same : j ≡ j + zero = omega arith in
    record { way = zero; numbers = r.own; said = sym (some_is (given.Way j ns) g h) ∙ ap (λ (ms : List ℕ). given.Way j ms) r.all ∙ ap (λ (i : ℕ). given.Way i r.own) same; fit = r.fit; is = r.is }

ways_are : (j : ℕ) (ways : List (List Part)) (word : List ℕ) (g : Given) → IsTrue (are_clear_ways ways) → read_ways j ways word ≡ Some g → IsWay j ways word g
ways_are j [] word g c h = cc
ways_are j (way ∷ ways) word g c h =
    by_first j way ways word g (read_parts [] way word) (clear_ways way ways c).first refl (ways_are (j + 1) ways word g (clear_ways way ways c).rest) h

-- a written word is read again
pub word_read : (f : Field) (g : Given) → IsTrue (is_clear_field f) → Fits f g → read_word f (spell f g) ≡ Some g
word_read field.Name (given.Name name) c fit = rw fit refl
word_read field.Name (given.Way k ns) c fit = absurd fit
word_read (field.OneOf ways) (given.Name name) c fit = absurd fit
word_read (field.OneOf ways) (given.Way k ns) c fit = let same : 0 + k ≡ k = omega arith in ways_read 0 ways k ns c fit ∙ ap (λ (i : ℕ). Some (given.Way i ns)) same

-- what was read of a word can be said, and is said by the word where its numbers are exact
abbrev pub IsSaid : Field → List ℕ → Given → Type 0
IsSaid f word g = Fits f g × (IsExactWord f g → word ≡ spell f g)

named : (name : List ℕ) (g : Given) (test : Bool) → is_name name ≡ test → cond test (Some (given.Name name)) None ≡ Some g → IsSaid field.Name name g
named name g false e h = cc
named name g true e h = subst (IsSaid field.Name name) (some_is (given.Name name) g h) (e, λ exact. refl)

-- and no other word is read
pub word_is : (f : Field) (word : List ℕ) (g : Given) → IsTrue (is_clear_field f) → read_word f word ≡ Some g → IsSaid f word g
word_is field.Name word g c h = named word g _ refl h
word_is (field.OneOf ways) word g c h =
    let r = ways_are 0 ways word g c h in
    let same : 0 + r.way ≡ r.way = omega arith in
    subst (IsSaid (field.OneOf ways) word) (sym (r.said ∙ ap (λ (i : ℕ). given.Way i r.numbers) same)) (r.fit, r.is)
