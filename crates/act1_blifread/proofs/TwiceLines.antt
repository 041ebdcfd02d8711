-- The first statement that gives a name again.
use Rattle.std.proofs.Common.{ℕ, ◌≡◌, ◌<◌, ◌≤◌, ◌⊎◌, ◌+◌, ◌&&◌, not, Bool, true, false, List, ◌++◌, length, take, get_or, Some, refl, sym, ap, subst, ◌∙◌, inl, inr, arith}
use Rattle.std.specs.Prelude.{slice_get, option_map, IsTrue}
use Rattle.std.proofs.lemmas.Bool.{cases_eq, false≢true}
use Rattle.std.proofs.lemmas.Option.{slice_get_read}
use Rattle.act1_base.specs.Names.{are_different_numbers}
use Rattle.act1_bliftext.specs.declared.fault.BlifKind.TheVariants.{Twice}
use Rattle.act1_bliftext.specs.declared.statement.NumberedStatement.{NumberedStatement}
use Rattle.act1_blifread.specs.Parts.{all_of, given_names, output_names}
use Rattle.act1_blifread.specs.Faults.{is_twice, IsFree, IsFirstAt}
use Rattle.act1_blifread.specs.NetlistSteps.{AreMarks}
use Rattle.act1_blifread.proofs.StatementLists.{all_of_more}

-- the line of a statement that is read at a place
pub line_read : (ss : List NumberedStatement) (i : ℕ) (x : NumberedStatement) → i < length ss → x ≡ get_or ss i x → option_map (λ (numbered : NumberedStatement). numbered.line) (slice_get ss i) ≡ Some x.line
line_read ss i x low is = ap (option_map (λ (numbered : NumberedStatement). numbered.line)) (slice_get_read ss (length ss) i x refl low is)

-- whether a name comes twice with one statement more
pub twice_more : (ss : List NumberedStatement) (i : ℕ) (x : NumberedStatement) (again : Bool) → i < length ss → x ≡ get_or ss i x
    → again ≡ not (are_different_numbers (all_of given_names (take i ss) ++ given_names x.statement) && are_different_numbers (all_of output_names (take i ss) ++ output_names x.statement))
    → is_twice (take (i + 1) ss) ≡ again
twice_more ss i x again low is e =
    ap (λ (names : List ℕ). not (are_different_numbers names && are_different_numbers (all_of output_names (take (i + 1) ss)))) (all_of_more given_names ss i x low is)
    ∙ ap (λ (names : List ℕ). not (are_different_numbers (all_of given_names (take i ss) ++ given_names x.statement) && are_different_numbers names)) (all_of_more output_names ss i x low is)
    ∙ sym e

not_is : (b : Bool) → b ≡ false → ¬ IsTrue b
not_is b e h = false≢true (sym e ∙ h)

-- the statement at which a name comes twice, where none before it has that
pub twice_here : (ss : List NumberedStatement) (i : ℕ) (x : NumberedStatement) → i < length ss → x ≡ get_or ss i x → is_twice (take (i + 1) ss) ≡ true
    → ((j : ℕ) → j < i → is_twice (take (j + 1) ss) ≡ false) → IsFirstAt ss Twice x.line
twice_here ss i x low is here before = record {
  place = i;
  there = line_read ss i x low is;
  has = here;
  first = λ j less. not_is (is_twice (take (j + 1) ss)) (before j less);
}

pub twice_nowhere : (ss : List NumberedStatement) (i : ℕ) → length ss ≤ i → ((j : ℕ) → j < i → is_twice (take (j + 1) ss) ≡ false) → IsFree ss Twice
twice_nowhere ss i past before = λ k low. not_is (is_twice (take (k + 1) ss)) (before k (omega arith))

-- none so far, and not the next
pub free_more : (ss : List NumberedStatement) (i : ℕ) → ((j : ℕ) → j < i → is_twice (take (j + 1) ss) ≡ false) → is_twice (take (i + 1) ss) ≡ false → (j : ℕ) → j < i + 1 → is_twice (take (j + 1) ss) ≡ false
free_more ss i before here j less = by (cases_eq j i)
  where
    by : (j ≡ i) ⊎ (j ≡ i → ⊥) → is_twice (take (j + 1) ss) ≡ false
    by (inl e) = subst (λ (k : ℕ). is_twice (take (k + 1) ss) ≡ false) (sym e) here
    by (inr apart) = before j (omega arith)

-- the same marks, of a number that is the same
pub marks_at : (count n : ℕ) (names : List ℕ) (marks : List Bool) → n ≡ count → AreMarks count names marks → AreMarks n names marks
marks_at count n names marks e known = subst (λ (k : ℕ). AreMarks k names marks) (sym e) known
