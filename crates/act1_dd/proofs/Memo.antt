-- The memo's answers stay answers as forks are added, and a look-up finds one.
use Rattle.std.proofs.Common.{◌≡◌, ◌⊎◌, true, false, List, [], ◌∷◌, sym, ◌∙◌, inl, inr, rules, subst}
use Rattle.std.specs.Prelude.{IfSome}
use Rattle.std.specs.Map.{lookup}
use Rattle.indexmap.specs.IndexMap.{insert_entry}
use Rattle.act1_dd.specs.declared.refs.Ref.{Ref}
use Rattle.act1_dd.specs.declared.refs.Branch.{Branch}
use Rattle.act1_dd.specs.declared.refs.Question.{Question}
use Rattle.act1_dd.specs.declared.refs.Question.TheVariants.{Choose, Restrict}
use Rattle.act1_dd.specs.contracts.refs.QuestionPartialEq.TheImpl.{eq-value}
use Rattle.act1_dd.specs.Inputs.{with_input}
use Rattle.act1_dd.specs.Diagram.{IsRef, IsChoice, Keeps}
use Rattle.act1_dd.specs.MemoSteps.{IsAsked, HasValue, IsAnswer, AreAnswers}
use Rattle.act1_dd.proofs.Values.{two_values}

same_question : (p q : Question) → eq-value.it p q ≡ true → p ≡ q
same_question p q h = search rules

module _ (old new : List Branch) (k : Keeps old new) where
  pub choice_kept : (f g h r : Ref) → IsRef old f → IsRef old g → IsRef old h → IsRef old r → IsChoice old f g h r → IsChoice new f g h r
  choice_kept f g h r f_is g_is h_is r_is c x = rw (k.values r r_is x, k.values f f_is x, k.values g g_is x, k.values h h_is x) (c x)

  asked_kept : (q : Question) → IsAsked old q → IsAsked new q
  asked_kept (Choose c) h = (k.refs c.test h.0, k.refs c.yes h.1, k.refs c.no h.2)
  asked_kept (Restrict f v b) h = k.refs f h

  value_kept : (q : Question) (r : Ref) → IsAsked old q → IsRef old r → HasValue old q r → HasValue new q r
  value_kept (Choose c) r h ref value = choice_kept c.test c.yes c.no r h.0 h.1 h.2 ref value
  value_kept (Restrict f v b) r h ref value = λ x. k.values r ref x ∙ value x ∙ sym (k.values f h (with_input x v b))

  pub answers_kept : (es : List (Question × Ref)) → AreAnswers old es → AreAnswers new es
  answers_kept [] h = tt
  answers_kept (e ∷ es) h = (record { asked = asked_kept e.0 h.0.asked; ref = k.refs e.1 h.0.ref; value = value_kept e.0 e.1 h.0.asked h.0.ref h.0.value }, answers_kept es h.1)

module _ (forks : List Branch) (q : Question) where
  pub answers_with : (r : Ref) (es : List (Question × Ref)) → AreAnswers forks es → IsAnswer forks q r → AreAnswers forks (insert_entry eq-value.it es q r)
  answers_with r [] h answer = (answer, tt)
  answers_with r (e ∷ es) h answer = by (answers_with r es h.1 answer) (two_values (eq-value.it q e.0))
    where
      by : AreAnswers forks (insert_entry eq-value.it es q r) → (eq-value.it q e.0 ≡ true) ⊎ (eq-value.it q e.0 ≡ false) → AreAnswers forks (insert_entry eq-value.it (e ∷ es) q r)
      by rest (inl same) = rw same (subst (λ (p : Question). IsAnswer forks p r) (same_question q e.0 same) answer, h.1)
      by rest (inr other) = rw other (h.0, rest)

  pub answer_found : (es : List (Question × Ref)) → AreAnswers forks es → IfSome (lookup (eq-value.it q) es) (IsAnswer forks q)
  answer_found [] h = tt
  answer_found (e ∷ es) h = by (answer_found es h.1) (two_values (eq-value.it q e.0))
    where
      by : IfSome (lookup (eq-value.it q) es) (IsAnswer forks q) → (eq-value.it q e.0 ≡ true) ⊎ (eq-value.it q e.0 ≡ false) → IfSome (lookup (eq-value.it q) (e ∷ es)) (IsAnswer forks q)
      by rest (inl same) = rw same (subst (λ (p : Question). IsAnswer forks p e.1) (sym (same_question q e.0 same)) h.0)
      by rest (inr other) = rw other rest
