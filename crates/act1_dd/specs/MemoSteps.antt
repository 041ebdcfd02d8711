-- The memo: questions that were asked before, with their answers.
use Rattle.std.specs.Prelude.{List, [], ◌∷◌}
use Rattle.act1_dd.specs.declared.refs.Ref.{Ref}
use Rattle.act1_dd.specs.declared.refs.Branch.{Branch}
use Rattle.act1_dd.specs.declared.refs.Question.{Question}
use Rattle.act1_dd.specs.declared.refs.Question.TheVariants.{Choose, Restrict}
use Rattle.act1_dd.specs.Diagram.{IsRef, IsChoice, IsRestriction}
use Rattle.act1_dd.specs.Steps.{AreRefs}

-- the question is about refs
abbrev pub IsAsked : List Branch → Question → Type 0
IsAsked forks (Choose c) = AreRefs forks c
IsAsked forks (Restrict f v b) = IsRef forks f

-- the ref has the value that is asked for
abbrev pub HasValue : List Branch → Question → Ref → Type 0
HasValue forks (Choose c) r = IsChoice forks c.test c.yes c.no r
HasValue forks (Restrict f v b) r = IsRestriction forks f v b r

-- the ref is the answer to a question that is about refs
pub record IsAnswer (forks : List Branch) (q : Question) (r : Ref) : Type 0 where
  pub asked : IsAsked forks q
  pub ref : IsRef forks r
  pub value : HasValue forks q r

-- each entry is an answer
abbrev pub AreAnswers : List Branch → List (Question × Ref) → Type 0
AreAnswers forks [] = Unit {0}
AreAnswers forks (e ∷ es) = IsAnswer forks e.0 e.1 × AreAnswers forks es
