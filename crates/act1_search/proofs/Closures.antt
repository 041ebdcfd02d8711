-- More steps and more choices bring more facts.
use Rattle.std.proofs.Common.{ℕ, ◌≡◌, ◌≢◌, ◌<◌, ◌⊎◌, Bool, false, not, List, [], ◌∷◌, ◌++◌, length, slice_get, Some, Contains, refl, sym, subst, ◌∙◌, inl, inr, arith}
use Rattle.std.proofs.lemmas.List.{length-append, append-nil}
use Rattle.act1_base.proofs.ListGets.{get_in, get_within, get_last, contains_at, place_of, some_is}
use Rattle.act1_search.proofs.Fronts.{get_front, contains_back}
use Rattle.act1_channel.proofs.Facts.{fact_from}
use Rattle.act1_channel.specs.declared.problem.Problem.{Problem}
use Rattle.act1_channel.specs.declared.problem.Choice.{Choice}
use Rattle.act1_channel.specs.declared.problem.Hint.{Hint}
use Rattle.act1_channel.specs.declared.problem.Hint.TheVariants as hint
use Rattle.act1_channel.specs.Clauses.{Fact, taken, refused, opposite, IsPart}
use Rattle.act1_search.specs.Closure.{IsUsed, Follows, IsInConflict}
use Rattle.act1_search.specs.Closure.Follows.{is_chosen, is_left}

-- within the front, the whole list has what the front has
pub get_back : {X : Type 0} (xs ys : List X) (n : ℕ) (x : X) → n < length xs → slice_get (xs ++ ys) n ≡ Some x → slice_get xs n ≡ Some x
get_back xs ys n x low at =
    let own = get_in xs n low in
    own.1 ∙ sym (get_front xs ys n own.0 own.1) ∙ at

pub used_more : (p : Problem) (steps more : List (List Choice)) (h : Hint) → IsUsed p steps h → IsUsed p (steps ++ more) h
used_more p steps more (hint.AtLeast c) used = used
used_more p steps more (hint.Clash c d t) used = used
used_more p steps more (hint.Step n) used = (let low = used.0 in omega (arith, low, length-append steps more), tt)

pub part_more : (p : Problem) (steps more : List (List Choice)) (h : Hint) (f : Fact) → IsPart p steps h f → IsPart p (steps ++ more) h f
part_more p steps more (hint.AtLeast c) f part = part
part_more p steps more (hint.Clash c d t) f part = part
part_more p steps more (hint.Step n) f part = (part.0, (part.1.0, get_front steps more n part.1.0 part.1.1, part.1.2))

pub part_back : (p : Problem) (steps more : List (List Choice)) (h : Hint) (f : Fact) → IsUsed p steps h → IsPart p (steps ++ more) h f → IsPart p steps h f
part_back p steps more (hint.AtLeast c) f used part = part
part_back p steps more (hint.Clash c d t) f used part = part
part_back p steps more (hint.Step n) f used part = (part.0, (part.1.0, get_back steps more n part.1.0 used.0 part.1.1, part.1.2))

module _ (p : Problem) (steps more : List (List Choice)) (chosen larger : List Choice) (all : (c : Choice) → Contains chosen c → Contains larger c) where
  pub follows_more : (f : Fact) → Follows p steps chosen f → Follows p (steps ++ more) larger f
  follows_more it (is_chosen c among) = is_chosen c (all c among)
  follows_more it (is_left h f used part others) =
      is_left h f (used_more p steps more h used) (part_more p steps more h f part) (λ g own other. follows_more (opposite g) (others g (part_back p steps more h g used own) other))

  pub conflict_more : IsInConflict p steps chosen → IsInConflict p (steps ++ more) larger
  conflict_more (inl both) = inl (both.0, follows_more (taken both.0) both.1, follows_more (refused both.0) both.2)
  conflict_more (inr (h, used, empty)) = inr (h, used_more p steps more h used, λ f part. empty f (part_back p steps more h f used part))

-- more choices under the same steps
pub follows_wider : (p : Problem) (steps : List (List Choice)) (chosen larger : List Choice) → ((c : Choice) → Contains chosen c → Contains larger c) → (f : Fact) → Follows p steps chosen f → Follows p steps larger f
follows_wider p steps chosen larger all f h = subst (λ (s : List (List Choice)). Follows p s larger f) (append-nil steps) (follows_more p steps [] chosen larger all f h)

-- a step whose choices but the last are true makes the last one false
pub step_fact : (p : Problem) (steps : List (List Choice)) (front chosen : List Choice) (e : Choice) → Contains steps (front ++ e ∷ []) → ((c : Choice) → Contains front c → Contains chosen c) → Follows p steps chosen (refused e)
step_fact p steps front chosen e among all = is_left (hint.Step at.0) (refused e) (get_within steps at.0 step at.1, tt) (refl, (step, at.1, last)) known
  where
    step : List Choice
    step = front ++ e ∷ []

    at : (i : ℕ) × (slice_get steps i ≡ Some step)
    at = place_of steps step among

    last : Contains step e
    last = contains_at step (length front) e (get_last front e (length front) refl)

    from : (g : Fact) → g.truth ≡ false → g ≢ refused e → Contains front g.choice ⊎ (g.choice ≡ e) → Follows p steps chosen (opposite g)
    from g is other (inl own) = subst (λ (b : Bool). Follows p steps chosen (record { choice = g.choice; truth = not b })) (sym is) (is_chosen g.choice (all g.choice own))
    from g is other (inr same) = absurd (other (fact_from g (refused e) same is))

    known : (g : Fact) → IsPart p steps (hint.Step at.0) g → g ≢ refused e → Follows p steps chosen (opposite g)
    known g own other =
        let same = some_is step own.1.0 (sym at.1 ∙ own.1.1) in
        from g own.0 other (contains_back front e g.choice (subst (λ (s : List Choice). Contains s g.choice) (sym same) own.1.2))

-- once a conflict's choices are a step, the last of them is false where the others are true
pub learned_fact : (p : Problem) (steps : List (List Choice)) (chosen : List Choice) (e : Choice) → Follows p (steps ++ (chosen ++ e ∷ []) ∷ []) chosen (refused e)
learned_fact p steps chosen e =
    step_fact p (steps ++ (chosen ++ e ∷ []) ∷ []) chosen chosen e (contains_at (steps ++ (chosen ++ e ∷ []) ∷ []) (length steps) (chosen ++ e ∷ []) (get_last steps (chosen ++ e ∷ []) (length steps) refl)) (λ c among. among)
