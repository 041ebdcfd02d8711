-- Tables of marks of choices.
use Rattle.std.proofs.Common.{ℕ, ◌≡◌, ◌+◌, ◌*◌, ◌<◌, ◌≤◌, ◌⊎◌, Bool, true, false, List, length, slice_set, refl, sym, ap, subst, ◌∙◌, inl, inr, arith, mul-le-mul_right, suc-mul}
use Rattle.std.proofs.lemmas.Bool.{cases_eq}
use Rattle.std.proofs.lemmas.List.{length-map, length-set, get_or-set_same, get_or-set_other}
use Rattle.std.specs.Prelude.{All, Contains, Some, slice_get, slice_index_or}
use Rattle.act1_channel.proofs.Breaks.{sizes}
use Rattle.act1_channel.specs.declared.problem.Problem.{Problem}
use Rattle.act1_channel.specs.declared.problem.Choice.{Choice}
use Rattle.act1_channel.specs.Acceptance.{IsInRange}
use Rattle.act1_base.proofs.ListGets.{contains_at, get_map, one_at}
use Rattle.std.proofs.lemmas.Option.{slice_get-get_or}
use Rattle.act1_channel.specs.declared.problem.Hint.TheVariants as hint
use Rattle.act1_channel.specs.declared.problem.Step.{Step}
use Rattle.act1_channel.specs.Acceptance.{choices_of}
use Rattle.act1_channel.specs.Assignment.{choice_at}
use Rattle.act1_channel.specs.declared.problem.Hint.{Hint}
use Rattle.act1_channel.specs.Clauses.{Fact, IsClause}
use Rattle.act1_channel.specs.Found.{place}
use Rattle.act1_search.specs.Explaining.{is_wanted, AreStepsAllowed, KeepsMarks, MarksParts}

pub place_low : (p : Problem) (c : Choice) → IsInRange p c → place (length p.tracks) c < length p.connections * length p.tracks
place_low p c there =
    let h = mul-le-mul_right (length p.tracks) there.0 in
    let k = suc-mul c.connection (length p.tracks) in
    omega (arith, there.1)

-- a mark more
pub one_more : (p : Problem) (marks : List Bool) (at : ℕ) → at < length marks → KeepsMarks p marks (slice_set marks at true)
one_more p marks at low = record { room = length-set marks at true; kept = λ c h. kept c h (cases_eq (place (length p.tracks) c) at) }
  where
    kept : (c : Choice) → is_wanted p marks c ≡ true → (place (length p.tracks) c ≡ at) ⊎ (place (length p.tracks) c ≡ at → ⊥) → is_wanted p (slice_set marks at true) c ≡ true
    kept c h (inl same) = ap (λ (i : ℕ). slice_index_or (slice_set marks at true) i false) same ∙ get_or-set_same marks at true false low
    kept c h (inr other) = get_or-set_other marks at (place (length p.tracks) c) true false other ∙ h

pub own_mark : (p : Problem) (marks : List Bool) (c : Choice) (at : ℕ) → at ≡ place (length p.tracks) c → at < length marks → is_wanted p (slice_set marks at true) c ≡ true
own_mark p marks c at is low = ap (λ (i : ℕ). slice_index_or (slice_set marks at true) i false) (sym is) ∙ get_or-set_same marks at true false low

pub keeps_all : (p : Problem) (marks : List Bool) → KeepsMarks p marks marks
keeps_all p marks = record { room = refl; kept = λ c h. h }

pub keeps_on : (p : Problem) (first next last : List Bool) → KeepsMarks p first next → KeepsMarks p next last → KeepsMarks p first last
keeps_on p first next last a b = record { room = b.room ∙ a.room; kept = λ c h. b.kept c (a.kept c h) }

-- there are few places
pub places_few : (p : Problem) → length p.connections * length p.tracks ≤ 524288
places_few p = let s = sizes p in let one = mul-le-mul_right (length p.tracks) s.2 in omega (arith, s.1)

-- so the place of a choice can be counted
pub place_few : (p : Problem) (c : Choice) → IsInRange p c → (c.connection * length p.tracks ≤ 524288) × (c.connection * length p.tracks + c.track ≤ 524288)
place_few p c there = let low = place_low p c there in let few = places_few p in (omega arith, omega arith)

-- a connection's choices, one by one
pub next_marked : (p : Problem) (first before after : List Bool) (c k : ℕ) → KeepsMarks p first before → ((t : ℕ) → t < k → is_wanted p before (choice_at c t) ≡ true) → KeepsMarks p before after → is_wanted p after (choice_at c k) ≡ true
    → KeepsMarks p first after × ((t : ℕ) → t < k + 1 → is_wanted p after (choice_at c t) ≡ true)
next_marked p first before after c k so_far all keeps own = (keeps_on p first before after so_far keeps, λ t low. by t low (cases_eq t k))
  where
    by : (t : ℕ) → t < k + 1 → (t ≡ k) ⊎ (t ≡ k → ⊥) → is_wanted p after (choice_at c t) ≡ true
    by t low (inl same) = ap (λ (i : ℕ). is_wanted p after (choice_at c i)) same ∙ own
    by t low (inr apart) = keeps.kept (choice_at c t) (all t (omega arith))

-- the choices of a step that is there are in range
pub step_inside : (p : Problem) (steps : List Step) (n : ℕ) (s : Step) → AreStepsAllowed p (choices_of steps) → slice_get steps n ≡ Some s → All (IsInRange p) s.choices
step_inside p steps n s allowed at = λ k d low. let h = allowed n s.choices (slice_index_or s.choices k d) (get_map (λ (t : Step). t.choices) steps n s at) (contains_at s.choices k (slice_index_or s.choices k d) (slice_get-get_or s.choices k d low)) in (h.0, h.1)

pub step_marked : (p : Problem) (steps : List Step) (n : ℕ) (s : Step) (old new : List Bool) → slice_get steps n ≡ Some s → KeepsMarks p old new → ((c : Choice) → Contains s.choices c → is_wanted p new c ≡ true) → MarksParts p (choices_of steps) (hint.Step n) old new
step_marked p steps n s old new at keeps all = record { «keeps» = keeps; parts = λ f part. by f part.1.0 part.1.1 part.1.2 }
  where
    by : (f : Fact) (step : List Choice) → slice_get (choices_of steps) n ≡ Some step → Contains step f.choice → is_wanted p new f.choice ≡ true
    by f step there among = all f.choice (subst (λ (cs : List Choice). Contains cs f.choice) (sym (one_at (choices_of steps) n s.choices step (get_map (λ (t : Step). t.choices) steps n s at) there)) among)

pub step_low : (p : Problem) (steps : List Step) (n : ℕ) (h : Hint) → IsClause p (choices_of steps) h → h ≡ hint.Step n → n < length steps
step_low p steps n h clause is = let low = subst (λ (g : Hint). IsClause p (choices_of steps) g) is clause in let long = length-map steps (λ (s : Step). s.choices) in omega arith
