-- The first course, the last one, and one that stops.
use Rattle.std.proofs.Common.{ℕ, suc, zero, ◌≡◌, ◌<◌, ◌≤◌, inl, List, [], ◌∷◌, ◌++◌, length, map, drop, replicate, Option, Some, None, Result, Ok, Err, refl, sym, ap, subst, ◌∙◌, arith}
use Rattle.std.specs.Prelude.{All, Contains, IfOk, slice_get}
use Rattle.std.proofs.lemmas.List.{append-nil, length-map, length-replicate}
use Rattle.act1_base.specs.declared.memory.Memory.{Memory}
use Rattle.act1_outside.specs.Outside.{Bench}
use Rattle.act1_outside.specs.declared.helpers.Entry.{Entry}
use Rattle.act1_channel.specs.declared.problem.Problem.{Problem}
use Rattle.act1_search.specs.declared.verdict.Verdict.{Verdict}
use Rattle.act1_farm.specs.declared.course.Course.{Course}
use Rattle.act1_farm.specs.declared.course.Started.{Started}
use Rattle.act1_farm.specs.Story.{asked_for, IsAnswered, job_bytes}
use Rattle.act1_farm.specs.Jobs.{grown, BeganStory, RoseBy}
use Rattle.act1_farm.specs.Course.{IsCourse, IsFound, AreFound}
use Rattle.act1_farm.specs.Steps.{IsBegun}
use Rattle.act1_farm.specs.Helping.{Helped}
use Rattle.act1_farm.proofs.Completes.{begins}

none_grown : (o : Option (List Entry)) → o ≡ grown [] o
none_grown None = refl
none_grown (Some old) = ap (λ (l : List Entry). let r : Option (List Entry) = Some l in r) (sym (append-nil old))

none_in : (n i : ℕ) (v : Option Verdict) → slice_get (replicate n None) i ≡ Some v → v ≡ None
none_in zero i v h = cc
none_in (suc n) zero v h = cc
none_in (suc n) (suc i) v h = none_in n i v h

pub nothing_in : {X : Type 0} (x : X) → Contains [] x → ⊥
nothing_in x (k, low, is) = absurd (omega (arith, low))

pub none_answered : (i : ℕ) (bytes : List ℕ) → IsAnswered [] i bytes → ⊥
none_answered i bytes (t, h, c) = cc

none_found : (wanted : List Problem) (i : ℕ) (v : Option Verdict) → v ≡ None → IsFound wanted [] i v
none_found wanted i None h = λ u. none_answered i u.1 u.3
none_found wanted i (Some v) h = cc

-- before any call
pub first_course : (program : List ℕ) (wanted : List Problem) (budget most n : ℕ) (now : Bench) → All (λ t. t < now.next) now.open_tickets → n ≡ length wanted
    → IsCourse program wanted budget most now now (record { started = []; done = 0; asked = 0; faults = 0; answers = replicate n None })
first_course program wanted budget most n now above is = record {
  s = [];
  made = record {
    order = tt;
    left = refl;
    told = none_grown now.story;
    opened = sym (append-nil now.open_tickets);
    climb = omega arith;
    older = above;
    known = λ i t h. cc;
    once = λ i j t h k. cc;
    answered = λ t bytes h. absurd (nothing_in _ h);
    faults = inl (omega arith);
  };
  asked = refl;
  few = omega arith;
  within = omega arith;
  short = omega arith;
  faults = refl;
  bounded = omega arith;
  places = λ k b h. cc;
  answers = record { each = length-replicate n None ∙ is; kept = λ i v h. none_found wanted i v (none_in n i v h) };
}

no_tickets : (xs : List Started) (n : ℕ) → length xs ≤ n → map (λ (b : Started). b.ticket) (drop n xs) ≡ []
no_tickets [] zero l = refl
no_tickets [] (suc n) l = refl
no_tickets (x ∷ xs) zero l = absurd (omega arith)
no_tickets (x ∷ xs) (suc n) l = no_tickets xs n (omega arith)

-- after the last
pub last_course : (program : List ℕ) (problems : List Problem) (budget most : ℕ) (start now : Bench) (course : Course) → 0 < most → IsCourse program (asked_for problems) budget most start now course
    → length (asked_for problems) ≤ course.asked → length course.started ≤ course.done → Helped program problems budget most start now course
last_course program problems budget most start now course some k all ended =
    let none = no_tickets course.started course.done ended in
    record {
      s = k.s;
      asked = record {
        story = λ h. record { order = k.made.order; all = k.asked ∙ same ∙ sym (length-map (asked_for problems) (job_bytes budget)); finished = k.made.left ∙ none };
        none = λ z. absurd (omega (arith, some, z));
        told = k.made.told;
        closed = k.made.opened ∙ ap (λ (ts : List ℕ). start.open_tickets ++ ts) none ∙ append-nil start.open_tickets;
        own = k.made.once;
        found = course.answers;
        are_found = k.answers;
        asked = sym k.asked;
        taken = refl;
        faults = sym k.faults;
        rose = subst (λ (n : ℕ). RoseBy n start.faults now.faults) k.faults k.made.faults;
      };
      found = k.answers;
    }
  where
    same : course.asked ≡ length (asked_for problems)
    same = let f = k.few in omega arith

-- no call
pub no_course : (program : List ℕ) (problems : List Problem) (budget most n : ℕ) (now : Bench) → most ≡ 0 → n ≡ length (asked_for problems)
    → Helped program problems budget most now now (record { started = []; done = 0; asked = 0; faults = 0; answers = replicate n None })
no_course program problems budget most n now none is =
    let found : AreFound (asked_for problems) [] (replicate n None) = record { each = length-replicate n None ∙ is; kept = λ i v h. none_found (asked_for problems) i v (none_in n i v h) } in
    record {
      s = [];
      asked = record {
        story = λ some. absurd (omega (arith, some, none));
        none = λ z. refl;
        told = none_grown now.story;
        closed = refl;
        own = λ i j t h k. cc;
        found = replicate n None;
        are_found = found;
        asked = refl;
        taken = refl;
        faults = refl;
        rose = inl (omega arith);
      };
      found = found;
    }

pub helped_by_none : (program : List ℕ) (problems : List Problem) (budget most n : ℕ) (now : Bench) (r : Result Course Memory) → most ≡ 0 → n ≡ length (asked_for problems)
    → IfOk r (λ (course : Course). course ≡ record { started = []; done = 0; asked = 0; faults = 0; answers = replicate n None }) → IfOk r (Helped program problems budget most now now)
helped_by_none program problems budget most n now (Err e) none is h = tt
helped_by_none program problems budget most n now (Ok course) none is h = subst (λ (c : Course). Helped program problems budget most now now c) (sym h) (no_course program problems budget most n now none is)

pub begun_story : (program : List ℕ) (jobs : List (List ℕ)) (most : ℕ) (start now : Bench) → 0 < most → IsBegun program jobs most start now → BeganStory program jobs most start now
begun_story program jobs most start now some b = let r = begins program jobs most some b.s b.order b.few in record { s = b.s; rest = r.0; story = r.1; told = b.told }

pub unbegun_story : (program : List ℕ) (jobs : List (List ℕ)) (most : ℕ) (now : Bench) → 0 < most → BeganStory program jobs most now now
unbegun_story program jobs most now some = begun_story program jobs most now now some (record { s = []; order = tt; few = omega arith; told = none_grown now.story })
