-- What a finish gives, by its result.
use Rattle.std.proofs.Common.{ℕ, ◌≡◌, inl, inr, List, Result, Ok, Err, Option, Some, None, subst}
use Rattle.std.specs.Prelude.{Vec, OnErr, OnOk, MatchOption}
use Rattle.std.specs.declared.alloc.Global.{Global}
use Rattle.act1_outside.specs.Outside.{Bench, Finishes}
use Rattle.act1_outside.specs.declared.helpers.HelperFault.{HelperFault}
use Rattle.act1_channel.specs.declared.problem.Problem.{Problem}
use Rattle.act1_farm.specs.declared.course.Course.{Course}
use Rattle.act1_farm.specs.declared.course.Started.{Started}
use Rattle.act1_search.specs.declared.verdict.Verdict.{Verdict}
use Rattle.act1_farm.specs.Usable.{Brings, IsUsable}
use Rattle.act1_base.proofs.ListGets.{some_is}
use Rattle.act1_farm.specs.Steps.{TakesAnswer, FinishGives, FinishStops}

pub gives_answer : (p : Problem) (started : Started) (before : Bench) (old : Course) (after : Bench) (new : Course) (r : Result (Vec ℕ Global) HelperFault) (bytes : Vec ℕ Global)
    → r ≡ Ok bytes → Finishes started.ticket before r after → TakesAnswer p started.number bytes.items old new → FinishGives p started before old after new
gives_answer p started before old after new r bytes is f a = inl (bytes, subst (λ (q : Result (Vec ℕ Global) HelperFault). Finishes started.ticket before q after) is f, a)

pub stops_answer : (ticket : ℕ) (before after : Bench) (r : Result (Vec ℕ Global) HelperFault) (bytes : Vec ℕ Global) → r ≡ Ok bytes → Finishes ticket before r after → FinishStops ticket before after
stops_answer ticket before after r bytes is f = inr (bytes, subst (λ (q : Result (Vec ℕ Global) HelperFault). Finishes ticket before q after) is f)

pub on_err : {A E : Type 0} (P : Type 0) (r : Result A E) → P → OnErr r P
on_err P (Ok x) h = tt
on_err P (Err e) h = h

pub brings_answer : (p : Problem) (read bytes : List ℕ) (o : Option Verdict) (v : Verdict) → read ≡ bytes → MatchOption o (IsUsable p read → ⊥) (Brings p read) → o ≡ Some v → Brings p bytes v
brings_answer p read bytes None v is m h = cc
brings_answer p read bytes (Some w) v is m h = subst (λ (b : List ℕ). Brings p b v) is (subst (λ (x : Verdict). Brings p read x) (some_is w v h) m)

pub useless_answer : (p : Problem) (read bytes : List ℕ) (o : Option Verdict) → read ≡ bytes → MatchOption o (IsUsable p read → ⊥) (Brings p read) → o ≡ None → IsUsable p bytes → ⊥
useless_answer p read bytes None is m h = subst (λ (b : List ℕ). IsUsable p b → ⊥) is m
useless_answer p read bytes (Some w) is m h = cc

pub on_ok : {A E : Type 0} (P Q : Type 0) (r : Result A E) → (P → Q) → OnOk r P → OnOk r Q
on_ok P Q (Ok x) f h = f h
on_ok P Q (Err e) f h = tt

pub on_error : {A E : Type 0} (P Q : Type 0) (r : Result A E) → (P → Q) → OnErr r P → OnErr r Q
on_error P Q (Ok x) f h = tt
on_error P Q (Err e) f h = f h
