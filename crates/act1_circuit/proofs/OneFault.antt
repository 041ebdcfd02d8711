-- A circuit in pair form has no fault, and two first faults are one.
use Rattle.std.proofs.Common.{◌≡◌, ◌⊎◌, ◌<◌, ◌≤◌, ap, subst, ◌∙◌, inl, inr, arith}
use Rattle.std.proofs.lemmas.Bool.{cases_lt}
use Rattle.std.proofs.lemmas.Option.{slice_get_within, get_or_from_slice_get}
use Rattle.act1_circuit.specs.declared.circuit.Circuit.{Circuit}
use Rattle.act1_circuit.specs.declared.circuit.Output.{Output}
use Rattle.act1_circuit.specs.declared.pairs.FormFault.{FormFault}
use Rattle.act1_circuit.specs.declared.pairs.FormFault.TheVariants.{Clocked, ClockOut, Ring, Start, Memory}
use Rattle.act1_circuit.specs.PairForm.{IsStartModule}
use Rattle.act1_circuit.specs.FormFaults.{HasFault, kind_of, number_of, IsBefore, NeverBoth, OneFault}

pub never_both : NeverBoth
never_both c (Clocked m) form h = h.2 (form.clocked m h.0 h.1)
never_both c (ClockOut o) form (output, at, is) =
    form.outputs o output (slice_get_within c.outputs o output at) (ap (λ (u : Output). u.source) (get_or_from_slice_get c.outputs o output output at) ∙ is)
never_both c (Ring m) form h = form.rings m h
never_both c (Start m) form (inl (is, none)) = none (form.starts m is)
never_both c (Start m) form (inr ((j, start, at, here), no_start)) = no_start (subst (IsStartModule c) here (form.pairs j start at))
never_both c Memory form h = h

-- two faults are one, or one is before the other
ordered : (f g : FormFault) → IsBefore f g ⊎ IsBefore g f ⊎ ((kind_of f ≡ kind_of g) × (number_of f ≡ number_of g))
ordered f g = by (cases_lt (kind_of f) (kind_of g)) (cases_lt (kind_of g) (kind_of f)) (cases_lt (number_of f) (number_of g)) (cases_lt (number_of g) (number_of f))
  where
    by : (kind_of f < kind_of g) ⊎ (kind_of g ≤ kind_of f) → (kind_of g < kind_of f) ⊎ (kind_of f ≤ kind_of g) → (number_of f < number_of g) ⊎ (number_of g ≤ number_of f) → (number_of g < number_of f) ⊎ (number_of f ≤ number_of g)
        → IsBefore f g ⊎ IsBefore g f ⊎ ((kind_of f ≡ kind_of g) × (number_of f ≡ number_of g))
    by (inl a) q r s = inl (inl a)
    by (inr a) (inl d) r s = inr (inl (inl d))
    by (inr a) (inr d) (inl r) s = inl (inr (omega arith, r))
    by (inr a) (inr d) (inr r) (inl s) = inr (inl (inr (omega arith, s)))
    by (inr a) (inr d) (inr r) (inr s) = inr (inr (omega arith, omega arith))

same_fault : (c : Circuit) (f g : FormFault) → HasFault c f → HasFault c g → kind_of f ≡ kind_of g → number_of f ≡ number_of g → f ≡ g
same_fault c (Clocked m) (Clocked k) h i e n = ap Clocked n
same_fault c (ClockOut m) (ClockOut k) h i e n = ap ClockOut n
same_fault c (Ring m) (Ring k) h i e n = ap Ring n
same_fault c (Start m) (Start k) h i e n = ap Start n
same_fault c Memory g h i e n = absurd h
same_fault c f Memory h i e n = absurd i
same_fault c (Clocked m) (ClockOut k) h i e n = absurd (omega arith)
same_fault c (Clocked m) (Ring k) h i e n = absurd (omega arith)
same_fault c (Clocked m) (Start k) h i e n = absurd (omega arith)
same_fault c (ClockOut m) (Clocked k) h i e n = absurd (omega arith)
same_fault c (ClockOut m) (Ring k) h i e n = absurd (omega arith)
same_fault c (ClockOut m) (Start k) h i e n = absurd (omega arith)
same_fault c (Ring m) (Clocked k) h i e n = absurd (omega arith)
same_fault c (Ring m) (ClockOut k) h i e n = absurd (omega arith)
same_fault c (Ring m) (Start k) h i e n = absurd (omega arith)
same_fault c (Start m) (Clocked k) h i e n = absurd (omega arith)
same_fault c (Start m) (ClockOut k) h i e n = absurd (omega arith)
same_fault c (Start m) (Ring k) h i e n = absurd (omega arith)

pub one_fault : OneFault
one_fault c f g a d = by (ordered f g)
  where
    by : IsBefore f g ⊎ IsBefore g f ⊎ ((kind_of f ≡ kind_of g) × (number_of f ≡ number_of g)) → f ≡ g
    by (inl e) = absurd (d.first f a.has e)
    by (inr (inl e)) = absurd (a.first g d.has e)
    by (inr (inr e)) = same_fault c f g a.has d.has e.0 e.1
