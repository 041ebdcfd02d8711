-- Lines one after the other.
use Rattle.std.proofs.Common.{ℕ, ◌≡◌, ◌<◌, inr, List, [], ◌∷◌, ◌++◌, length, reverse, Option, Some, None, Ok, Err, refl, ap, sym, subst, ◌∙◌, arith, append_assoc}
use Rattle.std.specs.Option.{option_or}
use Rattle.std.specs.Borrow.{Bor}
use Rattle.std.proofs.lemmas.Grind.{reverse_onto}
use Rattle.act1_base.specs.declared.texts.Stop.{Stop}
use Rattle.act1_base.specs.declared.texts.Stop.TheVariants.{Fault}
use Rattle.act1_bliftext.specs.Lines.{Line, line_of, over}
use Rattle.act1_bliftext.specs.Faults.{first_fault, fault_at, fault_of}
use Rattle.act1_bliftext.specs.ReadingSteps.{IsRead, TakesLine}
use Rattle.act1_bliftext.specs.PlaceSteps.{Faultless, TakesLines, bytes_of}
use Rattle.act1_bliftext.specs.declared.fault.BlifFault.{BlifFault}
use Rattle.act1_bliftext.specs.declared.fault.BlifKind.{BlifKind}
use Rattle.act1_bliftext.specs.declared.reading.Reading.{Reading}

-- a line without a fault
pub line_ok : (above : List Line) (line : Line) (new : Reading) → TakesLine above line (Ok new) → TakesLines above (line ∷ []) (Ok new)
line_ok above line new h = (ap (λ (k : Option BlifKind). option_or (fault_at line k) None) h.0, h.1)

-- a line with a fault
pub line_err : (above : List Line) (line : Line) (k : BlifKind) → TakesLine above line (Err (Fault k)) → TakesLines above (line ∷ []) (Err (record { line = line.number; kind = k }))
line_err above line k h = inr (ap (λ (o : Option BlifKind). option_or (fault_at line o) None) h)

pub no_words : (words : List (Bor (List ℕ))) → length words < 1 → bytes_of words ≡ []
no_words [] h = refl
no_words (w ∷ words) h = absurd (omega arith)

-- no words make no line
pub nothing_taken : (above : List Line) (number : ℕ) (words : List (Bor (List ℕ))) (reading : Reading) → length words < 1 → IsRead above reading → TakesLines above (line_of number (bytes_of words)) (Ok reading)
nothing_taken above number words reading none r = rw (no_words words none) (refl, r)

none_left : (x y : Option BlifFault) → option_or x y ≡ None → (x ≡ None) × (y ≡ None)
none_left None y h = (refl, h)
none_left (Some f) y h = cc

here : (x y z : Option BlifFault) (fault : BlifFault) → option_or x y ≡ Some fault → (y ≡ Some fault → z ≡ Some fault) → option_or x z ≡ Some fault
here None y z fault h k = k h
here (Some f) y z fault h k = h

-- a fault of the first lines is the first fault
pub fault_first : (above lines more : List Line) (fault : BlifFault) → first_fault above lines ≡ Some fault → first_fault above (lines ++ more) ≡ Some fault
fault_first above [] more fault h = cc
fault_first above (line ∷ lines) more fault h = here (fault_at line (fault_of above line)) (first_fault (line ∷ above) lines) (first_fault (line ∷ above) (lines ++ more)) fault h (fault_first (line ∷ above) lines more fault)

-- where the first lines have none, the others decide
pub fault_later : (above lines more : List Line) → first_fault above lines ≡ None → first_fault above (lines ++ more) ≡ first_fault (over lines above) more
fault_later above [] more h = refl
fault_later above (line ∷ lines) more h =
    let parts = none_left (fault_at line (fault_of above line)) (first_fault (line ∷ above) lines) h in
    ap (λ (o : Option BlifFault). option_or o (first_fault (line ∷ above) (lines ++ more))) parts.0 ∙ fault_later (line ∷ above) lines more parts.1

pub over_more : (lines more above : List Line) → over (lines ++ more) above ≡ over more (over lines above)
over_more [] more above = refl
over_more (line ∷ lines) more above = over_more lines more (line ∷ above)

no_kind : (line : Line) (o : Option BlifKind) → fault_at line o ≡ None → o ≡ None
no_kind line None h = refl
no_kind line (Some k) h = cc

-- lines without a fault above lines without one
pub still_faultless : (above lines : List Line) → Faultless above → first_fault above lines ≡ None → Faultless (over lines above)
still_faultless above [] f h = f
still_faultless above (line ∷ lines) f h =
    let parts = none_left (fault_at line (fault_of above line)) (first_fault (line ∷ above) lines) h in
    still_faultless (line ∷ above) lines (no_kind line (fault_of above line) parts.0, f) parts.1

reverse_again : (lines : List Line) (line : Line) (above : List Line) → reverse lines ++ line ∷ above ≡ reverse (line ∷ lines) ++ above
reverse_again lines line above = sym (append_assoc (reverse lines) (line ∷ []) above) ∙ ap (λ (xs : List Line). xs ++ above) (sym (reverse_onto lines line []))

-- the lines from the last to the first
pub over_reverse : (lines above : List Line) → over lines above ≡ reverse lines ++ above
over_reverse [] above = refl
over_reverse (line ∷ lines) above = over_reverse lines (line ∷ above) ∙ reverse_again lines line above

-- a fault of the line by its kind
pub stop_is : (above : List Line) (line : Line) (stop : Stop BlifKind) (k : BlifKind) → stop ≡ Fault k → TakesLine above line (Err stop) → fault_of above line ≡ Some k
stop_is above line stop k is h = subst (λ (s : Stop BlifKind). TakesLine above line (Err s)) is h
