-- BLIF texts have one netlist or one fault.
use Rattle.std.proofs.Common.{ℕ, ◌≢◌, ◌⊎◌, List, ap, subst, inl, inr}
use Rattle.std.specs.Prelude.{IfErr, IfOk, Result, Ok, Err}
use Rattle.act1_bliftext.specs.Faults.{LineBad}
use Rattle.act1_bliftext.specs.Statements.{StatementsOf}
use Rattle.act1_bliftext.specs.declared.fault.BlifFault.{BlifFault}
use Rattle.act1_bliftext.specs.declared.fault.BlifKind.TheVariants.{Memory}
use Rattle.act1_bliftext.specs.declared.statements.Statements.{Statements}
use Rattle.act1_bliftext.specs.Laws.{NeverBoth, OneFault, OneOfTwo, OneReading}
use Rattle.act1_blif.specs.declared.blif.Blif.{Blif}
use Rattle.act1_blifread.specs.Faults.{WholeBad}
use Rattle.act1_blifread.specs.Netlist.{Answers, IsNetlistOf}
use Rattle.act1_blifread.specs.Text.{BlifBad, BlifText}
use Rattle.act1_blifread.specs.Laws.{HasNetlist, HasWholeFault, NetlistOrFault}
use Rattle.act1_blifread.specs.Laws.{HasTextFault, HasTextNetlist, TextFaultIsOne, TextNetlistIsOne, TextNetlistOrFault, TextNetlistWithoutFault}
use Rattle.act1_blifread.proofs.ExactNetlists as whole

pub one_at_least : NetlistOrFault → OneOfTwo → TextNetlistOrFault
one_at_least netlists one_of_two bytes low = by (one_of_two bytes low)
  where
    then : (s : Statements) → StatementsOf bytes s → HasNetlist s ⊎ HasWholeFault s → HasTextNetlist bytes ⊎ HasTextFault bytes
    then s said (inl h) = inl (record { net = h.net; is = record { statements = s; said = said; netlist = h.is } })
    then s said (inr h) = inr (record { line = h.line; kind = h.kind; is = inr (record { statements = s; said = said; fault = h.is }) })

    by : ((s : Statements) × StatementsOf bytes s) ⊎ ((fault : BlifFault) × LineBad bytes fault) → HasTextNetlist bytes ⊎ HasTextFault bytes
    by (inl h) = then h.0 h.1 (netlists h.0)
    by (inr h) = inr (record { line = h.0.line; kind = h.0.kind; is = inl h.1 })

pub never_both : NeverBoth → OneReading → TextNetlistWithoutFault
never_both apart one_reading bytes net line kind is (inl bad) = apart bytes is.statements (record { line = line; kind = kind }) is.said bad
never_both apart one_reading bytes net line kind is (inr bad) =
    whole.never_both bad.statements net line kind (subst (λ (s : Statements). IsNetlistOf s net) (one_reading bytes is.statements bad.statements is.said bad.said) is.netlist) bad.fault

pub one_netlist : OneReading → TextNetlistIsOne
one_netlist one_reading bytes net other is also =
    whole.one_netlist also.statements net other (subst (λ (s : Statements). IsNetlistOf s net) (one_reading bytes is.statements also.statements is.said also.said) is.netlist) also.netlist

pub one_fault : OneFault → NeverBoth → OneReading → TextFaultIsOne
one_fault one_line apart one_reading bytes line other_line kind other_kind (inl bad) (inl also) =
    let same = one_line bytes (record { line = line; kind = kind }) (record { line = other_line; kind = other_kind }) bad also in
    (ap (λ (f : BlifFault). f.line) same, ap (λ (f : BlifFault). f.kind) same)
one_fault one_line apart one_reading bytes line other_line kind other_kind (inl bad) (inr also) = absurd (apart bytes also.statements (record { line = line; kind = kind }) also.said bad)
one_fault one_line apart one_reading bytes line other_line kind other_kind (inr bad) (inl also) = absurd (apart bytes bad.statements (record { line = other_line; kind = other_kind }) bad.said also)
one_fault one_line apart one_reading bytes line other_line kind other_kind (inr bad) (inr also) =
    whole.one_fault also.statements line other_line kind other_kind (subst (λ (s : Statements). WholeBad s line kind) (one_reading bytes bad.statements also.statements bad.said also.said) bad.fault) also.fault

-- what is answered for statements is right for their text
pub text_read : (bytes : List ℕ) (s : Statements) (result : Result Blif BlifFault) → StatementsOf bytes s → Answers (IsNetlistOf s) (WholeBad s) result → IfOk result (BlifText bytes)
text_read bytes s (Ok net) said is = record { statements = s; said = said; netlist = is }
text_read bytes s (Err fault) said is = tt

pub text_refused : (bytes : List ℕ) (s : Statements) (result : Result Blif BlifFault) → StatementsOf bytes s → Answers (IsNetlistOf s) (WholeBad s) result
    → IfErr result (λ fault. fault.kind ≢ Memory → BlifBad bytes fault.line fault.kind)
text_refused bytes s (Ok net) said is = tt
text_refused bytes s (Err fault) said is = λ other. inr (record { statements = s; said = said; fault = is other })
