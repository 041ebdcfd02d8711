use Rattle.std.proofs.Common.{ℕ, get_or, length, sym, ap, ◌∙◌}
use Rattle.std.proofs.lemmas.Bool.{false≢true}
use Rattle.act1_circuit.specs.declared.readers.Readers.TheVariants as readers
use Rattle.act1_circuit.specs.PairFormSteps.{only_reader}
use Rattle.act1_circuit.proofs.PairDecisions.{master_told, none_only}
use Rattle.act1_circuit.proofs.masters.is_pair_master.Goals as goal

pub returns-in-None : goal.returns-in-None
returns-in-None c =
    let found = c.args.readers.now in
    let e =
    ap (λ (i : ℕ). only_reader (get_or found i readers.Nobody) (length c.args.circuit.now.modules)) (sym c.from.ensures)
    ∙ ap (λ (n : ℕ). only_reader (get_or found c.from.result readers.Nobody) n) (sym c.len.ensures) ∙ sym c.only_reader-reader.ensures ∙ c.in-None.is in
    (λ t. absurd (false≢true t), λ h. absurd (none_only c.args.circuit.now found c.requires.readers c.args.module e h))

pub returns-in-Some : goal.returns-in-Some
returns-in-Some c =
    let found = c.args.readers.now in
    let e =
    ap (λ (i : ℕ). only_reader (get_or found i readers.Nobody) (length c.args.circuit.now.modules)) (sym c.from.ensures)
    ∙ ap (λ (n : ℕ). only_reader (get_or found c.from.result readers.Nobody) n) (sym c.len.ensures) ∙ sym c.only_reader-reader.ensures ∙ c.in-Some.is in
    let told = master_told c.args.circuit.now found c.requires.readers c.args.module c.in-Some.slave c.master_of.result e c.master_of.ensures in
    (λ t. told.0 (c.is_found.ensures.0 t), λ h. c.is_found.ensures.1 (told.1 h))
