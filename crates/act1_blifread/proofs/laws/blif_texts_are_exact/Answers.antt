use Rattle.act1_blifread.proofs.TextLaws.{never_both, one_at_least, one_fault, one_netlist}
use Rattle.act1_blifread.proofs.laws.blif_texts_are_exact.Goals as goal

pub returns : goal.returns
returns c =
    let text = c.texts_are_exact.ensures in
    record {
      one_at_least = one_at_least c.netlists_are_exact.ensures.one_at_least text.one_of_two;
      never_both = never_both text.never_both text.one_reading;
      one_netlist = one_netlist text.one_reading;
      one_fault = one_fault text.one_fault text.never_both text.one_reading;
    }
