use Rattle.act1_sim.proofs.OneAnswers.{one_text, never_both, one_refusal}
use Rattle.act1_sim.proofs.laws.one_answer.Goals as goal

pub returns : goal.returns
returns c =
    let one = c.one_answer.ensures in
    record { one_text = one_text one; never_both = never_both one; one_refusal = one_refusal one }
